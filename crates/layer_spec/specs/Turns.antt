-- Whose turn an entry is, which process a row names, and which processes have ended.
use Rattle.std.specs.Prelude.{ℕ, Bool, false, ◌&&◌, not, nat_eq, nat_le, nat_lt, List, Option, Some, None}
use Rattle.std.specs.List.{list_any}
use Rattle.w32_base.specs.declared.entry.Directive.{Directive}
use Rattle.w32_base.specs.declared.entry.Directive.TheVariants as directive
use Rattle.w32_base.specs.declared.entry.Outcome.{Outcome}
use Rattle.w32_base.specs.declared.entry.Outcome.TheVariants as outcome
use Rattle.win32_spec.specs.State.{Process, Win32State}
use Rattle.win32_spec.specs.Lookup.{is_live, process_of, process_in}
use Rattle.layer_spec.specs.Decoding.{main_image}
use Rattle.layer_spec.specs.Words.{main_at, row_of}
use Rattle.layer_spec.specs.Moment.{Seen}

-- whether this is the process with Win32 number w
abbrev pub is_process : Option Process → ℕ → Bool
is_process None w = false
is_process (Some p) w = nat_eq p.number w

-- whether a directive gives a turn to thread t of process w
abbrev pub is_thread_turn : Win32State → Directive → (w t : ℕ) → Bool
is_thread_turn s (directive.Turn slot thread) w t = is_process (process_in s.processes slot) w && nat_eq thread t
is_thread_turn s (directive.End slot) w t = false
is_thread_turn s (directive.Key b) w t = false

-- whether it gives a turn to a thread of process w
abbrev pub is_process_turn : Win32State → Directive → ℕ → Bool
is_process_turn s (directive.Turn slot thread) w = is_process (process_in s.processes slot) w
is_process_turn s (directive.End slot) w = false
is_process_turn s (directive.Key b) w = false

-- the Win32 number of the process that the main word of process number p names
abbrev pub image_named : Win32State → ℕ → ℕ
image_named s p = main_image (main_at s (row_of p))

-- whether an entry is a turn of thread 0 of the process that p's main word names
abbrev pub is_own_turn : {A : Type 0} → Seen A → ℕ → Bool
is_own_turn x p = is_thread_turn x.before.win32 x.entry.directive (image_named x.before.win32 p) 0

-- whether it is a turn of any thread of that process
abbrev pub is_image_turn : {A : Type 0} → Seen A → ℕ → Bool
is_image_turn x p = is_process_turn x.before.win32 x.entry.directive (image_named x.before.win32 p)

-- whether process w is alive
abbrev pub is_live_process : Win32State → ℕ → Bool
is_live_process s w = is_live (process_of s.processes w)

-- whether process w has ended: its number was given, and no live process has it
abbrev pub has_ended : Win32State → ℕ → Bool
has_ended s w = nat_le 1 w && (nat_lt w s.next && not (is_live_process s w))

-- whether an outcome is that of an `end` that ended process w
abbrev pub is_end_of : Outcome → ℕ → Bool
is_end_of outcome.Idle w = false
is_end_of (outcome.Step reply) w = false
is_end_of (outcome.Ended v) w = nat_eq v w
is_end_of outcome.Keyed w = false

-- whether an `end` entry ended process w
abbrev pub was_ended : {A : Type 0} → List (Seen A) → ℕ → Bool
was_ended past w = list_any (λ x. is_end_of x.entry.outcome w) past
