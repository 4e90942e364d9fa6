-- What every entry of a journal keeps, with an event or without.
use Rattle.std.specs.Prelude.{◌≡◌, ℕ, ◌+◌, ◌<◌, ◌↔◌, Bool, true, false, ◌&&◌, nat_eq, if◌then◌else◌, List, [], ◌∷◌}
use Rattle.std.specs.Prelude.{length, Option, Some}
use Rattle.std.specs.List.{list_any}
use Rattle.w32_base.specs.declared.call.Call.{Call}
use Rattle.w32_base.specs.declared.call.Call.TheVariants as call
use Rattle.w32_base.specs.declared.call.Reply.TheVariants as reply
use Rattle.w32_base.specs.declared.call.TtyOp.TheVariants as tty
use Rattle.w32_base.specs.declared.event.Event.TheVariants as event
use Rattle.w32_base.specs.declared.entry.Directive.{Directive}
use Rattle.w32_base.specs.declared.entry.Directive.TheVariants as directive
use Rattle.w32_base.specs.declared.entry.Outcome.TheVariants as outcome
use Rattle.w32_base.specs.declared.entry.Entry.{Entry}
use Rattle.w32_base.specs.declared.instr.Instr.TheVariants as instr
use Rattle.script_spec.specs.declared.script.Script.{Script}
use Rattle.vm_spec.specs.Step.{Upcoming, CallInstruction}
use Rattle.posix_spec.specs.State.{Running, Record, record_of}
use Rattle.posix_spec.specs.Pending.{is_live}
use Rattle.posix_spec.specs.Conditions.{next_of}
use Rattle.layer_spec.specs.Rows.{exit_place}
use Rattle.layer_spec.specs.Words.{word_in}
use Rattle.layer_spec.specs.Moment.{Seen, HistoryStep}
use Rattle.layer_spec.specs.Owners.{seen_in_call}
use Rattle.layer_spec.specs.Turns.{is_process_turn, image_named, is_own_turn, is_live_process}

-- The calls that the discipline is about; every other call is alike for it.

-- a call that makes a process, whatever it answers
abbrev pub is_create : Option Call → Bool
is_create (Some (call.Create program list)) = true
is_create _ = false

-- a call that adds to word 0, the number of claimed rows, whatever it answers
abbrev pub is_claim : Option Call → Bool
is_claim (Some (call.FetchAdd h i n)) = nat_eq i 0
is_claim _ = false

abbrev pub adds_one : Option Call → Bool
adds_one (Some (call.FetchAdd h i n)) = nat_eq n 1
adds_one _ = false

abbrev pub is_exchange : Option Call → Bool
is_exchange (Some (call.CompareExchange h i old new)) = true
is_exchange _ = false

abbrev pub is_module : Option Call → Bool
is_module (Some (call.Module m)) = true
is_module _ = false

-- the instructions while which a process is made or a row is claimed; every other one is alike
abbrev pub is_fork : Upcoming → Bool
is_fork (CallInstruction instr.Fork) = true
is_fork _ = false

abbrev pub is_fork_or_exec : Upcoming → Bool
is_fork_or_exec (CallInstruction instr.Fork) = true
is_fork_or_exec (CallInstruction (instr.Exec name)) = true
is_fork_or_exec _ = false

abbrev pub is_end : Directive → Bool
is_end (directive.Turn slot thread) = false
is_end (directive.End slot) = true
is_end (directive.Key b) = false

-- whether an entry is a call of this kind in p's own turn
abbrev pub is_call_of : {A : Type 0} → (Option Call → Bool) → ℕ → Seen A → Bool
is_call_of is_kind p x = is_kind x.entry.call && is_own_turn x p

-- The entry stands in an own turn of a running process while an instruction of this kind is next there, and its call of
-- is the first one of its kind in that process's call.
pub record StandsOnce {A : Type 0} (script : Script) (step : HistoryStep A) (is_meant : Upcoming → Bool)
    (is_kind : Option Call → Bool) : Type 0 where
  pub number : ℕ
  pub caller : Record
  pub known : record_of step.before.posix number ≡ Some caller
  pub runs : caller.life ≡ Running
  pub next : is_meant (next_of script caller) ≡ true
  pub own : is_own_turn (record { before = step.before; entry = step.entry }) number ≡ true
  pub once : list_any (is_call_of is_kind number) (seen_in_call number step.past) ≡ false

-- how many `module` entries of process w were seen
abbrev pub modules_asked : {A : Type 0} → List (Seen A) → ℕ → ℕ
modules_asked [] w = 0
modules_asked (x ∷ past) w =
    (if is_module x.entry.call && is_process_turn x.before.win32 x.entry.directive w then 1 else 0)
    + modules_asked past w

-- the script's modules are asked for in their order, each once
pub record AsksInOrder {A : Type 0} (script : Script) (step : HistoryStep A) (w m : ℕ) : Type 0 where
  pub next : m ≡ modules_asked step.past w
  pub known : m < length script.setup.modules

-- the entry's call takes a key from the console's queue, and key b was there
pub record TakesKey (e : Entry) (b : ℕ) : Type 0 where
  pub handle : ℕ
  pub signal : ℕ
  pub group : ℕ
  pub asks : e.call ≡ Some (call.Tty handle tty.Key)
  pub answered : e.outcome ≡ outcome.Step (reply.Key b signal group)

-- Every entry keeps this. A process is made only in an own turn of a running process while a fork or an exec is next
-- there, and a row is claimed, by an add of 1 to word 0, only in such a turn while a fork is next, each at most once in
-- a call. No compare-exchange changes word 0, and no word of a row above the script's last one changes. A process asks
-- for the script's modules in their order. Only an `end` ends a process that the main word of a Running or Stopped
-- record names. A key is taken exactly where the event says so.
pub record KeepsDiscipline {A : Type 0} (script : Script) (step : HistoryStep A) : Type 0 where
  pub creates : is_create step.entry.call ≡ true → StandsOnce script step is_fork_or_exec is_create
  pub claims : is_claim step.entry.call ≡ true
      → (adds_one step.entry.call ≡ true) × StandsOnce script step is_fork is_claim
  pub claimed : is_exchange step.entry.call ≡ true → word_in step.after.win32 0 ≡ word_in step.before.win32 0
  pub above : (i : ℕ) → exit_place script.setup.limits.rows < i
      → word_in step.after.win32 i ≡ word_in step.before.win32 i
  pub modules : (w m : ℕ) → step.entry.call ≡ Some (call.Module m)
      → is_process_turn step.before.win32 step.entry.directive w ≡ true → AsksInOrder script step w m
  pub lives : is_end step.entry.directive ≡ false → (p : ℕ) (r : Record) → record_of step.before.posix p ≡ Some r
      → is_live r.life ≡ true → is_live_process step.before.win32 (image_named step.before.win32 p) ≡ true
      → is_live_process step.after.win32 (image_named step.before.win32 p) ≡ true
  pub keys : (p b : ℕ) → (step.entry.event ≡ Some (event.Key p b)) ↔ ((p ≡ 0) × TakesKey step.entry b)
