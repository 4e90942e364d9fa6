-- When a process waits: nothing that happened is for it to act on.
use Rattle.std.specs.Prelude.{◌≡◌, ℕ, Bool, true, false, nat_eq, if◌then◌else◌, List, [], ◌∷◌, Option, Some, None}
use Rattle.std.specs.Prelude.{IsTrue, IsSomeAnd, All}
use Rattle.w32_base.specs.declared.event.Event.{Event}
use Rattle.w32_base.specs.declared.event.Event.TheVariants as event
use Rattle.w32_base.specs.declared.instr.Instr.TheVariants as instr
use Rattle.script_spec.specs.declared.script.Script.{Script}
use Rattle.vm_spec.specs.Step.{Upcoming, CallInstruction}
use Rattle.tty_spec.specs.Discipline.{has_line}
use Rattle.posix_spec.specs.Numbers.{for_value}
use Rattle.posix_spec.specs.State.{Running, Record, PosixState, record_of}
use Rattle.posix_spec.specs.Pending.{deliverable}
use Rattle.posix_spec.specs.Conditions.{next_of, call_of}
use Rattle.posix_spec.specs.Waits.{Wait, wait_of, is_match, has_report}

-- the wait that is next in process p
abbrev pub wait_of_process : Script → ℕ → Record → Option Wait
wait_of_process script p r = for_value (call_of (next_of script r)) (wait_of p r)

abbrev pub wait_next : Script → PosixState → ℕ → Option Wait
wait_next script s p = for_value (record_of s p) (wait_of_process script p)

abbrev pub is_match_of : Option Wait → ℕ → Option Record → Bool
is_match_of None c child = false
is_match_of (Some wait) c None = false
is_match_of (Some wait) c (Some child) = is_match wait c child

-- whether c is a child that matches the wait that is next in p
abbrev pub matches_now : Script → ℕ → ℕ → PosixState → Bool
matches_now script p c s = is_match_of (wait_next script s p) c (record_of s c)

-- A step of a run: the state before it, and its event, or none where the processes did nothing.
pub record PosixSeen : Type 0 where
  pub before : PosixState
  pub event : Option Event

abbrev pub is_block : ℕ → Option Event → Bool
is_block p (Some (event.Block q)) = nat_eq q p
is_block p _ = false

-- the states from right after p's last `block` on, the latest first; `past` is what was seen before s, the last first
abbrev pub states_since_block : ℕ → PosixState → List PosixSeen → List PosixState
states_since_block p s [] = s ∷ []
states_since_block p s (seen ∷ past) =
    if is_block p seen.event then s ∷ [] else s ∷ states_since_block p seen.before past

-- c has been a child that matches ever since p blocked
abbrev pub HasMatchedSince : Script → PosixState → ℕ → ℕ → List PosixSeen → Type 0
HasMatchedSince script s p c past = All (λ t. IsTrue (matches_now script p c t)) (states_since_block p s past)

abbrev pub is_read : Upcoming → Bool
is_read (CallInstruction (instr.Read address count)) = true
is_read _ = false

-- The process runs, its call is blocked, and no signal is deliverable. In a read no line is done. In a wait no child
-- that has matched ever since has something to report.
pub record Waits (script : Script) (s : PosixState) (p : ℕ) (past : List PosixSeen) (r : Record) : Type 0 where
  pub running : r.life ≡ Running
  pub blocked : IsTrue r.blocked
  pub undisturbed : deliverable r ≡ None
  pub no_line : IsTrue (is_read (next_of script r)) → has_line s.terminal ≡ false
  pub no_report : (wait : Wait) (c : ℕ) (child : Record) → wait_of_process script p r ≡ Some wait →
      record_of s c ≡ Some child → HasMatchedSince script s p c past → has_report wait child ≡ false

-- process p waits in a state, after what was seen
abbrev pub IsWaiting : Script → PosixState → ℕ → List PosixSeen → Type 0
IsWaiting script s p past = IsSomeAnd (record_of s p) (Waits script s p past)
