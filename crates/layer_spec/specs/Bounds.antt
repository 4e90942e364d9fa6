-- How long a thread may go on without doing anything that others can see, at each moment of a history.
use Rattle.std.specs.Prelude.{◌≡◌, ℕ, ◌+◌, ◌*◌, ◌≤◌, Bool, true, false, ◌&&◌, ◌||◌, not, is_some, nat_eq, if◌then◌else◌}
use Rattle.std.specs.Prelude.{List, [], ◌∷◌, Option, Some, None}
use Rattle.w32_base.specs.Part.{may_keep_rank}
use Rattle.w32_base.specs.declared.call.Call.{Call}
use Rattle.w32_base.specs.declared.call.Call.TheVariants as call
use Rattle.w32_base.specs.declared.call.Reply.TheVariants as reply
use Rattle.w32_base.specs.declared.entry.Entry.{Entry}
use Rattle.w32_base.specs.declared.entry.Outcome.{Outcome}
use Rattle.w32_base.specs.declared.entry.Outcome.TheVariants as outcome
use Rattle.w32_base.specs.declared.event.Event.{Event}
use Rattle.script_spec.specs.declared.script.Script.{Script}
use Rattle.win32_spec.specs.State.{Win32State}
use Rattle.layer_spec.specs.Words.{word_in}
use Rattle.layer_spec.specs.Moment.{Seen, HistoryStep}
use Rattle.layer_spec.specs.Turns.{is_thread_turn}
use Rattle.layer_spec.specs.Work.{is_turn_of, work_of}

-- A row of turns of one thread ends with a turn that gives an event other than a look, is a wait, or is a
-- compare-exchange that finds another word.
abbrev pub ends_row_by : Option Call → Outcome → Option Event → Bool
ends_row_by None came told = false
ends_row_by (Some c) outcome.Idle told = false
ends_row_by (Some c) (outcome.Step r) told = may_keep_rank c r told
ends_row_by (Some c) (outcome.Ended w) told = false
ends_row_by (Some c) outcome.Keyed told = false

abbrev pub ends_row : Entry → Bool
ends_row e = ends_row_by e.call e.outcome e.event

-- how many turns of thread t of process w that weren't idle stand after the last one that ended a row
abbrev pub turns_in_row : {A : Type 0} → (w t : ℕ) → List (Seen A) → ℕ
turns_in_row w t [] = 0
turns_in_row w t (x ∷ past) =
    if is_turn_of x w t && is_some x.entry.call then (if ends_row x.entry then 0 else 1 + turns_in_row w t past)
    else turns_in_row w t past

-- whether a call is on word i of the section
abbrev pub is_on_word : ℕ → Option Call → Bool
is_on_word i (Some (call.Load h place)) = nat_eq place i
is_on_word i (Some (call.CompareExchange h place old new)) = nat_eq place i
is_on_word i (Some (call.FetchAdd h place n)) = nat_eq place i
is_on_word i _ = false

-- whether an outcome is that process w was made
abbrev pub is_making_of : Outcome → ℕ → Bool
is_making_of (outcome.Step (reply.Made h v)) w = nat_eq v w
is_making_of _ w = false

-- Whether word i was changed since the last step of thread t of process w on it, or since that process was made. The
-- state is the one after what was seen.
abbrev pub is_changed_since : {A : Type 0} → (w t i : ℕ) → List (Seen A) → Win32State → Bool
is_changed_since w t i [] s = false
is_changed_since w t i (x ∷ past) s =
    if (is_turn_of x w t && is_on_word i x.entry.call) || is_making_of x.entry.outcome w then false
    else (not (nat_eq (word_in x.before.win32 i) (word_in s i)) || is_changed_since w t i past x.before.win32)

-- A compare-exchange that found another word than the old one stands after another thread's change of that word.
pub record LostExchangeHasCause {A : Type 0} (step : HistoryStep A) : Type 0 where
  pub changed : (w t h i old new found : ℕ) → is_thread_turn step.before.win32 step.entry.directive w t ≡ true
      → step.entry.call ≡ Some (call.CompareExchange h i old new) → step.entry.outcome ≡ outcome.Step (reply.Word found)
      → nat_eq found old ≡ false → is_changed_since w t i step.past step.before.win32 ≡ true

-- At the moment after what was seen, no thread has gone on for longer.
pub record IsBounded {A : Type 0} (script : Script) (past : List (Seen A)) : Type 0 where
  pub rows_of_turns : (w t : ℕ) → turns_in_row w t past ≤ 4000 + 150 * script.setup.limits.rows
  pub work : (w t : ℕ) → work_of w t past ≤ 200000 + 200 * script.setup.limits.rows
