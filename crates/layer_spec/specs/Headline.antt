-- What the journal of a run is: a history that follows the script's schedule.
use Rattle.std.specs.Prelude.{◌≡◌, ℕ, List, [], ◌∷◌, length}
use Rattle.w32_base.specs.declared.call.Call.{Call}
use Rattle.w32_base.specs.declared.call.Reply.{Reply}
use Rattle.w32_base.specs.declared.entry.Entry.{Entry}
use Rattle.w32_base.specs.declared.entry.End.{End}
use Rattle.w32_base.specs.declared.own.Own.{Own}
use Rattle.w32_base.specs.declared.part.After.{After}
use Rattle.w32_base.specs.declared.setup.Setup.{Setup}
use Rattle.script_spec.specs.declared.script.Script.{Script}
use Rattle.win32_spec.specs.Schedule.{Position, opening_position, GivesNext, EndsBy}
use Rattle.layer_spec.specs.Moment.{Moment, Seen, entries_of}
use Rattle.layer_spec.specs.History.{IsHistory}

-- The entries that were seen stand under the directives that the schedule gives, each in the state before it, and the
-- schedule is then at this position.
abbrev pub IsScheduledTo : {A : Type 0} → Script → List (Seen A) → Position → Type 0
IsScheduledTo script [] at = at ≡ opening_position script.directives
IsScheduledTo script (x ∷ past) at =
    (from : Position) × IsScheduledTo script past from
    × GivesNext x.before.win32 from from.lines x.entry.directive at

-- The schedule is followed to its end, or to the budget.
pub record FollowsSchedule {A : Type 0} (script : Script) (past : List (Seen A)) (now : Moment A) (end : End)
    : Type 0 where
  pub at : Position
  pub scheduled : IsScheduledTo script past at
  pub within : EndsBy script.setup.limits.budget (length past) now.win32 at.lines end

-- what a type of parts means, as in a history
module _ {A : Type 0} (posted_of : A → Call) (goes : A → Own → Setup → Reply → A → Own → After → Type 0)
    (opening : A → Type 0) (slot_of thread_of : A → ℕ) where
  -- The entries are those of a history up to this moment, under whatever directives.
  pub record IsHistoryOf (script : Script) (entries : List Entry) (now : Moment A) : Type 0 where
    pub past : List (Seen A)
    pub history : IsHistory posted_of goes opening slot_of thread_of script past now
    pub in_order : entries ≡ entries_of past

  -- The entries are the journal of a run of the script, under its schedule, which ended so: those of a history that
  -- follows it.
  pub record IsJournalOf (script : Script) (entries : List Entry) (end : End) : Type 0 where
    pub past : List (Seen A)
    pub now : Moment A
    pub history : IsHistory posted_of goes opening slot_of thread_of script past now
    pub in_order : entries ≡ entries_of past
    pub schedule : FollowsSchedule script past now end
