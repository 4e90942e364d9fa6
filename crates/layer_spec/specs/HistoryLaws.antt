-- What holds of every history: its entries are a run of the Win32 machine, its events are a run of the POSIX machine,
-- and rows and images show the POSIX state at each moment. Under the schedule, its entries follow it to the end.
use Rattle.std.specs.Prelude.{◌≡◌, ℕ, ◌+◌, List, [], ◌∷◌, ◌++◌, length, Option, Some, None, MatchOption, option_to_list}
use Rattle.std.proofs.Common.{refl, sym, subst, ap, ◌∙◌, add-one, length-append}
use Rattle.std.proofs.lemmas.List.{append-nil}
use Rattle.w32_base.specs.declared.entry.End.{End}
use Rattle.w32_base.specs.declared.call.Call.{Call}
use Rattle.w32_base.specs.declared.call.Reply.{Reply}
use Rattle.w32_base.specs.declared.event.Event.{Event}
use Rattle.w32_base.specs.declared.entry.Entry.{Entry}
use Rattle.w32_base.specs.declared.own.Own.{Own}
use Rattle.w32_base.specs.declared.part.After.{After}
use Rattle.w32_base.specs.declared.setup.Setup.{Setup}
use Rattle.script_spec.specs.declared.script.Script.{Script}
use Rattle.win32_spec.specs.State.{Win32State}
use Rattle.win32_spec.specs.Opening.{IsOpening}
use Rattle.win32_spec.specs.Run.{DirectiveStep, Win32Run}
use Rattle.win32_spec.specs.Schedule as schedule
use Rattle.win32_spec.specs.Schedule.{Position, opening_position, GivesNext, ScheduledRun}
use Rattle.posix_spec.specs.State.{PosixState}
use Rattle.posix_spec.specs.Opening.{opening_of}
use Rattle.posix_spec.specs.Run.{PosixStep, PosixRun}
use Rattle.layer_spec.specs.Decodes.{Decodes}
use Rattle.layer_spec.specs.Moment.{Moment, Seen, entries_of, events_of}
use Rattle.layer_spec.specs.History.{IsHistory}
use Rattle.layer_spec.specs.Headline.{IsScheduledTo, FollowsSchedule}

-- one step more at the end of a run
pub Win32Run-push : (script : Script) (s : Win32State) (es : List Entry) (mid : Win32State) (e : Entry)
    (new : Win32State) → Win32Run script s es mid → DirectiveStep script mid e new
    → Win32Run script s (es ++ e ∷ []) new
Win32Run-push script s [] mid e new run step = (new, subst (λ m. DirectiveStep script m e new) run step, refl)
Win32Run-push script s (x ∷ es) mid e new run step = (run.0, run.1, Win32Run-push script run.0 es mid e new run.2 step)

pub PosixRun-push : (script : Script) (s : PosixState) (es : List Event) (mid : PosixState) (e : Event)
    (new : PosixState) → PosixRun script s es mid → PosixStep script mid e new
    → PosixRun script s (es ++ e ∷ []) new
PosixRun-push script s [] mid e new run step = (new, subst (λ m. PosixStep script m e new) run step, refl)
PosixRun-push script s (x ∷ es) mid e new run step = (run.0, run.1, PosixRun-push script run.0 es mid e new run.2 step)

-- and one with an event or without
pub PosixRun-push_told : (script : Script) (s : PosixState) (es : List Event) (mid : PosixState) (told : Option Event)
    (new : PosixState) → PosixRun script s es mid → MatchOption told (new ≡ mid) (λ e. PosixStep script mid e new)
    → PosixRun script s (es ++ option_to_list told) new
PosixRun-push_told script s es mid None new run stays =
    subst (λ es. PosixRun script s es new) (sym (append-nil es)) (subst (λ m. PosixRun script s es m) (sym stays) run)
PosixRun-push_told script s es mid (Some e) new run step = PosixRun-push script s es mid e new run step

-- one entry more under the schedule
pub ScheduledRun-push : (script : Script) (s : Win32State) (at : Position) (es : List Entry) (mid : Win32State)
    (from : Position) (e : Entry) (new : Win32State) (next : Position) → ScheduledRun script s at es mid from
    → GivesNext mid from from.lines e.directive next → DirectiveStep script mid e new
    → ScheduledRun script s at (es ++ e ∷ []) new next
ScheduledRun-push script s at [] mid from e new next run gives step =
    let here : GivesNext s from from.lines e.directive next =
    subst (λ m. GivesNext m from from.lines e.directive next) run.0 gives in
    let there : GivesNext s at at.lines e.directive next =
    subst (λ f. GivesNext s f f.lines e.directive next) run.1 here in
    (new, next, there, subst (λ m. DirectiveStep script m e new) run.0 step, (refl, refl))
ScheduledRun-push script s at (x ∷ es) mid from e new next run gives step =
    (run.0, run.1, run.2, run.3, ScheduledRun-push script run.0 run.1 es mid from e new next run.4 gives step)

-- there are as many entries as were seen
pub length-entries_of : {A : Type 0} → (past : List (Seen A)) → length (entries_of past) ≡ length past
length-entries_of [] = refl
length-entries_of (x ∷ past) =
    length-append (entries_of past) (x.entry ∷ []) ∙ (ap (λ n. n + 1) (length-entries_of past) ∙ add-one (length past))

module _ {A : Type 0} (posted_of : A → Call) (goes : A → Own → Setup → Reply → A → Own → After → Type 0)
    (opening : A → Type 0) (slot_of thread_of : A → ℕ) where
  -- the opening state of a history, and what happened in the Win32 machine since
  pub record IsWin32RunTo (script : Script) (past : List (Seen A)) (now : Moment A) : Type 0 where
    pub first : Win32State
    pub opens : IsOpening script first
    pub run : Win32Run script first (entries_of past) now.win32

  pub history_is_win32_run : (script : Script) (past : List (Seen A)) (now : Moment A)
      → IsHistory posted_of goes opening slot_of thread_of script past now → IsWin32RunTo script past now
  history_is_win32_run script [] now h = record { first = now.win32; opens = h.driven.opens; run = refl }
  history_is_win32_run script (x ∷ past) now h =
      let r : IsWin32RunTo script past x.before = history_is_win32_run script past x.before h.0 in
      record {
        first = r.first;
        opens = r.opens;
        run = Win32Run-push script r.first (entries_of past) x.before.win32 x.entry now.win32 r.run h.1.win32;
      }

  pub history_is_posix_run : (script : Script) (past : List (Seen A)) (now : Moment A)
      → IsHistory posted_of goes opening slot_of thread_of script past now
      → PosixRun script (opening_of script) (events_of past) now.posix
  history_is_posix_run script [] now h = h.posix
  history_is_posix_run script (x ∷ past) now h =
      PosixRun-push_told script (opening_of script) (events_of past) x.before.posix x.entry.event now.posix
      (history_is_posix_run script past x.before h.0) h.1.posix

  pub history_decodes : (script : Script) (past : List (Seen A)) (now : Moment A)
      → IsHistory posted_of goes opening slot_of thread_of script past now → Decodes script now.win32 now.posix
  history_decodes script [] now h = h.decodes
  history_decodes script (x ∷ past) now h = h.1.decodes

  -- the same under the schedule, up to a position
  pub record IsScheduledRunTo (script : Script) (past : List (Seen A)) (now : Moment A) (at : Position) : Type 0 where
    pub first : Win32State
    pub opens : IsOpening script first
    pub run : ScheduledRun script first (opening_position script.directives) (entries_of past) now.win32 at

  pub history_is_scheduled : (script : Script) (past : List (Seen A)) (now : Moment A) (at : Position)
      → IsHistory posted_of goes opening slot_of thread_of script past now → IsScheduledTo script past at
      → IsScheduledRunTo script past now at
  history_is_scheduled script [] now at h scheduled =
      record { first = now.win32; opens = h.driven.opens; run = (refl, scheduled) }
  history_is_scheduled script (x ∷ past) now at h scheduled =
      let r : IsScheduledRunTo script past x.before scheduled.0 =
      history_is_scheduled script past x.before scheduled.0 h.0 scheduled.1 in
      record {
        first = r.first;
        opens = r.opens;
        run = ScheduledRun-push script r.first (opening_position script.directives) (entries_of past) x.before.win32
            scheduled.0 x.entry now.win32 at r.run scheduled.2 h.1.win32;
      }

  -- So the entries are a journal that follows the schedule from an opening state to its end.
  pub record IsScheduledJournal (script : Script) (past : List (Seen A)) (now : Moment A) (end : End) : Type 0 where
    pub first : Win32State
    pub opens : IsOpening script first
    pub follows : schedule.FollowsSchedule script first (entries_of past) now.win32 end

  pub history_follows_schedule : (script : Script) (past : List (Seen A)) (now : Moment A) (end : End)
      → IsHistory posted_of goes opening slot_of thread_of script past now → FollowsSchedule script past now end
      → IsScheduledJournal script past now end
  history_follows_schedule script past now end h f =
      let r : IsScheduledRunTo script past now f.at = history_is_scheduled script past now f.at h f.scheduled in
      record {
        first = r.first;
        opens = r.opens;
        follows = record { at = f.at; run = r.run; within = rw (length-entries_of past) f.within };
      }
