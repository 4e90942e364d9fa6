-- A gathering, as a part of the end of a process: its look at the row gives what it owes.
use Rattle.std.proofs.Common.{◌≡◌, ℕ, true}
use Rattle.std.proofs.Common.{List}
use Rattle.std.proofs.Common.{Option, Some, None, refl, sym, ap, ◌∙◌, subst}
use Rattle.w32_base.specs.declared.call.Call.{Call}
use Rattle.w32_base.specs.declared.call.Call.TheVariants as call
use Rattle.w32_base.specs.declared.call.Reply.{Reply}
use Rattle.w32_base.specs.declared.event.Event.{Event}
use Rattle.script_spec.specs.declared.script.Script.{Script}
use Rattle.win32_spec.specs.Call.{CallStep}
use Rattle.win32_spec.specs.Driven.{Parts}
use Rattle.win32_spec.specs.Lookup.{memory_by}
use Rattle.win32_spec.specs.State.{Win32State}
use Rattle.w32_base.specs.declared.own.Own.{Own}
use Rattle.layer_spec.specs.Decodes.{Decodes}
use Rattle.layer_spec.specs.Moment.{Moment, Seen, seen_with}
use Rattle.layer_spec.specs.Rows.{main_place}
use Rattle.layer_spec.specs.Transitions.{Collect}
use Rattle.layer_spec.specs.Words.{word_in}
use Rattle.roster.specs.Roster.{HoldsRoster}
use Rattle.roster.specs.Turns.{Turn, quietly, all_by_word}
use Rattle.roster.specs.Words.{changed_word}
use Rattle.world_spec.specs.Calm.{is_plain_call}
use Rattle.world_spec.specs.MutexLaws.{KeepsAll, kept-same}
use Rattle.world_spec.specs.Owes.{OwnTurn}
use Rattle.world_spec.specs.Sound.{IsSoundMoment}
use Rattle.child_watch.specs.declared.collect.Gather.{Gather}
use Rattle.child_watch.specs.declared.collect.Gather.TheVariants as gather
use Rattle.child_watch.specs.declared.ending.Ending.{Ending}
use Rattle.child_watch.specs.declared.exiting.ExitStep.{ExitStep}
use Rattle.child_watch.specs.declared.exiting.Exiting.{Exiting}
use Rattle.child_watch.specs.Collect.{gather_posted, gather_tries, gather_looked, gather_after}
use Rattle.child_watch.specs.Exiting.{exit_posted}
use Rattle.child_watch.specs.ExitClause.{IsOrphan, GatherClause}
use Rattle.child_watch.specs.ExitClause.{HoldsDead, ExitStepClause}
use Rattle.child_watch.specs.ExitOrphans.{orphan-words}
use Rattle.child_watch.specs.ExitTurns.{ExitGoes, ExitResult, exit_entry, exit_moment, exit_to, exit-quiet}
use Rattle.child_watch.specs.ExitTurnsDead.{dead-words, dead-decodes, dead-holds, dead-cyg}

-- where the gathering goes, in the step that it is a part of
abbrev pub wrapped : (Gather → ExitStep) → Turn Gather → Turn ExitStep
wrapped wrap t = record { part = wrap t.part; event = t.event }

-- What is to give of each such step: its clause, of a moment whose rows and images show the POSIX state, by that of the
-- gathering.
abbrev pub Wraps : (A : Type 0) → Script → (w row image : ℕ) → Ending → Own → (Gather → ExitStep) → Type 0
Wraps A script w row image e own wrap = (later : List (Seen A)) (after : Moment A)
    → Decodes script after.win32 after.posix
    → HoldsDead later after w row e → own.cyg ≡ (memory_by after.win32 w).cyg → (y : Gather)
    → GatherClause after.win32 y → ExitStepClause script later after w row image e (wrap y)

module _ {A : Type 0} (script : Script) (past : List (Seen A)) (now : Moment A) (slot : ℕ) (part : Exiting)
    (called : Call) (reply : Reply) (given : Option Event) (next : Option Exiting) (new : Win32State)
    (sound : IsSoundMoment script past now)
    (turn : OwnTurn exit_posted ExitGoes script now.win32 slot 0 part called reply given next new)
    (h : HoldsDead past now turn.process.number part.row part.ending) (wrap : Gather → ExitStep)
    (wraps : Wraps A script turn.process.number part.row part.image part.ending
    (memory_by turn.mid turn.process.number) wrap) where
  abbrev w : ℕ
  w = turn.process.number

  abbrev row : ℕ
  row = part.row

  abbrev Result : Type 0
  Result = ExitResult script past now slot part called reply given next new sound turn

  abbrev to : Turn ExitStep
  to = exit_to script past now slot part called reply given next new sound turn

  abbrev seen_now : Parts A → List (Seen A)
  seen_now parts = seen_with
      (exit_entry script past now slot part called reply given next new sound turn None parts now.posix)

  abbrev moment_now : Parts A → Moment A
  moment_now parts = exit_moment script past now slot part called reply given next new sound turn parts now.posix

  -- With the word of the row that was found: it is a zombie's, or it is done.
  pub gather-looked : (r x : ℕ) → ((i : ℕ) → word_in new i ≡ word_in now.win32 i) → IsOrphan now.win32 r
      → GatherClause new (gather_looked r x)
  gather-looked r x words orphan = by_changed (changed_word Collect x) refl
    where
      by_changed : (o : Option ℕ) → changed_word Collect x ≡ o → GatherClause new (gather_tries r x o)
      by_changed None e = tt
      by_changed (Some n) e = (orphan-words now.win32 new r words orphan, e)

  -- a turn without an event that leaves words, terminal, processes and the mutex
  pub gather-quiet : KeepsAll now.win32 turn.mid → HoldsRoster turn.mid w 0 → is_plain_call called ≡ true
      → (t : Turn Gather)
      → to ≡ wrapped wrap t → t.event ≡ None → GatherClause new t.part → Result
  gather-quiet kept holds plain t is event clause =
      exit-quiet script past now slot part called reply given next new sound turn kept plain
      (ap (λ (x : Turn ExitStep). x.event) is ∙ event)
      (λ parts. subst (λ (x : Turn ExitStep). ExitStepClause script (seen_now parts) (moment_now parts) w row part.image
      part.ending x.part) (sym is)
      (wraps (seen_now parts) (moment_now parts)
      (dead-decodes script past now slot part called reply given next new sound turn h.died kept)
      (dead-holds script past now slot part called reply given next new sound turn h.died kept holds parts)
      (dead-cyg script past now slot part called reply given next new sound turn h.died kept) t.part clause))

  -- The look at the row.
  pub gathers-looking : (r : ℕ) → turn.thread.posted ≡ gather_posted (gather.Looking r)
      → to ≡ wrapped wrap (gather_after (gather.Looking r) reply) → IsOrphan now.win32 r → Result
  gathers-looking r its_call is orphan =
      gather-quiet kept (subst (λ s. HoldsRoster s w 0) (sym step.1) h.holds)
      (ap is_plain_call (turn.called_is ∙ its_call)) (gather_after (gather.Looking r) reply) is
      (all_by_word (λ t a. t.event ≡ None) (quietly gather.Rest) (λ x. quietly (gather_looked r x)) (λ a. refl)
      (λ x. refl) reply)
      (all_by_word (λ (t : Turn Gather) a. GatherClause new t.part) (quietly gather.Rest)
      (λ x. quietly (gather_looked r x)) (λ a. tt)
      (λ x. gather-looked r x
      (dead-words script past now slot part called reply given next new sound turn h.died kept) orphan) reply)
    where
      step : CallStep script now.win32 w 0 (call.Load 1 (main_place r)) reply turn.mid
      step = subst (λ c. CallStep script now.win32 w 0 c reply turn.mid) its_call turn.posted.step

      kept : KeepsAll now.win32 turn.mid
      kept = kept-same now.win32 turn.mid step.1
