-- The turns after the seal: what they share where words, terminal and processes stay.
use Rattle.std.proofs.Common.{◌≡◌, ℕ, true, List, Option, Some, None, refl, sym, ap, ◌∙◌, subst}
use Rattle.w32_base.specs.declared.call.Call.{Call}
use Rattle.w32_base.specs.declared.call.Reply.{Reply}
use Rattle.w32_base.specs.declared.event.Event.{Event}
use Rattle.w32_base.specs.declared.own.Own.{Own}
use Rattle.script_spec.specs.declared.script.Script.{Script}
use Rattle.win32_spec.specs.Driven.{Parts}
use Rattle.win32_spec.specs.Lookup.{process_of, memory_of, memory_by}
use Rattle.win32_spec.specs.State.{Win32State}
use Rattle.layer_spec.specs.Decodes.{Decodes}
use Rattle.layer_spec.specs.Moment.{Moment, Seen, seen_with}
use Rattle.layer_spec.specs.Words.{word_in}
use Rattle.roster.specs.Roster.{HoldsRoster}
use Rattle.roster.specs.Turns.{Turn, quietly}
use Rattle.world_spec.specs.Calm.{is_plain_call}
use Rattle.world_spec.specs.DecodesLaws.{decodes-stays}
use Rattle.world_spec.specs.MutexLaws.{KeepsAll}
use Rattle.world_spec.specs.Owes.{OwnTurn}
use Rattle.world_spec.specs.Sound.{IsSoundMoment}
use Rattle.child_watch.specs.declared.ending.Ending.{Ending}
use Rattle.child_watch.specs.declared.exiting.ExitStep.{ExitStep}
use Rattle.child_watch.specs.declared.exiting.Exiting.{Exiting}
use Rattle.child_watch.specs.Exiting.{exit_posted, exit_child}
use Rattle.child_watch.specs.Exiting.{exit_children, listed_child}
use Rattle.child_watch.specs.ExitClause.{HasDied, HoldsDead, ExitStepClause}
use Rattle.child_watch.specs.ExitOrphans.{orphan-child}
use Rattle.child_watch.specs.ExitTurns.{ExitGoes, ExitResult, exit_entry, exit_moment, exit_to, exit-quiet, exit-cyg}
use Rattle.child_watch.specs.ExitTurns.{exit-same, exit-terminal, exit-words, exit-holds, died-on}

-- With the mutex held, the next child is looked at, or the own group word behind the last one.
pub children-on : {A : Type 0} → (script : Script) (past : List (Seen A)) (now : Moment A) (w row image : ℕ)
    (e : Ending)
    → Decodes script now.win32 now.posix → HoldsDead past now w row e → (own : Own)
    → own.cyg ≡ (memory_by now.win32 w).cyg → (place : ℕ)
    → ExitStepClause script past now w row image e (exit_children own place)
children-on script past now w row image e decodes h own cyg place = by_child (listed_child own.cyg place) refl
  where
    by_child : (o : Option ℕ) → listed_child own.cyg place ≡ o
        → ExitStepClause script past now w row image e (exit_child place o)
    by_child None f = h
    by_child (Some c) f = (
      h,
      orphan-child script now.win32 now.posix decodes row c h.died.ended
          (h.died.listed place c (ap (λ b. listed_child b place) (sym cyg) ∙ f)),
    )

module _ {A : Type 0} (script : Script) (past : List (Seen A)) (now : Moment A) (slot : ℕ)
    (part : Exiting) (called : Call) (reply : Reply) (given : Option Event) (next : Option Exiting) (new : Win32State)
    (sound : IsSoundMoment script past now)
    (turn : OwnTurn exit_posted ExitGoes script now.win32 slot 0 part called reply given next new)
    (h : HasDied past now turn.process.number part.row part.ending) where
  abbrev w : ℕ
  w = turn.process.number

  abbrev row : ℕ
  row = part.row

  abbrev Result : Type 0
  Result = ExitResult script past now slot part called reply given next new sound turn

  abbrev to : Turn ExitStep
  to = exit_to script past now slot part called reply given next new sound turn

  abbrev At : Parts A → ExitStep → Type 0
  At parts s = ExitStepClause script
      (seen_with (exit_entry script past now slot part called reply given next new sound turn None parts now.posix))
      (exit_moment script past now slot part called reply given next new sound turn parts now.posix) w row part.image
      part.ending s

  -- a turn that leaves words, terminal and processes, and goes to this step
  module _ (kept : KeepsAll now.win32 turn.mid) where
    pub dead-words : (i : ℕ) → word_in new i ≡ word_in now.win32 i
    dead-words i = exit-words script past now slot part called reply given next new sound turn kept.rest i
        ∙ kept.words i

    pub dead-died : (parts : Parts A) → HasDied
        (seen_with (exit_entry script past now slot part called reply given next new sound turn None parts now.posix))
        (exit_moment script past now slot part called reply given next new sound turn parts now.posix) w row part.ending
    dead-died parts = died-on past now
        (record {
          before = now;
          entry =
              (exit_entry script past now slot part called reply given next new sound turn None parts now.posix).entry;
        })
        new parts w row part.ending dead-words
        (exit-cyg script past now slot part called reply given next new sound turn kept.rest) h

    -- rows and images show the POSIX state after it
    pub dead-decodes : Decodes script new now.posix
    dead-decodes = decodes-stays script now.win32 new now.posix
        (exit-same script past now slot part called reply given next new sound turn kept.rest) dead-words
        (exit-terminal script past now slot part called reply given next new sound turn kept.rest) sound.decodes

    -- and where it holds the mutex after its call, it holds it
    pub dead-holds : HoldsRoster turn.mid w 0 → (parts : Parts A) → HoldsDead
        (seen_with (exit_entry script past now slot part called reply given next new sound turn None parts now.posix))
        (exit_moment script past now slot part called reply given next new sound turn parts now.posix) w row part.ending
    dead-holds holds parts = record {
      died = dead-died parts;
      holds = exit-holds script past now slot part called reply given next new sound turn kept.rest holds;
    }

    -- the bytes over which it goes are those after it
    pub dead-cyg : (memory_by turn.mid w).cyg ≡ (memory_by new w).cyg
    dead-cyg =
        ap (λ ps. let m : Own = memory_of (process_of ps w) in m.cyg) kept.rest.processes
        ∙ sym (exit-cyg script past now slot part called reply given next new sound turn kept.rest)

    -- So it owes the clause of the step to which it goes.
    pub dead-goes : (s : ExitStep) → to ≡ quietly s → is_plain_call called ≡ true → ((parts : Parts A)
        → At parts s) → Result
    dead-goes s is plain stands =
        exit-quiet script past now slot part called reply given next new sound turn kept plain
        (ap (λ (t : Turn ExitStep). t.event) is)
        (λ parts. subst (λ (t : Turn ExitStep). At parts t.part) (sym is) (stands parts))
