-- The turn that looks at the own row gives what it owes.
use Rattle.std.proofs.Common.{◌≡◌, ℕ}
use Rattle.std.proofs.Common.{List, Option, Some, None, refl, sym, ap, ◌∙◌, subst}
use Rattle.w32_base.specs.declared.call.Call.{Call}
use Rattle.w32_base.specs.declared.call.Call.TheVariants as call
use Rattle.w32_base.specs.declared.call.Reply.{Reply}
use Rattle.w32_base.specs.declared.event.Event.{Event}
use Rattle.script_spec.specs.declared.script.Script.{Script}
use Rattle.win32_spec.specs.Call.{CallStep}
use Rattle.win32_spec.specs.Driven.{Parts}
use Rattle.win32_spec.specs.Lookup.{memory_by}
use Rattle.win32_spec.specs.State.{Win32State}
use Rattle.layer_spec.specs.Moment.{Moment, Seen, seen_with}
use Rattle.layer_spec.specs.Rows.{main_place, exit_place}
use Rattle.layer_spec.specs.Transitions.{Seal}
use Rattle.layer_spec.specs.Words.{word_in, exit_at}
use Rattle.roster.specs.Turns.{Turn, quietly, by_word, all_by_word}
use Rattle.roster.specs.Words.{changed_word}
use Rattle.world_spec.specs.Calm.{is_plain_call}
use Rattle.world_spec.specs.MutexLaws.{KeepsAll, kept-same}
use Rattle.world_spec.specs.Owes.{OwnTurn}
use Rattle.world_spec.specs.Sound.{IsSoundMoment}
use Rattle.child_watch.specs.declared.exiting.ExitStep.{ExitStep}
use Rattle.child_watch.specs.declared.exiting.ExitStep.TheVariants as exit
use Rattle.child_watch.specs.declared.exiting.Exiting.{Exiting}
use Rattle.child_watch.specs.Ending.{status_of, word_of}
use Rattle.child_watch.specs.Exiting.{exit_posted, exit_step_posted, exit_step_after, exit_seals, exit_looked}
use Rattle.child_watch.specs.ExitClause.{IsToEnd, ExitStepClause}
use Rattle.child_watch.specs.ExitTurns.{ExitGoes, ExitResult, exit_entry, exit_moment, exit_to, exit-quiet}
use Rattle.child_watch.specs.ExitTurns.{exit-words, to-end-on}

module _ {A : Type 0} (script : Script) (past : List (Seen A)) (now : Moment A) (slot : ℕ) (part : Exiting)
    (called : Call) (reply : Reply) (given : Option Event) (next : Option Exiting) (new : Win32State)
    (sound : IsSoundMoment script past now)
    (turn : OwnTurn exit_posted ExitGoes script now.win32 slot 0 part called reply given next new)
    (h : IsToEnd script now turn.process.number part.row part.image part.ending)
    (word : exit_at now.win32 part.row ≡ word_of part.image part.ending) where
  abbrev w : ℕ
  w = turn.process.number

  abbrev row : ℕ
  row = part.row

  abbrev v : ℕ
  v = status_of part.ending

  abbrev Result : Type 0
  Result = ExitResult script past now slot part called reply given next new sound turn

  abbrev to : Turn ExitStep
  to = exit_to script past now slot part called reply given next new sound turn

  abbrev AtNow : Parts A → Turn ExitStep → Type 0
  AtNow parts t = ExitStepClause script
      (seen_with (exit_entry script past now slot part called reply given next new sound turn None parts now.posix))
      (exit_moment script past now slot part called reply given next new sound turn parts now.posix) w row part.image
      part.ending t.part

  -- With a word of the row that was found: it is sealed, or is no live one.
  pub exit-looked-on : (parts : Parts A) → ((i : ℕ) → word_in new i ≡ word_in now.win32 i) → (x : ℕ)
      → AtNow parts (quietly (exit_looked part.ending x))
  exit-looked-on parts words x = by_seals (changed_word (Seal v) x) refl
    where
      by_seals : (o : Option ℕ) → changed_word (Seal v) x ≡ o → AtNow parts (quietly (exit_seals x o))
      by_seals None e = tt
      by_seals (Some n) e = (
        to-end-on script now new parts w row part.image part.ending (words (main_place row)) h,
        words (exit_place row) ∙ word,
        e,
      )

  -- The look at the own row.
  pub exit-looks : part.step ≡ exit.Looking → Result
  exit-looks is =
      exit-quiet script past now slot part called reply given next new sound turn kept
      (ap is_plain_call (turn.called_is ∙ its_call))
      (ap (λ (t : Turn ExitStep). t.event) to_is
      ∙ all_by_word (λ t r. t.event ≡ None) (quietly exit.Rest) (λ x. quietly (exit_looked part.ending x)) (λ r. refl)
      (λ x. refl) reply)
      (λ parts. subst (AtNow parts) (sym to_is)
      (all_by_word (λ t r. AtNow parts t) (quietly exit.Rest) (λ x. quietly (exit_looked part.ending x)) (λ r. tt)
      (exit-looked-on parts words) reply))
    where
      its_call : turn.thread.posted ≡ call.Load 1 (main_place row)
      its_call = turn.own_call ∙ ap (exit_step_posted row part.image part.ending) is

      kept : KeepsAll now.win32 turn.mid
      kept =
          let step : CallStep script now.win32 w 0 (call.Load 1 (main_place row)) reply turn.mid =
          subst (λ c. CallStep script now.win32 w 0 c reply turn.mid) its_call turn.posted.step in
          kept-same now.win32 turn.mid step.1

      words : (i : ℕ) → word_in new i ≡ word_in now.win32 i
      words i = exit-words script past now slot part called reply given next new sound turn kept.rest i ∙ kept.words i

      to_is : to ≡ by_word (quietly exit.Rest) (λ x. quietly (exit_looked part.ending x)) reply
      to_is = ap (λ s. exit_step_after row part.ending s (memory_by turn.mid w) reply) is
