-- The turns of a kill of one process for a check only give what they owe: the target's main word answers, and the call
-- has its result with its event.
use Rattle.std.proofs.Common.{◌≡◌, ℕ, ◌+◌, Bool, true, false, if◌then◌else◌, pos, List, [], Option, Some, None}
use Rattle.std.proofs.Common.{is_some, refl, sym, ap, ◌∙◌, subst, arith}
use Rattle.w32_base.specs.declared.call.Call.{Call}
use Rattle.w32_base.specs.declared.call.Call.TheVariants as call
use Rattle.w32_base.specs.declared.call.Reply.{Reply}
use Rattle.w32_base.specs.declared.call.Reply.TheVariants as answer
use Rattle.w32_base.specs.declared.event.Event.{Event}
use Rattle.w32_base.specs.declared.event.Event.TheVariants as event
use Rattle.w32_base.specs.declared.own.Own.{Own}
use Rattle.w32_base.specs.declared.part.After.{After}
use Rattle.w32_base.specs.declared.setup.Setup.{Setup}
use Rattle.script_spec.specs.declared.script.Script.{Script}
use Rattle.vm_spec.specs.Image.{image_of, value_of, with_image, with_result}
use Rattle.win32_spec.specs.Call.{CallStep}
use Rattle.win32_spec.specs.Lookup.{memory_by}
use Rattle.win32_spec.specs.LookupLaws.{differs}
use Rattle.win32_spec.specs.State.{Win32State}
use Rattle.posix_spec.specs.Conditions.{answered}
use Rattle.posix_spec.specs.Numbers.{answer_result}
use Rattle.posix_spec.specs.Run.{PosixStep}
use Rattle.posix_spec.specs.State.{record_of}
use Rattle.layer_spec.specs.Evidence.{MainThread, StandsInPlace}
use Rattle.layer_spec.specs.Moment.{Moment, Seen}
use Rattle.layer_spec.specs.Rows.{main_place}
use Rattle.layer_spec.specs.Turns.{is_live_process}
use Rattle.layer_turns.specs.OwnTurns.{OwnTurn as TurnOf, goes_to, can_take, WentOn}
use Rattle.roster.specs.Turns.{section_handle, by_word, all_by_word}
use Rattle.roster.specs.Words.{is_process_word}
use Rattle.world_spec.specs.AnswerLawsSteps.{next-calls}
use Rattle.world_spec.specs.AnswerLawsTurns.{IsOwnEvent, same_shown, quiet-goes, answer-goes}
use Rattle.world_spec.specs.Calm.{IsCalm, is_plain_call}
use Rattle.world_spec.specs.CalmSteps.{calm-same}
use Rattle.world_spec.specs.ImageLaws.{own-image}
use Rattle.world_spec.specs.LoadLaws.{loaded-word, shown-process}
use Rattle.world_spec.specs.Owes.{LivesOn, OwnTurn, KeepsTurn}
use Rattle.world_spec.specs.Sound.{IsSoundMoment}
use Rattle.world_spec.specs.TurnLaws.{quiet-lives, own_lives}
use Rattle.kill_calls.specs.Kill.{kill_event, kill_step_posted, kill_posted, kill_answered, kill_checked}
use Rattle.kill_calls.specs.Kill.{kill_step_after, kill_after, signal_number}
use Rattle.kill_calls.specs.KillChecked.{check_answer, kill-checks}
use Rattle.kill_calls.specs.KillClause.{own_row, IsAtCheck, KillStepClause, KillClause}
use Rattle.kill_calls.specs.declared.one.KillStep.{KillStep}
use Rattle.kill_calls.specs.declared.one.KillStep.TheVariants as kill
use Rattle.kill_calls.specs.declared.one.KillOne.{KillOne}

-- where a kill goes: by its table
abbrev pub KillGoes : KillOne → Own → Setup → Reply → KillOne → Own → After → Type 0
KillGoes p old setup reply q new answer = WentOn (kill_after p old reply) q new answer

abbrev pub kill_thread : KillOne → ℕ
kill_thread p = 0

-- the kill at another step
abbrev pub at_step : KillOne → KillStep → KillOne
at_step p s = record p { step = s }

module _ {A : Type 0} (script : Script) (past : List (Seen A)) (now : Moment A) (slot : ℕ) (part : KillOne)
    (called : Call) (reply : Reply) (given : Option Event) (next : Option KillOne) (new : Win32State)
    (sound : IsSoundMoment script past now)
    (turn : OwnTurn kill_posted KillGoes script now.win32 slot 0 part called reply given next new) where
  abbrev w : ℕ
  w = turn.process.number

  abbrev Result : Type 0
  Result = KeepsTurn kill_posted KillGoes kill_thread (KillClause script) script past now slot 0 w called reply given
      next new

  -- the bytes over which the part goes on
  abbrev bytes : Own
  bytes = memory_by turn.mid w

  -- the turn of its table
  abbrev goes_by : TurnOf KillStep
  goes_by = kill_step_after part part.step bytes reply

  module _ (at : part.step ≡ kill.Checking) (h : IsAtCheck script now w part) where
    its_call : kill_posted part ≡ call.Load section_handle (main_place part.target)
    its_call = ap (kill_step_posted part.target) at

    loads : CallStep script now.win32 w 0 (call.Load section_handle (main_place part.target)) reply turn.mid
    loads = subst (λ c. CallStep script now.win32 w 0 c reply turn.mid) (turn.own_call ∙ its_call) turn.posted.step

    calm : IsCalm now.win32 turn.mid
    calm = calm-same now.win32 turn.mid loads.1

    lives : (v : ℕ) → is_live_process now.win32 v ≡ true → is_live_process turn.mid v ≡ true
    lives v live = ap (λ s. is_live_process s v) loads.1 ∙ live

    plain : is_plain_call called ≡ true
    plain = ap is_plain_call (turn.called_is ∙ (turn.own_call ∙ its_call))

    on : LivesOn kill_posted KillGoes script turn.mid w 0 part reply given next new
    on = quiet-lives kill_posted KillGoes script past now slot 0 part called reply given next new sound turn calm lives
        plain

    -- where the table says so, the part rests
    rests : goes_by ≡ goes_to kill.Rest bytes → Result
    rests is =
        quiet-goes kill_posted KillGoes kill_thread (KillClause script) script past now slot part called reply given
        next
        new sound turn calm lives plain (at_step part kill.Rest) on
        (record {
          part = on.went.part ∙ ap (λ (t : TurnOf KillStep). at_step part t.part) is;
          own = on.went.own ∙ ap (λ (t : TurnOf KillStep). t.own) is;
          event = on.went.event ∙ ap (λ (t : TurnOf KillStep). t.event) is;
        }) (λ q own answer went. same_shown bytes own (went.own ∙ ap (λ (t : TurnOf KillStep). t.own) is))
        (λ later after change posix. tt)

    -- whether there is a process of the target's number
    abbrev there : Bool
    there = is_some (record_of now.posix (part.target + 1))

    -- the values of the operands by the record
    image_is : h.next.noted.image ≡ image_of (memory_by now.win32 w)
    image_is =
        own-image script now.win32 now.posix w (own_row part) sound.decodes h.next.own
        (own_lives kill_posted KillGoes script past now slot 0 part called reply given next new sound turn) h.next.noted
        h.next.found

    event_is : kill_event part.by part.target part.signal (check_answer there)
        ≡ event.Kill (own_row part + 1) (pos (part.target + 1)) (pos 0) (check_answer there)
    event_is =
        ap (λ k. event.Kill k (pos (part.target + 1)) (pos (signal_number part.signal)) (check_answer there)) h.by_is
        ∙ ap (λ o. event.Kill (own_row part + 1) (pos (part.target + 1)) (pos (signal_number o)) (check_answer there))
        h.no_signal

    stepped : PosixStep script now.posix (kill_event part.by part.target part.signal (check_answer there))
        (answered now.posix (own_row part + 1) (answer_result (check_answer there)))
    stepped =
        subst (λ e. PosixStep script now.posix e
        (answered now.posix (own_row part + 1) (answer_result (check_answer there)))) (sym event_is)
        (kill-checks script now.posix (own_row part + 1) (part.target + 1) h.next.noted h.target_operand
        h.signal_operand sound.posix h.next.found
        (next-calls script now w (own_row part) _ h.next)
        (differs (part.target + 1) 0 (λ e. omega (arith, e)))
        (ap (λ i. value_of i h.target_operand) image_is ∙ h.target_is)
        (ap (λ i. value_of i h.signal_operand) image_is ∙ h.signal_is))

    fits : IsOwnEvent script (own_row part + 1) (kill_event part.by part.target part.signal (check_answer there))
    fits = record {
      no_key = λ p b e. absurd (cc);
      given = refl;
      shown = λ step place. subst (λ k. StandsInPlace step (MainThread k)) (sym h.by_is) place;
    }

    -- with the answer of the POSIX machine, where the image can take it or not
    abbrev taken : Bool → TurnOf KillStep
    taken b = if b then record {
      part = kill.Done;
      own = with_image bytes (with_result (image_of bytes) (answer_result (check_answer there)) None);
      event = Some (kill_event part.by part.target part.signal (check_answer there));
    } else goes_to kill.Rest bytes

    answers_on : goes_by ≡ kill_answered part kill.Done bytes (check_answer there) → Result
    answers_on is = by_room (can_take bytes) is
      where
        by_room : (b : Bool) → goes_by ≡ taken b → Result
        by_room false goes = rests goes
        by_room true goes =
            answer-goes kill_posted KillGoes kill_thread (KillClause script) script past now slot part called reply
            given next new sound turn calm lives plain (own_row part) h.next.own h.next.unmarked h.next.noted
            h.next.found (at_step part kill.Done) (answer_result (check_answer there))
            (kill_event part.by part.target part.signal (check_answer there)) on
            (record {
              part = on.went.part ∙ ap (λ (t : TurnOf KillStep). at_step part t.part) goes;
              own = on.went.own ∙ ap (λ (t : TurnOf KillStep). t.own) goes;
              event = on.went.event ∙ ap (λ (t : TurnOf KillStep). t.event) goes;
            }) stepped fits (λ later after between. between)

    -- the word that is found tells whether there is a process
    tells : (x : ℕ) → reply ≡ answer.Word x → is_process_word x ≡ there
    tells x e =
        ap is_process_word
        (loaded-word script now.win32 sound.formed w section_handle (main_place part.target) x (sym e ∙ loads.0))
        ∙ shown-process script now.win32 now.posix part.target (sound.decodes.rows part.target h.from)

    by_table : by_word (goes_to kill.Rest bytes) (kill_checked part bytes) reply ≡ goes_by
    by_table = sym (ap (λ s. kill_step_after part s bytes reply) at)

    pub check-turn : Result
    check-turn =
        all_by_word (λ t r. reply ≡ r → goes_by ≡ t → Result) (goes_to kill.Rest bytes) (kill_checked part bytes)
        (λ r e is. rests is)
        (λ x e is. answers_on (is ∙ ap (λ b. kill_answered part kill.Done bytes (check_answer b)) (tells x e)))
        reply refl (sym by_table)

  -- A wait for nothing is never carried out.
  waits_never : kill_posted part ≡ call.WaitAny [] → Result
  waits_never is = absurd (
      subst (λ c. CallStep script now.win32 w 0 c reply turn.mid) (turn.own_call ∙ is) turn.posted.step)

  pub kill-turn : KillClause script past now w part → Result
  kill-turn h = by_step part.step refl h
    where
      by_step : (s : KillStep) → part.step ≡ s → KillStepClause script now w part s → Result
      by_step kill.Checking at m = check-turn at m
      by_step (kill.Posting x) at m = absurd m
      by_step (kill.Ending x) at m = absurd m
      by_step kill.Done at m = waits_never (ap (kill_step_posted part.target) at)
      by_step kill.Rest at m = waits_never (ap (kill_step_posted part.target) at)
