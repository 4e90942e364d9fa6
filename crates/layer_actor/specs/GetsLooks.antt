-- The looks of a get: each is quiet, or answers the call with the value that it shows at that step.
use Rattle.std.proofs.Common.{◌≡◌, ℕ, ◌+◌, pos, Bool, true, false, if◌then◌else◌}
use Rattle.std.proofs.Common.{List, Option, Some, None, refl, sym, ap, ◌∙◌, subst}
use Rattle.w32_base.specs.declared.call.Call.{Call}
use Rattle.w32_base.specs.declared.call.Call.TheVariants as call
use Rattle.w32_base.specs.declared.call.Reply.{Reply}
use Rattle.w32_base.specs.declared.call.Reply.TheVariants as answer
use Rattle.w32_base.specs.declared.event.Event.{Event}
use Rattle.w32_base.specs.declared.event.Event.TheVariants as event
use Rattle.w32_base.specs.declared.event.Field.{Field}
use Rattle.w32_base.specs.declared.instr.Instr.{Instr}
use Rattle.w32_base.specs.declared.own.Own.{Own}
use Rattle.script_spec.specs.declared.script.Script.{Script}
use Rattle.vm_spec.specs.Image.{image_of, with_image, with_result}
use Rattle.vm_spec.specs.Step.{CallInstruction}
use Rattle.win32_spec.specs.Call.{CallStep}
use Rattle.win32_spec.specs.Lookup.{memory_by}
use Rattle.win32_spec.specs.LookupLaws.{same}
use Rattle.win32_spec.specs.State.{Win32State}
use Rattle.win32_spec.specs.WordCalls.{word_reply, words_by}
use Rattle.posix_spec.specs.Conditions.{own_call, answered}
use Rattle.posix_spec.specs.OwnSteps.{get_step, told}
use Rattle.posix_spec.specs.Numbers.{is_optional_number}
use Rattle.posix_spec.specs.Run.{PosixStep}
use Rattle.posix_spec.specs.State.{Record, PosixState, record_of}
use Rattle.posix_spec.specs.Step.{posix_step}
use Rattle.layer_spec.specs.Moment.{Moment, Seen}
use Rattle.layer_spec.specs.Turns.{is_live_process}
use Rattle.layer_spec.specs.Words.{word_in}
use Rattle.layer_turns.specs.OwnTurns.{OwnTurn as Turn, can_take, goes_to}
use Rattle.world_spec.specs.AnswerLaws.{own-goes-on}
use Rattle.world_spec.specs.AnswerLawsSteps.{call-steps, next-calls}
use Rattle.world_spec.specs.AnswerLawsTurns.{IsOwnEvent, answer-goes, quiet-goes, same_shown}
use Rattle.world_spec.specs.Calm.{IsCalm, is_plain_call}
use Rattle.world_spec.specs.CalmSteps.{calm-same}
use Rattle.world_spec.specs.LoadLaws.{loaded-word}
use Rattle.world_spec.specs.Notes.{IsAtNext}
use Rattle.world_spec.specs.OwnChanges.{IsOwnChange, own-calm}
use Rattle.world_spec.specs.Owes.{KeepsTurn, LivesOn, OwnTurn}
use Rattle.world_spec.specs.Sound.{IsSoundMoment}
use Rattle.layer_actor.specs.declared.gets.Asked.{Asked}
use Rattle.layer_actor.specs.declared.gets.GetStep.{GetStep}
use Rattle.layer_actor.specs.declared.gets.GetStep.TheVariants as get
use Rattle.layer_actor.specs.declared.gets.Gets.{Gets}
use Rattle.layer_actor.specs.Gets.{field_of, get_answers, get_event, get_posted}
use Rattle.layer_actor.specs.Gets.{get_step_after}
use Rattle.layer_actor.specs.GetsClause.{GetClause, GetsClause, GetsGoes, get_instr}
use Rattle.layer_actor.specs.GetsClause.{gets_thread}

get_own_event : (script : Script) (row : ℕ) (a : Asked) (v : ℕ) → IsOwnEvent script (row + 1) (get_event row a v)
get_own_event script row a v = record { no_key = λ q b e. absurd (cc); given = refl; shown = λ step stands. stands }

-- where the call tells this value, the event is a step
get_steps : (script : Script) (s : PosixState) (p : ℕ) (r : Record) (i : Instr) (field : Field) (v : ℕ)
    → record_of s p ≡ Some r → own_call script r ≡ Some i → told s p r field i ≡ Some v
    → PosixStep script s (event.Get p field (pos v)) (answered s p (pos v))
unfolding posix_step
get_steps script s p r i field v found acts tells =
    call-steps script s p r i (get_step s p field (pos v)) found acts
    ∙ (ap (λ o. if is_optional_number (pos v) o then Some (answered s p (pos v)) else None) tells
    ∙ ap (λ b. if b then Some (answered s p (pos v)) else None) (same v v refl))

module _ {A : Type 0} (script : Script) (row : ℕ) (past : List (Seen A)) (now : Moment A) (slot : ℕ) (called : Call)
    (reply : Reply) (given : Option Event) (next : Option Gets) (new : Win32State)
    (sound : IsSoundMoment script past now) where
  abbrev part_at : Asked → GetStep → Gets
  part_at a s = record { row = row; asked = a; step = s }

  abbrev Result : ℕ → Type 0
  Result w = KeepsTurn get_posted GetsGoes gets_thread
      (GetsClause script row) script past now slot 0 w called reply given
      next new

  abbrev TurnAt : Asked → GetStep → Type 0
  TurnAt a s = OwnTurn get_posted GetsGoes script now.win32 slot 0 (part_at a s) called reply given next new

  -- a look at a word
  module _ (a : Asked) (s : GetStep) (i : ℕ) (loads : get_posted (part_at a s) ≡ call.Load 1 i)
      (turn : TurnAt a s) where
    abbrev w : ℕ
    w = turn.process.number

    abbrev bytes : Own
    bytes = memory_by turn.mid w

    load : (reply ≡ word_reply (words_by now.win32 w 1) i) × (turn.mid ≡ now.win32)
    load = subst (λ c. CallStep script now.win32 w 0 c reply turn.mid) (turn.own_call ∙ loads) turn.posted.step

    calm : IsCalm now.win32 turn.mid
    calm = calm-same now.win32 turn.mid load.1

    lives : (v : ℕ) → is_live_process now.win32 v ≡ true → is_live_process turn.mid v ≡ true
    lives v live = ap (λ s. is_live_process s v) load.1 ∙ live

    plain : is_plain_call called ≡ true
    plain = ap is_plain_call (turn.called_is ∙ (turn.own_call ∙ loads))

    on : LivesOn get_posted GetsGoes script turn.mid w 0 (part_at a s) reply given next new
    on = own-goes-on get_posted GetsGoes script past now slot (part_at a s) called reply given next new sound turn
        (own-calm w now.win32 turn.mid calm lives)

    -- the word that was found
    pub found_word : (x : ℕ) → reply ≡ answer.Word x → x ≡ word_in now.win32 i
    found_word x e = loaded-word script now.win32 sound.formed w 1 i x (sym e ∙ load.0)

    -- It only goes on.
    pub looks_on : (to : GetStep) → get_step_after row a s bytes reply ≡ goes_to to bytes
        → ((after : Moment A) → IsOwnChange w now.win32 after.win32 → after.posix ≡ now.posix
        → GetClause script row after w a to) → Result w
    looks_on to e stands =
        quiet-goes get_posted GetsGoes gets_thread (GetsClause script row) script past now slot
        (part_at a s) called reply
        given next new sound turn calm lives plain (part_at a to) on
        (record {
          part = on.went.part ∙ ap (λ t. part_at a t.part) e;
          own = on.went.own ∙ ap (λ t. t.own) e;
          event = on.went.event ∙ ap (λ t. t.event) e;
        })
        (λ q own answer went. same_shown bytes own (went.own ∙ ap (λ t. t.own) e))
        (λ later after change posix. (refl, stands after change posix))

    -- the answer of an image that can take it
    abbrev taken : ℕ → Turn GetStep
    taken v = record {
      part = get.Done;
      own = with_image bytes (with_result (image_of bytes) (pos v) None);
      event = Some (get_event row a v);
    }

    -- It answers with this value, or the image can't take it.
    pub looks_last : (v : ℕ) → get_step_after row a s bytes reply ≡ get_answers row a bytes v
        → (at : IsAtNext script now w row (CallInstruction (get_instr a)))
        → told now.posix (row + 1) at.noted (field_of a) (get_instr a) ≡ Some v → Result w
    looks_last v e at tells = by_room (can_take bytes) refl
      where
        by_room : (b : Bool) → can_take bytes ≡ b → Result w
        by_room false full = looks_on get.Rest (e ∙ ap (λ b. if b then taken v else goes_to get.Rest bytes) full)
            (λ after change posix. tt)
        by_room true room =
            let t : get_step_after row a s bytes reply ≡ taken v =
            e ∙ ap (λ b. if b then taken v else goes_to get.Rest bytes) room in
            answer-goes get_posted GetsGoes gets_thread (GetsClause script row) script past now slot
            (part_at a s) called
            reply given next new sound turn calm lives plain row at.own at.unmarked at.noted at.found
            (part_at a get.Done) (pos v) (get_event row a v) on
            (record {
              part = on.went.part ∙ ap (λ t. part_at a t.part) t;
              own = on.went.own ∙ ap (λ t. t.own) t;
              event = on.went.event ∙ ap (λ t. t.event) t;
            })
            (get_steps script now.posix (row + 1) at.noted (get_instr a) (field_of a) v at.found
            (next-calls script now w row (get_instr a) at) tells)
            (get_own_event script row a v) (λ later after h. (refl, h))
