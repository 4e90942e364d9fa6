-- Each turn of the start of an image gives what it owes: none has an event, and each call makes a steady change.
use Rattle.std.proofs.Common.{◌≡◌, inl, inr, ℕ, ◌+◌, ◌<◌, Bool, true, false, ◌&&◌, nat_eq, if◌then◌else◌}
use Rattle.std.proofs.Common.{List, Option, Some, None, refl, sym, ap, ◌∙◌, subst, arith}
use Rattle.std.proofs.lemmas.Bool.{cases_lt, cond_both}
use Rattle.w32_base.specs.declared.call.Call.{Call}
use Rattle.w32_base.specs.declared.call.Reply.{Reply}
use Rattle.w32_base.specs.declared.call.Reply.TheVariants as answer
use Rattle.w32_base.specs.declared.event.Event.{Event}
use Rattle.w32_base.specs.declared.own.Own.{Own}
use Rattle.script_spec.specs.declared.script.Script.{Script}
use Rattle.win32_spec.specs.Call.{CallStep}
use Rattle.win32_spec.specs.Driven.{Parts}
use Rattle.win32_spec.specs.Handles.{handle_of}
use Rattle.win32_spec.specs.Lookup.{process_in, number_of, number_in, memory_by, object_number, object_of}
use Rattle.win32_spec.specs.LookupLaws.{same, not_none}
use Rattle.win32_spec.specs.Named.{handles_by, named_by, object_by, object_at}
use Rattle.win32_spec.specs.ProcessCalls.{ResumeStep, OpenStep}
use Rattle.win32_spec.specs.Ready.{is_ready}
use Rattle.win32_spec.specs.State.{ProcessObject, Win32State}
use Rattle.layer_spec.specs.Moment.{Moment, Seen, seen_with}
use Rattle.layer_spec.specs.Turns.{is_live_process, is_process}
use Rattle.roster.specs.Turns.{roster_handle, all_by_word, all_by_done}
use Rattle.world_spec.specs.Calm.{is_plain_call}
use Rattle.world_spec.specs.CloseLaws.{close-steady}
use Rattle.world_spec.specs.Made.{is_new_handle, opener_of}
use Rattle.world_spec.specs.Notes.{IsBetweenCalls}
use Rattle.world_spec.specs.OpenLaws.{HasFirst, handles_told, OpensHandles, OpensProcess, event-opens, mutex-opens}
use Rattle.world_spec.specs.OpenLaws.{pipe-opens, open-opens, process-opens}
use Rattle.world_spec.specs.Owes.{OwnTurn, KeepsTurn}
use Rattle.world_spec.specs.ResumeLaws.{steady_same, MakesCount, resume-steady}
use Rattle.world_spec.specs.SeenStep.{turn_step}
use Rattle.world_spec.specs.Sound.{IsSoundMoment}
use Rattle.world_spec.specs.Steady.{MakesSteady, calm-steady}
use Rattle.world_spec.specs.TableTurns.{between-quiet, table-words, table-handles, table-objects, table-turn}
use Rattle.world_spec.specs.TurnLaws.{own_lives}
use Rattle.w32_base.specs.declared.entry.Directive.TheVariants as directive
use Rattle.layer_actor.specs.declared.start.StartStep.{StartStep}
use Rattle.layer_actor.specs.declared.start.StartStep.TheVariants as start
use Rattle.layer_actor.specs.declared.start.Start.{Start}
use Rattle.layer_actor.specs.Start.{start_step_posted, start_posted, by_handle, by_count, is_first}
use Rattle.layer_actor.specs.Start.{start_opened, start_step_after}
use Rattle.layer_actor.specs.StartReplies.{on_handle, on_two, on_count}
use Rattle.layer_actor.specs.StartClause.{start_table, StartGoes, start_thread, IsEquipped, HoldsItself}
use Rattle.layer_actor.specs.StartClause.{StartStepClause, StartClause}

module _ {A : Type 0} (script : Script) (made : List (Seen A) → Moment A → ℕ → Type 0)
    (made-rests : (past : List (Seen A)) (now : Moment A) → IsSoundMoment script past now → (slot w : ℕ)
    → number_in now.win32 slot ≡ Some w → is_ready now.win32 slot 0 ≡ true → made past now w
    → is_first (memory_by now.win32 w) ≡ false)
    (row : ℕ) (past : List (Seen A)) (now : Moment A) (slot image : ℕ) (called : Call) (reply : Reply)
    (given : Option Event) (next : Option Start) (new : Win32State) (sound : IsSoundMoment script past now) where
  abbrev at : StartStep → Start
  at s = record { image = image; step = s }

  abbrev TurnAt : StartStep → Type 0
  TurnAt s = OwnTurn start_posted StartGoes script now.win32 slot 0 (at s) called reply given next new

  abbrev Result : ℕ → Type 0
  Result w = KeepsTurn start_posted StartGoes start_thread (StartClause made row) script past now slot 0 w called reply
      given next new

  -- the moment after the turn, and what is seen then
  abbrev after : Parts A → Moment A
  after parts = record { win32 = new; parts = parts; posix = now.posix }

  abbrev later : Parts A → List (Seen A)
  later parts = seen_with (turn_step past now (after parts) slot 0 called reply None)

  module _ (s : StartStep) (turn : TurnAt s) where
    abbrev w : ℕ
    w = turn.process.number

    live : is_live_process now.win32 w ≡ true
    live = own_lives start_posted StartGoes script past now slot 0 (at s) called reply given next new sound turn

    acts : number_in now.win32 slot ≡ Some w
    acts = ap number_of turn.posted.thread.process

    carried_out : CallStep script now.win32 w 0 (start_step_posted image s) reply turn.mid
    carried_out = subst (λ c. CallStep script now.win32 w 0 c reply turn.mid) turn.own_call turn.posted.step

    -- the handle that was answered was answered to the main thread
    answered_own : (parts : Parts A) (h : ℕ) → reply ≡ answer.Handle h → opener_of (later parts) w h ≡ 0
    answered_own parts h told =
        let both : (is_process (process_in now.win32.processes slot) w && is_new_handle reply h) ≡ true =
        ap (λ o. is_process o w && is_new_handle reply h) turn.posted.thread.process
        ∙ (ap (λ r. nat_eq w w && is_new_handle r h) told ∙ rw (same w w refl, same h h refl) refl) in
        subst (λ b. (if b then 0 else opener_of past w h) ≡ 0) (sym both) refl

    -- whose a handle was that is the main thread's own, it still is
    still_own : (parts : Parts A) (h : ℕ) → opener_of past w h ≡ 0 → opener_of (later parts) w h ≡ 0
    still_own parts h own =
        by_test (is_process (process_in now.win32.processes slot) w && is_new_handle reply h)
      where
        by_test : (b : Bool) → (if b then 0 else opener_of past w h) ≡ 0
        by_test true = refl
        by_test false = own

    module _ (makes : MakesSteady past now.win32 slot 0 turn.mid) where
      keeps : is_plain_call (start_step_posted image s) ≡ true
          → ((parts : Parts A) → StartStepClause made row image (later parts) (after parts) w
          (start_step_after s (memory_by turn.mid w) reply)) → Result w
      keeps plain stands =
          table-turn start_posted start_table start_thread (StartClause made row) script past now slot 0 (at s) called
          reply given next new sound turn makes (ap is_plain_call (turn.called_is ∙ turn.own_call) ∙ plain) stands

      between : (parts : Parts A) → IsBetweenCalls now w row → IsBetweenCalls (after parts) w row
      between parts h =
          between-quiet now (after parts) w row
          (table-words start_posted start_table start_thread (StartClause made row) script past now slot 0 (at s) called
          reply given next new sound turn makes) refl h

      named_after : (h : ℕ) → named_by new w h ≡ named_by turn.mid w h
      named_after h = ap (λ l. handle_of l h)
          (table-handles start_posted start_table start_thread (StartClause made row) script past now slot 0 (at s)
          called reply given next new sound turn makes w)

      objects_after : new.objects ≡ turn.mid.objects
      objects_after =
          table-objects start_posted start_table start_thread (StartClause made row) script past now slot 0 (at s)
          called reply given next new sound turn makes

      equipped : (parts : Parts A) (k n : ℕ) → IsEquipped now row image w k
          → (HasFirst (handles_by now.win32 w) k → HasFirst (handles_by turn.mid w) n)
          → IsEquipped (after parts) row image w n
      equipped parts k n h more = record {
        itself = h.itself;
        between = between parts h.between;
        handles = λ j from most.
            let x = more h.handles j from most in (x.0, named_after j ∙ x.1);
      }

      held : (parts : Parts A) (h : ℕ) → (names : ℕ) → 8 < h → named_by turn.mid w h ≡ Some names
          → object_of turn.mid.objects (object_number names) ≡ Some (ProcessObject w)
          → opener_of (later parts) w h ≡ 0 → HoldsItself (later parts) new w h
      held parts h names high named object opener = record {
        high = high;
        names = names;
        named = named_after h ∙ named;
        object = ap (λ xs. object_of xs (object_number names)) objects_after ∙ object;
        opener = opener;
      }

    -- the change of a call that opens handles
    opened : OpensHandles now.win32 w reply turn.mid → MakesSteady past now.win32 slot 0 turn.mid
    opened opens = record {
      steady = calm-steady past now.win32 (directive.Turn slot 0) turn.mid opens.calm;
      lives = opens.lives;
    }

    -- a turn that opens so many handles more
    more : (opens : OpensHandles now.win32 w reply turn.mid) (parts : Parts A) (k n : ℕ) → handles_told reply ≡ n
        → IsEquipped now row image w k → IsEquipped (after parts) row image w (k + n)
    more opens parts k n told h =
        subst (λ x. IsEquipped (after parts) row image w (k + x)) told
        (equipped (opened opens) parts k (k + handles_told reply) h (opens.first k))

    -- the object that the handle on itself names
    names_itself : (h : ℕ) → HoldsItself past now.win32 w h → object_by now.win32 w h ≡ Some (ProcessObject w)
    names_itself h is = ap (object_at now.win32) is.named ∙ is.object

    -- after a resume it has the handle still
    resumed : (count : MakesCount past now.win32 slot 0 turn.mid) (parts : Parts A) (h : ℕ)
        → HoldsItself past now.win32 w h → HoldsItself (later parts) new w h
    resumed count parts h is =
        held count.makes parts h is.names is.high (ap (λ l. handle_of l h) (count.handles w) ∙ is.named)
        (ap (λ xs. object_of xs (object_number is.names)) count.objects ∙ is.object) (still_own parts h is.opener)

  opening : (turn : TurnAt start.Opening)
      → StartStepClause made row image past now turn.process.number start.Opening → Result turn.process.number
  opening turn h =
      let mid : turn.mid ≡ now.win32 = (carried_out start.Opening turn).1 in
      let makes = steady_same past now.win32 slot 0 turn.mid mid in
      keeps start.Opening turn makes refl (λ parts.
      all_by_word (λ q r. StartStepClause made row image (later parts) (after parts) turn.process.number q) start.Rest
      (λ x. start_opened (memory_by turn.mid turn.process.number)) (λ r. tt) (λ x. elim h [
        | inl first ↦ cond_both (is_first (memory_by turn.mid turn.process.number)) start.MakingWake start.Rest
            (StartStepClause made row image (later parts) (after parts) turn.process.number)
            (λ _. equipped start.Opening turn makes parts 3 3 first
            (λ has. subst (λ s. HasFirst (handles_by s turn.process.number) 3) (sym mid) has)) (λ _. tt)
        | inr other ↦
            let rests : is_first (memory_by turn.mid turn.process.number) ≡ false =
            ap (λ s. is_first (memory_by s turn.process.number)) mid
            ∙ made-rests past now sound slot turn.process.number (acts start.Opening turn) turn.ready other in
            subst (λ b. StartStepClause made row image (later parts) (after parts) turn.process.number
            (if b then start.MakingWake else start.Rest)) (sym rests) tt
      ]) reply)

  -- the steps that open the objects
  making : (s next_step : StartStep) (turn : TurnAt s) → is_plain_call (start_step_posted image s) ≡ true
      → ((own : Own) → start_step_after s own reply ≡ by_handle start.Rest (λ h. next_step) reply) → (k : ℕ)
      → OpensHandles now.win32 turn.process.number reply turn.mid
      → ((parts : Parts A) → IsEquipped (after parts) row image turn.process.number (k + 1)
      → StartStepClause made row image (later parts) (after parts) turn.process.number next_step)
      → IsEquipped now row image turn.process.number k → Result turn.process.number
  making s next_step turn plain goes k opens clause h =
      keeps s turn (opened s turn opens) plain (λ parts.
      subst (StartStepClause made row image (later parts) (after parts) turn.process.number)
      (sym (goes (memory_by turn.mid turn.process.number)))
      (on_handle (StartStepClause made row image (later parts) (after parts) turn.process.number) tt (λ h. next_step)
      reply (λ j told. clause parts (more s turn opens parts k 1 (ap handles_told told) h))))

  piping : (turn : TurnAt start.MakingPipe) → IsEquipped now row image turn.process.number 5
      → Result turn.process.number
  piping turn h =
      let m = h.handles roster_handle (omega arith) (omega arith) in
      let opens = pipe-opens now.win32 turn.process.number (live start.MakingPipe turn) m.0 m.1 reply turn.mid
      (carried_out start.MakingPipe turn) in
      keeps start.MakingPipe turn (opened start.MakingPipe turn opens) refl (λ parts.
      on_two (StartStepClause made row image (later parts) (after parts) turn.process.number) tt start.MakingChange
      reply (λ a b told. more start.MakingPipe turn opens parts 5 2 (ap handles_told told) h))

  -- the handle on itself: the lowest free one is above 8
  itself : (turn : TurnAt start.OpeningItself) → IsEquipped now row image turn.process.number 8
      → Result turn.process.number
  itself turn h =
      let w : ℕ = turn.process.number in
      let m = h.handles roster_handle (omega arith) (omega arith) in
      let step : OpenStep now.win32 w w reply turn.mid =
      subst (λ v. OpenStep now.win32 w v reply turn.mid) h.itself (carried_out start.OpeningItself turn) in
      let opens = open-opens now.win32 w (live start.OpeningItself turn) m.0 m.1 reply turn.mid w step in
      let makes = opened start.OpeningItself turn opens in
      keeps start.OpeningItself turn makes refl (λ parts.
      on_handle (StartStepClause made row image (later parts) (after parts) w) tt (λ k. start.ResumingSignals k)
      reply (λ k told.
      let lives = live start.OpeningItself turn in
      let is = process-opens script now.win32 sound.formed w w lives reply turn.mid step k told in (
        between start.OpeningItself turn makes parts h.between,
        held start.OpeningItself turn makes parts k is.names (above k is) is.named is.object
            (answered_own start.OpeningItself turn parts k told),
      )))
    where
      above : (k : ℕ) → OpensProcess now.win32 turn.process.number turn.process.number k turn.mid → 8 < k
      above k is = elim (cases_lt 8 k) [
        | inl high ↦ high
        | inr low ↦
            let at = h.handles k is.lowest.from_one low in
            absurd (not_none (handle_of (handles_by now.win32 turn.process.number) k) at.0 at.1 is.lowest.free)
      ]

  -- the steps that let a thread go
  resuming : (s next_step : StartStep) (turn : TurnAt s) → is_plain_call (start_step_posted image s) ≡ true
      → ((own : Own) → start_step_after s own reply ≡ by_count start.Rest next_step reply) → (k x : ℕ)
      → ResumeStep now.win32 turn.process.number k x reply turn.mid
      → ((parts : Parts A) → IsBetweenCalls (after parts) turn.process.number row
      → HoldsItself (later parts) new turn.process.number k
      → StartStepClause made row image (later parts) (after parts) turn.process.number next_step)
      → IsBetweenCalls now turn.process.number row → HoldsItself past now.win32 turn.process.number k
      → Result turn.process.number
  resuming s next_step turn plain goes k x step clause h is =
      let count = resume-steady past now.win32 slot 0 turn.process.number (acts s turn) k (names_itself s turn k is) x
      reply turn.mid step in
      keeps s turn count.makes plain (λ parts.
      subst (StartStepClause made row image (later parts) (after parts) turn.process.number)
      (sym (goes (memory_by turn.mid turn.process.number)))
      (on_count (StartStepClause made row image (later parts) (after parts) turn.process.number) tt next_step reply
      (clause parts (between s turn count.makes parts h) (resumed s turn count parts k is))))

  closing : (k : ℕ) (turn : TurnAt (start.Closing k))
      → StartStepClause made row image past now turn.process.number (start.Closing k) → Result turn.process.number
  closing k turn h =
      let s = start.Closing k in
      let makes = close-steady script past now.win32 sound.formed sound.hosted slot 0 turn.process.number k
      (acts s turn) h.1.high h.1.opener reply turn.mid (carried_out s turn) in
      keeps s turn makes refl (λ parts.
      all_by_done (StartStepClause made row image (later parts) (after parts) turn.process.number) start.Rest start.Done
      tt (between s turn makes parts h.0) reply)

  -- each step's
  pub start-goes : (s : StartStep) (turn : TurnAt s)
      → StartStepClause made row image past now turn.process.number s → Result turn.process.number
  start-goes start.Opening turn h = opening turn h
  start-goes start.MakingWake turn h =
      let m = h.handles roster_handle (omega arith) (omega arith) in
      making start.MakingWake start.MakingMutex turn refl (λ own. refl) 3
      (event-opens now.win32 turn.process.number (live start.MakingWake turn) m.0 m.1 reply turn.mid false false
      (carried_out start.MakingWake turn)) (λ parts equipped. equipped) h
  start-goes start.MakingMutex turn h =
      let m = h.handles roster_handle (omega arith) (omega arith) in
      making start.MakingMutex start.MakingPipe turn refl (λ own. refl) 4
      (mutex-opens now.win32 turn.process.number (live start.MakingMutex turn) m.0 m.1 reply turn.mid 0 false
      (carried_out start.MakingMutex turn)) (λ parts equipped. equipped) h
  start-goes start.MakingPipe turn h = piping turn h
  start-goes start.MakingChange turn h =
      let m = h.handles roster_handle (omega arith) (omega arith) in
      making start.MakingChange start.OpeningItself turn refl (λ own. refl) 7
      (event-opens now.win32 turn.process.number (live start.MakingChange turn) m.0 m.1 reply turn.mid false false
      (carried_out start.MakingChange turn)) (λ parts equipped. equipped) h
  start-goes start.OpeningItself turn h = itself turn h
  start-goes (start.ResumingSignals k) turn h =
      resuming (start.ResumingSignals k) (start.ResumingWatcher k) turn refl (λ own. refl) k 1
      (carried_out (start.ResumingSignals k) turn) (λ parts stands holds. (stands, holds)) h.0 h.1
  start-goes (start.ResumingWatcher k) turn h =
      resuming (start.ResumingWatcher k) (start.Closing k) turn refl (λ own. refl) k 2
      (carried_out (start.ResumingWatcher k) turn) (λ parts stands holds. (stands, holds)) h.0 h.1
  start-goes (start.Closing k) turn h = closing k turn h
  start-goes start.Done turn h = absurd (carried_out start.Done turn)
  start-goes start.Rest turn h = absurd (carried_out start.Rest turn)
