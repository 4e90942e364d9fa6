-- A driven machine keeps that each thread has posted the call of its own part, which serves that thread.
use Rattle.std.proofs.Common.{◌≡◌, ◌≢◌, ◌⊎◌, inl, inr, ℕ, true, Option, Some, None, MatchOption, refl, sym, ap, ◌∙◌}
use Rattle.std.proofs.Common.{subst}
use Rattle.std.proofs.lemmas.Bool.{cases_eq}
use Rattle.w32_base.specs.Part.{KeepsLengths}
use Rattle.w32_base.specs.declared.call.Call.{Call}
use Rattle.w32_base.specs.declared.call.Reply.{Reply}
use Rattle.w32_base.specs.declared.entry.Directive.{Directive}
use Rattle.w32_base.specs.declared.entry.Directive.TheVariants as directive
use Rattle.w32_base.specs.declared.entry.Outcome.{Outcome}
use Rattle.w32_base.specs.declared.own.Own.{Own}
use Rattle.w32_base.specs.declared.part.After.{After}
use Rattle.w32_base.specs.declared.setup.Setup.{Setup}
use Rattle.script_spec.specs.declared.script.Script.{Script}
use Rattle.win32_spec.specs.State.{Thread, Process, Win32State}
use Rattle.win32_spec.specs.Lookup.{process_of, is_live, process_in, thread_in, thread_of, thread_at, number_of}
use Rattle.win32_spec.specs.Lookup.{number_in, memory_by, change_process, change_thread}
use Rattle.win32_spec.specs.Ready.{is_ready}
use Rattle.win32_spec.specs.Making.{opening_call}
use Rattle.win32_spec.specs.Run.{StepBy}
use Rattle.win32_spec.specs.Driven.{part_at, DrivenState, Serves, AreServed, PartGoes, ReadyTurnOf, DrivenBy}
use Rattle.win32_spec.specs.WellFormed.{IsFormed, IsWellFormed}
use Rattle.win32_spec.specs.LookupLaws.{same_some, process_of-change_same, process_in-found}
use Rattle.win32_spec.specs.FormedLaws.{live_found}
use Rattle.win32_spec.specs.Tame.{posted_by}
use Rattle.win32_spec.specs.CallEffects.{by_bool}
use Rattle.win32_spec.specs.MemoryEffects.{HaveRegisters}
use Rattle.win32_spec.specs.TerminalEffects.{effect_of_call}
use Rattle.win32_spec.specs.StepLaws.{acting, wellformed-step}
use Rattle.win32_spec.specs.AliveLaws.{alive-effect}
use Rattle.win32_spec.specs.PostedLaws.{thread_in-same, posted_found}
use Rattle.win32_spec.specs.DrivenLaws.{driven_step}
use Rattle.win32_spec.specs.ServedLaws.{process_in-is, served-follows}

-- what holds of a value that is there
match_some : {X : Type 0} (A : Type 0) (B : X → Type 0) (o : Option X) (x : X) → o ≡ Some x → B x → MatchOption o A B
match_some A B o x e b = subst (λ k. MatchOption k A B) (sym e) b

-- two slots with the same process are one
same_slot : (script : Script) (s : Win32State) (a b w : ℕ) → IsFormed script s → number_in s a ≡ Some w
    → number_in s b ≡ Some w → a ≡ b
same_slot script s a b w h e f = by_answers (process_in s.processes a) (process_in s.processes b) refl refl e f
  where
    by_answers : (o n : Option Process) → process_in s.processes a ≡ o → process_in s.processes b ≡ n
        → number_of o ≡ Some w → number_of n ≡ Some w → a ≡ b
    by_answers None n i j k l = absurd (cc)
    by_answers (Some p) None i j k l = absurd (cc)
    by_answers (Some p) (Some q) i j k l =
        let x = process_in-found 1 s.next s.processes a p h.processes i in
        let y = process_in-found 1 s.next s.processes b q h.processes j in
        let n : p.number ≡ q.number = cc in
        let g : p ≡ q = same_some (process_of s.processes q.number) p q (ap (process_of s.processes) (sym n) ∙ x.0)
        y.0 in
        sym x.2 ∙ ap (λ (z : Process). z.slot) g ∙ y.2

module _ {P : Type 0} (posted_of : P → Call) (goes : P → Own → Setup → Reply → P → Own → After → Type 0)
    (opening : P → Type 0) (slot_of thread_of_part : P → ℕ)
    (begins : (p : P) → opening p → posted_of p ≡ opening_call)
    (keeps_slot : (p q : P) (o n : Own) (s : Setup) (r : Reply) (a : After) → goes p o s r q n a
    → slot_of q ≡ slot_of p)
    (keeps_thread : (p q : P) (o n : Own) (s : Setup) (r : Reply) (a : After) → goes p o s r q n a
    → thread_of_part q ≡ thread_of_part p)
    (keeps_lengths : (p q : P) (o n : Own) (s : Setup) (r : Reply) (a : After) → goes p o s r q n a → KeepsLengths o n)
    (script : Script) (registers : HaveRegisters script) (d : DrivenState P) (h : IsWellFormed script d.win32)
    (served : AreServed posted_of goes opening slot_of thread_of_part d.win32 d.parts) (new : DrivenState P) where
  -- a place is served after the step
  abbrev PlaceServed : ℕ → ℕ → Type 0
  PlaceServed a b = MatchOption (thread_at new.win32 a b) (part_at new.parts a b ≡ None)
      (λ x. (part : P) × (part_at new.parts a b ≡ Some part)
      × Serves posted_of goes opening slot_of thread_of_part a b x part)

  -- the part that goes on serves its thread
  module _ (slot t : ℕ) (called : Option Call) (came : Outcome)
      (step : StepBy script d.win32 (directive.Turn slot t) called came new.win32)
      (of : ReadyTurnOf posted_of goes opening slot_of thread_of_part script d slot t called came new)
      (formed : IsWellFormed script new.win32) where
    -- the part that it had served its thread
    part_served : (slot_of of.4.part ≡ slot) × (thread_of_part of.4.part ≡ t)
    part_served = by_thread (thread_at d.win32 slot t) there (served slot t)
      where
        there : thread_at d.win32 slot t ≡ Some of.4.thread
        there = ap (λ o. thread_of o t) of.4.posted.thread.process ∙ of.4.posted.thread.thread

        by_thread : (o : Option Thread) → o ≡ Some of.4.thread → MatchOption o (part_at d.parts slot t ≡ None)
            (λ x. (part : P) × (part_at d.parts slot t ≡ Some part)
            × Serves posted_of goes opening slot_of thread_of_part slot t x part)
            → (slot_of of.4.part ≡ slot) × (thread_of_part of.4.part ≡ t)
        by_thread None e m = absurd (cc)
        by_thread (Some x) e m =
            let g : m.0 ≡ of.4.part = same_some (part_at d.parts slot t) m.0 of.4.part m.1 of.4.before in
            (ap slot_of (sym g) ∙ m.2.its_slot, ap thread_of_part (sym g) ∙ m.2.its_thread)

    goes_served : is_live (process_of of.4.mid.processes of.4.process.number) ≡ true
        → (next : P) × PartGoes posted_of goes opening slot_of thread_of_part script of.4.mid of.4.process.number t
        of.4.part of.1 new.last next new.win32
        × (part_at new.parts slot t ≡ Some next)
        → MatchOption (thread_at new.win32 slot t) (part_at new.parts slot t ≡ None)
        (λ x. (part : P) × (part_at new.parts slot t ≡ Some part)
        × Serves posted_of goes opening slot_of thread_of_part slot t x part)
    goes_served lives m =
        let w : ℕ = of.4.process.number in
        let before = process_in-found 1 d.win32.next d.win32.processes slot of.4.process h.formed.processes
        of.4.posted.thread.process in
        let at = acting script d.win32 slot t of.4.process of.4.thread h.formed of.4.posted.thread in
        let effect = effect_of_call script d.win32 w t of.4.thread.posted of.1 of.4.mid registers h.formed at.live
        at.few of.4.posted.step in
        let r = live_found (process_of of.4.mid.processes w) lives in
        let stays = alive-effect script d.win32 w t of.4.thread.posted of.4.mid h at.live w r.0 r.1 of.4.process
        before.0 r.2 effect in
        let y = posted_found (thread_in r.0.threads t) of.4.thread.posted
        (stays.posted t ∙ ap posted_by of.4.posted.thread.thread) in
        let q : Process = record r.0
        { own = m.1.own; threads = change_thread t (λ x. record x { posted = posted_of m.0 }) r.0.threads } in
        let found : process_of new.win32.processes w ≡ Some q =
        ap (λ (n : Win32State). process_of n.processes w) m.1.after
        ∙ process_of-change_same w
        (λ x. record x { threads = change_thread t (λ y. record y { posted = posted_of m.0 }) x.threads })
        (λ x. refl)
        (change_process w (λ x. record x { own = m.1.own }) of.4.mid.processes) (record r.0 { own = m.1.own })
        (process_of-change_same w (λ x. record x { own = m.1.own }) (λ x. refl) of.4.mid.processes r.0 r.1) in
        let there : process_in new.win32.processes slot ≡ Some q =
        ap (process_in new.win32.processes) (sym before.2 ∙ sym stays.slot)
        ∙ process_in-is script new.win32 w q formed.formed found r.2 in
        let thread : thread_at new.win32 slot t ≡ Some (record y.0 { posted = posted_of m.0 }) =
        ap (λ o. thread_of o t) there
        ∙ thread_in-same t (λ x. record x { posted = posted_of m.0 }) (λ x. refl) r.0.threads y.0 y.1 in
        let part = part_served in
        match_some (part_at new.parts slot t ≡ None)
        (λ x. (part : P) × (part_at new.parts slot t ≡ Some part)
        × Serves posted_of goes opening slot_of thread_of_part slot t x part) (thread_at new.win32 slot t)
        (record y.0 { posted = posted_of m.0 }) thread (
          m.0,
          m.2,
          record {
            posted = refl;
            its_slot = keeps_slot of.4.part m.0 (memory_by of.4.mid w) m.1.own script.setup of.1 m.1.answer m.1.went
                ∙ part.0;
            its_thread = keeps_thread of.4.part m.0 (memory_by of.4.mid w) m.1.own script.setup of.1 m.1.answer m.1.went
                ∙ part.1;
          },
        )

    -- and so does each part after a turn
    turn_served : AreServed posted_of goes opening slot_of thread_of_part new.win32 new.parts
    turn_served a b = elim (cases_eq a slot) [
      | inl m ↦ elim (cases_eq b t) [
        | inl n ↦ subst (λ k. PlaceServed k b) (sym m) (subst (λ k. PlaceServed slot k) (sym n) here)
        | inr n ↦ elsewhere a b (inr n)
      ]
      | inr m ↦ elsewhere a b (inl m)
    ]
      where
        its_number : number_in d.win32 slot ≡ Some of.4.process.number
        its_number = ap number_of of.4.posted.thread.process

        here : PlaceServed slot t
        here =
            by_bool (is_live (process_of of.4.mid.processes of.4.process.number)) (λ lives m. goes_served lives m)
            (λ dies m. served-follows posted_of goes opening slot_of thread_of_part begins script d.win32
            (directive.Turn slot t) called came
            new.win32 registers h step d.parts new.parts served slot t formed
            (λ w n live acts. let i : of.4.process.number ≡ w = some_same of.4.process.number w (sym its_number ∙ n) in
            let j : is_live (process_of of.4.mid.processes of.4.process.number) ≡ true =
            ap (λ (k : Win32State). is_live (process_of k.processes of.4.process.number)) (sym m.0)
            ∙ ap (λ k. is_live (process_of new.win32.processes k)) i ∙ live in absurd (cc))
            m.2) of.4.goes_on
          where
            some_same : (a b : ℕ) → Some a ≡ Some b → a ≡ b
            some_same a b e = cc

        elsewhere : (a b : ℕ) → (a ≢ slot) ⊎ (b ≢ t) → PlaceServed a b
        elsewhere a b apart =
            served-follows posted_of goes opening slot_of thread_of_part begins script d.win32 (directive.Turn slot t)
            called came
            new.win32 registers h step d.parts new.parts served a b formed
            (λ w n live acts. elim apart [
              | inl k ↦ k (same_slot script d.win32 a slot w h.formed n acts.0)
              | inr k ↦ k (sym acts.1)
            ]) (of.4.others a b apart)

  -- After every directive each thread has posted the call of its own part.
  pub served-step : (given : Directive) (called : Option Call) (came : Outcome)
      → DrivenBy posted_of goes opening slot_of thread_of_part script d given called came new
      → AreServed posted_of goes opening slot_of thread_of_part new.win32 new.parts
  served-step (directive.Turn slot t) called came step =
      let stepped = driven_step posted_of goes opening slot_of thread_of_part keeps_lengths script d
      (directive.Turn slot t) called came new step in
      let formed = wellformed-step script d.win32 (directive.Turn slot t) called came new.win32 registers h stepped in
      by_bool (is_ready d.win32 slot t) (λ r of. turn_served slot t called came stepped of formed)
      (λ r rests. subst (λ (n : Win32State). AreServed posted_of goes opening slot_of thread_of_part n new.parts)
      (sym rests.2)
      (subst (λ ps. AreServed posted_of goes opening slot_of thread_of_part d.win32 ps) (sym rests.4) served)) step
  served-step (directive.End slot) called came step =
      let stepped = driven_step posted_of goes opening slot_of thread_of_part keeps_lengths script d
      (directive.End slot) called came new step in
      let formed = wellformed-step script d.win32 (directive.End slot) called came new.win32 registers h stepped in
      λ a b. served-follows posted_of goes opening slot_of thread_of_part begins script d.win32 (directive.End slot)
      called came
      new.win32 registers h stepped d.parts new.parts served a b formed (λ w n live acts. acts) (step.3 a b)
  served-step (directive.Key b) called came step =
      subst (λ (n : Win32State). AreServed posted_of goes opening slot_of thread_of_part n new.parts) (sym step.2)
      (subst (λ ps. AreServed posted_of goes opening slot_of thread_of_part d.win32 ps) (sym step.4) served)
