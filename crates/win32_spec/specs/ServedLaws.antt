-- Each thread of a driven machine has posted the call of its own part, which serves that thread.
use Rattle.std.proofs.Common.{◌≡◌, ◌≢◌, ℕ, Bool, true, false, nat_eq, Option, Some, None, MatchBool, MatchOption, refl}
use Rattle.std.proofs.Common.{sym, ap, ◌∙◌}
use Rattle.std.proofs.lemmas.Bool.{eqb-true}
use Rattle.w32_base.specs.declared.call.Call.{Call}
use Rattle.w32_base.specs.declared.call.Reply.{Reply}
use Rattle.w32_base.specs.declared.entry.Directive.{Directive}
use Rattle.w32_base.specs.declared.entry.Outcome.{Outcome}
use Rattle.w32_base.specs.declared.own.Own.{Own}
use Rattle.w32_base.specs.declared.part.After.{After}
use Rattle.w32_base.specs.declared.setup.Setup.{Setup}
use Rattle.script_spec.specs.declared.script.Script.{Script}
use Rattle.win32_spec.specs.State.{Thread, Process, Win32State}
use Rattle.win32_spec.specs.Lookup.{is_alive, process_of, is_live, process_in, thread_in, thread_of, thread_at}
use Rattle.win32_spec.specs.Lookup.{number_of, number_in}
use Rattle.win32_spec.specs.Making.{opening_call}
use Rattle.win32_spec.specs.Run.{StepBy}
use Rattle.win32_spec.specs.Driven.{Parts, part_at, Serves, AreServed, OpensPart, is_same_number, PartFollows}
use Rattle.win32_spec.specs.WellFormed.{IsFormed, IsWellFormed}
use Rattle.win32_spec.specs.LookupLaws.{same, same_some, process_of-number, process_in-found, process_in-free}
use Rattle.win32_spec.specs.FormedLaws.{found_live}
use Rattle.win32_spec.specs.Tame.{posted_by}
use Rattle.win32_spec.specs.MemoryEffects.{HaveRegisters}
use Rattle.win32_spec.specs.Facts.{IsTurnOfThread}
use Rattle.win32_spec.specs.PostedLaws.{alive-step, made-step}

-- in a formed state the live process of a number stands in its slot
pub process_in-is : (script : Script) (s : Win32State) (v : ℕ) (q : Process) → IsFormed script s
    → process_of s.processes v ≡ Some q
    → is_alive q.life ≡ true → process_in s.processes q.slot ≡ Some q
process_in-is script s v q h e alive = by_answer (process_in s.processes q.slot) refl
  where
    by_answer : (o : Option Process) → process_in s.processes q.slot ≡ o → o ≡ Some q
    by_answer None f = absurd (process_in-free s.processes q.slot v q f e alive refl)
    by_answer (Some p) f =
        let found = process_in-found 1 s.next s.processes q.slot p h.processes f in
        let n : p.number ≡ v = h.one_a_slot p.number v p q found.0 e found.1 alive found.2 in
        ap Some (same_some (process_of s.processes v) p q (ap (process_of s.processes) (sym n) ∙ found.0) e)

module _ {P : Type 0} (posted_of : P → Call) (goes : P → Own → Setup → Reply → P → Own → After → Type 0)
    (opening : P → Type 0) (slot_of thread_of_part : P → ℕ)
    (begins : (p : P) → opening p → posted_of p ≡ opening_call)
    (script : Script) (s : Win32State) (d : Directive) (called : Option Call) (came : Outcome) (new : Win32State)
    (registers : HaveRegisters script) (h : IsWellFormed script s) (step : StepBy script s d called came new)
    (parts after : Parts P) (served : AreServed posted_of goes opening slot_of thread_of_part s parts) where
  -- a thread, if there is one, is served by the part of its place, and there is no part without a thread
  abbrev ServedBy : Option Thread → ℕ → ℕ → Option P → Type 0
  ServedBy thread slot t now = MatchOption thread (now ≡ None)
      (λ x. (part : P) × (now ≡ Some part) × Serves posted_of goes opening slot_of thread_of_part slot t x part)

  served_opened : (thread : Option Thread) (slot t : ℕ) (now : Option P)
      → ((x : Thread) → thread ≡ Some x → x.posted ≡ opening_call)
      → OpensPart posted_of goes opening slot_of thread_of_part thread slot t now → ServedBy thread slot t now
  served_opened None slot t now posts m = m
  served_opened (Some x) slot t now posts m = (
    m.0,
    m.1,
    record {
      posted = posts x refl ∙ sym (begins m.0 m.2.opened);
      its_slot = m.2.its_slot;
      its_thread =
          m.2.its_thread;
    },
  )

  served_stays : (o n : Option Thread) (slot t : ℕ) (was now : Option P) → posted_by n ≡ posted_by o → now ≡ was
      → ServedBy o slot t was → ServedBy n slot t now
  served_stays None None slot t was now e f m = f ∙ m
  served_stays None (Some y) slot t was now e f m = absurd (cc)
  served_stays (Some x) None slot t was now e f m = absurd (cc)
  served_stays (Some x) (Some y) slot t was now e f m =
      let g : y.posted ≡ x.posted = cc in
      (m.0, f ∙ m.1, record { posted = g ∙ m.2.posted; its_slot = m.2.its_slot; its_thread = m.2.its_thread })

  -- a process in a slot that had another one, or none, wasn't listed before
  unlisted : (slot : ℕ) (o : Option Process) (q : Process) → process_in s.processes slot ≡ o
      → process_of new.processes q.number ≡ Some q
      → is_alive q.life ≡ true → q.slot ≡ slot → ((p : Process) → o ≡ Some p → p.number ≢ q.number)
      → process_of s.processes q.number ≡ None
  unlisted slot o q e f alive n other = by_answer (process_of s.processes q.number) refl
    where
      by_answer : (r : Option Process) → process_of s.processes q.number ≡ r → r ≡ None
      by_answer None g = refl
      by_answer (Some r) g =
          let k = alive-step script s d called came new registers h step q.number r q g f alive in
          let there = process_in-is script s q.number r h.formed g (ap is_alive (sym k.life) ∙ alive) in
          let at : o ≡ Some r = sym e ∙ ap (process_in s.processes) (sym n ∙ k.slot) ∙ there in
          absurd (other r at (process_of-number s.processes q.number r g))

  -- a place whose part follows is served
  pub served-follows : (slot t : ℕ) → IsWellFormed script new
      → ((w : ℕ) → number_in s slot ≡ Some w → is_live (process_of new.processes w) ≡ true
      → IsTurnOfThread s d w t → ⊥)
      → PartFollows posted_of goes opening slot_of thread_of_part s new parts after slot t
      → ServedBy (thread_at new slot t) slot t (part_at after slot t)
  served-follows slot t formed apart follows =
      by_answers (process_in s.processes slot) (process_in new.processes slot) refl refl (served slot t) follows
    where
      made : (o : Option Process) (q : Process) → process_in s.processes slot ≡ o
          → process_in new.processes slot ≡ Some q
          → ((p : Process) → o ≡ Some p → p.number ≢ q.number) → (x : Thread) → thread_in q.threads t ≡ Some x
          → x.posted ≡ opening_call
      made o q e f other x g =
          let found = process_in-found 1 new.next new.processes slot q formed.formed.processes f in
          made-step script s d called came new registers h step q.number q
          (unlisted slot o q e found.0 found.1 found.2 other) found.0 found.1 t x g

      by_number : (p q : Process) (b : Bool) → nat_eq p.number q.number ≡ b → process_in s.processes slot ≡ Some p
          → process_in new.processes slot ≡ Some q → ServedBy (thread_in p.threads t) slot t (part_at parts slot t)
          → MatchBool b (part_at after slot t ≡ part_at parts slot t)
          (OpensPart posted_of goes opening slot_of thread_of_part (thread_in q.threads t) slot t
          (part_at after slot t))
          → ServedBy (thread_in q.threads t) slot t (part_at after slot t)
      by_number p q true n e f was m =
          let was_found = process_in-found 1 s.next s.processes slot p h.formed.processes e in
          let found = process_in-found 1 new.next new.processes slot q formed.formed.processes f in
          let now : process_of new.processes p.number ≡ Some q =
          ap (process_of new.processes) (eqb-true p.number q.number n) ∙ found.0 in
          let k = alive-step script s d called came new registers h step p.number p q was_found.0 now found.1 in
          served_stays (thread_in p.threads t) (thread_in q.threads t) slot t (part_at parts slot t)
          (part_at after slot t)
          (k.posted t (apart p.number (ap number_of e)
          (found_live (process_of new.processes p.number) q now found.1))) m was
      by_number p q false n e f was m =
          served_opened (thread_in q.threads t) slot t (part_at after slot t)
          (made (Some p) q e f (λ r g i. let j : p ≡ r = cc in
          let k : nat_eq p.number q.number ≡ true = same p.number q.number (ap (λ (x : Process). x.number) j ∙ i) in
          absurd (cc))) m

      by_answers : (o n : Option Process) → process_in s.processes slot ≡ o → process_in new.processes slot ≡ n
          → ServedBy (thread_of o t) slot t (part_at parts slot t)
          → MatchBool (is_same_number (number_of o) (number_of n)) (part_at after slot t ≡ part_at parts slot t)
          (OpensPart posted_of goes opening slot_of thread_of_part (thread_of n t) slot t (part_at after slot t))
          → ServedBy (thread_of n t) slot t (part_at after slot t)
      by_answers None None e f was m = m ∙ was
      by_answers (Some p) None e f was m = m
      by_answers None (Some q) e f was m =
          served_opened (thread_in q.threads t) slot t (part_at after slot t) (made None q e f (λ r g. absurd (cc))) m
      by_answers (Some p) (Some q) e f was m = by_number p q (nat_eq p.number q.number) refl e f was m
