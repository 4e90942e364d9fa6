-- The parts of a machine as a run begins.
use Rattle.std.proofs.Common.{◌≡◌, ◌∙◌, ◌⊎◌, inl, inr, ℕ, zero, suc, ◌+◌, ◌*◌, ◌/◌, ◌%◌, ◌≤◌, ◌<◌, [], ◌∷◌, ◌++◌}
use Rattle.std.proofs.Common.{length, Option, Some, None, refl, sym, ap, subst, arith}
use Rattle.std.proofs.lemmas.Bool.{cases_eq, cases_lt}
use Rattle.std.proofs.lemmas.List.{length-append}
use Rattle.w32_base.specs.declared.call.Call.{Call}
use Rattle.w32_base.specs.declared.call.Reply.{Reply}
use Rattle.w32_base.specs.declared.own.Own.{Own}
use Rattle.w32_base.specs.declared.part.After.{After}
use Rattle.w32_base.specs.declared.setup.Setup.{Setup}
use Rattle.win32_spec.specs.Driven.{Parts, part_in_place, part_at, OpensPart}
use Rattle.win32_spec.specs.Lookup.{thread_at}
use Rattle.win32_spec.specs.LookupLaws.{before, not_before}
use Rattle.win32_spec.specs.State.{Thread, Win32State}
use Rattle.w32_machine.specs.Lent.{HasFewThreads}
use Rattle.w32_driven.specs.Driving.{OpensAll}

-- one more part behind the others
module _ {P : Type 0} (part : Option P) where
  stays : (parts : Parts P) (k : ℕ) → k < length parts → part_in_place (parts ++ part ∷ []) k ≡ part_in_place parts k
  stays [] k l = absurd (omega (arith, l))
  stays (x ∷ parts) zero l = refl
  stays (x ∷ parts) (suc k) l = stays parts k (omega (arith, l))

  comes : (parts : Parts P) → part_in_place (parts ++ part ∷ []) (length parts) ≡ part
  comes [] = refl
  comes (x ∷ parts) = comes parts

past : {P : Type 0} (parts : Parts P) (k : ℕ) → length parts ≤ k → part_in_place parts k ≡ None
past [] k l = refl
past (x ∷ parts) zero l = absurd (omega (arith, l))
past (x ∷ parts) (suc k) l = past parts k (omega (arith, l))

module _ {P : Type 0} (posted_of : P → Call) (goes : P → Own → Setup → Reply → P → Own → After → Type 0)
    (opening : P → Type 0) (slot_of thread_of_part : P → ℕ) (s : Win32State) where
  abbrev Opens : ℕ → ℕ → Option P → Type 0
  Opens slot t part = OpensPart posted_of goes opening slot_of thread_of_part (thread_at s slot t) slot t part

  -- the parts of the first places, three a slot
  pub record OpensBelow (n : ℕ) (parts : Parts P) : Type 0 where
    pub places : length parts ≡ n
    pub opened : (k : ℕ) → k < n → Opens (k / 3) (k % 3) (part_in_place parts k)

  pub opens-none : OpensBelow 0 []
  opens-none = record { places = refl; opened = λ k l. absurd (omega (arith, l)) }

  pub opens-next : (n slot t : ℕ) (parts : Parts P) (part : Option P) → OpensBelow n parts → slot ≡ n / 3 → t ≡ n % 3
      → Opens slot t part → OpensBelow (n + 1) (parts ++ part ∷ [])
  opens-next n slot t parts part below at_slot at_thread opens = record {
    places = omega (arith, length-append parts (part ∷ []), below.places);
    opened = λ k l. elim (cases_eq k n) [
      | inl e ↦
          subst (Opens (k / 3) (k % 3))
          (sym (ap (part_in_place (parts ++ part ∷ [])) (e ∙ sym below.places) ∙ comes part parts))
          (subst (λ j. Opens j (k % 3) part) (at_slot ∙ ap (λ i. i / 3) (sym e))
          (subst (λ u. Opens slot u part) (at_thread ∙ ap (λ i. i % 3) (sym e)) opens))
      | inr d ↦ subst (Opens (k / 3) (k % 3)) (sym (stays part parts k (omega (arith, d, l, below.places))))
          (below.opened k (omega (arith, d, l)))
    ];
  }

  -- there are no other threads
  pub opens-all : (parts : Parts P) → HasFewThreads s → OpensBelow 195 parts
      → OpensAll posted_of goes opening slot_of thread_of_part s parts
  opens-all parts few below slot t = by_thread (cases_lt t 3)
    where
      none : (part_at parts slot t ≡ None) → (65 ≤ slot) ⊎ (3 ≤ t) → (o : Option Thread) → thread_at s slot t ≡ o
          → OpensPart posted_of goes opening slot_of thread_of_part o slot t (part_at parts slot t)
      none gone far None e = gone
      none gone far (Some x) e =
          let f : (slot ≤ 64) × (t ≤ 2) = few slot t (rw e refl) in
          elim far [ inl l ↦ absurd (omega (arith, f.0, l)) | inr l ↦ absurd (omega (arith, f.1, l)) ]

      by_place : t < 3 → (3 * slot + t < 195) ⊎ (195 ≤ 3 * slot + t) → Opens slot t (part_at parts slot t)
      by_place few (inl l) =
          let b = before t 3 few in
          let its_slot : (3 * slot + t) / 3 ≡ slot = omega (arith, few) in
          let its_thread : (3 * slot + t) % 3 ≡ t = omega (arith, few) in
          rw b (subst (λ j. Opens j t (part_in_place parts (3 * slot + t))) its_slot
          (subst (λ u. Opens ((3 * slot + t) / 3) u (part_in_place parts (3 * slot + t))) its_thread
          (below.opened (3 * slot + t) l)))
      by_place few (inr l) =
          let b = before t 3 few in
          none (rw b (past parts (3 * slot + t) (omega (arith, l, below.places)))) (inl (omega (arith, l, few)))
          (thread_at s slot t) refl

      by_thread : (t < 3) ⊎ (3 ≤ t) → Opens slot t (part_at parts slot t)
      by_thread (inl l) = by_place l (cases_lt (3 * slot + t) 195)
      by_thread (inr l) = let b = not_before t 3 l in none (rw b refl) (inr l) (thread_at s slot t) refl
