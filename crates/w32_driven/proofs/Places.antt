-- The places of parts.
use Rattle.std.proofs.Common.{◌≡◌, ◌≢◌, ◌⊎◌, inl, inr, ◌∙◌, ℕ, zero, suc, ◌+◌, ◌*◌, ◌≤◌, ◌<◌, Bool, true, false, not}
use Rattle.std.proofs.Common.{nat_eq, [], ◌∷◌, length, Option, Some, None, slice_index_or, slice_set}
use Rattle.std.proofs.Common.{refl, sym, ap, subst, arith}
use Rattle.std.proofs.lemmas.Bool.{cases_eq, cases_lt}
use Rattle.std.proofs.lemmas.List.{get_or-set_same, get_or-set_other, length-set}
use Rattle.std.specs.Option.{option_eq}
use Rattle.w32_base.specs.declared.call.Call.{Call}
use Rattle.w32_base.specs.declared.call.Reply.{Reply}
use Rattle.w32_base.specs.declared.own.Own.{Own}
use Rattle.w32_base.specs.declared.part.After.{After}
use Rattle.w32_base.specs.declared.setup.Setup.{Setup}
use Rattle.win32_spec.specs.State.{Thread, Win32State}
use Rattle.win32_spec.specs.Lookup.{thread_at}
use Rattle.win32_spec.specs.LookupLaws.{before, not_before}
use Rattle.win32_spec.specs.Driven.{Parts, part_in_place, part_at, OpensPart, is_same_number}
use Rattle.w32_machine.specs.Lent.{HasFewThreads}
use Rattle.w32_driven.specs.Driving.{OpensSlot}

part_in_place-get : {P : Type 0} (parts : Parts P) (n : ℕ) → part_in_place parts n ≡ slice_index_or parts n None
part_in_place-get [] n = refl
part_in_place-get (part ∷ parts) zero = refl
part_in_place-get (part ∷ parts) (suc n) = part_in_place-get parts n

module _ {P : Type 0} (parts : Parts P) (slot t i : ℕ) (few : t ≤ 2) (is : i ≡ 3 * slot + t) (v : Option P) where
  pub part-get : slice_index_or parts i None ≡ part_at parts slot t
  part-get =
      let b = before t 3 (omega (arith, few)) in
      rw b (ap (λ n. slice_index_or parts n None) is ∙ sym (part_in_place-get parts (3 * slot + t)))

  pub part-set : i < length parts → part_at (slice_set parts i v) slot t ≡ v
  part-set within =
      let b = before t 3 (omega (arith, few)) in
      rw b (part_in_place-get (slice_set parts i v) (3 * slot + t)
      ∙ ap (λ n. slice_index_or (slice_set parts i v) n None) (sym is)
      ∙ get_or-set_same parts i v None within)

  pub part-aside : (k u : ℕ) → (k ≢ slot) ⊎ (u ≢ t) → part_at (slice_set parts i v) k u ≡ part_at parts k u
  part-aside k u apart = by_few (cases_lt u 3)
    where
      off : u < 3 → 3 * k + u ≢ i
      off l e = elim apart [ inl d ↦ d (omega (arith, e, is, few, l)) | inr d ↦ d (omega (arith, e, is, few, l)) ]

      by_few : (u < 3) ⊎ (3 ≤ u) → part_at (slice_set parts i v) k u ≡ part_at parts k u
      by_few (inl l) =
          let b = before u 3 l in
          rw b (part_in_place-get (slice_set parts i v) (3 * k + u)
          ∙ get_or-set_other parts i (3 * k + u) v None (off l) ∙ sym (part_in_place-get parts (3 * k + u)))
      by_few (inr l) = let b = not_before u 3 l in rw b refl

-- two numbers, or none, as the code compares them
pub same-eq : (a b : Option ℕ) → is_same_number a b ≡ option_eq nat_eq a b
same-eq None None = refl
same-eq None (Some n) = refl
same-eq (Some n) None = refl
same-eq (Some n) (Some m) = refl

pub found-other : (a b : Option ℕ) → not (option_eq nat_eq a b) ≡ true → is_same_number a b ≡ false
found-other a b e = same-eq a b ∙ by_test (option_eq nat_eq a b) e
  where
    by_test : (c : Bool) → not c ≡ true → c ≡ false
    by_test true f = absurd (cc)
    by_test false f = refl

pub found-same : (a b : Option ℕ) → not (option_eq nat_eq a b) ≡ false → is_same_number a b ≡ true
found-same a b e = same-eq a b ∙ by_test (option_eq nat_eq a b) e
  where
    by_test : (c : Bool) → not c ≡ false → c ≡ true
    by_test true f = refl
    by_test false f = absurd (cc)

-- three parts that are opened are those of a slot
module _ {P : Type 0} (posted_of : P → Call) (goes : P → Own → Setup → Reply → P → Own → After → Type 0)
    (opening : P → Type 0) (slot_of thread_of_part : P → ℕ) (s : Win32State) (slot : ℕ) (few : HasFewThreads s)
    (after : Parts P) where
  abbrev Opens : ℕ → Option P → Type 0
  Opens t part = OpensPart posted_of goes opening slot_of thread_of_part (thread_at s slot t) slot t part

  pub opens-slot : (a b c : Option P) → Opens 0 a → Opens 1 b → Opens 2 c → part_at after slot 0 ≡ a
      → part_at after slot 1 ≡ b → part_at after slot 2 ≡ c
      → OpensSlot posted_of goes opening slot_of thread_of_part s after slot
  opens-slot a b c first second third at_first at_second at_third t =
      by_first (cases_eq t 0)
    where
      past : 3 ≤ t → (o : Option Thread) → thread_at s slot t ≡ o
          → OpensPart posted_of goes opening slot_of thread_of_part o slot t (part_at after slot t)
      past l None e = let b = not_before t 3 l in rw b refl
      past l (Some x) e = absurd (let f = few slot t (rw e refl) in omega (arith, f.1, l))

      by_third : t ≢ 0 → t ≢ 1 → (t ≡ 2) ⊎ (t ≢ 2) → Opens t (part_at after slot t)
      by_third d e (inl n) = subst (λ k. Opens k (part_at after slot k)) (sym n) (rw at_third third)
      by_third d e (inr f) = past (omega (arith, d, e, f)) (thread_at s slot t) refl

      by_second : t ≢ 0 → (t ≡ 1) ⊎ (t ≢ 1) → Opens t (part_at after slot t)
      by_second d (inl n) = subst (λ k. Opens k (part_at after slot k)) (sym n) (rw at_second second)
      by_second d (inr e) = by_third d e (cases_eq t 2)

      by_first : (t ≡ 0) ⊎ (t ≢ 0) → Opens t (part_at after slot t)
      by_first (inl n) = subst (λ k. Opens k (part_at after slot k)) (sym n) (rw at_first first)
      by_first (inr d) = by_second d (cases_eq t 1)

-- the parts of a slot that are set one after another
module _ {P : Type 0} (parts : Parts P) (slot i j k : ℕ) (places : length parts ≡ 195) (within : 3 * slot + 2 < 195)
    (is_first : i ≡ 3 * slot + 0) (is_second : j ≡ 3 * slot + 1) (is_third : k ≡ 3 * slot + 2)
    (a b c : Option P) where
  abbrev pub three_set : Parts P
  three_set = slice_set (slice_set (slice_set parts i a) j b) k c

  lengths : length (slice_set (slice_set parts i a) j b) ≡ length parts
  lengths = length-set (slice_set parts i a) j b ∙ length-set parts i a

  pub set_third : part_at three_set slot 2 ≡ c
  set_third =
      part-set (slice_set (slice_set parts i a) j b) slot 2 k (omega arith) is_third c
      (omega (arith, lengths, places, within, is_third))

  pub set_second : part_at three_set slot 1 ≡ b
  set_second =
      part-aside (slice_set (slice_set parts i a) j b) slot 2 k (omega arith) is_third c slot 1
      (inr (λ e. omega (arith, e)))
      ∙ part-set (slice_set parts i a) slot 1 j (omega arith) is_second b
      (omega (arith, length-set parts i a, places, within, is_second))

  pub set_first : part_at three_set slot 0 ≡ a
  set_first =
      part-aside (slice_set (slice_set parts i a) j b) slot 2 k (omega arith) is_third c slot 0
      (inr (λ e. omega (arith, e)))
      ∙ part-aside (slice_set parts i a) slot 1 j (omega arith) is_second b slot 0 (inr (λ e. omega (arith, e)))
      ∙ part-set parts slot 0 i (omega arith) is_first a (omega (arith, places, within, is_first))

  pub set_aside : (n t : ℕ) → n ≢ slot → part_at three_set n t ≡ part_at parts n t
  set_aside n t d =
      part-aside (slice_set (slice_set parts i a) j b) slot 2 k (omega arith) is_third c n t (inl d)
      ∙ part-aside (slice_set parts i a) slot 1 j (omega arith) is_second b n t (inl d)
      ∙ part-aside parts slot 0 i (omega arith) is_first a n t (inl d)
