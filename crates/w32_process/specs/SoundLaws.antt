-- What changes leave of the numbers of a table.
use Rattle.std.proofs.Common.{◌≡◌, ◌≢◌, ◌⊎◌, inl, inr, ℕ, zero, suc, ◌≤◌, ◌<◌, ◌++◌, List, [], ◌∷◌, length, set}
use Rattle.std.proofs.Common.{replicate, Option, Some, None, IsSome, refl, sym, ap, ◌∙◌, arith, true≢false}
use Rattle.std.proofs.lemmas.Bool.{cases_eq}
use Rattle.std.proofs.lemmas.List.{length-set, length-replicate, get_or-set_same, get_or-set_other}
use Rattle.w32_process.specs.declared.kept.Kept.{Kept}
use Rattle.w32_process.specs.Places.{Place, empty_place, host_place}
use Rattle.w32_process.specs.Table.{number_at, code_of, without_kept}
use Rattle.w32_process.specs.Sound.{IsSound}
use Rattle.w32_process.specs.KeptLaws.{code_of-push_other, code_of-push_cases, AreDistinct-push}
use Rattle.w32_process.specs.KeptLaws.{code_of-without_none, AreDistinct-without}

-- the number in the slot that is changed, and in the others
pub number_at-set_same : (slots : List Place) (slot : ℕ) (place : Place) → slot < length slots
    → number_at (set slots slot place) slot ≡ place.number
number_at-set_same slots slot place within = ap (λ (p : Place). p.number) (get_or-set_same slots slot place
    empty_place within)

pub number_at-set_other : (slots : List Place) (slot k : ℕ) (place : Place) → k ≢ slot
    → number_at (set slots slot place) k ≡ number_at slots k
number_at-set_other slots slot k place other = ap (λ (p : Place). p.number) (get_or-set_other slots slot k place
    empty_place other)

pub number_at-set_kept : (slots : List Place) (slot k : ℕ) (place : Place) → slot < length slots
    → place.number ≡ number_at slots slot → number_at (set slots slot place) k ≡ number_at slots k
number_at-set_kept slots slot k place within kept =
    elim (cases_eq k slot) [
      | inl e ↦ rw e (number_at-set_same slots slot place within ∙ kept)
      | inr d ↦ number_at-set_other slots slot k place d
    ]

-- none and a number aren't one
none_is_no_number : {R : Type 0} (n : ℕ) (o : Option ℕ) → o ≡ None → o ≡ Some n → R
none_is_no_number n o a b = absurd (let e : Some n ≡ None = sym b ∙ a in cc)

-- a slot whose process stays
pub IsSound-same : (next : ℕ) (slots : List Place) (kept : List Kept) (slot : ℕ) (place : Place)
    → slot < length slots → place.number ≡ number_at slots slot
    → IsSound (record { next = next; slots = slots; kept = kept })
    → IsSound (record { next = next; slots = set slots slot place; kept = kept })
IsSound-same next slots kept slot place within stays sound = record {
  some = omega (arith, length-set {A = Place} slots slot place, sound.some);
  few = omega (arith, length-set {A = Place} slots slot place, sound.few);
  numbers = record {
    below = λ k n e. sound.numbers.below k n (sym (is k) ∙ e);
    live = λ k n e. sound.numbers.live k n (sym (is k) ∙ e);
    alone = λ k j n e f. sound.numbers.alone k j n (sym (is k) ∙ e) (sym (is j) ∙ f);
    kept_below = sound.numbers.kept_below;
    kept_alone = sound.numbers.kept_alone;
  };
}
  where
    is : (k : ℕ) → number_at (set slots slot place) k ≡ number_at slots k
    is k = number_at-set_kept slots slot k place within stays

-- the process of a slot is kept
pub IsSound-end : (next : ℕ) (slots : List Place) (kept : List Kept) (slot w : ℕ) (e : Kept) → slot < length slots
    → number_at slots slot ≡ Some w → e.number ≡ w → IsSound (record { next = next; slots = slots; kept = kept })
    → IsSound (record { next = next; slots = set slots slot empty_place; kept = kept ++ e ∷ [] })
IsSound-end next slots kept slot w e within at is sound = record {
  some = omega (arith, length-set {A = Place} slots slot empty_place, sound.some);
  few = omega (arith, length-set {A = Place} slots slot empty_place, sound.few);
  numbers = record {
    below = λ k n q. sound.numbers.below k n (stays k n q);
    live = λ k n q. code_of-push_other kept e n (sound.numbers.live k n (stays k n q)) (apart k n q);
    alone = λ k j n p q. sound.numbers.alone k j n (stays k n p) (stays j n q);
    kept_below = λ n some. by_place n (code_of-push_cases kept e n some);
    kept_alone = AreDistinct-push kept e sound.numbers.kept_alone (rw is (sound.numbers.live slot w at));
  };
}
  where
    stays : (k n : ℕ) → number_at (set slots slot empty_place) k ≡ Some n → number_at slots k ≡ Some n
    stays k n q =
        elim (cases_eq k slot) [
          | inl p ↦ none_is_no_number n _ (number_at-set_same slots slot empty_place within) (rw p at q)
          | inr d ↦ sym (number_at-set_other slots slot k empty_place d) ∙ q
        ]

    moved : (k n : ℕ) → number_at (set slots slot empty_place) k ≡ Some n → k ≢ slot
    moved k n q p = none_is_no_number n _ (number_at-set_same slots slot empty_place within) (rw p at q)

    apart : (k n : ℕ) → number_at (set slots slot empty_place) k ≡ Some n → n ≢ e.number
    apart k n q p = moved k n q (sound.numbers.alone k slot n (stays k n q) (at ∙ ap Some (sym (p ∙ is))))

    by_place : (n : ℕ) → IsSome (code_of kept n) ⊎ (n ≡ e.number) → n < next
    by_place n (inl some) = sound.numbers.kept_below n some
    by_place n (inr p) = omega (arith, p, is, sound.numbers.below slot w at)

-- an ended process is kept no more
pub IsSound-forget : (next : ℕ) (slots : List Place) (kept : List Kept) (w : ℕ)
    → IsSound (record { next = next; slots = slots; kept = kept })
    → IsSound (record { next = next; slots = slots; kept = without_kept kept w })
IsSound-forget next slots kept w sound = record {
  some = sound.some;
  few = sound.few;
  numbers = record {
    below = sound.numbers.below;
    live = λ k n e. code_of-without_none kept w n (sound.numbers.live k n e);
    alone = sound.numbers.alone;
    kept_below = λ n some. sound.numbers.kept_below n (was n (code_of kept n) refl some);
    kept_alone = AreDistinct-without kept w sound.numbers.kept_alone;
  };
}
  where
    was : (n : ℕ) (o : Option ℕ) → code_of kept n ≡ o → IsSome (code_of (without_kept kept w) n)
        → IsSome (code_of kept n)
    was n (Some c) is some = rw is refl
    was n None is some = absurd (true≢false (sym (rw (code_of-without_none kept w n is) at some)))

-- at the opening
number_at-empty : (count k : ℕ) → number_at (replicate count empty_place) k ≡ None
number_at-empty zero k = refl
number_at-empty (suc count) zero = refl
number_at-empty (suc count) (suc k) = number_at-empty count k

pub IsSound-opening : (count : ℕ) → 1 ≤ count → count ≤ 64
    → IsSound (record { next = 2; slots = host_place ∷ replicate count empty_place; kept = [] })
IsSound-opening count some few = record {
  some = omega (arith, length-replicate {A = Place} count empty_place);
  few = omega (arith, length-replicate {A = Place} count empty_place);
  numbers = record {
    below = below;
    live = λ k n e. refl;
    alone = alone;
    kept_below = λ n e. absurd (true≢false (sym e));
    kept_alone = tt;
  };
}
  where
    below : (k n : ℕ) → number_at (host_place ∷ replicate count empty_place) k ≡ Some n → n < 2
    below zero n e = let one : 1 ≡ n = cc in omega arith
    below (suc k) n e = none_is_no_number n _ (number_at-empty count k) e

    alone : (k j n : ℕ) → number_at (host_place ∷ replicate count empty_place) k ≡ Some n
        → number_at (host_place ∷ replicate count empty_place) j ≡ Some n → k ≡ j
    alone zero zero n e f = refl
    alone zero (suc j) n e f = none_is_no_number n _ (number_at-empty count j) f
    alone (suc k) j n e f = none_is_no_number n _ (number_at-empty count k) e

-- a slot with a process is one of the table
pub within_slots : (slots : List Place) (slot w : ℕ) → number_at slots slot ≡ Some w → slot < length slots
within_slots [] slot w at = absurd (let e : None ≡ Some w = at in cc)
within_slots (p ∷ ps) zero w at = omega arith
within_slots (p ∷ ps) (suc slot) w at = omega (arith, within_slots ps slot w at)
