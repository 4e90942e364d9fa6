-- The results of calls.
use Rattle.std.proofs.Common.{◌≡◌, ℕ, ◌%◌, ◌≤◌, List, true, false, nat_lt, ltb-true, ltb-false, ap}
use Rattle.std.proofs.Common.{refl, ◌∙◌, sym, arith}
use Rattle.std.proofs.Math.Nat.{mod-eq_of_lt}
use Rattle.vm_spec.specs.Image.{with_word}

full_word : (bytes : List ℕ) (place : ℕ) → with_word bytes place (4294967296 % 4294967296) ≡ with_word bytes place
    4294967296
unfolding with_word
full_word bytes place = refl

-- past 32 bits the low 32 bits are written
pub with_word-wrapped : (bytes : List ℕ) (place n : ℕ) → n ≤ 4294967296 → with_word bytes place (n % 4294967296) ≡
    with_word bytes place n
with_word-wrapped bytes place n h =
    elim (nat_lt n 4294967296) as (λ b. nat_lt n 4294967296 ≡ b → with_word bytes place (n % 4294967296) ≡ with_word
    bytes place n) [
      | true ↦ λ e. ap (with_word bytes place) (mod-eq_of_lt (ltb-true n 4294967296 e))
      | false ↦ λ e.
          let past : 4294967296 ≤ n = ltb-false n 4294967296 e in
          let full : n ≡ 4294967296 = omega arith in
          ap (λ m. with_word bytes place (m % 4294967296)) full ∙ full_word bytes place ∙ ap (with_word bytes place)
          (sym full)
    ] refl
