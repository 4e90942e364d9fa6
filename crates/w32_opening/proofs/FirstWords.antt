-- The words of the section as a run begins.
use Rattle.std.proofs.Common.{◌≡◌, ◌∙◌, ℕ, suc, ◌+◌, List, ◌∷◌, length, replicate, refl, ap, arith}
use Rattle.win32_spec.specs.LookupLaws.{before}
use Rattle.win32_spec.specs.Objects.{added}
use Rattle.win32_spec.specs.Opening.{opening_words, first_main_word, first_group_word}

first-added : (zs : List ℕ) → added (0 ∷ 0 ∷ 0 ∷ zs) 0 1 ≡ 1 ∷ 0 ∷ 0 ∷ zs
first-added zs = let b = before 0 (length (0 ∷ 0 ∷ 0 ∷ zs)) (omega arith) in rw b refl

second-added : (zs : List ℕ) → added (1 ∷ 0 ∷ 0 ∷ zs) 1 first_main_word ≡ 1 ∷ first_main_word ∷ 0 ∷ zs
second-added zs = let b = before 1 (length (1 ∷ 0 ∷ 0 ∷ zs)) (omega arith) in rw b refl

third-added : (zs : List ℕ) → added (1 ∷ first_main_word ∷ 0 ∷ zs) 2 first_group_word
    ≡ 1 ∷ first_main_word ∷ first_group_word ∷ zs
third-added zs = let b = before 2 (length (1 ∷ first_main_word ∷ 0 ∷ zs)) (omega arith) in rw b refl

pub words-added : (k n : ℕ) (s a b c : List ℕ) → s ≡ replicate k 0 → k ≡ n + 3 → n ≡ 11998 → a ≡ added s 0 1
    → b ≡ added a 1 first_main_word → c ≡ added b 2 first_group_word → c ≡ opening_words
unfolding opening_words
words-added k n s a b c zeros is_k is_n first second third =
    let e : k ≡ suc (suc (suc n)) = omega (arith, is_k) in
    let a_is : a ≡ 1 ∷ 0 ∷ 0 ∷ replicate n 0 =
    first ∙ ap (λ (xs : List ℕ). added xs 0 1) (zeros ∙ ap (λ j. replicate j 0) e) ∙ first-added (replicate n 0) in
    let b_is : b ≡ 1 ∷ first_main_word ∷ 0 ∷ replicate n 0 =
    second ∙ ap (λ (xs : List ℕ). added xs 1 first_main_word) a_is ∙ second-added (replicate n 0) in
    third ∙ ap (λ (xs : List ℕ). added xs 2 first_group_word) b_is ∙ third-added (replicate n 0)
    ∙ ap (λ j. 1 ∷ first_main_word ∷ first_group_word ∷ replicate j 0) is_n
