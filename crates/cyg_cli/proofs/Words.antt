-- The words of the commands.
use Rattle.std.proofs.Common.{◌≡◌, ◌≤◌, ◌<◌, ℕ, sym, ◌∙◌, ap, List, [], ◌∷◌, Result, Ok, arith}
use Rattle.std.proofs.lemmas.Fmt.{parse-decimal}
use Rattle.std.specs.Prelude.{get_or, length, map}
use Rattle.std.specs.Str.Parse.{ParsesUnsigned}
use Rattle.cyg_cli.specs.Commands.{IsNumberOfForks}

-- what is read of a word that spells a number from 1 to 500
pub parsed : {E : Type 0} (word : List ℕ) (n : ℕ) (r : Result ℕ E) → IsNumberOfForks word n
    → ParsesUnsigned 16 10 word r → r ≡ Ok n
parsed word n r is parses = parse-decimal 16 n word r (omega (arith, is.most)) (omega (arith, is.most)) is.text parses

-- a list of two is its two items
pub two_of : {X : Type 0} (xs : List X) (a b : X) → 2 ≤ length xs → length xs < 3 → a ≡ get_or xs 0 a
    → b ≡ get_or xs 1 b
    → xs ≡ a ∷ b ∷ []
two_of [] a b least most first second = absurd (omega (arith, least))
two_of (x ∷ []) a b least most first second = absurd (omega (arith, least))
two_of (x ∷ (y ∷ [])) a b least most first second = cc
two_of (x ∷ (y ∷ (z ∷ zs))) a b least most first second = absurd (omega (arith, most))

-- what two words are, by a list that holds them
pub both_words : {X : Type 0} (f : X → List ℕ) (items slice : List X) (a b : X) (first second : List ℕ) → slice ≡ items
    → slice ≡ a ∷ b ∷ [] → f a ≡ first → second ≡ f b → map f items ≡ first ∷ second ∷ []
both_words f items slice a b first second is two word next =
    ap (map f) (sym is ∙ two) ∙ ap (λ x. x ∷ f b ∷ []) word ∙ ap (λ x. first ∷ x ∷ []) (sym next)

abbrev head_word : List (List ℕ) → List ℕ
head_word [] = []
head_word (word ∷ rest) = word

pub other_word : {X : Type 0} (f : X → List ℕ) (items slice : List X) (a b : X) (first second : List ℕ) → slice ≡ items
    → slice ≡ a ∷ b ∷ [] → map f items ≡ first ∷ second ∷ [] → f a ≡ first
other_word f items slice a b first second is two both = ap head_word (sym (ap (map f) (sym is ∙ two)) ∙ both)
