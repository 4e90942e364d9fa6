-- Lemmas of tests.
use Rattle.std.proofs.Common.{◌≡◌, Bool, true, ◌&&◌, ◌∙◌, ap}

pub and_true : (a b : Bool) → a ≡ true → b ≡ true → (a && b) ≡ true
and_true a b e f = ap (λ x. x && b) e ∙ f
