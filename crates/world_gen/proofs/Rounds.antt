-- Forks one after another.
use Rattle.std.specs.Prelude.{◌≡◌, ℕ, zero, suc, ◌+◌, ◌++◌}
use Rattle.std.proofs.Common.{refl, ap, ◌∙◌, arith, append_assoc}
use Rattle.world_gen.specs.Forks.{one_fork, forks}

-- one more, behind the others
one_behind : (child n : ℕ) → forks child n ++ one_fork child ≡ forks child (suc n)
one_behind child zero = refl
one_behind child (suc n) =
    append_assoc (one_fork child) (forks child n) (one_fork child)
    ∙ ap (λ code. one_fork child ++ code) (one_behind child n)

pub one_more : (child n : ℕ) → forks child n ++ one_fork child ≡ forks child (n + 1)
one_more child n = let e : suc n ≡ n + 1 = omega arith in one_behind child n ∙ ap (forks child) e
