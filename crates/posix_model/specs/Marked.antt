-- The set that marks tell.
use Rattle.std.specs.Prelude.{ℕ, ◌+◌, nat_eq, if◌then◌else◌, List, [], ◌∷◌}
use Rattle.std.specs.FinSet as set
use Rattle.posix_spec.specs.State.{Numbers}

-- the numbers of the places from n on whose mark isn't 0
abbrev pub marked_from : ℕ → List ℕ → List ℕ
marked_from n [] = []
marked_from n (mark ∷ marks) = if nat_eq mark 0 then marked_from (n + 1) marks else n ∷ marked_from (n + 1) marks

abbrev pub marked : List ℕ → Numbers
marked places = set.from_list (marked_from 0 places)
