-- What a copy of a program's instructions gets.
use Rattle.std.specs.Prelude.{List, [], ◌∷◌, ◌++◌, Option, Some, None}

-- a list with one more item, if there is one
abbrev pub added : {X : Type 0} → List X → Option X → List X
added xs None = xs
added xs (Some x) = xs ++ x ∷ []
