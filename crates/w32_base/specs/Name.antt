-- What a name of a program or a module is.
use Rattle.std.specs.Prelude.{ℕ, Bool, false, ◌&&◌, ◌||◌, nat_le, List, [], ◌∷◌, length}
use Rattle.std.specs.List.{list_all}

abbrev pub is_lower : ℕ → Bool
is_lower c = nat_le 97 c && nat_le c 122

abbrev pub is_name_char : ℕ → Bool
is_name_char c = is_lower c || (nat_le 48 c && nat_le c 57)

-- 1 to 16 characters: a lower-case letter, and then lower-case letters or digits
abbrev pub is_name : List ℕ → Bool
is_name [] = false
is_name (c ∷ cs) = is_lower c && nat_le (length cs) 15 && list_all is_name_char cs
