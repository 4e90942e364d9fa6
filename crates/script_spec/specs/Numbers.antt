-- The canonical forms of numbers and of key bytes.
use Rattle.std.specs.Prelude.{ℕ, ◌+◌, ◌-◌, ◌*◌, Bool, true, false, ◌&&◌, ◌||◌, not, nat_eq, nat_le, List, [], ◌∷◌}
use Rattle.std.specs.Prelude.{if◌then◌else◌}
use Rattle.std.specs.List.{list_all}

abbrev pub is_digit : ℕ → Bool
is_digit b = nat_le 48 b && nat_le b 57

abbrev pub is_empty : List ℕ → Bool
is_empty [] = true
is_empty (b ∷ bs) = false

-- decimal digits, with no 0 before others
abbrev pub is_canonical : List ℕ → Bool
is_canonical [] = false
is_canonical (d ∷ ds) = list_all is_digit (d ∷ ds) && (is_empty ds || not (nat_eq d 48))

-- the number whose first digits have the value n
abbrev pub value_from : ℕ → List ℕ → ℕ
value_from n [] = n
value_from n (d ∷ ds) = value_from (n * 10 + (d - 48)) ds

-- the number that decimal digits spell
abbrev pub value_of : List ℕ → ℕ
value_of ds = value_from 0 ds

-- the bytes after a minus sign at the front, or all
abbrev pub without_sign : List ℕ → List ℕ
without_sign [] = []
without_sign (b ∷ bs) = if nat_eq b 45 then bs else b ∷ bs

abbrev pub has_sign : List ℕ → Bool
has_sign [] = false
has_sign (b ∷ bs) = nat_eq b 45

-- the canonical form of a number that may be negative; there is no -0
abbrev pub is_signed_canonical : List ℕ → Bool
is_signed_canonical bs =
    is_canonical (without_sign bs) && not (has_sign bs && nat_eq (value_of (without_sign bs)) 0)

-- a number from -2147483648 to 2147483647
abbrev pub is_in_32_bits : List ℕ → Bool
is_in_32_bits bs = nat_le (value_of (without_sign bs)) (if has_sign bs then 2147483648 else 2147483647)

-- a hexadecimal digit in lower case
abbrev pub is_hexadecimal : ℕ → Bool
is_hexadecimal b = is_digit b || (nat_le 97 b && nat_le b 102)

-- two of them
abbrev pub is_key_byte : List ℕ → Bool
is_key_byte [] = false
is_key_byte (a ∷ []) = false
is_key_byte (a ∷ b ∷ []) = is_hexadecimal a && is_hexadecimal b
is_key_byte (a ∷ b ∷ c ∷ ds) = false

-- `r0` to `r7`
abbrev pub is_register : List ℕ → Bool
is_register [] = false
is_register (a ∷ []) = false
is_register (a ∷ b ∷ []) = nat_eq a 114 && nat_le 48 b && nat_le b 55
is_register (a ∷ b ∷ c ∷ ds) = false

-- a word that is taken as a register where a register or a number may stand
abbrev pub begins_with_r : List ℕ → Bool
begins_with_r [] = false
begins_with_r (b ∷ bs) = nat_eq b 114
