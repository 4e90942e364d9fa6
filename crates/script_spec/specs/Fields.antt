-- What a word of a line must be, and its fault where it isn't.
use Rattle.std.specs.Prelude.{ℕ, ◌||◌, not, nat_lt, List, Option, Some}
use Rattle.std.specs.Prelude.{if◌then◌else◌}
use Rattle.w32_base.specs.Name.{is_name}
use Rattle.w32_base.specs.Names.{is_same}
use Rattle.script_spec.specs.declared.fault.Kind.{Kind}
use Rattle.script_spec.specs.declared.fault.Kind.TheVariants.{Words, BadNumber, Range, BadName}
use Rattle.script_spec.specs.Numbers.{is_empty, is_canonical, value_of, is_signed_canonical, is_in_32_bits, is_key_byte}
use Rattle.script_spec.specs.Numbers.{is_register, begins_with_r}
use Rattle.script_spec.specs.Faults.{fault_if}

pub data Field : Type 0 where
  -- this very word
  FixedWord : List ℕ → Field
  -- a register
  RegisterWord : Field
  -- a register, or a number of 32 bits with or without a sign
  ValueWord : Field
  -- the place of an instruction
  PlaceWord : Field
  -- a number from the first to the second
  NumberWord : ℕ → ℕ → Field
  -- the name of a module or a program
  NameWord : Field
  -- two hexadecimal digits
  KeyWord : Field

-- a number without a sign
abbrev pub number_fault : ℕ → ℕ → List ℕ → Option Kind
number_fault low high w = if is_empty w then Some Words else (if not (is_canonical w) then Some BadNumber
    else fault_if (nat_lt (value_of w) low || nat_lt high (value_of w)) Range)

-- a number of 32 bits
abbrev pub signed_fault : List ℕ → Option Kind
signed_fault w = if is_empty w then Some Words else (if not (is_signed_canonical w) then Some BadNumber
    else fault_if (not (is_in_32_bits w)) Range)

-- a word that begins with r is taken as a register
abbrev pub value_fault : List ℕ → Option Kind
value_fault w = if begins_with_r w then fault_if (not (is_register w)) Words else signed_fault w

abbrev pub name_fault : List ℕ → Option Kind
name_fault w = if is_empty w then Some Words else fault_if (not (is_name w)) BadName

-- a place has no bound of its own but that of 64 bits
abbrev pub field_fault : Field → List ℕ → Option Kind
field_fault (FixedWord text) w = fault_if (not (is_same text w)) Words
field_fault RegisterWord w = fault_if (not (is_register w)) Words
field_fault ValueWord w = value_fault w
field_fault PlaceWord w = number_fault 0 18446744073709551615 w
field_fault (NumberWord low high) w = number_fault low high w
field_fault NameWord w = name_fault w
field_fault KeyWord w = fault_if (not (is_key_byte w)) Words
