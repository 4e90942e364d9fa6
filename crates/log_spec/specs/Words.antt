-- The words of an event's line: how each is written, and in which range it is.
use Rattle.std.specs.Prelude.{ℕ, ℤ, pos, negsuc, Bool, true, ◌&&◌, ◌||◌, nat_eq, nat_le, nat_lt, List, length}
use Rattle.std.specs.List.{list_all}
use Rattle.std.specs.Fmt.{decimal, signed_decimal}
use Rattle.w32_base.specs.Name.{is_name}
use Rattle.w32_base.specs.Names.{is_among}
use Rattle.w32_base.specs.Setup.{module_names, program_names}
use Rattle.script_spec.specs.declared.script.Script.{Script}
use Rattle.log_spec.specs.Texts.{byte_text, bytes_text}

pub data Word : Type 0 where
  -- a word that is written as it stands
  Plain : (text : List ℕ) → Word
  -- the process that acts, or 0 for the host
  Actor : (number : ℕ) → Word
  -- the host alone, which is 0
  Host : (number : ℕ) → Word
  -- another number, as it was given
  Numeral : (number : ℤ) → Word
  -- a program and a module of the script
  ProgramName : (name : List ℕ) → Word
  ModuleName : (name : List ℕ) → Word
  -- a key's byte, and the bytes that were read or written
  KeyByte : (byte : ℕ) → Word
  Bytes : (bytes : List ℕ) → Word

abbrev pub word_text : Word → List ℕ
word_text (Plain text) = text
word_text (Actor number) = decimal number
word_text (Host number) = decimal number
word_text (Numeral number) = signed_decimal number
word_text (ProgramName name) = name
word_text (ModuleName name) = name
word_text (KeyByte byte) = byte_text byte
word_text (Bytes bytes) = bytes_text bytes

-- 0, or the number of a process, from 2 to 4001
abbrev pub is_actor : ℕ → Bool
is_actor number = nat_eq number 0 || (nat_le 2 number && nat_le number 4001)

-- from -2147483648 to 4294967295, where -1 is `negsuc 0`
abbrev pub is_numeral : ℤ → Bool
is_numeral (pos number) = nat_le number 4294967295
is_numeral (negsuc number) = nat_le number 2147483647

abbrev pub is_byte : ℕ → Bool
is_byte byte = nat_lt byte 256

-- whether the word is in its range
abbrev pub is_word_within : Script → Word → Bool
is_word_within script (Plain text) = true
is_word_within script (Actor number) = is_actor number
is_word_within script (Host number) = nat_eq number 0
is_word_within script (Numeral number) = is_numeral number
is_word_within script (ProgramName name) = is_name name && is_among name (program_names script.setup.programs)
is_word_within script (ModuleName name) = is_name name && is_among name (module_names script.setup.modules)
is_word_within script (KeyByte byte) = is_byte byte
is_word_within script (Bytes bytes) = nat_le (length bytes) 64 && list_all is_byte bytes
