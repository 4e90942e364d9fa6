-- What a state of the modelled Win32 shows of the rows. A word that the section doesn't have counts as 0.
use Rattle.std.specs.Prelude.{ℕ, ◌-◌}
use Rattle.win32_spec.specs.State.{Win32State}
use Rattle.win32_spec.specs.Lookup.{section_word}
use Rattle.layer_spec.specs.Rows.{main_place, group_place, exit_place}

-- the word at a place of the section
abbrev pub word_in : Win32State → ℕ → ℕ
word_in s place = section_word s place

-- the number of rows that are claimed
abbrev pub claimed_in : Win32State → ℕ
claimed_in s = word_in s 0

-- the words of a row
abbrev pub main_at : Win32State → ℕ → ℕ
main_at s row = word_in s (main_place row)

abbrev pub group_at : Win32State → ℕ → ℕ
group_at s row = word_in s (group_place row)

abbrev pub exit_at : Win32State → ℕ → ℕ
exit_at s row = word_in s (exit_place row)

-- the row of a process number
abbrev pub row_of : ℕ → ℕ
row_of p = p - 1
