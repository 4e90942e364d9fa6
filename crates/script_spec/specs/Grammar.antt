-- What a text is of a script.
use Rattle.std.specs.Prelude.{◌≡◌, ◌≤◌, ℕ, Bool, true, ◌&&◌, nat_le, List, length}
use Rattle.std.specs.List.{list_all}
use Rattle.script_spec.specs.declared.script.Script.{Script}
use Rattle.script_spec.specs.Lines.{Line, lines_of, not_skipped}
use Rattle.script_spec.specs.LineFaults.{is_printable}
use Rattle.script_spec.specs.Print.{script_lines}
use Rattle.script_spec.specs.Validity.{IsValid}

-- LF ends the line, which has at most 200 bytes, each of them from 20 to 7e
abbrev pub is_plain : Line → Bool
is_plain line = line.is_ended && list_all is_printable line.bytes && nat_le (length line.bytes) 200

-- The text is one of this script: all its lines are plain, and those that aren't skipped are the script's lines.
pub record IsScript (text : List ℕ) (script : Script) : Type 0 where
  pub size : length text ≤ 1048576
  pub plain : list_all is_plain (lines_of text) ≡ true
  pub written : not_skipped (lines_of text) ≡ script_lines script
  pub valid : IsValid script
