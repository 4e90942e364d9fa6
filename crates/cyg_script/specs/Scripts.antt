-- The script of the parts that were read, and how far a text was read.
use Rattle.std.specs.Prelude.{◌≡◌, ℕ, ◌++◌, List, map}
use Rattle.std.specs.List.{list_all}
use Rattle.script_spec.specs.declared.script.Script.{Script}
use Rattle.script_spec.specs.FirstFault.{fault_of}
use Rattle.script_spec.specs.Front.{rest_fault}
use Rattle.script_spec.specs.Grammar.{is_plain}
use Rattle.script_spec.specs.Lines.{lines_of, not_skipped, spaced}
use Rattle.cyg_script.specs.After.{IsAfter, lines_read}
use Rattle.cyg_script.specs.Parts.{Parts}

-- the script has these parts
pub record HasParts (s : Script) (p : Parts) : Type 0 where
  pub slots : s.setup.limits.slots ≡ p.slots
  pub rows : s.setup.limits.rows ≡ p.rows
  pub budget : s.setup.limits.budget ≡ p.budget
  pub modules : s.setup.modules ≡ p.modules
  pub programs : s.setup.programs ≡ p.programs
  pub occupied : s.occupied ≡ p.pages
  pub directives : s.directives ≡ p.schedule

-- These lines of a text were read into these parts; what is left of it is a rest, whose first line has this number.
pub record IsReadTo (text : List ℕ) (read : List (ℕ × List (List ℕ))) (number : ℕ) (rest : List ℕ) (p : Parts) : Type 0
  where
    pub after : IsAfter read p
    pub fault : fault_of text ≡ rest_fault read number (lines_of rest)
    pub plain : list_all is_plain (lines_of text) ≡ list_all is_plain (lines_of rest)
    pub shown : not_skipped (lines_of text) ≡ map spaced (lines_read read) ++ not_skipped (lines_of rest)

-- some lines were
abbrev pub IsReadSoFar : List ℕ → ℕ → List ℕ → Parts → Type 0
IsReadSoFar text number rest p = (read : List (ℕ × List (List ℕ))) × IsReadTo text read number rest p
