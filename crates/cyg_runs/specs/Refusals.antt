-- Why the text of a run is refused, and the line that says so.
use Rattle.std.specs.Prelude.{ℕ, List, [], ◌∷◌, ◌++◌, codes}
use Rattle.std.specs.Fmt.{decimal}
use Rattle.script_spec.specs.declared.fault.Kind.{Kind}
use Rattle.script_spec.specs.declared.fault.Kind.TheVariants as kind
use Rattle.cyg_runs.specs.declared.refusal.Refusal.{Refusal}
use Rattle.cyg_runs.specs.declared.refusal.Refusal.TheVariants as refusal

-- the name of a kind of fault
abbrev pub kind_word : Kind → List ℕ
kind_word kind.Large = codes "Large"
kind_word kind.NoHeader = codes "NoHeader"
kind_word kind.Unfinished = codes "Unfinished"
kind_word kind.NotAscii = codes "NotAscii"
kind_word kind.TooLong = codes "TooLong"
kind_word kind.Missing = codes "Missing"
kind_word kind.Unknown = codes "Unknown"
kind_word kind.Words = codes "Words"
kind_word kind.BadNumber = codes "BadNumber"
kind_word kind.Range = codes "Range"
kind_word kind.BadName = codes "BadName"
kind_word kind.Twice = codes "Twice"
kind_word kind.TooMany = codes "TooMany"
kind_word kind.Target = codes "Target"

-- a line of a word, a number and a word, with its LF
abbrev pub numbered_line : List ℕ → ℕ → List ℕ → List ℕ
numbered_line first number last = first ++ codes " " ++ decimal number ++ codes " " ++ last ++ 10 ∷ []

-- the line of a refusal
abbrev pub refusal_line : Refusal → List ℕ
refusal_line (refusal.Fault line kind) = numbered_line (codes "fault") line (kind_word kind)
refusal_line refusal.Unbuilt = codes "fault 0 Unbuilt" ++ 10 ∷ []
