-- What a reader answers to a line.
use Rattle.std.specs.Prelude.{◌≡◌, ℕ, List, ◌∷◌, Option, Some, None, option_map, Result, Ok, Err, if◌then◌else◌}
use Rattle.script_spec.specs.declared.fault.FirstWord.{FirstWord}
use Rattle.script_spec.specs.declared.fault.Kind.{Kind}
use Rattle.script_spec.specs.declared.fault.Kind.TheVariants.{NoHeader, Target}
use Rattle.script_spec.specs.Faults.{least}
use Rattle.script_spec.specs.FirstWords.{first_word, word_text, either}
use Rattle.script_spec.specs.Front.{words_read, past_end, is_ending, and_read}
use Rattle.script_spec.specs.LineFaults.{bytes_fault, line_fault, written_fault, words_fault}
use Rattle.script_spec.specs.Lines.{Line}
use Rattle.script_spec.specs.Places.{end_fault, end_sort_fault}
use Rattle.script_spec.specs.Print.{script_words}
use Rattle.script_spec.specs.Validity.{IsValid}
use Rattle.script_spec.specs.declared.fault.Sort.{Sort}
use Rattle.script_spec.specs.declared.script.Script.{Script}
use Rattle.cyg_script.specs.declared.error.ScriptError.{ScriptError}
use Rattle.cyg_script.specs.declared.error.ScriptError.TheVariants as error
use Rattle.cyg_script.specs.declared.reader.Stop.{Stop}
use Rattle.cyg_script.specs.declared.reader.Stop.TheVariants as stop
use Rattle.cyg_script.specs.After.{IsAfter, lines_read}
use Rattle.cyg_script.specs.Parts.{Parts}

-- There is no fault, and this holds; or the answer is the fault. Where memory runs out, nothing is said.
abbrev pub Judges : {T : Type 0} → Result T Stop → Option Kind → Type 0 → Type 0
Judges (Ok x) fault After = (fault ≡ None) × After
Judges (Err (stop.Fault kind)) fault After = fault ≡ Some kind
Judges (Err stop.Memory) fault After = Unit {0}

-- the words after a first word that may stand here are read, or the answer is their fault
abbrev pub Reads : {T : Type 0} → Result T Stop → ℕ → FirstWord → List (List ℕ) → Parts → Parts → Type 0
Reads r number word ws old new = (read : List (ℕ × List (List ℕ))) → IsAfter read old
    → Judges r (written_fault (words_read read) word ws) (IsAfter ((number, word_text word ∷ ws) ∷ read) new)

-- the words of a line that isn't skipped are read, or the answer is the line's fault, of its bytes or its words
abbrev pub ReadsWords : {T : Type 0} → Result T Stop → ℕ → Option Kind → Option FirstWord → List (List ℕ) → Parts
    → Parts → Type 0
ReadsWords r number form first ws old new = (read : List (ℕ × List (List ℕ))) (line : Line) (w : List ℕ)
    → IsAfter read old → form ≡ bytes_fault line → first ≡ first_word w
    → Judges r (least form (words_fault (words_read read) (w ∷ ws))) (IsAfter ((number, w ∷ ws) ∷ read) new)

-- the answer to a line with this number
abbrev pub at_line : {T : Type 0} → ℕ → Result T Stop → Result T ScriptError
at_line number (Ok x) = Ok x
at_line number (Err (stop.Fault kind)) = Err (error.Fault number kind)
at_line number (Err stop.Memory) = Err error.Memory

-- There is no fault, and this holds of what is answered; or the answer is the fault.
abbrev pub Tells : {T : Type 0} → Result T ScriptError → Option (ℕ × Kind) → (T → Type 0) → Type 0
Tells (Ok x) fault Holds = (fault ≡ None) × Holds x
Tells (Err (error.Fault line kind)) fault Holds = fault ≡ Some (line, kind)
Tells (Err error.Memory) fault Holds = Unit {0}

-- the fault of a program that ends, by the line that names a place past its end
abbrev pub target_at : Option ℕ → Option (ℕ × Kind)
target_at past = option_map (λ (line : ℕ). (line, Target)) past

-- the fault of a line with this number, or of the program that it ends
abbrev pub fault_at : ℕ → Option ℕ → Option Kind → Option (ℕ × Kind)
fault_at number past fault = either (target_at past) (option_map (λ (kind : Kind). (number, kind)) fault)

-- the line that names a place past the end of the program that this line ends
abbrev pub past_at : List (ℕ × List (List ℕ)) → Line → Option ℕ
past_at read line = if is_ending line then past_end read else None

-- the program that the lines read end with, if any, is closed, or the answer is its fault
abbrev pub Closes : {T : Type 0} → Result T ScriptError → Parts → Parts → Type 0
Closes r old new = (read : List (ℕ × List (List ℕ))) → IsAfter read old
    → Tells r (target_at (past_end read)) (λ _. IsAfter read new)

-- the line is read, or the answer is the fault of the program that it ends, or its own
abbrev pub ReadsLine : {T : Type 0} → Result T ScriptError → ℕ → Line → Parts → Parts → Type 0
ReadsLine r number line old new = (read : List (ℕ × List (List ℕ))) → IsAfter read old
    → Tells r (fault_at number (past_at read line) (line_fault (words_read read) line))
    (λ _. IsAfter (and_read read number line) new)

-- the fault of the end of a text whose last line is of a sort
abbrev pub last_fault : Option Sort → Option Kind
last_fault None = Some NoHeader
last_fault (Some last) = end_sort_fault (Some last)

-- the lines that were read are those of the script that is answered, or the answer is the fault of the text's end
abbrev pub Finishes : Result Script ScriptError → ℕ → Parts → Type 0
Finishes r number parts = (read : List (ℕ × List (List ℕ))) → IsAfter read parts
    → Tells r (option_map (λ (kind : Kind). (number, kind)) (end_fault (words_read read)))
    (λ (script : Script). (script_words script ≡ lines_read read) × IsValid script)
