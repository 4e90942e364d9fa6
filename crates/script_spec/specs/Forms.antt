-- The forms of lines: what the words after the first one must be.
use Rattle.std.specs.Prelude.{ℕ, Bool, true, false, List, [], ◌∷◌, codes, Option, Some, None, if◌then◌else◌}
use Rattle.script_spec.specs.declared.fault.Kind.{Kind}
use Rattle.script_spec.specs.declared.fault.Kind.TheVariants.{Words}
use Rattle.script_spec.specs.declared.fault.FirstWord.{FirstWord}
use Rattle.script_spec.specs.declared.fault.FirstWord.TheVariants as first
use Rattle.script_spec.specs.declared.fault.InstrWord.{InstrWord}
use Rattle.script_spec.specs.declared.fault.InstrWord.TheVariants as word
use Rattle.script_spec.specs.declared.fault.DirectiveWord.{DirectiveWord}
use Rattle.script_spec.specs.declared.fault.DirectiveWord.TheVariants as directive
use Rattle.script_spec.specs.Numbers.{value_of}
use Rattle.script_spec.specs.Faults.{least}
use Rattle.script_spec.specs.Fields.{Field, FixedWord, RegisterWord, ValueWord, PlaceWord, NumberWord, NameWord}
use Rattle.script_spec.specs.Fields.{KeyWord, field_fault}

-- the forms of an instruction
abbrev pub instr_forms : InstrWord → List (List Field)
instr_forms word.Set = (RegisterWord ∷ ValueWord ∷ []) ∷ []
instr_forms word.Add = (RegisterWord ∷ ValueWord ∷ []) ∷ []
instr_forms word.Load = (RegisterWord ∷ ValueWord ∷ []) ∷ []
instr_forms word.Store = (ValueWord ∷ ValueWord ∷ []) ∷ []
instr_forms word.Push = (ValueWord ∷ []) ∷ []
instr_forms word.Pop = (RegisterWord ∷ []) ∷ []
instr_forms word.Jump = (PlaceWord ∷ []) ∷ []
instr_forms word.JumpZero = (ValueWord ∷ PlaceWord ∷ []) ∷ []
instr_forms word.JumpNegative = (ValueWord ∷ PlaceWord ∷ []) ∷ []
instr_forms word.GetPid = [] ∷ []
instr_forms word.GetPpid = [] ∷ []
instr_forms word.GetPgid = [] ∷ []
instr_forms word.GetSid = [] ∷ []
instr_forms word.Fork = [] ∷ []
instr_forms word.Exec = (NameWord ∷ []) ∷ []
instr_forms word.Exit = (ValueWord ∷ []) ∷ []
instr_forms word.Wait = (ValueWord ∷ ValueWord ∷ []) ∷ []
instr_forms word.Kill = (ValueWord ∷ ValueWord ∷ []) ∷ []
instr_forms word.Action = (ValueWord ∷ FixedWord (codes "default") ∷ []) ∷ (ValueWord ∷ FixedWord (codes "ignore") ∷ [])
    ∷ (ValueWord ∷ FixedWord (codes "handler") ∷ PlaceWord ∷ [])
    ∷ (ValueWord ∷ FixedWord (codes "handler") ∷ PlaceWord ∷ FixedWord (codes "restart") ∷ []) ∷ []
instr_forms word.Mask = (FixedWord (codes "block") ∷ ValueWord ∷ []) ∷ (FixedWord (codes "unblock") ∷ ValueWord ∷ [])
    ∷ (FixedWord (codes "set") ∷ ValueWord ∷ []) ∷ []
instr_forms word.Suspend = (ValueWord ∷ []) ∷ []
instr_forms word.Pause = [] ∷ []
instr_forms word.Return = [] ∷ []
instr_forms word.SetPgid = (ValueWord ∷ ValueWord ∷ []) ∷ []
instr_forms word.SetSid = [] ∷ []
instr_forms word.TcSet = (ValueWord ∷ []) ∷ []
instr_forms word.TcGet = [] ∷ []
instr_forms word.TtyFlags = (ValueWord ∷ []) ∷ []
instr_forms word.Read = (ValueWord ∷ ValueWord ∷ []) ∷ []
instr_forms word.Write = (ValueWord ∷ ValueWord ∷ []) ∷ []

-- the forms of a schedule's line, in a script of so many slots
abbrev pub directive_forms : ℕ → DirectiveWord → List (List Field)
directive_forms slots directive.Turn = (NumberWord 0 slots ∷ NumberWord 0 2 ∷ []) ∷ []
directive_forms slots directive.End = (NumberWord 1 slots ∷ []) ∷ []
directive_forms slots directive.Key = (KeyWord ∷ []) ∷ []
directive_forms slots directive.Steps = (NumberWord 1 500000 ∷ []) ∷ []
directive_forms slots directive.Settle = [] ∷ []

-- the forms of the line with a first word, in a script of so many slots
abbrev pub forms : ℕ → FirstWord → List (List Field)
forms slots first.CygScript = (FixedWord (codes "1") ∷ []) ∷ []
forms slots first.Slots = (NumberWord 1 64 ∷ []) ∷ []
forms slots first.Rows = (NumberWord 1 4000 ∷ []) ∷ []
forms slots first.Budget = (NumberWord 1 500000 ∷ []) ∷ []
forms slots first.Module = (NameWord ∷ NumberWord 0 1023 ∷ NumberWord 1 8 ∷ []) ∷ []
forms slots first.Occupy = (NumberWord 1 500000 ∷ NumberWord 0 1023 ∷ []) ∷ []
forms slots first.Program =
    (NameWord ∷ FixedWord (codes "heap") ∷ NumberWord 0 32768 ∷ FixedWord (codes "stack") ∷ NumberWord 64 32768 ∷ []) ∷
    []
forms slots (first.Instr w) = instr_forms w
forms slots first.Schedule = [] ∷ []
forms slots (first.Directive w) = directive_forms slots w

-- the least fault of words that are to have a form
abbrev pub form_fault : List Field → List (List ℕ) → Option Kind
form_fault [] [] = None
form_fault [] (w ∷ ws) = Some Words
form_fault (f ∷ fs) [] = Some Words
form_fault (f ∷ fs) (w ∷ ws) = least (field_fault f w) (form_fault fs ws)

-- the number of words, the fixed words and the registers are as the form has them
abbrev pub keeps_form : Option Kind → Bool
keeps_form (Some Words) = false
keeps_form _ = true

-- the one of some forms that the words keep
abbrev pub kept_form : List (List Field) → List (List ℕ) → Option (List Field)
kept_form [] ws = None
kept_form (f ∷ fs) ws = if keeps_form (form_fault f ws) then Some f else kept_form fs ws

-- the fault of words as the form that they keep
abbrev pub as_form : List (List ℕ) → Option (List Field) → Option Kind
as_form ws None = Some Words
as_form ws (Some f) = form_fault f ws

abbrev pub forms_fault : List (List Field) → List (List ℕ) → Option Kind
forms_fault fs ws = as_form ws (kept_form fs ws)

-- the place that words of a form name
abbrev pub place_in : List Field → List (List ℕ) → Option ℕ
place_in [] ws = None
place_in (f ∷ fs) [] = None
place_in (PlaceWord ∷ fs) (w ∷ ws) = Some (value_of w)
place_in (f ∷ fs) (w ∷ ws) = place_in fs ws

abbrev pub place_as : List (List ℕ) → Option (List Field) → Option ℕ
place_as ws None = None
place_as ws (Some f) = place_in f ws
