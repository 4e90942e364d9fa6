-- What the reader of a text answers.
use Rattle.std.proofs.Common.{◌≡◌, ℕ, ◌≤◌, true, nat_eq, List, [], ◌∷◌, length, Option, Some, None, refl, ◌∙◌, arith}
use Rattle.std.specs.Prelude.{Result, Ok, Err}
use Rattle.std.specs.Result.{IsErrAnd}
use Rattle.std.proofs.lemmas.Bool.{eqb-true}
use Rattle.script_spec.specs.declared.script.Script.{Script}
use Rattle.script_spec.specs.FirstFault.{fault_of}
use Rattle.script_spec.specs.Front.{words_read}
use Rattle.script_spec.specs.Grammar.{IsScript}
use Rattle.script_spec.specs.LineFaults.{line_fault}
use Rattle.script_spec.specs.Lines.{Line, lines_of}
use Rattle.script_spec.specs.Places.{end_fault}
use Rattle.script_spec.specs.Print.{script_words}
use Rattle.script_spec.specs.Validity.{IsValid}
use Rattle.cyg_script.specs.declared.error.ScriptError.{ScriptError}
use Rattle.cyg_script.specs.declared.error.ScriptError.TheVariants as error
use Rattle.cyg_script.specs.declared.heading.Heading.{Heading}
use Rattle.cyg_script.specs.After.{lines_read}
use Rattle.cyg_script.specs.Judged.{Tells, fault_at, past_at}
use Rattle.cyg_script.specs.Parts.{Parts, no_parts, IsStaged}
use Rattle.cyg_script.specs.Scripts.{IsReadTo}
use Rattle.cyg_script.proofs.LineJudged.{numbered}
use Rattle.cyg_script.proofs.TextJudged.{fault_more, fault_last, script_last}

abbrev Lines : Type 0
Lines = List (ℕ × List (List ℕ))

no_open : {X : Type 0} (h : Heading) → ◌≡◌ {A = Option Heading} None (Some h) → X
no_open h e = absurd cc

-- before the first line
pub staged_nothing : IsStaged no_parts
staged_nothing = record {
  read = record {
    slots = (omega arith, omega arith);
    rows = (omega arith, omega arith);
    budget = (omega arith, omega arith);
    few_modules = omega arith;
    module_names = refl;
    few_pages = omega arith;
    few_programs = omega arith;
    program_names = refl;
    few_instructions = omega arith;
    counted = refl;
    few_lines = omega arith;
    lines = refl;
    no_modules = λ l. refl;
    no_pages = λ l. refl;
    no_programs = λ l. refl;
    no_heading = λ l. refl;
    no_code = λ l. refl;
    headed = λ l. absurd (omega (arith, l));
    ended = λ l. absurd (omega (arith, l));
    no_lines = λ l. refl;
    some_lines = λ l. absurd (omega (arith, l));
    new_heading = λ h e. no_open h e;
  };
  open_program = λ l. absurd (omega (arith, l));
}

pub nothing_left : (rest : List ℕ) → nat_eq (length rest) 0 ≡ true → rest ≡ []
nothing_left [] e = refl
nothing_left (b ∷ rest) e =
    absurd (let h : length (b ∷ rest) ≡ 0 = eqb-true (length (b ∷ rest)) 0 e in omega (arith, h))

-- where a line stops the reading
pub text_stopped : {T U : Type 0} (r : Result T ScriptError) (x : ScriptError) (text rest after : List ℕ) (read : Lines)
    (n : ℕ) (l : Line) (p : Parts) (P : U → Type 0) (Q : T → Type 0) → IsErrAnd r (λ (y : ScriptError). y ≡ x)
    → IsReadTo text read n rest p → lines_of rest ≡ l ∷ lines_of after
    → Tells {T = U} (Err x) (fault_at n (past_at read l) (line_fault (words_read read) l)) P
    → Tells r (fault_of text) Q
text_stopped (Ok y) x text rest after read n l p P Q h r e j = absurd h
text_stopped (Err y) (error.Fault m kind) text rest after read n l p P Q h r e j =
    rw h (fault_more text rest after read n l p (m, kind) r e j)
text_stopped (Err y) error.Memory text rest after read n l p P Q h r e j = rw h tt

-- at the end of the text
pub text_read : (r : Result Script ScriptError) (text rest : List ℕ) (read : Lines) (n : ℕ) (p : Parts)
    → IsReadTo text read n rest p → rest ≡ [] → length text ≤ 1048576
    → Tells r (numbered n (end_fault (words_read read)))
    (λ (s : Script). (script_words s ≡ lines_read read) × IsValid s)
    → Tells r (fault_of text) (λ (s : Script). IsScript text s)
text_read (Ok s) text rest read n p r e size j =
    (fault_last text rest read n p r e ∙ j.0, script_last text rest read n p s r e size j.1.0 j.1.1)
text_read (Err (error.Fault m kind)) text rest read n p r e size j = fault_last text rest read n p r e ∙ j
text_read (Err error.Memory) text rest read n p r e size j = tt
