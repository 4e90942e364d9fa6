-- A text spells one script, and a print spells the script that it is of.
use Rattle.std.proofs.Common.{◌≡◌, ℕ, ◌≤◌, true, false, List, [], ◌∷◌, ◌++◌, map}
use Rattle.std.proofs.Common.{length, refl, sym, ap, ◌∙◌, arith, append_assoc}
use Rattle.std.specs.Prelude.{codes}
use Rattle.std.specs.Fmt.{decimal}
use Rattle.std.specs.List.{list_all}
use Rattle.std.proofs.lemmas.Bool.{and_parts}
use Rattle.std.proofs.lemmas.List.{append-nil}
use Rattle.w32_base.specs.declared.setup.Limits.{Limits}
use Rattle.w32_base.specs.declared.setup.Program.{Program}
use Rattle.script_spec.specs.declared.fault.Sort.{Sort}
use Rattle.script_spec.specs.declared.fault.Sort.TheVariants as sort
use Rattle.script_spec.specs.declared.script.ScheduleLine.{ScheduleLine}
use Rattle.script_spec.specs.declared.script.Script.{Script}
use Rattle.script_spec.specs.Lines.{words_of, spaced}
use Rattle.script_spec.specs.Places.{second}
use Rattle.script_spec.specs.Print.{limits_words, module_words, occupied_words, program_words, program_lines}
use Rattle.script_spec.specs.Print.{programs_lines, schedule_words, script_words, print_of}
use Rattle.script_spec.specs.Validity.{are_valid_limits, is_valid_module, is_valid_page, is_valid_program}
use Rattle.script_spec.specs.Validity.{is_valid_line, IsValid}
use Rattle.script_spec.specs.Grammar.{IsScript}
use Rattle.script_spec.specs.OneWordLaws.{same_number}
use Rattle.script_spec.specs.LineLaws.{is_good}
use Rattle.script_spec.specs.PrintLaws.{script_good, print_is_script}
use Rattle.script_spec.specs.Follow.{good_words_of}
use Rattle.script_spec.specs.SameParts.{same_limits, same_script}
use Rattle.script_spec.specs.SameLines.{starts_other, same_front, other_front, module_same, page_same, line_same}
use Rattle.script_spec.specs.SameLines.{schedule_is, program_same}

-- the lines of programs, and a line after them that is of another sort
program_other : (s : Sort) (ps : List Program) (more : List (List (List ℕ)))
    → ((p : Program) → starts_other s (program_words p ∷ []) ≡ true) → starts_other s more ≡ true
    → starts_other s (programs_lines ps ++ more) ≡ true
program_other s [] more h m = m
program_other s (p ∷ ps) more h m = h p

programs_same : (ps qs : List Program) (more other : List (List (List ℕ))) → list_all is_valid_program ps ≡ true
    → list_all is_valid_program qs ≡ true → starts_other sort.Program more ≡ true
    → starts_other sort.Program other ≡ true → starts_other sort.Instruction more ≡ true
    → starts_other sort.Instruction other ≡ true → programs_lines ps ++ more ≡ programs_lines qs ++ other
    → (ps ≡ qs) × (more ≡ other)
programs_same [] [] more other h k m o i j e = (refl, e)
programs_same [] (q ∷ qs) more other h k m o i j e = absurd (let a : false ≡ true = rw e at m in cc)
programs_same (p ∷ ps) [] more other h k m o i j e = absurd (let a : false ≡ true = rw (sym e) at o in cc)
programs_same (p ∷ ps) (q ∷ qs) more other h k m o i j e =
    let a = and_parts (is_valid_program p) (list_all is_valid_program ps) h in
    let b = and_parts (is_valid_program q) (list_all is_valid_program qs) k in
    let all : program_lines p ++ (programs_lines ps ++ more) ≡ program_lines q ++ (programs_lines qs ++ other) =
    sym (append_assoc (program_lines p) (programs_lines ps) more) ∙ e
    ∙ append_assoc (program_lines q) (programs_lines qs) other in
    let r = program_same p q (programs_lines ps ++ more) (programs_lines qs ++ other) a.0 b.0
    (program_other sort.Instruction ps more (λ p. refl) i)
    (program_other sort.Instruction qs other (λ p. refl) j) all in
    let one : p ≡ q = r.0 in
    let s = programs_same ps qs more other a.1 b.1 m o i j r.1 in
    let others : ps ≡ qs = s.0 in
    let front : ◌≡◌ {A = List Program} (p ∷ ps) (q ∷ qs) = cc in
    (front, s.1)

abbrev from_second : List (List (List ℕ)) → List (List (List ℕ))
from_second [] = []
from_second (ws ∷ lines) = lines

abbrev number_word : List (List (List ℕ)) → List ℕ
number_word [] = []
number_word (ws ∷ lines) = second ws

limits_same : (l m : Limits) (more other : List (List (List ℕ))) → are_valid_limits l ≡ true
    → are_valid_limits m ≡ true → limits_words l ++ more ≡ limits_words m ++ other
    → (l ≡ m) × (more ≡ other)
limits_same l m more other h k e =
    let one = ap from_second e in
    let two = ap from_second one in
    let three = ap from_second two in
    let slots : decimal l.slots ≡ decimal m.slots = ap number_word one in
    let rows : decimal l.rows ≡ decimal m.rows = ap number_word two in
    let budget : decimal l.budget ≡ decimal m.budget = ap number_word three in
    let a = l.slots_in_range in
    let b = m.slots_in_range in
    let c = l.rows_in_range in
    let d = m.rows_in_range in (
      same_limits l m (same_number l.slots m.slots (omega arith) (omega arith) slots)
          (same_number l.rows m.rows (omega arith) (omega arith) rows)
          (same_number l.budget m.budget l.budget_in_range.1 m.budget_in_range.1 budget),
      ap from_second three,
    )

lines_end : (f : ScheduleLine → List (List ℕ)) (xs ys : List ScheduleLine) → map f xs ≡ map f ys
    → map f xs ++ [] ≡ map f ys ++ []
lines_end f xs ys e = append-nil (map f xs) ∙ e ∙ sym (append-nil (map f ys))

-- valid scripts of the same lines are the same
pub words_same : (s t : Script) → IsValid s → IsValid t → script_words s ≡ script_words t → s ≡ t
words_same s t v w e =
    let end_s : List (List (List ℕ)) = (codes "schedule" ∷ []) ∷ map schedule_words s.directives in
    let end_t : List (List (List ℕ)) = (codes "schedule" ∷ []) ∷ map schedule_words t.directives in
    let programs_s : List (List (List ℕ)) = programs_lines s.setup.programs ++ end_s in
    let programs_t : List (List (List ℕ)) = programs_lines t.setup.programs ++ end_t in
    let pages_s : List (List (List ℕ)) = map occupied_words s.occupied ++ programs_s in
    let pages_t : List (List (List ℕ)) = map occupied_words t.occupied ++ programs_t in
    let a = limits_same s.setup.limits t.setup.limits (map module_words s.setup.modules ++ pages_s)
    (map module_words t.setup.modules ++ pages_t) v.limits w.limits e in
    let b = same_front module_words is_valid_module sort.Module module_same (λ m h. refl) s.setup.modules
    t.setup.modules pages_s pages_t v.modules w.modules
    (other_front occupied_words is_valid_page sort.Occupy page_same (λ o h. refl) sort.Module (λ o h. refl) s.occupied
    programs_s v.pages (program_other sort.Module s.setup.programs end_s (λ p. refl) refl))
    (other_front occupied_words is_valid_page sort.Occupy page_same (λ o h. refl) sort.Module (λ o h. refl) t.occupied
    programs_t w.pages (program_other sort.Module t.setup.programs end_t (λ p. refl) refl)) a.1 in
    let c = same_front occupied_words is_valid_page sort.Occupy page_same (λ o h. refl) s.occupied t.occupied programs_s
    programs_t v.pages w.pages (program_other sort.Occupy s.setup.programs end_s (λ p. refl) refl)
    (program_other sort.Occupy t.setup.programs end_t (λ p. refl) refl) b.1 in
    let d = programs_same s.setup.programs t.setup.programs end_s end_t v.programs w.programs refl refl refl refl c.1 in
    let few = s.setup.limits.slots_in_range in
    let slots : t.setup.limits.slots ≡ s.setup.limits.slots = ap (λ (l : Limits). l.slots) (sym a.0) in
    let lines_t : list_all (is_valid_line s.setup.limits.slots) t.directives ≡ true = rw slots at w.lines in
    let f = same_front schedule_words (is_valid_line s.setup.limits.slots) sort.Directive
    (line_same s.setup.limits.slots few.1) (λ x h. schedule_is x) s.directives t.directives [] [] v.lines lines_t
    refl refl
    (lines_end schedule_words s.directives t.directives (ap from_second d.1)) in
    same_script s t a.0 b.0 d.0 c.0 f.0

words_back : (lines : List (List (List ℕ))) → list_all is_good lines ≡ true → map words_of (map spaced lines) ≡ lines
words_back [] h = refl
words_back (ws ∷ lines) h =
    let p = and_parts (is_good ws) (list_all is_good lines) h in
    rw (good_words_of ws p.0, words_back lines p.1) refl

-- a text is a text of one script
pub one_script : (text : List ℕ) (s t : Script) → IsScript text s → IsScript text t → s ≡ t
one_script text s t h k =
    words_same s t h.valid k.valid
    (sym (words_back (script_words s) (script_good s h.valid))
    ∙ ap (map words_of) (sym h.written ∙ k.written)
    ∙ words_back (script_words t) (script_good t k.valid))

-- a print is a text of no script but the one that it is of
pub print_of_one : (s t : Script) → IsValid s → length (print_of s) ≤ 1048576 → IsScript (print_of s) t → s ≡ t
print_of_one s t v few h = one_script (print_of s) s t (print_is_script s v few) h
