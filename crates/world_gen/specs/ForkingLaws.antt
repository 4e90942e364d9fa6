-- There is one script for a number of forks. It is valid, and its print is a text of it.
use Rattle.std.proofs.Common.{◌≡◌, ◌&&◌, nat_lt, ℕ, zero, suc, ◌+◌, ◌*◌, ◌≤◌, true, nat_le, List, [], ◌∷◌, ◌++◌}
use Rattle.std.proofs.Common.{map, length, refl, sym, ap, ◌∙◌, arith, length-append}
use Rattle.std.specs.Prelude.{codes, pos}
use Rattle.std.specs.List.{list_all}
use Rattle.std.proofs.lemmas.Bool.{and_from, le-leb, lt-ltb}
use Rattle.std.proofs.lemmas.List.{length-map}
use Rattle.std.proofs.lemmas.List.Folds.{list_all-append}
use Rattle.w32_base.specs.Targets.{are_targets_below}
use Rattle.w32_base.specs.declared.instr.Instr.{Instr}
use Rattle.w32_base.specs.declared.instr.Instr.TheVariants as instr
use Rattle.w32_base.specs.declared.instr.Operand.TheVariants as operand
use Rattle.w32_base.specs.declared.setup.Program.{Program}
use Rattle.script_spec.specs.declared.script.Script.{Script}
use Rattle.script_spec.specs.InstrText.{instr_words}
use Rattle.script_spec.specs.Print.{program_lines, script_words, print_of}
use Rattle.script_spec.specs.Validity.{is_valid_instr, is_valid_program, IsValid}
use Rattle.script_spec.specs.Grammar.{IsScript}
use Rattle.script_spec.specs.PrintLaws.{print_is_script}
use Rattle.script_spec.specs.PrintSizeLaws.{print_size}
use Rattle.script_spec.specs.SameParts.{same_limits, same_program, same_script}
use Rattle.world_gen.specs.Forks.{one_fork, forks, instructions_of, IsForking}
use Rattle.world_gen.specs.Parts.{IsMainOf}

forks-length : (child n : ℕ) → length (forks child n) ≡ 3 * n
forks-length child zero = refl
forks-length child (suc n) = omega (arith, forks-length child n)

-- how many instructions the program has
pub code-length : (n : ℕ) → length (instructions_of n) ≡ 3 * n + 3
code-length n = length-append (forks (3 * n + 1) n) _ ∙ ap (λ k. k + 3) (forks-length (3 * n + 1) n)

-- where a place lies in the program, each of the forks names one that does
forks-below : (size child n : ℕ) (rest : List Instr) → nat_lt child size ≡ true → are_targets_below size rest ≡ true
    → are_targets_below size (forks child n ++ rest) ≡ true
forks-below size child zero rest below all = all
forks-below size child (suc n) rest below all =
    ap (λ b. b && are_targets_below size (forks child n ++ rest)) below ∙ forks-below size child n rest below all

-- each place that the program names lies in it
pub places-below : (n size : ℕ) → size ≡ 3 * n + 3 → are_targets_below size (instructions_of n) ≡ true
places-below n size is =
    forks-below size (3 * n + 1) n _ (lt-ltb (3 * n + 1) size (omega (arith, is))) refl

rounds_valid : (child n : ℕ) → list_all is_valid_instr (forks child n) ≡ true
rounds_valid child zero = refl
rounds_valid child (suc n) =
    list_all-append is_valid_instr (one_fork child) (forks child n)
    ∙ and_from (list_all is_valid_instr (one_fork child)) (list_all is_valid_instr (forks child n)) refl
    (rounds_valid child n)

abbrev end_of_code : List Instr
end_of_code = instr.Exit (operand.Number (pos 0)) ∷ instr.GetPid ∷ instr.Exit (operand.Register 0) ∷ []

code_valid : (n : ℕ) → list_all is_valid_instr (instructions_of n) ≡ true
code_valid n =
    list_all-append is_valid_instr (forks (3 * n + 1) n) end_of_code
    ∙ and_from (list_all is_valid_instr (forks (3 * n + 1) n)) (list_all is_valid_instr end_of_code)
    (rounds_valid (3 * n + 1) n) refl

main_of : (n : ℕ) (s : Script) (h : IsForking n s) → IsMainOf n h.program
main_of n s h = record { name = h.name; heap = h.heap; stack = h.stack; code = h.code }

main_valid : (n : ℕ) (p : Program) → n ≤ 500 → IsMainOf n p → is_valid_program p ≡ true
main_valid n p few h =
    let length_is : length p.code ≡ 3 * n + 3 = ap length h.code ∙ code-length n in
    let size : nat_le 1 (length p.code) ≡ true = le-leb 1 (length p.code) (omega (arith, length_is)) in
    let most : nat_le (length p.code) 4000 ≡ true = le-leb (length p.code) 4000 (omega (arith, length_is)) in
    let valid : list_all is_valid_instr p.code ≡ true = rw h.code (code_valid n) in
    let below : are_targets_below (length p.code) p.code ≡ true =
    ap (are_targets_below (length p.code)) h.code ∙ places-below n (length p.code) length_is in
    rw (h.name, h.heap, h.stack, size, most, valid, below) refl

-- it is valid
pub forking_valid : (n : ℕ) (s : Script) → 1 ≤ n → n ≤ 500 → IsForking n s → IsValid s
forking_valid n s some few h =
    let rows : nat_le (n + 1) 4000 ≡ true = le-leb (n + 1) 4000 (omega arith) in
    let one : nat_le 1 (n + 1) ≡ true = le-leb 1 (n + 1) (omega arith) in
    let main : is_valid_program h.program ≡ true = main_valid n h.program few (main_of n s h) in
    record {
      limits = rw (h.slots, h.rows, h.budget, rows, one) refl;
      few_modules = rw h.modules (omega arith);
      modules = rw h.modules refl;
      module_names = rw h.modules refl;
      few_pages = rw h.occupied (omega arith);
      pages = rw h.occupied refl;
      number_of_programs = rw h.programs refl;
      programs = rw (h.programs, main) refl;
      program_names = rw h.programs refl;
      number_of_lines = rw h.directives refl;
      lines = rw h.directives refl;
    }

-- it has 3 n + 10 lines
lines_of_forking : (n : ℕ) (s : Script) → IsForking n s → length (script_words s) ≡ 3 * n + 10
lines_of_forking n s h =
    let code : length (map instr_words h.program.code) ≡ length h.program.code =
    length-map h.program.code instr_words in
    let size : length h.program.code ≡ 3 * n + 3 = rw h.code (code-length n) in
    let end : List (List (List ℕ)) = (codes "schedule" ∷ []) ∷ (codes "settle" ∷ []) ∷ [] in
    let whole : length ((program_lines h.program ++ []) ++ end) ≡ length (program_lines h.program ++ []) + 2 =
    length-append (program_lines h.program ++ []) end in
    let part : length (program_lines h.program ++ []) ≡ length (program_lines h.program) + 0 =
    length-append (program_lines h.program) [] in
    let own : length (program_lines h.program) ≡ suc (length (map instr_words h.program.code)) = refl in
    rw (h.modules, h.occupied, h.programs, h.directives) (omega (arith, code, size, whole, part, own))

-- its print is a text of it
pub forking_print : (n : ℕ) (s : Script) → 1 ≤ n → n ≤ 500 → IsForking n s → IsScript (print_of s) s
forking_print n s some few h =
    let valid = forking_valid n s some few h in
    let size : length (print_of s) ≤ 127 * length (script_words s) = print_size s valid in
    let lines : length (script_words s) ≡ 3 * n + 10 = lines_of_forking n s h in
    print_is_script s valid (omega (arith, size, lines))

main_same : (n : ℕ) (p q : Program) → IsMainOf n p → IsMainOf n q → p ≡ q
main_same n p q h k =
    same_program p q (h.name ∙ sym k.name) (h.heap ∙ sym k.heap) (h.stack ∙ sym k.stack) (h.code ∙ sym k.code)

-- there is one
pub one_forking : (n : ℕ) (s t : Script) → IsForking n s → IsForking n t → s ≡ t
one_forking n s t h k =
    let main : h.program ≡ k.program = main_same n h.program k.program (main_of n s h) (main_of n t k) in
    same_script s t
    (same_limits s.setup.limits t.setup.limits (h.slots ∙ sym k.slots) (h.rows ∙ sym k.rows)
    (h.budget ∙ sym k.budget))
    (h.modules ∙ sym k.modules)
    (h.programs ∙ ap (λ (p : Program). p ∷ []) main ∙ sym k.programs)
    (h.occupied ∙ sym k.occupied) (h.directives ∙ sym k.directives)
