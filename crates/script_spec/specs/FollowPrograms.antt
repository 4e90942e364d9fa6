-- The lines of programs follow those before without a fault.
use Rattle.std.proofs.Common.{◌≡◌, ℕ, suc, ◌+◌, ◌≤◌, ◌<◌, true, false, ◌&&◌, not, nat_le}
use Rattle.std.proofs.Common.{List, [], ◌∷◌, ◌++◌, map, length, Option, Some, None, refl, sym, ap, subst, ◌∙◌, arith}
use Rattle.std.proofs.Common.{append_assoc}
use Rattle.std.specs.Prelude.{codes, option_map, option_and_then}
use Rattle.std.specs.Fmt.{decimal}
use Rattle.std.specs.List.{list_all}
use Rattle.std.proofs.lemmas.Bool.{and_parts, and_from, not_from_false, leb-true, lt-leb}
use Rattle.w32_base.specs.Name.{is_name}
use Rattle.w32_base.specs.Names.{is_among}
use Rattle.w32_base.specs.Setup.{program_names}
use Rattle.w32_base.specs.Targets.{is_target_below, are_targets_below}
use Rattle.w32_base.specs.declared.instr.Instr.{Instr}
use Rattle.w32_base.specs.declared.setup.Program.{Program}
use Rattle.script_spec.specs.declared.fault.FirstWord.{FirstWord}
use Rattle.script_spec.specs.declared.fault.FirstWord.TheVariants as first
use Rattle.script_spec.specs.declared.fault.Sort.{Sort}
use Rattle.script_spec.specs.declared.fault.Sort.TheVariants as sort
use Rattle.script_spec.specs.Fields.{NumberWord, NameWord, FixedWord}
use Rattle.script_spec.specs.FirstWords.{instr_word_text, sort_of, sort_of_words}
use Rattle.script_spec.specs.Forms.{forms, kept_form, place_as}
use Rattle.script_spec.specs.Places.{place_fault, instructions_before, slots_of}
use Rattle.script_spec.specs.LineFaults.{words_fault}
use Rattle.script_spec.specs.FirstFault.{place_of, is_past}
use Rattle.script_spec.specs.InstrText.{instr_words}
use Rattle.script_spec.specs.Print.{program_words, program_lines, programs_lines}
use Rattle.script_spec.specs.Validity.{is_within, is_valid_instr, is_valid_program}
use Rattle.script_spec.specs.FirstWordLaws.{first_word-known}
use Rattle.script_spec.specs.FieldLaws.{number_good, name_good}
use Rattle.script_spec.specs.FormLaws.{IsSpelled, instr_spelled}
use Rattle.script_spec.specs.Follow.{are_below, Follow, last_sort, written-none, words-none}
use Rattle.script_spec.specs.FollowParts.{Met, AreNew, one_form}

instr_sort : (n : ℕ) (i : Instr) → IsSpelled n i → sort_of_words (instr_words i) ≡ Some sort.Instruction
instr_sort n i s =
    ap sort_of_words s.words ∙ ap (option_map sort_of) (first_word-known (first.Instr s.word))

instr_place : (n : ℕ) (i : Instr) → IsSpelled n i → is_past n (place_of (instr_words i)) ≡ false
instr_place n i s =
    ap (λ (ws : List (List ℕ)). is_past n (place_of ws)) s.words
    ∙ ap (λ (f : Option FirstWord).
    is_past n (option_and_then (λ word. place_as s.others (kept_form (forms 0 word) s.others)) f))
    (first_word-known (first.Instr s.word))
    ∙ s.good.1

-- an instruction's line
instr_fault : (n : ℕ) (i : Instr) → IsSpelled n i → (before : List (List (List ℕ))) (last : Sort)
    → last_sort before ≡ Some last → place_fault last sort.Instruction ≡ None → instructions_before before < 4000
    → words_fault before (instr_words i) ≡ None
instr_fault n i s before last l place few =
    ap (words_fault before) s.words
    ∙ words-none before last (instr_word_text s.word) s.others (first.Instr s.word) l
    (first_word-known (first.Instr s.word)) place
    (written-none (slots_of before) before (first.Instr s.word) s.others refl s.good.0 refl refl
    (lt-leb 4000 (instructions_before before) few))

met-instr : (ws : List (List ℕ)) (slots pages lines : ℕ) (modules programs : List (List ℕ))
    (before : List (List (List ℕ))) → sort_of_words ws ≡ Some sort.Instruction
    → Met slots modules programs pages lines before → Met slots modules programs pages lines (ws ∷ before)
met-instr ws slots pages lines modules programs before s met = record {
  slots_met = rw s met.slots_met;
  modules_met = rw s met.modules_met;
  modules_counted = rw s met.modules_counted;
  programs_met = rw s met.programs_met;
  programs_counted = rw s met.programs_counted;
  pages_counted = rw s met.pages_counted;
  lines_counted = rw s met.lines_counted;
}

-- the instructions of a program of n
code-follow : (is : List Instr) (n k slots pages : ℕ) (modules programs : List (List ℕ))
    (before lines : List (List (List ℕ))) (last : Sort) → Met slots modules programs pages 0 before
    → last_sort before ≡ Some last → place_fault last sort.Instruction ≡ None → (is ≡ [] → last ≡ sort.Instruction)
    → list_all is_valid_instr is ≡ true → are_targets_below n is ≡ true → n ≤ 4000
    → instructions_before before ≡ k → k + length is ≡ n → are_below n before ≡ true
    → ((b : List (List (List ℕ))) → Met slots modules programs pages 0 b → last_sort b ≡ Some sort.Instruction
    → are_below (instructions_before b) b ≡ true → Follow b lines)
    → Follow before (map instr_words is ++ lines)
code-follow [] n k slots pages modules programs before lines last met l place end h t most c e below and_then =
    let all : k ≡ n = omega (arith, e) in
    and_then before met (l ∙ ap Some (end refl)) (rw (c, all) below)
code-follow (i ∷ is) n k slots pages modules programs before lines last met l place end h t most c e below and_then =
    let p = and_parts (is_valid_instr i) (list_all is_valid_instr is) h in
    let q = and_parts (is_target_below n i) (are_targets_below n is) t in
    let s = instr_spelled n i most p.0 q.0 in
    let sort_is = instr_sort n i s in
    let one : length (i ∷ is) ≡ suc (length is) = refl in (
      instr_fault n i s before last l place (omega (arith, c, e, one)),
      λ x. absurd (let y : false ≡ true = rw sort_is at x in cc),
      code-follow is n (suc k) slots pages modules programs (instr_words i ∷ before) lines sort.Instruction
          (met-instr (instr_words i) slots pages 0 modules programs before sort_is met) sort_is refl (λ x. refl) p.1 q.1
          most
          (rw sort_is (ap suc c)) (omega (arith, e, one))
          (rw sort_is
          (and_from (not (is_past n (place_of (instr_words i)))) (are_below n before)
          (not_from_false (is_past n (place_of (instr_words i))) (instr_place n i s)) below)) and_then,
    )

met-program : (p : Program) (slots pages lines : ℕ) (modules programs : List (List ℕ))
    (before : List (List (List ℕ))) → Met slots modules programs pages lines before
    → Met slots modules (p.name ∷ programs) pages lines (program_words p ∷ before)
met-program p slots pages lines modules programs before met = record {
  slots_met = met.slots_met;
  modules_met = met.modules_met;
  modules_counted = met.modules_counted;
  programs_met = ap (λ (names : List (List ℕ)). p.name ∷ names) met.programs_met;
  programs_counted = ap suc met.programs_counted;
  pages_counted = met.pages_counted;
  lines_counted = met.lines_counted;
}

-- a program's own line
program_fault : (p : Program) (slots pages lines : ℕ) (modules programs : List (List ℕ))
    (before : List (List (List ℕ))) (last : Sort) → Met slots modules programs pages lines before
    → last_sort before ≡ Some last → place_fault last sort.Program ≡ None → is_name p.name ≡ true
    → p.heap ≤ 32768 → 64 ≤ p.stack → p.stack ≤ 32768 → is_among p.name programs ≡ false → length programs < 32
    → words_fault before (program_words p) ≡ None
program_fault p slots pages lines modules programs before last met l place name heap some stack new few =
    let ws : List (List ℕ) = p.name ∷ codes "heap" ∷ decimal p.heap ∷ codes "stack" ∷ decimal p.stack ∷ [] in
    words-none before last (codes "program") ws first.Program l refl place
    (written-none slots before first.Program ws met.slots_met
    (one_form
    (NameWord ∷ FixedWord (codes "heap") ∷ NumberWord 0 32768 ∷ FixedWord (codes "stack") ∷ NumberWord 64 32768 ∷ [])
    ws
    (rw (
      name_good p.name name,
      number_good 0 32768 p.heap (omega arith) heap (omega arith),
      number_good 64 32768 p.stack some stack (omega arith),
    ) refl))
    refl (rw (met.programs_met, new) refl) (rw met.programs_counted (lt-leb 32 (length programs) few)))

-- a program's lines
pub program-follows : (p : Program) (slots pages : ℕ) (modules programs : List (List ℕ))
    (before lines : List (List (List ℕ))) (last : Sort) → Met slots modules programs pages 0 before
    → last_sort before ≡ Some last → place_fault last sort.Program ≡ None
    → are_below (instructions_before before) before ≡ true → is_valid_program p ≡ true
    → is_among p.name programs ≡ false → length programs < 32
    → ((b : List (List (List ℕ))) → Met slots modules (p.name ∷ programs) pages 0 b
    → last_sort b ≡ Some sort.Instruction → are_below (instructions_before b) b ≡ true → Follow b lines)
    → Follow before (program_lines p ++ lines)
program-follows p slots pages modules programs before lines last met l place below h new few and_then =
    let n : ℕ = length p.code in
    let a =
    and_parts
    (is_name p.name && nat_le p.heap 32768 && is_within 64 32768 p.stack && is_within 1 4000 n &&
    list_all is_valid_instr p.code) (are_targets_below n p.code) h in
    let b =
    and_parts (is_name p.name && nat_le p.heap 32768 && is_within 64 32768 p.stack && is_within 1 4000 n)
    (list_all is_valid_instr p.code) a.0 in
    let c = and_parts (is_name p.name && nat_le p.heap 32768 && is_within 64 32768 p.stack) (is_within 1 4000 n) b.0 in
    let d = and_parts (is_name p.name && nat_le p.heap 32768) (is_within 64 32768 p.stack) c.0 in
    let e = and_parts (is_name p.name) (nat_le p.heap 32768) d.0 in
    let stack = and_parts (nat_le 64 p.stack) (nat_le p.stack 32768) d.1 in
    let size = and_parts (nat_le 1 n) (nat_le n 4000) c.1 in
    let some : 1 ≤ length p.code = leb-true 1 n size.0 in (
      program_fault p slots pages 0 modules programs before last met l place e.0 (leb-true p.heap 32768 e.1)
          (leb-true 64 p.stack stack.0) (leb-true p.stack 32768 stack.1) new few,
      λ x. below,
      code-follow p.code n 0 slots pages modules (p.name ∷ programs) (program_words p ∷ before) lines sort.Program
          (met-program p slots pages 0 modules programs before met) refl refl
          (λ x. absurd (let none : length p.code ≡ 0 = ap length x in omega (arith, some, none))) b.1 a.1
          (leb-true n 4000 size.1) refl (omega arith) refl and_then,
    )

-- the lines of more programs
pub programs-follow : (ps : List Program) (slots pages : ℕ) (modules programs : List (List ℕ))
    (before lines : List (List (List ℕ))) → Met slots modules programs pages 0 before
    → last_sort before ≡ Some sort.Instruction → are_below (instructions_before before) before ≡ true
    → list_all is_valid_program ps ≡ true → AreNew (program_names ps) programs → length programs + length ps ≤ 32
    → ((names : List (List ℕ)) (b : List (List (List ℕ))) → Met slots modules names pages 0 b
    → last_sort b ≡ Some sort.Instruction → are_below (instructions_before b) b ≡ true → Follow b lines)
    → Follow before (programs_lines ps ++ lines)
programs-follow [] slots pages modules programs before lines met l below h new few and_then =
    and_then programs before met l below
programs-follow (p ∷ ps) slots pages modules programs before lines met l below h new few and_then =
    let q = and_parts (is_valid_program p) (list_all is_valid_program ps) h in
    let all : length (p ∷ ps) ≡ suc (length ps) = refl in
    let longer : length (p.name ∷ programs) ≡ suc (length programs) = refl in
    subst (Follow before) (sym (append_assoc (program_lines p) (programs_lines ps) lines))
    (program-follows p slots pages modules programs before (programs_lines ps ++ lines) sort.Instruction met l refl
    below
    q.0 new.0 (omega (arith, few, all))
    (λ b m s u. programs-follow ps slots pages modules (p.name ∷ programs) b lines m s u q.1 new.1
    (omega (arith, few, all, longer)) and_then))
