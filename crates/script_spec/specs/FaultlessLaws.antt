-- A text that is a script has no fault.
use Rattle.std.proofs.Common.{◌≡◌, ℕ, suc, ◌+◌, ◌≤◌, ◌<◌, true, false, ◌&&◌, nat_le, List, [], ◌∷◌}
use Rattle.std.proofs.Common.{◌++◌, map, length, Some, None, refl, sym, ap, subst, ◌∙◌, arith, append_assoc}
use Rattle.std.specs.Prelude.{codes}
use Rattle.std.specs.Fmt.{decimal}
use Rattle.std.specs.List.{list_all}
use Rattle.std.proofs.lemmas.Bool.{and_parts, leb-true, lt-leb, le-ltb}
use Rattle.w32_base.specs.Setup.{module_names, program_names}
use Rattle.w32_base.specs.declared.entry.Directive.TheVariants as directive
use Rattle.w32_base.specs.declared.setup.Program.{Program}
use Rattle.script_spec.specs.declared.fault.FirstWord.TheVariants as first
use Rattle.script_spec.specs.declared.fault.DirectiveWord.{DirectiveWord}
use Rattle.script_spec.specs.declared.fault.DirectiveWord.TheVariants as word
use Rattle.script_spec.specs.declared.fault.Sort.{Sort}
use Rattle.script_spec.specs.declared.fault.Sort.TheVariants as sort
use Rattle.script_spec.specs.declared.script.ScheduleLine.{ScheduleLine}
use Rattle.script_spec.specs.declared.script.ScheduleLine.TheVariants as line
use Rattle.script_spec.specs.declared.script.Script.{Script}
use Rattle.script_spec.specs.Lines.{lines_of}
use Rattle.script_spec.specs.Fields.{NumberWord, KeyWord}
use Rattle.script_spec.specs.FirstWords.{sort_of_words, directive_word_text}
use Rattle.script_spec.specs.Forms.{form_fault, forms_fault, directive_forms}
use Rattle.script_spec.specs.Places.{is_sort, place_fault, instructions_before, end_fault}
use Rattle.script_spec.specs.LineFaults.{words_fault}
use Rattle.script_spec.specs.FirstFault.{fault_of}
use Rattle.script_spec.specs.Print.{module_words, occupied_words, program_lines, programs_lines, key_text}
use Rattle.script_spec.specs.Print.{schedule_words, script_words}
use Rattle.script_spec.specs.Validity.{is_within, is_valid_program, is_valid_line, IsValid}
use Rattle.script_spec.specs.Grammar.{IsScript}
use Rattle.script_spec.specs.PrintLaws.{script_good}
use Rattle.script_spec.specs.FirstWordLaws.{first_word-known}
use Rattle.script_spec.specs.FieldLaws.{number_good, key_good}
use Rattle.script_spec.specs.FrontLaws.{rest-start}
use Rattle.script_spec.specs.Follow.{are_below, Follow, last_sort, written-none, words-none, rest-none}
use Rattle.script_spec.specs.FollowParts.{Met, AreNew, distinct-new, one_form, limits_before, met-limits, limits-follow}
use Rattle.script_spec.specs.FollowParts.{modules-follow, pages-follow}
use Rattle.script_spec.specs.FollowPrograms.{program-follows, programs-follow}

-- a line of the schedule
directive_fault : (w : DirectiveWord) (ws : List (List ℕ)) (slots pages lines : ℕ) (modules programs : List (List ℕ))
    (before : List (List (List ℕ))) (last : Sort) → Met slots modules programs pages lines before
    → last_sort before ≡ Some last → place_fault last sort.Directive ≡ None → lines < 10000
    → forms_fault (directive_forms slots w) ws ≡ None → words_fault before (directive_word_text w ∷ ws) ≡ None
directive_fault w ws slots pages lines modules programs before last met l place few h =
    words-none before last (directive_word_text w) ws (first.Directive w) l (first_word-known (first.Directive w)) place
    (written-none slots before (first.Directive w) ws met.slots_met h refl refl
    (rw met.lines_counted (lt-leb 10000 lines few)))

number : (low high n : ℕ) → low ≤ n → n ≤ high → high ≤ 500000
    → form_fault (NumberWord low high ∷ []) (decimal n ∷ []) ≡ None
number low high n from to most = rw (number_good low high n from to (omega arith)) refl

schedule_fault : (x : ScheduleLine) (slots pages lines : ℕ) (modules programs : List (List ℕ))
    (before : List (List (List ℕ))) (last : Sort) → Met slots modules programs pages lines before
    → last_sort before ≡ Some last → place_fault last sort.Directive ≡ None → lines < 10000 → slots ≤ 64
    → is_valid_line slots x ≡ true → words_fault before (schedule_words x) ≡ None
schedule_fault (line.Given (directive.Turn slot thread)) slots pages lines modules programs before last met l place few
    most h =
    let p = and_parts (nat_le slot slots) (nat_le thread 2) h in
    let low : slot ≤ slots = leb-true slot slots p.0 in
    let two : thread ≤ 2 = leb-true thread 2 p.1 in
    directive_fault word.Turn (decimal slot ∷ decimal thread ∷ []) slots pages lines modules programs before last met l
    place few
    (one_form (NumberWord 0 slots ∷ NumberWord 0 2 ∷ []) (decimal slot ∷ decimal thread ∷ [])
    (rw (
      number_good 0 slots slot (omega arith) low (omega arith),
      number_good 0 2 thread (omega arith) two (omega arith),
    ) refl))
schedule_fault (line.Given (directive.End slot)) slots pages lines modules programs before last met l place few most h =
    let p = and_parts (nat_le 1 slot && nat_le slot slots) true h in
    let q = and_parts (nat_le 1 slot) (nat_le slot slots) p.0 in
    directive_fault word.End (decimal slot ∷ []) slots pages lines modules programs before last met l place few
    (one_form (NumberWord 1 slots ∷ []) (decimal slot ∷ [])
    (number 1 slots slot (leb-true 1 slot q.0) (leb-true slot slots q.1) (omega arith)))
schedule_fault (line.Given (directive.Key b)) slots pages lines modules programs before last met l place few most h =
    directive_fault word.Key (key_text b ∷ []) slots pages lines modules programs before last met l place few
    (one_form (KeyWord ∷ []) (key_text b ∷ []) (rw (key_good b (leb-true b 255 h)) refl))
schedule_fault (line.Steps turns) slots pages lines modules programs before last met l place few most h =
    let p = and_parts (nat_le 1 turns) (nat_le turns 500000) h in
    directive_fault word.Steps (decimal turns ∷ []) slots pages lines modules programs before last met l place few
    (one_form (NumberWord 1 500000 ∷ []) (decimal turns ∷ [])
    (number 1 500000 turns (leb-true 1 turns p.0) (leb-true turns 500000 p.1) (omega arith)))
schedule_fault line.Settle slots pages lines modules programs before last met l place few most h =
    directive_fault word.Settle [] slots pages lines modules programs before last met l place few refl

schedule_sort : (x : ScheduleLine) → sort_of_words (schedule_words x) ≡ Some sort.Directive
schedule_sort (line.Given (directive.Turn slot thread)) = refl
schedule_sort (line.Given (directive.End slot)) = refl
schedule_sort (line.Given (directive.Key b)) = refl
schedule_sort (line.Steps turns) = refl
schedule_sort line.Settle = refl

met-line : (ws : List (List ℕ)) (slots pages lines : ℕ) (modules programs : List (List ℕ))
    (before : List (List (List ℕ))) → sort_of_words ws ≡ Some sort.Directive
    → Met slots modules programs pages lines before → Met slots modules programs pages (suc lines) (ws ∷ before)
met-line ws slots pages lines modules programs before s met = record {
  slots_met = rw s met.slots_met;
  modules_met = rw s met.modules_met;
  modules_counted = rw s met.modules_counted;
  programs_met = rw s met.programs_met;
  programs_counted = rw s met.programs_counted;
  pages_counted = rw s met.pages_counted;
  lines_counted = rw s (ap suc met.lines_counted);
}

lines-follow : (xs : List ScheduleLine) (slots pages lines : ℕ) (modules programs : List (List ℕ))
    (before : List (List (List ℕ))) (last : Sort) → Met slots modules programs pages lines before
    → last_sort before ≡ Some last → place_fault last sort.Directive ≡ None → slots ≤ 64
    → (xs ≡ [] → end_fault before ≡ None) → list_all (is_valid_line slots) xs ≡ true → lines + length xs ≤ 10000
    → Follow before (map schedule_words xs)
lines-follow [] slots pages lines modules programs before last met l place most end h few = end refl
lines-follow (x ∷ xs) slots pages lines modules programs before last met l place most end h few =
    let p = and_parts (is_valid_line slots x) (list_all (is_valid_line slots) xs) h in
    let all : length (x ∷ xs) ≡ suc (length xs) = refl in
    let s = schedule_sort x in (
      schedule_fault x slots pages lines modules programs before last met l place (omega (arith, few, all)) most p.0,
      λ e. absurd (let y : false ≡ true = rw s at e in cc),
      lines-follow xs slots pages (suc lines) modules programs (schedule_words x ∷ before) sort.Directive
          (met-line (schedule_words x) slots pages lines modules programs before s met) s refl most (λ e. rw s refl) p.1
          (omega (arith, few, all)),
    )

-- the schedule's own line and its lines
schedule-follows : (xs : List ScheduleLine) (slots pages : ℕ) (modules programs : List (List ℕ))
    (before : List (List (List ℕ))) → Met slots modules programs pages 0 before
    → last_sort before ≡ Some sort.Instruction → are_below (instructions_before before) before ≡ true → slots ≤ 64
    → is_within 1 10000 (length xs) ≡ true → list_all (is_valid_line slots) xs ≡ true
    → Follow before ((codes "schedule" ∷ []) ∷ map schedule_words xs)
schedule-follows xs slots pages modules programs before met l below most size h =
    let p = and_parts (nat_le 1 (length xs)) (nat_le (length xs) 10000) size in
    let some : 1 ≤ length xs = leb-true 1 (length xs) p.0 in (
      words-none before sort.Instruction (codes "schedule") [] first.Schedule l refl refl
          (written-none slots before first.Schedule [] met.slots_met refl refl refl refl),
      λ e. below,
      lines-follow xs slots pages 0 modules programs ((codes "schedule" ∷ []) ∷ before) sort.Schedule
          record {
            slots_met = met.slots_met;
            modules_met = met.modules_met;
            modules_counted = met.modules_counted;
            programs_met = met.programs_met;
            programs_counted = met.programs_counted;
            pages_counted = met.pages_counted;
            lines_counted = met.lines_counted;
          } refl refl most (λ e. absurd (let none : length xs ≡ 0 = ap length e in omega (arith, some, none))) h
          (let most : length xs ≤ 10000 = leb-true (length xs) 10000 p.1 in omega (arith, most)),
    )

-- all programs, of which there is one at least, and the schedule
all_programs : (ps : List Program) (xs : List ScheduleLine) (slots pages : ℕ) (modules : List (List ℕ))
    (before : List (List (List ℕ))) (last : Sort) → Met slots modules [] pages 0 before
    → last_sort before ≡ Some last → place_fault last sort.Program ≡ None
    → are_below (instructions_before before) before ≡ true → is_within 1 32 (length ps) ≡ true
    → list_all is_valid_program ps ≡ true → AreNew (program_names ps) [] → slots ≤ 64
    → is_within 1 10000 (length xs) ≡ true → list_all (is_valid_line slots) xs ≡ true
    → Follow before (programs_lines ps ++ (codes "schedule" ∷ []) ∷ map schedule_words xs)
all_programs [] xs slots pages modules before last met l place below number h new most size k = absurd cc
all_programs (p ∷ ps) xs slots pages modules before last met l place below number h new most size k =
    let lines : List (List (List ℕ)) = (codes "schedule" ∷ []) ∷ map schedule_words xs in
    let q = and_parts (is_valid_program p) (list_all is_valid_program ps) h in
    let few : length (p ∷ ps) ≤ 32 =
    leb-true (length (p ∷ ps)) 32
    (and_parts (nat_le 1 (length (p ∷ ps))) (nat_le (length (p ∷ ps)) 32) number).1 in
    let all : length (p ∷ ps) ≡ suc (length ps) = refl in
    subst (Follow before) (sym (append_assoc (program_lines p) (programs_lines ps) lines))
    (program-follows p slots pages modules [] before (programs_lines ps ++ lines) last met l place below q.0 refl
    (omega arith)
    (λ b m s u. programs-follow ps slots pages modules (p.name ∷ []) b lines m s u q.1 new.1 (omega (arith, few, all))
    (λ names c v t w. schedule-follows xs slots pages modules names c v t w most size k)))

none_open : (n : ℕ) (before : List (List (List ℕ))) (last : Sort) → last_sort before ≡ Some last
    → is_sort sort.Instruction last ≡ false → are_below n before ≡ true
none_open n [] last l i = refl
none_open n (ws ∷ before) last l i = rw (l, i) refl

-- the lines of a valid script
pub script-follows : (s : Script) → IsValid s → Follow [] (script_words s)
script-follows s v =
    let slots : ℕ = s.setup.limits.slots in
    let few : slots ≤ 64 = leb-true slots 64
    (and_parts (nat_le 1 slots) (nat_le slots 64)
    (and_parts (is_within 1 64 slots) (is_within 1 4000 s.setup.limits.rows)
    (and_parts (is_within 1 64 slots && is_within 1 4000 s.setup.limits.rows)
    (is_within 1 500000 s.setup.limits.budget) v.limits).0).0).1 in
    let lines : List (List (List ℕ)) = (codes "schedule" ∷ []) ∷ map schedule_words s.directives in
    let from_programs : List (List (List ℕ)) = programs_lines s.setup.programs ++ lines in
    let from_pages : List (List (List ℕ)) = map occupied_words s.occupied ++ from_programs in
    let modules : 0 + length s.setup.modules ≤ 8 = omega (arith, v.few_modules) in
    let pages : 0 + length s.occupied ≤ 64 = omega (arith, v.few_pages) in
    limits-follow s.setup.limits (map module_words s.setup.modules ++ from_pages) v.limits
    (modules-follow s.setup.modules slots [] (limits_before s.setup.limits) from_pages sort.Budget
    (met-limits s.setup.limits v.limits) refl refl refl refl refl v.modules
    (distinct-new (module_names s.setup.modules) v.module_names) modules
    (λ names b last met l o p i. pages-follow s.occupied slots 0 names b from_programs last met l o p i v.pages pages
    (λ n c last met l p i. all_programs s.setup.programs s.directives slots n names c last met l p
    (none_open (instructions_before c) c last l i) v.number_of_programs v.programs
    (distinct-new (program_names s.setup.programs) v.program_names) few v.number_of_lines v.lines)))

-- a text that is a script has no fault
pub script-faultless : (text : List ℕ) (s : Script) → IsScript text s → fault_of text ≡ None
script-faultless text s h =
    rest-start text (le-ltb 1048576 (length text) h.size)
    ∙ rest-none [] 1 (lines_of text) (script_words s) h.plain h.written (script_good s h.valid)
    (script-follows s h.valid)
