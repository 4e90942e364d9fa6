-- What an instruction, a line of the schedule and the end of a program count.
use Rattle.std.proofs.Common.{◌≡◌, ℕ, suc, Bool, true, false, not, List, [], ◌∷◌}
use Rattle.std.proofs.Common.{◌++◌, length, Option, Some, None, refl, sym, ap, ◌∙◌, arith}
use Rattle.std.specs.Prelude.{option_map}
use Rattle.std.proofs.lemmas.List.{append-nil, map-append}
use Rattle.w32_base.specs.Names.{is_among}
use Rattle.w32_base.specs.Setup.{program_names}
use Rattle.w32_base.specs.Targets.{is_target_below}
use Rattle.w32_base.specs.declared.instr.Instr.{Instr}
use Rattle.w32_base.specs.declared.setup.Program.{Program}
use Rattle.script_spec.specs.declared.fault.DirectiveWord.{DirectiveWord}
use Rattle.script_spec.specs.declared.fault.InstrWord.{InstrWord}
use Rattle.script_spec.specs.declared.fault.Sort.{Sort}
use Rattle.script_spec.specs.declared.fault.Sort.TheVariants as sort
use Rattle.script_spec.specs.declared.script.ScheduleLine.{ScheduleLine}
use Rattle.script_spec.specs.FirstFault.{is_past, place_of}
use Rattle.script_spec.specs.FirstWords.{instr_word_text, directive_word_text, either, sort_of_words}
use Rattle.script_spec.specs.Forms.{place_as, kept_form, instr_forms}
use Rattle.script_spec.specs.Front.{words_read, past_read, line_if}
use Rattle.script_spec.specs.Places.{count_of, instructions_before, names_of, slots_of, is_sort}
use Rattle.cyg_script.specs.declared.heading.Heading.{Heading}
use Rattle.cyg_script.specs.After.{IsCounted, last_sort, all_names, open_names}
use Rattle.cyg_script.specs.Instructions.{clamped, place_named}
use Rattle.cyg_script.specs.Parts.{Parts, stands, past_line, IsRead}
use Rattle.cyg_script.proofs.Counts.{length-push, past_line-push, past_read_as}
use Rattle.cyg_script.proofs.WordSorts.{instr_sort, directive_sort, instr_place}
use Rattle.cyg_script.proofs.Writes.{before_instr, before_directive}

abbrev Lines : Type 0
Lines = List (ℕ × List (List ℕ))

closed : {X : Type 0} (p : Parts) (h : Heading) → p.heading ≡ None → p.heading ≡ Some h → X
closed p h e f = absurd (let g : ◌≡◌ {A = Option Heading} None (Some h) = sym e ∙ f in cc)

later : {X : Type 0} (s : Sort) → ◌≡◌ {A = Option Sort} (Some s) None → X
later s e = absurd cc

-- ---- a line of a known sort

last_of : (ws : List (List ℕ)) (s : Sort) (before : List (List (List ℕ))) → sort_of_words ws ≡ Some s
    → last_sort (ws ∷ before) ≡ Some s
last_of ws s before e = e

count_other : (t s : Sort) (ws : List (List ℕ)) (before : List (List (List ℕ))) → sort_of_words ws ≡ Some s
    → is_sort t s ≡ false → count_of t (ws ∷ before) ≡ count_of t before
count_other t s ws before e f = rw (e, f) refl

count_same : (t s : Sort) (ws : List (List ℕ)) (before : List (List (List ℕ))) → sort_of_words ws ≡ Some s
    → is_sort t s ≡ true → count_of t (ws ∷ before) ≡ suc (count_of t before)
count_same t s ws before e f = rw (e, f) refl

names_other : (t s : Sort) (ws : List (List ℕ)) (before : List (List (List ℕ))) → sort_of_words ws ≡ Some s
    → is_sort t s ≡ false → names_of t (ws ∷ before) ≡ names_of t before
names_other t s ws before e f = rw (e, f) refl

slots_other : (s : Sort) (ws : List (List ℕ)) (before : List (List (List ℕ))) → sort_of_words ws ≡ Some s
    → is_sort sort.Slots s ≡ false → slots_of (ws ∷ before) ≡ slots_of before
slots_other s ws before e f = rw (e, f) refl

instructions_more : (s : Sort) (ws : List (List ℕ)) (before : List (List (List ℕ))) → sort_of_words ws ≡ Some s
    → is_sort sort.Instruction s ≡ true → instructions_before (ws ∷ before) ≡ suc (instructions_before before)
instructions_more s ws before e f = rw (e, f) refl

past_more : (n k : ℕ) (ws : List (List ℕ)) (read : Lines) → sort_of_words ws ≡ Some sort.Instruction
    → past_read n ((k, ws) ∷ read) ≡ either (past_read n read) (line_if (is_past n (place_of ws)) k)
past_more n k ws read e = rw e refl

-- ---- an instruction

pub counted_instr : (read : Lines) (p : Parts) (k : ℕ) (w : InstrWord) (ws : List (List ℕ)) (i : Instr)
    (is : List Instr) (ls : List ℕ) → IsRead p → stands p.last sort.Instruction ≡ true
    → option_map clamped (place_as ws (kept_form (instr_forms w) ws)) ≡ place_named i
    → is ≡ p.code ++ i ∷ [] → ls ≡ p.code_lines ++ k ∷ [] → IsCounted read p
    → IsCounted ((k, instr_word_text w ∷ ws) ∷ read)
    (record p { code = is; code_lines = ls; last = Some sort.Instruction })
counted_instr read p k w ws i is ls r s named f g c =
    let b = before_instr p.last s in
    let e : sort_of_words (instr_word_text w ∷ ws) ≡ Some sort.Instruction = instr_sort w ws in
    let words : List (List ℕ) = instr_word_text w ∷ ws in
    let before : List (List (List ℕ)) = words_read read in
    record {
      last = last_of words sort.Instruction before e;
      first = later sort.Instruction;
      slots = λ h. slots_other sort.Instruction words before e refl ∙ c.slots (omega (arith, b.0));
      modules = count_other sort.Module sort.Instruction words before e refl ∙ c.modules;
      module_names = λ name. ap (λ (xs : List (List ℕ)). is_among name xs)
          (names_other sort.Module sort.Instruction words before e refl) ∙ c.module_names name;
      pages = count_other sort.Occupy sort.Instruction words before e refl ∙ c.pages;
      programs = count_other sort.Program sort.Instruction words before e refl ∙ c.programs;
      program_names = λ name. ap (λ (xs : List (List ℕ)). is_among name xs)
          (names_other sort.Program sort.Instruction words before e refl) ∙ c.program_names name;
      code = λ h o. instructions_more sort.Instruction words before e refl ∙ ap suc (c.code h o)
          ∙ sym (ap length f ∙ length-push p.code i);
      past = λ h o n few.
          let same : is_past n (place_of words) ≡ not (is_target_below n i) =
          ap (λ (q : Option ℕ). is_past n q) (instr_place w ws)
          ∙ past_read_as n (place_as ws (kept_form (instr_forms w) ws)) i few named in
          past_more n k words read e ∙ ap (λ (q : Option ℕ). either q (line_if (is_past n (place_of words)) k))
          (c.past h o n few)
          ∙ ap (λ (t : Bool). either (past_line n p.code p.code_lines) (line_if t k)) same
          ∙ sym (ap (λ (xs : List Instr). past_line n xs ls) f
          ∙ ap (λ (xs : List ℕ). past_line n (p.code ++ i ∷ []) xs) g
          ∙ past_line-push n p.code p.code_lines i k r.counted);
      schedule = count_other sort.Directive sort.Instruction words before e refl ∙ c.schedule;
    }

-- ---- a line of the schedule

pub counted_directive : (read : Lines) (p : Parts) (k : ℕ) (w : DirectiveWord) (ws : List (List ℕ)) (l : ScheduleLine)
    (ls : List ScheduleLine) → IsRead p → stands p.last sort.Directive ≡ true
    → ls ≡ p.schedule ++ l ∷ [] → IsCounted read p
    → IsCounted ((k, directive_word_text w ∷ ws) ∷ read)
    (record p { schedule = ls; last = Some sort.Directive })
counted_directive read p k w ws l ls r s f c =
    let b = before_directive p.last s in
    let none = (r.ended b.0).0 in
    let e : sort_of_words (directive_word_text w ∷ ws) ≡ Some sort.Directive = directive_sort w ws in
    let words : List (List ℕ) = directive_word_text w ∷ ws in
    let before : List (List (List ℕ)) = words_read read in
    record {
      last = last_of words sort.Directive before e;
      first = later sort.Directive;
      slots = λ h. slots_other sort.Directive words before e refl ∙ c.slots (omega (arith, b.0));
      modules = count_other sort.Module sort.Directive words before e refl ∙ c.modules;
      module_names = λ name. ap (λ (xs : List (List ℕ)). is_among name xs)
          (names_other sort.Module sort.Directive words before e refl) ∙ c.module_names name;
      pages = count_other sort.Occupy sort.Directive words before e refl ∙ c.pages;
      programs = count_other sort.Program sort.Directive words before e refl ∙ c.programs;
      program_names = λ name. ap (λ (xs : List (List ℕ)). is_among name xs)
          (names_other sort.Program sort.Directive words before e refl) ∙ c.program_names name;
      code = λ h o. closed p h none o;
      past = λ h o. closed p h none o;
      schedule = count_same sort.Directive sort.Directive words before e refl ∙ ap suc c.schedule
          ∙ sym (ap length f ∙ length-push p.schedule l);
    }

-- ---- the end of a program

names_program : (ps : List Program) (q : Program) → program_names (ps ++ q ∷ []) ≡ program_names ps ++ q.name ∷ []
names_program ps q = map-append (λ (p : Program). p.name) ps (q ∷ [])

ended_names : (p : Parts) (h : Heading) (q : Program) (ps : List Program) → p.heading ≡ Some h → q.name ≡ h.name
    → ps ≡ p.programs ++ q ∷ [] → program_names ps ++ [] ≡ all_names p
ended_names p h q ps e same f =
    append-nil (program_names ps) ∙ ap program_names f ∙ names_program p.programs q
    ∙ ap (λ (name : List ℕ). program_names p.programs ++ name ∷ []) same
    ∙ sym (ap (λ (o : Option Heading). program_names p.programs ++ open_names o) e)

pub counted_end : (read : Lines) (p : Parts) (h : Heading) (q : Program) (ps : List Program) (is : List Instr)
    (ls : List ℕ) → p.heading ≡ Some h → q.name ≡ h.name → ps ≡ p.programs ++ q ∷ [] → IsCounted read p
    → IsCounted read (record p { programs = ps; heading = None; code = is; code_lines = ls })
counted_end read p h q ps is ls e same f c =
    let names = ended_names p h q ps e same f in
    record {
      last = c.last;
      first = c.first;
      slots = c.slots;
      modules = c.modules;
      module_names = c.module_names;
      pages = c.pages;
      programs = c.programs ∙ sym (ap length names);
      program_names = λ name. c.program_names name ∙ sym (ap (λ (xs : List (List ℕ)). is_among name xs) names);
      code = λ g o. absurd (let k : ◌≡◌ {A = Option Heading} None (Some g) = o in cc);
      past = λ g o. absurd (let k : ◌≡◌ {A = Option Heading} None (Some g) = o in cc);
      schedule = c.schedule;
    }
