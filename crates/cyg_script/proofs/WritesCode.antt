-- What pages, programs, instructions and the schedule add to the lines that the parts spell.
use Rattle.std.proofs.Common.{◌≡◌, ℕ, ◌≤◌, ◌<◌, true, nat_lt, List, [], ◌∷◌, ◌++◌, length, map}
use Rattle.std.proofs.Common.{Option, Some, None, refl, sym, ap, ◌∙◌, arith, append_assoc, inl, inr}
use Rattle.std.specs.Prelude.{codes}
use Rattle.std.proofs.lemmas.Bool.{and_parts, ltb-true, lt-ltb, cases_lt}
use Rattle.std.proofs.lemmas.List.{append-nil, map-append}
use Rattle.w32_base.specs.Targets.{is_target_below, is_handler_below, are_targets_below}
use Rattle.w32_base.specs.declared.instr.Action.{Action}
use Rattle.w32_base.specs.declared.instr.Action.TheVariants as action
use Rattle.w32_base.specs.declared.instr.Instr.{Instr}
use Rattle.w32_base.specs.declared.instr.Instr.TheVariants as instr
use Rattle.w32_base.specs.declared.setup.Program.{Program}
use Rattle.script_spec.specs.declared.fault.Sort.{Sort}
use Rattle.script_spec.specs.declared.fault.Sort.TheVariants as sort
use Rattle.script_spec.specs.declared.script.OccupiedPage.{OccupiedPage}
use Rattle.script_spec.specs.declared.script.ScheduleLine.{ScheduleLine}
use Rattle.script_spec.specs.InstrText.{instr_words}
use Rattle.script_spec.specs.Print.{module_words, occupied_words, program_words, program_lines, programs_lines}
use Rattle.script_spec.specs.Print.{schedule_words}
use Rattle.cyg_script.specs.declared.heading.Heading.{Heading}
use Rattle.cyg_script.specs.Headings.{heading_words}
use Rattle.cyg_script.specs.Parts.{Parts, stage, stands, IsRead, IsStaged, IsEnded}
use Rattle.cyg_script.specs.Written.{AreWritten, first_lines, limit_lines, last_lines, schedule_lines, open_lines}
use Rattle.cyg_script.specs.Written.{IsWritten}
use Rattle.cyg_script.proofs.Writes.{after_schedule, before_occupy, before_program, before_instr, before_directive}
use Rattle.cyg_script.proofs.Writes.{all_first, no_last, some_last, written-push}
use Rattle.cyg_script.proofs.Counted.{none_open}

abbrev Words : Type 0
Words = List (List (List ℕ))

-- ---- one more line at the end of parts of a text

at_end3 : (a b c x : Words) → (a ++ (b ++ c)) ++ x ≡ a ++ (b ++ (c ++ x))
at_end3 a b c x = append_assoc a (b ++ c) x ∙ ap (λ (y : Words). a ++ y) (append_assoc b c x)

at_end4 : (a b c d x : Words) → (a ++ (b ++ (c ++ d))) ++ x ≡ a ++ (b ++ (c ++ (d ++ x)))
at_end4 a b c d x = append_assoc a (b ++ (c ++ d)) x ∙ ap (λ (y : Words). a ++ y) (at_end3 b c d x)

at_end5 : (a b c d e x : Words) → (a ++ (b ++ (c ++ (d ++ e)))) ++ x ≡ a ++ (b ++ (c ++ (d ++ (e ++ x))))
at_end5 a b c d e x = append_assoc a (b ++ (c ++ (d ++ e))) x ∙ ap (λ (y : Words). a ++ y) (at_end4 b c d e x)

-- the lines of what comes after the pages
abbrev tail_of : Parts → Words → Words
tail_of p code = programs_lines p.programs ++ (open_lines p.heading code ++ last_lines p.last p.schedule)

tail_none : (p : Parts) (code : Words) → p.programs ≡ [] → p.heading ≡ None → last_lines p.last p.schedule ≡ []
    → tail_of p code ≡ []
tail_none p code e f g = rw (e, f, g) refl

pub writes_occupy : (lines : Words) (p : Parts) (o : OccupiedPage) (os : List OccupiedPage) → IsRead p
    → stands p.last sort.Occupy ≡ true → os ≡ p.pages ++ o ∷ [] → IsWritten lines p
    → IsWritten (lines ++ occupied_words o ∷ []) (record p { pages = os; last = Some sort.Occupy })
writes_occupy lines p o os r s f w =
    let b = before_occupy p.last s in
    let none = r.no_programs b.1 in
    let shut = r.no_heading b.1 in
    let start : first_lines p.last p ≡ limit_lines p = all_first p.last p b.0 in
    let old : lines ≡ limit_lines p ++ (map module_words p.modules ++ map occupied_words p.pages) =
    w.written ∙ ap (λ (y : Words). y ++ (map module_words p.modules ++ (map occupied_words p.pages
    ++ tail_of p w.open_code))) start
    ∙ ap (λ (y : Words). limit_lines p ++ (map module_words p.modules ++ (map occupied_words p.pages ++ y)))
    (tail_none p w.open_code none shut (no_last p.last p.schedule (omega (arith, b.1))))
    ∙ ap (λ (y : Words). limit_lines p ++ (map module_words p.modules ++ y))
    (append-nil (map occupied_words p.pages)) in
    let new : Parts = record p { pages = os; last = Some sort.Occupy } in
    let pages : map occupied_words os ≡ map occupied_words p.pages ++ occupied_words o ∷ [] =
    ap (λ (ys : List OccupiedPage). map occupied_words ys) f ∙ map-append occupied_words p.pages (o ∷ []) in
    record {
      open_code = w.open_code;
      written =
          ap (λ (y : Words). y ++ occupied_words o ∷ []) old
          ∙ at_end3 (limit_lines p) (map module_words p.modules) (map occupied_words p.pages) (occupied_words o ∷ [])
          ∙ sym (ap (λ (y : Words). limit_lines p ++ (map module_words p.modules ++ (map occupied_words os ++ y)))
          (tail_none new w.open_code none shut refl)
          ∙ ap (λ (y : Words). limit_lines p ++ (map module_words p.modules ++ y))
          (append-nil (map occupied_words os) ∙ pages));
      code = w.code;
    }

no_code : (lines : Words) (is : List Instr) → is ≡ [] → AreWritten lines is → lines ≡ []
no_code [] is e w = refl
no_code (ws ∷ lines) [] e w = absurd w
no_code (ws ∷ lines) (i ∷ is) e w = absurd cc

code_none : (is : List Instr) → is ≡ [] → AreWritten [] is
code_none [] e = tt
code_none (i ∷ is) e = absurd cc

pub writes_program : (lines : Words) (p : Parts) (h : Heading) → IsEnded p → stands p.last sort.Program ≡ true
    → IsWritten lines p
    → IsWritten (lines ++ heading_words h ∷ []) (record p { heading = Some h; last = Some sort.Program })
writes_program lines p h r s w =
    let b = before_program p.last s in
    let shut = none_open p r b.1 b.2 in
    let start : first_lines p.last p ≡ limit_lines p = all_first p.last p b.0 in
    let m : Words = map module_words p.modules in
    let o : Words = map occupied_words p.pages in
    let q : Words = programs_lines p.programs in
    let old : lines ≡ limit_lines p ++ (m ++ (o ++ q)) =
    w.written ∙ ap (λ (y : Words). y ++ (m ++ (o ++ tail_of p w.open_code))) start
    ∙ ap (λ (y : Option Heading). limit_lines p ++ (m ++ (o ++ (q ++ (open_lines y w.open_code ++
    last_lines p.last p.schedule))))) shut
    ∙ ap (λ (y : Words). limit_lines p ++ (m ++ (o ++ (q ++ y)))) (no_last p.last p.schedule b.1)
    ∙ ap (λ (y : Words). limit_lines p ++ (m ++ (o ++ y))) (append-nil q) in
    record {
      open_code = [];
      written =
          ap (λ (y : Words). y ++ heading_words h ∷ []) old
          ∙ at_end4 (limit_lines p) m o q (heading_words h ∷ []);
      code = code_none p.code r.no_code;
    }

open_push : (o : Option Heading) (code : Words) (ws : List (List ℕ)) → (o ≡ None → ⊥)
    → open_lines o (code ++ ws ∷ []) ≡ open_lines o code ++ ws ∷ []
open_push None code ws h = absurd (h refl)
open_push (Some g) code ws h = refl

-- a program is open before an instruction
pub some_open : (p : Parts) → IsStaged p → 7 ≤ stage p.last → stage p.last ≤ 8 → p.heading ≡ None → ⊥
some_open p r low high =
    elim (cases_lt (stage p.last) 8) [
      | inl less ↦ (r.read.headed (omega (arith, less, low))).1
      | inr more ↦ (r.open_program (omega (arith, more, high))).0
    ]

pub writes_instr : (lines : Words) (p : Parts) (ws : List (List ℕ)) (i : Instr) (is : List Instr) (ls : List ℕ)
    → IsStaged p → stands p.last sort.Instruction ≡ true → (is_target_below 65535 i ≡ true → ws ≡ instr_words i)
    → is ≡ p.code ++ i ∷ [] → IsWritten lines p
    → IsWritten (lines ++ ws ∷ []) (record p { code = is; code_lines = ls; last = Some sort.Instruction })
writes_instr lines p ws i is ls r s text f w =
    let b = before_instr p.last s in
    let some : p.heading ≡ None → ⊥ = some_open p r b.0 b.1 in
    let start : first_lines p.last p ≡ limit_lines p = all_first p.last p (omega (arith, b.0)) in
    let m : Words = map module_words p.modules in
    let o : Words = map occupied_words p.pages in
    let q : Words = programs_lines p.programs in
    let c : Words = open_lines p.heading w.open_code in
    let old : lines ≡ limit_lines p ++ (m ++ (o ++ (q ++ c))) =
    w.written ∙ ap (λ (y : Words). y ++ (m ++ (o ++ tail_of p w.open_code))) start
    ∙ ap (λ (y : Words). limit_lines p ++ (m ++ (o ++ (q ++ (c ++ y))))) (no_last p.last p.schedule b.1)
    ∙ ap (λ (y : Words). limit_lines p ++ (m ++ (o ++ (q ++ y)))) (append-nil c) in
    record {
      open_code = w.open_code ++ ws ∷ [];
      written =
          ap (λ (y : Words). y ++ ws ∷ []) old
          ∙ at_end5 (limit_lines p) m o q c (ws ∷ [])
          ∙ sym (ap (λ (y : Words). limit_lines p ++ (m ++ (o ++ (q ++ y))))
          (append-nil (open_lines p.heading (w.open_code ++ ws ∷ [])) ∙ open_push p.heading w.open_code ws some));
      code = rw f (written-push w.open_code p.code ws i w.code text);
    }

pub writes_schedule : (lines : Words) (p : Parts) → IsEnded p → stands p.last sort.Schedule ≡ true → IsWritten lines p
    → IsWritten (lines ++ (codes "schedule" ∷ []) ∷ []) (record p { last = Some sort.Schedule })
writes_schedule lines p r s w =
    let eight : stage p.last ≡ 8 = ap stage (after_schedule p.last s) in
    let shut = (r.closed eight).0 in
    let start : first_lines p.last p ≡ limit_lines p = all_first p.last p (omega (arith, eight)) in
    let m : Words = map module_words p.modules in
    let o : Words = map occupied_words p.pages in
    let q : Words = programs_lines p.programs in
    let none : p.schedule ≡ [] = r.read.no_lines (omega (arith, eight)) in
    let old : lines ≡ limit_lines p ++ (m ++ (o ++ q)) =
    w.written ∙ ap (λ (y : Words). y ++ (m ++ (o ++ tail_of p w.open_code))) start
    ∙ ap (λ (y : Option Heading). limit_lines p ++ (m ++ (o ++ (q ++ (open_lines y w.open_code ++
    last_lines p.last p.schedule))))) shut
    ∙ ap (λ (y : Words). limit_lines p ++ (m ++ (o ++ (q ++ y)))) (no_last p.last p.schedule (omega (arith, eight)))
    ∙ ap (λ (y : Words). limit_lines p ++ (m ++ (o ++ y))) (append-nil q) in
    record {
      open_code = w.open_code;
      written =
          ap (λ (y : Words). y ++ (codes "schedule" ∷ []) ∷ []) old
          ∙ at_end4 (limit_lines p) m o q ((codes "schedule" ∷ []) ∷ [])
          ∙ sym (ap (λ (y : Option Heading). limit_lines p ++ (m ++ (o ++ (q ++ (open_lines y w.open_code ++
          schedule_lines p.schedule))))) shut
          ∙ ap (λ (y : List ScheduleLine). limit_lines p ++ (m ++ (o ++ (q ++ schedule_lines y)))) none);
      code = w.code;
    }

pub writes_directive : (lines : Words) (p : Parts) (l : ScheduleLine) (ls : List ScheduleLine) → IsRead p
    → stands p.last sort.Directive ≡ true → ls ≡ p.schedule ++ l ∷ [] → IsWritten lines p
    → IsWritten (lines ++ schedule_words l ∷ []) (record p { schedule = ls; last = Some sort.Directive })
writes_directive lines p l ls r s f w =
    let b = before_directive p.last s in
    let shut = (r.ended b.0).0 in
    let start : first_lines p.last p ≡ limit_lines p = all_first p.last p (omega (arith, b.0)) in
    let m : Words = map module_words p.modules in
    let o : Words = map occupied_words p.pages in
    let q : Words = programs_lines p.programs in
    let d : Words = schedule_lines p.schedule in
    let old : lines ≡ limit_lines p ++ (m ++ (o ++ (q ++ d))) =
    w.written ∙ ap (λ (y : Words). y ++ (m ++ (o ++ tail_of p w.open_code))) start
    ∙ ap (λ (y : Option Heading). limit_lines p ++ (m ++ (o ++ (q ++ (open_lines y w.open_code ++
    last_lines p.last p.schedule))))) shut
    ∙ ap (λ (y : Words). limit_lines p ++ (m ++ (o ++ (q ++ y)))) (some_last p.last p.schedule b.0) in
    let more : schedule_lines ls ≡ d ++ schedule_words l ∷ [] =
    ap schedule_lines f ∙ ap (λ (y : Words). (codes "schedule" ∷ []) ∷ y)
    (map-append schedule_words p.schedule (l ∷ [])) in
    record {
      open_code = w.open_code;
      written =
          ap (λ (y : Words). y ++ schedule_words l ∷ []) old
          ∙ at_end5 (limit_lines p) m o q d (schedule_words l ∷ [])
          ∙ sym (ap (λ (y : Option Heading). limit_lines p ++ (m ++ (o ++ (q ++ (open_lines y w.open_code ++
          schedule_lines ls))))) shut
          ∙ ap (λ (y : Words). limit_lines p ++ (m ++ (o ++ (q ++ y)))) more);
      code = w.code;
    }

-- ---- the end of a program

below_far : (n place : ℕ) → n ≤ 65535 → nat_lt place n ≡ true → nat_lt place 65535 ≡ true
below_far n place few h = let less : place < n = ltb-true place n h in lt-ltb place 65535 (omega (arith, few, less))

handler_far : (n : ℕ) (a : Action) → n ≤ 65535 → is_handler_below n a ≡ true → is_handler_below 65535 a ≡ true
handler_far n (action.Handler place restart) few h = below_far n place few h
handler_far n action.Default few h = refl
handler_far n action.Ignore few h = refl

target_far : (n : ℕ) (i : Instr) → n ≤ 65535 → is_target_below n i ≡ true → is_target_below 65535 i ≡ true
target_far n (instr.Jump place) few h = below_far n place few h
target_far n (instr.JumpZero v place) few h = below_far n place few h
target_far n (instr.JumpNegative v place) few h = below_far n place few h
target_far n (instr.Action v a) few h = handler_far n a few h
target_far n i few h = refl

-- the lines of a program whose places are not past its end
written_code : (lines : Words) (is : List Instr) (n : ℕ) → n ≤ 65535 → AreWritten lines is
    → are_targets_below n is ≡ true → lines ≡ map instr_words is
written_code [] [] n few w t = refl
written_code [] (i ∷ is) n few w t = absurd w
written_code (ws ∷ lines) [] n few w t = absurd w
written_code (ws ∷ lines) (i ∷ is) n few w t =
    let parts = and_parts (is_target_below n i) (are_targets_below n is) t in
    let head : ws ≡ instr_words i = w.0 (target_far n i few parts.0) in
    let rest : lines ≡ map instr_words is = written_code lines is n few w.1 parts.1 in
    cc

programs_push : (ps : List Program) (q : Program) → programs_lines (ps ++ q ∷ []) ≡ programs_lines ps ++ program_lines q
programs_push [] q = append-nil (program_lines q)
programs_push (p ∷ ps) q =
    ap (λ (y : Words). program_lines p ++ y) (programs_push ps q)
    ∙ sym (append_assoc (program_lines p) (programs_lines ps) (program_lines q))

same_first : (o : Option Sort) (p : Parts) (ps : List Program) (h : Option Heading) (is : List Instr) (ls : List ℕ)
    → first_lines o (record p { programs = ps; heading = h; code = is; code_lines = ls }) ≡ first_lines o p
same_first None p ps h is ls = refl
same_first (Some sort.Header) p ps h is ls = refl
same_first (Some s) p ps h is ls = refl

pub writes_end : (lines : Words) (p : Parts) (h : Heading) (program : Program) (ps : List Program) (ls : List ℕ)
    → p.heading ≡ Some h → program_words program ≡ heading_words h → program.code ≡ p.code
    → length p.code ≤ 65535 → are_targets_below (length p.code) p.code ≡ true → ps ≡ p.programs ++ program ∷ []
    → IsWritten lines p
    → IsWritten lines (record p { programs = ps; heading = None; code = []; code_lines = ls })
writes_end lines p h program ps ls e own same few t f w =
    let f0 : Words = first_lines p.last p in
    let m : Words = map module_words p.modules in
    let o : Words = map occupied_words p.pages in
    let q : Words = programs_lines p.programs in
    let d : Words = last_lines p.last p.schedule in
    let code : w.open_code ≡ map instr_words p.code = written_code w.open_code p.code (length p.code) few w.code t in
    let body : heading_words h ∷ w.open_code ≡ program_lines program =
    ap (λ (y : Words). heading_words h ∷ y) (code ∙ sym (ap (λ (y : List Instr). map instr_words y) same))
    ∙ ap (λ (y : List (List ℕ)). y ∷ map instr_words program.code) (sym own) in
    record {
      open_code = [];
      written =
          w.written
          ∙ ap (λ (y : Option Heading). f0 ++ (m ++ (o ++ (q ++ (open_lines y w.open_code ++ d))))) e
          ∙ ap (λ (y : Words). f0 ++ (m ++ (o ++ (q ++ (y ++ d))))) body
          ∙ ap (λ (y : Words). f0 ++ (m ++ (o ++ y))) (sym (append_assoc q (program_lines program) d))
          ∙ ap (λ (y : Words). f0 ++ (m ++ (o ++ (y ++ d))))
          (sym (ap programs_lines f ∙ programs_push p.programs program))
          ∙ ap (λ (y : Words). y ++ (m ++ (o ++ (programs_lines ps ++ d)))) (sym (same_first p.last p ps None [] ls));
      code = tt;
    }
