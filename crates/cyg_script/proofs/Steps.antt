-- Steps of the reader: names stay distinct, and a program whose places are tested has its targets in range.
use Rattle.std.proofs.Common.{◌≡◌, ℕ, ◌<◌, true, false, not, nat_eq, List, [], ◌∷◌, ◌++◌}
use Rattle.std.proofs.Common.{length, map, Some, None, refl, sym, ap, ◌∙◌, arith, inl, inr, length-append}
use Rattle.std.proofs.lemmas.Bool.{cases_Bool, cases_lt, and_parts, and_from, or_parts, not-true, eq-eqb, eqb-true}
use Rattle.std.proofs.lemmas.Bool.{false_from_ne_true}
use Rattle.w32_base.specs.Names.{is_same, is_among, are_distinct}
use Rattle.w32_base.specs.Setup.{module_names, program_names}
use Rattle.w32_base.specs.Targets.{is_target_below, are_targets_below}
use Rattle.w32_base.specs.declared.instr.Instr.{Instr}
use Rattle.w32_base.specs.declared.setup.Module.{Module}
use Rattle.w32_base.specs.declared.setup.Program.{Program}
use Rattle.cyg_script.specs.declared.heading.Heading.{Heading}
use Rattle.cyg_script.specs.Parts.{Parts, past_line, stage, IsStaged, IsEnded}

is_same-self : (xs : List ℕ) → is_same xs xs ≡ true
is_same-self [] = refl
is_same-self (x ∷ xs) = and_from (nat_eq x x) (is_same xs xs) (eq-eqb x x refl) (is_same-self xs)

is_same-true : (xs ys : List ℕ) → is_same xs ys ≡ true → xs ≡ ys
is_same-true [] [] h = refl
is_same-true [] (y ∷ ys) h = absurd cc
is_same-true (x ∷ xs) [] h = absurd cc
is_same-true (x ∷ xs) (y ∷ ys) h =
    let p = and_parts (nat_eq x y) (is_same xs ys) h in
    let e : x ≡ y = eqb-true x y p.0 in
    let f : xs ≡ ys = is_same-true xs ys p.1 in
    cc

is_same-sym : (xs ys : List ℕ) → is_same xs ys ≡ false → is_same ys xs ≡ false
is_same-sym xs ys h =
    false_from_ne_true (is_same ys xs)
    (λ t.
    let e : is_same xs ys ≡ true = rw (is_same-true ys xs t) (is_same-self xs) in
    let f : true ≡ false = sym e ∙ h in cc)

among-append : (x : List ℕ) (xs : List (List ℕ)) (y : List ℕ) → is_among x xs ≡ false → is_same x y ≡ false
    → is_among x (xs ++ y ∷ []) ≡ false
among-append x [] y h k = rw k refl
among-append x (z ∷ zs) y h k =
    let p = or_parts (is_same x z) (is_among x zs) h in
    rw (p.0, among-append x zs y p.1 k) refl

distinct-append : (xs : List (List ℕ)) (y : List ℕ) → are_distinct xs ≡ true → is_among y xs ≡ false
    → are_distinct (xs ++ y ∷ []) ≡ true
distinct-append [] y h k = refl
distinct-append (x ∷ xs) y h k =
    let p = and_parts (not (is_among x xs)) (are_distinct xs) h in
    let q = or_parts (is_same y x) (is_among y xs) k in
    rw (among-append x xs y (not-true (is_among x xs) p.0) (is_same-sym y x q.0), distinct-append xs y p.1 q.1) refl

names-append : {X : Type 0} (f : X → List ℕ) (xs : List X) (y : X) → map f (xs ++ y ∷ []) ≡ map f xs ++ f y ∷ []
names-append f [] y = refl
names-append f (x ∷ xs) y = ap (λ (r : List (List ℕ)). f x ∷ r) (names-append f xs y)

pub distinct_modules : (ms : List Module) (m : Module) → are_distinct (module_names ms) ≡ true
    → is_among m.name (module_names ms) ≡ false → are_distinct (module_names (ms ++ m ∷ [])) ≡ true
distinct_modules ms m h k =
    rw (names-append (λ (m : Module). m.name) ms m) (distinct-append (module_names ms) m.name h k)

pub distinct_programs : (ps : List Program) (p : Program) → are_distinct (program_names ps) ≡ true
    → is_among p.name (program_names ps) ≡ false → are_distinct (program_names (ps ++ p ∷ [])) ≡ true
distinct_programs ps p h k =
    rw (names-append (λ (p : Program). p.name) ps p) (distinct-append (program_names ps) p.name h k)

pub none_past : (n : ℕ) (is : List Instr) (ls : List ℕ) → length is ≡ length ls → past_line n is ls ≡ None
    → are_targets_below n is ≡ true
none_past n [] ls e h = refl
none_past n (i ∷ is) [] e h = absurd (omega (arith, e))
none_past n (i ∷ is) (l ∷ ls) e h =
    elim (cases_Bool (is_target_below n i)) [
      | inl t ↦ rw t (none_past n is ls (omega (arith, e)) (rw t at h))
      | inr t ↦ absurd (let f : Some l ≡ None = rw t at h in cc)
    ]

-- where a program is open, its own line or an instruction is the last line
open_stage : (p : Parts) (h : Heading) → IsStaged p → p.heading ≡ Some h → 0 < length p.code → stage p.last ≡ 8
open_stage p h s e n =
    let late : 6 < stage p.last = elim (cases_lt 6 (stage p.last)) [
      | inl l ↦ l
      | inr l ↦ absurd (let f : Some h ≡ None = sym e ∙ s.read.no_heading l in cc)
    ] in
    let early : stage p.last < 9 = elim (cases_lt (stage p.last) 9) [
      | inl l ↦ l
      | inr l ↦ absurd (let f : Some h ≡ None = sym e ∙ (s.read.ended l).0 in cc)
    ] in
    elim (cases_lt 7 (stage p.last)) [
      | inl l ↦ omega (arith, l, early)
      | inr l ↦
          let seven : stage p.last ≡ 7 = omega (arith, l, late) in
          absurd (omega (arith, n, ap length (s.read.headed seven).0))
    ]

-- a program's end
pub ended_program : (p : Parts) (h : Heading) (program : Program) (ps : List Program) (code : List Instr)
    (lines : List ℕ) → IsStaged p → p.heading ≡ Some h → 0 < length p.code → program.name ≡ h.name
    → ps ≡ p.programs ++ program ∷ [] → code ≡ [] → lines ≡ []
    → IsEnded (record p { programs = ps; heading = None; code = code; code_lines = lines })
ended_program p h program ps code lines s e n same f g k =
    let eight = open_stage p h s e n in
    let new = s.read.new_heading h e in
    rw (f, g, k) record {
      read = record {
        slots = s.read.slots;
        rows = s.read.rows;
        budget = s.read.budget;
        few_modules = s.read.few_modules;
        module_names = s.read.module_names;
        few_pages = s.read.few_pages;
        few_programs = omega (arith, new.1, length-append p.programs (program ∷ []));
        program_names = distinct_programs p.programs program s.read.program_names (rw same new.0);
        few_instructions = omega arith;
        counted = refl;
        few_lines = s.read.few_lines;
        lines = s.read.lines;
        no_modules = s.read.no_modules;
        no_pages = s.read.no_pages;
        no_programs = λ l. absurd (omega (arith, l, eight));
        no_heading = λ l. refl;
        no_code = λ l. refl;
        headed = λ l. absurd (omega (arith, l, eight));
        ended = λ l. absurd (omega (arith, l, eight));
        no_lines = s.read.no_lines;
        some_lines = s.read.some_lines;
        new_heading = λ k l. absurd (let m : None ≡ Some k = l in cc);
      };
      no_code = refl;
      closed = λ l. (refl, omega (arith, length-append p.programs (program ∷ [])));
    }
