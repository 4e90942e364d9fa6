-- What a line that follows says of the first fault, by its sort.
use Rattle.std.proofs.Common.{◌≡◌, ℕ, suc, ◌+◌, Bool, true, false, ◌||◌, List, [], ◌∷◌}
use Rattle.std.proofs.Common.{Option, Some, None, refl, sym, ap, ◌∙◌, arith, inl, inr}
use Rattle.std.specs.Prelude.{option_map, if◌then◌else◌}
use Rattle.std.proofs.lemmas.Bool.{cases_Bool, or_parts}
use Rattle.script_spec.specs.declared.fault.Kind.{Kind}
use Rattle.script_spec.specs.declared.fault.Kind.TheVariants.{Target}
use Rattle.script_spec.specs.declared.fault.Sort.{Sort}
use Rattle.script_spec.specs.declared.fault.Sort.TheVariants as sort
use Rattle.script_spec.specs.FirstWords.{sort_of_words, either}
use Rattle.script_spec.specs.Places.{has_sort, place_fault, instructions_before}
use Rattle.script_spec.specs.FirstFault.{Judged, ends_program, body_of, instructions_of}
use Rattle.script_spec.specs.FirstFault.{are_faultless, first_past, and_then_line, place_of, is_past, least_line_fault}
use Rattle.script_spec.specs.FirstFault.{target_fault}
use Rattle.script_spec.specs.Front.{words_read, line_if, past_read, past_end, is_open}
use Rattle.script_spec.specs.Front.{is_open_after, targeted, past_with, closed_fault, open_fault, following_fault}

pub either-none : {A : Type 0} (x : Option A) → either x None ≡ x
either-none None = refl
either-none (Some x) = refl

either-either : {A : Type 0} (x y z : Option A) → either (either x y) z ≡ either x (either y z)
either-either None y z = refl
either-either (Some x) y z = refl

targeted-either : (x y : Option ℕ) → targeted (either x y) ≡ either (targeted x) (targeted y)
targeted-either None y = refl
targeted-either (Some x) y = refl

abbrev no_fault : Option (ℕ × Kind)
no_fault = None

abbrev end_of_text : ℕ → Option Kind → Judged
end_of_text n fault = record { number = n; sort = None; fault = fault; place = None }

no_fault-either : (b : Bool) → (if b then no_fault else no_fault) ≡ no_fault
no_fault-either true = refl
no_fault-either false = refl

pub end_alone : (read : List (ℕ × List (List ℕ))) (n : ℕ) (fault : Option Kind)
    → following_fault read (end_of_text n fault ∷ []) ≡ option_map (λ (kind : Kind). (n, kind)) fault
end_alone read n fault =
    rw (no_fault-either (is_open read)) (either-none (option_map (λ (kind : Kind). (n, kind)) fault))

-- a line with a fault in an open program
faulty_body : (read : List (ℕ × List (List ℕ))) (j : Judged) (js : Option (List Judged)) (kind : Kind)
    → j.fault ≡ Some kind → closed_fault read (and_then_line j js) ≡ None
faulty_body read j None kind h = refl
faulty_body read j (Some js) kind h = rw h refl

-- where the next line ends the program
ended_here : (read : List (ℕ × List (List ℕ))) → closed_fault read (Some []) ≡ targeted (past_end read)
ended_here read =
    let n = instructions_before (words_read read) in
    let e : n + 0 ≡ n = omega arith in
    either-none (targeted (past_read (n + 0) read)) ∙ ap (λ (m : ℕ). targeted (past_read m read)) e

not_open : (read : List (ℕ × List (List ℕ))) → is_open read ≡ false → past_end read ≡ None
not_open [] h = refl
not_open (r ∷ read) h =
    let s = sort_of_words r.1 in
    let p = or_parts (has_sort sort.Program s) (has_sort sort.Instruction s) h in
    rw p.1 refl

ending_open : (read : List (ℕ × List (List ℕ))) (j : Judged) (js : List Judged) → ends_program j ≡ true
    → open_fault read (j ∷ js) ≡ targeted (past_end read)
ending_open read j js h =
    elim (cases_Bool (is_open read)) [
      | inl t ↦ rw (t, h) (ended_here read)
      | inr t ↦ rw (t, not_open read t) refl
    ]

going_on : (read : List (ℕ × List (List ℕ))) (j : Judged) (js : List Judged) → ends_program j ≡ false
    → open_fault read (j ∷ js) ≡ (if is_open read then closed_fault read (and_then_line j (body_of js)) else None)
going_on read j js h = rw h refl

least_faulty : (j : Judged) (js : List Judged) (kind : Kind) → j.fault ≡ Some kind
    → least_line_fault (j ∷ js) ≡ Some (j.number, kind)
least_faulty j js kind h = rw h refl

pub past_step : (read : List (ℕ × List (List ℕ))) (j : Judged) (js : List Judged) (m : ℕ) → ends_program j ≡ true
    → past_end read ≡ Some m → following_fault read (j ∷ js) ≡ Some (m, Target)
past_step read j js m h k =
    ap (λ (f : Option (ℕ × Kind)). either f (least_line_fault (j ∷ js))) (ending_open read j js h ∙ ap targeted k)

pub faulty_step : (read : List (ℕ × List (List ℕ))) (j : Judged) (js : List Judged) (kind : Kind)
    → (ends_program j ≡ true → past_end read ≡ None) → j.fault ≡ Some kind
    → following_fault read (j ∷ js) ≡ Some (j.number, kind)
faulty_step read j js kind h k =
    let none : open_fault read (j ∷ js) ≡ None =
    elim (cases_Bool (ends_program j)) [
      | inl t ↦ ending_open read j js t ∙ ap targeted (h t)
      | inr t ↦ going_on read j js t ∙ elim (cases_Bool (is_open read)) [
        | inl o ↦ rw o (faulty_body read j (body_of js) kind k)
        | inr o ↦ rw o refl
      ]
    ] in
    ap (λ (f : Option (ℕ × Kind)). either f (least_line_fault (j ∷ js))) none ∙ least_faulty j js kind k

-- one line more of the open program
abbrev pub faultless : ℕ → Option Sort → Option ℕ → Judged
faultless n s place = record { number = n; sort = s; fault = None; place = place }

skipped_body : (read : List (ℕ × List (List ℕ))) (n : ℕ) (b : Option (List Judged))
    → closed_fault read (and_then_line (faultless n None None) b) ≡ closed_fault read b
skipped_body read n None = refl
skipped_body read n (Some js) = refl

-- a line that is skipped
pub skipped_step : (read : List (ℕ × List (List ℕ))) (n : ℕ) (js : List Judged)
    → following_fault read (faultless n None None ∷ js) ≡ following_fault read js
skipped_step read n js = rw (skipped_body read n (body_of js)) refl

join_past : (x : Option ℕ) (b : Bool) (n : ℕ) (rest : Option (ℕ × Kind))
    → either (targeted x) (if b then Some (n, Target) else rest) ≡ either (targeted (either x (line_if b n))) rest
join_past (Some x) b n rest = refl
join_past None true n rest = refl
join_past None false n rest = refl

instruction_past : (read : List (ℕ × List (List ℕ))) (n most : ℕ) (ws : List (List ℕ)) (js : List Judged)
    → sort_of_words ws ≡ Some sort.Instruction
    → past_with most read (faultless n (Some sort.Instruction) (place_of ws) ∷ js) ≡ past_with most ((n, ws) ∷ read) js
instruction_past read n most ws js h =
    rw h (join_past (past_read most read) (is_past most (place_of ws)) n (first_past most js))

one_more : (read : List (ℕ × List (List ℕ))) (n : ℕ) (ws : List (List ℕ)) → sort_of_words ws ≡ Some sort.Instruction
    → instructions_before (words_read ((n, ws) ∷ read)) ≡ suc (instructions_before (words_read read))
one_more read n ws h = rw h refl

instruction_body : (read : List (ℕ × List (List ℕ))) (n : ℕ) (ws : List (List ℕ)) (b : Option (List Judged))
    → sort_of_words ws ≡ Some sort.Instruction
    → closed_fault read (and_then_line (faultless n (Some sort.Instruction) (place_of ws)) b)
    ≡ closed_fault ((n, ws) ∷ read) b
instruction_body read n ws None h = refl
instruction_body read n ws (Some js) h =
    let before = instructions_before (words_read read) in
    let e : before + suc (instructions_of js) ≡ suc before + instructions_of js = omega arith in
    let j : Judged = faultless n (Some sort.Instruction) (place_of ws) in
    let when : Option (ℕ × Kind) → Option (ℕ × Kind) = λ f. if are_faultless js then f else None in
    ap (λ (most : ℕ). when (past_with most read (j ∷ js))) e
    ∙ ap when (instruction_past read n (suc before + instructions_of js) ws js h)
    ∙ ap (λ (count : ℕ). when (past_with (count + instructions_of js) ((n, ws) ∷ read) js)) (sym (one_more read n ws h))

pub instruction_step : (read : List (ℕ × List (List ℕ))) (n : ℕ) (ws : List (List ℕ)) (js : List Judged)
    → sort_of_words ws ≡ Some sort.Instruction → is_open read ≡ true
    → following_fault read (faultless n (Some sort.Instruction) (place_of ws) ∷ js)
    ≡ following_fault ((n, ws) ∷ read) js
instruction_step read n ws js h k = rw (k, instruction_body read n ws (body_of js) h, h) refl

program_body : (read : List (ℕ × List (List ℕ))) (n : ℕ) (ws : List (List ℕ)) (b : Option (List Judged))
    → sort_of_words ws ≡ Some sort.Program → target_fault b ≡ closed_fault ((n, ws) ∷ read) b
program_body read n ws None h = refl
program_body read n ws (Some js) h =
    let e : 0 + instructions_of js ≡ instructions_of js = omega arith in
    rw (h, e) refl

pub program_step : (read : List (ℕ × List (List ℕ))) (n : ℕ) (ws : List (List ℕ)) (place : Option ℕ) (js : List Judged)
    → sort_of_words ws ≡ Some sort.Program → past_end read ≡ None
    → following_fault read (faultless n (Some sort.Program) place ∷ js) ≡ following_fault ((n, ws) ∷ read) js
program_step read n ws place js h k =
    rw (ending_open read (faultless n (Some sort.Program) place) js refl, k, program_body read n ws (body_of js) h, h)
    refl

pub schedule_step : (read : List (ℕ × List (List ℕ))) (n : ℕ) (ws : List (List ℕ)) (place : Option ℕ) (js : List Judged)
    → sort_of_words ws ≡ Some sort.Schedule → past_end read ≡ None
    → following_fault read (faultless n (Some sort.Schedule) place ∷ js) ≡ following_fault ((n, ws) ∷ read) js
schedule_step read n ws place js h k =
    rw (ending_open read (faultless n (Some sort.Schedule) place) js refl, k, h) refl

pub other_step : (read : List (ℕ × List (List ℕ))) (n : ℕ) (s : Sort) (ws : List (List ℕ)) (place : Option ℕ)
    (js : List Judged) → sort_of_words ws ≡ Some s → is_open_after (Some s) ≡ false → is_open read ≡ false
    → following_fault read (faultless n (Some s) place ∷ js) ≡ following_fault ((n, ws) ∷ read) js
other_step read n s ws place js h k o =
    let p = or_parts (has_sort sort.Program (Some s)) (has_sort sort.Instruction (Some s)) k in
    rw (o, h, p.0, p.1) refl

-- what may follow on what
pub before_instruction : (s : Sort) → place_fault s sort.Instruction ≡ None → is_open_after (Some s) ≡ true
before_instruction sort.Header h = absurd cc
before_instruction sort.Slots h = absurd cc
before_instruction sort.Rows h = absurd cc
before_instruction sort.Budget h = absurd cc
before_instruction sort.Module h = absurd cc
before_instruction sort.Occupy h = absurd cc
before_instruction sort.Program h = refl
before_instruction sort.Instruction h = refl
before_instruction sort.Schedule h = absurd cc
before_instruction sort.Directive h = absurd cc

-- a line of the open program, or one that ends it
abbrev pub is_in_or_after : Sort → Bool
is_in_or_after s = has_sort sort.Instruction (Some s) || has_sort sort.Program (Some s)
    || has_sort sort.Schedule (Some s)

after_program : (s : Sort) → place_fault sort.Program s ≡ None → is_in_or_after s ≡ true
after_program sort.Header h = absurd cc
after_program sort.Slots h = absurd cc
after_program sort.Rows h = absurd cc
after_program sort.Budget h = absurd cc
after_program sort.Module h = absurd cc
after_program sort.Occupy h = absurd cc
after_program sort.Program h = refl
after_program sort.Instruction h = refl
after_program sort.Schedule h = refl
after_program sort.Directive h = absurd cc

after_instruction : (s : Sort) → place_fault sort.Instruction s ≡ None → is_in_or_after s ≡ true
after_instruction sort.Header h = absurd cc
after_instruction sort.Slots h = absurd cc
after_instruction sort.Rows h = absurd cc
after_instruction sort.Budget h = absurd cc
after_instruction sort.Module h = absurd cc
after_instruction sort.Occupy h = absurd cc
after_instruction sort.Program h = refl
after_instruction sort.Instruction h = refl
after_instruction sort.Schedule h = refl
after_instruction sort.Directive h = absurd cc

pub before_other : (last s : Sort) → place_fault last s ≡ None → is_in_or_after s ≡ false
    → is_open_after (Some last) ≡ false
before_other sort.Program s h k = absurd (let e = after_program s h in cc)
before_other sort.Instruction s h k = absurd (let e = after_instruction s h in cc)
before_other sort.Header s h k = refl
before_other sort.Slots s h k = refl
before_other sort.Rows s h k = refl
before_other sort.Budget s h k = refl
before_other sort.Module s h k = refl
before_other sort.Occupy s h k = refl
before_other sort.Schedule s h k = refl
before_other sort.Directive s h k = refl
