-- The print of a valid script is a text of this script.
use Rattle.std.proofs.Common.{◌≡◌, ℕ, ◌+◌, ◌≤◌, ◌<◌, Bool, true, ◌&&◌, nat_le, nat_lt, List, []}
use Rattle.std.proofs.Common.{◌∷◌, ◌++◌, length, map, refl, ap, ◌∙◌, arith}
use Rattle.std.specs.Prelude.{codes}
use Rattle.std.specs.Fmt.{decimal}
use Rattle.std.specs.List.{list_all}
use Rattle.std.proofs.lemmas.Bool.{and_parts, and_from, leb-true, ltb-true}
use Rattle.std.proofs.lemmas.List.Folds.{list_all-append, list_all-map}
use Rattle.w32_base.specs.Name.{is_name}
use Rattle.w32_base.specs.Targets.{is_target_below, are_targets_below}
use Rattle.w32_base.specs.declared.entry.Directive.TheVariants as directive
use Rattle.w32_base.specs.declared.instr.Instr.{Instr}
use Rattle.w32_base.specs.declared.setup.Limits.{Limits}
use Rattle.w32_base.specs.declared.setup.Module.{Module}
use Rattle.w32_base.specs.declared.setup.Program.{Program}
use Rattle.script_spec.specs.declared.script.OccupiedPage.{OccupiedPage}
use Rattle.script_spec.specs.declared.script.ScheduleLine.{ScheduleLine}
use Rattle.script_spec.specs.declared.script.ScheduleLine.TheVariants as line
use Rattle.script_spec.specs.declared.script.Script.{Script}
use Rattle.script_spec.specs.Lines.{spaced, lines_of, not_skipped}
use Rattle.script_spec.specs.InstrText.{instr_words}
use Rattle.script_spec.specs.Print.{limits_words, module_words, occupied_words, program_words, program_lines}
use Rattle.script_spec.specs.Print.{programs_lines, key_text, schedule_words, script_words, print_of}
use Rattle.script_spec.specs.Validity.{is_within, is_valid_instr, are_valid_limits, is_valid_module, is_valid_page}
use Rattle.script_spec.specs.Validity.{is_valid_program, is_valid_line, IsValid}
use Rattle.script_spec.specs.Grammar.{is_plain, IsScript}
use Rattle.script_spec.specs.TextLaws.{is_other, lines_of-words_text}
use Rattle.script_spec.specs.WordLaws.{is_word, decimal_word, name_word, key_word, list_all-implies}
use Rattle.script_spec.specs.InstrLaws.{are_words, words1, words_more, instr_are_words, is_headed, instr_is_headed}
use Rattle.script_spec.specs.LineLaws.{is_good, good_line, all_plain, all_shown, end_line}

abbrev pub are_good : List (List (List ℕ)) → Bool
are_good lines = list_all is_good lines

good : (ws : List (List ℕ)) → are_words ws ≡ true → is_headed ws ≡ true → is_good ws ≡ true
good ws h k = and_from (are_words ws) (is_headed ws) h k

within_most : (low high n : ℕ) → is_within low high n ≡ true → n ≤ high
within_most low high n h = leb-true n high (and_parts (nat_le low n) (nat_le n high) h).1

number : (n : ℕ) → n ≤ 500000 → is_word (decimal n) ≡ true
number n h = decimal_word n (omega arith)

limits_good : (l : Limits) → are_valid_limits l ≡ true → are_good (limits_words l) ≡ true
limits_good l h =
    let p = and_parts (is_within 1 64 l.slots && is_within 1 4000 l.rows) (is_within 1 500000 l.budget) h in
    let q = and_parts (is_within 1 64 l.slots) (is_within 1 4000 l.rows) p.0 in
    let slots : l.slots ≤ 64 = within_most 1 64 l.slots q.0 in
    let rows : l.rows ≤ 4000 = within_most 1 4000 l.rows q.1 in
    let line_slots : List (List ℕ) = codes "slots" ∷ decimal l.slots ∷ [] in
    let line_rows : List (List ℕ) = codes "rows" ∷ decimal l.rows ∷ [] in
    let line_budget : List (List ℕ) = codes "budget" ∷ decimal l.budget ∷ [] in
    and_from (is_good line_slots) (is_good line_rows && (is_good line_budget && true))
    (good line_slots (words1 (decimal l.slots) (number l.slots (omega arith))) refl)
    (and_from (is_good line_rows) (is_good line_budget && true)
    (good line_rows (words1 (decimal l.rows) (number l.rows (omega arith))) refl)
    (and_from (is_good line_budget) true
    (good line_budget (words1 (decimal l.budget) (number l.budget (within_most 1 500000 l.budget p.1))) refl) refl))

module_good : (m : Module) → is_valid_module m ≡ true → is_good (module_words m) ≡ true
module_good m h =
    let p = and_parts (is_name m.name && is_within 1 8 m.size) (nat_le (m.base + m.size) 1024) h in
    let q = and_parts (is_name m.name) (is_within 1 8 m.size) p.0 in
    let pages : m.base + m.size ≤ 1024 = leb-true (m.base + m.size) 1024 p.1 in
    good (module_words m)
    (words_more m.name (decimal m.base ∷ decimal m.size ∷ []) (name_word m.name q.0)
    (words_more (decimal m.base) (decimal m.size ∷ []) (number m.base (omega arith))
    (words1 (decimal m.size) (number m.size (omega arith))))) refl

page_good : (o : OccupiedPage) → is_valid_page o ≡ true → is_good (occupied_words o) ≡ true
page_good o h =
    let p = and_parts (is_within 1 500000 o.creation) (nat_lt o.page 1024) h in
    let page : o.page < 1024 = ltb-true o.page 1024 p.1 in
    good (occupied_words o)
    (words_more (decimal o.creation) (decimal o.page ∷ []) (number o.creation (within_most 1 500000 o.creation p.0))
    (words1 (decimal o.page) (number o.page (omega arith)))) refl

code_good : (most : ℕ) (is : List Instr) → most ≤ 4000 → list_all is_valid_instr is ≡ true
    → are_targets_below most is ≡ true → are_good (map instr_words is) ≡ true
code_good most [] few h t = refl
code_good most (i ∷ is) few h t =
    let p = and_parts (is_valid_instr i) (list_all is_valid_instr is) h in
    let q = and_parts (is_target_below most i) (are_targets_below most is) t in
    and_from (is_good (instr_words i)) (are_good (map instr_words is))
    (good (instr_words i) (instr_are_words i most few p.0 q.0) (instr_is_headed i)) (code_good most is few p.1 q.1)

program_good : (p : Program) → is_valid_program p ≡ true → are_good (program_lines p) ≡ true
program_good p h =
    let n : ℕ = length p.code in
    let a =
    and_parts
    (is_name p.name && nat_le p.heap 32768 && is_within 64 32768 p.stack && is_within 1 4000 n &&
    list_all is_valid_instr p.code) (are_targets_below n p.code) h in
    let b =
    and_parts (is_name p.name && nat_le p.heap 32768 && is_within 64 32768 p.stack && is_within 1 4000 n)
    (list_all is_valid_instr p.code) a.0 in
    let c = and_parts (is_name p.name && nat_le p.heap 32768 && is_within 64 32768 p.stack) (is_within 1 4000 n) b.0 in
    let d = and_parts (is_name p.name && nat_le p.heap 32768) (is_within 64 32768 p.stack) c.0 in
    let e = and_parts (is_name p.name) (nat_le p.heap 32768) d.0 in
    let heap : p.heap ≤ 32768 = leb-true p.heap 32768 e.1 in
    let stack : p.stack ≤ 32768 = within_most 64 32768 p.stack d.1 in
    and_from (is_good (program_words p)) (are_good (map instr_words p.code))
    (good (program_words p)
    (words_more p.name (codes "heap" ∷ decimal p.heap ∷ codes "stack" ∷ decimal p.stack ∷ []) (name_word p.name e.0)
    (words_more (decimal p.heap) (codes "stack" ∷ decimal p.stack ∷ []) (number p.heap (omega arith))
    (words1 (decimal p.stack) (number p.stack (omega arith))))) refl)
    (code_good n p.code (within_most 1 4000 n c.1) b.1 a.1)

programs_good : (ps : List Program) → list_all is_valid_program ps ≡ true → are_good (programs_lines ps) ≡ true
programs_good [] h = refl
programs_good (p ∷ ps) h =
    let q = and_parts (is_valid_program p) (list_all is_valid_program ps) h in
    list_all-append is_good (program_lines p) (programs_lines ps) ∙
    and_from (are_good (program_lines p)) (are_good (programs_lines ps)) (program_good p q.0) (programs_good ps q.1)

schedule_good : (slots : ℕ) → slots ≤ 64 → (l : ScheduleLine) → is_valid_line slots l ≡ true
    → is_good (schedule_words l) ≡ true
schedule_good slots few (line.Given (directive.Turn slot thread)) h =
    let p = and_parts (nat_le slot slots) (nat_le thread 2) h in
    let low : slot ≤ slots = leb-true slot slots p.0 in
    let two : thread ≤ 2 = leb-true thread 2 p.1 in
    good (codes "turn" ∷ decimal slot ∷ decimal thread ∷ [])
    (words_more (decimal slot) (decimal thread ∷ []) (number slot (omega arith))
    (words1 (decimal thread) (number thread (omega arith)))) refl
schedule_good slots few (line.Given (directive.End slot)) h =
    let p = and_parts (nat_le 1 slot && nat_le slot slots) true h in
    let low : slot ≤ slots = leb-true slot slots (and_parts (nat_le 1 slot) (nat_le slot slots) p.0).1 in
    good (codes "end" ∷ decimal slot ∷ []) (words1 (decimal slot) (number slot (omega arith))) refl
schedule_good slots few (line.Given (directive.Key b)) h =
    good (codes "key" ∷ key_text b ∷ []) (words1 (key_text b) (key_word b (leb-true b 255 h))) refl
schedule_good slots few (line.Steps turns) h =
    good (codes "steps" ∷ decimal turns ∷ [])
    (words1 (decimal turns) (number turns (within_most 1 500000 turns h))) refl
schedule_good slots few line.Settle h = refl

map_good : {X : Type 0} (p : X → Bool) (f : X → List (List ℕ)) → ((x : X) → p x ≡ true → is_good (f x) ≡ true)
    → (xs : List X) → list_all p xs ≡ true → are_good (map f xs) ≡ true
map_good p f each xs h = list_all-map is_good f xs ∙ list_all-implies p (λ x. is_good (f x)) each xs h

joined : (xs ys : List (List (List ℕ))) → are_good xs ≡ true → are_good ys ≡ true → are_good (xs ++ ys) ≡ true
joined xs ys h k = list_all-append is_good xs ys ∙ and_from (are_good xs) (are_good ys) h k

pub script_good : (s : Script) → IsValid s → are_good (script_words s) ≡ true
script_good s v =
    let slots : s.setup.limits.slots ≤ 64 = within_most 1 64 s.setup.limits.slots
    (and_parts (is_within 1 64 s.setup.limits.slots) (is_within 1 4000 s.setup.limits.rows)
    (and_parts (is_within 1 64 s.setup.limits.slots && is_within 1 4000 s.setup.limits.rows)
    (is_within 1 500000 s.setup.limits.budget) v.limits).0).0 in
    let lines : List (List (List ℕ)) = (codes "schedule" ∷ []) ∷ map schedule_words s.directives in
    let from_programs : List (List (List ℕ)) = programs_lines s.setup.programs ++ lines in
    let from_pages : List (List (List ℕ)) = map occupied_words s.occupied ++ from_programs in
    let from_modules : List (List (List ℕ)) = map module_words s.setup.modules ++ from_pages in
    joined (limits_words s.setup.limits) from_modules (limits_good s.setup.limits v.limits)
    (joined (map module_words s.setup.modules) from_pages
    (map_good is_valid_module module_words module_good s.setup.modules v.modules)
    (joined (map occupied_words s.occupied) from_programs
    (map_good is_valid_page occupied_words page_good s.occupied v.pages)
    (joined (programs_lines s.setup.programs) lines (programs_good s.setup.programs v.programs)
    (map_good (is_valid_line s.setup.limits.slots) schedule_words
    (schedule_good s.setup.limits.slots slots) s.directives v.lines))))

-- the print of a valid script is a text of this script, unless it is too long
pub print_is_script : (s : Script) → IsValid s → length (print_of s) ≤ 1048576 → IsScript (print_of s) s
print_is_script s v size =
    let all = script_good s v in
    let each : list_all (λ (ws : List (List ℕ)). list_all (is_other 10) (spaced ws)) (script_words s) ≡ true =
    list_all-implies is_good (λ (ws : List (List ℕ)). list_all (is_other 10) (spaced ws)) good_line
    (script_words s) all in
    let lines : lines_of (print_of s) ≡ map end_line (script_words s) = lines_of-words_text (script_words s) each in
    record {
      size = size;
      plain = ap (list_all is_plain) lines ∙ all_plain (script_words s) all;
      written = ap not_skipped lines ∙ all_shown (script_words s) all;
      valid = v;
    }
