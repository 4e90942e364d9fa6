-- The lines of limits, modules and occupied pages follow those before without a fault.
use Rattle.std.proofs.Common.{◌≡◌, ℕ, suc, ◌+◌, ◌^◌, ◌≤◌, ◌<◌, Bool, true, false, ◌&&◌, ◌||◌, not, nat_le, nat_lt}
use Rattle.std.proofs.Common.{List, [], ◌∷◌, ◌++◌, map, length, Some, None, refl, sym, ap, ◌∙◌, arith}
use Rattle.std.specs.Prelude.{codes}
use Rattle.std.specs.Fmt.{decimal}
use Rattle.std.specs.List.{list_all}
use Rattle.std.proofs.lemmas.Bool.{and_parts, and_from, or_from, or_parts, not-true, leb-true, ltb-true, le-ltb}
use Rattle.std.proofs.lemmas.Bool.{lt-leb, false_from_ne_true, not_from_false}
use Rattle.w32_base.specs.Name.{is_name}
use Rattle.w32_base.specs.Names.{is_same, is_among, are_distinct}
use Rattle.w32_base.specs.Setup.{module_names}
use Rattle.w32_base.specs.declared.setup.Limits.{Limits}
use Rattle.w32_base.specs.declared.setup.Module.{Module}
use Rattle.script_spec.specs.declared.fault.FirstWord.{FirstWord}
use Rattle.script_spec.specs.declared.fault.FirstWord.TheVariants as first
use Rattle.script_spec.specs.declared.fault.Sort.{Sort}
use Rattle.script_spec.specs.declared.fault.Sort.TheVariants as sort
use Rattle.script_spec.specs.declared.script.OccupiedPage.{OccupiedPage}
use Rattle.script_spec.specs.Fields.{Field, NumberWord, NameWord}
use Rattle.script_spec.specs.FirstWords.{sort_of}
use Rattle.script_spec.specs.Forms.{form_fault, forms, forms_fault}
use Rattle.script_spec.specs.Places.{is_sort, place_fault, count_of, names_of, slots_of}
use Rattle.script_spec.specs.LineFaults.{pages_fault, twice_fault, is_full, words_fault, written_fault}
use Rattle.script_spec.specs.Print.{limits_words, module_words, occupied_words}
use Rattle.script_spec.specs.Validity.{is_within, are_valid_limits, is_valid_module, is_valid_page}
use Rattle.script_spec.specs.LineFaultLaws.{is_same-self, is_same-true}
use Rattle.script_spec.specs.FieldLaws.{value_of-decimal, number_good, name_good}
use Rattle.script_spec.specs.Follow.{Follow, last_sort, written-none, words-none}

-- What the lines before say of the script: its slots, the names of its modules and programs, the last of them first,
-- and how many pages and lines of its schedule there are.
pub record Met (slots : ℕ) (modules programs : List (List ℕ)) (pages lines : ℕ) (before : List (List (List ℕ)))
    : Type 0 where
  pub slots_met : slots_of before ≡ slots
  pub modules_met : names_of sort.Module before ≡ modules
  pub modules_counted : count_of sort.Module before ≡ length modules
  pub programs_met : names_of sort.Program before ≡ programs
  pub programs_counted : count_of sort.Program before ≡ length programs
  pub pages_counted : count_of sort.Occupy before ≡ pages
  pub lines_counted : count_of sort.Directive before ≡ lines

-- each name is new when it comes
abbrev pub AreNew : List (List ℕ) → List (List ℕ) → Type 0
AreNew [] known = Unit {0}
AreNew (name ∷ names) known = (is_among name known ≡ false) × AreNew names (name ∷ known)

abbrev is_new : List (List ℕ) → List ℕ → Bool
is_new known name = not (is_among name known)

is_same-sym : (xs ys : List ℕ) → is_same xs ys ≡ false → is_same ys xs ≡ false
is_same-sym xs ys h =
    false_from_ne_true (is_same ys xs)
    (λ t.
    let e : is_same xs ys ≡ true = rw (is_same-true ys xs t) (is_same-self xs) in
    let f : true ≡ false = sym e ∙ h in cc)

one_new_more : (x : List ℕ) (known names : List (List ℕ)) → is_among x names ≡ false
    → list_all (is_new known) names ≡ true → list_all (is_new (x ∷ known)) names ≡ true
one_new_more x known [] h k = refl
one_new_more x known (y ∷ names) h k =
    let p = or_parts (is_same x y) (is_among x names) h in
    let q = and_parts (is_new known y) (list_all (is_new known) names) k in
    and_from (is_new (x ∷ known) y) (list_all (is_new (x ∷ known)) names)
    (not_from_false (is_same y x || is_among y known)
    (or_from (is_same y x) (is_among y known) (is_same-sym x y p.0) (not-true (is_among y known) q.0)))
    (one_new_more x known names p.1 q.1)

new_names : (known names : List (List ℕ)) → are_distinct names ≡ true → list_all (is_new known) names ≡ true
    → AreNew names known
new_names known [] h k = tt
new_names known (x ∷ names) h k =
    let p = and_parts (not (is_among x names)) (are_distinct names) h in
    let q = and_parts (is_new known x) (list_all (is_new known) names) k in (
      not-true (is_among x known) q.0,
      new_names (x ∷ known) names p.1
          (one_new_more x known names (not-true (is_among x names) p.0) q.1),
    )

none_known : (names : List (List ℕ)) → list_all (is_new []) names ≡ true
none_known [] = refl
none_known (x ∷ names) = none_known names

-- distinct names
pub distinct-new : (names : List (List ℕ)) → are_distinct names ≡ true → AreNew names []
distinct-new names h = new_names [] names h (none_known names)

pub one_form : (f : List Field) (ws : List (List ℕ)) → form_fault f ws ≡ None → forms_fault (f ∷ []) ws ≡ None
one_form f ws h = rw h h

-- a number in its range
pub number_within : (low high n : ℕ) → high < 2 ^ 64 → is_within low high n ≡ true
    → form_fault (NumberWord low high ∷ []) (decimal n ∷ []) ≡ None
number_within low high n small h =
    let p = and_parts (nat_le low n) (nat_le n high) h in
    let from : low ≤ n = leb-true low n p.0 in
    let to : n ≤ high = leb-true n high p.1 in
    rw (number_good low high n from to (omega arith)) refl

-- the lines of limits
abbrev header_words : List (List ℕ)
header_words = codes "cygscript" ∷ codes "1" ∷ []

abbrev slots_words : Limits → List (List ℕ)
slots_words l = codes "slots" ∷ decimal l.slots ∷ []

abbrev rows_words : Limits → List (List ℕ)
rows_words l = codes "rows" ∷ decimal l.rows ∷ []

abbrev pub limits_before : Limits → List (List (List ℕ))
limits_before l =
    (codes "budget" ∷ decimal l.budget ∷ []) ∷ (codes "rows" ∷ decimal l.rows ∷ [])
    ∷ (codes "slots" ∷ decimal l.slots ∷ []) ∷ (codes "cygscript" ∷ codes "1" ∷ []) ∷ []

pub met-limits : (l : Limits) → are_valid_limits l ≡ true → Met l.slots [] [] 0 0 (limits_before l)
met-limits l h =
    let p = and_parts (is_within 1 64 l.slots && is_within 1 4000 l.rows) (is_within 1 500000 l.budget) h in
    let q = and_parts (is_within 1 64 l.slots) (is_within 1 4000 l.rows) p.0 in
    let few : l.slots ≤ 64 = leb-true l.slots 64 (and_parts (nat_le 1 l.slots) (nat_le l.slots 64) q.0).1 in
    record {
      slots_met = value_of-decimal l.slots (omega arith);
      modules_met = refl;
      modules_counted = refl;
      programs_met = refl;
      programs_counted = refl;
      pages_counted = refl;
      lines_counted = refl;
    }

limit_fault : (before : List (List (List ℕ))) (word : FirstWord) (low high n : ℕ) → high < 2 ^ 64
    → is_within low high n ≡ true → forms (slots_of before) word ≡ (NumberWord low high ∷ []) ∷ []
    → pages_fault word (decimal n ∷ []) ≡ None → twice_fault (sort_of word) before (decimal n ∷ []) ≡ None
    → is_full (sort_of word) before ≡ false → written_fault before word (decimal n ∷ []) ≡ None
limit_fault before word low high n small h f p t m =
    written-none (slots_of before) before word (decimal n ∷ []) refl
    (ap (λ (fs : List (List Field)). forms_fault fs (decimal n ∷ [])) f
    ∙ one_form (NumberWord low high ∷ []) (decimal n ∷ []) (number_within low high n small h)) p t m

pub limits-follow : (l : Limits) (lines : List (List (List ℕ))) → are_valid_limits l ≡ true
    → Follow (limits_before l) lines → Follow [] (limits_words l ++ lines)
limits-follow l lines h f =
    let p = and_parts (is_within 1 64 l.slots && is_within 1 4000 l.rows) (is_within 1 500000 l.budget) h in
    let q = and_parts (is_within 1 64 l.slots) (is_within 1 4000 l.rows) p.0 in
    let one : List (List (List ℕ)) = header_words ∷ [] in
    let two : List (List (List ℕ)) = slots_words l ∷ one in
    let three : List (List (List ℕ)) = rows_words l ∷ two in (
      refl,
      λ e. absurd cc,
      (
        words-none one sort.Header (codes "slots") (decimal l.slots ∷ []) first.Slots refl refl refl
            (limit_fault one first.Slots 1 64 l.slots (omega arith) q.0 refl refl refl refl),
        λ e. absurd cc,
        (
          words-none two sort.Slots (codes "rows") (decimal l.rows ∷ []) first.Rows refl refl refl
              (limit_fault two first.Rows 1 4000 l.rows (omega arith) q.1 refl refl refl refl),
          λ e. absurd cc,
          (
            words-none three sort.Rows (codes "budget") (decimal l.budget ∷ []) first.Budget refl refl refl
                (limit_fault three first.Budget 1 500000 l.budget (omega arith) p.1 refl refl refl refl),
            λ e. absurd cc,
            f,
          ),
        ),
      ),
    )

-- a module's line
module_fault : (m : Module) (slots pages lines : ℕ) (modules programs : List (List ℕ))
    (before : List (List (List ℕ))) (last : Sort) → Met slots modules programs pages lines before
    → last_sort before ≡ Some last → place_fault last sort.Module ≡ None → is_valid_module m ≡ true
    → is_among m.name modules ≡ false → length modules < 8 → words_fault before (module_words m) ≡ None
module_fault m slots pages lines modules programs before last met l place h new few =
    let p = and_parts (is_name m.name && is_within 1 8 m.size) (nat_le (m.base + m.size) 1024) h in
    let q = and_parts (is_name m.name) (is_within 1 8 m.size) p.0 in
    let r = and_parts (nat_le 1 m.size) (nat_le m.size 8) q.1 in
    let most : m.base + m.size ≤ 1024 = leb-true (m.base + m.size) 1024 p.1 in
    let some : 1 ≤ m.size = leb-true 1 m.size r.0 in
    let eight : m.size ≤ 8 = leb-true m.size 8 r.1 in
    let ws : List (List ℕ) = m.name ∷ decimal m.base ∷ decimal m.size ∷ [] in
    let base = number_good 0 1023 m.base (omega arith) (omega arith) (omega arith) in
    let size = number_good 1 8 m.size some eight (omega arith) in
    words-none before last (codes "module") ws first.Module l refl place
    (written-none slots before first.Module ws met.slots_met
    (one_form (NameWord ∷ NumberWord 0 1023 ∷ NumberWord 1 8 ∷ []) ws (rw (name_good m.name q.0, base, size) refl))
    (rw (
      value_of-decimal m.base (omega arith),
      value_of-decimal m.size (omega arith),
      le-ltb 1024 (m.base + m.size) most,
    )
    refl)
    (rw (met.modules_met, new) refl)
    (rw met.modules_counted (lt-leb 8 (length modules) few)))

met-module : (m : Module) (slots pages lines : ℕ) (modules programs : List (List ℕ)) (before : List (List (List ℕ)))
    → Met slots modules programs pages lines before
    → Met slots (m.name ∷ modules) programs pages lines (module_words m ∷ before)
met-module m slots pages lines modules programs before met = record {
  slots_met = met.slots_met;
  modules_met = ap (λ (names : List (List ℕ)). m.name ∷ names) met.modules_met;
  modules_counted = ap suc met.modules_counted;
  programs_met = met.programs_met;
  programs_counted = met.programs_counted;
  pages_counted = met.pages_counted;
  lines_counted = met.lines_counted;
}

-- the lines of modules
pub modules-follow : (ms : List Module) (slots : ℕ) (known : List (List ℕ)) (before lines : List (List (List ℕ)))
    (last : Sort) → Met slots known [] 0 0 before → last_sort before ≡ Some last
    → place_fault last sort.Module ≡ None → place_fault last sort.Occupy ≡ None
    → place_fault last sort.Program ≡ None → is_sort sort.Instruction last ≡ false
    → list_all is_valid_module ms ≡ true → AreNew (module_names ms) known → length known + length ms ≤ 8
    → ((names : List (List ℕ)) (b : List (List (List ℕ))) (s : Sort) → Met slots names [] 0 0 b
    → last_sort b ≡ Some s → place_fault s sort.Occupy ≡ None → place_fault s sort.Program ≡ None
    → is_sort sort.Instruction s ≡ false → Follow b lines)
    → Follow before (map module_words ms ++ lines)
modules-follow [] slots known before lines last met l m o p i h new few and_then =
    and_then known before last met l o p i
modules-follow (x ∷ ms) slots known before lines last met l m o p i h new few and_then =
    let q = and_parts (is_valid_module x) (list_all is_valid_module ms) h in
    let all : length (x ∷ ms) ≡ suc (length ms) = refl in (
      module_fault x slots 0 0 known [] before last met l m q.0 new.0 (omega (arith, few, all)),
      λ e. absurd cc,
      modules-follow ms slots (x.name ∷ known) (module_words x ∷ before) lines sort.Module
          (met-module x slots 0 0 known [] before met) refl refl refl refl refl q.1 new.1
          (omega (arith, few, all)) and_then,
    )

-- an occupied page's line
page_fault : (o : OccupiedPage) (slots pages lines : ℕ) (modules programs : List (List ℕ))
    (before : List (List (List ℕ))) (last : Sort) → Met slots modules programs pages lines before
    → last_sort before ≡ Some last → place_fault last sort.Occupy ≡ None → is_valid_page o ≡ true
    → pages < 64 → words_fault before (occupied_words o) ≡ None
page_fault o slots pages lines modules programs before last met l place h few =
    let p = and_parts (is_within 1 500000 o.creation) (nat_lt o.page 1024) h in
    let q = and_parts (nat_le 1 o.creation) (nat_le o.creation 500000) p.0 in
    let some : 1 ≤ o.creation = leb-true 1 o.creation q.0 in
    let most : o.creation ≤ 500000 = leb-true o.creation 500000 q.1 in
    let page : o.page < 1024 = ltb-true o.page 1024 p.1 in
    let ws : List (List ℕ) = decimal o.creation ∷ decimal o.page ∷ [] in
    words-none before last (codes "occupy") ws first.Occupy l refl place
    (written-none slots before first.Occupy ws met.slots_met
    (one_form (NumberWord 1 500000 ∷ NumberWord 0 1023 ∷ []) ws
    (rw (
      number_good 1 500000 o.creation some most (omega arith),
      number_good 0 1023 o.page (omega arith) (omega arith) (omega arith),
    ) refl))
    refl refl (rw met.pages_counted (lt-leb 64 pages few)))

met-page : (o : OccupiedPage) (slots pages lines : ℕ) (modules programs : List (List ℕ))
    (before : List (List (List ℕ))) → Met slots modules programs pages lines before
    → Met slots modules programs (suc pages) lines (occupied_words o ∷ before)
met-page o slots pages lines modules programs before met = record {
  slots_met = met.slots_met;
  modules_met = met.modules_met;
  modules_counted = met.modules_counted;
  programs_met = met.programs_met;
  programs_counted = met.programs_counted;
  pages_counted = ap suc met.pages_counted;
  lines_counted = met.lines_counted;
}

-- the lines of occupied pages
pub pages-follow : (os : List OccupiedPage) (slots pages : ℕ) (modules : List (List ℕ))
    (before lines : List (List (List ℕ))) (last : Sort) → Met slots modules [] pages 0 before
    → last_sort before ≡ Some last → place_fault last sort.Occupy ≡ None → place_fault last sort.Program ≡ None
    → is_sort sort.Instruction last ≡ false → list_all is_valid_page os ≡ true → pages + length os ≤ 64
    → ((n : ℕ) (b : List (List (List ℕ))) (s : Sort) → Met slots modules [] n 0 b → last_sort b ≡ Some s
    → place_fault s sort.Program ≡ None → is_sort sort.Instruction s ≡ false → Follow b lines)
    → Follow before (map occupied_words os ++ lines)
pages-follow [] slots pages modules before lines last met l o p i h few and_then = and_then pages before last met l p i
pages-follow (x ∷ os) slots pages modules before lines last met l o p i h few and_then =
    let q = and_parts (is_valid_page x) (list_all is_valid_page os) h in
    let all : length (x ∷ os) ≡ suc (length os) = refl in (
      page_fault x slots pages 0 modules [] before last met l o q.0 (omega (arith, few, all)),
      λ e. absurd cc,
      pages-follow os slots (suc pages) modules (occupied_words x ∷ before) lines sort.Occupy
          (met-page x slots pages 0 modules [] before met) refl refl refl refl q.1 (omega (arith, few, all)) and_then,
    )
