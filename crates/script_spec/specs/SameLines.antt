-- Lines of the same words are of the same parts of a script.
use Rattle.std.proofs.Common.{◌≡◌, ℕ, ◌+◌, ◌≤◌, ◌<◌, Bool, true, false, ◌&&◌, not, nat_le, nat_lt, List, [], ◌∷◌}
use Rattle.std.proofs.Common.{◌++◌, map, length, Some, refl, sym, ap, ◌∙◌, arith}
use Rattle.std.specs.Prelude.{option_map}
use Rattle.std.specs.Fmt.{decimal}
use Rattle.std.specs.List.{list_all}
use Rattle.std.proofs.lemmas.Bool.{and_parts, and_from, leb-true, ltb-true, lt-ltb, not_from_false}
use Rattle.w32_base.specs.Name.{is_name}
use Rattle.w32_base.specs.Targets.{is_target_below, are_targets_below}
use Rattle.w32_base.specs.declared.entry.Directive.TheVariants as directive
use Rattle.w32_base.specs.declared.instr.Action.TheVariants as action
use Rattle.w32_base.specs.declared.instr.Instr.{Instr}
use Rattle.w32_base.specs.declared.instr.Instr.TheVariants as instr
use Rattle.w32_base.specs.declared.setup.Module.{Module}
use Rattle.w32_base.specs.declared.setup.Program.{Program}
use Rattle.script_spec.specs.declared.fault.DirectiveWord.{DirectiveWord}
use Rattle.script_spec.specs.declared.fault.DirectiveWord.TheVariants as sword
use Rattle.script_spec.specs.declared.fault.FirstWord.TheVariants as first
use Rattle.script_spec.specs.declared.fault.Sort.{Sort}
use Rattle.script_spec.specs.declared.fault.Sort.TheVariants as sort
use Rattle.script_spec.specs.declared.script.OccupiedPage.{OccupiedPage}
use Rattle.script_spec.specs.declared.script.ScheduleLine.{ScheduleLine}
use Rattle.script_spec.specs.declared.script.ScheduleLine.TheVariants as line
use Rattle.script_spec.specs.FirstWords.{first_word, sort_of_words, sort_of, instr_word_text}
use Rattle.script_spec.specs.Places.{has_sort}
use Rattle.script_spec.specs.InstrText.{instr_words}
use Rattle.script_spec.specs.Print.{module_words, occupied_words, program_words, program_lines, key_text}
use Rattle.script_spec.specs.Print.{schedule_words}
use Rattle.script_spec.specs.Validity.{is_within, is_valid_instr, is_valid_module, is_valid_page, is_valid_program}
use Rattle.script_spec.specs.Validity.{is_valid_line}
use Rattle.script_spec.specs.OneWordLaws.{same_number, same_key}
use Rattle.script_spec.specs.OneInstrLaws.{is_sound_instr}
use Rattle.script_spec.specs.FirstWordLaws.{first_word-known}
use Rattle.script_spec.specs.Spelled.{head_of, instr_in}
use Rattle.script_spec.specs.SpelledLaws.{instr_spells}
use Rattle.script_spec.specs.SameParts.{same_module, same_page, same_program}

-- instructions
pub same_instr : (i j : Instr) → is_sound_instr i ≡ true → is_sound_instr j ≡ true
    → instr_words i ≡ instr_words j → i ≡ j
same_instr i j h k e =
    let p = and_parts (is_valid_instr i) (is_target_below 4000 i) h in
    let q = and_parts (is_valid_instr j) (is_target_below 4000 j) k in
    let a = instr_spells 4000 i (omega arith) p.0 p.1 in
    let b = instr_spells 4000 j (omega arith) q.0 q.1 in
    let all : ◌≡◌ {A = List (List ℕ)} (instr_word_text a.word ∷ a.others) (instr_word_text b.word ∷ b.others) =
    sym a.words ∙ e ∙ b.words in
    let text : instr_word_text a.word ≡ instr_word_text b.word = cc in
    let others : a.others ≡ b.others = cc in
    let known : Some (first.Instr a.word) ≡ Some (first.Instr b.word) =
    sym (first_word-known (first.Instr a.word)) ∙ ap first_word text ∙ first_word-known (first.Instr b.word) in
    let word : a.word ≡ b.word = cc in
    sym a.back ∙ ap (λ w. instr_in w a.others) word ∙ ap (λ (ws : List (List ℕ)). instr_in b.word ws) others ∙ b.back

instr_is_line : (i : Instr) → is_sound_instr i ≡ true → has_sort sort.Instruction (sort_of_words (instr_words i)) ≡ true
instr_is_line i h =
    let p = and_parts (is_valid_instr i) (is_target_below 4000 i) h in
    let a = instr_spells 4000 i (omega arith) p.0 p.1 in
    ap (λ (ws : List (List ℕ)). has_sort sort.Instruction (sort_of_words ws)) a.words
    ∙ ap (λ f. has_sort sort.Instruction (option_map sort_of f)) (first_word-known (first.Instr a.word))

-- lines of one sort, and others after them
abbrev pub is_of : Sort → List (List ℕ) → Bool
is_of s ws = has_sort s (sort_of_words ws)

abbrev pub starts_other : Sort → List (List (List ℕ)) → Bool
starts_other s [] = true
starts_other s (ws ∷ lines) = not (is_of s ws)

module _ {A : Type 0} (f : A → List (List ℕ)) (valid : A → Bool) (s : Sort)
    (same : (x y : A) → valid x ≡ true → valid y ≡ true → f x ≡ f y → x ≡ y)
    (is : (x : A) → valid x ≡ true → is_of s (f x) ≡ true) where
  pub same_front : (xs ys : List A) (more other : List (List (List ℕ))) → list_all valid xs ≡ true
      → list_all valid ys ≡ true → starts_other s more ≡ true → starts_other s other ≡ true
      → map f xs ++ more ≡ map f ys ++ other → (xs ≡ ys) × (more ≡ other)
  same_front [] [] more other h k m o e = (refl, e)
  same_front [] (y ∷ ys) more other h k m o e =
      let q = and_parts (valid y) (list_all valid ys) k in
      let a : not (is_of s (f y)) ≡ true = rw e at m in
      absurd (let b : false ≡ true = rw (is y q.0) at a in cc)
  same_front (x ∷ xs) [] more other h k m o e =
      let p = and_parts (valid x) (list_all valid xs) h in
      let a : not (is_of s (f x)) ≡ true = rw (sym e) at o in
      absurd (let b : false ≡ true = rw (is x p.0) at a in cc)
  same_front (x ∷ xs) (y ∷ ys) more other h k m o e =
      let p = and_parts (valid x) (list_all valid xs) h in
      let q = and_parts (valid y) (list_all valid ys) k in
      let all : ◌≡◌ {A = List (List (List ℕ))} (f x ∷ (map f xs ++ more)) (f y ∷ (map f ys ++ other)) = e in
      let one : f x ≡ f y = cc in
      let others : map f xs ++ more ≡ map f ys ++ other = cc in
      let first : x ≡ y = same x y p.0 q.0 one in
      let r = same_front xs ys more other p.1 q.1 m o others in
      let front : ◌≡◌ {A = List A} (x ∷ xs) (y ∷ ys) = let t : xs ≡ ys = r.0 in cc in
      (front, r.1)

  pub other_front : (t : Sort) → ((x : A) → valid x ≡ true → is_of t (f x) ≡ false) → (xs : List A)
      (more : List (List (List ℕ))) → list_all valid xs ≡ true → starts_other t more ≡ true
      → starts_other t (map f xs ++ more) ≡ true
  other_front t not_is [] more h m = m
  other_front t not_is (x ∷ xs) more h m =
      not_from_false (is_of t (f x)) (not_is x (and_parts (valid x) (list_all valid xs) h).0)

-- modules, pages and the lines of the schedule
number_same : (low high m n : ℕ) → high ≤ 500000 → is_within low high m ≡ true → is_within low high n ≡ true
    → decimal m ≡ decimal n → m ≡ n
number_same low high m n most h k e =
    let a : m ≤ high = leb-true m high (and_parts (nat_le low m) (nat_le m high) h).1 in
    let b : n ≤ high = leb-true n high (and_parts (nat_le low n) (nat_le n high) k).1 in
    same_number m n (omega arith) (omega arith) e

pub module_same : (m n : Module) → is_valid_module m ≡ true → is_valid_module n ≡ true → module_words m ≡ module_words n
    → m ≡ n
module_same m n h k e =
    let p = and_parts (is_name m.name && is_within 1 8 m.size) (nat_le (m.base + m.size) 1024) h in
    let q = and_parts (is_name n.name && is_within 1 8 n.size) (nat_le (n.base + n.size) 1024) k in
    let a : m.base + m.size ≤ 1024 = leb-true (m.base + m.size) 1024 p.1 in
    let b : n.base + n.size ≤ 1024 = leb-true (n.base + n.size) 1024 q.1 in
    let base : decimal m.base ≡ decimal n.base = cc in
    let size : decimal m.size ≡ decimal n.size = cc in
    let name : m.name ≡ n.name = cc in
    same_module m n name (same_number m.base n.base (omega arith) (omega arith) base)
    (same_number m.size n.size (omega arith) (omega arith) size)

pub page_same : (o p : OccupiedPage) → is_valid_page o ≡ true → is_valid_page p ≡ true
    → occupied_words o ≡ occupied_words p → o ≡ p
page_same o p h k e =
    let u = and_parts (is_within 1 500000 o.creation) (nat_lt o.page 1024) h in
    let v = and_parts (is_within 1 500000 p.creation) (nat_lt p.page 1024) k in
    let a : o.page < 1024 = ltb-true o.page 1024 u.1 in
    let b : p.page < 1024 = ltb-true p.page 1024 v.1 in
    let creation : decimal o.creation ≡ decimal p.creation = cc in
    let page : decimal o.page ≡ decimal p.page = cc in
    same_page o p (number_same 1 500000 o.creation p.creation (omega arith) u.0 v.0 creation)
    (same_number o.page p.page (omega arith) (omega arith) page)

turn_same : (slots a b c d : ℕ) → slots ≤ 64 → (nat_le a slots && nat_le b 2) ≡ true
    → (nat_le c slots && nat_le d 2) ≡ true → decimal a ≡ decimal c → decimal b ≡ decimal d
    → line.Given (directive.Turn a b) ≡ line.Given (directive.Turn c d)
turn_same slots a b c d few h k e f =
    let p = and_parts (nat_le a slots) (nat_le b 2) h in
    let q = and_parts (nat_le c slots) (nat_le d 2) k in
    let a_is : a ≤ slots = leb-true a slots p.0 in
    let c_is : c ≤ slots = leb-true c slots q.0 in
    let b_is : b ≤ 2 = leb-true b 2 p.1 in
    let d_is : d ≤ 2 = leb-true d 2 q.1 in
    let g : a ≡ c = same_number a c (omega arith) (omega arith) e in
    let l : b ≡ d = same_number b d (omega arith) (omega arith) f in
    cc

end_same : (slots a c : ℕ) → slots ≤ 64 → (nat_le 1 a && nat_le a slots && true) ≡ true
    → (nat_le 1 c && nat_le c slots && true) ≡ true → decimal a ≡ decimal c
    → line.Given (directive.End a) ≡ line.Given (directive.End c)
end_same slots a c few h k e =
    ap (λ (n : ℕ). line.Given (directive.End n))
    (number_same 1 slots a c (omega arith) (and_parts (nat_le 1 a && nat_le a slots) true h).0
    (and_parts (nat_le 1 c && nat_le c slots) true k).0 e)

abbrev word_of : ScheduleLine → DirectiveWord
word_of (line.Given (directive.Turn slot thread)) = sword.Turn
word_of (line.Given (directive.End slot)) = sword.End
word_of (line.Given (directive.Key b)) = sword.Key
word_of (line.Steps turns) = sword.Steps
word_of line.Settle = sword.Settle

word_known : (x : ScheduleLine) → first_word (head_of (schedule_words x)) ≡ Some (first.Directive (word_of x))
word_known (line.Given (directive.Turn slot thread)) = refl
word_known (line.Given (directive.End slot)) = refl
word_known (line.Given (directive.Key b)) = refl
word_known (line.Steps turns) = refl
word_known line.Settle = refl

same_word : (x y : ScheduleLine) → schedule_words x ≡ schedule_words y → word_of x ≡ word_of y
same_word x y e =
    let f : Some (first.Directive (word_of x)) ≡ Some (first.Directive (word_of y)) =
    sym (word_known x) ∙ ap (λ (ws : List (List ℕ)). first_word (head_of ws)) e ∙ word_known y in
    cc

line_as : (slots : ℕ) → slots ≤ 64 → (x y : ScheduleLine) → word_of x ≡ word_of y → is_valid_line slots x ≡ true
    → is_valid_line slots y ≡ true → schedule_words x ≡ schedule_words y → x ≡ y
line_as slots few (line.Given (directive.Turn a b)) (line.Given (directive.Turn c d)) w h k e =
    let f : decimal a ≡ decimal c = cc in
    let g : decimal b ≡ decimal d = cc in
    turn_same slots a b c d few h k f g
line_as slots few (line.Given (directive.End a)) (line.Given (directive.End c)) w h k e =
    let f : decimal a ≡ decimal c = cc in end_same slots a c few h k f
line_as slots few (line.Given (directive.Key a)) (line.Given (directive.Key c)) w h k e =
    let f : key_text a ≡ key_text c = cc in
    ap (λ (n : ℕ). line.Given (directive.Key n)) (same_key a c (leb-true a 255 h) (leb-true c 255 k) f)
line_as slots few (line.Steps a) (line.Steps c) w h k e =
    let f : decimal a ≡ decimal c = cc in ap line.Steps (number_same 1 500000 a c (omega arith) h k f)
line_as slots few line.Settle line.Settle w h k e = refl
line_as slots few (line.Given (directive.Turn a b)) (line.Given (directive.End c)) w _ _ _ = absurd cc
line_as slots few (line.Given (directive.Turn a b)) (line.Given (directive.Key c)) w _ _ _ = absurd cc
line_as slots few (line.Given (directive.Turn a b)) (line.Steps c) w _ _ _ = absurd cc
line_as slots few (line.Given (directive.Turn a b)) line.Settle w _ _ _ = absurd cc
line_as slots few (line.Given (directive.End a)) (line.Given (directive.Turn c d)) w _ _ _ = absurd cc
line_as slots few (line.Given (directive.End a)) (line.Given (directive.Key c)) w _ _ _ = absurd cc
line_as slots few (line.Given (directive.End a)) (line.Steps c) w _ _ _ = absurd cc
line_as slots few (line.Given (directive.End a)) line.Settle w _ _ _ = absurd cc
line_as slots few (line.Given (directive.Key a)) (line.Given (directive.Turn c d)) w _ _ _ = absurd cc
line_as slots few (line.Given (directive.Key a)) (line.Given (directive.End c)) w _ _ _ = absurd cc
line_as slots few (line.Given (directive.Key a)) (line.Steps c) w _ _ _ = absurd cc
line_as slots few (line.Given (directive.Key a)) line.Settle w _ _ _ = absurd cc
line_as slots few (line.Steps a) (line.Given (directive.Turn c d)) w _ _ _ = absurd cc
line_as slots few (line.Steps a) (line.Given (directive.End c)) w _ _ _ = absurd cc
line_as slots few (line.Steps a) (line.Given (directive.Key c)) w _ _ _ = absurd cc
line_as slots few (line.Steps a) line.Settle w _ _ _ = absurd cc
line_as slots few line.Settle (line.Given (directive.Turn c d)) w _ _ _ = absurd cc
line_as slots few line.Settle (line.Given (directive.End c)) w _ _ _ = absurd cc
line_as slots few line.Settle (line.Given (directive.Key c)) w _ _ _ = absurd cc
line_as slots few line.Settle (line.Steps c) w _ _ _ = absurd cc

pub line_same : (slots : ℕ) → slots ≤ 64 → (x y : ScheduleLine) → is_valid_line slots x ≡ true
    → is_valid_line slots y ≡ true → schedule_words x ≡ schedule_words y → x ≡ y
line_same slots few x y h k e = line_as slots few x y (same_word x y e) h k e

pub schedule_is : (x : ScheduleLine) → is_of sort.Directive (schedule_words x) ≡ true
schedule_is (line.Given (directive.Turn slot thread)) = refl
schedule_is (line.Given (directive.End slot)) = refl
schedule_is (line.Given (directive.Key b)) = refl
schedule_is (line.Steps turns) = refl
schedule_is line.Settle = refl

-- programs
place_wider : (n m place : ℕ) → n ≤ m → nat_lt place n ≡ true → nat_lt place m ≡ true
place_wider n m place le h = let less : place < n = ltb-true place n h in lt-ltb place m (omega arith)

below_wider : (n m : ℕ) (i : Instr) → n ≤ m → is_target_below n i ≡ true → is_target_below m i ≡ true
below_wider n m (instr.Jump place) le h = place_wider n m place le h
below_wider n m (instr.JumpZero v place) le h = place_wider n m place le h
below_wider n m (instr.JumpNegative v place) le h = place_wider n m place le h
below_wider n m (instr.Action v (action.Handler place restart)) le h = place_wider n m place le h
below_wider n m (instr.Action v action.Default) le h = refl
below_wider n m (instr.Action v action.Ignore) le h = refl
below_wider n m i le h = refl

sound_code : (n : ℕ) (is : List Instr) → n ≤ 4000 → list_all is_valid_instr is ≡ true → are_targets_below n is ≡ true
    → list_all is_sound_instr is ≡ true
sound_code n [] few h t = refl
sound_code n (i ∷ is) few h t =
    let p = and_parts (is_valid_instr i) (list_all is_valid_instr is) h in
    let q = and_parts (is_target_below n i) (are_targets_below n is) t in
    and_from (is_sound_instr i) (list_all is_sound_instr is)
    (and_from (is_valid_instr i) (is_target_below 4000 i) p.0 (below_wider n 4000 i few q.0))
    (sound_code n is few p.1 q.1)

record ProgramParts (p : Program) : Type 0 where
  heap : p.heap ≤ 32768
  stack : p.stack ≤ 32768
  code : list_all is_sound_instr p.code ≡ true

is_valid_program_parts : (p : Program) → is_valid_program p ≡ true → ProgramParts p
is_valid_program_parts p h =
    let n : ℕ = length p.code in
    let a =
    and_parts
    (is_name p.name && nat_le p.heap 32768 && is_within 64 32768 p.stack && is_within 1 4000 n &&
    list_all is_valid_instr p.code) (are_targets_below n p.code) h in
    let b =
    and_parts (is_name p.name && nat_le p.heap 32768 && is_within 64 32768 p.stack && is_within 1 4000 n)
    (list_all is_valid_instr p.code) a.0 in
    let c = and_parts (is_name p.name && nat_le p.heap 32768 && is_within 64 32768 p.stack) (is_within 1 4000 n) b.0 in
    let d = and_parts (is_name p.name && nat_le p.heap 32768) (is_within 64 32768 p.stack) c.0 in
    let e = and_parts (is_name p.name) (nat_le p.heap 32768) d.0 in
    record {
      heap = leb-true p.heap 32768 e.1;
      stack = leb-true p.stack 32768 (and_parts (nat_le 64 p.stack) (nat_le p.stack 32768) d.1).1;
      code = sound_code n p.code (leb-true n 4000 (and_parts (nat_le 1 n) (nat_le n 4000) c.1).1) b.1 a.1;
    }

pub program_same : (p q : Program) (more other : List (List (List ℕ))) → is_valid_program p ≡ true
    → is_valid_program q ≡ true → starts_other sort.Instruction more ≡ true → starts_other sort.Instruction other ≡ true
    → program_lines p ++ more ≡ program_lines q ++ other → (p ≡ q) × (more ≡ other)
program_same p q more other h k m o e =
    let a = is_valid_program_parts p h in
    let b = is_valid_program_parts q k in
    let all : ◌≡◌ {A = List (List (List ℕ))} (program_words p ∷ (map instr_words p.code ++ more))
    (program_words q ∷ (map instr_words q.code ++ other)) = e in
    let own : program_words p ≡ program_words q = cc in
    let code : map instr_words p.code ++ more ≡ map instr_words q.code ++ other = cc in
    let name : p.name ≡ q.name = cc in
    let heap : decimal p.heap ≡ decimal q.heap = cc in
    let stack : decimal p.stack ≡ decimal q.stack = cc in
    let r = same_front instr_words is_sound_instr sort.Instruction same_instr instr_is_line p.code q.code more other
    a.code b.code m o code in (
      same_program p q name (same_number p.heap q.heap (omega (arith, a.heap)) (omega (arith, b.heap)) heap)
          (same_number p.stack q.stack (omega (arith, a.stack)) (omega (arith, b.stack)) stack) r.0,
      r.1,
    )
