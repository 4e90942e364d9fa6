-- Words that keep the form of an instruction spell one.
use Rattle.std.proofs.Common.{◌≡◌, ℕ, true, false, ◌&&◌, not, nat_le, nat_lt, List, [], ◌∷◌}
use Rattle.std.proofs.Common.{Some, None, refl, sym, ap, inl, inr, arith}
use Rattle.std.specs.Fmt.{decimal}
use Rattle.std.proofs.lemmas.Bool.{and_from, cases_Bool, not-false, lt-ltb, leb-false}
use Rattle.w32_base.specs.Names.{is_same}
use Rattle.w32_base.specs.Name.{is_name}
use Rattle.w32_base.specs.Targets.{is_target_below}
use Rattle.script_spec.specs.declared.fault.Kind.TheVariants.{Words}
use Rattle.script_spec.specs.declared.fault.InstrWord.{InstrWord}
use Rattle.script_spec.specs.Numbers.{value_of, is_register}
use Rattle.script_spec.specs.Fields.{Field, FixedWord, RegisterWord, ValueWord, PlaceWord, NameWord, field_fault}
use Rattle.script_spec.specs.FirstWords.{instr_word_text}
use Rattle.script_spec.specs.Forms.{instr_forms, form_fault, keeps_form, kept_form, forms_fault, place_as}
use Rattle.script_spec.specs.FirstFault.{is_past}
use Rattle.script_spec.specs.InstrText.{register_text, operand_text, instr_words}
use Rattle.script_spec.specs.Validity.{is_valid_operand, is_valid_instr}
use Rattle.script_spec.specs.LineFaultLaws.{least-none, is_same-true}
use Rattle.script_spec.specs.Spelled.{register_in, operand_in, head_of, word_2, instr_in}
use Rattle.script_spec.specs.WordSpelled.{IsRegister, register_spelled, operand_spelled, number_spelled}
use Rattle.script_spec.specs.WordSpelled.{name_spelled, no_fault_if}

-- the words of a form, each without a fault
pub record IsOne (f : Field) (ws : List (List ℕ)) : Type 0 where
  pub word : List ℕ
  pub words : ws ≡ word ∷ []
  pub good : field_fault f word ≡ None

pub record IsTwo (f g : Field) (ws : List (List ℕ)) : Type 0 where
  pub one : List ℕ
  pub two : List ℕ
  pub words : ws ≡ one ∷ two ∷ []
  pub good_one : field_fault f one ≡ None
  pub good_two : field_fault g two ≡ None

pub none_of : (ws : List (List ℕ)) → form_fault [] ws ≡ None → ws ≡ []
none_of [] h = refl
none_of (w ∷ ws) h = absurd cc

pub one_of : (f : Field) (ws : List (List ℕ)) → form_fault (f ∷ []) ws ≡ None → IsOne f ws
one_of f [] h = absurd cc
one_of f (w ∷ []) h = record { word = w; words = refl; good = (least-none (field_fault f w) None h).0 }
one_of f (w ∷ v ∷ ws) h = absurd (let p = least-none (field_fault f w) (Some Words) h in let e : Some Words ≡ None =
    p.1 in cc)

pub two_of : (f g : Field) (ws : List (List ℕ)) → form_fault (f ∷ g ∷ []) ws ≡ None → IsTwo f g ws
two_of f g [] h = absurd cc
two_of f g (w ∷ ws) h =
    let p = least-none (field_fault f w) (form_fault (g ∷ []) ws) h in
    let o = one_of g ws p.1 in
    record {
      one = w;
      two = o.word;
      words = ap (λ (vs : List (List ℕ)). w ∷ vs) o.words;
      good_one = p.0;
      good_two = o.good;
    }

-- the words keep a form of those, without a fault
pub alone : (f : List Field) (ws : List (List ℕ)) → forms_fault (f ∷ []) ws ≡ None → form_fault f ws ≡ None
alone f ws h =
    elim (cases_Bool (keeps_form (form_fault f ws))) [
      | inl t ↦ rw t at h
      | inr t ↦ absurd (let e : Some Words ≡ None = rw t at h in cc)
    ]

-- what the words spell: a valid instruction with these words
pub record SpellsInstr (w : InstrWord) (ws : List (List ℕ)) : Type 0 where
  pub words : instr_words (instr_in w ws) ≡ instr_word_text w ∷ ws
  pub valid : is_valid_instr (instr_in w ws) ≡ true
  pub below : (n : ℕ) → is_past n (place_as ws (kept_form (instr_forms w) ws)) ≡ false
      → is_target_below n (instr_in w ws) ≡ true

register_word : (w : List ℕ) → field_fault RegisterWord w ≡ None → IsRegister w
register_word w h = register_spelled w (not-false (is_register w) (no_fault_if (not (is_register w)) Words h))

pub place_word : (w : List ℕ) → field_fault PlaceWord w ≡ None → decimal (value_of w) ≡ w
place_word w h = (number_spelled 0 18446744073709551615 w (omega arith) h).text

pub fixed_word : (text w : List ℕ) → field_fault (FixedWord text) w ≡ None → w ≡ text
fixed_word text w h =
    sym (is_same-true text w (not-false (is_same text w) (no_fault_if (not (is_same text w)) Words h)))

pub below_end : (n place : ℕ) → nat_le n place ≡ false → nat_lt place n ≡ true
below_end n place h = lt-ltb place n (leb-false n place h)

pub register_value : (ws : List (List ℕ)) → forms_fault ((RegisterWord ∷ ValueWord ∷ []) ∷ []) ws ≡ None
    → (register_text (register_in (head_of ws)) ∷ operand_text (operand_in (word_2 ws)) ∷ [] ≡ ws)
    × ((nat_lt (register_in (head_of ws)) 8 && is_valid_operand (operand_in (word_2 ws))) ≡ true)
register_value ws h =
    let t = two_of RegisterWord ValueWord ws (alone (RegisterWord ∷ ValueWord ∷ []) ws h) in
    let r = register_word t.one t.good_one in
    let v = operand_spelled t.two t.good_two in
    rw t.words (
      rw (r.text, v.text) refl,
      and_from (nat_lt (register_in t.one) 8) (is_valid_operand (operand_in t.two)) r.valid v.valid,
    )

pub two_values : (ws : List (List ℕ)) → forms_fault ((ValueWord ∷ ValueWord ∷ []) ∷ []) ws ≡ None
    → (operand_text (operand_in (head_of ws)) ∷ operand_text (operand_in (word_2 ws)) ∷ [] ≡ ws)
    × ((is_valid_operand (operand_in (head_of ws)) && is_valid_operand (operand_in (word_2 ws))) ≡ true)
two_values ws h =
    let t = two_of ValueWord ValueWord ws (alone (ValueWord ∷ ValueWord ∷ []) ws h) in
    let u = operand_spelled t.one t.good_one in
    let v = operand_spelled t.two t.good_two in
    let e : operand_text (operand_in t.one) ≡ t.one = u.text in
    let f : operand_text (operand_in t.two) ≡ t.two = v.text in
    rw t.words (
      cc,
      and_from (is_valid_operand (operand_in t.one)) (is_valid_operand (operand_in t.two)) u.valid v.valid,
    )

pub one_value : (ws : List (List ℕ)) → forms_fault ((ValueWord ∷ []) ∷ []) ws ≡ None
    → (operand_text (operand_in (head_of ws)) ∷ [] ≡ ws) × (is_valid_operand (operand_in (head_of ws)) ≡ true)
one_value ws h =
    let o = one_of ValueWord ws (alone (ValueWord ∷ []) ws h) in
    let v = operand_spelled o.word o.good in
    rw o.words (ap (λ (w : List ℕ). w ∷ []) v.text, v.valid)

pub one_register : (ws : List (List ℕ)) → forms_fault ((RegisterWord ∷ []) ∷ []) ws ≡ None
    → (register_text (register_in (head_of ws)) ∷ [] ≡ ws) × (nat_lt (register_in (head_of ws)) 8 ≡ true)
one_register ws h =
    let o = one_of RegisterWord ws (alone (RegisterWord ∷ []) ws h) in
    let r = register_word o.word o.good in
    rw o.words (ap (λ (w : List ℕ). w ∷ []) r.text, r.valid)

pub one_name : (ws : List (List ℕ)) → forms_fault ((NameWord ∷ []) ∷ []) ws ≡ None
    → (head_of ws ∷ [] ≡ ws) × (is_name (head_of ws) ≡ true)
one_name ws h =
    let o = one_of NameWord ws (alone (NameWord ∷ []) ws h) in rw o.words (refl, name_spelled o.word o.good)

pub one_place : (ws : List (List ℕ)) → forms_fault ((PlaceWord ∷ []) ∷ []) ws ≡ None
    → (decimal (value_of (head_of ws)) ∷ [] ≡ ws)
    × ((n : ℕ) → is_past n (place_as ws (kept_form ((PlaceWord ∷ []) ∷ []) ws)) ≡ false
    → nat_lt (value_of (head_of ws)) n ≡ true)
one_place ws h =
    let f = alone (PlaceWord ∷ []) ws h in
    let o = one_of PlaceWord ws f in
    let text : decimal (value_of o.word) ∷ [] ≡ o.word ∷ [] =
    ap (λ (w : List ℕ). w ∷ []) (place_word o.word o.good) in
    (rw o.words text, λ n p. rw o.words (below_end n (value_of o.word) (rw (f, o.words) at p)))

pub value_place : (ws : List (List ℕ)) → forms_fault ((ValueWord ∷ PlaceWord ∷ []) ∷ []) ws ≡ None
    → (operand_text (operand_in (head_of ws)) ∷ decimal (value_of (word_2 ws)) ∷ [] ≡ ws)
    × (is_valid_operand (operand_in (head_of ws)) ≡ true)
    × ((n : ℕ) → is_past n (place_as ws (kept_form ((ValueWord ∷ PlaceWord ∷ []) ∷ []) ws)) ≡ false
    → nat_lt (value_of (word_2 ws)) n ≡ true)
value_place ws h =
    let f = alone (ValueWord ∷ PlaceWord ∷ []) ws h in
    let t = two_of ValueWord PlaceWord ws f in
    let v = operand_spelled t.one t.good_one in
    let a : operand_text (operand_in t.one) ≡ t.one = v.text in
    let b : decimal (value_of t.two) ≡ t.two = place_word t.two t.good_two in
    let text : ◌≡◌ {A = List (List ℕ)} (operand_text (operand_in t.one) ∷ decimal (value_of t.two) ∷ [])
    (t.one ∷ t.two ∷ []) = cc in
    (rw t.words text, rw t.words v.valid, λ n p. rw t.words (below_end n (value_of t.two) (rw (f, t.words) at p)))
