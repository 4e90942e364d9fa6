-- The words of `mask` and `action` spell a change and an action.
use Rattle.std.proofs.Common.{◌≡◌, ℕ, ◌⊎◌, true, false, List, [], ◌∷◌, Option, Some, None}
use Rattle.std.proofs.Common.{refl, sym, ap, subst, ◌∙◌, inl, inr}
use Rattle.std.specs.Prelude.{codes}
use Rattle.std.specs.Fmt.{decimal}
use Rattle.std.proofs.lemmas.Bool.{cases_Bool}
use Rattle.w32_base.specs.Targets.{is_handler_below}
use Rattle.script_spec.specs.declared.fault.InstrWord.TheVariants as word
use Rattle.script_spec.specs.declared.fault.Kind.TheVariants.{Words}
use Rattle.script_spec.specs.Numbers.{value_of}
use Rattle.script_spec.specs.Fields.{Field, FixedWord, ValueWord, PlaceWord, field_fault}
use Rattle.script_spec.specs.Forms.{instr_forms, form_fault, keeps_form, kept_form, forms_fault, place_as}
use Rattle.script_spec.specs.FirstFault.{is_past}
use Rattle.script_spec.specs.InstrText.{operand_text, action_words, change_text}
use Rattle.script_spec.specs.Validity.{is_valid_operand}
use Rattle.script_spec.specs.LineFaultLaws.{least-none}
use Rattle.script_spec.specs.Spelled.{operand_in, head_of, tail_of, word_2, action_in, change_in}
use Rattle.script_spec.specs.WordSpelled.{IsOperand, operand_spelled}
use Rattle.script_spec.specs.FormSpelled.{two_of, alone}
use Rattle.script_spec.specs.FormSpelled.{fixed_word, place_word}
use Rattle.script_spec.specs.FormSpelled.{below_end}

-- words keep the first of some forms or another one
first_or : (f : List Field) (fs : List (List Field)) (ws : List (List ℕ)) → forms_fault (f ∷ fs) ws ≡ None
    → (form_fault f ws ≡ None) ⊎ ((keeps_form (form_fault f ws) ≡ false) × (forms_fault fs ws ≡ None))
first_or f fs ws h =
    elim (cases_Bool (keeps_form (form_fault f ws))) [
      | inl t ↦ inl (rw t at h)
      | inr t ↦ inr (t, rw t at h)
    ]

-- the change of a mask
abbrev IsMaskOf : List (List ℕ) → Type 0
IsMaskOf ws = (change_text (change_in (head_of ws)) ∷ operand_text (operand_in (word_2 ws)) ∷ [] ≡ ws)
    × (is_valid_operand (operand_in (word_2 ws)) ≡ true)

change_of : (text : List ℕ) (ws : List (List ℕ)) → change_text (change_in text) ≡ text
    → form_fault (FixedWord text ∷ ValueWord ∷ []) ws ≡ None → IsMaskOf ws
change_of text ws back h =
    let t = two_of (FixedWord text) ValueWord ws h in
    let v = operand_spelled t.two t.good_two in
    let is : t.one ≡ text = fixed_word text t.one t.good_one in
    rw t.words (rw (is, back, v.text) refl, v.valid)

pub mask_is : (ws : List (List ℕ)) → forms_fault (instr_forms word.Mask) ws ≡ None → IsMaskOf ws
mask_is ws h =
    let block : List Field = FixedWord (codes "block") ∷ ValueWord ∷ [] in
    let unblock : List Field = FixedWord (codes "unblock") ∷ ValueWord ∷ [] in
    let set : List Field = FixedWord (codes "set") ∷ ValueWord ∷ [] in
    elim (first_or block (unblock ∷ set ∷ []) ws h) [
      | inl f ↦ change_of (codes "block") ws refl f
      | inr p ↦ elim (first_or unblock (set ∷ []) ws p.1) [
        | inl f ↦ change_of (codes "unblock") ws refl f
        | inr q ↦ change_of (codes "set") ws refl (alone set ws q.1)
      ]
    ]

-- an action
abbrev IsActionOf : (ws : List (List ℕ)) → Option (List Field) → Type 0
IsActionOf ws kept = (operand_text (operand_in (head_of ws)) ∷ action_words (action_in (tail_of ws)) ≡ ws)
    × (is_valid_operand (operand_in (head_of ws)) ≡ true)
    × ((n : ℕ) → is_past n (place_as ws kept) ≡ false → is_handler_below n (action_in (tail_of ws)) ≡ true)

default_is : (ws : List (List ℕ)) → form_fault (ValueWord ∷ FixedWord (codes "default") ∷ []) ws ≡ None
    → IsActionOf ws (Some (ValueWord ∷ FixedWord (codes "default") ∷ []))
default_is ws h =
    let t = two_of ValueWord (FixedWord (codes "default")) ws h in
    let v = operand_spelled t.one t.good_one in
    let is : t.two ≡ codes "default" = fixed_word (codes "default") t.two t.good_two in
    let all : ws ≡ t.one ∷ codes "default" ∷ [] = t.words ∙ ap (λ (w : List ℕ). t.one ∷ w ∷ []) is in
    rw all (ap (λ (w : List ℕ). w ∷ codes "default" ∷ []) v.text, v.valid, λ n p. refl)

ignore_is : (ws : List (List ℕ)) → form_fault (ValueWord ∷ FixedWord (codes "ignore") ∷ []) ws ≡ None
    → IsActionOf ws (Some (ValueWord ∷ FixedWord (codes "ignore") ∷ []))
ignore_is ws h =
    let t = two_of ValueWord (FixedWord (codes "ignore")) ws h in
    let v = operand_spelled t.one t.good_one in
    let is : t.two ≡ codes "ignore" = fixed_word (codes "ignore") t.two t.good_two in
    let all : ws ≡ t.one ∷ codes "ignore" ∷ [] = t.words ∙ ap (λ (w : List ℕ). t.one ∷ w ∷ []) is in
    rw all (ap (λ (w : List ℕ). w ∷ codes "ignore" ∷ []) v.text, v.valid, λ n p. refl)

handler_is : (ws : List (List ℕ)) → form_fault (ValueWord ∷ FixedWord (codes "handler") ∷ PlaceWord ∷ []) ws ≡ None
    → IsActionOf ws (Some (ValueWord ∷ FixedWord (codes "handler") ∷ PlaceWord ∷ []))
handler_is [] h = absurd cc
handler_is (w ∷ ws) h =
    let p = least-none (field_fault ValueWord w) (form_fault (FixedWord (codes "handler") ∷ PlaceWord ∷ []) ws) h in
    let t = two_of (FixedWord (codes "handler")) PlaceWord ws p.1 in
    let v = operand_spelled w p.0 in
    let is : t.one ≡ codes "handler" = fixed_word (codes "handler") t.one t.good_one in
    let all : ws ≡ codes "handler" ∷ t.two ∷ [] = t.words ∙ ap (λ (x : List ℕ). x ∷ t.two ∷ []) is in
    let place : decimal (value_of t.two) ≡ t.two = place_word t.two t.good_two in
    rw all (rw (v.text, place) refl, v.valid, λ n p. below_end n (value_of t.two) p)

restart_made : (w p : List ℕ) → IsOperand w → decimal (value_of p) ≡ p
    → IsActionOf (w ∷ codes "handler" ∷ p ∷ codes "restart" ∷ [])
    (Some (ValueWord ∷ FixedWord (codes "handler") ∷ PlaceWord ∷ FixedWord (codes "restart") ∷ []))
restart_made w p v place =
    let text : ◌≡◌ {A = List (List ℕ)}
    (operand_text (operand_in w) ∷ codes "handler" ∷ decimal (value_of p) ∷ codes "restart" ∷ [])
    (w ∷ codes "handler" ∷ p ∷ codes "restart" ∷ []) = rw (v.text, place) refl in
    (text, v.valid, λ n q. below_end n (value_of p) q)

restart_is : (ws : List (List ℕ))
    → form_fault (ValueWord ∷ FixedWord (codes "handler") ∷ PlaceWord ∷ FixedWord (codes "restart") ∷ []) ws ≡ None
    → IsActionOf ws (Some (ValueWord ∷ FixedWord (codes "handler") ∷ PlaceWord ∷ FixedWord (codes "restart") ∷ []))
restart_is [] h = absurd cc
restart_is (w ∷ []) h = absurd (let p = least-none (field_fault ValueWord w) (Some Words) h in
    let e : Some Words ≡ None = p.1 in cc)
restart_is (w ∷ x ∷ ws) h =
    let p = least-none (field_fault ValueWord w)
    (form_fault (FixedWord (codes "handler") ∷ PlaceWord ∷ FixedWord (codes "restart") ∷ []) (x ∷ ws)) h in
    let q = least-none (field_fault (FixedWord (codes "handler")) x)
    (form_fault (PlaceWord ∷ FixedWord (codes "restart") ∷ []) ws) p.1 in
    let t = two_of PlaceWord (FixedWord (codes "restart")) ws q.1 in
    let v = operand_spelled w p.0 in
    let is : x ≡ codes "handler" = fixed_word (codes "handler") x q.0 in
    let end : t.two ≡ codes "restart" = fixed_word (codes "restart") t.two t.good_two in
    let all : ws ≡ t.one ∷ codes "restart" ∷ [] = t.words ∙ ap (λ (y : List ℕ). t.one ∷ y ∷ []) end in
    let place : decimal (value_of t.one) ≡ t.one = place_word t.one t.good_one in
    let whole : w ∷ x ∷ ws ≡ w ∷ codes "handler" ∷ t.one ∷ codes "restart" ∷ [] =
    ap (λ (y : List ℕ). w ∷ y ∷ ws) is ∙ ap (λ (ys : List (List ℕ)). w ∷ codes "handler" ∷ ys) all in
    subst
    (λ (vs : List (List ℕ)).
    IsActionOf vs (Some (ValueWord ∷ FixedWord (codes "handler") ∷ PlaceWord ∷ FixedWord (codes "restart") ∷ [])))
    (sym whole) (restart_made w t.one v place)

-- which form it keeps
chosen : (f : List Field) (fs : List (List Field)) (ws : List (List ℕ)) → form_fault f ws ≡ None
    → kept_form (f ∷ fs) ws ≡ Some f
chosen f fs ws h = rw h refl

passed : (f : List Field) (fs : List (List Field)) (ws : List (List ℕ)) → keeps_form (form_fault f ws) ≡ false
    → kept_form (f ∷ fs) ws ≡ kept_form fs ws
passed f fs ws h = rw h refl

pub action_of : (ws : List (List ℕ)) → forms_fault (instr_forms word.Action) ws ≡ None
    → IsActionOf ws (kept_form (instr_forms word.Action) ws)
action_of ws h =
    let one : List Field = ValueWord ∷ FixedWord (codes "default") ∷ [] in
    let two : List Field = ValueWord ∷ FixedWord (codes "ignore") ∷ [] in
    let three : List Field = ValueWord ∷ FixedWord (codes "handler") ∷ PlaceWord ∷ [] in
    let four : List Field = ValueWord ∷ FixedWord (codes "handler") ∷ PlaceWord ∷ FixedWord (codes "restart") ∷ [] in
    elim (first_or one (two ∷ three ∷ four ∷ []) ws h) [
      | inl f ↦ subst (IsActionOf ws) (sym (chosen one (two ∷ three ∷ four ∷ []) ws f)) (default_is ws f)
      | inr p ↦
          let first = passed one (two ∷ three ∷ four ∷ []) ws p.0 in
          elim (first_or two (three ∷ four ∷ []) ws p.1) [
            | inl f ↦
                subst (IsActionOf ws) (sym (first ∙ chosen two (three ∷ four ∷ []) ws f)) (ignore_is ws f)
            | inr q ↦
                let second = first ∙ passed two (three ∷ four ∷ []) ws q.0 in
                elim (first_or three (four ∷ []) ws q.1) [
                  | inl f ↦ subst (IsActionOf ws) (sym (second ∙ chosen three (four ∷ []) ws f)) (handler_is ws f)
                  | inr r ↦
                      let f = alone four ws r.1 in
                      subst (IsActionOf ws) (sym (second ∙ passed three (four ∷ []) ws r.0 ∙ chosen four [] ws f))
                      (restart_is ws f)
                ]
          ]
    ]
