-- The words of `mask`.
use Rattle.std.proofs.Common.{◌≡◌, ℕ, false, List, [], ◌∷◌, Option, Some, None, refl, sym, ap, subst, ◌∙◌}
use Rattle.std.proofs.Common.{inl, inr}
use Rattle.std.specs.Prelude.{codes, option_map, Result, IfOk}
use Rattle.std.proofs.lemmas.Bool.{cases_Bool}
use Rattle.std.proofs.lemmas.Option.{same_Some}
use Rattle.w32_base.specs.Names.{is_same}
use Rattle.w32_base.specs.declared.instr.Instr.{Instr}
use Rattle.w32_base.specs.declared.instr.Instr.TheVariants as instr
use Rattle.w32_base.specs.declared.instr.MaskChange.{MaskChange}
use Rattle.w32_base.specs.declared.instr.MaskChange.TheVariants.{Block, Unblock, Set}
use Rattle.w32_base.specs.declared.instr.Operand.{Operand}
use Rattle.script_spec.specs.declared.fault.InstrWord.{InstrWord}
use Rattle.script_spec.specs.declared.fault.InstrWord.TheVariants as word
use Rattle.script_spec.specs.declared.fault.Kind.{Kind}
use Rattle.script_spec.specs.declared.fault.Kind.TheVariants.{Words}
use Rattle.script_spec.specs.Fields.{Field, FixedWord, ValueWord, field_fault}
use Rattle.script_spec.specs.FirstWords.{with_text}
use Rattle.script_spec.specs.Forms.{form_fault, forms_fault, instr_forms}
use Rattle.script_spec.specs.InstrText.{change_text, operand_text}
use Rattle.cyg_script.specs.Instructions.{clamped, change_of, IsRead}
use Rattle.cyg_script.specs.Words.{two_of}
use Rattle.cyg_script.proofs.Forms.{least_none}
use Rattle.cyg_script.proofs.Choices.{wrong_word, wrong_length, other_word, skip_fault, chosen_fault, placeless_forms}
use Rattle.cyg_script.proofs.Choices.{not_two, same_texts}

-- `mask TEXT V`
abbrev pub form : List ℕ → List Field
form text = FixedWord text ∷ ValueWord ∷ []

other_form : (text w v : List ℕ) → is_same text w ≡ false → form_fault (form text) (w ∷ v ∷ []) ≡ Some Words
other_form text w v h = wrong_word (FixedWord text) (ValueWord ∷ []) w (v ∷ []) (other_word text w h)

none_of : (w v : List ℕ) → is_same (codes "block") w ≡ false → is_same (codes "unblock") w ≡ false
    → is_same (codes "set") w ≡ false
    → forms_fault (instr_forms word.Mask) (w ∷ v ∷ []) ≡ Some Words
none_of w v h k l =
    skip_fault (form (codes "block")) (form (codes "unblock") ∷ form (codes "set") ∷ []) (w ∷ v ∷ [])
    (other_form (codes "block") w v h)
    ∙ skip_fault (form (codes "unblock")) (form (codes "set") ∷ []) (w ∷ v ∷ []) (other_form (codes "unblock") w v k)
    ∙ skip_fault (form (codes "set")) [] (w ∷ v ∷ []) (other_form (codes "set") w v l)

pub known_fault : (c : MaskChange) (v : List ℕ) → forms_fault (instr_forms word.Mask) (change_text c ∷ v ∷ [])
    ≡ field_fault ValueWord v
known_fault Block v =
    chosen_fault (form (codes "block")) (form (codes "unblock") ∷ form (codes "set") ∷ []) (codes "block" ∷ v ∷ []) (
    skip_fault (form (codes "unblock")) (form (codes "set") ∷ []) (codes "block" ∷ v ∷ [])
    (other_form (codes "unblock") (codes "block") v refl)
    ∙ skip_fault (form (codes "set")) [] (codes "block" ∷ v ∷ []) (other_form (codes "set") (codes "block") v refl))
    ∙ least_none (field_fault ValueWord v)
known_fault Unblock v =
    skip_fault (form (codes "block")) (form (codes "unblock") ∷ form (codes "set") ∷ []) (codes "unblock" ∷ v ∷ [])
    (other_form (codes "block") (codes "unblock") v refl)
    ∙ chosen_fault (form (codes "unblock")) (form (codes "set") ∷ []) (codes "unblock" ∷ v ∷ []) (
    skip_fault (form (codes "set")) [] (codes "unblock" ∷ v ∷ []) (other_form (codes "set") (codes "unblock") v refl))
    ∙ least_none (field_fault ValueWord v)
known_fault Set v =
    skip_fault (form (codes "block")) (form (codes "unblock") ∷ form (codes "set") ∷ []) (codes "set" ∷ v ∷ [])
    (other_form (codes "block") (codes "set") v refl)
    ∙ skip_fault (form (codes "unblock")) (form (codes "set") ∷ []) (codes "set" ∷ v ∷ [])
    (other_form (codes "unblock") (codes "set") v refl)
    ∙ chosen_fault (form (codes "set")) [] (codes "set" ∷ v ∷ []) refl
    ∙ least_none (field_fault ValueWord v)

-- a word that is the text of one of some, or of none
found : {W : Type 0} (text_of : W → List ℕ) (ws : List W) (w : List ℕ) (x : W) → Some x ≡ with_text text_of ws w → w
    ≡ text_of x
found text_of [] w x e = absurd cc
found text_of (y ∷ ys) w x e =
    elim (cases_Bool (is_same (text_of y) w)) [
      | inl t ↦ let f : Some x ≡ Some y = rw t at e in sym (same_texts (text_of y) w t)
          ∙ ap text_of (sym (same_Some x y f))
      | inr t ↦ let f : Some x ≡ with_text text_of ys w = rw t at e in found text_of ys w x f
    ]

not_first : {W : Type 0} (text_of : W → List ℕ) (y : W) (ys : List W) (w : List ℕ) → None ≡ with_text text_of (y ∷ ys) w
    → (is_same (text_of y) w ≡ false) × (None ≡ with_text text_of ys w)
not_first text_of y ys w e =
    elim (cases_Bool (is_same (text_of y) w)) [
      | inl t ↦ absurd (let f : None ≡ Some y = rw t at e in cc)
      | inr t ↦ (t, rw t at e)
    ]

pub change_is : (w : List ℕ) (c : MaskChange) → Some c ≡ change_of w → w ≡ change_text c
change_is w c e = found change_text (Block ∷ Unblock ∷ Set ∷ []) w c e

pub no_change : (w v : List ℕ) → None ≡ change_of w → forms_fault (instr_forms word.Mask) (w ∷ v ∷ []) ≡ Some Words
no_change w v e =
    let first = not_first change_text Block (Unblock ∷ Set ∷ []) w e in
    let second = not_first change_text Unblock (Set ∷ []) w first.1 in
    let third = not_first change_text Set [] w second.1 in
    none_of w v first.0 second.0 third.0

pub mask_fault : (w v : List ℕ) (c : MaskChange) → Some c ≡ change_of w → field_fault ValueWord v
    ≡ forms_fault (instr_forms word.Mask) (w ∷ v ∷ [])
mask_fault w v c e = sym (ap (λ (t : List ℕ). forms_fault (instr_forms word.Mask) (t ∷ v ∷ [])) (change_is w c e)
    ∙ known_fault c v)

pub mask_read : (w v : List ℕ) (c : MaskChange) (o : Operand) → Some c ≡ change_of w → v ≡ operand_text o
    → IsRead word.Mask (w ∷ v ∷ []) (instr.Mask c o)
mask_read w v c o e h = (
  ap (λ (p : Option ℕ). option_map clamped p) (placeless_forms (instr_forms word.Mask) (w ∷ v ∷ []) refl),
  λ below. ap (λ (t : List ℕ). codes "mask" ∷ t ∷ v ∷ []) (change_is w c e)
      ∙ ap (λ (t : List ℕ). codes "mask" ∷ change_text c ∷ t ∷ []) h,
)

-- another number of words than two
pub mask_length : (ws : List (List ℕ)) → None ≡ two_of ws → Some Words ≡ forms_fault (instr_forms word.Mask) ws
mask_length ws e =
    sym (skip_fault (form (codes "block")) (form (codes "unblock") ∷ form (codes "set") ∷ []) ws
    (wrong_length (form (codes "block")) ws (not_two (FixedWord (codes "block")) ValueWord ws e))
    ∙ skip_fault (form (codes "unblock")) (form (codes "set") ∷ []) ws
    (wrong_length (form (codes "unblock")) ws (not_two (FixedWord (codes "unblock")) ValueWord ws e))
    ∙ skip_fault (form (codes "set")) [] ws (wrong_length (form (codes "set")) ws
    (not_two (FixedWord (codes "set")) ValueWord ws e)))

-- what is read of words is read of the same words
pub read_along : (r : Result Instr Kind) (w : InstrWord) (ws vs : List (List ℕ)) → vs ≡ ws → IfOk r (IsRead w ws)
    → IfOk r (IsRead w vs)
read_along r w ws vs e h = subst (λ (us : List (List ℕ)). IfOk r (IsRead w us)) (sym e) h
