-- What holds of an instruction's words by its first word.
use Rattle.std.proofs.Common.{◌≡◌, ℕ, true, List, [], ◌∷◌, Option, Some, None, sym, ap, ◌∙◌}
use Rattle.std.specs.Prelude.{option_map, Result, Ok, Err, IfOk}
use Rattle.std.specs.List.{list_all}
use Rattle.std.specs.Result.{IsErrAnd}
use Rattle.w32_base.specs.Targets.{is_target_below}
use Rattle.w32_base.specs.declared.instr.Instr.{Instr}
use Rattle.script_spec.specs.declared.fault.InstrWord.{InstrWord}
use Rattle.script_spec.specs.declared.fault.Kind.{Kind}
use Rattle.script_spec.specs.FirstWords.{instr_word_text}
use Rattle.script_spec.specs.Forms.{forms_fault, instr_forms, kept_form, place_as}
use Rattle.script_spec.specs.InstrText.{instr_words}
use Rattle.script_spec.specs.Validity.{is_valid_instr}
use Rattle.cyg_script.specs.Instructions.{clamped, place_named, IsRead}
use Rattle.cyg_script.specs.Results.{fault_in}
use Rattle.cyg_script.proofs.Forms.{is_placeless}
use Rattle.cyg_script.proofs.Choices.{placeless_forms}

-- the place that the words after a first word name
abbrev pub place_by : InstrWord → List (List ℕ) → Option ℕ
place_by w ws = option_map clamped (place_as ws (kept_form (instr_forms w) ws))

-- ---- the words after the first word have a fault

pub err_fault : (r : Result Instr Kind) (w v : InstrWord) (ws : List (List ℕ)) (e : Kind) → w ≡ v
    → IsErrAnd r (λ (k : Kind). k ≡ e)
    → Some e ≡ forms_fault (instr_forms v) ws → fault_in r ≡ forms_fault (instr_forms w) ws
err_fault (Ok i) w v ws e is h f = absurd h
err_fault (Err k) w v ws e is h f =
    ap (λ (x : Kind). Some x) h ∙ f ∙ ap (λ (x : InstrWord). forms_fault (instr_forms x) ws) (sym is)

-- ---- they have none

pub fault_done : (w v : InstrWord) (ws : List (List ℕ)) → w ≡ v → None ≡ forms_fault (instr_forms v) ws → None
    ≡ forms_fault (instr_forms w) ws
fault_done w v ws is f = f ∙ ap (λ (x : InstrWord). forms_fault (instr_forms x) ws) (sym is)

pub place_done : (w v : InstrWord) (ws : List (List ℕ)) → w ≡ v → list_all is_placeless (instr_forms v) ≡ true
    → place_by w ws ≡ None
place_done w v ws is h =
    ap (λ (x : InstrWord). place_by x ws) is ∙ ap (λ (p : Option ℕ). option_map clamped p)
    (placeless_forms (instr_forms v) ws h)

pub named_done : (w v : InstrWord) (ws : List (List ℕ)) (p : ℕ) → w ≡ v → place_by v ws ≡ Some p → place_by w ws
    ≡ Some p
named_done w v ws p is h = ap (λ (x : InstrWord). place_by x ws) is ∙ h

pub text_done : (w v : InstrWord) (ws vs : List (List ℕ)) → w ≡ v → ws ≡ vs → instr_word_text w ∷ ws
    ≡ instr_word_text v ∷ vs
text_done w v ws vs is h =
    ap (λ (x : InstrWord). instr_word_text x ∷ ws) is ∙ ap (λ (xs : List (List ℕ)). instr_word_text v ∷ xs) h

-- ---- what another function read

pub fault_by : (r : Result Instr Kind) (w v : InstrWord) (ws : List (List ℕ)) → w ≡ v → fault_in r
    ≡ forms_fault (instr_forms v) ws
    → fault_in r ≡ forms_fault (instr_forms w) ws
fault_by r w v ws is f = f ∙ ap (λ (x : InstrWord). forms_fault (instr_forms x) ws) (sym is)

pub alone_place : (r : Result Instr Kind) (w v : InstrWord) (ws : List (List ℕ)) (i : Instr) → w ≡ v
    → list_all is_placeless (instr_forms v) ≡ true → place_named i ≡ None → IfOk r (λ (j : Instr). (j ≡ i) × (ws ≡ []))
    → IfOk r (λ (j : Instr). place_by w ws ≡ place_named j)
alone_place (Ok j) w v ws i is h n k = place_done w v ws is h ∙ sym (ap place_named k.0 ∙ n)
alone_place (Err e) w v ws i is h n k = tt

pub alone_text : (r : Result Instr Kind) (w v : InstrWord) (ws : List (List ℕ)) (i : Instr) → w ≡ v
    → instr_word_text v ∷ [] ≡ instr_words i → IfOk r (λ (j : Instr). (j ≡ i) × (ws ≡ []))
    → IfOk r (λ (j : Instr). is_target_below 65535 j ≡ true → instr_word_text w ∷ ws ≡ instr_words j)
alone_text (Ok j) w v ws i is t k = λ below. text_done w v ws [] is k.1 ∙ t ∙ ap instr_words (sym k.0)
alone_text (Err e) w v ws i is t k = tt

pub alone_valid : (r : Result Instr Kind) (ws : List (List ℕ)) (i : Instr) → is_valid_instr i ≡ true
    → IfOk r (λ (j : Instr). (j ≡ i) × (ws ≡ [])) → IfOk r (λ (j : Instr). is_valid_instr j ≡ true)
alone_valid (Ok j) ws i v k = ap is_valid_instr k.0 ∙ v
alone_valid (Err e) ws i v k = tt

pub read_place : (r : Result Instr Kind) (w v : InstrWord) (ws : List (List ℕ)) → w ≡ v → IfOk r (IsRead v ws)
    → IfOk r (λ (j : Instr). place_by w ws ≡ place_named j)
read_place (Ok j) w v ws is h = ap (λ (x : InstrWord). place_by x ws) is ∙ h.0
read_place (Err e) w v ws is h = tt

pub read_text : (r : Result Instr Kind) (w v : InstrWord) (ws : List (List ℕ)) → w ≡ v → IfOk r (IsRead v ws)
    → IfOk r (λ (j : Instr). is_target_below 65535 j ≡ true → instr_word_text w ∷ ws ≡ instr_words j)
read_text (Ok j) w v ws is h = λ below. ap (λ (x : InstrWord). instr_word_text x ∷ ws) is ∙ h.1 below
read_text (Err e) w v ws is h = tt
