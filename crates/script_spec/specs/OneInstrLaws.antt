-- What two instructions of one kind and with the same words have in common.
use Rattle.std.proofs.Common.{◌≡◌, ℕ, ◌<◌, Bool, true, false, ◌&&◌, nat_lt, List, [], ◌∷◌}
use Rattle.std.proofs.Common.{refl, ap, ◌∙◌, arith}
use Rattle.std.specs.Fmt.{decimal}
use Rattle.std.proofs.lemmas.Bool.{and_parts, ltb-true}
use Rattle.w32_base.specs.Targets.{is_target_below, is_handler_below}
use Rattle.w32_base.specs.declared.instr.Action.{Action}
use Rattle.w32_base.specs.declared.instr.Action.TheVariants as action
use Rattle.w32_base.specs.declared.instr.Instr.{Instr}
use Rattle.w32_base.specs.declared.instr.MaskChange.{MaskChange}
use Rattle.w32_base.specs.declared.instr.MaskChange.TheVariants as change
use Rattle.w32_base.specs.declared.instr.Operand.{Operand}
use Rattle.script_spec.specs.InstrText.{register_text, operand_text, action_words, change_text}
use Rattle.script_spec.specs.Validity.{is_valid_operand, is_valid_instr}
use Rattle.script_spec.specs.OneWordLaws.{same_number, same_register, same_operand}

abbrev pub head : List (List ℕ) → List ℕ
head [] = []
head (w ∷ ws) = w

-- valid, and of a place that is below 4000
abbrev pub is_sound_instr : Instr → Bool
is_sound_instr i = is_valid_instr i && is_target_below 4000 i

pub same_place : (m n : ℕ) → nat_lt m 4000 ≡ true → nat_lt n 4000 ≡ true → decimal m ≡ decimal n → m ≡ n
same_place m n h k e =
    let a : m < 4000 = ltb-true m 4000 h in let b : n < 4000 =
    ltb-true n 4000 k in same_number m n (omega arith) (omega arith) e

pub two : (f : Operand → Operand → Instr) (u v x y : Operand) → (is_valid_operand u && is_valid_operand v) ≡ true
    → (is_valid_operand x && is_valid_operand y) ≡ true
    → operand_text u ≡ operand_text x → operand_text v ≡ operand_text y → f u v ≡ f x y
two f u v x y h k e g =
    let p = and_parts (is_valid_operand u) (is_valid_operand v) h in
    let q = and_parts (is_valid_operand x) (is_valid_operand y) k in
    ap (λ (o : Operand). f o v) (same_operand u x p.0 q.0 e) ∙ ap (λ (o : Operand). f x o) (same_operand v y p.1 q.1 g)

pub register_value : (f : ℕ → Operand → Instr) (r s : ℕ) (v y : Operand) → (nat_lt r 8 && is_valid_operand v) ≡ true
    → (nat_lt s 8 && is_valid_operand y) ≡ true
    → register_text r ≡ register_text s → operand_text v ≡ operand_text y → f r v ≡ f s y
register_value f r s v y h k e g =
    let p = and_parts (nat_lt r 8) (is_valid_operand v) h in
    let q = and_parts (nat_lt s 8) (is_valid_operand y) k in
    ap (λ (n : ℕ). f n v) (same_register r s e) ∙ ap (λ (o : Operand). f s o) (same_operand v y p.1 q.1 g)

pub one : (f : Operand → Instr) (v y : Operand) → is_valid_operand v ≡ true → is_valid_operand y ≡ true
    → operand_text v ≡ operand_text y → f v ≡ f y
one f v y h k g = ap f (same_operand v y h k g)

pub value_place : (f : Operand → ℕ → Instr) (v y : Operand) (m n : ℕ) → is_valid_operand v ≡ true
    → is_valid_operand y ≡ true → nat_lt m 4000 ≡ true → nat_lt n 4000 ≡ true
    → operand_text v ≡ operand_text y → decimal m ≡ decimal n → f v m ≡ f y n
value_place f v y m n h k hm hn g e = ap (λ (o : Operand). f o m) (same_operand v y h k g) ∙
    ap (λ (p : ℕ). f y p) (same_place m n hm hn e)

pub same_change : (c d : MaskChange) → change_text c ≡ change_text d → c ≡ d
same_change change.Block change.Block e = refl
same_change change.Block change.Unblock e = absurd cc
same_change change.Block change.Set e = absurd cc
same_change change.Unblock change.Block e = absurd cc
same_change change.Unblock change.Unblock e = refl
same_change change.Unblock change.Set e = absurd cc
same_change change.Set change.Block e = absurd cc
same_change change.Set change.Unblock e = absurd cc
same_change change.Set change.Set e = refl

pub same_action : (a b : Action) → is_handler_below 4000 a ≡ true → is_handler_below 4000 b ≡ true
    → action_words a ≡ action_words b → a ≡ b
same_action action.Default action.Default h k e = refl
same_action action.Default action.Ignore h k e = absurd cc
same_action action.Default (action.Handler n true) h k e = absurd cc
same_action action.Default (action.Handler n false) h k e = absurd cc
same_action action.Ignore action.Default h k e = absurd cc
same_action action.Ignore action.Ignore h k e = refl
same_action action.Ignore (action.Handler n true) h k e = absurd cc
same_action action.Ignore (action.Handler n false) h k e = absurd cc
same_action (action.Handler m true) action.Default h k e = absurd cc
same_action (action.Handler m false) action.Default h k e = absurd cc
same_action (action.Handler m true) action.Ignore h k e = absurd cc
same_action (action.Handler m false) action.Ignore h k e = absurd cc
same_action (action.Handler m true) (action.Handler n true) h k e = let d : decimal m ≡ decimal n =
    cc in ap (λ (p : ℕ). action.Handler p true) (same_place m n h k d)
same_action (action.Handler m true) (action.Handler n false) h k e = absurd cc
same_action (action.Handler m false) (action.Handler n true) h k e = absurd cc
same_action (action.Handler m false) (action.Handler n false) h k e = let d : decimal m ≡ decimal n =
    cc in ap (λ (p : ℕ). action.Handler p false) (same_place m n h k d)
