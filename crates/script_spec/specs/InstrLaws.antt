-- The words of a valid instruction are short and of graphic bytes.
use Rattle.std.proofs.Common.{◌≡◌, ℕ, ◌^◌, ◌≤◌, ◌<◌, Bool, true, false, ◌&&◌, not, nat_eq, nat_le, nat_lt, List, []}
use Rattle.std.proofs.Common.{◌∷◌, length, refl, arith}
use Rattle.std.specs.Prelude.{codes}
use Rattle.std.specs.Fmt.{decimal}
use Rattle.std.specs.List.{list_all}
use Rattle.std.proofs.lemmas.Bool.{and_parts, and_from, ltb-true}
use Rattle.w32_base.specs.Targets.{is_handler_below, is_target_below}
use Rattle.w32_base.specs.declared.instr.Action.{Action}
use Rattle.w32_base.specs.declared.instr.Action.TheVariants as action
use Rattle.w32_base.specs.declared.instr.Instr.{Instr}
use Rattle.w32_base.specs.declared.instr.Instr.TheVariants as instr
use Rattle.w32_base.specs.declared.instr.MaskChange.{MaskChange}
use Rattle.w32_base.specs.declared.instr.MaskChange.TheVariants as change
use Rattle.w32_base.specs.declared.instr.Operand.{Operand}
use Rattle.script_spec.specs.InstrText.{register_text, operand_text, action_words, change_text, instr_words}
use Rattle.script_spec.specs.Validity.{is_valid_operand, is_valid_instr}
use Rattle.script_spec.specs.WordLaws.{is_word, decimal_word, name_word, register_word, operand_word}

abbrev pub are_words : List (List ℕ) → Bool
are_words ws = list_all is_word ws

pub words1 : (a : List ℕ) → is_word a ≡ true → are_words (a ∷ []) ≡ true
words1 a h = and_from (is_word a) true h refl

pub words_more : (a : List ℕ) (ws : List (List ℕ)) → is_word a ≡ true → are_words ws ≡ true → are_words (a ∷ ws) ≡ true
words_more a ws h more = and_from (is_word a) (are_words ws) h more

-- a number in a range that 64 bits hold
pub number_word : (low n high : ℕ) → high < 2 ^ 64 → n ≤ high → is_word (decimal n) ≡ true
number_word low n high small le = decimal_word n (omega arith)

place_word : (most n : ℕ) → most ≤ 4000 → nat_lt n most ≡ true → is_word (decimal n) ≡ true
place_word most n few h = let less : n < most = ltb-true n most h in decimal_word n (omega arith)

two : (u v : Operand) → (is_valid_operand u && is_valid_operand v) ≡ true
    → are_words (operand_text u ∷ operand_text v ∷ []) ≡ true
two u v h = let p = and_parts (is_valid_operand u) (is_valid_operand v) h in
    words_more (operand_text u) (operand_text v ∷ []) (operand_word u p.0)
    (words1 (operand_text v) (operand_word v p.1))

register_value : (r : ℕ) (v : Operand) → (nat_lt r 8 && is_valid_operand v) ≡ true
    → are_words (register_text r ∷ operand_text v ∷ []) ≡ true
register_value r v h = let p = and_parts (nat_lt r 8) (is_valid_operand v) h in
    words_more (register_text r) (operand_text v ∷ []) (register_word r p.0)
    (words1 (operand_text v) (operand_word v p.1))

one : (v : Operand) → is_valid_operand v ≡ true → are_words (operand_text v ∷ []) ≡ true
one v h = words1 (operand_text v) (operand_word v h)

action_good : (a : Action) (most : ℕ) → most ≤ 4000 → is_handler_below most a ≡ true → are_words (action_words a) ≡ true
action_good action.Default most few t = refl
action_good action.Ignore most few t = refl
action_good (action.Handler place true) most few t =
    words_more (decimal place) (codes "restart" ∷ []) (place_word most place few t) refl
action_good (action.Handler place false) most few t = words1 (decimal place) (place_word most place few t)

change_good : (c : MaskChange) (v : Operand) → is_valid_operand v ≡ true
    → are_words (change_text c ∷ operand_text v ∷ []) ≡ true
change_good change.Block v h = one v h
change_good change.Unblock v h = one v h
change_good change.Set v h = one v h

-- each word of a valid instruction is short and of graphic bytes, where the place that it names is one of a program
pub instr_are_words : (i : Instr) (most : ℕ) → most ≤ 4000 → is_valid_instr i ≡ true → is_target_below most i ≡ true
    → are_words (instr_words i) ≡ true
instr_are_words (instr.Set r v) most few h t = register_value r v h
instr_are_words (instr.Add r v) most few h t = register_value r v h
instr_are_words (instr.Load r v) most few h t = register_value r v h
instr_are_words (instr.Store u v) most few h t = two u v h
instr_are_words (instr.Push v) most few h t = one v h
instr_are_words (instr.Pop r) most few h t = words1 (register_text r) (register_word r h)
instr_are_words (instr.Jump n) most few h t = words1 (decimal n) (place_word most n few t)
instr_are_words (instr.JumpZero v n) most few h t =
    words_more (operand_text v) (decimal n ∷ []) (operand_word v h) (words1 (decimal n) (place_word most n few t))
instr_are_words (instr.JumpNegative v n) most few h t =
    words_more (operand_text v) (decimal n ∷ []) (operand_word v h) (words1 (decimal n) (place_word most n few t))
instr_are_words instr.GetPid most few h t = refl
instr_are_words instr.GetPpid most few h t = refl
instr_are_words instr.GetPgid most few h t = refl
instr_are_words instr.GetSid most few h t = refl
instr_are_words instr.Fork most few h t = refl
instr_are_words (instr.Exec name) most few h t = words1 name (name_word name h)
instr_are_words (instr.Exit v) most few h t = one v h
instr_are_words (instr.Wait u v) most few h t = two u v h
instr_are_words (instr.Kill u v) most few h t = two u v h
instr_are_words (instr.Action v a) most few h t =
    words_more (operand_text v) (action_words a) (operand_word v h) (action_good a most few t)
instr_are_words (instr.Mask c v) most few h t = change_good c v h
instr_are_words (instr.Suspend v) most few h t = one v h
instr_are_words instr.Pause most few h t = refl
instr_are_words instr.Return most few h t = refl
instr_are_words (instr.SetPgid u v) most few h t = two u v h
instr_are_words instr.SetSid most few h t = refl
instr_are_words (instr.TcSet v) most few h t = one v h
instr_are_words instr.TcGet most few h t = refl
instr_are_words (instr.TtyFlags v) most few h t = one v h
instr_are_words (instr.Read u v) most few h t = two u v h
instr_are_words (instr.Write u v) most few h t = two u v h

-- a line begins with another byte than #, and has 1 to 6 words
abbrev pub is_headed : List (List ℕ) → Bool
is_headed [] = false
is_headed ([] ∷ ws) = false
is_headed ((b ∷ bs) ∷ ws) = not (nat_eq b 35) && nat_le (length ws) 5

action_headed : (v : Operand) (a : Action) → is_headed (instr_words (instr.Action v a)) ≡ true
action_headed v action.Default = refl
action_headed v action.Ignore = refl
action_headed v (action.Handler place true) = refl
action_headed v (action.Handler place false) = refl

pub instr_is_headed : (i : Instr) → is_headed (instr_words i) ≡ true
instr_is_headed (instr.Action v a) = action_headed v a
instr_is_headed (instr.Set r v) = refl
instr_is_headed (instr.Add r v) = refl
instr_is_headed (instr.Load r v) = refl
instr_is_headed (instr.Store u v) = refl
instr_is_headed (instr.Push v) = refl
instr_is_headed (instr.Pop r) = refl
instr_is_headed (instr.Jump n) = refl
instr_is_headed (instr.JumpZero v n) = refl
instr_is_headed (instr.JumpNegative v n) = refl
instr_is_headed instr.GetPid = refl
instr_is_headed instr.GetPpid = refl
instr_is_headed instr.GetPgid = refl
instr_is_headed instr.GetSid = refl
instr_is_headed instr.Fork = refl
instr_is_headed (instr.Exec name) = refl
instr_is_headed (instr.Exit v) = refl
instr_is_headed (instr.Wait u v) = refl
instr_is_headed (instr.Kill u v) = refl
instr_is_headed (instr.Mask c v) = refl
instr_is_headed (instr.Suspend v) = refl
instr_is_headed instr.Pause = refl
instr_is_headed instr.Return = refl
instr_is_headed (instr.SetPgid u v) = refl
instr_is_headed instr.SetSid = refl
instr_is_headed (instr.TcSet v) = refl
instr_is_headed instr.TcGet = refl
instr_is_headed (instr.TtyFlags v) = refl
instr_is_headed (instr.Read u v) = refl
instr_is_headed (instr.Write u v) = refl
