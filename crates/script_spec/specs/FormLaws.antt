-- The words of a valid instruction keep the form of its first word, and name a place within its program.
use Rattle.std.proofs.Common.{◌≡◌, ℕ, ◌≤◌, ◌<◌, true, false, ◌&&◌, nat_le, nat_lt, List, [], ◌∷◌}
use Rattle.std.proofs.Common.{None, refl, arith}
use Rattle.std.specs.Prelude.{codes}
use Rattle.std.specs.Fmt.{decimal}
use Rattle.std.proofs.lemmas.Bool.{and_parts, ltb-true, lt-leb}
use Rattle.w32_base.specs.Name.{is_name}
use Rattle.w32_base.specs.Targets.{is_target_below, is_handler_below}
use Rattle.w32_base.specs.declared.instr.Action.{Action}
use Rattle.w32_base.specs.declared.instr.Action.TheVariants as action
use Rattle.w32_base.specs.declared.instr.Instr.{Instr}
use Rattle.w32_base.specs.declared.instr.Instr.TheVariants as instr
use Rattle.w32_base.specs.declared.instr.MaskChange.{MaskChange}
use Rattle.w32_base.specs.declared.instr.MaskChange.TheVariants as change
use Rattle.w32_base.specs.declared.instr.Operand.{Operand}
use Rattle.script_spec.specs.declared.fault.InstrWord.{InstrWord}
use Rattle.script_spec.specs.declared.fault.InstrWord.TheVariants as word
use Rattle.script_spec.specs.Numbers.{value_of}
use Rattle.script_spec.specs.Fields.{Field, FixedWord, RegisterWord, ValueWord, PlaceWord, NameWord, number_fault}
use Rattle.script_spec.specs.FirstWords.{instr_word_text}
use Rattle.script_spec.specs.Forms.{instr_forms, form_fault, keeps_form, kept_form, forms_fault, place_in, place_as}
use Rattle.script_spec.specs.FirstFault.{is_past}
use Rattle.script_spec.specs.InstrText.{register_text, operand_text, action_words, change_text, instr_words}
use Rattle.script_spec.specs.Validity.{is_valid_operand, is_valid_instr}
use Rattle.script_spec.specs.FieldLaws.{value_of-decimal, number_good, register_good, operand_good, name_good}

-- words that keep one of some forms, without a fault, and name no place that isn't below n
abbrev pub AreGood : ℕ → List (List Field) → List (List ℕ) → Type 0
AreGood n fs ws = (forms_fault fs ws ≡ None) × (is_past n (place_as ws (kept_form fs ws)) ≡ false)

of_form : (n : ℕ) (f : List Field) (fs : List (List Field)) (ws : List (List ℕ)) → form_fault f ws ≡ None
    → is_past n (place_in f ws) ≡ false → AreGood n (f ∷ fs) ws
of_form n f fs ws h p = (rw h h, rw h p)

of_others : (n : ℕ) (f : List Field) (fs : List (List Field)) (ws : List (List ℕ))
    → keeps_form (form_fault f ws) ≡ false → AreGood n fs ws → AreGood n (f ∷ fs) ws
of_others n f fs ws h g = (rw h g.0, rw h g.1)

register_value : (n r : ℕ) (v : Operand) → (nat_lt r 8 && is_valid_operand v) ≡ true
    → AreGood n ((RegisterWord ∷ ValueWord ∷ []) ∷ []) (register_text r ∷ operand_text v ∷ [])
register_value n r v h =
    let p = and_parts (nat_lt r 8) (is_valid_operand v) h in
    of_form n (RegisterWord ∷ ValueWord ∷ []) [] (register_text r ∷ operand_text v ∷ [])
    (rw (register_good r p.0, operand_good v p.1) refl) refl

two_values : (n : ℕ) (u v : Operand) → (is_valid_operand u && is_valid_operand v) ≡ true
    → AreGood n ((ValueWord ∷ ValueWord ∷ []) ∷ []) (operand_text u ∷ operand_text v ∷ [])
two_values n u v h =
    let p = and_parts (is_valid_operand u) (is_valid_operand v) h in
    of_form n (ValueWord ∷ ValueWord ∷ []) [] (operand_text u ∷ operand_text v ∷ [])
    (rw (operand_good u p.0, operand_good v p.1) refl) refl

one_value : (n : ℕ) (v : Operand) → is_valid_operand v ≡ true
    → AreGood n ((ValueWord ∷ []) ∷ []) (operand_text v ∷ [])
one_value n v h = of_form n (ValueWord ∷ []) [] (operand_text v ∷ []) (rw (operand_good v h) refl) refl

one_register : (n r : ℕ) → nat_lt r 8 ≡ true → AreGood n ((RegisterWord ∷ []) ∷ []) (register_text r ∷ [])
one_register n r h = of_form n (RegisterWord ∷ []) [] (register_text r ∷ []) (rw (register_good r h) refl) refl

one_name : (n : ℕ) (name : List ℕ) → is_name name ≡ true → AreGood n ((NameWord ∷ []) ∷ []) (name ∷ [])
one_name n name h = of_form n (NameWord ∷ []) [] (name ∷ []) (rw (name_good name h) refl) refl

place_good : (n place : ℕ) → n ≤ 4000 → nat_lt place n ≡ true
    → number_fault 0 18446744073709551615 (decimal place) ≡ None
place_good n place few h =
    let less : place < n = ltb-true place n h in
    number_good 0 18446744073709551615 place (omega arith) (omega arith) (omega arith)

not_past : (n place : ℕ) → n ≤ 4000 → nat_lt place n ≡ true → nat_le n (value_of (decimal place)) ≡ false
not_past n place few h =
    let less : place < n = ltb-true place n h in
    rw (value_of-decimal place (omega arith)) (lt-leb n place less)

one_place : (n place : ℕ) → n ≤ 4000 → nat_lt place n ≡ true
    → AreGood n ((PlaceWord ∷ []) ∷ []) (decimal place ∷ [])
one_place n place few h =
    of_form n (PlaceWord ∷ []) [] (decimal place ∷ []) (rw (place_good n place few h) refl) (not_past n place few h)

value_place : (n : ℕ) (v : Operand) (place : ℕ) → n ≤ 4000 → is_valid_operand v ≡ true → nat_lt place n ≡ true
    → AreGood n ((ValueWord ∷ PlaceWord ∷ []) ∷ []) (operand_text v ∷ decimal place ∷ [])
value_place n v place few h k =
    of_form n (ValueWord ∷ PlaceWord ∷ []) [] (operand_text v ∷ decimal place ∷ [])
    (rw (operand_good v h, place_good n place few k) refl) (not_past n place few k)

-- an action has four forms
abbrev default_form : List Field
default_form = ValueWord ∷ FixedWord (codes "default") ∷ []

abbrev ignore_form : List Field
ignore_form = ValueWord ∷ FixedWord (codes "ignore") ∷ []

abbrev handler_form : List Field
handler_form = ValueWord ∷ FixedWord (codes "handler") ∷ PlaceWord ∷ []

abbrev restart_form : List Field
restart_form = ValueWord ∷ FixedWord (codes "handler") ∷ PlaceWord ∷ FixedWord (codes "restart") ∷ []

action_good : (n : ℕ) (v : Operand) (a : Action) → n ≤ 4000 → is_valid_operand v ≡ true → is_handler_below n a ≡ true
    → AreGood n (instr_forms word.Action) (operand_text v ∷ action_words a)
action_good n v action.Default few h k =
    of_form n default_form (ignore_form ∷ handler_form ∷ restart_form ∷ []) (operand_text v ∷ codes "default" ∷ [])
    (rw (operand_good v h) refl) refl
action_good n v action.Ignore few h k =
    let ws : List (List ℕ) = operand_text v ∷ codes "ignore" ∷ [] in
    of_others n default_form (ignore_form ∷ handler_form ∷ restart_form ∷ []) ws (rw (operand_good v h) refl)
    (of_form n ignore_form (handler_form ∷ restart_form ∷ []) ws (rw (operand_good v h) refl) refl)
action_good n v (action.Handler place false) few h k =
    let ws : List (List ℕ) = operand_text v ∷ codes "handler" ∷ decimal place ∷ [] in
    of_others n default_form (ignore_form ∷ handler_form ∷ restart_form ∷ []) ws (rw (operand_good v h) refl)
    (of_others n ignore_form (handler_form ∷ restart_form ∷ []) ws (rw (operand_good v h) refl)
    (of_form n handler_form (restart_form ∷ []) ws (rw (operand_good v h, place_good n place few k) refl)
    (not_past n place few k)))
action_good n v (action.Handler place true) few h k =
    let ws : List (List ℕ) = operand_text v ∷ codes "handler" ∷ decimal place ∷ codes "restart" ∷ [] in
    of_others n default_form (ignore_form ∷ handler_form ∷ restart_form ∷ []) ws (rw (operand_good v h) refl)
    (of_others n ignore_form (handler_form ∷ restart_form ∷ []) ws (rw (operand_good v h) refl)
    (of_others n handler_form (restart_form ∷ []) ws (rw (operand_good v h, place_good n place few k) refl)
    (of_form n restart_form [] ws (rw (operand_good v h, place_good n place few k) refl) (not_past n place few k))))

abbrev change_form : List ℕ → List Field
change_form w = FixedWord w ∷ ValueWord ∷ []

mask_good : (n : ℕ) (c : MaskChange) (v : Operand) → is_valid_operand v ≡ true
    → AreGood n (instr_forms word.Mask) (change_text c ∷ operand_text v ∷ [])
mask_good n change.Block v h =
    of_form n (change_form (codes "block")) (change_form (codes "unblock") ∷ change_form (codes "set") ∷ [])
    (codes "block" ∷ operand_text v ∷ []) (rw (operand_good v h) refl) refl
mask_good n change.Unblock v h =
    let ws : List (List ℕ) = codes "unblock" ∷ operand_text v ∷ [] in
    of_others n (change_form (codes "block")) (change_form (codes "unblock") ∷ change_form (codes "set") ∷ []) ws
    (rw (operand_good v h) refl)
    (of_form n (change_form (codes "unblock")) (change_form (codes "set") ∷ []) ws (rw (operand_good v h) refl) refl)
mask_good n change.Set v h =
    let ws : List (List ℕ) = codes "set" ∷ operand_text v ∷ [] in
    of_others n (change_form (codes "block")) (change_form (codes "unblock") ∷ change_form (codes "set") ∷ []) ws
    (rw (operand_good v h) refl)
    (of_others n (change_form (codes "unblock")) (change_form (codes "set") ∷ []) ws (rw (operand_good v h) refl)
    (of_form n (change_form (codes "set")) [] ws (rw (operand_good v h) refl) refl))

-- an instruction's words: its first word and the others
pub record IsSpelled (n : ℕ) (i : Instr) : Type 0 where
  pub word : InstrWord
  pub others : List (List ℕ)
  pub words : instr_words i ≡ instr_word_text word ∷ others
  pub good : AreGood n (instr_forms word) others

spelled : (n : ℕ) (i : Instr) (w : InstrWord) (ws : List (List ℕ)) → instr_words i ≡ instr_word_text w ∷ ws
    → AreGood n (instr_forms w) ws → IsSpelled n i
spelled n i w ws e g = record { word = w; others = ws; words = e; good = g }

pub instr_spelled : (n : ℕ) (i : Instr) → n ≤ 4000 → is_valid_instr i ≡ true → is_target_below n i ≡ true
    → IsSpelled n i
instr_spelled n (instr.Set r v) few h k =
    spelled n (instr.Set r v) word.Set (register_text r ∷ operand_text v ∷ []) refl (register_value n r v h)
instr_spelled n (instr.Add r v) few h k =
    spelled n (instr.Add r v) word.Add (register_text r ∷ operand_text v ∷ []) refl (register_value n r v h)
instr_spelled n (instr.Load r v) few h k =
    spelled n (instr.Load r v) word.Load (register_text r ∷ operand_text v ∷ []) refl (register_value n r v h)
instr_spelled n (instr.Store u v) few h k =
    spelled n (instr.Store u v) word.Store (operand_text u ∷ operand_text v ∷ []) refl (two_values n u v h)
instr_spelled n (instr.Wait u v) few h k =
    spelled n (instr.Wait u v) word.Wait (operand_text u ∷ operand_text v ∷ []) refl (two_values n u v h)
instr_spelled n (instr.Kill u v) few h k =
    spelled n (instr.Kill u v) word.Kill (operand_text u ∷ operand_text v ∷ []) refl (two_values n u v h)
instr_spelled n (instr.SetPgid u v) few h k =
    spelled n (instr.SetPgid u v) word.SetPgid (operand_text u ∷ operand_text v ∷ []) refl (two_values n u v h)
instr_spelled n (instr.Read u v) few h k =
    spelled n (instr.Read u v) word.Read (operand_text u ∷ operand_text v ∷ []) refl (two_values n u v h)
instr_spelled n (instr.Write u v) few h k =
    spelled n (instr.Write u v) word.Write (operand_text u ∷ operand_text v ∷ []) refl (two_values n u v h)
instr_spelled n (instr.Push v) few h k =
    spelled n (instr.Push v) word.Push (operand_text v ∷ []) refl (one_value n v h)
instr_spelled n (instr.Exit v) few h k =
    spelled n (instr.Exit v) word.Exit (operand_text v ∷ []) refl (one_value n v h)
instr_spelled n (instr.Suspend v) few h k =
    spelled n (instr.Suspend v) word.Suspend (operand_text v ∷ []) refl (one_value n v h)
instr_spelled n (instr.TcSet v) few h k =
    spelled n (instr.TcSet v) word.TcSet (operand_text v ∷ []) refl (one_value n v h)
instr_spelled n (instr.TtyFlags v) few h k =
    spelled n (instr.TtyFlags v) word.TtyFlags (operand_text v ∷ []) refl (one_value n v h)
instr_spelled n (instr.Pop r) few h k =
    spelled n (instr.Pop r) word.Pop (register_text r ∷ []) refl (one_register n r h)
instr_spelled n (instr.Jump place) few h k =
    spelled n (instr.Jump place) word.Jump (decimal place ∷ []) refl (one_place n place few k)
instr_spelled n (instr.JumpZero v place) few h k =
    spelled n (instr.JumpZero v place) word.JumpZero (operand_text v ∷ decimal place ∷ []) refl
    (value_place n v place few h k)
instr_spelled n (instr.JumpNegative v place) few h k =
    spelled n (instr.JumpNegative v place) word.JumpNegative (operand_text v ∷ decimal place ∷ []) refl
    (value_place n v place few h k)
instr_spelled n (instr.Exec name) few h k =
    spelled n (instr.Exec name) word.Exec (name ∷ []) refl (one_name n name h)
instr_spelled n (instr.Action v a) few h k =
    spelled n (instr.Action v a) word.Action (operand_text v ∷ action_words a) refl (action_good n v a few h k)
instr_spelled n (instr.Mask c v) few h k =
    spelled n (instr.Mask c v) word.Mask (change_text c ∷ operand_text v ∷ []) refl (mask_good n c v h)
instr_spelled n instr.GetPid few h k = spelled n instr.GetPid word.GetPid [] refl (refl, refl)
instr_spelled n instr.GetPpid few h k = spelled n instr.GetPpid word.GetPpid [] refl (refl, refl)
instr_spelled n instr.GetPgid few h k = spelled n instr.GetPgid word.GetPgid [] refl (refl, refl)
instr_spelled n instr.GetSid few h k = spelled n instr.GetSid word.GetSid [] refl (refl, refl)
instr_spelled n instr.Fork few h k = spelled n instr.Fork word.Fork [] refl (refl, refl)
instr_spelled n instr.Pause few h k = spelled n instr.Pause word.Pause [] refl (refl, refl)
instr_spelled n instr.Return few h k = spelled n instr.Return word.Return [] refl (refl, refl)
instr_spelled n instr.SetSid few h k = spelled n instr.SetSid word.SetSid [] refl (refl, refl)
instr_spelled n instr.TcGet few h k = spelled n instr.TcGet word.TcGet [] refl (refl, refl)
