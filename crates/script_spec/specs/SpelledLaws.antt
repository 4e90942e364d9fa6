-- The words of an instruction and of a schedule's line spell it.
use Rattle.std.proofs.Common.{◌≡◌, ℕ, suc, ◌-◌, ◌≤◌, ◌<◌, true, false, ◌&&◌, nat_lt}
use Rattle.std.proofs.Common.{List, [], ◌∷◌, refl, ap, ◌∙◌, arith}
use Rattle.std.specs.Prelude.{ℤ, pos, negsuc}
use Rattle.std.specs.Fmt.{decimal, signed_decimal}
use Rattle.std.proofs.lemmas.Bool.{and_parts, leb-true, ltb-true}
use Rattle.w32_base.specs.Targets.{is_target_below, is_handler_below}
use Rattle.w32_base.specs.declared.instr.Action.{Action}
use Rattle.w32_base.specs.declared.instr.Action.TheVariants as action
use Rattle.w32_base.specs.declared.instr.Instr.{Instr}
use Rattle.w32_base.specs.declared.instr.Instr.TheVariants as instr
use Rattle.w32_base.specs.declared.instr.MaskChange.{MaskChange}
use Rattle.w32_base.specs.declared.instr.MaskChange.TheVariants as change
use Rattle.w32_base.specs.declared.instr.Operand.{Operand}
use Rattle.w32_base.specs.declared.instr.Operand.TheVariants as operand
use Rattle.script_spec.specs.declared.fault.InstrWord.{InstrWord}
use Rattle.script_spec.specs.declared.fault.InstrWord.TheVariants as word
use Rattle.script_spec.specs.Numbers.{value_of}
use Rattle.script_spec.specs.InstrText.{register_text, operand_text, action_words, change_text, instr_words}
use Rattle.script_spec.specs.FirstWords.{instr_word_text}
use Rattle.script_spec.specs.Validity.{is_32_bits, is_valid_operand, is_valid_instr}
use Rattle.script_spec.specs.OneWordLaws.{signed_no_r}
use Rattle.script_spec.specs.FieldLaws.{value_of-decimal, decimal-unsigned}
use Rattle.script_spec.specs.Spelled.{register_in, signed_in, operand_in, action_in, change_in, instr_in}

register_back : (r : ℕ) → register_in (register_text r) ≡ r
register_back r = omega arith

signed_back : (z : ℤ) → is_32_bits z ≡ true → signed_in (signed_decimal z) ≡ z
signed_back (pos n) h =
    let few : n ≤ 2147483647 = leb-true n 2147483647 h in
    rw (decimal-unsigned n (omega arith)) (ap pos (value_of-decimal n (omega arith)))
signed_back (negsuc n) h =
    let few : n ≤ 2147483647 = leb-true n 2147483647 h in
    let back : suc n - 1 ≡ n = omega arith in
    rw (value_of-decimal (suc n) (omega arith)) (ap negsuc back)

operand_back : (v : Operand) → is_valid_operand v ≡ true → operand_in (operand_text v) ≡ v
operand_back (operand.Register r) h = ap operand.Register (register_back r)
operand_back (operand.Number z) h = rw (signed_no_r z h) (ap operand.Number (signed_back z h))

place_back : (n place : ℕ) → n ≤ 4000 → nat_lt place n ≡ true → value_of (decimal place) ≡ place
place_back n place few h = let less : place < n = ltb-true place n h in value_of-decimal place (omega arith)

-- an instruction's words, and that they spell it
pub record Spells (i : Instr) : Type 0 where
  pub word : InstrWord
  pub others : List (List ℕ)
  pub words : instr_words i ≡ instr_word_text word ∷ others
  pub back : instr_in word others ≡ i

spells : (i : Instr) (w : InstrWord) (ws : List (List ℕ)) → instr_words i ≡ instr_word_text w ∷ ws
    → instr_in w ws ≡ i → Spells i
spells i w ws e b = record { word = w; others = ws; words = e; back = b }

register_value : (f : ℕ → Operand → Instr) (r : ℕ) (v : Operand) → (nat_lt r 8 && is_valid_operand v) ≡ true
    → f (register_in (register_text r)) (operand_in (operand_text v)) ≡ f r v
register_value f r v h =
    let p = and_parts (nat_lt r 8) (is_valid_operand v) h in
    ap (λ (n : ℕ). f n (operand_in (operand_text v))) (register_back r)
    ∙ ap (λ (o : Operand). f r o) (operand_back v p.1)

two_values : (f : Operand → Operand → Instr) (u v : Operand) → (is_valid_operand u && is_valid_operand v) ≡ true
    → f (operand_in (operand_text u)) (operand_in (operand_text v)) ≡ f u v
two_values f u v h =
    let p = and_parts (is_valid_operand u) (is_valid_operand v) h in
    ap (λ (o : Operand). f o (operand_in (operand_text v))) (operand_back u p.0)
    ∙ ap (λ (o : Operand). f u o) (operand_back v p.1)

value_place : (f : Operand → ℕ → Instr) (v : Operand) (n place : ℕ) → is_valid_operand v ≡ true → n ≤ 4000
    → nat_lt place n ≡ true → f (operand_in (operand_text v)) (value_of (decimal place)) ≡ f v place
value_place f v n place h few k =
    ap (λ (o : Operand). f o (value_of (decimal place))) (operand_back v h)
    ∙ ap (λ (p : ℕ). f v p) (place_back n place few k)

action_back : (n : ℕ) (a : Action) → n ≤ 4000 → is_handler_below n a ≡ true → action_in (action_words a) ≡ a
action_back n action.Default few k = refl
action_back n action.Ignore few k = refl
action_back n (action.Handler place false) few k =
    ap (λ (p : ℕ). action.Handler p false) (place_back n place few k)
action_back n (action.Handler place true) few k = ap (λ (p : ℕ). action.Handler p true) (place_back n place few k)

change_back : (c : MaskChange) → change_in (change_text c) ≡ c
change_back change.Block = refl
change_back change.Unblock = refl
change_back change.Set = refl

action_spelled : (n : ℕ) (v : Operand) (a : Action) → n ≤ 4000 → is_valid_operand v ≡ true
    → is_handler_below n a ≡ true
    → instr.Action (operand_in (operand_text v)) (action_in (action_words a)) ≡ instr.Action v a
action_spelled n v a few h k =
    ap (λ (o : Operand). instr.Action o (action_in (action_words a))) (operand_back v h)
    ∙ ap (λ (b : Action). instr.Action v b) (action_back n a few k)

mask_spelled : (c : MaskChange) (v : Operand) → is_valid_operand v ≡ true
    → instr.Mask (change_in (change_text c)) (operand_in (operand_text v)) ≡ instr.Mask c v
mask_spelled c v h =
    ap (λ (d : MaskChange). instr.Mask d (operand_in (operand_text v))) (change_back c)
    ∙ ap (λ (o : Operand). instr.Mask c o) (operand_back v h)

pub instr_spells : (n : ℕ) (i : Instr) → n ≤ 4000 → is_valid_instr i ≡ true → is_target_below n i ≡ true → Spells i
instr_spells n (instr.Set r v) few h k =
    spells (instr.Set r v) word.Set (register_text r ∷ operand_text v ∷ []) refl (register_value instr.Set r v h)
instr_spells n (instr.Add r v) few h k =
    spells (instr.Add r v) word.Add (register_text r ∷ operand_text v ∷ []) refl (register_value instr.Add r v h)
instr_spells n (instr.Load r v) few h k =
    spells (instr.Load r v) word.Load (register_text r ∷ operand_text v ∷ []) refl (register_value instr.Load r v h)
instr_spells n (instr.Store u v) few h k =
    spells (instr.Store u v) word.Store (operand_text u ∷ operand_text v ∷ []) refl (two_values instr.Store u v h)
instr_spells n (instr.Wait u v) few h k =
    spells (instr.Wait u v) word.Wait (operand_text u ∷ operand_text v ∷ []) refl (two_values instr.Wait u v h)
instr_spells n (instr.Kill u v) few h k =
    spells (instr.Kill u v) word.Kill (operand_text u ∷ operand_text v ∷ []) refl (two_values instr.Kill u v h)
instr_spells n (instr.SetPgid u v) few h k =
    spells (instr.SetPgid u v) word.SetPgid (operand_text u ∷ operand_text v ∷ []) refl (two_values instr.SetPgid u v h)
instr_spells n (instr.Read u v) few h k =
    spells (instr.Read u v) word.Read (operand_text u ∷ operand_text v ∷ []) refl (two_values instr.Read u v h)
instr_spells n (instr.Write u v) few h k =
    spells (instr.Write u v) word.Write (operand_text u ∷ operand_text v ∷ []) refl (two_values instr.Write u v h)
instr_spells n (instr.Push v) few h k =
    spells (instr.Push v) word.Push (operand_text v ∷ []) refl (ap instr.Push (operand_back v h))
instr_spells n (instr.Exit v) few h k =
    spells (instr.Exit v) word.Exit (operand_text v ∷ []) refl (ap instr.Exit (operand_back v h))
instr_spells n (instr.Suspend v) few h k =
    spells (instr.Suspend v) word.Suspend (operand_text v ∷ []) refl (ap instr.Suspend (operand_back v h))
instr_spells n (instr.TcSet v) few h k =
    spells (instr.TcSet v) word.TcSet (operand_text v ∷ []) refl (ap instr.TcSet (operand_back v h))
instr_spells n (instr.TtyFlags v) few h k =
    spells (instr.TtyFlags v) word.TtyFlags (operand_text v ∷ []) refl (ap instr.TtyFlags (operand_back v h))
instr_spells n (instr.Pop r) few h k =
    spells (instr.Pop r) word.Pop (register_text r ∷ []) refl (ap instr.Pop (register_back r))
instr_spells n (instr.Jump place) few h k =
    spells (instr.Jump place) word.Jump (decimal place ∷ []) refl (ap instr.Jump (place_back n place few k))
instr_spells n (instr.JumpZero v place) few h k =
    spells (instr.JumpZero v place) word.JumpZero (operand_text v ∷ decimal place ∷ []) refl
    (value_place instr.JumpZero v n place h few k)
instr_spells n (instr.JumpNegative v place) few h k =
    spells (instr.JumpNegative v place) word.JumpNegative (operand_text v ∷ decimal place ∷ []) refl
    (value_place instr.JumpNegative v n place h few k)
instr_spells n (instr.Exec name) few h k =
    spells (instr.Exec name) word.Exec (name ∷ []) refl (refl)
instr_spells n (instr.Action v a) few h k =
    spells (instr.Action v a) word.Action (operand_text v ∷ action_words a) refl (action_spelled n v a few h k)
instr_spells n (instr.Mask c v) few h k =
    spells (instr.Mask c v) word.Mask (change_text c ∷ operand_text v ∷ []) refl (mask_spelled c v h)
instr_spells n instr.GetPid few h k = spells instr.GetPid word.GetPid [] refl refl
instr_spells n instr.GetPpid few h k = spells instr.GetPpid word.GetPpid [] refl refl
instr_spells n instr.GetPgid few h k = spells instr.GetPgid word.GetPgid [] refl refl
instr_spells n instr.GetSid few h k = spells instr.GetSid word.GetSid [] refl refl
instr_spells n instr.Fork few h k = spells instr.Fork word.Fork [] refl refl
instr_spells n instr.Pause few h k = spells instr.Pause word.Pause [] refl refl
instr_spells n instr.Return few h k = spells instr.Return word.Return [] refl refl
instr_spells n instr.SetSid few h k = spells instr.SetSid word.SetSid [] refl refl
instr_spells n instr.TcGet few h k = spells instr.TcGet word.TcGet [] refl refl
