-- What each line adds to the counts and the names.
use Rattle.std.proofs.Common.{◌≡◌, ℕ, suc, ◌≤◌, Bool, true, false, ◌||◌, not, nat_lt, nat_le, List, [], ◌∷◌}
use Rattle.std.proofs.Common.{◌++◌, length, Option, Some, None, refl, sym, ap, ◌∙◌, arith, inl, inr, length-append}
use Rattle.std.specs.Prelude.{option_map, if◌then◌else◌}
use Rattle.std.proofs.lemmas.Bool.{cases_lt, lt-ltb, le-ltb, le-leb, lt-leb}
use Rattle.w32_base.specs.Names.{is_same, is_among}
use Rattle.w32_base.specs.Targets.{is_target_below, is_handler_below}
use Rattle.w32_base.specs.declared.instr.Action.{Action}
use Rattle.w32_base.specs.declared.instr.Action.TheVariants as action
use Rattle.w32_base.specs.declared.instr.Instr.{Instr}
use Rattle.w32_base.specs.declared.instr.Instr.TheVariants as instr
use Rattle.script_spec.specs.FirstFault.{is_past}
use Rattle.script_spec.specs.FirstWords.{either}
use Rattle.script_spec.specs.Front.{line_if}
use Rattle.cyg_script.specs.Instructions.{clamped, handler_place, place_named}
use Rattle.cyg_script.specs.Parts.{past_line}

or_swap : (a b c : Bool) → (a || (b || c)) ≡ (b || (a || c))
or_swap true true c = refl
or_swap true false c = refl
or_swap false true c = refl
or_swap false false c = refl

pub among-push : (n : List ℕ) (xs : List (List ℕ)) (y : List ℕ)
    → is_among n (xs ++ y ∷ []) ≡ (is_same n y || is_among n xs)
among-push n [] y = refl
among-push n (x ∷ xs) y =
    ap (λ (b : Bool). is_same n x || b) (among-push n xs y) ∙ or_swap (is_same n x) (is_same n y) (is_among n xs)

pub length-push : {X : Type 0} (xs : List X) (y : X) → length (xs ++ y ∷ []) ≡ suc (length xs)
length-push xs y = length-append xs (y ∷ []) ∙ omega arith

-- ---- places past an end

below_past : (n place : ℕ) → nat_lt place n ≡ not (nat_le n place)
below_past n place =
    elim (cases_lt place n) [
      | inl less ↦ rw (lt-ltb place n less, lt-leb n place less) refl
      | inr more ↦ rw (le-ltb place n more, le-leb n place more) refl
    ]

handler_past : (n : ℕ) (a : Action) → is_handler_below n a ≡ not (is_past n (handler_place a))
handler_past n (action.Handler place restart) = below_past n place
handler_past n action.Default = refl
handler_past n action.Ignore = refl

target_past : (n : ℕ) (i : Instr) → is_target_below n i ≡ not (is_past n (place_named i))
target_past n (instr.Jump place) = below_past n place
target_past n (instr.JumpZero v place) = below_past n place
target_past n (instr.JumpNegative v place) = below_past n place
target_past n (instr.Action v a) = handler_past n a
target_past n i = refl

clamped_past : (n place : ℕ) → n ≤ 65535 → nat_le n (clamped place) ≡ nat_le n place
clamped_past n place few =
    elim (cases_lt place 65535) [
      | inl less ↦ rw (lt-ltb place 65535 less) refl
      | inr more ↦ rw (le-ltb place 65535 more, le-leb n 65535 few, le-leb n place (omega (arith, few, more))) refl
    ]

option_past : (n : ℕ) (o : Option ℕ) → n ≤ 65535 → is_past n (option_map clamped o) ≡ is_past n o
option_past n None few = refl
option_past n (Some place) few = clamped_past n place few

not_not : (b : Bool) → not (not b) ≡ b
not_not true = refl
not_not false = refl

-- a place is past the end exactly where the place that is read of it is
pub past_read_as : (n : ℕ) (o : Option ℕ) (i : Instr) → n ≤ 65535 → option_map clamped o ≡ place_named i
    → is_past n o ≡ not (is_target_below n i)
past_read_as n o i few e =
    sym (option_past n o few) ∙ ap (λ (p : Option ℕ). is_past n p) e
    ∙ sym (not_not (is_past n (place_named i))) ∙ ap not (sym (target_past n i))

past_first : (b : Bool) (l : ℕ) → (if b then None else Some l) ≡ line_if (not b) l
past_first true l = refl
past_first false l = refl

past_more : (b : Bool) (l : ℕ) (x y : Option ℕ) → (if b then either x y else Some l)
    ≡ either (if b then x else Some l) y
past_more true l x y = refl
past_more false l x y = refl

-- one more instruction
pub past_line-push : (n : ℕ) (is : List Instr) (ls : List ℕ) (i : Instr) (l : ℕ) → length is ≡ length ls
    → past_line n (is ++ i ∷ []) (ls ++ l ∷ []) ≡ either (past_line n is ls) (line_if (not (is_target_below n i)) l)
past_line-push n [] [] i l e = past_first (is_target_below n i) l
past_line-push n [] (m ∷ ls) i l e = absurd (omega (arith, e))
past_line-push n (j ∷ is) [] i l e = absurd (omega (arith, e))
past_line-push n (j ∷ is) (m ∷ ls) i l e =
    ap (λ (o : Option ℕ). if is_target_below n j then o else Some m) (past_line-push n is ls i l (omega (arith, e)))
    ∙ past_more (is_target_below n j) m (past_line n is ls) (line_if (not (is_target_below n i)) l)
