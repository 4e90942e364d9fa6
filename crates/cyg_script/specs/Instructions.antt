-- An instruction as it is read. A place past 65,535 is past each program's end, and read as 65,535.
use Rattle.std.specs.Prelude.{◌≡◌, ℕ, Bool, true, false, nat_lt, List, [], ◌∷◌, codes, Option, Some, None, option_map}
use Rattle.std.specs.Prelude.{if◌then◌else◌}
use Rattle.w32_base.specs.declared.instr.Action.{Action}
use Rattle.w32_base.specs.declared.instr.Action.TheVariants.{Handler}
use Rattle.w32_base.specs.declared.instr.Instr.{Instr}
use Rattle.w32_base.specs.declared.instr.Instr.TheVariants as instr
use Rattle.w32_base.specs.declared.instr.MaskChange.{MaskChange}
use Rattle.w32_base.specs.declared.instr.MaskChange.TheVariants as change
use Rattle.w32_base.specs.Targets.{is_target_below}
use Rattle.script_spec.specs.declared.fault.InstrWord.{InstrWord}
use Rattle.script_spec.specs.FirstWords.{instr_word_text, with_text}
use Rattle.script_spec.specs.Forms.{instr_forms, kept_form, place_as}
use Rattle.script_spec.specs.InstrText.{change_text, instr_words}

abbrev pub clamped : ℕ → ℕ
clamped n = if nat_lt n 65535 then n else 65535

-- the place of a handler
abbrev pub handler_place : Action → Option ℕ
handler_place (Handler place restart) = Some place
handler_place _ = None

-- the place that an instruction names
abbrev pub place_named : Instr → Option ℕ
place_named (instr.Jump place) = Some place
place_named (instr.JumpZero v place) = Some place
place_named (instr.JumpNegative v place) = Some place
place_named (instr.Action v a) = handler_place a
place_named _ = None

-- the change of a mask with this word
abbrev pub change_of : List ℕ → Option MaskChange
change_of word = with_text change_text (change.Block ∷ change.Unblock ∷ change.Set ∷ []) word

-- the words after a handler's place
abbrev pub restart_words : Bool → List (List ℕ)
restart_words true = codes "restart" ∷ []
restart_words false = []

-- The instruction is what is read of the words after its first one. What it names is their place. The words are its own
-- where its place is below 65,535.
abbrev pub IsRead : InstrWord → List (List ℕ) → Instr → Type 0
IsRead word ws i = (option_map clamped (place_as ws (kept_form (instr_forms word) ws)) ≡ place_named i)
    × (is_target_below 65535 i ≡ true → instr_word_text word ∷ ws ≡ instr_words i)
