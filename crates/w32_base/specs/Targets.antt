-- The places that an instruction names.
use Rattle.std.specs.Prelude.{ℕ, Bool, true, ◌&&◌, nat_lt, List, [], ◌∷◌}
use Rattle.w32_base.specs.declared.instr.Action.{Action}
use Rattle.w32_base.specs.declared.instr.Action.TheVariants.{Handler}
use Rattle.w32_base.specs.declared.instr.Instr.{Instr}
use Rattle.w32_base.specs.declared.instr.Instr.TheVariants as instr

-- a handler's place lies in a program of n instructions
abbrev pub is_handler_below : ℕ → Action → Bool
is_handler_below n (Handler place restart) = nat_lt place n
is_handler_below n _ = true

-- the place that an instruction names, if any, lies in a program of n instructions
abbrev pub is_target_below : ℕ → Instr → Bool
is_target_below n (instr.Jump place) = nat_lt place n
is_target_below n (instr.JumpZero v place) = nat_lt place n
is_target_below n (instr.JumpNegative v place) = nat_lt place n
is_target_below n (instr.Action s action) = is_handler_below n action
is_target_below n _ = true

-- so does each place that the instructions name
abbrev pub are_targets_below : ℕ → List Instr → Bool
are_targets_below n [] = true
are_targets_below n (i ∷ is) = is_target_below n i && are_targets_below n is
