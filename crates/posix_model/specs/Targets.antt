-- What a kill asks for.
use Rattle.std.specs.Prelude.{ℤ, Bool, false, ◌&&◌, Option}
use Rattle.w32_base.specs.declared.instr.Instr.{Instr}
use Rattle.w32_base.specs.declared.instr.Instr.TheVariants as instr
use Rattle.w32_base.specs.declared.instr.Operand.{Operand}
use Rattle.vm_spec.specs.Image.{value_of}
use Rattle.posix_spec.specs.Numbers.{is_same_number}
use Rattle.posix_spec.specs.State.{Record, GroupCall}
use Rattle.posix_spec.specs.GroupCalls.{target_group, killing_signal, begun_for}
use Rattle.posix_spec.specs.KillSteps as spec
use Rattle.posix_model.specs.declared.kills.Target.{Target}
use Rattle.posix_model.specs.declared.kills.Target.TheVariants as target

abbrev pub target_shown : Target → spec.Target
target_shown (target.One q) = spec.One q
target_shown target.Group = spec.Group
target_shown target.Invalid = spec.Invalid

-- whether a call is a kill of this target with this signal
abbrev pub is_this_kill : Record → Instr → ℤ → ℤ → Bool
is_this_kill r (instr.Kill target sent) q signal =
    is_same_number q (value_of r.image target) && is_same_number signal (value_of r.image sent)
is_this_kill r _ q signal = false

-- the call for a group that a kill begins
abbrev pub begun_call : Record → Operand → Operand → Option GroupCall
begun_call r target signal =
    begun_for (target_group r.group (value_of r.image target)) (killing_signal (value_of r.image signal))
