-- Whether a call that sets a group or a session is that of its event, and may be carried out.
use Rattle.std.specs.Prelude.{ℕ, Bool, false, ◌&&◌}
use Rattle.w32_base.specs.declared.instr.Instr.{Instr}
use Rattle.w32_base.specs.declared.instr.Instr.TheVariants as instr
use Rattle.posix_spec.specs.Checks.{is_allowed}
use Rattle.posix_spec.specs.GroupSteps.{is_move, setpgid_check, setsid_check}
use Rattle.posix_spec.specs.Numbers.{natural_of}
use Rattle.posix_spec.specs.State.{Record, PosixState}
use Rattle.vm_spec.specs.Image.{value_of}

-- the call begins a session, and may
abbrev pub leads : PosixState → ℕ → Instr → Bool
leads s p instr.SetSid = is_allowed (setsid_check s p)
leads s p _ = false

-- the call moves this process to this group, and may
abbrev pub moves : PosixState → ℕ → ℕ → ℕ → Record → Instr → Bool
moves s p q g r (instr.SetPgid process group) =
    is_move p q g (natural_of (value_of r.image process)) (natural_of (value_of r.image group))
    && is_allowed (setpgid_check s p r (value_of r.image process) (value_of r.image group))
moves s p q g r _ = false
