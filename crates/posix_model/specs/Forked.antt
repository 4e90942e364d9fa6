-- Whether a call is a fork that may be carried out, or may fail.
use Rattle.std.specs.Prelude.{ℕ, Bool, false, ◌&&◌, nat_lt, length}
use Rattle.w32_base.specs.declared.event.ForkCause.{ForkCause}
use Rattle.w32_base.specs.declared.instr.Instr.{Instr}
use Rattle.w32_base.specs.declared.instr.Instr.TheVariants as instr
use Rattle.script_spec.specs.declared.script.Script.{Script}
use Rattle.posix_spec.specs.ForkSteps.{most_children, is_fresh, is_fork_cause}
use Rattle.posix_spec.specs.Records.{children}
use Rattle.posix_spec.specs.State.{PosixState}

-- the call is a fork that may fail for this cause
abbrev pub fork_fails : PosixState → ℕ → ForkCause → Instr → Bool
fork_fails s p cause instr.Fork = is_fork_cause s p cause
fork_fails s p cause _ = false

-- the process may have one child more, and the number is one for it
abbrev pub may_have : Script → PosixState → ℕ → ℕ → Bool
may_have script s p c = nat_lt (length (children s p)) most_children && is_fresh script s c

-- the call is a fork that may give the child this number
abbrev pub forks : Script → PosixState → ℕ → ℕ → Instr → Bool
forks script s p c instr.Fork = may_have script s p c
forks script s p c _ = false
