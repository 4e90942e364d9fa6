-- Which signals have a handler, and where one returns.
use Rattle.std.specs.Prelude.{◌≡◌, ℕ, ◌≤◌, length, Bool, true, false, ◌&&◌}
use Rattle.w32_base.specs.declared.instr.Instr.{Instr}
use Rattle.w32_base.specs.declared.instr.Instr.TheVariants as instr
use Rattle.vm_spec.specs.Frames.{has_frame}
use Rattle.vm_spec.specs.Image.{in_use}
use Rattle.posix_spec.specs.Pending.{is_handler, action_of}
use Rattle.posix_spec.specs.Signals.{contains}
use Rattle.posix_spec.specs.State.{Record}

-- whether a signal is in a set, and has a handler
abbrev pub is_handled : Record → ℕ → ℕ → Bool
is_handled r set s = contains set s && is_handler (action_of r s)

-- the frame of a handler is there
pub record HasFrame (r : Record) : Type 0 where
  pub used : in_use r.image ≤ length r.image.stack
  pub frame : has_frame r.image ≡ true

abbrev pub is_return : Instr → Bool
is_return instr.Return = true
is_return _ = false
