-- Whether a call at the terminal is the one of its event, and may be carried out.
use Rattle.std.specs.Prelude.{ℕ, ℤ, Bool, false, ◌&&◌, List, Option, Some, None}
use Rattle.w32_base.specs.declared.instr.Instr.{Instr}
use Rattle.w32_base.specs.declared.instr.Instr.TheVariants as instr
use Rattle.vm_spec.specs.Image.{value_of}
use Rattle.posix_spec.specs.Numbers.{is_number}
use Rattle.posix_spec.specs.State.{GroupCall, Record, PosixState}
use Rattle.posix_spec.specs.GroupCalls.{is_complete}
use Rattle.posix_spec.specs.Checks.{is_allowed, flags_check, foreground_check, write_check}
use Rattle.posix_spec.specs.TerminalSteps.{is_written}

-- the call sets the flags to this number, and may
abbrev pub sets_flags : PosixState → ℕ → Record → Instr → Bool
sets_flags s n r (instr.TtyFlags v) = is_number (value_of r.image v) n && is_allowed (flags_check s r (value_of
    r.image v))
sets_flags s n r _ = false

-- the call sets this foreground group, and may
abbrev pub sets_foreground : PosixState → ℕ → Record → Instr → Bool
sets_foreground s g r (instr.TcSet v) = is_number (value_of r.image v) g && is_allowed (foreground_check s r
    (value_of r.image v))
sets_foreground s g r _ = false

-- the call writes these bytes, and may
abbrev pub writes : PosixState → ℤ → List ℕ → Record → Instr → Bool
writes s n bytes r (instr.Write address count) =
    is_allowed (write_check s r) && is_written r.image (value_of r.image address) (value_of r.image count) n bytes
writes s n bytes r _ = false

-- each member now has had its step in this call for a group
abbrev pub completes : PosixState → Option GroupCall → Bool
completes s None = false
completes s (Some call) = is_complete s call
