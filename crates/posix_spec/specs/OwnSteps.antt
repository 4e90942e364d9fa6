-- Blocks of local instructions, and the calls that tell a process of itself.
use Rattle.std.specs.Prelude.{ℕ, ℤ, Bool, ◌&&◌, if◌then◌else◌, Option, Some, None, nat_lt}
use Rattle.w32_base.specs.declared.event.Field.{Field}
use Rattle.w32_base.specs.declared.event.Field.TheVariants as field
use Rattle.w32_base.specs.declared.instr.Instr.{Instr}
use Rattle.w32_base.specs.declared.instr.Instr.TheVariants as instr
use Rattle.script_spec.specs.declared.script.Script.{Script}
use Rattle.vm_spec.specs.Block.{block_length, block_image}
use Rattle.posix_spec.specs.Numbers.{is_number, is_optional_number}
use Rattle.posix_spec.specs.State.{Record, PosixState}
use Rattle.posix_spec.specs.Records.{change_record}
use Rattle.posix_spec.specs.Groups.{shown_parent}
use Rattle.posix_spec.specs.Conditions.{code_of, may_act, call_goes_on, answered}

-- run P N: the next block has N instructions, and there is one

abbrev pub with_block : Script → Record → Record
with_block script r = call_goes_on (record r { image = block_image (code_of script r.image) r.image })

abbrev pub run_block_step : Script → PosixState → ℕ → ℤ → ℕ → Option PosixState
run_block_step script s p n length =
    if nat_lt 0 length && is_number n length then Some (change_record s p (with_block script)) else None

abbrev pub run_step : Script → PosixState → ℕ → ℤ → Record → Option PosixState
run_step script s p n r =
    if may_act script r then run_block_step script s p n (block_length (code_of script r.image) r.image) else None

-- get P FIELD V: V is the value now, and the call's result (POSIX.1-2017, XSH getpid, getppid, getpgrp, getsid and
-- tcgetpgrp)

abbrev pub foreground_of : PosixState → Bool → Option ℕ
foreground_of s has_terminal = if has_terminal then Some s.terminal.foreground else None

-- what the call tells, where it asks for this field
abbrev pub told : PosixState → ℕ → Record → Field → Instr → Option ℕ
told s p r field.Pid instr.GetPid = Some p
told s p r field.Ppid instr.GetPpid = Some (shown_parent s r)
told s p r field.Pgid instr.GetPgid = Some r.group
told s p r field.Sid instr.GetSid = Some r.session
told s p r field.Foreground instr.TcGet = foreground_of s r.terminal
told s p r _ _ = None

abbrev pub get_step : PosixState → ℕ → Field → ℤ → Record → Instr → Option PosixState
get_step s p f v r i = if is_optional_number v (told s p r f i) then Some (answered s p v) else None
