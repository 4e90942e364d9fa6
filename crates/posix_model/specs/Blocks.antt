-- Blocks of local instructions that are carried out.
use Rattle.std.specs.Prelude.{ℕ, ℤ, Bool, ◌&&◌, not, if◌then◌else◌, List, Option, Some, None}
use Rattle.w32_base.specs.declared.instr.Instr.{Instr}
use Rattle.script_spec.specs.declared.script.Script.{Script}
use Rattle.vm_spec.specs.Block.{is_local_next, block_length, block_image}
use Rattle.posix_spec.specs.Conditions.{code_of, next_of, may_go_on, is_group_call, call_goes_on}
use Rattle.posix_spec.specs.Numbers.{is_number}
use Rattle.posix_spec.specs.OwnSteps.{with_block}
use Rattle.posix_spec.specs.Records.{change_record}
use Rattle.posix_spec.specs.State.{Record, PosixState}

-- whether the process may go on, and a local instruction is next
abbrev pub is_at_block : Script → Record → Bool
is_at_block script r = may_go_on r && (not (is_group_call r.call) && is_local_next (next_of script r))

-- after the next block of a program
abbrev pub with_run : List Instr → Record → Record
with_run code r = call_goes_on (record r { image = block_image code r.image })

-- the state after the block, where it has so many instructions
abbrev pub ran : Script → PosixState → ℕ → ℤ → Record → Option PosixState
ran script s p n r =
    if is_number n (block_length (code_of script r.image) r.image)
    then Some (change_record s p (with_block script))
    else None
