-- Where a word of the instruction is at fault.
use Rattle.std.proofs.Common.{ℕ, List, Option, Bor}
use Rattle.std.specs.Prelude.{option_map}
use Rattle.script_spec.specs.declared.fault.InstrWord.TheVariants as word
use Rattle.cyg_script.specs.Words.{words_after}
use Rattle.cyg_script.proofs.Arms.{err_fault}
use Rattle.cyg_script.proofs.instruction.instruction.Goals as goal

abbrev words : Option (Bor (List ℕ)) → List (List ℕ)
words rest = words_after (option_map (λ (r : Bor (List ℕ)). r.now) rest)

pub returns-in_err-r-in-Set-clause-fault : goal.returns-in_err-r-in-Set-clause-fault
returns-in_err-r-in-Set-clause-fault c =
    err_fault c.from_residual.result _ word.Set (words c.args.rest) c.in_err-r-in-Set.field-0.0 c.in-Set.is
    c.from_residual.ensures.1 c.in_err-r-in-Set.ensures.fault

pub returns-in_err-r-in-Add-clause-fault : goal.returns-in_err-r-in-Add-clause-fault
returns-in_err-r-in-Add-clause-fault c =
    err_fault c.from_residual-in_err-r-in-Add.result _ word.Add (words c.args.rest) c.in_err-r-in-Add.field-0.0
    c.in-Add.is
    c.from_residual-in_err-r-in-Add.ensures.1 c.in_err-r-in-Add.ensures.fault

pub returns-in_err-r-in-Load-clause-fault : goal.returns-in_err-r-in-Load-clause-fault
returns-in_err-r-in-Load-clause-fault c =
    err_fault c.from_residual-in_err-r-in-Load.result _ word.Load (words c.args.rest) c.in_err-r-in-Load.field-0.0
    c.in-Load.is
    c.from_residual-in_err-r-in-Load.ensures.1 c.in_err-r-in-Load.ensures.fault

pub returns-in_err-u-in-Store-clause-fault : goal.returns-in_err-u-in-Store-clause-fault
returns-in_err-u-in-Store-clause-fault c =
    err_fault c.from_residual-in_err-u-in-Store.result _ word.Store (words c.args.rest)
    c.in_err-u-in-Store.field-0.0 c.in-Store.is
    c.from_residual-in_err-u-in-Store.ensures.1 c.in_err-u-in-Store.ensures.fault

pub returns-in_err-one_operand-in-Push-clause-fault : goal.returns-in_err-one_operand-in-Push-clause-fault
returns-in_err-one_operand-in-Push-clause-fault c =
    err_fault c.from_residual-in_err-one_operand-in-Push.result _ word.Push (words c.args.rest)
    c.in_err-one_operand-in-Push.field-0.0 c.in-Push.is
    c.from_residual-in_err-one_operand-in-Push.ensures.1 c.in_err-one_operand-in-Push.ensures.fault

pub returns-in_err-one_register-in-Pop-clause-fault : goal.returns-in_err-one_register-in-Pop-clause-fault
returns-in_err-one_register-in-Pop-clause-fault c =
    err_fault c.from_residual-in_err-one_register-in-Pop.result _ word.Pop (words c.args.rest)
    c.in_err-one_register-in-Pop.field-0.0 c.in-Pop.is
    c.from_residual-in_err-one_register-in-Pop.ensures.1 c.in_err-one_register-in-Pop.ensures.fault

pub returns-in_err-one_place-in-Jump-clause-fault : goal.returns-in_err-one_place-in-Jump-clause-fault
returns-in_err-one_place-in-Jump-clause-fault c =
    err_fault c.from_residual-in_err-one_place-in-Jump.result _ word.Jump (words c.args.rest)
    c.in_err-one_place-in-Jump.field-0.0 c.in-Jump.is
    c.from_residual-in_err-one_place-in-Jump.ensures.1 c.in_err-one_place-in-Jump.ensures.fault

pub returns-in_err-v-in-JumpZero-clause-fault : goal.returns-in_err-v-in-JumpZero-clause-fault
returns-in_err-v-in-JumpZero-clause-fault c =
    err_fault c.from_residual-in_err-v-in-JumpZero.result _ word.JumpZero (words c.args.rest)
    c.in_err-v-in-JumpZero.field-0.0 c.in-JumpZero.is
    c.from_residual-in_err-v-in-JumpZero.ensures.1 c.in_err-v-in-JumpZero.ensures.fault

pub returns-in_err-v-in-JumpNegative-clause-fault : goal.returns-in_err-v-in-JumpNegative-clause-fault
returns-in_err-v-in-JumpNegative-clause-fault c =
    err_fault c.from_residual-in_err-v-in-JumpNegative.result _ word.JumpNegative (words c.args.rest)
    c.in_err-v-in-JumpNegative.field-0.0 c.in-JumpNegative.is
    c.from_residual-in_err-v-in-JumpNegative.ensures.1 c.in_err-v-in-JumpNegative.ensures.fault

pub returns-in_err-one_name-in-Exec-clause-fault : goal.returns-in_err-one_name-in-Exec-clause-fault
returns-in_err-one_name-in-Exec-clause-fault c =
    err_fault c.from_residual-in_err-one_name-in-Exec.result _ word.Exec (words c.args.rest)
    c.in_err-one_name-in-Exec.field-0.0 c.in-Exec.is
    c.from_residual-in_err-one_name-in-Exec.ensures.1 c.in_err-one_name-in-Exec.ensures.fault

pub returns-in_err-one_operand-in-Exit-clause-fault : goal.returns-in_err-one_operand-in-Exit-clause-fault
returns-in_err-one_operand-in-Exit-clause-fault c =
    err_fault c.from_residual-in_err-one_operand-in-Exit.result _ word.Exit (words c.args.rest)
    c.in_err-one_operand-in-Exit.field-0.0 c.in-Exit.is
    c.from_residual-in_err-one_operand-in-Exit.ensures.1 c.in_err-one_operand-in-Exit.ensures.fault

pub returns-in_err-u-in-Wait-clause-fault : goal.returns-in_err-u-in-Wait-clause-fault
returns-in_err-u-in-Wait-clause-fault c =
    err_fault c.from_residual-in_err-u-in-Wait.result _ word.Wait (words c.args.rest) c.in_err-u-in-Wait.field-0.0
    c.in-Wait.is
    c.from_residual-in_err-u-in-Wait.ensures.1 c.in_err-u-in-Wait.ensures.fault

pub returns-in_err-u-in-Kill-clause-fault : goal.returns-in_err-u-in-Kill-clause-fault
returns-in_err-u-in-Kill-clause-fault c =
    err_fault c.from_residual-in_err-u-in-Kill.result _ word.Kill (words c.args.rest) c.in_err-u-in-Kill.field-0.0
    c.in-Kill.is
    c.from_residual-in_err-u-in-Kill.ensures.1 c.in_err-u-in-Kill.ensures.fault

pub returns-in_err-one_operand-in-Suspend-clause-fault : goal.returns-in_err-one_operand-in-Suspend-clause-fault
returns-in_err-one_operand-in-Suspend-clause-fault c =
    err_fault c.from_residual-in_err-one_operand-in-Suspend.result _ word.Suspend (words c.args.rest)
    c.in_err-one_operand-in-Suspend.field-0.0 c.in-Suspend.is
    c.from_residual-in_err-one_operand-in-Suspend.ensures.1 c.in_err-one_operand-in-Suspend.ensures.fault

pub returns-in_err-u-in-SetPgid-clause-fault : goal.returns-in_err-u-in-SetPgid-clause-fault
returns-in_err-u-in-SetPgid-clause-fault c =
    err_fault c.from_residual-in_err-u-in-SetPgid.result _ word.SetPgid (words c.args.rest)
    c.in_err-u-in-SetPgid.field-0.0 c.in-SetPgid.is
    c.from_residual-in_err-u-in-SetPgid.ensures.1 c.in_err-u-in-SetPgid.ensures.fault

pub returns-in_err-one_operand-in-TcSet-clause-fault : goal.returns-in_err-one_operand-in-TcSet-clause-fault
returns-in_err-one_operand-in-TcSet-clause-fault c =
    err_fault c.from_residual-in_err-one_operand-in-TcSet.result _ word.TcSet (words c.args.rest)
    c.in_err-one_operand-in-TcSet.field-0.0 c.in-TcSet.is
    c.from_residual-in_err-one_operand-in-TcSet.ensures.1 c.in_err-one_operand-in-TcSet.ensures.fault

pub returns-in_err-one_operand-in-TtyFlags-clause-fault : goal.returns-in_err-one_operand-in-TtyFlags-clause-fault
returns-in_err-one_operand-in-TtyFlags-clause-fault c =
    err_fault c.from_residual-in_err-one_operand-in-TtyFlags.result _ word.TtyFlags (words c.args.rest)
    c.in_err-one_operand-in-TtyFlags.field-0.0 c.in-TtyFlags.is
    c.from_residual-in_err-one_operand-in-TtyFlags.ensures.1 c.in_err-one_operand-in-TtyFlags.ensures.fault

pub returns-in_err-u-in-Read-clause-fault : goal.returns-in_err-u-in-Read-clause-fault
returns-in_err-u-in-Read-clause-fault c =
    err_fault c.from_residual-in_err-u-in-Read.result _ word.Read (words c.args.rest) c.in_err-u-in-Read.field-0.0
    c.in-Read.is
    c.from_residual-in_err-u-in-Read.ensures.1 c.in_err-u-in-Read.ensures.fault

pub returns-in_err-u-in-Write-clause-fault : goal.returns-in_err-u-in-Write-clause-fault
returns-in_err-u-in-Write-clause-fault c =
    err_fault c.from_residual-in_err-u-in-Write.result _ word.Write (words c.args.rest)
    c.in_err-u-in-Write.field-0.0 c.in-Write.is
    c.from_residual-in_err-u-in-Write.ensures.1 c.in_err-u-in-Write.ensures.fault
