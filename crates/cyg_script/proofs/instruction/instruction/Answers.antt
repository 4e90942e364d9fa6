-- The answers; their proofs stand in the modules below.
mod Faults
mod Alone
mod Operands
use Rattle.cyg_script.proofs.instruction.instruction.Goals as goal

pub returns-in_err-r-in-Set-clause-fault : goal.returns-in_err-r-in-Set-clause-fault
returns-in_err-r-in-Set-clause-fault = Faults.returns-in_err-r-in-Set-clause-fault

pub returns-in_err-r-in-Add-clause-fault : goal.returns-in_err-r-in-Add-clause-fault
returns-in_err-r-in-Add-clause-fault = Faults.returns-in_err-r-in-Add-clause-fault

pub returns-in_err-r-in-Load-clause-fault : goal.returns-in_err-r-in-Load-clause-fault
returns-in_err-r-in-Load-clause-fault = Faults.returns-in_err-r-in-Load-clause-fault

pub returns-in_err-u-in-Store-clause-fault : goal.returns-in_err-u-in-Store-clause-fault
returns-in_err-u-in-Store-clause-fault = Faults.returns-in_err-u-in-Store-clause-fault

pub returns-in_err-one_operand-in-Push-clause-fault : goal.returns-in_err-one_operand-in-Push-clause-fault
returns-in_err-one_operand-in-Push-clause-fault = Faults.returns-in_err-one_operand-in-Push-clause-fault

pub returns-in_err-one_register-in-Pop-clause-fault : goal.returns-in_err-one_register-in-Pop-clause-fault
returns-in_err-one_register-in-Pop-clause-fault = Faults.returns-in_err-one_register-in-Pop-clause-fault

pub returns-in_err-one_place-in-Jump-clause-fault : goal.returns-in_err-one_place-in-Jump-clause-fault
returns-in_err-one_place-in-Jump-clause-fault = Faults.returns-in_err-one_place-in-Jump-clause-fault

pub returns-in_err-v-in-JumpZero-clause-fault : goal.returns-in_err-v-in-JumpZero-clause-fault
returns-in_err-v-in-JumpZero-clause-fault = Faults.returns-in_err-v-in-JumpZero-clause-fault

pub returns-in_err-v-in-JumpNegative-clause-fault : goal.returns-in_err-v-in-JumpNegative-clause-fault
returns-in_err-v-in-JumpNegative-clause-fault = Faults.returns-in_err-v-in-JumpNegative-clause-fault

pub returns-in_err-one_name-in-Exec-clause-fault : goal.returns-in_err-one_name-in-Exec-clause-fault
returns-in_err-one_name-in-Exec-clause-fault = Faults.returns-in_err-one_name-in-Exec-clause-fault

pub returns-in_err-one_operand-in-Exit-clause-fault : goal.returns-in_err-one_operand-in-Exit-clause-fault
returns-in_err-one_operand-in-Exit-clause-fault = Faults.returns-in_err-one_operand-in-Exit-clause-fault

pub returns-in_err-u-in-Wait-clause-fault : goal.returns-in_err-u-in-Wait-clause-fault
returns-in_err-u-in-Wait-clause-fault = Faults.returns-in_err-u-in-Wait-clause-fault

pub returns-in_err-u-in-Kill-clause-fault : goal.returns-in_err-u-in-Kill-clause-fault
returns-in_err-u-in-Kill-clause-fault = Faults.returns-in_err-u-in-Kill-clause-fault

pub returns-in_err-one_operand-in-Suspend-clause-fault : goal.returns-in_err-one_operand-in-Suspend-clause-fault
returns-in_err-one_operand-in-Suspend-clause-fault = Faults.returns-in_err-one_operand-in-Suspend-clause-fault

pub returns-in_err-u-in-SetPgid-clause-fault : goal.returns-in_err-u-in-SetPgid-clause-fault
returns-in_err-u-in-SetPgid-clause-fault = Faults.returns-in_err-u-in-SetPgid-clause-fault

pub returns-in_err-one_operand-in-TcSet-clause-fault : goal.returns-in_err-one_operand-in-TcSet-clause-fault
returns-in_err-one_operand-in-TcSet-clause-fault = Faults.returns-in_err-one_operand-in-TcSet-clause-fault

pub returns-in_err-one_operand-in-TtyFlags-clause-fault : goal.returns-in_err-one_operand-in-TtyFlags-clause-fault
returns-in_err-one_operand-in-TtyFlags-clause-fault = Faults.returns-in_err-one_operand-in-TtyFlags-clause-fault

pub returns-in_err-u-in-Read-clause-fault : goal.returns-in_err-u-in-Read-clause-fault
returns-in_err-u-in-Read-clause-fault = Faults.returns-in_err-u-in-Read-clause-fault

pub returns-in_err-u-in-Write-clause-fault : goal.returns-in_err-u-in-Write-clause-fault
returns-in_err-u-in-Write-clause-fault = Faults.returns-in_err-u-in-Write-clause-fault

pub returns-in_ok-r-in-Set : goal.returns-in_ok-r-in-Set
returns-in_ok-r-in-Set = Operands.returns-in_ok-r-in-Set

pub returns-in_ok-r-in-Add : goal.returns-in_ok-r-in-Add
returns-in_ok-r-in-Add = Operands.returns-in_ok-r-in-Add

pub returns-in_ok-r-in-Load : goal.returns-in_ok-r-in-Load
returns-in_ok-r-in-Load = Operands.returns-in_ok-r-in-Load

pub returns-in_ok-u-in-Store : goal.returns-in_ok-u-in-Store
returns-in_ok-u-in-Store = Operands.returns-in_ok-u-in-Store

pub returns-in_ok-one_operand-in-Push : goal.returns-in_ok-one_operand-in-Push
returns-in_ok-one_operand-in-Push = Operands.returns-in_ok-one_operand-in-Push

pub returns-in_ok-one_register-in-Pop : goal.returns-in_ok-one_register-in-Pop
returns-in_ok-one_register-in-Pop = Operands.returns-in_ok-one_register-in-Pop

pub returns-in_ok-one_place-in-Jump : goal.returns-in_ok-one_place-in-Jump
returns-in_ok-one_place-in-Jump = Operands.returns-in_ok-one_place-in-Jump

pub returns-in_ok-v-in-JumpZero : goal.returns-in_ok-v-in-JumpZero
returns-in_ok-v-in-JumpZero = Operands.returns-in_ok-v-in-JumpZero

pub returns-in_ok-v-in-JumpNegative : goal.returns-in_ok-v-in-JumpNegative
returns-in_ok-v-in-JumpNegative = Operands.returns-in_ok-v-in-JumpNegative

pub returns-in-GetPid : goal.returns-in-GetPid
returns-in-GetPid = Alone.returns-in-GetPid

pub returns-in-GetPpid : goal.returns-in-GetPpid
returns-in-GetPpid = Alone.returns-in-GetPpid

pub returns-in-GetPgid : goal.returns-in-GetPgid
returns-in-GetPgid = Alone.returns-in-GetPgid

pub returns-in-GetSid : goal.returns-in-GetSid
returns-in-GetSid = Alone.returns-in-GetSid

pub returns-in-Fork : goal.returns-in-Fork
returns-in-Fork = Alone.returns-in-Fork

pub returns-in_ok-one_name-in-Exec : goal.returns-in_ok-one_name-in-Exec
returns-in_ok-one_name-in-Exec = Operands.returns-in_ok-one_name-in-Exec

pub returns-in_ok-one_operand-in-Exit : goal.returns-in_ok-one_operand-in-Exit
returns-in_ok-one_operand-in-Exit = Operands.returns-in_ok-one_operand-in-Exit

pub returns-in_ok-u-in-Wait : goal.returns-in_ok-u-in-Wait
returns-in_ok-u-in-Wait = Operands.returns-in_ok-u-in-Wait

pub returns-in_ok-u-in-Kill : goal.returns-in_ok-u-in-Kill
returns-in_ok-u-in-Kill = Operands.returns-in_ok-u-in-Kill

pub returns-in-Action : goal.returns-in-Action
returns-in-Action = Operands.returns-in-Action

pub returns-in-Mask : goal.returns-in-Mask
returns-in-Mask = Operands.returns-in-Mask

pub returns-in_ok-one_operand-in-Suspend : goal.returns-in_ok-one_operand-in-Suspend
returns-in_ok-one_operand-in-Suspend = Operands.returns-in_ok-one_operand-in-Suspend

pub returns-in-Pause : goal.returns-in-Pause
returns-in-Pause = Alone.returns-in-Pause

pub returns-in-Return : goal.returns-in-Return
returns-in-Return = Alone.returns-in-Return

pub returns-in_ok-u-in-SetPgid : goal.returns-in_ok-u-in-SetPgid
returns-in_ok-u-in-SetPgid = Operands.returns-in_ok-u-in-SetPgid

pub returns-in-SetSid : goal.returns-in-SetSid
returns-in-SetSid = Alone.returns-in-SetSid

pub returns-in_ok-one_operand-in-TcSet : goal.returns-in_ok-one_operand-in-TcSet
returns-in_ok-one_operand-in-TcSet = Operands.returns-in_ok-one_operand-in-TcSet

pub returns-in-TcGet : goal.returns-in-TcGet
returns-in-TcGet = Alone.returns-in-TcGet

pub returns-in_ok-one_operand-in-TtyFlags : goal.returns-in_ok-one_operand-in-TtyFlags
returns-in_ok-one_operand-in-TtyFlags = Operands.returns-in_ok-one_operand-in-TtyFlags

pub returns-in_ok-u-in-Read : goal.returns-in_ok-u-in-Read
returns-in_ok-u-in-Read = Operands.returns-in_ok-u-in-Read

pub returns-in_ok-u-in-Write : goal.returns-in_ok-u-in-Write
returns-in_ok-u-in-Write = Operands.returns-in_ok-u-in-Write
