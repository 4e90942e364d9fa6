-- What is next, as the code says it.
use Rattle.w32_base.specs.declared.instr.Instr.{Instr}
use Rattle.w32_base.specs.declared.instr.Instr.TheVariants as instr
use Rattle.vm_spec.specs.Step.{Upcoming, LocalInstruction, CallInstruction, ImageFault}
use Rattle.proc_vm.specs.declared.next.CallInstr.{CallInstr}
use Rattle.proc_vm.specs.declared.next.CallInstr.TheVariants as call
use Rattle.proc_vm.specs.declared.next.Next.{Next}
use Rattle.proc_vm.specs.declared.next.Next.TheVariants as next

-- the instruction that a call is
abbrev pub instr_of : CallInstr → Instr
instr_of call.GetPid = instr.GetPid
instr_of call.GetPpid = instr.GetPpid
instr_of call.GetPgid = instr.GetPgid
instr_of call.GetSid = instr.GetSid
instr_of call.Fork = instr.Fork
instr_of (call.Exec name) = instr.Exec name
instr_of (call.Exit v) = instr.Exit v
instr_of (call.Wait which flags) = instr.Wait which flags
instr_of (call.Kill target signal) = instr.Kill target signal
instr_of (call.Action signal action) = instr.Action signal action
instr_of (call.Mask change v) = instr.Mask change v
instr_of (call.Suspend v) = instr.Suspend v
instr_of call.Pause = instr.Pause
instr_of call.Return = instr.Return
instr_of (call.SetPgid process group) = instr.SetPgid process group
instr_of call.SetSid = instr.SetSid
instr_of (call.TcSet v) = instr.TcSet v
instr_of call.TcGet = instr.TcGet
instr_of (call.TtyFlags v) = instr.TtyFlags v
instr_of (call.Read address count) = instr.Read address count
instr_of (call.Write address count) = instr.Write address count

-- what the code says is next
abbrev pub shown : Next → Upcoming
shown next.Local = LocalInstruction
shown (next.Call c) = CallInstruction (instr_of c)
shown next.Fault = ImageFault
