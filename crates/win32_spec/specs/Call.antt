-- What a Win32 call of thread t of process w answers, and what it changes. Where the code may choose the number of an
-- object, the number is any fresh one; all else is determined.
use Rattle.std.specs.Prelude.{ℕ}
use Rattle.w32_base.specs.declared.call.Call.{Call}
use Rattle.w32_base.specs.declared.call.Call.TheVariants as call
use Rattle.w32_base.specs.declared.call.Reply.{Reply}
use Rattle.script_spec.specs.declared.script.Script.{Script}
use Rattle.win32_spec.specs.State.{Win32State}
use Rattle.win32_spec.specs.WordCalls.{LoadStep, ExchangeStep, AddStep}
use Rattle.win32_spec.specs.ProcessCalls.{CreateStep, ResumeStep, SuspendStep, OpenStep, ExitCodeStep, TerminateStep}
use Rattle.win32_spec.specs.ProcessCalls.{ExitSelfStep}
use Rattle.win32_spec.specs.MemoryCalls.{RunStep, ReadMemoryStep, WriteMemoryStep}
use Rattle.win32_spec.specs.Placing.{ModuleStep}
use Rattle.win32_spec.specs.ObjectCalls.{EventStep, SetStep, ResetStep, MutexStep, ReleaseStep, PipeStep, PutStep}
use Rattle.win32_spec.specs.ObjectCalls.{GetStep}
use Rattle.win32_spec.specs.HandleCalls.{DupStep, CloseStep, WaitStep}
use Rattle.win32_spec.specs.TerminalCalls.{TtyStep}

abbrev pub CallStep : Script → Win32State → ℕ → ℕ → Call → Reply → Win32State → Type 0
CallStep script s w t call.Run r new = RunStep script s w r new
CallStep script s w t (call.Load h i) r new = LoadStep s w h i r new
CallStep script s w t (call.CompareExchange h i old n) r new = ExchangeStep s w h i old n r new
CallStep script s w t (call.FetchAdd h i n) r new = AddStep s w h i n r new
CallStep script s w t (call.Create program_no list) r new = CreateStep script s w program_no list r new
CallStep script s w t (call.Resume h x) r new = ResumeStep s w h x r new
CallStep script s w t (call.Suspend h x) r new = SuspendStep s w h x r new
CallStep script s w t (call.Open v) r new = OpenStep s w v r new
CallStep script s w t (call.ExitCode h) r new = ExitCodeStep s w h r new
CallStep script s w t (call.Terminate h code) r new = TerminateStep s w h code r new
CallStep script s w t (call.ExitSelf code) r new = ExitSelfStep s w code r new
CallStep script s w t (call.ReadMemory h region place own_region own_place count) r new =
    ReadMemoryStep s w h region place own_region own_place count r new
CallStep script s w t (call.WriteMemory h region place own_region own_place count) r new =
    WriteMemoryStep s w h region place own_region own_place count r new
CallStep script s w t (call.Module m) r new = ModuleStep script s w m r new
CallStep script s w t (call.Event manual signalled) r new = EventStep s w manual signalled r new
CallStep script s w t (call.Set h) r new = SetStep s w h r new
CallStep script s w t (call.Reset h) r new = ResetStep s w h r new
CallStep script s w t (call.Mutex owned) r new = MutexStep s w t owned r new
CallStep script s w t (call.Release h) r new = ReleaseStep s w t h r new
CallStep script s w t call.Pipe r new = PipeStep s w r new
CallStep script s w t (call.Put h b) r new = PutStep s w h b r new
CallStep script s w t (call.Get h) r new = GetStep s w h r new
CallStep script s w t (call.Dup h n) r new = DupStep s w h n r new
CallStep script s w t (call.Close h) r new = CloseStep s w h r new
CallStep script s w t (call.WaitAny list) r new = WaitStep s w t list r new
CallStep script s w t (call.Tty h op) r new = TtyStep s w h op r new
