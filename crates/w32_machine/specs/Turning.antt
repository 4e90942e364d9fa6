-- What a turn of a thread comes to.
use Rattle.std.specs.Prelude.{◌≡◌, ℕ, true, false}
use Rattle.w32_base.specs.declared.call.Call.{Call}
use Rattle.win32_spec.specs.State.{Thread, Process, Win32State}
use Rattle.win32_spec.specs.Named.{handles_by}
use Rattle.win32_spec.specs.Ready.{is_ready, may_go}
use Rattle.win32_spec.specs.Run.{IsThread, CarriesOut}
use Rattle.win32_spec.specs.WellFormed.{IsWellFormed}
use Rattle.w32_machine.specs.declared.caller.Caller.{Caller}
use Rattle.w32_machine.specs.declared.machine.turn.Turned.{Turned}
use Rattle.w32_machine.specs.declared.machine.turn.Turned.TheVariants.{Idle, Done}
use Rattle.w32_machine.specs.Contract.{IsCaller}
use Rattle.w32_machine.specs.Running.{Running}

-- a thread that isn't ready does nothing, and one that is carries out its posted call
abbrev pub Turns : Running → ℕ → ℕ → Turned → Win32State → Type 0
Turns old slot t Idle new = (is_ready old.win32 slot t ≡ false) × (new ≡ old.win32)
Turns old slot t (Done r) new =
    (is_ready old.win32 slot t ≡ true) × CarriesOut old.script old.win32 slot t r new

-- the thread isn't ready
pub record IsNoCall (now : Running) (slot t : ℕ) : Type 0 where
  pub formed : IsWellFormed now.script now.win32
  pub idle : is_ready now.win32 slot t ≡ false

-- the thread of this place is ready, and this is its posted call
pub record IsNextCall (now : Running) (slot t : ℕ) (by : Caller) (call : Call) : Type 0 where
  pub formed : IsWellFormed now.script now.win32
  pub ready : is_ready now.win32 slot t ≡ true
  pub slot_is : by.slot ≡ slot
  pub thread_is : by.thread ≡ t
  pub caller : IsCaller now.win32 by
  pub goes : may_go now.win32 by.process by.thread (handles_by now.win32 by.process) call ≡ true
  pub process : Process
  pub thread : Thread
  pub there : IsThread now.win32 slot t process thread
  pub number : process.number ≡ by.process
  pub posted : call ≡ thread.posted
