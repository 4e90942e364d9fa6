-- What a contract sees of a machine.
use Rattle.script_spec.specs.declared.script.Script.{Script}
use Rattle.win32_spec.specs.State.{Win32State}

-- the script that it runs, and its state
pub record Running : Type 0 where
  pub script : Script
  pub win32 : Win32State
