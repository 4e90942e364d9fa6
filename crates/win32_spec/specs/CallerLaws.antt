-- What a well-formed state says of the process that makes a call.
use Rattle.std.proofs.Common.{◌≡◌, ℕ, true, Some}
use Rattle.std.proofs.Common.{sym, ap, ◌∙◌, subst}
use Rattle.script_spec.specs.declared.script.Script.{Script}
use Rattle.win32_spec.specs.Handles.{handle_of, AreRisingFrom}
use Rattle.win32_spec.specs.State.{Process, Win32State}
use Rattle.win32_spec.specs.Lookup.{is_alive, process_of}
use Rattle.win32_spec.specs.Named.{handles_of, handles_by}
use Rattle.win32_spec.specs.WellFormed.{IsListed, IsLiveProcess, IsWellFormed}
use Rattle.win32_spec.specs.FormedLaws.{of_live}

module _ (script : Script) (s : Win32State) (w : ℕ) (p : Process) (h : IsWellFormed script s)
    (found : process_of s.processes w ≡ Some p)
    (alive : is_alive p.life ≡ true) where
  pub caller_handles : handles_by s w ≡ p.handles
  caller_handles = ap handles_of found

  pub caller_live : IsLiveProcess script s.objects p
  caller_live = of_live script s.objects p p.life alive (h.formed.process w p found)

  pub caller_rising : AreRisingFrom 1 (handles_by s w)
  caller_rising = subst (AreRisingFrom 1) (sym caller_handles) caller_live.rising

  pub caller_naming : (k names : ℕ) → handle_of (handles_by s w) k ≡ Some names → IsListed s.objects names
  caller_naming k names e = caller_live.naming k names (ap (λ hs. handle_of hs k) (sym caller_handles) ∙ e)
