-- A step of a process by its call.
use Rattle.std.proofs.Common.{◌≡◌, ℕ, Option, Some, None, refl, ◌∙◌, ap}
use Rattle.w32_base.specs.declared.instr.Instr.{Instr}
use Rattle.script_spec.specs.declared.script.Script.{Script}
use Rattle.posix_spec.specs.Numbers.{for_value}
use Rattle.posix_spec.specs.State.{Record, PosixState, record_of}
use Rattle.posix_spec.specs.Conditions.{own_call, group_step_call, for_call, for_group_step}
use Rattle.posix_model.specs.Machine.{with_call, called_by, called, group_called_by, group_called}

abbrev pub for_called : Option (Record × Instr) → (Record → Instr → Option PosixState) → Option PosixState
for_called None step = None
for_called (Some c) step = step c.0 c.1

module _ (step : Record → Instr → Option PosixState) where
  with_call_is : (r : Record) (o : Option Instr) → for_value o (step r) ≡ for_called (with_call r o) step
  with_call_is r None = refl
  with_call_is r (Some i) = refl

  called_by_is : (script : Script) (o : Option Record) → for_value o (λ r. for_value (own_call script r) (step r)) ≡
      for_called (called_by script o) step
  called_by_is script None = refl
  called_by_is script (Some r) = with_call_is r (own_call script r)

  group_called_by_is : (script : Script) (o : Option Record) → for_value o (λ r. for_value (group_step_call script r)
      (step r)) ≡ for_called (group_called_by script o) step
  group_called_by_is script None = refl
  group_called_by_is script (Some r) = with_call_is r (group_step_call script r)

  module _ (script : Script) (s : PosixState) (p : ℕ) where
    pub call_none : called script s p ≡ None → for_call script s p step ≡ None
    call_none e = called_by_is script (record_of s p) ∙ ap (λ c. for_called c step) e

    pub call_some : (r : Record) (i : Instr) → called script s p ≡ Some (r, i) → for_call script s p step ≡ step r i
    call_some r i e = called_by_is script (record_of s p) ∙ ap (λ c. for_called c step) e

    pub group_call_none : group_called script s p ≡ None → for_group_step script s p step ≡ None
    group_call_none e = group_called_by_is script (record_of s p) ∙ ap (λ c. for_called c step) e

    pub group_call_some : (r : Record) (i : Instr) → group_called script s p ≡ Some (r, i) → for_group_step script s
        p step ≡ step r i
    group_call_some r i e = group_called_by_is script (record_of s p) ∙ ap (λ c. for_called c step) e
