-- Lemmas of an event that was carried out.
use Rattle.std.proofs.Common.{◌≡◌, Bool, true, ap, subst}
use Rattle.w32_base.specs.declared.event.Event.{Event}
use Rattle.script_spec.specs.declared.script.Script.{Script}
use Rattle.posix_spec.specs.Step.{posix_step}
use Rattle.posix_model.specs.declared.machine.Machine.{Machine}
use Rattle.posix_model.specs.Machine.{script_of, state_of, machine_of}
use Rattle.posix_model.specs.Gives.{Gives}
use Rattle.posix_model.specs.Applied.{IsApplied}

pub applied : (old new : Machine) (e : Event) (done : Bool) → done ≡ true →
    Gives (posix_step (script_of old) (state_of old) e) done old new → IsApplied (machine_of old) e (machine_of new)
applied old new e done is gives =
    let stepped : Gives (posix_step (script_of old) (state_of old) e) true old new =
    subst (λ (b : Bool). Gives (posix_step (script_of old) (state_of old) e) b old new) is gives in
    record {
      step = stepped.0;
      limits = ap (λ (s : Script). s.setup.limits) stepped.1;
      programs = ap (λ (s : Script). s.setup.programs) stepped.1;
    }
