use Rattle.std.proofs.Common.{ap, ◌∙◌, subst, IsTrue, ◌↔◌}
use Rattle.win32_spec.specs.Ready.{IsQuiet}
use Rattle.layer_world.proofs.world.World.quiet.Goals as goal

pub returns : goal.returns
returns g c =
    subst (λ s. IsTrue c.quiet.result ↔ IsQuiet s)
    (c.machine.ensures.state ∙ ap (λ v. v.state.win32) c.self.view_is) c.quiet.ensures
