use Rattle.std.proofs.Common.{◌≡◌, ◌-◌, ◌∷◌, List}
use Rattle.script_spec.specs.declared.script.ScheduleLine.{ScheduleLine}
use Rattle.script_spec.specs.declared.script.ScheduleLine.TheVariants.{Steps}
use Rattle.layer_world.specs.Scheduled.{IsAt}
use Rattle.layer_world.proofs.world.World.take_steps.Given as goal

abbrev pub invariant-loop : goal.invariant-loop
invariant-loop g l =
    (l.self.script ≡ l.fn.self.script)
    × ((lines : List ScheduleLine)
    → IsAt g.P.Part.posted_of g.P.Part.goes g.P.Whole.opening g.P.Whole.slot_of g.P.Whole.thread_of
    g.P.RelyGuarantee.clause l.fn.self (Steps l.fn.turns ∷ lines) l.fn.last.0 l.fn.last.1
    → IsAt g.P.Part.posted_of g.P.Part.goes g.P.Whole.opening g.P.Whole.slot_of g.P.Whole.thread_of
    g.P.RelyGuarantee.clause l.self (Steps (l.fn.turns - l.counter) ∷ lines) l.last.0 l.last.1)
