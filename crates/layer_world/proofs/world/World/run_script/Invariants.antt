use Rattle.std.proofs.Common.{◌≡◌, drop}
use Rattle.layer_world.specs.Scheduled.{IsAt}
use Rattle.layer_world.proofs.world.World.run_script.Given as goal

abbrev pub invariant-loop-line : goal.invariant-loop-line
invariant-loop-line g l =
    (l.self.script ≡ l.fn.self.script)
    × IsAt g.P.Part.posted_of g.P.Part.goes g.P.Whole.opening g.P.Whole.slot_of g.P.Whole.thread_of
    g.P.RelyGuarantee.clause l.self (drop l.line-index l.fn.self.script.directives) l.last.0 l.last.1
