use Rattle.std.proofs.Common.{◌≡◌, sym, ap, ◌∙◌, subst}
use Rattle.layer_world.specs.Scheduled.{IsAt}
use Rattle.layer_world.specs.ScheduledLaws.{at-opening}
use Rattle.layer_world.specs.World.{WorldValue}
use Rattle.layer_world.proofs.world.World.before_the_first.Goals as goal

pub returns : goal.returns
returns g c =
    let m = c.self.inside in
    let h = c.self.invariant in
    let w : WorldValue g.row.P.Denot =
    record { script = m.driven.script; state = m.driven.state; entries = m.recorder.entries } in
    let first : IsAt g.P.Part.posted_of g.P.Part.goes g.P.Whole.opening g.P.Whole.slot_of g.P.Whole.thread_of
    g.P.RelyGuarantee.clause w w.script.directives 64 2 =
    at-opening g.P.Part.posted_of g.P.Part.goes g.P.Whole.opening g.P.Whole.slot_of g.P.Whole.thread_of
    g.P.RelyGuarantee.clause w h.past h.posix h.world (ap (λ v. v.entries) c.self.view_is ∙ c.requires) in
    subst (λ v. IsAt g.P.Part.posted_of g.P.Part.goes g.P.Whole.opening g.P.Whole.slot_of g.P.Whole.thread_of
    g.P.RelyGuarantee.clause v v.script.directives c.new.result c.new-2.result) c.self.view_is
    (subst (λ n. IsAt g.P.Part.posted_of g.P.Part.goes g.P.Whole.opening g.P.Whole.slot_of g.P.Whole.thread_of
    g.P.RelyGuarantee.clause w w.script.directives c.new.result n) (sym c.new-2.ensures)
    (subst (λ n. IsAt g.P.Part.posted_of g.P.Part.goes g.P.Whole.opening g.P.Whole.slot_of g.P.Whole.thread_of
    g.P.RelyGuarantee.clause w w.script.directives n 2) (sym c.new.ensures) first))
