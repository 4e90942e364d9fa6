use Rattle.std.proofs.Common.{refl, ap, ◌∙◌, arith}
use Rattle.w32_machine.specs.Contract.{key_lines}
use Rattle.layer_world.specs.KeptLaws.{opening-world-as, opening-kept-as}
use Rattle.layer_world.proofs.world.World.open.Goals as goal

pub invariant_of-result : goal.invariant_of-result
invariant_of-result g c =
    opening-kept-as g.P.Part.posted_of g.P.Part.goes g.P.Whole.opening g.P.Whole.slot_of g.P.Whole.thread_of
    g.P.RelyGuarantee.clause g.P.RelyGuarantee.serves g.met.P.Whole.begins g.met.P.RelyGuarantee.owes c.args.script.now
    c.requires.valid c.requires.serves c.in_ok-open.field-0.state c.in_ok-open.ensures.opening
    c.in_ok-open.field-0.script c.in_ok-with_room.field-0.entries c.in_ok-open.ensures.script
    (ap (λ r. r.entries) c.in_ok-with_room.ensures) c.in_ok-with_room.field-0.room c.args.script.now.setup.limits.budget
    c.keys_in.result refl (omega (arith, ap (λ r. r.room) c.in_ok-with_room.ensures))
    (c.keys_in.ensures ∙ ap key_lines c.as_slice.ensures.value)

pub returns : goal.returns
returns g c =
    opening-world-as g.P.Part.posted_of g.P.Part.goes g.P.Whole.opening g.P.Whole.slot_of g.P.Whole.thread_of
    g.P.RelyGuarantee.clause g.P.RelyGuarantee.serves g.met.P.Whole.begins g.met.P.RelyGuarantee.owes c.args.script.now
    c.requires.valid c.requires.serves c.in_ok-open.field-0.state c.in_ok-open.ensures.opening
    c.in_ok-open.field-0.script c.in_ok-with_room.field-0.entries c.in_ok-open.ensures.script
    (ap (λ r. r.entries) c.in_ok-with_room.ensures)
