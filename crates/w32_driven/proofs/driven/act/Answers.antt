use Rattle.std.proofs.Common.{◌∙◌, sym, subst}
use Rattle.win32_spec.specs.Driven.{PartGoes}
use Rattle.w32_driven.proofs.PartTurns.{mid_thread, part_stays, turn_ends, turn_goes}
use Rattle.w32_driven.proofs.Alike.{is-unlike, is-alike, some_there}
use Rattle.w32_driven.proofs.driven.act.Goals as goal

pub returns-then-ne-clause-turned : goal.returns-then-ne-clause-turned
returns-then-ne-clause-turned g c =
    turn_ends c.args.machine.now.script c.requires.serving.registers c.args.machine.now.win32 c.requires.call.formed
    c.args.by.slot c.args.by.thread c.args.by.process c.requires.call.process c.requires.call.thread
    c.requires.call.there c.requires.call.number c.args.call c.requires.call.posted c.carry_out-reply.result
    c.carry_out-reply.new.machine.win32 c.carry_out-reply.ensures.step
    g.P.Part.posted_of g.P.Part.goes g.P.Whole.opening g.P.Whole.slot_of g.P.Whole.thread_of c.args.parts.now.items
    c.carry_out-reply.new.parts.items c.requires.serving.served c.carry_out-reply.ensures.follow
    (λ e. is-unlike c.in_slot.result c.args.by.process (sym c.ne.ensures ∙ c.if-ne.true) (c.in_slot.ensures ∙ e))

pub go_on-event-requires : goal.go_on-event-requires
go_on-event-requires g c =
    let stands = sym c.in_slot.ensures
    ∙ is-alike c.in_slot.result c.args.by.process (sym c.ne.ensures ∙ c.if-ne.false) in
    record {
      caller = record { process = stands; thread = c.requires.call.caller.thread };
      thread = mid_thread c.args.machine.now.script c.requires.serving.registers c.args.machine.now.win32
          c.requires.call.formed
          c.args.by.slot c.args.by.thread c.args.by.process c.requires.call.process c.requires.call.thread
          c.requires.call.there c.requires.call.number c.args.call c.requires.call.posted c.carry_out-reply.result
          c.carry_out-reply.new.machine.win32 c.carry_out-reply.ensures.step stands;
      part = some_there (part_stays c.args.machine.now.script c.requires.serving.registers c.args.machine.now.win32
          c.requires.call.formed
          c.args.by.slot c.args.by.thread c.args.by.process c.requires.call.process c.requires.call.thread
          c.requires.call.there c.requires.call.number c.args.call c.requires.call.posted c.carry_out-reply.result
          c.carry_out-reply.new.machine.win32 c.carry_out-reply.ensures.step
          g.P.Part.posted_of g.P.Part.goes g.P.Whole.opening g.P.Whole.slot_of g.P.Whole.thread_of
          c.args.parts.now.items
          c.carry_out-reply.new.parts.items c.requires.serving.served c.carry_out-reply.ensures.follow stands);
      places = c.carry_out-reply.ensures.places;
    }

pub returns-clause-turned : goal.returns-clause-turned
returns-clause-turned g c =
    let stands = sym c.in_slot.ensures
    ∙ is-alike c.in_slot.result c.args.by.process (sym c.ne.ensures ∙ c.if-ne.false) in
    turn_goes c.args.machine.now.script c.requires.serving.registers c.args.machine.now.win32 c.requires.call.formed
    c.args.by.slot c.args.by.thread c.args.by.process c.requires.call.process c.requires.call.thread
    c.requires.call.there c.requires.call.number c.args.call c.requires.call.posted c.carry_out-reply.result
    c.carry_out-reply.new.machine.win32 c.carry_out-reply.ensures.step
    g.P.Part.posted_of g.P.Part.goes g.P.Whole.opening g.P.Whole.slot_of g.P.Whole.thread_of c.args.parts.now.items
    c.carry_out-reply.new.parts.items c.requires.serving.served c.carry_out-reply.ensures.follow
    stands c.go_on-event.new.machine.win32 c.go_on-event.new.parts.items c.go_on-event.result
    c.go_on-event.ensures.went.part c.go_on-event.ensures.went.next c.go_on-event.ensures.went.was
    (subst (λ k. PartGoes g.P.Part.posted_of g.P.Part.goes g.P.Whole.opening g.P.Whole.slot_of g.P.Whole.thread_of k
    c.carry_out-reply.new.machine.win32 c.args.by.process c.args.by.thread c.go_on-event.ensures.went.part
    c.carry_out-reply.result c.go_on-event.result c.go_on-event.ensures.went.next c.go_on-event.new.machine.win32)
    c.carry_out-reply.ensures.script c.go_on-event.ensures.went.went)
    c.go_on-event.ensures.went.here
    c.go_on-event.ensures.went.others
