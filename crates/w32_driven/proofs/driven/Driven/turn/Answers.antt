use Rattle.std.proofs.Common.{None, refl, sym, subst}
use Rattle.w32_base.specs.declared.entry.Directive.TheVariants as directive
use Rattle.w32_base.specs.declared.entry.Outcome.TheVariants as outcome
use Rattle.win32_spec.specs.DrivenLaws.{driven_step}
use Rattle.win32_spec.specs.MemoryEffects.{HaveRegisters}
use Rattle.win32_spec.specs.ServedSteps.{served-step}
use Rattle.w32_driven.specs.DrivenTurns.{called_by, came_by, DoneBy}
use Rattle.w32_machine.specs.Turning.{IsNextCall}
use Rattle.w32_driven.proofs.DrivenSteps.{done-step, idle-step}
use Rattle.w32_driven.proofs.driven.Driven.turn.Goals as goal

pub returns-in_default-clause-driven : goal.returns-in_default-clause-driven
returns-in_default-clause-driven g c =
    rw (← c.self.view_is)
    (idle-step g.P.Part.posted_of g.P.Part.goes g.P.Whole.opening g.P.Whole.slot_of g.P.Whole.thread_of
    c.self.inside.machine.script
    (record { win32 = c.self.inside.machine.win32; parts = c.self.inside.parts.items; last = c.self.inside.last })
    (record { win32 = c.self.inside.machine.win32; parts = c.self.inside.parts.items; last = None })
    c.args.slot c.args.thread (rw c.in_default.is at c.next_call.ensures).idle refl refl refl)

pub returns-in_default-clause-step : goal.returns-in_default-clause-step
returns-in_default-clause-step g c =
    rw (← c.self.view_is)
    (driven_step g.P.Part.posted_of g.P.Part.goes g.P.Whole.opening g.P.Whole.slot_of g.P.Whole.thread_of
    (λ p q o n s r a went. g.met.P.Part.keeps_lengths p q o n s r a (g.met.P.Whole.is_never_done p) went)
    c.self.inside.machine.script
    (record { win32 = c.self.inside.machine.win32; parts = c.self.inside.parts.items; last = c.self.inside.last })
    (directive.Turn c.args.slot c.args.thread) None outcome.Idle
    (record { win32 = c.self.inside.machine.win32; parts = c.self.inside.parts.items; last = None })
    (idle-step g.P.Part.posted_of g.P.Part.goes g.P.Whole.opening g.P.Whole.slot_of g.P.Whole.thread_of
    c.self.inside.machine.script
    (record { win32 = c.self.inside.machine.win32; parts = c.self.inside.parts.items; last = c.self.inside.last })
    (record { win32 = c.self.inside.machine.win32; parts = c.self.inside.parts.items; last = None })
    c.args.slot c.args.thread (rw c.in_default.is at c.next_call.ensures).idle refl refl refl))

pub act-turned-requires-clause-call : goal.act-turned-requires-clause-call
act-turned-requires-clause-call g c =
    subst (λ a. IsNextCall c.self.inside.machine a c.in-Some.next.0.thread c.in-Some.next.0 c.in-Some.next.1)
    (sym c.in-Some.ensures.slot_is)
    (subst (λ b. IsNextCall c.self.inside.machine c.args.slot b c.in-Some.next.0 c.in-Some.next.1)
    (sym c.in-Some.ensures.thread_is) c.in-Some.ensures)

pub invariant_of-self-2 : goal.invariant_of-self-2
invariant_of-self-2 g c = record {
  served = served-step g.P.Part.posted_of g.P.Part.goes g.P.Whole.opening g.P.Whole.slot_of g.P.Whole.thread_of
      g.met.P.Whole.begins g.met.P.Whole.keeps_slot g.met.P.Whole.keeps_thread
      (λ p q o n s r a went. g.met.P.Part.keeps_lengths p q o n s r a (g.met.P.Whole.is_never_done p) went)
      c.self.inside.machine.script c.self.invariant.registers
      (record { win32 = c.self.inside.machine.win32; parts = c.self.inside.parts.items; last = c.self.inside.last })
      c.in-Some.ensures.formed c.self.invariant.served
      (record {
        win32 = c.act-turned.new.machine.win32;
        parts = c.act-turned.new.parts.items;
        last =
            c.event-self-inside.result;
      })
      (directive.Turn c.args.slot c.args.thread) (called_by c.act-turned.result) (came_by c.act-turned.result)
      (done-step g.P.Part.posted_of g.P.Part.goes g.P.Whole.opening g.P.Whole.slot_of g.P.Whole.thread_of
      c.self.inside.machine.script
      (record { win32 = c.self.inside.machine.win32; parts = c.self.inside.parts.items; last = c.self.inside.last })
      (record {
        win32 = c.act-turned.new.machine.win32;
        parts = c.act-turned.new.parts.items;
        last =
            c.event-self-inside.result;
      })
      c.args.slot c.args.thread c.act-turned.result c.in-Some.ensures.ready c.event-self-inside.ensures
      (subst (λ a. DoneBy g.P.Part.posted_of g.P.Part.goes g.P.Whole.opening g.P.Whole.slot_of
      g.P.Whole.thread_of c.self.inside.machine.script
      c.self.inside.machine.win32 c.self.inside.parts.items a c.args.thread c.act-turned.result
      c.act-turned.new.machine.win32 c.act-turned.new.parts.items) c.in-Some.ensures.slot_is
      (subst (λ b. DoneBy g.P.Part.posted_of g.P.Part.goes g.P.Whole.opening g.P.Whole.slot_of
      g.P.Whole.thread_of c.self.inside.machine.script
      c.self.inside.machine.win32 c.self.inside.parts.items c.in-Some.next.0.slot b c.act-turned.result
      c.act-turned.new.machine.win32 c.act-turned.new.parts.items) c.in-Some.ensures.thread_is
      c.act-turned.ensures.turned)));
  places = c.act-turned.ensures.places;
  registers = subst HaveRegisters (sym c.act-turned.ensures.script) c.self.invariant.registers;
}

pub returns-clause-driven : goal.returns-clause-driven
returns-clause-driven g c =
    rw (← c.self.view_is)
    (done-step g.P.Part.posted_of g.P.Part.goes g.P.Whole.opening g.P.Whole.slot_of g.P.Whole.thread_of
    c.self.inside.machine.script
    (record { win32 = c.self.inside.machine.win32; parts = c.self.inside.parts.items; last = c.self.inside.last })
    (record {
      win32 = c.act-turned.new.machine.win32;
      parts = c.act-turned.new.parts.items;
      last =
          c.event-self-inside.result;
    })
    c.args.slot c.args.thread c.act-turned.result c.in-Some.ensures.ready c.event-self-inside.ensures
    (subst (λ a. DoneBy g.P.Part.posted_of g.P.Part.goes g.P.Whole.opening g.P.Whole.slot_of
    g.P.Whole.thread_of c.self.inside.machine.script
    c.self.inside.machine.win32 c.self.inside.parts.items a c.args.thread c.act-turned.result
    c.act-turned.new.machine.win32 c.act-turned.new.parts.items) c.in-Some.ensures.slot_is
    (subst (λ b. DoneBy g.P.Part.posted_of g.P.Part.goes g.P.Whole.opening g.P.Whole.slot_of
    g.P.Whole.thread_of c.self.inside.machine.script
    c.self.inside.machine.win32 c.self.inside.parts.items c.in-Some.next.0.slot b c.act-turned.result
    c.act-turned.new.machine.win32 c.act-turned.new.parts.items) c.in-Some.ensures.thread_is
    c.act-turned.ensures.turned)))

pub returns-clause-step : goal.returns-clause-step
returns-clause-step g c =
    rw (← c.self.view_is)
    (driven_step g.P.Part.posted_of g.P.Part.goes g.P.Whole.opening g.P.Whole.slot_of g.P.Whole.thread_of
    (λ p q o n s r a went. g.met.P.Part.keeps_lengths p q o n s r a (g.met.P.Whole.is_never_done p) went)
    c.self.inside.machine.script
    (record { win32 = c.self.inside.machine.win32; parts = c.self.inside.parts.items; last = c.self.inside.last })
    (directive.Turn c.args.slot c.args.thread) (called_by c.act-turned.result) (came_by c.act-turned.result)
    (record {
      win32 = c.act-turned.new.machine.win32;
      parts = c.act-turned.new.parts.items;
      last =
          c.event-self-inside.result;
    })
    (done-step g.P.Part.posted_of g.P.Part.goes g.P.Whole.opening g.P.Whole.slot_of g.P.Whole.thread_of
    c.self.inside.machine.script
    (record { win32 = c.self.inside.machine.win32; parts = c.self.inside.parts.items; last = c.self.inside.last })
    (record {
      win32 = c.act-turned.new.machine.win32;
      parts = c.act-turned.new.parts.items;
      last =
          c.event-self-inside.result;
    })
    c.args.slot c.args.thread c.act-turned.result c.in-Some.ensures.ready c.event-self-inside.ensures
    (subst (λ a. DoneBy g.P.Part.posted_of g.P.Part.goes g.P.Whole.opening g.P.Whole.slot_of
    g.P.Whole.thread_of c.self.inside.machine.script
    c.self.inside.machine.win32 c.self.inside.parts.items a c.args.thread c.act-turned.result
    c.act-turned.new.machine.win32 c.act-turned.new.parts.items) c.in-Some.ensures.slot_is
    (subst (λ b. DoneBy g.P.Part.posted_of g.P.Part.goes g.P.Whole.opening g.P.Whole.slot_of
    g.P.Whole.thread_of c.self.inside.machine.script
    c.self.inside.machine.win32 c.self.inside.parts.items c.in-Some.next.0.slot b c.act-turned.result
    c.act-turned.new.machine.win32 c.act-turned.new.parts.items) c.in-Some.ensures.thread_is
    c.act-turned.ensures.turned))))
