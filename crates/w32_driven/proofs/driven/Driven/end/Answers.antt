use Rattle.std.proofs.Common.{None, refl, sym, subst}
use Rattle.w32_base.specs.declared.entry.Directive.TheVariants as directive
use Rattle.win32_spec.specs.MemoryEffects.{HaveRegisters}
use Rattle.win32_spec.specs.ServedSteps.{served-step}
use Rattle.w32_machine.specs.Ending.{outcome_of_end}
use Rattle.w32_driven.proofs.Following.{all-follow}
use Rattle.w32_driven.proofs.PartTurns.{end-slots}
use Rattle.w32_driven.proofs.driven.Driven.end.Goals as goal

pub invariant_of-self : goal.invariant_of-self
invariant_of-self g c =
    let m = c.self.inside in
    let follow = all-follow g.P.Part.posted_of g.P.Part.goes g.P.Whole.opening g.P.Whole.slot_of g.P.Whole.thread_of
    m.machine.win32
    c.end-ended.new.self.win32 m.parts.items c.follow.new.parts.items c.args.slot c.stands_in-before.result
    c.stands_in-before.ensures.value
    (end-slots m.machine.script m.machine.win32 c.stands_in-before.ensures.formed.formed c.args.slot
    (outcome_of_end c.end-ended.result) c.end-ended.new.self.win32 c.end-ended.ensures.step.1)
    c.follow.ensures.others c.follow.ensures.here in
    record {
      served = served-step g.P.Part.posted_of g.P.Part.goes g.P.Whole.opening g.P.Whole.slot_of g.P.Whole.thread_of
          g.met.P.Whole.begins g.met.P.Whole.keeps_slot g.met.P.Whole.keeps_thread
          (λ p q o n s r a went. g.met.P.Part.keeps_lengths p q o n s r a (g.met.P.Whole.is_never_done p) went)
          m.machine.script c.self.invariant.registers
          (record { win32 = m.machine.win32; parts = m.parts.items; last = m.last })
          c.stands_in-before.ensures.formed c.self.invariant.served
          (record { win32 = c.end-ended.new.self.win32; parts = c.follow.new.parts.items; last = None })
          (directive.End c.args.slot) None (outcome_of_end c.end-ended.result)
          (refl, c.end-ended.ensures.step.1, refl, follow);
      places = c.follow.ensures.places;
      registers = subst HaveRegisters (sym c.end-ended.ensures.script) c.self.invariant.registers;
    }

pub returns-clause-driven : goal.returns-clause-driven
returns-clause-driven g c =
    let m = c.self.inside in
    rw (← c.self.view_is) (
      refl,
      c.end-ended.ensures.step.1,
      refl,
      all-follow g.P.Part.posted_of g.P.Part.goes g.P.Whole.opening g.P.Whole.slot_of g.P.Whole.thread_of
          m.machine.win32
          c.end-ended.new.self.win32 m.parts.items c.follow.new.parts.items c.args.slot c.stands_in-before.result
          c.stands_in-before.ensures.value
          (end-slots m.machine.script m.machine.win32 c.stands_in-before.ensures.formed.formed c.args.slot
          (outcome_of_end c.end-ended.result) c.end-ended.new.self.win32 c.end-ended.ensures.step.1)
          c.follow.ensures.others c.follow.ensures.here,
    )
