use Rattle.std.proofs.Common.{None, refl, sym, subst}
use Rattle.win32_spec.specs.MemoryEffects.{HaveRegisters}
use Rattle.win32_spec.specs.ServedOpening.{served-opening}
use Rattle.win32_spec.specs.ValidLaws.{registers-valid}
use Rattle.w32_driven.proofs.driven.Driven.open.Goals as goal

pub invariant_of-result : goal.invariant_of-result
invariant_of-result g c = record {
  served = served-opening g.P.Part.posted_of g.P.Part.goes g.P.Whole.opening g.P.Whole.slot_of g.P.Whole.thread_of
      g.met.P.Whole.begins c.args.script.now
      (record { win32 = c.in_ok-machine.machine.win32; parts = c.in_ok-parts.parts.items; last = None })
      (record {
        opens = c.in_ok-machine.ensures.opening;
        opened = c.in_ok-parts.ensures.opened;
        last = refl;
      });
  places = c.in_ok-parts.ensures.places;
  registers = subst HaveRegisters (sym c.in_ok-machine.ensures.script) (registers-valid c.args.script.now c.requires);
}

pub returns-clause-opening : goal.returns-clause-opening
returns-clause-opening g c = record {
  opens = c.in_ok-machine.ensures.opening;
  opened = c.in_ok-parts.ensures.opened;
  last = refl;
}
