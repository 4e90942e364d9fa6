use Rattle.std.proofs.Common.{◌≡◌, ◌∙◌, inl, inr, sym, ap, arith}
use Rattle.std.proofs.lemmas.Bool.{cases_lt}
use Rattle.win32_spec.specs.Ready.{is_ready}
use Rattle.w32_machine.proofs.Readiness.{past-slots}
use Rattle.w32_machine.proofs.machine.Machine.first_among.Goals as goal

pub loop-place-init : goal.loop-place-init
loop-place-init c = record {
  above = omega arith;
  before = λ slot t l m. absurd (omega (arith, l, m));
}

pub returns-in-Some : goal.returns-in-Some
returns-in-Some c = record {
  from_on = omega (arith, c.new-slot.ensures, c.loop-place.invariant.above);
  below = omega (arith, c.new-slot.ensures, c.loop-place-test.true, c.min-place-end.ensures);
  ready = c.in-Some.ensures.first.ready;
  slots = λ slot t l m. c.loop-place.invariant.before slot t l (omega (arith, m, c.new-slot.ensures));
  threads = λ u m. c.in-Some.ensures.first.first u (omega arith) m;
}

pub loop-place-preserved : goal.loop-place-preserved
loop-place-preserved c = record {
  above = omega (arith, c.loop-place.invariant.above);
  before = λ slot t l m.
      elim (cases_lt slot c.loop-place.place) [
        | inl lower ↦ c.loop-place.invariant.before slot t l lower
        | inr upper ↦
            let same : slot ≡ c.new-slot.result = omega (arith, m, upper, c.new-slot.ensures) in
            ap (λ i. is_ready c.args.self.now.win32 i t) same ∙ c.in_default.ensures.first t (omega arith)
      ];
}

pub returns : goal.returns
returns c = λ slot t l m.
    elim (cases_lt slot c.loop-place.place) [
      | inl lower ↦ c.loop-place.invariant.before slot t l lower
      | inr upper ↦
          past-slots c.self.inside c.self.invariant c.args.self.now c.self.view_is slot t
          (omega (arith, upper, m, c.loop-place-test.false, c.min-place-end.ensures))
    ]
