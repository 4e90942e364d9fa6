use Rattle.std.proofs.Common.{◌≡◌, ◌∙◌, inl, inr, sym, ap, arith}
use Rattle.std.proofs.lemmas.Bool.{cases_lt}
use Rattle.win32_spec.specs.Ready.{is_ready}
use Rattle.w32_machine.proofs.Readiness.{only-few, empty-ready, past-threads, here, nowhere}
use Rattle.w32_machine.proofs.machine.Machine.first_from.Goals as goal

pub returns-in_default-clause-first : goal.returns-in_default-clause-first
returns-in_default-clause-first c = λ t l.
    sym (empty-ready c.args.self.now.win32 c.args.slot t
    (nowhere c.self.inside c.self.invariant c.args.self.now c.self.view_is c.args.slot c.in_slot.result
    c.in_slot.ensures.value c.in_default.is))

pub returns-in_default-clause-few : goal.returns-in_default-clause-few
returns-in_default-clause-few c = only-few c.self.inside c.self.invariant c.args.self.now c.self.view_is

pub loop-number-init : goal.loop-number-init
loop-number-init c = record {
  above = omega arith;
  before = λ t l m. absurd (omega (arith, l, m));
}

pub is_ready-requires : goal.is_ready-requires
is_ready-requires c =
    here c.self.inside c.self.invariant c.args.self.now c.self.view_is c.args.slot _ c.in_slot.result
    c.in_slot.ensures.value c.in-Some.is

pub returns-then-is_ready-clause-first : goal.returns-then-is_ready-clause-first
returns-then-is_ready-clause-first c = record {
  from_on = omega (arith, c.new-thread.ensures, c.loop-number.invariant.above);
  ready = sym c.is_ready.ensures ∙ c.if-is_ready.true;
  first = λ u l m. c.loop-number.invariant.before u l (omega (arith, m, c.new-thread.ensures));
}

pub returns-then-is_ready-clause-few : goal.returns-then-is_ready-clause-few
returns-then-is_ready-clause-few c = only-few c.self.inside c.self.invariant c.args.self.now c.self.view_is

pub loop-number-preserved : goal.loop-number-preserved
loop-number-preserved c = record {
  above = omega (arith, c.loop-number.invariant.above);
  before = λ t l m.
      elim (cases_lt t c.loop-number.number) [
        | inl lower ↦ c.loop-number.invariant.before t l lower
        | inr upper ↦
            let same : t ≡ c.new-thread.result = omega (arith, m, upper, c.new-thread.ensures) in
            ap (λ i. is_ready c.args.self.now.win32 c.args.slot i) same
            ∙ (sym c.is_ready.ensures ∙ c.if-is_ready.false)
      ];
}

pub returns-clause-first : goal.returns-clause-first
returns-clause-first c = λ t l.
    elim (cases_lt t c.loop-number.number) [
      | inl lower ↦ c.loop-number.invariant.before t l lower
      | inr upper ↦
          past-threads c.self.inside c.self.invariant c.args.self.now c.self.view_is c.args.slot t
          (omega (arith, upper, c.loop-number-test.false))
    ]

pub returns-clause-few : goal.returns-clause-few
returns-clause-few c = only-few c.self.inside c.self.invariant c.args.self.now c.self.view_is
