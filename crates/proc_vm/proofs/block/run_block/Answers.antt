use Rattle.std.proofs.Common.{◌≡◌, refl, ◌∙◌, arith, IsTrue, false}
use Rattle.proc_vm.proofs.BlockLemmas.{IsDone-none, IsDone-more, IsDone-least, IsDone-length, IsDone-whole}
use Rattle.proc_vm.proofs.block.run_block.Goals as goal

pub loop-count-init : goal.loop-count-init
loop-count-init c = IsDone-none _ _ c.requires.size

pub returns-then-not-step-clause-range : goal.returns-then-not-step-clause-range
returns-then-not-step-clause-range c = (
  IsDone-least _ _ _ _ c.loop-count.invariant c.requires.local (λ is. let e : IsTrue false =
      c.if-not-step.ensures.done.1 is in (cc)),
  omega arith,
)

pub loop-count-preserved : goal.loop-count-preserved
loop-count-preserved c =
    IsDone-more _ _ _ _ _ c.loop-count.invariant
    (c.if-not-step.ensures.done.0 refl) c.if-not-step.ensures.value c.step.ensures.len c.step.ensures.sizes

pub returns-then-not-step-clause-length : goal.returns-then-not-step-clause-length
returns-then-not-step-clause-length c =
    IsDone-length _ _ _ _ c.loop-count.invariant (omega arith) (λ l is. let e : IsTrue false =
    c.if-not-step.ensures.done.1 is in (cc))

pub returns-then-not-step-clause-image : goal.returns-then-not-step-clause-image
returns-then-not-step-clause-image c =
    c.if-not-step.ensures.value
    ∙ IsDone-whole _ _ _ _ c.loop-count.invariant (omega arith) (λ l is. let e : IsTrue false =
    c.if-not-step.ensures.done.1 is in (cc))

pub returns-clause-length : goal.returns-clause-length
returns-clause-length c =
    let all : 256 ≡ c.loop-count.count = omega arith in
    all ∙ IsDone-length _ _ _ _ c.loop-count.invariant (omega arith) (λ l is. absurd (omega arith))

pub returns-clause-image : goal.returns-clause-image
returns-clause-image c = IsDone-whole _ _ _ _ c.loop-count.invariant (omega arith) (λ l is. absurd (omega arith))
