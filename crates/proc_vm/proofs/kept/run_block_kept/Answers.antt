use Rattle.std.proofs.Common.{◌≡◌, refl, ◌∙◌, ap, arith, IsTrue, false, []}
use Rattle.proc_vm.specs.Kept.{Kept, contents_of, IsChange}
use Rattle.vm_spec.specs.Image.{image_of}
use Rattle.proc_vm.proofs.BlockLemmas.{IsDone-more, IsDone-least, IsDone-length, IsDone-whole}
use Rattle.proc_vm.proofs.KeptLemmas.{IsKept-none, IsKept-more}
use Rattle.proc_vm.proofs.kept.run_block_kept.Goals as goal

pub loop-count-init : goal.loop-count-init
loop-count-init c =
    IsKept-none _ _ _ c.requires.size
    (rw c.begin.ensures (ap (λ xs. let k : Kept = record { dat = xs; changes = [] } in k) c.as_slice.ensures))

pub returns-then-not-step-clause-range : goal.returns-then-not-step-clause-range
returns-then-not-step-clause-range c = (
  IsDone-least _ _ _ _ c.loop-count.invariant.done c.requires.local (λ is. let e : IsTrue false =
      c.if-not-step.ensures.done.1 is in (cc)),
  omega arith,
)

pub returns-then-not-step-clause-length : goal.returns-then-not-step-clause-length
returns-then-not-step-clause-length c =
    IsDone-length _ _ _ _ c.loop-count.invariant.done (omega arith) (λ l is. let e : IsTrue false =
    c.if-not-step.ensures.done.1 is in (cc))

pub returns-then-not-step-clause-image : goal.returns-then-not-step-clause-image
returns-then-not-step-clause-image c =
    c.if-not-step.ensures.value
    ∙ IsDone-whole _ _ _ _ c.loop-count.invariant.done (omega arith) (λ l is. let e : IsTrue false =
    c.if-not-step.ensures.done.1 is in (cc))

pub loop-count-preserved : goal.loop-count-preserved
loop-count-preserved c =
    let local = c.if-not-step.ensures.done.0 refl in
    let is = c.if-not-step.ensures.value in
    let code = c.args.p.now.code in
    let now = c.loop-count.own in
    let change : IsChange (contents_of (image_of now))
    (contents_of (image_of c.step.new.own)) c.next_change-change.result =
    rw is (c.next_change-change.ensures.change local)
    in
    IsKept-more code c.args.own.now now c.step.new.own c.loop-count.u c.keep.new.self c.next_change-change.result
    c.loop-count.count
    c.loop-count.invariant
    (IsDone-more _ _ _ _ _ c.loop-count.invariant.done local is c.step.ensures.len c.step.ensures.sizes)
    c.step.ensures.sizes c.keep.ensures c.next_change-change.ensures.within change

pub returns-clause-length : goal.returns-clause-length
returns-clause-length c =
    let all : 256 ≡ c.loop-count.count = omega arith in
    all ∙ IsDone-length _ _ _ _ c.loop-count.invariant.done (omega arith) (λ l is. absurd (omega arith))

pub returns-clause-image : goal.returns-clause-image
returns-clause-image c = IsDone-whole _ _ _ _ c.loop-count.invariant.done (omega arith) (λ l is. absurd (omega arith))
