use Rattle.std.proofs.Common.{◌≡◌, ℕ, sym, ◌∙◌, ap, subst, arith}
use Rattle.layer_spec.specs.HeapReads.{byte_at}
use Rattle.layer_spec.specs.HeapBreaks.{fits_at}
use Rattle.cygheap_image.proofs.Passed.{IsPassed, passed_none, passed_more, break_there, break_nowhere}
use Rattle.cygheap_image.proofs.breaks.first_break.Goals as goal

pub loop-i-init : goal.loop-i-init
loop-i-init c = (c.if-bytes-ne-HEAP_BYTES.false, passed_none c.args.bytes.now)

pub returns-then-not-fits_at : goal.returns-then-not-fits_at
returns-then-not-fits_at c =
    sym (break_there c.args.bytes.now c.loop-i.i c.loop-i.invariant.0 (omega (arith, c.loop-i.invariant.0))
    c.loop-i.invariant.1 (sym (c.fits_at.ensures ∙ ap (λ (n : ℕ). fits_at c.args.bytes.now n
    (byte_at c.args.bytes.now n)) c.from.ensures) ∙ c.if-not-fits_at.true))

pub loop-i-preserved : goal.loop-i-preserved
loop-i-preserved c = (
  c.loop-i.invariant.0,
  passed_more c.args.bytes.now c.loop-i.i (omega (arith, c.loop-i.invariant.0)) c.loop-i.invariant.1 (sym
      (c.fits_at.ensures ∙ ap (λ (n : ℕ). fits_at c.args.bytes.now n
      (byte_at c.args.bytes.now n)) c.from.ensures) ∙ c.if-not-fits_at.false),
)

pub returns : goal.returns
returns c =
    let last : c.loop-i.i ≡ 288 = omega arith in
    sym (break_nowhere c.args.bytes.now c.loop-i.invariant.0
    (subst (IsPassed c.args.bytes.now) last c.loop-i.invariant.1))
