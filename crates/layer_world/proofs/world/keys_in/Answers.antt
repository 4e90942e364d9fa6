use Rattle.std.proofs.Common.{◌∙◌, refl, ap, arith}
use Rattle.std.proofs.lemmas.List.{take_all}
use Rattle.w32_machine.specs.Contract.{key_lines}
use Rattle.layer_world.proofs.KeyLines.{key_lines-more}
use Rattle.layer_world.proofs.world.keys_in.Goals as goal

pub loop-line-init : goal.loop-line-init
loop-line-init c = (refl, omega arith)

pub overflow_add-keys : goal.overflow_add-keys
overflow_add-keys c =
    omega (arith, c.loop-line.invariant.1, c.loop-line-test.true, c.requires, c.keys_given-keys.ensures.few)

pub loop-line-preserved : goal.loop-line-preserved
loop-line-preserved c =
    let more = key_lines-more c.args.lines.now c.loop-line.line-index c.line-item.result c.loop-line-test.true
    c.line-item.is in (
      omega (arith, more, c.loop-line.invariant.0, c.keys_given-keys.ensures.value),
      omega (arith, c.loop-line.invariant.1, c.keys_given-keys.ensures.few),
    )

pub returns : goal.returns
returns c =
    c.loop-line.invariant.0
    ∙ ap key_lines (take_all c.loop-line.line-index c.args.lines.now (omega (arith, c.loop-line-test.false)))
