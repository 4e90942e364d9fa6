use Rattle.std.proofs.Common.{sym, ◌≤◌, length, arith}
use Rattle.script_spec.specs.InstrText.{instr_words}
use Rattle.cyg_script.proofs.Prints.{more_lines_at, past_end}
use Rattle.cyg_script.proofs.print.code_lines.Goals as goal

pub loop-place-preserved : goal.loop-place-preserved
loop-place-preserved c =
    more_lines_at instr_words c.args.code.now c.loop-place.place c.in-Some.instr c.args.out.now.items
    c.loop-place.out.items c.instr_line.new.out.items
    (sym c.in-Some.ensures) c.loop-place.invariant c.in_ok-instr_line-in-Some.ensures

pub returns-in-None : goal.returns-in-None
returns-in-None c =
    let past : length c.args.code.now ≤ c.loop-place.place = past_end c.args.code.now c.loop-place.place
    (sym c.in-None.ensures) in
    absurd (omega (arith, past, c.loop-place-test.true, c.len-place-end.ensures))
