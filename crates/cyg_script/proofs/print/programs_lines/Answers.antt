use Rattle.std.proofs.Common.{◌<◌, length, arith}
use Rattle.script_spec.specs.Print.{program_lines}
use Rattle.cyg_script.proofs.Prints.{more_blocks}
use Rattle.cyg_script.proofs.print.programs_lines.Goals as goal

pub loop-program-preserved : goal.loop-program-preserved
loop-program-preserved c =
    let lt : c.loop-program.program-index < length c.args.programs.now = omega arith in
    more_blocks program_lines c.args.programs.now c.loop-program.program-index c.program-item.result
    c.args.out.now.items
    c.loop-program.out.items c.program_lines.new.out.items lt c.program-item.is c.loop-program.invariant
    c.in_ok-program_lines.ensures
