use Rattle.cyg_script.proofs.Prints.{program_done}
use Rattle.cyg_script.proofs.print.program_lines.Goals as goal

pub returns : goal.returns
returns c =
    program_done c.code_lines.result c.args.program.now c.args.out.now.items c.with_sizes.new.out.items
    c.code_lines.new.out.items
    c.as_slice.result.now c.from.result c.from-2.result c.as_slice.ensures.value c.from.ensures c.from-2.ensures
    c.in_ok-with_sizes.ensures c.code_lines.ensures
