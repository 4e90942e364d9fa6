use Rattle.cyg_script.proofs.Prints.{limits_done}
use Rattle.cyg_script.proofs.print.limits_lines.Goals as goal

pub returns : goal.returns
returns c =
    limits_done c.with_number-3.result c.args.limits.now c.args.out.now.items c.extend_from_slice.new.self.items
    c.with_number.new.out.items
    c.with_number-2.new.out.items c.with_number-3.new.out.items c.from.result c.from-2.result c.from-3.result
    c.in_ok-extend_from_slice.ensures.items c.from.ensures c.in_ok-with_number.ensures c.from-2.ensures
    c.in_ok-with_number-2.ensures
    c.from-3.ensures c.with_number-3.ensures
