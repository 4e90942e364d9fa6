use Rattle.cyg_script.proofs.Prints.{script_done}
use Rattle.cyg_script.proofs.print.print_script.Goals as goal

pub returns : goal.returns
returns c =
    script_done c.args.script.now c.as_slice.result.now c.as_slice-2.result.now c.as_slice-3.result.now
    c.as_slice-4.result.now
    c.new-out.result.items c.limits_lines.new.out.items c.module_lines.new.out.items c.page_lines.new.out.items
    c.programs_lines.new.out.items c.alone.new.out.items c.schedule_lines.new.out.items
    c.as_slice.ensures.value c.as_slice-2.ensures c.as_slice-3.ensures.value c.as_slice-4.ensures.value
    c.new-out.ensures.items c.in_ok-limits_lines.ensures c.in_ok-module_lines.ensures c.in_ok-page_lines.ensures
    c.in_ok-programs_lines.ensures c.in_ok-alone.ensures c.in_ok-schedule_lines.ensures
