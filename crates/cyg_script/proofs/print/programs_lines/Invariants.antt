use Rattle.std.proofs.Common.{◌≡◌, ◌++◌, take}
use Rattle.script_spec.specs.Print.{programs_lines, words_text}
use Rattle.cyg_script.proofs.print.programs_lines.Given as goal

abbrev pub invariant-loop-program : goal.invariant-loop-program
invariant-loop-program l = l.out.items ≡ l.initial.out.items
    ++ words_text (programs_lines (take l.program-index l.programs))
