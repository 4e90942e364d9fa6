use Rattle.std.proofs.Common.{◌≡◌, ◌++◌, map, take}
use Rattle.script_spec.specs.Print.{module_words, words_text}
use Rattle.cyg_script.proofs.print.module_lines.Given as goal

abbrev pub invariant-loop-module : goal.invariant-loop-module
invariant-loop-module l = l.out.items ≡ l.initial.out.items ++ words_text
    (map module_words (take l.module-index l.modules))
