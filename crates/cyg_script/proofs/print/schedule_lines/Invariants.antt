use Rattle.std.proofs.Common.{◌≡◌, ◌++◌, map, take}
use Rattle.script_spec.specs.Print.{schedule_words, words_text}
use Rattle.cyg_script.proofs.print.schedule_lines.Given as goal

abbrev pub invariant-loop-line : goal.invariant-loop-line
invariant-loop-line l = l.out.items ≡ l.initial.out.items ++ words_text (map schedule_words (take l.line-index l.lines))
