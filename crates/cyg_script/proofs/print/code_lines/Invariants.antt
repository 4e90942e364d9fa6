use Rattle.std.proofs.Common.{◌≡◌, ◌++◌, map, take}
use Rattle.script_spec.specs.InstrText.{instr_words}
use Rattle.script_spec.specs.Print.{words_text}
use Rattle.cyg_script.proofs.print.code_lines.Given as goal

abbrev pub invariant-loop-place : goal.invariant-loop-place
invariant-loop-place l = l.out.items ≡ l.initial.out.items ++ words_text (map instr_words (take l.place l.code))
