use Rattle.std.proofs.Common.{◌≡◌, ◌++◌, map, take}
use Rattle.script_spec.specs.Print.{occupied_words, words_text}
use Rattle.cyg_script.proofs.print.page_lines.Given as goal

abbrev pub invariant-loop-page : goal.invariant-loop-page
invariant-loop-page l = l.out.items ≡ l.initial.out.items ++ words_text (map occupied_words (take l.page-index l.pages))
