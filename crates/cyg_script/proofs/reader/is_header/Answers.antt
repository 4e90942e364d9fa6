use Rattle.std.proofs.Common.{sym, ◌∙◌, ap, Some}
use Rattle.script_spec.specs.declared.fault.FirstWord.{FirstWord}
use Rattle.cyg_script.proofs.Judging.{words}
use Rattle.cyg_script.proofs.WordsJudged.{other_headless, headed, cygscript_is, other_is, none_is}
use Rattle.cyg_script.proofs.reader.is_header.Goals as goal

pub returns-in_default : goal.returns-in_default
returns-in_default c = λ w f.
    sym (other_headless c.args.first w (words c.args.rest) f (none_is c.args.first c.in_default.is))

pub returns-then-is_cygscript : goal.returns-then-is_cygscript
returns-then-is_cygscript c = λ w f.
    headed c.args.first w (words c.args.rest) c.is_version.result f
    (c.in-Some.is ∙ ap (λ (x : FirstWord). Some x)
    (cygscript_is c.in-Some.word (sym c.is_cygscript.ensures ∙ c.if-is_cygscript.true))) c.is_version.ensures

pub returns-else-is_cygscript : goal.returns-else-is_cygscript
returns-else-is_cygscript c = λ w f.
    sym (other_headless c.args.first w (words c.args.rest) f
    (other_is c.args.first c.in-Some.word c.in-Some.is (sym c.is_cygscript.ensures ∙ c.if-is_cygscript.false)))
