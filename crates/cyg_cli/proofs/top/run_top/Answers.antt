use Rattle.std.proofs.Common.{inl, ap}
use Rattle.cyg_cli.proofs.Causes.{run_told, check_told, made_told, other_told, untouched, journal_told, denied_told}
use Rattle.cyg_cli.proofs.Causes.{at_four, at_five, at_six, at_seven}
use Rattle.cyg_cli.proofs.CheckStatuses as check
use Rattle.cyg_cli.proofs.RunStatuses as run
use Rattle.cyg_cli.proofs.Journals.{full_at_budget}
use Rattle.cyg_cli.proofs.top.run_top.Goals as goal

pub returns-clause-other_words : goal.returns-clause-other_words
returns-clause-other_words g c = other_told _ _ _ _ _ _ c.carry_out.ensures.story

pub returns-clause-source_untouched : goal.returns-clause-source_untouched
returns-clause-source_untouched g c = λ two.
    let same = untouched _ _ _ _ _ _ c.carry_out.ensures.story two in
    (ap (λ o. o.left) same, ap (λ o. o.read_faults) same, ap (λ o. o.given) same, ap (λ o. o.ends) same)

pub returns-clause-sink_untouched : goal.returns-clause-sink_untouched
returns-clause-sink_untouched g c = λ two.
    let same = untouched _ _ _ _ _ _ c.carry_out.ensures.story two in
    (ap (λ o. o.held) same, ap (λ o. o.write_faults) same)

pub returns-clause-refused : goal.returns-clause-refused
returns-clause-refused g c = λ v is three.
    run.at_three _ _ _ _ _ _ (run_told _ _ _ _ _ _ c.carry_out.ensures.story v is) three

pub returns-clause-refused_after : goal.returns-clause-refused_after
returns-clause-refused_after g c = λ v is three.
    run.read_at_three _ _ _ _ _ _ (run_told _ _ _ _ _ _ c.carry_out.ensures.story v is) three

pub returns-clause-only_scripts_run : goal.returns-clause-only_scripts_run
returns-clause-only_scripts_run g c = λ v is.
    run.only_scripts _ _ _ _ _ _ (run_told _ _ _ _ _ _ c.carry_out.ensures.story v is)

pub returns-clause-read_fault : goal.returns-clause-read_fault
returns-clause-read_fault g c = at_four _ _ _ _ _ _ c.carry_out.ensures.story

pub returns-clause-write_fault : goal.returns-clause-write_fault
returns-clause-write_fault g c = at_five _ _ _ _ _ _ c.carry_out.ensures.story

pub returns-clause-no_memory : goal.returns-clause-no_memory
returns-clause-no_memory g c = at_seven _ _ _ _ _ _ c.carry_out.ensures.story

pub returns-clause-headline : goal.returns-clause-headline
returns-clause-headline g c = journal_told _ _ _ _ _ _ c.carry_out.ensures.story

pub returns-clause-logged : goal.returns-clause-logged
returns-clause-logged g c = λ v is done.
    run.logged _ _ _ _ _ _ (run_told _ _ _ _ _ _ c.carry_out.ensures.story v is) done

pub returns-clause-complete : goal.returns-clause-complete
returns-clause-complete g c = λ v is read write.
    run.complete _ _ _ _ _ _ (full_at_budget _ _ _ _ _) (run_told _ _ _ _ _ _ c.carry_out.ensures.story v is) read write

pub returns-clause-made : goal.returns-clause-made
returns-clause-made g c = λ n is. (made_told _ _ _ _ _ _ c.carry_out.ensures.story n is).0

pub returns-clause-unread : goal.returns-clause-unread
returns-clause-unread g c = λ n is.
    let same = (made_told _ _ _ _ _ _ c.carry_out.ensures.story n is).1 in
    (same.left, same.read_faults, same.given, same.ends)

pub returns-clause-checked : goal.returns-clause-checked
returns-clause-checked g c = λ is. check.comes_to _ _ _ (check_told _ _ _ _ _ _ c.carry_out.ensures.story is).0

pub returns-clause-unrun : goal.returns-clause-unrun
returns-clause-unrun g c = λ is. (check_told _ _ _ _ _ _ c.carry_out.ensures.story is).1

pub returns-clause-asked : goal.returns-clause-asked
returns-clause-asked g c = λ is. check.asked _ _ _ (check_told _ _ _ _ _ _ c.carry_out.ensures.story is).0

pub returns-clause-answered : goal.returns-clause-answered
returns-clause-answered g c = λ is gives.
    check.answered _ _ _ (check_told _ _ _ _ _ _ c.carry_out.ensures.story is).0 gives

pub returns-clause-denied : goal.returns-clause-denied
returns-clause-denied g c = λ one. denied_told _ _ _ _ _ _ c.carry_out.ensures.story one

pub returns-clause-complete_check : goal.returns-clause-complete_check
returns-clause-complete_check g c = λ is read write.
    check.complete_check _ _ _ (check_told _ _ _ _ _ _ c.carry_out.ensures.story is).0 read write

pub returns-clause-whole_check : goal.returns-clause-whole_check
returns-clause-whole_check g c = λ is verdict.
    check.whole_check _ _ _ (check_told _ _ _ _ _ _ c.carry_out.ensures.story is).0 verdict

pub returns-clause-whole_run : goal.returns-clause-whole_run
returns-clause-whole_run g c = λ v is zero.
    run.ended _ _ _ _ _ _ (run_told _ _ _ _ _ _ c.carry_out.ensures.story v is) (inl zero)

pub returns-clause-part_run : goal.returns-clause-part_run
returns-clause-part_run g c = λ six. at_six _ _ _ _ _ _ c.carry_out.ensures.story six
