use Rattle.std.proofs.Common.{rules, ap, ◌∙◌}
use Rattle.cyg_cli.proofs.Ends.{made_whole, made_part}
use Rattle.cyg_cli.proofs.top.make_script.Goals as goal

pub returns-in-Ok-write_all : goal.returns-in-Ok-write_all
returns-in-Ok-write_all g c =
    let made = c.in-Ok.ensures in
    let answer = c.without_journal-in-Ok-write_all.ensures in
    made_whole _ made.0 c.in-Ok.text.items c.deref.result.now _ _ _ _ _ _ made.1 made.2 c.deref.ensures.value
    c.in-Ok-write_all.ensures.whole (ap (λ r. r.status) answer ∙ c.new-in-Ok-write_all.ensures) (ap
    (λ r. r.journal) answer)

pub returns : goal.returns
returns g c =
    let made = c.in-Ok.ensures in
    let answer = c.without_journal-in-Err.ensures in
    made_part _ made.0 c.in-Ok.text.items c.deref.result.now _ _ _ _ _ _ made.1 made.2 c.deref.ensures.value
    c.in-Err.ensures.part (search (rules, c.in-Err.ensures.failed)) (ap
    (λ r. r.status) answer ∙ c.new-in-Err.ensures) (ap (λ r. r.journal) answer)
