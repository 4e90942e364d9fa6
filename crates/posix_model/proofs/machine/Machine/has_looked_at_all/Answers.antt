use Rattle.std.proofs.Common.{sym, ◌∙◌, ap}
use Rattle.posix_spec.specs.Waits.{has_looked_at_all}
use Rattle.posix_model.specs.Machine.{state_of}
use Rattle.posix_model.specs.MarkedNumbers.{numbers_of}
use Rattle.posix_model.specs.Shown.{call_of}
use Rattle.posix_model.specs.Waiting.{wait_shown}
use Rattle.posix_model.proofs.AskedLaws.{none_looked_at}
use Rattle.posix_model.proofs.machine.Machine.has_looked_at_all.Goals as goal

pub returns-in-Nothing : goal.returns-in-Nothing
returns-in-Nothing c =
    let s = state_of c.args.self.now in
    let wait = wait_shown c.args.wait.now in
    sym (ap (λ x. has_looked_at_all s (call_of x (numbers_of c.args.process.now.marks)) wait) c.in-Nothing.is ∙
    none_looked_at _)

pub returns-in-Group : goal.returns-in-Group
returns-in-Group c =
    let s = state_of c.args.self.now in
    let wait = wait_shown c.args.wait.now in
    sym (ap (λ x. has_looked_at_all s (call_of x (numbers_of c.args.process.now.marks)) wait) c.in-Group.is ∙
    none_looked_at _)
