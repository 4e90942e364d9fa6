use Rattle.std.proofs.Common.{◌≡◌, ◌∙◌, List, ap, subst}
use Rattle.w32_process.specs.declared.kept.Kept.{Kept}
use Rattle.w32_process.specs.Table.{Table, code_of}
use Rattle.w32_process.specs.Sound.{IsSound}
use Rattle.w32_process.proofs.SeatLemmas.{alive_is}
use Rattle.w32_process.proofs.processes.Processes.exit_code.Goals as goal

pub returns-clause-alive : goal.returns-clause-alive
returns-clause-alive c =
    let sound : IsSound c.args.self.now = subst IsSound c.self.view_is c.self.invariant.1 in
    let is : c.code.result ≡ code_of c.args.self.now.kept c.args.w = c.code.ensures
    ∙ ap (λ (es : List Kept). code_of es c.args.w) c.deref.ensures.value
    ∙ ap (λ (t : Table). code_of t.kept c.args.w) c.self.view_is in
    alive_is c.args.self.now c.args.w _ sound c.requires is
