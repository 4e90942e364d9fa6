use Rattle.std.proofs.Common.{sym, ◌∙◌, ap, option_map, option_copied}
use Rattle.posix_spec.specs.State.{Records}
use Rattle.posix_model.specs.Machine.{state_of}
use Rattle.posix_model.specs.Shown.{record_of}
use Rattle.posix_model.proofs.RemoveLaws.{remove-absent}
use Rattle.posix_model.proofs.machine.Machine.remove.Goals as goal

pub returns-in_default-clause-state : goal.returns-in_default-clause-state
returns-in_default-clause-state c =
    let s = state_of c.args.self.now in
    ap (λ (m : Records). record s { records = m })
    (sym (remove-absent s.records c.args.number (sym c.get.ensures.value ∙ ap (λ o. option_map record_of
    (option_copied o)) c.in_default.is)))
