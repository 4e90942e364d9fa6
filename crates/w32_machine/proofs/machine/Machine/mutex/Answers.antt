use Rattle.std.proofs.Common.{◌∙◌, true, false, ap}
use Rattle.win32_spec.specs.Objects.{Owned}
use Rattle.w32_sync.specs.Owner.{ownership_at_first}
use Rattle.w32_machine.proofs.machine.Machine.mutex.Goals as goal
use Rattle.w32_machine.proofs.machine.Machine.mutex.Goals.{then-owned, else-owned}

pub make-requires-clause-kind : goal.make-requires-clause-kind
make-requires-clause-kind c =
    elim c.if-owned.branch [
      | then-owned w ↦ (
        true,
        c.new.ensures ∙ ap ownership_at_first w.owner-is
            ∙ ap (λ p. Owned p w.owner.result.1) w.owner.ensures.process
            ∙ ap (λ t. Owned c.args.by.now.process t) w.owner.ensures.thread,
      )
      | else-owned w ↦ (false, c.new.ensures ∙ ap ownership_at_first w.owner-is)
    ]
