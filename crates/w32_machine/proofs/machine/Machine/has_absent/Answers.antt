use Rattle.std.proofs.Common.{◌∙◌, ◌+◌, ◌||◌, is_none, drop, sym, ap, refl, arith}
use Rattle.win32_spec.specs.Named.{handles_by, has_absent}
use Rattle.w32_machine.proofs.Readiness.{within-some}
use Rattle.w32_machine.proofs.Waits.{is_none-told, absent-next, absent-end}
use Rattle.w32_machine.proofs.machine.Machine.has_absent.Goals as goal
use Rattle.w32_machine.proofs.machine.Machine.has_absent.Goals.{in-Some+else-is_none, in_default}

pub loop-place-init : goal.loop-place-init
loop-place-init c = refl

pub returns-then-is_none : goal.returns-then-is_none
returns-then-is_none c =
    sym (c.loop-place.invariant ∙ absent-next (handles_by c.args.self.now.win32 c.args.by.now.process) c.args.list.now
    c.loop-place.place c.in-Some.h
    (sym c.get.ensures ∙ c.in-Some.is)
    ∙ ap (λ b. b || has_absent (handles_by c.args.self.now.win32 c.args.by.now.process)
    (drop (c.loop-place.place + 1) c.args.list.now))
    (ap (λ o. is_none o) (sym c.named.ensures) ∙ is_none-told c.named.result c.is_none.result c.is_none.ensures
    ∙ c.if-is_none.true))

pub loop-place-preserved : goal.loop-place-preserved
loop-place-preserved c =
    elim c.match-get.branch [
      | in-Some+else-is_none w ↦
          c.loop-place.invariant ∙ absent-next (handles_by c.args.self.now.win32 c.args.by.now.process)
          c.args.list.now c.loop-place.place w.in-Some.h
          (sym c.get.ensures ∙ w.in-Some.is)
          ∙ ap (λ b. b || has_absent (handles_by c.args.self.now.win32 c.args.by.now.process)
          (drop (c.loop-place.place + 1) c.args.list.now))
          (ap (λ o. is_none o) (sym w.named.ensures) ∙ is_none-told w.named.result w.is_none.result w.is_none.ensures
          ∙ w.if-is_none.false)
      | in_default w ↦
          absurd (within-some c.args.list.now c.loop-place.place
          (omega (arith, c.loop-place-test.true, c.len-place-end.ensures.value))
          (sym c.get.ensures ∙ w.in_default.is))
    ]

pub returns : goal.returns
returns c =
    sym (c.loop-place.invariant ∙ absent-end (handles_by c.args.self.now.win32 c.args.by.now.process) c.args.list.now
    c.loop-place.place (omega (arith, c.loop-place-test.false, c.len-place-end.ensures.value)))
