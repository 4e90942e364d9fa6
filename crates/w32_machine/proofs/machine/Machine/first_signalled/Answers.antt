use Rattle.std.proofs.Common.{◌∙◌, ◌+◌, if◌then◌else◌, Some, drop, sym, ap, refl, arith}
use Rattle.win32_spec.specs.HandleCalls.{first_signalled}
use Rattle.win32_spec.specs.Named.{handles_by}
use Rattle.w32_machine.proofs.Readiness.{within-some}
use Rattle.w32_machine.proofs.Waits.{first-next, first-end, index-read}
use Rattle.w32_machine.proofs.machine.Machine.first_signalled.Goals as goal
use Rattle.w32_machine.proofs.machine.Machine.first_signalled.Goals.{in-Some+else-is_signalled, in_default}

pub loop-place-init : goal.loop-place-init
loop-place-init c = refl

pub returns-then-is_signalled : goal.returns-then-is_signalled
returns-then-is_signalled c = (
  c.loop-place.invariant ∙ first-next c.args.self.now.win32 c.args.by.now.process c.args.by.now.thread
      (handles_by c.args.self.now.win32 c.args.by.now.process) c.args.list.now c.loop-place.place c.loop-place.place
      c.in-Some.h
      (sym c.get.ensures ∙ c.in-Some.is)
      ∙ ap (λ b. if b then Some c.loop-place.place else first_signalled c.args.self.now.win32 c.args.by.now.process
      c.args.by.now.thread
      (handles_by c.args.self.now.win32 c.args.by.now.process)
      (drop (c.loop-place.place + 1) c.args.list.now) (c.loop-place.place + 1))
      (sym c.is_signalled.ensures ∙ c.if-is_signalled.true),
  index-read c.args.list.now c.loop-place.place c.in-Some.h (sym c.get.ensures ∙ c.in-Some.is),
)

pub loop-place-preserved : goal.loop-place-preserved
loop-place-preserved c =
    elim c.match-get.branch [
      | in-Some+else-is_signalled w ↦
          c.loop-place.invariant ∙ first-next c.args.self.now.win32 c.args.by.now.process c.args.by.now.thread
          (handles_by c.args.self.now.win32 c.args.by.now.process) c.args.list.now c.loop-place.place
          c.loop-place.place w.in-Some.h
          (sym c.get.ensures ∙ w.in-Some.is)
          ∙ ap (λ b. if b then Some c.loop-place.place else first_signalled c.args.self.now.win32
          c.args.by.now.process c.args.by.now.thread
          (handles_by c.args.self.now.win32 c.args.by.now.process)
          (drop (c.loop-place.place + 1) c.args.list.now) (c.loop-place.place + 1))
          (sym w.is_signalled.ensures ∙ w.if-is_signalled.false)
      | in_default w ↦
          absurd (within-some c.args.list.now c.loop-place.place
          (omega (arith, c.loop-place-test.true, c.len-place-end.ensures.value))
          (sym c.get.ensures ∙ w.in_default.is))
    ]

pub returns : goal.returns
returns c =
    c.loop-place.invariant ∙ first-end c.args.self.now.win32 c.args.by.now.process c.args.by.now.thread
    (handles_by c.args.self.now.win32 c.args.by.now.process)
    c.args.list.now c.loop-place.place c.loop-place.place
    (omega (arith, c.loop-place-test.false, c.len-place-end.ensures.value))
