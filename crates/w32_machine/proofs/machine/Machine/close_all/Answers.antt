use Rattle.std.proofs.Common.{◌≡◌, ◌∙◌, refl, subst, arith}
use Rattle.w32_process.specs.StateClosing.{IsClosing}
use Rattle.w32_machine.proofs.Ending.{start, next_at, stays, all, ended, none_left}
use Rattle.w32_machine.proofs.machine.Machine.close_all.Goals as goal

pub loop-number-init : goal.loop-number-init
loop-number-init c = record {
  closing = start c.self.inside c.self.invariant c.args.self.now c.self.view_is c.args.by.now.slot
      c.args.by.now.process c.requires.process;
  script = refl;
}

pub close-requires : goal.close-requires
close-requires c = record {
  process = stays c.self.inside c.self.invariant c.args.self.now c.self.view_is c.args.by.now.slot
      c.args.by.now.process c.requires.process c.loop-number.self.win32 c.loop-number.number
      c.loop-number.invariant.closing;
  thread = c.requires.thread;
}

pub loop-number-preserved : goal.loop-number-preserved
loop-number-preserved c = record {
  closing = next_at c.self.inside c.self.invariant c.args.self.now c.self.view_is c.args.by.now.slot
      c.args.by.now.process c.requires.process c.loop-number.self.win32 c.close.new.self.win32 c.loop-number.number
      c.close.result c.new.result c.new.ensures c.loop-number.invariant.closing c.close.ensures.step;
  script = c.close.ensures.script ∙ c.loop-number.invariant.script;
}

pub returns-clause-closed : goal.returns-clause-closed
returns-clause-closed c =
    let last : c.loop-number.number ≡ 65 = omega arith in
    all c.self.inside c.self.invariant c.args.self.now c.self.view_is c.args.by.now.slot c.args.by.now.process
    c.requires.process c.loop-number.self.win32
    (subst (IsClosing c.args.self.now.win32 c.loop-number.self.win32 c.args.by.now.process) last
    c.loop-number.invariant.closing)

pub returns-clause-ends : goal.returns-clause-ends
returns-clause-ends c =
    let last : c.loop-number.number ≡ 65 = omega arith in
    λ code. ended c.self.inside c.self.invariant c.args.self.now c.self.view_is c.args.by.now.slot
    c.args.by.now.process c.requires.process c.loop-number.self.win32 code
    (all c.self.inside c.self.invariant c.args.self.now c.self.view_is c.args.by.now.slot c.args.by.now.process
    c.requires.process c.loop-number.self.win32
    (subst (IsClosing c.args.self.now.win32 c.loop-number.self.win32 c.args.by.now.process) last
    c.loop-number.invariant.closing))

pub returns-clause-none : goal.returns-clause-none
returns-clause-none c =
    let last : c.loop-number.number ≡ 65 = omega arith in
    none_left c.self.inside c.self.invariant c.args.self.now c.self.view_is c.args.by.now.slot c.args.by.now.process
    c.requires.process c.loop-number.self.win32
    (subst (IsClosing c.args.self.now.win32 c.loop-number.self.win32 c.args.by.now.process) last
    c.loop-number.invariant.closing)

pub returns-clause-stays : goal.returns-clause-stays
returns-clause-stays c =
    stays c.self.inside c.self.invariant c.args.self.now c.self.view_is c.args.by.now.slot c.args.by.now.process
    c.requires.process c.loop-number.self.win32 c.loop-number.number c.loop-number.invariant.closing
