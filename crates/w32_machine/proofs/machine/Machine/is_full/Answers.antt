use Rattle.std.proofs.Common.{◌+◌, ◌∙◌, nat_lt, length, sym, ap, arith}
use Rattle.win32_spec.specs.HolderLaws.{length-rising}
use Rattle.win32_spec.specs.Named.{is_full, handles_by}
use Rattle.w32_machine.proofs.Slots.{caller-at, is_there, handles_at, rising_at}
use Rattle.w32_machine.specs.Running.{Running}
use Rattle.w32_machine.proofs.machine.Machine.is_full.Goals as goal

pub handles-requires : goal.handles-requires
handles-requires c =
    is_there _ c.args.by.now.process
    (caller-at c.self.inside c.self.invariant c.args.self.now c.self.view_is c.args.by.now.slot c.args.by.now.process
    c.requires.caller.process)

pub overflow_add-result : goal.overflow_add-result
overflow_add-result c =
    let m = c.self.inside in
    let at = caller-at m c.self.invariant c.args.self.now c.self.view_is c.args.by.now.slot c.args.by.now.process
    c.requires.caller.process in
    omega (
      arith,
      c.len.ensures,
      ap (λ hs. length hs) c.handles.ensures,
      length-rising 1 _ (omega arith) (rising_at m c.self.invariant c.args.by.now.slot c.args.by.now.process at),
      c.requires.few,
    )

pub returns : goal.returns
returns c =
    let m = c.self.inside in
    let at = caller-at m c.self.invariant c.args.self.now c.self.view_is c.args.by.now.slot c.args.by.now.process
    c.requires.caller.process in
    ap (λ n. nat_lt 64 (n + c.args.more)) (c.len.ensures ∙ ap (λ hs. length hs) (c.handles.ensures
    ∙ sym (handles_at m c.self.invariant c.args.by.now.slot c.args.by.now.process at)))
    ∙ ap (λ (r : Running). is_full (handles_by r.win32 c.args.by.now.process) c.args.more) c.self.view_is
