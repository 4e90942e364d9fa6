use Rattle.std.proofs.Common.{◌∙◌, sym, ap}
use Rattle.win32_spec.specs.Handles.{handle_of}
use Rattle.w32_machine.proofs.Slots.{caller-at, is_there, handles_at}
use Rattle.w32_machine.proofs.machine.Machine.named.Goals as goal

pub handles-requires : goal.handles-requires
handles-requires c =
    is_there _ c.args.by.now.process
    (caller-at c.self.inside c.self.invariant c.args.self.now c.self.view_is c.args.by.now.slot c.args.by.now.process
    c.requires.process)

pub returns : goal.returns
returns c =
    let m = c.self.inside in
    let at = caller-at m c.self.invariant c.args.self.now c.self.view_is c.args.by.now.slot c.args.by.now.process
    c.requires.process in
    rw (← c.self.view_is) (c.get.ensures.named ∙ ap (λ hs. handle_of hs c.args.h)
    (c.handles.ensures ∙ sym (handles_at m c.self.invariant c.args.by.now.slot c.args.by.now.process at)))
