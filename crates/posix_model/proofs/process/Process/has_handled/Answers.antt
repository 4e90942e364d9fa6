use Rattle.std.proofs.Common.{sym, ◌∙◌, arith}
use Rattle.sig_sets.specs.Shown.{bits_of}
use Rattle.posix_model.specs.Shown.{record_of}
use Rattle.posix_model.proofs.HandlerLemmas.{handled_all, handled_here, handled_later, handled_none}
use Rattle.posix_model.proofs.process.Process.has_handled.Goals as goal

pub loop-signal-init : goal.loop-signal-init
loop-signal-init c = handled_all (record_of c.args.self.now) (bits_of c.args.set)

pub returns-then-handles : goal.returns-then-handles
returns-then-handles c =
    sym (c.loop-signal.invariant
    ∙ handled_here (record_of c.args.self.now) (bits_of c.args.set) c.loop-signal.signal (omega arith) (sym
    c.if-handles.ensures))

pub loop-signal-preserved : goal.loop-signal-preserved
loop-signal-preserved c =
    c.loop-signal.invariant
    ∙ handled_later (record_of c.args.self.now) (bits_of c.args.set) c.loop-signal.signal (omega arith) (sym
    c.if-handles.ensures)

pub returns : goal.returns
returns c =
    sym (c.loop-signal.invariant ∙ handled_none (record_of c.args.self.now) (bits_of c.args.set) c.loop-signal.signal
    (omega arith))
