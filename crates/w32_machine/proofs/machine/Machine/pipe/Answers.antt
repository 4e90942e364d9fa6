use Rattle.std.proofs.Common.{◌∙◌, ◌+◌, sym, ap}
use Rattle.win32_spec.specs.Objects.{PipeState}
use Rattle.w32_machine.proofs.Piping.{number-then, room-then, listed-then, piped}
use Rattle.w32_machine.proofs.machine.Machine.pipe.Goals as goal

pub hand-write_end-requires-clause-caller : goal.hand-write_end-requires-clause-caller
hand-write_end-requires-clause-caller c = record {
  process = number-then c.args.self.now.win32 c.add-o.new.self.win32 c.args.by.now.process c.add-o.result.0
      c.add-o.result.1 c.new_pipe.result.bytes (ap (λ (q : PipeState). q.bytes) c.new_pipe.ensures)
      c.add-o.ensures.handles c.add-o.ensures.after c.args.by.now.slot c.args.by.now.process c.requires.process;
  thread = c.requires.thread;
}

pub hand-write_end-requires-clause-room : goal.hand-write_end-requires-clause-room
hand-write_end-requires-clause-room c =
    room-then c.args.self.now.win32 c.add-o.new.self.win32 c.args.by.now.process c.add-o.result.0 c.add-o.result.1
    c.new_pipe.result.bytes (ap (λ (q : PipeState). q.bytes) c.new_pipe.ensures) c.add-o.ensures.handles
    c.add-o.ensures.after (sym c.is_full.ensures ∙ c.if-is_full.false)

pub hand-write_end-requires-clause-listed : goal.hand-write_end-requires-clause-listed
hand-write_end-requires-clause-listed c =
    listed-then c.args.self.now.win32 c.add-o.new.self.win32 c.args.by.now.process c.add-o.result.0 c.add-o.result.1
    c.new_pipe.result.bytes (ap (λ (q : PipeState). q.bytes) c.new_pipe.ensures) c.add-o.ensures.handles
    c.add-o.ensures.after c.add-o.ensures.fresh c.new.result
    (c.new.ensures ∙ ap (λ n. n + 1) c.get.ensures.value)

pub returns-clause-step : goal.returns-clause-step
returns-clause-step c =
    piped c.args.self.now.win32 c.add-o.new.self.win32 c.args.by.now.process c.add-o.result.0 c.add-o.result.1
    c.new_pipe.result.bytes (ap (λ (q : PipeState). q.bytes) c.new_pipe.ensures) c.add-o.ensures.handles
    c.add-o.ensures.after c.add-o.ensures.fresh c.new.result
    (c.new.ensures ∙ ap (λ n. n + 1) c.get.ensures.value) c.hand-write_end.result c.hand-write_end.new.self.win32
    (sym c.is_full.ensures ∙ c.if-is_full.false) c.add-o.ensures.lowest c.hand-write_end.ensures.lowest
    c.hand-write_end.ensures.after
