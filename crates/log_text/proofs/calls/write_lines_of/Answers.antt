use Rattle.std.proofs.Common.{refl}
use Rattle.cyg_io.specs.Sink.{EndsOneLine}
use Rattle.log_text.specs.Callers.{lines_by}
use Rattle.log_text.proofs.Groups.{lines_by-at, lines_by-next}
use Rattle.log_text.proofs.Writing.{writes_none, writes_both, writes_part, on_err}
use Rattle.log_text.proofs.calls.write_lines_of.Goals as goal

pub loop-entry-init : goal.loop-entry-init
unfolding lines_by
loop-entry-init g c = record {
  cleared = c.requires;
  written = writes_none EndsOneLine _ _ refl;
}

pub returns-in_err-write_entry-clause-part : goal.returns-in_err-write_entry-clause-part
returns-in_err-write_entry-clause-part g c =
    on_err _ (writes_part
    EndsOneLine _ _ _ _ _ _ _
    (lines_by-at c.args.number c.args.entries.now c.loop-entry.entry-index c.entry-item.result c.loop-entry-test.true
    c.entry-item.is)
    c.loop-entry.invariant.written c.in_err-write_entry.ensures.part)

pub loop-entry-preserved : goal.loop-entry-preserved
loop-entry-preserved g c = record {
  cleared = c.in_ok-write_entry.ensures.cleared;
  written = writes_both
      EndsOneLine _ _ _ _ _ _
      (lines_by-next c.args.number c.args.entries.now c.loop-entry.entry-index c.entry-item.result
      c.loop-entry-test.true c.entry-item.is)
      c.loop-entry.invariant.written c.in_ok-write_entry.ensures.whole;
}
