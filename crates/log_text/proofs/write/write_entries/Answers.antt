use Rattle.std.proofs.Common.{refl}
use Rattle.cyg_io.specs.Sink.{EndsOneLine}
use Rattle.log_text.proofs.Views.{entries_next, entries_at}
use Rattle.log_text.proofs.Writing.{writes_none, writes_both, writes_part, on_err}
use Rattle.log_text.proofs.write.write_entries.Goals as goal

pub loop-index-init : goal.loop-index-init
loop-index-init g c = record {
  cleared = c.requires;
  written = writes_none EndsOneLine _ _ refl;
}

pub returns-in_err-write_to-clause-part : goal.returns-in_err-write_to-clause-part
returns-in_err-write_to-clause-part g c =
    on_err _ (writes_part
    EndsOneLine _ _ _ _ _ _ _
    (entries_at c.args.entries.now c.loop-index.index c.index-entries-index.result _ c.loop-index-test.true
    c.index-entries-index.is
    c.push_entry.ensures).1
    c.loop-index.invariant.written c.in_err-write_to.ensures.part)

pub loop-index-preserved : goal.loop-index-preserved
loop-index-preserved g c = record {
  cleared = c.in_ok-write_to.ensures.cleared;
  written = writes_both
      EndsOneLine _ _ _ _ _ _
      (entries_next c.args.entries.now c.loop-index.index c.index-entries-index.result _ c.loop-index-test.true
      c.index-entries-index.is
      c.push_entry.ensures)
      c.loop-index.invariant.written c.in_ok-write_to.ensures.whole;
}
