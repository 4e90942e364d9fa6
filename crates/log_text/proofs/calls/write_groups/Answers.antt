use Rattle.std.proofs.Common.{◌+◌, ◌∙◌}
use Rattle.cyg_io.specs.Sink.{EndsOneLine}
use Rattle.log_text.proofs.Groups.{groups-none, groups-more, groups-skip, groups-at}
use Rattle.log_text.proofs.Writing.{writes_none, writes_both, writes_part, on_err}
use Rattle.log_text.proofs.calls.write_groups.Goals as goal

pub loop-number-init : goal.loop-number-init
loop-number-init g c = record {
  range = c.next_number-number.ensures.range;
  cleared = c.requires;
  written = writes_none EndsOneLine _ _
      (groups-skip 0 c.next_number-number.result c.args.entries.now c.next_number-number.ensures.from
      c.next_number-number.ensures.first ∙ groups-none c.args.entries.now);
}

pub returns-in_err-write_lines_of-clause-part : goal.returns-in_err-write_lines_of-clause-part
returns-in_err-write_lines_of-clause-part g c =
    on_err _ (writes_part
    EndsOneLine _ _ _ _ _ _ _
    (groups-at c.loop-number.number 4002 c.args.entries.now c.loop-number-test.true).1
    c.loop-number.invariant.written c.in_err-write_lines_of.ensures.part)

pub loop-number-preserved : goal.loop-number-preserved
loop-number-preserved g c = record {
  range = c.next_number-number-in-loop-number.ensures.range;
  cleared = c.in_ok-write_lines_of.ensures.cleared;
  written = writes_both
      EndsOneLine _ _ _ _ _ _
      (groups-skip (c.loop-number.number + 1) c.next_number-number-in-loop-number.result c.args.entries.now
      c.next_number-number-in-loop-number.ensures.from c.next_number-number-in-loop-number.ensures.first
      ∙ groups-more c.loop-number.number c.args.entries.now)
      c.loop-number.invariant.written c.in_ok-write_lines_of.ensures.whole;
}
