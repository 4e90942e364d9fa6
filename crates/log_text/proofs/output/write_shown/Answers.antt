use Rattle.std.proofs.Common.{refl, take, ◌∙◌}
use Rattle.tty_spec.specs.Terminal.{opening_terminal}
use Rattle.log_spec.specs.CallsViewLaws.{StandsIn}
use Rattle.log_text.proofs.Shown.{shown_as, terminal_more, none_shown, some_kept, some_found}
use Rattle.log_text.proofs.Outputs.{digits_of, shown_all, shown_part, shown_text}
use Rattle.log_text.proofs.Writing.{writes_none, on_err}
use Rattle.log_text.proofs.output.write_shown.Goals as goal
use Rattle.log_text.proofs.output.write_shown.Goals.{then-some, else-some}

pub loop-entry-init : goal.loop-entry-init
loop-entry-init g c = record {
  cleared = c.requires;
  terminal = c.new-tty.ensures;
  some = none_shown;
  written = writes_none (StandsIn (digits_of c.args.entries.now)) _ _ refl;
}

pub returns-in_err-write_part-clause-part : goal.returns-in_err-write_part-clause-part
returns-in_err-write_part-clause-part g c =
    on_err _ (shown_part
    c.args.entries.now c.loop-entry.entry-index c.entry-item.result c.after_entry-shown.result _ _ _ _
    c.loop-entry-test.true c.entry-item.is
    (shown_as opening_terminal c.loop-entry.tty (take c.loop-entry.entry-index c.args.entries.now) c.entry-item.result
    c.after_entry-shown.result c.loop-entry.invariant.terminal c.after_entry-shown.ensures.shown)
    (shown_text _ _ _ _ c.loop-entry.invariant.cleared c.as_slice.ensures c.push_bytes.ensures.text)
    c.loop-entry.invariant.written c.in_err-write_part.ensures.part)

pub loop-entry-preserved : goal.loop-entry-preserved
loop-entry-preserved g c =
    let shown_is =
    shown_as opening_terminal c.loop-entry.tty (take c.loop-entry.entry-index c.args.entries.now) c.entry-item.result
    c.after_entry-shown.result c.loop-entry.invariant.terminal c.after_entry-shown.ensures.shown in
    record {
      cleared = c.in_ok-write_part.ensures.cleared;
      terminal =
          terminal_more opening_terminal _ _ c.args.entries.now c.loop-entry.entry-index c.entry-item.result
          c.loop-entry-test.true c.entry-item.is c.loop-entry.invariant.terminal c.after_entry-shown.ensures.terminal;
      some = elim c.if-some.branch [
        | then-some w ↦
            some_kept opening_terminal c.args.entries.now c.loop-entry.entry-index c.entry-item.result _ _ _
            c.loop-entry-test.true c.entry-item.is shown_is c.loop-entry.invariant.some w.if-some.true (w.some-is
            ∙ w.if-some.true)
        | else-some w ↦
            some_found opening_terminal c.args.entries.now c.loop-entry.entry-index c.entry-item.result _ _ _ _
            c.loop-entry-test.true c.entry-item.is shown_is c.loop-entry.invariant.some w.if-some.false w.some-is
            w.is_empty.ensures
      ];
      written =
          shown_all
          c.args.entries.now c.loop-entry.entry-index c.entry-item.result c.after_entry-shown.result _ _ _ _
          c.loop-entry-test.true c.entry-item.is shown_is
          (shown_text _ _ _ _ c.loop-entry.invariant.cleared c.as_slice.ensures c.push_bytes.ensures.text)
          c.loop-entry.invariant.written c.in_ok-write_part.ensures.whole;
    }
