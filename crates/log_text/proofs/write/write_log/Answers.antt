use Rattle.log_spec.specs.Views.{log_text}
use Rattle.log_text.specs.Pieces.{IsPiece, IsWithinLine}
use Rattle.log_text.specs.PieceLaws.{piece_is_within}
use Rattle.cyg_io.specs.PieceLaws.{TakesOnly-weaker}
use Rattle.log_text.specs.Writes.{WritesAll, WritesPart}
use Rattle.log_text.proofs.Views.{log_stopped_first, log_stopped, log_whole, log_part, pieces_of, text_at}
use Rattle.log_text.proofs.Writing.{on_err, ok_weaker, err_weaker}
use Rattle.log_text.proofs.write.write_log.Goals as goal

pub returns-in_err-write_to-clause-part : goal.returns-in_err-write_to-clause-part
returns-in_err-write_to-clause-part g c =
    on_err _ (log_stopped_first c.args.view c.args.entries.now c.args.end _ _ _
    (text_at _ _ _ _ c.new-line.ensures c.push_text.ensures.text c.view_line.ensures.text)
    c.in_err-write_to.ensures.part).bytes

pub returns-in_err-write_to-clause-pieces : goal.returns-in_err-write_to-clause-pieces
returns-in_err-write_to-clause-pieces g c =
    (log_stopped_first c.args.view c.args.entries.now c.args.end _ _ _
    (text_at _ _ _ _ c.new-line.ensures c.push_text.ensures.text c.view_line.ensures.text)
    c.in_err-write_to.ensures.part).pieces

pub returns-in_err-write_to-clause-failed : goal.returns-in_err-write_to-clause-failed
returns-in_err-write_to-clause-failed g c =
    on_err _ (log_stopped_first c.args.view c.args.entries.now c.args.end _ _ _
    (text_at _ _ _ _ c.new-line.ensures c.push_text.ensures.text c.view_line.ensures.text)
    c.in_err-write_to.ensures.part).one_fault

pub returns-in_err-write_lines-clause-part : goal.returns-in_err-write_lines-clause-part
returns-in_err-write_lines-clause-part g c =
    on_err _ (log_stopped c.args.view c.args.entries.now c.args.end _ _ _ _
    (text_at _ _ _ _ c.new-line.ensures c.push_text.ensures.text c.view_line.ensures.text)
    c.in_ok-write_to.ensures.whole c.in_err-write_lines.ensures.part).bytes

pub returns-in_err-write_lines-clause-pieces : goal.returns-in_err-write_lines-clause-pieces
returns-in_err-write_lines-clause-pieces g c =
    (log_stopped c.args.view c.args.entries.now c.args.end _ _ _ _
    (text_at _ _ _ _ c.new-line.ensures c.push_text.ensures.text c.view_line.ensures.text)
    c.in_ok-write_to.ensures.whole c.in_err-write_lines.ensures.part).pieces

pub returns-in_err-write_lines-clause-failed : goal.returns-in_err-write_lines-clause-failed
returns-in_err-write_lines-clause-failed g c =
    on_err _ (log_stopped c.args.view c.args.entries.now c.args.end _ _ _ _
    (text_at _ _ _ _ c.new-line.ensures c.push_text.ensures.text c.view_line.ensures.text)
    c.in_ok-write_to.ensures.whole c.in_err-write_lines.ensures.part).one_fault

pub returns-clause-whole : goal.returns-clause-whole
returns-clause-whole g c =
    ok_weaker c.write_to-2.result
    (λ (w : WritesAll (IsPiece c.args.view c.args.entries.now) (log_text c.args.view c.args.entries.now c.args.end)
    _ _).
    w.bytes)
    (log_whole c.write_to-2.result c.args.view c.args.entries.now c.args.end _ _ _ _ _ _
    (text_at _ _ _ _ c.new-line.ensures c.push_text.ensures.text c.view_line.ensures.text)
    (text_at _ _ _ _ c.in_ok-write_lines.ensures.cleared c.push_text-2.ensures.text c.end_line.ensures.text)
    c.in_ok-write_to.ensures.whole c.in_ok-write_lines.ensures.whole c.write_to-2.ensures.whole)

pub returns-clause-no_fault : goal.returns-clause-no_fault
returns-clause-no_fault g c =
    ok_weaker c.write_to-2.result
    (λ (w : WritesAll (IsPiece c.args.view c.args.entries.now) (log_text c.args.view c.args.entries.now c.args.end)
    _ _).
    w.no_fault)
    (log_whole c.write_to-2.result c.args.view c.args.entries.now c.args.end _ _ _ _ _ _
    (text_at _ _ _ _ c.new-line.ensures c.push_text.ensures.text c.view_line.ensures.text)
    (text_at _ _ _ _ c.in_ok-write_lines.ensures.cleared c.push_text-2.ensures.text c.end_line.ensures.text)
    c.in_ok-write_to.ensures.whole c.in_ok-write_lines.ensures.whole c.write_to-2.ensures.whole)

pub returns-clause-failed : goal.returns-clause-failed
returns-clause-failed g c =
    err_weaker c.write_to-2.result
    (λ (w : WritesPart (IsPiece c.args.view c.args.entries.now) (log_text c.args.view c.args.entries.now c.args.end)
    _ _).
    w.one_fault)
    (log_part c.write_to-2.result c.args.view c.args.entries.now c.args.end _ _ _ _ _ _
    (text_at _ _ _ _ c.new-line.ensures c.push_text.ensures.text c.view_line.ensures.text)
    (text_at _ _ _ _ c.in_ok-write_lines.ensures.cleared c.push_text-2.ensures.text c.end_line.ensures.text)
    c.in_ok-write_to.ensures.whole c.in_ok-write_lines.ensures.whole c.write_to-2.ensures.part)

pub returns-clause-part : goal.returns-clause-part
returns-clause-part g c =
    err_weaker c.write_to-2.result
    (λ (w : WritesPart (IsPiece c.args.view c.args.entries.now) (log_text c.args.view c.args.entries.now c.args.end)
    _ _).
    w.bytes)
    (log_part c.write_to-2.result c.args.view c.args.entries.now c.args.end _ _ _ _ _ _
    (text_at _ _ _ _ c.new-line.ensures c.push_text.ensures.text c.view_line.ensures.text)
    (text_at _ _ _ _ c.in_ok-write_lines.ensures.cleared c.push_text-2.ensures.text c.end_line.ensures.text)
    c.in_ok-write_to.ensures.whole c.in_ok-write_lines.ensures.whole c.write_to-2.ensures.part)

pub returns-clause-pieces : goal.returns-clause-pieces
returns-clause-pieces g c =
    pieces_of c.write_to-2.result (IsPiece c.args.view c.args.entries.now)
    (log_text c.args.view c.args.entries.now c.args.end) _ _
    (log_whole c.write_to-2.result c.args.view c.args.entries.now c.args.end _ _ _ _ _ _
    (text_at _ _ _ _ c.new-line.ensures c.push_text.ensures.text c.view_line.ensures.text)
    (text_at _ _ _ _ c.in_ok-write_lines.ensures.cleared c.push_text-2.ensures.text c.end_line.ensures.text)
    c.in_ok-write_to.ensures.whole c.in_ok-write_lines.ensures.whole c.write_to-2.ensures.whole)
    (log_part c.write_to-2.result c.args.view c.args.entries.now c.args.end _ _ _ _ _ _
    (text_at _ _ _ _ c.new-line.ensures c.push_text.ensures.text c.view_line.ensures.text)
    (text_at _ _ _ _ c.in_ok-write_lines.ensures.cleared c.push_text-2.ensures.text c.end_line.ensures.text)
    c.in_ok-write_to.ensures.whole c.in_ok-write_lines.ensures.whole c.write_to-2.ensures.part)

pub returns-in_err-write_to-clause-within : goal.returns-in_err-write_to-clause-within
returns-in_err-write_to-clause-within g c =
    TakesOnly-weaker (IsPiece c.args.view c.args.entries.now) IsWithinLine
    (piece_is_within c.args.view c.args.entries.now) _ _
    ((log_stopped_first c.args.view c.args.entries.now c.args.end _ _ _
    (text_at _ _ _ _ c.new-line.ensures c.push_text.ensures.text c.view_line.ensures.text)
    c.in_err-write_to.ensures.part).pieces)

pub returns-in_err-write_lines-clause-within : goal.returns-in_err-write_lines-clause-within
returns-in_err-write_lines-clause-within g c =
    TakesOnly-weaker (IsPiece c.args.view c.args.entries.now) IsWithinLine
    (piece_is_within c.args.view c.args.entries.now) _ _
    ((log_stopped c.args.view c.args.entries.now c.args.end _ _ _ _
    (text_at _ _ _ _ c.new-line.ensures c.push_text.ensures.text c.view_line.ensures.text)
    c.in_ok-write_to.ensures.whole c.in_err-write_lines.ensures.part).pieces)

pub returns-clause-within : goal.returns-clause-within
returns-clause-within g c =
    TakesOnly-weaker (IsPiece c.args.view c.args.entries.now) IsWithinLine
    (piece_is_within c.args.view c.args.entries.now) _ _
    (pieces_of c.write_to-2.result (IsPiece c.args.view c.args.entries.now)
    (log_text c.args.view c.args.entries.now c.args.end) _ _
    (log_whole c.write_to-2.result c.args.view c.args.entries.now c.args.end _ _ _ _ _ _
    (text_at _ _ _ _ c.new-line.ensures c.push_text.ensures.text c.view_line.ensures.text)
    (text_at _ _ _ _ c.in_ok-write_lines.ensures.cleared c.push_text-2.ensures.text c.end_line.ensures.text)
    c.in_ok-write_to.ensures.whole c.in_ok-write_lines.ensures.whole c.write_to-2.ensures.whole)
    (log_part c.write_to-2.result c.args.view c.args.entries.now c.args.end _ _ _ _ _ _
    (text_at _ _ _ _ c.new-line.ensures c.push_text.ensures.text c.view_line.ensures.text)
    (text_at _ _ _ _ c.in_ok-write_lines.ensures.cleared c.push_text-2.ensures.text c.end_line.ensures.text)
    c.in_ok-write_to.ensures.whole c.in_ok-write_lines.ensures.whole c.write_to-2.ensures.part))
