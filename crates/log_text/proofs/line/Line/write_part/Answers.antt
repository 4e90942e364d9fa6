use Rattle.std.proofs.Common.{◌∙◌}
use Rattle.cyg_io.specs.Sink.{IsRestOf}
use Rattle.log_text.proofs.Writing.{piece_whole, piece_part}
use Rattle.log_text.proofs.line.Line.write_part.Goals as goal

pub returns-clause-whole : goal.returns-clause-whole
returns-clause-whole g c =
    piece_whole
    c.write_all-result.result (IsRestOf c.args.self.now) c.as_slice.result.now c.args.self.now _ _
    (c.as_slice.ensures.value ∙ c.self.view_is) (λ rest h. h)
    c.write_all-result.ensures.whole c.write_all-result.ensures.no_fault c.write_all-result.ensures.pieces

pub returns-clause-part : goal.returns-clause-part
returns-clause-part g c =
    piece_part
    c.write_all-result.result (IsRestOf c.args.self.now) c.as_slice.result.now c.args.self.now _ _
    (c.as_slice.ensures.value ∙ c.self.view_is) (λ rest h. h)
    c.write_all-result.ensures.failed c.write_all-result.ensures.part c.write_all-result.ensures.pieces
