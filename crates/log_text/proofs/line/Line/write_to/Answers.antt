use Rattle.std.proofs.Common.{List, ℕ, [], ◌∷◌, ◌++◌, ap, sym, ◌∙◌}
use Rattle.cyg_io.specs.Sink.{EndsOneLine}
use Rattle.cyg_io.specs.PieceLaws.{EndsOneLine-rest}
use Rattle.log_spec.specs.EventsText.{is_one_line}
use Rattle.log_spec.specs.Texts.{line}
use Rattle.log_text.proofs.OneLine.{ends_one_line}
use Rattle.log_text.proofs.Writing.{piece_whole, piece_part}
use Rattle.log_text.proofs.line.Line.write_to.Goals as goal

pub returns-clause-whole : goal.returns-clause-whole
returns-clause-whole g c =
    let ends = ends_one_line c.args.self.now (ap is_one_line (sym c.self.view_is) ∙ c.self.invariant.1) in
    piece_whole
    c.write_all-result.result EndsOneLine c.as_slice.result.now (line c.args.self.now) _ _
    (c.as_slice.ensures.value ∙ c.push.ensures.items ∙ ap (λ (l : List ℕ). l ++ 10 ∷ []) c.self.view_is)
    (λ rest h. EndsOneLine-rest (line c.args.self.now) rest ends h)
    c.write_all-result.ensures.whole c.write_all-result.ensures.no_fault c.write_all-result.ensures.pieces

pub returns-clause-part : goal.returns-clause-part
returns-clause-part g c =
    let ends = ends_one_line c.args.self.now (ap is_one_line (sym c.self.view_is) ∙ c.self.invariant.1) in
    piece_part
    c.write_all-result.result EndsOneLine c.as_slice.result.now (line c.args.self.now) _ _
    (c.as_slice.ensures.value ∙ c.push.ensures.items ∙ ap (λ (l : List ℕ). l ++ 10 ∷ []) c.self.view_is)
    (λ rest h. EndsOneLine-rest (line c.args.self.now) rest ends h)
    c.write_all-result.ensures.failed c.write_all-result.ensures.part c.write_all-result.ensures.pieces
