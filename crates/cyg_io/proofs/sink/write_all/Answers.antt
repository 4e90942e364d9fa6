use Rattle.std.proofs.Common.{rules}
use Rattle.std.proofs.lemmas.List.{take_rest}
use Rattle.cyg_io.specs.Sink.{IsRestOf}
use Rattle.cyg_io.specs.PieceLaws.{TakesOnly-none, TakesOnly-one, TakesOnly-trans}
use Rattle.cyg_io.proofs.Known.{Appends-more}
use Rattle.cyg_io.proofs.sink.write_all.Goals as goal

pub loop-written-init : goal.loop-written-init
loop-written-init g c = record {
  within = search rules;
  bytes = search rules;
  pieces = TakesOnly-none (IsRestOf c.args.piece.now) _;
  faults = search rules;
}

pub loop-written-preserved : goal.loop-written-preserved
loop-written-preserved g c = record {
  within = search rules;
  bytes =
      Appends-more _ _ _ _ _ _ _
      (take_rest c.args.piece.now c.loop-written.written) c.loop-written.invariant.bytes c.in_ok-written.ensures.bytes;
  pieces =
      TakesOnly-trans (IsRestOf c.args.piece.now) _ _ _ c.loop-written.invariant.pieces
      (TakesOnly-one (IsRestOf c.args.piece.now) _ _ _ c.in_ok-written.ensures.one_piece
      (c.loop-written.written, search rules, take_rest c.args.piece.now c.loop-written.written));
  faults = search rules;
}
