use Rattle.std.proofs.Common.{◌≡◌, None, replicate, vec_len}
use Rattle.posix_model.proofs.table.Table.new.Given as goal

abbrev pub invariant-loop-seat : goal.invariant-loop-seat
invariant-loop-seat l = (l.seats.items ≡ replicate l._seat None) × (vec_len l.seats ≡ l._seat)
