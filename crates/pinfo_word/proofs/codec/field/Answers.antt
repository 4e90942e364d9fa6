use Rattle.std.proofs.Common.{◌<◌, ◌/◌, ◌^◌, arith}
use Rattle.std.proofs.lemmas.Nat.{one_shl, and_mask}
use Rattle.pinfo_word.proofs.codec.field.Goals as goal

pub returns-clause-value : goal.returns-clause-value
returns-clause-value c =
    let below : c.args.width < 64 = omega arith in
    rw (one_shl c.args.width 64 below) (and_mask (c.args.word / 2 ^ c.args.place) c.args.width)
