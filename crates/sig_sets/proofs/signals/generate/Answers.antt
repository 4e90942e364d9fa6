use Rattle.std.proofs.lemmas.Nat.{or_lt}
use Rattle.sig_sets.proofs.Sets.{only-lt}
use Rattle.sig_sets.proofs.signals.generate.Goals as goal

pub returns-clause-within : goal.returns-clause-within
returns-clause-within c =
    rw (c.union.ensures tt)
    (or_lt 31 c.outside.result.0 c.only.result.0 c.outside.ensures.within
    (rw c.only.ensures (only-lt c.args.s c.requires)))
