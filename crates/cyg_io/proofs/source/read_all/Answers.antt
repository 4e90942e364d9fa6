use Rattle.std.proofs.Common.{arith, rules, refl, vec_len}
use Rattle.cyg_io.proofs.Known.{Draws-kept, Draws-more, none_left}
use Rattle.cyg_io.proofs.source.read_all.Goals as goal

pub returns-then-count-eq0-clause-none_left : goal.returns-then-count-eq0-clause-none_left
returns-then-count-eq0-clause-none_left g c =
    none_left _ _ _ _ _ c.reading.invariant.bytes c.in-Ok.ensures.bytes (search rules)

pub returns-then-count-allowed-clause-large : goal.returns-then-count-allowed-clause-large
returns-then-count-allowed-clause-large g c _ =
    Draws-more _ _ _ _ _ (vec_len c.reading.bytes) _ _ _ _ _
    (search rules) c.reading.invariant.bytes c.in-Ok.ensures.bytes c.in-Ok.ensures.within
    c.reading.invariant.given c.in-Ok.ensures.gave
    (omega (arith, c.reading.invariant.given, c.read.ensures.given_stay)) (search rules)

pub returns-then-is_err-clause-memory : goal.returns-then-is_err-clause-memory
returns-then-is_err-clause-memory g c _ = (
  _,
  search rules,
  Draws-more _ _ _ _ _ (vec_len c.reading.bytes) _ _ _ _ _
      (search rules) c.reading.invariant.bytes c.in-Ok.ensures.bytes c.in-Ok.ensures.within
      c.reading.invariant.given c.in-Ok.ensures.gave
      (omega (arith, c.reading.invariant.given, c.read.ensures.given_stay)) refl,
)

pub returns-in_default-clause-read : goal.returns-in_default-clause-read
returns-in_default-clause-read g c _ = (
  _,
  search rules,
  Draws-kept _ _ _ _ (vec_len c.reading.bytes) _ _ _
      (search rules) c.reading.invariant.bytes c.in_default.ensures.same_bytes
      c.reading.invariant.given c.in_default.ensures.same_given
      (omega (arith, c.reading.invariant.given, c.read.ensures.given_stay)),
)
