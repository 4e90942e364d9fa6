use Rattle.std.proofs.Common.{◌≡◌, ◌+◌, ◌<◌, ◌≤◌, MatchOption, subst, arith}
use Rattle.w32_machine.specs.Looking.{IsNoneFrom, IsNoneAmong, IsFirstAmong}
use Rattle.w32_machine.proofs.Round.{next-last}
use Rattle.w32_machine.proofs.machine.Machine.next_ready.Goals as goal

pub returns : goal.returns
returns c =
    let s = c.args.self.now.win32 in
    let after : c.from-after.result + 1 ≡ c.args.last.0 + 1 =
    omega (arith, c.from-after.ensures, c.get.ensures.value) in
    let here : IsNoneFrom s c.args.last.0 (c.args.last.1 + 1) =
    subst (λ n. IsNoneFrom s c.args.last.0 n) (omega (arith, c.get-2.ensures.value)) c.in_default.ensures.first in
    let above : IsNoneAmong s (c.args.last.0 + 1) 65 =
    subst (λ n. IsNoneAmong s n 65) after c.in_default-first_among.ensures in
    next-last s c.args.last.0 c.args.last.1 (omega (arith, c.get.ensures.range, c.get.ensures.value))
    (omega (arith, c.get-2.ensures.range, c.get-2.ensures.value)) c.first_from.ensures.few c.first_among-2.result here
    above
    (subst (λ n. MatchOption c.first_among-2.result (IsNoneAmong s 0 n) (λ next. IsFirstAmong s 0 n next.0 next.1))
    after c.first_among-2.ensures)
