-- What is taken is what the discipline says, as bytes of the first line are left or not.
use Rattle.std.proofs.Common.{◌≡◌, ◌<◌, length, min, arith, rules, sym}
use Rattle.tty_line.proofs.Taking.{partly_taken, wholly_taken}
use Rattle.tty_line.proofs.tty.Tty.take_line.Goals as goal
use Rattle.tty_line.proofs.tty.Tty.take_line.Goals.{then-count-len, else-count-len}

pub returns : goal.returns
returns c =
    let fields = c.self.inside in
    let some : 0 < length c.self.inside.done.items = search (rules, c.in-Some.ensures.variant) in
    let count : c.min-count.result ≡ min c.args.n (length c.in-Some.first.now) =
    omega (arith, c.from.ensures, c.min-count.ensures, c.len.ensures.value) in
    elim c.if-count-len.branch [
      | then-count-len w ↦
          partly_taken
          _ _ fields.fg fields.flags fields.line fields.done.items c.in-Some.first.now _ _ _ _ (sym c.self.view_is)
          some c.in-Some.ensures.value count c.as_slice.ensures.value c.from_slice-bytes.ensures
          _ (omega arith) w.drop_front.ensures w.self-is
      | else-count-len w ↦
          wholly_taken
          _ _ fields.fg fields.flags fields.line fields.done.items c.in-Some.first.now _ _ _ _ (sym c.self.view_is)
          some c.in-Some.ensures.value count c.as_slice.ensures.value c.from_slice-bytes.ensures
          _ (omega arith) w.remove.ensures.items w.self-is
    ]
