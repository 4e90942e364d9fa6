use Rattle.std.proofs.Common.{◌≡◌, ◌++◌, [], ◌∷◌, ◌+◌, take, sym, ◌∙◌, arith}
use Rattle.log_text.proofs.CallerLines.{entry_more, IsNext-none, IsNext-stays, IsNext-nearer}
use Rattle.log_text.proofs.caller.next_number.Goals as goal
use Rattle.log_text.proofs.caller.next_number.Goals.{in-Some+then-least-number+then-number-next}
use Rattle.log_text.proofs.caller.next_number.Goals.{in-Some+else-least-number, in_default}
use Rattle.log_text.proofs.caller.next_number.Goals.{else-least-number-via-then-least-number+else-number-next}
use Rattle.log_text.proofs.caller.next_number.Goals.{else-least-number-via-else-least-number}

pub loop-entry-init : goal.loop-entry-init
loop-entry-init c = IsNext-none c.args.least c.requires

pub loop-entry-preserved : goal.loop-entry-preserved
loop-entry-preserved c =
    let more : take (c.loop-entry.entry-index + 1) c.args.entries.now
    ≡ take c.loop-entry.entry-index c.args.entries.now ++ c.entry-item.result ∷ [] =
    entry_more
    c.args.entries.now c.loop-entry.entry-index c.entry-item.result c.loop-entry-test.true c.entry-item.is in
    elim c.match-caller_of.branch [
      | in-Some+then-least-number+then-number-next w ↦
          rw w.next-is (IsNext-nearer
          _ _ _ _ _ _ more c.loop-entry.invariant (sym w.in-Some.ensures.value) w.if-least-number.true
          w.if-number-next.true)
      | in-Some+else-least-number w ↦
          rw w.next-is (IsNext-stays _ _ _ _ _ more c.loop-entry.invariant (λ p low high at.
          let same : w.in-Some.number ≡ p = cc (w.in-Some.ensures.value, at) in
          elim w.else-least-number.branch [
            | else-least-number-via-then-least-number+else-number-next v ↦ omega arith
            | else-least-number-via-else-least-number v ↦ omega arith
          ]))
      | in_default w ↦
          rw w.next-is (IsNext-stays
          _ _ _ _ _ more c.loop-entry.invariant (λ p low high at.
          w.in_default.not-Some p (c.caller_of.ensures.value ∙ at)))
    ]
