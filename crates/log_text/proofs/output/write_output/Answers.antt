use Rattle.std.proofs.Common.{◌≡◌, ◌<◌, ◌∙◌, true, arith, sym, ap, List, [], ℕ, ◌++◌, length, codes}
use Rattle.tty_spec.specs.Terminal.{opening_terminal}
use Rattle.log_spec.specs.Output.{output_from}
use Rattle.log_text.proofs.Outputs.{output_stopped_first, output_stopped, output_whole, output_part}
use Rattle.log_text.proofs.Writing.{on_err}
use Rattle.log_text.proofs.output.write_output.Given.{Over}
use Rattle.log_text.proofs.output.write_output.Goals as goal
use Rattle.log_text.proofs.output.write_output.Goals.{then-not-some, else-not-some}

pub returns-in_err-write_part-clause-part : goal.returns-in_err-write_part-clause-part
returns-in_err-write_part-clause-part g c =
    on_err _ (output_stopped_first c.args.entries.now _ _ _
    (c.push_text.ensures.text ∙ ap (λ (l : List ℕ). l ++ codes "tty ") c.requires)
    c.in_err-write_part.ensures.part)

pub returns-in_err-some-clause-part : goal.returns-in_err-some-clause-part
returns-in_err-some-clause-part g c =
    on_err _ (output_stopped c.args.entries.now _ _ _ _
    (c.push_text.ensures.text ∙ ap (λ (l : List ℕ). l ++ codes "tty ") c.requires)
    c.in_ok-write_part.ensures.whole c.in_err-some.ensures.part)

-- what stands before the line's end
if_shown : (g : Over) (c : goal.After-write_to g)
    → 0 < length (output_from opening_terminal c.args.entries.now) → c.if-not-some.line ≡ []
if_shown g c h = elim c.if-not-some.branch [
  | then-not-some w ↦
      let some : c.in_ok-some.some ≡ true = c.in_ok-some.ensures.some.1 h in
      absurd (cc (sym some ∙ w.if-not-some.true))
  | else-not-some w ↦ w.line-is ∙ c.in_ok-some.ensures.cleared
]

if_none : (g : Over) (c : goal.After-write_to g)
    → length (output_from opening_terminal c.args.entries.now) ≡ 0 → c.if-not-some.line ≡ codes "-"
if_none g c h = elim c.if-not-some.branch [
  | then-not-some w ↦
      w.line-is ∙ w.push_text-then-not-some.ensures.text
      ∙ ap (λ (l : List ℕ). l ++ codes "-") c.in_ok-some.ensures.cleared
  | else-not-some w ↦
      let some : 0 < length (output_from opening_terminal c.args.entries.now) =
      c.in_ok-some.ensures.some.0 w.if-not-some.false in
      absurd (omega (arith, some, h))
]

pub returns-clause-whole : goal.returns-clause-whole
returns-clause-whole g c =
    output_whole c.write_to.result c.args.entries.now _ _ _ _ _ _
    (c.push_text.ensures.text ∙ ap (λ (l : List ℕ). l ++ codes "tty ") c.requires)
    (if_shown g c) (if_none g c) c.in_ok-write_part.ensures.whole c.in_ok-some.ensures.whole c.write_to.ensures.whole

pub returns-clause-part : goal.returns-clause-part
returns-clause-part g c =
    output_part c.write_to.result c.args.entries.now _ _ _ _ _ _
    (c.push_text.ensures.text ∙ ap (λ (l : List ℕ). l ++ codes "tty ") c.requires)
    (if_shown g c) (if_none g c) c.in_ok-write_part.ensures.whole c.in_ok-some.ensures.whole c.write_to.ensures.part
