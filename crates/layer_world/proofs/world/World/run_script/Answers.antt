use Rattle.std.proofs.Common.{◌≡◌, ◌+◌, ◌<◌, ◌∷◌, [], drop, get_or, length, IsTrue, MatchOption, refl, sym, ap, ◌∙◌}
use Rattle.std.proofs.Common.{subst}
use Rattle.std.proofs.Common.{arith}
use Rattle.std.proofs.lemmas.List.{drop_all}
use Rattle.std.specs.List.{list_all}
use Rattle.script_spec.specs.Ranges.{is_line_within}
use Rattle.w32_machine.specs.Contract.{key_lines}
use Rattle.layer_world.specs.NextLine.{next-line, line-within}
use Rattle.layer_world.specs.Scheduled.{IsAt, IsSpent}
use Rattle.layer_world.specs.ScheduledLaws.{spent-end}
use Rattle.layer_world.proofs.world.World.run_script.Goals as goal

pub loop-line-init : goal.loop-line-init
loop-line-init g c = (refl, c.before_the_first-last.ensures)

pub carry_line-requires-clause-within : goal.carry_line-requires-clause-within
carry_line-requires-clause-within g c =
    let ds = c.args.script.now.directives in
    let items = c.as_slice-line-items.ensures.value in
    let within : c.loop-line.line-index < length ds =
    subst (λ xs. c.loop-line.line-index < length xs) items c.loop-line-test.true in
    let is = c.line-item.is ∙ ap (λ xs. get_or xs c.loop-line.line-index c.line-item.result) items in
    subst (λ s. IsTrue (is_line_within s.setup.limits.slots c.line-item.result))
    (c.requires.script ∙ sym c.loop-line.invariant.0)
    (line-within c.args.script.now.setup.limits.slots ds c.loop-line.line-index c.line-item.result
    c.args.script.now.lines_in_range within is)

pub carry_line-requires-clause-keys : goal.carry_line-requires-clause-keys
carry_line-requires-clause-keys g c =
    let ds = c.args.script.now.directives in
    let items = c.as_slice-line-items.ensures.value in
    let within : c.loop-line.line-index < length ds =
    subst (λ xs. c.loop-line.line-index < length xs) items c.loop-line-test.true in
    let is = c.line-item.is ∙ ap (λ xs. get_or xs c.loop-line.line-index c.line-item.result) items in
    let next = next-line ds c.loop-line.line-index c.line-item.result within is in
    let same = ap (λ s. key_lines (drop c.loop-line.line-index s.directives)) c.requires.script in
    omega (arith, c.loop-line.invariant.1.keys, ap key_lines next, same)

pub returns-in_default-clause-journal : goal.returns-in_default-clause-journal
returns-in_default-clause-journal g c =
    let ds = c.args.self.now.script.directives in
    let at = c.loop-line.invariant.1 in
    spent-end g.P.Part.posted_of g.P.Part.goes g.P.Whole.opening g.P.Whole.slot_of g.P.Whole.thread_of
    g.P.RelyGuarantee.clause c.carry_line.new.self
    (c.in_default.ensures.lines (drop (c.loop-line.line-index + 1) ds)
    (subst (λ ls. IsAt g.P.Part.posted_of g.P.Part.goes g.P.Whole.opening g.P.Whole.slot_of g.P.Whole.thread_of
    g.P.RelyGuarantee.clause c.loop-line.self ls c.loop-line.last.0 c.loop-line.last.1)
    (next-line ds c.loop-line.line-index c.line-item.result
    (subst (λ xs. c.loop-line.line-index < length xs)
    (c.as_slice-line-items.ensures.value ∙ ap (λ s. s.directives) c.requires.script) c.loop-line-test.true)
    (c.line-item.is ∙ ap (λ xs. get_or xs c.loop-line.line-index c.line-item.result)
    (c.as_slice-line-items.ensures.value ∙ ap (λ s. s.directives) c.requires.script))) at))

pub returns-in_default-clause-script : goal.returns-in_default-clause-script
returns-in_default-clause-script g c = c.carry_line.ensures.script ∙ c.loop-line.invariant.0

pub loop-line-preserved : goal.loop-line-preserved
loop-line-preserved g c =
    let ds = c.args.self.now.script.directives in
    let at = c.loop-line.invariant.1 in (
      c.carry_line.ensures.script ∙ c.loop-line.invariant.0,
      c.in-Some.ensures.lines (drop (c.loop-line.line-index + 1) ds)
          (subst (λ ls. IsAt g.P.Part.posted_of g.P.Part.goes g.P.Whole.opening g.P.Whole.slot_of g.P.Whole.thread_of
          g.P.RelyGuarantee.clause c.loop-line.self ls c.loop-line.last.0 c.loop-line.last.1)
          (next-line ds c.loop-line.line-index c.line-item.result
          (subst (λ xs. c.loop-line.line-index < length xs)
          (c.as_slice-line-items.ensures.value ∙ ap (λ s. s.directives) c.requires.script) c.loop-line-test.true)
          (c.line-item.is ∙ ap (λ xs. get_or xs c.loop-line.line-index c.line-item.result)
          (c.as_slice-line-items.ensures.value ∙ ap (λ s. s.directives) c.requires.script))) at),
    )

pub returns-clause-journal : goal.returns-clause-journal
returns-clause-journal g c =
    let ds = c.args.self.now.script.directives in
    let items = c.as_slice-line-items.ensures.value ∙ ap (λ s. s.directives) c.requires.script in
    let none : drop c.loop-line.line-index ds ≡ [] =
    drop_all c.loop-line.line-index ds (omega (arith, ap length items, c.loop-line-test.false)) in
    c.end_of_lines.ensures c.loop-line.last.0 c.loop-line.last.1
    (subst (λ ls. IsAt g.P.Part.posted_of g.P.Part.goes g.P.Whole.opening g.P.Whole.slot_of g.P.Whole.thread_of
    g.P.RelyGuarantee.clause c.loop-line.self ls c.loop-line.last.0 c.loop-line.last.1) none c.loop-line.invariant.1)

pub returns-clause-script : goal.returns-clause-script
returns-clause-script g c = c.loop-line.invariant.0
