use Rattle.std.proofs.Common.{◌≡◌, ◌∙◌, inl, inr, ◌*◌, true, false, Some, sym, ap, subst, arith}
use Rattle.std.proofs.lemmas.Bool.{cases_lt}
use borrow.Author.Count.{below_more}
use Rattle.w32_handles.specs.Shown.{object_shown}
use Rattle.w32_handles.specs.Table.{object_at}
use Rattle.w32_machine.specs.Handing.{is_its_object}
use Rattle.w32_kinds.specs.Shown.{shown}
use Rattle.w32_machine.proofs.Finding.{first-found, none-found}
use Rattle.w32_machine.proofs.machine.finding.object_of.Goals as goal

pub loop-place-init : goal.loop-place-init
loop-place-init c = λ k l. absurd (omega arith)

pub returns-then-is_object_of : goal.returns-then-is_object_of
returns-then-is_object_of c =
    let here = subst (λ o. is_its_object (object_shown shown (object_at c.args.objects.now o)) c.args.w ≡ true)
    c.new-o.ensures (sym c.is_object_of.ensures ∙ c.if-is_object_of.true) in
    sym (first-found shown c.args.w c.loop-place.place c.args.objects.now c.loop-place.invariant here
    ∙ ap (λ o. Some o) (sym c.new-o.ensures))

pub loop-place-preserved : goal.loop-place-preserved
loop-place-preserved c =
    below_more (λ k. is_its_object (object_shown shown (object_at c.args.objects.now (2 * k))) c.args.w ≡ false)
    c.loop-place.place c.loop-place.invariant
    (subst (λ o. is_its_object (object_shown shown (object_at c.args.objects.now o)) c.args.w ≡ false) c.new-o.ensures
    (sym c.is_object_of.ensures ∙ c.if-is_object_of.false))

pub returns : goal.returns
returns c =
    sym (none-found shown c.args.w c.args.objects.now (λ k. elim (cases_lt k c.loop-place.place) [
      | inl l ↦ c.loop-place.invariant k l
      | inr l ↦ ap (λ o. is_its_object (object_shown shown o) c.args.w)
          (c.places-place-end.ensures.all (2 * k) (omega (arith, c.loop-place-test.false)))
    ]))
