use Rattle.std.proofs.Common.{◌≡◌, ◌∙◌, ◌+◌, refl, sym, ap, subst, arith}
use Rattle.win32_spec.specs.Handles.{handle_of}
use Rattle.w32_machine.proofs.Holding.{HoldsBelow, holds-start, holds-all, holds-absent, may-hold, holds-next}
use Rattle.w32_machine.proofs.machine.creating.hold_all.Goals as goal
use Rattle.w32_machine.proofs.machine.creating.hold_all.Goals.{in-Some, in_default}

pub loop-number-init : goal.loop-number-init
loop-number-init c = record {
  holds = holds-start c.args.handles.now c.requires.rising c.args.objects.now;
  spare = refl;
}

pub hold_object-requires : goal.hold_object-requires
hold_object-requires c =
    may-hold c.args.handles.now c.requires.rising c.args.objects.now c.loop-number.number c.loop-number.objects
    c.loop-number.invariant.holds c.in-Some.o
    (ap (handle_of c.args.handles.now) (sym c.new.ensures) ∙ sym c.get.ensures.named ∙ c.in-Some.is) c.requires

pub loop-number-preserved : goal.loop-number-preserved
loop-number-preserved c =
    elim c.match-get.branch [
      | in-Some w ↦
          let named = ap (handle_of c.args.handles.now) (sym c.new.ensures) ∙ sym c.get.ensures.named ∙ w.in-Some.is in
          record {
            holds = subst (HoldsBelow c.args.handles.now (c.loop-number.number + 1) c.args.objects.now)
                (sym w.objects-is)
                (holds-next c.args.handles.now c.requires.rising c.args.objects.now c.loop-number.number
                c.loop-number.objects c.loop-number.invariant.holds w.in-Some.o named w.hold_object.new.objects
                (c.requires.there c.loop-number.number w.in-Some.o named) w.hold_object.ensures.held);
            spare = ap (λ t. t.spare) w.objects-is ∙ w.hold_object.ensures.spare ∙ c.loop-number.invariant.spare;
          }
      | in_default w ↦ record {
        holds = subst (HoldsBelow c.args.handles.now (c.loop-number.number + 1) c.args.objects.now) (sym w.objects-is)
            (holds-absent c.args.handles.now c.requires.rising c.args.objects.now c.loop-number.number
            c.loop-number.objects c.loop-number.invariant.holds
            (ap (handle_of c.args.handles.now) (sym c.new.ensures) ∙ sym c.get.ensures.named ∙ w.in_default.is));
        spare = ap (λ t. t.spare) w.objects-is ∙ c.loop-number.invariant.spare;
      }
    ]

pub returns-clause-held : goal.returns-clause-held
returns-clause-held c =
    let last : c.loop-number.number ≡ 65 = omega arith in
    holds-all c.args.handles.now c.requires.rising c.args.objects.now c.loop-number.objects
    (subst (λ k. HoldsBelow c.args.handles.now k c.args.objects.now c.loop-number.objects) last
    c.loop-number.invariant.holds)
