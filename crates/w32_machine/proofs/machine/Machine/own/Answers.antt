use Rattle.std.proofs.Common.{◌∙◌, sym, ap, Some}
use Rattle.w32_machine.proofs.Slots.{own_in-at, own_in-none}
use Rattle.w32_machine.proofs.machine.Machine.own.Goals as goal

pub returns-in-Some : goal.returns-in-Some
returns-in-Some c =
    let m = c.self.inside in
    rw (← c.self.view_is) (ap (λ own. Some own) c.own.ensures
    ∙ sym (own_in-at m c.self.invariant c.args.slot c.in-Some.field-0 (sym c.in_slot.ensures.value ∙ c.in-Some.is)))

pub returns-in-None : goal.returns-in-None
returns-in-None c =
    let m = c.self.inside in
    rw (← c.self.view_is) (sym (own_in-none m c.self.invariant c.args.slot (sym c.in_slot.ensures.value ∙
    c.in-None.is)))
