use Rattle.std.proofs.Common.{◌∙◌, refl, sym, subst}
use Rattle.w32_base.specs.Part.{KeepsLengths}
use Rattle.w32_machine.proofs.Owning.{owning-is, owning-sound}
use Rattle.w32_machine.proofs.Slots.{caller-at, memory_at, is_there}
use Rattle.w32_machine.proofs.machine.Machine.answer.Goals as goal

pub own_mut-requires : goal.own_mut-requires
own_mut-requires g c =
    is_there _ c.args.by.now.process
    (caller-at c.self.inside c.self.invariant c.args.self.now c.self.view_is c.args.by.now.slot c.args.by.now.process
    c.requires.process)

pub invariant_of-self : goal.invariant_of-self
invariant_of-self g c =
    let m = c.self.inside in
    let at = caller-at m c.self.invariant c.args.self.now c.self.view_is c.args.by.now.slot c.args.by.now.process
    c.requires.process in
    owning-sound m c.self.invariant c.args.by.now.slot c.args.by.now.process at c.after.new.own
    (subst (λ o. KeepsLengths o c.after.new.own)
    (c.own_mut.ensures.value ∙ sym (memory_at m c.self.invariant c.args.by.now.slot c.args.by.now.process at))
    (g.met.P.Part.keeps_lengths c.args.part.now c.after.new.self c.own_mut.result.now c.after.new.own
    c.setup_of.result.now c.args.reply.now c.after.result (g.met.P.Whole.is_never_done c.args.part.now)
    c.after.ensures.goes))

pub returns : goal.returns
returns g c =
    let m = c.self.inside in
    let at = caller-at m c.self.invariant c.args.self.now c.self.view_is c.args.by.now.slot c.args.by.now.process
    c.requires.process in
    rw (← c.self.view_is) (record {
      own = c.after.new.own;
      went = subst (λ o. g.P.Part.goes c.args.part.now o m.script.setup c.args.reply.now c.after.new.self
          c.after.new.own c.after.result)
          (c.own_mut.ensures.value ∙ sym (memory_at m c.self.invariant c.args.by.now.slot c.args.by.now.process at))
          (subst (λ s. g.P.Part.goes c.args.part.now c.own_mut.result.now s c.args.reply.now c.after.new.self
          c.after.new.own c.after.result) c.setup_of.ensures c.after.ensures.goes);
      after = owning-is m c.self.invariant c.args.by.now.slot c.args.by.now.process at c.after.new.own;
      script = refl;
    })
