use Rattle.std.proofs.Common.{◌∷◌, [], ◌++◌, refl, sym, ap, ◌∙◌, subst, arith}
use Rattle.layer_world.specs.KeptLaws.{keys-within, directed-as, directed-kept-as}
use Rattle.layer_world.specs.World.{IsAllowed, WorldValue, Directed}
use Rattle.layer_world.proofs.world.World.direct.Goals as goal

pub invariant_of-self : goal.invariant_of-self
invariant_of-self g c =
    let m = c.self.inside in
    let e = c.carry_out-entry.result in
    let w : WorldValue g.row.P.Denot =
    record { script = m.driven.script; state = m.driven.state; entries = m.recorder.entries } in
    let allowed : IsAllowed w c.args.d = subst (λ v. IsAllowed v c.args.d) (sym c.self.view_is) c.requires in
    directed-kept-as g.P.Part.posted_of g.P.Part.goes g.P.Whole.opening g.P.Whole.slot_of g.P.Whole.thread_of
    g.P.RelyGuarantee.clause g.P.RelyGuarantee.serves g.met.P.Whole.begins g.met.P.RelyGuarantee.owes
    g.met.P.Whole.keeps_slot g.met.P.Whole.keeps_thread (λ p q o n s r a went. g.met.P.Part.keeps_lengths p q o n s r a
    (g.met.P.Whole.is_never_done p) went)
    g.met.P.RelyGuarantee.tells w m.recorder.room m.spare
    m.key_places c.self.invariant c.args.d allowed e.call e.outcome c.carry_out-entry.new.driven.state
    c.carry_out-entry.ensures.driven c.carry_out-entry.new.driven.script c.push.new.self.entries
    c.carry_out-entry.ensures.script
    (c.push.ensures.entries ∙ ap (λ x. m.recorder.entries ++ x ∷ []) c.carry_out-entry.ensures.entry)
    c.carry_out-entry.ensures.step c.push.new.self.room _ _ c.push.ensures.room
    (omega (arith, c.self.invariant.spare_is, allowed.spare))
    (omega (
      arith,
      c.self.invariant.places_are,
      c.keys_by-keys.ensures.value,
      keys-within w c.args.d m.key_places c.self.invariant.places_are allowed.keys,
    ))

pub returns : goal.returns
returns g c =
    let m = c.self.inside in
    let e = c.carry_out-entry.result in
    let w : WorldValue g.row.P.Denot =
    record { script = m.driven.script; state = m.driven.state; entries = m.recorder.entries } in
    let allowed : IsAllowed w c.args.d = subst (λ v. IsAllowed v c.args.d) (sym c.self.view_is) c.requires in
    subst (λ v. Directed g.P.Part.posted_of g.P.Part.goes g.P.Whole.opening g.P.Whole.slot_of g.P.Whole.thread_of
    g.P.RelyGuarantee.clause v c.args.d e.outcome (record {
      script = c.carry_out-entry.new.driven.script;
      state = c.carry_out-entry.new.driven.state;
      entries = c.push.new.self.entries;
    })) c.self.view_is
    (directed-as g.P.Part.posted_of g.P.Part.goes g.P.Whole.opening g.P.Whole.slot_of g.P.Whole.thread_of
    g.P.RelyGuarantee.clause g.P.RelyGuarantee.serves g.met.P.Whole.begins g.met.P.RelyGuarantee.owes
    g.met.P.Whole.keeps_slot g.met.P.Whole.keeps_thread (λ p q o n s r a went. g.met.P.Part.keeps_lengths p q o n s r a
    (g.met.P.Whole.is_never_done p) went)
    g.met.P.RelyGuarantee.tells w m.recorder.room m.spare
    m.key_places c.self.invariant c.args.d allowed e.call e.outcome c.carry_out-entry.new.driven.state
    c.carry_out-entry.ensures.driven c.carry_out-entry.new.driven.script c.push.new.self.entries
    c.carry_out-entry.ensures.script
    (c.push.ensures.entries ∙ ap (λ x. m.recorder.entries ++ x ∷ []) c.carry_out-entry.ensures.entry))
