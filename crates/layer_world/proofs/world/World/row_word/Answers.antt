use Rattle.std.proofs.Common.{◌≡◌, ◌*◌, ◌-◌, IfSome, IsSome, sym, ap, ◌∙◌, subst, arith}
use Rattle.w32_base.specs.declared.call.Reply.TheVariants as reply
use Rattle.win32_spec.specs.Lookup.{section_words}
use Rattle.win32_spec.specs.Objects.{load_reply}
use Rattle.layer_spec.specs.Words.{main_at}
use Rattle.layer_world.specs.RowWords.{section-is-there, row-word, row-index}
use Rattle.layer_world.proofs.world.World.row_word.Goals as goal

pub word-requires : goal.word-requires
word-requires g c =
    let h = c.self.invariant in
    subst (λ s. IsSome (section_words s.objects)) (sym c.machine.ensures.state)
    (section-is-there c.self.inside.driven.script h.past _ h.world.world.sound)

pub unreachable-requires : goal.unreachable-requires
unreachable-requires g c =
    let h = c.self.invariant in
    row-index c.self.inside.driven.script h.past _ h.world.world.sound c.args.row _ c.get.ensures.range.0
    c.get.ensures.range.1 (omega (arith, c.from.ensures, c.get.ensures.value))
    (subst (λ s. IfSome (section_words s.objects) (λ ws. load_reply ws (3 * c.from.result - 2)
    ≡ reply.BadIndex)) c.machine.ensures.state
    c.in-Err.ensures)

pub returns : goal.returns
returns g c =
    let h = c.self.invariant in
    row-word c.self.inside.driven.script h.past _ h.world.world.sound c.args.row _ c.in-Ok.word c.get.ensures.range.0
    c.get.ensures.range.1 (omega (arith, c.from.ensures, c.get.ensures.value))
    (subst (λ s. IfSome (section_words s.objects) (λ ws. load_reply ws (3 * c.from.result - 2)
    ≡ reply.Word c.in-Ok.word))
    c.machine.ensures.state c.in-Ok.ensures)
    ∙ ap (λ v. main_at v.state.win32 c.args.row) c.self.view_is
