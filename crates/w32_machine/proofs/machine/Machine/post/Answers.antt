use Rattle.std.proofs.Common.{IsSome, sym, subst, arith}
use Rattle.win32_spec.specs.Lookup.{thread_at}
use Rattle.w32_machine.specs.Running.{Running}
use Rattle.w32_machine.proofs.Keeping.{within_posted, posting-posts, posting-sound}
use Rattle.w32_machine.proofs.machine.Machine.post.Goals as goal

pub index_mut-requires : goal.index_mut-requires
index_mut-requires c =
    let some = subst (λ (r : Running). IsSome (thread_at r.win32 c.args.slot c.args.thread)) (sym c.self.view_is)
    c.requires in
    omega (arith, c.place.ensures, within_posted c.self.inside c.self.invariant c.args.slot c.args.thread some)

pub invariant_of-self : goal.invariant_of-self
invariant_of-self c =
    let some = subst (λ (r : Running). IsSome (thread_at r.win32 c.args.slot c.args.thread)) (sym c.self.view_is)
    c.requires in
    posting-sound c.self.inside c.self.invariant c.args.slot c.args.thread some c.place.result c.place.ensures
    c.args.call

pub returns-clause-posted : goal.returns-clause-posted
returns-clause-posted c =
    let some = subst (λ (r : Running). IsSome (thread_at r.win32 c.args.slot c.args.thread)) (sym c.self.view_is)
    c.requires in
    posting-posts c.self.inside c.self.invariant c.args.slot c.args.thread some c.place.result c.place.ensures
    c.args.call
    c.args.self.now c.self.view_is
