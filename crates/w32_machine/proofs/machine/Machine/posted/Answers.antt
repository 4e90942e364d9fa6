use Rattle.std.proofs.Common.{IsSome, sym, subst, arith}
use Rattle.win32_spec.specs.Lookup.{thread_at}
use Rattle.w32_machine.specs.Running.{Running}
use Rattle.w32_machine.proofs.Keeping.{within_posted, call-found}
use Rattle.w32_machine.proofs.machine.Machine.posted.Goals as goal

pub index-requires : goal.index-requires
index-requires c =
    let some = subst (λ (r : Running). IsSome (thread_at r.win32 c.args.slot c.args.thread)) (sym c.self.view_is)
    c.requires in
    omega (arith, c.place.ensures, within_posted c.self.inside c.self.invariant c.args.slot c.args.thread some)

pub returns : goal.returns
returns c =
    let some = subst (λ (r : Running). IsSome (thread_at r.win32 c.args.slot c.args.thread)) (sym c.self.view_is)
    c.requires in
    call-found c.self.inside c.self.invariant c.args.slot c.args.thread some c.place.result c.place.ensures
    c.args.self.now c.self.view_is c.index.result.now c.index.ensures
