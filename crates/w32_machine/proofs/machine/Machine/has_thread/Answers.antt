use Rattle.std.proofs.Common.{◌∙◌, sym, subst, IsSome}
use Rattle.win32_spec.specs.Lookup.{thread_at}
use Rattle.w32_machine.specs.Running.{Running}
use Rattle.w32_machine.proofs.Keeping.{few-places}
use Rattle.w32_machine.proofs.Threads.{counted-some, counted-none, some-iff, none-iff}
use Rattle.w32_machine.proofs.machine.Machine.has_thread.Goals as goal

pub returns-in-Some-clause-value : goal.returns-in-Some-clause-value
returns-in-Some-clause-value c =
    some-iff (thread_at c.args.self.now.win32 c.args.slot c.args.thread)
    (counted-some c.self.inside c.self.invariant c.args.self.now c.self.view_is c.args.slot c.args.thread
    c.in-Some.field-0 (sym c.count.ensures ∙ c.in-Some.is))

pub returns-in-Some-clause-few : goal.returns-in-Some-clause-few
returns-in-Some-clause-few c = λ k t some.
    few-places c.self.inside c.self.invariant k t
    (subst (λ (r : Running). IsSome (thread_at r.win32 k t)) (sym c.self.view_is) some)

pub returns-in-None-clause-value : goal.returns-in-None-clause-value
returns-in-None-clause-value c =
    none-iff (thread_at c.args.self.now.win32 c.args.slot c.args.thread)
    (counted-none c.self.inside c.self.invariant c.args.self.now c.self.view_is c.args.slot c.args.thread
    (sym c.count.ensures ∙ c.in-None.is))

pub returns-in-None-clause-few : goal.returns-in-None-clause-few
returns-in-None-clause-few c = λ k t some.
    few-places c.self.inside c.self.invariant k t
    (subst (λ (r : Running). IsSome (thread_at r.win32 k t)) (sym c.self.view_is) some)
