use Rattle.std.proofs.Common.{sym, refl, arith, true≢false}
use Rattle.w32_handles.proofs.TableLemmas.{lowest_at, opened_at, not_full_at, full_now, rising_now, rising_after}
use Rattle.w32_handles.proofs.handles.Handles.open.Goals as goal

pub returns-in-Some-clause-full : goal.returns-in-Some-clause-full
returns-in-Some-clause-full c =
    let free = c.in-Some.ensures in
    let room = not_full_at c.self.inside.places _ c.self.view_is c.self.invariant _ free.0 free.1 in
    (λ e. absurd (true≢false (sym e)), λ e. absurd (omega (arith, room, e)))

pub returns-in-Some-clause-lowest : goal.returns-in-Some-clause-lowest
returns-in-Some-clause-lowest c =
    let free = c.in-Some.ensures in
    rw c.new.ensures (lowest_at c.self.inside.places _ c.self.view_is c.self.invariant _ free.0 free.1 free.2)

pub returns-in-Some-clause-opened : goal.returns-in-Some-clause-opened
returns-in-Some-clause-opened c =
    let free = c.in-Some.ensures in
    rw c.new.ensures (opened_at c.self.inside.places _ c.self.view_is c.self.invariant _ _ free.0 free.1)

pub returns-in-Some-clause-rising : goal.returns-in-Some-clause-rising
returns-in-Some-clause-rising c = rising_after c.self.inside.places _ c.self.view_is c.self.invariant _ _

pub returns-in-None-clause-full : goal.returns-in-None-clause-full
returns-in-None-clause-full c =
    (λ _. full_now c.self.inside.places _ c.self.view_is c.self.invariant c.in-None.ensures, λ _. refl)

pub returns-in-None-clause-rising : goal.returns-in-None-clause-rising
returns-in-None-clause-rising c = rising_now c.self.inside.places _ c.self.view_is c.self.invariant
