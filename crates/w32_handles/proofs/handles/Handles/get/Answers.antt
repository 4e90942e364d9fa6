use Rattle.std.proofs.Common.{sym, refl}
use Rattle.w32_handles.proofs.TableLemmas.{named_at, rising_now}
use Rattle.w32_handles.proofs.handles.Handles.get.Goals as goal

pub returns-clause-named : goal.returns-clause-named
returns-clause-named c =
    sym (named_at c.self.inside.places _ c.self.view_is c.self.invariant _ _ _ _ c.place_of.ensures.place
    c.place_of.ensures.range refl)

pub returns-clause-rising : goal.returns-clause-rising
returns-clause-rising c = rising_now c.self.inside.places _ c.self.view_is c.self.invariant
