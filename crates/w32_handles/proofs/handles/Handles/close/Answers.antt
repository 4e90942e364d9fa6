use Rattle.std.proofs.Common.{◌≡◌, None, sym, refl, true≢false}
use Rattle.win32_spec.specs.Handles.{handle_of}
use Rattle.w32_handles.proofs.TableLemmas.{named_at, absent_at, closed_at, rising_now, rising_after}
use Rattle.w32_handles.proofs.handles.Handles.close.Goals as goal

pub returns-in-Some-clause-absent : goal.returns-in-Some-clause-absent
returns-in-Some-clause-absent c =
    let found =
    named_at c.self.inside.places _ c.self.view_is c.self.invariant _ _ _ _ c.place_of-place.ensures.place
    c.place_of-place.ensures.range c.in-Some.is in (
      λ e. absurd (true≢false (sym e)),
      λ none.
          absurd (let empty : handle_of c.args.self.now c.args.h ≡ None = none in cc),
    )

pub returns-in-Some-clause-named : goal.returns-in-Some-clause-named
returns-in-Some-clause-named c =
    named_at c.self.inside.places _ c.self.view_is c.self.invariant _ _ _ _ c.place_of-place.ensures.place
    c.place_of-place.ensures.range c.in-Some.is

pub returns-in-Some-clause-closed : goal.returns-in-Some-clause-closed
returns-in-Some-clause-closed c =
    closed_at c.self.inside.places _ c.self.view_is c.self.invariant _ _ c.place_of-place.ensures.place

pub returns-in-Some-clause-rising : goal.returns-in-Some-clause-rising
returns-in-Some-clause-rising c = rising_after c.self.inside.places _ c.self.view_is c.self.invariant _ None

pub returns-in-None-clause-absent : goal.returns-in-None-clause-absent
returns-in-None-clause-absent c = (
  λ _. named_at c.self.inside.places _ c.self.view_is c.self.invariant _ _ _ _ c.place_of-place.ensures.place
      c.place_of-place.ensures.range c.in-None.is,
  λ _. refl,
)

pub returns-in-None-clause-closed : goal.returns-in-None-clause-closed
returns-in-None-clause-closed c =
    absent_at c.self.inside.places _ c.self.view_is c.self.invariant _ _ _ c.place_of-place.ensures.place
    c.place_of-place.ensures.range c.in-None.is

pub returns-in-None-clause-rising : goal.returns-in-None-clause-rising
returns-in-None-clause-rising c = rising_now c.self.inside.places _ c.self.view_is c.self.invariant
