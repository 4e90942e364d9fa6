use Rattle.std.proofs.Common.{◌≡◌, ◌∙◌, ◌+◌, ◌≤◌, ◌<◌, refl, sym, arith, None, Some, true≢false, length, slice_get}
use Rattle.std.proofs.lemmas.List.{get_or_default}
use Rattle.w32_handles.proofs.TableLemmas.{named_at, AreKept-none, AreKept-more, not_all_found, listed_at_end}
use Rattle.w32_handles.proofs.PlaceLemmas.{AreRisingFrom-from}
use Rattle.w32_handles.proofs.TableLemmas.{all_found_at_end, past_end, is_none_from, is_some_from}
use Rattle.w32_handles.proofs.handles.Handles.inherit.Goals as goal

pub loop-next-init : goal.loop-next-init
loop-next-init c = AreKept-none _ _ _

pub unreachable-requires : goal.unreachable-requires
unreachable-requires c =
    let past : length c.args.list.now ≤ c.loop-next.next = past_end _ _ _ c.get.ensures c.in_default.not-Some in
    omega (arith, past, c.loop-next-test.true, c.len-next-end.ensures.value)

pub returns-then-is_none-clause-all : goal.returns-then-is_none-clause-all
returns-then-is_none-clause-all c =
    let at : slice_get c.args.list.now c.loop-next.next ≡ Some c.in-Some.handle = sym c.get.ensures ∙ c.in-Some.is in
    let none = is_none_from _ _ c.is_none.ensures c.if-is_none.true in
    let absent =
    named_at c.self.inside.places _ c.self.view_is c.self.invariant _ _ _ _ c.place_of-place.ensures.place
    c.place_of-place.ensures.range none in
    (λ e. absurd (true≢false (sym e)), λ all. absurd (not_all_found _ _ _ _ at absent all))

pub loop-next-preserved : goal.loop-next-preserved
loop-next-preserved c =
    let at : slice_get c.args.list.now c.loop-next.next ≡ Some c.in-Some.handle = sym c.get.ensures ∙ c.in-Some.is in
    let some = is_some_from _ _ c.is_none.ensures c.if-is_none.false in
    let within : c.place_of-place.result < length c.self.inside.places =
    omega (arith, c.place_of-place.ensures.range, c.self.invariant) in
    let named =
    named_at c.self.inside.places _ c.self.view_is c.self.invariant _ _ _ _ c.place_of-place.ensures.place
    c.place_of-place.ensures.range refl in
    AreKept-more _ _ _ _ _ _ _ _ c.loop-next.invariant at c.place_of-place.ensures.place c.place_of-place.ensures.range
    (get_or_default _ _ None _ within) named some

pub returns-clause-all : goal.returns-clause-all
returns-clause-all c =
    let end : length c.args.list.now ≤ c.loop-next.next =
    omega (arith, c.loop-next-test.false, c.len-next-end.ensures.value) in
    (λ _. all_found_at_end _ _ _ _ _ c.loop-next.invariant end, λ _. refl)

pub returns-clause-kept : goal.returns-clause-kept
returns-clause-kept c =
    let end : length c.args.list.now ≤ c.loop-next.next =
    omega (arith, c.loop-next-test.false, c.len-next-end.ensures.value) in
    listed_at_end _ _ _ _ _ c.self.view_is c.self.invariant c.loop-next.invariant end

pub returns-clause-rising : goal.returns-clause-rising
returns-clause-rising c =
    let room : 1 + length c.loop-next.kept ≤ 65 = omega (arith, c.loop-next.invariant.room) in
    AreRisingFrom-from 1 c.loop-next.kept room
