use Rattle.std.proofs.Common.{◌≡◌, ◌∙◌, ◌<◌, sym, arith, length, take, get_or, true, false}
use Rattle.std.proofs.lemmas.List.{take_all}
use Rattle.std.proofs.lemmas.List.Sums.{count_by_more_yes, count_by_more_no}
use Rattle.w32_handles.proofs.PlaceLemmas.{names_it, names_it-eq, holders_of-from}
use Rattle.w32_handles.proofs.handles.Handles.count_of.Goals as goal
use Rattle.w32_handles.proofs.handles.Handles.count_of.Goals.{then-eq, else-eq}

pub loop-place-preserved : goal.loop-place-preserved
loop-place-preserved c =
    let places = c.self.inside.places in
    let at = c.loop-place.place-index in
    let within : at < length places = omega (arith, c.type_inv.place-items, c.loop-place-test.true) in
    elim c.if-eq.branch [
      | then-eq w ↦
          let one : names_it c.args.o (get_or places at c.place-item.result) ≡ true = sym (names_it-eq _ _) ∙
          sym c.eq.ensures ∙ w.if-eq.true in
          (omega arith, omega (arith, count_by_more_yes (names_it c.args.o) places at _ within one))
      | else-eq w ↦
          let none : names_it c.args.o (get_or places at c.place-item.result) ≡ false = sym (names_it-eq _ _) ∙
          sym c.eq.ensures ∙ w.if-eq.false in
          (omega arith, omega (arith, count_by_more_no (names_it c.args.o) places at _ within none))
    ]

pub returns : goal.returns
returns c =
    let places = c.self.inside.places in
    let whole : take c.loop-place.place-index places ≡ places = take_all _ _ (omega arith) in
    rw (← c.self.view_is, holders_of-from) (rw whole at c.loop-place.invariant.1)
