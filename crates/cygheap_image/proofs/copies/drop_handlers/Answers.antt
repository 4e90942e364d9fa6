use Rattle.std.proofs.Common.{◌≡◌, ℕ, ◌+◌, ◌-◌, sym, ◌∙◌, ap, subst, arith}
use Rattle.layer_spec.specs.Heap.{heap_bytes, without_handler}
use Rattle.cygheap_image.specs.Fields.{fields_in}
use Rattle.cygheap_image.specs.FieldLaws.{heap_told}
use Rattle.cygheap_image.proofs.Dropped.{some_dropped, none_dropped, all_dropped, dropped_fits, dropped_more}
use Rattle.cygheap_image.proofs.copies.drop_handlers.Goals as goal

pub loop-s-init : goal.loop-s-init
loop-s-init c = (c.requires, none_dropped (fields_in c.args.bytes.now))

pub set_action-requires-clause-range : goal.set_action-requires-clause-range
set_action-requires-clause-range c =
    dropped_fits c.loop-s.bytes c.loop-s.s c.without_handler-after.result c.loop-s.invariant.0 c.loop-s.auto.s
    c.loop-s-test.true (c.without_handler-after.ensures ∙ ap without_handler c.action.ensures)

pub loop-s-preserved : goal.loop-s-preserved
loop-s-preserved c =
    let next : c.loop-s.s ≡ c.loop-s.s + 1 - 1 = omega arith in (
      c.set_action.ensures.layout,
      subst (λ (k : ℕ). fields_in c.set_action.new.bytes ≡ some_dropped (fields_in c.args.bytes.now) k) next
          (dropped_more (fields_in c.args.bytes.now) c.loop-s.bytes c.set_action.new.bytes c.loop-s.s
          c.without_handler-after.result (heap_told c.args.bytes.now c.requires).0.action_count c.loop-s.invariant.0
          c.loop-s.auto.s c.loop-s-test.true c.loop-s.invariant.1
          (c.without_handler-after.ensures ∙ ap without_handler c.action.ensures) c.set_action.ensures.value),
    )

pub returns-clause-value : goal.returns-clause-value
returns-clause-value c =
    sym (heap_told c.loop-s.bytes c.loop-s.invariant.0).1
    ∙ ap heap_bytes (c.loop-s.invariant.1 ∙ all_dropped (fields_in c.args.bytes.now) (c.loop-s.s - 1)
    (heap_told c.args.bytes.now c.requires).0.action_count (omega arith))
