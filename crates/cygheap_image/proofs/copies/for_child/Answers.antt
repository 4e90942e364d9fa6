use Rattle.std.proofs.Common.{◌≡◌, ℕ, List, ◌++◌, drop, ◌∙◌, ap, arith}
use Rattle.w32_base.specs.declared.own.Own.{Own}
use Rattle.cygheap_image.specs.FieldLaws.{heap_size}
use Rattle.cygheap_image.proofs.Scratch.{long_scratch, kept_copy, written_back, kept_back, child_copy}
use Rattle.cygheap_image.proofs.copies.for_child.Goals as goal

pub copied-heap-requires : goal.copied-heap-requires
copied-heap-requires c = long_scratch c.args.own.now.scratch c.requires

pub copy_in-requires : goal.copy_in-requires
copy_in-requires c =
    omega (
      arith,
      long_scratch c.args.own.now.scratch c.requires,
      heap_size c.clear_children.new.bytes c.clear_children.ensures.layout,
    )

pub returns-clause-value : goal.returns-clause-value
returns-clause-value c =
    let own : Own = c.args.own.now in
    ap (λ (xs : List ℕ). record own { scratch = xs })
    (written_back own.scratch c.clear_children.new.bytes c.copy_in.new.self c.clear_children.ensures.layout
    c.copy_in.ensures
    ∙ ap (λ (xs : List ℕ). xs ++ drop 288 own.scratch)
    (child_copy own.scratch c.copied-heap.result c.set_owed.new.bytes c.clear_children.new.bytes c.copied-heap.ensures
    (kept_copy own.scratch c.copied-heap.result c.copied-heap.ensures c.requires) c.set_owed.ensures.value
    c.clear_children.ensures.value))

pub returns-clause-layout : goal.returns-clause-layout
returns-clause-layout c =
    kept_back c.args.own.now.scratch c.clear_children.new.bytes c.copy_in.new.self c.clear_children.ensures.layout
    c.copy_in.ensures
