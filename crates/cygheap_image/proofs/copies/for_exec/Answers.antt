use Rattle.std.proofs.Common.{◌≡◌, ℕ, List, ◌++◌, drop, ◌∙◌, ap, arith}
use Rattle.w32_base.specs.declared.own.Own.{Own}
use Rattle.cygheap_image.specs.FieldLaws.{heap_size}
use Rattle.cygheap_image.proofs.Scratch.{long_scratch, kept_copy, written_back, kept_back, exec_copy}
use Rattle.cygheap_image.proofs.copies.for_exec.Goals as goal

pub copied-heap-requires : goal.copied-heap-requires
copied-heap-requires c = long_scratch c.args.own.now.scratch c.requires

pub copy_in-requires : goal.copy_in-requires
copy_in-requires c =
    omega (
      arith,
      long_scratch c.args.own.now.scratch c.requires,
      heap_size c.clear_bases.new.bytes c.clear_bases.ensures.layout,
    )

pub returns-clause-value : goal.returns-clause-value
returns-clause-value c =
    let own : Own = c.args.own.now in
    ap (λ (xs : List ℕ). record own { scratch = xs })
    (written_back own.scratch c.clear_bases.new.bytes c.copy_in.new.self c.clear_bases.ensures.layout c.copy_in.ensures
    ∙ ap (λ (xs : List ℕ). xs ++ drop 288 own.scratch)
    (exec_copy own.scratch c.copied-heap.result c.drop_handlers.new.bytes c.clear_bases.new.bytes c.copied-heap.ensures
    (kept_copy own.scratch c.copied-heap.result c.copied-heap.ensures c.requires) c.drop_handlers.ensures.value
    c.clear_bases.ensures.value))

pub returns-clause-layout : goal.returns-clause-layout
returns-clause-layout c =
    kept_back c.args.own.now.scratch c.clear_bases.new.bytes c.copy_in.new.self c.clear_bases.ensures.layout
    c.copy_in.ensures
