-- What the bytes of a cygheap tell, as one value.
use Rattle.std.specs.Prelude.{ℕ, List}
use Rattle.layer_spec.specs.Heap.{HeapFields}
use Rattle.layer_spec.specs.HeapReads.{heap_in}

-- the fields that the bytes tell: those of which they are the layout, where they keep it
unfoldable pub fields_in : List ℕ → HeapFields
fields_in bytes = heap_in bytes
