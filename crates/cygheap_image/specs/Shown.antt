-- What the code's values of a cygheap are in the definitions.
use Rattle.std.specs.Prelude.{ℕ, ◌-◌, Bool, false, List, ◌++◌, length, map, replicate}
use Rattle.cygheap_image.specs.declared.image.Heap.{Heap}
use Rattle.layer_spec.specs.Heap.{HeapChild, HeapFields}

-- a child as a number and whether its death is noted
abbrev pub pair_of : HeapChild → ℕ × Bool
pair_of c = (c.number, c.noted)

-- children in 32 places: those past the last child hold 0 and false
abbrev pub shown_children : List HeapChild → List (ℕ × Bool)
shown_children children = map pair_of children ++ replicate (32 - length children) (0, false)

-- the value of these fields
abbrev pub shown : HeapFields → Heap
shown h = record {
  mask = h.mask;
  saved = h.saved;
  owed = h.owed;
  actions = h.actions;
  bases = h.bases;
  count = length h.children;
  children = shown_children h.children;
}
