-- A cygheap's fields with one of them changed.
use Rattle.std.specs.Prelude.{ℕ, ◌-◌, Bool, false, List, [], ◌∷◌, ◌++◌, map, replicate, slice_set, slice_index_or}
use Rattle.std.specs.Prelude.{Option}
use Rattle.std.specs.List.{remove}
use Rattle.w32_base.specs.declared.instr.Action.{Action}
use Rattle.layer_spec.specs.Heap.{HeapChild, HeapFields, without_handler}

abbrev pub with_mask : HeapFields → ℕ → HeapFields
with_mask h m = record h { mask = m }

abbrev pub with_saved : HeapFields → Option ℕ → HeapFields
with_saved h m = record h { saved = m }

abbrev pub with_owed : HeapFields → ℕ → HeapFields
with_owed h n = record h { owed = n }

-- with this action of signal s, from 1 to 31
abbrev pub with_action : HeapFields → ℕ → Action → HeapFields
with_action h s a = record h { actions = slice_set h.actions (s - 1) a }

-- with this base of a module, from 0 to 7
abbrev pub with_base : HeapFields → ℕ → ℕ → HeapFields
with_base h module_no page = record h { bases = slice_set h.bases module_no page }

-- with one more child, the youngest, whose death isn't noted
abbrev pub with_child : HeapFields → ℕ → HeapFields
with_child h c = record h { children = h.children ++ record { number = c; noted = false } ∷ [] }

-- without child i: those after it stand one place lower
abbrev pub without_child : HeapFields → ℕ → HeapFields
without_child h i = record h { children = remove h.children i }

-- with another note whether child i's death is noted
abbrev pub with_note : HeapFields → ℕ → Bool → HeapFields
with_note h i noted =
    let child : HeapChild = slice_index_or h.children i (record { number = 0; noted = false }) in
    record h { children = slice_set h.children i (record child { noted = noted }) }

abbrev pub without_children : HeapFields → HeapFields
without_children h = record h { children = [] }

abbrev pub without_bases : HeapFields → HeapFields
without_bases h = record h { bases = replicate 8 0 }

abbrev pub without_handlers : HeapFields → HeapFields
without_handlers h = record h { actions = map without_handler h.actions }
