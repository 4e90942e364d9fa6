-- What the bytes of a cygheap tell, and the copy of one in the scratch region.
use Rattle.std.specs.Prelude.{ℕ, ◌+◌, ◌*◌, nat_eq, if◌then◌else◌, List, ◌++◌, map, drop, take, slice_index_or, Option}
use Rattle.std.specs.Prelude.{Some, None}
use Rattle.std.specs.Int.{w16, from_le_bytes}
use Rattle.std.specs.List.{range_with_len}
use Rattle.w32_base.specs.declared.instr.Action.{Action}
use Rattle.w32_base.specs.declared.instr.Action.TheVariants.{Default, Ignore, Handler}
use Rattle.w32_base.specs.declared.own.Own.{Own}
use Rattle.vm_spec.specs.Image.{word_at}
use Rattle.layer_spec.specs.Heap.{HeapChild, HeapFields, heap_bytes, for_child, for_exec}

-- the byte at a place, and the number in two bytes from a place on
abbrev pub byte_at : List ℕ → ℕ → ℕ
byte_at bytes place = slice_index_or bytes place 0

unfoldable pub half_at : List ℕ → ℕ → ℕ
half_at bytes place = from_le_bytes w16 (take 2 (drop place bytes))

abbrev pub mask_in : List ℕ → ℕ
mask_in bytes = word_at bytes 4

abbrev pub saved_in : List ℕ → Option ℕ
saved_in bytes = if nat_eq (half_at bytes 2) 1 then Some (word_at bytes 8) else None

abbrev pub owed_in : List ℕ → ℕ
owed_in bytes = word_at bytes 12

abbrev pub action_by : (kind restart target : ℕ) → Action
action_by kind restart target =
    if nat_eq kind 2 then Handler target (nat_eq restart 1) else if nat_eq kind 1 then Ignore else Default

abbrev pub action_at : List ℕ → ℕ → Action
action_at bytes place = action_by (byte_at bytes place) (byte_at bytes (place + 1)) (half_at bytes (place + 2))

-- the action of signal s, from 1 to 31
abbrev pub action_in : List ℕ → ℕ → Action
action_in bytes s = action_at bytes (12 + 4 * s)

-- the base of module m, from 0 to 7
abbrev pub base_in : List ℕ → ℕ → ℕ
base_in bytes m = half_at bytes (140 + 2 * m)

-- the number of children, and child i, from 0
abbrev pub child_count_in : List ℕ → ℕ
child_count_in bytes = word_at bytes 156

abbrev pub child_at : List ℕ → ℕ → HeapChild
child_at bytes place = record { number = half_at bytes place; noted = nat_eq (half_at bytes (place + 2)) 1 }

abbrev pub child_in : List ℕ → ℕ → HeapChild
child_in bytes i = child_at bytes (160 + 4 * i)

-- all fields
abbrev pub heap_in : List ℕ → HeapFields
heap_in bytes = record {
  mask = mask_in bytes;
  saved = saved_in bytes;
  owed = owed_in bytes;
  actions = map (action_in bytes) (range_with_len 1 31);
  bases = map (base_in bytes) (range_with_len 0 8);
  children = map (child_in bytes) (range_with_len 0 (child_count_in bytes));
}

-- A copy of a cygheap stands in the first 288 bytes of the scratch region. All else of the memory stays.
abbrev pub with_copy : Own → HeapFields → Own
with_copy own h = record own { scratch = heap_bytes h ++ drop 288 own.scratch }

abbrev pub own_for_child : Own → Own
own_for_child own = with_copy own (for_child (heap_in (take 288 own.scratch)))

abbrev pub own_for_exec : Own → Own
own_for_exec own = with_copy own (for_exec (heap_in (take 288 own.scratch)))
