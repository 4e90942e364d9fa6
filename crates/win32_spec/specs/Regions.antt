-- The regions of a process's memory, and where modules are placed.
use Rattle.std.specs.Prelude.{◌≡◌, ℕ, ◌+◌, ◌≤◌, ◌<◌, Bool, true, false, nat_eq, nat_le, ◌||◌, List, ◌++◌, length, take}
use Rattle.std.specs.Prelude.{drop, replicate, slice_index_or}
use Rattle.w32_base.specs.declared.own.Own.{Own}
use Rattle.w32_base.specs.declared.call.Region.{Region}
use Rattle.w32_base.specs.declared.call.Region.TheVariants.{Dat, Heap, Stack, Cyg, Scratch}

-- the bytes of a region
abbrev pub region_of : Own → Region → List ℕ
region_of own Dat = own.dat
region_of own Heap = own.heap
region_of own Stack = own.stack
region_of own Cyg = own.cyg
region_of own Scratch = own.scratch

-- the same memory with other bytes in one region
abbrev pub with_region : Own → Region → List ℕ → Own
with_region own Dat bytes = record own { dat = bytes }
with_region own Heap bytes = record own { heap = bytes }
with_region own Stack bytes = record own { stack = bytes }
with_region own Cyg bytes = record own { cyg = bytes }
with_region own Scratch bytes = record own { scratch = bytes }

-- Whether count bytes from a place lie in a region of this many bytes. A range of no bytes is never outside.
abbrev pub is_inside : ℕ → ℕ → ℕ → Bool
is_inside size place count = nat_eq count 0 || nat_le (place + count) size

-- the bytes of a range
abbrev pub range_of : List ℕ → ℕ → ℕ → List ℕ
range_of bytes place count = take count (drop place bytes)

-- the region with these bytes written from a place on
abbrev pub written : List ℕ → ℕ → List ℕ → List ℕ
written bytes place new = take place bytes ++ new ++ drop (place + length new) bytes

-- the memory of a new process, but for its program's number in the data region: zeros
abbrev pub zeroed_own : (heap stack : ℕ) → Own
zeroed_own heap stack =
    record {
      dat = replicate 64 0;
      heap = replicate heap 0;
      stack = replicate stack 0;
      cyg =
          replicate 288 0;
      scratch = replicate 512 0;
    }

-- the pages from base on, size of them, lie among the 1024 and none of them is taken
pub record IsFreeRange (taken : List Bool) (base size : ℕ) : Type 0 where
  pub within : base + size ≤ 1024
  pub free : (page : ℕ) → base ≤ page → page < base + size → slice_index_or taken page true ≡ false

-- where a module goes: to the wanted pages where they are free, else to the lowest free range
abbrev pub IsPlaceFor : List Bool → ℕ → ℕ → ℕ → Type 0
IsPlaceFor taken wanted size base =
    IsFreeRange taken base size
    × (IsFreeRange taken wanted size → base ≡ wanted)
    × ((IsFreeRange taken wanted size → ⊥) → (lower : ℕ) → IsFreeRange taken lower size → base ≤ lower)
