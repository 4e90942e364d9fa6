-- Where bytes break the layout of a cygheap.
use Rattle.std.specs.Prelude.{◌≡◌, ◌≢◌, ℕ, ◌+◌, ◌-◌, ◌*◌, ◌/◌, ◌%◌, ◌<◌, Bool, ◌&&◌, ◌||◌, nat_eq, nat_lt, nat_le}
use Rattle.std.specs.Prelude.{if◌then◌else◌, List, [], ◌∷◌, length, take, Option, Some, None}
use Rattle.layer_spec.specs.Heap.{HeapFields, IsHeap, heap_bytes}
use Rattle.layer_spec.specs.HeapReads.{byte_at}

-- some bytes of the layout begin with these
pub record BeginsHeap (bytes : List ℕ) : Type 0 where
  pub fields : HeapFields
  pub legal : IsHeap fields
  pub begins : take (length bytes) (heap_bytes fields) ≡ bytes

-- The place at which bytes break the layout: 288 where they aren't 288 bytes, else the least place such that no bytes
-- of the layout begin with those up to it.
pub data BreaksAt (bytes : List ℕ) : (place : ℕ) → Type 0 where
  WrongLength : length bytes ≢ 288 → BreaksAt bytes 288
  LeastPlace : (place : ℕ) → length bytes ≡ 288 → place < 288 → BeginsHeap (take place bytes)
      → ¬ BeginsHeap (take (place + 1) bytes) → BreaksAt bytes place

-- The same as a test of each byte after those before it. The bytes of a mask: bit 0 of the second is KILL's, bit 2 of
-- the third is STOP's, and bit 7 of the fourth is bit 31.
abbrev pub is_byte : ℕ → Bool
is_byte b = nat_lt b 256

abbrev pub fits_mask : ℕ → ℕ → Bool
fits_mask j b =
    if nat_eq j 0 then is_byte b
    else if nat_eq j 1 then is_byte b && nat_eq (b % 2) 0
    else if nat_eq j 2 then is_byte b && nat_eq (b / 4 % 2) 0
    else nat_lt b 128

-- byte j of an action: KILL and STOP, the signals 9 and 19, have the default; only a handler has more than a kind
abbrev pub fits_action : (signal kind j b : ℕ) → Bool
fits_action signal kind j b =
    if nat_eq j 0 then (if nat_eq signal 9 || nat_eq signal 19 then nat_eq b 0 else nat_le b 2)
    else if nat_eq kind 2 then (if nat_eq j 1 then nat_le b 1 else is_byte b)
    else nat_eq b 0

-- byte j of a child, whose first byte is `low`
abbrev pub fits_child : (low j b : ℕ) → Bool
fits_child low j b =
    if nat_eq j 0 then is_byte b
    else if nat_eq j 1 then nat_le 2 (low + 256 * b) && nat_le (low + 256 * b) 4001
    else if nat_eq j 2 then nat_le b 1
    else nat_eq b 0

-- the version is 1, and the flags have bit 0 alone
abbrev pub fits_head : ℕ → ℕ → Bool
fits_head i b = if nat_eq i 0 then nat_eq b 1 else if nat_eq i 2 then nat_le b 1 else nat_eq b 0

-- whether b may stand at place i after the bytes before it
abbrev pub fits_at : List ℕ → ℕ → ℕ → Bool
fits_at bytes i b =
    if nat_lt i 4 then fits_head i b
    else if nat_lt i 8 then fits_mask (i - 4) b
    else if nat_lt i 12 then (if nat_eq (byte_at bytes 2) 1 then fits_mask (i - 8) b else nat_eq b 0)
    else if nat_lt i 14 then is_byte b
    else if nat_lt i 16 then nat_eq b 0
    else if nat_lt i 140 then fits_action (i / 4 - 3) (byte_at bytes (i - i % 4)) (i % 4) b
    else if nat_lt i 156 then (if nat_eq (i % 2) 0 then is_byte b else nat_le b 3)
    else if nat_eq i 156 then nat_le b 32
    else if nat_lt i 160 then nat_eq b 0
    else if nat_lt (i / 4 - 40) (byte_at bytes 156) then fits_child (byte_at bytes (i - 1)) (i % 4) b
    else nat_eq b 0

-- the first of the rest, which begins at place i, that doesn't fit
unfoldable pub first_misfit : List ℕ → ℕ → List ℕ → Option ℕ
first_misfit bytes i [] = None
first_misfit bytes i (b ∷ bs) = if fits_at bytes i b then first_misfit bytes (i + 1) bs else Some i

abbrev pub first_break : List ℕ → Option ℕ
first_break bytes = if nat_eq (length bytes) 288 then first_misfit bytes 0 bytes else Some 288
