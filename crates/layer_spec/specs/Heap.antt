-- The cygheap: what a process of the layer keeps in 288 bytes of its own memory, in which its children and its next
-- images begin.
use Rattle.std.specs.Prelude.{◌≡◌, ℕ, ◌+◌, ◌-◌, ◌*◌, ◌^◌, Bool, true, false, ◌&&◌, not, nat_eq, nat_lt, nat_le, List}
use Rattle.std.specs.Prelude.{[], ◌∷◌, ◌++◌, length, map, flat_map, replicate, Option, Some, None}
use Rattle.std.specs.Int.{w16, w32, to_le_bytes}
use Rattle.std.specs.List.{list_all}
use Rattle.w32_base.specs.declared.instr.Action.{Action}
use Rattle.w32_base.specs.declared.instr.Action.TheVariants.{Default, Ignore, Handler}
use Rattle.layer_spec.specs.Rows.{bit_of}
use Rattle.posix_spec.specs.Signals.{clean_mask, is_never_masked}

-- a child: its process number, and whether its death is noted
pub record HeapChild : Type 0 where
  pub number : ℕ
  pub noted : Bool

-- What a cygheap keeps: the signal mask; the mask from before, in a `suspend`; how many CHLD are owed; the actions of
-- signals 1 to 31; the first pages of the modules 0 to 7; the children, the oldest first.
pub record HeapFields : Type 0 where
  pub mask : ℕ
  pub saved : Option ℕ
  pub owed : ℕ
  pub actions : List Action
  pub bases : List ℕ
  pub children : List HeapChild

-- the ranges of the fields: a mask has no bit 31, and neither KILL nor STOP
abbrev pub is_mask : ℕ → Bool
is_mask m = nat_eq (clean_mask m) m

abbrev pub is_saved_mask : Option ℕ → Bool
is_saved_mask None = true
is_saved_mask (Some m) = is_mask m

abbrev pub is_default : Action → Bool
is_default Default = true
is_default Ignore = false
is_default (Handler target restart) = false

-- whether signal s may have an action: KILL and STOP have the default
abbrev pub is_action : ℕ → Action → Bool
is_action s Default = true
is_action s Ignore = not (is_never_masked s)
is_action s (Handler target restart) = not (is_never_masked s) && nat_lt target (2 ^ 16)

-- the actions of the signals from s on
abbrev pub are_actions : ℕ → List Action → Bool
are_actions s [] = true
are_actions s (action ∷ rest) = is_action s action && are_actions (s + 1) rest

abbrev pub is_base : ℕ → Bool
is_base b = nat_le b 1023

abbrev pub is_child : HeapChild → Bool
is_child c = nat_le 2 c.number && nat_le c.number 4001

pub record IsHeap (h : HeapFields) : Type 0 where
  pub mask : is_mask h.mask ≡ true
  pub saved : is_saved_mask h.saved ≡ true
  pub owed : nat_le h.owed 65535 ≡ true
  pub action_count : length h.actions ≡ 31
  pub actions : are_actions 1 h.actions ≡ true
  pub base_count : length h.bases ≡ 8
  pub bases : list_all is_base h.bases ≡ true
  pub child_count : nat_le (length h.children) 32 ≡ true
  pub children : list_all is_child h.children ≡ true

-- The layout. A number stands in two or four bytes, the lowest first.
abbrev pub two_bytes : ℕ → List ℕ
two_bytes n = to_le_bytes w16 n

abbrev pub four_bytes : ℕ → List ℕ
four_bytes n = to_le_bytes w32 n

-- flags: bit 0 stands for `suspend`; outside it the saved mask is 0
abbrev pub saved_flag : Option ℕ → ℕ
saved_flag None = 0
saved_flag (Some m) = 1

abbrev pub saved_mask : Option ℕ → ℕ
saved_mask None = 0
saved_mask (Some m) = m

-- an action: its kind, whether a call begins again, and the handler's place
abbrev pub action_bytes : Action → List ℕ
action_bytes Default = 0 ∷ 0 ∷ 0 ∷ 0 ∷ []
action_bytes Ignore = 1 ∷ 0 ∷ 0 ∷ 0 ∷ []
action_bytes (Handler target restart) = 2 ∷ bit_of restart ∷ two_bytes target

abbrev pub child_bytes : HeapChild → List ℕ
child_bytes c = two_bytes c.number ++ two_bytes (bit_of c.noted)

-- the places of the fields: version 0, flags 2, mask 4, saved mask 8, owed 12, actions 16, bases 140, number of
-- children 156, children 160, and zeros past the last of them up to 288
unfoldable pub heap_bytes : HeapFields → List ℕ
heap_bytes h =
    two_bytes 1
    ++ two_bytes (saved_flag h.saved)
    ++ four_bytes h.mask
    ++ four_bytes (saved_mask h.saved)
    ++ four_bytes h.owed
    ++ flat_map action_bytes h.actions
    ++ flat_map two_bytes h.bases
    ++ four_bytes (length h.children)
    ++ flat_map child_bytes h.children
    ++ replicate (4 * (32 - length h.children)) 0

-- bytes that keep the layout
pub record IsHeapBytes (bytes : List ℕ) : Type 0 where
  pub fields : HeapFields
  pub legal : IsHeap fields
  pub layout : bytes ≡ heap_bytes fields

-- What a child begins with: nothing is owed to it, and it has no children.
abbrev pub for_child : HeapFields → HeapFields
for_child h = record h { owed = 0; children = [] }

abbrev pub without_handler : Action → Action
without_handler Default = Default
without_handler Ignore = Ignore
without_handler (Handler target restart) = Default

-- What the next image of a process begins with: handlers become the default, and the bases are those that it will write
-- once its modules are loaded.
abbrev pub for_exec : HeapFields → HeapFields
for_exec h = record h { actions = map without_handler h.actions; bases = replicate 8 0 }
