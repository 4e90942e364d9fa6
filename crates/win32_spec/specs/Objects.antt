-- The objects that handles name, and what a call does to each kind.
use Rattle.std.specs.Prelude.{ℕ, ◌+◌, ◌%◌, ◌^◌, Bool, true, false, ◌&&◌, nat_eq, nat_lt, if◌then◌else◌, List, [], ◌∷◌}
use Rattle.std.specs.Prelude.{◌++◌, length, slice_index, slice_set}
use Rattle.w32_base.specs.declared.call.Reply.{Reply}
use Rattle.w32_base.specs.declared.call.Reply.TheVariants as reply

-- An event: a wait resets it unless it is manual.
pub record EventState : Type 0 where
  pub manual : Bool
  pub signalled : Bool

abbrev pub event_set : EventState → EventState
event_set e = record e { signalled = true }

abbrev pub event_reset : EventState → EventState
event_reset e = record e { signalled = false }

-- what a wait that it ends leaves
abbrev pub event_taken : EventState → EventState
event_taken e = record e { signalled = e.manual }

-- Who owns a mutex: nobody, a thread of a process, or nobody since its owner's process ended.
pub data Ownership : Type 0 where
  Free : Ownership
  Owned : (process thread : ℕ) → Ownership
  Abandoned : Ownership

-- whether this thread owns it
abbrev pub is_owner : Ownership → ℕ → ℕ → Bool
is_owner Free w t = false
is_owner (Owned process thread) w t = nat_eq process w && nat_eq thread t
is_owner Abandoned w t = false

-- whether a wait of this thread for it ends
abbrev pub is_free_for : Ownership → ℕ → ℕ → Bool
is_free_for Free w t = true
is_free_for (Owned process thread) w t = nat_eq process w && nat_eq thread t
is_free_for Abandoned w t = true

abbrev pub is_abandoned : Ownership → Bool
is_abandoned Abandoned = true
is_abandoned _ = false

-- what the end of a process leaves
abbrev pub left_by : Ownership → ℕ → Ownership
left_by (Owned process thread) w = if nat_eq process w then Abandoned else Owned process thread
left_by Free w = Free
left_by Abandoned w = Abandoned

-- A pipe: its bytes, the oldest first, and how many handles there are on its read end and its write end.
pub record PipeState : Type 0 where
  pub bytes : List ℕ
  pub readers : ℕ
  pub writers : ℕ

abbrev pub is_empty : List ℕ → Bool
is_empty [] = true
is_empty (b ∷ bs) = false

-- whether a wait for its read end ends: there is a byte, or none can come
abbrev pub pipe_is_signalled : PipeState → Bool
pipe_is_signalled p = if is_empty p.bytes then nat_eq p.writers 0 else true

-- the reply to a byte that is put in, and what it leaves
abbrev pub put_reply : PipeState → Reply
put_reply p = if nat_eq p.readers 0 then reply.NoReader else if nat_lt (length p.bytes) 64 then reply.Done
    else reply.Full

abbrev pub put_after : PipeState → ℕ → PipeState
put_after p b = if nat_eq p.readers 0 then p else if nat_lt (length p.bytes) 64
    then record p { bytes = p.bytes ++ b ∷ [] } else p

-- the reply to a call that takes the oldest byte out, and what it leaves
abbrev pub get_reply : List ℕ → ℕ → Reply
get_reply [] writers = if nat_eq writers 0 then reply.Broken else reply.Empty
get_reply (b ∷ bs) writers = reply.Byte b

abbrev pub without_first : List ℕ → List ℕ
without_first [] = []
without_first (b ∷ bs) = bs

abbrev pub get_after : PipeState → PipeState
get_after p = record p { bytes = without_first p.bytes }

-- A section's words. The reply to a load of word i.
abbrev pub load_reply : List ℕ → ℕ → Reply
load_reply words i = if nat_lt i (length words) then reply.Word (slice_index words i) else reply.BadIndex

-- what a compare-exchange leaves: the new word where the old one was found
abbrev pub exchanged : List ℕ → ℕ → ℕ → ℕ → List ℕ
exchanged words i old new =
    if nat_lt i (length words) then (if nat_eq (slice_index words i) old then slice_set words i new else words)
    else words

-- what an addition leaves, which wraps at 64 bits
abbrev pub added : List ℕ → ℕ → ℕ → List ℕ
added words i n = if nat_lt i (length words) then slice_set words i ((slice_index words i + n) % 2 ^ 64) else words
