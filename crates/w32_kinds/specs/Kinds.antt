-- What each call does to an object.
use Rattle.std.specs.Prelude.{◌≡◌, ℕ, true, if◌then◌else◌, Option, Some, None, Result, Ok, Err, MatchResult}
use Rattle.w32_base.specs.declared.call.Reply.{Reply}
use Rattle.w32_base.specs.declared.call.Reply.TheVariants as reply
use Rattle.win32_spec.specs.Objects.{event_set, event_reset, event_taken, Free, Owned, is_owner, is_free_for}
use Rattle.win32_spec.specs.Objects.{is_abandoned, left_by, put_reply, put_after, get_reply, get_after, load_reply}
use Rattle.win32_spec.specs.Objects.{exchanged, added}
use Rattle.w32_section.specs.declared.BadIndex.{BadIndex}
use Rattle.w32_sync.specs.Ends.{handles_on, with_handles}
use Rattle.w32_sync.specs.declared.pipe.PipeEnd.{PipeEnd}
use Rattle.w32_sync.specs.declared.pipe.PipeEnd.TheVariants.{Read, Write}
use Rattle.w32_kinds.specs.declared.kind.Kind.{Kind}
use Rattle.w32_kinds.specs.declared.kind.Kind.TheVariants as kind

-- the reply that a word that was found stands for
abbrev pub reply_of_word : Result ℕ BadIndex → Reply
reply_of_word (Ok word) = reply.Word word
reply_of_word (Err _) = reply.BadIndex

-- an object of another kind stays as it is
abbrev pub Refuses : Kind → Reply → Kind → Type 0
Refuses old r new = (r ≡ reply.BadHandle) × (new ≡ old)

abbrev pub Loads : ℕ → Kind → Reply → Type 0
Loads i (kind.Section words) r = r ≡ load_reply words i
Loads i (kind.Event e) r = r ≡ reply.BadHandle
Loads i (kind.Mutex owner) r = r ≡ reply.BadHandle
Loads i (kind.Pipe p) r = r ≡ reply.BadHandle
Loads i (kind.Process w slot) r = r ≡ reply.BadHandle
Loads i (kind.Terminal terminal) r = r ≡ reply.BadHandle

-- the word of a section at an index, or that there is none
abbrev pub IsWord : ℕ → Kind → Result ℕ BadIndex → Type 0
IsWord i (kind.Section words) found = MatchResult found (λ x. load_reply words i ≡ reply.Word x)
    (λ _. load_reply words i ≡ reply.BadIndex)
IsWord i (kind.Event e) found = Unit {0}
IsWord i (kind.Mutex owner) found = Unit {0}
IsWord i (kind.Pipe p) found = Unit {0}
IsWord i (kind.Process w slot) found = Unit {0}
IsWord i (kind.Terminal terminal) found = Unit {0}

-- the process that an object is of, with its slot, or none
abbrev pub IsProcess : Kind → Option (ℕ × ℕ) → Type 0
IsProcess (kind.Process w slot) found = found ≡ Some (w, slot)
IsProcess (kind.Section words) found = found ≡ None
IsProcess (kind.Event e) found = found ≡ None
IsProcess (kind.Mutex owner) found = found ≡ None
IsProcess (kind.Pipe p) found = found ≡ None
IsProcess (kind.Terminal terminal) found = found ≡ None

abbrev pub Exchanges : (i old new : ℕ) → Kind → Reply → Kind → Type 0
Exchanges i o n (kind.Section words) r new = (r ≡ load_reply words i) × (new ≡ kind.Section (exchanged words i o n))
Exchanges i o n (kind.Event e) r new = Refuses (kind.Event e) r new
Exchanges i o n (kind.Mutex owner) r new = Refuses (kind.Mutex owner) r new
Exchanges i o n (kind.Pipe p) r new = Refuses (kind.Pipe p) r new
Exchanges i o n (kind.Process w slot) r new = Refuses (kind.Process w slot) r new
Exchanges i o n (kind.Terminal terminal) r new = Refuses (kind.Terminal terminal) r new

abbrev pub Increases : (i n : ℕ) → Kind → Reply → Kind → Type 0
Increases i n (kind.Section words) r new = (r ≡ load_reply words i) × (new ≡ kind.Section (added words i n))
Increases i n (kind.Event e) r new = Refuses (kind.Event e) r new
Increases i n (kind.Mutex owner) r new = Refuses (kind.Mutex owner) r new
Increases i n (kind.Pipe p) r new = Refuses (kind.Pipe p) r new
Increases i n (kind.Process w slot) r new = Refuses (kind.Process w slot) r new
Increases i n (kind.Terminal terminal) r new = Refuses (kind.Terminal terminal) r new

abbrev pub Sets : Kind → Reply → Kind → Type 0
Sets (kind.Event e) r new = (r ≡ reply.Done) × (new ≡ kind.Event (event_set e))
Sets (kind.Section words) r new = Refuses (kind.Section words) r new
Sets (kind.Mutex owner) r new = Refuses (kind.Mutex owner) r new
Sets (kind.Pipe p) r new = Refuses (kind.Pipe p) r new
Sets (kind.Process w slot) r new = Refuses (kind.Process w slot) r new
Sets (kind.Terminal terminal) r new = Refuses (kind.Terminal terminal) r new

abbrev pub Resets : Kind → Reply → Kind → Type 0
Resets (kind.Event e) r new = (r ≡ reply.Done) × (new ≡ kind.Event (event_reset e))
Resets (kind.Section words) r new = Refuses (kind.Section words) r new
Resets (kind.Mutex owner) r new = Refuses (kind.Mutex owner) r new
Resets (kind.Pipe p) r new = Refuses (kind.Pipe p) r new
Resets (kind.Process w slot) r new = Refuses (kind.Process w slot) r new
Resets (kind.Terminal terminal) r new = Refuses (kind.Terminal terminal) r new

abbrev pub Releases : (process thread : ℕ) → Kind → Reply → Kind → Type 0
Releases process thread (kind.Mutex owner) r new =
    (r ≡ (if is_owner owner process thread then reply.Done else reply.NotOwner))
    × (new ≡ kind.Mutex (if is_owner owner process thread then Free else owner))
Releases process thread (kind.Event e) r new = Refuses (kind.Event e) r new
Releases process thread (kind.Section words) r new = Refuses (kind.Section words) r new
Releases process thread (kind.Pipe p) r new = Refuses (kind.Pipe p) r new
Releases process thread (kind.Process w slot) r new = Refuses (kind.Process w slot) r new
Releases process thread (kind.Terminal terminal) r new = Refuses (kind.Terminal terminal) r new

abbrev pub Puts : PipeEnd → ℕ → Kind → Reply → Kind → Type 0
Puts Write b (kind.Pipe p) r new = (r ≡ put_reply p) × (new ≡ kind.Pipe (put_after p b))
Puts Read b (kind.Pipe p) r new = Refuses (kind.Pipe p) r new
Puts end b (kind.Mutex owner) r new = Refuses (kind.Mutex owner) r new
Puts end b (kind.Event e) r new = Refuses (kind.Event e) r new
Puts end b (kind.Section words) r new = Refuses (kind.Section words) r new
Puts end b (kind.Process w slot) r new = Refuses (kind.Process w slot) r new
Puts end b (kind.Terminal terminal) r new = Refuses (kind.Terminal terminal) r new

abbrev pub Gets : PipeEnd → Kind → Reply → Kind → Type 0
Gets Read (kind.Pipe p) r new = (r ≡ get_reply p.bytes p.writers) × (new ≡ kind.Pipe (get_after p))
Gets Write (kind.Pipe p) r new = Refuses (kind.Pipe p) r new
Gets end (kind.Mutex owner) r new = Refuses (kind.Mutex owner) r new
Gets end (kind.Event e) r new = Refuses (kind.Event e) r new
Gets end (kind.Section words) r new = Refuses (kind.Section words) r new
Gets end (kind.Process w slot) r new = Refuses (kind.Process w slot) r new
Gets end (kind.Terminal terminal) r new = Refuses (kind.Terminal terminal) r new

-- a wait for the object ends, as far as its kind tells
abbrev pub MayBeTaken : (process thread : ℕ) → Kind → Type 0
MayBeTaken process thread (kind.Event e) = e.signalled ≡ true
MayBeTaken process thread (kind.Mutex owner) = is_free_for owner process thread ≡ true
MayBeTaken process thread (kind.Section words) = Unit {0}
MayBeTaken process thread (kind.Pipe p) = Unit {0}
MayBeTaken process thread (kind.Process w slot) = Unit {0}
MayBeTaken process thread (kind.Terminal terminal) = Unit {0}

-- an object that a wait leaves as it is
abbrev pub Wakes : ℕ → Kind → Reply → Kind → Type 0
Wakes place old r new = (r ≡ reply.Woke place) × (new ≡ old)

abbrev pub Takes : (process thread : ℕ) → ℕ → Kind → Reply → Kind → Type 0
Takes process thread place (kind.Event e) r new = (r ≡ reply.Woke place) × (new ≡ kind.Event (event_taken e))
Takes process thread place (kind.Mutex owner) r new =
    (r ≡ (if is_abandoned owner then reply.Abandoned place else reply.Woke place))
    × (new ≡ kind.Mutex (Owned process thread))
Takes process thread place (kind.Section words) r new = Wakes place (kind.Section words) r new
Takes process thread place (kind.Pipe p) r new = Wakes place (kind.Pipe p) r new
Takes process thread place (kind.Process w slot) r new = Wakes place (kind.Process w slot) r new
Takes process thread place (kind.Terminal terminal) r new = Wakes place (kind.Terminal terminal) r new

-- how many handles a pipe has on an end; other objects don't count them
abbrev pub ends_on : Kind → PipeEnd → ℕ
ends_on (kind.Pipe p) end = handles_on p end
ends_on (kind.Section words) end = 1
ends_on (kind.Event e) end = 1
ends_on (kind.Mutex owner) end = 1
ends_on (kind.Process w slot) end = 1
ends_on (kind.Terminal terminal) end = 1

-- with another number of handles on an end
abbrev pub with_ends : Kind → PipeEnd → ℕ → Kind
with_ends (kind.Pipe p) end n = kind.Pipe (with_handles p end n)
with_ends (kind.Section words) end n = kind.Section words
with_ends (kind.Event e) end n = kind.Event e
with_ends (kind.Mutex owner) end n = kind.Mutex owner
with_ends (kind.Process w slot) end n = kind.Process w slot
with_ends (kind.Terminal terminal) end n = kind.Terminal terminal

-- what the end of a process leaves
abbrev pub kind_left_by : ℕ → Kind → Kind
kind_left_by w (kind.Mutex owner) = kind.Mutex (left_by owner w)
kind_left_by w (kind.Section words) = kind.Section words
kind_left_by w (kind.Event e) = kind.Event e
kind_left_by w (kind.Pipe p) = kind.Pipe p
kind_left_by w (kind.Process v slot) = kind.Process v slot
kind_left_by w (kind.Terminal terminal) = kind.Terminal terminal
