-- What the entries so far tell of processes that were made, of rows that were claimed and of handles that were
-- answered. It speaks of turns, calls and replies alone, so it outlasts every later entry.
use Rattle.std.specs.Prelude.{◌≡◌, ℕ, ◌+◌, ◌≤◌, Bool, true, false, ◌&&◌, ◌||◌, nat_eq, if◌then◌else◌, List, [], ◌∷◌}
use Rattle.std.specs.Prelude.{Some}
use Rattle.w32_base.specs.declared.call.Call.TheVariants as call
use Rattle.w32_base.specs.declared.call.Reply.{Reply}
use Rattle.w32_base.specs.declared.call.Reply.TheVariants as reply
use Rattle.w32_base.specs.declared.entry.Directive.{Directive}
use Rattle.w32_base.specs.declared.entry.Directive.TheVariants as directive
use Rattle.w32_base.specs.declared.entry.Outcome.{Outcome}
use Rattle.w32_base.specs.declared.entry.Outcome.TheVariants as outcome
use Rattle.win32_spec.specs.State.{Win32State}
use Rattle.layer_spec.specs.Decoding.{main_image}
use Rattle.layer_spec.specs.Words.{main_at}
use Rattle.layer_spec.specs.Moment.{Seen, SomeSeen}
use Rattle.layer_spec.specs.Turns.{is_thread_turn, is_process_turn}
use Rattle.roster.specs.Words.{is_process_word}

-- The entry is a `create` in a turn of the main thread of process w, which made process v.
pub record Makes {A : Type 0} (w v : ℕ) (x : Seen A) : Type 0 where
  pub turn : is_thread_turn x.before.win32 x.entry.directive w 0 ≡ true
  pub program_no : ℕ
  pub list : List ℕ
  pub asks : x.entry.call ≡ Some (call.Create program_no list)
  pub handle : ℕ
  pub answered : x.entry.outcome ≡ outcome.Step (reply.Made handle v)

-- Process w is the maker of process v.
abbrev pub IsMaker : {A : Type 0} → List (Seen A) → (w v : ℕ) → Type 0
IsMaker past w v = SomeSeen (Makes w v) past

-- The entry is an `add` to word 0 in a turn of the main thread of process w, which found one less than this row: the
-- row is claimed by it.
pub record Claims {A : Type 0} (row w : ℕ) (x : Seen A) : Type 0 where
  pub turn : is_thread_turn x.before.win32 x.entry.directive w 0 ≡ true
  pub handle : ℕ
  pub added : ℕ
  pub asks : x.entry.call ≡ Some (call.FetchAdd handle 0 added)
  pub found : ℕ
  pub answered : x.entry.outcome ≡ outcome.Step (reply.Word found)
  pub row_is : row ≡ found + 1

abbrev pub IsClaimedBy : {A : Type 0} → List (Seen A) → (row w : ℕ) → Type 0
IsClaimedBy past row w = SomeSeen (Claims row w) past

-- whether a reply answers this handle as a new one
abbrev pub is_new_handle : Reply → ℕ → Bool
is_new_handle (reply.Handle k) h = nat_eq k h
is_new_handle (reply.Made k v) h = nat_eq k h
is_new_handle (reply.Two k l) h = nat_eq k h || nat_eq l h
is_new_handle _ h = false

abbrev pub is_handle_answered : Outcome → ℕ → Bool
is_handle_answered (outcome.Step r) h = is_new_handle r h
is_handle_answered outcome.Idle h = false
is_handle_answered (outcome.Ended w) h = false
is_handle_answered outcome.Keyed h = false

abbrev pub thread_in_turn : Directive → ℕ
thread_in_turn (directive.Turn slot t) = t
thread_in_turn (directive.End slot) = 0
thread_in_turn (directive.Key b) = 0

-- The thread of process v to which a handle was answered last. Handles with which the process was made are the main
-- thread's.
abbrev pub opener_of : {A : Type 0} → List (Seen A) → (v h : ℕ) → ℕ
opener_of [] v h = 0
opener_of (x ∷ past) v h =
    if is_process_turn x.before.win32 x.entry.directive v && is_handle_answered x.entry.outcome h
    then thread_in_turn x.entry.directive
    else opener_of past v h

-- The main word of some row that is a process names process v.
pub record IsNamed (s : Win32State) (v : ℕ) : Type 0 where
  pub row : ℕ
  pub from : 1 ≤ row
  pub process : is_process_word (main_at s row) ≡ true
  pub image : main_image (main_at s row) ≡ v

-- an entry before which a row named process v
abbrev pub NamedThen : {A : Type 0} → ℕ → Seen A → Type 0
NamedThen v x = IsNamed x.before.win32 v
