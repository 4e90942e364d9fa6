-- What holds at each moment of a world for everybody, so that no part's clause need say it.
use Rattle.std.specs.Prelude.{◌≡◌, ◌⊎◌, ◌↔◌, ℕ, ◌+◌, ◌<◌, ◌≤◌, true, List, [], ◌∷◌, length, Some, false}
use Rattle.script_spec.specs.declared.script.Script.{Script}
use Rattle.tty_spec.specs.Terminal.{Terminal}
use Rattle.win32_spec.specs.Named.{named_by, object_by}
use Rattle.win32_spec.specs.Lookup.{process_of}
use Rattle.win32_spec.specs.Run.{ended_from_outside}
use Rattle.win32_spec.specs.Objects.{Ownership}
use Rattle.win32_spec.specs.State.{Object, Mutex, TerminalObject, Section, Ended, Process, Win32State}
use Rattle.win32_spec.specs.WellFormed.{IsWellFormed}
use Rattle.posix_spec.specs.State.{PosixState}
use Rattle.posix_spec.specs.WellFormed.{IsWellFormed as IsPosixFormed}
use Rattle.layer_spec.specs.Decodes.{Decodes}
use Rattle.layer_spec.specs.Decoding.{main_image}
use Rattle.layer_spec.specs.Moment.{Moment, Seen}
use Rattle.layer_spec.specs.Turns.{is_live_process, was_ended}
use Rattle.layer_spec.specs.Words.{claimed_in, main_at, group_at, exit_at}
use Rattle.roster.specs.Turns.{roster_handle}
use Rattle.roster.specs.Words.{is_live_word}
use Rattle.world_spec.specs.Made.{IsClaimedBy, IsMaker}

-- The host lives, and its handles 1 and 3 are on the section and on the terminal. So neither ever goes.
pub record IsHosted (s : Win32State) : Type 0 where
  pub lives : is_live_process s 1 ≡ true
  pub section : (words : List ℕ) × (object_by s 1 1 ≡ Some (Section words))
  pub terminal : (x : Terminal) × (object_by s 1 3 ≡ Some (TerminalObject x))

-- the three words of a row are 0
pub record IsBlankRow (s : Win32State) (row : ℕ) : Type 0 where
  pub main : main_at s row ≡ 0
  pub group : group_at s row ≡ 0
  pub exit : exit_at s row ≡ 0

-- The rows as a whole. There are not more claimed ones than entries, and one. Those that nobody claimed are blank. A
-- row that was claimed is among the claimed ones, and was claimed by one process. Two live rows name two images.
-- Where the image of a live row has ended, an `end` ended it.
pub record AreRowsSound {A : Type 0} (past : List (Seen A)) (s : Win32State) : Type 0 where
  pub few : claimed_in s ≤ length past + 1
  pub blank : (row : ℕ) → claimed_in s < row → IsBlankRow s row
  pub within : (row w : ℕ) → IsClaimedBy past row w → row ≤ claimed_in s
  pub once : (row v w : ℕ) → IsClaimedBy past row v → IsClaimedBy past row w → v ≡ w
  pub apart : (a b : ℕ) → 1 ≤ a → 1 ≤ b → is_live_word (main_at s a) ≡ true → is_live_word (main_at s b) ≡ true
      → main_image (main_at s a) ≡ main_image (main_at s b) → a ≡ b
  pub ended : (row : ℕ) → 1 ≤ row → is_live_word (main_at s row) ≡ true
      → is_live_process s (main_image (main_at s row)) ≡ false → was_ended past (main_image (main_at s row)) ≡ true

-- Handle 2 names the same in every live process that has one: the roster mutex.
abbrev pub HaveOneRoster : Win32State → Type 0
HaveOneRoster s = (v w m n : ℕ) → is_live_process s v ≡ true → is_live_process s w ≡ true
    → named_by s v roster_handle ≡ Some m → named_by s w roster_handle ≡ Some n → m ≡ n

-- In each live process that has a handle 2 it is on a mutex.
abbrev pub IsRosterMutex : Win32State → Type 0
IsRosterMutex s = (w : ℕ) → is_live_process s w ≡ true → (x : Object) → object_by s w roster_handle ≡ Some x
    → (owner : Ownership) × (x ≡ Mutex owner)

-- each of these keys is a byte
abbrev pub AreByteKeys : List ℕ → Type 0
AreByteKeys [] = Unit {0}
AreByteKeys (b ∷ keys) = (b < 256) × AreByteKeys keys

-- The processes that have ended. Who was ended by an `end` isn't alive. And where one has ended with a code, and a
-- handle still names it, the code is that of an end from outside exactly where an `end` ended it.
pub record AreCodesSound {A : Type 0} (past : List (Seen A)) (s : Win32State) : Type 0 where
  pub ended : (v : ℕ) → was_ended past v ≡ true → (v < s.next) × (is_live_process s v ≡ false)
  pub codes : (v code : ℕ) (q : Process) → process_of s.processes v ≡ Some q → q.life ≡ Ended code
      → (code ≡ ended_from_outside) ↔ (was_ended past v ≡ true)

-- Where the first process has ended with a code, the code is that of an end from outside, or its status is kept.
abbrev pub IsFirstSound : Win32State → PosixState → Type 0
IsFirstSound s p = (code : ℕ) (q : Process) → process_of s.processes 2 ≡ Some q → q.life ≡ Ended code
    → (code ≡ ended_from_outside) ⊎ (p.first_status ≡ Some code)

-- The first process, number 2, wasn't made by an entry, so no row comes to name it: a live row that does is row 1.
pub record IsFirstRowSound {A : Type 0} (past : List (Seen A)) (s : Win32State) : Type 0 where
  pub next : 3 ≤ s.next
  pub made : (w v : ℕ) → IsMaker past w v → 3 ≤ v
  pub row : (row : ℕ) → 1 ≤ row → is_live_word (main_at s row) ≡ true → main_image (main_at s row) ≡ 2 → row ≡ 1

-- The state is well formed and has its host, rows and images show the POSIX state, the rows are sound, there is one
-- roster mutex, which is a mutex, each key in the console's queue is a byte, the POSIX state is well formed, and the
-- codes of processes that have ended tell how they ended, and row 1 alone names the first process while it is live.
pub record IsSoundMoment {A : Type 0} (script : Script) (past : List (Seen A)) (now : Moment A) : Type 0 where
  pub formed : IsWellFormed script now.win32
  pub hosted : IsHosted now.win32
  pub decodes : Decodes script now.win32 now.posix
  pub rows : AreRowsSound past now.win32
  pub roster : HaveOneRoster now.win32
  pub mutex : IsRosterMutex now.win32
  pub keys : AreByteKeys now.win32.keys
  pub posix : IsPosixFormed script now.posix
  pub codes : AreCodesSound past now.win32
  pub first : IsFirstSound now.win32 now.posix
  pub first_row : IsFirstRowSound past now.win32

-- The history may have one entry more within the script's budget.
abbrev pub HasSpare : {A : Type 0} → Script → List (Seen A) → Type 0
HasSpare script past = length past < script.setup.limits.budget
