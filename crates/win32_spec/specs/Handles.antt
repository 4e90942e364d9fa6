-- The handles of a process: pairs of a number and the object that it names, in rising order of the numbers.
use Rattle.std.specs.Prelude.{◌≡◌, ℕ, ◌+◌, ◌≤◌, ◌<◌, Bool, nat_eq, nat_lt, if◌then◌else◌, List, [], ◌∷◌, Option, Some}
use Rattle.std.specs.Prelude.{None, IsSome}

-- one handle: its number, and the number of the object with the end of a pipe or the face of the terminal
pub record Handle : Type 0 where
  pub number : ℕ
  pub names : ℕ

-- what the handle with this number names
abbrev pub handle_of : List Handle → ℕ → Option ℕ
handle_of [] h = None
handle_of (p ∷ ps) h = if nat_eq p.number h then Some p.names else handle_of ps h

-- with one more handle, in its place by its number
abbrev pub with_handle : List Handle → ℕ → ℕ → List Handle
with_handle [] h o = record { number = h; names = o } ∷ []
with_handle (p ∷ ps) h o = if nat_lt h p.number then record { number = h; names = o } ∷ p ∷ ps
    else p ∷ with_handle ps h o

-- without the handle of this number
abbrev pub without_handle : List Handle → ℕ → List Handle
without_handle [] h = []
without_handle (p ∷ ps) h = if nat_eq p.number h then without_handle ps h else p ∷ without_handle ps h

-- the number is free, and each lower one from 1 up is in use
pub record IsLowestFree (ps : List Handle) (h : ℕ) : Type 0 where
  pub from_one : 1 ≤ h
  pub free : handle_of ps h ≡ None
  pub lower : (k : ℕ) → 1 ≤ k → k < h → IsSome (handle_of ps k)

-- whether a number is in a list
abbrev pub is_listed : List ℕ → ℕ → Bool
is_listed [] h = nat_lt 0 0
is_listed (n ∷ ns) h = if nat_eq n h then nat_eq 0 0 else is_listed ns h

-- the handles whose numbers are listed
abbrev pub listed_handles : List Handle → List ℕ → List Handle
listed_handles [] ns = []
listed_handles (p ∷ ps) ns = if is_listed ns p.number then p ∷ listed_handles ps ns else listed_handles ps ns

-- how many handles name this object, by the same end or face
abbrev pub holders_of : List Handle → ℕ → ℕ
holders_of [] o = 0
holders_of (p ∷ ps) o = (if nat_eq p.names o then 1 else 0) + holders_of ps o

-- a list of handles as a process may have it: rising numbers from 1 to 64
abbrev pub AreRisingFrom : ℕ → List Handle → Type 0
AreRisingFrom low [] = Unit {0}
AreRisingFrom low (p ∷ ps) = (low ≤ p.number) × (p.number ≤ 64) × AreRisingFrom (p.number + 1) ps
