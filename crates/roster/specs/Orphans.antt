-- When a group is orphaned by the words of the rows, and what the look for it has found out.
use Rattle.std.specs.Prelude.{◌≡◌, ℕ, Bool, true, false, ◌&&◌, Some}
use Rattle.win32_spec.specs.State.{Win32State}
use Rattle.layer_spec.specs.Rows.{GroupWord}
use Rattle.layer_spec.specs.Decoding.{group_of}
use Rattle.layer_spec.specs.Words.{main_at, group_at, row_of}
use Rattle.roster.specs.declared.scan.Scan.TheVariants as scan
use Rattle.roster.specs.declared.orphaned.Member.{Member}
use Rattle.roster.specs.declared.orphaned.Orphaned.{Orphaned}
use Rattle.roster.specs.declared.orphaned.Orphaned.TheVariants as orphaned
use Rattle.roster.specs.Words.{is_process_word, is_live_word}
use Rattle.roster.specs.Scan.{scan_next}
use Rattle.roster.specs.Orphaned.{is_process_number, is_outside}
use Rattle.roster.specs.Scanned.{IsProcessAt, ScanKnows}

-- whether the row is a live process outside a group and in a session
abbrev pub is_live_outside : Win32State → (group session row : ℕ) → Bool
is_live_outside s group session row =
    is_outside group session (group_of (group_at s row)) && is_live_word (main_at s row)

-- whether a member with this group word has a parent that is one
abbrev pub has_parent_outside : Win32State → (group : ℕ) → GroupWord → Bool
has_parent_outside s group g =
    is_process_number g.parent && is_live_outside s group g.session (row_of g.parent)

-- no member has
abbrev pub IsOrphanedIn : Win32State → ℕ → Type 0
IsOrphanedIn s group = (row : ℕ) (g : GroupWord) → IsProcessAt s row g → g.group ≡ group
    → has_parent_outside s group g ≡ false

-- a member has
pub record IsKeptIn (s : Win32State) (group : ℕ) : Type 0 where
  pub row : ℕ
  pub word : GroupWord
  pub process : IsProcessAt s row word
  pub member : word.group ≡ group
  pub parent : has_parent_outside s group word ≡ true

-- what is asked of each process
abbrev pub HasNoParentOutside : (group : ℕ) → Win32State → ℕ → GroupWord → Type 0
HasNoParentOutside group s row g = g.group ≡ group → has_parent_outside s group g ≡ false

-- the member at which the look stands: one with a parent, which stands in that parent's row
pub record MemberKnows (group : ℕ) (s : Win32State) (m : Member) : Type 0 where
  pub row : ℕ
  pub last : ℕ
  pub found : ℕ
  pub word : GroupWord
  pub look : ScanKnows (HasNoParentOutside group) s (scan.Found row last found)
  pub rest : m.rest ≡ scan_next (scan.Found row last found)
  pub tells : group_of found ≡ Some word
  pub its_group : m.group ≡ group
  pub member : word.group ≡ group
  pub session : m.session ≡ word.session
  pub number : is_process_number word.parent ≡ true
  pub parent : m.parent ≡ row_of word.parent

-- What the look knows. A live parent is looked for among processes alone.
abbrev pub OrphanedKnows : (group : ℕ) → Win32State → Orphaned → Type 0
OrphanedKnows group s (orphaned.Scanning g x) = (g ≡ group) × ScanKnows (HasNoParentOutside group) s x
OrphanedKnows group s (orphaned.Grouping m) = MemberKnows group s m
OrphanedKnows group s (orphaned.Looking m) = MemberKnows group s m
    × (is_process_word (main_at s m.parent) ≡ true
    → is_outside m.group m.session (group_of (group_at s m.parent)) ≡ true)
OrphanedKnows group s (orphaned.Answered true) = IsOrphanedIn s group
OrphanedKnows group s (orphaned.Answered false) = Unit {0}
OrphanedKnows group s orphaned.Rest = Unit {0}

-- What it knows in the turn in which it came there: a group that isn't orphaned isn't at that very moment.
abbrev pub OrphanedTells : (group : ℕ) → Win32State → Orphaned → Type 0
OrphanedTells group s (orphaned.Answered false) = IsKeptIn s group
OrphanedTells group s o = OrphanedKnows group s o
