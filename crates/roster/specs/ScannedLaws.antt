-- The processes that a look through the rows finds are all there are, and keep their groups, sessions and parents while
-- the roster stays.
use Rattle.std.specs.Prelude.{◌≡◌, ℕ, ◌+◌, ◌≤◌, ◌<◌, true, false, nat_le, nat_lt, if◌then◌else◌, Some}
use Rattle.std.specs.Prelude.{is_some}
use Rattle.std.proofs.Common.{refl, sym, ap, ◌∙◌, subst, arith, inl, inr}
use Rattle.std.proofs.lemmas.Bool.{cond_both, cases_lt, cases_order, leb-false}
use Rattle.w32_base.specs.declared.call.Reply.{Reply}
use Rattle.win32_spec.specs.State.{Win32State}
use Rattle.layer_spec.specs.Rows.{GroupWord}
use Rattle.layer_spec.specs.Decoding.{group_of}
use Rattle.layer_spec.specs.Words.{claimed_in, main_at, group_at}
use Rattle.roster.specs.declared.scan.Scan.{Scan}
use Rattle.roster.specs.declared.scan.Scan.TheVariants as scan
use Rattle.roster.specs.Words.{is_process_word}
use Rattle.roster.specs.Roster.{RosterStays}
use Rattle.roster.specs.Scan.{scan_posted, scan_from, scan_counted, scan_looked, scan_grouped, scan_next, scan_after}
use Rattle.roster.specs.Scanned.{IsToldIn, IsProcessAt, NoneBehind, StandsAt, EachBelow, Each, ScanKnows}

-- who is a process now, with this group word, was one before
pub process_before : (a b : Win32State) → RosterStays a b → (row : ℕ) (g : GroupWord) → IsProcessAt b row g
    → IsProcessAt a row g
process_before a b stays row g is =
    let was : is_process_word (main_at a row) ≡ true = sym (stays.processes row is.from) ∙ is.process in
    record {
      from = is.from;
      process = was;
      tells = ap group_of (sym (stays.groups row is.from was)) ∙ is.tells;
    }

-- no row behind the last one becomes a process
pub none_later : (a b : Win32State) → RosterStays a b → (last : ℕ) → NoneBehind a last → NoneBehind b last
none_later a b stays last none row behind =
    stays.processes row (omega arith) ∙ none row behind

pub stands_later : (a b : Win32State) → RosterStays a b → (row : ℕ) → StandsAt a row → StandsAt b row
stands_later a b stays row at =
    record { from = at.from; process = stays.processes row at.from ∙ at.process }

module _ (Q : Win32State → ℕ → GroupWord → Type 0)
    (lasts : (a b : Win32State) → RosterStays a b → (row : ℕ) (g : GroupWord) → Q a row g → Q b row g) where
  each_later : (a b : Win32State) → RosterStays a b → (last : ℕ) → EachBelow Q a last → EachBelow Q b last
  each_later a b stays last each row g below is =
      lasts a b stays row g (each row g below (process_before a b stays row g is))

  -- what a look knows it knows after steps that leave the roster as it is
  pub scan-stays : (a b : Win32State) → RosterStays a b → (x : Scan) → ScanKnows Q a x → ScanKnows Q b x
  scan-stays a b stays (scan.Counting rows) k = none_later a b stays rows k
  scan-stays a b stays (scan.Looking row last) k =
      (each_later a b stays row k.0, none_later a b stays last k.1, k.2)
  scan-stays a b stays (scan.Grouping row last) k =
      (each_later a b stays row k.0, none_later a b stays last k.1, stands_later a b stays row k.2)
  scan-stays a b stays (scan.Found row last w) k = (
    each_later a b stays row k.0,
    none_later a b stays last k.1,
    stands_later a b stays row k.2,
    stays.groups row k.2.from k.2.process ∙ k.3,
  )
  scan-stays a b stays scan.Past k = λ row g is. lasts a b stays row g (k row g (process_before a b stays row g is))
  scan-stays a b stays scan.Rest k = tt

module _ (Q : Win32State → ℕ → GroupWord → Type 0) where
  -- where no row behind the last one is a process, those below the next row are all
  all_found : (s : Win32State) (row last : ℕ) → last < row → EachBelow Q s row → NoneBehind s last → Each Q s
  all_found s row last past each none r g is = elim (cases_lt r row) [
    | inl below ↦ each r g below is
    | inr above ↦ absurd (
        let never : is_process_word (main_at s r) ≡ false = none r (omega arith) in
        let process : is_process_word (main_at s r) ≡ true = is.process in cc)
  ]

  -- a look that goes on from a row knows of those below it
  from_row : (s : Win32State) (row last : ℕ) → 1 ≤ row → EachBelow Q s row → NoneBehind s last
      → ScanKnows Q s (scan_from row last)
  from_row s row last from each none =
      cond_both (nat_le row last) (scan.Looking row last) scan.Past (ScanKnows Q s) (λ e. (each, none, from))
      (λ e. all_found s row last (leb-false row last e) each none)

  -- one more row that is no process, and one more of which it holds
  one_more : (s : Win32State) (row : ℕ) → EachBelow Q s row → ((g : GroupWord) → IsProcessAt s row g → Q s row g)
      → EachBelow Q s (row + 1)
  one_more s row each here r g below is = elim (cases_order r row) [
    | inl same ↦
        subst (λ n. Q s n g) (sym same) (here g (subst (λ n. IsProcessAt s n g) same is))
    | inr other ↦ elim other [ inl less ↦ each r g less is | inr more ↦ absurd (omega arith) ]
  ]

  -- a look goes on behind a process of which it holds
  pub scan-next : (s : Win32State) (row last w : ℕ) → ScanKnows Q s (scan.Found row last w)
      → ((g : GroupWord) → group_of w ≡ Some g → Q s row g) → ScanKnows Q s (scan_next (scan.Found row last w))
  scan-next s row last w k here =
      from_row s (row + 1) last (omega arith)
      (one_more s row k.0 (λ g is. here g (ap group_of (sym k.3) ∙ is.tells))) k.1

  counted : (s : Win32State) (rows : ℕ) → NoneBehind s rows → NoneBehind s (claimed_in s)
      → ScanKnows Q s (scan_counted rows (claimed_in s))
  counted s rows within claimed =
      from_row s 1 (if nat_lt (claimed_in s) rows then claimed_in s else rows) (omega arith)
      (λ r g below is. absurd (let from : 1 ≤ r = is.from in omega arith))
      (cond_both (nat_lt (claimed_in s) rows) (claimed_in s) rows (NoneBehind s) (λ e. claimed) (λ e. within))

  looked : (s : Win32State) (row last : ℕ) → ScanKnows Q s (scan.Looking row last)
      → ScanKnows Q s (scan_looked row last (main_at s row))
  looked s row last k =
      cond_both (is_process_word (main_at s row)) (scan.Grouping row last) (scan_from (row + 1) last) (ScanKnows Q s)
      (λ e. (k.0, k.1, record { from = k.2; process = e }))
      (λ e. from_row s (row + 1) last (omega arith)
      (one_more s row k.0 (λ g is. absurd (let process : is_process_word (main_at s row) ≡ true = is.process in cc)))
      k.1)

  grouped : (s : Win32State) (row last : ℕ) → ScanKnows Q s (scan.Grouping row last)
      → ScanKnows Q s (scan_grouped row last (group_at s row))
  grouped s row last k =
      cond_both (is_some (group_of (group_at s row))) (scan.Found row last (group_at s row)) scan.Rest (ScanKnows Q s)
      (λ e. (k.0, k.1, k.2, refl)) (λ e. tt)

  -- A turn of the look, in a state in which the rows behind the claimed ones aren't processes.
  pub scan-turn : (s : Win32State) → NoneBehind s (claimed_in s) → (x : Scan) (r : Reply)
      → IsToldIn s (scan_posted x) r → ScanKnows Q s x → ScanKnows Q s (scan_after x r)
  scan-turn s claimed (scan.Counting rows) r told k =
      subst (λ y. ScanKnows Q s (scan_after (scan.Counting rows) y)) (sym told) (counted s rows k claimed)
  scan-turn s claimed (scan.Looking row last) r told k =
      subst (λ y. ScanKnows Q s (scan_after (scan.Looking row last) y)) (sym told) (looked s row last k)
  scan-turn s claimed (scan.Grouping row last) r told k =
      subst (λ y. ScanKnows Q s (scan_after (scan.Grouping row last) y)) (sym told) (grouped s row last k)
  scan-turn s claimed (scan.Found row last w) r told k = k
  scan-turn s claimed scan.Past r told k = k
  scan-turn s claimed scan.Rest r told k = tt
