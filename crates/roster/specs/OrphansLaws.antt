-- The look for an orphaned group is right at its last step.
use Rattle.std.specs.Prelude.{◌≡◌, ℕ, ◌≤◌, ◌<◌, Bool, true, false, ◌&&◌, nat_eq, nat_le, Option}
use Rattle.std.specs.Prelude.{Some, None}
use Rattle.std.proofs.Common.{refl, sym, ap, ◌∙◌, subst, arith, inl, inr}
use Rattle.std.proofs.lemmas.Bool.{cond_both, and_parts, and_from, and_cases, and_left, and_right, eq-eqb, eqb-true}
use Rattle.std.proofs.lemmas.Bool.{cases_Bool, leb-true}
use Rattle.w32_base.specs.declared.call.Reply.{Reply}
use Rattle.win32_spec.specs.State.{Win32State}
use Rattle.layer_spec.specs.Rows.{RowKind, Free, Held, Running, Stopped, Zombie, Gone, MainWord, GroupWord}
use Rattle.layer_spec.specs.Rows.{is_process_kind, is_live_kind}
use Rattle.layer_spec.specs.Decoding.{main_of, group_of}
use Rattle.layer_spec.specs.Words.{claimed_in, main_at, group_at, row_of}
use Rattle.roster.specs.declared.scan.Scan.{Scan}
use Rattle.roster.specs.declared.scan.Scan.TheVariants as scan
use Rattle.roster.specs.declared.orphaned.Member.{Member}
use Rattle.roster.specs.declared.orphaned.Orphaned.{Orphaned}
use Rattle.roster.specs.declared.orphaned.Orphaned.TheVariants as orphaned
use Rattle.roster.specs.Words.{is_process_main, is_live_main, is_process_word, is_live_word}
use Rattle.roster.specs.Roster.{RosterStays}
use Rattle.roster.specs.Scan.{scan_next, scan_after}
use Rattle.roster.specs.Scanned.{IsToldIn, NoneBehind, ScanKnows}
use Rattle.roster.specs.ScannedLaws.{process_before, scan-stays, scan-next, scan-turn}
use Rattle.roster.specs.Orphaned.{is_process_number, is_outside, orphaned_posted, orphaned_on, orphaned_found}
use Rattle.roster.specs.Orphaned.{orphaned_scanned, orphaned_grouped, orphaned_looked, orphaned_after, orphaned_rank}
use Rattle.roster.specs.Orphans.{is_live_outside, has_parent_outside, HasNoParentOutside}
use Rattle.roster.specs.Orphans.{MemberKnows, OrphanedKnows, OrphanedTells}

-- who is alive is a process
live_kind : (k : RowKind) → is_live_kind k ≡ true → is_process_kind k ≡ true
live_kind Running e = refl
live_kind Stopped e = refl
live_kind Free e = absurd (cc)
live_kind Held e = absurd (cc)
live_kind Zombie e = absurd (cc)
live_kind Gone e = absurd (cc)

live_main : (o : Option MainWord) → is_live_main o ≡ true → is_process_main o ≡ true
live_main (Some m) e = live_kind m.kind e
live_main None e = absurd (cc)

pub live_process : (w : ℕ) → is_live_word w ≡ true → is_process_word w ≡ true
live_process w e = live_main (main_of w) e

-- a live process outside was one before
outside_before : (a b : Win32State) → RosterStays a b → (group session row : ℕ) → 1 ≤ row
    → is_live_outside b group session row ≡ true → is_live_outside a group session row ≡ true
outside_before a b stays group session row from e =
    let both = and_parts (is_outside group session (group_of (group_at b row))) (is_live_word (main_at b row)) e in
    let was : is_process_word (main_at a row) ≡ true =
    sym (stays.processes row from) ∙ live_process (main_at b row) both.1 in
    let live : is_live_word (main_at a row) ≡ true = elim (cases_Bool (is_live_word (main_at a row))) [
      | inl lives ↦ lives
      | inr dead ↦ absurd (
          let now : is_live_word (main_at b row) ≡ false = stays.deaths row from dead in
          let never : true ≡ false = sym both.1 ∙ now in cc)
    ] in
    and_from (is_outside group session (group_of (group_at a row))) (is_live_word (main_at a row))
    (ap (λ w. is_outside group session (group_of w)) (sym (stays.groups row from was)) ∙ both.0) live

-- the row of a process's number
row_from : (p : ℕ) → is_process_number p ≡ true → 1 ≤ row_of p
row_from p e =
    let least : 2 ≤ p = leb-true 2 p (and_parts (nat_le 2 p) (nat_le p 4001) e).0 in omega arith

false_since : (b : Bool) → (b ≡ true → ⊥) → b ≡ false
false_since true h = absurd (h refl)
false_since false h = refl

-- who has no live parent outside gets none
pub parent_lasts : (group : ℕ) (a b : Win32State) → RosterStays a b → (row : ℕ) (g : GroupWord)
    → HasNoParentOutside group a row g → HasNoParentOutside group b row g
parent_lasts group a b stays row g none member = false_since (has_parent_outside b group g) (λ e.
    let both = and_parts (is_process_number g.parent) (is_live_outside b group g.session (row_of g.parent)) e in
    let was : has_parent_outside a group g ≡ true =
    and_from (is_process_number g.parent) (is_live_outside a group g.session (row_of g.parent)) both.0
    (outside_before a b stays group g.session (row_of g.parent) (row_from g.parent both.0) both.1) in
    let never : true ≡ false = sym was ∙ none member in cc)

member_later : (group : ℕ) (a b : Win32State) → RosterStays a b → (m : Member) → MemberKnows group a m
    → MemberKnows group b m
member_later group a b stays m k = record {
  row = k.row;
  last = k.last;
  found = k.found;
  word = k.word;
  look = scan-stays (HasNoParentOutside group) (parent_lasts group) a b stays (scan.Found k.row k.last k.found) k.look;
  rest = k.rest;
  tells = k.tells;
  its_group = k.its_group;
  member = k.member;
  session = k.session;
  number = k.number;
  parent = k.parent;
}

-- What the look knows it knows after steps that leave the roster as it is, but that a group isn't orphaned: a parent
-- may die.
pub orphaned-stays : (group : ℕ) (a b : Win32State) → RosterStays a b → (o : Orphaned) → OrphanedTells group a o
    → OrphanedKnows group b o
orphaned-stays group a b stays (orphaned.Scanning g x) k =
    (k.0, scan-stays (HasNoParentOutside group) (parent_lasts group) a b stays x k.1)
orphaned-stays group a b stays (orphaned.Grouping m) k = member_later group a b stays m k
orphaned-stays group a b stays (orphaned.Looking m) k = (
  member_later group a b stays m k.0,
  λ process.
      let from : 1 ≤ m.parent = subst (λ n. 1 ≤ n) (sym k.0.parent) (row_from k.0.word.parent k.0.number) in
      let was : is_process_word (main_at a m.parent) ≡ true = sym (stays.processes m.parent from) ∙ process in
      ap (λ w. is_outside m.group m.session (group_of w)) (stays.groups m.parent from was) ∙ k.1 was,
)
orphaned-stays group a b stays (orphaned.Answered true) k =
    λ row g is. parent_lasts group a b stays row g (k row g (process_before a b stays row g is))
orphaned-stays group a b stays (orphaned.Answered false) k = tt
orphaned-stays group a b stays orphaned.Rest k = tt

module _ (group : ℕ) (s : Win32State) where
  on_knows : (x : Scan) → ScanKnows (HasNoParentOutside group) s x → OrphanedTells group s (orphaned_on group x)
  on_knows scan.Past k = k
  on_knows (scan.Counting rows) k = (refl, k)
  on_knows (scan.Looking row last) k = (refl, k)
  on_knows (scan.Grouping row last) k = (refl, k)
  on_knows (scan.Found row last w) k = (refl, k)
  on_knows scan.Rest k = (refl, k)

  -- a process whose group word isn't that of a member with a parent has no parent outside
  no_member : (g : GroupWord) → (nat_eq g.group group && is_process_number g.parent) ≡ false → g.group ≡ group
      → has_parent_outside s group g ≡ false
  no_member g e member = elim (and_cases (nat_eq g.group group) (is_process_number g.parent) e) [
    | inl other ↦ absurd (let same : nat_eq g.group group ≡ true = eq-eqb g.group group member in
        let never : true ≡ false = sym same ∙ other in cc)
    | inr none ↦ and_left (is_process_number g.parent) (is_live_outside s group g.session (row_of g.parent)) none
  ]

  found_knows : (row last w : ℕ) → ScanKnows (HasNoParentOutside group) s (scan.Found row last w)
      → (o : Option GroupWord) → group_of w ≡ o
      → OrphanedTells group s (orphaned_found group o (scan_next (scan.Found row last w)))
  found_knows row last w k None e =
      on_knows (scan_next (scan.Found row last w))
      (scan-next (HasNoParentOutside group) s row last w k (λ g told. absurd (cc)))
  found_knows row last w k (Some g) e =
      cond_both (nat_eq g.group group && is_process_number g.parent)
      (orphaned.Grouping (record {
        group = group;
        session = g.session;
        parent = row_of g.parent;
        rest = scan_next (scan.Found row last w);
      }))
      (orphaned_on group (scan_next (scan.Found row last w))) (OrphanedTells group s)
      (λ both. let parts = and_parts (nat_eq g.group group) (is_process_number g.parent) both in record {
        row = row;
        last = last;
        found = w;
        word = g;
        look = k;
        rest = refl;
        tells = e;
        its_group = refl;
        member = eqb-true g.group group parts.0;
        session = refl;
        number = parts.1;
        parent = refl;
      })
      (λ none. on_knows (scan_next (scan.Found row last w))
      (scan-next (HasNoParentOutside group) s row last w k
      (λ h told. let same : g ≡ h = same_word told in subst (HasNoParentOutside group s row) same (no_member g none))))
    where
      same_word : {h : GroupWord} → group_of w ≡ Some h → g ≡ h
      same_word told = cc

  scanned_knows : (x : Scan) → ScanKnows (HasNoParentOutside group) s x
      → OrphanedTells group s (orphaned_scanned group x)
  scanned_knows (scan.Found row last w) k = found_knows row last w k (group_of w) refl
  scanned_knows scan.Past k = on_knows scan.Past k
  scanned_knows (scan.Counting rows) k = on_knows (scan.Counting rows) k
  scanned_knows (scan.Looking row last) k = on_knows (scan.Looking row last) k
  scanned_knows (scan.Grouping row last) k = on_knows (scan.Grouping row last) k
  scanned_knows scan.Rest k = on_knows scan.Rest k

  -- a member without a live parent outside is passed
  passed_knows : (m : Member) (k : MemberKnows group s m) → has_parent_outside s group k.word ≡ false
      → OrphanedTells group s (orphaned_on m.group m.rest)
  passed_knows m k none =
      subst (λ n. OrphanedTells group s (orphaned_on n m.rest)) (sym k.its_group)
      (subst (λ x. OrphanedTells group s (orphaned_on group x)) (sym k.rest)
      (on_knows (scan_next (scan.Found k.row k.last k.found))
      (scan-next (HasNoParentOutside group) s k.row k.last k.found k.look
      (λ g told. let same : k.word ≡ g = same_word g told in
      subst (HasNoParentOutside group s k.row) same (λ _. none)))))
    where
      same_word : (g : GroupWord) → group_of k.found ≡ Some g → k.word ≡ g
      same_word g told = let e : Some k.word ≡ Some g = sym k.tells ∙ told in cc

  -- what is outside by what the member's look names is so by the member's word
  outside_by : (m : Member) (k : MemberKnows group s m)
      → is_outside m.group m.session (group_of (group_at s m.parent))
      ≡ is_outside group k.word.session (group_of (group_at s (row_of k.word.parent)))
  outside_by m k =
      ap (λ n. is_outside n m.session (group_of (group_at s m.parent))) k.its_group
      ∙ ap (λ n. is_outside group n (group_of (group_at s m.parent))) k.session
      ∙ ap (λ n. is_outside group k.word.session (group_of (group_at s n))) k.parent

  live_by : (m : Member) (k : MemberKnows group s m)
      → is_live_word (main_at s m.parent) ≡ is_live_word (main_at s (row_of k.word.parent))
  live_by m k = ap (λ n. is_live_word (main_at s n)) k.parent

  grouped_knows : (m : Member) → MemberKnows group s m
      → OrphanedTells group s (orphaned_grouped m (group_at s m.parent))
  grouped_knows m k =
      cond_both (is_outside m.group m.session (group_of (group_at s m.parent))) (orphaned.Looking m)
      (orphaned_on m.group m.rest) (OrphanedTells group s) (λ e. (k, λ _. e))
      (λ e. passed_knows m k
      (and_right (is_process_number k.word.parent)
      (is_live_outside s group k.word.session (row_of k.word.parent))
      (and_left (is_outside group k.word.session (group_of (group_at s (row_of k.word.parent))))
      (is_live_word (main_at s (row_of k.word.parent))) (sym (outside_by m k) ∙ e))))

  looked_knows : (m : Member) → OrphanedKnows group s (orphaned.Looking m)
      → OrphanedTells group s (orphaned_looked m (main_at s m.parent))
  looked_knows m k =
      cond_both (is_live_word (main_at s m.parent)) (orphaned.Answered false) (orphaned_on m.group m.rest)
      (OrphanedTells group s)
      (λ live. record {
        row = k.0.row;
        word = k.0.word;
        process = record {
          from = k.0.look.2.from;
          process = k.0.look.2.process;
          tells = ap group_of k.0.look.3 ∙ k.0.tells;
        };
        member = k.0.member;
        parent =
            and_from (is_process_number k.0.word.parent)
            (is_live_outside s group k.0.word.session (row_of k.0.word.parent)) k.0.number
            (and_from (is_outside group k.0.word.session (group_of (group_at s (row_of k.0.word.parent))))
            (is_live_word (main_at s (row_of k.0.word.parent)))
            (sym (outside_by m k.0) ∙ k.1 (live_process (main_at s m.parent) live)) (sym (live_by m k.0) ∙ live));
      })
      (λ dead. passed_knows m k.0
      (and_right (is_process_number k.0.word.parent)
      (is_live_outside s group k.0.word.session (row_of k.0.word.parent))
      (and_right (is_outside group k.0.word.session (group_of (group_at s (row_of k.0.word.parent))))
      (is_live_word (main_at s (row_of k.0.word.parent))) (sym (live_by m k.0) ∙ dead))))

  -- A turn of the look, in a state in which the rows behind the claimed ones aren't processes: where it answers, the
  -- group is orphaned in this state, or isn't.
  pub orphaned-turn : NoneBehind s (claimed_in s) → (o : Orphaned) (r : Reply) → 0 < orphaned_rank o
      → IsToldIn s (orphaned_posted o) r → OrphanedKnows group s o → OrphanedTells group s (orphaned_after o r)
  orphaned-turn claimed (orphaned.Scanning g x) r goes told k =
      subst (λ n. OrphanedTells group s (orphaned_scanned n (scan_after x r))) (sym k.0)
      (scanned_knows (scan_after x r) (scan-turn (HasNoParentOutside group) s claimed x r told k.1))
  orphaned-turn claimed (orphaned.Grouping m) r goes told k =
      subst (λ y. OrphanedTells group s (orphaned_after (orphaned.Grouping m) y)) (sym told) (grouped_knows m k)
  orphaned-turn claimed (orphaned.Looking m) r goes told k =
      subst (λ y. OrphanedTells group s (orphaned_after (orphaned.Looking m) y)) (sym told) (looked_knows m k)
  orphaned-turn claimed (orphaned.Answered is_orphaned) r goes told k = absurd (omega arith)
  orphaned-turn claimed orphaned.Rest r goes told k = tt
