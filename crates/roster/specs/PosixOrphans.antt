-- The orphan rule by the words of the rows is that of the POSIX machine, where the rows show its processes.
use Rattle.std.specs.Prelude.{◌≡◌, ℕ, ◌+◌, ◌≤◌, Bool, true, false, ◌&&◌, ◌||◌, not, nat_eq, nat_le, Option, Some, None}
use Rattle.std.specs.Prelude.{IsSome, MatchOption, is_some}
use Rattle.std.proofs.Common.{refl, sym, ap, ◌∙◌, subst, arith, inl, inr}
use Rattle.std.proofs.lemmas.Bool.{and_parts, and_right, and_from, leb-true, le-leb, eqb-true, eq-eqb, cases_Bool}
use Rattle.std.proofs.lemmas.Bool.{not-false}
use Rattle.w32_base.specs.declared.own.Own.{Own}
use Rattle.script_spec.specs.declared.script.Script.{Script}
use Rattle.win32_spec.specs.State.{Process, Win32State}
use Rattle.posix_spec.specs.State as posix
use Rattle.posix_spec.specs.State.{Record, PosixState, record_of}
use Rattle.posix_spec.specs.Pending.{is_live}
use Rattle.posix_spec.specs.Groups.{has_no_parent_outside, is_orphaned}
use Rattle.posix_spec.specs.TestLaws.{every_record-is, every_record-from}
use Rattle.layer_spec.specs.Rows.{RowKind, Free, Held, Running, Stopped, Zombie, Gone, GroupWord}
use Rattle.layer_spec.specs.Rows.{is_process_kind, is_live_kind}
use Rattle.layer_spec.specs.Decoding.{group_of}
use Rattle.layer_spec.specs.Words.{main_at, group_at, row_of}
use Rattle.layer_spec.specs.Decodes.{life_by, ShowsRecord, ShowsRow, DecodesBy}
use Rattle.roster.specs.Words.{is_process_main, is_live_main, is_live_word}
use Rattle.roster.specs.Orphaned.{is_process_number, is_outside}
use Rattle.roster.specs.Scanned.{IsProcessAt}
use Rattle.roster.specs.Orphans.{is_live_outside, has_parent_outside, IsOrphanedIn, IsKeptIn}

-- what the kinds of rows say of a life
life_process : (k : RowKind) (stop status : ℕ) (l : posix.Life) → life_by k stop status ≡ Some l
    → is_process_kind k ≡ true
life_process Running stop status l e = refl
life_process Stopped stop status l e = refl
life_process Zombie stop status l e = refl
life_process Free stop status l e = absurd (cc)
life_process Held stop status l e = absurd (cc)
life_process Gone stop status l e = absurd (cc)

same_life : (a b : posix.Life) → Some a ≡ Some b → is_live b ≡ is_live a
same_life a b e = let same : a ≡ b = cc in ap is_live (sym same)

life_live : (k : RowKind) (stop status : ℕ) (l : posix.Life) → life_by k stop status ≡ Some l
    → is_live l ≡ is_live_kind k
life_live Running stop status l e = same_life posix.Running l e
life_live Stopped stop status l e = same_life (posix.Stopped stop) l e
life_live Zombie stop status l e = same_life (posix.Zombie status) l e
life_live Free stop status l e = absurd (cc)
life_live Held stop status l e = absurd (cc)
life_live Gone stop status l e = absurd (cc)

-- the two ways of saying that somebody is outside
outside_both : (member session live : Bool)
    → ((not member && session) && live) ≡ not (not live || (member || not session))
outside_both true true true = refl
outside_both true true false = refl
outside_both true false true = refl
outside_both true false false = refl
outside_both false true true = refl
outside_both false true false = refl
outside_both false false true = refl
outside_both false false false = refl

dead_kind : (k : RowKind) → is_process_kind k ≡ false → is_live_kind k ≡ false
dead_kind Free e = refl
dead_kind Held e = refl
dead_kind Gone e = refl
dead_kind Running e = absurd (cc)
dead_kind Stopped e = absurd (cc)
dead_kind Zombie e = refl

no_is : (o : Option Record) → ((r : Record) → o ≡ Some r → ⊥) → o ≡ None
no_is None h = refl
no_is (Some r) h = absurd (h r refl)

module _ (script : Script) (memory : Process → Own) (s : Win32State) (p : PosixState)
    (shows : DecodesBy script memory s p) (few : (n : ℕ) → IsSome (record_of p n) → n ≤ 4001) where
  -- a record with what a group word tells
  pub record HasWord (r : Record) (g : GroupWord) : Type 0 where
    pub group : r.group ≡ g.group
    pub session : r.session ≡ g.session
    pub parent : r.parent ≡ g.parent

  -- a process by its row is a record
  pub is_record : (row : ℕ) (g : GroupWord) → IsProcessAt s row g
      → (r : Record) × (record_of p (row + 1) ≡ Some r) × HasWord r g
  is_record row g is = by_record (record_of p (row + 1)) refl (shows.rows row is.from).shown
    where
      at : ShowsRow script memory s p row
      at = shows.rows row is.from

      process : is_process_kind at.main.kind ≡ true
      process = sym (ap is_process_main at.decodes) ∙ is.process

      by_record : (o : Option Record) → record_of p (row + 1) ≡ o
          → MatchOption o (is_process_kind at.main.kind ≡ false) (λ r. ShowsRecord script memory s p row at.main r)
          → (r : Record) × (record_of p (row + 1) ≡ Some r) × HasWord r g
      by_record None e none = absurd (let never : true ≡ false = sym process ∙ none in cc)
      by_record (Some r) e shown =
          let told : Some shown.group_word ≡ Some g = sym shown.group_decodes ∙ is.tells in
          let same : shown.group_word ≡ g = cc in (
            r,
            e,
            record {
              group = shown.group ∙ ap (λ (x : GroupWord). x.group) same;
              session = shown.session ∙ ap (λ (x : GroupWord). x.session) same;
              parent = shown.parent ∙ ap (λ (x : GroupWord). x.parent) same;
            },
          )

  -- a record is a process by its row
  pub is_process : (n : ℕ) (r : Record) → record_of p n ≡ Some r
      → (g : GroupWord) × IsProcessAt s (row_of n) g × HasWord r g
  is_process n r is = (
    shown.group_word,
    record {
      from = from;
      process = ap is_process_main at.decodes ∙ life_process at.main.kind at.main.stop at.main.status r.life shown.life;
      tells = shown.group_decodes;
    },
    record { group = shown.group; session = shown.session; parent = shown.parent },
  )
    where
      least : 2 ≤ n
      least = shows.numbers n (ap (λ o. is_some o) is)

      from : 1 ≤ row_of n
      from = omega (arith, least)

      at : ShowsRow script memory s p (row_of n)
      at = shows.rows (row_of n) from

      here : record_of p (row_of n + 1) ≡ Some r
      here = let same : row_of n + 1 ≡ n = omega (arith, least) in ap (record_of p) same ∙ is

      shown : ShowsRecord script memory s p (row_of n) at.main r
      shown = subst (λ o. MatchOption o (is_process_kind at.main.kind ≡ false)
          (λ x. ShowsRecord script memory s p (row_of n) at.main x)) here at.shown

  -- a parent outside by the words is one by the record
  parent_is : (group : ℕ) (g : GroupWord)
      → has_parent_outside s group g ≡ not (has_no_parent_outside group g.session (record_of p g.parent))
  parent_is group g = by_number (is_process_number g.parent) refl
    where
      by_number : (b : Bool) → is_process_number g.parent ≡ b
          → (b && is_live_outside s group g.session (row_of g.parent))
          ≡ not (has_no_parent_outside group g.session (record_of p g.parent))
      by_number false e =
          let nobody : record_of p g.parent ≡ None = no_is (record_of p g.parent) (λ r is.
          let some : IsSome (record_of p g.parent) = ap (λ o. is_some o) is in
          let is_number : is_process_number g.parent ≡ true =
          and_from (nat_le 2 g.parent) (nat_le g.parent 4001) (le-leb 2 g.parent (shows.numbers g.parent some))
          (le-leb g.parent 4001 (few g.parent some)) in
          let never : true ≡ false = sym is_number ∙ e in cc) in
          ap (λ o. not (has_no_parent_outside group g.session o)) (sym nobody)
      by_number true e = by_record (record_of p (row_of g.parent + 1)) refl at.shown
        where
          least : 2 ≤ g.parent
          least = leb-true 2 g.parent (and_parts (nat_le 2 g.parent) (nat_le g.parent 4001) e).0

          at : ShowsRow script memory s p (row_of g.parent)
          at = shows.rows (row_of g.parent) (omega (arith, least))

          same : row_of g.parent + 1 ≡ g.parent
          same = omega (arith, least)

          by_record : (o : Option Record) → record_of p (row_of g.parent + 1) ≡ o
              → MatchOption o (is_process_kind at.main.kind ≡ false)
              (λ r. ShowsRecord script memory s p (row_of g.parent) at.main r)
              → is_live_outside s group g.session (row_of g.parent)
              ≡ not (has_no_parent_outside group g.session (record_of p g.parent))
          by_record None f none =
              and_right (is_outside group g.session (group_of (group_at s (row_of g.parent))))
              (is_live_word (main_at s (row_of g.parent)))
              (ap is_live_main at.decodes ∙ dead_kind at.main.kind none)
              ∙ ap (λ o. not (has_no_parent_outside group g.session o)) (sym f ∙ ap (record_of p) same)
          by_record (Some r) f shown =
              ap (λ o. is_outside group g.session o && is_live_word (main_at s (row_of g.parent))) shown.group_decodes
              ∙ ap (λ b. (not (nat_eq shown.group_word.group group) && nat_eq shown.group_word.session g.session) && b)
              (ap is_live_main at.decodes
              ∙ sym (life_live at.main.kind at.main.stop at.main.status r.life shown.life))
              ∙ outside_both (nat_eq shown.group_word.group group) (nat_eq shown.group_word.session g.session)
              (is_live r.life)
              ∙ ap (λ n. not (not (is_live r.life)
              || (nat_eq n group || not (nat_eq shown.group_word.session g.session))))
              (sym shown.group)
              ∙ ap (λ n. not (not (is_live r.life) || (nat_eq r.group group || not (nat_eq n g.session))))
              (sym shown.session)
              ∙ ap (λ o. not (has_no_parent_outside group g.session o)) (sym f ∙ ap (record_of p) same)

  -- the group is orphaned by the words exactly where it is in the POSIX machine
  pub orphaned_is : (group : ℕ) → IsOrphanedIn s group → is_orphaned p group ≡ true
  orphaned_is group each =
      every_record-from p
      (λ q r. not (nat_eq r.group group) || has_no_parent_outside group r.session (record_of p r.parent))
      (λ q r is. by_member q r is (nat_eq r.group group) refl)
    where
      by_member : (q : ℕ) (r : Record) → record_of p q ≡ Some r → (b : Bool) → nat_eq r.group group ≡ b
          → (not b || has_no_parent_outside group r.session (record_of p r.parent)) ≡ true
      by_member q r is false e = refl
      by_member q r is true e =
          let found = is_process q r is in
          let none : has_parent_outside s group found.0 ≡ false =
          each (row_of q) found.0 found.1 (sym found.2.group ∙ eqb-true r.group group e) in
          let alone : not (has_no_parent_outside group r.session (record_of p r.parent)) ≡ false =
          ap (λ n. not (has_no_parent_outside group n (record_of p r.parent))) found.2.session
          ∙ ap (λ n. not (has_no_parent_outside group found.0.session (record_of p n))) found.2.parent
          ∙ sym (parent_is group found.0) ∙ none in
          not-false (has_no_parent_outside group r.session (record_of p r.parent)) alone

  pub orphaned_from : (group : ℕ) → is_orphaned p group ≡ true → IsOrphanedIn s group
  orphaned_from group all row g is member =
      let found = is_record row g is in
      let passes : (not (nat_eq found.0.group group)
      || has_no_parent_outside group found.0.session (record_of p found.0.parent)) ≡ true =
      every_record-is p
      (λ q r. not (nat_eq r.group group) || has_no_parent_outside group r.session (record_of p r.parent)) all
      (row + 1) found.0 found.1 in
      let joins : nat_eq found.0.group group ≡ true = eq-eqb found.0.group group (found.2.group ∙ member) in
      let alone : has_no_parent_outside group found.0.session (record_of p found.0.parent) ≡ true =
      ap (λ b. not b || has_no_parent_outside group found.0.session (record_of p found.0.parent)) (sym joins)
      ∙ passes in
      parent_is group g
      ∙ ap (λ n. not (has_no_parent_outside group n (record_of p g.parent))) (sym found.2.session)
      ∙ ap (λ n. not (has_no_parent_outside group found.0.session (record_of p n))) (sym found.2.parent)
      ∙ ap not alone

  pub kept_is : (group : ℕ) → IsKeptIn s group → is_orphaned p group ≡ false
  kept_is group kept = elim (cases_Bool (is_orphaned p group)) [
    | inl all ↦ absurd (
        let none : has_parent_outside s group kept.word ≡ false =
        orphaned_from group all kept.row kept.word kept.process kept.member in
        let never : true ≡ false = sym kept.parent ∙ none in cc)
    | inr is ↦ is
  ]
