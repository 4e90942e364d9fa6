-- Which rows are orphans: those of the children of a process that has died, and its own where its parent isn't live.
use Rattle.std.proofs.Common.{◌≡◌, ℕ, ◌+◌, ◌≤◌, true, false, Option, Some, None, MatchOption, refl, sym, ap}
use Rattle.std.proofs.Common.{◌∙◌, subst, arith}
use Rattle.script_spec.specs.declared.script.Script.{Script}
use Rattle.win32_spec.specs.State.{Win32State}
use Rattle.posix_spec.specs.State.{Life, Record, PosixState, record_of}
use Rattle.layer_spec.specs.Decodes.{Decodes, ShowsRecord, ShowsRow, life_by}
use Rattle.layer_spec.specs.Decoding.{main_of, group_of}
use Rattle.layer_spec.specs.Rows.{RowKind, Free, Held, Running, Stopped, Zombie, Gone, MainWord, GroupWord}
use Rattle.layer_spec.specs.Rows.{main_place, group_place, is_process_kind, is_live_kind}
use Rattle.layer_spec.specs.Words.{row_of, word_in, main_at}
use Rattle.roster.specs.Words.{is_process_main, is_process_word, is_live_main, is_live_word}
use Rattle.world_spec.specs.CollectRows.{row-shows}
use Rattle.child_watch.specs.ExitClause.{is_ended_kind, is_ended_main, is_ended_word, HasParent, IsOrphan}

-- a row that was a process and has died isn't live
pub ended-dead : (w : ℕ) → is_ended_word w ≡ true → is_live_word w ≡ false
ended-dead w e = by_main (main_of w) e
  where
    by_kind : (k : RowKind) → is_ended_kind k ≡ true → is_live_kind k ≡ false
    by_kind Free e = refl
    by_kind Held e = refl
    by_kind Running e = absurd (let f : false ≡ true = e in cc)
    by_kind Stopped e = absurd (let f : false ≡ true = e in cc)
    by_kind Zombie e = refl
    by_kind Gone e = refl

    by_main : (o : Option MainWord) → is_ended_main o ≡ true → is_live_main o ≡ false
    by_main None e = refl
    by_main (Some m) e = by_kind m.kind e

-- a row that shows a process is one
shown_process : (k : RowKind) (stop status : ℕ) (l : Life) → life_by k stop status ≡ Some l → is_process_kind k ≡ true
shown_process Free stop status l e = absurd (cc)
shown_process Held stop status l e = absurd (cc)
shown_process Running stop status l e = refl
shown_process Stopped stop status l e = refl
shown_process Zombie stop status l e = refl
shown_process Gone stop status l e = absurd (cc)

module _ (script : Script) (s : Win32State) (p : PosixState) (decodes : Decodes script s p) where
  -- the process of a row that is one
  pub process_record : (row : ℕ) → 1 ≤ row → is_process_word (main_at s row) ≡ true
      → (r : Record) × (record_of p (row + 1) ≡ Some r)
  process_record row from is = by_record (record_of p (row + 1)) refl shows.shown
    where
      shows : ShowsRow script (λ q. q.own) s p row
      shows = decodes.rows row from

      by_record : (o : Option Record) → record_of p (row + 1) ≡ o
          → MatchOption o (is_process_kind shows.main.kind ≡ false)
          (λ r. ShowsRecord script (λ q. q.own) s p row shows.main r)
          → (r : Record) × (record_of p (row + 1) ≡ Some r)
      by_record None e m = absurd (
          let f : true ≡ false = sym (sym (ap is_process_main shows.decodes) ∙ is) ∙ m in cc)
      by_record (Some r) e m = (r, e)

  -- The child of a dead process is an orphan.
  pub orphan-child : (row c : ℕ) → is_ended_word (main_at s row) ≡ true → HasParent p (row + 1) c → IsOrphan s c
  orphan-child row c ended child = record {
    from = child.from;
    parent = λ is g group low.
        let r = process_record c child.from is in
        let shown = row-shows script s p decodes c r.0 child.from r.1 in
        let same : Some shown.2.group_word ≡ Some g = sym shown.2.group_decodes ∙ group in
        let word : shown.2.group_word ≡ g = cc in
        let parent : g.parent ≡ row + 1 =
        ap (λ (x : GroupWord). x.parent) (sym word) ∙ (sym shown.2.parent ∙ child.parent_is r.0 r.1) in
        let at : row_of g.parent ≡ row = omega (arith, parent) in
        ap (λ k. is_live_word (main_at s k)) at ∙ ended-dead (main_at s row) ended;
  }

  -- What that says of the process of the row.
  pub orphan-record : (row : ℕ) (r : Record) → IsOrphan s row → record_of p (row + 1) ≡ Some r → 2 ≤ r.parent
      → is_live_word (main_at s (row_of r.parent)) ≡ false
  orphan-record row r orphan found low =
      let shown = row-shows script s p decodes row r orphan.from found in
      let is : is_process_word (main_at s row) ≡ true =
      ap is_process_main shown.1 ∙ shown_process shown.0.kind shown.0.stop shown.0.status r.life shown.2.life in
      let dead = orphan.parent is shown.2.group_word shown.2.group_decodes
      (subst (λ k. 2 ≤ k) shown.2.parent low) in
      ap (λ k. is_live_word (main_at s (row_of k))) shown.2.parent ∙ dead

-- An orphan is one where the words are the same.
pub orphan-words : (s new : Win32State) (row : ℕ) → ((i : ℕ) → word_in new i ≡ word_in s i) → IsOrphan s row
    → IsOrphan new row
orphan-words s new row words h = record {
  from = h.from;
  parent = λ is g group low.
      ap is_live_word (words (main_place (row_of g.parent)))
      ∙ h.parent (ap is_process_word (sym (words (main_place row))) ∙ is) g
      (ap group_of (sym (words (group_place row))) ∙ group) low;
}
