-- A step that changes one main word, and leaves the roster as it is: the facts of the words hold where the change is
-- the acting thread's to make.
use Rattle.std.proofs.Common.{◌≡◌, ◌≢◌, ◌⊎◌, inl, inr, ℕ, zero, suc, ◌≤◌, Bool, true, false, refl, sym, ap}
use Rattle.std.proofs.Common.{◌∙◌, subst, arith}
use Rattle.std.proofs.lemmas.Bool.{cases_eq}
use Rattle.win32_spec.specs.Facts.{IsTurnOfThread}
use Rattle.layer_spec.specs.Decoding.{main_of, main_image}
use Rattle.layer_spec.specs.Discipline.{is_claim}
use Rattle.layer_spec.specs.Moment.{HistoryStep}
use Rattle.layer_spec.specs.Rows.{main_place, group_place, exit_place}
use Rattle.layer_spec.specs.Transitions.{Op, is_op}
use Rattle.layer_spec.specs.Turns.{is_live_process}
use Rattle.layer_spec.specs.Words.{claimed_in, main_at}
use Rattle.roster.specs.RosterChanges.{changes_roster, ChangesMain}
use Rattle.roster.specs.RosterChangesLaws.{KeepsWord, changed_word_keeps, change-stays}
use Rattle.roster.specs.Words.{is_live_word}
use Rattle.world_spec.specs.Facts.{ChangesByTable, KeepsWords, Names, RowStays, is_open_main}
use Rattle.world_spec.specs.Made.{IsClaimedBy}

-- The step changes the main word of a claimed row by an op that leaves the roster as it is. If the row is neither
-- published nor dropped, it is the acting main thread's that claimed it. If it is live, it names the same image after
-- it; or it became a zombie, in a turn of that image's main thread or once the image has ended.
pub record MayChangeMain {A : Type 0} (step : HistoryStep A) (row : ℕ) (op : Op) : Type 0 where
  pub legal : is_op op ≡ true
  pub small : changes_roster op ≡ false
  pub change : ChangesMain step.before.win32 step.after.win32 row op
  pub no_claim : is_claim step.entry.call ≡ false
  pub within : row ≤ claimed_in step.before.win32
  pub own : (v : ℕ) → IsClaimedBy step.past row v → is_open_main (main_of (main_at step.before.win32 row)) ≡ true
      → IsTurnOfThread step.before.win32 step.entry.directive v 0
  pub image : is_live_word (main_at step.before.win32 row) ≡ true → is_live_word (main_at step.after.win32 row) ≡ true
      → main_image (main_at step.after.win32 row) ≡ main_image (main_at step.before.win32 row)
  pub seal : is_live_word (main_at step.before.win32 row) ≡ true → is_live_word (main_at step.after.win32 row) ≡ false
      → (is_live_process step.before.win32 (main_image (main_at step.before.win32 row)) ≡ false)
      ⊎ IsTurnOfThread step.before.win32 step.entry.directive (main_image (main_at step.before.win32 row)) 0

module _ {A : Type 0} (step : HistoryStep A) (row : ℕ) (op : Op) (may : MayChangeMain step row op) where
  -- every other main word, each group word and each exit word
  other_main : (r : ℕ) → 1 ≤ r → r ≢ row → main_at step.after.win32 r ≡ main_at step.before.win32 r
  other_main r from other = may.change.others (main_place r) (λ same. other (one r row from may.change.from same))
    where
      one : (x y : ℕ) → 1 ≤ x → 1 ≤ y → main_place x ≡ main_place y → x ≡ y
      one x y p q e = omega arith

  no_group : (r : ℕ) → group_place r ≢ main_place row
  no_group r e = absurd (apart r row may.change.from e)
    where
      apart : (x y : ℕ) → 1 ≤ y → group_place x ≡ main_place y → ⊥
      apart x y q e = omega arith

  no_exit : (r : ℕ) → exit_place r ≢ main_place row
  no_exit r e = absurd (apart r row may.change.from e)
    where
      apart : (x y : ℕ) → 1 ≤ y → exit_place x ≡ main_place y → ⊥
      apart x y q e = omega arith

  other_row : (r : ℕ) → 1 ≤ r → r ≢ row → RowStays step.before.win32 step.after.win32 r
  other_row r from other = record {
    main = other_main r from other;
    group = may.change.others (group_place r) (no_group r);
    exit = may.change.others (exit_place r) (no_exit r);
  }

  word : KeepsWord (main_at step.before.win32 row) (main_at step.after.win32 row)
  word = changed_word_keeps op (main_at step.before.win32 row) (main_at step.after.win32 row) may.legal may.small
      may.change.changed

  count : claimed_in step.after.win32 ≡ claimed_in step.before.win32
  count = may.change.others 0 (λ e. no_exit 0 e)

  other_any : (r : ℕ) → r ≢ row → RowStays step.before.win32 step.after.win32 r
  other_any zero other = record { main = count; group = count; exit = count }
  other_any (suc n) other = other_row (suc n) (omega arith) other

  -- what holds of this row, and of every row whose main word stays, holds of each
  each_row : (Q : ℕ → Type 0) → Q row
      → ((r : ℕ) → 1 ≤ r → main_at step.after.win32 r ≡ main_at step.before.win32 r → Q r) → (r : ℕ) → 1 ≤ r → Q r
  each_row Q here stays r from = elim (cases_eq r row) [
    | inl same ↦ subst Q (sym same) here
    | inr other ↦ stays r from (other_main r from other)
  ]

  pub main-kept : KeepsWords step
  main-kept = record {
    grows = omega (arith, count);
    by_one = omega (arith, count);
    claims = λ r w claim. absurd (let e : true ≡ false = sym (ap is_claim claim.asks) ∙ may.no_claim in cc);
    mains = λ r from. each_row (λ k. ChangesByTable (main_at step.before.win32 k) (main_at step.after.win32 k))
        (inr (op, may.legal, may.change.changed)) (λ k low same. inl same) r from;
    unclaimed = λ r above. other_any r (λ e. omega (arith, above, may.within, e));
    claimed = λ r w claim is_open apart. elim (cases_eq r row) [
      | inl same ↦ absurd (apart (may.own w (subst (λ k. IsClaimedBy step.past k w) same claim)
          (subst (λ k. is_open_main (main_of (main_at step.before.win32 k)) ≡ true) same is_open)))
      | inr other ↦ other_any r other
    ];
    holder = λ w t holds apart. change-stays step.before.win32 step.after.win32 row op may.legal may.small may.change;
    exits = λ r from is. inl (may.change.others (exit_place r) (no_exit r));
    images = λ r from. each_row (λ k. is_live_word (main_at step.before.win32 k) ≡ true
        → is_live_word (main_at step.after.win32 k) ≡ true
        → (main_image (main_at step.after.win32 k) ≡ main_image (main_at step.before.win32 k))
        ⊎ IsTurnOfThread step.before.win32 step.entry.directive (main_image (main_at step.before.win32 k)) 0)
        (λ live lives. inl (may.image live lives)) (λ k low same live lives. inl (ap main_image same)) r from;
    seals = λ r from. each_row (λ k. is_live_word (main_at step.before.win32 k) ≡ true
        → is_live_word (main_at step.after.win32 k) ≡ false
        → (is_live_process step.before.win32 (main_image (main_at step.before.win32 k)) ≡ false)
        ⊎ IsTurnOfThread step.before.win32 step.entry.directive (main_image (main_at step.before.win32 k)) 0)
        may.seal
        (λ k low same live dead.
        absurd (let e : true ≡ false = sym live ∙ (sym (ap is_live_word same) ∙ dead) in cc)) r from;
    names = λ r from. each_row (λ k. is_live_word (main_at step.after.win32 k) ≡ true
        → (is_live_word (main_at step.before.win32 k) ≡ false)
        ⊎ (main_image (main_at step.after.win32 k) ≢ main_image (main_at step.before.win32 k)) → Names step k)
        (λ live other. absurd (named_before live other))
        (λ k low same live other. absurd (elim other [
          | inl dead ↦ let e : true ≡ false = sym live ∙ (ap is_live_word same ∙ dead) in cc
          | inr differs ↦ differs (ap main_image same)
        ])) r from;
  }
    where
      -- the row was live before, and names the same image
      named_before : is_live_word (main_at step.after.win32 row) ≡ true
          → (is_live_word (main_at step.before.win32 row) ≡ false)
          ⊎ (main_image (main_at step.after.win32 row) ≢ main_image (main_at step.before.win32 row)) → ⊥
      named_before live (inl dead) = let e : true ≡ false = sym live ∙ word.death dead in cc
      named_before live (inr differs) = by_test (is_live_word (main_at step.before.win32 row)) refl
        where
          by_test : (b : Bool) → is_live_word (main_at step.before.win32 row) ≡ b → ⊥
          by_test true e = differs (may.image e live)
          by_test false e = let f : true ≡ false = sym live ∙ word.death e in cc
