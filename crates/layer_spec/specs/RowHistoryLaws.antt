-- The row history tells each row's main word.
use Rattle.std.specs.Prelude.{◌≡◌, ◌≢◌, ◌⊎◌, ℕ, ◌≤◌, true, false, nat_eq, List, [], ◌∷◌, ◌++◌, Option, Some, None}
use Rattle.std.proofs.Common.{refl, sym, ap, ◌∙◌, arith, inl, inr}
use Rattle.std.proofs.lemmas.Bool.Decides.{eqb_tells}
use Rattle.script_spec.specs.declared.script.Script.{Script}
use Rattle.win32_spec.specs.State.{Win32State}
use Rattle.layer_spec.specs.Words.{main_at}
use Rattle.layer_spec.specs.Moment.{Moment, Seen}
use Rattle.layer_spec.specs.RowHistory.{RowChange, RowItem, ChangesRow, IsChange, RowHistory, word_after, row_word}

-- one item more at the end
pub row_word-push : (items : List RowItem) (item : RowItem) (row word : ℕ)
    → row_word (items ++ item ∷ []) row word ≡ word_after item.change row (row_word items row word)
row_word-push [] item row word = refl
row_word-push (x ∷ items) item row word = row_word-push items item row (word_after x.change row word)

changed_word : (script : Script) (s new : Win32State) (change : RowChange) (row : ℕ) → 1 ≤ row
    → row ≤ script.setup.limits.rows → ChangesRow script s new change
    → ((nat_eq change.row row ≡ true) × (change.row ≡ row)) ⊎ ((nat_eq change.row row ≡ false) × (change.row ≢ row))
    → main_at new row ≡ word_after (Some change) row (main_at s row)
changed_word script s new change row low high h (inl e) = rw e.0 (rw (sym e.1) h.word)
changed_word script s new change row low high h (inr e) =
    rw e.0 (h.others.others row low high (λ same. e.1 (sym same)))

-- a step's item tells each main word after it
pub changed_main_word : (script : Script) (s new : Win32State) (change : Option RowChange) (row : ℕ) → 1 ≤ row
    → row ≤ script.setup.limits.rows → IsChange script s new change
    → main_at new row ≡ word_after change row (main_at s row)
changed_main_word script s new None row low high h = h.others row low high (omega arith)
changed_main_word script s new (Some change) row low high h =
    changed_word script s new change row low high h (eqb_tells change.row row)

-- the moment in which a history begins
abbrev pub first_moment : {A : Type 0} → List (Seen A) → Moment A → Moment A
first_moment [] now = now
first_moment (x ∷ past) now = first_moment past x.before

-- The word of a row after all items is the row's main word now.
pub row_word_is_main_word : {A : Type 0} → (script : Script) (past : List (Seen A)) (now : Moment A)
    (items : List RowItem) (row : ℕ) → 1 ≤ row → row ≤ script.setup.limits.rows → RowHistory script past now items
    → main_at now.win32 row ≡ row_word items row (main_at (first_moment past now).win32 row)
row_word_is_main_word script [] now items row low high h = rw h refl
row_word_is_main_word script (x ∷ past) now items row low high h =
    let before : main_at x.before.win32 row ≡ row_word h.0 row (main_at (first_moment past x.before).win32 row) =
    row_word_is_main_word script past x.before h.0 row low high h.4 in
    let step : main_at now.win32 row ≡ word_after h.1.change row (main_at x.before.win32 row) =
    changed_main_word script x.before.win32 now.win32 h.1.change row low high h.3.change in
    rw h.2 (step ∙ (ap (word_after h.1.change row) before
    ∙ sym (row_word-push h.0 h.1 row (main_at (first_moment past x.before).win32 row))))
