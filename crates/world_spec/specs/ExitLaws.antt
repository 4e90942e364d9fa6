-- A step that changes one exit word: the facts of the words hold where its row is a process and doesn't carry the image
-- that its main word names, and the acting thread is that image's main thread.
use Rattle.std.proofs.Common.{◌≡◌, ◌≢◌, inl, inr, ℕ, ◌≤◌, true, false, List, Option, Some, None, sym, ap, ◌∙◌}
use Rattle.std.proofs.Common.{subst, arith}
use Rattle.std.proofs.lemmas.Bool.{cases_eq, cases_lt}
use Rattle.script_spec.specs.declared.script.Script.{Script}
use Rattle.win32_spec.specs.Facts.{IsTurnOfThread}
use Rattle.win32_spec.specs.State.{Win32State}
use Rattle.layer_spec.specs.Decoding.{main_of, main_image, exit_of}
use Rattle.layer_spec.specs.Discipline.{is_claim}
use Rattle.layer_spec.specs.Moment.{HistoryStep, Seen}
use Rattle.layer_spec.specs.Rows.{MainWord, RowKind, Free, Held, Running, Stopped, Zombie, Gone, is_process_kind}
use Rattle.layer_spec.specs.Rows.{main_place, group_place, exit_place}
use Rattle.layer_spec.specs.Turns.{is_live_process}
use Rattle.layer_spec.specs.Words.{word_in, claimed_in, main_at, group_at}
use Rattle.roster.specs.Words.{is_process_main, is_process_word, is_live_word}
use Rattle.world_spec.specs.Facts.{CarriesImage, KeepsWords, RowStays, is_open_kind, is_open_main}
use Rattle.world_spec.specs.RowsBesideLaws.{IsOwnRow, own-row-stays, own-exit-stays}
use Rattle.world_spec.specs.SeenStep.{IsSeenStep, IsBeside}
use Rattle.world_spec.specs.Sound.{AreRowsSound}
use Rattle.world_spec.specs.SoundLaws.{live_is_process}

-- The step changes no word but the exit word of a claimed row, which is a process and doesn't carry its image. It is a
-- turn of the main thread of that image.
pub record MayMarkExit {A : Type 0} (step : HistoryStep A) (row : ℕ) : Type 0 where
  pub from : 1 ≤ row
  pub within : row ≤ claimed_in step.before.win32
  pub others : (i : ℕ) → i ≢ exit_place row → word_in step.after.win32 i ≡ word_in step.before.win32 i
  pub no_claim : is_claim step.entry.call ≡ false
  pub process : is_process_word (main_at step.before.win32 row) ≡ true
  pub turn : IsTurnOfThread step.before.win32 step.entry.directive (main_image (main_at step.before.win32 row)) 0
  pub unmarked : CarriesImage step.before.win32 row → ⊥

-- a row that is a process isn't open any more
process_not_open : (w : ℕ) → is_process_word w ≡ true → is_open_main (main_of w) ≡ true → ⊥
process_not_open w e f = by_main (main_of w) e f
  where
    by_kind : (k : RowKind) → is_process_kind k ≡ true → is_open_kind k ≡ true → ⊥
    by_kind Free e f = absurd (let g : false ≡ true = e in cc)
    by_kind Held e f = absurd (let g : false ≡ true = e in cc)
    by_kind Running e f = absurd (let g : false ≡ true = f in cc)
    by_kind Stopped e f = absurd (let g : false ≡ true = f in cc)
    by_kind Zombie e f = absurd (let g : false ≡ true = f in cc)
    by_kind Gone e f = absurd (let g : false ≡ true = e in cc)

    by_main : (o : Option MainWord) → is_process_main o ≡ true → is_open_main o ≡ true → ⊥
    by_main None e f = absurd (let g : false ≡ true = e in cc)
    by_main (Some m) e f = by_kind m.kind e f

-- so nobody who claimed it may change it as one
pub own_not_open : (s : Win32State) (w row : ℕ) → IsOwnRow s w row → is_open_main (main_of (main_at s row)) ≡ true → ⊥
own_not_open s w row own is_open = process_not_open (main_at s row) (live_is_process (main_at s row) own.live) is_open

-- a row that is a process is a claimed one
pub own-claimed : {A : Type 0} → (past : List (Seen A)) (s : Win32State) (w row : ℕ) → AreRowsSound past s
    → IsOwnRow s w row
    → row ≤ claimed_in s
own-claimed past s w row sound own = elim (cases_lt (claimed_in s) row) [
  | inl far ↦ absurd (
      let blank = sound.blank row far in
      let e : false ≡ true = sym (ap is_live_word blank.main) ∙ own.live in cc)
  | inr near ↦ omega (arith, near)
]

module _ {A : Type 0} (step : HistoryStep A) (row : ℕ) (may : MayMarkExit step row) where
  no_main : (r : ℕ) → main_place r ≢ exit_place row
  no_main r e = absurd (apart r row may.from e)
    where
      apart : (x y : ℕ) → 1 ≤ y → main_place x ≡ exit_place y → ⊥
      apart x y q e = omega arith

  no_group : (r : ℕ) → group_place r ≢ exit_place row
  no_group r e = absurd (apart r row may.from e)
    where
      apart : (x y : ℕ) → 1 ≤ y → group_place x ≡ exit_place y → ⊥
      apart x y q e = omega arith

  no_exit : (r : ℕ) → r ≢ row → exit_place r ≢ exit_place row
  no_exit r d e = absurd (d (one r row e))
    where
      one : (x y : ℕ) → exit_place x ≡ exit_place y → x ≡ y
      one x y e = omega arith

  same_main : (r : ℕ) → main_at step.after.win32 r ≡ main_at step.before.win32 r
  same_main r = may.others (main_place r) (no_main r)

  same_group : (r : ℕ) → group_at step.after.win32 r ≡ group_at step.before.win32 r
  same_group r = may.others (group_place r) (no_group r)

  other_row : (r : ℕ) → r ≢ row → RowStays step.before.win32 step.after.win32 r
  other_row r d =
      record { main = same_main r; group = same_group r; exit = may.others (exit_place r) (no_exit r d) }

  count : claimed_in step.after.win32 ≡ claimed_in step.before.win32
  count = may.others 0 (λ e. omega (arith, may.from, e))

  pub exit-kept : KeepsWords step
  exit-kept = record {
    grows = omega (arith, count);
    by_one = omega (arith, count);
    claims = λ r w claim. absurd (let e : true ≡ false = sym (ap is_claim claim.asks) ∙ may.no_claim in cc);
    mains = λ r from. inl (same_main r);
    unclaimed = λ r above. other_row r (λ e. omega (arith, above, may.within, e));
    claimed = λ r w claim is_open apart. elim (cases_eq r row) [
      | inl same ↦ absurd (process_not_open (main_at step.before.win32 row) may.process
          (subst (λ k. is_open_main (main_of (main_at step.before.win32 k)) ≡ true) same is_open))
      | inr other ↦ other_row r other
    ];
    holder = λ w t holds apart. record {
      processes = λ r from. ap is_process_word (same_main r);
      groups = λ r from is. same_group r;
      deaths = λ r from dead. ap is_live_word (same_main r) ∙ dead;
    };
    exits = λ r from is. elim (cases_eq r row) [
      | inl same ↦ inr (
        subst (λ k. IsTurnOfThread step.before.win32 step.entry.directive (main_image
            (main_at step.before.win32 k)) 0)
            (sym same) may.turn,
        λ carries. may.unmarked (subst (CarriesImage step.before.win32) same carries),
      )
      | inr other ↦ inl (may.others (exit_place r) (no_exit r other))
    ];
    images = λ r from live lives. inl (ap main_image (same_main r));
    seals = λ r from live dead.
        absurd (let e : true ≡ false = sym live ∙ (sym (ap is_live_word (same_main r)) ∙ dead) in cc);
    names = λ r from live other. absurd (elim other [
      | inl dead ↦ let e : true ≡ false = sym live ∙ (ap is_live_word (same_main r) ∙ dead) in cc
      | inr differs ↦ differs (ap main_image (same_main r))
    ]);
  }

module _ {A : Type 0} (script : Script) (step : HistoryStep A) (seen : IsSeenStep script step) where
  -- An exit word that doesn't carry the image of its row doesn't carry it later, beside the main thread of that image.
  pub unmarked-stays : (w row : ℕ) → IsBeside step w 0 → is_live_process step.before.win32 w ≡ true
      → IsOwnRow step.before.win32 w row → (CarriesImage step.before.win32 row → ⊥)
      → CarriesImage step.after.win32 row → ⊥
  unmarked-stays w row beside alive own unmarked carries =
      let after = own-row-stays script step seen w row beside alive own in
      let exit = own-exit-stays script step seen w row beside own in
      unmarked (record {
        word = carries.word;
        decodes = ap exit_of (sym exit) ∙ carries.decodes;
        image = carries.image ∙ (after.image ∙ sym own.image);
      })
