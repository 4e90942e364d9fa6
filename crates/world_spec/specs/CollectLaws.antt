-- The holder of the roster mutex collects a zombie whose raw parent is no live process: the facts of the words hold.
use Rattle.std.proofs.Common.{◌≡◌, ◌≢◌, ◌⊎◌, inl, inr, ℕ, ◌≤◌, true, false, Option, Some}
use Rattle.std.proofs.Common.{None, refl, sym, ap, ◌∙◌, subst, arith}
use Rattle.std.specs.Option.{option_map}
use Rattle.std.proofs.lemmas.Bool.{cases_eq}
use Rattle.script_spec.specs.declared.script.Script.{Script}
use Rattle.win32_spec.specs.Facts.{IsTurnOfThread}
use Rattle.win32_spec.specs.Lookup.{object_number, object_of}
use Rattle.win32_spec.specs.LookupLaws.{same, differs, same_some}
use Rattle.win32_spec.specs.Objects.{Owned}
use Rattle.win32_spec.specs.State.{Mutex, Win32State}
use Rattle.win32_spec.specs.WellFormed.{IsWellFormed}
use Rattle.layer_spec.specs.Decoding.{main_of, main_image}
use Rattle.layer_spec.specs.Discipline.{is_claim}
use Rattle.layer_spec.specs.Moment.{HistoryStep}
use Rattle.layer_spec.specs.RowLaws.{main_words}
use Rattle.layer_spec.specs.Rows.{RowKind, Free, Held, Running, Stopped, Zombie, Gone, MainWord, main_word_of}
use Rattle.layer_spec.specs.Rows.{main_place}
use Rattle.layer_spec.specs.Rows.{group_place, exit_place, is_live_kind}
use Rattle.layer_spec.specs.Transitions.{Collect, by_kind, gone}
use Rattle.layer_spec.specs.Turns.{is_live_process}
use Rattle.layer_spec.specs.Words.{claimed_in, main_at}
use Rattle.roster.specs.Roster.{HoldsRoster}
use Rattle.roster.specs.RosterChanges.{ChangesMain}
use Rattle.roster.specs.Turns.{roster_handle}
use Rattle.roster.specs.Words.{changed_main, changed_word, is_live_main, is_live_word}
use Rattle.world_spec.specs.EndLaws.{named_found}
use Rattle.world_spec.specs.Facts.{ChangesByTable, KeepsWords, RowStays, is_open_kind, is_open_main}
use Rattle.world_spec.specs.Sound.{HaveOneRoster}

-- The old word was a zombie's, and the new one is that of a row that is gone.
pub record IsCollected (w n : ℕ) : Type 0 where
  pub main : MainWord
  pub was : main_of w ≡ Some main
  pub zombie : main.kind ≡ Zombie
  pub now : main_of n ≡ Some gone

pub collected-word : (w n : ℕ) → changed_word Collect w ≡ Some n → IsCollected w n
collected-word w n c = by_main (main_of w) refl c
  where
    by_kinds : (m : MainWord) (k : RowKind) → m.kind ≡ k → main_of w ≡ Some m
        → option_map main_word_of (by_kind k None None None None (Some gone) None) ≡ Some n → IsCollected w n
    by_kinds m Free k e f = absurd (cc)
    by_kinds m Held k e f = absurd (cc)
    by_kinds m Running k e f = absurd (cc)
    by_kinds m Stopped k e f = absurd (cc)
    by_kinds m Zombie k e f = record {
      main = m;
      was = e;
      zombie = k;
      now = let word : main_word_of gone ≡ n = cc in subst (λ x. main_of x ≡ Some gone) word
          (main_words.there gone refl);
    }
    by_kinds m Gone k e f = absurd (cc)

    by_main : (o : Option MainWord) → main_of w ≡ o → changed_main o Collect ≡ Some n → IsCollected w n
    by_main None e f = absurd (cc)
    by_main (Some m) e f = by_kinds m m.kind refl e f

-- a zombie's row isn't live, and isn't open either
collected_dead : (w n : ℕ) → IsCollected w n → is_live_word w ≡ false
collected_dead w n c = ap is_live_main c.was ∙ ap is_live_kind c.zombie

collected_shut : (w n : ℕ) → IsCollected w n → is_open_main (main_of w) ≡ false
collected_shut w n c = ap is_open_main c.was ∙ ap is_open_kind c.zombie

-- The roster mutex has one owner.
pub one-holder : (script : Script) (s : Win32State) → IsWellFormed script s → HaveOneRoster s → (v w a b : ℕ)
    → HoldsRoster s v a → HoldsRoster s w b → (v ≡ w) × (a ≡ b)
one-holder script s formed one v w a b first second =
    let m = named_found s v roster_handle (Mutex (Owned v a)) first in
    let n = named_found s w roster_handle (Mutex (Owned w b)) second in
    let at_m = formed.formed.object (object_number m.0) (Mutex (Owned v a)) m.2 in
    let at_n = formed.formed.object (object_number n.0) (Mutex (Owned w b)) n.2 in
    let names : m.0 ≡ n.0 = one v w m.0 n.0 at_m.0 at_n.0 m.1 n.1 in
    let object : Mutex (Owned v a) ≡ Mutex (Owned w b) =
    same_some (object_of s.objects (object_number n.0)) (Mutex (Owned v a)) (Mutex (Owned w b))
    (subst (λ k. object_of s.objects (object_number k) ≡ Some (Mutex (Owned v a))) names m.2) n.2 in
    let owner : Owned v a ≡ Owned w b = cc in
    (cc, cc)

-- The step collects the process of a row, in a turn of the thread that holds the roster mutex.
pub record MayCollect {A : Type 0} (script : Script) (step : HistoryStep A) (w t row : ℕ) : Type 0 where
  pub formed : IsWellFormed script step.before.win32
  pub roster : HaveOneRoster step.before.win32
  pub change : ChangesMain step.before.win32 step.after.win32 row Collect
  pub no_claim : is_claim step.entry.call ≡ false
  pub within : row ≤ claimed_in step.before.win32
  pub holds : HoldsRoster step.before.win32 w t
  pub turn : IsTurnOfThread step.before.win32 step.entry.directive w t

module _ {A : Type 0} (script : Script) (step : HistoryStep A) (w t row : ℕ)
    (may : MayCollect script step w t row) where
  other_main : (r : ℕ) → 1 ≤ r → r ≢ row → main_at step.after.win32 r ≡ main_at step.before.win32 r
  other_main r from other = may.change.others (main_place r) (λ same. other (one r row from may.change.from same))
    where
      one : (x y : ℕ) → 1 ≤ x → 1 ≤ y → main_place x ≡ main_place y → x ≡ y
      one x y p q e = omega arith

  no_group : (r : ℕ) → group_place r ≢ main_place row
  no_group r e = absurd (apart r row may.change.from e)
    where
      apart : (x y : ℕ) → 1 ≤ y → group_place x ≡ main_place y → ⊥
      apart x y q e = omega arith

  no_exit : (r : ℕ) → exit_place r ≢ main_place row
  no_exit r e = absurd (apart r row may.change.from e)
    where
      apart : (x y : ℕ) → 1 ≤ y → exit_place x ≡ main_place y → ⊥
      apart x y q e = omega arith

  count : claimed_in step.after.win32 ≡ claimed_in step.before.win32
  count = may.change.others 0 (λ e. no_exit 0 e)

  other_row : (r : ℕ) → 1 ≤ r → r ≢ row → RowStays step.before.win32 step.after.win32 r
  other_row r from other = record {
    main = other_main r from other;
    group = may.change.others (group_place r) (no_group r);
    exit = may.change.others (exit_place r) (no_exit r);
  }

  word : IsCollected (main_at step.before.win32 row) (main_at step.after.win32 row)
  word = collected-word (main_at step.before.win32 row) (main_at step.after.win32 row) may.change.changed

  dead : is_live_word (main_at step.before.win32 row) ≡ false
  dead = collected_dead (main_at step.before.win32 row) (main_at step.after.win32 row) word

  gone_dead : is_live_word (main_at step.after.win32 row) ≡ false
  gone_dead = ap is_live_main word.now

  -- what holds of this row, and of every row whose main word stays, holds of each
  each_row : (Q : ℕ → Type 0) → Q row
      → ((r : ℕ) → 1 ≤ r → main_at step.after.win32 r ≡ main_at step.before.win32 r → Q r) → (r : ℕ) → 1 ≤ r → Q r
  each_row Q here stays r from = elim (cases_eq r row) [
    | inl same ↦ subst Q (sym same) here
    | inr other ↦ stays r from (other_main r from other)
  ]

  other_any : (r : ℕ) → r ≢ row → RowStays step.before.win32 step.after.win32 r
  other_any r other = elim (cases_eq r 0) [
    | inl e ↦ subst (RowStays step.before.win32 step.after.win32) (sym e)
        (record { main = count; group = count; exit = count })
    | inr d ↦ other_row r (omega arith) other
  ]

  pub collect-kept : KeepsWords step
  collect-kept = record {
    grows = omega (arith, count);
    by_one = omega (arith, count);
    claims = λ r v claim. absurd (let e : true ≡ false = sym (ap is_claim claim.asks) ∙ may.no_claim in cc);
    mains = λ r from. each_row (λ k. ChangesByTable (main_at step.before.win32 k) (main_at step.after.win32 k))
        (inr (Collect, refl, may.change.changed)) (λ k low same. inl same) r from;
    unclaimed = λ r above. other_any r (λ e. omega (arith, above, may.within, e));
    claimed = λ r v claim is_open apart. elim (cases_eq r row) [
      | inl same ↦ absurd (
          let e : false ≡ true =
          sym (collected_shut (main_at step.before.win32 row) (main_at step.after.win32 row) word)
          ∙ subst (λ k. is_open_main (main_of (main_at step.before.win32 k)) ≡ true) same is_open in cc)
      | inr other ↦ other_any r other
    ];
    holder = λ v a holds apart.
        let one = one-holder script step.before.win32 may.formed may.roster v w a t holds may.holds in
        absurd (apart (subst (λ k. IsTurnOfThread step.before.win32 step.entry.directive k a) (sym one.0)
        (subst (λ k. IsTurnOfThread step.before.win32 step.entry.directive w k) (sym one.1) may.turn)));
    exits = λ r from is. inl (may.change.others (exit_place r) (no_exit r));
    images = λ r from. each_row (λ k. is_live_word (main_at step.before.win32 k) ≡ true
        → is_live_word (main_at step.after.win32 k) ≡ true
        → (main_image (main_at step.after.win32 k) ≡ main_image (main_at step.before.win32 k))
        ⊎ IsTurnOfThread step.before.win32 step.entry.directive (main_image (main_at step.before.win32 k)) 0)
        (λ live lives. absurd (let e : true ≡ false = sym live ∙ dead in cc))
        (λ k low same live lives. inl (ap main_image same)) r from;
    seals = λ r from. each_row (λ k. is_live_word (main_at step.before.win32 k) ≡ true
        → is_live_word (main_at step.after.win32 k) ≡ false
        → (is_live_process step.before.win32 (main_image (main_at step.before.win32 k)) ≡ false)
        ⊎ IsTurnOfThread step.before.win32 step.entry.directive (main_image (main_at step.before.win32 k)) 0)
        (λ live died. absurd (let e : true ≡ false = sym live ∙ dead in cc))
        (λ k low same live died.
        absurd (let e : true ≡ false = sym live ∙ (sym (ap is_live_word same) ∙ died) in cc)) r from;
    names = λ r from live other. absurd (elim (cases_eq r row) [
      | inl e ↦
          let f : true ≡ false =
          sym (subst (λ k. is_live_word (main_at step.after.win32 k) ≡ true) e live) ∙ gone_dead in cc
      | inr d ↦ elim other [
        | inl died ↦ let e : true ≡ false = sym live ∙ (ap is_live_word (other_main r from d) ∙ died) in cc
        | inr differs ↦ differs (ap main_image (other_main r from d))
      ]
    ]);
  }
