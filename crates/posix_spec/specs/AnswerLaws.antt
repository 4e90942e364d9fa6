-- The results of steps, calls that end, and signals that are sent keep a state well formed.
use Rattle.std.specs.Prelude.{◌≡◌, ℕ, ◌+◌, ℤ, Bool, true, false, nat_eq, if◌then◌else◌, Option, Some, None, bit_or}
use Rattle.std.proofs.Common.{refl, sym, ap, subst, ◌∙◌, true≢false}
use Rattle.std.proofs.lemmas.Bool.{cond_both}
use Rattle.script_spec.specs.declared.script.Script.{Script}
use Rattle.vm_spec.specs.Image.{with_result}
use Rattle.posix_spec.specs.Numbers.{for_value}
use Rattle.posix_spec.specs.Signals.{generate, lost_by, continue_signal}
use Rattle.posix_spec.specs.State.{Life, Running, Stopped, Zombie, Numbers, Record, PosixState, record_of}
use Rattle.posix_spec.specs.Pending.{is_stopped, is_live}
use Rattle.posix_spec.specs.Records.{settled, changed_at, change_record}
use Rattle.posix_spec.specs.Waits.{death_to_report}
use Rattle.posix_spec.specs.Conditions.{with_results}
use Rattle.posix_spec.specs.Sending.{with_generated, continued, generated_by_life, generated, owed_more}
use Rattle.posix_spec.specs.DeathSteps.{is_zombie}
use Rattle.posix_spec.specs.RecordLaws.{each_with_record}
use Rattle.posix_spec.specs.SignalLaws.{IsSignalSet-generate, IsSignalSet-lost_by, IsSignalSet-or}
use Rattle.posix_spec.specs.ImageLaws.{IsImage-with_result}
use Rattle.posix_spec.specs.WellFormed.{HasSignals, IsWellFormedRecord, IsWellFormed}
use Rattle.posix_spec.specs.KeepLaws.{sound_of, Keeps, IsWellFormed-change}
use Rattle.posix_spec.specs.CallLaws.{IsActing, Keeps-ended, none_some}

-- ---- the result of a step

module _ (P : PosixState → Type 0) where
  pub after_none : (y : PosixState) → None ≡ Some y → P y
  after_none y e = absurd (none_some y e)

  pub after_some : (x y : PosixState) → P x → Some x ≡ Some y → P y
  after_some x y h e = subst P (ap (λ (o : Option PosixState). elim o as (λ _. PosixState) [ None ↦ x | Some z ↦ z ])
      e) h

  pub after_if : (b : Bool) (x y : PosixState) → (b ≡ true → P x) → (if b then Some x else None) ≡ Some y → P y
  after_if true x y h e = after_some x y (h refl) e
  after_if false x y h e = after_none y e

  pub after_test : (b : Bool) (o : Option PosixState) (y : PosixState) → (b ≡ true → o ≡ Some y → P y) →
      (if b then o else None) ≡ Some y → P y
  after_test true o y h e = h refl e
  after_test false o y h e = after_none y e

  pub after_value : {A : Type 0} (o : Option A) (next : A → Option PosixState) (y : PosixState) →
      ((a : A) → o ≡ Some a → next a ≡ Some y → P y) → for_value o next ≡ Some y → P y
  after_value None next y h e = after_none y e
  after_value (Some a) next y h e = h a refl e

-- ---- what stays of a process where another one, or it itself, is changed

module _ (P : Record → Type 0) (s : PosixState) (p q : ℕ) (change : Record → Record) where
  kept_by : ((r : Record) → record_of s p ≡ Some r → P r) → ((r : Record) → P r → P (settled (change r))) →
      (o : Option Record) → record_of s q ≡ o → (r : Record) → record_of (changed_at s q change o) p ≡ Some r → P r
  kept_by before keeps None is r e = before r e
  kept_by before keeps (Some old) is r e =
      each_with_record (λ n r. n ≡ p → P r) s q (change old)
      (λ same. keeps old (before old (ap (record_of s) (sym same) ∙ is)))
      (λ n r apart there same. before r (ap (record_of s) (sym same) ∙ there))
      p r e refl

  pub kept_at : ((r : Record) → record_of s p ≡ Some r → P r) → ((r : Record) → P r → P (settled (change r))) →
      (r : Record) → record_of (change_record s q change) p ≡ Some r → P r
  kept_at before keeps r e = kept_by before keeps (record_of s q) refl r e

-- process p, if there is one, runs, outside a suspend
abbrev pub Acts : PosixState → ℕ → Type 0
Acts s p = (r : Record) → record_of s p ≡ Some r → IsActing r

-- ---- a call ends with its results

pub IsWellFormed-results : (script : Script) (s : PosixState) (p : ℕ) (r0 : ℤ) (r1 : Option ℤ) → IsWellFormed script
    s → Acts s p →
    IsWellFormed script (change_record s p (with_results r0 r1))
IsWellFormed-results script s p r0 r1 w acts =
    IsWellFormed-change script s p (with_results r0 r1) w
    (λ old is good. Keeps-ended script s.used p old (with_result old.image r0 r1) good (acts old is)
    (IsImage-with_result script old.image r0 r1 good.runs))

-- ---- a signal is generated

module _ (script : Script) (used : Numbers) (p signal : ℕ) (r : Record) (w : IsWellFormedRecord script used p r) where
  signals_generated : HasSignals (generate r.pending signal) (bit_or r.lost (lost_by r.pending signal)) r.mask r.saved
      r.actions
  signals_generated = record {
    pending_signals = IsSignalSet-generate r.pending signal;
    lost_signals = IsSignalSet-or r.lost (lost_by r.pending signal) w.signals.lost_signals
        (IsSignalSet-lost_by r.pending signal w.signals.pending_signals);
    is_mask = w.signals.is_mask;
    saved_mask = w.signals.saved_mask;
    action_count = w.signals.action_count;
    kill_action = w.signals.kill_action;
    stop_action = w.signals.stop_action;
  }

  Keeps-same : Keeps script used p r r
  Keeps-same = record {
    sound = sound_of w;
    place = record { parent = refl; group = refl; session = refl; death = refl };
  }

  Keeps-with_generated : (is_zombie r.life ≡ true → ⊥) → Keeps script used p r (with_generated signal r)
  Keeps-with_generated lives = record {
    sound = record {
      numbers = w.numbers;
      lives = w.lives;
      notes = λ dead. absurd (lives dead);
      signals = signals_generated;
      runs = w.runs;
      calls = w.calls;
    };
    place = record { parent = refl; group = refl; session = refl; death = refl };
  }

  Keeps-continued : (t : ℕ) → r.life ≡ Stopped t → Keeps script used p r (continued (with_generated signal r))
  Keeps-continued t is = record {
    sound = record {
      numbers = w.numbers;
      lives = record {
        stop = λ s e. absurd (true≢false (sym (ap is_stopped e)));
        status = λ v e. absurd (true≢false (sym (ap is_zombie e)));
        has_report = refl;
      };
      notes = λ dead. absurd (true≢false (sym dead));
      signals = signals_generated;
      runs = w.runs;
      calls = record {
        may_block = w.calls.may_block;
        suspended = λ m saved _. w.calls.suspended m saved (ap is_live is);
        wait_call = w.calls.wait_call;
        group_call = w.calls.group_call;
      };
    };
    place = record { parent = refl; group = refl; session = refl; death = sym (ap death_to_report is) };
  }

  Keeps-by_life : (life : Life) → r.life ≡ life → Keeps script used p r (generated_by_life life signal r)
  Keeps-by_life Running is = Keeps-with_generated (λ dead. true≢false (sym dead ∙ ap is_zombie is))
  Keeps-by_life (Stopped t) is =
      cond_both (nat_eq signal continue_signal) (continued (with_generated signal r)) (with_generated signal r)
      (Keeps script used p r)
      (λ _. Keeps-continued t is) (λ _. Keeps-with_generated (λ dead. true≢false (sym dead ∙ ap is_zombie is)))
  Keeps-by_life (Zombie v) is = Keeps-same

  pub Keeps-generated : Keeps script used p r (generated signal r)
  Keeps-generated =
      cond_both (nat_eq signal 0) r (generated_by_life r.life signal r) (Keeps script used p r)
      (λ _. Keeps-same) (λ _. Keeps-by_life r.life refl)

  -- ---- a parent is owed one more

  owing : is_live r.life ≡ true → is_zombie r.life ≡ true → ⊥
  owing live dead = elim r.life as (λ l. is_live l ≡ true → is_zombie l ≡ true → ⊥) [
    | Running ↦ λ a b. true≢false (sym b)
    | Stopped t ↦ λ a b. true≢false (sym b)
    | Zombie v ↦ λ a b. true≢false (sym a)
  ] live dead

  pub Keeps-owed_more : Keeps script used p r (owed_more r)
  Keeps-owed_more =
      cond_both (is_live r.life) (record r { owed = r.owed + 1 }) r (Keeps script used p r)
      (λ live. record {
        sound = record {
          numbers = w.numbers;
          lives = w.lives;
          notes = λ dead. absurd (owing live dead);
          signals = w.signals;
          runs = w.runs;
          calls = w.calls;
        };
        place = record { parent = refl; group = refl; session = refl; death = refl };
      })
      (λ _. Keeps-same)
