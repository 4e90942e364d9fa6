-- Signals that are sent keep a state well formed; and what an own event begins with.
use Rattle.std.specs.Prelude.{◌≡◌, ℕ, ◌+◌, ℤ, false, ◌&&◌, nat_eq, Option, Some, None}
use Rattle.std.proofs.Common.{refl, sym, ap, subst, ◌∙◌, true≢false}
use Rattle.std.proofs.lemmas.Bool.{cond_both}
use Rattle.w32_base.specs.declared.instr.Instr.{Instr}
use Rattle.script_spec.specs.declared.script.Script.{Script}
use Rattle.vm_spec.specs.Step.{CallInstruction}
use Rattle.posix_spec.specs.Numbers.{for_value, natural_of}
use Rattle.posix_spec.specs.Signals.{continue_signal}
use Rattle.posix_spec.specs.State.{Life, Running, Stopped, Zombie, Record, PosixState, record_of}
use Rattle.posix_spec.specs.Pending.{is_running, is_stopped, is_live}
use Rattle.posix_spec.specs.Records.{settled, change_record}
use Rattle.posix_spec.specs.Conditions.{own_call, group_step_call, for_process, for_call, for_group_step}
use Rattle.posix_spec.specs.Sending.{generated_by_life, generated, owed_more, owed_for, sent}
use Rattle.posix_spec.specs.Step.{with_number, with_numbers}
use Rattle.posix_spec.specs.RecordLaws.{same_record}
use Rattle.posix_spec.specs.WellFormed.{IsWellFormed, is_suspend_next}
use Rattle.posix_spec.specs.KeepLaws.{IsWellFormed-change}
use Rattle.posix_spec.specs.CallLaws.{IsCalling, IsStepping, IsActing, own_call-is, group_step_call-is}
use Rattle.posix_spec.specs.CallLaws.{IsActing-calling, IsActing-stepping}
use Rattle.posix_spec.specs.AnswerLaws.{after_value, kept_at, Acts, Keeps-generated, Keeps-owed_more}

-- ---- what stays of a process that acts

acting_by : (life : Life) (signal : ℕ) (r : Record) → r.life ≡ life → IsActing r → IsActing
    (generated_by_life life signal r)
acting_by Running signal r is a = record { running = a.running; unsaved = a.unsaved }
acting_by (Stopped t) signal r is a = absurd (true≢false (sym a.running ∙ ap is_running is))
acting_by (Zombie v) signal r is a = a

acting_generated : (signal : ℕ) (r : Record) → IsActing r → IsActing (settled (generated signal r))
acting_generated signal r a =
    let h : IsActing (generated signal r) = cond_both (nat_eq signal 0) r (generated_by_life r.life signal r) IsActing
    (λ _. a) (λ _. acting_by r.life signal r refl a) in
    record { running = h.running; unsaved = h.unsaved }

acting_owed : (r : Record) → IsActing r → IsActing (settled (owed_more r))
acting_owed r a =
    let h : IsActing (owed_more r) = cond_both (is_live r.life) (record r { owed = r.owed + 1 }) r IsActing
    (λ _. record { running = a.running; unsaved = a.unsaved }) (λ _. a) in
    record { running = h.running; unsaved = h.unsaved }

pub Acts-generated : (s : PosixState) (p q signal : ℕ) → Acts s p → Acts (change_record s q (generated signal)) p
Acts-generated s p q signal acts = kept_at IsActing s p q (generated signal) acts (λ r a. acting_generated signal r a)

pub Acts-owed_more : (s : PosixState) (p q : ℕ) → Acts s p → Acts (change_record s q owed_more) p
Acts-owed_more s p q acts = kept_at IsActing s p q owed_more acts acting_owed

-- ---- a signal is sent

pub IsWellFormed-generated : (script : Script) (s : PosixState) (q signal : ℕ) → IsWellFormed script s → IsWellFormed
    script (change_record s q (generated signal))
IsWellFormed-generated script s q signal w =
    IsWellFormed-change script s q (generated signal) w (λ old is good. Keeps-generated script s.used q signal old good)

pub IsWellFormed-owed_more : (script : Script) (s : PosixState) (q : ℕ) → IsWellFormed script s → IsWellFormed script
    (change_record s q owed_more)
IsWellFormed-owed_more script s q w =
    IsWellFormed-change script s q owed_more w (λ old is good. Keeps-owed_more script s.used q 0 old good)

pub owed_for_kept : (P : PosixState → Type 0) (signal : ℕ) (o : Option Record) (s : PosixState) → P s →
    ((q : ℕ) → P (change_record s q owed_more)) → P (owed_for signal o s)
owed_for_kept P signal None s h more = h
owed_for_kept P signal (Some r) s h more =
    cond_both (nat_eq signal continue_signal && is_stopped r.life) (change_record s r.parent owed_more) s P
    (λ _. more r.parent) (λ _. h)

pub IsWellFormed-sent : (script : Script) (s : PosixState) (q signal : ℕ) → IsWellFormed script s → IsWellFormed
    script (sent s q signal)
IsWellFormed-sent script s q signal w =
    let h = IsWellFormed-generated script s q signal w in
    owed_for_kept (IsWellFormed script) signal (record_of s q) (change_record s q (generated signal)) h
    (λ parent. IsWellFormed-owed_more script (change_record s q (generated signal)) parent h)

pub Acts-sent : (s : PosixState) (p q signal : ℕ) → Acts s p → Acts (sent s q signal) p
Acts-sent s p q signal acts =
    let h = Acts-generated s p q signal acts in
    owed_for_kept (λ t. Acts t p) signal (record_of s q) (change_record s q (generated signal)) h
    (λ parent. Acts-owed_more (change_record s q (generated signal)) p parent h)

-- ---- what an own event begins with

module _ (script : Script) (s : PosixState) (p : ℕ) (w : IsWellFormed script s) where
  pub Acts-calling : (r : Record) (i : Instr) → record_of s p ≡ Some r → IsCalling script r i → Acts s p
  Acts-calling r i is c other there =
      subst IsActing (same_record r other (sym is ∙ there)) (IsActing-calling script s.used p r i (w.each p r is) c)

  pub Acts-stepping : (r : Record) (i : Instr) → record_of s p ≡ Some r → IsStepping script r i → is_suspend_next
      (CallInstruction i) ≡ false → Acts s p
  Acts-stepping r i is c next other there =
      subst IsActing (same_record r other (sym is ∙ there))
      (IsActing-stepping script s.used p r i (w.each p r is) c next)

module _ (P : PosixState → Type 0) (script : Script) (s : PosixState) (new : PosixState) where
  pub after_process : (p : ℕ) (step : Record → Option PosixState) →
      ((r : Record) → record_of s p ≡ Some r → step r ≡ Some new → P new) → for_process s p step ≡ Some new → P new
  after_process p step h e = after_value P (record_of s p) step new h e

  pub after_call : (p : ℕ) (step : Record → Instr → Option PosixState) →
      ((r : Record) (i : Instr) → record_of s p ≡ Some r → IsCalling script r i → step r i ≡ Some new → P new) →
      for_call script s p step ≡ Some new → P new
  after_call p step h e =
      after_value P (record_of s p) (λ (r : Record). for_value (own_call script r) (step r)) new
      (λ r is found. after_value P (own_call script r) (step r) new
      (λ i call e. h r i is (own_call-is script r i call) e) found) e

  pub after_group_step : (p : ℕ) (step : Record → Instr → Option PosixState) →
      ((r : Record) (i : Instr) → record_of s p ≡ Some r → IsStepping script r i → step r i ≡ Some new → P new) →
      for_group_step script s p step ≡ Some new → P new
  after_group_step p step h e =
      after_value P (record_of s p) (λ (r : Record). for_value (group_step_call script r) (step r)) new
      (λ r is found. after_value P (group_step_call script r) (step r) new
      (λ i call e. h r i is (group_step_call-is script r i call) e) found) e

  pub after_number : (n : ℤ) (step : ℕ → Option PosixState) → ((m : ℕ) → step m ≡ Some new → P new) → with_number n
      step ≡ Some new → P new
  after_number n step h e = after_value P (natural_of n) step new (λ m _ found. h m found) e

  pub after_numbers : (m n : ℤ) (step : ℕ → ℕ → Option PosixState) → ((a b : ℕ) → step a b ≡ Some new → P new) →
      with_numbers m n step ≡ Some new → P new
  after_numbers m n step h e = after_number m (λ a. with_number n (step a)) (λ a. after_number n (step a) (h a)) e
