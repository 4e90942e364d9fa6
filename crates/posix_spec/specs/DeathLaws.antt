-- The end of a process keeps a state well formed.
use Rattle.std.specs.Prelude.{◌≡◌, ℕ, ◌-◌, ◌^◌, ◌<◌, ℤ, Bool, true, false, cond, ◌&&◌, not, nat_eq, nat_lt, nat_le}
use Rattle.std.specs.Prelude.{if◌then◌else◌, Option, Some, None, bit_and}
use Rattle.std.specs.Option.{unwrap_or}
use Rattle.std.specs.Int.Bits.{and_zero_r}
use Rattle.std.proofs.Common.{refl, sym, ap, subst, ◌∙◌, arith, true≢false, eqb-true, false-eqb, ltb-true, leb-true}
use Rattle.w32_base.specs.declared.event.Death.{Death}
use Rattle.w32_base.specs.declared.event.Death.TheVariants as death
use Rattle.w32_base.specs.declared.event.Event.TheVariants as event
use Rattle.w32_base.specs.declared.instr.Instr.TheVariants as instr
use Rattle.script_spec.specs.declared.script.Script.{Script}
use Rattle.vm_spec.specs.Image.{Image, value_of}
use Rattle.vm_spec.specs.Step.{Upcoming, CallInstruction, low_byte}
use Rattle.posix_spec.specs.Signals.{is_signal, only, contains}
use Rattle.posix_spec.specs.State.{Life, Running, Stopped, Zombie, Numbers, Record, PosixState, record_of}
use Rattle.posix_spec.specs.Pending.{is_live, is_stopped, open_signals}
use Rattle.posix_spec.specs.Records.{settled, with_record, without_record, change_record, is_live_at}
use Rattle.posix_spec.specs.Conditions.{next_of, may_go_on}
use Rattle.posix_spec.specs.SignalActs.{is_this}
use Rattle.posix_spec.specs.DeathSteps.{exit_status, is_signal_death, fault_status, outside_status, has_faulted}
use Rattle.posix_spec.specs.DeathSteps.{may_die, dead, with_status, died, die_step, is_zombie, collect_step}
use Rattle.posix_spec.specs.Step.{posix_step}
use Rattle.posix_spec.specs.RecordLaws.{each_with_record, record_of-with_record, record_of-change_record}
use Rattle.posix_spec.specs.TestLaws.{children-with_record}
use Rattle.posix_spec.specs.SignalLaws.{first_of, second_of}
use Rattle.posix_spec.specs.WellFormed.{IsWellFormedRecord, IsFirstStatus, IsWellFormed}
use Rattle.posix_spec.specs.KeepLaws.{IsSound, IsWellFormedRecord-settled, HasSessions-with_record}
use Rattle.posix_spec.specs.CallLaws.{none_some, no_wait, no_group}
use Rattle.posix_spec.specs.AnswerLaws.{after_if}
use Rattle.posix_spec.specs.SentLaws.{after_process, after_number, IsWellFormed-owed_more}
use Rattle.posix_spec.specs.WaitLaws.{IsWellFormed-without}

-- ---- the status of a death is below 512

low_byte_small : (z : ℤ) → low_byte z < 256
low_byte_small z = omega arith

this_is : (v : ℕ) (o : Option ℕ) → is_this v o ≡ true → o ≡ Some v
this_is v None e = absurd (true≢false (sym e))
this_is v (Some n) e = ap Some (sym (eqb-true v n e))

exit_small : (u : Upcoming) (image : Image) (v : ℕ) → exit_status u image ≡ Some v → v < 512
exit_small (CallInstruction (instr.Exit x)) image v e = omega
    (arith, ap (λ o. unwrap_or o 0) e, low_byte_small (value_of image x))
exit_small _ image v e = absurd (none_some v e)

contains_by : (set s : ℕ) (b : Bool) → not (nat_eq (bit_and set (cond b (only s) 0)) 0) ≡ true → b ≡ true
contains_by set s true e = refl
contains_by set s false e = absurd (true≢false (sym e ∙ ap (λ x. not (nat_eq x 0)) (and_zero_r set)))

only_by : (s : ℕ) (b : Bool) → is_signal s ≡ b → only s ≡ cond b (only s) 0
only_by s true e = refl
only_by s false e = ap (λ b. cond b (2 ^ (s - 1)) 0) e

pub contains_signal : (set s : ℕ) → contains set s ≡ true → is_signal s ≡ true
contains_signal set s e = contains_by set s (is_signal s)
    (ap (λ x. not (nat_eq (bit_and set x) 0)) (sym (only_by s (is_signal s) refl)) ∙ e)

signal_small : (r : Record) (v : ℕ) → is_signal_death r v ≡ true → v < 512
signal_small r v e =
    let above = ltb-true 256 v (first_of (nat_lt 256 v) _ e) in
    let range = contains_signal (open_signals r) (v - 256)
    (first_of (contains (open_signals r) (v - 256)) _ (second_of (nat_lt 256 v) _ e)) in
    omega (arith, above, leb-true (v - 256) 31 (second_of (nat_le 1 (v - 256)) (nat_le (v - 256) 31) range))

death_small : (script : Script) (r : Record) (v : ℕ) (cause : Death) → may_die script r v cause ≡ true → v < 512
death_small script r v death.Exit e = exit_small (next_of script r) r.image v
    (this_is v (exit_status (next_of script r) r.image) (second_of (may_go_on r) _ e))
death_small script r v death.Signal e = signal_small r v e
death_small script r v death.Fault e = omega
    (arith, eqb-true v 267 (first_of (nat_eq v fault_status) (has_faulted script r) e))
death_small script r v (death.World n) e = omega
    (arith, eqb-true v 265 (first_of (nat_eq v outside_status) (is_live r.life) e))

-- ---- a zombie

zombie_status : Life → ℕ
zombie_status Running = 0
zombie_status (Stopped t) = 0
zombie_status (Zombie v) = v

module _ (script : Script) (used : Numbers) (p v : ℕ) (r : Record) (w : IsWellFormedRecord script used p r)
    (small : v < 512) where
  IsSound-dead : IsSound script used p (dead v r)
  unfolding zombie_status
  IsSound-dead = record {
    numbers = w.numbers;
    lives = record {
      stop = λ t is. absurd (true≢false (sym (ap is_stopped is)));
      status = λ x is. subst (λ n. n < 512) (ap zombie_status is) small;
      has_report = refl;
    };
    notes = λ _. record { no_call = refl; not_blocked = refl; not_due = refl; none_lost = refl; none_owed = refl };
    signals = record {
      pending_signals = w.signals.pending_signals;
      lost_signals = omega arith;
      is_mask = w.signals.is_mask;
      saved_mask = w.signals.saved_mask;
      action_count = w.signals.action_count;
      kill_action = w.signals.kill_action;
      stop_action = w.signals.stop_action;
    };
    runs = w.runs;
    calls = record {
      may_block = λ b. absurd (true≢false (sym b));
      suspended = λ m is live. absurd (true≢false (sym live));
      wait_call = λ numbers is. absurd (no_wait numbers is);
      group_call = λ call is. absurd (no_group call is);
    };
  }

module _ (script : Script) (s : PosixState) (p v : ℕ) (old : Record) (w : IsWellFormed script s)
    (is : record_of s p ≡ Some old) (small : v < 512) where
  first_dead : (b : Bool) → nat_eq p 2 ≡ b → (c : Bool) → nat_eq 2 p ≡ c →
      IsFirstStatus (cond c (Some (settled (dead v old))) (record_of s 2)) (cond b (Some v) s.first_status)
  first_dead true same true e = refl
  first_dead true same false apart = absurd (false-eqb 2 p (sym apart) (sym (eqb-true p 2 same)))
  first_dead false apart true same = absurd (false-eqb p 2 (sym apart) (sym (eqb-true 2 p same)))
  first_dead false apart false other = w.first

  with_first : (status : Option ℕ) → IsFirstStatus (record_of (with_record s p (dead v old)) 2) status →
      IsWellFormed script (record (with_record s p (dead v old)) { first_status = status })
  with_first status first = record {
    each = each_with_record (IsWellFormedRecord script s.used) s p (dead v old)
        (IsWellFormedRecord-settled script s.used p (dead v old)
        (IsSound-dead script s.used p v old (w.each p old is) small)) (λ q r apart there. w.each q r there);
    numbers = w.numbers;
    first_number = w.first_number;
    sessions = let h = HasSessions-with_record script s p old (dead v old) w is refl refl in
        record { same = h.same; leader = h.leader };
    few_children = λ q. let same = children-with_record s p old (dead v old) is refl q in let few = w.few_children
        q in omega arith;
    is_terminal = w.is_terminal;
    foreground = w.foreground;
    console_call = w.console_call;
    first = first;
  }

  dead_by : (b : Bool) → nat_eq p 2 ≡ b →
      IsWellFormed script (if b then record (with_record s p (dead v old)) { first_status = Some v } else with_record
      s p (dead v old))
  dead_by true same = with_first (Some v) (subst (λ o. IsFirstStatus o (Some v))
      (sym (record_of-with_record s p (dead v old) 2)) (first_dead true same (nat_eq 2 p) refl))
  dead_by false apart = with_first s.first_status
      (subst (λ o. IsFirstStatus o s.first_status) (sym (record_of-with_record s p (dead v old) 2))
      (first_dead false apart (nat_eq 2 p) refl))

  IsWellFormed-dead : IsWellFormed script (with_status p v (change_record s p (dead v)))
  IsWellFormed-dead =
      subst (λ t. IsWellFormed script (with_status p v t)) (sym (record_of-change_record s p (dead v) old is))
      (dead_by (nat_eq p 2) refl)

module _ (script : Script) (s new : PosixState) (p : ℕ) (w : IsWellFormed script s) where
  pub keeps-die : (v : ℤ) (cause : Death) → posix_step script s (event.Die p v cause) ≡ Some new → IsWellFormed script
      new
  unfolding posix_step
  keeps-die v cause e =
      after_number (IsWellFormed script) script s new v _
      (λ n found. after_process (IsWellFormed script) script s new p (die_step script s p cause n)
      (λ r is done. after_if (IsWellFormed script) (may_die script r n cause) (died s p n r.parent) new
      (λ passed. IsWellFormed-owed_more script (with_status p n (change_record s p (dead n))) r.parent
      (IsWellFormed-dead script s p n r w is (death_small script r n cause passed))) done) found) e

  pub keeps-collect : posix_step script s (event.Collect p) ≡ Some new → IsWellFormed script new
  unfolding posix_step
  keeps-collect e =
      after_process (IsWellFormed script) script s new p (collect_step s p)
      (λ r is done. after_if (IsWellFormed script) (is_zombie r.life && not (is_live_at (record_of s r.parent)))
      (without_record s p) new
      (λ passed. IsWellFormed-without script s p r w is (first_of (is_zombie r.life) _ passed)) done) e
