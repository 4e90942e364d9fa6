-- Waits, and calls that block, keep a state well formed.
use Rattle.std.specs.Prelude.{◌≡◌, ℕ, ℤ, pos, Bool, true, false, cond, ◌&&◌, not, nat_eq, Option, Some, None}
use Rattle.std.specs.Prelude.{is_some}
use Rattle.std.specs.FinSet as set
use Rattle.std.proofs.Common.{refl, sym, ap, subst, ◌∙◌, arith, true≢false, eqb-true}
use Rattle.w32_base.specs.declared.event.Event.TheVariants as event
use Rattle.w32_base.specs.declared.instr.Instr.{Instr}
use Rattle.w32_base.specs.declared.instr.Instr.TheVariants as instr
use Rattle.script_spec.specs.declared.script.Script.{Script}
use Rattle.vm_spec.specs.Step.{CallInstruction}
use Rattle.posix_spec.specs.Numbers.{is_optional_number}
use Rattle.posix_spec.specs.State.{Life, Running, Stopped, Zombie, Numbers, CallInProgress, NoCall, WaitCall, ForGroup}
use Rattle.posix_spec.specs.State.{Record, PosixState, record_of}
use Rattle.posix_spec.specs.Records.{without_record, change_record}
use Rattle.posix_spec.specs.Conditions.{is_group_call, answered_both}
use Rattle.posix_spec.specs.Waits.{Wait, wait_of, is_match, death_to_report, looked_at}
use Rattle.posix_spec.specs.WaitSteps.{is_looked_at, with_look, look_by, look_step, can_block, blocked, block_step}
use Rattle.posix_spec.specs.WaitSteps.{is_reaped, reap_by, reap_step, is_reported, reported, report_by, report_step}
use Rattle.posix_spec.specs.DeathSteps.{is_zombie}
use Rattle.posix_spec.specs.Step.{posix_step}
use Rattle.posix_spec.specs.RecordLaws.{same_record, each_without_record, record_of-without_record}
use Rattle.posix_spec.specs.TestLaws.{children-without_record}
use Rattle.posix_spec.specs.SignalLaws.{second_of}
use Rattle.posix_spec.specs.WellFormed.{IsUsed, AreUsed, HasSignals, IsWellFormedRecord, IsFirstStatus, IsWellFormed}
use Rattle.posix_spec.specs.WellFormed.{is_wait_next, is_blocking_next, is_report}
use Rattle.posix_spec.specs.KeepLaws.{Keeps, IsWellFormed-change}
use Rattle.posix_spec.specs.CallLaws.{IsCalling, IsActing, IsActing-calling, none_some, wait_no_group, same_wait}
use Rattle.posix_spec.specs.CallLaws.{running_not_zombie}
use Rattle.posix_spec.specs.AnswerLaws.{after_if, after_value, kept_at, Acts, IsWellFormed-results}
use Rattle.posix_spec.specs.SentLaws.{Acts-calling, after_call, after_number}
use Rattle.posix_spec.specs.GroupCallLaws.{AreUsed-empty, AreUsed-insert}

-- ---- look

module _ (script : Script) (used : Numbers) (p : ℕ) (r : Record) (i : Instr) (w : IsWellFormedRecord script used p r)
    (c : IsCalling script r i) where
  looked_used : (call : CallInProgress) → r.call ≡ call → AreUsed used (looked_at call)
  looked_used NoCall is = AreUsed-empty used
  looked_used (WaitCall numbers) is = (w.calls.wait_call numbers is).looked_at
  looked_used (ForGroup call) is = AreUsed-empty used

  signals_kept : HasSignals r.pending 0 r.mask r.saved r.actions
  signals_kept = record {
    pending_signals = w.signals.pending_signals;
    lost_signals = omega arith;
    is_mask = w.signals.is_mask;
    saved_mask = w.signals.saved_mask;
    action_count = w.signals.action_count;
    kill_action = w.signals.kill_action;
    stop_action = w.signals.stop_action;
  }

  Keeps-with_look : (q : ℕ) → is_wait_next (CallInstruction i) ≡ true → IsUsed used q → Keeps script used p r
      (with_look q r)
  Keeps-with_look q wait one = record {
    sound = record {
      numbers = w.numbers;
      lives = w.lives;
      notes = λ dead. absurd (running_not_zombie r.life c.running dead);
      signals = signals_kept;
      runs = w.runs;
      calls = record {
        may_block = w.calls.may_block;
        suspended = w.calls.suspended;
        wait_call = λ numbers is. record {
          is_next = ap is_wait_next c.next ∙ wait;
          looked_at = subst (AreUsed used) (same_wait (set.insert (looked_at r.call) q) numbers is)
              (AreUsed-insert used (looked_at r.call) q (looked_used r.call refl) one);
        };
        group_call = λ call is. absurd (wait_no_group (set.insert (looked_at r.call) q) call is);
      };
    };
    place = record { parent = refl; group = refl; session = refl; death = refl };
  }

  -- ---- block

  Keeps-blocked : is_blocking_next (CallInstruction i) ≡ true → Keeps script used p r (blocked r)
  Keeps-blocked blocks = record {
    sound = record {
      numbers = w.numbers;
      lives = w.lives;
      notes = λ dead. absurd (running_not_zombie r.life c.running dead);
      signals = signals_kept;
      runs = w.runs;
      calls = record {
        may_block = λ _. ap is_blocking_next c.next ∙ blocks;
        suspended = λ m is _. absurd (none_some m (sym (IsActing-calling script used p r i w c).unsaved ∙ is));
        wait_call = w.calls.wait_call;
        group_call = λ call is. absurd (true≢false (sym (ap is_group_call is) ∙ c.outside_group));
      };
    };
    place = record { parent = refl; group = refl; session = refl; death = refl };
  }

wait_is_next : (p : ℕ) (r : Record) (i : Instr) (wait : Wait) → wait_of p r i ≡ Some wait → is_wait_next
    (CallInstruction i) ≡ true
wait_is_next p r (instr.Wait selector flags) wait e = refl
wait_is_next p r _ wait e = absurd (none_some wait e)

can_block_next : (s : PosixState) (p : ℕ) (r : Record) (i : Instr) → can_block s p r i ≡ true → is_blocking_next
    (CallInstruction i) ≡ true
can_block_next s p r (instr.Wait selector flags) e = refl
can_block_next s p r (instr.Read address count) e = refl
can_block_next s p r instr.Pause e = refl
can_block_next s p r _ e = absurd (true≢false (sym e))

-- ---- a zombie goes

status_is_zombie : (life : Life) (v : ℤ) → is_optional_number v (death_to_report life) ≡ true → is_zombie life ≡ true
status_is_zombie Running v e = absurd (true≢false (sym e))
status_is_zombie (Stopped t) v e = absurd (true≢false (sym e))
status_is_zombie (Zombie status) v e = refl

zombie_has_status : (life : Life) → is_zombie life ≡ true → is_some (death_to_report life) ≡ true
zombie_has_status Running e = absurd (true≢false (sym e))
zombie_has_status (Stopped t) e = absurd (true≢false (sym e))
zombie_has_status (Zombie v) e = refl

module _ (script : Script) (s : PosixState) (p : ℕ) (old : Record) (w : IsWellFormed script s)
    (is : record_of s p ≡ Some old) (dead : is_zombie old.life ≡ true) where
  was_there : (q : ℕ) (r : Record) → record_of (without_record s p) q ≡ Some r → record_of s q ≡ Some r
  was_there = each_without_record (λ q r. record_of s q ≡ Some r) s p (λ q r apart there. there)

  first_without : (b : Bool) → nat_eq 2 p ≡ b → IsFirstStatus (cond b None (record_of s 2)) s.first_status
  first_without true same =
      let here : record_of s 2 ≡ Some old = ap (record_of s) (eqb-true 2 p same) ∙ is in
      let status : death_to_report old.life ≡ s.first_status = subst (λ o. IsFirstStatus o s.first_status) here
      w.first in
      ap is_some (sym status) ∙ zombie_has_status old.life dead
  first_without false apart = w.first

  pub IsWellFormed-without : IsWellFormed script (without_record s p)
  IsWellFormed-without = record {
    each = λ q r there. w.each q r (was_there q r there);
    numbers = w.numbers;
    first_number = w.first_number;
    sessions = record {
      same = λ m n a b at_m at_n together. w.sessions.same m n a b (was_there m a at_m) (was_there n b at_n) together;
      leader = λ m a b at_m at_g. w.sessions.leader m a b (was_there m a at_m) (was_there a.group b at_g);
    };
    few_children = λ q. let fewer = children-without_record s p q in let few = w.few_children q in omega arith;
    is_terminal = w.is_terminal;
    foreground = w.foreground;
    console_call = w.console_call;
    first = subst (λ o. IsFirstStatus o s.first_status) (sym (record_of-without_record s p 2))
        (first_without (nat_eq 2 p) refl);
  }

-- ---- a report

no_report : (life : Life) → is_report life 0 ≡ true
no_report Running = refl
no_report (Stopped t) = refl
no_report (Zombie v) = refl

Keeps-reported : (script : Script) (used : Numbers) (p : ℕ) (r : Record) → IsWellFormedRecord script used p r → Keeps
    script used p r (reported r)
Keeps-reported script used p r w = record {
  sound = record {
    numbers = w.numbers;
    lives = record { stop = w.lives.stop; status = w.lives.status; has_report = no_report r.life };
    notes = w.notes;
    signals = w.signals;
    runs = w.runs;
    calls = w.calls;
  };
  place = record { parent = refl; group = refl; session = refl; death = refl };
}

module _ (script : Script) (s new : PosixState) (p : ℕ) (w : IsWellFormed script s) where
  looked_number : (wait : Wait) (c : ℕ) (o : Option Record) → record_of s c ≡ o → is_looked_at wait c o ≡ true →
      IsUsed s.used c
  looked_number wait c None is e = absurd (true≢false (sym e))
  looked_number wait c (Some child) is e = (w.each c child is).numbers.number

  pub keeps-look : (c : ℤ) → posix_step script s (event.Look p c) ≡ Some new → IsWellFormed script new
  unfolding posix_step
  keeps-look c e =
      after_number (IsWellFormed script) script s new c _
      (λ n found. after_call (IsWellFormed script) script s new p (look_step s p n)
      (λ r i is calls done. after_value (IsWellFormed script) (wait_of p r i) (look_by s p n) new
      (λ wait from look. after_if (IsWellFormed script) (is_looked_at wait n (record_of s n))
      (change_record s p (with_look n)) new
      (λ passed. IsWellFormed-change script s p (with_look n) w
      (λ old there good. Keeps-with_look script s.used p old i good
      (subst (λ o. IsCalling script o i) (same_record r old (sym is ∙ there)) calls) n
      (wait_is_next p r i wait from) (looked_number wait n (record_of s n) refl passed))) look) done) found) e

  pub keeps-block : posix_step script s (event.Block p) ≡ Some new → IsWellFormed script new
  unfolding posix_step
  keeps-block e =
      after_call (IsWellFormed script) script s new p (block_step s p)
      (λ r i is calls done. after_if (IsWellFormed script) (not r.blocked && can_block s p r i)
      (change_record s p blocked) new
      (λ passed. IsWellFormed-change script s p blocked w
      (λ old there good. Keeps-blocked script s.used p old i good
      (subst (λ o. IsCalling script o i) (same_record r old (sym is ∙ there)) calls)
      (can_block_next s p r i (second_of (not r.blocked) (can_block s p r i) passed)))) done) e

  reaped_zombie : (wait : Wait) (c : ℕ) (v : ℤ) (o : Option Record) → record_of s c ≡ o → is_reaped wait c v
      o ≡ true → IsWellFormed script (without_record s c)
  reaped_zombie wait c v None is e = absurd (true≢false (sym e))
  reaped_zombie wait c v (Some child) is e =
      IsWellFormed-without script s c child w is (status_is_zombie child.life v (second_of (is_match wait c child) _ e))

  Acts-without : (c : ℕ) → Acts s p → Acts (without_record s c) p
  Acts-without c acts r there =
      each_without_record (λ n r. n ≡ p → IsActing r) s c
      (λ n r apart is same. acts r (ap (record_of s) (sym same) ∙ is)) p r there refl

  pub keeps-reap : (c v : ℤ) → posix_step script s (event.Reap p c v) ≡ Some new → IsWellFormed script new
  unfolding posix_step
  keeps-reap c v e =
      after_number (IsWellFormed script) script s new c _
      (λ n found. after_call (IsWellFormed script) script s new p (reap_step s p v n)
      (λ r i is calls done. after_value (IsWellFormed script) (wait_of p r i) (reap_by s p n v) new
      (λ wait from reap. after_if (IsWellFormed script) (is_reaped wait n v (record_of s n))
      (answered_both (without_record s n) p (pos n) v) new
      (λ passed. IsWellFormed-results script (without_record s n) p (pos n) (Some v)
      (reaped_zombie wait n v (record_of s n) refl passed)
      (Acts-without n (Acts-calling script s p w r i is calls))) reap) done) found) e

  pub keeps-report : (c v : ℤ) → posix_step script s (event.Report p c v) ≡ Some new → IsWellFormed script new
  unfolding posix_step
  keeps-report c v e =
      after_number (IsWellFormed script) script s new c _
      (λ n found. after_call (IsWellFormed script) script s new p (report_step s p v n)
      (λ r i is calls done. after_value (IsWellFormed script) (wait_of p r i) (report_by s p n v) new
      (λ wait from report. after_if (IsWellFormed script) (is_reported wait n v (record_of s n))
      (answered_both (change_record s n reported) p (pos n) v) new
      (λ _. IsWellFormed-results script (change_record s n reported) p (pos n) (Some v)
      (IsWellFormed-change script s n reported w (λ old there good. Keeps-reported script s.used n old good))
      (kept_at IsActing s p n reported (Acts-calling script s p w r i is calls)
      (λ r a. record { running = a.running; unsaved = a.unsaved }))) report) done) found) e
