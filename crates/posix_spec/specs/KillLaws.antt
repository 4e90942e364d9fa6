-- Signals that are sent to a process or to a group keep a state well formed.
use Rattle.std.specs.Prelude.{◌≡◌, ℕ, ◌+◌, ℤ, Bool, true, false, ◌&&◌, nat_eq, if◌then◌else◌, Option, Some, None}
use Rattle.std.specs.Option.{unwrap_or}
use Rattle.std.proofs.Common.{refl, sym, ap, subst, ◌∙◌, arith, true≢false}
use Rattle.std.proofs.lemmas.Bool.{cond_both}
use Rattle.w32_base.specs.declared.event.Answer.{Answer}
use Rattle.w32_base.specs.declared.event.Event.TheVariants as event
use Rattle.w32_base.specs.declared.instr.Instr.{Instr}
use Rattle.w32_base.specs.declared.instr.Instr.TheVariants as instr
use Rattle.script_spec.specs.declared.script.Script.{Script}
use Rattle.vm_spec.specs.Image.{value_of}
use Rattle.vm_spec.specs.Step.{CallInstruction}
use Rattle.posix_spec.specs.Numbers.{is_same_number, answer_result}
use Rattle.posix_spec.specs.State.{Life, Running, Stopped, Zombie, Numbers, GroupCall, Record, PosixState, record_of}
use Rattle.posix_spec.specs.Pending.{is_running, is_live, has_deliverable}
use Rattle.posix_spec.specs.Records.{settled, change_record}
use Rattle.posix_spec.specs.Conditions.{next_of, for_group_step, answered}
use Rattle.posix_spec.specs.Sending.{generated_by_life, generated, owed_more, sent}
use Rattle.posix_spec.specs.GroupCalls.{killing_signal, kill_call, member_call, is_next_member, with_step, ends_with}
use Rattle.posix_spec.specs.KillSteps.{Target, One, Group, Invalid, target_of, kill_answer, is_answer, killed}
use Rattle.posix_spec.specs.KillSteps.{kill_step, in_call_for, member_by, member_step, group_done_by, group_done_step}
use Rattle.posix_spec.specs.ConsoleSteps.{with_console, console_member_by, console_member_step, console_done_by}
use Rattle.posix_spec.specs.ConsoleSteps.{console_done_step}
use Rattle.posix_spec.specs.Step.{member_of, group_done_of, posix_step}
use Rattle.posix_spec.specs.RecordLaws.{same_record}
use Rattle.posix_spec.specs.WellFormed.{IsGroupCall, IsWellFormedRecord, IsWellFormed, is_group_next, is_suspend_next}
use Rattle.posix_spec.specs.KeepLaws.{Keeps, IsWellFormed-change}
use Rattle.posix_spec.specs.CallLaws.{IsStepping, none_some, group_no_wait, same_group_call, running_not_zombie}
use Rattle.posix_spec.specs.AnswerLaws.{after_none, after_if, after_value, kept_at, Acts, IsWellFormed-results}
use Rattle.posix_spec.specs.SentLaws.{owed_for_kept, IsWellFormed-sent, Acts-sent, Acts-calling, Acts-stepping}
use Rattle.posix_spec.specs.SentLaws.{after_call, after_group_step, after_numbers}
use Rattle.posix_spec.specs.GroupCallLaws.{used-sent, member_part, IsPartCall}
use Rattle.posix_spec.specs.StateLaws.{IsWellFormed-console, IsGroupCall-with_step}

-- ---- a process within a call for a group

pub record IsInStep (script : Script) (r : Record) : Type 0 where
  pub running : is_running r.life ≡ true
  pub not_due : r.due ≡ false
  pub next : is_group_next (next_of script r) ≡ true

not_due_still : (due b : Bool) → due ≡ false → (due && b) ≡ false
not_due_still true b e = absurd (true≢false e)
not_due_still false b e = refl

module _ (script : Script) where
  in_step_settled : (r : Record) → IsInStep script r → IsInStep script (settled r)
  in_step_settled r h =
      record { running = h.running; not_due = not_due_still r.due (has_deliverable r) h.not_due; next = h.next }

  in_step_by : (life : Life) (signal : ℕ) (r : Record) → r.life ≡ life → IsInStep script r → IsInStep script
      (generated_by_life life signal r)
  in_step_by Running signal r is h = record { running = h.running; not_due = h.not_due; next = h.next }
  in_step_by (Stopped t) signal r is h = absurd (true≢false (sym h.running ∙ ap is_running is))
  in_step_by (Zombie v) signal r is h = h

  in_step_generated : (signal : ℕ) (r : Record) → IsInStep script r → IsInStep script (settled (generated signal r))
  in_step_generated signal r h =
      in_step_settled (generated signal r)
      (cond_both (nat_eq signal 0) r (generated_by_life r.life signal r) (IsInStep script) (λ _. h)
      (λ _. in_step_by r.life signal r refl h))

  in_step_owed : (r : Record) → IsInStep script r → IsInStep script (settled (owed_more r))
  in_step_owed r h =
      in_step_settled (owed_more r)
      (cond_both (is_live r.life) (record r { owed = r.owed + 1 }) r (IsInStep script)
      (λ _. record { running = h.running; not_due = h.not_due; next = h.next }) (λ _. h))

  in_step_sent : (s : PosixState) (p q n : ℕ) → ((r : Record) → record_of s p ≡ Some r → IsInStep script r) →
      (r : Record) → record_of (sent s q n) p ≡ Some r → IsInStep script r
  in_step_sent s p q n h =
      let after = kept_at (IsInStep script) s p q (generated n) h (λ r k. in_step_generated n r k) in
      owed_for_kept (λ t. (r : Record) → record_of t p ≡ Some r → IsInStep script r) n (record_of s q)
      (change_record s q (generated n)) after
      (λ parent. kept_at (IsInStep script) (change_record s q (generated n)) p parent owed_more after in_step_owed)

  pub Keeps-in_call_for : (used : Numbers) (p : ℕ) (call : GroupCall) (r : Record) → IsWellFormedRecord script used p
      r → IsInStep script r → IsGroupCall used call →
      Keeps script used p r (in_call_for call r)
  Keeps-in_call_for used p call r w h g = record {
    sound = record {
      numbers = w.numbers;
      lives = w.lives;
      notes = λ dead. absurd (running_not_zombie r.life h.running dead);
      signals = record {
        pending_signals = w.signals.pending_signals;
        lost_signals = omega arith;
        is_mask = w.signals.is_mask;
        saved_mask = w.signals.saved_mask;
        action_count = w.signals.action_count;
        kill_action = w.signals.kill_action;
        stop_action = w.signals.stop_action;
      };
      runs = w.runs;
      calls = record {
        may_block = w.calls.may_block;
        suspended = w.calls.suspended;
        wait_call = λ numbers is. absurd (group_no_wait call numbers is);
        group_call = λ c is.
            record {
              is_next = h.next;
              not_due = h.not_due;
              steps = subst (IsGroupCall used) (same_group_call call c is) g;
            };
      };
    };
    place = record { parent = refl; group = refl; session = refl; death = refl };
  }

-- a test between two steps
pub either_kept : {P : Type 0} {new : PosixState} (b : Bool) (x y : Option PosixState) →
    (if b then x else y) ≡ Some new →
    (x ≡ Some new → P) → (y ≡ Some new → P) → P
either_kept true x y e left right = left e
either_kept false x y e left right = right e

module _ (script : Script) (s new : PosixState) (p : ℕ) (w : IsWellFormed script s) where
  -- ---- kill

  killed_kept : (P : PosixState → Type 0) (signal : Option ℕ) (target : Target) → P s → ((q n : ℕ) → P (sent s q n)) →
      P (killed s signal target)
  killed_kept P None target h more = h
  killed_kept P (Some n) (One q) h more = more q n
  killed_kept P (Some n) Group h more = h
  killed_kept P (Some n) Invalid h more = h

  kills : (q signal : ℤ) (answer : Answer) (r : Record) (i : Instr) → Acts s p → kill_step s p q signal answer r
      i ≡ Some new → IsWellFormed script new
  kills q signal answer r (instr.Kill target number) acts found =
      after_if (IsWellFormed script) (is_same_number q
      (value_of r.image target) && (is_same_number signal (value_of r.image number)
      && is_answer (kill_answer s (killing_signal signal) (target_of q)) answer))
      (answered (killed s (killing_signal signal) (target_of q)) p (answer_result answer)) new
      (λ _. IsWellFormed-results script (killed s (killing_signal signal) (target_of q)) p (answer_result answer) None
      (killed_kept (IsWellFormed script) (killing_signal signal) (target_of q) w
      (λ q n. IsWellFormed-sent script s q n w))
      (killed_kept (λ t. Acts t p) (killing_signal signal) (target_of q) acts (λ q n. Acts-sent s p q n acts))) found
  kills q signal answer r _ acts found = after_none (IsWellFormed script) new found

  pub keeps-kill : (q signal : ℤ) (answer : Answer) → posix_step script s (event.Kill p q signal answer) ≡ Some new →
      IsWellFormed script new
  unfolding posix_step
  keeps-kill q signal answer e =
      after_call (IsWellFormed script) script s new p (kill_step s p q signal answer)
      (λ r i is c done. kills q signal answer r i (Acts-calling script s p w r i is c) done) e

  -- ---- a member's step of a process's call

  stepping : (q : ℕ) (r : Record) (i : Instr) → record_of s p ≡ Some r → IsStepping script r i → is_group_next
      (CallInstruction i) ≡ true →
      (n : ℕ) → (other : Record) → record_of (sent s q n) p ≡ Some other → IsInStep script other
  stepping q r i is c group n =
      in_step_sent script s p q n
      (λ other there. subst (IsInStep script) (same_record r other (sym is ∙ there))
      (record { running = c.running; not_due = c.not_due; next = ap is_group_next c.next ∙ group }))

  member_done : (q signal : ℕ) (r : Record) (i : Instr) (call : GroupCall) → record_of s p ≡ Some r → IsStepping
      script r i → member_call r i ≡ Some call →
      member_by s p q signal call ≡ Some new → IsWellFormed script new
  member_done q signal r i call is c from found =
      after_if (IsWellFormed script) (is_next_member s call q signal)
      (change_record (sent s q signal) p (in_call_for (with_step call q))) new
      (λ passed.
      let part = member_part script s.used p r (w.each p r is) i call from in
      let whole = IsGroupCall-with_step script s w call q signal passed part.1 in
      IsWellFormed-change script (sent s q signal) p (in_call_for (with_step call q))
      (IsWellFormed-sent script s q signal w)
      (λ old there good. Keeps-in_call_for script (sent s q signal).used p (with_step call q) old good
      (stepping q r i is c part.0 signal old there)
      (subst (λ u. IsGroupCall u (with_step call q)) (sym (used-sent s q signal)) whole))) found

  -- ---- the console's call

  console_part : (call : GroupCall) → s.console ≡ Some call → IsPartCall s.used call
  console_part call is = let g = w.console_call call is in record { signal = g.signal; members = g.members }

  console_member : (q signal : ℕ) → console_member_step s q signal ≡ Some new → IsWellFormed script new
  console_member q signal e =
      after_value (IsWellFormed script) s.console (console_member_by s q signal) new
      (λ call is found. after_if (IsWellFormed script) (is_next_member s call q signal)
      (with_console (sent s q signal) (Some (with_step call q))) new
      (λ passed.
      let whole = IsGroupCall-with_step script s w call q signal passed (console_part call is) in
      IsWellFormed-console script (sent s q signal) (IsWellFormed-sent script s q signal w) (Some (with_step call q))
      (λ c same. subst (IsGroupCall (sent s q signal).used) (ap (λ o. unwrap_or o (with_step call q)) same)
      (subst (λ u. IsGroupCall u (with_step call q)) (sym (used-sent s q signal)) whole))) found) e

  console_done : (g signal : ℕ) (answer : Answer) → console_done_step s g signal answer ≡ Some new → IsWellFormed
      script new
  console_done g signal answer e =
      after_value (IsWellFormed script) s.console (console_done_by s g signal answer) new
      (λ call is found. after_if (IsWellFormed script) (ends_with s call g signal answer) (with_console s None) new
      (λ _. IsWellFormed-console script s w None (λ c same. absurd (none_some c same))) found) e

  pub keeps-member : (q signal : ℤ) → posix_step script s (event.Member p q signal) ≡ Some new → IsWellFormed script new
  unfolding posix_step
  keeps-member q signal e =
      after_numbers (IsWellFormed script) script s new q signal (member_of script s p)
      (λ m n found. either_kept (nat_eq p 0) (console_member_step s m n)
      (for_group_step script s p (member_step s p m n)) found (console_member m n)
      (λ step. after_group_step (IsWellFormed script) script s new p (member_step s p m n)
      (λ r i is c done. after_value (IsWellFormed script) (member_call r i) (member_by s p m n) new
      (λ call from by. member_done m n r i call is c from by) done) step)) e

  -- ---- the end of a call for a group

  kill_not_suspend : (r : Record) (i : Instr) (call : GroupCall) → kill_call r i ≡ Some call → is_suspend_next
      (CallInstruction i) ≡ false
  kill_not_suspend r (instr.Kill target signal) call e = refl
  kill_not_suspend r _ call e = absurd (none_some call e)

  pub keeps-group_done : (g signal : ℤ) (answer : Answer) → posix_step script s
      (event.GroupDone p g signal answer) ≡ Some new → IsWellFormed script new
  unfolding posix_step
  keeps-group_done g signal answer e =
      after_numbers (IsWellFormed script) script s new g signal (group_done_of script s p answer)
      (λ m n found. either_kept (nat_eq p 0) (console_done_step s m n answer)
      (for_group_step script s p (group_done_step s p m n answer)) found (console_done m n answer)
      (λ step. after_group_step (IsWellFormed script) script s new p (group_done_step s p m n answer)
      (λ r i is c done. after_value (IsWellFormed script) (kill_call r i) (group_done_by s p m n answer) new
      (λ call from by. after_if (IsWellFormed script) (ends_with s call m n answer)
      (answered s p (answer_result answer)) new
      (λ _. IsWellFormed-results script s p (answer_result answer) None w
      (Acts-stepping script s p w r i is c (kill_not_suspend r i call from))) by) done) step)) e
