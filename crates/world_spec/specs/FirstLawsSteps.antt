-- What a call does leaves the status that is kept of the first process's death, and whether the host has read its code.
use Rattle.std.specs.Prelude.{◌≡◌, ℕ, ℤ, pos, Bool, List, Option, Some, None}
use Rattle.w32_base.specs.declared.event.Answer.{Answer}
use Rattle.w32_base.specs.declared.event.Delivery.{Delivery}
use Rattle.w32_base.specs.declared.event.NewAction.{NewAction}
use Rattle.w32_base.specs.declared.event.ForkCause.{ForkCause}
use Rattle.w32_base.specs.declared.event.ExecCause.{ExecCause}
use Rattle.w32_base.specs.declared.instr.Action.{Action}
use Rattle.w32_base.specs.declared.instr.Action.TheVariants as action
use Rattle.w32_base.specs.declared.instr.Instr.{Instr}
use Rattle.w32_base.specs.declared.instr.Instr.TheVariants as instr
use Rattle.script_spec.specs.declared.script.Script.{Script}
use Rattle.vm_spec.specs.Image.{value_of}
use Rattle.vm_spec.specs.Step.{address_of}
use Rattle.posix_spec.specs.Numbers.{for_value, answer_result}
use Rattle.posix_spec.specs.State.{Record, PosixState, record_of}
use Rattle.posix_spec.specs.Records.{with_record, without_record, changed_at, change_record}
use Rattle.posix_spec.specs.Checks.{is_allowed, read_check, count_of}
use Rattle.posix_spec.specs.Conditions.{with_results, answered}
use Rattle.posix_spec.specs.Sending.{owed_more, generated, sent}
use Rattle.posix_spec.specs.ForkSteps.{NumberedProgram, child_of, with_used, fork_step, fork_fail_step}
use Rattle.posix_spec.specs.ForkSteps.{exec_to, exec_step, exec_fail_step, program_named}
use Rattle.posix_spec.specs.GroupCalls.{killing_signal, kill_call, member_call, is_next_member, with_step, ends_with}
use Rattle.posix_spec.specs.KillSteps.{Target, target_of, in_call_for, One, Group, Invalid, killed, kill_step}
use Rattle.posix_spec.specs.KillSteps.{member_by, member_step, group_done_by, group_done_step}
use Rattle.posix_spec.specs.SignalActs.{deliver_by}
use Rattle.posix_spec.specs.SignalCalls.{with_mask, acting, mask_step, action_step, suspend_step, return_step}
use Rattle.posix_spec.specs.Waits.{wait_of}
use Rattle.posix_spec.specs.WaitSteps.{look_by, find_nothing, find_no_child, reap_by, reported, report_by, look_step}
use Rattle.posix_spec.specs.WaitSteps.{nothing_step, reap_step, report_step, no_child_step}
use Rattle.posix_spec.specs.GroupSteps.{in_group, leading_session, setpgid_step, setsid_step}
use Rattle.posix_spec.specs.TerminalSteps.{with_foreground, with_flags, with_read, read_from, line_by, with_output}
use Rattle.posix_spec.specs.TerminalSteps.{tcset_step, flags_step, line_step, write_step}
use Rattle.posix_spec.specs.ConsoleSteps.{with_console, console_member_by, console_done_by, console_member_step}
use Rattle.posix_spec.specs.ConsoleSteps.{console_done_step}
use Rattle.posix_spec.specs.AnswerLaws.{after_none, after_some, after_if, after_test, after_value}
use Rattle.posix_spec.specs.SentLaws.{owed_for_kept}

-- what is said of the status that is kept of the first process's death, and of whether the host has read its code
abbrev pub OfFirst : (Option ℕ → Bool → Type 0) → PosixState → Type 0
OfFirst R t = R t.first_status t.host_came

-- a change of a process leaves both
pub first_change : (R : Option ℕ → Bool → Type 0) (t : PosixState) (q : ℕ) (f : Record → Record) → OfFirst R t
    → OfFirst R (change_record t q f)
first_change R t q f h = by_record (record_of t q)
  where
    by_record : (o : Option Record) → OfFirst R (changed_at t q f o)
    by_record None = h
    by_record (Some r) = h

module _ (script : Script) (R : Option ℕ → Bool → Type 0) (s new : PosixState) (h : OfFirst R s) where
  abbrev P : PosixState → Type 0
  P = OfFirst R

  change : (t : PosixState) (q : ℕ) (f : Record → Record) → P t → P (change_record t q f)
  change = first_change R

  sent_keeps : (q n : ℕ) → P (sent s q n)
  sent_keeps q n =
      let after = change s q (generated n) h in
      owed_for_kept P n (record_of s q) (change_record s q (generated n)) after
      (λ parent. change (change_record s q (generated n)) parent owed_more after)

  killed_keeps : (signal : Option ℕ) (target : Target) → P (killed s signal target)
  killed_keeps None target = h
  killed_keeps (Some n) (One q) = sent_keeps q n
  killed_keeps (Some n) Group = h
  killed_keeps (Some n) Invalid = h

  -- ---- steps by their call

  pub fork_keeps : (p c : ℕ) (r : Record) (i : Instr) → fork_step script s p c r i ≡ Some new → P new
  fork_keeps p c r instr.Fork e = after_if P _ _ new
      (λ passed. change (with_used (with_record s c (child_of p r)) c) p (with_results (pos c) None)
      h) e
  fork_keeps p c r _ e = after_none P new e

  pub fork_fail_keeps : (p : ℕ) (cause : ForkCause) (r : Record) (i : Instr) → fork_fail_step s p cause r i ≡ Some
      new → P new
  fork_fail_keeps p cause r instr.Fork e = after_if P _ _ new (λ _. change s p _ h) e
  fork_fail_keeps p cause r _ e = after_none P new e

  exec_to_keeps : (p : ℕ) (o : Option NumberedProgram) → exec_to s p o ≡ Some new → P new
  exec_to_keeps p None e = after_none P new e
  exec_to_keeps p (Some found) e = after_some P _ new (change s p _ h) e

  pub exec_keeps : (p : ℕ) (name : List ℕ) (r : Record) (i : Instr) → exec_step script s p name r i ≡ Some new → P new
  exec_keeps p name r (instr.Exec wanted) e = after_test P _ _ new
      (λ _ to. exec_to_keeps p (program_named script name) to) e
  exec_keeps p name r _ e = after_none P new e

  pub exec_fail_keeps : (p : ℕ) (cause : ExecCause) (r : Record) (i : Instr) → exec_fail_step script s p cause r
      i ≡ Some new → P new
  exec_fail_keeps p cause r (instr.Exec name) e = after_if P _ _ new (λ _. change s p _ h) e
  exec_fail_keeps p cause r _ e = after_none P new e

  pub kill_keeps : (p : ℕ) (q signal : ℤ) (answer : Answer) (r : Record) (i : Instr) → kill_step s p q signal answer r
      i ≡ Some new → P new
  kill_keeps p q signal answer r (instr.Kill target number) e =
      after_if P _ (answered (killed s (killing_signal signal) (target_of q)) p (answer_result answer)) new
      (λ _. change (killed s (killing_signal signal) (target_of q)) p (with_results (answer_result answer) None)
      (killed_keeps (killing_signal signal) (target_of q))) e
  kill_keeps p q signal answer r _ e = after_none P new e

  pub mask_keeps : (p m : ℕ) (r : Record) (i : Instr) → mask_step s p m r i ≡ Some new → P new
  mask_keeps p m r (instr.Mask how v) e =
      after_if P _ _ new (λ _. change (change_record s p (with_mask m)) p (with_results (pos r.mask) None)
      (change s p (with_mask m) h)) e
  mask_keeps p m r _ e = after_none P new e

  pub action_keeps : (p : ℕ) (n : NewAction) (signal : ℕ) (r : Record) (i : Instr) → action_step s p n signal r
      i ≡ Some new → P new
  action_keeps p n signal r (instr.Action v a) e =
      after_if P _ _ new (λ _. change (change_record s p (acting signal a)) p (with_results (pos 0) None)
      (change s p (acting signal a) h)) e
  action_keeps p n signal r _ e = after_none P new e

  pub suspend_keeps : (p m : ℕ) (r : Record) (i : Instr) → suspend_step s p m r i ≡ Some new → P new
  suspend_keeps p m r (instr.Suspend v) e = after_if P _ _ new (λ _. change s p _ h) e
  suspend_keeps p m r _ e = after_none P new e

  pub return_keeps : (p : ℕ) (r : Record) (i : Instr) → return_step s p r i ≡ Some new → P new
  return_keeps p r instr.Return e = after_some P _ new (change s p _ h) e
  return_keeps p r _ e = after_none P new e

  pub deliver_keeps : (p signal : ℕ) (how : Delivery) (r : Record) (a : Action) → deliver_by script s p signal how r
      a ≡ Some new → P new
  deliver_keeps p signal how r action.Default e = after_none P new e
  deliver_keeps p signal how r action.Ignore e = after_none P new e
  deliver_keeps p signal how r (action.Handler target restart) e = after_if P _ _ new (λ _. change s p _ h) e

  pub setpgid_keeps : (p q g : ℕ) (r : Record) (i : Instr) → setpgid_step s p q g r i ≡ Some new → P new
  setpgid_keeps p q g r (instr.SetPgid process group) e =
      after_if P _ _ new (λ _. change (change_record s q (in_group g)) p (with_results (pos 0) None)
      (change s q (in_group g) h)) e
  setpgid_keeps p q g r _ e = after_none P new e

  pub setsid_keeps : (p : ℕ) (r : Record) (i : Instr) → setsid_step s p r i ≡ Some new → P new
  setsid_keeps p r instr.SetSid e =
      after_if P _ _ new (λ _. change (change_record s p (leading_session p)) p (with_results (pos p) None)
      (change s p (leading_session p) h)) e
  setsid_keeps p r _ e = after_none P new e

  pub tcset_keeps : (p g : ℕ) (r : Record) (i : Instr) → tcset_step s p g r i ≡ Some new → P new
  tcset_keeps p g r (instr.TcSet v) e =
      after_if P _ _ new (λ _. change (with_foreground s g) p (with_results (pos 0) None)
      h) e
  tcset_keeps p g r _ e = after_none P new e

  pub flags_keeps : (p n : ℕ) (r : Record) (i : Instr) → flags_step s p n r i ≡ Some new → P new
  flags_keeps p n r (instr.TtyFlags v) e =
      after_if P _ _ new (λ _. change (with_flags s n) p (with_results (pos 0) None)
      h) e
  flags_keeps p n r _ e = after_none P new e

  pub line_keeps : (p : ℕ) (n : ℤ) (bytes : List ℕ) (r : Record) (i : Instr) → line_step s p n bytes r i ≡ Some new →
      P new
  line_keeps p n bytes r (instr.Read address count) e =
      after_test P (is_allowed (read_check s r))
      (for_value (read_from s.terminal (count_of (value_of r.image count)))
      (line_by s p n bytes (address_of (value_of r.image address)))) new
      (λ _ allowed. after_value P (read_from s.terminal (count_of (value_of r.image count)))
      (line_by s p n bytes (address_of (value_of r.image address))) new
      (λ taken _ by. after_if P _ _ new (λ _. change (record s { terminal = taken.terminal }) p
      (with_read (address_of (value_of r.image address)) taken.bytes)
      h) by) allowed) e
  line_keeps p n bytes r _ e = after_none P new e

  pub write_keeps : (p : ℕ) (n : ℤ) (bytes : List ℕ) (r : Record) (i : Instr) → write_step s p n bytes r i ≡ Some
      new → P new
  write_keeps p n bytes r (instr.Write address count) e =
      after_if P _ _ new (λ _. change (with_output s bytes) p (with_results n None)
      h) e
  write_keeps p n bytes r _ e = after_none P new e

  -- ---- every step

  pub looks : (p c : ℕ) (r : Record) (i : Instr) → look_step s p c r i ≡ Some new → P new
  looks p c r i e = after_value P (wait_of p r i) (look_by s p c) new
      (λ wait _ by. after_if P _ _ new (λ _. change s p _ h) by) e

  pub finds_nothing : (p : ℕ) (r : Record) (i : Instr) → nothing_step s p r i ≡ Some new → P new
  finds_nothing p r i e = after_value P (wait_of p r i) (find_nothing s p r) new
      (λ wait _ by. after_if P _ _ new (λ _. change s p _ h) by) e

  pub finds_no_child : (p : ℕ) (r : Record) (i : Instr) → no_child_step s p r i ≡ Some new → P new
  finds_no_child p r i e = after_value P (wait_of p r i) (find_no_child s p) new
      (λ wait _ by. after_if P _ _ new (λ _. change s p _ h) by) e

  pub reaps : (p : ℕ) (v : ℤ) (c : ℕ) (r : Record) (i : Instr) → reap_step s p v c r i ≡ Some new → P new
  reaps p v c r i e =
      after_value P (wait_of p r i) (reap_by s p c v) new
      (λ wait _ by. after_if P _ _ new (λ _. change (without_record s c) p (with_results (pos c) (Some v))
      h) by) e

  pub reports : (p : ℕ) (v : ℤ) (c : ℕ) (r : Record) (i : Instr) → report_step s p v c r i ≡ Some new → P new
  reports p v c r i e =
      after_value P (wait_of p r i) (report_by s p c v) new
      (λ wait _ by. after_if P _ _ new (λ _. change (change_record s c reported) p (with_results (pos c) (Some v))
      (change s c reported h)) by) e

  pub members_step : (p q signal : ℕ) (r : Record) (i : Instr) → member_step s p q signal r i ≡ Some new → P new
  members_step p q signal r i e =
      after_value P (member_call r i) (member_by s p q signal) new
      (λ call _ by. after_if P _ _ new (λ _. change (sent s q signal) p (in_call_for (with_step call q))
      (sent_keeps q signal)) by) e

  pub console_step : (q signal : ℕ) → console_member_step s q signal ≡ Some new → P new
  console_step q signal e =
      after_value P s.console (console_member_by s q signal) new
      (λ call _ by. after_if P (is_next_member s call q signal)
      (with_console (sent s q signal) (Some (with_step call q))) new
      (λ _. (sent_keeps q signal)) by) e

  pub group_ends : (p g signal : ℕ) (answer : Answer) (r : Record) (i : Instr) → group_done_step s p g signal answer r
      i ≡ Some new → P new
  group_ends p g signal answer r i e =
      after_value P (kill_call r i) (group_done_by s p g signal answer) new
      (λ call _ by. after_if P _ _ new (λ _. change s p _ h) by) e

  pub console_ends : (g signal : ℕ) (answer : Answer) → console_done_step s g signal answer ≡ Some new → P new
  console_ends g signal answer e =
      after_value P s.console (console_done_by s g signal answer) new
      (λ call _ by. after_if P (ends_with s call g signal answer) (with_console s None) new
      (λ _. h) by) e
