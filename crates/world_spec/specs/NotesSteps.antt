-- The steps of another process, by their call, leave the record of a process as `LeavesNotes` says.
use Rattle.std.specs.Prelude.{◌≡◌, ◌≢◌, ℕ, ℤ, pos, ◌+◌, true, List, Option, Some, None, nat_le}
use Rattle.std.specs.FinSet as set
use Rattle.std.proofs.Common.{sym, ap, ◌∙◌, true≢false}
use Rattle.w32_base.specs.declared.event.Answer.{Answer}
use Rattle.w32_base.specs.declared.event.Delivery.{Delivery}
use Rattle.w32_base.specs.declared.event.ExecCause.{ExecCause}
use Rattle.w32_base.specs.declared.event.ForkCause.{ForkCause}
use Rattle.w32_base.specs.declared.event.NewAction.{NewAction}
use Rattle.w32_base.specs.declared.instr.Action.{Action}
use Rattle.w32_base.specs.declared.instr.Action.TheVariants as action
use Rattle.w32_base.specs.declared.instr.Instr.{Instr}
use Rattle.w32_base.specs.declared.instr.Instr.TheVariants as instr
use Rattle.script_spec.specs.declared.script.Script.{Script}
use Rattle.vm_spec.specs.Image.{value_of}
use Rattle.vm_spec.specs.Step.{address_of}
use Rattle.posix_spec.specs.Numbers.{for_value, answer_result}
use Rattle.posix_spec.specs.State.{Record, PosixState}
use Rattle.posix_spec.specs.Records.{with_record, without_record, change_record}
use Rattle.posix_spec.specs.Checks.{is_allowed, read_check, count_of}
use Rattle.posix_spec.specs.Conditions.{with_results}
use Rattle.posix_spec.specs.ForkSteps.{NumberedProgram, is_fresh, child_of, with_used, fork_step, fork_fail_step}
use Rattle.posix_spec.specs.ForkSteps.{exec_to, exec_step, exec_fail_step, program_named}
use Rattle.posix_spec.specs.GroupCalls.{killing_signal, kill_call, member_call, with_step}
use Rattle.posix_spec.specs.KillSteps.{Target, target_of, in_call_for, One, Group, Invalid, killed, kill_step}
use Rattle.posix_spec.specs.KillSteps.{member_by, member_step, group_done_by, group_done_step}
use Rattle.posix_spec.specs.Sending.{sent}
use Rattle.posix_spec.specs.SignalActs.{deliver_by}
use Rattle.posix_spec.specs.SignalCalls.{with_mask, acting, mask_step, action_step, suspend_step, return_step}
use Rattle.posix_spec.specs.Waits.{wait_of}
use Rattle.posix_spec.specs.WaitSteps.{look_by, find_nothing, find_no_child, reap_by, reported, report_by, look_step}
use Rattle.posix_spec.specs.WaitSteps.{nothing_step, reap_step, report_step, no_child_step}
use Rattle.posix_spec.specs.GroupSteps.{in_group, leading_session, setpgid_step, setsid_step}
use Rattle.posix_spec.specs.TerminalSteps.{with_foreground, with_flags, with_read, read_from, line_by, with_output}
use Rattle.posix_spec.specs.TerminalSteps.{tcset_step, flags_step, line_step, write_step}
use Rattle.posix_spec.specs.AnswerLaws.{after_none, after_some, after_if, after_test, after_value}
use Rattle.posix_spec.specs.SignalLaws.{second_of}
use Rattle.posix_spec.specs.CallLaws.{negation}
use Rattle.posix_spec.specs.WellFormed.{IsUsed}
use Rattle.world_spec.specs.NotesLaws.{LeavesNotes, benign_group, benign_reported, leaves_change, leaves_same}
use Rattle.world_spec.specs.NotesLaws.{leaves_sent, leaves_with, leaves_without}

-- process a takes the step, and p is another one, whose number was used
module _ (script : Script) (s : PosixState) (p : ℕ) (used : IsUsed s.used p) (a : ℕ) (other : a ≢ p)
    (new : PosixState) where
  abbrev L : PosixState → Type 0
  L = LeavesNotes s p

  start : L s
  start = leaves_same s p

  -- the acting process may change as it likes
  pub own : (t : PosixState) (f : Record → Record) → L t → L (change_record t a f)
  own t f h = leaves_change s p t h a f (λ same. absurd (other same))

  killed_leaves : (signal : Option ℕ) (target : Target) → L (killed s signal target)
  killed_leaves None target = start
  killed_leaves (Some n) (One q) = leaves_sent s p s start q n
  killed_leaves (Some n) Group = start
  killed_leaves (Some n) Invalid = start

  pub fork_leaves : (c : ℕ) (r : Record) (i : Instr) → fork_step script s a c r i ≡ Some new → L new
  fork_leaves c r instr.Fork e = after_if L _ _ new (λ passed.
      let fresh = second_of _ (is_fresh script s c) passed in
      let unused = negation (set.contains s.used c)
      (second_of (nat_le c (script.setup.limits.rows + 1)) _ (second_of (nat_le 2 c) _ fresh)) in
      own (with_used (with_record s c (child_of a r)) c) (with_results (pos c) None)
      (leaves_with s p s start c (child_of a r)
      (λ same. true≢false (sym used ∙ ap (set.contains s.used) (sym same) ∙ unused)))) e
  fork_leaves c r _ e = after_none L new e

  pub fork_fail_leaves : (cause : ForkCause) (r : Record) (i : Instr) → fork_fail_step s a cause r i ≡ Some new → L new
  fork_fail_leaves cause r instr.Fork e = after_if L _ _ new (λ _. own s _ start) e
  fork_fail_leaves cause r _ e = after_none L new e

  exec_to_leaves : (o : Option NumberedProgram) → exec_to s a o ≡ Some new → L new
  exec_to_leaves None e = after_none L new e
  exec_to_leaves (Some found) e = after_some L _ new (own s _ start) e

  pub exec_leaves : (name : List ℕ) (r : Record) (i : Instr) → exec_step script s a name r i ≡ Some new → L new
  exec_leaves name r (instr.Exec wanted) e = after_test L _ _ new
      (λ _ to. exec_to_leaves (program_named script name) to) e
  exec_leaves name r _ e = after_none L new e

  pub exec_fail_leaves : (cause : ExecCause) (r : Record) (i : Instr) → exec_fail_step script s a cause r i ≡ Some new
      → L new
  exec_fail_leaves cause r (instr.Exec name) e = after_if L _ _ new (λ _. own s _ start) e
  exec_fail_leaves cause r _ e = after_none L new e

  pub kill_leaves : (q signal : ℤ) (answer : Answer) (r : Record) (i : Instr)
      → kill_step s a q signal answer r i ≡ Some new → L new
  kill_leaves q signal answer r (instr.Kill target number) e =
      after_if L _ _ new (λ _. own (killed s (killing_signal signal) (target_of q))
      (with_results (answer_result answer) None) (killed_leaves (killing_signal signal) (target_of q))) e
  kill_leaves q signal answer r _ e = after_none L new e

  pub mask_leaves : (m : ℕ) (r : Record) (i : Instr) → mask_step s a m r i ≡ Some new → L new
  mask_leaves m r (instr.Mask how v) e =
      after_if L _ _ new (λ _. own (change_record s a (with_mask m)) _ (own s (with_mask m) start)) e
  mask_leaves m r _ e = after_none L new e

  pub action_leaves : (n : NewAction) (signal : ℕ) (r : Record) (i : Instr) → action_step s a n signal r i ≡ Some new
      → L new
  action_leaves n signal r (instr.Action v x) e =
      after_if L _ _ new (λ _. own (change_record s a (acting signal x)) _ (own s (acting signal x) start)) e
  action_leaves n signal r _ e = after_none L new e

  pub suspend_leaves : (m : ℕ) (r : Record) (i : Instr) → suspend_step s a m r i ≡ Some new → L new
  suspend_leaves m r (instr.Suspend v) e = after_if L _ _ new (λ _. own s _ start) e
  suspend_leaves m r _ e = after_none L new e

  pub return_leaves : (r : Record) (i : Instr) → return_step s a r i ≡ Some new → L new
  return_leaves r instr.Return e = after_some L _ new (own s _ start) e
  return_leaves r _ e = after_none L new e

  pub deliver_leaves : (signal : ℕ) (how : Delivery) (r : Record) (x : Action)
      → deliver_by script s a signal how r x ≡ Some new → L new
  deliver_leaves signal how r action.Default e = after_none L new e
  deliver_leaves signal how r action.Ignore e = after_none L new e
  deliver_leaves signal how r (action.Handler target restart) e = after_if L _ _ new (λ _. own s _ start) e

  pub setpgid_leaves : (q g : ℕ) (r : Record) (i : Instr) → setpgid_step s a q g r i ≡ Some new → L new
  setpgid_leaves q g r (instr.SetPgid process group) e =
      after_if L _ _ new (λ _. own (change_record s q (in_group g)) _
      (leaves_change s p s start q (in_group g) (λ _. benign_group g))) e
  setpgid_leaves q g r _ e = after_none L new e

  pub setsid_leaves : (r : Record) (i : Instr) → setsid_step s a r i ≡ Some new → L new
  setsid_leaves r instr.SetSid e =
      after_if L _ _ new (λ _. own (change_record s a (leading_session a)) _ (own s (leading_session a) start)) e
  setsid_leaves r _ e = after_none L new e

  pub tcset_leaves : (g : ℕ) (r : Record) (i : Instr) → tcset_step s a g r i ≡ Some new → L new
  tcset_leaves g r (instr.TcSet v) e = after_if L _ _ new (λ _. own (with_foreground s g) _ start) e
  tcset_leaves g r _ e = after_none L new e

  pub flags_leaves : (n : ℕ) (r : Record) (i : Instr) → flags_step s a n r i ≡ Some new → L new
  flags_leaves n r (instr.TtyFlags v) e = after_if L _ _ new (λ _. own (with_flags s n) _ start) e
  flags_leaves n r _ e = after_none L new e

  pub line_leaves : (n : ℤ) (bytes : List ℕ) (r : Record) (i : Instr) → line_step s a n bytes r i ≡ Some new → L new
  line_leaves n bytes r (instr.Read address count) e =
      after_test L (is_allowed (read_check s r))
      (for_value (read_from s.terminal (count_of (value_of r.image count)))
      (line_by s a n bytes (address_of (value_of r.image address)))) new
      (λ _ allowed. after_value L (read_from s.terminal (count_of (value_of r.image count)))
      (line_by s a n bytes (address_of (value_of r.image address))) new
      (λ taken _ by. after_if L _ _ new (λ _. own (record s { terminal = taken.terminal })
      (with_read (address_of (value_of r.image address)) taken.bytes) start) by) allowed) e
  line_leaves n bytes r _ e = after_none L new e

  pub write_leaves : (n : ℤ) (bytes : List ℕ) (r : Record) (i : Instr) → write_step s a n bytes r i ≡ Some new → L new
  write_leaves n bytes r (instr.Write address count) e = after_if L _ _ new (λ _. own (with_output s bytes) _ start) e
  write_leaves n bytes r _ e = after_none L new e

  pub look_leaves : (c : ℕ) (r : Record) (i : Instr) → look_step s a c r i ≡ Some new → L new
  look_leaves c r i e = after_value L (wait_of a r i) (look_by s a c) new
      (λ wait _ by. after_if L _ _ new (λ _. own s _ start) by) e

  pub nothing_leaves : (r : Record) (i : Instr) → nothing_step s a r i ≡ Some new → L new
  nothing_leaves r i e = after_value L (wait_of a r i) (find_nothing s a r) new
      (λ wait _ by. after_if L _ _ new (λ _. own s _ start) by) e

  pub no_child_leaves : (r : Record) (i : Instr) → no_child_step s a r i ≡ Some new → L new
  no_child_leaves r i e = after_value L (wait_of a r i) (find_no_child s a) new
      (λ wait _ by. after_if L _ _ new (λ _. own s _ start) by) e

  pub reap_leaves : (v : ℤ) (c : ℕ) (r : Record) (i : Instr) → reap_step s a v c r i ≡ Some new → L new
  reap_leaves v c r i e = after_value L (wait_of a r i) (reap_by s a c v) new
      (λ wait _ by. after_if L _ _ new (λ _. own (without_record s c) (with_results (pos c) (Some v))
      (leaves_without s p s start c)) by) e

  pub report_leaves : (v : ℤ) (c : ℕ) (r : Record) (i : Instr) → report_step s a v c r i ≡ Some new → L new
  report_leaves v c r i e = after_value L (wait_of a r i) (report_by s a c v) new
      (λ wait _ by. after_if L _ _ new (λ _. own (change_record s c reported) (with_results (pos c) (Some v))
      (leaves_change s p s start c reported (λ _. benign_reported))) by) e

  pub member_leaves : (q signal : ℕ) (r : Record) (i : Instr) → member_step s a q signal r i ≡ Some new → L new
  member_leaves q signal r i e = after_value L (member_call r i) (member_by s a q signal) new
      (λ call _ by. after_if L _ _ new (λ _. own (sent s q signal) (in_call_for (with_step call q))
      (leaves_sent s p s start q signal)) by) e

  pub group_done_leaves : (g signal : ℕ) (answer : Answer) (r : Record) (i : Instr)
      → group_done_step s a g signal answer r i ≡ Some new → L new
  group_done_leaves g signal answer r i e = after_value L (kill_call r i) (group_done_by s a g signal answer) new
      (λ call _ by. after_if L _ _ new (λ _. own s _ start) by) e
