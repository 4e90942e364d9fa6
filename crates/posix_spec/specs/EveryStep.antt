-- Each step of the machine keeps what changes of processes, removals, new processes and changes of the other parts
-- keep.
use Rattle.std.specs.Prelude.{true, ◌&&◌, not, nat_eq, is_none, List, [], ◌∷◌, ◌++◌}
use Rattle.std.proofs.Common.{sym, subst}
use Rattle.w32_base.specs.declared.event.Event.{Event}
use Rattle.w32_base.specs.declared.event.Event.TheVariants as event
use Rattle.script_spec.specs.declared.script.Script.{Script}
use Rattle.vm_spec.specs.Block.{block_length}
use Rattle.tty_spec.specs.Discipline.{after_key}
use Rattle.posix_spec.specs.State.{PosixState}
use Rattle.posix_spec.specs.Records.{change_record}
use Rattle.posix_spec.specs.Pending.{action_of}
use Rattle.posix_spec.specs.Checks.{sent_first}
use Rattle.posix_spec.specs.Conditions.{code_of, may_act, is_group_call, call_ended, for_group_step}
use Rattle.posix_spec.specs.Sending.{owed_more}
use Rattle.posix_spec.specs.ForkSteps.{fork_step, fork_fail_step, exec_step, exec_fail_step}
use Rattle.posix_spec.specs.GroupCalls.{begun, background_call}
use Rattle.posix_spec.specs.KillSteps.{in_call_for, kill_step, member_step, group_done_step}
use Rattle.posix_spec.specs.OwnSteps.{run_block_step, run_step, get_step}
use Rattle.posix_spec.specs.SignalActs.{is_deliverable, stopped, deliver_by, deliver_step, discard_step, stop_step}
use Rattle.posix_spec.specs.SignalActs.{notify_step}
use Rattle.posix_spec.specs.SignalCalls.{mask_step, action_step, suspend_step, return_step}
use Rattle.posix_spec.specs.WaitSteps.{look_step, block_step, nothing_step, reap_step, report_step, no_child_step}
use Rattle.posix_spec.specs.DeathSteps.{dead, with_status, died, die_step, collect_step, is_host_code}
use Rattle.posix_spec.specs.GroupSteps.{setpgid_step, setsid_step}
use Rattle.posix_spec.specs.TerminalSteps.{tcset_step, flags_step, line_step, write_step, background_by}
use Rattle.posix_spec.specs.TerminalSteps.{background_step, background_done_by, background_done_step}
use Rattle.posix_spec.specs.Refusals.{check_of, refuse_step}
use Rattle.posix_spec.specs.ConsoleSteps.{call_for, with_key, console_member_step, console_done_step}
use Rattle.posix_spec.specs.Step.{member_of, group_done_of, posix_step}
use Rattle.posix_spec.specs.Run.{PosixStep, PosixRun}
use Rattle.posix_spec.specs.AnswerLaws.{after_if, after_test, after_value}
use Rattle.posix_spec.specs.KillLaws.{either_kept}
use Rattle.posix_spec.specs.SentLaws.{after_process, after_call, after_group_step, after_number, after_numbers}
use Rattle.posix_spec.specs.ShapeLaws as shape
use Rattle.posix_spec.specs.ShapeLaws.{KeepsShapes}

module _ (script : Script) (P : PosixState → Type 0) (k : KeepsShapes script P) where
  pub each_step_keeps : (s : PosixState) (e : Event) (new : PosixState) → P s → PosixStep script s e new → P new
  unfolding posix_step
  each_step_keeps s (event.Run p n) new h e =
      after_process P script s new p (run_step script s p n) (λ r _ done.
      after_test P (may_act script r) (run_block_step script s p n (block_length (code_of script r.image) r.image))
      new
      (λ _ block. after_if P _ _ new (λ _. k.change s p _ h) block) done) e
  each_step_keeps s (event.Get p field v) new h e =
      after_call P script s new p (get_step s p field v)
      (λ r i _ _ done. after_if P _ _ new (λ _. k.change s p _ h) done) e
  each_step_keeps s (event.Fork p c) new h e =
      after_number P script s new c _ (λ n found.
      after_call P script s new p (fork_step script s p n)
      (λ r i _ _ done. shape.fork_keeps script P k s new h p n r i done) found) e
  each_step_keeps s (event.ForkFail p cause) new h e =
      after_call P script s new p (fork_fail_step s p cause)
      (λ r i _ _ done. shape.fork_fail_keeps script P k s new h p cause r i done) e
  each_step_keeps s (event.Exec p name) new h e =
      after_call P script s new p (exec_step script s p name)
      (λ r i _ _ done. shape.exec_keeps script P k s new h p name r i done) e
  each_step_keeps s (event.ExecFail p cause) new h e =
      after_call P script s new p (exec_fail_step script s p cause)
      (λ r i _ _ done. shape.exec_fail_keeps script P k s new h p cause r i done) e
  each_step_keeps s (event.Kill p q signal answer) new h e =
      after_call P script s new p (kill_step s p q signal answer)
      (λ r i _ _ done. shape.kill_keeps script P k s new h p q signal answer r i done) e
  each_step_keeps s (event.Member p q signal) new h e =
      after_numbers P script s new q signal (member_of script s p) (λ m n found.
      either_kept (nat_eq p 0) (console_member_step s m n) (for_group_step script s p (member_step s p m n)) found
      (shape.console_step script P k s new h m n)
      (λ step. after_group_step P script s new p (member_step s p m n)
      (λ r i _ _ done. shape.members_step script P k s new h p m n r i done) step)) e
  each_step_keeps s (event.GroupDone p g signal answer) new h e =
      after_numbers P script s new g signal (group_done_of script s p answer) (λ m n found.
      either_kept (nat_eq p 0) (console_done_step s m n answer)
      (for_group_step script s p (group_done_step s p m n answer)) found
      (shape.console_ends script P k s new h m n answer)
      (λ step. after_group_step P script s new p (group_done_step s p m n answer)
      (λ r i _ _ done. shape.group_ends script P k s new h p m n answer r i done) step)) e
  each_step_keeps s (event.Look p c) new h e =
      after_number P script s new c _ (λ n found.
      after_call P script s new p (look_step s p n) (λ r i _ _ done. shape.looks script P k s new h p n r i done)
      found) e
  each_step_keeps s (event.Block p) new h e =
      after_call P script s new p (block_step s p) (λ r i _ _ done. after_if P _ _ new (λ _. k.change s p _ h) done) e
  each_step_keeps s (event.Nothing p) new h e =
      after_call P script s new p (nothing_step s p)
      (λ r i _ _ done. shape.finds_nothing script P k s new h p r i done) e
  each_step_keeps s (event.Reap p c v) new h e =
      after_number P script s new c _ (λ n found.
      after_call P script s new p (reap_step s p v n)
      (λ r i _ _ done. shape.reaps script P k s new h p v n r i done) found) e
  each_step_keeps s (event.Report p c v) new h e =
      after_number P script s new c _ (λ n found.
      after_call P script s new p (report_step s p v n)
      (λ r i _ _ done. shape.reports script P k s new h p v n r i done) found) e
  each_step_keeps s (event.NoChild p) new h e =
      after_call P script s new p (no_child_step s p)
      (λ r i _ _ done. shape.finds_no_child script P k s new h p r i done) e
  each_step_keeps s (event.Refuse p error) new h e =
      after_call P script s new p (refuse_step s p error)
      (λ r i _ _ done. after_if P _ _ new (λ _. k.change s p _ h) done) e
  each_step_keeps s (event.Mask p m) new h e =
      after_number P script s new m _ (λ n found.
      after_call P script s new p (mask_step s p n)
      (λ r i _ _ done. shape.mask_keeps script P k s new h p n r i done) found) e
  each_step_keeps s (event.SetAction p signal a) new h e =
      after_number P script s new signal _ (λ n found.
      after_call P script s new p (action_step s p a n)
      (λ r i _ _ done. shape.action_keeps script P k s new h p a n r i done) found) e
  each_step_keeps s (event.Suspend p m) new h e =
      after_number P script s new m _ (λ n found.
      after_call P script s new p (suspend_step s p n)
      (λ r i _ _ done. shape.suspend_keeps script P k s new h p n r i done) found) e
  each_step_keeps s (event.Return p) new h e =
      after_call P script s new p (return_step s p) (λ r i _ _ done. shape.return_keeps script P k s new h p r i done) e
  each_step_keeps s (event.Deliver p signal how) new h e =
      after_number P script s new signal _ (λ n found.
      after_process P script s new p (deliver_step script s p how n) (λ r _ done.
      after_test P (is_deliverable r n && not (is_group_call r.call))
      (deliver_by script s p n how r (action_of r n)) new
      (λ _ by. shape.deliver_keeps script P k s new h p n how r (action_of r n) by) done) found) e
  each_step_keeps s (event.Discard p signal) new h e =
      after_number P script s new signal _ (λ n found.
      after_process P script s new p (discard_step s p n)
      (λ r _ done. after_if P _ _ new (λ _. k.change s p _ h) done) found) e
  each_step_keeps s (event.Stop p signal) new h e =
      after_number P script s new signal _ (λ n found.
      after_process P script s new p (stop_step s p n) (λ r _ done.
      after_if P _ _ new (λ _. k.change (change_record s p (stopped n)) r.parent owed_more
      (k.change s p (stopped n) h)) done) found) e
  each_step_keeps s (event.Die p v cause) new h e =
      after_number P script s new v _ (λ n found.
      after_process P script s new p (die_step script s p cause n) (λ r _ done.
      after_if P _ (died s p n r.parent) new (λ _. k.change (with_status p n (change_record s p (dead n)))
      r.parent owed_more
      (shape.status_keeps script P k s new h p n (change_record s p (dead n)) (k.change s p (dead n) h))) done)
      found) e
  each_step_keeps s (event.Notify p) new h e =
      after_process P script s new p (notify_step s p) (λ r _ done. after_if P _ _ new (λ _. k.change s p _ h) done) e
  each_step_keeps s (event.Collect p) new h e =
      after_process P script s new p (collect_step s p) (λ r _ done. after_if P _ _ new (λ _. k.remove s p h) done) e
  each_step_keeps s (event.SetPgid p q g) new h e =
      after_numbers P script s new q g _ (λ m n found.
      after_call P script s new p (setpgid_step s p m n)
      (λ r i _ _ done. shape.setpgid_keeps script P k s new h p m n r i done) found) e
  each_step_keeps s (event.SetSid p) new h e =
      after_call P script s new p (setsid_step s p) (λ r i _ _ done. shape.setsid_keeps script P k s new h p r i done) e
  each_step_keeps s (event.TcSet p g) new h e =
      after_number P script s new g _ (λ n found.
      after_call P script s new p (tcset_step s p n)
      (λ r i _ _ done. shape.tcset_keeps script P k s new h p n r i done) found) e
  each_step_keeps s (event.Flags p f) new h e =
      after_number P script s new f _ (λ n found.
      after_call P script s new p (flags_step s p n)
      (λ r i _ _ done. shape.flags_keeps script P k s new h p n r i done) found) e
  each_step_keeps s (event.Background p signal) new h e =
      after_number P script s new signal _ (λ n found.
      after_call P script s new p (background_step s p n) (λ r i _ _ done.
      after_value P (sent_first (check_of s p r i)) (background_by s p r.group n) new
      (λ first _ by. after_if P _ _ new (λ _. k.change s p (in_call_for (begun r.group n)) h) by) done) found) e
  each_step_keeps s (event.BackgroundDone p) new h e =
      after_group_step P script s new p (background_done_step s p) (λ r i _ _ done.
      after_value P (background_call r i) (background_done_by s p) new
      (λ call _ by. after_if P _ _ new (λ _. k.change s p call_ended h) by) done) e
  each_step_keeps s (event.Line p n bytes) new h e =
      after_call P script s new p (line_step s p n bytes)
      (λ r i _ _ done. shape.line_keeps script P k s new h p n bytes r i done) e
  each_step_keeps s (event.Write p n bytes) new h e =
      after_call P script s new p (write_step s p n bytes)
      (λ r i _ _ done. shape.write_keeps script P k s new h p n bytes r i done) e
  each_step_keeps s (event.Key p b) new h e =
      after_if P (nat_eq p 0 && is_none s.console) (with_key s (after_key s.terminal b)) new
      (λ _. k.parts s (after_key s.terminal b).terminal (s.output ++ (after_key s.terminal b).echo)
      (call_for s.terminal.foreground (after_key s.terminal b).signal) s.first_status s.host_came h) e
  each_step_keeps s (event.Host p n) new h e =
      after_if P (nat_eq p 0 && (not s.host_came && is_host_code s.first_status n)) (record s { host_came = true }) new
      (λ _. k.parts s s.terminal s.output s.console s.first_status true h) e

  pub each_run_keeps : (s : PosixState) (es : List Event) (new : PosixState) → P s → PosixRun script s es new → P new
  each_run_keeps s [] new h run = subst P (sym run) h
  each_run_keeps s (e ∷ es) new h run = each_run_keeps run.0 es new (each_step_keeps s e run.0 h run.1) run.2
