-- Each event but fork, reap, die and collect leaves all raw parents, and the status for the host, as they are.
use Rattle.std.specs.Prelude.{◌≡◌, pos, ◌-◌, true}
use Rattle.std.proofs.Common.{refl}
use Rattle.std.proofs.lemmas.Bool.{false≢true}
use Rattle.w32_base.specs.declared.event.Event.{Event}
use Rattle.w32_base.specs.declared.event.Event.TheVariants as event
use Rattle.script_spec.specs.declared.script.Script.{Script}
use Rattle.posix_spec.specs.State.{PosixState}
use Rattle.posix_spec.specs.Pending.{action_of}
use Rattle.posix_spec.specs.SignalCalls.{action_step, mask_step, return_step, suspend_step}
use Rattle.tty_spec.specs.Discipline.{after_key}
use Rattle.posix_spec.specs.TerminalSteps.{background_by, background_done_by, background_done_step, background_step}
use Rattle.posix_spec.specs.TerminalSteps.{flags_step, line_step, tcset_step, write_step}
use Rattle.posix_spec.specs.GroupCalls.{background_call, begun}
use Rattle.posix_spec.specs.WaitSteps.{block_step, blocked, find_no_child, find_nothing, look_by, look_step}
use Rattle.posix_spec.specs.WaitSteps.{no_child_step, nothing_step, report_by, report_step, reported, with_look}
use Rattle.posix_spec.specs.Conditions.{call_ended, for_call, for_process}
use Rattle.posix_spec.specs.Records.{change_record}
use Rattle.posix_spec.specs.Refusals.{check_of, refuse_step}
use Rattle.posix_spec.specs.Signals.{child_signal}
use Rattle.posix_spec.specs.SignalActs.{deliver_step, discard_step, discarded, notified, notify_step, stop_step}
use Rattle.posix_spec.specs.Numbers.{error_result}
use Rattle.posix_spec.specs.ForkSteps.{exec_fail_step, exec_step, fork_fail_step}
use Rattle.posix_spec.specs.OwnSteps.{get_step, run_step, with_block}
use Rattle.posix_spec.specs.KillSteps.{in_call_for, kill_step}
use Rattle.posix_spec.specs.Checks.{sent_first}
use Rattle.posix_spec.specs.GroupSteps.{setpgid_step, setsid_step}
use Rattle.posix_spec.specs.Waits.{wait_of}
use Rattle.posix_spec.specs.ConsoleSteps.{with_key}
use Rattle.w32_base.specs.declared.event.Errno.TheVariants as errno
use Rattle.posix_spec.specs.Run.{PosixStep}
use Rattle.posix_spec.specs.Step.{group_done_of, member_of, posix_step}
use Rattle.world_spec.specs.ParentLaws.{answered_both_keeps, answered_keeps, call_keeps, change_keeps, generated_keeps}
use Rattle.world_spec.specs.ParentLaws.{group_step_keeps, keeps_if, process_keeps, same_parents, KeepsParents}
use Rattle.layer_spec.specs.FateLaws.{guarded}
use Rattle.world_spec.specs.ParentSteps.{number_keeps, numbers_keep, action_keeps, deliver_keeps, exec_fail_keeps}
use Rattle.world_spec.specs.ParentSteps.{exec_keeps, flags_keeps, fork_fail_keeps, group_done_keeps, kill_keeps}
use Rattle.world_spec.specs.ParentSteps.{line_keeps, mask_keeps, member_keeps, return_keeps, setpgid_keeps}
use Rattle.world_spec.specs.ParentSteps.{setsid_keeps}
use Rattle.world_spec.specs.ParentSteps.{stop_keeps, suspend_keeps, tcset_keeps, untouched, value_keeps, write_keeps}
use Rattle.world_spec.specs.ParentSteps.{keeps_all_parents}

pub event_keeps : (script : Script) (s : PosixState) (e : Event) (new : PosixState) → keeps_all_parents e ≡ true
    → PosixStep script s e new → KeepsParents s new
unfolding posix_step
event_keeps script s (event.Run p n) new f e =
    process_keeps s p (run_step script s p n) new (λ r _ g.
    keeps_if s _ _ new (guarded _ _ new g).1 (change_keeps s p (with_block script) (λ r _. refl))) e
event_keeps script s (event.Get p field v) new f e =
    call_keeps script s p (get_step s p field v) new
    (λ r i _ g. keeps_if s _ _ new g (answered_keeps s s p v (same_parents s))) e
event_keeps script s (event.Fork p c) new f e = absurd (false≢true f)
event_keeps script s (event.ForkFail p cause) new f e =
    call_keeps script s p (fork_fail_step s p cause) new (λ r i _ g. fork_fail_keeps s p cause r i new g) e
event_keeps script s (event.Exec p name) new f e =
    call_keeps script s p (exec_step script s p name) new (λ r i _ g. exec_keeps script s p name r i new g) e
event_keeps script s (event.ExecFail p cause) new f e =
    call_keeps script s p (exec_fail_step script s p cause) new
    (λ r i _ g. exec_fail_keeps script s p cause r i new g) e
event_keeps script s (event.Kill p q signal answer) new f e =
    call_keeps script s p (kill_step s p q signal answer) new (λ r i _ g. kill_keeps s p q signal answer r i new g) e
event_keeps script s (event.Member p q signal) new f e =
    numbers_keep s q signal (member_of script s p) new (λ a b g. member_keeps script s p a b new g) e
event_keeps script s (event.GroupDone p g signal answer) new f e =
    numbers_keep s g signal (group_done_of script s p answer) new
    (λ a b h. group_done_keeps script s p answer a b new h) e
event_keeps script s (event.Look p c) new f e =
    number_keeps s c (λ n. for_call script s p (look_step s p n)) new (λ n g.
    call_keeps script s p (look_step s p n) new (λ r i _ h. value_keeps s (wait_of p r i) (look_by s p n) new
    (λ wait k. keeps_if s _ _ new k (change_keeps s p (with_look n) (λ r _. refl))) h) g) e
event_keeps script s (event.Block p) new f e =
    call_keeps script s p (block_step s p) new
    (λ r i _ g. keeps_if s _ _ new g (change_keeps s p blocked (λ r _. refl))) e
event_keeps script s (event.Nothing p) new f e =
    call_keeps script s p (nothing_step s p) new (λ r i _ g. value_keeps s (wait_of p r i) (find_nothing s p r) new
    (λ wait h. keeps_if s _ _ new h (answered_both_keeps s s p (pos 0) (pos 0) (same_parents s))) g) e
event_keeps script s (event.Reap p c v) new f e = absurd (false≢true f)
event_keeps script s (event.Report p c v) new f e =
    number_keeps s c (λ n. for_call script s p (report_step s p v n)) new (λ n g.
    call_keeps script s p (report_step s p v n) new (λ r i _ h. value_keeps s (wait_of p r i) (report_by s p n v) new
    (λ wait k. keeps_if s _ _ new k (answered_both_keeps s (change_record s n reported) p (pos n) v
    (change_keeps s n reported (λ r _. refl)))) h) g) e
event_keeps script s (event.NoChild p) new f e =
    call_keeps script s p (no_child_step s p) new (λ r i _ g. value_keeps s (wait_of p r i) (find_no_child s p) new
    (λ wait h. keeps_if s _ _ new h (answered_keeps s s p (error_result errno.ECHILD) (same_parents s))) g) e
event_keeps script s (event.Refuse p error) new f e =
    call_keeps script s p (refuse_step s p error) new
    (λ r i _ g. keeps_if s _ _ new g (answered_keeps s s p (error_result error) (same_parents s))) e
event_keeps script s (event.Mask p m) new f e =
    number_keeps s m (λ n. for_call script s p (mask_step s p n)) new (λ n g.
    call_keeps script s p (mask_step s p n) new (λ r i _ h. mask_keeps s p n r i new h) g) e
event_keeps script s (event.SetAction p signal a) new f e =
    number_keeps s signal (λ n. for_call script s p (action_step s p a n)) new (λ n g.
    call_keeps script s p (action_step s p a n) new (λ r i _ h. action_keeps s p a n r i new h) g) e
event_keeps script s (event.Suspend p m) new f e =
    number_keeps s m (λ n. for_call script s p (suspend_step s p n)) new (λ n g.
    call_keeps script s p (suspend_step s p n) new (λ r i _ h. suspend_keeps s p n r i new h) g) e
event_keeps script s (event.Return p) new f e =
    call_keeps script s p (return_step s p) new (λ r i _ g. return_keeps s p r i new g) e
event_keeps script s (event.Deliver p signal how) new f e =
    number_keeps s signal (λ n. for_process s p (deliver_step script s p how n)) new (λ n g.
    process_keeps s p (deliver_step script s p how n) new
    (λ r _ h. deliver_keeps script s p n how r (action_of r n) new (guarded _ _ new h).1) g) e
event_keeps script s (event.Discard p signal) new f e =
    number_keeps s signal (λ n. for_process s p (discard_step s p n)) new (λ n g.
    process_keeps s p (discard_step s p n) new
    (λ r _ h. keeps_if s _ _ new h (change_keeps s p (discarded n) (λ r _. refl))) g) e
event_keeps script s (event.Stop p signal) new f e =
    number_keeps s signal (λ n. for_process s p (stop_step s p n)) new (λ n g.
    process_keeps s p (stop_step s p n) new (λ r is h. stop_keeps s p n r new is h) g) e
event_keeps script s (event.Die p v cause) new f e = absurd (false≢true f)
event_keeps script s (event.Notify p) new f e =
    process_keeps s p (notify_step s p) new (λ r _ g. keeps_if s _ _ new g
    (change_keeps s p notified (λ r _. generated_keeps child_signal (record r { owed = r.owed - 1 })))) e
event_keeps script s (event.Collect p) new f e = absurd (false≢true f)
event_keeps script s (event.SetPgid p q g) new f e =
    numbers_keep s q g (λ a b. for_call script s p (setpgid_step s p a b)) new (λ a b h.
    call_keeps script s p (setpgid_step s p a b) new (λ r i _ k. setpgid_keeps s p a b r i new k) h) e
event_keeps script s (event.SetSid p) new f e =
    call_keeps script s p (setsid_step s p) new (λ r i _ g. setsid_keeps s p r i new g) e
event_keeps script s (event.TcSet p g) new f e =
    number_keeps s g (λ n. for_call script s p (tcset_step s p n)) new (λ n h.
    call_keeps script s p (tcset_step s p n) new (λ r i _ k. tcset_keeps s p n r i new k) h) e
event_keeps script s (event.Flags p n) new f e =
    number_keeps s n (λ n. for_call script s p (flags_step s p n)) new (λ n g.
    call_keeps script s p (flags_step s p n) new (λ r i _ h. flags_keeps s p n r i new h) g) e
event_keeps script s (event.Background p signal) new f e =
    number_keeps s signal (λ n. for_call script s p (background_step s p n)) new (λ n g.
    call_keeps script s p (background_step s p n) new (λ r i _ h.
    value_keeps s (sent_first (check_of s p r i)) (background_by s p r.group n) new (λ first k.
    keeps_if s _ _ new k (change_keeps s p (in_call_for (begun r.group n)) (λ r _. refl))) h) g) e
event_keeps script s (event.BackgroundDone p) new f e =
    group_step_keeps script s p (background_done_step s p) new (λ r i _ g.
    value_keeps s (background_call r i) (background_done_by s p) new
    (λ call h. keeps_if s _ _ new h (change_keeps s p call_ended (λ r _. refl))) g) e
event_keeps script s (event.Line p n bytes) new f e =
    call_keeps script s p (line_step s p n bytes) new (λ r i _ g. line_keeps s p n bytes r i new g) e
event_keeps script s (event.Write p n bytes) new f e =
    call_keeps script s p (write_step s p n bytes) new (λ r i _ g. write_keeps s p n bytes r i new g) e
event_keeps script s (event.Key p b) new f e =
    keeps_if s _ _ new e (untouched s (with_key s (after_key s.terminal b)) refl refl)
event_keeps script s (event.Host p n) new f e =
    keeps_if s _ _ new e (untouched s (record s { host_came = true }) refl refl)
