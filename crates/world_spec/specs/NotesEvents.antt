-- An event that isn't a process's own leaves of its record what `KeepsNotes` says, and makes no process live.
use Rattle.std.specs.Prelude.{◌≡◌, ◌≢◌, ℕ, Bool, true, false, ◌&&◌, not, nat_eq, is_none, Some, None}
use Rattle.std.proofs.Common.{refl, sym, ap, subst, ◌∙◌, true≢false}
use Rattle.std.proofs.lemmas.Bool.{cond_both}
use Rattle.w32_base.specs.declared.event.Answer.{Answer}
use Rattle.w32_base.specs.declared.event.Event.{Event}
use Rattle.w32_base.specs.declared.event.Event.TheVariants as event
use Rattle.script_spec.specs.declared.script.Script.{Script}
use Rattle.vm_spec.specs.Block.{block_length}
use Rattle.tty_spec.specs.Discipline.{after_key}
use Rattle.posix_spec.specs.State.{Record, PosixState, record_of}
use Rattle.posix_spec.specs.Pending.{action_of, is_live}
use Rattle.posix_spec.specs.Records.{change_record}
use Rattle.posix_spec.specs.RecordLaws.{same_record}
use Rattle.posix_spec.specs.Checks.{sent_first}
use Rattle.posix_spec.specs.Conditions.{code_of, may_act, is_group_call, call_ended, for_group_step}
use Rattle.posix_spec.specs.Sending.{owed_more, sent}
use Rattle.posix_spec.specs.ForkSteps.{fork_step, fork_fail_step, exec_step, exec_fail_step}
use Rattle.posix_spec.specs.GroupCalls.{background_call, begun, ends_with, is_next_member, with_step}
use Rattle.posix_spec.specs.KillSteps.{group_done_step, in_call_for, kill_step, member_step}
use Rattle.posix_spec.specs.OwnSteps.{get_step, run_block_step, run_step}
use Rattle.posix_spec.specs.SignalActs.{is_deliverable, deliver_by, deliver_step, discard_step, discarded, notified}
use Rattle.posix_spec.specs.SignalActs.{notify_step, stop_step, stopped}
use Rattle.posix_spec.specs.SignalCalls.{mask_step, action_step, suspend_step, return_step}
use Rattle.posix_spec.specs.WaitSteps.{look_step, block_step, nothing_step, reap_step, report_step, no_child_step}
use Rattle.posix_spec.specs.DeathSteps.{collect_step, dead, die_step, died, is_host_code, with_status}
use Rattle.posix_spec.specs.GroupSteps.{setpgid_step, setsid_step}
use Rattle.posix_spec.specs.TerminalSteps.{tcset_step, flags_step, line_step, write_step, background_by}
use Rattle.posix_spec.specs.TerminalSteps.{background_step, background_done_by, background_done_step}
use Rattle.posix_spec.specs.Refusals.{check_of, refuse_step}
use Rattle.posix_spec.specs.ConsoleSteps.{console_done_by, console_done_step, console_member_by, console_member_step}
use Rattle.posix_spec.specs.ConsoleSteps.{with_console, with_key}
use Rattle.posix_spec.specs.Step.{member_of, group_done_of, posix_step}
use Rattle.posix_spec.specs.Run.{PosixStep}
use Rattle.posix_spec.specs.AnswerLaws.{after_if, after_test, after_value}
use Rattle.posix_spec.specs.KillLaws.{either_kept}
use Rattle.posix_spec.specs.SentLaws.{after_process, after_call, after_group_step, after_number, after_numbers}
use Rattle.posix_spec.specs.WellFormed.{IsUsed, IsWellFormed}
use Rattle.layer_spec.specs.Owners.{owner_of}
use Rattle.world_spec.specs.Notes.{KeepsNotes}
use Rattle.world_spec.specs.NotesLaws.{LeavesNotes, benign_dead, benign_discarded, benign_notified, benign_owed}
use Rattle.world_spec.specs.NotesLaws.{leaves_change, leaves_same, leaves_sent, leaves_without}
use Rattle.world_spec.specs.NotesSteps as step
use Rattle.world_spec.specs.NotesSteps.{own}

module _ (script : Script) (s : PosixState) (p : ℕ) (used : IsUsed s.used p) (new : PosixState) where
  abbrev L : PosixState → Type 0
  L = LeavesNotes s p

  start : L s
  start = leaves_same s p

  console_member : (q signal : ℕ) → console_member_step s q signal ≡ Some new → L new
  console_member q signal e = after_value L s.console (console_member_by s q signal) new
      (λ call _ by. after_if L (is_next_member s call q signal)
      (with_console (sent s q signal) (Some (with_step call q))) new (λ _. leaves_sent s p s start q signal) by) e

  console_done : (g signal : ℕ) (answer : Answer) → console_done_step s g signal answer ≡ Some new → L new
  console_done g signal answer e = after_value L s.console (console_done_by s g signal answer) new
      (λ call _ by. after_if L (ends_with s call g signal answer) (with_console s None) new (λ _. start) by) e

  with_status_leaves : (a v : ℕ) (t : PosixState) → L t → L (with_status a v t)
  with_status_leaves a v t h = cond_both (nat_eq a 2) (record t { first_status = Some v }) t L (λ _. h) (λ _. h)

  pub event-leaves : (e : Event) → owner_of e ≢ p → PosixStep script s e new → L new
  unfolding posix_step
  event-leaves (event.Run a n) other e =
      after_process L script s new a (run_step script s a n) (λ r _ done.
      after_test L (may_act script r) (run_block_step script s a n (block_length (code_of script r.image) r.image)) new
      (λ _ block. after_if L _ _ new (λ _. own script s p used a other new s _ start) block) done) e
  event-leaves (event.Get a field v) other e =
      after_call L script s new a (get_step s a field v)
      (λ r i _ _ done. after_if L _ _ new (λ _. own script s p used a other new s _ start) done) e
  event-leaves (event.Fork a c) other e =
      after_number L script s new c _ (λ n found.
      after_call L script s new a (fork_step script s a n)
      (λ r i _ _ done. step.fork_leaves script s p used a other new n r i done) found) e
  event-leaves (event.ForkFail a cause) other e =
      after_call L script s new a (fork_fail_step s a cause)
      (λ r i _ _ done. step.fork_fail_leaves script s p used a other new cause r i done) e
  event-leaves (event.Exec a name) other e =
      after_call L script s new a (exec_step script s a name)
      (λ r i _ _ done. step.exec_leaves script s p used a other new name r i done) e
  event-leaves (event.ExecFail a cause) other e =
      after_call L script s new a (exec_fail_step script s a cause)
      (λ r i _ _ done. step.exec_fail_leaves script s p used a other new cause r i done) e
  event-leaves (event.Kill a q signal answer) other e =
      after_call L script s new a (kill_step s a q signal answer)
      (λ r i _ _ done. step.kill_leaves script s p used a other new q signal answer r i done) e
  event-leaves (event.Member a q signal) other e =
      after_numbers L script s new q signal (member_of script s a) (λ m n found.
      either_kept (nat_eq a 0) (console_member_step s m n) (for_group_step script s a (member_step s a m n)) found
      (console_member m n)
      (λ moves. after_group_step L script s new a (member_step s a m n)
      (λ r i _ _ done. step.member_leaves script s p used a other new m n r i done) moves)) e
  event-leaves (event.GroupDone a g signal answer) other e =
      after_numbers L script s new g signal (group_done_of script s a answer) (λ m n found.
      either_kept (nat_eq a 0) (console_done_step s m n answer)
      (for_group_step script s a (group_done_step s a m n answer)) found (console_done m n answer)
      (λ moves. after_group_step L script s new a (group_done_step s a m n answer)
      (λ r i _ _ done. step.group_done_leaves script s p used a other new m n answer r i done) moves)) e
  event-leaves (event.Look a c) other e =
      after_number L script s new c _ (λ n found.
      after_call L script s new a (look_step s a n)
      (λ r i _ _ done. step.look_leaves script s p used a other new n r i done) found) e
  event-leaves (event.Block a) other e =
      after_call L script s new a (block_step s a)
      (λ r i _ _ done. after_if L _ _ new (λ _. own script s p used a other new s _ start) done) e
  event-leaves (event.Nothing a) other e =
      after_call L script s new a (nothing_step s a)
      (λ r i _ _ done. step.nothing_leaves script s p used a other new r i done) e
  event-leaves (event.Reap a c v) other e =
      after_number L script s new c _ (λ n found.
      after_call L script s new a (reap_step s a v n)
      (λ r i _ _ done. step.reap_leaves script s p used a other new v n r i done) found) e
  event-leaves (event.Report a c v) other e =
      after_number L script s new c _ (λ n found.
      after_call L script s new a (report_step s a v n)
      (λ r i _ _ done. step.report_leaves script s p used a other new v n r i done) found) e
  event-leaves (event.NoChild a) other e =
      after_call L script s new a (no_child_step s a)
      (λ r i _ _ done. step.no_child_leaves script s p used a other new r i done) e
  event-leaves (event.Refuse a error) other e =
      after_call L script s new a (refuse_step s a error)
      (λ r i _ _ done. after_if L _ _ new (λ _. own script s p used a other new s _ start) done) e
  event-leaves (event.Mask a m) other e =
      after_number L script s new m _ (λ n found.
      after_call L script s new a (mask_step s a n)
      (λ r i _ _ done. step.mask_leaves script s p used a other new n r i done) found) e
  event-leaves (event.SetAction a signal x) other e =
      after_number L script s new signal _ (λ n found.
      after_call L script s new a (action_step s a x n)
      (λ r i _ _ done. step.action_leaves script s p used a other new x n r i done) found) e
  event-leaves (event.Suspend a m) other e =
      after_number L script s new m _ (λ n found.
      after_call L script s new a (suspend_step s a n)
      (λ r i _ _ done. step.suspend_leaves script s p used a other new n r i done) found) e
  event-leaves (event.Return a) other e =
      after_call L script s new a (return_step s a)
      (λ r i _ _ done. step.return_leaves script s p used a other new r i done) e
  event-leaves (event.Deliver a signal how) other e =
      after_number L script s new signal _ (λ n found.
      after_process L script s new a (deliver_step script s a how n) (λ r _ done.
      after_test L (is_deliverable r n && not (is_group_call r.call))
      (deliver_by script s a n how r (action_of r n)) new
      (λ _ by. step.deliver_leaves script s p used a other new n how r (action_of r n) by) done) found) e
  event-leaves (event.Discard a signal) other e =
      after_number L script s new signal _ (λ n found.
      after_process L script s new a (discard_step s a n) (λ r _ done.
      after_if L _ _ new (λ _. leaves_change s p s start a (discarded n) (λ _. benign_discarded n)) done) found) e
  event-leaves (event.Stop a signal) other e =
      after_number L script s new signal _ (λ n found.
      after_process L script s new a (stop_step s a n) (λ r _ done.
      after_if L _ _ new (λ _. leaves_change s p (change_record s a (stopped n))
      (own script s p used a other new s (stopped n) start) r.parent owed_more (λ _. benign_owed)) done) found) e
  event-leaves (event.Die a v cause) other e =
      after_number L script s new v _ (λ n found.
      after_process L script s new a (die_step script s a cause n) (λ r _ done.
      after_if L _ (died s a n r.parent) new (λ _.
      leaves_change s p (with_status a n (change_record s a (dead n)))
      (with_status_leaves a n (change_record s a (dead n))
      (leaves_change s p s start a (dead n) (λ _. benign_dead n))) r.parent owed_more (λ _. benign_owed)) done) found) e
  event-leaves (event.Notify a) other e =
      after_process L script s new a (notify_step s a) (λ r _ done.
      after_if L _ _ new (λ _. leaves_change s p s start a notified (λ _. benign_notified)) done) e
  event-leaves (event.Collect a) other e =
      after_process L script s new a (collect_step s a)
      (λ r _ done. after_if L _ _ new (λ _. leaves_without s p s start a) done) e
  event-leaves (event.SetPgid a q g) other e =
      after_numbers L script s new q g _ (λ m n found.
      after_call L script s new a (setpgid_step s a m n)
      (λ r i _ _ done. step.setpgid_leaves script s p used a other new m n r i done) found) e
  event-leaves (event.SetSid a) other e =
      after_call L script s new a (setsid_step s a)
      (λ r i _ _ done. step.setsid_leaves script s p used a other new r i done) e
  event-leaves (event.TcSet a g) other e =
      after_number L script s new g _ (λ n found.
      after_call L script s new a (tcset_step s a n)
      (λ r i _ _ done. step.tcset_leaves script s p used a other new n r i done) found) e
  event-leaves (event.Flags a f) other e =
      after_number L script s new f _ (λ n found.
      after_call L script s new a (flags_step s a n)
      (λ r i _ _ done. step.flags_leaves script s p used a other new n r i done) found) e
  event-leaves (event.Background a signal) other e =
      after_number L script s new signal _ (λ n found.
      after_call L script s new a (background_step s a n) (λ r i _ _ done.
      after_value L (sent_first (check_of s a r i)) (background_by s a r.group n) new
      (λ first _ by. after_if L _ _ new (λ _. own script s p used a other new s (in_call_for (begun r.group n)) start)
      by)
      done) found) e
  event-leaves (event.BackgroundDone a) other e =
      after_group_step L script s new a (background_done_step s a) (λ r i _ _ done.
      after_value L (background_call r i) (background_done_by s a) new
      (λ call _ by. after_if L _ _ new (λ _. own script s p used a other new s call_ended start) by) done) e
  event-leaves (event.Line a n bytes) other e =
      after_call L script s new a (line_step s a n bytes)
      (λ r i _ _ done. step.line_leaves script s p used a other new n bytes r i done) e
  event-leaves (event.Write a n bytes) other e =
      after_call L script s new a (write_step s a n bytes)
      (λ r i _ _ done. step.write_leaves script s p used a other new n bytes r i done) e
  event-leaves (event.Key a b) other e =
      after_if L (nat_eq a 0 && is_none s.console) (with_key s (after_key s.terminal b)) new (λ _. start) e
  event-leaves (event.Host a n) other e =
      after_if L (nat_eq a 0 && (not s.host_came && is_host_code s.first_status n)) (record s { host_came = true }) new
      (λ _. start) e

-- A step of which process p isn't the owner leaves the notes of its record, as long as it is live.
pub notes-kept : (script : Script) (s : PosixState) (e : Event) (new : PosixState) → IsWellFormed script s
    → PosixStep script s e new → (p : ℕ) → owner_of e ≢ p → (old now : Record) → record_of s p ≡ Some old
    → record_of new p ≡ Some now → is_live now.life ≡ true → KeepsNotes old now
notes-kept script s e new formed moves p other old now there here live =
    let used = (formed.each p old there).numbers.number in
    let left = event-leaves script s p used new e other moves p now here refl live in
    subst (λ r. KeepsNotes r now) (same_record left.old old (sym left.there ∙ there)) left.kept

-- And a number that was used, and isn't that of a live process, isn't after it.
pub gone-stays : (script : Script) (s : PosixState) (e : Event) (new : PosixState) → PosixStep script s e new → (p : ℕ)
    → owner_of e ≢ p → IsUsed s.used p → ((r : Record) → record_of s p ≡ Some r → is_live r.life ≡ false)
    → (r : Record) → record_of new p ≡ Some r → is_live r.life ≡ false
gone-stays script s e new moves p other used dead r here = by_test (is_live r.life) refl
  where
    by_test : (b : Bool) → is_live r.life ≡ b → b ≡ false
    by_test false is = refl
    by_test true is =
        let left = event-leaves script s p used new e other moves p r here refl is in
        absurd (true≢false (sym left.lived ∙ dead left.old left.there))
