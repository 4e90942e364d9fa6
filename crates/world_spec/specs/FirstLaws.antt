-- The status that is kept of the first process's death, and whether the host has read its code, through every event.
use Rattle.std.specs.Prelude.{◌≡◌, ℕ, ℤ, Bool, true, false, ◌&&◌, not, nat_eq, is_none, if◌then◌else◌, Option, Some}
use Rattle.std.specs.Prelude.{None}
use Rattle.std.proofs.Common.{refl, sym, ap, ◌∙◌, subst}
use Rattle.std.proofs.lemmas.Bool.{eqb-true}
use Rattle.w32_base.specs.declared.event.Event.{Event}
use Rattle.w32_base.specs.declared.event.Event.TheVariants as event
use Rattle.script_spec.specs.declared.script.Script.{Script}
use Rattle.vm_spec.specs.Block.{block_length}
use Rattle.tty_spec.specs.Discipline.{after_key}
use Rattle.posix_spec.specs.State.{Record, PosixState, record_of}
use Rattle.posix_spec.specs.Records.{change_record}
use Rattle.posix_spec.specs.Pending.{action_of}
use Rattle.posix_spec.specs.Checks.{sent_first}
use Rattle.posix_spec.specs.Conditions.{code_of, may_act, is_group_call, call_ended, for_group_step}
use Rattle.posix_spec.specs.Sending.{owed_more}
use Rattle.posix_spec.specs.ForkSteps.{fork_step, fork_fail_step, exec_step, exec_fail_step}
use Rattle.posix_spec.specs.GroupCalls.{begun, background_call}
use Rattle.posix_spec.specs.KillSteps.{in_call_for, kill_step, member_step, group_done_step}
use Rattle.posix_spec.specs.OwnSteps.{run_block_step, run_step, get_step}
use Rattle.posix_spec.specs.SignalActs.{is_deliverable, stopped, deliver_by, deliver_step, discard_step, stop_step}
use Rattle.posix_spec.specs.SignalActs.{notify_step}
use Rattle.posix_spec.specs.SignalCalls.{mask_step, action_step, suspend_step, return_step}
use Rattle.posix_spec.specs.WaitSteps.{look_step, block_step, nothing_step, reap_step, report_step, no_child_step}
use Rattle.posix_spec.specs.DeathSteps.{dead, with_status, died, die_step, collect_step, is_host_code}
use Rattle.posix_spec.specs.GroupSteps.{setpgid_step, setsid_step}
use Rattle.posix_spec.specs.TerminalSteps.{tcset_step, flags_step, line_step, write_step, background_by}
use Rattle.posix_spec.specs.TerminalSteps.{background_step, background_done_by, background_done_step}
use Rattle.posix_spec.specs.Refusals.{check_of, refuse_step}
use Rattle.posix_spec.specs.ConsoleSteps.{with_key, console_member_step, console_done_step}
use Rattle.posix_spec.specs.Step.{member_of, group_done_of, posix_step}
use Rattle.posix_spec.specs.Run.{PosixStep}
use Rattle.posix_spec.specs.AnswerLaws.{after_if, after_test, after_value}
use Rattle.posix_spec.specs.KillLaws.{either_kept}
use Rattle.posix_spec.specs.SentLaws.{after_process, after_call, after_group_step, after_number, after_numbers}
use Rattle.posix_spec.specs.Waits.{death_to_report}
use Rattle.posix_spec.specs.WellFormed.{IsFirstStatus, IsWellFormed as IsPosixFormed}
use Rattle.layer_spec.specs.DeathLaws.{dying_lives}
use Rattle.world_spec.specs.FirstLawsSteps as steps
use Rattle.world_spec.specs.FirstLawsSteps.{OfFirst, first_change}

module _ (script : Script) (R : Option ℕ → Bool → Type 0) where
  abbrev P : PosixState → Type 0
  P = OfFirst R

  change : (t : PosixState) (q : ℕ) (f : Record → Record) → P t → P (change_record t q f)
  change = first_change R

  -- the status is kept where the first process dies
  at_death : (s : PosixState) (p n : ℕ) → (nat_eq p 2 ≡ true → R (Some n) s.host_came) → P s → (b : Bool)
      → nat_eq p 2 ≡ b
      → P (if b then record (change_record s p (dead n)) { first_status = Some n } else change_record s p (dead n))
  at_death s p n dies h true e = first_change (λ status came. R (Some n) came) s p (dead n) (dies e)
  at_death s p n dies h false e = change s p (dead n) h

  -- What is said of both stays so through every event, where it does so through the death of a live first process and
  -- through the host's reading.
  pub of-first : (s : PosixState) (e : Event) (new : PosixState)
      → ((p n : ℕ) (r : Record) → record_of s p ≡ Some r → death_to_report r.life ≡ None → nat_eq p 2 ≡ true
      → R (Some n) s.host_came)
      → ((p : ℕ) (n : ℤ) → e ≡ event.Host p n → R s.first_status true) → P s → PosixStep script s e new → P new
  unfolding posix_step
  of-first s (event.Run p n) new dies hosts h e =
      after_process P script s new p (run_step script s p n) (λ r _ done.
      after_test P (may_act script r) (run_block_step script s p n (block_length (code_of script r.image) r.image))
      new
      (λ _ block. after_if P _ _ new (λ _. change s p _ h) block) done) e
  of-first s (event.Get p field v) new dies hosts h e =
      after_call P script s new p (get_step s p field v)
      (λ r i _ _ done. after_if P _ _ new (λ _. change s p _ h) done) e
  of-first s (event.Fork p c) new dies hosts h e =
      after_number P script s new c _ (λ n found.
      after_call P script s new p (fork_step script s p n)
      (λ r i _ _ done. steps.fork_keeps script R s new h p n r i done) found) e
  of-first s (event.ForkFail p cause) new dies hosts h e =
      after_call P script s new p (fork_fail_step s p cause)
      (λ r i _ _ done. steps.fork_fail_keeps script R s new h p cause r i done) e
  of-first s (event.Exec p name) new dies hosts h e =
      after_call P script s new p (exec_step script s p name)
      (λ r i _ _ done. steps.exec_keeps script R s new h p name r i done) e
  of-first s (event.ExecFail p cause) new dies hosts h e =
      after_call P script s new p (exec_fail_step script s p cause)
      (λ r i _ _ done. steps.exec_fail_keeps script R s new h p cause r i done) e
  of-first s (event.Kill p q signal answer) new dies hosts h e =
      after_call P script s new p (kill_step s p q signal answer)
      (λ r i _ _ done. steps.kill_keeps script R s new h p q signal answer r i done) e
  of-first s (event.Member p q signal) new dies hosts h e =
      after_numbers P script s new q signal (member_of script s p) (λ m n found.
      either_kept (nat_eq p 0) (console_member_step s m n) (for_group_step script s p (member_step s p m n)) found
      (steps.console_step script R s new h m n)
      (λ step. after_group_step P script s new p (member_step s p m n)
      (λ r i _ _ done. steps.members_step script R s new h p m n r i done) step)) e
  of-first s (event.GroupDone p g signal answer) new dies hosts h e =
      after_numbers P script s new g signal (group_done_of script s p answer) (λ m n found.
      either_kept (nat_eq p 0) (console_done_step s m n answer)
      (for_group_step script s p (group_done_step s p m n answer)) found
      (steps.console_ends script R s new h m n answer)
      (λ step. after_group_step P script s new p (group_done_step s p m n answer)
      (λ r i _ _ done. steps.group_ends script R s new h p m n answer r i done) step)) e
  of-first s (event.Look p c) new dies hosts h e =
      after_number P script s new c _ (λ n found.
      after_call P script s new p (look_step s p n) (λ r i _ _ done. steps.looks script R s new h p n r i done)
      found) e
  of-first s (event.Block p) new dies hosts h e =
      after_call P script s new p (block_step s p) (λ r i _ _ done. after_if P _ _ new (λ _. change s p _ h) done) e
  of-first s (event.Nothing p) new dies hosts h e =
      after_call P script s new p (nothing_step s p)
      (λ r i _ _ done. steps.finds_nothing script R s new h p r i done) e
  of-first s (event.Reap p c v) new dies hosts h e =
      after_number P script s new c _ (λ n found.
      after_call P script s new p (reap_step s p v n)
      (λ r i _ _ done. steps.reaps script R s new h p v n r i done) found) e
  of-first s (event.Report p c v) new dies hosts h e =
      after_number P script s new c _ (λ n found.
      after_call P script s new p (report_step s p v n)
      (λ r i _ _ done. steps.reports script R s new h p v n r i done) found) e
  of-first s (event.NoChild p) new dies hosts h e =
      after_call P script s new p (no_child_step s p)
      (λ r i _ _ done. steps.finds_no_child script R s new h p r i done) e
  of-first s (event.Refuse p error) new dies hosts h e =
      after_call P script s new p (refuse_step s p error)
      (λ r i _ _ done. after_if P _ _ new (λ _. change s p _ h) done) e
  of-first s (event.Mask p m) new dies hosts h e =
      after_number P script s new m _ (λ n found.
      after_call P script s new p (mask_step s p n)
      (λ r i _ _ done. steps.mask_keeps script R s new h p n r i done) found) e
  of-first s (event.SetAction p signal a) new dies hosts h e =
      after_number P script s new signal _ (λ n found.
      after_call P script s new p (action_step s p a n)
      (λ r i _ _ done. steps.action_keeps script R s new h p a n r i done) found) e
  of-first s (event.Suspend p m) new dies hosts h e =
      after_number P script s new m _ (λ n found.
      after_call P script s new p (suspend_step s p n)
      (λ r i _ _ done. steps.suspend_keeps script R s new h p n r i done) found) e
  of-first s (event.Return p) new dies hosts h e =
      after_call P script s new p (return_step s p) (λ r i _ _ done. steps.return_keeps script R s new h p r i done) e
  of-first s (event.Deliver p signal how) new dies hosts h e =
      after_number P script s new signal _ (λ n found.
      after_process P script s new p (deliver_step script s p how n) (λ r _ done.
      after_test P (is_deliverable r n && not (is_group_call r.call))
      (deliver_by script s p n how r (action_of r n)) new
      (λ _ by. steps.deliver_keeps script R s new h p n how r (action_of r n) by) done) found) e
  of-first s (event.Discard p signal) new dies hosts h e =
      after_number P script s new signal _ (λ n found.
      after_process P script s new p (discard_step s p n)
      (λ r _ done. after_if P _ _ new (λ _. change s p _ h) done) found) e
  of-first s (event.Stop p signal) new dies hosts h e =
      after_number P script s new signal _ (λ n found.
      after_process P script s new p (stop_step s p n) (λ r _ done.
      after_if P _ _ new (λ _. change (change_record s p (stopped n)) r.parent owed_more
      (change s p (stopped n) h)) done) found) e
  of-first s (event.Die p v cause) new dies hosts h e =
      after_number P script s new v _ (λ n found.
      after_process P script s new p (die_step script s p cause n) (λ r is done.
      after_if P _ (died s p n r.parent) new (λ may.
      change (with_status p n (change_record s p (dead n))) r.parent owed_more
      (at_death s p n (dies p n r is (dying_lives script r n cause may)) h (nat_eq p 2) refl)) done) found) e
  of-first s (event.Notify p) new dies hosts h e =
      after_process P script s new p (notify_step s p) (λ r _ done. after_if P _ _ new (λ _. change s p _ h) done) e
  of-first s (event.Collect p) new dies hosts h e =
      after_process P script s new p (collect_step s p) (λ r _ done. after_if P _ _ new (λ _. h) done) e
  of-first s (event.SetPgid p q g) new dies hosts h e =
      after_numbers P script s new q g _ (λ m n found.
      after_call P script s new p (setpgid_step s p m n)
      (λ r i _ _ done. steps.setpgid_keeps script R s new h p m n r i done) found) e
  of-first s (event.SetSid p) new dies hosts h e =
      after_call P script s new p (setsid_step s p) (λ r i _ _ done. steps.setsid_keeps script R s new h p r i done) e
  of-first s (event.TcSet p g) new dies hosts h e =
      after_number P script s new g _ (λ n found.
      after_call P script s new p (tcset_step s p n)
      (λ r i _ _ done. steps.tcset_keeps script R s new h p n r i done) found) e
  of-first s (event.Flags p f) new dies hosts h e =
      after_number P script s new f _ (λ n found.
      after_call P script s new p (flags_step s p n)
      (λ r i _ _ done. steps.flags_keeps script R s new h p n r i done) found) e
  of-first s (event.Background p signal) new dies hosts h e =
      after_number P script s new signal _ (λ n found.
      after_call P script s new p (background_step s p n) (λ r i _ _ done.
      after_value P (sent_first (check_of s p r i)) (background_by s p r.group n) new
      (λ first _ by. after_if P _ _ new (λ _. change s p (in_call_for (begun r.group n)) h) by) done) found) e
  of-first s (event.BackgroundDone p) new dies hosts h e =
      after_group_step P script s new p (background_done_step s p) (λ r i _ _ done.
      after_value P (background_call r i) (background_done_by s p) new
      (λ call _ by. after_if P _ _ new (λ _. change s p call_ended h) by) done) e
  of-first s (event.Line p n bytes) new dies hosts h e =
      after_call P script s new p (line_step s p n bytes)
      (λ r i _ _ done. steps.line_keeps script R s new h p n bytes r i done) e
  of-first s (event.Write p n bytes) new dies hosts h e =
      after_call P script s new p (write_step s p n bytes)
      (λ r i _ _ done. steps.write_keeps script R s new h p n bytes r i done) e
  of-first s (event.Key p b) new dies hosts h e =
      after_if P (nat_eq p 0 && is_none s.console) (with_key s (after_key s.terminal b)) new
      (λ _. h) e
  of-first s (event.Host p n) new dies hosts h e =
      after_if P (nat_eq p 0 && (not s.host_came && is_host_code s.first_status n)) (record s { host_came = true }) new
      (λ _. hosts p n refl) e

-- The status of the first process's death, once it is kept, stays: that process doesn't die again.
pub status-stays : (script : Script) (s : PosixState) (e : Event) (new : PosixState) (code : ℕ)
    → IsPosixFormed script s → PosixStep script s e new → s.first_status ≡ Some code → new.first_status ≡ Some code
status-stays script s e new code formed step h =
    of-first script (λ status came. status ≡ Some code) s e new (λ p n r is alive first. absurd (
    let kept : death_to_report r.life ≡ s.first_status =
    subst (λ o. IsFirstStatus o s.first_status) (ap (record_of s) (sym (eqb-true p 2 first)) ∙ is) formed.first in
    let f : None ≡ Some code = sym alive ∙ (kept ∙ h) in cc)) (λ p n is. h) h step

-- The host has read no code but by its event.
pub unread-stays : (script : Script) (s : PosixState) (e : Event) (new : PosixState)
    → ((p : ℕ) (n : ℤ) → e ≡ event.Host p n → ⊥) → PosixStep script s e new → s.host_came ≡ false
    → new.host_came ≡ false
unread-stays script s e new other step h =
    of-first script (λ status came. came ≡ false) s e new (λ p n r is alive first. h)
    (λ p n is. absurd (other p n is)) h step
