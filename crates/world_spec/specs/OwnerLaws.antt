-- An own event is that of a live process; so a number that was used, and isn't that of a live process, never is again.
use Rattle.std.specs.Prelude.{◌≡◌, ◌≢◌, ℕ, ℤ, true, false, ◌&&◌, not, nat_eq, if◌then◌else◌, Option, Some}
use Rattle.std.proofs.Common.{inl, inr, refl, sym, ap, ◌∙◌, true≢false, arith}
use Rattle.std.proofs.lemmas.Bool.{cases_eq}
use Rattle.w32_base.specs.declared.event.Event.{Event}
use Rattle.w32_base.specs.declared.instr.Instr.{Instr}
use Rattle.w32_base.specs.declared.event.Event.TheVariants as event
use Rattle.script_spec.specs.declared.script.Script.{Script}
use Rattle.vm_spec.specs.Block.{block_length}
use Rattle.win32_spec.specs.LookupLaws.{differs}
use Rattle.posix_spec.specs.State.{Life, Running, Stopped, Zombie, Record, PosixState, record_of}
use Rattle.posix_spec.specs.Pending.{action_of, is_live, is_running, stops}
use Rattle.posix_spec.specs.Conditions.{code_of, for_call, for_group_step, is_group_call, may_act, may_go_on}
use Rattle.posix_spec.specs.ConsoleSteps.{console_done_step, console_member_step}
use Rattle.posix_spec.specs.ForkSteps.{fork_step, fork_fail_step, exec_step, exec_fail_step}
use Rattle.posix_spec.specs.GroupSteps.{setpgid_step, setsid_step}
use Rattle.posix_spec.specs.KillSteps.{group_done_step, kill_step, member_step}
use Rattle.posix_spec.specs.OwnSteps.{get_step, run_block_step, run_step}
use Rattle.posix_spec.specs.Refusals.{refuse_step}
use Rattle.posix_spec.specs.SignalActs.{is_deliverable, deliver_by, deliver_step, stop_step}
use Rattle.posix_spec.specs.SignalCalls.{mask_step, action_step, suspend_step, return_step}
use Rattle.posix_spec.specs.TerminalSteps.{tcset_step, flags_step, line_step, write_step}
use Rattle.posix_spec.specs.TerminalSteps.{background_step, background_done_step}
use Rattle.posix_spec.specs.WaitSteps.{look_step, block_step, nothing_step, reap_step, report_step, no_child_step}
use Rattle.posix_spec.specs.Step.{member_of, group_done_of, posix_step, with_number}
use Rattle.posix_spec.specs.Run.{PosixStep}
use Rattle.posix_spec.specs.AnswerLaws.{after_if, after_test}
use Rattle.posix_spec.specs.SentLaws.{after_process, after_call, after_group_step, after_number, after_numbers}
use Rattle.posix_spec.specs.SignalLaws.{first_of}
use Rattle.posix_spec.specs.WellFormed.{IsUsed, IsWellFormed}
use Rattle.layer_spec.specs.Owners.{owner_of}
use Rattle.world_spec.specs.NotesEvents.{gone-stays}

-- there is a live process of this number
abbrev pub LivesAt : PosixState → ℕ → Type 0
LivesAt s p = (r : Record) × (record_of s p ≡ Some r) × (is_live r.life ≡ true)

running_lives : (l : Life) → is_running l ≡ true → is_live l ≡ true
running_lives Running e = refl
running_lives (Stopped signal) e = absurd (true≢false (sym e))
running_lives (Zombie v) e = absurd (true≢false (sym e))

module _ (script : Script) (s new : PosixState) where
  calls : (a : ℕ) (step : Record → Instr → Option PosixState) → for_call script s a step ≡ Some new → LivesAt s a
  calls a step e = after_call (λ _. LivesAt s a) script s new a step
      (λ r i is c done. (r, is, running_lives r.life c.running)) e

  steps : (a : ℕ) (step : Record → Instr → Option PosixState) → for_group_step script s a step ≡ Some new → LivesAt s a
  steps a step e = after_group_step (λ _. LivesAt s a) script s new a step
      (λ r i is c done. (r, is, running_lives r.life c.running)) e

  numbered : (a : ℕ) (n : ℤ) (step : ℕ → Record → Instr → Option PosixState)
      → with_number n (λ m. for_call script s a (step m)) ≡ Some new → LivesAt s a
  numbered a n step e = after_number (λ _. LivesAt s a) script s new n _ (λ m found. calls a (step m) found) e

  -- where it isn't the console's
  process_step : (a : ℕ) (x y : Option PosixState) → a ≢ 0 → (if nat_eq a 0 then x else y) ≡ Some new → y ≡ Some new
  process_step a x y owned e = sym (ap (λ b. if b then x else y) (differs a 0 owned)) ∙ e

  deliverable_lives : (r : Record) (n : ℕ) → is_deliverable r n ≡ true → is_live r.life ≡ true
  deliverable_lives r n e = running_lives r.life (first_of (is_running r.life) _ e)

  -- An own event is that of a live process.
  pub owner-lives : (e : Event) → owner_of e ≢ 0 → PosixStep script s e new → LivesAt s (owner_of e)
  unfolding posix_step
  owner-lives (event.Run a n) owned e =
      after_process (λ _. LivesAt s a) script s new a (run_step script s a n) (λ r is done.
      after_test (λ _. LivesAt s a) (may_act script r)
      (run_block_step script s a n (block_length (code_of script r.image) r.image)) new
      (λ acts _. (r, is, running_lives r.life (first_of (is_running r.life) _ (first_of (may_go_on r) _ acts)))) done) e
  owner-lives (event.Get a field v) owned e = calls a (get_step s a field v) e
  owner-lives (event.Fork a c) owned e = numbered a c (fork_step script s a) e
  owner-lives (event.ForkFail a cause) owned e = calls a (fork_fail_step s a cause) e
  owner-lives (event.Exec a name) owned e = calls a (exec_step script s a name) e
  owner-lives (event.ExecFail a cause) owned e = calls a (exec_fail_step script s a cause) e
  owner-lives (event.Kill a q signal answer) owned e = calls a (kill_step s a q signal answer) e
  owner-lives (event.Member a q signal) owned e =
      after_numbers (λ _. LivesAt s a) script s new q signal (member_of script s a) (λ m n found.
      steps a (member_step s a m n) (process_step a (console_member_step s m n) _ owned found)) e
  owner-lives (event.GroupDone a g signal answer) owned e =
      after_numbers (λ _. LivesAt s a) script s new g signal (group_done_of script s a answer) (λ m n found.
      steps a (group_done_step s a m n answer) (process_step a (console_done_step s m n answer) _ owned found)) e
  owner-lives (event.Look a c) owned e = numbered a c (look_step s a) e
  owner-lives (event.Block a) owned e = calls a (block_step s a) e
  owner-lives (event.Nothing a) owned e = calls a (nothing_step s a) e
  owner-lives (event.Reap a c v) owned e = numbered a c (reap_step s a v) e
  owner-lives (event.Report a c v) owned e = numbered a c (report_step s a v) e
  owner-lives (event.NoChild a) owned e = calls a (no_child_step s a) e
  owner-lives (event.Refuse a error) owned e = calls a (refuse_step s a error) e
  owner-lives (event.Mask a m) owned e = numbered a m (mask_step s a) e
  owner-lives (event.SetAction a signal x) owned e = numbered a signal (action_step s a x) e
  owner-lives (event.Suspend a m) owned e = numbered a m (suspend_step s a) e
  owner-lives (event.Return a) owned e = calls a (return_step s a) e
  owner-lives (event.Deliver a signal how) owned e =
      after_number (λ _. LivesAt s a) script s new signal _ (λ n found.
      after_process (λ _. LivesAt s a) script s new a (deliver_step script s a how n) (λ r is done.
      after_test (λ _. LivesAt s a) (is_deliverable r n && not (is_group_call r.call))
      (deliver_by script s a n how r (action_of r n)) new
      (λ acts _. (r, is, deliverable_lives r n (first_of (is_deliverable r n) _ acts))) done) found) e
  owner-lives (event.Discard a signal) owned e = absurd (owned refl)
  owner-lives (event.Stop a signal) owned e =
      after_number (λ _. LivesAt s a) script s new signal _ (λ n found.
      after_process (λ _. LivesAt s a) script s new a (stop_step s a n) (λ r is done.
      after_if (λ _. LivesAt s a) (is_deliverable r n && (not (is_group_call r.call) && stops r n)) _ new
      (λ acts. (r, is, deliverable_lives r n (first_of (is_deliverable r n) _ acts))) done) found) e
  owner-lives (event.Die a v cause) owned e = absurd (owned refl)
  owner-lives (event.Notify a) owned e = absurd (owned refl)
  owner-lives (event.Collect a) owned e = absurd (owned refl)
  owner-lives (event.SetPgid a q g) owned e =
      after_numbers (λ _. LivesAt s a) script s new q g _ (λ m n found. calls a (setpgid_step s a m n) found) e
  owner-lives (event.SetSid a) owned e = calls a (setsid_step s a) e
  owner-lives (event.TcSet a g) owned e = numbered a g (tcset_step s a) e
  owner-lives (event.Flags a f) owned e = numbered a f (flags_step s a) e
  owner-lives (event.Background a signal) owned e = numbered a signal (background_step s a) e
  owner-lives (event.BackgroundDone a) owned e = steps a (background_done_step s a) e
  owner-lives (event.Line a n bytes) owned e = calls a (line_step s a n bytes) e
  owner-lives (event.Write a n bytes) owned e = calls a (write_step s a n bytes) e
  owner-lives (event.Key a b) owned e = absurd (owned refl)
  owner-lives (event.Host a n) owned e = absurd (owned refl)

  -- A number that was used, and isn't that of a live process, isn't after any step.
  pub dead-stays : (e : Event) → IsWellFormed script s → PosixStep script s e new → (p : ℕ) → IsUsed s.used p
      → ((r : Record) → record_of s p ≡ Some r → is_live r.life ≡ false)
      → (r : Record) → record_of new p ≡ Some r → is_live r.life ≡ false
  dead-stays e formed moves p used dead r here = elim (cases_eq (owner_of e) p) [
    | inr other ↦ gone-stays script s e new moves p other used dead r here
    | inl own ↦ absurd (
        let from = (formed.numbers p used).0 in
        let lives = owner-lives e (λ none. omega (arith, from, own, none)) moves in
        true≢false (sym lives.2 ∙ dead lives.0 (ap (record_of s) (sym own) ∙ lives.1)))
  ]
