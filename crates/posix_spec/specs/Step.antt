-- The steps of the POSIX machine: one case an event. The state after it, or none where it isn't a step in this state.
use Rattle.std.specs.Prelude.{ℕ, ℤ, nat_eq, if◌then◌else◌, Option}
use Rattle.w32_base.specs.declared.event.Answer.{Answer}
use Rattle.w32_base.specs.declared.event.Event.{Event}
use Rattle.w32_base.specs.declared.event.Event.TheVariants as event
use Rattle.script_spec.specs.declared.script.Script.{Script}
use Rattle.posix_spec.specs.Numbers.{for_value, natural_of}
use Rattle.posix_spec.specs.State.{PosixState}
use Rattle.posix_spec.specs.Conditions.{for_process, for_call, for_group_step}
use Rattle.posix_spec.specs.OwnSteps.{run_step, get_step}
use Rattle.posix_spec.specs.ForkSteps.{fork_step, fork_fail_step, exec_step, exec_fail_step}
use Rattle.posix_spec.specs.WaitSteps.{look_step, block_step, nothing_step, reap_step, report_step, no_child_step}
use Rattle.posix_spec.specs.KillSteps.{kill_step, member_step, group_done_step}
use Rattle.posix_spec.specs.SignalCalls.{mask_step, action_step, suspend_step, return_step}
use Rattle.posix_spec.specs.SignalActs.{deliver_step, discard_step, stop_step, notify_step}
use Rattle.posix_spec.specs.DeathSteps.{die_step, collect_step, host_step}
use Rattle.posix_spec.specs.GroupSteps.{setpgid_step, setsid_step}
use Rattle.posix_spec.specs.TerminalSteps.{tcset_step, flags_step, line_step, write_step, background_step}
use Rattle.posix_spec.specs.TerminalSteps.{background_done_step}
use Rattle.posix_spec.specs.Refusals.{refuse_step}
use Rattle.posix_spec.specs.ConsoleSteps.{key_step, console_member_step, console_done_step}

-- a step that needs its numbers to be natural ones
abbrev pub with_number : ℤ → (ℕ → Option PosixState) → Option PosixState
with_number n step = for_value (natural_of n) step

abbrev pub with_numbers : ℤ → ℤ → (ℕ → ℕ → Option PosixState) → Option PosixState
with_numbers m n step = with_number m (λ a. with_number n (step a))

-- a call for a group of number 0, the console, or of a process
abbrev pub member_of : Script → PosixState → ℕ → ℕ → ℕ → Option PosixState
member_of script s p q signal =
    if nat_eq p 0 then console_member_step s q signal else for_group_step script s p (member_step s p q signal)

abbrev pub group_done_of : Script → PosixState → ℕ → Answer → ℕ → ℕ → Option PosixState
group_done_of script s p answer g signal =
    if nat_eq p 0
    then console_done_step s g signal answer
    else for_group_step script s p (group_done_step s p g signal answer)

unfoldable pub posix_step : Script → PosixState → Event → Option PosixState
posix_step script s (event.Run p n) = for_process s p (run_step script s p n)
posix_step script s (event.Get p field v) = for_call script s p (get_step s p field v)
posix_step script s (event.Fork p c) = with_number c (λ n. for_call script s p (fork_step script s p n))
posix_step script s (event.ForkFail p cause) = for_call script s p (fork_fail_step s p cause)
posix_step script s (event.Exec p name) = for_call script s p (exec_step script s p name)
posix_step script s (event.ExecFail p cause) = for_call script s p (exec_fail_step script s p cause)
posix_step script s (event.Kill p q signal answer) = for_call script s p (kill_step s p q signal answer)
posix_step script s (event.Member p q signal) = with_numbers q signal (member_of script s p)
posix_step script s (event.GroupDone p g signal answer) = with_numbers g signal (group_done_of script s p answer)
posix_step script s (event.Look p c) = with_number c (λ n. for_call script s p (look_step s p n))
posix_step script s (event.Block p) = for_call script s p (block_step s p)
posix_step script s (event.Nothing p) = for_call script s p (nothing_step s p)
posix_step script s (event.Reap p c v) = with_number c (λ n. for_call script s p (reap_step s p v n))
posix_step script s (event.Report p c v) = with_number c (λ n. for_call script s p (report_step s p v n))
posix_step script s (event.NoChild p) = for_call script s p (no_child_step s p)
posix_step script s (event.Refuse p e) = for_call script s p (refuse_step s p e)
posix_step script s (event.Mask p m) = with_number m (λ n. for_call script s p (mask_step s p n))
posix_step script s (event.SetAction p signal a) = with_number signal (λ n. for_call script s p (action_step s p a n))
posix_step script s (event.Suspend p m) = with_number m (λ n. for_call script s p (suspend_step s p n))
posix_step script s (event.Return p) = for_call script s p (return_step s p)
posix_step script s (event.Deliver p signal how) =
    with_number signal (λ n. for_process s p (deliver_step script s p how n))
posix_step script s (event.Discard p signal) = with_number signal (λ n. for_process s p (discard_step s p n))
posix_step script s (event.Stop p signal) = with_number signal (λ n. for_process s p (stop_step s p n))
posix_step script s (event.Die p v cause) = with_number v (λ n. for_process s p (die_step script s p cause n))
posix_step script s (event.Notify p) = for_process s p (notify_step s p)
posix_step script s (event.Collect p) = for_process s p (collect_step s p)
posix_step script s (event.SetPgid p q g) = with_numbers q g (λ a b. for_call script s p (setpgid_step s p a b))
posix_step script s (event.SetSid p) = for_call script s p (setsid_step s p)
posix_step script s (event.TcSet p g) = with_number g (λ n. for_call script s p (tcset_step s p n))
posix_step script s (event.Flags p f) = with_number f (λ n. for_call script s p (flags_step s p n))
posix_step script s (event.Background p signal) = with_number signal (λ n. for_call script s p (background_step s p n))
posix_step script s (event.BackgroundDone p) = for_group_step script s p (background_done_step s p)
posix_step script s (event.Line p n bytes) = for_call script s p (line_step s p n bytes)
posix_step script s (event.Write p n bytes) = for_call script s p (write_step s p n bytes)
posix_step script s (event.Key p b) = key_step s p b
posix_step script s (event.Host p n) = host_step s p n
