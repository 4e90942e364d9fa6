-- The calls that tell a process of itself, that fail, or that find nothing keep a state well formed.
use Rattle.std.specs.Prelude.{◌≡◌, ℕ, ℤ, pos, nat_eq, length, ◌&&◌, Some, None, is_some}
use Rattle.w32_base.specs.declared.event.Errno.{Errno}
use Rattle.w32_base.specs.declared.event.ForkCause.{ForkCause}
use Rattle.w32_base.specs.declared.event.ExecCause.{ExecCause}
use Rattle.w32_base.specs.declared.event.Field.{Field}
use Rattle.w32_base.specs.declared.event.Event.TheVariants as event
use Rattle.w32_base.specs.declared.event.Errno.TheVariants as errno
use Rattle.w32_base.specs.declared.instr.Instr.{Instr}
use Rattle.w32_base.specs.declared.instr.Instr.TheVariants as instr
use Rattle.script_spec.specs.declared.script.Script.{Script}
use Rattle.posix_spec.specs.Numbers.{error_result, is_optional_number}
use Rattle.posix_spec.specs.State.{Record, PosixState}
use Rattle.posix_spec.specs.Conditions.{answered, answered_both}
use Rattle.posix_spec.specs.OwnSteps.{told, get_step}
use Rattle.posix_spec.specs.ForkSteps.{is_fork_cause, fork_fail_step, is_exec_cause, exec_result, exec_fail_step}
use Rattle.posix_spec.specs.ForkSteps.{program_named}
use Rattle.posix_spec.specs.Waits.{wait_of, has_nohang, has_looked_at_all, matching}
use Rattle.posix_spec.specs.WaitSteps.{find_nothing, nothing_step, find_no_child, no_child_step}
use Rattle.posix_spec.specs.Refusals.{check_of, refuse_step}
use Rattle.posix_spec.specs.Checks.{is_refused_with}
use Rattle.posix_spec.specs.Step.{posix_step}
use Rattle.posix_spec.specs.WellFormed.{IsWellFormed}
use Rattle.posix_spec.specs.AnswerLaws.{after_none, after_if, after_value, Acts, IsWellFormed-results}
use Rattle.posix_spec.specs.SentLaws.{Acts-calling, after_call}

module _ (script : Script) (s new : PosixState) (p : ℕ) (w : IsWellFormed script s) where
  P : PosixState → Type 0
  P t = IsWellFormed script t

  pub keeps-get : (f : Field) (v : ℤ) → posix_step script s (event.Get p f v) ≡ Some new → IsWellFormed script new
  unfolding posix_step
  keeps-get f v e =
      after_call (IsWellFormed script) script s new p (get_step s p f v)
      (λ r i is c found. after_if (IsWellFormed script) (is_optional_number v (told s p r f i)) (answered s p v) new
      (λ _. IsWellFormed-results script s p v None w (Acts-calling script s p w r i is c)) found) e

  refused : (e : Errno) (r : Record) (i : Instr) → Acts s p → refuse_step s p e r i ≡ Some new → IsWellFormed script new
  refused e r i acts found =
      after_if (IsWellFormed script) (is_refused_with (check_of s p r i) e) (answered s p (error_result e)) new
      (λ _. IsWellFormed-results script s p (error_result e) None w acts) found

  pub keeps-refuse : (e : Errno) → posix_step script s (event.Refuse p e) ≡ Some new → IsWellFormed script new
  unfolding posix_step
  keeps-refuse e step =
      after_call (IsWellFormed script) script s new p (refuse_step s p e)
      (λ r i is c found. refused e r i (Acts-calling script s p w r i is c) found) step

  fork_failed : (cause : ForkCause) (r : Record) (i : Instr) → Acts s p → fork_fail_step s p cause r i ≡ Some new →
      IsWellFormed script new
  fork_failed cause r instr.Fork acts found =
      after_if (IsWellFormed script) (is_fork_cause s p cause) (answered s p (error_result errno.EAGAIN)) new
      (λ _. IsWellFormed-results script s p (error_result errno.EAGAIN) None w acts) found
  fork_failed cause r _ acts found = after_none (IsWellFormed script) new found

  pub keeps-fork_fail : (cause : ForkCause) → posix_step script s (event.ForkFail p cause) ≡ Some new → IsWellFormed
      script new
  unfolding posix_step
  keeps-fork_fail cause e =
      after_call (IsWellFormed script) script s new p (fork_fail_step s p cause)
      (λ r i is c found. fork_failed cause r i (Acts-calling script s p w r i is c) found) e

  exec_failed : (cause : ExecCause) (r : Record) (i : Instr) → Acts s p → exec_fail_step script s p cause r i ≡ Some
      new → IsWellFormed script new
  exec_failed cause r (instr.Exec name) acts found =
      after_if (IsWellFormed script) (is_exec_cause (is_some (program_named script name)) cause)
      (answered s p (exec_result cause)) new
      (λ _. IsWellFormed-results script s p (exec_result cause) None w acts) found
  exec_failed cause r _ acts found = after_none (IsWellFormed script) new found

  pub keeps-exec_fail : (cause : ExecCause) → posix_step script s (event.ExecFail p cause) ≡ Some new → IsWellFormed
      script new
  unfolding posix_step
  keeps-exec_fail cause e =
      after_call (IsWellFormed script) script s new p (exec_fail_step script s p cause)
      (λ r i is c found. exec_failed cause r i (Acts-calling script s p w r i is c) found) e

  pub keeps-nothing : posix_step script s (event.Nothing p) ≡ Some new → IsWellFormed script new
  unfolding posix_step
  keeps-nothing e =
      after_call (IsWellFormed script) script s new p (nothing_step s p)
      (λ r i is c found. after_value (IsWellFormed script) (wait_of p r i) (find_nothing s p r) new
      (λ wait _ done. after_if (IsWellFormed script) (has_nohang wait && has_looked_at_all s r.call wait)
      (answered_both s p (pos 0) (pos 0)) new
      (λ _. IsWellFormed-results script s p (pos 0) (Some (pos 0)) w (Acts-calling script s p w r i is c)) done)
      found) e

  pub keeps-no_child : posix_step script s (event.NoChild p) ≡ Some new → IsWellFormed script new
  unfolding posix_step
  keeps-no_child e =
      after_call (IsWellFormed script) script s new p (no_child_step s p)
      (λ r i is c found. after_value (IsWellFormed script) (wait_of p r i) (find_no_child s p) new
      (λ wait _ done. after_if (IsWellFormed script) (nat_eq (length (matching s wait)) 0)
      (answered s p (error_result errno.ECHILD)) new
      (λ _. IsWellFormed-results script s p (error_result errno.ECHILD) None w (Acts-calling script s p w r i is c))
      done) found) e
