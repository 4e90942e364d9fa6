-- The POSIX steps of calls that a look answers at once: getpid, and a kill that is refused.
use Rattle.std.proofs.Common.{◌≡◌, ◌⊎◌, inl, inr, ℕ, ◌+◌, ◌≤◌, ℤ, pos, negsuc, true, false}
use Rattle.std.proofs.Common.{if◌then◌else◌, List, Option, Some, None, refl, sym, ap, ◌∙◌, le-leb}
use Rattle.std.specs.Prelude.{is_some}
use Rattle.w32_base.specs.declared.event.Answer.TheVariants.{Zero, Error}
use Rattle.w32_base.specs.declared.event.Errno.{Errno}
use Rattle.w32_base.specs.declared.event.Errno.TheVariants as errno
use Rattle.w32_base.specs.declared.event.Event.TheVariants as event
use Rattle.w32_base.specs.declared.event.Field.TheVariants as field
use Rattle.w32_base.specs.declared.instr.Instr.TheVariants as instr
use Rattle.w32_base.specs.declared.instr.Operand.{Operand}
use Rattle.script_spec.specs.declared.script.Script.{Script}
use Rattle.vm_spec.specs.Image.{Image, value_of}
use Rattle.vm_spec.specs.Step.{CallInstruction}
use Rattle.win32_spec.specs.LookupLaws.{same}
use Rattle.posix_spec.specs.Conditions.{answered}
use Rattle.posix_spec.specs.GroupCalls.{killing_signal}
use Rattle.posix_spec.specs.KillSteps.{One, Invalid, target_of, kill_answer, killed, kill_step}
use Rattle.posix_spec.specs.Numbers.{is_same_number, is_same_answer, error_result}
use Rattle.posix_spec.specs.OwnSteps.{get_step}
use Rattle.posix_spec.specs.Records.{changed_at}
use Rattle.posix_spec.specs.Run.{PosixStep}
use Rattle.posix_spec.specs.Sending.{generated, owed_for}
use Rattle.posix_spec.specs.State.{Record, record_of}
use Rattle.posix_spec.specs.Step.{posix_step}
use Rattle.layer_spec.specs.Moment.{Moment, Seen}
use Rattle.kill_calls.specs.KillStart.{has_row}
use Rattle.world_spec.specs.AnswerLawsSteps.{next-calls, call-steps}
use Rattle.world_spec.specs.AnswerLawsTurns.{IsOwnEvent}
use Rattle.world_spec.specs.Notes.{IsAtNext}
use Rattle.world_spec.specs.Sound.{IsSoundMoment}

pub pid_event : (script : Script) (p : ℕ) → IsOwnEvent script p (event.Get p field.Pid (pos p))
pid_event script p = record { no_key = λ q b e. absurd (cc); given = refl; shown = λ step stands. stands }

pub kill_refused : (script : Script) (p : ℕ) (q signal : ℤ) (e : Errno)
    → IsOwnEvent script p (event.Kill p q signal (Error e))
kill_refused script p q signal e =
    record { no_key = λ a b f. absurd (cc); given = refl; shown = λ step stands. stands }

same_value : (z : ℤ) → is_same_number z z ≡ true
same_value (pos n) = same n n refl
same_value (negsuc n) = same n n refl

module _ {A : Type 0} (script : Script) (now : Moment A) (w row : ℕ) where
  -- a process is told its own number
  pub getpid-steps : IsAtNext script now w row (CallInstruction instr.GetPid)
      → PosixStep script now.posix (event.Get (row + 1) field.Pid (pos (row + 1)))
      (answered now.posix (row + 1) (pos (row + 1)))
  unfolding posix_step
  getpid-steps at =
      call-steps script now.posix (row + 1) at.noted instr.GetPid
      (get_step now.posix (row + 1) field.Pid (pos (row + 1))) at.found (next-calls script now w row instr.GetPid at)
      ∙ rw (same (row + 1) (row + 1) refl) refl

  module _ (target signal : Operand) (at : IsAtNext script now w row (CallInstruction (instr.Kill target signal)))
      (image : Image) (found : at.noted.image ≡ image) where
    -- a kill that is refused with this error, and sends nothing
    refused : (e : Errno) → is_same_answer (Error e) (Error e) ≡ true
        → kill_answer now.posix (killing_signal (value_of image signal)) (target_of (value_of image target))
        ≡ Some (Error e)
        → killed now.posix (killing_signal (value_of image signal)) (target_of (value_of image target)) ≡ now.posix
        → PosixStep script now.posix
        (event.Kill (row + 1) (value_of image target) (value_of image signal) (Error e))
        (answered now.posix (row + 1) (error_result e))
    unfolding posix_step
    refused e same_error answer nothing =
        call-steps script now.posix (row + 1) at.noted (instr.Kill target signal)
        (kill_step now.posix (row + 1) (value_of image target) (value_of image signal) (Error e)) at.found
        (next-calls script now w row (instr.Kill target signal) at)
        ∙ (rw (
          found,
          same_value (value_of image target),
          same_value (value_of image signal),
          answer,
          same_error,
          nothing,
        )
        refl)

    -- a signal that is none, or a target that is none
    pub invalid-steps : (killing_signal (value_of image signal) ≡ None) ⊎ (target_of (value_of image target) ≡ Invalid)
        → PosixStep script now.posix
        (event.Kill (row + 1) (value_of image target) (value_of image signal) (Error errno.EINVAL))
        (answered now.posix (row + 1) (error_result errno.EINVAL))
    invalid-steps which = elim which [
      | inl no_signal ↦ refused errno.EINVAL refl
          (ap (λ o. kill_answer now.posix o (target_of (value_of image target))) no_signal)
          (ap (λ o. killed now.posix o (target_of (value_of image target))) no_signal)
      | inr no_target ↦ refused errno.EINVAL refl
          (ap (kill_answer now.posix (killing_signal (value_of image signal))) no_target
          ∙ answers (killing_signal (value_of image signal)))
          (ap (killed now.posix (killing_signal (value_of image signal))) no_target
          ∙ nothing (killing_signal (value_of image signal)))
    ]
      where
        answers : (o : Option ℕ) → kill_answer now.posix o Invalid ≡ Some (Error errno.EINVAL)
        answers None = refl
        answers (Some n) = refl

        nothing : (o : Option ℕ) → killed now.posix o Invalid ≡ now.posix
        nothing None = refl
        nothing (Some n) = refl

-- a number that none of so many rows has is no process's
no_row : (rows q : ℕ) → 2 ≤ q → q ≤ rows + 1 → has_row rows q ≡ false → ⊥
no_row rows q low high none =
    let e : has_row rows q ≡ true = rw (le-leb 2 q low, le-leb q (rows + 1) high) refl in
    let f : true ≡ false = sym e ∙ none in absurd (cc)

module _ {A : Type 0} (script : Script) (past : List (Seen A)) (now : Moment A) (w row : ℕ) (target signal : Operand)
    (sound : IsSoundMoment script past now)
    (at : IsAtNext script now w row (CallInstruction (instr.Kill target signal)))
    (image : Image) (found : at.noted.image ≡ image) (q n : ℕ) where
  absent : has_row script.setup.limits.rows q ≡ false → record_of now.posix q ≡ None
  absent none = by_record (record_of now.posix q) refl
    where
      by_record : (o : Option Record) → record_of now.posix q ≡ o → o ≡ None
      by_record None e = refl
      by_record (Some r) e = absurd (
          let range = sound.posix.numbers q (sound.posix.each q r e).numbers.number in
          no_row script.setup.limits.rows q range.0 range.1 none)

  -- a target that none of the rows has
  pub absent-steps : killing_signal (value_of image signal) ≡ Some n → target_of (value_of image target) ≡ One q
      → has_row script.setup.limits.rows q ≡ false
      → PosixStep script now.posix (event.Kill (row + 1) (value_of image target) (value_of image signal)
      (Error errno.ESRCH)) (answered now.posix (row + 1) (error_result errno.ESRCH))
  absent-steps is_signal is_target none =
      let gone = absent none in
      refused script now w row target signal at image found errno.ESRCH refl
      (ap (λ o. kill_answer now.posix o (target_of (value_of image target))) is_signal
      ∙ (ap (kill_answer now.posix (Some n)) is_target
      ∙ ap (λ o. if is_some o then Some Zero else Some (Error errno.ESRCH)) gone))
      (ap (λ o. killed now.posix o (target_of (value_of image target))) is_signal
      ∙ (ap (killed now.posix (Some n)) is_target
      ∙ ap (λ o. owed_for n o (changed_at now.posix q (generated n) o)) gone))
