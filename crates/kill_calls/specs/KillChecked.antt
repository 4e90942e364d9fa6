-- A kill for a check only is a step of the POSIX machine that answers the caller and leaves all else as it is.
use Rattle.std.proofs.Common.{◌≡◌, ℕ, Bool, true, false, ◌&&◌, nat_eq, if◌then◌else◌, cond, pos, Option, Some, None}
use Rattle.std.proofs.Common.{is_some, refl, sym, ap, ◌∙◌}
use Rattle.std.proofs.lemmas.Bool.{eqb-true}
use Rattle.std.specs.Cmp.{nat_cmp_total}
use Rattle.std.specs.FinMap as map
use Rattle.w32_base.specs.declared.event.Answer.{Answer}
use Rattle.w32_base.specs.declared.event.Answer.TheVariants.{Zero, Error}
use Rattle.w32_base.specs.declared.event.Errno.TheVariants.{ESRCH}
use Rattle.w32_base.specs.declared.event.Event.TheVariants as event
use Rattle.w32_base.specs.declared.instr.Instr.TheVariants as instr
use Rattle.w32_base.specs.declared.instr.Operand.{Operand}
use Rattle.script_spec.specs.declared.script.Script.{Script}
use Rattle.vm_spec.specs.Image.{value_of}
use Rattle.win32_spec.specs.LookupLaws.{same}
use Rattle.posix_spec.specs.Conditions.{answered, own_call}
use Rattle.posix_spec.specs.KillSteps.{kill_step}
use Rattle.posix_spec.specs.Numbers.{answer_result}
use Rattle.posix_spec.specs.Pending.{has_deliverable}
use Rattle.posix_spec.specs.RecordLaws.{record_of-with_record}
use Rattle.posix_spec.specs.Records.{settled, with_record, changed_at}
use Rattle.posix_spec.specs.Run.{PosixStep}
use Rattle.posix_spec.specs.Sending.{generated, owed_for, sent}
use Rattle.posix_spec.specs.State.{Record, PosixState, record_of}
use Rattle.posix_spec.specs.Step.{posix_step}
use Rattle.posix_spec.specs.WellFormed.{IsWellFormed}
use Rattle.world_spec.specs.AnswerLawsSteps.{call-steps}

-- a record in which no signal goes first where none is deliverable is as it is written
settled_same : (r : Record) → (r.due ≡ true → has_deliverable r ≡ true) → settled r ≡ r
settled_same r h = ap (λ b. record r { due = b }) (by_due r.due h)
  where
    by_due : (b : Bool) → (b ≡ true → has_deliverable r ≡ true) → (b && has_deliverable r) ≡ b
    by_due true h = h refl
    by_due false h = refl

-- a process that is written as it was leaves the state
written_same : (s : PosixState) (q : ℕ) (r : Record) → record_of s q ≡ Some r → settled r ≡ r → with_record s q r ≡ s
written_same s q r found same_record =
    ap (λ m. record s { records = m })
    (map.same_map nat_cmp_total map.nat_cmp-IsAntisymmetric (map.insert s.records q (settled r)) s.records
    (λ k. record_of-with_record s q r k ∙ by_test k (nat_eq k q) refl))
  where
    by_test : (k : ℕ) (b : Bool) → nat_eq k q ≡ b → cond b (Some (settled r)) (record_of s k) ≡ record_of s k
    by_test k true e =
        ap (λ x. Some x) same_record ∙ (sym found ∙ ap (record_of s) (sym (eqb-true k q e)))
    by_test k false e = refl

-- Signal 0 is none: what is sent leaves the state.
pub sent-none : (script : Script) (s : PosixState) (q : ℕ) → IsWellFormed script s → sent s q 0 ≡ s
sent-none script s q formed =
    by_target (record_of s q) (changed_at s q (generated 0) (record_of s q)) ∙ by_record (record_of s q) refl
  where
    by_target : (o : Option Record) (t : PosixState) → owed_for 0 o t ≡ t
    by_target None t = refl
    by_target (Some r) t = refl

    by_record : (o : Option Record) → record_of s q ≡ o → changed_at s q (generated 0) o ≡ s
    by_record None e = refl
    by_record (Some r) e = written_same s q r e (settled_same r (formed.each q r e).goes_first)

-- what a kill for a check only answers
abbrev pub check_answer : Bool → Answer
check_answer there = if there then Zero else Error ESRCH

pub kill-checks : (script : Script) (s : PosixState) (p q : ℕ) (r : Record) (target signal : Operand)
    → IsWellFormed script s → record_of s p ≡ Some r → own_call script r ≡ Some (instr.Kill target signal)
    → nat_eq q 0 ≡ false → value_of r.image target ≡ pos q → value_of r.image signal ≡ pos 0
    → PosixStep script s (event.Kill p (pos q) (pos 0) (check_answer (is_some (record_of s q))))
    (answered s p (answer_result (check_answer (is_some (record_of s q)))))
unfolding posix_step
kill-checks script s p q r target signal formed found call some_number target_is signal_is =
    call-steps script s p r (instr.Kill target signal)
    (kill_step s p (pos q) (pos 0) (check_answer (is_some (record_of s q)))) found call
    ∙ by_answer (is_some (record_of s q)) refl
  where
    by_answer : (b : Bool) → is_some (record_of s q) ≡ b
        → kill_step s p (pos q) (pos 0) (check_answer b) r (instr.Kill target signal)
        ≡ Some (answered s p (answer_result (check_answer b)))
    by_answer true e =
        rw (target_is, signal_is, same q q refl, some_number, e)
        (ap (λ t. Some (answered t p (answer_result Zero))) (sent-none script s q formed))
    by_answer false e =
        rw (target_is, signal_is, same q q refl, some_number, e)
        (ap (λ t. Some (answered t p (answer_result (Error ESRCH)))) (sent-none script s q formed))
