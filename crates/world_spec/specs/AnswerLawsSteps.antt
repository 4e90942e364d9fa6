-- The POSIX steps of a process that is at a call: what is next may act, and the step is that of the call.
use Rattle.std.proofs.Common.{◌≡◌, ℕ, ℤ, true, Option, Some, None, refl, ap, ◌∙◌}
use Rattle.w32_base.specs.declared.instr.Instr.{Instr}
use Rattle.script_spec.specs.declared.script.Script.{Script}
use Rattle.vm_spec.specs.Step.{LocalInstruction, CallInstruction}
use Rattle.posix_spec.specs.Conditions.{may_act, own_call, for_process, for_call, with_results, answered}
use Rattle.posix_spec.specs.Numbers.{for_value}
use Rattle.posix_spec.specs.Records.{with_record}
use Rattle.posix_spec.specs.RecordLaws.{record_of-change_record}
use Rattle.posix_spec.specs.State.{Record, PosixState, record_of}
use Rattle.layer_spec.specs.Moment.{Moment}
use Rattle.world_spec.specs.Notes.{IsAtNext}
use Rattle.world_spec.specs.OwnChangesRows.{KeepsShownRecord}

module _ {A : Type 0} (script : Script) (now : Moment A) (w row : ℕ) where
  -- The process is at a call: its own events belong to that call.
  pub next-calls : (i : Instr) → (at : IsAtNext script now w row (CallInstruction i))
      → own_call script at.noted ≡ Some i
  next-calls i at = rw (at.runs, at.not_due, at.call, at.blocked, at.next_is) refl

  -- It is at a local instruction: it may go on with a block.
  pub next-runs : (at : IsAtNext script now w row LocalInstruction) → may_act script at.noted ≡ true
  next-runs at = rw (at.runs, at.not_due, at.call, at.blocked) refl

-- a step by the record
pub process-steps : (s : PosixState) (p : ℕ) (r : Record) (step : Record → Option PosixState) → record_of s p ≡ Some r
    → for_process s p step ≡ step r
process-steps s p r step found = ap (λ o. for_value o step) found

-- and by the record and its call
pub call-steps : (script : Script) (s : PosixState) (p : ℕ) (r : Record) (i : Instr)
    (step : Record → Instr → Option PosixState) → record_of s p ≡ Some r → own_call script r ≡ Some i
    → for_call script s p step ≡ step r i
call-steps script s p r i step found acts =
    process-steps s p r (λ x. for_value (own_call script x) (step x)) found ∙ ap (λ o. for_value o (step r)) acts

-- A call that has its result keeps what words and cygheap show.
pub result-shown : (r0 : ℤ) (r : Record) → KeepsShownRecord r (with_results r0 None r)
result-shown r0 r = record {
  parent = refl;
  group = refl;
  session = refl;
  terminal = refl;
  execd = refl;
  life = refl;
  report = refl;
  pending = refl;
  mask = refl;
  saved = refl;
  actions = refl;
}

-- the state after it
pub answered-is : (s : PosixState) (p : ℕ) (r0 : ℤ) (r : Record) → record_of s p ≡ Some r
    → answered s p r0 ≡ with_record s p (with_results r0 None r)
answered-is s p r0 r found = record_of-change_record s p (with_results r0 None) r found
