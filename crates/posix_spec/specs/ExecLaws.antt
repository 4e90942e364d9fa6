-- A new program keeps a state well formed.
use Rattle.std.specs.Prelude.{◌≡◌, ℕ, zero, suc, ◌-◌, ◌≤◌, true, false, if◌then◌else◌, List, [], ◌∷◌, map, slice_get}
use Rattle.std.specs.Prelude.{Option, Some, None}
use Rattle.std.specs.Option.{unwrap_or}
use Rattle.std.proofs.Common.{refl, sym, ap, subst, ◌∙◌, arith}
use Rattle.std.proofs.lemmas.List.{length-map}
use Rattle.std.proofs.lemmas.Option.{slice_get_within}
use Rattle.w32_base.specs.Names.{is_same}
use Rattle.w32_base.specs.declared.event.Event.TheVariants as event
use Rattle.w32_base.specs.declared.instr.Action.{Action}
use Rattle.w32_base.specs.declared.instr.Action.TheVariants as action
use Rattle.w32_base.specs.declared.instr.Instr.{Instr}
use Rattle.w32_base.specs.declared.instr.Instr.TheVariants as instr
use Rattle.w32_base.specs.declared.setup.Program.{Program}
use Rattle.script_spec.specs.declared.script.Script.{Script}
use Rattle.vm_spec.specs.Image.{Image}
use Rattle.vm_spec.specs.NewImage.{new_image}
use Rattle.posix_spec.specs.State.{Numbers, Record, PosixState}
use Rattle.posix_spec.specs.Pending.{action_in}
use Rattle.posix_spec.specs.Records.{change_record}
use Rattle.posix_spec.specs.ForkSteps.{NumberedProgram, program_from, program_named, action_after_exec, replaced}
use Rattle.posix_spec.specs.ForkSteps.{exec_to, exec_step}
use Rattle.posix_spec.specs.Step.{posix_step}
use Rattle.posix_spec.specs.Ranges.{HasRanges}
use Rattle.posix_spec.specs.LocalLaws.{IsImage-new}
use Rattle.posix_spec.specs.WellFormed.{IsImage, IsWellFormedRecord, IsWellFormed}
use Rattle.posix_spec.specs.KeepLaws.{IsSound, Keeps, IsWellFormed-change}
use Rattle.posix_spec.specs.CallLaws.{IsActing, IsSound-ended, none_some}
use Rattle.posix_spec.specs.AnswerLaws.{after_none, after_some, after_test, Acts}
use Rattle.posix_spec.specs.SentLaws.{Acts-calling, after_call}

-- ---- the program of a name

record IsNumbered (k : ℕ) (programs : List Program) (found : NumberedProgram) : Type 0 where
  from : k ≤ found.number
  is : slice_get programs (found.number - k) ≡ Some found.program

later_is : (k : ℕ) (program : Program) (rest : List Program) (found : NumberedProgram) → IsNumbered (suc k) rest
    found → IsNumbered k (program ∷ rest) found
later_is k program rest found h =
    let step : found.number - k ≡ suc (found.number - suc k) = omega (arith, h.from) in
    record { from = omega (arith, h.from); is = ap (slice_get (program ∷ rest)) step ∙ h.is }

program_is : (k : ℕ) (programs : List Program) (name : List ℕ) (found : NumberedProgram) → program_from k programs
    name ≡ Some found → IsNumbered k programs found
program_is k [] name found e = absurd (none_some found e)
program_is k (program ∷ rest) name found e =
    elim (is_same program.name name) as (λ b.
    (if b then Some (record { number = k; program = program }) else program_from (suc k) rest name) ≡ Some found →
    IsNumbered k (program ∷ rest) found) [
      | true ↦ λ here.
          let first : NumberedProgram = record { number = k; program = program } in
          let none : k - k ≡ 0 = omega arith in
          subst (IsNumbered k (program ∷ rest)) (ap (λ o. unwrap_or o first) here)
          (record { from = omega arith; is = ap (slice_get (program ∷ rest)) none })
      | false ↦ λ there. later_is k program rest found (program_is (suc k) rest name found there)
    ] e

new_is : (script : Script) (ranges : HasRanges script) (name : List ℕ) (found : NumberedProgram) → program_named
    script name ≡ Some found →
    IsImage script (new_image found.number found.program)
new_is script ranges name found e =
    let h = program_is 0 script.setup.programs name found e in
    let same : found.number - 0 ≡ found.number = omega arith in
    let is : slice_get script.setup.programs found.number ≡ Some found.program = ap (slice_get script.setup.programs)
    (sym same) ∙ h.is in
    IsImage-new script found.number found.program
    (omega (arith, slice_get_within script.setup.programs found.number found.program is, ranges.few_programs)) is

-- ---- actions after an exec

action_mapped : (actions : List Action) (k : ℕ) →
    unwrap_or (slice_get (map action_after_exec actions) k) action.Default ≡ action_after_exec
    (unwrap_or (slice_get actions k) action.Default)
action_mapped [] k = refl
action_mapped (a ∷ rest) zero = refl
action_mapped (a ∷ rest) (suc k) = action_mapped rest k

default_mapped : (actions : List Action) (s : ℕ) → action_in actions s ≡ action.Default → action_in
    (map action_after_exec actions) s ≡ action.Default
default_mapped actions s is = action_mapped actions (s - 1) ∙ ap action_after_exec is

module _ (script : Script) (used : Numbers) (p : ℕ) (image : Image) (r : Record)
    (w : IsWellFormedRecord script used p r) (a : IsActing r) (h : IsImage script image) where
  Keeps-replaced : Keeps script used p r (replaced image r)
  Keeps-replaced =
      let changed : Record = record r { execd = true; actions = map action_after_exec r.actions } in
      let sound : IsSound script used p changed = record {
        numbers = w.numbers;
        lives = w.lives;
        notes = w.notes;
        signals = record {
          pending_signals = w.signals.pending_signals;
          lost_signals = w.signals.lost_signals;
          is_mask = w.signals.is_mask;
          saved_mask = w.signals.saved_mask;
          action_count = length-map r.actions action_after_exec ∙ w.signals.action_count;
          kill_action = default_mapped r.actions 9 w.signals.kill_action;
          stop_action = default_mapped r.actions 19 w.signals.stop_action;
        };
        runs = w.runs;
        calls = w.calls;
      } in
      record {
        sound = IsSound-ended script used p changed image sound (record { running = a.running; unsaved = a.unsaved }) h;
        place = record { parent = refl; group = refl; session = refl; death = refl };
      }

module _ (script : Script) (s new : PosixState) (p : ℕ) (w : IsWellFormed script s) (ranges : HasRanges script) where
  replaces : (name : List ℕ) (o : Option NumberedProgram) → program_named script name ≡ o → Acts s p → exec_to s p
      o ≡ Some new → IsWellFormed script new
  replaces name None is acts found = after_none (IsWellFormed script) new found
  replaces name (Some program) is acts found =
      after_some (IsWellFormed script) (change_record s p (replaced (new_image program.number program.program))) new
      (IsWellFormed-change script s p (replaced (new_image program.number program.program)) w
      (λ old there good. Keeps-replaced script s.used p (new_image program.number program.program) old good
      (acts old there) (new_is script ranges name program is))) found

  executes : (name : List ℕ) (r : Record) (i : Instr) → Acts s p → exec_step script s p name r i ≡ Some new →
      IsWellFormed script new
  executes name r (instr.Exec wanted) acts found =
      after_test (IsWellFormed script) (is_same wanted name) (exec_to s p (program_named script name)) new
      (λ _ to. replaces name (program_named script name) refl acts to) found
  executes name r _ acts found = after_none (IsWellFormed script) new found

  pub keeps-exec : (name : List ℕ) → posix_step script s (event.Exec p name) ≡ Some new → IsWellFormed script new
  unfolding posix_step
  keeps-exec name e =
      after_call (IsWellFormed script) script s new p (exec_step script s p name)
      (λ r i is c done. executes name r i (Acts-calling script s p w r i is c) done) e
