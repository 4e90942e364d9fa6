-- A valid script keeps the ranges that the POSIX machine needs of it; so the states of its runs are well formed.
use Rattle.std.specs.Prelude.{◌≡◌, ℕ, ◌<◌, Bool, true, false, nat_le, nat_lt, List, length, slice_index_or}
use Rattle.std.specs.List.{list_all}
use Rattle.std.proofs.Common.{refl, sym, ◌∙◌, true≢false, leb-true}
use Rattle.std.proofs.lemmas.List.Folds.{list_all_at}
use Rattle.w32_base.specs.declared.event.Event.{Event}
use Rattle.w32_base.specs.declared.instr.Instr.{Instr}
use Rattle.w32_base.specs.declared.instr.Instr.TheVariants as instr
use Rattle.w32_base.specs.declared.setup.Program.{Program}
use Rattle.script_spec.specs.declared.script.Script.{Script}
use Rattle.script_spec.specs.Validity.{is_valid_instr, is_valid_program, is_valid_operand, is_within, IsValid}
use Rattle.vm_spec.specs.SizeLaws.{writes_register}
use Rattle.posix_spec.specs.State.{PosixState}
use Rattle.posix_spec.specs.Opening.{opening_of}
use Rattle.posix_spec.specs.Run.{PosixRun}
use Rattle.posix_spec.specs.SignalLaws.{first_of, second_of}
use Rattle.posix_spec.specs.Ranges.{WritesRegisters, HasRanges}
use Rattle.posix_spec.specs.WellFormed.{IsWellFormed}
use Rattle.posix_spec.specs.StepLaws.{HaveByteKeys, IsWellFormed-opening_run}

passes_at : {X : Type 0} (p : X → Bool) (xs : List X) (i : ℕ) (d : X) → i < length xs → list_all p xs ≡ true →
    (b : Bool) → p (slice_index_or xs i d) ≡ b → b ≡ true
passes_at p xs i d low all true e = refl
passes_at p xs i d low all false e = absurd (true≢false (sym all ∙ list_all_at p xs i d low e))

valid_writes : (i : Instr) → is_valid_instr i ≡ true → writes_register i ≡ true
valid_writes (instr.Set r v) e = first_of (nat_lt r 8) (is_valid_operand v) e
valid_writes (instr.Add r v) e = first_of (nat_lt r 8) (is_valid_operand v) e
valid_writes (instr.Load r v) e = first_of (nat_lt r 8) (is_valid_operand v) e
valid_writes (instr.Pop r) e = e
valid_writes _ e = refl

program_writes : (program : Program) → is_valid_program program ≡ true → WritesRegisters program.code
program_writes program e k d low =
    let code = second_of _ (list_all is_valid_instr program.code) (first_of _ _ e) in
    valid_writes (slice_index_or program.code k d)
    (passes_at is_valid_instr program.code k d low code (is_valid_instr (slice_index_or program.code k d)) refl)

pub HasRanges-valid : (script : Script) → IsValid script → HasRanges script
HasRanges-valid script valid = record {
  some_program = leb-true 1 (length script.setup.programs)
      (first_of (nat_le 1 (length script.setup.programs)) _ valid.number_of_programs);
  few_programs = leb-true (length script.setup.programs) 32
      (second_of (nat_le 1 (length script.setup.programs)) _ valid.number_of_programs);
  some_row = leb-true 1 script.setup.limits.rows
      (first_of (nat_le 1 script.setup.limits.rows) _
      (second_of (is_within 1 64 script.setup.limits.slots) _ (first_of _ _ valid.limits)));
  registers = λ k d low. program_writes (slice_index_or script.setup.programs k d)
      (passes_at is_valid_program script.setup.programs k d low valid.programs
      (is_valid_program (slice_index_or script.setup.programs k d)) refl);
}

-- every state of a run of a valid script is well formed
pub IsWellFormed-valid_run : (script : Script) → IsValid script → (es : List Event) (new : PosixState) → HaveByteKeys
    es →
    PosixRun script (opening_of script) es new → IsWellFormed script new
IsWellFormed-valid_run script valid es new keys run = IsWellFormed-opening_run script (HasRanges-valid script valid)
    es new keys run
