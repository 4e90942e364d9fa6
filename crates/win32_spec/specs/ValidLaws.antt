-- Runs of a valid script go through well-formed states alone.
use Rattle.std.proofs.Common.{◌≡◌, ℕ, Bool, true, ◌&&◌, nat_lt, nat_le, List, length, get_or, Some, slice_get, refl}
use Rattle.std.proofs.Common.{subst}
use Rattle.std.proofs.lemmas.List.Sums.{AllPass-from_list_all}
use Rattle.std.proofs.lemmas.Option.{slice_get_within, get_or_from_slice_get}
use Rattle.std.specs.List.{list_all}
use Rattle.w32_base.specs.Name.{is_name}
use Rattle.w32_base.specs.Targets.{are_targets_below}
use Rattle.w32_base.specs.declared.entry.Entry.{Entry}
use Rattle.w32_base.specs.declared.instr.Instr.{Instr}
use Rattle.w32_base.specs.declared.instr.Instr.TheVariants as instr
use Rattle.w32_base.specs.declared.setup.Program.{Program}
use Rattle.script_spec.specs.Validity.{is_within, is_valid_operand, is_valid_instr, is_valid_program, IsValid}
use Rattle.script_spec.specs.declared.script.Script.{Script}
use Rattle.vm_spec.specs.SizeLaws.{writes_register}
use Rattle.win32_spec.specs.State.{Win32State}
use Rattle.win32_spec.specs.Opening.{IsOpening}
use Rattle.win32_spec.specs.Run.{Win32Run}
use Rattle.win32_spec.specs.WellFormed.{IsWellFormed}
use Rattle.win32_spec.specs.LookupLaws.{and_true}
use Rattle.win32_spec.specs.MemoryEffects.{HaveRegisters}
use Rattle.win32_spec.specs.OpeningLaws.{wellformed-opening}
use Rattle.win32_spec.specs.StepLaws.{wellformed-run}

-- an instruction in its ranges writes none but the eight registers
valid-writes : (i : Instr) → is_valid_instr i ≡ true → writes_register i ≡ true
valid-writes (instr.Set r v) e = (and_true (nat_lt r 8) (is_valid_operand v) e).0
valid-writes (instr.Add r v) e = (and_true (nat_lt r 8) (is_valid_operand v) e).0
valid-writes (instr.Load r v) e = (and_true (nat_lt r 8) (is_valid_operand v) e).0
valid-writes (instr.Pop r) e = e
valid-writes _ e = refl

-- what passes in a list passes at each place
passes_at : {X : Type 0} (p : X → Bool) (xs : List X) (k : ℕ) (x : X) → list_all p xs ≡ true → slice_get xs k ≡ Some x
    → p x ≡ true
passes_at p xs k x e f =
    subst (λ y. p y ≡ true) (get_or_from_slice_get xs k x x f)
    (AllPass-from_list_all p xs e k x (slice_get_within xs k x f))

pub registers-valid : (script : Script) → IsValid script → HaveRegisters script
registers-valid script valid k program found j d l =
    let is : is_valid_program program ≡ true =
    passes_at is_valid_program script.setup.programs k program valid.programs found in
    valid-writes (get_or program.code j d)
    (AllPass-from_list_all is_valid_instr program.code (its_code program is) j d l)
  where
    its_code : (p : Program) → is_valid_program p ≡ true → list_all is_valid_instr p.code ≡ true
    its_code p e =
        let ranges = is_name p.name && nat_le p.heap 32768 && is_within 64 32768 p.stack && is_within 1 4000
        (length p.code) in
        let all = and_true (ranges && list_all is_valid_instr p.code) (are_targets_below (length p.code) p.code) e in
        (and_true ranges (list_all is_valid_instr p.code) all.0).1

-- each state of a run of a valid script is well formed
pub wellformed-valid : (script : Script) (s : Win32State) (es : List Entry) (new : Win32State) → IsValid script
    → IsOpening script s
    → Win32Run script s es new → IsWellFormed script new
wellformed-valid script s es new valid opening run =
    wellformed-run script s es new (registers-valid script valid)
    (wellformed-opening script s valid.few_modules opening) run
