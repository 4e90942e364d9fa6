-- What is known of a process at a call.
use Rattle.std.proofs.Common.{◌≡◌, ℕ, ◌≤◌, Bool, true, false, cond, ◌||◌, List, length, Option, Some, None, refl}
use Rattle.std.proofs.Common.{ltb-false, le-leb, slice_get, subst}
use Rattle.std.proofs.lemmas.Option.{same_Some}
use Rattle.w32_base.specs.declared.instr.Instr.{Instr}
use Rattle.w32_base.specs.declared.instr.Instr.TheVariants as instr
use Rattle.script_spec.specs.declared.script.Script.{Script}
use Rattle.vm_spec.specs.Image.{Image, in_use, place_of}
use Rattle.vm_spec.specs.Faults.{faults_at}
use Rattle.vm_spec.specs.Step.{CallInstruction, ImageFault, upcoming, upcoming_at}
use Rattle.posix_spec.specs.CallLaws.{IsCalling, own_call-is, next_call}
use Rattle.posix_spec.specs.Conditions.{code_of, own_call}
use Rattle.posix_spec.specs.State.{Record, PosixState, record_of}
use Rattle.posix_model.specs.Handled.{HasFrame}
use Rattle.posix_model.specs.Machine.{with_call, called_by, called}

by_call : (script : Script) (old r : Record) (o : Option Instr) (i : Instr) → own_call script old ≡ o →
    with_call old o ≡ Some (r, i) → IsCalling script r i
by_call script old r None i is e = cc
by_call script old r (Some j) i is e =
    let same : (old, j) ≡ (r, i) = same_Some (old, j) (r, i) e in
    subst (λ (x : Record × Instr). IsCalling script x.0 x.1) same (own_call-is script old j is)

by_record : (script : Script) (o : Option Record) (r : Record) (i : Instr) → called_by script o ≡ Some (r, i) →
    IsCalling script r i
by_record script None r i e = cc
by_record script (Some old) r i e = by_call script old r (own_call script old) i refl e

-- the call is next, and the process may go on
pub IsCalling-called : (script : Script) (s : PosixState) (p : ℕ) (r : Record) (i : Instr) → called script s p ≡ Some
    (r, i) → IsCalling script r i
IsCalling-called script s p r i e = by_record script (record_of s p) r i e

fits_by : (b c : Bool) (o : Option Instr) (i : Instr) → cond (b || c) ImageFault (upcoming_at o) ≡ CallInstruction i →
    b ≡ false
fits_by true c o i e = cc
fits_by false c o i e = refl

stack_fits : (code : List Instr) (image : Image) (i : Instr) → upcoming code image ≡ CallInstruction i →
    in_use image ≤ length image.stack
unfolding upcoming
stack_fits code image i e =
    ltb-false (length image.stack) (in_use image)
    (fits_by _ (faults_at (slice_get code (place_of image)) image) (slice_get code (place_of image)) i e)

-- a return has its frame
pub HasFrame-calling : (script : Script) (r : Record) → IsCalling script r instr.Return → HasFrame r
HasFrame-calling script r c = record {
  used = stack_fits (code_of script r.image) r.image instr.Return c.next;
  frame = le-leb 40 (in_use r.image) (ltb-false (in_use r.image) 40 (next_call (code_of script r.image) r.image
      instr.Return c.next).carried_out);
}
