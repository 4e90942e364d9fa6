-- What is next in a process, and where.
use Rattle.std.proofs.Common.{◌≡◌, ◌<◌, Bool, true, false, cond, List, [], length, Option, Some, None, refl, ◌∙◌, ap}
use Rattle.std.specs.Prelude.{slice_get, nat_lt}
use Rattle.std.proofs.Math.Bool.{or-true}
use Rattle.std.proofs.lemmas.Option.{slice_get_within}
use Rattle.w32_base.specs.declared.instr.Instr.{Instr}
use Rattle.w32_base.specs.declared.setup.Program.{Program}
use Rattle.script_spec.specs.declared.script.Script.{Script}
use Rattle.vm_spec.specs.Image.{Image, place_of, program_of, in_use}
use Rattle.vm_spec.specs.Faults.{faults}
use Rattle.vm_spec.specs.Step.{CallInstruction, ImageFault, upcoming, upcoming_at}
use Rattle.posix_spec.specs.State.{Record}
use Rattle.posix_spec.specs.Conditions.{code_at, next_of}

-- a program without instructions faults
upcoming-none : (image : Image) → upcoming [] image ≡ ImageFault
unfolding upcoming
upcoming-none image = rw (or-true (nat_lt (length image.stack) (in_use image))) refl

-- and so does the image of no program
pub next_of-none : (script : Script) (r : Record) → slice_get script.setup.programs (program_of r.image) ≡ None →
    next_of script r ≡ ImageFault
next_of-none script r none = ap (λ (o : Option Program). upcoming (code_at o) r.image) none ∙ upcoming-none r.image

is_some_instr : (i : Instr) (b : Bool) (o : Option Instr) → cond b ImageFault (upcoming_at o) ≡ CallInstruction i →
    (x : Instr) × (o ≡ Some x)
is_some_instr i true o e = cc
is_some_instr i false None e = cc
is_some_instr i false (Some x) e = (x, refl)

-- a call stands in its program
pub upcoming-within : (code : List Instr) (image : Image) (i : Instr) → upcoming code image ≡ CallInstruction i →
    place_of image < length code
unfolding upcoming
upcoming-within code image i e =
    let found = is_some_instr i (faults code image) (slice_get code (place_of image)) e in
    slice_get_within code (place_of image) found.0 found.1
