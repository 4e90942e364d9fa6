-- The state in which a run of a script begins.
use Rattle.std.specs.Prelude.{Option, Some, None, [], slice_get}
use Rattle.w32_base.specs.declared.setup.Program.{Program}
use Rattle.script_spec.specs.declared.script.Script.{Script}
use Rattle.vm_spec.specs.Image.{Image}
use Rattle.vm_spec.specs.NewImage.{new_image}
use Rattle.posix_spec.specs.State.{PosixState, opening}

-- the image in which the script's first program begins; a script has one
abbrev pub first_image : Option Program → Image
first_image None = record { dat = []; heap = []; stack = [] }
first_image (Some program) = new_image 0 program

abbrev pub opening_of : Script → PosixState
opening_of script = opening (first_image (slice_get script.setup.programs 0))
