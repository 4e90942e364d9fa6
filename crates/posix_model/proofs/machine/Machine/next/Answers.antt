use Rattle.std.proofs.Common.{◌≤◌, length, sym, ◌∙◌, ap, arith, slice_get}
use Rattle.std.proofs.lemmas.Option.{slice_get_past}
use Rattle.posix_model.specs.Machine.{script_of}
use Rattle.posix_model.specs.Shown.{record_of}
use Rattle.posix_model.proofs.NextLemmas.{next_of-none}
use Rattle.posix_model.proofs.machine.Machine.next.Goals as goal

pub returns-in-None : goal.returns-in-None
returns-in-None c =
    let programs = c.args.self.now.programs in
    let past : length programs ≤ c.program_number.result = grind (arith, c.in-None.ensures, c.as_slice.ensures.value) in
    sym (next_of-none (script_of c.args.self.now) (record_of c.args.process.now)
    (ap (slice_get programs) (sym c.program_number.ensures) ∙ slice_get_past programs c.program_number.result past))
