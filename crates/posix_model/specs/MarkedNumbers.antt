-- The numbers in a set of marks.
use Rattle.posix_spec.specs.State.{Numbers}
use Rattle.posix_model.specs.declared.marks.Marks.{Marks}
use Rattle.posix_model.specs.Marked.{marked}

abbrev pub numbers_of : Marks → Numbers
numbers_of marks = marked marks.places
