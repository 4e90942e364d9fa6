-- What the values of this crate are in the definitions.
use Rattle.std.specs.Prelude.{ℕ}
use Rattle.sig_sets.specs.declared.set.SigSet.{SigSet}
use Rattle.sig_sets.specs.declared.signals.ByDefault.{ByDefault}
use Rattle.sig_sets.specs.declared.signals.ByDefault.TheVariants as code
use Rattle.posix_spec.specs.Signals.{End, Ignore, StopByDefault, Continue}
use Rattle.posix_spec.specs.Signals as spec

-- the number of a set's bits
abbrev pub bits_of : SigSet → ℕ
bits_of set = set.0

-- what a signal does by default
abbrev pub shown_default : ByDefault → spec.ByDefault
shown_default code.End = End
shown_default code.Ignore = Ignore
shown_default code.Stop = StopByDefault
shown_default code.Continue = Continue
