-- What a check is in the definitions.
use Rattle.posix_spec.specs.Checks as spec
use Rattle.posix_model.specs.declared.checks.Check.{Check}
use Rattle.posix_model.specs.declared.checks.Check.TheVariants as check

abbrev pub shown : Check → spec.Check
shown check.Allowed = spec.Allowed
shown (check.Refused e) = spec.Refused e
shown (check.SendsFirst signal) = spec.SendsFirst signal
