use Rattle.std.proofs.Common.{◌≡◌}
use Rattle.sig_sets.specs.Shown.{bits_of}
use Rattle.posix_spec.specs.Pending.{has_handled}
use Rattle.posix_model.specs.Shown.{record_of}
use Rattle.posix_model.proofs.HandlerLemmas.{handled_from}
use Rattle.posix_model.proofs.process.Process.has_handled.Given as goal

abbrev pub invariant-loop-signal : goal.invariant-loop-signal
invariant-loop-signal l =
    has_handled (record_of l.self) (bits_of l.set) ≡ handled_from (record_of l.self) (bits_of l.set) l.signal
