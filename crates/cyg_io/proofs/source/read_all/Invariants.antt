use Rattle.std.proofs.Common.{◌≡◌, ◌+◌, ◌-◌, ◌^◌, ◌≤◌, min, max, vec_len}
use Rattle.std.specs.Io.KnownBytes.{Consumes}
use Rattle.cyg_io.proofs.source.read_all.Given as goal

abbrev pub invariant-reading : goal.invariant-reading
invariant-reading g l = record {
  few : vec_len l.bytes ≤ l.most;
  bytes : Consumes (g.S.Source.remaining l.initial.src) (g.S.Source.remaining l.src) l.bytes.items;
  given : g.S.Source.given l.src ≡ min
      (g.S.Source.given l.initial.src + vec_len l.bytes) (max (g.S.Source.given l.initial.src) (2 ^ 64 - 1));
  ends : g.S.Source.ends l.src ≡ g.S.Source.ends l.initial.src;
  faults : g.S.Source.faults l.src ≡ g.S.Source.faults l.initial.src;
}

abbrev pub decreases-reading : goal.decreases-reading
decreases-reading g l = l.most - vec_len l.bytes
