-- What the holder of the roster mutex may rely on, it may rely on through any number of steps.
use Rattle.std.proofs.Common.{refl, ◌∙◌}
use Rattle.win32_spec.specs.State.{Win32State}
use Rattle.roster.specs.Roster.{RosterStays}

pub roster-same : (s : Win32State) → RosterStays s s
roster-same s = record {
  processes = λ row from. refl;
  groups = λ row from is. refl;
  deaths = λ row from dead. dead;
}

pub roster-twice : (a b c : Win32State) → RosterStays a b → RosterStays b c → RosterStays a c
roster-twice a b c first next = record {
  processes = λ row from. next.processes row from ∙ first.processes row from;
  groups = λ row from is. next.groups row from (first.processes row from ∙ is) ∙ first.groups row from is;
  deaths = λ row from dead. next.deaths row from (first.deaths row from dead);
}
