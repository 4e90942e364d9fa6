use Rattle.w32_handles.proofs.TableLemmas.{AreKept}
use Rattle.w32_handles.proofs.handles.Handles.inherit.Given as goal

abbrev pub invariant-loop-next : goal.invariant-loop-next
invariant-loop-next l = AreKept l.self-inside.places l.self l.list l.kept l.next
