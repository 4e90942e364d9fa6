-- What a call for a group is in the definitions.
use Rattle.std.specs.Prelude.{Option, Some, None}
use Rattle.std.specs.Borrow.{Bor}
use Rattle.std.specs.FinSet as set
use Rattle.posix_spec.specs.State.{Numbers, GroupCall}
use Rattle.posix_model.specs.declared.marks.Marks.{Marks}
use Rattle.posix_model.specs.declared.groups_seen.Underway.{Underway}
use Rattle.posix_model.specs.MarkedNumbers.{numbers_of}
use Rattle.posix_model.specs.Shown.{group_call_of}

-- the members that have had their step
abbrev pub members_in : Option (Bor Marks) → Numbers
members_in None = set.empty
members_in (Some marks) = numbers_of marks.now

abbrev pub underway_call : Underway → GroupCall
underway_call u = group_call_of u.call (members_in u.marks)

abbrev pub underway_shown : Option Underway → Option GroupCall
underway_shown None = None
underway_shown (Some u) = Some (underway_call u)
