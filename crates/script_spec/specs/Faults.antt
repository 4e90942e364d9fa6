-- The kinds of fault in their order.
use Rattle.std.specs.Prelude.{ℕ, Bool, nat_le, Option, Some, None, if◌then◌else◌}
use Rattle.script_spec.specs.declared.fault.Kind.{Kind}
use Rattle.script_spec.specs.declared.fault.Kind.TheVariants.{Large, NoHeader, Unfinished, NotAscii, TooLong, Missing}
use Rattle.script_spec.specs.declared.fault.Kind.TheVariants.{Unknown, Words, BadNumber, Range, BadName, Twice, TooMany}
use Rattle.script_spec.specs.declared.fault.Kind.TheVariants.{Target}

-- a kind's number in the order
abbrev pub kind_number : Kind → ℕ
kind_number Large = 1
kind_number NoHeader = 2
kind_number Unfinished = 3
kind_number NotAscii = 4
kind_number TooLong = 5
kind_number Missing = 6
kind_number Unknown = 7
kind_number Words = 8
kind_number BadNumber = 9
kind_number Range = 10
kind_number BadName = 11
kind_number Twice = 12
kind_number TooMany = 13
kind_number Target = 14

-- this fault, where a test holds
abbrev pub fault_if : Bool → Kind → Option Kind
fault_if b kind = if b then Some kind else None

-- the fault of two things that are judged together: the lesser of their faults
abbrev pub least : Option Kind → Option Kind → Option Kind
least None other = other
least (Some kind) None = Some kind
least (Some kind) (Some other) = if nat_le (kind_number kind) (kind_number other) then Some kind else Some other
