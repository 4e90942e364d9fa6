-- Numbers as they are read.
use Rattle.std.specs.Prelude.{ℕ, ◌^◌, not, nat_lt, nat_le, List, Option, Some, None, if◌then◌else◌}
use Rattle.script_spec.specs.declared.fault.Kind.{Kind}
use Rattle.script_spec.specs.declared.fault.Kind.TheVariants.{BadNumber, Range}
use Rattle.script_spec.specs.Faults.{fault_if}
use Rattle.script_spec.specs.Numbers.{is_canonical, value_of}

-- a number, where it takes at most 64 bits
abbrev pub in_64_bits : ℕ → Option ℕ
in_64_bits n = if nat_lt n (2 ^ 64) then Some n else None

-- the fault of a number without a sign that is to take 31 bits
abbrev pub positive_fault : List ℕ → Option Kind
positive_fault w = if not (is_canonical w) then Some BadNumber else fault_if (not (nat_le (value_of w) 2147483647))
    Range
