-- The ranges of what a script's schedule names.
use Rattle.std.specs.Prelude.{ℕ, Bool, true, ◌&&◌, nat_le}
use Rattle.w32_base.specs.declared.entry.Directive.{Directive}
use Rattle.w32_base.specs.declared.entry.Directive.TheVariants as directive
use Rattle.script_spec.specs.declared.script.ScheduleLine.{ScheduleLine}
use Rattle.script_spec.specs.declared.script.ScheduleLine.TheVariants as line

-- a turn names a slot up to the last one, and an end one of a layer process
abbrev pub is_directive_within : ℕ → Directive → Bool
is_directive_within slots (directive.Turn slot thread) = nat_le slot slots
is_directive_within slots (directive.End slot) = nat_le 1 slot && nat_le slot slots
is_directive_within slots (directive.Key b) = true

-- and a number of turns is from 1 to 500,000
abbrev pub is_line_within : ℕ → ScheduleLine → Bool
is_line_within slots (line.Given d) = is_directive_within slots d
is_line_within slots (line.Steps turns) = nat_le 1 turns && nat_le turns 500000
is_line_within slots line.Settle = true
