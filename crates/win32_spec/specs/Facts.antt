-- Whose turn a directive is, and what it may change.
use Rattle.std.specs.Prelude.{◌≡◌, ◌⊎◌, ℕ, true, Option, Some, None}
use Rattle.w32_base.specs.declared.call.Call.{Call}
use Rattle.w32_base.specs.declared.entry.Directive.{Directive}
use Rattle.w32_base.specs.declared.entry.Directive.TheVariants as directive
use Rattle.win32_spec.specs.State.{Object, Win32State}
use Rattle.win32_spec.specs.Lookup.{process_of, is_live, number_in}
use Rattle.win32_spec.specs.Ends.{object_left_by}
use Rattle.win32_spec.specs.Effects.{IsWriteTo, MayExchange}
use Rattle.win32_spec.specs.Tame.{ObjectBecomes}

-- the directive is a turn of a thread of process w
abbrev pub IsTurnOf : Win32State → Directive → ℕ → Type 0
IsTurnOf s (directive.Turn slot t) w = number_in s slot ≡ Some w
IsTurnOf s (directive.End slot) w = ⊥
IsTurnOf s (directive.Key b) w = ⊥

-- it is a turn of thread t of process w
abbrev pub IsTurnOfThread : Win32State → Directive → ℕ → ℕ → Type 0
IsTurnOfThread s (directive.Turn slot x) w t = (number_in s slot ≡ Some w) × (x ≡ t)
IsTurnOfThread s (directive.End slot) w t = ⊥
IsTurnOfThread s (directive.Key b) w t = ⊥

-- the call that was carried out is a `writemem` to process v
abbrev pub IsWrittenTo : Win32State → Directive → Option Call → ℕ → Type 0
IsWrittenTo s d None v = ⊥
IsWrittenTo s d (Some c) v = (w : ℕ) × IsTurnOf s d w × IsWriteTo s w c v

-- the call that was carried out is a `cas` or an `add`
abbrev pub IsExchange : Option Call → Type 0
IsExchange None = ⊥
IsExchange (Some c) = MayExchange c

-- An object after a directive: as before, or left by a process that ended, or changed in the turn of a thread.
abbrev pub ObjectAfter : Win32State → Directive → Option Call → Object → Object → Type 0
ObjectAfter s d called x y =
    (y ≡ x)
    ⊎ ((u : ℕ) × (is_live (process_of s.processes u) ≡ true) × (y ≡ object_left_by u x))
    ⊎ ((w : ℕ) × (t : ℕ) × IsTurnOfThread s d w t × ObjectBecomes (IsExchange called) w t x y)
