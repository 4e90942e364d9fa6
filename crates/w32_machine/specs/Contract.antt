-- The words of the machine's contracts.
use Rattle.std.specs.Prelude.{◌≡◌, ℕ, ◌+◌, ◌≤◌, true, List, [], ◌∷◌, Option, Some, None}
use Rattle.w32_base.specs.declared.entry.Directive.{Directive}
use Rattle.w32_base.specs.declared.entry.Directive.TheVariants as directive
use Rattle.w32_base.specs.declared.own.Own.{Own}
use Rattle.script_spec.specs.declared.script.ScheduleLine.{ScheduleLine}
use Rattle.script_spec.specs.declared.script.ScheduleLine.TheVariants.{Given, Steps, Settle}
use Rattle.win32_spec.specs.State.{Process, Win32State}
use Rattle.win32_spec.specs.Lookup.{number_in}
use Rattle.win32_spec.specs.Ready.{is_ready}
use Rattle.w32_machine.specs.declared.caller.Caller.{Caller}

-- the thread that makes a call belongs to the live process in its slot
pub record IsCaller (s : Win32State) (by : Caller) : Type 0 where
  pub process : number_in s by.slot ≡ Some by.process
  pub thread : by.thread ≤ 2

-- only threads from 0 to 2 in slots from 0 to 64 are ever ready
abbrev pub OnlyFew : Win32State → Type 0
OnlyFew s = (slot t : ℕ) → is_ready s slot t ≡ true → (slot ≤ 64) × (t ≤ 2)

-- a process lives in this slot, if it lives
abbrev pub LivesOnlyIn : Win32State → ℕ → ℕ → Type 0
LivesOnlyIn s w slot = (k : ℕ) → number_in s k ≡ Some w → k ≡ slot

-- the memory of the process in a slot, or none
abbrev pub own_in : Option Process → Option Own
own_in None = None
own_in (Some p) = Some p.own

-- how many lines of a schedule give a key
abbrev pub keys_of : Directive → ℕ
keys_of (directive.Turn slot t) = 0
keys_of (directive.End slot) = 0
keys_of (directive.Key b) = 1

abbrev pub keys_of_line : ScheduleLine → ℕ
keys_of_line (Given d) = keys_of d
keys_of_line (Steps n) = 0
keys_of_line Settle = 0

abbrev pub key_lines : List ScheduleLine → ℕ
key_lines [] = 0
key_lines (line ∷ lines) = keys_of_line line + key_lines lines
