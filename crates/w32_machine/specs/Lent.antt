-- What a contract sees of the calls that a machine which is driven by parts makes.
use Rattle.std.specs.Prelude.{◌≡◌, ◌≢◌, ℕ, ◌≤◌, Some, IsSome}
use Rattle.w32_base.specs.declared.call.Reply.{Reply}
use Rattle.w32_base.specs.declared.call.Reply.TheVariants as reply
use Rattle.w32_base.specs.declared.own.Own.{Own}
use Rattle.w32_base.specs.declared.part.After.{After}
use Rattle.w32_base.specs.declared.setup.Setup.{Setup}
use Rattle.win32_spec.specs.State.{Win32State}
use Rattle.win32_spec.specs.Lookup.{thread_at, number_in, memory_by, with_own}
use Rattle.w32_machine.specs.Running.{Running}

-- the part of a thread went on over the bytes of its process
pub record IsAnswer {P : Type 0} (goes : P → Own → Setup → Reply → P → Own → After → Type 0) (old : Running) (w : ℕ)
    (part : P) (reply : Reply) (next : P) (answer : After) (new : Running) : Type 0 where
  pub own : Own
  pub went : goes part (memory_by old.win32 w) old.script.setup reply next own answer
  pub after : new.win32 ≡ with_own old.win32 w own
  pub script : new.script ≡ old.script

-- there are threads from 0 to 2 alone, in slots from 0 to 64
abbrev pub HasFewThreads : Win32State → Type 0
HasFewThreads s = (slot t : ℕ) → IsSome (thread_at s slot t) → (slot ≤ 64) × (t ≤ 2)

-- a reply tells of a process that was made, and that stands in this slot, or in none
pub record ToldOf (s : Win32State) (r : Reply) (slot : ℕ) : Type 0 where
  pub handle : ℕ
  pub number : ℕ
  pub told : r ≡ reply.Made handle number
  pub stands : number_in s slot ≡ Some number

abbrev pub ToldOfNone : Win32State → Reply → Type 0
ToldOfNone s r = (h w : ℕ) → r ≡ reply.Made h w → (k : ℕ) → number_in s k ≢ Some w
