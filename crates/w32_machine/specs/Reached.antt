-- The live process, or a thread of it, that a handle of the caller reaches; and why a call reaches none.
use Rattle.std.specs.Prelude.{◌≡◌, ℕ, ◌≤◌, Some, IsSome, MatchOption}
use Rattle.w32_base.specs.declared.call.Reply.{Reply}
use Rattle.w32_base.specs.declared.call.Reply.TheVariants as reply
use Rattle.win32_spec.specs.State.{Process, Win32State}
use Rattle.win32_spec.specs.Lookup.{process_in, number_in, thread_in, thread_at}
use Rattle.win32_spec.specs.Named.{object_by, process_named}
use Rattle.win32_spec.specs.ProcessCalls.{live_process}

-- the live process in this slot, whose threads are 0 to 2 at the most, is the one that handle h of process w names
pub record Reaches (s : Win32State) (w h slot : ℕ) : Type 0 where
  pub number : ℕ
  pub process : Process
  pub named : process_named (object_by s w h) ≡ Some number
  pub lives : number_in s slot ≡ Some number
  pub live : live_process s number ≡ Some process
  pub stands : process_in s.processes slot ≡ Some process
  pub few : (t : ℕ) → IsSome (thread_at s slot t) → t ≤ 2

-- the handle names no process, or one that has ended
abbrev pub Misses : Win32State → ℕ → ℕ → Reply → Type 0
Misses s w h r =
    MatchOption (process_named (object_by s w h)) (r ≡ reply.BadHandle)
    (λ v. MatchOption (live_process s v) (r ≡ reply.Gone) (λ p. ⊥))

-- the same, or the process has no such thread
abbrev pub MissesThread : Win32State → ℕ → ℕ → ℕ → Reply → Type 0
MissesThread s w h t r =
    MatchOption (process_named (object_by s w h)) (r ≡ reply.BadHandle)
    (λ v. MatchOption (live_process s v) (r ≡ reply.Gone)
    (λ p. MatchOption (thread_in p.threads t) (r ≡ reply.BadIndex) (λ x. ⊥)))
