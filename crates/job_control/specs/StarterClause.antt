-- The clause of the host's starter: until it has read the code of the first process, its handle 4 is on that process,
-- and the event of the reading hasn't come.
use Rattle.std.specs.Prelude.{◌≡◌, ℕ, ◌<◌, false, List, Some}
use Rattle.win32_spec.specs.Named.{object_by}
use Rattle.win32_spec.specs.State.{ProcessObject}
use Rattle.layer_spec.specs.Moment.{Moment, Seen}
use Rattle.layer_spec.specs.Turns.{is_live_process}
use Rattle.job_control.specs.declared.starter.Starter.{Starter}
use Rattle.job_control.specs.declared.starter.Starter.TheVariants as starter
use Rattle.job_control.specs.Starter.{first_handle}

-- It serves the host, whose handle 4 is on the first process, number 2, which was made. The host has read no code yet.
pub record AwaitsFirst {A : Type 0} (now : Moment A) (w : ℕ) : Type 0 where
  pub host : w ≡ 1
  pub first : object_by now.win32 1 first_handle ≡ Some (ProcessObject 2)
  pub given : 2 < now.win32.next
  pub unread : now.posix.host_came ≡ false

-- Once it has read the code, it is left that it serves the host, whose handle 1 is on the section.
abbrev pub StarterClause : {A : Type 0} → List (Seen A) → Moment A → ℕ → Starter → Type 0
StarterClause past now w starter.Opening = AwaitsFirst now w
StarterClause past now w starter.Waiting = AwaitsFirst now w
StarterClause past now w starter.Asking = AwaitsFirst now w × (is_live_process now.win32 2 ≡ false)
StarterClause past now w starter.Over = w ≡ 1
StarterClause past now w starter.Rest = Unit {0}
