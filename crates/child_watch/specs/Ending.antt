-- How a process ends, and what it leaves: its status, its exit word and the kind of its death.
use Rattle.std.specs.Prelude.{ℕ, ◌+◌, Bool, true, false}
use Rattle.w32_base.specs.declared.event.Death.{Death}
use Rattle.w32_base.specs.declared.event.Death.TheVariants as death
use Rattle.layer_spec.specs.Rows.{exit_word_of}
use Rattle.child_watch.specs.declared.ending.Ending.{Ending}
use Rattle.child_watch.specs.declared.ending.Ending.TheVariants as ending

-- an image fault ends its process by SEGV, signal 11, whatever its action for it is
abbrev pub status_of : Ending → ℕ
status_of (ending.Exit code) = code
status_of (ending.Signal signal) = 256 + signal
status_of ending.Fault = 267

abbrev pub is_fault : Ending → Bool
is_fault (ending.Exit code) = false
is_fault (ending.Signal signal) = false
is_fault ending.Fault = true

abbrev pub death_of : Ending → Death
death_of (ending.Exit code) = death.Exit
death_of (ending.Signal signal) = death.Signal
death_of ending.Fault = death.Fault

-- the exit word of this image
abbrev pub word_of : (image : ℕ) → Ending → ℕ
word_of image e = exit_word_of (record { status = status_of e; image = image; fault = is_fault e })
