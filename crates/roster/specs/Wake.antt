-- Waking the process of a row: its main word names its image, whose wake pipe gets a byte. One's own main thread needs
-- none, since it looks by itself after each of its events; another thread of the process sets its event.
use Rattle.std.specs.Prelude.{ℕ, nat_eq, if◌then◌else◌, Option, Some, None}
use Rattle.w32_base.specs.declared.call.Call.{Call}
use Rattle.w32_base.specs.declared.call.Call.TheVariants as call
use Rattle.w32_base.specs.declared.call.Reply.{Reply}
use Rattle.w32_base.specs.declared.call.Reply.TheVariants as reply
use Rattle.layer_spec.specs.Rows.{MainWord, main_place, is_live_kind}
use Rattle.layer_spec.specs.Decoding.{main_of}
use Rattle.roster.specs.declared.wake.Poster.{Poster}
use Rattle.roster.specs.declared.wake.Poster.TheVariants as poster
use Rattle.roster.specs.declared.wake.Wake.{Wake}
use Rattle.roster.specs.declared.wake.Wake.TheVariants as wake
use Rattle.roster.specs.Turns.{section_handle, wake_handle, pipe_handle, rest_call, by_word, by_done}

-- where the waking of a row begins, by who wakes it
abbrev pub wake_begun : Poster → ℕ → Wake
wake_begun (poster.Main own) row = if nat_eq row own then wake.Done else wake.Looking row
wake_begun (poster.Watcher own) row = if nat_eq row own then wake.Setting else wake.Looking row
wake_begun poster.Console row = wake.Looking row

-- the call that each step posts
abbrev pub wake_posted : Wake → Call
wake_posted wake.Setting = call.Set wake_handle
wake_posted (wake.Looking row) = call.Load section_handle (main_place row)
wake_posted (wake.Opening image) = call.Open image
wake_posted (wake.Copying process) = call.Dup process pipe_handle
wake_posted (wake.Putting process pipe) = call.Put pipe 0
wake_posted (wake.ClosingPipe process pipe) = call.Close pipe
wake_posted (wake.Closing process) = call.Close process
wake_posted wake.Done = rest_call
wake_posted wake.Rest = rest_call

-- with the main word: nobody is to be woken where it is that of no live process
abbrev pub wake_looked : Option MainWord → Wake
wake_looked None = wake.Done
wake_looked (Some m) = if is_live_kind m.kind then wake.Opening m.image else wake.Done

-- with the handle of the image, where it hasn't ended
abbrev pub wake_opened : Reply → Wake
wake_opened (reply.Handle process) = wake.Copying process
wake_opened reply.Unknown = wake.Done
wake_opened _ = wake.Rest

-- with the handle on its wake pipe, where it hasn't ended and has made one
abbrev pub wake_copied : ℕ → Reply → Wake
wake_copied process (reply.Handle pipe) = wake.Putting process pipe
wake_copied process reply.Gone = wake.Closing process
wake_copied process reply.BadHandle = wake.Closing process
wake_copied process _ = wake.Rest

-- a full pipe wakes too, and without a reader there is nobody to wake
abbrev pub wake_put : ℕ → ℕ → Reply → Wake
wake_put process pipe reply.Done = wake.ClosingPipe process pipe
wake_put process pipe reply.Full = wake.ClosingPipe process pipe
wake_put process pipe reply.NoReader = wake.ClosingPipe process pipe
wake_put process pipe _ = wake.Rest

-- where each step goes with a reply
abbrev pub wake_after : Wake → Reply → Wake
wake_after wake.Setting r = by_done wake.Rest wake.Done r
wake_after (wake.Looking row) r = by_word wake.Rest (λ w. wake_looked (main_of w)) r
wake_after (wake.Opening image) r = wake_opened r
wake_after (wake.Copying process) r = wake_copied process r
wake_after (wake.Putting process pipe) r = wake_put process pipe r
wake_after (wake.ClosingPipe process pipe) r = by_done wake.Rest (wake.Closing process) r
wake_after (wake.Closing process) r = by_done wake.Rest wake.Done r
wake_after wake.Done r = wake.Done
wake_after wake.Rest r = wake.Rest

-- how many turns are left at most
abbrev pub wake_rank : Wake → ℕ
wake_rank wake.Setting = 2
wake_rank (wake.Looking row) = 7
wake_rank (wake.Opening image) = 6
wake_rank (wake.Copying process) = 5
wake_rank (wake.Putting process pipe) = 4
wake_rank (wake.ClosingPipe process pipe) = 3
wake_rank (wake.Closing process) = 2
wake_rank wake.Done = 0
wake_rank wake.Rest = 1
