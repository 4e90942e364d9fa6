-- The host's starter: it waits for the end of the first process, and reads its code, with the event `host`.
use Rattle.std.specs.Prelude.{ℕ, pos, [], ◌∷◌, Some}
use Rattle.w32_base.specs.declared.call.Call.{Call}
use Rattle.w32_base.specs.declared.call.Call.TheVariants as call
use Rattle.w32_base.specs.declared.call.Reply.{Reply}
use Rattle.w32_base.specs.declared.call.Reply.TheVariants as reply
use Rattle.w32_base.specs.declared.event.Event.TheVariants.{Host}
use Rattle.roster.specs.Turns.{Turn, quietly, section_handle, rest_call, by_word}
use Rattle.job_control.specs.declared.starter.Starter.{Starter}
use Rattle.job_control.specs.declared.starter.Starter.TheVariants as starter

-- the host's handle of the first process
abbrev pub first_handle : ℕ
first_handle = 4

-- The call that each step posts. A section is never signalled, so the wait for it has no end.
abbrev pub starter_posted : Starter → Call
starter_posted starter.Opening = call.Load section_handle 0
starter_posted starter.Waiting = call.WaitAny (first_handle ∷ [])
starter_posted starter.Asking = call.ExitCode first_handle
starter_posted starter.Over = call.WaitAny (section_handle ∷ [])
starter_posted starter.Rest = rest_call

-- the first process has ended
abbrev pub starter_woken : Reply → Starter
starter_woken (reply.Woke place) = starter.Asking
starter_woken _ = starter.Rest

-- its code is read
abbrev pub starter_asked : Reply → Turn Starter
starter_asked (reply.Code n) = record { part = starter.Over; event = Some (Host 0 (pos n)) }
starter_asked _ = quietly starter.Rest

-- where each step goes with a reply
abbrev pub starter_after : Starter → Reply → Turn Starter
starter_after starter.Opening r = by_word (quietly starter.Rest) (λ w. quietly starter.Waiting) r
starter_after starter.Waiting r = quietly (starter_woken r)
starter_after starter.Asking r = starter_asked r
starter_after starter.Over r = quietly starter.Over
starter_after starter.Rest r = quietly starter.Rest

-- how many turns are left at most
abbrev pub starter_rank : Starter → ℕ
starter_rank starter.Opening = 4
starter_rank starter.Waiting = 3
starter_rank starter.Asking = 2
starter_rank starter.Over = 1
starter_rank starter.Rest = 1
