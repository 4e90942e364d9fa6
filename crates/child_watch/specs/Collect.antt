-- Collecting a zombie, by the holder of the roster mutex: where the row's main word is that of a zombie, the word of a
-- row that is gone is put in its place.
use Rattle.std.specs.Prelude.{ℕ, ◌+◌, nat_eq, if◌then◌else◌, Option, Some, None}
use Rattle.w32_base.specs.declared.call.Call.{Call}
use Rattle.w32_base.specs.declared.call.Call.TheVariants as call
use Rattle.w32_base.specs.declared.call.Reply.{Reply}
use Rattle.w32_base.specs.declared.event.Event.TheVariants as event
use Rattle.layer_spec.specs.Rows.{main_place}
use Rattle.layer_spec.specs.Transitions.{Collect}
use Rattle.child_watch.specs.declared.collect.Gather.{Gather}
use Rattle.child_watch.specs.declared.collect.Gather.TheVariants as gather
use Rattle.roster.specs.Turns.{Turn, quietly, section_handle, rest_call, by_word}
use Rattle.roster.specs.Words.{changed_word}

-- the call that each step posts
abbrev pub gather_posted : Gather → Call
gather_posted (gather.Looking row) = call.Load section_handle (main_place row)
gather_posted (gather.Trying row old new) = call.CompareExchange section_handle (main_place row) old new
gather_posted gather.Done = rest_call
gather_posted gather.Rest = rest_call

-- where the word is a zombie's, it is collected by this one
abbrev pub gather_tries : (row old : ℕ) → Option ℕ → Gather
gather_tries row old (Some new) = gather.Trying row old new
gather_tries row old None = gather.Done

abbrev pub gather_looked : (row : ℕ) → ℕ → Gather
gather_looked row w = gather_tries row w (changed_word Collect w)

-- where the compare-exchange found the old word, the process of the row is gone
abbrev pub gather_tried : (row old : ℕ) → ℕ → Turn Gather
gather_tried row old w =
    if nat_eq w old
    then record { part = gather.Done; event = Some (event.Collect (row + 1)) }
    else quietly (gather_looked row w)

-- where each step goes with a reply
abbrev pub gather_after : Gather → Reply → Turn Gather
gather_after (gather.Looking row) r = by_word (quietly gather.Rest) (λ w. quietly (gather_looked row w)) r
gather_after (gather.Trying row old new) r = by_word (quietly gather.Rest) (gather_tried row old) r
gather_after gather.Done r = quietly gather.Done
gather_after gather.Rest r = quietly gather.Rest

-- how many turns are left at most, but for another word found by the compare-exchange
abbrev pub gather_rank : Gather → ℕ
gather_rank (gather.Looking row) = 3
gather_rank (gather.Trying row old new) = 2
gather_rank gather.Done = 0
gather_rank gather.Rest = 1
