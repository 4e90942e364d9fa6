-- The start of an image: it makes the objects that every layer process has, and lets its other threads go. Built for
-- the first process, whose start record is all zeros; the images that a fork or an exec makes rest.
use Rattle.std.specs.Prelude.{ℕ, ◌+◌, Bool, false, ◌&&◌, nat_eq, if◌then◌else◌, length}
use Rattle.w32_base.specs.declared.call.Call.{Call}
use Rattle.w32_base.specs.declared.call.Call.TheVariants as call
use Rattle.w32_base.specs.declared.call.Reply.{Reply}
use Rattle.w32_base.specs.declared.call.Reply.TheVariants as reply
use Rattle.w32_base.specs.declared.own.Own.{Own}
use Rattle.vm_spec.specs.Image.{word_at}
use Rattle.roster.specs.Turns.{section_handle, rest_call, by_word, by_done}
use Rattle.layer_actor.specs.declared.start.StartStep.{StartStep}
use Rattle.layer_actor.specs.declared.start.StartStep.TheVariants as start
use Rattle.layer_actor.specs.declared.start.Start.{Start}

-- the call that each step posts, of this image
abbrev pub start_step_posted : (image : ℕ) → StartStep → Call
start_step_posted image start.Opening = call.Load section_handle 0
start_step_posted image start.MakingWake = call.Event false false
start_step_posted image start.MakingMutex = call.Mutex false
start_step_posted image start.MakingPipe = call.Pipe
start_step_posted image start.MakingChange = call.Event false false
start_step_posted image start.OpeningItself = call.Open image
start_step_posted image (start.ResumingSignals process) = call.Resume process 1
start_step_posted image (start.ResumingWatcher process) = call.Resume process 2
start_step_posted image (start.Closing process) = call.Close process
start_step_posted image start.Done = rest_call
start_step_posted image start.Rest = rest_call

abbrev pub start_posted : Start → Call
start_posted p = start_step_posted p.image p.step

-- what comes of a new handle, of the two ends of a pipe, and of a suspend count
abbrev pub by_handle : {P : Type 0} → P → (ℕ → P) → Reply → P
by_handle rest f (reply.Handle h) = f h
by_handle rest f _ = rest

abbrev pub by_two : {P : Type 0} → P → P → Reply → P
by_two rest next (reply.Two reads writes) = next
by_two rest next _ = rest

abbrev pub by_count : {P : Type 0} → P → P → Reply → P
by_count rest next (reply.Count n) = next
by_count rest next _ = rest

-- whether the start record, twelve bytes of the scratch region from 352 on, is the first process's
abbrev pub is_first : Own → Bool
is_first own =
    nat_eq (length own.scratch) 512
    && (nat_eq (word_at own.scratch 352) 0
    && (nat_eq (word_at own.scratch 356) 0 && nat_eq (word_at own.scratch 360) 0))

abbrev pub start_opened : Own → StartStep
start_opened own = if is_first own then start.MakingWake else start.Rest

-- where each step goes with a reply over the own bytes, which stay
abbrev pub start_step_after : StartStep → Own → Reply → StartStep
start_step_after start.Opening own r = by_word start.Rest (λ w. start_opened own) r
start_step_after start.MakingWake own r = by_handle start.Rest (λ h. start.MakingMutex) r
start_step_after start.MakingMutex own r = by_handle start.Rest (λ h. start.MakingPipe) r
start_step_after start.MakingPipe own r = by_two start.Rest start.MakingChange r
start_step_after start.MakingChange own r = by_handle start.Rest (λ h. start.OpeningItself) r
start_step_after start.OpeningItself own r = by_handle start.Rest (λ h. start.ResumingSignals h) r
start_step_after (start.ResumingSignals process) own r = by_count start.Rest (start.ResumingWatcher process) r
start_step_after (start.ResumingWatcher process) own r = by_count start.Rest (start.Closing process) r
start_step_after (start.Closing process) own r = by_done start.Rest start.Done r
start_step_after start.Done own r = start.Done
start_step_after start.Rest own r = start.Rest

abbrev pub start_after : Start → Own → Reply → Start
start_after p own r = record p { step = start_step_after p.step own r }

-- how many turns are left at most, where so many follow the start
abbrev pub start_rank_by : (behind : ℕ) → StartStep → ℕ
start_rank_by behind start.Opening = 10 + behind
start_rank_by behind start.MakingWake = 9 + behind
start_rank_by behind start.MakingMutex = 8 + behind
start_rank_by behind start.MakingPipe = 7 + behind
start_rank_by behind start.MakingChange = 6 + behind
start_rank_by behind start.OpeningItself = 5 + behind
start_rank_by behind (start.ResumingSignals process) = 4 + behind
start_rank_by behind (start.ResumingWatcher process) = 3 + behind
start_rank_by behind (start.Closing process) = 2 + behind
start_rank_by behind start.Done = behind
start_rank_by behind start.Rest = 1 + behind

abbrev pub start_rank : Start → ℕ
start_rank p = start_rank_by 0 p.step
