-- Posting a signal to the process of a row, and then waking it.
use Rattle.std.specs.Prelude.{ℕ, ◌+◌, Bool, false, nat_eq, if◌then◌else◌, Option, Some, None}
use Rattle.w32_base.specs.declared.call.Call.{Call}
use Rattle.w32_base.specs.declared.call.Call.TheVariants as call
use Rattle.w32_base.specs.declared.call.Reply.{Reply}
use Rattle.posix_spec.specs.Signals.{continue_signal}
use Rattle.layer_spec.specs.Rows.{RowKind, Free, Held, Running, Stopped, Zombie, Gone, MainWord, main_word_of}
use Rattle.layer_spec.specs.Rows.{main_place}
use Rattle.layer_spec.specs.Decoding.{main_of}
use Rattle.layer_spec.specs.Transitions.{Post, trans}
use Rattle.roster.specs.declared.wake.Wake.{Wake}
use Rattle.roster.specs.declared.wake.Wake.TheVariants as wake
use Rattle.roster.specs.declared.post_one.PostStep.{PostStep}
use Rattle.roster.specs.declared.post_one.PostStep.TheVariants as post
use Rattle.roster.specs.declared.post_one.PostOne.{PostOne}
use Rattle.roster.specs.Turns.{Turn, quietly, section_handle, rest_call, by_word}
use Rattle.roster.specs.Wake.{wake_begun, wake_posted, wake_after, wake_rank}

-- the call that each step posts, where the signal is for this row
abbrev pub post_step_posted : (row : ℕ) → PostStep → Call
post_step_posted row post.Looking = call.Load section_handle (main_place row)
post_step_posted row (post.Trying old new continued) = call.CompareExchange section_handle (main_place row) old new
post_step_posted row (post.Waking x continued) = wake_posted x
post_step_posted row post.Absent = rest_call
post_step_posted row post.Died = rest_call
post_step_posted row (post.Posted continued) = rest_call
post_step_posted row post.Rest = rest_call

abbrev pub post_one_posted : PostOne → Call
post_one_posted p = post_step_posted p.row p.step

-- with the main word by which it changes, and whether that continues a stopped process
abbrev pub post_tries : (old : ℕ) → Bool → Option MainWord → PostStep
post_tries old continued (Some new) = post.Trying old (main_word_of new) continued
post_tries old continued None = post.Absent

-- The main word decides. A zombie gets nothing, and a row that is no process has nobody to get it.
abbrev pub post_by_kind : RowKind → (signal old : ℕ) → MainWord → PostStep
post_by_kind Free signal old m = post.Absent
post_by_kind Held signal old m = post.Absent
post_by_kind Running signal old m = post_tries old false (trans m (Post signal))
post_by_kind Stopped signal old m = post_tries old (nat_eq signal continue_signal) (trans m (Post signal))
post_by_kind Zombie signal old m = post.Died
post_by_kind Gone signal old m = post.Absent

abbrev pub post_by_main : (signal old : ℕ) → Option MainWord → PostStep
post_by_main signal old None = post.Absent
post_by_main signal old (Some m) = post_by_kind m.kind signal old m

abbrev pub post_looked : (signal : ℕ) → ℕ → PostStep
post_looked signal w = post_by_main signal w (main_of w)

-- the waking goes on, or is over
abbrev pub post_wakes : Wake → Bool → PostStep
post_wakes wake.Done continued = post.Posted continued
post_wakes x continued = post.Waking x continued

-- where the compare-exchange found the old word, the signal is posted: its event stands here, and the waking begins
abbrev pub post_tried : PostOne → (old : ℕ) → Bool → ℕ → Turn PostStep
post_tried p old continued w =
    if nat_eq w old
    then record { part = post_wakes (wake_begun p.by p.row) continued; event = Some p.event }
    else quietly (post_looked p.signal w)

-- where each step goes with a reply
abbrev pub post_step_after : PostOne → PostStep → Reply → Turn PostStep
post_step_after p post.Looking r = by_word (quietly post.Rest) (λ w. quietly (post_looked p.signal w)) r
post_step_after p (post.Trying old new continued) r = by_word (quietly post.Rest) (post_tried p old continued) r
post_step_after p (post.Waking x continued) r = quietly (post_wakes (wake_after x r) continued)
post_step_after p post.Absent r = quietly post.Absent
post_step_after p post.Died r = quietly post.Died
post_step_after p (post.Posted continued) r = quietly (post.Posted continued)
post_step_after p post.Rest r = quietly post.Rest

abbrev pub with_turn : PostOne → Turn PostStep → Turn PostOne
with_turn p t = record { part = record p { step = t.part }; event = t.event }

abbrev pub post_one_after : PostOne → Reply → Turn PostOne
post_one_after p r = with_turn p (post_step_after p p.step r)

-- how many turns are left at most, but for another word found by the compare-exchange
abbrev pub post_step_rank : PostStep → ℕ
post_step_rank post.Looking = 10
post_step_rank (post.Trying old new continued) = 9
post_step_rank (post.Waking x continued) = wake_rank x + 1
post_step_rank post.Absent = 0
post_step_rank post.Died = 0
post_step_rank (post.Posted continued) = 0
post_step_rank post.Rest = 1

abbrev pub post_one_rank : PostOne → ℕ
post_one_rank p = post_step_rank p.step
