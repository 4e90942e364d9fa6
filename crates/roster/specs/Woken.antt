-- A post is followed by a wake, unless the poster ends: what a posting still owes.
use Rattle.std.specs.Prelude.{◌≡◌, ◌⊎◌, ℕ, Bool, true, false, nat_eq, Some}
use Rattle.w32_base.specs.declared.call.Call.{Call}
use Rattle.w32_base.specs.declared.call.Call.TheVariants as call
use Rattle.w32_base.specs.declared.call.Reply.{Reply}
use Rattle.w32_base.specs.declared.call.Reply.TheVariants as reply
use Rattle.posix_spec.specs.Signals.{continue_signal}
use Rattle.layer_spec.specs.Rows.{RowKind, Free, Held, Running, Stopped, Zombie, Gone, MainWord, main_word_of}
use Rattle.layer_spec.specs.Rows.{is_live_kind}
use Rattle.layer_spec.specs.Decoding.{main_of}
use Rattle.layer_spec.specs.Transitions.{Post, trans}
use Rattle.roster.specs.declared.wake.Poster.TheVariants.{Main}
use Rattle.roster.specs.declared.wake.Wake.{Wake}
use Rattle.roster.specs.declared.wake.Wake.TheVariants as wake
use Rattle.roster.specs.declared.post_one.PostStep.{PostStep}
use Rattle.roster.specs.declared.post_one.PostStep.TheVariants as post
use Rattle.roster.specs.declared.post_one.PostOne.{PostOne}
use Rattle.roster.specs.Words.{is_live_word}

-- whether the wake is still to come; a part that has nothing to do any more never comes to it
abbrev pub is_wake_owed : Wake → Bool
is_wake_owed wake.Setting = true
is_wake_owed (wake.Looking row) = true
is_wake_owed (wake.Opening image) = true
is_wake_owed (wake.Copying process) = true
is_wake_owed (wake.Putting process pipe) = true
is_wake_owed (wake.ClosingPipe process pipe) = false
is_wake_owed (wake.Closing process) = false
is_wake_owed wake.Done = false
is_wake_owed wake.Rest = true

abbrev pub is_post_owed : PostStep → Bool
is_post_owed post.Looking = false
is_post_owed (post.Trying old new continued) = false
is_post_owed (post.Waking x continued) = is_wake_owed x
is_post_owed post.Absent = false
is_post_owed post.Died = false
is_post_owed (post.Posted continued) = false
is_post_owed post.Rest = false

-- What ends it: the event is set or a byte is put; or the reply shows that there is nobody to wake.
abbrev pub EndsWake : Call → Reply → Type 0
EndsWake (call.Set h) r = r ≡ reply.Done
EndsWake (call.Put h b) r = (r ≡ reply.Done) ⊎ (r ≡ reply.Full) ⊎ (r ≡ reply.NoReader)
EndsWake (call.Load h i) r = (w : ℕ) × (r ≡ reply.Word w) × (is_live_word w ≡ false)
EndsWake (call.Open v) r = r ≡ reply.Unknown
EndsWake (call.Dup h n) r = (r ≡ reply.Gone) ⊎ (r ≡ reply.BadHandle)
EndsWake _ r = ⊥

-- the poster is the main thread of the row's own process, which looks by itself
abbrev pub IsOwnMain : PostOne → Type 0
IsOwnMain p = p.by ≡ Main p.row

-- whether a signal continues a process of this kind
abbrev pub is_continued : RowKind → ℕ → Bool
is_continued Stopped s = nat_eq s continue_signal
is_continued Free s = false
is_continued Held s = false
is_continued Running s = false
is_continued Zombie s = false
is_continued Gone s = false

-- a compare-exchange that posts the signal: the row of the old word is a live process, and the new word is the change
pub record PostsBy (signal old new : ℕ) (continued : Bool) : Type 0 where
  pub before : MainWord
  pub tells : main_of old ≡ Some before
  pub live : is_live_kind before.kind ≡ true
  pub after : MainWord
  pub change : trans before (Post signal) ≡ Some after
  pub word : new ≡ main_word_of after
  pub continues : continued ≡ is_continued before.kind signal

-- what the part knows where it tries
abbrev pub PostKnows : (signal : ℕ) → PostStep → Type 0
PostKnows signal (post.Trying old new continued) = PostsBy signal old new continued
PostKnows signal post.Looking = Unit {0}
PostKnows signal (post.Waking x continued) = Unit {0}
PostKnows signal post.Absent = Unit {0}
PostKnows signal post.Died = Unit {0}
PostKnows signal (post.Posted continued) = Unit {0}
PostKnows signal post.Rest = Unit {0}

-- the turn in which the signal is posted, by a compare-exchange that found the old word
pub record IsPosted (p : PostOne) (r : Reply) (after : PostStep) : Type 0 where
  pub old : ℕ
  pub new : ℕ
  pub continued : Bool
  pub step : p.step ≡ post.Trying old new continued
  pub found : r ≡ reply.Word old
  pub owed : (is_post_owed after ≡ true) ⊎ ((after ≡ post.Posted continued) × IsOwnMain p)
