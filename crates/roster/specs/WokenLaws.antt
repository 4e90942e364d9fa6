-- Laws of a posting: its event stands where the signal is posted, and then a wake follows.
use Rattle.std.specs.Prelude.{◌≡◌, ◌⊎◌, ℕ, Bool, true, false, nat_eq, Option, Some, None}
use Rattle.std.proofs.Common.{refl, sym, ap, ◌∙◌, inl, inr}
use Rattle.std.proofs.lemmas.Bool.{cond_both, eqb-true}
use Rattle.w32_base.specs.declared.call.Reply.{Reply}
use Rattle.w32_base.specs.declared.call.Reply.TheVariants as reply
use Rattle.w32_base.specs.declared.event.Event.{Event}
use Rattle.posix_spec.specs.Signals.{continue_signal}
use Rattle.layer_spec.specs.Rows.{RowKind, Free, Held, Running, Stopped, Zombie, Gone, MainWord, is_live_kind}
use Rattle.layer_spec.specs.Decoding.{main_of}
use Rattle.layer_spec.specs.Transitions.{Post, trans}
use Rattle.roster.specs.declared.wake.Poster.{Poster}
use Rattle.roster.specs.declared.wake.Poster.TheVariants as poster
use Rattle.roster.specs.declared.wake.Wake.{Wake}
use Rattle.roster.specs.declared.wake.Wake.TheVariants as wake
use Rattle.roster.specs.declared.post_one.PostStep.{PostStep}
use Rattle.roster.specs.declared.post_one.PostStep.TheVariants as post
use Rattle.roster.specs.declared.post_one.PostOne.{PostOne}
use Rattle.roster.specs.Turns.{Turn, quietly, all_by_word}
use Rattle.roster.specs.Words.{is_live_main}
use Rattle.roster.specs.Wake.{wake_begun, wake_posted, wake_looked, wake_opened, wake_copied, wake_put, wake_after}
use Rattle.roster.specs.PostOne.{post_step_posted, post_tries, post_by_kind, post_by_main, post_looked, post_wakes}
use Rattle.roster.specs.PostOne.{post_tried, post_step_after, post_one_posted, post_one_after}
use Rattle.roster.specs.Woken.{is_wake_owed, is_post_owed, EndsWake, is_continued, PostKnows, IsPosted}

-- a wake is owed until something ends it
abbrev StaysOwed : Wake → Reply → Wake → Type 0
StaysOwed x r y = (is_wake_owed y ≡ true) ⊎ EndsWake (wake_posted x) r

set_owed : (r : Reply) → StaysOwed wake.Setting r (wake_after wake.Setting r)
set_owed reply.Done = inr refl
set_owed _ = inl refl

looked_owed : (row w : ℕ) (o : Option MainWord) → main_of w ≡ o
    → StaysOwed (wake.Looking row) (reply.Word w) (wake_looked o)
looked_owed row w None e = inr (w, refl, ap is_live_main e)
looked_owed row w (Some m) e =
    cond_both (is_live_kind m.kind) (wake.Opening m.image) wake.Done (StaysOwed (wake.Looking row) (reply.Word w))
    (λ live. inl refl) (λ dead. inr (w, refl, ap is_live_main e ∙ dead))

opened_owed : (image : ℕ) (r : Reply) → StaysOwed (wake.Opening image) r (wake_opened r)
opened_owed image (reply.Handle process) = inl refl
opened_owed image reply.Unknown = inr refl
opened_owed image _ = inl refl

copied_owed : (process : ℕ) (r : Reply) → StaysOwed (wake.Copying process) r (wake_copied process r)
copied_owed process (reply.Handle pipe) = inl refl
copied_owed process reply.Gone = inr (inl refl)
copied_owed process reply.BadHandle = inr (inr refl)
copied_owed process _ = inl refl

put_owed : (process pipe : ℕ) (r : Reply) → StaysOwed (wake.Putting process pipe) r (wake_put process pipe r)
put_owed process pipe reply.Done = inr (inl refl)
put_owed process pipe reply.Full = inr (inr (inl refl))
put_owed process pipe reply.NoReader = inr (inr (inr refl))
put_owed process pipe _ = inl refl

pub wake-owed : (x : Wake) (r : Reply) → is_wake_owed x ≡ true → StaysOwed x r (wake_after x r)
wake-owed wake.Setting r owed = set_owed r
wake-owed (wake.Looking row) r owed =
    all_by_word (λ y r. StaysOwed (wake.Looking row) r y) wake.Rest (λ w. wake_looked (main_of w)) (λ r. inl refl)
    (λ w. looked_owed row w (main_of w) refl) r
wake-owed (wake.Opening image) r owed = opened_owed image r
wake-owed (wake.Copying process) r owed = copied_owed process r
wake-owed (wake.Putting process pipe) r owed = put_owed process pipe r
wake-owed wake.Rest r owed = inl refl
wake-owed (wake.ClosingPipe process pipe) r owed = absurd (cc)
wake-owed (wake.Closing process) r owed = absurd (cc)
wake-owed wake.Done r owed = absurd (cc)

wakes_owed : (x : Wake) (continued : Bool) → is_post_owed (post_wakes x continued) ≡ is_wake_owed x
wakes_owed wake.Done continued = refl
wakes_owed x continued = refl

-- the same of a whole posting
step_owed : (p : PostOne) (x : PostStep) (r : Reply) → is_post_owed x ≡ true
    → (is_post_owed (post_step_after p x r).part ≡ true) ⊎ EndsWake (post_step_posted p.row x) r
step_owed p (post.Waking x continued) r owed = elim (wake-owed x r owed) [
  | inl more ↦ inl (wakes_owed (wake_after x r) continued ∙ more)
  | inr ends ↦ inr ends
]
step_owed p post.Looking r owed = absurd (cc)
step_owed p (post.Trying old new continued) r owed = absurd (cc)
step_owed p post.Absent r owed = absurd (cc)
step_owed p post.Died r owed = absurd (cc)
step_owed p (post.Posted continued) r owed = absurd (cc)
step_owed p post.Rest r owed = absurd (cc)

pub post-owed : (p : PostOne) (r : Reply) → is_post_owed p.step ≡ true
    → (is_post_owed (post_one_after p r).part.step ≡ true) ⊎ EndsWake (post_one_posted p) r
post-owed p r owed = step_owed p p.step r owed

-- where the waking begins, a wake is owed, but of one's own main thread
begun_owed : (by : Poster) (row : ℕ) (continued : Bool)
    → (is_post_owed (post_wakes (wake_begun by row) continued) ≡ true)
    ⊎ ((post_wakes (wake_begun by row) continued ≡ post.Posted continued) × (by ≡ poster.Main row))
begun_owed (poster.Main own) row continued =
    cond_both (nat_eq row own) wake.Done (wake.Looking row)
    (λ x. (is_post_owed (post_wakes x continued) ≡ true)
    ⊎ ((post_wakes x continued ≡ post.Posted continued) × (poster.Main own ≡ poster.Main row)))
    (λ e. inr (refl, ap poster.Main (sym (eqb-true row own e)))) (λ e. inl refl)
begun_owed (poster.Watcher own) row continued =
    cond_both (nat_eq row own) wake.Setting (wake.Looking row)
    (λ x. (is_post_owed (post_wakes x continued) ≡ true)
    ⊎ ((post_wakes x continued ≡ post.Posted continued) × (poster.Watcher own ≡ poster.Main row)))
    (λ e. inl refl) (λ e. inl refl)
begun_owed poster.Console row continued = inl refl

-- what an event of a posting shows
abbrev Shows : PostOne → Event → Reply → Turn PostStep → Type 0
Shows p e r t = t.event ≡ Some e → (e ≡ p.event) × IsPosted p r t.part

quiet_shows : (p : PostOne) (e : Event) (r : Reply) (x : PostStep) → Shows p e r (quietly x)
quiet_shows p e r x h = absurd (cc)

tried_shows : (p : PostOne) (e : Event) (old new : ℕ) (continued : Bool) → p.step ≡ post.Trying old new continued
    → (w : ℕ) → Shows p e (reply.Word w) (post_tried p old continued w)
tried_shows p e old new continued at w =
    cond_both (nat_eq w old)
    (record { part = post_wakes (wake_begun p.by p.row) continued; event = Some p.event })
    (quietly (post_looked p.signal w)) (Shows p e (reply.Word w))
    (λ same h. (
      let own : p.event ≡ e = cc in sym own,
      record {
        old = old;
        new = new;
        continued = continued;
        step = at;
        found = ap reply.Word (eqb-true w old same);
        owed = begun_owed p.by p.row continued;
      },
    ))
    (λ other. quiet_shows p e (reply.Word w) (post_looked p.signal w))

step_shows : (p : PostOne) (e : Event) (x : PostStep) → p.step ≡ x → (r : Reply) → Shows p e r (post_step_after p x r)
step_shows p e post.Looking at r =
    all_by_word (λ t r. Shows p e r t) (quietly post.Rest) (λ w. quietly (post_looked p.signal w))
    (λ r. quiet_shows p e r post.Rest) (λ w. quiet_shows p e (reply.Word w) (post_looked p.signal w)) r
step_shows p e (post.Trying old new continued) at r =
    all_by_word (λ t r. Shows p e r t) (quietly post.Rest) (post_tried p old continued)
    (λ r. quiet_shows p e r post.Rest) (tried_shows p e old new continued at) r
step_shows p e (post.Waking x continued) at r = quiet_shows p e r (post_wakes (wake_after x r) continued)
step_shows p e post.Absent at r = quiet_shows p e r post.Absent
step_shows p e post.Died at r = quiet_shows p e r post.Died
step_shows p e (post.Posted continued) at r = quiet_shows p e r (post.Posted continued)
step_shows p e post.Rest at r = quiet_shows p e r post.Rest

-- An event of a posting is the one that its maker named. It stands in the turn in which the signal is posted, and from
-- there on a wake is owed.
pub post-event : (p : PostOne) (r : Reply) (e : Event) → (post_one_after p r).event ≡ Some e
    → (e ≡ p.event) × IsPosted p r (post_one_after p r).part.step
post-event p r e h = step_shows p e p.step refl r h

tries_knows : (signal old : ℕ) (m : MainWord) (continued : Bool) → main_of old ≡ Some m → is_live_kind m.kind ≡ true
    → continued ≡ is_continued m.kind signal → (o : Option MainWord) → trans m (Post signal) ≡ o
    → PostKnows signal (post_tries old continued o)
tries_knows signal old m continued tells live continues (Some n) e = record {
  before = m;
  tells = tells;
  live = live;
  after = n;
  change = e;
  word = refl;
  continues = continues;
}
tries_knows signal old m continued tells live continues None e = tt

kind_knows : (kind : RowKind) (signal old : ℕ) (m : MainWord) → m.kind ≡ kind → main_of old ≡ Some m
    → PostKnows signal (post_by_kind kind signal old m)
kind_knows Running signal old m k tells =
    tries_knows signal old m false tells (ap is_live_kind k) (sym (ap (λ x. is_continued x signal) k))
    (trans m (Post signal)) refl
kind_knows Stopped signal old m k tells =
    tries_knows signal old m (nat_eq signal continue_signal) tells (ap is_live_kind k)
    (sym (ap (λ x. is_continued x signal) k)) (trans m (Post signal)) refl
kind_knows Free signal old m k tells = tt
kind_knows Held signal old m k tells = tt
kind_knows Zombie signal old m k tells = tt
kind_knows Gone signal old m k tells = tt

main_knows : (signal old : ℕ) (o : Option MainWord) → main_of old ≡ o → PostKnows signal (post_by_main signal old o)
main_knows signal old None e = tt
main_knows signal old (Some m) e = kind_knows m.kind signal old m refl e

wakes_knows : (signal : ℕ) (x : Wake) (continued : Bool) → PostKnows signal (post_wakes x continued)
wakes_knows signal wake.Done continued = tt
wakes_knows signal x continued = tt

step_knows : (p : PostOne) (x : PostStep) (r : Reply) → PostKnows p.signal (post_step_after p x r).part
step_knows p post.Looking r =
    all_by_word (λ (t : Turn PostStep) r. PostKnows p.signal t.part) (quietly post.Rest)
    (λ w. quietly (post_looked p.signal w)) (λ r. tt) (λ w. main_knows p.signal w (main_of w) refl) r
step_knows p (post.Trying old new continued) r =
    all_by_word (λ (t : Turn PostStep) r. PostKnows p.signal t.part) (quietly post.Rest) (post_tried p old continued)
    (λ r. tt)
    (λ w. cond_both (nat_eq w old)
    (record { part = post_wakes (wake_begun p.by p.row) continued; event = Some p.event })
    (quietly (post_looked p.signal w)) (λ (t : Turn PostStep). PostKnows p.signal t.part)
    (λ _. wakes_knows p.signal (wake_begun p.by p.row) continued) (λ _. main_knows p.signal w (main_of w) refl)) r
step_knows p (post.Waking x continued) r = wakes_knows p.signal (wake_after x r) continued
step_knows p post.Absent r = tt
step_knows p post.Died r = tt
step_knows p (post.Posted continued) r = tt
step_knows p post.Rest r = tt

-- what a posting tries is the change of a live process's main word by its signal
pub post-knows : (p : PostOne) (r : Reply) → PostKnows p.signal (post_one_after p r).part.step
post-knows p r = step_knows p p.step r
