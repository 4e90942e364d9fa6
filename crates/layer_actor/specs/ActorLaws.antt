-- The laws of a part that serves one thread for its whole life.
use Rattle.std.specs.Prelude.{◌≡◌, ◌≢◌, ◌↔◌, IsTrue, ℕ, ◌<◌, true, false, nat_eq}
use Rattle.std.proofs.Common.{refl, sym, ap, ◌∙◌, subst, arith}
use Rattle.std.proofs.lemmas.Bool.{cond_both}
use Rattle.w32_base.specs.declared.call.Call.TheVariants.{Load}
use Rattle.w32_base.specs.declared.call.Reply.{Reply}
use Rattle.w32_base.specs.declared.own.Own.{Own}
use Rattle.w32_base.specs.declared.part.After.{After}
use Rattle.w32_base.specs.declared.setup.Setup.{Setup}
use Rattle.w32_base.specs.Part.{KeepsImage, with_image_of}
use Rattle.layer_turns.specs.OwnTurns.{WentOn, IsFair}
use Rattle.layer_turns.specs.OwnTurnsLaws.{same_lengths}
use Rattle.job_control.specs.declared.starter.Starter.TheVariants as starter
use Rattle.job_control.specs.StarterLaws.{starter_lowers, starter_goes_on}
use Rattle.layer_actor.specs.declared.idle.Idle.TheVariants as idle
use Rattle.layer_actor.specs.declared.actor.Serves.{Serves}
use Rattle.layer_actor.specs.declared.actor.Serves.TheVariants as serves
use Rattle.layer_actor.specs.declared.actor.Actor.{Actor}
use Rattle.layer_actor.specs.DoingLaws.{doing_fair, doing_goes_on}
use Rattle.layer_actor.specs.Actor.{main_opened, serves_opened, actor_opened, thread_of, serves_posted, actor_posted}
use Rattle.layer_actor.specs.Actor.{serves_after, actor_after, serves_rank, actor_rank}

serves_fair : (setup : Setup) (x : Serves) (r : Reply) (own : Own)
    → IsFair serves_rank (serves_posted x) (serves_rank x) r own (serves_after setup x own r)
serves_fair setup (serves.Main x) r own =
    record {
      lowers = (doing_fair setup x.who x.doing r own).lowers;
      lengths = (doing_fair setup x.who x.doing r own).lengths;
    }
serves_fair setup (serves.Starter x) r own = record { lowers = starter_lowers x r; lengths = same_lengths own }
serves_fair setup (serves.Other thread idle.Opening) r own =
    record { lowers = λ _. omega arith; lengths = same_lengths own }
serves_fair setup (serves.Other thread idle.Resting) r own =
    record { lowers = λ keeps. absurd (let never : true ≡ false = keeps in cc); lengths = same_lengths own }

-- each turn lowers the rank, unless it may keep it, and keeps the length of each region
pub actor_fair : (setup : Setup) (p : Actor) (r : Reply) (own : Own)
    → IsFair actor_rank (actor_posted p) (actor_rank p) r own (actor_after setup p own r)
actor_fair setup p r own =
    record {
      lowers = (serves_fair setup p.serves r own).lowers;
      lengths = (serves_fair setup p.serves r own).lengths;
    }

serves_goes_on : (x : Serves) → 0 < serves_rank x
serves_goes_on (serves.Main x) = doing_goes_on x.doing
serves_goes_on (serves.Starter x) = starter_goes_on x
serves_goes_on (serves.Other thread idle.Opening) = omega arith
serves_goes_on (serves.Other thread idle.Resting) = omega arith

-- it is never done
pub actor_goes_on : (p : Actor) → 0 < actor_rank p
actor_goes_on p = serves_goes_on p.serves

pub never_done : (p : Actor) → IsTrue false ↔ (actor_rank p ≡ 0)
never_done p = grind (arith, actor_goes_on p)

-- what `open` answers for its slot and its thread
abbrev pub IsOpened : Actor → Type 0
IsOpened p = p ≡ actor_opened p.slot (thread_of p.serves)

pub one_opened : (p q : Actor) → IsOpened p → IsOpened q → p.slot ≡ q.slot
    → thread_of p.serves ≡ thread_of q.serves → p ≡ q
one_opened p q opened other slot thread =
    opened ∙ ap (λ s. actor_opened s (thread_of p.serves)) slot ∙ ap (actor_opened q.slot) thread ∙ sym other

opened_posts : (slot thread : ℕ) → serves_posted (serves_opened slot thread) ≡ Load 1 0
opened_posts slot thread =
    cond_both (nat_eq slot 0) _ _ (λ x. serves_posted x ≡ Load 1 0)
    (λ _. cond_both (nat_eq thread 1) (serves.Starter starter.Opening) (serves.Other thread idle.Opening)
    (λ x. serves_posted x ≡ Load 1 0) (λ _. refl) (λ _. refl))
    (λ _. cond_both (nat_eq thread 0) (serves.Main main_opened) (serves.Other thread idle.Opening)
    (λ x. serves_posted x ≡ Load 1 0) (λ _. refl) (λ _. refl))

-- it first looks at the number of claimed rows
pub first_call : (p : Actor) → IsOpened p → actor_posted p ≡ Load 1 0
first_call p opened = ap actor_posted opened ∙ opened_posts p.slot (thread_of p.serves)

-- it serves the same thread for ever
pub slot_stays : (p q : Actor) (o n : Own) (s : Setup) (r : Reply) (a : After) → WentOn (actor_after s p o r) q n a
    → q.slot ≡ p.slot
slot_stays p q o n s r a went = ap (λ (x : Actor). x.slot) went.part

same_thread : (s : Setup) (x : Serves) (o : Own) (r : Reply) → thread_of (serves_after s x o r).part ≡ thread_of x
same_thread s (serves.Main x) o r = refl
same_thread s (serves.Starter x) o r = refl
same_thread s (serves.Other thread x) o r = refl

pub thread_stays : (p q : Actor) (o n : Own) (s : Setup) (r : Reply) (a : After) → WentOn (actor_after s p o r) q n a
    → thread_of q.serves ≡ thread_of p.serves
thread_stays p q o n s r a went = ap (λ (x : Actor). thread_of x.serves) went.part ∙ same_thread s p.serves o r

-- a thread but the main one leaves its process's bytes
own_stays : (s : Setup) (x : Serves) (o : Own) (r : Reply) → thread_of x ≢ 0 → (serves_after s x o r).own ≡ o
own_stays s (serves.Main x) o r other = absurd (other refl)
own_stays s (serves.Starter x) o r other = refl
own_stays s (serves.Other thread x) o r other = refl

pub image_stays : (p q : Actor) (o n : Own) (s : Setup) (r : Reply) (a : After) → thread_of p.serves ≢ 0
    → WentOn (actor_after s p o r) q n a → KeepsImage o n
image_stays p q o n s r a other went =
    subst (λ x. KeepsImage o x) (sym (went.own ∙ own_stays s p.serves o r other))
    (record { dat = refl; heap = refl; stack = refl })

-- and does the same whatever they are
part_ignores : (s : Setup) (x : Serves) (o other_own : Own) (r : Reply) → thread_of x ≢ 0
    → (serves_after s x o r).part ≡ (serves_after s x other_own r).part
part_ignores s (serves.Main x) o other_own r other = absurd (other refl)
part_ignores s (serves.Starter x) o other_own r other = refl
part_ignores s (serves.Other thread x) o other_own r other = refl

event_ignores : (s : Setup) (x : Serves) (o other_own : Own) (r : Reply) → thread_of x ≢ 0
    → (serves_after s x o r).event ≡ (serves_after s x other_own r).event
event_ignores s (serves.Main x) o other_own r other = absurd (other refl)
event_ignores s (serves.Starter x) o other_own r other = refl
event_ignores s (serves.Other thread x) o other_own r other = refl

pub image_is_ignored : (p q : Actor) (o n x : Own) (s : Setup) (r : Reply) (a : After) → thread_of p.serves ≢ 0
    → WentOn (actor_after s p o r) q n a → WentOn (actor_after s p (with_image_of o x) r) q (with_image_of n x) a
image_is_ignored p q o n x s r a other went =
    record {
      part = went.part ∙ ap (λ y. record p { serves = y }) (part_ignores s p.serves o (with_image_of o x) r other);
      own = ap (λ y. with_image_of y x) (went.own ∙ own_stays s p.serves o r other)
          ∙ sym (own_stays s p.serves (with_image_of o x) r other);
      event = went.event ∙ event_ignores s p.serves o (with_image_of o x) r other;
    }
