-- The laws of a part that rests.
use Rattle.std.proofs.Common.{◌≡◌, ℕ, ◌<◌, Bool, true, false, if◌then◌else◌, [], None, refl, sym, ap, ◌∙◌, subst, arith}
use Rattle.w32_base.specs.Part.{may_keep_rank, KeepsImage, with_image_of}
use Rattle.w32_base.specs.declared.call.Call.TheVariants as call
use Rattle.w32_base.specs.declared.call.Reply.{Reply}
use Rattle.w32_base.specs.declared.own.Own.{Own}
use Rattle.w32_base.specs.declared.part.After.{After}
use Rattle.w32_base.specs.declared.setup.Setup.{Setup}
use Rattle.win32_spec.specs.Making.{opening_call}
use Rattle.world_spec.specs.Resting.{Resting, resting_posted, RestingGoes, IsRestingOpening}
use Rattle.world_spec.specs.Told.{is_told_whole}

abbrev pub resting_rank : Resting → ℕ
resting_rank p = if p.rests then 1 else 2

positive : (b : Bool) → 0 < (if b then 1 else 2)
positive true = omega arith
positive false = omega arith

pub resting_goes_on : (p : Resting) → 0 < resting_rank p
resting_goes_on p = positive p.rests

-- it rests, or has looked
lowers : (b : Bool) (r : Reply) → may_keep_rank (if b then call.WaitAny [] else opening_call) r None ≡ false
    → 1 < (if b then 1 else 2)
lowers true r keeps = absurd (let never : true ≡ false = keeps in cc)
lowers false r keeps = omega arith

pub resting_lowers : (p q : Resting) (o n : Own) (s : Setup) (r : Reply) (a : After) → RestingGoes p o s r q n a
    → may_keep_rank (resting_posted p) r a.event ≡ false → resting_rank q < resting_rank p
resting_lowers p q o n s r a went keeps =
    subst (λ x. resting_rank x < resting_rank p) (sym went.part)
    (lowers p.rests r (ap (λ e. may_keep_rank (resting_posted p) r e) (sym went.event) ∙ keeps))

abbrev resting_of : ℕ → ℕ → Bool → Resting
resting_of slot thread rests = record { slot = slot; thread = thread; rests = rests }

pub one_resting : (p q : Resting) → IsRestingOpening p → IsRestingOpening q → p.slot ≡ q.slot → p.thread ≡ q.thread
    → p ≡ q
one_resting p q opened other slot thread =
    ap (λ x. resting_of x p.thread p.rests) slot ∙ ap (λ x. resting_of q.slot x p.rests) thread
    ∙ ap (λ x. resting_of q.slot q.thread x) (opened ∙ sym other)

pub resting_image : (p q : Resting) (o n : Own) (s : Setup) (r : Reply) (a : After) → RestingGoes p o s r q n a
    → KeepsImage o n
resting_image p q o n s r a went =
    subst (KeepsImage o) (sym went.own) (record { dat = refl; heap = refl; stack = refl })

pub resting_ignores : (p q : Resting) (o n x : Own) (s : Setup) (r : Reply) (a : After) → RestingGoes p o s r q n a
    → RestingGoes p (with_image_of o x) s r q (with_image_of n x) a
resting_ignores p q o n x s r a went =
    record { part = went.part; own = ap (λ y. with_image_of y x) went.own; event = went.event }

pub resting_tells : (p q : Resting) (o n : Own) (s : Setup) (r : Reply) (a : After) → RestingGoes p o s r q n a
    → is_told_whole a.event ≡ true
resting_tells p q o n s r a went = ap is_told_whole went.event

pub resting_stays : (p q : Resting) (o n : Own) (s : Setup) (r : Reply) (a : After) → RestingGoes p o s r q n a
    → (q.slot ≡ p.slot) × (q.thread ≡ p.thread)
resting_stays p q o n s r a went = (ap (λ (x : Resting). x.slot) went.part, ap (λ (x : Resting). x.thread) went.part)
