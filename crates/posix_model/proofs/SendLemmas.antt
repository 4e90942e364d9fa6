-- What the generation of a signal leaves.
use Rattle.std.proofs.Common.{◌≡◌, ℕ, ◌+◌, true, false, cond, ◌&&◌, nat_eq, Option, Some, None, refl, ◌∙◌}
use Rattle.posix_spec.specs.Signals.{continue_signal}
use Rattle.posix_spec.specs.Pending.{is_live, is_stopped}
use Rattle.posix_spec.specs.Records.{change_record}
use Rattle.posix_spec.specs.State.{Life, Running, Stopped, Zombie, CallInProgress, Record, PosixState, record_of}
use Rattle.posix_spec.specs.Sending.{with_generated, continued, generated_by_life, generated, owed_more, owed_for, sent}
use Rattle.posix_model.proofs.ChangeLaws.{kept_at}

owed-by_life : (life : Life) (signal : ℕ) (r : Record) → (generated_by_life life signal r).owed ≡ r.owed
owed-by_life Running signal r = refl
owed-by_life (Stopped t) signal r =
    elim (nat_eq signal continue_signal) as (λ b. (cond b (continued (with_generated signal r)) (with_generated
    signal r)).owed ≡ r.owed) [ true ↦ refl | false ↦ refl ]
owed-by_life (Zombie v) signal r = refl

pub owed-generated : (signal : ℕ) (r : Record) → (generated signal r).owed ≡ r.owed
owed-generated signal r =
    elim (nat_eq signal 0) as (λ b. (cond b r (generated_by_life r.life signal r)).owed ≡ r.owed) [
      | true ↦ refl
      | false ↦ owed-by_life r.life signal r
    ]

image-by_life : (life : Life) (signal : ℕ) (r : Record) → (generated_by_life life signal r).image ≡ r.image
image-by_life Running signal r = refl
image-by_life (Stopped t) signal r =
    elim (nat_eq signal continue_signal) as (λ b. (cond b (continued (with_generated signal r)) (with_generated
    signal r)).image ≡ r.image) [ true ↦ refl | false ↦ refl ]
image-by_life (Zombie v) signal r = refl

pub image-generated : (signal : ℕ) (r : Record) → (generated signal r).image ≡ r.image
image-generated signal r =
    elim (nat_eq signal 0) as (λ b. (cond b r (generated_by_life r.life signal r)).image ≡ r.image) [
      | true ↦ refl
      | false ↦ image-by_life r.life signal r
    ]

call-by_life : (life : Life) (signal : ℕ) (r : Record) → (generated_by_life life signal r).call ≡ r.call
call-by_life Running signal r = refl
call-by_life (Stopped t) signal r =
    elim (nat_eq signal continue_signal) as (λ b. (cond b (continued (with_generated signal r)) (with_generated
    signal r)).call ≡ r.call) [ true ↦ refl | false ↦ refl ]
call-by_life (Zombie v) signal r = refl

call-generated : (signal : ℕ) (r : Record) → (generated signal r).call ≡ r.call
call-generated signal r =
    elim (nat_eq signal 0) as (λ b. (cond b r (generated_by_life r.life signal r)).call ≡ r.call) [
      | true ↦ refl
      | false ↦ call-by_life r.life signal r
    ]

call-owed_more : (r : Record) → (owed_more r).call ≡ r.call
call-owed_more r = elim (is_live r.life) as (λ b. (cond b (record r { owed = r.owed + 1 }) r).call ≡ r.call) [
  | true ↦
      refl
  | false ↦ refl
]

module _ (signal p : ℕ) (x : Record) where
  owed_for_kept : (o : Option Record) (t : PosixState) → record_of (owed_for signal o t) p ≡ Some x → (y : Record) ×
      (record_of t p ≡ Some y) × (x.call ≡ y.call)
  owed_for_kept None t e = (x, e, refl)
  owed_for_kept (Some r) t e =
      elim (nat_eq signal continue_signal && is_stopped r.life) as (λ b. record_of (cond b (change_record t r.parent
      owed_more) t) p ≡ Some x → (y : Record) × (record_of t p ≡ Some y) × (x.call ≡ y.call)) [
        | true ↦ λ e. let call_in : Record → CallInProgress = λ r. r.call in kept_at t r.parent owed_more call_in
            call-owed_more p x e
        | false ↦ λ e. (x, e, refl)
      ] e

  -- a signal that is sent leaves the calls in progress
  pub call-sent : (s : PosixState) (q : ℕ) → record_of (sent s q signal) p ≡ Some x → (y : Record) × (record_of s p ≡
      Some y) × (x.call ≡ y.call)
  call-sent s q e =
      let call_in : Record → CallInProgress = λ r. r.call in
      let after = owed_for_kept (record_of s q) (change_record s q (generated signal)) e in
      let before = kept_at s q (generated signal) call_in (call-generated signal) p after.0 after.1 in
      (before.0, before.1, after.2 ∙ before.2)
