-- In the opening state each thread has posted the call of its own part.
use Rattle.std.proofs.Common.{◌≡◌, ℕ, Bool, true, false, if◌then◌else◌, nat_eq, Option, Some, None, MatchOption, refl}
use Rattle.std.proofs.Common.{sym, ap, ◌∙◌, subst}
use Rattle.w32_base.specs.declared.call.Call.{Call}
use Rattle.w32_base.specs.declared.call.Reply.{Reply}
use Rattle.w32_base.specs.declared.own.Own.{Own}
use Rattle.w32_base.specs.declared.part.After.{After}
use Rattle.w32_base.specs.declared.setup.Setup.{Setup}
use Rattle.script_spec.specs.declared.script.Script.{Script}
use Rattle.win32_spec.specs.State.{Thread, Win32State}
use Rattle.win32_spec.specs.Lookup.{thread_of, thread_at}
use Rattle.win32_spec.specs.Making.{opening_call, new_thread}
use Rattle.win32_spec.specs.Opening.{opening_host, opening_process, IsOpening}
use Rattle.win32_spec.specs.Driven.{part_at, DrivenState, Serves, AreServed, OpensPart, IsDrivenOpening}

-- each thread of the opening state has posted the opening call
pub opening_posts : (script : Script) (s : Win32State) → IsOpening script s → (slot t : ℕ) (x : Thread)
    → thread_at s slot t ≡ Some x
    → x.posted ≡ opening_call
opening_posts script s h slot t x e =
    by_slot (nat_eq 0 slot) (nat_eq 1 slot) (subst (λ (n : Win32State). thread_at n slot t ≡ Some x) h.state e)
  where
    host : (c d : Bool) → (if c then Some (new_thread 0 0) else if d then Some (new_thread 1 0) else None) ≡ Some x
        → x.posted ≡ opening_call
    host true d g = let k : new_thread 0 0 ≡ x = cc in ap (λ (y : Thread). y.posted) (sym k)
    host false true g = let k : new_thread 1 0 ≡ x = cc in ap (λ (y : Thread). y.posted) (sym k)
    host false false g = absurd (cc)

    layer : (c d f : Bool)
        → (if c then Some (new_thread 0 0) else if d then Some (new_thread 1 1) else if f then Some (new_thread 2 1)
        else None) ≡ Some x
        → x.posted ≡ opening_call
    layer true d f g = let k : new_thread 0 0 ≡ x = cc in ap (λ (y : Thread). y.posted) (sym k)
    layer false true f g = let k : new_thread 1 1 ≡ x = cc in ap (λ (y : Thread). y.posted) (sym k)
    layer false false true g = let k : new_thread 2 1 ≡ x = cc in ap (λ (y : Thread). y.posted) (sym k)
    layer false false false g = absurd (cc)

    by_slot : (a b : Bool) → thread_of
        (if a then Some (opening_host h.numbers) else if b then Some (opening_process h.numbers h.program h.placed)
        else None) t ≡ Some x
        → x.posted ≡ opening_call
    by_slot true b g = host (nat_eq 0 t) (nat_eq 1 t) g
    by_slot false true g = layer (nat_eq 0 t) (nat_eq 1 t) (nat_eq 2 t) g
    by_slot false false g = absurd (cc)

module _ {P : Type 0} (posted_of : P → Call) (goes : P → Own → Setup → Reply → P → Own → After → Type 0)
    (opening : P → Type 0) (slot_of thread_of_part : P → ℕ)
    (begins : (p : P) → opening p → posted_of p ≡ opening_call) where
  pub served-opening : (script : Script) (d : DrivenState P)
      → IsDrivenOpening posted_of goes opening slot_of thread_of_part script d
      → AreServed posted_of goes opening slot_of thread_of_part d.win32 d.parts
  served-opening script d h slot t =
      by_thread (thread_at d.win32 slot t) (opening_posts script d.win32 h.opens slot t) (h.opened slot t)
    where
      by_thread : (o : Option Thread) → ((x : Thread) → o ≡ Some x → x.posted ≡ opening_call)
          → OpensPart posted_of goes opening slot_of thread_of_part o slot t (part_at d.parts slot t)
          → MatchOption o (part_at d.parts slot t ≡ None)
          (λ x. (part : P) × (part_at d.parts slot t ≡ Some part)
          × Serves posted_of goes opening slot_of thread_of_part slot t x part)
      by_thread None posts m = m
      by_thread (Some x) posts m = (
        m.0,
        m.1,
        record {
          posted = posts x refl ∙ sym (begins m.0 m.2.opened);
          its_slot =
              m.2.its_slot;
          its_thread = m.2.its_thread;
        },
      )
