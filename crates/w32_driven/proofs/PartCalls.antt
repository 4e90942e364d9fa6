-- Parts follow the processes that a call made or ended.
use Rattle.std.proofs.Common.{◌≡◌, ◌≢◌, ◌⊎◌, inl, inr, ◌∙◌, ℕ, Some, None, refl, sym, ap, subst}
use Rattle.std.proofs.lemmas.Bool.{cases_eq}
use Rattle.w32_base.specs.declared.call.Call.{Call}
use Rattle.w32_base.specs.declared.call.Call.TheVariants as call
use Rattle.w32_base.specs.declared.call.Reply.{Reply}
use Rattle.w32_base.specs.declared.call.Reply.TheVariants as reply
use Rattle.w32_base.specs.declared.own.Own.{Own}
use Rattle.w32_base.specs.declared.part.After.{After}
use Rattle.w32_base.specs.declared.setup.Setup.{Setup}
use Rattle.script_spec.specs.declared.script.Script.{Script}
use Rattle.win32_spec.specs.State.{Win32State}
use Rattle.win32_spec.specs.Lookup.{number_in}
use Rattle.win32_spec.specs.Named.{object_by, process_named}
use Rattle.win32_spec.specs.Call.{CallStep}
use Rattle.win32_spec.specs.Driven.{Parts, AllFollow}
use Rattle.win32_spec.specs.WellFormed.{IsFormed}
use Rattle.w32_machine.specs.declared.caller.Caller.{Caller}
use Rattle.w32_machine.specs.Contract.{IsCaller, LivesOnlyIn}
use Rattle.w32_machine.specs.Lent.{ToldOf, ToldOfNone}
use Rattle.w32_driven.specs.Driving.{SlotFollows, OtherSlotsStay, IsCreate, EndsOnlyIn}
use Rattle.w32_driven.proofs.Following.{all-same, all-follow}
use Rattle.w32_driven.proofs.Made.{Makes, MakesNone, create-step, terminate-numbers, end-numbers}
use Rattle.w32_driven.proofs.PartTurns.{one-slot, no-next}

-- `terminate` ends a process in the slot that it lives in alone, and none where the handle names none
pub terminate-slot : (script : Script) (s : Win32State) (by : Caller) (c : Call) (h code v slot : ℕ)
    → c ≡ call.Terminate h code → process_named (object_by s by.process h) ≡ Some v → LivesOnlyIn s v slot
    → EndsOnlyIn script s by c slot
terminate-slot script s by c h code v slot is named only r new step k d =
    terminate-numbers s new by.process h code r
    (subst (λ x. CallStep script s by.process by.thread x r new) is step) k
    (λ u e f. d (only k (f ∙ sym e ∙ named)))

pub terminate-none : (script : Script) (s : Win32State) (w t h code : ℕ) (c : Call) → c ≡ call.Terminate h code
    → process_named (object_by s w h) ≡ None → (r : Reply) (new : Win32State) → CallStep script s w t c r new
    → (k : ℕ) → number_in new k ≡ number_in s k
terminate-none script s w t h code c is none r new step k =
    terminate-numbers s new w h code r (subst (λ x. CallStep script s w t x r new) is step) k
    (λ u e f. let g : Some u ≡ None = sym e ∙ none in absurd (cc))

pub exit-slot : (script : Script) (s : Win32State) → IsFormed script s → (by : Caller) → IsCaller s by → (c : Call)
    (code : ℕ) → c ≡ call.ExitSelf code → EndsOnlyIn script s by c by.slot
exit-slot script s h by caller c code is r new step k d =
    end-numbers s new by.process code (subst (λ x. CallStep script s by.process by.thread x r new) is step).1 k
    (λ f. d (one-slot script s k by.slot by.process h f caller.process))

module _ {P : Type 0} (posted_of : P → Call) (goes : P → Own → Setup → Reply → P → Own → After → Type 0)
    (opening : P → Type 0) (slot_of thread_of_part : P → ℕ) (script : Script) (s : Win32State) (h : IsFormed script s)
    (w t : ℕ) (c : Call) (is : IsCreate c) (r : Reply) (new : Win32State) (step : CallStep script s w t c r new)
    (parts : Parts P) where
  pub make-none : ToldOfNone new r → AllFollow posted_of goes opening slot_of thread_of_part s new parts parts
  make-none none = by_step (create-step s new r script w t c is step)
    where
      by_step : Makes s r new ⊎ MakesNone s r new
          → AllFollow posted_of goes opening slot_of thread_of_part s new parts parts
      by_step (inl makes) = absurd (none makes.handle s.next makes.answered makes.slot makes.stands)
      by_step (inr still) = all-same posted_of goes opening slot_of thread_of_part s new parts parts still.same
          (λ k t. refl)

  pub make-some : (slot : ℕ) (after : Parts P) → ToldOf new r slot → OtherSlotsStay parts after slot
      → SlotFollows posted_of goes opening slot_of thread_of_part None new parts after slot
      → AllFollow posted_of goes opening slot_of thread_of_part s new parts after
  make-some slot after told kept here = by_step (create-step s new r script w t c is step)
    where
      by_slot : (makes : Makes s r new) → told.number ≡ s.next → (slot ≡ makes.slot) ⊎ (slot ≢ makes.slot)
          → AllFollow posted_of goes opening slot_of thread_of_part s new parts after
      by_slot makes n (inl e) =
          all-follow posted_of goes opening slot_of thread_of_part s new parts after slot None
          (sym (ap (number_in s) e ∙ makes.empty)) (λ k d. makes.others k (λ f. d (f ∙ sym e))) kept here
      by_slot makes n (inr d) =
          absurd (no-next script s h slot (sym (makes.others slot d) ∙ told.stands ∙ ap (λ i. Some i) n))

      by_step : Makes s r new ⊎ MakesNone s r new
          → AllFollow posted_of goes opening slot_of thread_of_part s new parts after
      by_step (inl makes) =
          let f : reply.Made told.handle told.number ≡ reply.Made makes.handle s.next =
          sym told.told ∙ makes.answered in
          by_slot makes (cc) (cases_eq slot makes.slot)
      by_step (inr still) = absurd (still.answered told.handle told.number told.told)
