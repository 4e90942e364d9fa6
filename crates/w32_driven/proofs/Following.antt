-- Parts follow the processes of their slots.
use Rattle.std.proofs.Common.{◌≡◌, ◌≢◌, ◌⊎◌, inl, inr, ◌∙◌, ℕ, Bool, true, false, Option, Some, None, MatchBool}
use Rattle.std.proofs.Common.{refl, sym, ap, subst}
use Rattle.std.proofs.lemmas.Bool.{cases_eq}
use Rattle.w32_base.specs.declared.call.Call.{Call}
use Rattle.w32_base.specs.declared.call.Reply.{Reply}
use Rattle.w32_base.specs.declared.own.Own.{Own}
use Rattle.w32_base.specs.declared.part.After.{After}
use Rattle.w32_base.specs.declared.setup.Setup.{Setup}
use Rattle.win32_spec.specs.State.{Win32State}
use Rattle.win32_spec.specs.Lookup.{thread_at, number_in}
use Rattle.win32_spec.specs.Driven.{Parts, part_at, OpensPart, is_same_number, PartFollows, AllFollow}
use Rattle.win32_spec.specs.LookupLaws.{same}

pub same-number : (o : Option ℕ) → is_same_number o o ≡ true
same-number None = refl
same-number (Some n) = same n n refl

module _ {P : Type 0} (posted_of : P → Call) (goes : P → Own → Setup → Reply → P → Own → After → Type 0)
    (opening : P → Type 0) (slot_of thread_of_part : P → ℕ) where
  -- the parts of a slot after a step from a state in which it had this process, or none
  abbrev pub SlotFollows : Option ℕ → Win32State → Parts P → Parts P → ℕ → ℕ → Type 0
  SlotFollows before new parts after slot t =
      MatchBool (is_same_number before (number_in new slot)) (part_at after slot t ≡ part_at parts slot t)
      (OpensPart posted_of goes opening slot_of thread_of_part (thread_at new slot t) slot t (part_at after slot t))

  -- a slot that keeps its process keeps its parts
  pub same-follows : (s new : Win32State) (parts after : Parts P) (slot t : ℕ) → number_in new slot ≡ number_in s slot
      → part_at after slot t ≡ part_at parts slot t
      → PartFollows posted_of goes opening slot_of thread_of_part s new parts after slot t
  same-follows s new parts after slot t e f =
      let g : is_same_number (number_in s slot) (number_in new slot) ≡ true =
      ap (is_same_number (number_in s slot)) e ∙ same-number (number_in s slot) in
      subst (λ b. MatchBool b (part_at after slot t ≡ part_at parts slot t)
      (OpensPart posted_of goes opening slot_of thread_of_part (thread_at new slot t) slot t (part_at after slot t)))
      (sym g) f

  -- and so do all slots
  pub all-same : (s new : Win32State) (parts after : Parts P) → ((k : ℕ) → number_in new k ≡ number_in s k)
      → ((k t : ℕ) → part_at after k t ≡ part_at parts k t)
      → AllFollow posted_of goes opening slot_of thread_of_part s new parts after
  all-same s new parts after numbers kept k t = same-follows s new parts after k t (numbers k) (kept k t)

  -- one slot may have another process
  pub all-follow : (s new : Win32State) (parts after : Parts P) (slot : ℕ) (before : Option ℕ)
      → before ≡ number_in s slot
      → ((k : ℕ) → k ≢ slot → number_in new k ≡ number_in s k)
      → ((k t : ℕ) → k ≢ slot → part_at after k t ≡ part_at parts k t)
      → ((t : ℕ) → SlotFollows before new parts after slot t)
      → AllFollow posted_of goes opening slot_of thread_of_part s new parts after
  all-follow s new parts after slot before is numbers kept here k t =
      by_slot (cases_eq k slot)
    where
      by_slot : (k ≡ slot) ⊎ (k ≢ slot)
          → PartFollows posted_of goes opening slot_of thread_of_part s new parts after k t
      by_slot (inl n) =
          subst (λ i. PartFollows posted_of goes opening slot_of thread_of_part s new parts after i t) (sym n)
          (subst (λ o. SlotFollows o new parts after slot t) is (here t))
      by_slot (inr d) = same-follows s new parts after k t (numbers k d) (kept k t d)

  -- the parts of a place follow further, where its process and its thread stay
  pub follows-on : (s mid new : Win32State) (parts between after : Parts P) (k t : ℕ)
      → PartFollows posted_of goes opening slot_of thread_of_part s mid parts between k t
      → number_in new k ≡ number_in mid k → part_at after k t ≡ part_at between k t
      → (is_same_number (number_in s k) (number_in mid k) ≡ false → thread_at new k t ≡ thread_at mid k t)
      → PartFollows posted_of goes opening slot_of thread_of_part s new parts after k t
  follows-on s mid new parts between after k t follows number kept thread =
      subst (λ o. MatchBool (is_same_number (number_in s k) o) (part_at after k t ≡ part_at parts k t)
      (OpensPart posted_of goes opening slot_of thread_of_part (thread_at new k t) k t (part_at after k t)))
      (sym number) (by_test (is_same_number (number_in s k) (number_in mid k)) refl follows)
    where
      by_test : (b : Bool) → is_same_number (number_in s k) (number_in mid k) ≡ b
          → MatchBool b (part_at between k t ≡ part_at parts k t)
          (OpensPart posted_of goes opening slot_of thread_of_part (thread_at mid k t) k t (part_at between k t))
          → MatchBool b (part_at after k t ≡ part_at parts k t)
          (OpensPart posted_of goes opening slot_of thread_of_part (thread_at new k t) k t (part_at after k t))
      by_test true e m = kept ∙ m
      by_test false e m =
          subst (λ o. OpensPart posted_of goes opening slot_of thread_of_part (thread_at new k t) k t o) (sym kept)
          (subst (λ o. OpensPart posted_of goes opening slot_of thread_of_part o k t (part_at between k t))
          (sym (thread e)) m)
