-- Copying between the memories of processes.
use Rattle.std.proofs.Common.{◌≡◌, ◌∙◌, ℕ, ◌≤◌, Bool, true, false, ◌&&◌, nat_le, List, length, Option, Some}
use Rattle.std.proofs.Common.{None, IsSome}
use Rattle.std.proofs.Common.{IfSome, MatchOption, MatchBool, refl, sym, ap, subst}
use Rattle.std.proofs.Common.{arith}
use Rattle.std.proofs.lemmas.Bool.Decides.{nat_tests}
use Rattle.w32_base.specs.declared.call.Region.{Region}
use Rattle.w32_base.specs.declared.call.Reply.{Reply}
use Rattle.w32_base.specs.declared.call.Reply.TheVariants as reply
use Rattle.win32_spec.specs.State.{Process, Win32State}
use Rattle.win32_spec.specs.Lookup.{process_of, number_in, memory_of, memory_by, with_own}
use Rattle.win32_spec.specs.MemoryCalls.{has_range, copied, is_copyable, ReadMemoryStep, WriteMemoryStep}
use Rattle.win32_spec.specs.Named.{object_by, process_named, Gives}
use Rattle.win32_spec.specs.ProcessCalls.{live_process}
use Rattle.win32_spec.specs.Regions.{region_of, with_region, range_of, written}
use Rattle.win32_spec.specs.ThreadEffects.{live_of-found}
use Rattle.w32_machine.specs.Copies.{Reads, ReadsAt, Writes, WritesAt, Copies, CopiesAt}
use Rattle.w32_machine.specs.Reached.{Reaches, Misses}

-- what holds of the number in a slot
pub if-number : (o : Option ℕ) (v : ℕ) (P : ℕ → Type 0) → o ≡ Some v → IfSome o P → P v
if-number o v P e h = subst (λ k. IfSome k P) e h

pub at-some : (o : Option ℕ) (P : ℕ → Type 0) → ((v : ℕ) → o ≡ Some v → P v) → IfSome o P
at-some None P f = tt
at-some (Some v) P f = f v refl

pub the-number : (o : Option ℕ) → IsSome o → (v : ℕ) × (o ≡ Some v)
the-number (Some v) some = (v, refl)
the-number None some = absurd (cc)

pub is-number : (o : Option ℕ) (v : ℕ) → o ≡ Some v → IsSome o
is-number o v e = rw e refl

-- what misses a process changes nothing, and what is done to the one that is reached
module _ (s new : Win32State) (w h : ℕ) (r : Reply) (P : ℕ → Process → Type 0) where
  by_life : new ≡ s → (v : ℕ) (o : Option Process) → MatchOption o (r ≡ reply.Gone) (λ p. ⊥)
      → MatchOption o (Gives reply.Gone s r new) (P v)
  by_life same v None e = (e, same)
  by_life same v (Some p) e = absurd e

  by_name : new ≡ s → (o : Option ℕ)
      → MatchOption o (r ≡ reply.BadHandle) (λ v. MatchOption (live_process s v) (r ≡ reply.Gone) (λ p. ⊥))
      → MatchOption o (Gives reply.BadHandle s r new)
      (λ v. MatchOption (live_process s v) (Gives reply.Gone s r new) (P v))
  by_name same None e = (e, same)
  by_name same (Some v) e = by_life same v (live_process s v) e

  pub missed : new ≡ s → Misses s w h r
      → MatchOption (process_named (object_by s w h)) (Gives reply.BadHandle s r new)
      (λ v. MatchOption (live_process s v) (Gives reply.Gone s r new) (P v))
  missed same e = by_name same (process_named (object_by s w h)) e

  pub met : (slot : ℕ) (it : Reaches s w h slot) → P it.number it.process
      → MatchOption (process_named (object_by s w h)) (Gives reply.BadHandle s r new)
      (λ v. MatchOption (live_process s v) (Gives reply.Gone s r new) (P v))
  met slot it p =
      subst (λ o. MatchOption o (Gives reply.BadHandle s r new)
      (λ v. MatchOption (live_process s v) (Gives reply.Gone s r new) (P v))) (sym it.named)
      (subst (λ o. MatchOption o (Gives reply.Gone s r new) (P it.number)) (sym it.live) p)

-- the memory of the process that is reached
reached-memory : (s : Win32State) (w h slot : ℕ) (it : Reaches s w h slot) → memory_by s it.number ≡ it.process.own
reached-memory s w h slot it =
    ap memory_of (live_of-found (process_of s.processes it.number) it.process it.live).0

-- two tests in the other order
swapped : (a b c : Bool) → (a && (b && c)) ≡ (a && (c && b))
swapped true true true = refl
swapped true true false = refl
swapped true false true = refl
swapped true false false = refl
swapped false b c = refl

-- The two calls.
module _ (s new : Win32State) (w h slot by_slot : ℕ) (it : Reaches s w h slot) (caller : number_in s by_slot ≡ Some w)
    (region : Region) (place : ℕ) (own_region : Region) (own_place count : ℕ) (r : Reply) where
  pub read-step : CopiesAt s slot region place by_slot own_region own_place count r new
      → ReadMemoryStep s w h region place own_region own_place count r new
  read-step did =
      met s new w h r
      (λ v p. MatchBool (is_copyable p.own region place (memory_by s w) own_region own_place count)
      (Gives reply.Done (with_own s w (copied p.own region place count (memory_by s w) own_region own_place)) r new)
      (Gives reply.BadRange s r new)) slot it
      (subst (λ own. MatchBool (is_copyable own region place (memory_by s w) own_region own_place count)
      (Gives reply.Done (with_own s w (copied own region place count (memory_by s w) own_region own_place)) r new)
      (Gives reply.BadRange s r new)) (reached-memory s w h slot it) its)
    where
      its : Copies s it.number region place w own_region own_place count r new
      its =
          if-number (number_in s by_slot) w
          (λ u. Copies s it.number region place u own_region own_place count r new) caller
          (if-number (number_in s slot) it.number
          (λ v. IfSome (number_in s by_slot) (λ u. Copies s v region place u own_region own_place count r new)) it.lives
          did)

  pub write-step : CopiesAt s by_slot own_region own_place slot region place count r new
      → WriteMemoryStep s w h region place own_region own_place count r new
  write-step did =
      met s new w h r
      (λ v p. MatchBool (is_copyable p.own region place (memory_by s w) own_region own_place count)
      (Gives reply.Done (with_own s v (copied (memory_by s w) own_region own_place count p.own region place)) r new)
      (Gives reply.BadRange s r new)) slot it
      (subst (λ own. MatchBool (is_copyable own region place (memory_by s w) own_region own_place count)
      (Gives reply.Done (with_own s it.number (copied (memory_by s w) own_region own_place count own region place)) r
      new) (Gives reply.BadRange s r new)) (reached-memory s w h slot it)
      (subst (λ b. MatchBool b
      (Gives reply.Done (with_own s it.number (copied (memory_by s w) own_region own_place count
      (memory_by s it.number) region place)) r new) (Gives reply.BadRange s r new))
      (swapped (nat_le count 512) (has_range (memory_by s w) own_region own_place count)
      (has_range (memory_by s it.number) region place count)) its))
    where
      its : Copies s w own_region own_place it.number region place count r new
      its =
          if-number (number_in s slot) it.number
          (λ u. Copies s w own_region own_place u region place count r new) it.lives
          (if-number (number_in s by_slot) w
          (λ v. IfSome (number_in s slot) (λ u. Copies s v own_region own_place u region place count r new)) caller did)

pub few-enough : (count : ℕ) → count ≤ 512 → nat_le count 512 ≡ true
few-enough count l = grind (arith, nat_tests, l)

-- A copy by way of a buffer.
module _ (s new : Win32State) (slot : ℕ) (region : Region) (place : ℕ) (into_slot : ℕ) (into_region : Region)
    (into_place count : ℕ) (r : Reply) where
  by_numbers : ((v u : ℕ) → number_in s slot ≡ Some v → number_in s into_slot ≡ Some u
      → Copies s v region place u into_region into_place count r new)
      → CopiesAt s slot region place into_slot into_region into_place count r new
  by_numbers f =
      at-some (number_in s slot)
      (λ v. IfSome (number_in s into_slot) (λ u. Copies s v region place u into_region into_place count r new))
      (λ v e. at-some (number_in s into_slot) (λ u. Copies s v region place u into_region into_place count r new)
      (λ u g. f v u e g))

  refused : (v u : ℕ) → is_copyable (memory_by s v) region place (memory_by s u) into_region into_place count ≡ false
      → r ≡ reply.BadRange → new ≡ s → Copies s v region place u into_region into_place count r new
  refused v u e f g =
      subst (λ b. MatchBool b
      (Gives reply.Done (with_own s u
      (copied (memory_by s v) region place count (memory_by s u) into_region into_place)) r new)
      (Gives reply.BadRange s r new)) (sym e) (f, g)

  pub too-many : nat_le count 512 ≡ false → r ≡ reply.BadRange → new ≡ s
      → CopiesAt s slot region place into_slot into_region into_place count r new
  too-many e f g = by_numbers (λ v u a b. refused v u (rw e refl) f g)

  pub unread : nat_le count 512 ≡ true → (old read : List ℕ) → length old ≡ count
      → ReadsAt s slot region place old false read → r ≡ reply.BadRange → new ≡ s
      → CopiesAt s slot region place into_slot into_region into_place count r new
  unread few old read n did f g =
      by_numbers (λ v u a b.
      let out = if-number (number_in s slot) v (λ v. Reads (memory_by s v) region place old false read) a did in
      let none : has_range (memory_by s v) region place count ≡ false =
      subst (λ i. has_range (memory_by s v) region place i ≡ false) n out in
      refused v u (rw (few, none) refl) f g)

  -- what is read is written, or lies outside
  module _ (few : nat_le count 512 ≡ true) (old read : List ℕ) (n : length old ≡ count) (m : length read ≡ count)
      (did : ReadsAt s slot region place old true read) where
    pub unwritten : WritesAt s into_slot into_region into_place read false new → r ≡ reply.BadRange
        → CopiesAt s slot region place into_slot into_region into_place count r new
    unwritten wrote f =
        by_numbers (λ v u a b.
        let in_range = if-number (number_in s slot) v (λ v. Reads (memory_by s v) region place old true read) a did in
        let out = if-number (number_in s into_slot) u
        (λ u. Writes s u into_region into_place read false new) b wrote in
        let some : has_range (memory_by s v) region place count ≡ true =
        subst (λ i. has_range (memory_by s v) region place i ≡ true) n in_range.0 in
        let none : has_range (memory_by s u) into_region into_place count ≡ false =
        subst (λ i. has_range (memory_by s u) into_region into_place i ≡ false) m out.0 in
        refused v u (rw (few, some, none) refl) f out.1)

    pub copied-over : WritesAt s into_slot into_region into_place read true new → r ≡ reply.Done
        → CopiesAt s slot region place into_slot into_region into_place count r new
    copied-over wrote f =
        by_numbers (λ v u a b.
        let in_range = if-number (number_in s slot) v (λ v. Reads (memory_by s v) region place old true read) a did in
        let done = if-number (number_in s into_slot) u
        (λ u. Writes s u into_region into_place read true new) b wrote in
        let some : has_range (memory_by s v) region place count ≡ true =
        subst (λ i. has_range (memory_by s v) region place i ≡ true) n in_range.0 in
        let fits : has_range (memory_by s u) into_region into_place count ≡ true =
        subst (λ i. has_range (memory_by s u) into_region into_place i ≡ true) m done.0 in
        let bytes : read ≡ range_of (region_of (memory_by s v) region) place count =
        in_range.1 ∙ ap (range_of (region_of (memory_by s v) region) place) n in
        let tests : is_copyable (memory_by s v) region place (memory_by s u) into_region into_place count ≡ true =
        rw (few, some, fits) refl in
        subst (λ b. MatchBool b
        (Gives reply.Done (with_own s u
        (copied (memory_by s v) region place count (memory_by s u) into_region into_place)) r new)
        (Gives reply.BadRange s r new)) (sym tests) (
          f,
          done.1 ∙ ap (λ bs. with_own s u (with_region (memory_by s u) into_region
              (written (region_of (memory_by s u) into_region) into_place bs))) bytes,
        ))
