-- What is found in the processes of a sound table: by number, and by slot.
use Rattle.std.proofs.Common.{◌≡◌, ◌≢◌, ◌⊎◌, inl, inr, ℕ, zero, suc, ◌+◌, true, false, List, [], ◌∷◌, Option}
use Rattle.std.proofs.Common.{Some, None, IsSome, refl, sym, ap, ◌∙◌, subst, arith, true≢false}
use Rattle.std.proofs.lemmas.Bool.{cases_eq}
use Rattle.w32_base.specs.declared.call.Call.{Call}
use Rattle.win32_spec.specs.State.{PlacedModule, Process}
use Rattle.win32_spec.specs.Lookup.{is_alive, process_of, is_live, process_in}
use Rattle.win32_spec.specs.WellFormed.{AreRisingProcesses}
use Rattle.win32_spec.specs.LookupLaws.{same_some, not_none, process_in-found, process_in-free}
use Rattle.w32_process.specs.declared.kept.Kept.{Kept}
use Rattle.w32_process.specs.Places.{Place}
use Rattle.w32_process.specs.Table.{Table, place_at, number_at, code_of}
use Rattle.w32_process.specs.Sound.{IsSound}
use Rattle.w32_process.specs.Processes.{kept_process, kept_processes, live_process, processes_of}
use Rattle.w32_process.specs.TableLaws.{kept_at, process_kept, kept_at-none, code_of-kept, process_of-kept, IsInNone}
use Rattle.w32_process.specs.TableLaws.{rising-kept_processes, process_of-absent, process_of-present}
use Rattle.w32_process.specs.TableLaws.{rising-with_processes}

-- a number is that of the process in some slot, or in none
pub slot_of : (places : List Place) (w : ℕ) → ((k : ℕ) × (number_at places k ≡ Some w)) ⊎ IsInNone places w
slot_of [] w = inr (λ k e. let f : None ≡ Some w = e in cc)
slot_of (place ∷ places) w = by_rest (slot_of places w)
  where
    by_rest : ((k : ℕ) × (number_at places k ≡ Some w)) ⊎ IsInNone places w
        → ((k : ℕ) × (number_at (place ∷ places) k ≡ Some w)) ⊎ IsInNone (place ∷ places) w
    by_rest (inl at) = inl (suc at.0, at.1)
    by_rest (inr none) = by_number place.number refl
      where
        nowhere : place.number ≢ Some w → IsInNone (place ∷ places) w
        nowhere d zero e = d e
        nowhere d (suc k) e = none k e

        by_number : (o : Option ℕ) → place.number ≡ o
            → ((k : ℕ) × (number_at (place ∷ places) k ≡ Some w)) ⊎ IsInNone (place ∷ places) w
        by_number None e = inr (nowhere (λ f. let g : None ≡ Some w = sym e ∙ f in cc))
        by_number (Some v) e =
            elim (cases_eq v w) [
              | inl n ↦ inl (0, e ∙ ap Some n)
              | inr d ↦ inr (nowhere (λ f. d (let g : Some v ≡ Some w = sym e ∙ f in cc)))
            ]

-- the live process of a slot, where it has one
abbrev pub shown : (posted : ℕ → ℕ → Call) (placed : ℕ → List PlacedModule) (slot : ℕ) → Place → Option ℕ
    → Option Process
shown posted placed slot place None = None
shown posted placed slot place (Some w) = Some (live_process posted placed slot w place)

abbrev pub process_at : (posted : ℕ → ℕ → Call) (placed : ℕ → List PlacedModule) → Table → ℕ → Option Process
process_at posted placed t slot = shown posted placed slot (place_at t.slots slot) (number_at t.slots slot)

module _ (posted : ℕ → ℕ → Call) (placed : ℕ → List PlacedModule) (t : Table) (sound : IsSound t) where
  kept_none : (n : ℕ) → code_of t.kept n ≡ None → process_of (kept_processes t.kept) n ≡ None
  kept_none n none = process_of-kept t.kept n sound.numbers.kept_alone ∙ ap process_kept (kept_at-none t.kept n none)

  -- the processes stand by rising numbers, each below the next one
  pub rising-processes : AreRisingProcesses 0 t.next (processes_of posted placed t)
  rising-processes =
      rising-with_processes posted placed t.next 0 t.slots (kept_processes t.kept)
      (rising-kept_processes t.next t.kept sound.numbers.kept_alone sound.numbers.kept_below) sound.numbers.below
      (λ k n e. kept_none n (sound.numbers.live k n e)) sound.numbers.alone

  -- a live process is found by its number
  pub process_of-live : (slot w : ℕ) → number_at t.slots slot ≡ Some w
      → process_of (processes_of posted placed t) w ≡
      Some (live_process posted placed slot w (place_at t.slots slot))
  process_of-live slot w at =
      let zero_and : 0 + slot ≡ slot = omega arith in
      rw zero_and at
      (process_of-present posted placed 0 t.slots (kept_processes t.kept) slot w at
      (kept_none w (sound.numbers.live slot w at)) (λ j e. sound.numbers.alone j slot w e at))

  -- what is found of a number that no slot has
  pub process_of-aside : (w : ℕ) → IsInNone t.slots w
      → process_of (processes_of posted placed t) w ≡ process_kept (kept_at t.kept w)
  process_of-aside w none =
      process_of-absent posted placed 0 t.slots (kept_processes t.kept) w none
      ∙ process_of-kept t.kept w sound.numbers.kept_alone

  -- a process that is kept after its end is found by its number
  pub not_live : (w : ℕ) → IsSome (code_of t.kept w) → IsInNone t.slots w
  not_live w some k e =
      true≢false (sym (subst (λ (o : Option ℕ). IsSome o) (sound.numbers.live k w e) some))

  pub process_of-ended : (w : ℕ) (e : Kept) → kept_at t.kept w ≡ Some e
      → process_of (processes_of posted placed t) w ≡ Some (kept_process e)
  process_of-ended w e at =
      let some : IsSome (code_of t.kept w) = rw (code_of-kept t.kept w e at) refl in
      process_of-aside w (not_live w some) ∙ ap process_kept at

  -- whether the process of a number is alive
  pub is_live-at : (slot w : ℕ) → number_at t.slots slot ≡ Some w
      → is_live (process_of (processes_of posted placed t) w) ≡ true
  is_live-at slot w at = rw (process_of-live slot w at) refl

  pub is_live-aside : (w : ℕ) → IsInNone t.slots w → is_live (process_of (processes_of posted placed t) w) ≡ false
  is_live-aside w none = rw (process_of-aside w none) (by_answer (kept_at t.kept w))
    where
      by_answer : (o : Option Kept) → is_live (process_kept o) ≡ false
      by_answer None = refl
      by_answer (Some e) = refl

  -- a process that is found alive is that of a slot
  pub live_at : (w : ℕ) (p : Process) → process_of (processes_of posted placed t) w ≡ Some p
      → is_alive p.life ≡ true
      → (slot : ℕ) × (number_at t.slots slot ≡ Some w)
      × (p ≡ live_process posted placed slot w (place_at t.slots slot))
  live_at w p e alive =
      elim (slot_of t.slots w) [
        | inl at ↦ (
          at.0,
          at.1,
          same_some (process_of (processes_of posted placed t) w) p
              (live_process posted placed at.0 w (place_at t.slots at.0)) e (process_of-live at.0 w at.1),
        )
        | inr none ↦ absurd (let f : is_live (Some p) ≡ false = rw e at (is_live-aside w none) in
            let g : true ≡ false = sym alive ∙ f in cc)
      ]

  -- in each slot is the live process that the table has there
  pub process_in-at : (slot : ℕ) → process_in (processes_of posted placed t) slot ≡ process_at posted placed t slot
  process_in-at slot = by_number (number_at t.slots slot) refl (process_in (processes_of posted placed t) slot) refl
    where
      found : (p : Process) → process_in (processes_of posted placed t) slot ≡ Some p
          → (number_at t.slots slot ≡ Some p.number)
          × (p ≡ live_process posted placed slot p.number (place_at t.slots slot))
      found p e =
          let f = process_in-found 0 t.next (processes_of posted placed t) slot p rising-processes e in
          let at = live_at p.number p f.0 f.1 in
          let here : at.0 ≡ slot = sym (ap (λ (q : Process). q.slot) at.2) ∙ f.2 in
          (rw here at at.1, rw here at at.2)

      by_number : (n : Option ℕ) → number_at t.slots slot ≡ n → (o : Option Process)
          → process_in (processes_of posted placed t) slot ≡ o
          → o ≡ shown posted placed slot (place_at t.slots slot) n
      by_number None at None e = refl
      by_number None at (Some p) e = absurd (not_none (number_at t.slots slot) p.number (found p e).0 at)
      by_number (Some w) at None e =
          absurd
          (process_in-free (processes_of posted placed t) slot w
          (live_process posted placed slot w (place_at t.slots slot)) e (process_of-live slot w at) refl refl)
      by_number (Some w) at (Some p) e =
          let f = found p e in
          let n : p.number ≡ w = same_some (number_at t.slots slot) p.number w f.0 at in
          ap Some (f.1 ∙ ap (λ v. live_process posted placed slot v (place_at t.slots slot)) n)

  -- the same with its number at hand
  pub process_in-live : (slot w : ℕ) → number_at t.slots slot ≡ Some w
      → process_in (processes_of posted placed t) slot ≡
      Some (live_process posted placed slot w (place_at t.slots slot))
  process_in-live slot w at = process_in-at slot ∙ ap (shown posted placed slot (place_at t.slots slot)) at

  pub process_in-empty : (slot : ℕ) → number_at t.slots slot ≡ None
      → process_in (processes_of posted placed t) slot ≡ None
  process_in-empty slot at = process_in-at slot ∙ ap (shown posted placed slot (place_at t.slots slot)) at

  -- no process has a number that wasn't given yet
  pub process_of-next : process_of (processes_of posted placed t) t.next ≡ None
  process_of-next =
      process_of-aside t.next (λ k e. omega (arith, sound.numbers.below k t.next e))
      ∙ ap process_kept (kept_at-none t.kept t.next (no_code (code_of t.kept t.next) refl))
    where
      no_code : (o : Option ℕ) → code_of t.kept t.next ≡ o → o ≡ None
      no_code None e = refl
      no_code (Some c) e =
          let some : IsSome (code_of t.kept t.next) = rw e refl in
          absurd (omega (arith, sound.numbers.kept_below t.next some))
