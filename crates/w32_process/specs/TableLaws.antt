-- What is found in the processes of a table, by the number of a process.
use Rattle.std.proofs.Common.{◌≡◌, ◌≢◌, inl, inr, ℕ, zero, suc, ◌+◌, ◌<◌, nat_eq, if◌then◌else◌, List, []}
use Rattle.std.proofs.Common.{◌∷◌, Option, Some, None, IsSome, refl, sym, ap, ◌∙◌, arith}
use Rattle.std.proofs.lemmas.Bool.{cases_eq}
use Rattle.w32_base.specs.declared.call.Call.{Call}
use Rattle.win32_spec.specs.State.{PlacedModule, Process}
use Rattle.win32_spec.specs.Lookup.{process_of}
use Rattle.win32_spec.specs.WellFormed.{AreRisingProcesses}
use Rattle.win32_spec.specs.LookupLaws.{same, differs}
use Rattle.w32_process.specs.declared.kept.Kept.{Kept}
use Rattle.w32_process.specs.Places.{Place}
use Rattle.w32_process.specs.Table.{place_at, number_at, code_of}
use Rattle.w32_process.specs.Sound.{AreDistinct}
use Rattle.w32_process.specs.Processes.{kept_process, kept_processes, live_process, with_process_in}
use Rattle.w32_process.specs.Processes.{with_processes_from}
use Rattle.w32_process.specs.ProcessLaws.{process_of-insert_new, process_of-insert_other, rising-insert}

-- the ended process with this number, where one is kept
abbrev pub kept_at : List Kept → ℕ → Option Kept
kept_at [] w = None
kept_at (e ∷ es) w = if nat_eq e.number w then Some e else kept_at es w

-- what is shown of it
abbrev pub process_kept : Option Kept → Option Process
process_kept None = None
process_kept (Some e) = Some (kept_process e)

pub kept_at-number : (es : List Kept) (w : ℕ) (e : Kept) → kept_at es w ≡ Some e → e.number ≡ w
kept_at-number [] w e f = absurd (cc)
kept_at-number (x ∷ es) w e f =
    elim (cases_eq x.number w) [
      | inl n ↦ let s = same x.number w n in let g : Some x ≡ Some e = rw s at f in let h : x ≡ e = cc in
          ap (λ (k : Kept). k.number) (sym h) ∙ n
      | inr d ↦ let s = differs x.number w d in kept_at-number es w e (rw s at f)
    ]

-- one is found exactly where there is a code
pub code_of-kept : (es : List Kept) (w : ℕ) (e : Kept) → kept_at es w ≡ Some e → code_of es w ≡ Some e.code
code_of-kept [] w e f = absurd (cc)
code_of-kept (x ∷ es) w e f =
    elim (cases_eq x.number w) [
      | inl n ↦ let s = same x.number w n in let g : Some x ≡ Some e = rw s at f in let h : x ≡ e = cc in
          rw (s, h) refl
      | inr d ↦ let s = differs x.number w d in rw s (code_of-kept es w e (rw s at f))
    ]

pub kept_at-none : (es : List Kept) (w : ℕ) → code_of es w ≡ None → kept_at es w ≡ None
kept_at-none [] w none = refl
kept_at-none (x ∷ es) w none =
    elim (cases_eq x.number w) [
      | inl n ↦ let s = same x.number w n in absurd (let f : Some x.code ≡ None = rw s at none in cc)
      | inr d ↦ let s = differs x.number w d in rw s (kept_at-none es w (rw s at none))
    ]

pub kept_at-some : (es : List Kept) (w code : ℕ) → code_of es w ≡ Some code
    → (e : Kept) × (kept_at es w ≡ Some e) × (e.code ≡ code)
kept_at-some [] w code f = absurd (cc)
kept_at-some (x ∷ es) w code f =
    elim (cases_eq x.number w) [
      | inl n ↦ let s = same x.number w n in let g : Some x.code ≡ Some code = rw s at f in (x, rw s refl, cc)
      | inr d ↦ let s = differs x.number w d in let rest = kept_at-some es w code (rw s at f) in
          (rest.0, rw s rest.1, rest.2)
    ]

-- Among the processes that are kept.
pub process_of-kept : (es : List Kept) (w : ℕ) → AreDistinct es
    → process_of (kept_processes es) w ≡ process_kept (kept_at es w)
process_of-kept [] w distinct = refl
process_of-kept (e ∷ es) w distinct =
    elim (cases_eq e.number w) [
      | inl n ↦
          let s = same e.number w n in
          let free : process_of (kept_processes es) e.number ≡ None =
          process_of-kept es e.number distinct.1 ∙ ap process_kept (kept_at-none es e.number distinct.0) in
          rw (s, ← n) (process_of-insert_new (kept_process e) (kept_processes es) free)
      | inr d ↦
          let s = differs e.number w d in
          rw s (process_of-insert_other (kept_process e) (kept_processes es) w (λ n. d (sym n))
          ∙ process_of-kept es w distinct.1)
    ]

pub rising-kept_processes : (next : ℕ) (es : List Kept) → AreDistinct es
    → ((n : ℕ) → IsSome (code_of es n) → n < next)
    → AreRisingProcesses 0 next (kept_processes es)
rising-kept_processes next [] distinct below = tt
rising-kept_processes next (e ∷ es) distinct below =
    let s = same e.number e.number refl in
    let free : process_of (kept_processes es) e.number ≡ None =
    process_of-kept es e.number distinct.1 ∙ ap process_kept (kept_at-none es e.number distinct.0) in
    rising-insert 0 next (kept_process e) (kept_processes es)
    (rising-kept_processes next es distinct.1 (λ n some. below n (later n some))) (omega arith)
    (below e.number (rw s refl)) free
  where
    later : (n : ℕ) → IsSome (code_of es n) → IsSome (code_of (e ∷ es) n)
    later n some =
        elim (cases_eq e.number n) [
          | inl f ↦ let s = same e.number n f in rw s refl
          | inr d ↦ let s = differs e.number n d in rw s some
        ]

-- Among the processes of slots from one on, over others.
abbrev pub IsInNone : List Place → ℕ → Type 0
IsInNone places w = (k : ℕ) → number_at places k ≢ Some w

module _ (posted : ℕ → ℕ → Call) (placed : ℕ → List PlacedModule) where
  pub process_of-absent : (slot : ℕ) (places : List Place) (ps : List Process) (w : ℕ) → IsInNone places w
      → process_of (with_processes_from posted placed slot places ps) w ≡ process_of ps w
  process_of-absent slot [] ps w none = refl
  process_of-absent slot (place ∷ places) ps w none =
      by_number place.number refl (process_of-absent (slot + 1) places ps w (λ k. none (suc k)))
    where
      rest : List Process
      rest = with_processes_from posted placed (slot + 1) places ps

      by_number : (o : Option ℕ) → place.number ≡ o → process_of rest w ≡ process_of ps w
          → process_of (with_process_in posted placed slot place o rest) w ≡ process_of ps w
      by_number None e before = before
      by_number (Some v) e before =
          process_of-insert_other (live_process posted placed slot v place) rest w
          (λ n. none 0 (e ∙ ap Some (sym n)))
          ∙ before

  pub process_of-present : (slot : ℕ) (places : List Place) (ps : List Process) (k w : ℕ)
      → number_at places k ≡ Some w → process_of ps w ≡ None
      → ((j : ℕ) → number_at places j ≡ Some w → j ≡ k)
      → process_of (with_processes_from posted placed slot places ps) w ≡
      Some (live_process posted placed (slot + k) w (place_at places k))
  process_of-present slot [] ps k w at free alone = absurd (let e : None ≡ Some w = at in cc)
  process_of-present slot (place ∷ places) ps zero w at free alone =
      let none : IsInNone places w = λ k e. omega (arith, alone (suc k) e) in
      let gone = process_of-absent (slot + 1) places ps w none ∙ free in
      let here : slot + 0 ≡ slot = omega arith in
      rw (at, here) (process_of-insert_new (live_process posted placed slot w place)
      (with_processes_from posted placed (slot + 1) places ps) gone)
  process_of-present slot (place ∷ places) ps (suc k) w at free alone =
      by_number place.number refl
      (process_of-present (slot + 1) places ps k w at free (λ j e. omega (arith, alone (suc j) e)))
    where
      rest : List Process
      rest = with_processes_from posted placed (slot + 1) places ps

      moved : slot + 1 + k ≡ slot + suc k
      moved = omega arith

      by_number : (o : Option ℕ) → place.number ≡ o
          → process_of rest w ≡ Some (live_process posted placed (slot + 1 + k) w (place_at places k))
          → process_of (with_process_in posted placed slot place o rest) w ≡
          Some (live_process posted placed (slot + suc k) w (place_at places k))
      by_number None e found = rw moved at found
      by_number (Some v) e found =
          process_of-insert_other (live_process posted placed slot v place) rest w
          (λ n. omega (arith, alone 0 (e ∙ ap Some (sym n))))
          ∙ (rw moved at found)

  pub rising-with_processes : (next slot : ℕ) (places : List Place) (ps : List Process) → AreRisingProcesses 0 next ps
      → ((k n : ℕ) → number_at places k ≡ Some n → n < next)
      → ((k n : ℕ) → number_at places k ≡ Some n → process_of ps n ≡ None)
      → ((k j n : ℕ) → number_at places k ≡ Some n → number_at places j ≡ Some n → k ≡ j)
      → AreRisingProcesses 0 next (with_processes_from posted placed slot places ps)
  rising-with_processes next slot [] ps r below free alone = r
  rising-with_processes next slot (place ∷ places) ps r below free alone =
      by_number place.number refl
      (rising-with_processes next (slot + 1) places ps r (λ k. below (suc k)) (λ k. free (suc k))
      (λ k j n e f. omega (arith, alone (suc k) (suc j) n e f)))
    where
      rest : List Process
      rest = with_processes_from posted placed (slot + 1) places ps

      by_number : (o : Option ℕ) → place.number ≡ o → AreRisingProcesses 0 next rest
          → AreRisingProcesses 0 next (with_process_in posted placed slot place o rest)
      by_number None e rising = rising
      by_number (Some v) e rising =
          let none : IsInNone places v = λ k f. omega (arith, alone 0 (suc k) v e f) in
          rising-insert 0 next (live_process posted placed slot v place) rest rising (omega arith) (below 0 v e)
          (process_of-absent (slot + 1) places ps v none ∙ free 0 v e)
