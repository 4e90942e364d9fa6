-- While a slot is empty there is room for the handles of a further process.
use Rattle.std.proofs.Common.{◌≡◌, inl, inr, ℕ, zero, suc, ◌+◌, ◌*◌, ◌≤◌, ◌<◌, if◌then◌else◌, List, [], ◌∷◌, length}
use Rattle.std.proofs.Common.{Option, Some, None, refl, arith}
use Rattle.std.proofs.lemmas.Bool.{cases_lt}
use Rattle.w32_base.specs.declared.call.Call.{Call}
use Rattle.script_spec.specs.declared.script.Script.{Script}
use Rattle.win32_spec.specs.State.{Object, PlacedModule, Process}
use Rattle.win32_spec.specs.Lookup.{is_alive, object_number}
use Rattle.win32_spec.specs.WellFormed.{IsWellFormed}
use Rattle.win32_spec.specs.LookupLaws.{before, not_before}
use Rattle.win32_spec.specs.HolderLaws.{length-rising}
use Rattle.win32_spec.specs.FormedLaws.{have_rising}
use Rattle.w32_handles.specs.Table.{HeldObject}
use Rattle.w32_handles.specs.Counted.{all_handles, all_holders_on}
use Rattle.w32_handles.specs.BoundLaws.{all_holders_on-le}
use Rattle.w32_process.specs.declared.kept.Kept.{Kept as KeptProcess}
use Rattle.w32_process.specs.Places.{Place}
use Rattle.w32_process.specs.Table.{Table, place_at, number_at}
use Rattle.w32_process.specs.Sound.{IsSound}
use Rattle.w32_process.specs.Processes.{insert_process, kept_process, kept_processes, live_process, with_process_in}
use Rattle.w32_process.specs.Processes.{with_processes_from, processes_of}
use Rattle.w32_process.specs.FoundLaws.{process_of-live}
use Rattle.w32_process.specs.ClosedLaws.{state_of}

all_handles-insert : (new : Process) (ps : List Process)
    → all_handles (insert_process new ps) ≡ (if is_alive new.life then length new.handles else 0) + all_handles ps
all_handles-insert new [] = refl
all_handles-insert new (p ∷ ps) =
    elim (cases_lt new.number p.number) [
      | inl l ↦ let t = before new.number p.number l in rw t refl
      | inr l ↦ let t = not_before new.number p.number l in rw t (omega (arith, all_handles-insert new ps))
    ]

all_handles-kept : (es : List KeptProcess) → all_handles (kept_processes es) ≡ 0
all_handles-kept [] = refl
all_handles-kept (e ∷ es) =
    omega (arith, all_handles-insert (kept_process e) (kept_processes es), all_handles-kept es)

-- how many handles the process of a place has
abbrev handles_at : Place → Option ℕ → ℕ
handles_at place None = 0
handles_at place (Some w) = length place.handles

abbrev handles_in : List Place → ℕ
handles_in [] = 0
handles_in (place ∷ places) = handles_at place place.number + handles_in places

all_handles-from : (posted : ℕ → ℕ → Call) (placed : ℕ → List PlacedModule) (slot : ℕ) (places : List Place)
    (ps : List Process)
    → all_handles (with_processes_from posted placed slot places ps) ≡ handles_in places + all_handles ps
all_handles-from posted placed slot [] ps = omega arith
all_handles-from posted placed slot (place ∷ places) ps =
    by_number place.number (all_handles-from posted placed (slot + 1) places ps)
  where
    by_number : (o : Option ℕ)
        → all_handles (with_processes_from posted placed (slot + 1) places ps) ≡ handles_in places + all_handles ps
        → all_handles (with_process_in posted placed slot place o
        (with_processes_from posted placed (slot + 1) places ps)) ≡
        handles_at place o + handles_in places + all_handles ps
    by_number None rest = omega (arith, rest)
    by_number (Some w) rest =
        omega (
          arith,
          rest,
          all_handles-insert (live_process posted placed slot w place)
              (with_processes_from posted placed (slot + 1) places ps),
        )

abbrev HaveFew : List Place → Type 0
HaveFew places = (k w : ℕ) → number_at places k ≡ Some w → length (place_at places k).handles ≤ 64

handles_in-most : (places : List Place) → HaveFew places → handles_in places ≤ 64 * length places
handles_in-most [] few = omega arith
handles_in-most (place ∷ places) few = by_number place.number refl (handles_in-most places (λ k w e. few (suc k) w e))
  where
    by_number : (o : Option ℕ) → place.number ≡ o → handles_in places ≤ 64 * length places
        → handles_at place o + handles_in places ≤ 64 * suc (length places)
    by_number None e rest = omega (arith, rest)
    by_number (Some w) e rest = omega (arith, rest, few 0 w e)

handles_in-empty : (places : List Place) (slot : ℕ) → HaveFew places → slot < length places
    → number_at places slot ≡ None
    → handles_in places + 64 ≤ 64 * length places
handles_in-empty [] slot few l at = absurd (omega arith)
handles_in-empty (place ∷ places) zero few l at =
    let here : place.number ≡ None = at in
    rw here (omega (arith, handles_in-most places (λ k w e. few (suc k) w e)))
handles_in-empty (place ∷ places) (suc slot) few l at =
    by_number place.number refl (handles_in-empty places slot (λ k w e. few (suc k) w e) (omega arith) at)
  where
    by_number : (o : Option ℕ) → place.number ≡ o → handles_in places + 64 ≤ 64 * length places
        → handles_at place o + handles_in places + 64 ≤ 64 * suc (length places)
    by_number None e rest = omega (arith, rest)
    by_number (Some v) e rest = omega (arith, rest, few 0 v e)

module _ {K : Type 0} (script : Script) (posted : ℕ → ℕ → Call) (placed : ℕ → List PlacedModule) (f : K → Object)
    (t : Table) (sound : IsSound t) (places : List (Option (HeldObject K))) (keys : List ℕ)
    (h : IsWellFormed script (state_of posted placed f t places keys)) where
  few : HaveFew t.slots
  few k w e =
      let found = process_of-live posted placed t sound k w e in
      let rising = have_rising script (state_of posted placed f t places keys) h.formed w
      (live_process posted placed k w (place_at t.slots k)) found refl in
      omega (arith, length-rising 1 (place_at t.slots k).handles (omega arith) rising)

  pub holders-empty : (slot : ℕ) → slot < length t.slots → number_at t.slots slot ≡ None → (o : ℕ)
      → object_number o ≡ o
      → all_holders_on (processes_of posted placed t) o + 64 ≤ 4160
  holders-empty slot within empty o even =
      omega (
        arith,
        sound.few,
        handles_in-empty t.slots slot few within empty,
        all_handles-from posted placed 0 t.slots (kept_processes t.kept),
        all_handles-kept t.kept,
        all_holders_on-le (processes_of posted placed t) o even,
      )
