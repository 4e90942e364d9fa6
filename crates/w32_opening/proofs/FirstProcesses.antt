-- The table of processes as a run begins.
use Rattle.std.proofs.Common.{◌≡◌, ◌∙◌, inl, inr, ℕ, zero, suc, ◌-◌, ◌≤◌, List, [], ◌∷◌, replicate}
use Rattle.std.proofs.Common.{true, false, Some, refl, sym, ap, subst, arith}
use Rattle.std.proofs.lemmas.Bool.{cases_eq}
use Rattle.w32_base.specs.declared.own.Own.{Own}
use Rattle.w32_base.specs.declared.setup.Program.{Program}
use Rattle.win32_spec.specs.Handles.{Handle}
use Rattle.win32_spec.specs.Making.{new_memory}
use Rattle.win32_spec.specs.Opening.{OpeningNumbers, opening_host, opening_handles, opening_cygheap}
use Rattle.win32_spec.specs.ProcessCalls.{resumed}
use Rattle.win32_spec.specs.State.{PlacedModule}
use Rattle.w32_process.specs.Places.{Place, empty_place, host_place}
use Rattle.w32_process.specs.Table.{Table, place_at, count_at, opening_table, with_handles, with_made}
use Rattle.w32_process.specs.Table.{with_count, with_own, IsLowestEmpty}
use Rattle.w32_opening.specs.Opened.{opened_host, opened_place, opened_table}

zeros-new : (number : ℕ) (program : Program) → (new_memory number program).cyg ≡ replicate 288 0
unfolding new_memory
zeros-new number program = refl

-- slot 1 is the lowest one that is empty
slot-one : (n slot : ℕ) (host : Place) → IsLowestEmpty (host ∷ replicate (suc n) empty_place) slot → slot ≡ 1
slot-one n slot host lowest = elim (cases_eq slot 1) [
  | inl e ↦ e
  | inr d ↦ absurd (let f : false ≡ true = lowest.lower 1 (omega arith) (omega (arith, d, lowest.from_one)) in cc)
]

abbrev table-one : ℕ → List Handle → Table
table-one n host = with_handles (opening_table (suc n)) 0 host

abbrev table-two : ℕ → List Handle → Program → List Handle → Table
table-two n host program handles = with_made (table-one n host) 1 0 program handles

abbrev table-three : ℕ → List Handle → Program → List Handle → Table
table-three n host program handles = with_count (table-two n host program handles) 1 0 0

three : (n slot r : ℕ) (host handles : List Handle) (program : Program) (t0 t2 t3 : Table) → t0 ≡ opening_table (suc n)
    → IsLowestEmpty (with_handles t0 0 host).slots slot
    → t2 ≡ with_made (with_handles t0 0 host) slot 0 program handles
    → count_at t2.slots slot 0 ≡ Some r → t3 ≡ with_count t2 slot 0 (resumed r)
    → (slot ≡ 1) × (t3 ≡ table-three n host program handles)
three n slot r host handles program t0 t2 t3 opened lowest made count resume =
    let low = subst (λ (t : Table). IsLowestEmpty (with_handles t 0 host).slots slot) opened lowest in
    let one = slot-one n slot (record host_place { handles = host }) low in
    let two : t2 ≡ table-two n host program handles =
    made ∙ ap (λ (t : Table). with_made (with_handles t 0 host) slot 0 program handles) opened
    ∙ ap (λ k. with_made (table-one n host) k 0 program handles) one in
    let e : Some 1 ≡ Some r =
    ap (λ (t : Table). count_at t.slots 1 0) (sym two) ∙ ap (λ k. count_at t2.slots k 0) (sym one) ∙ count in
    let once : 1 ≡ r = cc in (
      one,
      resume ∙ ap (λ (t : Table). with_count t slot 0 (resumed r)) two
          ∙ ap (λ k. with_count (table-two n host program handles) k 0 (resumed r)) one
          ∙ ap (λ k. with_count (table-two n host program handles) 1 0 (resumed k)) (sym once),
    )

-- the cygheap is still zeros, and once it is written the table is the opened one
pub opened-processes : (slots slot r : ℕ) (host handles : List Handle) (program : Program) (t0 t2 t3 : Table)
    (numbers : OpeningNumbers) (placed : List PlacedModule) (z u : ℕ) → z ≡ 0 → u ≡ 0 → 1 ≤ slots
    → t0 ≡ opening_table slots → IsLowestEmpty (with_handles t0 z host).slots slot
    → t2 ≡ with_made (with_handles t0 z host) slot 0 program handles
    → count_at t2.slots slot u ≡ Some r → t3 ≡ with_count t2 slot u (resumed r)
    → host ≡ (opening_host numbers).handles → handles ≡ opening_handles numbers
    → ((place_at t3.slots slot).own.cyg ≡ replicate 288 0)
    × ((own : Own) (cyg : List ℕ) → own ≡ (place_at t3.slots slot).own → cyg ≡ opening_cygheap placed
    → with_own t3 slot (record own { cyg = cyg }) ≡ opened_table slots numbers program placed)
opened-processes zero slot r host handles program t0 t2 t3 numbers placed z u zi ui some opened lowest made count resume
    hh kk =
    absurd (omega (arith, some))
opened-processes (suc n) slot r host handles program t0 t2 t3 numbers placed z u zi ui some opened lowest made count
    resume
    hh kk =
    let low = subst (λ k. IsLowestEmpty (with_handles t0 k host).slots slot) zi lowest in
    let s = three n slot r host handles program t0 t2 t3 opened low
    (made ∙ ap (λ k. with_made (with_handles t0 k host) slot 0 program handles) zi)
    (ap (λ k. count_at t2.slots slot k) (sym ui) ∙ count)
    (resume ∙ ap (λ k. with_count t2 slot k (resumed r)) ui) in
    let own_is : (place_at t3.slots slot).own ≡ new_memory 0 program =
    ap (λ (t : Table). (place_at t.slots slot).own) s.1
    ∙ ap (λ k. (place_at (table-three n host program handles).slots k).own) s.0 in (
      ap (λ (o : Own). o.cyg) own_is ∙ zeros-new 0 program,
      λ own cyg is written.
          ap (λ (t : Table). with_own t slot (record own { cyg = cyg })) s.1
          ∙ ap (λ k. with_own (table-three n host program handles) k (record own { cyg = cyg })) s.0
          ∙ ap (λ (o : Own). with_own (table-three n host program handles) 1 (record o { cyg = cyg })) (is ∙ own_is)
          ∙ ap (λ (xs : List ℕ). with_own (table-three n host program handles) 1
          (record (new_memory 0 program) { cyg = xs })) written
          ∙ ap (λ (xs : List Handle). with_own (table-three n xs program handles) 1
          (record (new_memory 0 program) { cyg = opening_cygheap placed })) hh
          ∙ ap (λ (xs : List Handle). with_own (table-three n (opening_host numbers).handles program xs) 1
          (record (new_memory 0 program) { cyg = opening_cygheap placed })) kk
          ∙ ends,
    )
  where
    ends : with_own (table-three n (opening_host numbers).handles program (opening_handles numbers)) 1
        (record (new_memory 0 program) { cyg = opening_cygheap placed })
        ≡ opened_table (suc n) numbers program placed
    ends = let e : n ≡ suc n - 1 = omega arith in
        ap (λ k. record {
          next = 3;
          slots = opened_host numbers ∷ opened_place numbers program placed
              ∷ replicate k empty_place;
          kept = [];
        }) e
