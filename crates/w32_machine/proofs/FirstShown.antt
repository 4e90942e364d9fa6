-- What the tables show as a run begins: the opening objects, and the two processes.
use Rattle.std.proofs.Common.{◌≡◌, ◌∙◌, inl, inr, ℕ, zero, suc, ◌+◌, ◌-◌, ◌*◌, ◌/◌, Bool, true, false, nat_lt}
use Rattle.std.proofs.Common.{if◌then◌else◌, List, [], ◌∷◌, replicate, Option, Some, None, slice_index_or, refl, sym}
use Rattle.std.proofs.Common.{ap}
use Rattle.std.proofs.Common.{arith}
use Rattle.std.proofs.lemmas.Bool.{cases_eq}
use Rattle.w32_base.specs.declared.call.Call.{Call}
use Rattle.w32_base.specs.declared.setup.Program.{Program}
use Rattle.win32_spec.specs.Lookup.{object_of}
use Rattle.win32_spec.specs.LookupLaws.{same, differs}
use Rattle.win32_spec.specs.Making.{opening_call}
use Rattle.win32_spec.specs.Opening.{OpeningNumbers, opening_host, opening_process, opening_objects}
use Rattle.win32_spec.specs.State.{Object, PlacedModule}
use Rattle.win32_spec.specs.WellFormed.{AreRisingObjects}
use Rattle.w32_handles.specs.Shown.{object_shown, objects_of}
use Rattle.w32_handles.specs.ShownLaws.{rising-objects, object_of-place, are_same}
use Rattle.w32_handles.specs.Table.{HeldObject, Table, object_at}
use Rattle.w32_process.specs.Places.{empty_place}
use Rattle.w32_process.specs.Processes.{with_processes_from, processes_of}
use Rattle.w32_kinds.specs.declared.kind.Kind.{Kind}
use Rattle.w32_opening.specs.declared.numbers.Numbers.{Numbers}
use Rattle.w32_opening.specs.Opened.{opening_numbers, opened_table, kept_shown, opening_at}
use Rattle.w32_kinds.specs.Shown.{shown}
use Rattle.w32_machine.specs.View.{posted_in}

-- The objects.
abbrev object_part : Option (Object × ℕ × ℕ) → Option Object
object_part None = None
object_part (Some x) = Some x.0

its_object : (o : Option (HeldObject Kind)) → object_shown shown o ≡ object_part (kept_shown o)
its_object None = refl
its_object (Some kept) = refl

pub rising-opening : (n : OpeningNumbers) → AreRisingObjects 0 (opening_objects n)
rising-opening n = (
  omega arith,
  n.section_even,
  (
    omega (arith, n.mutex_above),
    n.mutex_even,
    (omega (arith, n.terminal_above), n.terminal_even, (omega (arith, n.process_above), n.process_even, tt)),
  ),
)

module _ (n : Numbers) where
  at_place : (k : ℕ) → object_part (opening_at n (2 * k)) ≡ object_of (opening_objects (opening_numbers n)) (2 * k)
  at_place k = elim (cases_eq (2 * k / 2) (n.section / 2)) [
    | inl e ↦
        let s = same (2 * k / 2) (n.section / 2) e in
        let t = same n.section (2 * k) (omega (arith, e, n.section_even)) in rw (s, t) refl
    | inr d ↦
        let s = differs (2 * k / 2) (n.section / 2) d in
        let t = differs n.section (2 * k) (λ e. d (omega (arith, e))) in
        elim (cases_eq (2 * k / 2) (n.mutex / 2)) [
          | inl e ↦
              let u = same (2 * k / 2) (n.mutex / 2) e in
              let v = same n.mutex (2 * k) (omega (arith, e, n.mutex_even)) in rw (s, t, u, v) refl
          | inr f ↦
              let u = differs (2 * k / 2) (n.mutex / 2) f in
              let v = differs n.mutex (2 * k) (λ e. f (omega (arith, e))) in
              elim (cases_eq (2 * k / 2) (n.terminal / 2)) [
                | inl e ↦
                    let w = same (2 * k / 2) (n.terminal / 2) e in
                    let x = same n.terminal (2 * k) (omega (arith, e, n.terminal_even)) in
                    rw (s, t, u, v, w, x) refl
                | inr g ↦
                    let w = differs (2 * k / 2) (n.terminal / 2) g in
                    let x = differs n.terminal (2 * k) (λ e. g (omega (arith, e))) in
                    elim (cases_eq (2 * k / 2) (n.process / 2)) [
                      | inl e ↦
                          let y = same (2 * k / 2) (n.process / 2) e in
                          let z = same n.process (2 * k) (omega (arith, e, n.process_even)) in
                          rw (s, t, u, v, w, x, y, z) refl
                      | inr h ↦
                          let y = differs (2 * k / 2) (n.process / 2) h in
                          let z = differs n.process (2 * k) (λ e. h (omega (arith, e))) in
                          rw (s, t, u, v, w, x, y, z) refl
                    ]
              ]
        ]
  ]

  pub shows-objects : (t : Table Kind) → ((o : ℕ) → kept_shown (object_at t o) ≡ opening_at n o)
      → objects_of shown t.places ≡ opening_objects (opening_numbers n)
  shows-objects t holds =
      are_same shown (objects_of shown t.places) (opening_objects (opening_numbers n))
      (rising-objects shown t.places) (rising-opening (opening_numbers n))
      (λ k. let half : 2 * k / 2 ≡ k = omega arith in
      object_of-place shown t.places k
      ∙ ap (λ i. object_shown shown (slice_index_or t.places i None)) (sym half)
      ∙ its_object (object_at t (2 * k)) ∙ ap object_part (holds (2 * k)) ∙ at_place k)

-- The processes, where each thread has posted its first call.
pub all-opening : (count k : ℕ) → slice_index_or (replicate count opening_call) k opening_call ≡ opening_call
all-opening zero k = refl
all-opening (suc count) zero = refl
all-opening (suc count) (suc k) = all-opening count k

pub posts-opening : (count slot t : ℕ) → posted_in (replicate count opening_call) slot t ≡ opening_call
posts-opening count slot t = by_test (nat_lt t 3)
  where
    by_test : (b : Bool)
        → (if b then slice_index_or (replicate count opening_call) (3 * slot + t) opening_call else opening_call)
        ≡ opening_call
    by_test true = all-opening count (3 * slot + t)
    by_test false = refl

module _ (posted : ℕ → ℕ → Call) (placed : ℕ → List PlacedModule) where
  empty-slots : (slot count : ℕ) → with_processes_from posted placed slot (replicate count empty_place) [] ≡ []
  empty-slots slot zero = refl
  empty-slots slot (suc count) = empty-slots (slot + 1) count

  pub shows-processes : (slots : ℕ) (numbers : OpeningNumbers) (program : Program) (ms : List PlacedModule)
      → ((slot t : ℕ) → posted slot t ≡ opening_call) → placed 0 ≡ [] → placed 1 ≡ ms
      → processes_of posted placed (opened_table slots numbers program ms)
      ≡ opening_host numbers ∷ opening_process numbers program ms ∷ []
  shows-processes slots numbers program ms posts none some =
      let others = empty-slots 2 (slots - 1) in
      let p = posts 0 0 in
      let q = posts 0 1 in
      let r = posts 1 0 in
      let s = posts 1 1 in
      let t = posts 1 2 in
      rw (others, p, q, r, s, t, none, some) refl
