-- In the states in which a run begins, rows and images show the POSIX machine's one process.
use Rattle.std.specs.Prelude.{◌≡◌, ℕ, zero, suc, ◌+◌, ◌-◌, ◌≤◌, ◌<◌, Bool, true, false, nat_eq, if◌then◌else◌, List, []}
use Rattle.std.specs.Prelude.{◌∷◌, length, map, replicate, slice_index, slice_index_or, slice_get, Option, Some, None}
use Rattle.std.specs.Prelude.{IsSome, MatchOption}
use Rattle.std.specs.Ordering.{nat_cmp, eq_by_cmp}
use Rattle.std.specs.FinMap as finmap
use Rattle.std.proofs.lemmas.Cmp.{nat_cmp_total}
use Rattle.std.proofs.Common.{inl, inr, refl, sym, ◌∙◌, ap, subst, arith, get_or}
use Rattle.std.proofs.lemmas.List.{get_or_append_left, get_or-append_right, length-map}
use Rattle.std.proofs.lemmas.Bool.{ne_eqb, cases_eq, false≢true}
use Rattle.std.proofs.lemmas.Bool.Decides.{nat_tests}
use Rattle.w32_base.specs.declared.setup.Program.{Program}
use Rattle.script_spec.specs.declared.script.Script.{Script}
use Rattle.script_spec.specs.Validity.{IsValid}
use Rattle.vm_spec.specs.Image.{Image}
use Rattle.vm_spec.specs.NewImage.{new_image}
use Rattle.win32_spec.specs.State.{PlacedModule, Process, Win32State}
use Rattle.win32_spec.specs.Placing.{base_in}
use Rattle.win32_spec.specs.Making.{new_memory}
use Rattle.win32_spec.specs.Opening.{opening_words, OpeningNumbers, first_main_word, first_group_word, opening_memory}
use Rattle.win32_spec.specs.Opening.{opening_process, opening, IsOpening}
use Rattle.posix_spec.specs.State as posix
use Rattle.posix_spec.specs.State.{PosixState, record_of, opening_record}
use Rattle.posix_spec.specs.Opening.{opening_of, first_image}
use Rattle.layer_spec.specs.Rows.{Running, Free, main_place}
use Rattle.layer_spec.specs.Transitions.{blank}
use Rattle.layer_spec.specs.Decoding.{main_of, group_of}
use Rattle.layer_spec.specs.Words.{main_at, group_at}
use Rattle.layer_spec.specs.Decodes.{AreBases, is_child_of, HoldsRecord, ShowsRecord, ShowsRow, Decodes}
use Rattle.layer_spec.specs.OpeningHeapLaws.{Numbered, opening_fields, opening_layout, opening_heap_legal}
use Rattle.layer_spec.specs.OpeningHeapLaws.{base_in-numbered, numbered_by}

same_number : (a b : ℕ) → eq_by_cmp nat_cmp a b ≡ nat_eq a b
same_number a b = grind (arith, nat_tests)

-- the POSIX machine has process 2 alone
pub first_record_of : (image : Image) (n : ℕ)
    → record_of (posix.opening image) n ≡ (if nat_eq n 2 then Some (opening_record image) else None)
first_record_of image n =
    finmap.get-insert nat_cmp_total finmap.empty 2 (opening_record image) n
    ∙ rw (same_number n 2)
    (ap (λ (o : Option posix.Record). (if nat_eq n 2 then Some (opening_record image) else o))
    (finmap.get-empty nat_cmp n))

first_record : (image : Image) → record_of (posix.opening image) 2 ≡ Some (opening_record image)
first_record image = first_record_of image 2

no_record : (image : Image) (n : ℕ) → (n ≡ 2 → ⊥) → record_of (posix.opening image) n ≡ None
no_record image n h = first_record_of image n ∙ rw (ne_eqb n 2 h) refl

number_two : (image : Image) (n : ℕ) → IsSome (record_of (posix.opening image) n) → 2 ≤ n
number_two image n h = elim (cases_eq n 2) [
  | inl e ↦ omega arith
  | inr other ↦ absurd (false≢true (subst (λ (o : Option posix.Record). IsSome o) (no_record image n other) h))
]

-- past the first row's words the section has zeros
pub zero_at : (n k : ℕ) → get_or {A = ℕ} (replicate n 0) k 0 ≡ 0
zero_at zero k = refl
zero_at (suc n) zero = refl
zero_at (suc n) (suc k) = zero_at n k

zeros_past : (a b c n place : ℕ) → 3 ≤ place → slice_index_or (a ∷ b ∷ c ∷ replicate n 0) place 0 ≡ 0
zeros_past a b c n zero h = absurd (omega arith)
zeros_past a b c n (suc zero) h = absurd (omega arith)
zeros_past a b c n (suc (suc zero)) h = absurd (omega arith)
zeros_past a b c n (suc (suc (suc k))) h = zero_at n k

first_main : (numbers : OpeningNumbers) (program : Program) (placed : List PlacedModule)
    → main_of (main_at (opening numbers program placed) 1) ≡ Some (record (blank Running) { image = 2 })
unfolding opening_words
first_main numbers program placed = refl

first_group : (numbers : OpeningNumbers) (program : Program) (placed : List PlacedModule)
    → group_of (group_at (opening numbers program placed) 1)
    ≡ Some (record { parent = 1; group = 2; session = 2; terminal = true })
unfolding opening_words
first_group numbers program placed = refl

later_main : (numbers : OpeningNumbers) (program : Program) (placed : List PlacedModule) (row : ℕ) → 2 ≤ row
    → main_of (main_at (opening numbers program placed) row) ≡ Some (blank Free)
unfolding opening_words
later_main numbers program placed row h =
    ap main_of (zeros_past 1 first_main_word first_group_word 11998 (main_place row) (omega arith))

no_child_if : (image : Image) (b : Bool) → false ≡ is_child_of 2 (if b then Some (opening_record image) else None)
unfolding opening_record
no_child_if image true = refl
no_child_if image false = refl

-- the POSIX state in which a run of this program begins
abbrev posix_opening : Program → PosixState
posix_opening program = posix.opening (new_image 0 program)

-- the first cygheap's children, of whom there are none
no_child : (image : Image) (n : ℕ) → false ≡ is_child_of 2 (record_of (posix.opening image) n)
no_child image n = rw (first_record_of image n) (no_child_if image (nat_eq n 2))

abbrev bases_of : List PlacedModule → List ℕ
bases_of placed = map (λ (x : PlacedModule). x.base) placed

first_bases : (m : ℕ) (placed : List PlacedModule) → Numbered m placed → m ≤ 8
    → AreBases m placed (opening_fields placed).bases
first_bases m placed h few = record { of_modules = of_modules; past_modules = past_modules }
  where
    of_modules : (k : ℕ) → k < m → base_in placed k ≡ Some (slice_index (opening_fields placed).bases k)
    of_modules k below =
        let counted = h.count in
        let within : k < length placed = omega arith in
        let in_bases : k < length (bases_of placed) = rw length-map within in
        let place : 0 + k ≡ k = omega arith in
        subst (λ (n : ℕ). base_in placed n ≡ Some (slice_index (opening_fields placed).bases k)) place
        (base_in-numbered 0 k placed h.numbers within
        ∙ ap Some (sym (get_or_append_left (bases_of placed) (replicate (8 - length placed) 0) 0 k in_bases)))

    past_modules : (k : ℕ) → m ≤ k → slice_index (opening_fields placed).bases k ≡ 0
    past_modules k past =
        let counted = h.count in
        let size : length (bases_of placed) ≡ m =
        length-map placed (λ (x : PlacedModule). x.base) ∙ counted in
        get_or-append_right (bases_of placed) (replicate (8 - length placed) 0) m k 0 size past
        ∙ zero_at (8 - length placed) (k - m)

first_memory : (script : Script) (program : Program) (placed : List PlacedModule)
    → length script.setup.modules ≤ 8 → Numbered (length script.setup.modules) placed
    → HoldsRecord script (opening_memory program placed) placed (posix_opening program) 2
    (opening_record (new_image 0 program))
unfolding new_memory opening_record
first_memory script program placed few h = record {
  image = refl;
  heap = opening_fields placed;
  legal = opening_heap_legal (length script.setup.modules) placed h few;
  layout = sym (opening_layout (length script.setup.modules) placed h few);
  mask = refl;
  saved = refl;
  actions = refl;
  bases = first_bases (length script.setup.modules) placed h few;
  children = no_child (new_image 0 program);
  once = refl;
}

-- row 1 shows process 2, and every other row is free
first_row : (script : Script) (program : Program) (placed : List PlacedModule) (numbers : OpeningNumbers)
    → length script.setup.modules ≤ 8 → Numbered (length script.setup.modules) placed
    → ShowsRow script (λ q. q.own) (opening numbers program placed) (posix_opening program) 1
unfolding opening_record
first_row script program placed numbers few h = record {
  main = record (blank Running) { image = 2 };
  decodes = first_main numbers program placed;
  shown = subst (λ (o : Option posix.Record). MatchOption o (true ≡ false) (λ r. Shown r))
      (sym (first_record image)) shown;
}
  where
    image : Image
    image = new_image 0 program

    Shown : posix.Record → Type 0
    Shown r = ShowsRecord script (λ q. q.own) (opening numbers program placed) (posix_opening program) 1
        (record (blank Running) { image = 2 }) r

    shown : Shown (opening_record image)
    shown = record {
      life = refl;
      report = refl;
      execd = refl;
      pending = λ _. refl;
      group_word = record { parent = 1; group = 2; session = 2; terminal = true };
      group_decodes = first_group numbers program placed;
      parent = refl;
      group = refl;
      session = refl;
      terminal = refl;
      held = λ _ q e _. let same : opening_process numbers program placed ≡ q = cc in
          subst (λ (x : Process). HoldsRecord script x.own x.placed (posix_opening program) 2
          (opening_record (new_image 0 program)))
          same (first_memory script program placed few h);
    }

later_row : (script : Script) (program : Program) (placed : List PlacedModule) (numbers : OpeningNumbers) (row : ℕ)
    → 2 ≤ row
    → ShowsRow script (λ q. q.own) (opening numbers program placed) (posix_opening program) row
later_row script program placed numbers row h =
    let other : row + 1 ≡ 2 → ⊥ = λ e. omega arith in
    record {
      main = blank Free;
      decodes = later_main numbers program placed row h;
      shown = subst (λ (o : Option posix.Record). MatchOption o (false ≡ false)
          (λ r. ShowsRecord script (λ q. q.own) (opening numbers program placed) (posix_opening program)
          row (blank Free) r))
          (sym (no_record (new_image 0 program) (row + 1) other)) refl;
    }

opening_rows : (script : Script) (program : Program) (placed : List PlacedModule) (numbers : OpeningNumbers)
    → length script.setup.modules ≤ 8 → Numbered (length script.setup.modules) placed → (row : ℕ) → 1 ≤ row
    → ShowsRow script (λ q. q.own) (opening numbers program placed) (posix_opening program) row
opening_rows script program placed numbers few h zero from_one = absurd (omega arith)
opening_rows script program placed numbers few h (suc zero) from_one = first_row script program placed numbers few h
opening_rows script program placed numbers few h (suc (suc k)) from_one =
    later_row script program placed numbers (suc (suc k)) (omega arith)

opening_decodes : (script : Script) (program : Program) (placed : List PlacedModule) (numbers : OpeningNumbers)
    → length script.setup.modules ≤ 8 → Numbered (length script.setup.modules) placed
    → Decodes script (opening numbers program placed) (posix_opening program)
opening_decodes script program placed numbers few h = record {
  numbers = number_two (new_image 0 program);
  rows = opening_rows script program placed numbers few h;
  terminal = refl;
}

-- so each opening state of a valid script shows the POSIX machine's
pub decodes_at_opening : (script : Script) (s : Win32State) → IsValid script → IsOpening script s
    → Decodes script s (opening_of script)
decodes_at_opening script s valid o =
    let none_placed : Numbered 0 [] = record { numbers = tt; count = refl } in
    let count : 0 + length script.setup.modules ≡ length script.setup.modules = omega arith in
    let placed = subst (λ (n : ℕ). Numbered n o.placed) count
    (numbered_by script 1 0 script.setup.modules [] o.placed none_placed valid.modules o.in_order) in
    let there = opening_decodes script o.program o.placed o.numbers valid.few_modules placed in
    let image : first_image (slice_get script.setup.programs 0) ≡ new_image 0 o.program = ap first_image o.first in
    subst (λ (w : Win32State). Decodes script w (opening_of script)) (sym o.state)
    (subst (λ (i : Image). Decodes script (opening o.numbers o.program o.placed) (posix.opening i)) (sym image) there)
