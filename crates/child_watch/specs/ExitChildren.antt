-- The children that a cygheap lists are those of its process.
use Rattle.std.proofs.Common.{◌≡◌, ◌≢◌, inl, inr, ℕ, zero, suc, ◌+◌, ◌<◌, ◌≤◌, true, false, ◌&&◌, nat_eq, nat_lt}
use Rattle.std.proofs.Common.{Bool, if◌then◌else◌, nat_le}
use Rattle.std.proofs.Common.{List, length, map, Option, Some, None, MatchOption, refl, sym, ap, ◌∙◌, subst, arith}
use Rattle.std.proofs.Common.{ltb-true}
use Rattle.std.proofs.Common.{leb-true}
use Rattle.std.specs.List.{range_with_len}
use Rattle.std.proofs.lemmas.Bool.{cases_eq, and_parts}
use Rattle.w32_base.specs.declared.own.Own.{Own}
use Rattle.script_spec.specs.declared.script.Script.{Script}
use Rattle.win32_spec.specs.FormedLaws.{live_found, of_live}
use Rattle.win32_spec.specs.Handles as handles
use Rattle.win32_spec.specs.Lookup.{process_of, memory_of, memory_by}
use Rattle.win32_spec.specs.LookupLaws.{same, differs, process_of-number}
use Rattle.win32_spec.specs.State.{Process, Win32State}
use Rattle.win32_spec.specs.WellFormed as win32
use Rattle.win32_spec.specs.WellFormed.{IsHost, IsLayerProcess}
use Rattle.posix_spec.specs.State.{Record, PosixState, record_of}
use Rattle.posix_spec.specs.WellFormed.{IsUsed, IsWellFormed}
use Rattle.layer_spec.specs.Decodes.{Decodes, child_numbers, is_child_of}
use Rattle.layer_spec.specs.Decoding.{field, main_image, main_fields, main_by_kind, main_of}
use Rattle.layer_spec.specs.FateLaws.{guarded}
use Rattle.layer_spec.specs.Heap.{HeapChild, HeapFields, IsHeap, heap_bytes}
use Rattle.layer_spec.specs.HeapLaws.{children_back, length-heap_bytes}
use Rattle.layer_spec.specs.HeapReads.{child_count_in, child_in}
use Rattle.layer_spec.specs.Inverse.{when_some}
use Rattle.layer_spec.specs.Rows.{RowKind, kind_from, MainWord, main_word_of, is_main, is_live_kind}
use Rattle.layer_spec.specs.Turns.{is_live_process}
use Rattle.layer_spec.specs.Words.{row_of, main_at}
use Rattle.roster.specs.Orphaned.{is_process_number}
use Rattle.roster.specs.Words.{is_live_main}
use Rattle.world_spec.specs.CollectRows.{row-shows}
use Rattle.world_spec.specs.Facts.{KeepsChildren}
use Rattle.world_spec.specs.RowsBesideLaws.{IsOwnRow}
use Rattle.child_watch.specs.Exiting.{is_listed, row_if, listed_child}

listed_in : (f : ℕ → HeapChild) (start len k : ℕ) → start ≤ k → k < start + len
    → handles.is_listed (child_numbers (map f (range_with_len start len))) (f k).number ≡ true
listed_in f start zero k low high = absurd (omega (arith, low, high))
listed_in f start (suc n) k low high = elim (cases_eq (f start).number (f k).number) [
  | inl e ↦ rw (same (f start).number (f k).number e) refl
  | inr d ↦
      let other : k ≢ start = λ e. d (ap (λ j. (f j).number) (sym e)) in
      rw (differs (f start).number (f k).number d)
      (listed_in f (start + 1) n k (omega (arith, low, other)) (omega (arith, high)))
]

-- What a place of the list tells: it is one of the list, and the number there is that of this row's process.
pub record IsListedAt (bytes : List ℕ) (place c : ℕ) : Type 0 where
  pub from : 1 ≤ c
  pub number : (child_in bytes place).number ≡ c + 1
  pub within : place < child_count_in bytes

pub listed-at : (bytes : List ℕ) (place c : ℕ) → listed_child bytes place ≡ Some c → IsListedAt bytes place c
listed-at bytes place c e =
    let n : ℕ = (child_in bytes place).number in
    let outer = guarded (is_listed bytes place) (row_if n) c e in
    let inner = guarded (is_process_number n) (Some (row_of n)) c outer.1 in
    let range = and_parts (nat_le 2 n) (nat_le n 4001) inner.0 in
    let low = leb-true 2 n range.0 in
    let is : row_of n ≡ c = cc in
    let places = and_parts (nat_lt place 32) (nat_lt place (child_count_in bytes))
    (and_parts (nat_eq (length bytes) 288) (nat_lt place 32 && nat_lt place (child_count_in bytes)) outer.0).1 in
    record {
      from = omega (arith, low, is);
      number = omega (arith, low, is);
      within = ltb-true place (child_count_in bytes) places.1;
    }

abbrev told_if : Bool → ℕ → Option ℕ
told_if b n = if b then row_if n else None

-- What a place tells is the same where the list of children is, but for what is noted of each.
pub listed-same : (old new : Own) → KeepsChildren old new → (place : ℕ)
    → listed_child new.cyg place ≡ listed_child old.cyg place
listed-same old new h place = by_listed (is_listed old.cyg place) refl
  where
    listed : is_listed new.cyg place ≡ is_listed old.cyg place
    listed = ap (λ n. nat_eq n 288 && (nat_lt place 32 && nat_lt place (child_count_in new.cyg))) h.length_is
        ∙ ap (λ n. nat_eq (length old.cyg) 288 && (nat_lt place 32 && nat_lt place n)) h.count

    by_listed : (b : Bool) → is_listed old.cyg place ≡ b → listed_child new.cyg place ≡ listed_child old.cyg place
    by_listed true e =
        let places = and_parts (nat_lt place 32) (nat_lt place (child_count_in old.cyg))
        (and_parts (nat_eq (length old.cyg) 288) (nat_lt place 32 && nat_lt place (child_count_in old.cyg)) e).1 in
        let within = ltb-true place (child_count_in old.cyg) places.1 in
        ap (λ b. told_if b (child_in new.cyg place).number) listed
        ∙ ap (told_if (is_listed old.cyg place)) (h.numbers place within)
    by_listed false e =
        ap (λ b. told_if b (child_in new.cyg place).number) (listed ∙ e)
        ∙ sym (ap (λ b. told_if b (child_in old.cyg place).number) e)

-- So the number is one of the children.
pub listed-number : (h : HeapFields) → IsHeap h → (place c : ℕ) → listed_child (heap_bytes h) place ≡ Some c
    → handles.is_listed (child_numbers h.children) (c + 1) ≡ true
listed-number h legal place c e =
    let at = listed-at (heap_bytes h) place c e in
    let found = listed_in (child_in (heap_bytes h)) 0 (child_count_in (heap_bytes h)) place (omega arith)
    (omega (arith, at.within)) in
    let numbered : handles.is_listed (child_numbers h.children) (child_in (heap_bytes h) place).number ≡ true =
    subst (λ cs. handles.is_listed (child_numbers cs) (child_in (heap_bytes h) place).number ≡ true)
    (children_back h legal) found in
    subst (λ k. handles.is_listed (child_numbers h.children) k ≡ true) at.number numbered

-- the image of a main word, by the word itself
main_image_is : (k : ℕ) (m : MainWord) → main_of k ≡ Some m → m.image ≡ main_image k
main_image_is k m e = by_kind (kind_from (field k 50 3)) e
  where
    by_kind : (o : Option RowKind) → main_by_kind k o ≡ Some m → m.image ≡ main_image k
    by_kind None f = absurd (cc)
    by_kind (Some kind) f =
        let both = when_some (is_main (main_fields kind k) && nat_eq (main_word_of (main_fields kind k)) k)
        (main_fields kind k) m f in
        ap (λ (x : MainWord). x.image) (sym both.1)

-- The row of a child: its number was given, and there is the child.
pub record IsChildRow (p : PosixState) (parent c : ℕ) : Type 0 where
  pub from : 1 ≤ c
  pub used : IsUsed p.used (c + 1)
  pub child : is_child_of parent (record_of p (c + 1)) ≡ true

-- The children in the cygheap of a live process that its row names are those of the row's process.
pub own-children : (script : Script) (s : Win32State) (p : PosixState) → Decodes script s p → IsWellFormed script p
    → (w row : ℕ) (r : Record) → IsOwnRow s w row → is_live_process s w ≡ true → record_of p (row + 1) ≡ Some r
    → (place c : ℕ) → listed_child (memory_by s w).cyg place ≡ Some c → IsChildRow p (row + 1) c
own-children script s p decodes formed w row r own live found place c e =
    let shown = row-shows script s p decodes row r own.from found in
    let q = live_found (process_of s.processes w) live in
    let kind : is_live_kind shown.0.kind ≡ true = sym (ap is_live_main shown.1) ∙ own.live in
    let named : shown.0.image ≡ w = main_image_is (main_at s row) shown.0 shown.1 ∙ own.image in
    let held = shown.2.held kind q.0 (ap (process_of s.processes) named ∙ q.1) q.2 in
    let bytes : (memory_by s w).cyg ≡ heap_bytes held.heap =
    ap (λ o. let m : Own = memory_of o in m.cyg) q.1 ∙ held.layout in
    let there : listed_child (heap_bytes held.heap) place ≡ Some c = ap (λ b. listed_child b place) (sym bytes) ∙ e in
    let at = listed-at (heap_bytes held.heap) place c there in
    let child : is_child_of (row + 1) (record_of p (c + 1)) ≡ true =
    sym (held.children (c + 1)) ∙ listed-number held.heap held.legal place c there in
    record { from = at.from; used = used_child (record_of p (c + 1)) refl child; child = child }
  where
    used_child : (o : Option Record) → record_of p (c + 1) ≡ o → is_child_of (row + 1) o ≡ true → IsUsed p.used (c + 1)
    used_child None f g = absurd (let k : false ≡ true = g in cc)
    used_child (Some x) f g = (formed.each (c + 1) x f).numbers.number

-- And it isn't the host, which has no cygheap.
pub own-layer : (script : Script) (s : Win32State) (p : PosixState) → win32.IsWellFormed script s → Decodes script s p
    → (w row : ℕ) (r : Record) → IsOwnRow s w row → is_live_process s w ≡ true → record_of p (row + 1) ≡ Some r → w ≢ 1
own-layer script s p formed decodes w row r own live found host =
    let shown = row-shows script s p decodes row r own.from found in
    let q = live_found (process_of s.processes w) live in
    let kind : is_live_kind shown.0.kind ≡ true = sym (ap is_live_main shown.1) ∙ own.live in
    let named : shown.0.image ≡ w = main_image_is (main_at s row) shown.0 shown.1 ∙ own.image in
    let held = shown.2.held kind q.0 (ap (process_of s.processes) named ∙ q.1) q.2 in
    let size : length q.0.own.cyg ≡ 288 = ap (λ b. length b) held.layout ∙ length-heap_bytes held.heap held.legal in
    let number : q.0.number ≡ 1 = process_of-number s.processes w q.0 q.1 ∙ host in
    let at = of_live script s.objects q.0 q.0.life q.2 (formed.formed.process w q.0 q.1) in
    by_program q.0 q.0.program at.kind number size
  where
    by_program : (q : Process) (o : Option ℕ) → MatchOption o (IsHost q) (IsLayerProcess script q) → q.number ≡ 1
        → length q.own.cyg ≡ 288 → ⊥
    by_program q None h number size = absurd (omega (arith, h.sizes.cyg_size, size))
    by_program q (Some n) h number size = absurd (omega (arith, h.number, number))
