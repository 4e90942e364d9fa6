-- What is written to the children in place is the layout of the changed children.
use Rattle.std.specs.Prelude.{◌≡◌, ℕ, zero, suc, ◌+◌, ◌-◌, ◌*◌, ◌≤◌, ◌<◌, Bool, false, List, [], ◌∷◌, ◌++◌, length}
use Rattle.std.specs.Prelude.{flat_map, replicate, take, drop}
use Rattle.std.specs.List.{remove}
use Rattle.std.proofs.Common.{refl, sym, ◌∙◌, ap, arith, set, get_or, append_assoc, length-append, length-set}
use Rattle.std.proofs.lemmas.Grind.{flat_map-append}
use Rattle.std.proofs.lemmas.List.{append-nil, length-replicate, replicate-append-replicate}
use Rattle.std.proofs.lemmas.List.Edits.{length-remove}
use Rattle.layer_spec.specs.Heap.{HeapChild, HeapFields, IsHeap, IsHeapBytes, heap_bytes, four_bytes, child_bytes}
use Rattle.layer_spec.specs.HeapReads.{child_count_in, child_in}
use Rattle.layer_spec.specs.HeapLaws.{heap_sizes}
use Rattle.cygheap_image.specs.Pieces.{with_piece, without_four}
use Rattle.cygheap_image.specs.Fields.{fields_in}
use Rattle.cygheap_image.specs.Changes.{with_child, without_child, with_note, without_children}
use Rattle.cygheap_image.proofs.Seams.{with_piece-seam, with_piece-element, without_four-element}
use Rattle.cygheap_image.specs.FieldLaws.{heap_told, child_count_told, child_told}
use Rattle.cygheap_image.proofs.Parts.{body_of, length-body_of, rows_of, around_count, body_stays}
use Rattle.cygheap_image.proofs.Legal.{with_child_legal, without_child_legal, with_note_legal, without_children_legal}
use Rattle.cygheap_image.proofs.Writes.{kept_by}

-- bytes with this number of children and these rows
abbrev rows_in : HeapFields → ℕ → List ℕ → List ℕ
rows_in h count rows = body_of h ++ (four_bytes count ++ rows)

-- the layout of the fields with other children
changed_children : (h : HeapFields) (children : List HeapChild)
    → rows_in h (length children) (rows_of children) ≡ heap_bytes (record h { children = children })
changed_children h children =
    ap (λ x. x ++ (four_bytes (length children) ++ rows_of children)) (sym (body_stays h children))
    ∙ sym (around_count (record h { children = children }))

-- another number of children is written
count_written : (h : HeapFields) (count other : ℕ) (rows : List ℕ) → IsHeap h
    → with_piece (rows_in h count rows) 156 (four_bytes other) ≡ rows_in h other rows
count_written h count other rows legal =
    with_piece-seam (body_of h) (four_bytes count) (four_bytes other) rows 156 (length-body_of h legal) refl

-- the bytes before the children
before_rows : (h : HeapFields) (count : ℕ) (rows : List ℕ)
    → rows_in h count rows ≡ (body_of h ++ four_bytes count) ++ rows
before_rows h count rows = sym (append_assoc (body_of h) (four_bytes count) rows)

length-before_rows : (h : HeapFields) (count : ℕ) → IsHeap h → length (body_of h ++ four_bytes count) ≡ 160
length-before_rows h count legal =
    omega (arith, length-append (body_of h) (four_bytes count), length-body_of h legal)

child_size : (c : HeapChild) → length (child_bytes c) ≡ 4
child_size c = refl

-- one row is set
row_set : (h : HeapFields) (i : ℕ) (c : HeapChild) → IsHeap h → i < length h.children
    → with_piece (heap_bytes h) (160 + 4 * i) (child_bytes c)
    ≡ heap_bytes (record h { children = set h.children i c })
unfolding rows_of
row_set h i c legal within =
    let n : ℕ = length h.children in
    let zeros : List ℕ = replicate (4 * (32 - n)) 0 in
    let place = length-before_rows h n legal in
    let same : n ≡ length (set h.children i c) = sym (length-set h.children i c) in
    ap (λ x. with_piece x (160 + 4 * i) (child_bytes c)) (around_count h ∙ before_rows h n (rows_of h.children))
    ∙ with_piece-element 4 child_bytes child_size h.children i c (body_of h ++ four_bytes n) zeros (160 + 4 * i) within
    (omega (arith, place))
    ∙ sym (before_rows h n (flat_map child_bytes (set h.children i c) ++ zeros))
    ∙ ap (λ (m : ℕ). rows_in h m (flat_map child_bytes (set h.children i c) ++ replicate (4 * (32 - m)) 0)) same
    ∙ changed_children h (set h.children i c)

-- a row is added behind the others
more_rows : (children : List HeapChild) (c : HeapChild) → length children < 32
    → flat_map child_bytes children ++ (child_bytes c ++ replicate (4 * (31 - length children)) 0)
    ≡ rows_of (children ++ c ∷ [])
unfolding rows_of
more_rows children c room =
    let left : 32 - length (children ++ c ∷ []) ≡ 31 - length children
    = omega (arith, length-append children (c ∷ [])) in
    sym (rw (left, flat_map-append child_bytes children (c ∷ [])) (append_assoc (flat_map child_bytes children)
    (child_bytes c) (replicate (4 * (31 - length children)) 0)))

row_added : (h : HeapFields) (c : HeapChild) → IsHeap h → length h.children < 32
    → with_piece (with_piece (heap_bytes h) (160 + 4 * length h.children) (child_bytes c)) 156
    (four_bytes (length h.children + 1))
    ≡ heap_bytes (record h { children = h.children ++ c ∷ [] })
unfolding rows_of
row_added h c legal room =
    let n : ℕ = length h.children in
    let rows : List ℕ = flat_map child_bytes h.children in
    let left : List ℕ = replicate (4 * (31 - n)) 0 in
    let four : 4 * (32 - n) ≡ 4 + 4 * (31 - n) = omega arith in
    let zeros : rows_of h.children ≡ rows ++ (replicate 4 0 ++ left)
    = ap (λ (m : ℕ). rows ++ replicate m 0) four
    ∙ ap (λ x. rows ++ x) (sym (replicate-append-replicate 4 (4 * (31 - n)) 0)) in
    let before : List ℕ = (body_of h ++ four_bytes n) ++ rows in
    let place : length before ≡ 160 + 4 * n
    = omega (
      arith,
      length-append (body_of h ++ four_bytes n) rows,
      length-before_rows h n legal,
      (heap_sizes h legal).child_size,
    ) in
    let opened : heap_bytes h ≡ before ++ (replicate 4 0 ++ left)
    = around_count h ∙ before_rows h n (rows_of h.children) ∙ ap (λ x. (body_of h ++ four_bytes n) ++ x) zeros
    ∙ sym (append_assoc (body_of h ++ four_bytes n) rows (replicate 4 0 ++ left)) in
    let first : with_piece (heap_bytes h) (160 + 4 * n) (child_bytes c) ≡ rows_in h n (rows ++ (child_bytes c ++ left))
    = ap (λ x. with_piece x (160 + 4 * n) (child_bytes c)) opened
    ∙ with_piece-seam before (replicate 4 0) (child_bytes c) left (160 + 4 * n) place refl
    ∙ append_assoc (body_of h ++ four_bytes n) rows (child_bytes c ++ left)
    ∙ sym (before_rows h n (rows ++ (child_bytes c ++ left))) in
    let count : n + 1 ≡ length (h.children ++ c ∷ []) = omega (arith, length-append h.children (c ∷ [])) in
    ap (λ x. with_piece x 156 (four_bytes (n + 1))) first
    ∙ count_written h n (n + 1) (rows ++ (child_bytes c ++ left)) legal
    ∙ ap (λ x. rows_in h (n + 1) x) (more_rows h.children c room)
    ∙ ap (λ (m : ℕ). rows_in h m (rows_of (h.children ++ c ∷ []))) count
    ∙ changed_children h (h.children ++ c ∷ [])

-- a row is taken out
row_removed : (h : HeapFields) (i : ℕ) → IsHeap h → i < length h.children
    → with_piece (without_four (heap_bytes h) (160 + 4 * i)) 156 (four_bytes (length h.children - 1))
    ≡ heap_bytes (without_child h i)
unfolding rows_of
row_removed h i legal within =
    let n : ℕ = length h.children in
    let fewer : List HeapChild = remove h.children i in
    let before : List ℕ = body_of h ++ four_bytes n in
    let zeros : List ℕ = replicate (4 * (32 - n)) 0 in
    let none : ℕ = 0 in
    let sizes = heap_sizes h legal in
    let place = length-before_rows h n legal in
    let count : length fewer + 1 ≡ n = length-remove h.children i within in
    let more : 4 * (32 - n) + 4 ≡ 4 * (32 - length fewer) = omega (arith, sizes.few) in
    let rows : flat_map child_bytes fewer ++ (zeros ++ replicate 4 0) ≡ rows_of fewer
    = ap (λ x. flat_map child_bytes fewer ++ x) (replicate-append-replicate (4 * (32 - n)) 4 none)
    ∙ ap (λ (m : ℕ). flat_map child_bytes fewer ++ replicate m 0) more in
    let first : without_four (heap_bytes h) (160 + 4 * i) ≡ rows_in h n (rows_of fewer)
    = ap (λ x. without_four x (160 + 4 * i)) (around_count h ∙ before_rows h n (rows_of h.children))
    ∙ without_four-element child_bytes child_size h.children i before zeros (160 + 4 * i) within (omega (arith, place))
    ∙ ap (λ x. before ++ x) rows
    ∙ sym (before_rows h n (rows_of fewer)) in
    let less : n - 1 ≡ length fewer = omega arith in
    ap (λ x. with_piece x 156 (four_bytes (n - 1))) first
    ∙ count_written h n (n - 1) (rows_of fewer) legal
    ∙ ap (λ (m : ℕ). rows_in h m (rows_of fewer)) less
    ∙ changed_children h fewer

-- all rows are cleared
rows_cleared : (h : HeapFields) → IsHeap h
    → with_piece (heap_bytes h) 156 (replicate 132 0) ≡ heap_bytes (without_children h)
unfolding rows_of
rows_cleared h legal =
    let n : ℕ = length h.children in
    let old : List ℕ = four_bytes n ++ rows_of h.children in
    let sizes = heap_sizes h legal in
    let none : ℕ = 0 in
    let size : length old ≡ 132
    = omega (
      arith,
      length-append (flat_map child_bytes h.children) (replicate (4 * (32 - n)) 0),
      length-replicate (4 * (32 - n)) none,
      sizes.child_size,
      sizes.few,
    ) in
    ap (λ x. with_piece x 156 (replicate 132 0)) (around_count h ∙ ap (λ x. body_of h ++ x) (sym (append-nil old)))
    ∙ with_piece-seam (body_of h) old (replicate 132 0) [] 156 (length-body_of h legal) (sym size)
    ∙ changed_children h []

pub child_put : (bytes : List ℕ) (c : ℕ) → IsHeapBytes bytes → child_count_in bytes < 32
    → with_piece (with_piece bytes (160 + 4 * child_count_in bytes)
    (child_bytes (record { number = c; noted = false })))
    156 (four_bytes (child_count_in bytes + 1))
    ≡ heap_bytes (with_child (fields_in bytes) c)
child_put bytes c kept room =
    let told = heap_told bytes kept in
    let child : HeapChild = record { number = c; noted = false } in
    let n : length (fields_in bytes).children ≡ child_count_in bytes = child_count_told bytes in
    let fits : length (fields_in bytes).children < 32 = omega arith in
    ap (λ x. with_piece (with_piece x (160 + 4 * child_count_in bytes) (child_bytes child)) 156
    (four_bytes (child_count_in bytes + 1))) (sym told.1)
    ∙ ap (λ (m : ℕ). with_piece (with_piece (heap_bytes (fields_in bytes)) (160 + 4 * m) (child_bytes child)) 156
    (four_bytes (m + 1))) (sym n)
    ∙ row_added (fields_in bytes) child told.0 fits

pub child_kept : (bytes new : List ℕ) (c : ℕ) → IsHeapBytes bytes → child_count_in bytes < 32 → 2 ≤ c → c ≤ 4001
    → new ≡ heap_bytes (with_child (fields_in bytes) c) → IsHeapBytes new
child_kept bytes new c kept room from to same =
    let fits : length (fields_in bytes).children < 32 = omega (arith, child_count_told bytes) in
    kept_by new _ (with_child_legal (fields_in bytes) c (heap_told bytes kept).0 fits from to) same

pub children_put : (bytes : List ℕ) → IsHeapBytes bytes
    → with_piece bytes 156 (replicate 132 0) ≡ heap_bytes (without_children (fields_in bytes))
children_put bytes kept =
    let told = heap_told bytes kept in
    ap (λ x. with_piece x 156 (replicate 132 0)) (sym told.1) ∙ rows_cleared (fields_in bytes) told.0

pub children_kept : (bytes new : List ℕ) → IsHeapBytes bytes
    → new ≡ heap_bytes (without_children (fields_in bytes)) → IsHeapBytes new
children_kept bytes new kept same =
    kept_by new _ (without_children_legal (fields_in bytes) (heap_told bytes kept).0) same

pub removal_put : (bytes : List ℕ) (i : ℕ) → IsHeapBytes bytes → i < child_count_in bytes
    → with_piece (without_four bytes (160 + 4 * i)) 156 (four_bytes (child_count_in bytes - 1))
    ≡ heap_bytes (without_child (fields_in bytes) i)
removal_put bytes i kept within =
    let told = heap_told bytes kept in
    let n : length (fields_in bytes).children ≡ child_count_in bytes = child_count_told bytes in
    let inside : i < length (fields_in bytes).children = omega arith in
    ap (λ x. with_piece (without_four x (160 + 4 * i)) 156 (four_bytes (child_count_in bytes - 1))) (sym told.1)
    ∙ ap (λ (m : ℕ). with_piece (without_four (heap_bytes (fields_in bytes)) (160 + 4 * i)) 156 (four_bytes (m - 1)))
    (sym n)
    ∙ row_removed (fields_in bytes) i told.0 inside

pub removal_kept : (bytes new : List ℕ) (i : ℕ) → IsHeapBytes bytes → i < child_count_in bytes
    → new ≡ heap_bytes (without_child (fields_in bytes) i) → IsHeapBytes new
removal_kept bytes new i kept within same =
    let inside : i < length (fields_in bytes).children = omega (arith, child_count_told bytes) in
    kept_by new _ (without_child_legal (fields_in bytes) i (heap_told bytes kept).0 inside) same

pub note_put : (bytes : List ℕ) (i number : ℕ) (noted : Bool) → IsHeapBytes bytes → i < child_count_in bytes
    → number ≡ (child_in bytes i).number
    → with_piece bytes (160 + 4 * i) (child_bytes (record { number = number; noted = noted }))
    ≡ heap_bytes (with_note (fields_in bytes) i noted)
note_put bytes i number noted kept within same =
    let told = heap_told bytes kept in
    let inside : i < length (fields_in bytes).children = omega (arith, child_count_told bytes) in
    let none : HeapChild = record { number = 0; noted = false } in
    let old : HeapChild = get_or (fields_in bytes).children i none in
    let there : number ≡ old.number = same ∙ sym (ap (λ (c : HeapChild). c.number) (child_told bytes i none within)) in
    ap (λ x. with_piece x (160 + 4 * i) (child_bytes (record { number = number; noted = noted }))) (sym told.1)
    ∙ ap (λ (n : ℕ). with_piece (heap_bytes (fields_in bytes)) (160 + 4 * i)
    (child_bytes (record { number = n; noted = noted }))) there
    ∙ row_set (fields_in bytes) i (record old { noted = noted }) told.0 inside

pub note_kept : (bytes new : List ℕ) (i : ℕ) (noted : Bool) → IsHeapBytes bytes → i < child_count_in bytes
    → new ≡ heap_bytes (with_note (fields_in bytes) i noted) → IsHeapBytes new
note_kept bytes new i noted kept within same =
    let inside : i < length (fields_in bytes).children = omega (arith, child_count_told bytes) in
    kept_by new _ (with_note_legal (fields_in bytes) i noted (heap_told bytes kept).0 inside) same
