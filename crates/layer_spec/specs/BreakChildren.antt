-- The bytes of a cygheap's children fit, and so do all of a cygheap's.
use Rattle.std.specs.Prelude.{◌≡◌, ℕ, zero, suc, ◌+◌, ◌-◌, ◌*◌, ◌/◌, ◌%◌, ◌≤◌, ◌<◌, true, nat_eq, nat_le, if◌then◌else◌}
use Rattle.std.specs.Prelude.{List, [], ◌∷◌, ◌++◌, length, flat_map, replicate}
use Rattle.std.specs.List.{list_all}
use Rattle.std.proofs.Common.{inl, inr, refl, sym, ◌∙◌, ap, subst, arith, append_assoc, length-append}
use Rattle.std.proofs.lemmas.Bool.{cases_lt, lt-ltb, le-ltb, le-leb, eq-eqb, and_parts}
use Rattle.std.proofs.lemmas.Bool.Decides.{nat_tests}
use Rattle.layer_spec.specs.Heap.{HeapChild, HeapFields, IsHeap, is_child, two_bytes, four_bytes, child_bytes}
use Rattle.layer_spec.specs.Heap.{heap_bytes}
use Rattle.layer_spec.specs.HeapReads.{byte_at}
use Rattle.layer_spec.specs.HeapLaws.{HeapSizes, heap_sizes, head_of, tail_of, around_actions, before_bases}
use Rattle.layer_spec.specs.HeapLaws.{around_bases, before_count, around_count, before_children, around_children}
use Rattle.layer_spec.specs.HeapLaws.{length-before_bases, length-before_count, length-before_children}
use Rattle.layer_spec.specs.HeapBreaks.{fits_at}
use Rattle.layer_spec.specs.ReadLaws.{byte_at-behind, byte_at-seam}
use Rattle.layer_spec.specs.OpeningLaws.{zero_at}
use Rattle.layer_spec.specs.BreakParts.{fits_in_count, fits_in_children}
use Rattle.layer_spec.specs.BreakFits.{FitBelow}
use Rattle.layer_spec.specs.BreakSound.{head_fits}
use Rattle.layer_spec.specs.BreakLists.{actions_fit, bases_fit, child_fits}

-- a place of these bytes fits
Fits : List ℕ → ℕ → Type 0
Fits bytes i = fits_at bytes i (byte_at bytes i) ≡ true

child_fits_at : (k n : ℕ) (c : HeapChild) (before rest : List ℕ) (i : ℕ) → is_child c ≡ true → length before
    ≡ 160 + 4 * k
    → byte_at (before ++ (child_bytes c ++ rest)) 156 ≡ n → k < n → 160 + 4 * k ≤ i → i < 164 + 4 * k
    → Fits (before ++ (child_bytes c ++ rest)) i
unfolding Fits
child_fits_at k n c before rest i ok size count within low high =
    let bytes : List ℕ = before ++ (child_bytes c ++ rest) in
    let j : ℕ = i - (160 + 4 * k) in
    let number : i / 4 - 40 ≡ k = omega arith in
    let place : i % 4 ≡ j = omega arith in
    let at : i ≡ length before + j = omega arith in
    let here : byte_at bytes i ≡ byte_at (child_bytes c ++ rest) j
    = ap (byte_at bytes) at ∙ byte_at-behind before (child_bytes c ++ rest) j in
    let first : j ≡ 1 → byte_at bytes (i - 1) ≡ c.number % 256
    = λ e. let start : i - 1 ≡ length before = omega arith in
    ap (byte_at bytes) start ∙ byte_at-seam before (child_bytes c ++ rest) in
    fits_in_children bytes i (byte_at bytes i) (omega arith)
    ∙ rw (number, count, lt-ltb k n within, place, here)
    (child_fits c rest j (byte_at bytes (i - 1)) (omega arith) ok first)

children_fit : (k n : ℕ) (children : List HeapChild) (before after : List ℕ) (i : ℕ) → list_all is_child children ≡ true
    → length before ≡ 160 + 4 * k → byte_at (before ++ (flat_map child_bytes children ++ after)) 156 ≡ n
    → k + length children ≤ n → 160 + 4 * k ≤ i → i < 160 + 4 * (k + length children)
    → Fits (before ++ (flat_map child_bytes children ++ after)) i
children_fit k n [] before after i ok size count to low high = absurd (omega arith)
children_fit k n (c ∷ children) before after i ok size count to low high =
    let others : List ℕ = flat_map child_bytes children in
    let both = and_parts (is_child c) (list_all is_child children) ok in
    let nested : before ++ ((child_bytes c ++ others) ++ after) ≡ before ++ (child_bytes c ++ (others ++ after))
    = ap (λ bytes. before ++ bytes) (append_assoc (child_bytes c) others after) in
    let moved : before ++ ((child_bytes c ++ others) ++ after) ≡ (before ++ child_bytes c) ++ (others ++ after)
    = nested ∙ sym (append_assoc before (child_bytes c) (others ++ after)) in
    elim (cases_lt i (164 + 4 * k)) [
      | inl now ↦ subst (λ (bytes : List ℕ). Fits bytes i) (sym nested)
          (child_fits_at k n c before (others ++ after) i both.0 size
          (subst (λ (bytes : List ℕ). byte_at bytes 156 ≡ n) nested count) (omega arith) low now)
      | inr later ↦
          let further : length (before ++ child_bytes c) ≡ 160 + 4 * (k + 1)
          = omega (arith, length-append before (child_bytes c), size) in
          subst (λ (bytes : List ℕ). Fits bytes i) (sym moved)
          (children_fit (k + 1) n children (before ++ child_bytes c) after i both.1 further
          (subst (λ (bytes : List ℕ). byte_at bytes 156 ≡ n) moved count) (omega arith) (omega arith) (omega arith))
    ]

-- past the last child stand zeros
zeros_fit : (n m : ℕ) (before : List ℕ) (i : ℕ) → length before ≡ 160 + 4 * n
    → byte_at (before ++ replicate m 0) 156 ≡ n → 160 + 4 * n ≤ i → Fits (before ++ replicate m 0) i
unfolding Fits
zeros_fit n m before i size count low =
    let bytes : List ℕ = before ++ replicate m 0 in
    let j : ℕ = i - (160 + 4 * n) in
    let at : i ≡ length before + j = omega arith in
    let here : byte_at bytes i ≡ 0 = ap (byte_at bytes) at ∙ byte_at-behind before (replicate m 0) j ∙ zero_at m j in
    let past : n ≤ i / 4 - 40 = omega arith in
    fits_in_children bytes i (byte_at bytes i) (omega arith) ∙ rw (count, le-ltb (i / 4 - 40) n past, here) refl

-- the number of children
count_byte : (n : ℕ) (after : List ℕ) (j : ℕ) → j < 4 → n ≤ 32
    → (if nat_eq j 0 then nat_le (byte_at (four_bytes n ++ after) j) 32 else nat_eq
    (byte_at (four_bytes n ++ after) j) 0) ≡ true
count_byte n after zero h few = let small : n % 256 ≤ 32 = omega arith in le-leb (n % 256) 32 small
count_byte n after (suc zero) h few = let none : n / 256 % 256 ≡ 0 = omega arith in eq-eqb (n / 256 % 256) 0 none
count_byte n after (suc (suc zero)) h few =
    let none : n / 65536 % 256 ≡ 0 = omega arith in eq-eqb (n / 65536 % 256) 0 none
count_byte n after (suc (suc (suc zero))) h few =
    let none : n / 16777216 % 256 ≡ 0 = omega arith in eq-eqb (n / 16777216 % 256) 0 none
count_byte n after (suc (suc (suc (suc k)))) h few = absurd (omega arith)

same_test : (i j n : ℕ) → i ≡ n + j → n ≡ 156 → nat_eq i 156 ≡ nat_eq j 0
same_test i j n at size = grind (arith, nat_tests)

count_fits : (n : ℕ) (before after : List ℕ) (i : ℕ) → n ≤ 32 → length before ≡ 156 → 156 ≤ i → i < 160
    → Fits (before ++ (four_bytes n ++ after)) i
unfolding Fits
count_fits n before after i few size low high =
    let bytes : List ℕ = before ++ (four_bytes n ++ after) in
    let j : ℕ = i - 156 in
    let at : i ≡ length before + j = omega arith in
    let here : byte_at bytes i ≡ byte_at (four_bytes n ++ after) j
    = ap (byte_at bytes) at ∙ byte_at-behind before (four_bytes n ++ after) j in
    let test : nat_eq i 156 ≡ nat_eq j 0 = same_test i j (length before) at size in
    fits_in_count bytes i (byte_at bytes i) low high ∙ rw (test, here) (count_byte n after j (omega arith) few)

count_found : (n : ℕ) (before after : List ℕ) → n ≤ 32 → length before ≡ 156
    → byte_at (before ++ (four_bytes n ++ after)) 156 ≡ n
count_found n before after few size =
    let whole : n % 256 ≡ n = omega arith in
    subst (λ (i : ℕ). byte_at (before ++ (four_bytes n ++ after)) i ≡ n) size
    (byte_at-seam before (four_bytes n ++ after) ∙ whole)

heap_count : (h : HeapFields) → HeapSizes h → byte_at (heap_bytes h) 156 ≡ length h.children
heap_count h sizes = rw (around_count h)
    (count_found (length h.children) (before_count h) (tail_of h) sizes.few (length-before_count h sizes))

lists_fit : (h : HeapFields) → IsHeap h → HeapSizes h → (i : ℕ) → 16 ≤ i → i < 160 → Fits (heap_bytes h) i
unfolding Fits
lists_fit h legal sizes i from to = elim (cases_lt i 140) [
  | inl actions ↦ subst (λ (bytes : List ℕ). Fits bytes i) (sym (around_actions h))
      (actions_fit 1 h.actions (head_of h.mask h.owed h.saved)
      (flat_map two_bytes h.bases ++ (four_bytes (length h.children) ++ tail_of h)) i legal.actions
      (omega (arith, sizes.head_size)) (omega arith) (omega (arith, legal.action_count)) (omega arith)
      (omega (arith, legal.action_count)))
  | inr from_140 ↦ elim (cases_lt i 156) [
    | inl bases ↦ subst (λ (bytes : List ℕ). Fits bytes i) (sym (around_bases h))
        (bases_fit 0 h.bases (before_bases h) (four_bytes (length h.children) ++ tail_of h) i legal.bases
        (omega (arith, length-before_bases h sizes)) (omega (arith, legal.base_count)) (omega arith)
        (omega (arith, legal.base_count)))
    | inr from_156 ↦ subst (λ (bytes : List ℕ). Fits bytes i) (sym (around_count h))
        (count_fits (length h.children) (before_count h) (tail_of h) i sizes.few (length-before_count h sizes)
        from_156 to)
  ]
]

tail_fits : (h : HeapFields) → IsHeap h → HeapSizes h → (i : ℕ) → 160 ≤ i → Fits (heap_bytes h) i
tail_fits h legal sizes i from =
    let zeros : List ℕ = replicate (4 * (32 - length h.children)) 0 in
    let children : List ℕ = flat_map child_bytes h.children in
    let count = heap_count h sizes in
    elim (cases_lt i (160 + 4 * length h.children)) [
      | inl listed ↦ subst (λ (bytes : List ℕ). Fits bytes i) (sym (around_children h))
          (children_fit 0 (length h.children) h.children (before_children h) zeros i legal.children
          (omega (arith, length-before_children h sizes))
          (subst (λ (bytes : List ℕ). byte_at bytes 156 ≡ length h.children) (around_children h) count)
          (omega arith) (omega arith) (omega arith))
      | inr past ↦
          let around : heap_bytes h ≡ (before_children h ++ children) ++ zeros
          = around_children h ∙ sym (append_assoc (before_children h) children zeros) in
          subst (λ (bytes : List ℕ). Fits bytes i) (sym around)
          (zeros_fit (length h.children) (4 * (32 - length h.children)) (before_children h ++ children) i
          (omega (arith, length-append (before_children h) children, length-before_children h sizes, sizes.child_size))
          (subst (λ (bytes : List ℕ). byte_at bytes 156 ≡ length h.children) around count) past)
    ]

-- the bytes of a cygheap fit
pub heap_fits : (h : HeapFields) → IsHeap h → FitBelow (heap_bytes h) 288
unfolding Fits
heap_fits h legal i to = elim (cases_lt i 16) [
  | inl head ↦ head_fits h legal i head
  | inr from_16 ↦ elim (cases_lt i 160) [
    | inl list ↦ lists_fit h legal (heap_sizes h legal) i from_16 list
    | inr from_160 ↦ tail_fits h legal (heap_sizes h legal) i from_160
  ]
]
