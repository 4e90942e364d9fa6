-- A cygheap's bytes give its fields back, and the copies for a child and for the next image are cygheaps.
use Rattle.std.specs.Prelude.{◌≡◌, ℕ, ◌+◌, ◌-◌, ◌*◌, ◌^◌, ◌≤◌, ◌<◌, Bool, true, not, nat_lt, List, [], ◌∷◌, ◌++◌}
use Rattle.std.specs.Prelude.{length, map, flat_map, replicate, Option}
use Rattle.std.specs.List.{range_with_len, list_all}
use Rattle.std.proofs.Common.{refl, sym, ◌∙◌, subst, arith, append_assoc, length-append}
use Rattle.std.proofs.lemmas.List.{length-replicate}
use Rattle.std.proofs.lemmas.Nat.{from_le_bytes-to_le_bytes_2, from_le_bytes-to_le_bytes_4}
use Rattle.std.proofs.lemmas.Bool.{and_parts, and_from, leb-true}
use Rattle.std.proofs.lemmas.Bool.Decides.{nat_tests}
use Rattle.w32_base.specs.declared.instr.Action.{Action}
use Rattle.w32_base.specs.declared.instr.Action.TheVariants.{Default, Ignore, Handler}
use Rattle.posix_spec.specs.Signals.{is_never_masked}
use Rattle.vm_spec.specs.Image.{word_at}
use Rattle.layer_spec.specs.Rows.{bit_of}
use Rattle.layer_spec.specs.RowLaws.{bit_below, bit_back}
use Rattle.layer_spec.specs.Heap.{HeapChild, HeapFields, is_action, are_actions, is_base, is_child, IsHeap, two_bytes}
use Rattle.layer_spec.specs.Heap.{four_bytes, saved_flag, saved_mask, action_bytes, child_bytes, heap_bytes}
use Rattle.layer_spec.specs.HeapReads.{byte_at, half_at, action_by, action_at, child_at, heap_in}
use Rattle.layer_spec.specs.ReadLaws.{byte_at-behind, half_at-behind, byte_at-seam, half_at-seam, word_at-seam}
use Rattle.layer_spec.specs.ReadLaws.{ReadsBack, read_all}

pub half_of_two : (n : ℕ) (after : List ℕ) → n < 2 ^ 16 → half_at (two_bytes n ++ after) 0 ≡ n
unfolding half_at
half_of_two n after h = from_le_bytes-to_le_bytes_2 n h

-- bases
pub bases_read : ReadsBack 2 is_base two_bytes half_at
bases_read = record {
  sized = λ n. refl;
  found = λ before after n h. half_at-seam before (two_bytes n ++ after)
      ∙ half_of_two n after (omega (arith, leb-true n 1023 h));
}

-- actions: a handler's place has two bytes
abbrev pub fits_place : Action → Bool
fits_place Default = true
fits_place Ignore = true
fits_place (Handler target restart) = nat_lt target (2 ^ 16)

pub action_size : (a : Action) → length (action_bytes a) ≡ 4
action_size Default = refl
action_size Ignore = refl
action_size (Handler target restart) = refl

handler_place : (target : ℕ) (restart : Bool) (after : List ℕ) → target < 2 ^ 16
    → half_at (action_bytes (Handler target restart) ++ after) 2 ≡ target
unfolding half_at
handler_place target restart after h = from_le_bytes-to_le_bytes_2 target h

pub action_back : (a : Action) (after : List ℕ) → fits_place a ≡ true
    → action_by (byte_at (action_bytes a ++ after) 0) (byte_at (action_bytes a ++ after) 1)
    (half_at (action_bytes a ++ after) 2) ≡ a
action_back Default after h = refl
action_back Ignore after h = refl
action_back (Handler target restart) after h =
    rw (handler_place target restart after (grind (arith, nat_tests)), bit_back restart) refl

pub actions_read : ReadsBack 4 fits_place action_bytes action_at
actions_read = record {
  sized = action_size;
  found = λ before after a h.
      rw (
        byte_at-seam before (action_bytes a ++ after),
        byte_at-behind before (action_bytes a ++ after) 1,
        half_at-behind before (action_bytes a ++ after) 2,
      )
      (action_back a after h);
}

-- children
child_number : (c : HeapChild) (after : List ℕ) → is_child c ≡ true → half_at (child_bytes c ++ after) 0 ≡ c.number
unfolding half_at
child_number c after h = from_le_bytes-to_le_bytes_2 c.number (grind (arith, nat_tests))

child_noted : (c : HeapChild) (after : List ℕ) → half_at (child_bytes c ++ after) 2 ≡ bit_of c.noted
unfolding half_at
child_noted c after = from_le_bytes-to_le_bytes_2 (bit_of c.noted) (omega (arith, bit_below c.noted))

pub children_read : ReadsBack 4 is_child child_bytes child_at
children_read = record {
  sized = λ c. refl;
  found = λ before after c h.
      rw (half_at-seam before (child_bytes c ++ after), half_at-behind before (child_bytes c ++ after) 2)
      (rw (child_number c after h, child_noted c after, bit_back c.noted) refl);
}

-- the bytes before the actions
unfoldable pub head_of : (mask owed : ℕ) (saved : Option ℕ) → List ℕ
head_of mask owed saved =
    two_bytes 1 ++ two_bytes (saved_flag saved) ++ four_bytes mask ++ four_bytes (saved_mask saved) ++ four_bytes owed

pub heap_parts : (h : HeapFields) → heap_bytes h ≡ head_of h.mask h.owed h.saved
    ++ (flat_map action_bytes h.actions ++ (flat_map two_bytes h.bases
    ++ (four_bytes (length h.children) ++ (flat_map child_bytes h.children
    ++ replicate (4 * (32 - length h.children)) 0))))
unfolding heap_bytes head_of
heap_parts h = simp append_assoc

pub size_of_all : {X : Type 0} (size : ℕ) (is_fit : X → Bool) (encode : X → List ℕ) (read : List ℕ → ℕ → X)
    → ReadsBack size is_fit encode read → (xs : List X) → length (flat_map encode xs) ≡ size * length xs
size_of_all size is_fit encode read law [] = omega arith
size_of_all size is_fit encode read law (x ∷ xs) =
    omega (
      arith,
      length-append (encode x) (flat_map encode xs),
      law.sized x,
      size_of_all size is_fit encode read law xs,
    )

pub length-head_of : (mask owed : ℕ) (saved : Option ℕ) → length (head_of mask owed saved) ≡ 16
unfolding head_of
length-head_of mask owed saved = refl

-- the sizes of the parts
pub record HeapSizes (h : HeapFields) : Type 0 where
  pub head_size : length (head_of h.mask h.owed h.saved) ≡ 16
  pub action_size : length (flat_map action_bytes h.actions) ≡ 124
  pub base_size : length (flat_map two_bytes h.bases) ≡ 16
  pub child_size : length (flat_map child_bytes h.children) ≡ 4 * length h.children
  pub few : length h.children ≤ 32

pub heap_sizes : (h : HeapFields) → IsHeap h → HeapSizes h
heap_sizes h legal = record {
  head_size = length-head_of h.mask h.owed h.saved;
  action_size = omega (
    arith,
    size_of_all 4 fits_place action_bytes action_at actions_read h.actions,
    legal.action_count,
  );
  base_size = omega (arith, size_of_all 2 is_base two_bytes half_at bases_read h.bases, legal.base_count);
  child_size = size_of_all 4 is_child child_bytes child_at children_read h.children;
  few = leb-true (length h.children) 32 legal.child_count;
}

pub length-heap_bytes : (h : HeapFields) → IsHeap h → length (heap_bytes h) ≡ 288
length-heap_bytes h legal =
    let sizes = heap_sizes h legal in
    rw (heap_parts h) (simp (length-append, length-replicate) (omega (arith, sizes)))

place_fits : (s : ℕ) (a : Action) → is_action s a ≡ true → fits_place a ≡ true
place_fits s Default h = refl
place_fits s Ignore h = refl
place_fits s (Handler target restart) h = (and_parts (not (is_never_masked s)) (nat_lt target (2 ^ 16)) h).1

-- what is read of the bytes that were written
places_fit : (s : ℕ) (actions : List Action) → are_actions s actions ≡ true → list_all fits_place actions ≡ true
places_fit s [] h = refl
places_fit s (a ∷ rest) h =
    let both = and_parts (is_action s a) (are_actions (s + 1) rest) h in
    and_from (fits_place a) (list_all fits_place rest) (place_fits s a both.0) (places_fit (s + 1) rest both.1)

unfoldable pub tail_of : HeapFields → List ℕ
tail_of h = flat_map child_bytes h.children ++ replicate (4 * (32 - length h.children)) 0

-- the bytes before and behind the actions, the bases, the number of children, and the children
pub around_actions : (h : HeapFields) → heap_bytes h ≡ head_of h.mask h.owed h.saved
    ++ (flat_map action_bytes h.actions ++ (flat_map two_bytes h.bases
    ++ (four_bytes (length h.children) ++ tail_of h)))
unfolding heap_bytes head_of tail_of
around_actions h = simp append_assoc

pub before_bases : HeapFields → List ℕ
before_bases h = head_of h.mask h.owed h.saved ++ flat_map action_bytes h.actions

pub around_bases : (h : HeapFields)
    → heap_bytes h ≡ before_bases h ++ (flat_map two_bytes h.bases ++ (four_bytes (length h.children) ++ tail_of h))
unfolding heap_bytes head_of tail_of before_bases
around_bases h = simp append_assoc

pub before_count : HeapFields → List ℕ
before_count h = before_bases h ++ flat_map two_bytes h.bases

pub around_count : (h : HeapFields) → heap_bytes h ≡ before_count h ++ (four_bytes (length h.children) ++ tail_of h)
unfolding heap_bytes head_of tail_of before_bases before_count
around_count h = simp append_assoc

pub before_children : HeapFields → List ℕ
before_children h = before_count h ++ four_bytes (length h.children)

pub around_children : (h : HeapFields) → heap_bytes h ≡ before_children h
    ++ (flat_map child_bytes h.children ++ replicate (4 * (32 - length h.children)) 0)
unfolding heap_bytes head_of before_bases before_count before_children
around_children h = simp append_assoc

pub length-before_bases : (h : HeapFields) → HeapSizes h → length (before_bases h) ≡ 140
unfolding before_bases
length-before_bases h sizes =
    omega (
      arith,
      length-append (head_of h.mask h.owed h.saved) (flat_map action_bytes h.actions),
      sizes.head_size,
      sizes.action_size,
    )

pub length-before_count : (h : HeapFields) → HeapSizes h → length (before_count h) ≡ 156
unfolding before_count
length-before_count h sizes =
    omega (
      arith,
      length-append (before_bases h) (flat_map two_bytes h.bases),
      length-before_bases h sizes,
      sizes.base_size,
    )

pub length-before_children : (h : HeapFields) → HeapSizes h → length (before_children h) ≡ 160
unfolding before_children
length-before_children h sizes =
    omega (arith, length-append (before_count h) (four_bytes (length h.children)), length-before_count h sizes)

pub actions_back : (h : HeapFields) → IsHeap h → (heap_in (heap_bytes h)).actions ≡ h.actions
actions_back h legal =
    let sizes = heap_sizes h legal in
    let after : List ℕ = flat_map two_bytes h.bases ++ (four_bytes (length h.children) ++ tail_of h) in
    let read = read_all 4 fits_place action_bytes action_at actions_read 12 1 h.actions
    (head_of h.mask h.owed h.saved) after (places_fit 1 h.actions legal.actions) (omega (arith, sizes.head_size)) in
    let whole = subst (λ (bytes : List ℕ).
    map (λ s. action_at bytes (12 + 4 * s)) (range_with_len 1 (length h.actions)) ≡ h.actions)
    (sym (around_actions h)) read in
    subst (λ (n : ℕ). map (λ s. action_at (heap_bytes h) (12 + 4 * s)) (range_with_len 1 n) ≡ h.actions)
    legal.action_count whole

pub bases_back : (h : HeapFields) → IsHeap h → (heap_in (heap_bytes h)).bases ≡ h.bases
bases_back h legal =
    let before = length-before_bases h (heap_sizes h legal) in
    let read = read_all 2 is_base two_bytes half_at bases_read 140 0 h.bases
    (before_bases h) (four_bytes (length h.children) ++ tail_of h) legal.bases (omega (arith, before)) in
    let whole = subst (λ (bytes : List ℕ).
    map (λ m. half_at bytes (140 + 2 * m)) (range_with_len 0 (length h.bases)) ≡ h.bases)
    (sym (around_bases h)) read in
    subst (λ (n : ℕ). map (λ m. half_at (heap_bytes h) (140 + 2 * m)) (range_with_len 0 n) ≡ h.bases)
    legal.base_count whole

word_of_four : (n : ℕ) (after : List ℕ) → n < 2 ^ 32 → word_at (four_bytes n ++ after) 0 ≡ n
unfolding word_at
word_of_four n after h = from_le_bytes-to_le_bytes_4 n h

pub count_back : (h : HeapFields) → IsHeap h → word_at (heap_bytes h) 156 ≡ length h.children
count_back h legal =
    let sizes = heap_sizes h legal in
    let bytes : List ℕ = four_bytes (length h.children) ++ tail_of h in
    rw (around_count h) (subst (λ (n : ℕ). word_at (before_count h ++ bytes) n ≡ length h.children)
    (length-before_count h sizes)
    (word_at-seam (before_count h) bytes ∙ word_of_four (length h.children) (tail_of h) (omega (arith, sizes.few))))

pub children_back : (h : HeapFields) → IsHeap h → (heap_in (heap_bytes h)).children ≡ h.children
children_back h legal =
    let before = length-before_children h (heap_sizes h legal) in
    let read = read_all 4 is_child child_bytes child_at children_read 160 0 h.children (before_children h)
    (replicate (4 * (32 - length h.children)) 0) legal.children (omega (arith, before)) in
    let whole = subst (λ (bytes : List ℕ).
    map (λ i. child_at bytes (160 + 4 * i)) (range_with_len 0 (length h.children)) ≡ h.children)
    (sym (around_children h)) read in
    subst (λ (n : ℕ). map (λ i. child_at (heap_bytes h) (160 + 4 * i)) (range_with_len 0 n) ≡ h.children)
    (sym (count_back h legal)) whole
