-- What a read takes, as the first done line has more bytes than it takes, or no more.
use Rattle.std.proofs.Common.{◌≡◌, ℕ, ◌<◌, ◌≤◌, min, List, [], ◌∷◌, length, take, drop, slice_index_or, slice_set, Some}
use Rattle.std.proofs.Common.{refl, arith, ap, ◌∙◌, length-drop}
use Rattle.std.specs.Prelude.{remove}
use Rattle.std.proofs.lemmas.List.{drop_all, take_all}
use Rattle.tty_spec.specs.Terminal.{Terminal}
use Rattle.tty_spec.specs.Discipline.{left_before, taking, after_take}

-- bytes that are left stay before the other lines
some_left : (left : List ℕ) (lines : List (List ℕ)) → 0 < length left → left_before left lines ≡ left ∷ lines
some_left [] lines some = absurd (omega arith)
some_left (byte ∷ rest) lines some = refl

-- the first line has more bytes than the read takes
partly_left : (items : List (List ℕ)) (first : List ℕ) (n count : ℕ) (terminal : Terminal) → 0 < length items
    → first ≡ slice_index_or items 0 first → count ≡ min n (length first) → count < length first
    → taking terminal items n
    ≡ Some (record {
      terminal = record terminal { done_lines = slice_set items 0 (drop count first) };
      bytes = take count first;
    })
partly_left [] first n count terminal some is least more = absurd (omega arith)
partly_left (line ∷ lines) first n count terminal some is least more =
    let count_is : count ≡ n = omega arith in
    let left = some_left (drop n first) lines (omega (arith, length-drop n first)) in
    cc (is, count_is, left)

-- it has no more bytes
wholly_left : (items : List (List ℕ)) (first : List ℕ) (n count : ℕ) (terminal : Terminal) → 0 < length items
    → first ≡ slice_index_or items 0 first → count ≡ min n (length first) → length first ≤ count
    → taking terminal items n
    ≡ Some (record { terminal = record terminal { done_lines = remove items 0 }; bytes = take count first })
wholly_left [] first n count terminal some is least all = absurd (omega arith)
wholly_left (line ∷ lines) first n count terminal some is least all =
    let none = ap (λ (rest : List ℕ). left_before rest lines) (drop_all n first (omega arith)) in
    let whole = take_all n first (omega arith) in
    let same = take_all count first all in
    cc (is, none, whole, same)

-- a write of the first line leaves the others
others_stay : (items : List (List ℕ)) (first : List ℕ) → remove (slice_set items 0 first) 0 ≡ remove items 0
others_stay [] first = refl
others_stay (line ∷ lines) first = refl

-- the terminal with these done lines
abbrev with_lines : ℕ → ℕ → List ℕ → List (List ℕ) → Terminal
with_lines group flags line lines = record { foreground = group; flags = flags; line = line; done_lines = lines }

module _ (old new : Terminal) (group flags : ℕ) (line : List ℕ) (items : List (List ℕ))
    (first slice bytes : List ℕ) (n count : ℕ)
    (old_is : old ≡ with_lines group flags line items) (some : 0 < length items)
    (first_is : first ≡ slice_index_or items 0 first) (count_is : count ≡ min n (length first))
    (slice_is : slice ≡ first)
    (bytes_are : bytes ≡ take count slice) where
  same_bytes : bytes ≡ take count first
  same_bytes = bytes_are ∙ ap (take count) slice_is

  pub partly_taken : (left : List ℕ) → count < length first → left ≡ drop count first
      → new ≡ with_lines group flags line (slice_set items 0 left)
      → after_take old n ≡ Some (record { terminal = new; bytes = bytes })
  partly_taken left more left_is new_is =
      let taken = partly_left items first n count (with_lines group flags line items) some first_is count_is more in
      let answer = ap (λ (terminal : Terminal). after_take terminal n) old_is in
      let terminal_is : new ≡ with_lines group flags line (slice_set items 0 (drop count first)) =
      new_is ∙ ap (λ (rest : List ℕ). with_lines group flags line (slice_set items 0 rest)) left_is in
      cc (answer, taken, terminal_is, same_bytes)

  pub wholly_taken : (lines : List (List ℕ)) → length first ≤ count → lines ≡ remove (slice_set items 0 first) 0
      → new ≡ with_lines group flags line lines → after_take old n ≡ Some (record { terminal = new; bytes = bytes })
  wholly_taken lines all lines_are new_is =
      let taken = wholly_left items first n count (with_lines group flags line items) some first_is count_is all in
      let answer = ap (λ (terminal : Terminal). after_take terminal n) old_is in
      let terminal_is : new ≡ with_lines group flags line (remove items 0) =
      new_is ∙ ap (with_lines group flags line) (lines_are ∙ others_stay items first) in
      cc (answer, taken, terminal_is, same_bytes)
