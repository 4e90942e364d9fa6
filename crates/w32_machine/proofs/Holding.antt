-- Each handle of a new process is a holder more of its object.
use Rattle.std.proofs.Common.{◌≡◌, ◌∙◌, inl, inr, ℕ, ◌+◌, ◌*◌, ◌/◌, ◌%◌, ◌≤◌, ◌<◌, nat_eq, if◌then◌else◌, List, Option}
use Rattle.std.proofs.Common.{Some, None, IsSome, slice_index_or, refl, sym, ap, subst, arith}
use Rattle.std.specs.Option.{IsSomeAnd}
use Rattle.std.proofs.lemmas.Bool.{cases_eq}
use Rattle.win32_spec.specs.Handles.{Handle, handle_of, holders_of, AreRisingFrom}
use Rattle.win32_spec.specs.Lookup.{object_number}
use Rattle.win32_spec.specs.LookupLaws.{same, differs}
use Rattle.w32_handles.specs.Table.{HeldObject, Table, object_at, Changes}
use Rattle.w32_sync.specs.declared.PipeEnd.TheVariants.{Read, Write}
use Rattle.w32_kinds.specs.declared.kind.Kind.{Kind}
use Rattle.w32_kinds.specs.declared.kind.Kind.TheVariants as kind
use Rattle.w32_kinds.specs.Kinds.{ends_on, with_ends}
use Rattle.w32_machine.specs.Ending.{end_by}
use Rattle.w32_machine.specs.Creating.{kind_with, kept_with, HoldsEach, HaveRoom}
use Rattle.w32_machine.specs.Handing.{held_more, held_by, MayBeHeld}
use Rattle.w32_machine.proofs.Below.{handles_below, count_named, below-next, below-first, below-all, below-le}

-- a handle more is one more by its end
kind-more : (names a b : ℕ) (x : Kind)
    → with_ends (kind_with a b x) (end_by names) (ends_on (kind_with a b x) (end_by names) + 1) ≡
    kind_with (a + (if nat_eq names (object_number names) then 1 else 0))
    (b + (if nat_eq names (object_number names + 1) then 1 else 0)) x
kind-more names a b (kind.Pipe p) =
    elim (cases_eq (names % 2) 0) [
      | inl e ↦
          let s = same (names % 2) 0 e in
          let t = same names (object_number names) (omega arith) in
          let d = differs names (object_number names + 1) (λ f. omega arith) in
          let first : p.readers + a + 1 ≡ p.readers + (a + 1) = omega arith in
          let second : b + 0 ≡ b = omega arith in
          rw (s, t, d, first, second) refl
      | inr n ↦
          let s = differs (names % 2) 0 n in
          let t = differs names (object_number names) (λ f. omega arith) in
          let d = same names (object_number names + 1) (omega arith) in
          let first : a + 0 ≡ a = omega arith in
          let second : p.writers + b + 1 ≡ p.writers + (b + 1) = omega arith in
          rw (s, t, d, first, second) refl
    ]
kind-more names a b (kind.Section words) = refl
kind-more names a b (kind.Event e) = refl
kind-more names a b (kind.Mutex owner) = refl
kind-more names a b (kind.Process w slot) = refl
kind-more names a b (kind.Terminal terminal) = refl

-- as many of its handles as stand on both ends
one_named : (names : ℕ)
    → (if nat_eq names (object_number names) then 1 else 0)
    + (if nat_eq names (object_number names + 1) then 1 else 0) ≡
    1
one_named names =
    elim (cases_eq (names % 2) 0) [
      | inl e ↦
          let t = same names (object_number names) (omega arith) in
          let d = differs names (object_number names + 1) (λ f. omega arith) in
          rw (t, d) refl
      | inr n ↦
          let t = differs names (object_number names) (λ f. omega arith) in
          let d = same names (object_number names + 1) (omega arith) in
          rw (t, d) refl
    ]

kept-more-is : (names a b : ℕ) (x : HeldObject Kind)
    → Some (held_more names (record { object = kind_with a b x.object; holders = x.holders + (a + b) })) ≡
    kept_with (a + (if nat_eq names (object_number names) then 1 else 0))
    (b + (if nat_eq names (object_number names + 1) then 1 else 0)) (Some x)
kept-more-is names a b x =
    let c : ℕ = if nat_eq names (object_number names) then 1 else 0 in
    let d : ℕ = if nat_eq names (object_number names + 1) then 1 else 0 in
    let n : x.holders + (a + b) + 1 ≡ x.holders + (a + c + (b + d)) = omega (arith, one_named names) in
    ap (λ k. Some (record { object = k; holders = x.holders + (a + b) + 1 })) (kind-more names a b x.object)
    ∙ ap (λ i. Some (record { object = kind_with (a + c) (b + d) x.object; holders = i })) n

-- the handles below one number are held
abbrev pub HoldsBelow : List Handle → ℕ → Table Kind → Table Kind → Type 0
HoldsBelow hs k old new = HoldsEach (handles_below k hs) old new

kept-none : (x : Option (HeldObject Kind)) → x ≡ kept_with 0 0 x
kept-none None = refl
kept-none (Some kept) =
    let n : kept.holders ≡ kept.holders + 0 = omega arith in
    ap (λ k. Some (record { object = k; holders = kept.holders })) (by_kind kept.object)
    ∙ ap (λ i. Some (record { object = kind_with 0 0 kept.object; holders = i })) n
  where
    by_kind : (x : Kind) → x ≡ kind_with 0 0 x
    by_kind (kind.Pipe p) =
        let first : p.readers + 0 ≡ p.readers = omega arith in
        let second : p.writers + 0 ≡ p.writers = omega arith in
        rw (first, second) refl
    by_kind (kind.Section words) = refl
    by_kind (kind.Event e) = refl
    by_kind (kind.Mutex owner) = refl
    by_kind (kind.Process w slot) = refl
    by_kind (kind.Terminal terminal) = refl

module _ (hs : List Handle) (rising : AreRisingFrom 1 hs) (old : Table Kind) where
  pub holds-start : HoldsBelow hs 1 old old
  holds-start o =
      let none = below-first 1 1 hs rising (omega arith) in
      rw none (kept-none (object_at old o))

  pub holds-all : (new : Table Kind) → HoldsBelow hs 65 old new → HoldsEach hs old new
  holds-all new h = subst (λ all. HoldsEach all old new) (below-all 1 65 hs rising (omega arith)) h

  module _ (k : ℕ) (mid : Table Kind) (h : HoldsBelow hs k old mid) where
    pub holds-absent : handle_of hs k ≡ None → HoldsBelow hs (k + 1) old mid
    holds-absent absent o =
        let n : ℕ = object_number o in
        let first : holders_of (handles_below (k + 1) hs) n ≡ holders_of (handles_below k hs) n + 0 =
        below-next 1 hs k n rising
        ∙ ap (λ x. holders_of (handles_below k hs) n + count_named x n) absent in
        let second : holders_of (handles_below (k + 1) hs) (n + 1) ≡ holders_of (handles_below k hs) (n + 1) + 0 =
        below-next 1 hs k (n + 1) rising
        ∙ ap (λ x. holders_of (handles_below k hs) (n + 1) + count_named x (n + 1)) absent in
        let a : holders_of (handles_below (k + 1) hs) n ≡ holders_of (handles_below k hs) n = omega arith in
        let b : holders_of (handles_below (k + 1) hs) (n + 1) ≡ holders_of (handles_below k hs) (n + 1) = omega arith in
        h o ∙ ap (λ i. kept_with i (holders_of (handles_below k hs) (n + 1)) (object_at old o)) (sym a)
        ∙ ap (λ i. kept_with (holders_of (handles_below (k + 1) hs) n) i (object_at old o)) (sym b)

    module _ (names : ℕ) (named : handle_of hs k ≡ Some names) where
      next_count : (q : ℕ)
          → holders_of (handles_below (k + 1) hs) q ≡
          holders_of (handles_below k hs) q + (if nat_eq names q then 1 else 0)
      next_count q =
          below-next 1 hs k q rising ∙ ap (λ x. holders_of (handles_below k hs) q + count_named x q) named

      abbrev m : ℕ
      m = object_number names

      -- it was there from the start, and is
      stands : (was : HeldObject Kind) → object_at old names ≡ Some was
          → object_at mid names ≡
          kept_with (holders_of (handles_below k hs) m) (holders_of (handles_below k hs) (m + 1)) (Some was)
      stands was e =
          h names
          ∙ ap (kept_with (holders_of (handles_below k hs) m) (holders_of (handles_below k hs) (m + 1))) e

      pub may-hold : HaveRoom hs old → MayBeHeld names (object_at mid names)
      may-hold room = by_old (object_at old names) refl (room.there k names named)
        where
          by_old : (x : Option (HeldObject Kind)) → object_at old names ≡ x → IsSome x
              → MayBeHeld names (object_at mid names)
          by_old None e some = absurd (cc)
          by_old (Some was) e some =
              subst (λ (x : Option (HeldObject Kind)). IsSomeAnd x (λ kept. (kept.holders < 4160)
              × (ends_on kept.object (end_by names) < 4160))) (sym (stands was e)) (
                omega (
                  arith,
                  room.holders names was e,
                  next_count m,
                  next_count (m + 1),
                  below-le (k + 1) hs m,
                  below-le (k + 1) hs (m + 1),
                  one_named names,
                ),
                ends_fit was.object (room.first names was e) (room.second names was e),
              )
            where
              ends_fit : (x : Kind) → ends_on x Read + holders_of hs m ≤ 4160
                  → ends_on x Write + holders_of hs (m + 1) ≤ 4160
                  → ends_on (kind_with (holders_of (handles_below k hs) m) (holders_of (handles_below k hs) (m + 1)) x)
                  (end_by names) < 4160
              ends_fit (kind.Pipe p) a b =
                  elim (cases_eq (names % 2) 0) [
                    | inl f ↦
                        let s = same (names % 2) 0 f in
                        let t = same names m (omega arith) in
                        let c : holders_of (handles_below (k + 1) hs) m ≡ holders_of (handles_below k hs) m + 1 =
                        rw t at (next_count m) in
                        rw s (omega (arith, a, c, below-le (k + 1) hs m))
                    | inr f ↦
                        let s = differs (names % 2) 0 f in
                        let t = same names (m + 1) (omega arith) in
                        let c : holders_of (handles_below (k + 1) hs) (m + 1) ≡
                        holders_of (handles_below k hs) (m + 1) + 1 = rw t at (next_count (m + 1)) in
                        rw s (omega (arith, b, c, below-le (k + 1) hs (m + 1)))
                  ]
              ends_fit (kind.Section words) a b = omega arith
              ends_fit (kind.Event x) a b = omega arith
              ends_fit (kind.Mutex owner) a b = omega arith
              ends_fit (kind.Process w slot) a b = omega arith
              ends_fit (kind.Terminal terminal) a b = omega arith

      pub holds-next : (new : Table Kind) → IsSome (object_at old names)
          → Changes mid new names (held_by names (object_at mid names))
          → HoldsBelow hs (k + 1) old new
      holds-next new some one o = by_old (object_at old names) refl some
        where
          by_old : (x : Option (HeldObject Kind)) → object_at old names ≡ x → IsSome x
              → object_at new o ≡
              kept_with (holders_of (handles_below (k + 1) hs) (object_number o))
              (holders_of (handles_below (k + 1) hs) (object_number o + 1)) (object_at old o)
          by_old None e some = absurd (cc)
          by_old (Some was) e some =
              let a : ℕ = holders_of (handles_below k hs) m in
              let b : ℕ = holders_of (handles_below k hs) (m + 1) in
              let mid_is : object_at mid names ≡
              Some (record { object = kind_with a b was.object; holders = was.holders + (a + b) }) = stands was e in
              let change : Changes mid new names (Some (held_more names (record {
                object = kind_with a b was.object;
                holders = was.holders + (a + b);
              }))) = rw mid_is at one in
              elim (cases_eq (o / 2) (names / 2)) [
                | inl place ↦
                    let number : object_number o ≡ m = ap (λ i. 2 * i) place in
                    rw number (
                    ap (λ i. slice_index_or new.places i None) place ∙ change.here ∙ kept-more-is names a b was
                    ∙ ap (λ i. kept_with i (b + (if nat_eq names (m + 1) then 1 else 0)) (Some was))
                    (sym (next_count m))
                    ∙ ap (λ i. kept_with (holders_of (handles_below (k + 1) hs) m) i (Some was))
                    (sym (next_count (m + 1)))
                    ∙ ap (kept_with (holders_of (handles_below (k + 1) hs) m)
                    (holders_of (handles_below (k + 1) hs) (m + 1)))
                    (sym e ∙ ap (λ i. slice_index_or old.places i None) (sym place)))
                | inr d ↦
                    let n : ℕ = object_number o in
                    let s = differs names n (λ f. d (omega arith)) in
                    let t = differs names (n + 1) (λ f. d (omega arith)) in
                    let first : holders_of (handles_below (k + 1) hs) n ≡ holders_of (handles_below k hs) n + 0 =
                    rw s at (next_count n) in
                    let second : holders_of (handles_below (k + 1) hs) (n + 1) ≡
                    holders_of (handles_below k hs) (n + 1) + 0 = rw t at (next_count (n + 1)) in
                    let c : holders_of (handles_below (k + 1) hs) n ≡ holders_of (handles_below k hs) n = omega arith in
                    let f : holders_of (handles_below (k + 1) hs) (n + 1) ≡ holders_of (handles_below k hs) (n + 1) =
                    omega arith in
                    change.others o d ∙ h o
                    ∙ ap (λ i. kept_with i (holders_of (handles_below k hs) (n + 1)) (object_at old o)) (sym c)
                    ∙ ap (λ i. kept_with (holders_of (handles_below (k + 1) hs) n) i (object_at old o)) (sym f)
              ]
