-- What the test of a cygheap's bytes asks at each place.
use Rattle.std.specs.Prelude.{◌≡◌, ℕ, ◌-◌, ◌/◌, ◌%◌, ◌≤◌, ◌<◌, nat_eq, nat_le, nat_lt, if◌then◌else◌, List}
use Rattle.std.proofs.Common.{inl, inr, refl, sym, ◌∙◌, ap, arith}
use Rattle.std.proofs.lemmas.Bool.{lt-ltb, le-ltb, ne_eqb, cases_lt, cases_eq}
use Rattle.layer_spec.specs.HeapReads.{byte_at}
use Rattle.layer_spec.specs.HeapBreaks.{is_byte, fits_head, fits_mask, fits_action, fits_child, fits_at}

pub fits_in_head : (bytes : List ℕ) (i b : ℕ) → i < 4 → fits_at bytes i b ≡ fits_head i b
fits_in_head bytes i b h = rw (lt-ltb i 4 h) refl

pub fits_in_mask : (bytes : List ℕ) (i b : ℕ) → 4 ≤ i → i < 8 → fits_at bytes i b ≡ fits_mask (i - 4) b
fits_in_mask bytes i b l h = rw (le-ltb i 4 l, lt-ltb i 8 h) refl

pub fits_in_saved : (bytes : List ℕ) (i b : ℕ) → 8 ≤ i → i < 12
    → fits_at bytes i b ≡ (if nat_eq (byte_at bytes 2) 1 then fits_mask (i - 8) b else nat_eq b 0)
fits_in_saved bytes i b l h = rw (le-ltb i 4 (omega arith), le-ltb i 8 l, lt-ltb i 12 h) refl

pub fits_in_owed : (bytes : List ℕ) (i b : ℕ) → 12 ≤ i → i < 14 → fits_at bytes i b ≡ is_byte b
fits_in_owed bytes i b l h =
    rw (le-ltb i 4 (omega arith), le-ltb i 8 (omega arith), le-ltb i 12 l, lt-ltb i 14 h) refl

pub fits_past_owed : (bytes : List ℕ) (i b : ℕ) → 14 ≤ i → i < 16 → fits_at bytes i b ≡ nat_eq b 0
fits_past_owed bytes i b l h =
    rw (
      le-ltb i 4 (omega arith),
      le-ltb i 8 (omega arith),
      le-ltb i 12 (omega arith),
      le-ltb i 14 l,
      lt-ltb i 16 h,
    ) refl

pub fits_in_actions : (bytes : List ℕ) (i b : ℕ) → 16 ≤ i → i < 140
    → fits_at bytes i b ≡ fits_action (i / 4 - 3) (byte_at bytes (i - i % 4)) (i % 4) b
fits_in_actions bytes i b l h =
    rw (
      le-ltb i 4 (omega arith),
      le-ltb i 8 (omega arith),
      le-ltb i 12 (omega arith),
      le-ltb i 14 (omega arith),
      le-ltb i 16 l,
      lt-ltb i 140 h,
    ) refl

pub fits_in_bases : (bytes : List ℕ) (i b : ℕ) → 140 ≤ i → i < 156
    → fits_at bytes i b ≡ (if nat_eq (i % 2) 0 then is_byte b else nat_le b 3)
fits_in_bases bytes i b l h =
    rw (
      le-ltb i 4 (omega arith),
      le-ltb i 8 (omega arith),
      le-ltb i 12 (omega arith),
      le-ltb i 14 (omega arith),
      le-ltb i 16 (omega arith),
      le-ltb i 140 l,
      lt-ltb i 156 h,
    ) refl

pub fits_in_count : (bytes : List ℕ) (i b : ℕ) → 156 ≤ i → i < 160
    → fits_at bytes i b ≡ (if nat_eq i 156 then nat_le b 32 else nat_eq b 0)
fits_in_count bytes i b l h =
    rw (
      le-ltb i 4 (omega arith),
      le-ltb i 8 (omega arith),
      le-ltb i 12 (omega arith),
      le-ltb i 14 (omega arith),
      le-ltb i 16 (omega arith),
      le-ltb i 140 (omega arith),
      le-ltb i 156 l,
      lt-ltb i 160 h,
    ) refl

pub fits_in_children : (bytes : List ℕ) (i b : ℕ) → 160 ≤ i
    → fits_at bytes i b
    ≡ (if nat_lt (i / 4 - 40) (byte_at bytes 156) then fits_child (byte_at bytes (i - 1)) (i % 4) b else nat_eq b 0)
fits_in_children bytes i b l =
    rw (
      le-ltb i 4 (omega arith),
      le-ltb i 8 (omega arith),
      le-ltb i 12 (omega arith),
      le-ltb i 14 (omega arith),
      le-ltb i 16 (omega arith),
      le-ltb i 140 (omega arith),
      le-ltb i 156 (omega arith),
      ne_eqb i 156 (λ e. omega arith),
      le-ltb i 160 l,
    ) refl

-- the first byte of an action is tested by itself
pub kind_alone : (signal m n j b : ℕ) → j ≡ 0 → fits_action signal m j b ≡ fits_action signal n j b
kind_alone signal m n j b h = rw h refl

actions_alike : (a b : List ℕ) (i x : ℕ) → ((j : ℕ) → j < i → byte_at a j ≡ byte_at b j)
    → fits_action (i / 4 - 3) (byte_at a (i - i % 4)) (i % 4) x
    ≡ fits_action (i / 4 - 3) (byte_at b (i - i % 4)) (i % 4) x
actions_alike a b i x same = elim (cases_eq (i % 4) 0) [
  | inl first ↦ kind_alone (i / 4 - 3) (byte_at a (i - i % 4)) (byte_at b (i - i % 4)) (i % 4) x first
  | inr other ↦ elim (cases_lt 0 i) [
    | inl some ↦ ap (λ n. fits_action (i / 4 - 3) n (i % 4) x) (same (i - i % 4) (omega arith))
    | inr none ↦ absurd (other (omega arith))
  ]
]

-- the test asks nothing of the bytes from the place on
pub fits_alike : (a b : List ℕ) (i x : ℕ) → ((j : ℕ) → j < i → byte_at a j ≡ byte_at b j)
    → fits_at a i x ≡ fits_at b i x
fits_alike a b i x same = elim (cases_lt i 8) [
  | inl below ↦ elim (cases_lt i 4) [
    | inl head ↦ fits_in_head a i x head ∙ sym (fits_in_head b i x head)
    | inr mask ↦ fits_in_mask a i x mask below ∙ sym (fits_in_mask b i x mask below)
  ]
  | inr from_8 ↦ elim (cases_lt i 12) [
    | inl saved ↦ fits_in_saved a i x from_8 saved
        ∙ ap (λ n. (if nat_eq n 1 then fits_mask (i - 8) x else nat_eq x 0)) (same 2 (omega arith))
        ∙ sym (fits_in_saved b i x from_8 saved)
    | inr from_12 ↦ elim (cases_lt i 16) [
      | inl owed ↦ elim (cases_lt i 14) [
        | inl low ↦ fits_in_owed a i x from_12 low ∙ sym (fits_in_owed b i x from_12 low)
        | inr high ↦ fits_past_owed a i x high owed ∙ sym (fits_past_owed b i x high owed)
      ]
      | inr from_16 ↦ elim (cases_lt i 140) [
        | inl actions ↦ fits_in_actions a i x from_16 actions
            ∙ actions_alike a b i x same
            ∙ sym (fits_in_actions b i x from_16 actions)
        | inr from_140 ↦ elim (cases_lt i 156) [
          | inl bases ↦ fits_in_bases a i x from_140 bases ∙ sym (fits_in_bases b i x from_140 bases)
          | inr from_156 ↦ elim (cases_lt i 160) [
            | inl count ↦ fits_in_count a i x from_156 count ∙ sym (fits_in_count b i x from_156 count)
            | inr from_160 ↦ fits_in_children a i x from_160
                ∙ ap (λ n. (if nat_lt (i / 4 - 40) n then fits_child (byte_at a (i - 1)) (i % 4) x else nat_eq x 0))
                (same 156 (omega arith))
                ∙ ap (λ n. (if nat_lt (i / 4 - 40) (byte_at b 156) then fits_child n (i % 4) x else nat_eq x 0))
                (same (i - 1) (omega arith))
                ∙ sym (fits_in_children b i x from_160)
          ]
        ]
      ]
    ]
  ]
]
