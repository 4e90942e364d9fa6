-- Bytes that fit up to a place can be continued to a whole cygheap's.
use Rattle.std.specs.Prelude.{◌≡◌, ℕ, zero, suc, ◌+◌, ◌-◌, ◌/◌, ◌%◌, ◌≤◌, ◌<◌, Bool, true, false, nat_eq, nat_le}
use Rattle.std.specs.Prelude.{nat_lt, if◌then◌else◌, List, [], ◌∷◌, ◌++◌, length, take, drop}
use Rattle.std.proofs.Common.{inl, inr, refl, sym, ◌∙◌, ap, subst, arith, append_assoc, length-append}
use Rattle.std.proofs.lemmas.Bool.{cases_lt, cases_eq, ne_eqb, ltb-true, cases_Bool}
use Rattle.std.proofs.lemmas.Bool.Decides.{nat_tests}
use Rattle.std.proofs.lemmas.List.{get_or_append_left, take-append-drop}
use Rattle.std.proofs.Math.Seq.{take-length, take-append_seam, get_or-append_seam}
use Rattle.layer_spec.specs.HeapReads.{byte_at}
use Rattle.layer_spec.specs.HeapBreaks.{is_byte, fits_mask, fits_action, fits_child, fits_at}
use Rattle.layer_spec.specs.BreakParts.{fits_in_head, fits_in_mask, fits_in_saved, fits_in_owed, fits_past_owed}
use Rattle.layer_spec.specs.BreakParts.{fits_in_actions, fits_in_bases, fits_in_count, fits_in_children, fits_alike}

-- the first n bytes fit
abbrev pub FitBelow : List ℕ → ℕ → Type 0
FitBelow bytes n = (k : ℕ) → k < n → fits_at bytes k (byte_at bytes k) ≡ true

-- a way to go on at a place
pub record Next (bytes : List ℕ) (i : ℕ) : Type 0 where
  pub byte : ℕ
  pub fits : fits_at bytes i byte ≡ true

pub zero_in_mask : (j : ℕ) → fits_mask j 0 ≡ true
zero_in_mask j = grind (arith, nat_tests)

pub zero_in_action : (signal kind j : ℕ) → fits_action signal kind j 0 ≡ true
zero_in_action signal kind j = grind (arith, nat_tests)

pub zero_in_bases : (b : Bool) → (if b then is_byte 0 else nat_le 0 3) ≡ true
zero_in_bases true = refl
zero_in_bases false = refl

pub zero_in_count : (b : Bool) → (if b then nat_le 0 32 else nat_eq 0 0) ≡ true
zero_in_count true = refl
zero_in_count false = refl

pub zero_in_saved : (b : Bool) (j : ℕ) → (if b then fits_mask j 0 else nat_eq 0 0) ≡ true
zero_in_saved true j = zero_in_mask j
zero_in_saved false j = refl

zero_in_head : (b : Bool) → (if b then nat_le 0 1 else nat_eq 0 0) ≡ true
zero_in_head true = refl
zero_in_head false = refl

-- the second byte of a child's number
abbrev high_byte : ℕ → ℕ
high_byte low = if nat_lt low 2 then 1 else 0

high_fits : (low j : ℕ) → low < 256 → j ≡ 1 → fits_child low j (high_byte low) ≡ true
high_fits low j h e = grind (arith, nat_tests)

zero_in_child : (low j : ℕ) → (j ≡ 1 → ⊥) → fits_child low j 0 ≡ true
zero_in_child low j h = grind (arith, nat_tests)

-- the byte before the second one of a child's number is a byte
low_is_byte : (bytes : List ℕ) (i : ℕ) → 160 ≤ i → i % 4 ≡ 1 → nat_lt (i / 4 - 40) (byte_at bytes 156) ≡ true
    → fits_at bytes (i - 1) (byte_at bytes (i - 1)) ≡ true → byte_at bytes (i - 1) < 256
low_is_byte bytes i l first listed fits =
    let low : ℕ = byte_at bytes (i - 1) in
    let from_160 : 160 ≤ i - 1 = omega arith in
    let same_child : (i - 1) / 4 - 40 ≡ i / 4 - 40 = omega arith in
    let place : (i - 1) % 4 ≡ 0 = omega arith in
    let there : (if nat_lt ((i - 1) / 4 - 40) (byte_at bytes 156) then fits_child (byte_at bytes (i - 1 - 1))
    ((i - 1) % 4) low
    else nat_eq low 0) ≡ true = sym (fits_in_children bytes (i - 1) low from_160) ∙ fits in
    ltb-true low 256 (sym (rw (same_child, listed, place) refl) ∙ there)

next_in_head : (bytes : List ℕ) (i : ℕ) → i < 4 → Next bytes i
next_in_head bytes i h = elim (cases_eq i 0) [
  | inl e ↦ record { byte = 1; fits = fits_in_head bytes i 1 h ∙ rw e refl }
  | inr other ↦ record { byte = 0; fits = fits_in_head bytes i 0 h ∙ rw (ne_eqb i 0 other) (zero_in_head (nat_eq i 2)) }
]

next_in_children : (bytes : List ℕ) (i : ℕ) → 160 ≤ i → FitBelow bytes i → Next bytes i
next_in_children bytes i l below = elim (cases_Bool (nat_lt (i / 4 - 40) (byte_at bytes 156))) [
  | inr past ↦ record { byte = 0; fits = fits_in_children bytes i 0 l ∙ rw past refl }
  | inl listed ↦ elim (cases_eq (i % 4) 1) [
    | inl second ↦
        let low : ℕ = byte_at bytes (i - 1) in
        let is_low : low < 256 = low_is_byte bytes i l second listed (below (i - 1) (omega arith)) in
        record {
          byte = high_byte low;
          fits = fits_in_children bytes i (high_byte low) l ∙ rw listed (high_fits low (i % 4) is_low second);
        }
    | inr other ↦ record {
      byte = 0;
      fits = fits_in_children bytes i 0 l ∙ rw listed (zero_in_child (byte_at bytes (i - 1)) (i % 4) other);
    }
  ]
]

next_at : (bytes : List ℕ) (i : ℕ) → FitBelow bytes i → Next bytes i
next_at bytes i below = elim (cases_lt i 8) [
  | inl to_8 ↦ elim (cases_lt i 4) [
    | inl head ↦ next_in_head bytes i head
    | inr mask ↦ record { byte = 0; fits = fits_in_mask bytes i 0 mask to_8 ∙ zero_in_mask (i - 4) }
  ]
  | inr from_8 ↦ elim (cases_lt i 12) [
    | inl saved ↦ record {
      byte = 0;
      fits = fits_in_saved bytes i 0 from_8 saved ∙ zero_in_saved (nat_eq (byte_at bytes 2) 1) (i - 8);
    }
    | inr from_12 ↦ elim (cases_lt i 16) [
      | inl owed ↦ elim (cases_lt i 14) [
        | inl low ↦ record { byte = 0; fits = fits_in_owed bytes i 0 from_12 low }
        | inr high ↦ record { byte = 0; fits = fits_past_owed bytes i 0 high owed }
      ]
      | inr from_16 ↦ elim (cases_lt i 140) [
        | inl actions ↦ record {
          byte = 0;
          fits = fits_in_actions bytes i 0 from_16 actions
              ∙ zero_in_action (i / 4 - 3) (byte_at bytes (i - i % 4)) (i % 4);
        }
        | inr from_140 ↦ elim (cases_lt i 156) [
          | inl bases ↦ record {
            byte = 0;
            fits = fits_in_bases bytes i 0 from_140 bases ∙ zero_in_bases (nat_eq (i % 2) 0);
          }
          | inr from_156 ↦ elim (cases_lt i 160) [
            | inl count ↦ record {
              byte = 0;
              fits = fits_in_count bytes i 0 from_156 count ∙ zero_in_count (nat_eq i 156);
            }
            | inr from_160 ↦ next_in_children bytes i from_160 below
          ]
        ]
      ]
    ]
  ]
]

-- with one more byte
fit_more : (bytes : List ℕ) (next : Next bytes (length bytes)) → FitBelow bytes (length bytes)
    → FitBelow (bytes ++ next.byte ∷ []) (length bytes + 1)
fit_more bytes next below k h = elim (cases_lt k (length bytes)) [
  | inl inside ↦
      let same : byte_at (bytes ++ next.byte ∷ []) k ≡ byte_at bytes k
      = get_or_append_left bytes (next.byte ∷ []) 0 k inside in
      rw same (fits_alike (bytes ++ next.byte ∷ []) bytes k (byte_at bytes k)
      (λ j l. get_or_append_left bytes (next.byte ∷ []) 0 j (omega arith)) ∙ below k inside)
  | inr last ↦
      let place : k ≡ length bytes = omega arith in
      rw (place, get_or-append_seam bytes next.byte [] 0)
      (fits_alike (bytes ++ next.byte ∷ []) bytes (length bytes) next.byte
      (λ j l. get_or_append_left bytes (next.byte ∷ []) 0 j l) ∙ next.fits)
]

-- a whole of 288 bytes that fit and that begin with these
pub record Completed (bytes : List ℕ) : Type 0 where
  pub whole : List ℕ
  pub size : length whole ≡ 288
  pub fits : FitBelow whole 288
  pub begins : take (length bytes) whole ≡ bytes

pub complete : (m : ℕ) (bytes : List ℕ) → length bytes + m ≡ 288 → FitBelow bytes (length bytes) → Completed bytes
complete zero bytes e below = record {
  whole = bytes;
  size = omega arith;
  fits = subst (FitBelow bytes) (omega arith) below;
  begins = take-length bytes;
}
complete (suc m) bytes e below =
    let next = next_at bytes (length bytes) below in
    let more : List ℕ = bytes ++ next.byte ∷ [] in
    let size : length more ≡ length bytes + 1 = length-append bytes (next.byte ∷ []) in
    let rest = complete m more (omega (arith, size)) (subst (FitBelow more) (sym size) (fit_more bytes next below)) in
    record {
      whole = rest.whole;
      size = rest.size;
      fits = rest.fits;
      begins = ap (take (length bytes)) (sym (take-append-drop (length more) rest.whole)
          ∙ ap (λ front. front ++ drop (length more) rest.whole) rest.begins
          ∙ append_assoc bytes (next.byte ∷ []) (drop (length more) rest.whole))
          ∙ take-append_seam bytes ((next.byte ∷ []) ++ drop (length more) rest.whole);
    }
