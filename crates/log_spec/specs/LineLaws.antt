-- Bytes parted into lines.
use Rattle.std.specs.Prelude.{◌≡◌, ℕ, Bool, true, false, ◌&&◌, not, nat_eq, List, [], ◌∷◌, ◌++◌, length, slice_index}
use Rattle.std.specs.List.{list_all}
use Rattle.std.proofs.Common.{refl, arith, sym, ap, ◌∙◌, append_assoc, append-nil}
use Rattle.std.proofs.lemmas.Bool.{eqb-true}
use Rattle.std.proofs.lemmas.Bool.Decides.{nat_tests}
use Rattle.std.proofs.lemmas.Grind.{flat_map-append}
use Rattle.std.proofs.lemmas.List.Splits.{length-slice_split}
use Rattle.w32_base.specs.Names.{is_same}
use Rattle.log_spec.specs.Texts.{line}
use Rattle.log_spec.specs.EventsText.{lines_text, is_one_line}
use Rattle.log_spec.specs.EventsRead.{lines_in}
use Rattle.log_spec.specs.EventsReadLaws.{parts, together}
use Rattle.log_spec.specs.EventsTextLaws.{first_part, only_part}

pub same_is : (xs ys : List ℕ) → is_same xs ys ≡ true → xs ≡ ys
same_is [] [] h = refl
same_is [] (y ∷ ys) h = absurd (grind arith)
same_is (x ∷ xs) [] h = absurd (grind arith)
same_is (x ∷ xs) (y ∷ ys) h =
    let two = parts (nat_eq x y) (is_same xs ys) h in cc (eqb-true x y two.0, same_is xs ys two.1)

pub same_self : (xs : List ℕ) → is_same xs xs ≡ true
same_self [] = refl
same_self (x ∷ xs) = together (nat_eq x x) (is_same xs xs) (grind (arith, nat_tests)) (same_self xs)

pub not_same : (xs ys : List ℕ) → is_same xs ys ≡ false → xs ≡ ys → ⊥
not_same xs ys h same = cc (sym (same_self xs) ∙ (ap (is_same xs) same ∙ h))

pub line_is_parted : (text rest : List ℕ) → is_one_line text ≡ true
    → lines_in (line text ++ rest) ≡ text ∷ lines_in rest
line_is_parted text rest h = ap lines_in (append_assoc text (10 ∷ []) rest) ∙ first_part 10 text rest h

pub whole_are_parted : (lines : List (List ℕ)) (rest : List ℕ) → list_all is_one_line lines ≡ true
    → lines_in (lines_text lines ++ rest) ≡ lines ++ lines_in rest
whole_are_parted [] rest h = refl
whole_are_parted (text ∷ lines) rest h =
    let two = parts (is_one_line text) (list_all is_one_line lines) h in
    ap lines_in (append_assoc (line text) (lines_text lines) rest)
    ∙ (ap lines_in (append_assoc text (10 ∷ []) (lines_text lines ++ rest))
    ∙ (first_part 10 text (lines_text lines ++ rest) two.0
    ∙ ap (λ (more : List (List ℕ)). text ∷ more) (whole_are_parted lines rest two.1)))

-- and so is anything behind the last line
pub with_line : (lines : List (List ℕ)) (text rest : List ℕ)
    → lines_text (lines ++ text ∷ []) ++ rest ≡ lines_text lines ++ (line text ++ rest)
with_line lines text rest =
    ap (λ (front : List ℕ). front ++ rest)
    (flat_map-append line lines (text ∷ [])
    ∙ ap (λ (more : List ℕ). lines_text lines ++ more) (append-nil (line text)))
    ∙ append_assoc (lines_text lines) (line text) rest

pub begins_apart : (xs ys : List ℕ) → nat_eq (slice_index xs 0) (slice_index ys 0) ≡ false → xs ≡ ys → ⊥
begins_apart xs ys h same =
    let first : slice_index xs 0 ≡ slice_index ys 0 = ap (λ (text : List ℕ). slice_index text 0) same in
    grind (arith, nat_tests)

-- the first line of what stands behind other lines
pub first_is : (one other : List ℕ) (more rest : List (List ℕ)) → one ∷ more ≡ other ∷ rest → one ≡ other
first_is one other more rest same = cc same

pub rest_is : (one other : List ℕ) (more rest : List (List ℕ)) → one ∷ more ≡ other ∷ rest → more ≡ rest
rest_is one other more rest same = cc same

pub parts_some : (bytes : List ℕ) → lines_in bytes ≡ [] → ⊥
parts_some bytes none =
    let size = length-slice_split (λ byte. nat_eq byte 10) bytes in
    let empty : length (lines_in bytes) ≡ 0 = ap length none in omega arith

pub open_stops : (rest next after : List ℕ) → is_one_line rest ≡ true → is_one_line next ≡ true
    → rest ≡ line next ++ after → ⊥
open_stops rest next after one one_next same =
    parts_some after (sym (rest_is rest next [] (lines_in after)
    (sym (only_part 10 rest one) ∙ (ap lines_in same ∙ line_is_parted next after one_next))))

-- bytes as whole lines and a rest
pub record Parted (bytes : List ℕ) : Type 0 where
  pub lines : List (List ℕ)
  pub rest : List ℕ
  pub whole : list_all is_one_line lines ≡ true
  pub one : is_one_line rest ≡ true
  pub bytes_are : lines_text lines ++ rest ≡ bytes

pub one_more : (b : ℕ) (bytes : List ℕ) → nat_eq b 10 ≡ false → Parted bytes → Parted (b ∷ bytes)
one_more b bytes other p = by_lines p.lines p.rest p.whole p.one p.bytes_are
  where
    by_lines : (lines : List (List ℕ)) (rest : List ℕ) → list_all is_one_line lines ≡ true → is_one_line rest ≡ true
        → lines_text lines ++ rest ≡ bytes → Parted (b ∷ bytes)
    by_lines [] rest h k same = record {
      lines = [];
      rest = b ∷ rest;
      whole = refl;
      one = together (not (nat_eq b 10)) (is_one_line rest) (ap not other) k;
      bytes_are = ap (λ (more : List ℕ). b ∷ more) same;
    }
    by_lines (text ∷ lines) rest h k same = record {
      lines = (b ∷ text) ∷ lines;
      rest = rest;
      whole = together (not (nat_eq b 10) && is_one_line text) _ (together (not (nat_eq b 10)) _ (ap not other)
          (parts (is_one_line text) (list_all is_one_line lines) h).0)
          (parts (is_one_line text) (list_all is_one_line lines) h).1;
      one = k;
      bytes_are = ap (λ (more : List ℕ). b ∷ more) same;
    }

pub part : (bytes : List ℕ) → Parted bytes
part [] = record { lines = []; rest = []; whole = refl; one = refl; bytes_are = refl }
part (b ∷ bytes) = by_test (nat_eq b 10) refl (part bytes)
  where
    by_test : (t : Bool) → nat_eq b 10 ≡ t → Parted bytes → Parted (b ∷ bytes)
    by_test true is p = record {
      lines = [] ∷ p.lines;
      rest = p.rest;
      whole = p.whole;
      one = p.one;
      bytes_are = cc (eqb-true b 10 is, p.bytes_are);
    }
    by_test false is p = one_more b bytes is p
