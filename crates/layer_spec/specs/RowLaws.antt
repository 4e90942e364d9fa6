-- The words of rows and their records are each other's inverse.
use Rattle.std.specs.Prelude.{◌≡◌, ℕ, ◌+◌, ◌*◌, ◌^◌, ◌<◌, Bool, true, false, nat_eq, Option, Some, None}
use Rattle.std.proofs.Common.{refl, ◌∙◌, ap, arith}
use Rattle.std.proofs.lemmas.Nat.{shr_high, mod_low}
use Rattle.std.proofs.lemmas.Bool.Decides.{nat_tests}
use Rattle.layer_spec.specs.Inverse.{AreInverse, inverse_from, told_at, told_from}
use Rattle.layer_spec.specs.Rows.{RowKind, Free, Held, Running, Stopped, Zombie, Gone, kind_number, kind_from, MainWord}
use Rattle.layer_spec.specs.Rows.{bit_of, low_bits, main_word_of, is_main, IsMain}
use Rattle.layer_spec.specs.Decoding.{field, pending_in, status_in, main_fields, if_main, main_by_kind, main_of}

-- the field of a number that is made of what stands above the field, the field, and what stands below it
pub field_at : (place width low mid high w : ℕ) → low < 2 ^ place → mid < 2 ^ width
    → w ≡ (high * 2 ^ width + mid) * 2 ^ place + low → field w place width ≡ mid
field_at place width low mid high w below within e =
    rw (e, shr_high (high * 2 ^ width + mid) place low below) (mod_low high width mid within)

-- the fields of a main word
pub record MainParts (w low image kind report execd stop : ℕ) : Type 0 where
  pub low_is : field w 0 31 ≡ low
  pub image_is : field w 31 19 ≡ image
  pub kind_is : field w 50 3 ≡ kind
  pub report_is : field w 53 2 ≡ report
  pub execd_is : field w 55 1 ≡ execd
  pub stop_is : field w 56 5 ≡ stop

pub main_parts : (w low image kind report execd stop : ℕ) → low < 2 ^ 31 → image < 2 ^ 19 → kind < 2 ^ 3
    → report < 2 ^ 2
    → execd < 2 ^ 1 → stop < 2 ^ 5
    → w ≡ low + image * 2 ^ 31 + kind * 2 ^ 50 + report * 2 ^ 53 + execd * 2 ^ 55 + stop * 2 ^ 56
    → MainParts w low image kind report execd stop
main_parts w low image kind report execd stop l i k r x s e = record {
  low_is = field_at 0 31 0 low (image + kind * 2 ^ 19 + report * 2 ^ 22 + execd * 2 ^ 24 + stop * 2 ^ 25) w
      (omega arith) l (omega arith);
  image_is = field_at 31 19 low image (kind + report * 2 ^ 3 + execd * 2 ^ 5 + stop * 2 ^ 6) w l i (omega arith);
  kind_is = field_at 50 3 (low + image * 2 ^ 31) kind (report + execd * 2 ^ 2 + stop * 2 ^ 3) w
      (omega arith) k (omega arith);
  report_is = field_at 53 2 (low + image * 2 ^ 31 + kind * 2 ^ 50) report (execd + stop * 2) w
      (omega arith) r (omega arith);
  execd_is = field_at 55 1 (low + image * 2 ^ 31 + kind * 2 ^ 50 + report * 2 ^ 53) execd stop w
      (omega arith) x (omega arith);
  stop_is = field_at 56 5 (low + image * 2 ^ 31 + kind * 2 ^ 50 + report * 2 ^ 53 + execd * 2 ^ 55) stop 0 w
      (omega arith) s (omega arith);
}

abbrev pub main_record : (kind : RowKind) (stop report : ℕ) (execd : Bool) (image pending status : ℕ) → MainWord
main_record kind stop report execd image pending status =
    record {
      kind = kind;
      stop = stop;
      report = report;
      execd = execd;
      image = image;
      pending = pending;
      status = status;
    }

pub bit_below : (b : Bool) → bit_of b < 2 ^ 1
bit_below true = omega arith
bit_below false = omega arith

pub bit_back : (b : Bool) → nat_eq (bit_of b) 1 ≡ b
bit_back true = refl
bit_back false = refl

-- the ranges in which the fields of a main word lie
pub record MainRanges (stop report image low : ℕ) : Type 0 where
  pub stop_below : stop < 2 ^ 5
  pub report_below : report < 2 ^ 2
  pub image_below : image < 2 ^ 19
  pub low_below : low < 2 ^ 31

pub main_ranges : (kind : RowKind) (stop report : ℕ) (execd : Bool) (image pending status : ℕ)
    → IsMain (main_record kind stop report execd image pending status)
    → MainRanges stop report image (low_bits kind (main_record kind stop report execd image pending status))
main_ranges Free stop report execd image pending status h = grind (arith, nat_tests)
main_ranges Held stop report execd image pending status h = grind (arith, nat_tests)
main_ranges Running stop report execd image pending status h = grind (arith, nat_tests)
main_ranges Stopped stop report execd image pending status h = grind (arith, nat_tests)
main_ranges Zombie stop report execd image pending status h = grind (arith, nat_tests)
main_ranges Gone stop report execd image pending status h = grind (arith, nat_tests)

pub kind_below : (kind : RowKind) → kind_number kind < 2 ^ 3
kind_below Free = omega arith
kind_below Held = omega arith
kind_below Running = omega arith
kind_below Stopped = omega arith
kind_below Zombie = omega arith
kind_below Gone = omega arith

pub kind_back : (kind : RowKind) → kind_from (kind_number kind) ≡ Some kind
kind_back Free = refl
kind_back Held = refl
kind_back Running = refl
kind_back Stopped = refl
kind_back Zombie = refl
kind_back Gone = refl

-- the low bits give the pending signals and the status back
pub low_back : (kind : RowKind) (stop report : ℕ) (execd : Bool) (image pending status : ℕ)
    → IsMain (main_record kind stop report execd image pending status)
    → (pending_in kind (low_bits kind (main_record kind stop report execd image pending status)) ≡ pending)
    × (status_in kind (low_bits kind (main_record kind stop report execd image pending status)) ≡ status)
low_back Free stop report execd image pending status h = grind (arith, nat_tests)
low_back Held stop report execd image pending status h = grind (arith, nat_tests)
low_back Running stop report execd image pending status h = grind (arith, nat_tests)
low_back Stopped stop report execd image pending status h = grind (arith, nat_tests)
low_back Zombie stop report execd image pending status h = grind (arith, nat_tests)
low_back Gone stop report execd image pending status h = grind (arith, nat_tests)

pub fields_back : (kind : RowKind) (stop report : ℕ) (execd : Bool) (image pending status w : ℕ)
    → IsMain (main_record kind stop report execd image pending status)
    → MainParts w (low_bits kind (main_record kind stop report execd image pending status)) image
    (kind_number kind) report (bit_of execd) stop
    → main_fields kind w ≡ main_record kind stop report execd image pending status
fields_back kind stop report execd image pending status w h parts =
    let low = low_back kind stop report execd image pending status h in
    rw (parts.stop_is, parts.report_is, parts.execd_is, parts.image_is, parts.low_is, bit_back execd, low.0, low.1) refl

pub main_of_word : (m : MainWord) → IsMain m → main_of (main_word_of m) ≡ Some m
main_of_word m h =
    let w : ℕ = main_word_of m in
    let ranges = main_ranges m.kind m.stop m.report m.execd m.image m.pending m.status h in
    let parts = main_parts w (low_bits m.kind m) m.image (kind_number m.kind) m.report (bit_of m.execd) m.stop
    ranges.low_below ranges.image_below (kind_below m.kind) ranges.report_below (bit_below m.execd)
    ranges.stop_below refl in
    let fields = fields_back m.kind m.stop m.report m.execd m.image m.pending m.status w h parts in
    ap (λ n. main_by_kind w (kind_from n)) parts.kind_is
    ∙ ap (main_by_kind w) (kind_back m.kind)
    ∙ ap (if_main w) fields
    ∙ told_at is_main main_word_of w m h refl

pub word_of_main : (w : ℕ) (m : MainWord) → main_of w ≡ Some m → IsMain m × (main_word_of m ≡ w)
word_of_main w m h = by_option (kind_from (field w 50 3)) h
  where
    by_option : (kind : Option RowKind) → main_by_kind w kind ≡ Some m → IsMain m × (main_word_of m ≡ w)
    by_option None e = cc
    by_option (Some kind) e = told_from is_main main_word_of w (main_fields kind w) m e

pub main_words : AreInverse IsMain main_word_of main_of
main_words = inverse_from IsMain main_word_of main_of main_of_word word_of_main

-- a main word has no bits from 61 on
pub main_word_below : (m : MainWord) → IsMain m → main_word_of m < 2 ^ 61
main_word_below m h =
    let ranges = main_ranges m.kind m.stop m.report m.execd m.image m.pending m.status h in
    omega (arith, kind_below m.kind, bit_below m.execd)
