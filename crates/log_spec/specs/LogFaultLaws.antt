-- A text has at most one fault, and a text of view `events` has none.
use Rattle.std.specs.Prelude.{◌≡◌, ℕ, ◌+◌, ◌<◌, true, List, [], ◌∷◌, ◌++◌, length}
use Rattle.std.specs.List.{list_all}
use Rattle.std.proofs.Common.{refl, arith, sym, ap, ◌∙◌, append_assoc, inl, inr}
use Rattle.std.proofs.lemmas.Bool.{cases_order}
use Rattle.std.proofs.lemmas.List.{append_cancel_left}
use Rattle.script_spec.specs.declared.script.Script.{Script}
use Rattle.log_spec.specs.Texts.{line}
use Rattle.log_spec.specs.EventsText.{IsLogFault, lines_text, is_one_line}
use Rattle.log_spec.specs.EventsRead.{lines_in}
use Rattle.log_spec.specs.EventsReadLaws.{parts}
use Rattle.log_spec.specs.LineLaws.{line_is_parted}

-- of two partings of the same bytes into whole lines and a rest, the one with more lines goes on where the other ends
record GoesOn (lines others : List (List ℕ)) (rest other_rest : List ℕ) : Type 0 where
  next : List ℕ
  more : List (List ℕ)
  one : is_one_line next ≡ true
  rest_is : rest ≡ line next ++ (lines_text more ++ other_rest)
  others_are : lines_text others ≡ (lines_text lines ++ line next) ++ lines_text more

with_front : (a b front whole next more : List ℕ) → a ≡ b → whole ≡ (front ++ next) ++ more
    → line b ++ whole ≡ ((line a ++ front) ++ next) ++ more
with_front a b front whole next more same parted =
    let regrouped : ((line a ++ front) ++ next) ++ more ≡ line a ++ ((front ++ next) ++ more) =
    ap (λ (start : List ℕ). start ++ more) (append_assoc (line a) front next)
    ∙ append_assoc (line a) (front ++ next) more in
    cc (regrouped, same, parted)

goes_on : (lines others : List (List ℕ)) (rest other_rest : List ℕ) → list_all is_one_line lines ≡ true
    → list_all is_one_line others ≡ true → lines_text lines ++ rest ≡ lines_text others ++ other_rest
    → length lines < length others → GoesOn lines others rest other_rest
goes_on lines [] rest other_rest h k same less = absurd (omega arith)
goes_on [] (next ∷ more) rest other_rest h k same less =
    record {
      next = next;
      more = more;
      one = (parts (is_one_line next) (list_all is_one_line more) k).0;
      rest_is = same ∙ append_assoc (line next) (lines_text more) other_rest;
      others_are = refl;
    }
goes_on (a ∷ xs) (b ∷ ys) rest other_rest h k same less =
    let left = parts (is_one_line a) (list_all is_one_line xs) h in
    let right = parts (is_one_line b) (list_all is_one_line ys) k in
    let whole : line a ++ (lines_text xs ++ rest) ≡ line b ++ (lines_text ys ++ other_rest) =
    sym (append_assoc (line a) (lines_text xs) rest) ∙ (same ∙ append_assoc (line b) (lines_text ys) other_rest) in
    let parted = sym (line_is_parted a (lines_text xs ++ rest) left.0)
    ∙ (ap lines_in whole ∙ line_is_parted b (lines_text ys ++ other_rest) right.0) in
    let first : a ≡ b = cc parted in
    let behind : lines_text xs ++ rest ≡ lines_text ys ++ other_rest =
    append_cancel_left (line a) (lines_text xs ++ rest) (lines_text ys ++ other_rest) (cc (whole, first)) in
    let on = goes_on xs ys rest other_rest left.1 right.1 behind (omega arith) in
    record {
      next = on.next;
      more = on.more;
      one = on.one;
      rest_is = on.rest_is;
      others_are =
          with_front a b (lines_text xs) (lines_text ys) (line on.next) (lines_text on.more) first on.others_are;
    }

-- where one fault has fewer lines before it than another, it isn't a fault
not_before : (script : Script) (bytes : List ℕ) (number other : ℕ) (h : IsLogFault script bytes number)
    (k : IsLogFault script bytes other) → length h.lines < length k.lines → ⊥
not_before script bytes number other h k less =
    let on = goes_on h.lines k.lines h.rest k.rest h.whole k.whole (sym h.parts ∙ k.parts) less in
    let begun = k.begins in
    let same : lines_text k.lines ++ begun.more ≡
    (lines_text h.lines ++ line on.next) ++ (lines_text on.more ++ begun.more) =
    ap (λ (text : List ℕ). text ++ begun.more) on.others_are
    ∙ append_assoc (lines_text h.lines ++ line on.next) (lines_text on.more) begun.more in
    h.stops on.next (lines_text on.more ++ k.rest) on.one on.rest_is
    (record {
      more = lines_text on.more ++ begun.more;
      events = begun.events;
      is_text = record { end = begun.is_text.end; text = sym same ∙ begun.is_text.text; within = begun.is_text.within };
    })

-- A text has at most one fault.
pub one_fault : (script : Script) (bytes : List ℕ) (number other : ℕ) → IsLogFault script bytes number
    → IsLogFault script bytes other → number ≡ other
one_fault script bytes number other h k = elim (cases_order (length h.lines) (length k.lines)) [
  | inl same ↦ h.place ∙ (ap (λ (n : ℕ). n + 1) same ∙ sym k.place)
  | inr (inl less) ↦ absurd (not_before script bytes number other h k less)
  | inr (inr more) ↦ absurd (not_before script bytes other number k h more)
]
