-- The lines of a process, as entries are added.
use Rattle.std.proofs.Common.{◌≡◌, ◌≢◌, ℕ, ◌+◌, ◌<◌, ◌≤◌, List, [], ◌∷◌, ◌++◌, length, take, get_or, Option, Some, None}
use Rattle.std.proofs.Common.{Bool, true, false, ◌&&◌, nat_eq, sym, ◌∙◌, ap, refl, arith, append-nil}
use Rattle.std.specs.Prelude.{if◌then◌else◌}
use Rattle.std.proofs.lemmas.Grind.{flat_map-append}
use Rattle.std.proofs.lemmas.List.{take_more}
use Rattle.std.proofs.lemmas.Bool.{eqb-true, eq-eqb}
use Rattle.w32_base.specs.declared.event.Event.{Event}
use Rattle.w32_base.specs.declared.entry.Entry.{Entry}
use Rattle.log_spec.specs.Texts.{line}
use Rattle.log_spec.specs.Events.{event_text, actor_of}
use Rattle.log_spec.specs.Views.{is_call_event, call_lines_of, events_of}
use Rattle.log_text.specs.Callers.{caller, line_by, lines_by, IsNext}

-- one entry more
pub entry_more : (entries : List Entry) (i : ℕ) (e : Entry) → i < length entries → e ≡ get_or entries i e
    → take (i + 1) entries ≡ take i entries ++ e ∷ []
entry_more entries i e h is = take_more entries i e h ∙ ap (λ (x : Entry). take i entries ++ x ∷ []) (sym is)

pub lines_by-append : (p : ℕ) (xs ys : List Entry) → lines_by p (xs ++ ys) ≡ lines_by p xs ++ lines_by p ys
unfolding lines_by
lines_by-append p xs ys = flat_map-append (λ (e : Entry). line_by p e.event) xs ys

pub lines_by-more : (p : ℕ) (xs : List Entry) (e : Entry)
    → lines_by p (xs ++ e ∷ []) ≡ lines_by p xs ++ line_by p e.event
unfolding lines_by
lines_by-more p xs e =
    lines_by-append p xs (e ∷ []) ∙ ap (λ (l : List ℕ). lines_by p xs ++ l) (append-nil (line_by p e.event))

-- the lines of a process are those that the view gives it
line_first : (p : ℕ) (o : Option Event) (directive : Entry) (entries : List Entry) → directive.event ≡ o
    → call_lines_of p (events_of (directive ∷ entries)) ≡ line_by p o ++ call_lines_of p (events_of entries)
line_first p None e entries is = rw is refl
line_first p (Some f) e entries is = rw is refl

pub lines_by_is : (p : ℕ) (entries : List Entry) → lines_by p entries ≡ call_lines_of p (events_of entries)
unfolding lines_by
lines_by_is p [] = refl
lines_by_is p (e ∷ entries) =
    ap (λ (l : List ℕ). line_by p e.event ++ l) (lines_by_is p entries) ∙ sym (line_first p e.event e entries refl)

-- a line is given to the process that acts, and to no other
given_to : (b : Bool) (a p : ℕ) (t : List ℕ) → (if b then Some a else None) ≡ Some p
    → (if b && nat_eq a p then t else []) ≡ t
given_to true a p t is = let same : a ≡ p = cc in rw (eq-eqb a p same) refl
given_to false a p t is = cc

not_at : (c : Bool) (a p : ℕ) (t : List ℕ) → nat_eq a p ≡ c → (a ≢ p) → (if c then t else []) ≡ []
not_at true a p t is ne = absurd (ne (eqb-true a p is))
not_at false a p t is ne = refl

not_given : (b : Bool) (a p : ℕ) (t : List ℕ) → ((if b then Some a else None) ≢ Some p)
    → (if b && nat_eq a p then t else []) ≡ []
not_given true a p t ne = not_at (nat_eq a p) a p t refl (λ same. ne (ap (λ (n : ℕ). Some n) same))
not_given false a p t ne = refl

pub no_line : (p : ℕ) (o : Option Event) → (caller o ≢ Some p) → line_by p o ≡ []
no_line p None ne = refl
no_line p (Some e) ne = not_given (is_call_event e) (actor_of e) p (line (event_text e)) ne

pub own_line : (p : ℕ) (o : Option Event) (e : Event) → o ≡ Some e → caller o ≡ Some p
    → line_by p o ≡ line (event_text e)
own_line p o e is acts =
    ap (line_by p) is
    ∙ given_to (is_call_event e) (actor_of e) p (line (event_text e)) (sym (ap caller is) ∙ acts)

not_nil : (xs : List ℕ) → (xs ++ 10 ∷ [] ≢ [])
not_nil [] h = cc
not_nil (x ∷ xs) h = cc

pub has_line : (p : ℕ) (o : Option Event) → caller o ≡ Some p → line_by p o ≢ []
has_line p None is = cc
has_line p (Some e) is = λ none.
    not_nil (event_text e) (sym (own_line p (Some e) e refl is) ∙ none)

append_not_nil : (xs ys : List ℕ) → (xs ≢ []) → xs ++ ys ≢ []
append_not_nil [] ys ne = λ h. ne refl
append_not_nil (x ∷ xs) ys ne = λ h. cc

append_last_not_nil : (xs ys : List ℕ) → (ys ≢ []) → xs ++ ys ≢ []
append_last_not_nil [] ys ne = ne
append_last_not_nil (x ∷ xs) ys ne = λ h. cc

-- the next process, where no entry was looked at
pub IsNext-none : (least : ℕ) → least ≤ 4002 → IsNext least 4002 []
unfolding lines_by
IsNext-none least h = record {
  from = h;
  range = omega arith;
  first = λ p _ _. refl;
  has_lines = λ less _. omega (arith, less);
}

-- it stays where an entry gives no line to a process before it
pub IsNext-stays : (least next : ℕ) (xs ys : List Entry) (e : Entry) → ys ≡ xs ++ e ∷ [] → IsNext least next xs
    → ((p : ℕ) → least ≤ p → p < next → caller e.event ≢ Some p) → IsNext least next ys
IsNext-stays least next xs ys e is so_far other = record {
  from = so_far.from;
  range = so_far.range;
  first = λ p low high.
      ap (lines_by p) is ∙ lines_by-more p xs e
      ∙ ap (λ (l : List ℕ). l ++ line_by p e.event) (so_far.first p low high)
      ∙ no_line p e.event (other p low high);
  has_lines = λ less none.
      append_not_nil (lines_by next xs) (line_by next e.event) (so_far.has_lines less)
      (sym (ap (lines_by next) is ∙ lines_by-more next xs e) ∙ none);
}

-- and is the process that acts in an entry, where that one is nearer
pub IsNext-nearer : (least next number : ℕ) (xs ys : List Entry) (e : Entry) → ys ≡ xs ++ e ∷ []
    → IsNext least next xs → caller e.event ≡ Some number → least ≤ number → number < next → IsNext least number ys
IsNext-nearer least next number xs ys e is so_far acts low_end nearer = record {
  from = low_end;
  range = omega (arith, so_far.range);
  first = λ p low high.
      ap (lines_by p) is ∙ lines_by-more p xs e
      ∙ ap (λ (l : List ℕ). l ++ line_by p e.event) (so_far.first p low (omega arith))
      ∙ no_line p e.event (λ at. let same : number ≡ p = cc in omega arith);
  has_lines = λ less none.
      append_last_not_nil (lines_by number xs) (line_by number e.event) (has_line number e.event acts)
      (sym (ap (lines_by number) is ∙ lines_by-more number xs e) ∙ none);
}
