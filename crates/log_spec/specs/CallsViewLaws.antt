-- In view `calls` the groups together have as many bytes as the lines of all events of the view, and the line of each
-- of these events stands in them.
use Rattle.std.specs.Prelude.{◌≡◌, ℕ, zero, suc, ◌+◌, ◌<◌, Bool, true, false, ◌&&◌, ◌||◌, nat_eq, nat_lt, if◌then◌else◌}
use Rattle.std.specs.Prelude.{List, [], ◌∷◌, ◌++◌, length, flat_map}
use Rattle.std.specs.List.{filter, list_all}
use Rattle.std.proofs.Common.{refl, arith, sym, ap, ◌∙◌, append_assoc, length-append, inl, inr}
use Rattle.std.proofs.lemmas.Bool.{cases_order}
use Rattle.std.proofs.lemmas.Grind.{flat_map-append}
use Rattle.std.proofs.lemmas.Bool.Decides.{nat_tests}
use Rattle.w32_base.specs.declared.event.Event.{Event}
use Rattle.log_spec.specs.Texts.{line}
use Rattle.script_spec.specs.declared.script.Script.{Script}
use Rattle.log_spec.specs.Words.{Word, Plain, Actor, Host, Numeral, ProgramName, ModuleName, KeyByte, Bytes, is_actor}
use Rattle.log_spec.specs.Words.{is_numeral, is_byte, is_word_within}
use Rattle.log_spec.specs.Events.{words_of, event_text, first_number, actor_of, is_event_within}
use Rattle.log_spec.specs.EventsReadLaws.{parts}
use Rattle.log_spec.specs.Views.{is_call_event, call_line, call_lines_of, call_lines_below, event_lines}

-- the line of an event of the view whose first number is below n
abbrev line_below : ℕ → Event → List ℕ
line_below n e = if is_call_event e && nat_lt (actor_of e) n then line (event_text e) else []

-- of two tests of which at most one holds, and a third that holds where one of them does
sizes_by : (either one other : Bool) (text : List ℕ) → either ≡ (one || other) → (one && other) ≡ false
    → length (if either then text else []) ≡ length (if one then text else []) + length (if other then text else [])
sizes_by either true true text h k = absurd (grind arith)
sizes_by true true false text h k = omega arith
sizes_by false true false text h k = absurd (grind arith)
sizes_by true false true text h k = omega arith
sizes_by false false true text h k = absurd (grind arith)
sizes_by true false false text h k = absurd (grind arith)
sizes_by false false false text h k = omega arith

line_sizes : (call : Bool) (a n : ℕ) (text : List ℕ)
    → length (if call && nat_lt a (suc n) then text else [])
    ≡ length (if call && nat_lt a n then text else []) + length (if call && nat_eq a n then text else [])
line_sizes false a n text = omega arith
line_sizes true a n text =
    sizes_by (nat_lt a (suc n)) (nat_lt a n) (nat_eq a n) text (grind (arith, nat_tests)) (grind (arith, nat_tests))

group_sizes : (n : ℕ) (events : List Event)
    → length (flat_map (line_below (suc n)) events)
    ≡ length (flat_map (line_below n) events) + length (call_lines_of n events)
group_sizes n [] = omega arith
group_sizes n (e ∷ events) =
    let one = line_sizes (is_call_event e) (actor_of e) n (line (event_text e)) in
    let rest = group_sizes n events in
    let whole = length-append (line_below (suc n) e) (flat_map (line_below (suc n)) events) in
    let below = length-append (line_below n e) (flat_map (line_below n) events) in
    let group = length-append (call_line n e) (call_lines_of n events) in
    omega arith

no_line : (call : Bool) (a : ℕ) (text : List ℕ) → length (if call && nat_lt a 0 then text else []) ≡ 0
no_line false a text = refl
no_line true a text =
    let none : nat_lt a 0 ≡ false = grind (arith, nat_tests) in ap (λ (t : Bool). length (if t then text else [])) none

none_below : (events : List Event) → length (flat_map (line_below 0) events) ≡ 0
none_below [] = refl
none_below (e ∷ events) =
    let whole = length-append (line_below 0 e) (flat_map (line_below 0) events) in
    let first = no_line (is_call_event e) (actor_of e) (line (event_text e)) in
    let rest = none_below events in
    omega arith

groups_below : (n : ℕ) (events : List Event)
    → length (call_lines_below n events) ≡ length (flat_map (line_below n) events)
groups_below zero events = sym (none_below events)
groups_below (suc n) events =
    let before = groups_below n events in
    let group = group_sizes n events in
    let both = length-append (call_lines_below n events) (call_lines_of n events) in
    omega arith

-- the first number of an event in its range is at most 4001
first_number_small : (script : Script) (words : List Word) → list_all (is_word_within script) words ≡ true
    → nat_lt (first_number words) 4002 ≡ true
first_number_small script [] h = refl
first_number_small script (Actor number ∷ words) h =
    let is = (parts (is_actor number) _ h).0 in grind (arith, nat_tests)
first_number_small script (Host number ∷ words) h =
    let is = (parts (nat_eq number 0) _ h).0 in grind (arith, nat_tests)
first_number_small script (Plain text ∷ words) h = first_number_small script words h
first_number_small script (Numeral number ∷ words) h = first_number_small script words (parts (is_numeral number) _ h).1
first_number_small script (ProgramName name ∷ words) h =
    first_number_small script words (parts (is_word_within script (ProgramName name)) _ h).1
first_number_small script (ModuleName name ∷ words) h =
    first_number_small script words (parts (is_word_within script (ModuleName name)) _ h).1
first_number_small script (KeyByte byte ∷ words) h = first_number_small script words (parts (is_byte byte) _ h).1
first_number_small script (Bytes bytes ∷ words) h =
    first_number_small script words (parts (is_word_within script (Bytes bytes)) _ h).1

lines_of_view : (script : Script) (events : List Event) → list_all (is_event_within script) events ≡ true
    → flat_map (line_below 4002) events ≡ event_lines (filter is_call_event events)
lines_of_view script [] h = refl
lines_of_view script (e ∷ events) h =
    let two = parts (is_event_within script e) (list_all (is_event_within script) events) h in
    by_test (is_call_event e) refl (first_number_small script (words_of e) two.0) (lines_of_view script events two.1)
  where
    by_test : (t : Bool) → is_call_event e ≡ t → nat_lt (actor_of e) 4002 ≡ true
        → flat_map (line_below 4002) events ≡ event_lines (filter is_call_event events)
        → flat_map (line_below 4002) (e ∷ events) ≡ event_lines (filter is_call_event (e ∷ events))
    by_test true is small rest = rw (is, small, rest) refl
    by_test false is small rest = rw (is, rest) refl

-- The groups have as many bytes as the lines of the view's events.
pub groups_have_all : (script : Script) (events : List Event) → list_all (is_event_within script) events ≡ true
    → length (call_lines_below 4002 events) ≡ length (event_lines (filter is_call_event events))
groups_have_all script events h = groups_below 4002 events ∙ ap length (lines_of_view script events h)

-- the part stands in the text
pub record StandsIn (text part : List ℕ) : Type 0 where
  pub before : List ℕ
  pub after : List ℕ
  pub whole : text ≡ before ++ (part ++ after)

in_group : (p : ℕ) (first rest : List Event) (e : Event) → is_call_event e ≡ true → actor_of e ≡ p
    → StandsIn (call_lines_of p (first ++ e ∷ rest)) (line (event_text e))
in_group p first rest e is same = record {
  before = call_lines_of p first;
  after = call_lines_of p rest;
  whole = flat_map-append (call_line p) first (e ∷ rest)
      ∙ ap (λ (own : List ℕ). call_lines_of p first ++ (own ++ call_lines_of p rest)) own_line;
}
  where
    own_line : call_line p e ≡ line (event_text e)
    own_line = let equal : nat_eq (actor_of e) p ≡ true = grind (arith, nat_tests) in rw (is, equal) refl

regrouped : (w x y z : List ℕ) → (w ++ (x ++ y)) ++ z ≡ w ++ (x ++ (y ++ z))
regrouped w x y z = append_assoc w (x ++ y) z ∙ ap (λ (more : List ℕ). w ++ more) (append_assoc x y z)

-- The line of each event of the view stands in the groups.
pub each_line_stands : (n : ℕ) (first rest : List Event) (e : Event) → is_call_event e ≡ true → actor_of e < n
    → StandsIn (call_lines_below n (first ++ e ∷ rest)) (line (event_text e))
each_line_stands zero first rest e is small = absurd (omega arith)
each_line_stands (suc n) first rest e is small = elim (cases_order (actor_of e) n) [
  | inl same ↦
      let own = in_group n first rest e is same in
      record {
        before = call_lines_below n (first ++ e ∷ rest) ++ own.before;
        after = own.after;
        whole = ap (λ (group : List ℕ). call_lines_below n (first ++ e ∷ rest) ++ group) own.whole
            ∙ sym (append_assoc (call_lines_below n (first ++ e ∷ rest)) own.before (line (event_text e) ++ own.after));
      }
  | inr (inl less) ↦
      let below = each_line_stands n first rest e is less in
      record {
        before = below.before;
        after = below.after ++ call_lines_of n (first ++ e ∷ rest);
        whole = ap (λ (groups : List ℕ). groups ++ call_lines_of n (first ++ e ∷ rest)) below.whole
            ∙ regrouped below.before (line (event_text e)) below.after (call_lines_of n (first ++ e ∷ rest));
      }
  | inr (inr more) ↦ absurd (omega arith)
]
