-- The script of a text, or its first fault.
use Rattle.std.proofs.Common.{◌≡◌, ℕ, suc, ◌≤◌, Bool, true, false, ◌&&◌, not, nat_eq, nat_le, nat_lt, List, []}
use Rattle.std.proofs.Common.{◌∷◌, ◌++◌, map, length, Option, Some, None, refl, sym, ap, ◌∙◌, arith, append_assoc, inl}
use Rattle.std.proofs.Common.{inr}
use Rattle.std.specs.Prelude.{if◌then◌else◌}
use Rattle.std.specs.List.{list_all}
use Rattle.std.proofs.lemmas.Bool.{and_from, le-leb, lt-ltb, le-ltb, cases_lt, cases_Bool, eqb-true}
use Rattle.std.proofs.lemmas.List.{append-nil, map-append}
use Rattle.script_spec.specs.declared.fault.Kind.{Kind}
use Rattle.script_spec.specs.declared.fault.Kind.TheVariants.{Unfinished, NotAscii, TooLong}
use Rattle.script_spec.specs.declared.fault.Sort.{Sort}
use Rattle.script_spec.specs.declared.fault.Sort.TheVariants as sort
use Rattle.script_spec.specs.declared.script.Script.{Script}
use Rattle.script_spec.specs.Faults.{least, fault_if, kind_number}
use Rattle.script_spec.specs.FirstFault.{fault_of}
use Rattle.script_spec.specs.Front.{words_read, and_read, rest_fault}
use Rattle.script_spec.specs.FrontLaws.{rest-start, rest-end}
use Rattle.script_spec.specs.Grammar.{is_plain, IsScript}
use Rattle.script_spec.specs.LineFaults.{is_printable, bytes_fault, words_fault, line_fault}
use Rattle.script_spec.specs.Lines.{Line, pieces, with_byte, lines_of, words_of, spaced, is_skipped, not_skipped}
use Rattle.script_spec.specs.Places.{end_fault, end_sort_fault}
use Rattle.script_spec.specs.Print.{script_words, module_words, occupied_words}
use Rattle.script_spec.specs.Print.{programs_lines}
use Rattle.script_spec.specs.TextLaws.{pieces_some}
use Rattle.script_spec.specs.Validity.{is_within, IsValid}
use Rattle.cyg_script.specs.After.{IsAfter, lines_read, last_sort}
use Rattle.cyg_script.specs.Judged.{fault_at, past_at, last_fault}
use Rattle.cyg_script.specs.Parts.{Parts, no_parts, stage, IsStaged}
use Rattle.cyg_script.specs.Scripts.{HasParts, IsReadTo}
use Rattle.cyg_script.specs.Written.{limit_lines, last_lines, schedule_lines, open_lines}
use Rattle.cyg_script.proofs.LineJudged.{numbered, step_free, step_fault}
use Rattle.cyg_script.proofs.Writes.{all_first, some_last}

abbrev Lines : Type 0
Lines = List (ℕ × List (List ℕ))

-- ---- the end of a text

pub end_last : (read : Lines) (o : Option Sort) → last_sort (words_read read) ≡ o → (o ≡ None → read ≡ [])
    → end_fault (words_read read) ≡ last_fault o
end_last [] None e n = refl
end_last [] (Some s) e n = absurd cc
end_last (r ∷ read) None e n = absurd (let h : ◌≡◌ {A = Lines} (r ∷ read) [] = n refl in cc)
end_last (r ∷ read) (Some s) e n = ap end_sort_fault e

-- without a fault at the end, the last line is one of the schedule
pub last_directive : (o : Option Sort) → last_fault o ≡ None → stage o ≡ 10
last_directive None e = absurd cc
last_directive (Some sort.Directive) e = refl
last_directive (Some s) e = absurd cc

-- the parts that were read up to a line of the schedule are those of a script that has these lines
pub script_read : (s : Script) (p : Parts) (read : Lines) → HasParts s p → IsStaged p → stage p.last ≡ 10
    → IsAfter read p → script_words s ≡ lines_read read
script_read s p read h r ten a =
    let words : List (List (List ℕ)) = map module_words p.modules ++ (map occupied_words p.pages
    ++ (programs_lines p.programs ++ schedule_lines p.schedule)) in
    let shut : p.heading ≡ None = (r.read.ended (omega (arith, ten))).0 in
    let parts : script_words s ≡ limit_lines p ++ words =
    rw (h.slots, h.rows, h.budget, h.modules, h.occupied, h.programs, h.directives) refl in
    parts ∙ sym (a.written.written
    ∙ ap (λ (y : List (List (List ℕ))). y ++ (map module_words p.modules ++ (map occupied_words p.pages
    ++ (programs_lines p.programs ++ (open_lines p.heading a.written.open_code ++ last_lines p.last p.schedule)))))
    (all_first p.last p (omega (arith, ten)))
    ∙ ap (λ (y : List (List (List ℕ))). limit_lines p ++ (map module_words p.modules ++ (map occupied_words p.pages
    ++ (programs_lines p.programs ++ (open_lines p.heading a.written.open_code ++ y)))))
    (some_last p.last p.schedule (omega (arith, ten)))
    ∙ ap (λ o. limit_lines p ++ (map module_words p.modules ++ (map occupied_words p.pages
    ++ (programs_lines p.programs ++ (open_lines o a.written.open_code ++ schedule_lines p.schedule))))) shut)

within : (low n high : ℕ) → low ≤ n → n ≤ high → is_within low high n ≡ true
within low n high h k = and_from (nat_le low n) (nat_le n high) (le-leb low n h) (le-leb n high k)

pub script_valid : (s : Script) (p : Parts) (read : Lines) → HasParts s p → IsStaged p → stage p.last ≡ 10
    → IsAfter read p → IsValid s
script_valid s p read h r ten a = record {
  limits = rw (h.slots, h.rows, h.budget) (and_from (is_within 1 64 p.slots && is_within 1 4000 p.rows)
      (is_within 1 500000 p.budget)
      (and_from (is_within 1 64 p.slots) (is_within 1 4000 p.rows)
      (within 1 p.slots 64 r.read.slots.0 r.read.slots.1) (within 1 p.rows 4000 r.read.rows.0 r.read.rows.1))
      (within 1 p.budget 500000 r.read.budget.0 r.read.budget.1));
  few_modules = rw h.modules r.read.few_modules;
  modules = rw h.modules a.sound.modules;
  module_names = rw h.modules r.read.module_names;
  few_pages = rw h.occupied r.read.few_pages;
  pages = rw h.occupied a.sound.pages;
  number_of_programs = rw h.programs (within 1 (length p.programs) 32 (r.read.ended (omega (arith, ten))).1
      r.read.few_programs);
  programs = rw h.programs a.sound.programs;
  program_names = rw h.programs r.read.program_names;
  number_of_lines = rw h.directives (within 1 (length p.schedule) 10000 (r.read.some_lines ten) r.read.few_lines);
  lines = rw (h.slots, h.directives) a.sound.lines;
}

-- ---- a line that has no fault

joined : (b : ℕ) (ps : List (List ℕ)) → spaced (with_byte b ps) ≡ b ∷ spaced ps
joined b [] = refl
joined b (p ∷ []) = refl
joined b (p ∷ q ∷ ps) = refl

parted : (ps : List (List ℕ)) → (ps ≡ [] → ⊥) → spaced ([] ∷ ps) ≡ 32 ∷ spaced ps
parted [] h = absurd (h refl)
parted (p ∷ ps) h = refl

-- the words of a line spell it
spaced_words : (bs : List ℕ) → spaced (words_of bs) ≡ bs
spaced_words [] = refl
spaced_words (b ∷ bs) =
    elim (cases_Bool (nat_eq b 32)) [
      | inl t ↦
          let e : b ≡ 32 = eqb-true b 32 t in
          rw t (parted (pieces 32 bs) (pieces_some 32 bs) ∙ ap (λ (r : List ℕ). 32 ∷ r) (spaced_words bs)
          ∙ ap (λ (n : ℕ). n ∷ bs) (sym e))
      | inr t ↦ rw t (joined b (pieces 32 bs) ∙ ap (λ (r : List ℕ). b ∷ r) (spaced_words bs))
    ]

plain_by : (a b c : Bool) → (if not a then Some Unfinished else (if not b then Some NotAscii else fault_if c TooLong))
    ≡ None → (a ≡ true) × (b ≡ true) × (c ≡ false)
plain_by true true false h = (refl, refl, refl)
plain_by true true true h = absurd cc
plain_by true false c h = absurd cc
plain_by false b c h = absurd cc

not_none : (b : Bool) (k j : Kind) → (if b then Some k else Some j) ≡ None → ⊥
not_none true k j h = cc
not_none false k j h = cc

least_left : (x y : Option Kind) → least x y ≡ None → x ≡ None
least_left None y h = refl
least_left (Some k) None h = absurd cc
least_left (Some k) (Some j) h = absurd (not_none (nat_le (kind_number k) (kind_number j)) k j h)

short : (n : ℕ) → nat_lt 200 n ≡ false → nat_le n 200 ≡ true
short n h =
    elim (cases_lt 200 n) [
      | inl less ↦ absurd (let f : true ≡ false = sym (lt-ltb 200 n less) ∙ h in cc)
      | inr more ↦ le-leb n 200 more
    ]

line_plain : (before : List (List (List ℕ))) (l : Line) → line_fault before l ≡ None → is_plain l ≡ true
line_plain before l h =
    let f = plain_by l.is_ended (list_all is_printable l.bytes) (nat_lt 200 (length l.bytes))
    (least_left (bytes_fault l) (if is_skipped l.bytes then None else words_fault before (words_of l.bytes)) h) in
    rw (f.0, f.1, short (length l.bytes) f.2) refl

-- ---- how far a text was read

pub read_nothing : (text : List ℕ) → length text ≤ 1048576 → IsReadTo text [] 1 text no_parts
read_nothing text h = record {
  after = record {
    counted = record {
      last = refl;
      first = λ e. refl;
      slots = λ k. absurd (omega (arith, k));
      modules = refl;
      module_names = λ name. refl;
      pages = refl;
      programs = refl;
      program_names = λ name. refl;
      code = λ g e. absurd cc;
      past = λ g e. absurd cc;
      schedule = refl;
    };
    written = record { open_code = []; written = refl; code = tt };
    sound = record {
      modules = refl;
      pages = refl;
      programs = refl;
      heading = λ g e. absurd cc;
      code = refl;
      lines = refl;
    };
  };
  fault = rest-start text (le-ltb 1048576 (length text) h);
  plain = refl;
  shown = refl;
}

shown_more : (lines rest : List (List ℕ)) (read : Lines) (n : ℕ) (l : Line) (b : Bool)
    → is_skipped l.bytes ≡ b → lines ≡ map spaced (lines_read read) ++ (if b then rest else l.bytes ∷ rest)
    → lines ≡ map spaced (lines_read (if b then read else ((n, words_of l.bytes) ∷ read))) ++ rest
shown_more lines rest read n l true s h = h
shown_more lines rest read n l false s h =
    h ∙ ap (λ (w : List ℕ). map spaced (lines_read read) ++ w ∷ rest) (sym (spaced_words l.bytes))
    ∙ sym (ap (λ (y : List (List ℕ)). y ++ rest) (map-append spaced (lines_read read) (words_of l.bytes ∷ []))
    ∙ append_assoc (map spaced (lines_read read)) (spaced (words_of l.bytes) ∷ []) rest)

pub read_more : (text rest after : List ℕ) (read : Lines) (n m : ℕ) (l : Line) (p q : Parts) → m ≡ suc n
    → IsReadTo text read n rest p → lines_of rest ≡ l ∷ lines_of after
    → fault_at n (past_at read l) (line_fault (words_read read) l) ≡ None → IsAfter (and_read read n l) q
    → IsReadTo text (and_read read n l) m after q
read_more text rest after read n m l p q next r e f a =
    let s = step_free read n l (lines_of after) f in
    rw next record {
      after = a;
      fault = r.fault ∙ ap (λ (ls : List Line). rest_fault read n ls) e ∙ s.0;
      plain = r.plain ∙ ap (list_all is_plain) e ∙ ap (λ (b : Bool). b && list_all is_plain (lines_of after))
          (line_plain (words_read read) l s.1);
      shown = shown_more (not_skipped (lines_of text)) (not_skipped (lines_of after)) read n l (is_skipped l.bytes)
          refl (r.shown ∙ ap (λ (ls : List Line). map spaced (lines_read read) ++ not_skipped ls) e);
    }

-- the fault of a line is the text's
pub fault_more : (text rest after : List ℕ) (read : Lines) (n : ℕ) (l : Line) (p : Parts) (x : ℕ × Kind)
    → IsReadTo text read n rest p → lines_of rest ≡ l ∷ lines_of after
    → fault_at n (past_at read l) (line_fault (words_read read) l) ≡ Some x → fault_of text ≡ Some x
fault_more text rest after read n l p x r e f =
    r.fault ∙ ap (λ (ls : List Line). rest_fault read n ls) e ∙ step_fault read n l (lines_of after) x f

-- at the end of the text
pub fault_last : (text rest : List ℕ) (read : Lines) (n : ℕ) (p : Parts) → IsReadTo text read n rest p → rest ≡ []
    → fault_of text ≡ numbered n (end_fault (words_read read))
fault_last text rest read n p r e =
    r.fault ∙ ap (λ (t : List ℕ). rest_fault read n (lines_of t)) e ∙ rest-end read n

pub script_last : (text rest : List ℕ) (read : Lines) (n : ℕ) (p : Parts) (s : Script) → IsReadTo text read n rest p
    → rest ≡ [] → length text ≤ 1048576 → script_words s ≡ lines_read read → IsValid s → IsScript text s
script_last text rest read n p s r e size words valid = record {
  size = size;
  plain = r.plain ∙ ap (λ (t : List ℕ). list_all is_plain (lines_of t)) e;
  written = r.shown ∙ ap (λ (t : List ℕ). map spaced (lines_read read) ++ not_skipped (lines_of t)) e
      ∙ append-nil (map spaced (lines_read read)) ∙ ap (map spaced) (sym words);
  valid = valid;
}
