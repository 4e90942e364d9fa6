-- The first fault of a text, line by line from its front.
use Rattle.std.proofs.Common.{◌≡◌, ℕ, suc, Bool, true, false, ◌||◌, nat_lt, List, [], ◌∷◌, length}
use Rattle.std.proofs.Common.{Option, Some, None, refl, sym, ap, ◌∙◌, inl, inr}
use Rattle.std.specs.Prelude.{option_map, if◌then◌else◌}
use Rattle.std.proofs.lemmas.Bool.{cases_Bool}
use Rattle.script_spec.specs.declared.fault.Kind.{Kind}
use Rattle.script_spec.specs.declared.fault.Kind.TheVariants.{Target}
use Rattle.script_spec.specs.declared.fault.Sort.{Sort}
use Rattle.script_spec.specs.declared.fault.Sort.TheVariants as sort
use Rattle.script_spec.specs.Lines.{Line, lines_of, words_of, is_skipped}
use Rattle.script_spec.specs.FirstWords.{sort_of, sort_of_words}
use Rattle.script_spec.specs.Places.{has_sort, is_sort, place_fault, end_fault}
use Rattle.script_spec.specs.LineFaults.{bytes_fault, words_fault, line_fault}
use Rattle.script_spec.specs.FirstFault.{Judged, judge, judged, and_line, place_of, fault_of}
use Rattle.script_spec.specs.Front.{words_read, past_end, is_ending, and_read, is_open}
use Rattle.script_spec.specs.Front.{is_open_after, following_fault, rest_fault}
use Rattle.script_spec.specs.FrontSteps.{end_alone, past_step, faulty_step, faultless, skipped_step, instruction_step}
use Rattle.script_spec.specs.FrontSteps.{program_step, schedule_step, other_step, is_in_or_after, before_instruction}
use Rattle.script_spec.specs.FrontSteps.{before_other}
use Rattle.script_spec.specs.LineFaultLaws.{least-none, header_sort, begins, begun_sort}

-- a text that isn't too large, before its first line
pub rest-start : (text : List ℕ) → nat_lt 1048576 (length text) ≡ false
    → fault_of text ≡ rest_fault [] 1 (lines_of text)
rest-start text h = rw h refl

-- the end of a text
pub rest-end : (read : List (ℕ × List (List ℕ))) (n : ℕ)
    → rest_fault read n [] ≡ option_map (λ (kind : Kind). (n, kind)) (end_fault (words_read read))
rest-end read n = end_alone read n (end_fault (words_read read))

-- a line ends a program of which an instruction names a place past it
pub rest-past : (read : List (ℕ × List (List ℕ))) (n : ℕ) (l : Line) (ls : List Line) (m : ℕ) → is_ending l ≡ true
    → past_end read ≡ Some m → rest_fault read n (l ∷ ls) ≡ Some (m, Target)
rest-past read n l ls m h k =
    past_step read (judge (words_read read) n l) (judged (and_line (words_read read) l) (suc n) ls) m h k

-- a line with a fault
pub rest-fault : (read : List (ℕ × List (List ℕ))) (n : ℕ) (l : Line) (ls : List Line) (kind : Kind)
    → (is_ending l ≡ true → past_end read ≡ None) → line_fault (words_read read) l ≡ Some kind
    → rest_fault read n (l ∷ ls) ≡ Some (n, kind)
rest-fault read n l ls kind h k =
    faulty_step read (judge (words_read read) n l) (judged (and_line (words_read read) l) (suc n) ls) kind h k

abbrev judged_as : ℕ → Bool → Option Sort → Option Kind → Option ℕ → Judged
judged_as n b s fault place = record {
  number = n;
  sort = if b then None else s;
  fault = fault;
  place = if b then None else place;
}

as_skipped : (n : ℕ) (b : Bool) (s : Option Sort) (fault : Option Kind) (place : Option ℕ) → b ≡ true → fault ≡ None
    → judged_as n b s fault place ≡ faultless n None None
as_skipped n b s fault place h k = ap (λ (c : Bool). judged_as n c s fault place) h ∙
    ap (λ (f : Option Kind). judged_as n true s f place) k

as_kept : (n : ℕ) (b : Bool) (s : Option Sort) (fault : Option Kind) (place : Option ℕ) → b ≡ false → fault ≡ None
    → judged_as n b s fault place ≡ faultless n s place
as_kept n b s fault place h k = ap (λ (c : Bool). judged_as n c s fault place) h ∙
    ap (λ (f : Option Kind). judged_as n false s f place) k

follows_open : (last s : Sort) → place_fault last s ≡ None → is_sort sort.Instruction s ≡ true
    → is_open_after (Some last) ≡ true
follows_open last sort.Instruction h e = before_instruction last h
follows_open last sort.Header h e = absurd cc
follows_open last sort.Slots h e = absurd cc
follows_open last sort.Rows h e = absurd cc
follows_open last sort.Budget h e = absurd cc
follows_open last sort.Module h e = absurd cc
follows_open last sort.Occupy h e = absurd cc
follows_open last sort.Program h e = absurd cc
follows_open last sort.Schedule h e = absurd cc
follows_open last sort.Directive h e = absurd cc

abbrev ends_one : Option Sort → Bool
ends_one s = has_sort sort.Program s || has_sort sort.Schedule s

-- a line of a sort, after what it may follow
sort_step : (s : Sort) (read : List (ℕ × List (List ℕ))) (n : ℕ) (ws : List (List ℕ)) (place : Option ℕ)
    (js : List Judged) → place ≡ place_of ws → sort_of_words ws ≡ Some s
    → (is_sort sort.Instruction s ≡ true → is_open read ≡ true) → (is_in_or_after s ≡ false → is_open read ≡ false)
    → (ends_one (Some s) ≡ true → past_end read ≡ None)
    → following_fault read (faultless n (Some s) place ∷ js) ≡ following_fault ((n, ws) ∷ read) js
sort_step sort.Instruction read n ws place js p h i o e =
    ap (λ (q : Option ℕ). following_fault read (faultless n (Some sort.Instruction) q ∷ js)) p
    ∙ instruction_step read n ws js h (i refl)
sort_step sort.Program read n ws place js p h i o e = program_step read n ws place js h (e refl)
sort_step sort.Schedule read n ws place js p h i o e = schedule_step read n ws place js h (e refl)
sort_step sort.Header read n ws place js p h i o e = other_step read n sort.Header ws place js h refl (o refl)
sort_step sort.Slots read n ws place js p h i o e = other_step read n sort.Slots ws place js h refl (o refl)
sort_step sort.Rows read n ws place js p h i o e = other_step read n sort.Rows ws place js h refl (o refl)
sort_step sort.Budget read n ws place js p h i o e = other_step read n sort.Budget ws place js h refl (o refl)
sort_step sort.Module read n ws place js p h i o e = other_step read n sort.Module ws place js h refl (o refl)
sort_step sort.Occupy read n ws place js p h i o e = other_step read n sort.Occupy ws place js h refl (o refl)
sort_step sort.Directive read n ws place js p h i o e = other_step read n sort.Directive ws place js h refl (o refl)

kept_step : (read : List (ℕ × List (List ℕ))) (n : ℕ) (ws : List (List ℕ)) (js : List Judged)
    → words_fault (words_read read) ws ≡ None → (ends_one (sort_of_words ws) ≡ true → past_end read ≡ None)
    → following_fault read (faultless n (sort_of_words ws) (place_of ws) ∷ js) ≡ following_fault ((n, ws) ∷ read) js
kept_step [] n ws js h k =
    let s = header_sort ws h in
    ap (λ (s : Option Sort). following_fault [] (faultless n s (place_of ws) ∷ js)) s
    ∙ sort_step sort.Header [] n ws (place_of ws) js refl s (λ e. absurd cc) (λ e. refl) (λ e. absurd cc)
kept_step (r ∷ read) n ws js h k =
    let b = begins r.1 (words_read read) ws h in
    let s = begun_sort b in
    let this : Sort = sort_of b.word in
    ap (λ (s : Option Sort). following_fault (r ∷ read) (faultless n s (place_of ws) ∷ js)) s
    ∙ sort_step this (r ∷ read) n ws (place_of ws) js refl s
    (λ e. rw b.after (follows_open b.last this b.follows e))
    (λ e. rw b.after (before_other b.last this b.follows e)) (λ e. k (rw s e))

-- a line without a fault
next_line : (read : List (ℕ × List (List ℕ))) (n : ℕ) (l : Line) (js : List Judged)
    → (is_ending l ≡ true → past_end read ≡ None) → line_fault (words_read read) l ≡ None
    → following_fault read (judge (words_read read) n l ∷ js) ≡ following_fault (and_read read n l) js
next_line read n l js h k =
    let ws = words_of l.bytes in
    elim (cases_Bool (is_skipped l.bytes)) [
      | inl t ↦
          ap (λ (j : Judged). following_fault read (j ∷ js))
          (as_skipped n (is_skipped l.bytes) (sort_of_words ws) (line_fault (words_read read) l) (place_of ws) t k)
          ∙ skipped_step read n js ∙ rw t refl
      | inr t ↦
          let f : words_fault (words_read read) ws ≡ None =
          rw t at
          (least-none (bytes_fault l) (if is_skipped l.bytes then None else words_fault (words_read read) ws) k).1 in
          ap (λ (j : Judged). following_fault read (j ∷ js))
          (as_kept n (is_skipped l.bytes) (sort_of_words ws) (line_fault (words_read read) l) (place_of ws) t k)
          ∙ kept_step read n ws js f (λ e. h (rw t e)) ∙ rw t refl
    ]

words_read-line : (b : Bool) (read : List (ℕ × List (List ℕ))) (n : ℕ) (ws : List (List ℕ))
    → words_read (if b then read else (n, ws) ∷ read) ≡ (if b then words_read read else ws ∷ words_read read)
words_read-line true read n ws = refl
words_read-line false read n ws = refl

pub rest-next : (read : List (ℕ × List (List ℕ))) (n : ℕ) (l : Line) (ls : List Line)
    → (is_ending l ≡ true → past_end read ≡ None) → line_fault (words_read read) l ≡ None
    → rest_fault read n (l ∷ ls) ≡ rest_fault (and_read read n l) (suc n) ls
rest-next read n l ls h k =
    next_line read n l (judged (and_line (words_read read) l) (suc n) ls) h k
    ∙ ap (λ (before : List (List (List ℕ))). following_fault (and_read read n l) (judged before (suc n) ls))
    (sym (words_read-line (is_skipped l.bytes) read n (words_of l.bytes)))
