-- The fault of a line, and of the program that it ends.
use Rattle.std.proofs.Common.{◌≡◌, ℕ, suc, Bool, true, false, ◌||◌, List, ◌∷◌, Option, Some, None, refl, sym, ap, ◌∙◌}
use Rattle.std.specs.Prelude.{option_map, Result, Ok, Err, if◌then◌else◌}
use Rattle.std.specs.Result.{IsErrAnd}
use Rattle.script_spec.specs.declared.fault.FirstWord.{FirstWord}
use Rattle.script_spec.specs.declared.fault.FirstWord.TheVariants as first
use Rattle.script_spec.specs.declared.fault.Kind.{Kind}
use Rattle.script_spec.specs.declared.fault.Sort.{Sort}
use Rattle.script_spec.specs.declared.fault.Sort.TheVariants as sort
use Rattle.script_spec.specs.Faults.{least}
use Rattle.script_spec.specs.FirstWords.{first_word, sort_of, sort_of_words, either}
use Rattle.script_spec.specs.Front.{words_read, past_end, is_ending, and_read, rest_fault}
use Rattle.script_spec.specs.FrontLaws.{rest-past, rest-fault, rest-next}
use Rattle.script_spec.specs.LineFaults.{bytes_fault, words_fault, line_fault}
use Rattle.script_spec.specs.Lines.{Line, words_of, is_skipped}
use Rattle.script_spec.specs.Places.{has_sort}
use Rattle.cyg_script.specs.declared.error.ScriptError.{ScriptError}
use Rattle.cyg_script.specs.declared.error.ScriptError.TheVariants as error
use Rattle.cyg_script.specs.declared.reader.Stop.{Stop}
use Rattle.cyg_script.specs.declared.reader.Stop.TheVariants as stop
use Rattle.cyg_script.specs.After.{IsAfter}
use Rattle.cyg_script.specs.Judged.{Judges, Tells, target_at, fault_at, past_at, at_line}
use Rattle.cyg_script.specs.Parts.{Parts, ends_program}
use Rattle.cyg_script.proofs.Forms.{least_none}

abbrev Lines : Type 0
Lines = List (ℕ × List (List ℕ))

-- a line's own fault, with its number
abbrev pub numbered : ℕ → Option Kind → Option (ℕ × Kind)
numbered n fault = option_map (λ (kind : Kind). (n, kind)) fault

-- ---- a skipped line

ending_skipped : (b : Bool) (s : Option Sort) → b ≡ true
    → (has_sort sort.Program (if b then None else s) || has_sort sort.Schedule (if b then None else s)) ≡ false
ending_skipped b s h = rw h refl

skipped_past : (read : Lines) (line : Line) → is_skipped line.bytes ≡ true → past_at read line ≡ None
skipped_past read line h =
    let e : is_ending line ≡ false = ending_skipped (is_skipped line.bytes) (sort_of_words (words_of line.bytes)) h in
    ap (λ (t : Bool). if t then past_end read else None) e

skipped_own : (read : Lines) (line : Line) → is_skipped line.bytes ≡ true
    → line_fault (words_read read) line ≡ bytes_fault line
skipped_own read line h =
    ap (λ (t : Bool). least (bytes_fault line) (if t then None else words_fault (words_read read)
    (words_of line.bytes))) h ∙ least_none (bytes_fault line)

pub skipped_fault : (read : Lines) (n : ℕ) (line : Line) (form : Option Kind) → is_skipped line.bytes ≡ true
    → bytes_fault line ≡ form → fault_at n (past_at read line) (line_fault (words_read read) line) ≡ numbered n form
skipped_fault read n line form h f =
    ap (λ (x : Option ℕ). fault_at n x (line_fault (words_read read) line)) (skipped_past read line h)
    ∙ ap (λ (x : Option Kind). numbered n x) (skipped_own read line h ∙ f)

pub skipped_after : (read : Lines) (n : ℕ) (line : Line) (p : Parts) → is_skipped line.bytes ≡ true
    → IsAfter read p → IsAfter (and_read read n line) p
skipped_after read n line p h a =
    let e : and_read read n line ≡ read =
    ap (λ (t : Bool). if t then read else ((n, words_of line.bytes) ∷ read)) h in
    rw e a

-- ---- another line

ends_sort : (o : Option FirstWord)
    → (has_sort sort.Program (option_map sort_of o) || has_sort sort.Schedule (option_map sort_of o)) ≡ ends_program o
ends_sort None = refl
ends_sort (Some first.CygScript) = refl
ends_sort (Some first.Slots) = refl
ends_sort (Some first.Rows) = refl
ends_sort (Some first.Budget) = refl
ends_sort (Some first.Module) = refl
ends_sort (Some first.Occupy) = refl
ends_sort (Some first.Program) = refl
ends_sort (Some (first.Instr w)) = refl
ends_sort (Some first.Schedule) = refl
ends_sort (Some (first.Directive w)) = refl

ending_words : (b : Bool) (words : List (List ℕ)) (w : List ℕ) (ws : List (List ℕ)) (o : Option FirstWord) → b ≡ false
    → words ≡ w ∷ ws → o ≡ first_word w
    → (has_sort sort.Program (if b then None else sort_of_words words)
    || has_sort sort.Schedule (if b then None else sort_of_words words)) ≡ ends_program o
ending_words b words w ws o h e f = rw (h, e, ← f) (ends_sort o)

shown_past : (read : Lines) (line : Line) (w : List ℕ) (ws : List (List ℕ)) (o : Option FirstWord)
    → is_skipped line.bytes ≡ false → words_of line.bytes ≡ w ∷ ws → o ≡ first_word w
    → past_at read line ≡ (if ends_program o then past_end read else None)
shown_past read line w ws o h e f =
    let k : is_ending line ≡ ends_program o =
    ending_words (is_skipped line.bytes) (words_of line.bytes) w ws o h e f in
    ap (λ (t : Bool). if t then past_end read else None) k

shown_own : (read : Lines) (line : Line) (w : List ℕ) (ws : List (List ℕ)) → is_skipped line.bytes ≡ false
    → words_of line.bytes ≡ w ∷ ws
    → line_fault (words_read read) line ≡ least (bytes_fault line) (words_fault (words_read read) (w ∷ ws))
shown_own read line w ws h e =
    ap (λ (t : Bool). least (bytes_fault line) (if t then None else words_fault (words_read read)
    (words_of line.bytes))) h
    ∙ ap (λ (x : List (List ℕ)). least (bytes_fault line) (words_fault (words_read read) x)) e

pub shown_after : (read : Lines) (n : ℕ) (line : Line) (w : List ℕ) (ws : List (List ℕ)) (p : Parts)
    → is_skipped line.bytes ≡ false → words_of line.bytes ≡ w ∷ ws → IsAfter ((n, w ∷ ws) ∷ read) p
    → IsAfter (and_read read n line) p
shown_after read n line w ws p h e a =
    let f : and_read read n line ≡ (n, w ∷ ws) ∷ read =
    ap (λ (t : Bool). if t then read else ((n, words_of line.bytes) ∷ read)) h
    ∙ ap (λ (x : List (List ℕ)). (n, x) ∷ read) e in
    rw f a

if_none : (b : Bool) (past : Option ℕ) → (b ≡ true → past ≡ None) → (if b then past else None) ≡ None
if_none true past h = h refl
if_none false past h = refl

-- a line that ends no program past which an instruction names a place
pub shown_fault : (read : Lines) (n : ℕ) (line : Line) (w : List ℕ) (ws : List (List ℕ)) (o : Option FirstWord)
    (form : Option Kind) → is_skipped line.bytes ≡ false → words_of line.bytes ≡ w ∷ ws → o ≡ first_word w
    → form ≡ bytes_fault line → (ends_program o ≡ true → past_end read ≡ None)
    → fault_at n (past_at read line) (line_fault (words_read read) line)
    ≡ numbered n (least form (words_fault (words_read read) (w ∷ ws)))
shown_fault read n line w ws o form h e f b past =
    let none : (if ends_program o then past_end read else None) ≡ None =
    if_none (ends_program o) (past_end read) past in
    ap (λ (x : Option ℕ). fault_at n x (line_fault (words_read read) line))
    (shown_past read line w ws o h e f ∙ none)
    ∙ ap (λ (x : Option Kind). numbered n x) (shown_own read line w ws h e ∙ ap (λ (x : Option Kind).
    least x (words_fault (words_read read) (w ∷ ws))) (sym b))

-- a line that ends one of which an instruction does
pub ending_fault : (read : Lines) (n : ℕ) (line : Line) (w : List ℕ) (ws : List (List ℕ)) (o : Option FirstWord)
    (x : ℕ × Kind) → is_skipped line.bytes ≡ false → words_of line.bytes ≡ w ∷ ws → o ≡ first_word w
    → ends_program o ≡ true → target_at (past_end read) ≡ Some x
    → fault_at n (past_at read line) (line_fault (words_read read) line) ≡ Some x
ending_fault read n line w ws o x h e f t past =
    ap (λ (y : Option ℕ). fault_at n y (line_fault (words_read read) line))
    (shown_past read line w ws o h e f ∙ ap (λ (b : Bool). if b then past_end read else None) t)
    ∙ ap (λ (y : Option (ℕ × Kind)). either y (numbered n (line_fault (words_read read) line))) past

pub no_target : (past : Option ℕ) → target_at past ≡ None → past ≡ None
no_target None e = refl
no_target (Some n) e = absurd cc

-- ---- the answer to a line

pub tells_at : {T : Type 0} (r : Result T Stop) (n : ℕ) (fault : Option Kind) (After : Type 0) → Judges r fault After
    → Tells (at_line n r) (numbered n fault) (λ _. After)
tells_at (Ok x) n fault After j = (ap (λ (f : Option Kind). numbered n f) j.0, j.1)
tells_at (Err (stop.Fault kind)) n fault After j = ap (λ (f : Option Kind). numbered n f) j
tells_at (Err stop.Memory) n fault After j = tt

-- ---- the first fault of the text after the line

step_by : (read : Lines) (n : ℕ) (l : Line) (ls : List Line) (b : Bool) (past : Option ℕ) (fault : Option Kind)
    (x : ℕ × Kind) → is_ending l ≡ b → past_end read ≡ past → line_fault (words_read read) l ≡ fault
    → either (target_at (if b then past else None)) (numbered n fault) ≡ Some x → rest_fault read n (l ∷ ls) ≡ Some x
step_by read n l ls true (Some m) fault x e f g h = rest-past read n l ls m e f ∙ h
step_by read n l ls true None (Some k) x e f g h = rest-fault read n l ls k (λ t. f) g ∙ h
step_by read n l ls true None None x e f g h = absurd cc
step_by read n l ls false past (Some k) x e f g h =
    rest-fault read n l ls k (λ t. absurd (let d : true ≡ false = sym t ∙ e in cc)) g ∙ h
step_by read n l ls false past None x e f g h = absurd cc

-- the fault of a line is that of the text
pub step_fault : (read : Lines) (n : ℕ) (l : Line) (ls : List Line) (x : ℕ × Kind)
    → fault_at n (past_at read l) (line_fault (words_read read) l) ≡ Some x → rest_fault read n (l ∷ ls) ≡ Some x
step_fault read n l ls x h =
    step_by read n l ls (is_ending l) (past_end read) (line_fault (words_read read) l) x refl refl refl h

free_by : (n : ℕ) (past : Option ℕ) (fault : Option Kind) → either (target_at past) (numbered n fault) ≡ None
    → (past ≡ None) × (fault ≡ None)
free_by n None None h = (refl, refl)
free_by n None (Some k) h = absurd cc
free_by n (Some m) fault h = absurd cc

if_true : (b : Bool) (past : Option ℕ) → (if b then past else None) ≡ None → b ≡ true → past ≡ None
if_true true past h t = h
if_true false past h t = absurd cc

-- a line without a fault
pub step_free : (read : Lines) (n : ℕ) (l : Line) (ls : List Line)
    → fault_at n (past_at read l) (line_fault (words_read read) l) ≡ None
    → (rest_fault read n (l ∷ ls) ≡ rest_fault (and_read read n l) (suc n) ls)
    × (line_fault (words_read read) l ≡ None)
step_free read n l ls h =
    let f = free_by n (past_at read l) (line_fault (words_read read) l) h in
    (rest-next read n l ls (if_true (is_ending l) (past_end read) f.0) f.1, f.1)

-- the answer to a line that ends no program past which an instruction names a place
pub shown_tells : {T : Type 0} (r : Result T Stop) (a : Result T ScriptError) (read : Lines) (n : ℕ) (line : Line)
    (w : List ℕ) (ws : List (List ℕ)) (o : Option FirstWord) (form : Option Kind) (p : Parts) → a ≡ at_line n r
    → is_skipped line.bytes ≡ false → words_of line.bytes ≡ w ∷ ws → o ≡ first_word w → form ≡ bytes_fault line
    → (ends_program o ≡ true → past_end read ≡ None)
    → Judges r (least form (words_fault (words_read read) (w ∷ ws))) (IsAfter ((n, w ∷ ws) ∷ read) p)
    → Tells a (fault_at n (past_at read line) (line_fault (words_read read) line))
    (λ _. IsAfter (and_read read n line) p)
shown_tells (Ok x) a read n line w ws o form p e h k f b past j = rw e (
  shown_fault read n line w ws o form h k f b past ∙ ap (numbered n) j.0,
  shown_after read n line w ws p h k j.1,
)
shown_tells (Err (stop.Fault kind)) a read n line w ws o form p e h k f b past j =
    rw e (shown_fault read n line w ws o form h k f b past ∙ ap (numbered n) j)
shown_tells (Err stop.Memory) a read n line w ws o form p e h k f b past j = rw e tt

-- the answer to a line that ends one of which an instruction does
pub ending_tells : {T U : Type 0} (r : Result T ScriptError) (x : ScriptError) (read : Lines) (n : ℕ) (line : Line)
    (w : List ℕ) (ws : List (List ℕ)) (o : Option FirstWord) (P : U → Type 0) (Q : T → Type 0)
    → IsErrAnd r (λ (y : ScriptError). y ≡ x) → is_skipped line.bytes ≡ false → words_of line.bytes ≡ w ∷ ws
    → o ≡ first_word w → ends_program o ≡ true → Tells {T = U} (Err x) (target_at (past_end read)) P
    → Tells r (fault_at n (past_at read line) (line_fault (words_read read) line)) Q
ending_tells (Ok y) x read n line w ws o P Q e h k f t j = absurd e
ending_tells (Err y) (error.Fault l kind) read n line w ws o P Q e h k f t j =
    rw e (ending_fault read n line w ws o (l, kind) h k f t j)
ending_tells (Err y) error.Memory read n line w ws o P Q e h k f t j = rw e tt
