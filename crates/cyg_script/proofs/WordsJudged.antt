-- The fault of a line's words, by what the reader tests.
use Rattle.std.proofs.Common.{◌≡◌, ℕ, ◌≤◌, Bool, true, false, ◌&&◌, not, nat_le, nat_lt, List, [], ◌∷◌}
use Rattle.std.proofs.Common.{length, Option, Some, None, refl, sym, ap, ◌∙◌, arith, inl, inr, ◌⊎◌}
use Rattle.std.specs.Prelude.{codes, if◌then◌else◌}
use Rattle.std.specs.List.{list_all}
use Rattle.std.proofs.lemmas.Bool.{and_parts, cases_Bool, lt-leb, leb-true}
use Rattle.std.proofs.lemmas.Option.{same_Some}
use Rattle.w32_base.specs.Names.{is_same}
use Rattle.script_spec.specs.declared.fault.FirstWord.{FirstWord}
use Rattle.script_spec.specs.declared.fault.FirstWord.TheVariants as first
use Rattle.script_spec.specs.declared.fault.Kind.{Kind}
use Rattle.script_spec.specs.declared.fault.Kind.TheVariants.{NoHeader, Unfinished, NotAscii, TooLong, Unknown}
use Rattle.script_spec.specs.declared.fault.Sort.{Sort}
use Rattle.script_spec.specs.declared.fault.Sort.TheVariants as sort
use Rattle.script_spec.specs.Faults.{least, kind_number}
use Rattle.script_spec.specs.FirstWordLaws.{first_word-text}
use Rattle.script_spec.specs.FirstWords.{first_word, sort_of}
use Rattle.script_spec.specs.Front.{words_read}
use Rattle.script_spec.specs.LineFaults.{is_printable, bytes_fault, written_fault, known_fault, begun_fault}
use Rattle.script_spec.specs.LineFaults.{words_fault}
use Rattle.script_spec.specs.LineFaults.{is_header}
use Rattle.script_spec.specs.Lines.{Line}
use Rattle.script_spec.specs.Places.{place_fault, is_sort}
use Rattle.cyg_script.specs.After.{last_sort}
use Rattle.cyg_script.specs.Parts.{stands, ends_program}
use Rattle.cyg_script.specs.Written.{header_line}
use Rattle.cyg_script.proofs.Choices.{same_texts}
use Rattle.cyg_script.proofs.Forms.{least_none}
use Rattle.cyg_script.proofs.Lesser.{is_between, between_if, between_least, earlier, widened, written_between}
use Rattle.cyg_script.proofs.Lesser.{places_between}

abbrev Lines : Type 0
Lines = List (ℕ × List (List ℕ))

pub bytes_between : (line : Line) → is_between 3 5 (bytes_fault line) ≡ true
bytes_between line =
    between_if 3 5 (not line.is_ended) (Some Unfinished) _ refl
    (between_if 3 5 (not (list_all is_printable line.bytes)) (Some NotAscii) _ refl
    (between_if 3 5 (nat_lt 200 (length line.bytes)) (Some TooLong) None refl refl))

known_between : (before : List (List (List ℕ))) (s : Sort) (word : FirstWord) (ws : List (List ℕ))
    → is_between 6 13 (known_fault before (Some s) word ws) ≡ true
known_between before s word ws =
    between_least 6 13 (place_fault s (sort_of word)) (written_fault before word ws)
    (widened 6 7 6 13 (place_fault s (sort_of word)) (places_between s (sort_of word)) (omega arith) (omega arith))
    (widened 8 13 6 13 (written_fault before word ws) (written_between before word ws) (omega arith) (omega arith))

begun_between : (before : List (List (List ℕ))) (s : Sort) (o : Option FirstWord) (ws : List (List ℕ))
    → is_between 6 13 (begun_fault before (Some s) o ws) ≡ true
begun_between before s None ws = refl
begun_between before s (Some word) ws = known_between before s word ws

-- the fault of the words after a line of a sort
pub words_begun : (read : Lines) (s : Sort) (w : List ℕ) (ws : List (List ℕ)) (o : Option FirstWord)
    → last_sort (words_read read) ≡ Some s → o ≡ first_word w
    → words_fault (words_read read) (w ∷ ws) ≡ begun_fault (words_read read) (Some s) o ws
words_begun [] s w ws o e f = absurd cc
words_begun (r ∷ read) s w ws o e f =
    ap (λ (x : Option Sort). begun_fault (words_read (r ∷ read)) x (first_word w) ws) e
    ∙ ap (λ (x : Option FirstWord). begun_fault (words_read (r ∷ read)) (Some s) x ws) (sym f)

-- a fault of the bytes stands before those of the words
pub form_first : (form : Option Kind) (k : Kind) (line : Line) (read : Lines) (s : Sort) (w : List ℕ)
    (ws : List (List ℕ)) (o : Option FirstWord) → form ≡ Some k → form ≡ bytes_fault line
    → last_sort (words_read read) ≡ Some s → o ≡ first_word w
    → least form (words_fault (words_read read) (w ∷ ws)) ≡ Some k
form_first form k line read s w ws o e b l f =
    let small : is_between 3 5 (Some k) ≡ true = ap (λ (x : Option Kind). is_between 3 5 x) (sym e ∙ b) ∙
    bytes_between line in
    ap (λ (x : Option Kind). least x (words_fault (words_read read) (w ∷ ws))) e
    ∙ ap (λ (x : Option Kind). least (Some k) x) (words_begun read s w ws o l f)
    ∙ earlier 3 5 13 k (begun_fault (words_read read) (Some s) o ws) small
    (widened 6 13 5 13 (begun_fault (words_read read) (Some s) o ws) (begun_between (words_read read) s o ws)
    (omega arith) (omega arith))

pub unknown_first : (form : Option Kind) (read : Lines) (s : Sort) (w : List ℕ) (ws : List (List ℕ))
    (o : Option FirstWord) → form ≡ None → last_sort (words_read read) ≡ Some s → o ≡ first_word w → o ≡ None
    → least form (words_fault (words_read read) (w ∷ ws)) ≡ Some Unknown
unknown_first form read s w ws o e l f n =
    ap (λ (x : Option Kind). least x (words_fault (words_read read) (w ∷ ws))) e
    ∙ words_begun read s w ws o l f ∙ ap (λ (x : Option FirstWord). begun_fault (words_read read) (Some s) x ws) n

known_words : (form : Option Kind) (read : Lines) (s : Sort) (w : List ℕ) (ws : List (List ℕ))
    (o : Option FirstWord) (word : FirstWord) → form ≡ None → last_sort (words_read read) ≡ Some s
    → o ≡ first_word w → o ≡ Some word
    → least form (words_fault (words_read read) (w ∷ ws))
    ≡ least (place_fault s (sort_of word)) (written_fault (words_read read) word ws)
known_words form read s w ws o word e l f n =
    ap (λ (x : Option Kind). least x (words_fault (words_read read) (w ∷ ws))) e
    ∙ words_begun read s w ws o l f ∙ ap (λ (x : Option FirstWord). begun_fault (words_read read) (Some s) x ws) n

pub misplaced : (form : Option Kind) (read : Lines) (s : Sort) (w : List ℕ) (ws : List (List ℕ))
    (o : Option FirstWord) (word : FirstWord) (k : Kind) → form ≡ None → last_sort (words_read read) ≡ Some s
    → o ≡ first_word w → o ≡ Some word → place_fault s (sort_of word) ≡ Some k
    → least form (words_fault (words_read read) (w ∷ ws)) ≡ Some k
misplaced form read s w ws o word k e l f n p =
    let small : is_between 6 7 (Some k) ≡ true = ap (λ (x : Option Kind). is_between 6 7 x) (sym p) ∙
    places_between s (sort_of word) in
    known_words form read s w ws o word e l f n
    ∙ ap (λ (x : Option Kind). least x (written_fault (words_read read) word ws)) p
    ∙ earlier 6 7 13 k (written_fault (words_read read) word ws) small
    (widened 8 13 7 13 (written_fault (words_read read) word ws) (written_between (words_read read) word ws)
    (omega arith) (omega arith))

-- a line that may stand here has the fault of the words after its first one
pub placed : (form : Option Kind) (read : Lines) (s : Sort) (w : List ℕ) (ws : List (List ℕ))
    (o : Option FirstWord) (word : FirstWord) → form ≡ None → last_sort (words_read read) ≡ Some s
    → o ≡ first_word w → o ≡ Some word → place_fault s (sort_of word) ≡ None
    → least form (words_fault (words_read read) (w ∷ ws)) ≡ written_fault (words_read read) word ws
placed form read s w ws o word e l f n p =
    known_words form read s w ws o word e l f n
    ∙ ap (λ (x : Option Kind). least x (written_fault (words_read read) word ws)) p

-- ---- the first line

later_first : (x : Option Kind) → is_between 3 5 x ≡ true → least x (Some NoHeader) ≡ Some NoHeader
later_first None h = refl
later_first (Some k) h =
    let low : 3 ≤ kind_number k = leb-true 3 (kind_number k)
    (and_parts (nat_le 3 (kind_number k)) (nat_le (kind_number k) 5) h).0 in
    rw (lt-leb (kind_number k) 2 (omega (arith, low))) refl

pub no_header : (form : Option Kind) (line : Line) (ws : List (List ℕ)) → form ≡ bytes_fault line
    → is_header ws ≡ false → least form (words_fault [] ws) ≡ Some NoHeader
no_header form line ws b h =
    ap (λ (t : Bool). least form (if t then None else Some NoHeader)) h
    ∙ later_first form (ap (λ (x : Option Kind). is_between 3 5 x) b ∙ bytes_between line)

pub with_header : (form : Option Kind) (ws : List (List ℕ)) → is_header ws ≡ true
    → least form (words_fault [] ws) ≡ form
with_header form ws h =
    ap (λ (t : Bool). least form (if t then None else Some NoHeader)) h ∙ least_none form

-- another first word
pub other_header : (o : Option FirstWord) (w : List ℕ) → o ≡ first_word w → (o ≡ Some first.CygScript → ⊥)
    → is_same (codes "cygscript") w ≡ false
other_header o w f ne =
    elim (cases_Bool (is_same (codes "cygscript") w)) [
      | inl t ↦ absurd (ne (f ∙ ap first_word (sym (same_texts (codes "cygscript") w t))))
      | inr t ↦ t
    ]

pub header_is : (ws : List (List ℕ)) → is_header ws ≡ true → ws ≡ header_line
header_is [] h = absurd cc
header_is (w ∷ []) h = absurd cc
header_is (w ∷ v ∷ []) h =
    let parts = and_parts (is_same (codes "cygscript") w) (is_same (codes "1") v) h in
    let a : codes "cygscript" ≡ w = same_texts (codes "cygscript") w parts.0 in
    let b : codes "1" ≡ v = same_texts (codes "1") v parts.1 in
    cc
header_is (w ∷ v ∷ u ∷ ws) h = absurd cc

-- ---- words that may not come to a reader's part

not_header : (o : Option Sort) → stands o sort.Header ≡ true → ⊥
not_header None e = cc
not_header (Some sort.Header) e = cc
not_header (Some s) e = cc

pub no_known : {X : Type 0} (word : FirstWord) (o : Option Sort)
    → (word ≡ first.CygScript) ⊎ ((word ≡ first.Program) ⊎ (word ≡ first.Schedule))
    → stands o (sort_of word) ≡ true → ends_program (Some word) ≡ false → X
no_known first.CygScript o e s f = absurd (not_header o s)
no_known first.Program o e s f = absurd cc
no_known first.Schedule o e s f = absurd cc
no_known word o (inl e) s f = absurd cc
no_known word o (inr (inl e)) s f = absurd cc
no_known word o (inr (inr e)) s f = absurd cc

pub no_ending : {X : Type 0} (word : FirstWord) → ends_program (Some word) ≡ true → (word ≡ first.Program → ⊥)
    → (word ≡ first.Schedule → ⊥) → X
no_ending first.Program e p s = absurd (p refl)
no_ending first.Schedule e p s = absurd (s refl)
no_ending word e p s = absurd cc

headless : (w : List ℕ) (ws : List (List ℕ)) → is_same (codes "cygscript") w ≡ false → is_header (w ∷ ws) ≡ false
headless w [] e = refl
headless w (v ∷ []) e = ap (λ (b : Bool). b && is_same (codes "1") v) e
headless w (v ∷ u ∷ ws) e = refl

-- a line that ends a program isn't the first one
pub ending_header : (o : Option FirstWord) (w : List ℕ) (ws : List (List ℕ)) → o ≡ first_word w
    → ends_program o ≡ true → is_header (w ∷ ws) ≡ false
ending_header o w ws f e =
    let other : is_same (codes "cygscript") w ≡ false = other_header o w f
    (λ k. let t : ends_program o ≡ false = ap ends_program k in cc) in
    headless w ws other

pub other_headless : (o : Option FirstWord) (w : List ℕ) (ws : List (List ℕ)) → o ≡ first_word w
    → (o ≡ Some first.CygScript → ⊥) → is_header (w ∷ ws) ≡ false
other_headless o w ws f ne = headless w ws (other_header o w f ne)

pub nothing_read : (read : Lines) (ws : List (List ℕ)) (form k : Option Kind) → read ≡ []
    → least form (words_fault [] ws) ≡ k → least form (words_fault (words_read read) ws) ≡ k
nothing_read read ws form k e h = rw e h

pub cygscript_is : (word : FirstWord) → is_sort sort.Header (sort_of word) ≡ true → word ≡ first.CygScript
cygscript_is first.CygScript e = refl
cygscript_is word e = absurd cc

pub other_is : (o : Option FirstWord) (word : FirstWord) → o ≡ Some word → is_sort sort.Header (sort_of word) ≡ false
    → o ≡ Some first.CygScript → ⊥
other_is o word e f g =
    let same : word ≡ first.CygScript = same_Some word first.CygScript (sym e ∙ g) in
    let h : true ≡ false = ap (λ (x : FirstWord). is_sort sort.Header (sort_of x)) (sym same) ∙ f in
    cc

pub none_is : (o : Option FirstWord) → o ≡ None → o ≡ Some first.CygScript → ⊥
none_is o e f = let h : ◌≡◌ {A = Option FirstWord} None (Some first.CygScript) = sym e ∙ f in cc

-- `cygscript` and what follows
pub headed : (o : Option FirstWord) (w : List ℕ) (ws : List (List ℕ)) (b : Bool) → o ≡ first_word w
    → o ≡ Some first.CygScript → ((word : List ℕ) → is_header (word ∷ ws) ≡ (is_same (codes "cygscript") word && b))
    → b ≡ is_header (w ∷ ws)
headed o w ws b f e h =
    let text : w ≡ codes "cygscript" = first_word-text w first.CygScript (sym f ∙ e) in
    sym (h w ∙ ap (λ (v : List ℕ). is_same (codes "cygscript") v && b) text)
