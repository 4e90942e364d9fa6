-- The fault of the words after a first word, by its parts.
use Rattle.std.proofs.Common.{◌≡◌, ℕ, Bool, true, false, List, Option, Some, None, refl, ap, ◌∙◌}
use Rattle.script_spec.specs.declared.fault.FirstWord.{FirstWord}
use Rattle.script_spec.specs.declared.fault.Kind.{Kind}
use Rattle.script_spec.specs.declared.fault.Kind.TheVariants.{Twice, TooMany}
use Rattle.script_spec.specs.Faults.{least, fault_if}
use Rattle.script_spec.specs.FirstWords.{sort_of}
use Rattle.script_spec.specs.Forms.{forms, forms_fault}
use Rattle.script_spec.specs.LineFaults.{pages_fault, twice_fault, is_full, written_fault}
use Rattle.script_spec.specs.Places.{slots_of}
use Rattle.cyg_script.proofs.Forms.{least_none}
use Rattle.cyg_script.proofs.Lesser.{words_first, words_none}

abbrev Before : Type 0
Before = List (List (List ℕ))

-- the fault of words alone
abbrev pub own_fault : Before → FirstWord → List (List ℕ) → Option Kind
own_fault before word ws = least (forms_fault (forms (slots_of before) word) ws) (pages_fault word ws)

pub no_pages : (before : Before) (word : FirstWord) (ws : List (List ℕ)) (k : Option Kind) → pages_fault word ws ≡ None
    → forms_fault (forms (slots_of before) word) ws ≡ k → own_fault before word ws ≡ k
no_pages before word ws k p f =
    ap (λ (o : Option Kind). least (forms_fault (forms (slots_of before) word) ws) o) p
    ∙ least_none (forms_fault (forms (slots_of before) word) ws) ∙ f

pub own_is : (before : Before) (word : FirstWord) (ws : List (List ℕ)) (k : Kind) → own_fault before word ws ≡ Some k
    → written_fault before word ws ≡ Some k
own_is before word ws k e = words_first before word ws k e

twice_first : (b : Bool) → least (Some Twice) (fault_if b TooMany) ≡ Some Twice
twice_first true = refl
twice_first false = refl

pub twice_is : (before : Before) (word : FirstWord) (ws : List (List ℕ)) → own_fault before word ws ≡ None
    → twice_fault (sort_of word) before ws ≡ Some Twice → written_fault before word ws ≡ Some Twice
twice_is before word ws e t =
    words_none before word ws e
    ∙ ap (λ (o : Option Kind). least o (fault_if (is_full (sort_of word) before) TooMany)) t
    ∙ twice_first (is_full (sort_of word) before)

pub full_is : (before : Before) (word : FirstWord) (ws : List (List ℕ)) → own_fault before word ws ≡ None
    → twice_fault (sort_of word) before ws ≡ None → is_full (sort_of word) before ≡ true
    → written_fault before word ws ≡ Some TooMany
full_is before word ws e t f =
    words_none before word ws e
    ∙ ap (λ (o : Option Kind). least o (fault_if (is_full (sort_of word) before) TooMany)) t
    ∙ ap (λ (b : Bool). fault_if b TooMany) f

pub none_is : (before : Before) (word : FirstWord) (ws : List (List ℕ)) → own_fault before word ws ≡ None
    → twice_fault (sort_of word) before ws ≡ None → is_full (sort_of word) before ≡ false
    → written_fault before word ws ≡ None
none_is before word ws e t f =
    words_none before word ws e
    ∙ ap (λ (o : Option Kind). least o (fault_if (is_full (sort_of word) before) TooMany)) t
    ∙ ap (λ (b : Bool). fault_if b TooMany) f
