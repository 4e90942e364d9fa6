-- Words that may keep one of several forms.
use Rattle.std.proofs.Common.{◌≡◌, ℕ, Bool, true, false, not, nat_eq, nat_le, List, [], ◌∷◌, Option, Some, None}
use Rattle.std.proofs.Common.{refl, sym, ap, subst, ◌∙◌}
use Rattle.std.specs.Prelude.{if◌then◌else◌, Result, Ok, IfOk}
use Rattle.std.specs.List.{list_all}
use Rattle.std.proofs.lemmas.Bool.{and_parts, eqb-true}
use Rattle.std.proofs.lemmas.Option.{same_Some}
use Rattle.w32_base.specs.Names.{is_same}
use Rattle.script_spec.specs.declared.fault.Kind.{Kind}
use Rattle.script_spec.specs.declared.fault.Kind.TheVariants.{Large, NoHeader, Unfinished, NotAscii, TooLong, Missing}
use Rattle.script_spec.specs.declared.fault.Kind.TheVariants.{Unknown, Words, BadNumber, Range, BadName, Twice, TooMany}
use Rattle.script_spec.specs.declared.fault.Kind.TheVariants.{Target}
use Rattle.script_spec.specs.Faults.{least, fault_if, kind_number}
use Rattle.script_spec.specs.Fields.{Field, FixedWord, field_fault}
use Rattle.script_spec.specs.Forms.{form_fault, forms_fault, kept_form, as_form, keeps_form, place_in, place_as}
use Rattle.cyg_script.specs.Words.{two_of, three_of, four_of, with_three, with_four}
use Rattle.cyg_script.proofs.Forms.{IsLate, late_field, late_if, is_placeless, no_place_in, two_is}

-- ---- words that don't keep a form

late_least : (a b : Option Kind) → IsLate a → IsLate b → IsLate (least a b)
late_least None b h k = k
late_least (Some x) None h k = h
late_least (Some x) (Some y) h k = late_if (nat_le (kind_number x) (kind_number y)) (Some x) (Some y) h k

pub late_form : (fs : List Field) (ws : List (List ℕ)) → IsLate (form_fault fs ws)
late_form [] [] = refl
late_form [] (w ∷ ws) = refl
late_form (f ∷ fs) [] = refl
late_form (f ∷ fs) (w ∷ ws) = late_least (field_fault f w) (form_fault fs ws) (late_field f w) (late_form fs ws)

words_least : (k : Option Kind) → IsLate k → least (Some Words) k ≡ Some Words
words_least None h = refl
words_least (Some Large) h = absurd cc
words_least (Some NoHeader) h = absurd cc
words_least (Some Unfinished) h = absurd cc
words_least (Some NotAscii) h = absurd cc
words_least (Some TooLong) h = absurd cc
words_least (Some Missing) h = absurd cc
words_least (Some Unknown) h = absurd cc
words_least (Some Words) h = refl
words_least (Some BadNumber) h = refl
words_least (Some Range) h = refl
words_least (Some BadName) h = refl
words_least (Some Twice) h = refl
words_least (Some TooMany) h = refl
words_least (Some Target) h = refl

pub wrong_word : (f : Field) (fs : List Field) (w : List ℕ) (ws : List (List ℕ)) → field_fault f w ≡ Some Words
    → form_fault (f ∷ fs) (w ∷ ws) ≡ Some Words
wrong_word f fs w ws h =
    ap (λ (k : Option Kind). least k (form_fault fs ws)) h ∙ words_least (form_fault fs ws) (late_form fs ws)

pub wrong_rest : (f : Field) (fs : List Field) (w : List ℕ) (ws : List (List ℕ)) → form_fault fs ws ≡ Some Words
    → form_fault (f ∷ fs) (w ∷ ws) ≡ Some Words
wrong_rest f fs w ws h = ap (λ (k : Option Kind). least (field_fault f w) k) h ∙ late_field f w

-- as many words as fields
abbrev pub same_length : List Field → List (List ℕ) → Bool
same_length [] [] = true
same_length [] (w ∷ ws) = false
same_length (f ∷ fs) [] = false
same_length (f ∷ fs) (w ∷ ws) = same_length fs ws

pub wrong_length : (fs : List Field) (ws : List (List ℕ)) → same_length fs ws ≡ false → form_fault fs ws ≡ Some Words
wrong_length [] [] h = absurd cc
wrong_length [] (w ∷ ws) h = refl
wrong_length (f ∷ fs) [] h = refl
wrong_length (f ∷ fs) (w ∷ ws) h = wrong_rest f fs w ws (wrong_length fs ws h)

-- another word than the fixed one
pub other_word : (text w : List ℕ) → is_same text w ≡ false → field_fault (FixedWord text) w ≡ Some Words
other_word text w h = ap (λ (b : Bool). fault_if (not b) Words) h

-- ---- the form that is kept

pub skip : (f : List Field) (fs : List (List Field)) (ws : List (List ℕ)) → form_fault f ws ≡ Some Words
    → kept_form (f ∷ fs) ws ≡ kept_form fs ws
skip f fs ws h = ap (λ (k : Option Kind). if keeps_form k then Some f else kept_form fs ws) h

pub skip_fault : (f : List Field) (fs : List (List Field)) (ws : List (List ℕ)) → form_fault f ws ≡ Some Words
    → forms_fault (f ∷ fs) ws ≡ forms_fault fs ws
skip_fault f fs ws h = ap (λ (o : Option (List Field)). as_form ws o) (skip f fs ws h)

pub chosen : (f : List Field) (fs : List (List Field)) (ws : List (List ℕ)) → form_fault f ws ≡ None
    → kept_form (f ∷ fs) ws ≡ Some f
chosen f fs ws h = ap (λ (k : Option Kind). if keeps_form k then Some f else kept_form fs ws) h

kept_else : (k : Option Kind) (f : List Field) (fs : List (List Field)) (ws : List (List ℕ)) → form_fault f ws ≡ k
    → forms_fault fs ws ≡ Some Words → as_form ws (if keeps_form k then Some f else kept_form fs ws) ≡ k
kept_else None f fs ws e h = e
kept_else (Some Large) f fs ws e h = e
kept_else (Some NoHeader) f fs ws e h = e
kept_else (Some Unfinished) f fs ws e h = e
kept_else (Some NotAscii) f fs ws e h = e
kept_else (Some TooLong) f fs ws e h = e
kept_else (Some Missing) f fs ws e h = e
kept_else (Some Unknown) f fs ws e h = e
kept_else (Some Words) f fs ws e h = h
kept_else (Some BadNumber) f fs ws e h = e
kept_else (Some Range) f fs ws e h = e
kept_else (Some BadName) f fs ws e h = e
kept_else (Some Twice) f fs ws e h = e
kept_else (Some TooMany) f fs ws e h = e
kept_else (Some Target) f fs ws e h = e

-- the fault of words that keep no form but the first one
pub chosen_fault : (f : List Field) (fs : List (List Field)) (ws : List (List ℕ)) → forms_fault fs ws ≡ Some Words
    → forms_fault (f ∷ fs) ws ≡ form_fault f ws
chosen_fault f fs ws h = kept_else (form_fault f ws) f fs ws refl h

-- ---- words that name no place

place_if : (b : Bool) (f : List Field) (o : Option (List Field)) (ws : List (List ℕ)) → place_in f ws ≡ None
    → place_as ws o ≡ None
    → place_as ws (if b then Some f else o) ≡ None
place_if true f o ws h k = h
place_if false f o ws h k = k

pub placeless_forms : (fs : List (List Field)) (ws : List (List ℕ)) → list_all is_placeless fs ≡ true
    → place_as ws (kept_form fs ws) ≡ None
placeless_forms [] ws h = refl
placeless_forms (f ∷ fs) ws h =
    let parts = and_parts (is_placeless f) (list_all is_placeless fs) h in
    place_if (keeps_form (form_fault f ws)) f (kept_form fs ws) ws (no_place_in f ws parts.0)
    (placeless_forms fs ws parts.1)

-- ---- words of which there are as many as wanted

three_words : (a : List ℕ) (o : Option (List ℕ × List ℕ)) (ws : List (List ℕ)) (p : List ℕ × List ℕ × List ℕ) → o
    ≡ two_of ws
    → Some p ≡ with_three a o → a ∷ ws ≡ p.0 ∷ p.1 ∷ p.2 ∷ []
three_words a None ws p h e = absurd cc
three_words a (Some q) ws p h e =
    let same : p ≡ (a, q.0, q.1) = same_Some p (a, q.0, q.1) e in
    subst (λ (r : List ℕ × List ℕ × List ℕ). a ∷ ws ≡ r.0 ∷ r.1 ∷ r.2 ∷ []) (sym same)
    (ap (λ (x : List (List ℕ)). a ∷ x) (two_is ws q h))

pub three_is : (ws : List (List ℕ)) (p : List ℕ × List ℕ × List ℕ) → Some p ≡ three_of ws → ws ≡ p.0 ∷ p.1 ∷ p.2 ∷ []
three_is [] p e = absurd cc
three_is (a ∷ ws) p e = three_words a (two_of ws) ws p refl e

four_words : (a : List ℕ) (o : Option (List ℕ × List ℕ × List ℕ)) (ws : List (List ℕ))
    (p : List ℕ × List ℕ × List ℕ × List ℕ) → o ≡ three_of ws
    → Some p ≡ with_four a o → a ∷ ws ≡ p.0 ∷ p.1 ∷ p.2 ∷ p.3 ∷ []
four_words a None ws p h e = absurd cc
four_words a (Some q) ws p h e =
    let same : p ≡ (a, q.0, q.1, q.2) = same_Some p (a, q.0, q.1, q.2) e in
    subst (λ (r : List ℕ × List ℕ × List ℕ × List ℕ). a ∷ ws ≡ r.0 ∷ r.1 ∷ r.2 ∷ r.3 ∷ []) (sym same)
    (ap (λ (x : List (List ℕ)). a ∷ x) (three_is ws q h))

pub four_is : (ws : List (List ℕ)) (p : List ℕ × List ℕ × List ℕ × List ℕ) → Some p ≡ four_of ws → ws
    ≡ p.0 ∷ p.1 ∷ p.2 ∷ p.3 ∷ []
four_is [] p e = absurd cc
four_is (a ∷ ws) p e = four_words a (three_of ws) ws p refl e

pub not_two : (f g : Field) (ws : List (List ℕ)) → None ≡ two_of ws → same_length (f ∷ g ∷ []) ws ≡ false
not_two f g [] e = refl
not_two f g (a ∷ []) e = refl
not_two f g (a ∷ b ∷ []) e = absurd cc
not_two f g (a ∷ b ∷ c ∷ ws) e = refl

pub not_three : (f g h : Field) (ws : List (List ℕ)) → None ≡ three_of ws → same_length (f ∷ g ∷ h ∷ []) ws ≡ false
not_three f g h [] e = refl
not_three f g h (a ∷ []) e = refl
not_three f g h (a ∷ b ∷ []) e = refl
not_three f g h (a ∷ b ∷ c ∷ []) e = absurd cc
not_three f g h (a ∷ b ∷ c ∷ d ∷ ws) e = refl

pub not_four : (f g h i : Field) (ws : List (List ℕ)) → None ≡ four_of ws → same_length (f ∷ g ∷ h ∷ i ∷ []) ws ≡ false
not_four f g h i [] e = refl
not_four f g h i (a ∷ []) e = refl
not_four f g h i (a ∷ b ∷ []) e = refl
not_four f g h i (a ∷ b ∷ c ∷ []) e = refl
not_four f g h i (a ∷ b ∷ c ∷ d ∷ []) e = absurd cc
not_four f g h i (a ∷ b ∷ c ∷ d ∷ x ∷ ws) e = refl

-- ---- texts and answers

pub same_texts : (a b : List ℕ) → is_same a b ≡ true → a ≡ b
same_texts [] [] h = refl
same_texts [] (y ∷ ys) h = absurd cc
same_texts (x ∷ xs) [] h = absurd cc
same_texts (x ∷ xs) (y ∷ ys) h =
    let parts = and_parts (nat_eq x y) (is_same xs ys) h in
    let head : x ≡ y = eqb-true x y parts.0 in
    let tail : xs ≡ ys = same_texts xs ys parts.1 in
    cc

pub of_ok : {T E : Type 0} (P : T → Type 0) (r : Result T E) (x : T) → r ≡ Ok x → IfOk r P → P x
of_ok {T} {E} P r x e h = let Q : Result T E → Type 0 = λ r. IfOk r P in subst Q e h
