-- The fault of words that are to keep one form.
use Rattle.std.proofs.Common.{◌≡◌, ℕ, Bool, true, false, ◌||◌, not, nat_lt, List, [], ◌∷◌, Option}
use Rattle.std.proofs.Common.{Some, None, refl, sym, ap, subst, ◌∙◌}
use Rattle.std.specs.Prelude.{if◌then◌else◌, option_map, Result, Ok, Err, IfOk}
use Rattle.w32_base.specs.declared.instr.Operand.{Operand}
use Rattle.std.proofs.lemmas.Option.{same_Some}
use Rattle.w32_base.specs.Name.{is_name}
use Rattle.w32_base.specs.Names.{is_same}
use Rattle.script_spec.specs.declared.fault.Kind.{Kind}
use Rattle.script_spec.specs.declared.fault.Kind.TheVariants.{Large, NoHeader, Unfinished, NotAscii, TooLong, Missing}
use Rattle.script_spec.specs.declared.fault.Kind.TheVariants.{Unknown, Words, BadNumber, Range, BadName, Twice, TooMany}
use Rattle.script_spec.specs.declared.fault.Kind.TheVariants.{Target}
use Rattle.script_spec.specs.Faults.{least, fault_if}
use Rattle.script_spec.specs.Fields.{Field, FixedWord, RegisterWord, ValueWord, PlaceWord, NumberWord, NameWord}
use Rattle.script_spec.specs.Fields.{KeyWord, field_fault, number_fault, signed_fault}
use Rattle.script_spec.specs.Forms.{form_fault, forms_fault, kept_form, as_form, keeps_form, place_in, place_as}
use Rattle.script_spec.specs.Numbers.{is_empty, is_canonical, value_of, is_signed_canonical, is_in_32_bits, is_key_byte}
use Rattle.script_spec.specs.Numbers.{is_register, begins_with_r}
use Rattle.cyg_script.specs.Instructions.{clamped}
use Rattle.cyg_script.specs.Results.{fault_in}
use Rattle.cyg_script.specs.Words.{one_of, two_of, with_two}

pub least_none : (k : Option Kind) → least k None ≡ k
least_none None = refl
least_none (Some kind) = refl

-- a fault that isn't before Words
abbrev pub IsLate : Option Kind → Type 0
IsLate k = least k (Some Words) ≡ Some Words

pub late_if : (b : Bool) (x y : Option Kind) → IsLate x → IsLate y → IsLate (if b then x else y)
late_if true x y h k = h
late_if false x y h k = k

late_number : (low high : ℕ) (w : List ℕ) → IsLate (number_fault low high w)
late_number low high w =
    late_if (is_empty w) (Some Words) _ refl
    (late_if (not (is_canonical w)) (Some BadNumber) _ refl (late_if
    (nat_lt (value_of w) low || nat_lt high (value_of w)) (Some Range) None refl refl))

late_signed : (w : List ℕ) → IsLate (signed_fault w)
late_signed w =
    late_if (is_empty w) (Some Words) _ refl
    (late_if (not (is_signed_canonical w)) (Some BadNumber) _ refl
    (late_if (not (is_in_32_bits w)) (Some Range) None refl refl))

pub late_field : (f : Field) (w : List ℕ) → IsLate (field_fault f w)
late_field (FixedWord text) w = late_if (not (is_same text w)) (Some Words) None refl refl
late_field RegisterWord w = late_if (not (is_register w)) (Some Words) None refl refl
late_field ValueWord w = late_if (begins_with_r w) (fault_if (not (is_register w)) Words) (signed_fault w)
    (late_if (not (is_register w)) (Some Words) None refl refl) (late_signed w)
late_field PlaceWord w = late_number 0 18446744073709551615 w
late_field (NumberWord low high) w = late_number low high w
late_field NameWord w = late_if (is_empty w) (Some Words) _ refl
    (late_if (not (is_name w)) (Some BadName) None refl refl)
late_field KeyWord w = late_if (not (is_key_byte w)) (Some Words) None refl refl

kept : (k : Option Kind) (f : List Field) (ws : List (List ℕ)) → form_fault f ws ≡ k
    → as_form ws (if keeps_form k then Some f else None) ≡ k
kept None f ws e = e
kept (Some Words) f ws e = refl
kept (Some Large) f ws e = e
kept (Some NoHeader) f ws e = e
kept (Some Unfinished) f ws e = e
kept (Some NotAscii) f ws e = e
kept (Some TooLong) f ws e = e
kept (Some Missing) f ws e = e
kept (Some Unknown) f ws e = e
kept (Some BadNumber) f ws e = e
kept (Some Range) f ws e = e
kept (Some BadName) f ws e = e
kept (Some Twice) f ws e = e
kept (Some TooMany) f ws e = e
kept (Some Target) f ws e = e

-- the fault of words that may have one form alone
pub single_form : (f : List Field) (ws : List (List ℕ)) → forms_fault (f ∷ []) ws ≡ form_fault f ws
single_form f ws = kept (form_fault f ws) f ws refl

-- ---- words of which there are as many as wanted

one_words : (ws : List (List ℕ)) (w : List ℕ) → Some w ≡ one_of ws → ws ≡ w ∷ []
one_words [] w e = absurd cc
one_words (a ∷ []) w e = ap (λ (x : List ℕ). x ∷ []) (sym (same_Some w a e))
one_words (a ∷ b ∷ ws) w e = absurd cc

pub one_is : (ws : List (List ℕ)) (w : List ℕ) → Some w ≡ one_of ws → ws ≡ w ∷ []
one_is ws w e = one_words ws w e

two_words : (a : List ℕ) (o : Option (List ℕ)) (ws : List (List ℕ)) (p : List ℕ × List ℕ) → o ≡ one_of ws → Some p
    ≡ with_two a o → a ∷ ws ≡ p.0 ∷ p.1 ∷ []
two_words a None ws p h e = absurd cc
two_words a (Some b) ws p h e =
    let same : p ≡ (a, b) = same_Some p (a, b) e in
    subst (λ (q : List ℕ × List ℕ). a ∷ ws ≡ q.0 ∷ q.1 ∷ []) (sym same)
    (ap (λ (x : List (List ℕ)). a ∷ x) (one_words ws b h))

pub two_is : (ws : List (List ℕ)) (p : List ℕ × List ℕ) → Some p ≡ two_of ws → ws ≡ p.0 ∷ p.1 ∷ []
two_is [] p e = absurd cc
two_is (a ∷ ws) p e = two_words a (one_of ws) ws p refl e

pub one_fault : (f : Field) (ws : List (List ℕ)) (w : List ℕ) → Some w ≡ one_of ws → field_fault f w
    ≡ forms_fault ((f ∷ []) ∷ []) ws
one_fault f ws w e = rw (one_words ws w e) (sym (single_form (f ∷ []) (w ∷ []) ∙ least_none (field_fault f w)))

no_one : (f : Field) (ws : List (List ℕ)) → None ≡ one_of ws → Some Words ≡ form_fault (f ∷ []) ws
no_one f [] e = refl
no_one f (a ∷ []) e = absurd cc
no_one f (a ∷ b ∷ ws) e = sym (late_field f a)

pub no_one_fault : (f : Field) (ws : List (List ℕ)) → None ≡ one_of ws → Some Words ≡ forms_fault ((f ∷ []) ∷ []) ws
no_one_fault f ws e = no_one f ws e ∙ sym (single_form (f ∷ []) ws)

pub two_fault : (f g : Field) (ws : List (List ℕ)) (p : List ℕ × List ℕ) → Some p ≡ two_of ws
    → least (field_fault f p.0) (field_fault g p.1) ≡ forms_fault ((f ∷ g ∷ []) ∷ []) ws
two_fault f g ws p e =
    rw (two_is ws p e) (sym (single_form (f ∷ g ∷ []) (p.0 ∷ p.1 ∷ [])
    ∙ ap (λ (k : Option Kind). least (field_fault f p.0) k) (least_none (field_fault g p.1))))

none_of_one : (a : List ℕ) (o : Option (List ℕ)) → None ≡ with_two a o → None ≡ o
none_of_one a None e = refl
none_of_one a (Some b) e = absurd cc

pub no_two_fault : (f g : Field) (ws : List (List ℕ)) → None ≡ two_of ws → Some Words
    ≡ forms_fault ((f ∷ g ∷ []) ∷ []) ws
no_two_fault f g [] e = refl
no_two_fault f g (a ∷ ws) e =
    sym (single_form (f ∷ g ∷ []) (a ∷ ws) ∙ ap (λ (k : Option Kind). least (field_fault f a) k)
    (sym (no_one g ws (none_of_one a (one_of ws) e))) ∙ late_field f a)

pub no_words_fault : (ws : List (List ℕ)) → ws ≡ [] → None ≡ forms_fault ([] ∷ []) ws
no_words_fault ws e = rw e refl

pub some_words_fault : (ws : List (List ℕ)) → (ws ≡ [] → ⊥) → Some Words ≡ forms_fault ([] ∷ []) ws
some_words_fault [] h = absurd (h refl)
some_words_fault (a ∷ ws) h = refl

-- ---- the places that forms name

abbrev pub is_placeless : List Field → Bool
is_placeless [] = true
is_placeless (PlaceWord ∷ fs) = false
is_placeless (FixedWord text ∷ fs) = is_placeless fs
is_placeless (RegisterWord ∷ fs) = is_placeless fs
is_placeless (ValueWord ∷ fs) = is_placeless fs
is_placeless (NumberWord low high ∷ fs) = is_placeless fs
is_placeless (NameWord ∷ fs) = is_placeless fs
is_placeless (KeyWord ∷ fs) = is_placeless fs

pub no_place_in : (f : List Field) (ws : List (List ℕ)) → is_placeless f ≡ true → place_in f ws ≡ None
no_place_in [] ws h = refl
no_place_in (PlaceWord ∷ fs) ws h = absurd cc
no_place_in (FixedWord text ∷ fs) [] h = refl
no_place_in (FixedWord text ∷ fs) (w ∷ ws) h = no_place_in fs ws h
no_place_in (RegisterWord ∷ fs) [] h = refl
no_place_in (RegisterWord ∷ fs) (w ∷ ws) h = no_place_in fs ws h
no_place_in (ValueWord ∷ fs) [] h = refl
no_place_in (ValueWord ∷ fs) (w ∷ ws) h = no_place_in fs ws h
no_place_in (NumberWord low high ∷ fs) [] h = refl
no_place_in (NumberWord low high ∷ fs) (w ∷ ws) h = no_place_in fs ws h
no_place_in (NameWord ∷ fs) [] h = refl
no_place_in (NameWord ∷ fs) (w ∷ ws) h = no_place_in fs ws h
no_place_in (KeyWord ∷ fs) [] h = refl
no_place_in (KeyWord ∷ fs) (w ∷ ws) h = no_place_in fs ws h

placeless_if : (b : Bool) (f : List Field) (ws : List (List ℕ)) → is_placeless f ≡ true
    → place_as ws (if b then Some f else None) ≡ None
placeless_if true f ws h = no_place_in f ws h
placeless_if false f ws h = refl

-- the words of one form without a place name none
pub placeless : (f : List Field) (ws : List (List ℕ)) → is_placeless f ≡ true → place_as ws (kept_form (f ∷ []) ws)
    ≡ None
placeless f ws h = placeless_if (keeps_form (form_fault f ws)) f ws h

-- words that keep a form have it
pub kept_single : (f : List Field) (ws : List (List ℕ)) → None ≡ forms_fault (f ∷ []) ws → kept_form (f ∷ []) ws
    ≡ Some f
kept_single f ws e = let h : form_fault f ws ≡ None = sym (single_form f ws) ∙ sym e in rw h refl

pub one_place_is : (ws : List (List ℕ)) (w : List ℕ) (p : ℕ) → Some w ≡ one_of ws → None
    ≡ forms_fault ((PlaceWord ∷ []) ∷ []) ws → p ≡ clamped (value_of w)
    → option_map clamped (place_as ws (kept_form ((PlaceWord ∷ []) ∷ []) ws)) ≡ Some p
one_place_is ws w p e k is = rw (kept_single (PlaceWord ∷ []) ws k, one_words ws w e) (ap (λ (n : ℕ). Some n) (sym is))

pub two_place_is : (ws : List (List ℕ)) (q : List ℕ × List ℕ) (p : ℕ) → Some q ≡ two_of ws → None
    ≡ forms_fault ((ValueWord ∷ PlaceWord ∷ []) ∷ []) ws → p ≡ clamped (value_of q.1)
    → option_map clamped (place_as ws (kept_form ((ValueWord ∷ PlaceWord ∷ []) ∷ []) ws)) ≡ Some p
two_place_is ws q p e k is = rw (kept_single (ValueWord ∷ PlaceWord ∷ []) ws k, two_is ws q e)
    (ap (λ (n : ℕ). Some n) (sym is))

-- what an operand and a place were read from
pub both_place : (r : Result (Operand × ℕ) Kind) (b : Result ℕ Kind) (ws : List (List ℕ)) (q : List ℕ × List ℕ)
    → Some q ≡ two_of ws
    → fault_in r ≡ forms_fault ((ValueWord ∷ PlaceWord ∷ []) ∷ []) ws → IfOk r (λ p. b ≡ Ok p.1)
    → IfOk b (λ p. p ≡ clamped (value_of q.1))
    → IfOk r (λ p. option_map clamped (place_as ws (kept_form ((ValueWord ∷ PlaceWord ∷ []) ∷ []) ws)) ≡ Some p.1)
both_place (Err k) b ws q e f h v = tt
both_place (Ok x) b ws q e f h v =
    let is : x.1 ≡ clamped (value_of q.1) = let P : Result ℕ Kind
    → Type 0 = λ c. IfOk c (λ p. p ≡ clamped (value_of q.1)) in subst P h v in
    two_place_is ws q x.1 e f is

-- what becomes of a form of one word, or of two
pub ruleset one_form = (one_fault, no_one_fault, one_is)

pub ruleset two_form = (two_fault, no_two_fault, two_is)
