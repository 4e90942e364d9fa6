-- The forms of a module's line, a page's and a program's own line.
use Rattle.std.proofs.Common.{◌≡◌, ℕ, Bool, true, false, not, List, [], ◌∷◌, Option, Some, None, refl, sym, ap}
use Rattle.std.proofs.Common.{subst, ◌∙◌}
use Rattle.std.specs.Prelude.{codes, Result, Ok, Err, IfOk}
use Rattle.std.specs.Fmt.{decimal}
use Rattle.std.proofs.lemmas.Option.{same_Some}
use Rattle.w32_base.specs.Names.{is_same}
use Rattle.script_spec.specs.declared.fault.FirstWord.TheVariants as first
use Rattle.script_spec.specs.declared.fault.Kind.{Kind}
use Rattle.script_spec.specs.declared.fault.Kind.TheVariants.{Words}
use Rattle.script_spec.specs.Faults.{least, fault_if}
use Rattle.script_spec.specs.Fields.{Field, FixedWord, NumberWord, NameWord, field_fault}
use Rattle.script_spec.specs.Forms.{form_fault, forms_fault, forms}
use Rattle.script_spec.specs.LineFaults.{pages_fault}
use Rattle.script_spec.specs.Numbers.{value_of}
use Rattle.cyg_script.specs.Words.{three_of, four_of, five_of, with_five}
use Rattle.cyg_script.proofs.Choices.{three_is, four_is, not_three, same_length, wrong_length, wrong_word, wrong_rest}
use Rattle.cyg_script.proofs.Choices.{other_word, same_texts}
use Rattle.cyg_script.proofs.Forms.{single_form, least_none}
use Rattle.cyg_script.proofs.Lesser.{is_between, between_least, number_field, least-assoc, earlier, pages_between}

-- ---- a module

three_fault : (f g h : Field) (ws : List (List ℕ)) (p : List ℕ × List ℕ × List ℕ) → Some p ≡ three_of ws
    → least (field_fault f p.0) (least (field_fault g p.1) (field_fault h p.2))
    ≡ forms_fault ((f ∷ g ∷ h ∷ []) ∷ []) ws
three_fault f g h ws p e =
    rw (three_is ws p e) (sym (single_form (f ∷ g ∷ h ∷ []) (p.0 ∷ p.1 ∷ p.2 ∷ [])
    ∙ ap (λ (k : Option Kind). least (field_fault f p.0) (least (field_fault g p.1) k))
    (least_none (field_fault h p.2))))

pub module_fault : (ws : List (List ℕ)) (p : List ℕ × List ℕ × List ℕ) → Some p ≡ three_of ws
    → least (field_fault NameWord p.0) (least (least (field_fault (NumberWord 0 1023) p.1)
    (field_fault (NumberWord 1 8) p.2)) (pages_fault first.Module ([] ∷ p.1 ∷ p.2 ∷ [])))
    ≡ least (forms_fault (forms 0 first.Module) ws) (pages_fault first.Module ws)
module_fault ws p e =
    let b : Option Kind = least (field_fault (NumberWord 0 1023) p.1) (field_fault (NumberWord 1 8) p.2) in
    let end : Option Kind = pages_fault first.Module ([] ∷ p.1 ∷ p.2 ∷ []) in
    sym (least-assoc (field_fault NameWord p.0) b end)
    ∙ ap (λ (k : Option Kind). least k end) (three_fault NameWord (NumberWord 0 1023) (NumberWord 1 8) ws p e)
    ∙ sym (ap (λ (vs : List (List ℕ)). least (forms_fault (forms 0 first.Module) ws) (pages_fault first.Module vs))
    (three_is ws p e))

pub no_module_fault : (ws : List (List ℕ)) → None ≡ three_of ws
    → Some Words ≡ least (forms_fault (forms 0 first.Module) ws) (pages_fault first.Module ws)
no_module_fault ws e =
    let f : forms_fault (forms 0 first.Module) ws ≡ Some Words =
    single_form (NameWord ∷ NumberWord 0 1023 ∷ NumberWord 1 8 ∷ []) ws
    ∙ wrong_length (NameWord ∷ NumberWord 0 1023 ∷ NumberWord 1 8 ∷ []) ws
    (not_three NameWord (NumberWord 0 1023) (NumberWord 1 8) ws e) in
    sym (ap (λ (k : Option Kind). least k (pages_fault first.Module ws)) f
    ∙ earlier 8 10 10 Words (pages_fault first.Module ws) refl (pages_between first.Module ws))

-- what a number of a form is
pub value_done : (r : Result ℕ Kind) (w : List ℕ) → IfOk r (λ n. w ≡ decimal n) → IfOk r (λ n. value_of w ≡ n)
    → IfOk r (λ n. value_of (decimal n) ≡ n)
value_done (Ok n) w text value = ap value_of (sym text) ∙ value
value_done (Err k) w text value = tt

-- ---- a program's own line

five_words : (a : List ℕ) (o : Option (List ℕ × List ℕ × List ℕ × List ℕ)) (ws : List (List ℕ))
    (p : List ℕ × List ℕ × List ℕ × List ℕ × List ℕ) → o ≡ four_of ws
    → Some p ≡ with_five a o → a ∷ ws ≡ p.0 ∷ p.1 ∷ p.2 ∷ p.3 ∷ p.4 ∷ []
five_words a None ws p h e = absurd cc
five_words a (Some q) ws p h e =
    let same : p ≡ (a, q.0, q.1, q.2, q.3) = same_Some p (a, q.0, q.1, q.2, q.3) e in
    subst (λ (r : List ℕ × List ℕ × List ℕ × List ℕ × List ℕ). a ∷ ws ≡ r.0 ∷ r.1 ∷ r.2 ∷ r.3 ∷ r.4 ∷ []) (sym same)
    (ap (λ (x : List (List ℕ)). a ∷ x) (four_is ws q h))

pub five_is : (ws : List (List ℕ)) (p : List ℕ × List ℕ × List ℕ × List ℕ × List ℕ) → Some p ≡ five_of ws
    → ws ≡ p.0 ∷ p.1 ∷ p.2 ∷ p.3 ∷ p.4 ∷ []
five_is [] p e = absurd cc
five_is (a ∷ ws) p e = five_words a (four_of ws) ws p refl e

abbrev own_form : List Field
own_form =
    NameWord ∷ FixedWord (codes "heap") ∷ NumberWord 0 32768 ∷ FixedWord (codes "stack") ∷ NumberWord 64 32768 ∷ []

not_five : (ws : List (List ℕ)) → None ≡ five_of ws → same_length own_form ws ≡ false
not_five [] e = refl
not_five (a ∷ []) e = refl
not_five (a ∷ b ∷ []) e = refl
not_five (a ∷ b ∷ c ∷ []) e = refl
not_five (a ∷ b ∷ c ∷ d ∷ []) e = refl
not_five (a ∷ b ∷ c ∷ d ∷ x ∷ []) e = absurd cc
not_five (a ∷ b ∷ c ∷ d ∷ x ∷ y ∷ ws) e = refl

pub no_own_fault : (ws : List (List ℕ)) → None ≡ five_of ws → Some Words ≡ forms_fault (forms 0 first.Program) ws
no_own_fault ws e = sym (single_form own_form ws ∙ wrong_length own_form ws (not_five ws e))

pub own_fault : (ws : List (List ℕ)) (p : List ℕ × List ℕ × List ℕ × List ℕ × List ℕ) → Some p ≡ five_of ws
    → is_same (codes "heap") p.1 ≡ true → is_same (codes "stack") p.3 ≡ true
    → least (field_fault NameWord p.0) (least (field_fault (NumberWord 0 32768) p.2)
    (field_fault (NumberWord 64 32768) p.4)) ≡ forms_fault (forms 0 first.Program) ws
own_fault ws p e heap stack =
    let s : Option Kind = field_fault (NumberWord 64 32768) p.4 in
    let whole : form_fault own_form (p.0 ∷ p.1 ∷ p.2 ∷ p.3 ∷ p.4 ∷ [])
    ≡ least (field_fault NameWord p.0) (least (field_fault (NumberWord 0 32768) p.2) s) =
    ap (λ (b : Bool). least (field_fault NameWord p.0) (least (fault_if (not b) Words)
    (least (field_fault (NumberWord 0 32768) p.2) (least (fault_if (not (is_same (codes "stack") p.3)) Words)
    (least s None))))) heap
    ∙ ap (λ (b : Bool). least (field_fault NameWord p.0) (least (field_fault (NumberWord 0 32768) p.2)
    (least (fault_if (not b) Words) (least s None)))) stack
    ∙ ap (λ (k : Option Kind). least (field_fault NameWord p.0) (least (field_fault (NumberWord 0 32768) p.2) k))
    (least_none s) in
    sym (ap (λ (vs : List (List ℕ)). forms_fault (forms 0 first.Program) vs) (five_is ws p e)
    ∙ single_form own_form (p.0 ∷ p.1 ∷ p.2 ∷ p.3 ∷ p.4 ∷ []) ∙ whole)

pub wrong_heap : (ws : List (List ℕ)) (p : List ℕ × List ℕ × List ℕ × List ℕ × List ℕ) → Some p ≡ five_of ws
    → is_same (codes "heap") p.1 ≡ false → Some Words ≡ forms_fault (forms 0 first.Program) ws
wrong_heap ws p e h =
    let rest : List Field = NumberWord 0 32768 ∷ FixedWord (codes "stack") ∷ NumberWord 64 32768 ∷ [] in
    sym (ap (λ (vs : List (List ℕ)). forms_fault (forms 0 first.Program) vs) (five_is ws p e)
    ∙ single_form own_form (p.0 ∷ p.1 ∷ p.2 ∷ p.3 ∷ p.4 ∷ [])
    ∙ wrong_rest NameWord (FixedWord (codes "heap") ∷ rest) p.0 (p.1 ∷ p.2 ∷ p.3 ∷ p.4 ∷ [])
    (wrong_word (FixedWord (codes "heap")) rest p.1 (p.2 ∷ p.3 ∷ p.4 ∷ []) (other_word (codes "heap") p.1 h)))

pub wrong_stack : (ws : List (List ℕ)) (p : List ℕ × List ℕ × List ℕ × List ℕ × List ℕ) → Some p ≡ five_of ws
    → is_same (codes "stack") p.3 ≡ false → Some Words ≡ forms_fault (forms 0 first.Program) ws
wrong_stack ws p e h =
    let last : List Field = FixedWord (codes "stack") ∷ NumberWord 64 32768 ∷ [] in
    sym (ap (λ (vs : List (List ℕ)). forms_fault (forms 0 first.Program) vs) (five_is ws p e)
    ∙ single_form own_form (p.0 ∷ p.1 ∷ p.2 ∷ p.3 ∷ p.4 ∷ [])
    ∙ wrong_rest NameWord (FixedWord (codes "heap") ∷ NumberWord 0 32768 ∷ last) p.0 (p.1 ∷ p.2 ∷ p.3 ∷ p.4 ∷ [])
    (wrong_rest (FixedWord (codes "heap")) (NumberWord 0 32768 ∷ last) p.1 (p.2 ∷ p.3 ∷ p.4 ∷ [])
    (wrong_rest (NumberWord 0 32768) last p.2 (p.3 ∷ p.4 ∷ [])
    (wrong_word (FixedWord (codes "stack")) (NumberWord 64 32768 ∷ []) p.3 (p.4 ∷ [])
    (other_word (codes "stack") p.3 h)))))

pub own_text : (ws : List (List ℕ)) (p : List ℕ × List ℕ × List ℕ × List ℕ × List ℕ) (name : List ℕ) (heap stack : ℕ)
    → Some p ≡ five_of ws → is_same (codes "heap") p.1 ≡ true → is_same (codes "stack") p.3 ≡ true
    → p.0 ≡ name → p.2 ≡ decimal heap → p.4 ≡ decimal stack
    → codes "program" ∷ ws
    ≡ codes "program" ∷ name ∷ codes "heap" ∷ decimal heap ∷ codes "stack" ∷ decimal stack ∷ []
own_text ws p name heap stack e h s n a b =
    let w1 : codes "heap" ≡ p.1 = same_texts (codes "heap") p.1 h in
    let w3 : codes "stack" ≡ p.3 = same_texts (codes "stack") p.3 s in
    let whole : ws ≡ p.0 ∷ p.1 ∷ p.2 ∷ p.3 ∷ p.4 ∷ [] = five_is ws p e in
    rw (whole, ← w1, ← w3, n, a, b) refl

-- pages that don't fit have no fault before their numbers'
pub pages_err : (base size : List ℕ) (k : Kind)
    → Some k ≡ least (field_fault (NumberWord 0 1023) base) (field_fault (NumberWord 1 8) size)
    → Some k ≡ least (least (field_fault (NumberWord 0 1023) base) (field_fault (NumberWord 1 8) size))
    (pages_fault first.Module ([] ∷ base ∷ size ∷ []))
pages_err base size k e =
    let p : Option Kind = pages_fault first.Module ([] ∷ base ∷ size ∷ []) in
    let b : Option Kind = least (field_fault (NumberWord 0 1023) base) (field_fault (NumberWord 1 8) size) in
    let few : is_between 8 10 (Some k) ≡ true = ap (λ (o : Option Kind). is_between 8 10 o) e ∙
    between_least 8 10 (field_fault (NumberWord 0 1023) base) (field_fault (NumberWord 1 8) size)
    (number_field 0 1023 base) (number_field 1 8 size) in
    sym (ap (λ (o : Option Kind). least o p) (sym e)
    ∙ earlier 8 10 10 k p few (pages_between first.Module ([] ∷ base ∷ size ∷ [])))
