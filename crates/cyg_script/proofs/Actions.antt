-- The words of `action`.
use Rattle.std.proofs.Common.{◌≡◌, ℕ, ◌<◌, Bool, true, false, List, [], ◌∷◌, Option, Some, None, refl, sym, ap}
use Rattle.std.proofs.Common.{subst, ◌∙◌}
use Rattle.std.specs.Prelude.{codes, option_map, Result, IfOk}
use Rattle.std.specs.Fmt.{decimal}
use Rattle.std.proofs.lemmas.Bool.{ltb-true}
use Rattle.w32_base.specs.Names.{is_same}
use Rattle.w32_base.specs.declared.instr.Action.TheVariants.{Default, Ignore, Handler}
use Rattle.w32_base.specs.declared.instr.Instr.{Instr}
use Rattle.w32_base.specs.declared.instr.Instr.TheVariants as instr
use Rattle.w32_base.specs.declared.instr.Operand.{Operand}
use Rattle.script_spec.specs.declared.fault.InstrWord.TheVariants as word
use Rattle.script_spec.specs.declared.fault.Kind.{Kind}
use Rattle.script_spec.specs.declared.fault.Kind.TheVariants.{Words}
use Rattle.script_spec.specs.Faults.{least}
use Rattle.script_spec.specs.Fields.{Field, FixedWord, ValueWord, PlaceWord, field_fault}
use Rattle.script_spec.specs.Forms.{form_fault, forms_fault, instr_forms, kept_form, place_as}
use Rattle.script_spec.specs.InstrText.{instr_words, operand_text}
use Rattle.script_spec.specs.Numbers.{value_of}
use Rattle.cyg_script.specs.Instructions.{clamped, restart_words, IsRead}
use Rattle.cyg_script.specs.Results.{fault_in}
use Rattle.cyg_script.specs.Words.{two_of, three_of, four_of}
use Rattle.cyg_script.proofs.Forms.{least_none}
use Rattle.cyg_script.proofs.Choices.{wrong_word, wrong_rest, wrong_length, other_word, skip, skip_fault, chosen}
use Rattle.cyg_script.proofs.Choices.{chosen_fault, not_two, not_three, not_four, same_texts}

-- `action V default` or `action V ignore`, `action V handler N`, and that with `restart`
abbrev pub plain : List ℕ → List Field
plain text = ValueWord ∷ FixedWord text ∷ []

abbrev pub handler : List Field
handler = ValueWord ∷ FixedWord (codes "handler") ∷ PlaceWord ∷ []

abbrev pub again : List Field
again = ValueWord ∷ FixedWord (codes "handler") ∷ PlaceWord ∷ FixedWord (codes "restart") ∷ []

abbrev pub fault_of : List (List ℕ) → Option Kind
fault_of ws = forms_fault (instr_forms word.Action) ws

abbrev pub place_of : List (List ℕ) → Option ℕ
place_of ws = place_as ws (kept_form (instr_forms word.Action) ws)

skip_plain : (ws : List (List ℕ)) → form_fault (plain (codes "default")) ws ≡ Some Words
    → form_fault (plain (codes "ignore")) ws ≡ Some Words
    → kept_form (instr_forms word.Action) ws ≡ kept_form (handler ∷ again ∷ []) ws
skip_plain ws h k =
    skip (plain (codes "default")) (plain (codes "ignore") ∷ handler ∷ again ∷ []) ws h
    ∙ skip (plain (codes "ignore")) (handler ∷ again ∷ []) ws k

skip_plain_fault : (ws : List (List ℕ)) → form_fault (plain (codes "default")) ws ≡ Some Words
    → form_fault (plain (codes "ignore")) ws ≡ Some Words
    → fault_of ws ≡ forms_fault (handler ∷ again ∷ []) ws
skip_plain_fault ws h k =
    skip_fault (plain (codes "default")) (plain (codes "ignore") ∷ handler ∷ again ∷ []) ws h
    ∙ skip_fault (plain (codes "ignore")) (handler ∷ again ∷ []) ws k

skip_handlers : (ws : List (List ℕ)) → form_fault handler ws ≡ Some Words → form_fault again ws ≡ Some Words
    → forms_fault (handler ∷ again ∷ []) ws ≡ Some Words
skip_handlers ws h k = skip_fault handler (again ∷ []) ws h ∙ skip_fault again [] ws k

other_plain : (text s w : List ℕ) → is_same text w ≡ false → form_fault (plain text) (s ∷ w ∷ []) ≡ Some Words
other_plain text s w h = wrong_rest ValueWord (FixedWord text ∷ []) s (w ∷ [])
    (wrong_word (FixedWord text) [] w [] (other_word text w h))

-- ---- two words

no_handler : (s w : List ℕ) → forms_fault (handler ∷ again ∷ []) (s ∷ w ∷ []) ≡ Some Words
no_handler s w = skip_handlers (s ∷ w ∷ []) (wrong_length handler (s ∷ w ∷ []) refl)
    (wrong_length again (s ∷ w ∷ []) refl)

pub no_plain : (s w : List ℕ) → is_same (codes "default") w ≡ false → is_same (codes "ignore") w ≡ false
    → fault_of (s ∷ w ∷ []) ≡ Some Words
no_plain s w h k =
    skip_plain_fault (s ∷ w ∷ []) (other_plain (codes "default") s w h) (other_plain (codes "ignore") s w k)
    ∙ no_handler s w

default_known : (s : List ℕ) → fault_of (s ∷ codes "default" ∷ []) ≡ field_fault ValueWord s
default_known s =
    chosen_fault (plain (codes "default")) (plain (codes "ignore") ∷ handler ∷ again ∷ []) (s ∷ codes "default" ∷ []) (
    skip_fault (plain (codes "ignore")) (handler ∷ again ∷ []) (s ∷ codes "default" ∷ [])
    (other_plain (codes "ignore") s (codes "default") refl)
    ∙ no_handler s (codes "default"))
    ∙ least_none (field_fault ValueWord s)

ignore_known : (s : List ℕ) → fault_of (s ∷ codes "ignore" ∷ []) ≡ field_fault ValueWord s
ignore_known s =
    skip_fault (plain (codes "default")) (plain (codes "ignore") ∷ handler ∷ again ∷ []) (s ∷ codes "ignore" ∷ [])
    (other_plain (codes "default") s (codes "ignore") refl)
    ∙ chosen_fault (plain (codes "ignore")) (handler ∷ again ∷ []) (s ∷ codes "ignore" ∷ [])
    (no_handler s (codes "ignore"))
    ∙ least_none (field_fault ValueWord s)

pub default_fault : (s w : List ℕ) → is_same (codes "default") w ≡ true → field_fault ValueWord s
    ≡ fault_of (s ∷ w ∷ [])
default_fault s w e =
    sym (default_known s) ∙ ap (λ (t : List ℕ). fault_of (s ∷ t ∷ [])) (same_texts (codes "default") w e)

pub ignore_fault : (s w : List ℕ) → is_same (codes "ignore") w ≡ true → field_fault ValueWord s ≡ fault_of (s ∷ w ∷ [])
ignore_fault s w e = sym (ignore_known s) ∙ ap (λ (t : List ℕ). fault_of (s ∷ t ∷ [])) (same_texts (codes "ignore") w e)

default_place : (s : List ℕ) → field_fault ValueWord s ≡ None → place_of (s ∷ codes "default" ∷ []) ≡ None
default_place s k =
    ap (λ (o : Option (List Field)). place_as (s ∷ codes "default" ∷ []) o)
    (chosen (plain (codes "default")) (plain (codes "ignore") ∷ handler ∷ again ∷ []) (s ∷ codes "default" ∷ [])
    (least_none (field_fault ValueWord s) ∙ k))

ignore_place : (s : List ℕ) → field_fault ValueWord s ≡ None → place_of (s ∷ codes "ignore" ∷ []) ≡ None
ignore_place s k =
    ap (λ (o : Option (List Field)). place_as (s ∷ codes "ignore" ∷ []) o)
    (skip (plain (codes "default")) (plain (codes "ignore") ∷ handler ∷ again ∷ []) (s ∷ codes "ignore" ∷ [])
    (other_plain (codes "default") s (codes "ignore") refl)
    ∙ chosen (plain (codes "ignore")) (handler ∷ again ∷ []) (s ∷ codes "ignore" ∷ [])
    (least_none (field_fault ValueWord s) ∙ k))

pub default_read : (s w : List ℕ) (v : Operand) → is_same (codes "default") w ≡ true → None
    ≡ field_fault ValueWord s → s ≡ operand_text v
    → IsRead word.Action (s ∷ w ∷ []) (instr.Action v Default)
default_read s w v e k h =
    subst (λ (t : List ℕ). IsRead word.Action (s ∷ t ∷ []) (instr.Action v Default))
    (same_texts (codes "default") w e) (
      ap (λ (p : Option ℕ). option_map clamped p) (default_place s (sym k)),
      λ below. ap (λ (t : List ℕ). codes "action" ∷ t ∷ codes "default" ∷ []) h,
    )

pub ignore_read : (s w : List ℕ) (v : Operand) → is_same (codes "ignore") w ≡ true → None ≡ field_fault ValueWord s
    → s ≡ operand_text v
    → IsRead word.Action (s ∷ w ∷ []) (instr.Action v Ignore)
ignore_read s w v e k h =
    subst (λ (t : List ℕ). IsRead word.Action (s ∷ t ∷ []) (instr.Action v Ignore)) (same_texts (codes "ignore") w e) (
      ap (λ (p : Option ℕ). option_map clamped p) (ignore_place s (sym k)),
      λ below. ap (λ (t : List ℕ). codes "action" ∷ t ∷ codes "ignore" ∷ []) h,
    )

-- ---- three and four words

-- `action V TEXT N` or `action V TEXT N restart`
abbrev pub long : List ℕ → List ℕ → List ℕ → Bool → List (List ℕ)
long s w at b = s ∷ w ∷ at ∷ restart_words b

long_plain : (text s w at : List ℕ) (b : Bool) → form_fault (plain text) (long s w at b) ≡ Some Words
long_plain text s w at true = wrong_length (plain text) (long s w at true) refl
long_plain text s w at false = wrong_length (plain text) (long s w at false) refl

skip_long : (s w at : List ℕ) (b : Bool) → kept_form (instr_forms word.Action) (long s w at b)
    ≡ kept_form (handler ∷ again ∷ []) (long s w at b)
skip_long s w at b = skip_plain (long s w at b) (long_plain (codes "default") s w at b)
    (long_plain (codes "ignore") s w at b)

skip_long_fault : (s w at : List ℕ) (b : Bool) → fault_of (long s w at b)
    ≡ forms_fault (handler ∷ again ∷ []) (long s w at b)
skip_long_fault s w at b = skip_plain_fault (long s w at b) (long_plain (codes "default") s w at b)
    (long_plain (codes "ignore") s w at b)

other_long : (fs : List Field) (s w : List ℕ) (ws : List (List ℕ)) → is_same (codes "handler") w ≡ false
    → form_fault (ValueWord ∷ FixedWord (codes "handler") ∷ fs) (s ∷ w ∷ ws) ≡ Some Words
other_long fs s w ws h =
    wrong_rest ValueWord (FixedWord (codes "handler") ∷ fs) s (w ∷ ws)
    (wrong_word (FixedWord (codes "handler")) fs w ws (other_word (codes "handler") w h))

pub no_long : (s w at : List ℕ) (b : Bool) → is_same (codes "handler") w ≡ false → Some Words ≡ fault_of (long s w at b)
no_long s w at b h =
    sym (skip_long_fault s w at b
    ∙ skip_handlers (long s w at b) (other_long (PlaceWord ∷ []) s w (at ∷ restart_words b) h)
    (other_long (PlaceWord ∷ FixedWord (codes "restart") ∷ []) s w (at ∷ restart_words b) h))

long_known : (s at : List ℕ) (b : Bool) → fault_of (long s (codes "handler") at b)
    ≡ least (field_fault ValueWord s) (field_fault PlaceWord at)
long_known s at true =
    skip_long_fault s (codes "handler") at true
    ∙ skip_fault handler (again ∷ []) (long s (codes "handler") at true)
    (wrong_length handler (long s (codes "handler") at true) refl)
    ∙ chosen_fault again [] (long s (codes "handler") at true) refl
    ∙ ap (λ (k : Option Kind). least (field_fault ValueWord s) k) (least_none (field_fault PlaceWord at))
long_known s at false =
    skip_long_fault s (codes "handler") at false
    ∙ chosen_fault handler (again ∷ []) (long s (codes "handler") at false)
    (skip_fault again [] (long s (codes "handler") at false)
    (wrong_length again (long s (codes "handler") at false) refl))
    ∙ ap (λ (k : Option Kind). least (field_fault ValueWord s) k) (least_none (field_fault PlaceWord at))

pub long_fault : (s w at : List ℕ) (b : Bool) → is_same (codes "handler") w ≡ true
    → least (field_fault ValueWord s) (field_fault PlaceWord at) ≡ fault_of (long s w at b)
long_fault s w at b e = sym (long_known s at b) ∙ ap (λ (t : List ℕ). fault_of (long s t at b))
    (same_texts (codes "handler") w e)

long_place : (s at : List ℕ) (b : Bool) → least (field_fault ValueWord s) (field_fault PlaceWord at) ≡ None
    → place_of (long s (codes "handler") at b) ≡ Some (value_of at)
long_place s at true k =
    ap (λ (o : Option (List Field)). place_as (long s (codes "handler") at true) o)
    (skip_long s (codes "handler") at true
    ∙ skip handler (again ∷ []) (long s (codes "handler") at true)
    (wrong_length handler (long s (codes "handler") at true) refl)
    ∙ chosen again [] (long s (codes "handler") at true)
    (ap (λ (j : Option Kind). least (field_fault ValueWord s) j) (least_none (field_fault PlaceWord at)) ∙ k))
long_place s at false k =
    ap (λ (o : Option (List Field)). place_as (long s (codes "handler") at false) o)
    (skip_long s (codes "handler") at false
    ∙ chosen handler (again ∷ []) (long s (codes "handler") at false)
    (ap (λ (j : Option Kind). least (field_fault ValueWord s) j) (least_none (field_fault PlaceWord at)) ∙ k))

long_text : (s at : List ℕ) (b : Bool) (v : Operand) (p : ℕ) → s ≡ operand_text v → at ≡ decimal p
    → codes "action" ∷ long s (codes "handler") at b ≡ instr_words (instr.Action v (Handler p b))
long_text s at true v p h k =
    ap (λ (t : List ℕ). codes "action" ∷ long t (codes "handler") at true) h
    ∙ ap (λ (t : List ℕ). codes "action" ∷ long (operand_text v) (codes "handler") t true) k
long_text s at false v p h k =
    ap (λ (t : List ℕ). codes "action" ∷ long t (codes "handler") at false) h
    ∙ ap (λ (t : List ℕ). codes "action" ∷ long (operand_text v) (codes "handler") t false) k

pub long_read : (s w at : List ℕ) (b : Bool) (v : Operand) (p : ℕ) → is_same (codes "handler") w ≡ true
    → None ≡ least (field_fault ValueWord s) (field_fault PlaceWord at) → s ≡ operand_text v → p ≡ clamped (value_of at)
    → (p < 65535 → at ≡ decimal p) → IsRead word.Action (long s w at b) (instr.Action v (Handler p b))
long_read s w at b v p e k h is l =
    subst (λ (t : List ℕ). IsRead word.Action (long s t at b) (instr.Action v (Handler p b)))
    (same_texts (codes "handler") w e) (
      ap (λ (o : Option ℕ). option_map clamped o) (long_place s at b (sym k)) ∙ ap (λ (n : ℕ). Some n) (sym is),
      λ below. long_text s at b v p h (l (ltb-true p 65535 below)),
    )

-- another fourth word than `restart`
pub no_restart : (s w at last : List ℕ) → is_same (codes "restart") last ≡ false → Some Words
    ≡ fault_of (s ∷ w ∷ at ∷ last ∷ [])
no_restart s w at last h =
    sym (skip_plain_fault (s ∷ w ∷ at ∷ last ∷ []) (wrong_length (plain (codes "default")) (s ∷ w ∷ at ∷ last ∷ [])
    refl)
    (wrong_length (plain (codes "ignore")) (s ∷ w ∷ at ∷ last ∷ []) refl)
    ∙ skip_handlers (s ∷ w ∷ at ∷ last ∷ []) (wrong_length handler (s ∷ w ∷ at ∷ last ∷ []) refl)
    (wrong_rest ValueWord (FixedWord (codes "handler") ∷ PlaceWord ∷ FixedWord (codes "restart") ∷ []) s
    (w ∷ at ∷ last ∷ [])
    (wrong_rest (FixedWord (codes "handler")) (PlaceWord ∷ FixedWord (codes "restart") ∷ []) w (at ∷ last ∷ [])
    (wrong_rest PlaceWord (FixedWord (codes "restart") ∷ []) at (last ∷ [])
    (wrong_word (FixedWord (codes "restart")) [] last [] (other_word (codes "restart") last h))))))

-- another number of words than two, three or four
pub action_length : (ws : List (List ℕ)) → None ≡ two_of ws → None ≡ three_of ws → None ≡ four_of ws → Some Words
    ≡ fault_of ws
action_length ws e f g =
    sym (skip_plain_fault ws (wrong_length (plain (codes "default")) ws
    (not_two ValueWord (FixedWord (codes "default")) ws e))
    (wrong_length (plain (codes "ignore")) ws (not_two ValueWord (FixedWord (codes "ignore")) ws e))
    ∙ skip_handlers ws (wrong_length handler ws (not_three ValueWord (FixedWord (codes "handler")) PlaceWord ws f))
    (wrong_length again ws (not_four ValueWord (FixedWord (codes "handler")) PlaceWord (FixedWord (codes "restart"))
    ws g)))

-- `restart` as the fourth word
pub last_fault : (r : Result Instr Kind) (s w at last : List ℕ) → is_same (codes "restart") last ≡ true → fault_in r
    ≡ fault_of (long s w at true)
    → fault_in r ≡ fault_of (s ∷ w ∷ at ∷ last ∷ [])
last_fault r s w at last e h = h ∙ ap (λ (t : List ℕ). fault_of (s ∷ w ∷ at ∷ t ∷ []))
    (same_texts (codes "restart") last e)

pub last_read : (r : Result Instr Kind) (s w at last : List ℕ) → is_same (codes "restart") last ≡ true
    → IfOk r (IsRead word.Action (long s w at true)) → IfOk r (IsRead word.Action (s ∷ w ∷ at ∷ last ∷ []))
last_read r s w at last e h =
    subst (λ (t : List ℕ). IfOk r (IsRead word.Action (s ∷ w ∷ at ∷ t ∷ []))) (same_texts (codes "restart") last e) h
