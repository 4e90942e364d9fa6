-- The bytes of a cygheap's actions, bases and children fit.
use Rattle.std.specs.Prelude.{◌≡◌, ℕ, zero, suc, ◌+◌, ◌-◌, ◌*◌, ◌/◌, ◌%◌, ◌≤◌, ◌<◌, Bool, true, false, ◌&&◌, nat_eq}
use Rattle.std.specs.Prelude.{nat_le, if◌then◌else◌, List, [], ◌∷◌, ◌++◌, length, flat_map}
use Rattle.std.specs.List.{list_all}
use Rattle.std.proofs.Common.{inl, inr, refl, sym, ◌∙◌, ap, subst, arith, append_assoc, length-append}
use Rattle.std.proofs.lemmas.Bool.{cases_lt, lt-ltb, le-leb, leb-true, and_parts, and_from}
use Rattle.std.proofs.lemmas.Bool.Decides.{nat_tests}
use Rattle.w32_base.specs.declared.instr.Action.{Action}
use Rattle.w32_base.specs.declared.instr.Action.TheVariants.{Default, Ignore, Handler}
use Rattle.layer_spec.specs.Rows.{bit_of}
use Rattle.layer_spec.specs.Heap.{HeapChild, is_action, are_actions, is_base, is_child, two_bytes, action_bytes}
use Rattle.layer_spec.specs.Heap.{child_bytes}
use Rattle.layer_spec.specs.HeapReads.{byte_at}
use Rattle.layer_spec.specs.HeapLaws.{action_size}
use Rattle.layer_spec.specs.HeapBreaks.{is_byte, fits_action, fits_child, fits_at}
use Rattle.layer_spec.specs.ReadLaws.{byte_at-behind, byte_at-seam}
use Rattle.layer_spec.specs.BreakParts.{fits_in_actions, fits_in_bases}
use Rattle.layer_spec.specs.BreakFits.{zero_in_action}

ignored_fits : (s : ℕ) → is_action s Ignore ≡ true → fits_action s 1 0 1 ≡ true
ignored_fits s h = grind (arith, nat_tests)

handled_fits : (s target : ℕ) (restart : Bool) → is_action s (Handler target restart) ≡ true → fits_action s 2 0 2
    ≡ true
handled_fits s target restart h = grind (arith, nat_tests)

bit_fits : (s : ℕ) (b : Bool) → fits_action s 2 1 (bit_of b) ≡ true
bit_fits s true = refl
bit_fits s false = refl

pub byte_fits : (n : ℕ) → is_byte (n % 256) ≡ true
byte_fits n = let small : n % 256 < 256 = omega arith in lt-ltb (n % 256) 256 small

-- byte j of an action
action_fits : (s : ℕ) (a : Action) (rest : List ℕ) (j : ℕ) → j < 4 → is_action s a ≡ true
    → fits_action s (byte_at (action_bytes a ++ rest) 0) j (byte_at (action_bytes a ++ rest) j) ≡ true
action_fits s Default rest zero h ok = zero_in_action s 0 0
action_fits s Default rest (suc zero) h ok = zero_in_action s 0 1
action_fits s Default rest (suc (suc zero)) h ok = zero_in_action s 0 2
action_fits s Default rest (suc (suc (suc zero))) h ok = zero_in_action s 0 3
action_fits s Default rest (suc (suc (suc (suc k)))) h ok = absurd (omega arith)
action_fits s Ignore rest zero h ok = ignored_fits s ok
action_fits s Ignore rest (suc zero) h ok = refl
action_fits s Ignore rest (suc (suc zero)) h ok = refl
action_fits s Ignore rest (suc (suc (suc zero))) h ok = refl
action_fits s Ignore rest (suc (suc (suc (suc k)))) h ok = absurd (omega arith)
action_fits s (Handler target restart) rest zero h ok = handled_fits s target restart ok
action_fits s (Handler target restart) rest (suc zero) h ok = bit_fits s restart
action_fits s (Handler target restart) rest (suc (suc zero)) h ok = byte_fits target
action_fits s (Handler target restart) rest (suc (suc (suc zero))) h ok = byte_fits (target / 256)
action_fits s (Handler target restart) rest (suc (suc (suc (suc k)))) h ok = absurd (omega arith)

-- the action of signal s behind other bytes
action_fits_at : (s : ℕ) (a : Action) (before rest : List ℕ) (i : ℕ) → is_action s a ≡ true → length before ≡ 12 + 4 * s
    → 1 ≤ s → s ≤ 31 → 12 + 4 * s ≤ i → i < 16 + 4 * s
    → fits_at (before ++ (action_bytes a ++ rest)) i (byte_at (before ++ (action_bytes a ++ rest)) i) ≡ true
action_fits_at s a before rest i ok size from to low high =
    let bytes : List ℕ = before ++ (action_bytes a ++ rest) in
    let j : ℕ = i - (12 + 4 * s) in
    let number : i / 4 - 3 ≡ s = omega arith in
    let start : i - i % 4 ≡ length before = omega arith in
    let place : i % 4 ≡ j = omega arith in
    let at : i ≡ length before + j = omega arith in
    let kind : byte_at bytes (i - i % 4) ≡ byte_at (action_bytes a ++ rest) 0
    = ap (byte_at bytes) start ∙ byte_at-seam before (action_bytes a ++ rest) in
    let here : byte_at bytes i ≡ byte_at (action_bytes a ++ rest) j
    = ap (byte_at bytes) at ∙ byte_at-behind before (action_bytes a ++ rest) j in
    fits_in_actions bytes i (byte_at bytes i) (omega arith) (omega arith)
    ∙ rw (kind, number, place, here) (action_fits s a rest j (omega arith) ok)

pub actions_fit : (s : ℕ) (actions : List Action) (before after : List ℕ) (i : ℕ) → are_actions s actions ≡ true
    → length before ≡ 12 + 4 * s → 1 ≤ s → s + length actions ≤ 32 → 12 + 4 * s ≤ i → i < 12 + 4 * (s + length actions)
    → fits_at (before ++ (flat_map action_bytes actions ++ after)) i
    (byte_at (before ++ (flat_map action_bytes actions ++ after)) i) ≡ true
actions_fit s [] before after i ok size from to low high = absurd (omega arith)
actions_fit s (a ∷ actions) before after i ok size from to low high =
    let others : List ℕ = flat_map action_bytes actions in
    let both = and_parts (is_action s a) (are_actions (s + 1) actions) ok in
    let inner : (action_bytes a ++ others) ++ after ≡ action_bytes a ++ (others ++ after)
    = append_assoc (action_bytes a) others after in
    let nested : before ++ ((action_bytes a ++ others) ++ after) ≡ before ++ (action_bytes a ++ (others ++ after))
    = ap (λ bytes. before ++ bytes) inner in
    elim (cases_lt i (16 + 4 * s)) [
      | inl now ↦ subst (λ (bytes : List ℕ). fits_at bytes i (byte_at bytes i) ≡ true) (sym nested)
          (action_fits_at s a before (others ++ after) i both.0 size from (omega arith) low now)
      | inr later ↦
          let further : length (before ++ action_bytes a) ≡ 12 + 4 * (s + 1)
          = omega (arith, length-append before (action_bytes a), action_size a, size) in
          subst (λ (bytes : List ℕ). fits_at bytes i (byte_at bytes i) ≡ true)
          (sym (nested ∙ sym (append_assoc before (action_bytes a) (others ++ after))))
          (actions_fit (s + 1) actions (before ++ action_bytes a) after i both.1 further (omega arith) (omega arith)
          (omega arith) (omega arith))
    ]

-- byte j of a base
base_fits : (n : ℕ) (rest : List ℕ) (j : ℕ) → j < 2 → is_base n ≡ true
    → (if nat_eq j 0 then is_byte (byte_at (two_bytes n ++ rest) j) else nat_le (byte_at (two_bytes n ++ rest) j) 3)
    ≡ true
base_fits n rest zero h ok = byte_fits n
base_fits n rest (suc zero) h ok =
    let small : n ≤ 1023 = leb-true n 1023 ok in
    let high : n / 256 % 256 ≤ 3 = omega arith in
    le-leb (n / 256 % 256) 3 high
base_fits n rest (suc (suc k)) h ok = absurd (omega arith)

base_fits_at : (m n : ℕ) (before rest : List ℕ) (i : ℕ) → is_base n ≡ true → length before ≡ 140 + 2 * m
    → m ≤ 7 → 140 + 2 * m ≤ i → i < 142 + 2 * m
    → fits_at (before ++ (two_bytes n ++ rest)) i (byte_at (before ++ (two_bytes n ++ rest)) i) ≡ true
base_fits_at m n before rest i ok size to low high =
    let bytes : List ℕ = before ++ (two_bytes n ++ rest) in
    let j : ℕ = i - (140 + 2 * m) in
    let place : i % 2 ≡ j = omega arith in
    let at : i ≡ length before + j = omega arith in
    let here : byte_at bytes i ≡ byte_at (two_bytes n ++ rest) j
    = ap (byte_at bytes) at ∙ byte_at-behind before (two_bytes n ++ rest) j in
    fits_in_bases bytes i (byte_at bytes i) (omega arith) (omega arith)
    ∙ rw (place, here) (base_fits n rest j (omega arith) ok)

pub bases_fit : (m : ℕ) (bases : List ℕ) (before after : List ℕ) (i : ℕ) → list_all is_base bases ≡ true
    → length before ≡ 140 + 2 * m → m + length bases ≤ 8 → 140 + 2 * m ≤ i → i < 140 + 2 * (m + length bases)
    → fits_at (before ++ (flat_map two_bytes bases ++ after)) i
    (byte_at (before ++ (flat_map two_bytes bases ++ after)) i) ≡ true
bases_fit m [] before after i ok size to low high = absurd (omega arith)
bases_fit m (n ∷ bases) before after i ok size to low high =
    let others : List ℕ = flat_map two_bytes bases in
    let both = and_parts (is_base n) (list_all is_base bases) ok in
    let nested : before ++ ((two_bytes n ++ others) ++ after) ≡ before ++ (two_bytes n ++ (others ++ after))
    = ap (λ bytes. before ++ bytes) (append_assoc (two_bytes n) others after) in
    elim (cases_lt i (142 + 2 * m)) [
      | inl now ↦ subst (λ (bytes : List ℕ). fits_at bytes i (byte_at bytes i) ≡ true) (sym nested)
          (base_fits_at m n before (others ++ after) i both.0 size (omega arith) low now)
      | inr later ↦
          let further : length (before ++ two_bytes n) ≡ 140 + 2 * (m + 1)
          = omega (arith, length-append before (two_bytes n), size) in
          subst (λ (bytes : List ℕ). fits_at bytes i (byte_at bytes i) ≡ true)
          (sym (nested ∙ sym (append_assoc before (two_bytes n) (others ++ after))))
          (bases_fit (m + 1) bases (before ++ two_bytes n) after i both.1 further (omega arith) (omega arith)
          (omega arith))
    ]

-- byte j of a child, whose first byte is `low`
flag_fits : (b : Bool) → nat_le (bit_of b % 256) 1 ≡ true
flag_fits true = refl
flag_fits false = refl

flag_end_fits : (b : Bool) → nat_eq (bit_of b / 256 % 256) 0 ≡ true
flag_end_fits true = refl
flag_end_fits false = refl

child_number_fits : (n low : ℕ) → nat_le 2 n ≡ true → nat_le n 4001 ≡ true → low ≡ n % 256
    → (nat_le 2 (low + 256 * (n / 256 % 256)) && nat_le (low + 256 * (n / 256 % 256)) 4001) ≡ true
child_number_fits n low from to e =
    let least : 2 ≤ n = leb-true 2 n from in
    let most : n ≤ 4001 = leb-true n 4001 to in
    let same : low + 256 * (n / 256 % 256) ≡ n = omega arith in
    rw same (and_from (nat_le 2 n) (nat_le n 4001) from to)

pub child_fits : (c : HeapChild) (rest : List ℕ) (j low : ℕ) → j < 4 → is_child c ≡ true
    → (j ≡ 1 → low ≡ c.number % 256)
    → fits_child low j (byte_at (child_bytes c ++ rest) j) ≡ true
child_fits c rest zero low h ok first = byte_fits c.number
child_fits c rest (suc zero) low h ok first =
    let both = and_parts (nat_le 2 c.number) (nat_le c.number 4001) ok in
    child_number_fits c.number low both.0 both.1 (first refl)
child_fits c rest (suc (suc zero)) low h ok first = flag_fits c.noted
child_fits c rest (suc (suc (suc zero))) low h ok first = flag_end_fits c.noted
child_fits c rest (suc (suc (suc (suc k)))) low h ok first = absurd (omega arith)
