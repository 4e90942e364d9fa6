-- The handlers of the next image, which are dropped one after another.
use Rattle.std.specs.Prelude.{◌≡◌, ℕ, zero, suc, ◌+◌, ◌-◌, ◌≤◌, ◌<◌, true, List, [], ◌∷◌, ◌++◌, length, map, take, drop}
use Rattle.std.proofs.Common.{refl, sym, ◌∙◌, ap, subst, arith, set, get_or}
use Rattle.std.proofs.lemmas.Bool.{and_parts}
use Rattle.std.proofs.lemmas.List.{take_all, drop_all, append-nil}
use Rattle.std.proofs.lemmas.List.Edits.{map_over_more}
use Rattle.w32_base.specs.declared.instr.Action.{Action}
use Rattle.w32_base.specs.declared.instr.Action.TheVariants.{Default, Ignore, Handler}
use Rattle.layer_spec.specs.Heap.{HeapFields, IsHeap, IsHeapBytes, heap_bytes, is_action, are_actions, without_handler}
use Rattle.layer_spec.specs.HeapReads.{action_in}
use Rattle.layer_spec.specs.HeapInverse.{heap_back}
use Rattle.cygheap_image.specs.Fields.{fields_in}
use Rattle.cygheap_image.specs.Changes.{with_action, without_handlers}
use Rattle.cygheap_image.specs.FieldLaws.{heap_told, action_told, fields_back}
use Rattle.cygheap_image.proofs.Legal.{with_action_legal}

-- the fields with the handlers of signals 1 to k gone
unfoldable pub some_dropped : HeapFields → ℕ → HeapFields
some_dropped h k = record h { actions = map without_handler (take k h.actions) ++ drop k h.actions }

pub none_dropped : (h : HeapFields) → h ≡ some_dropped h 0
unfolding some_dropped
none_dropped h = refl

pub all_dropped : (h : HeapFields) (k : ℕ) → length h.actions ≡ 31 → k ≡ 31 → some_dropped h k ≡ without_handlers h
unfolding some_dropped
all_dropped h k size all =
    let few : length h.actions ≤ k = omega arith in
    ap (λ (xs : List Action). record h { actions = map without_handler xs ++ drop k h.actions })
    (take_all k h.actions few)
    ∙ ap (λ (xs : List Action). record h { actions = map without_handler h.actions ++ xs }) (drop_all k h.actions few)
    ∙ ap (λ (xs : List Action). record h { actions = xs }) (append-nil (map without_handler h.actions))

actions_at : (s : ℕ) (xs : List Action) (k : ℕ) (d : Action) → k < length xs → are_actions s xs ≡ true
    → is_action (s + k) (get_or xs k d) ≡ true
actions_at s [] k d within all = absurd (omega arith)
actions_at s (y ∷ ys) zero d within all =
    let same : s ≡ s + 0 = omega arith in
    subst (λ (n : ℕ). is_action n y ≡ true) same (and_parts (is_action s y) (are_actions (s + 1) ys) all).0
actions_at s (y ∷ ys) (suc k) d within all =
    let same : s + 1 + k ≡ s + suc k = omega arith in
    let inside : k < length ys = omega arith in
    subst (λ (n : ℕ). is_action n (get_or ys k d) ≡ true) same
    (actions_at (s + 1) ys k d inside (and_parts (is_action s y) (are_actions (s + 1) ys) all).1)

default_fits : (s : ℕ) (a : Action) → is_action s a ≡ true → is_action s (without_handler a) ≡ true
default_fits s Default h = refl
default_fits s Ignore h = h
default_fits s (Handler target restart) h = refl

-- the action of a signal, and what becomes of it, may be that signal's
pub dropped_fits : (bytes : List ℕ) (s : ℕ) (a : Action) → IsHeapBytes bytes → 1 ≤ s → s < 32
    → a ≡ without_handler (action_in bytes s) → is_action s a ≡ true
dropped_fits bytes s a kept from to is =
    let legal = (heap_told bytes kept).0 in
    let inside : s - 1 < length (fields_in bytes).actions = omega (arith, legal.action_count) in
    let place : 1 + (s - 1) ≡ s = omega arith in
    let next : s - 1 + 1 ≡ s = omega arith in
    let there = actions_at 1 (fields_in bytes).actions (s - 1) Default inside legal.actions in
    let read : get_or (fields_in bytes).actions (s - 1) Default ≡ action_in bytes s
    = action_told bytes (s - 1) Default (omega arith) ∙ ap (action_in bytes) next in
    let here : is_action s (action_in bytes s) ≡ true
    = subst (λ (x : Action). is_action s x ≡ true) read
    (subst (λ (n : ℕ). is_action n (get_or (fields_in bytes).actions (s - 1) Default) ≡ true) place there) in
    subst (λ (x : Action). is_action s x ≡ true) (sym is) (default_fits s (action_in bytes s) here)

-- one more is dropped
pub dropped_more : (h : HeapFields) (bytes new : List ℕ) (s : ℕ) (a : Action) → length h.actions ≡ 31
    → IsHeapBytes bytes → 1 ≤ s → s < 32 → fields_in bytes ≡ some_dropped h (s - 1)
    → a ≡ without_handler (action_in bytes s) → new ≡ heap_bytes (with_action (fields_in bytes) s a)
    → fields_in new ≡ some_dropped h s
unfolding some_dropped
dropped_more h bytes new s a size kept from to before is wrote =
    let told = heap_told bytes kept in
    let legal = with_action_legal (fields_in bytes) s a told.0 from (dropped_fits bytes s a kept from to is) in
    let next : s - 1 + 1 ≡ s = omega arith in
    let x : Action = action_in bytes s in
    let read : x ≡ get_or (fields_in bytes).actions (s - 1) x
    = sym (action_told bytes (s - 1) x (omega arith) ∙ ap (action_in bytes) next) in
    let inside : s - 1 < length h.actions = omega arith in
    let one : set (fields_in bytes).actions (s - 1) (without_handler x)
    ≡ map without_handler (take (s - 1 + 1) h.actions) ++ drop (s - 1 + 1) h.actions
    = map_over_more without_handler h.actions (fields_in bytes).actions (s - 1) x inside
    (ap (λ (f : HeapFields). f.actions) before) read in
    ap fields_in wrote
    ∙ fields_back (with_action (fields_in bytes) s a) legal
    ∙ ap (λ (y : Action). with_action (fields_in bytes) s y) is
    ∙ ap (λ (f : HeapFields). record f { actions = set (fields_in bytes).actions (s - 1) (without_handler x) }) before
    ∙ ap (λ (xs : List Action). record h { actions = xs }) one
    ∙ ap (λ (k : ℕ). record h { actions = map without_handler (take k h.actions) ++ drop k h.actions }) next
