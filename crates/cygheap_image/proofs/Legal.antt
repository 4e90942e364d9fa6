-- Changed fields keep their ranges.
use Rattle.std.specs.Prelude.{◌≡◌, ℕ, zero, suc, ◌+◌, ◌-◌, ◌≤◌, ◌<◌, Bool, true, false, ◌&&◌, nat_le, List, [], ◌∷◌}
use Rattle.std.specs.Prelude.{◌++◌, length}
use Rattle.std.specs.Prelude.{Option, replicate, take, drop}
use Rattle.std.specs.List.{list_all, remove}
use Rattle.std.proofs.Common.{refl, sym, ◌∙◌, ap, subst, arith, set, get_or, length-append, length-set}
use Rattle.std.proofs.lemmas.Bool.{and_parts, and_from, leb-true, le-leb}
use Rattle.std.proofs.lemmas.List.{length-map}
use Rattle.std.proofs.lemmas.List.Folds.{list_all-append}
use Rattle.std.proofs.lemmas.List.Edits.{length-remove}
use Rattle.w32_base.specs.declared.instr.Action.{Action}
use Rattle.layer_spec.specs.Heap.{HeapChild, HeapFields, IsHeap, is_mask, is_saved_mask, is_action, are_actions}
use Rattle.layer_spec.specs.Heap.{is_base}
use Rattle.layer_spec.specs.Heap.{is_child, without_handler}
use Rattle.layer_spec.specs.HeapInverse.{for_exec_legal}
use Rattle.cygheap_image.specs.Changes.{with_mask, with_saved, with_owed, with_action, with_base, with_child}
use Rattle.cygheap_image.specs.Changes.{without_child, with_note, without_children, without_bases, without_handlers}

-- one element set
all_set : {X : Type 0} (p : X → Bool) (xs : List X) (k : ℕ) (x : X) → p x ≡ true → list_all p xs ≡ true
    → list_all p (set xs k x) ≡ true
all_set p [] k x here all = refl
all_set p (y ∷ ys) zero x here all = and_from (p x) (list_all p ys) here (and_parts (p y) (list_all p ys) all).1
all_set p (y ∷ ys) (suc k) x here all =
    let both = and_parts (p y) (list_all p ys) all in
    and_from (p y) (list_all p (set ys k x)) both.0 (all_set p ys k x here both.1)

all_at : {X : Type 0} (p : X → Bool) (xs : List X) (k : ℕ) (d : X) → k < length xs → list_all p xs ≡ true
    → p (get_or xs k d) ≡ true
all_at p [] k d within all = absurd (omega arith)
all_at p (y ∷ ys) zero d within all = (and_parts (p y) (list_all p ys) all).0
all_at p (y ∷ ys) (suc k) d within all =
    let inside : k < length ys = omega arith in all_at p ys k d inside (and_parts (p y) (list_all p ys) all).1

all_removed : {X : Type 0} (p : X → Bool) (xs : List X) (k : ℕ) → list_all p xs ≡ true
    → list_all p (remove xs k) ≡ true
all_removed p [] zero all = refl
all_removed p [] (suc k) all = refl
all_removed p (y ∷ ys) zero all = (and_parts (p y) (list_all p ys) all).1
all_removed p (y ∷ ys) (suc k) all =
    let both = and_parts (p y) (list_all p ys) all in
    and_from (p y) (list_all p (remove ys k)) both.0 (all_removed p ys k both.1)

actions_set : (s : ℕ) (xs : List Action) (k : ℕ) (x : Action) → is_action (s + k) x ≡ true → are_actions s xs ≡ true
    → are_actions s (set xs k x) ≡ true
actions_set s [] k x here all = refl
actions_set s (y ∷ ys) zero x here all =
    let same : s + 0 ≡ s = omega arith in
    and_from (is_action s x) (are_actions (s + 1) ys) (subst (λ (n : ℕ). is_action n x ≡ true) same here)
    (and_parts (is_action s y) (are_actions (s + 1) ys) all).1
actions_set s (y ∷ ys) (suc k) x here all =
    let both = and_parts (is_action s y) (are_actions (s + 1) ys) all in
    let same : s + suc k ≡ s + 1 + k = omega arith in
    and_from (is_action s y) (are_actions (s + 1) (set ys k x)) both.0
    (actions_set (s + 1) ys k x (subst (λ (n : ℕ). is_action n x ≡ true) same here) both.1)

pub with_mask_legal : (h : HeapFields) (m : ℕ) → IsHeap h → is_mask m ≡ true → IsHeap (with_mask h m)
with_mask_legal h m legal fits = record {
  mask = fits;
  saved = legal.saved;
  owed = legal.owed;
  action_count = legal.action_count;
  actions = legal.actions;
  base_count = legal.base_count;
  bases = legal.bases;
  child_count = legal.child_count;
  children = legal.children;
}

pub with_saved_legal : (h : HeapFields) (m : Option ℕ) → IsHeap h → is_saved_mask m ≡ true → IsHeap (with_saved h m)
with_saved_legal h m legal fits = record {
  mask = legal.mask;
  saved = fits;
  owed = legal.owed;
  action_count = legal.action_count;
  actions = legal.actions;
  base_count = legal.base_count;
  bases = legal.bases;
  child_count = legal.child_count;
  children = legal.children;
}

pub with_owed_legal : (h : HeapFields) (n : ℕ) → IsHeap h → n ≤ 65535 → IsHeap (with_owed h n)
with_owed_legal h n legal fits = record {
  mask = legal.mask;
  saved = legal.saved;
  owed = le-leb n 65535 fits;
  action_count = legal.action_count;
  actions = legal.actions;
  base_count = legal.base_count;
  bases = legal.bases;
  child_count = legal.child_count;
  children = legal.children;
}

actions_changed : (h : HeapFields) (actions : List Action) → IsHeap h → length actions ≡ 31
    → are_actions 1 actions ≡ true → IsHeap (record h { actions = actions })
actions_changed h actions legal count fits = record {
  mask = legal.mask;
  saved = legal.saved;
  owed = legal.owed;
  action_count = count;
  actions = fits;
  base_count = legal.base_count;
  bases = legal.bases;
  child_count = legal.child_count;
  children = legal.children;
}

pub with_action_legal : (h : HeapFields) (s : ℕ) (a : Action) → IsHeap h → 1 ≤ s → is_action s a ≡ true
    → IsHeap (with_action h s a)
with_action_legal h s a legal from fits =
    let same : s ≡ 1 + (s - 1) = omega arith in
    actions_changed h (set h.actions (s - 1) a) legal (length-set h.actions (s - 1) a ∙ legal.action_count)
    (actions_set 1 h.actions (s - 1) a (subst (λ (n : ℕ). is_action n a ≡ true) same fits) legal.actions)

pub without_handlers_is_legal : (h : HeapFields) → IsHeap h → IsHeap (without_handlers h)
without_handlers_is_legal h legal =
    actions_changed h (without_handlers h).actions legal (length-map h.actions without_handler ∙ legal.action_count)
    (for_exec_legal h legal).actions

bases_changed : (h : HeapFields) (bases : List ℕ) → IsHeap h → length bases ≡ 8
    → list_all is_base bases ≡ true → IsHeap (record h { bases = bases })
bases_changed h bases legal count fits = record {
  mask = legal.mask;
  saved = legal.saved;
  owed = legal.owed;
  action_count = legal.action_count;
  actions = legal.actions;
  base_count = count;
  bases = fits;
  child_count = legal.child_count;
  children = legal.children;
}

pub with_base_legal : (h : HeapFields) (m page : ℕ) → IsHeap h → is_base page ≡ true → IsHeap (with_base h m page)
with_base_legal h m page legal fits =
    bases_changed h (set h.bases m page) legal (length-set h.bases m page ∙ legal.base_count)
    (all_set is_base h.bases m page fits legal.bases)

pub without_bases_legal : (h : HeapFields) → IsHeap h → IsHeap (without_bases h)
without_bases_legal h legal = bases_changed h (replicate 8 0) legal refl refl

children_changed : (h : HeapFields) (children : List HeapChild) → IsHeap h → length children ≤ 32
    → list_all is_child children ≡ true → IsHeap (record h { children = children })
children_changed h children legal few fits = record {
  mask = legal.mask;
  saved = legal.saved;
  owed = legal.owed;
  action_count = legal.action_count;
  actions = legal.actions;
  base_count = legal.base_count;
  bases = legal.bases;
  child_count = le-leb (length children) 32 few;
  children = fits;
}

pub with_child_legal : (h : HeapFields) (c : ℕ) → IsHeap h → length h.children < 32 → 2 ≤ c → c ≤ 4001
    → IsHeap (with_child h c)
with_child_legal h c legal room from to =
    let more : HeapChild = record { number = c; noted = false } in
    let fits : is_child more ≡ true
    = and_from (nat_le 2 c) (nat_le c 4001) (le-leb 2 c from) (le-leb c 4001 to) in
    children_changed h (h.children ++ more ∷ []) legal (omega (arith, length-append h.children (more ∷ [])))
    (list_all-append is_child h.children (more ∷ []) ∙ and_from (list_all is_child h.children)
    (list_all is_child (more ∷ [])) legal.children (and_from (is_child more) true fits refl))

pub without_child_legal : (h : HeapFields) (i : ℕ) → IsHeap h → i < length h.children → IsHeap (without_child h i)
without_child_legal h i legal within =
    children_changed h (remove h.children i) legal
    (omega (arith, length-remove h.children i within, leb-true (length h.children) 32 legal.child_count))
    (all_removed is_child h.children i legal.children)

pub with_note_legal : (h : HeapFields) (i : ℕ) (noted : Bool) → IsHeap h → i < length h.children
    → IsHeap (with_note h i noted)
with_note_legal h i noted legal within =
    children_changed h (with_note h i noted).children legal
    (omega (arith, length-set {A = HeapChild}, leb-true (length h.children) 32 legal.child_count))
    (all_set is_child h.children i _ (all_at is_child h.children i _ within legal.children) legal.children)

pub without_children_legal : (h : HeapFields) → IsHeap h → IsHeap (without_children h)
without_children_legal h legal = children_changed h [] legal (omega arith) refl
