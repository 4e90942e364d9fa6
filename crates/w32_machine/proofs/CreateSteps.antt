-- What `create` gives, case by case.
use Rattle.std.proofs.Common.{◌≡◌, ◌∙◌, inl, inr, ℕ, zero, suc, ◌≤◌, ◌<◌, Bool, true, false, ◌||◌, not, is_none}
use Rattle.std.proofs.Common.{List, [], ◌∷◌, length, All, Option, Some, None, IsSome, MatchOption, slice_get}
use Rattle.std.proofs.Common.{slice_index_or, refl, sym, ap, subst, arith, true≢false}
use Rattle.std.specs.Option.{is_some}
use Rattle.std.proofs.lemmas.List.Elements.{All-nil, All-cons, All-head, All-tail}
use Rattle.w32_base.specs.declared.call.Reply.{Reply}
use Rattle.w32_base.specs.declared.call.Reply.TheVariants as reply
use Rattle.w32_base.specs.declared.setup.Program.{Program}
use Rattle.script_spec.specs.declared.script.Script.{Script}
use Rattle.win32_spec.specs.Handles.{Handle, handle_of}
use Rattle.win32_spec.specs.State.{Win32State}
use Rattle.win32_spec.specs.Lookup.{IsLowestFreeSlot, AreAllOccupied}
use Rattle.win32_spec.specs.Named.{handles_by, has_absent, is_full}
use Rattle.win32_spec.specs.ProcessCalls.{CreateStep, IsMade}

-- whether a list names an absent handle
pub none_absent : (hs : List Handle) (list : List ℕ) → All (λ n. IsSome (handle_of hs n)) list
    → has_absent hs list ≡ false
none_absent hs [] all = refl
none_absent hs (n ∷ ns) all =
    by_answer (handle_of hs n) refl (All-head (λ k. IsSome (handle_of hs k)) n ns all)
    (none_absent hs ns (All-tail (λ k. IsSome (handle_of hs k)) n ns all))
  where
    by_answer : (o : Option ℕ) → handle_of hs n ≡ o → IsSome (handle_of hs n) → has_absent hs ns ≡ false
        → (is_none (handle_of hs n) || has_absent hs ns) ≡ false
    by_answer (Some x) e some rest = rw (e, rest) refl
    by_answer None e some rest = absurd (true≢false (sym (subst (λ (o : Option ℕ). IsSome o) e some)))

all_there : (hs : List Handle) (list : List ℕ) → has_absent hs list ≡ false
    → All (λ n. IsSome (handle_of hs n)) list
all_there hs [] e = All-nil (λ n. IsSome (handle_of hs n))
all_there hs (n ∷ ns) e = by_answer (handle_of hs n) refl (all_there hs ns) e
  where
    by_answer : (o : Option ℕ) → handle_of hs n ≡ o
        → (has_absent hs ns ≡ false → All (λ k. IsSome (handle_of hs k)) ns)
        → (is_none o || has_absent hs ns) ≡ false
        → All (λ k. IsSome (handle_of hs k)) (n ∷ ns)
    by_answer (Some x) f rest g = All-cons (λ k. IsSome (handle_of hs k)) n ns (rw f refl) (rest g)
    by_answer None f rest g = absurd (true≢false g)

pub some_absent : (hs : List Handle) (list : List ℕ) → (All (λ n. IsSome (handle_of hs n)) list → ⊥)
    → has_absent hs list ≡ true
some_absent hs list not_all = by_test (has_absent hs list) refl
  where
    by_test : (b : Bool) → has_absent hs list ≡ b → b ≡ true
    by_test true e = refl
    by_test false e = absurd (not_all (all_there hs list e))

-- what stands at a place of a list
pub at-index : {A : Type 0} (xs : List A) (n : ℕ) (x : A) → n < length xs → x ≡ slice_index_or xs n x
    → slice_get xs n ≡ Some x
at-index [] n x l e = absurd (omega arith)
at-index (y ∷ ys) zero x l e = ap Some (sym e)
at-index (y ∷ ys) (suc n) x l e = at-index ys n x (omega arith) e

pub there-index : {A : Type 0} (xs : List A) (n : ℕ) → n < length xs → (x : A) × (slice_get xs n ≡ Some x)
there-index [] n l = absurd (omega arith)
there-index (y ∷ ys) zero l = (y, refl)
there-index (y ∷ ys) (suc n) l = there-index ys n (omega arith)

pub past-index : {A : Type 0} (xs : List A) (n : ℕ) → length xs ≤ n → slice_get xs n ≡ None
past-index [] n l = refl
past-index (y ∷ ys) zero l = absurd (omega arith)
past-index (y ∷ ys) (suc n) l = past-index ys n (omega arith)

-- an answer that is there, or isn't
pub some_slot : (A : Type 0) (B : ℕ → Type 0) (o : Option ℕ) (b : Bool) → MatchOption o A (λ slot. B slot)
    → is_some o ≡ not b → b ≡ false → (slot : ℕ) × B slot
some_slot A B (Some slot) b h is e = (slot, h)
some_slot A B None b h is e = absurd (let f : false ≡ true = is ∙ ap not e in cc)

pub no_slot : (A : Type 0) (B : ℕ → Type 0) (o : Option ℕ) (b : Bool) → MatchOption o A (λ slot. B slot)
    → is_some o ≡ not b → b ≡ true → A
no_slot A B None b h is e = h
no_slot A B (Some slot) b h is e = absurd (let f : true ≡ false = is ∙ ap not e in cc)

module _ (script : Script) (s : Win32State) (w n : ℕ) (list : List ℕ) (hs : List Handle)
    (its : handles_by s w ≡ hs) where
  pub absent-step : has_absent hs list ≡ true → CreateStep script s w n list reply.BadHandle s
  absent-step e =
      let a : has_absent (handles_by s w) list ≡ true = ap (λ x. has_absent x list) its ∙ e in rw a (refl, refl)

  module _ (there : has_absent hs list ≡ false) where
    none : has_absent (handles_by s w) list ≡ false
    none = ap (λ x. has_absent x list) its ∙ there

    pub index-step : slice_get script.setup.programs n ≡ None → CreateStep script s w n list reply.BadIndex s
    index-step e = rw (none, e) (refl, refl)

    module _ (program : Program) (wanted : slice_get script.setup.programs n ≡ Some program) where
      pub slot-step : AreAllOccupied script.setup.limits.slots s.processes
          → CreateStep script s w n list reply.NoSlot s
      slot-step all = rw (none, wanted) (inl (all, (refl, refl)))

      module _ (slot : ℕ) (lowest : IsLowestFreeSlot script.setup.limits.slots s.processes slot) where
        pub full-step : is_full hs 1 ≡ true → CreateStep script s w n list reply.TableFull s
        full-step e =
            let f : is_full (handles_by s w) 1 ≡ true = ap (λ x. is_full x 1) its ∙ e in
            rw (none, wanted) (inr (record { slot = slot; lowest = lowest; made = rw f (refl, refl) }))

        pub made-step : is_full hs 1 ≡ false → (r : Reply) (new : Win32State)
            → IsMade s w slot n program list r new
            → CreateStep script s w n list r new
        made-step e r new made =
            let f : is_full (handles_by s w) 1 ≡ false = ap (λ x. is_full x 1) its ∙ e in
            rw (none, wanted) (inr (record { slot = slot; lowest = lowest; made = rw f made }))
