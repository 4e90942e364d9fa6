-- A wait: the first signalled place of its list, and what becomes of the object there.
use Rattle.std.proofs.Common.{◌≡◌, ◌≢◌, ◌∙◌, ℕ, zero, suc, ◌+◌, ◌≤◌, Bool, true, false, ◌||◌, if◌then◌else◌, not}
use Rattle.std.proofs.Common.{is_some, is_none}
use Rattle.std.proofs.Common.{List, [], ◌∷◌, length, drop, slice_get, slice_index, Option, Some, None, MatchOption}
use Rattle.std.proofs.Common.{MatchBool, refl, sym, ap, subst, arith}
use Rattle.std.specs.Option.{IsSomeAnd}
use Rattle.w32_base.specs.declared.call.Call.TheVariants as call
use Rattle.w32_base.specs.declared.call.Reply.{Reply}
use Rattle.w32_base.specs.declared.call.Reply.TheVariants as reply
use Rattle.win32_spec.specs.Handles.{Handle, handle_of}
use Rattle.win32_spec.specs.HandleCalls.{first_signalled, taken_object, woken_reply, TakesObject, WaitStep}
use Rattle.win32_spec.specs.Lookup.{object_number, with_object}
use Rattle.win32_spec.specs.Named.{handles_by, named_by, object_number_by, has_absent, Gives}
use Rattle.win32_spec.specs.ObjectEffects.{first_signalled-is, wait_effect}
use Rattle.win32_spec.specs.Ready.{is_signalled, is_handle_signalled, is_some_signalled}
use Rattle.win32_spec.specs.State.{Object, Win32State}
use Rattle.w32_handles.specs.Table.{object_at}
use Rattle.w32_machine.specs.Contract.{IsCaller}
use Rattle.w32_machine.specs.declared.caller.Caller.{Caller}
use Rattle.w32_kinds.specs.declared.kind.Kind.{Kind}
use Rattle.w32_kinds.specs.declared.kind.Kind.TheVariants as kind
use Rattle.w32_machine.specs.declared.machine.Machine.TheInside.{Inside}
use Rattle.w32_kinds.specs.Kinds.{MayBeTaken, Takes}
use Rattle.w32_machine.specs.Running.{Running}
use Rattle.w32_kinds.specs.Shown.{shown}
use Rattle.w32_machine.specs.View.{view_of}
use Rattle.w32_machine.specs.Sound.{IsKind, IsSound}
use Rattle.w32_machine.proofs.Called.{formed-effect}
use Rattle.w32_machine.proofs.Changing.{KeepsKind, number_is, object_is, changed, after, sound_after}
use Rattle.w32_machine.proofs.KindSteps.{same-keeps}
use Rattle.w32_machine.proofs.Signalled.{signalled-is}

-- whether there is none
pub is_none-told : (o : Option ℕ) (r : Bool) → is_some o ≡ not r → is_none o ≡ r
is_none-told None true e = refl
is_none-told None false e = absurd (cc)
is_none-told (Some n) true e = absurd (cc)
is_none-told (Some n) false e = refl

-- one more handle of a list, and none
pub absent-next : (hs : List Handle) (list : List ℕ) (k h : ℕ) → slice_get list k ≡ Some h
    → has_absent hs (drop k list) ≡ (is_none (handle_of hs h) || has_absent hs (drop (k + 1) list))
absent-next hs [] k h e = absurd (cc)
absent-next hs (x ∷ list) zero h e =
    let f : x ≡ h = cc in ap (λ y. is_none (handle_of hs y) || has_absent hs list) f
absent-next hs (x ∷ list) (suc k) h e =
    let n : suc k + 1 ≡ suc (k + 1) = omega arith in rw n (absent-next hs list k h e)

pub absent-end : (hs : List Handle) (list : List ℕ) (k : ℕ) → length list ≤ k → has_absent hs (drop k list) ≡ false
absent-end hs [] zero l = refl
absent-end hs [] (suc k) l = refl
absent-end hs (x ∷ list) zero l = absurd (omega arith)
absent-end hs (x ∷ list) (suc k) l = absent-end hs list k (omega arith)

pub first-next : (s : Win32State) (w t : ℕ) (hs : List Handle) (list : List ℕ) (k n h : ℕ) → slice_get list k ≡ Some h
    → first_signalled s w t hs (drop k list) n ≡
    (if is_handle_signalled s w t (handle_of hs h) then Some n else first_signalled s w t hs (drop (k + 1) list) (n +
    1))
first-next s w t hs [] k n h e = absurd (cc)
first-next s w t hs (x ∷ list) zero n h e =
    let f : x ≡ h = cc in
    ap (λ y. if is_handle_signalled s w t (handle_of hs y) then Some n else first_signalled s w t hs list (n + 1)) f
first-next s w t hs (x ∷ list) (suc k) n h e =
    let i : suc k + 1 ≡ suc (k + 1) = omega arith in rw i (first-next s w t hs list k n h e)

pub first-end : (s : Win32State) (w t : ℕ) (hs : List Handle) (list : List ℕ) (k n : ℕ) → length list ≤ k
    → first_signalled s w t hs (drop k list) n ≡ None
first-end s w t hs [] zero n l = refl
first-end s w t hs [] (suc k) n l = refl
first-end s w t hs (x ∷ list) zero n l = absurd (omega arith)
first-end s w t hs (x ∷ list) (suc k) n l = first-end s w t hs list k n (omega arith)

pub index-read : (list : List ℕ) (k h : ℕ) → slice_get list k ≡ Some h → slice_index list k ≡ h
index-read [] k h e = absurd (cc)
index-read (x ∷ list) zero h e = cc
index-read (x ∷ list) (suc k) h e = index-read list k h e

-- where a handle is signalled there is a first one
pub some-first : (s : Win32State) (w t : ℕ) (hs : List Handle) (list : List ℕ) (n : ℕ)
    → is_some_signalled s w t hs list ≡ true → first_signalled s w t hs list n ≢ None
some-first s w t hs [] n e f = absurd (cc)
some-first s w t hs (h ∷ list) n e f =
    by_test (is_handle_signalled s w t (handle_of hs h)) e f (some-first s w t hs list (n + 1))
  where
    by_test : (b : Bool) → (b || is_some_signalled s w t hs list) ≡ true
        → (if b then Some n else first_signalled s w t hs list (n + 1)) ≡ None
        → (is_some_signalled s w t hs list ≡ true → first_signalled s w t hs list (n + 1) ≢ None) → ⊥
    by_test true g i rest = absurd (cc)
    by_test false g i rest = rest g i

-- the handle at the first signalled place is signalled
pub first-is : (s : Win32State) (w t : ℕ) (list : List ℕ) (n h : ℕ)
    → first_signalled s w t (handles_by s w) list 0 ≡ Some n → slice_index list n ≡ h
    → is_handle_signalled s w t (named_by s w h) ≡ true
first-is s w t list n h e i =
    let at = first_signalled-is s w t (handles_by s w) list 0 n e in
    let k : at.0 ≡ n = omega (arith, at.1) in
    subst (λ j. is_handle_signalled s w t (named_by s w j) ≡ true) (ap (slice_index list) k ∙ i) at.2

-- the step of a wait that takes an object, and of one that is refused
pub wait-step : (s new : Win32State) (w t : ℕ) (list : List ℕ) (n h : ℕ) (r : Reply)
    → has_absent (handles_by s w) list ≡ false → first_signalled s w t (handles_by s w) list 0 ≡ Some n
    → slice_index list n ≡ h → TakesObject s w t h n r new → WaitStep s w t list r new
wait-step s new w t list n h r absent first i taken =
    subst (λ b. MatchBool b (Gives reply.BadHandle s r new)
    (MatchOption (first_signalled s w t (handles_by s w) list 0) ⊥ (λ n. TakesObject s w t (slice_index list n) n r
    new))) (sym absent)
    (subst (λ o. MatchOption o ⊥ (λ n. TakesObject s w t (slice_index list n) n r new)) (sym first)
    (subst (λ j. TakesObject s w t j n r new) (sym i) taken))

pub absent-step : (s new : Win32State) (w t : ℕ) (list : List ℕ) → has_absent (handles_by s w) list ≡ true → new ≡ s
    → WaitStep s w t list reply.BadHandle new
absent-step s new w t list absent same =
    subst (λ b. MatchBool b (Gives reply.BadHandle s reply.BadHandle new)
    (MatchOption (first_signalled s w t (handles_by s w) list 0) ⊥ (λ n. TakesObject s w t (slice_index list n) n
    reply.BadHandle new))) (sym absent) (refl, same)

-- a handle that is absent isn't signalled
pub absent-signalled : (s : Win32State) (w t : ℕ) (o : Option ℕ) → o ≡ None → is_handle_signalled s w t o ≡ true → ⊥
absent-signalled s w t o e h =
    let f : false ≡ true = sym (ap (is_handle_signalled s w t) e) ∙ h in absurd (cc)

-- an object that is signalled may be taken
may-be-taken : (s : Win32State) (w t o : ℕ) (x : Kind) → is_signalled s w t o (Some (shown x)) ≡ true
    → MayBeTaken w t x
may-be-taken s w t o (kind.Event e) h = h
may-be-taken s w t o (kind.Mutex owner) h = h
may-be-taken s w t o (kind.Section words) h = tt
may-be-taken s w t o (kind.Pipe p) h = tt
may-be-taken s w t o (kind.Process v slot) h = tt
may-be-taken s w t o (kind.Terminal terminal) h = tt

-- what is taken as the code keeps it is what is taken
taken-shown : (w t place : ℕ) (x : Kind) (r : Reply) (y : Kind) → Takes w t place x r y
    → (r ≡ woken_reply (shown x) place) × (shown y ≡ taken_object w t (shown x))
taken-shown w t place (kind.Event e) r y d = (d.0, ap shown d.1)
taken-shown w t place (kind.Mutex owner) r y d = (d.0, ap shown d.1)
taken-shown w t place (kind.Section words) r y d = (d.0, ap shown d.1)
taken-shown w t place (kind.Pipe p) r y d = (d.0, ap shown d.1)
taken-shown w t place (kind.Process v slot) r y d = (d.0, ap shown d.1)
taken-shown w t place (kind.Terminal terminal) r y d = (d.0, ap shown d.1)

take-keeps : (w t place : ℕ) (x : Kind) (r : Reply) (y : Kind) → Takes w t place x r y → KeepsKind x y
take-keeps w t place (kind.Event e) r y d = λ slots ps section o k. subst (IsKind slots ps section o) (sym d.1) tt
take-keeps w t place (kind.Mutex owner) r y d = λ slots ps section o k. subst (IsKind slots ps section o) (sym d.1) tt
take-keeps w t place (kind.Section words) r y d = same-keeps (kind.Section words) y d.1
take-keeps w t place (kind.Pipe p) r y d = same-keeps (kind.Pipe p) y d.1
take-keeps w t place (kind.Process v slot) r y d = same-keeps (kind.Process v slot) y d.1
take-keeps w t place (kind.Terminal terminal) r y d = same-keeps (kind.Terminal terminal) y d.1

-- a wait for one handle that is signalled
one-step : (s new : Win32State) (w t h : ℕ) (r : Reply) (o : Option ℕ) → is_handle_signalled s w t o ≡ true
    → TakesObject s w t h 0 r new
    → MatchBool (is_none o || false) (Gives reply.BadHandle s r new)
    (MatchOption (if is_handle_signalled s w t o then Some 0 else None) ⊥
    (λ n. TakesObject s w t (slice_index (h ∷ []) n) n r new))
one-step s new w t h r None g d = absurd (cc)
one-step s new w t h r (Some names) g d = rw g d

module _ (m : Inside) (sound : IsSound m) (now : Running) (shows : view_of m ≡ now) (by : Caller)
    (caller : IsCaller now.win32 by) (h o : ℕ) (named : Some o ≡ named_by now.win32 by.process h) (x : Kind)
    (was : IsSomeAnd (object_at m.objects o) (λ kept. kept.object ≡ x))
    (signalled : is_handle_signalled now.win32 by.process by.thread (named_by now.win32 by.process h) ≡ true) where
  pub may-take : MayBeTaken by.process by.thread x
  may-take =
      may-be-taken now.win32 by.process by.thread o x
      (sym (signalled-is m sound now shows by caller h o named x was) ∙ signalled)

  module _ (place : ℕ) (r : Reply) (y : Kind) (did : Takes by.process by.thread place x r y) where
    abbrev new : Inside
    new = changed m sound now shows by caller h o named x was y

    state : (view_of new).win32 ≡
        with_object now.win32 (object_number_by now.win32 by.process h) (taken_object by.process by.thread (shown x))
    state =
        after m sound now shows by caller h o named x was y
        ∙ ap (with_object now.win32 (object_number o)) (taken-shown by.process by.thread place x r y did).1
        ∙ ap (λ i. with_object now.win32 i (taken_object by.process by.thread (shown x)))
        (sym (number_is m sound now shows by caller h o named))

    gives : (n : ℕ) (q : Reply) → q ≡ woken_reply (shown x) n
        → TakesObject now.win32 by.process by.thread h n q (view_of new).win32
    gives n q e =
        subst (λ (k : Option Object). MatchOption k ⊥ (λ object. Gives (woken_reply object n)
        (with_object now.win32 (object_number_by now.win32 by.process h) (taken_object by.process by.thread object))
        q (view_of new).win32)) (sym (object_is m sound now shows by caller h o named x was)) (e, state)

    pub take-done : TakesObject now.win32 by.process by.thread h place r (view_of new).win32
    take-done = gives place r (taken-shown by.process by.thread place x r y did).0

    pub take-sound : IsSound new
    take-sound =
        sound_after m sound now shows by caller h o named x was y
        (formed-effect m sound now shows by caller by.thread caller.thread (call.WaitAny (h ∷ [])) (view_of new).win32
        (wait_effect m.script now.win32 by.process by.thread (h ∷ []) (woken_reply (shown x) 0) (view_of new).win32
        (one-step now.win32 (view_of new).win32 by.process by.thread h (woken_reply (shown x) 0)
        (named_by now.win32 by.process h) signalled (gives 0 (woken_reply (shown x) 0) refl))))
        (take-keeps by.process by.thread place x r y did)
