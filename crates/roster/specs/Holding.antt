-- Who takes the roster mutex holds it, and who lets it go has held it.
use Rattle.std.specs.Prelude.{◌≡◌, ℕ, Bool, true, false, ◌||◌, if◌then◌else◌, [], ◌∷◌, Option, Some, None}
use Rattle.std.specs.Prelude.{MatchBool, MatchOption, slice_index, is_none}
use Rattle.std.proofs.Common.{refl, sym, ap, subst}
use Rattle.w32_base.specs.declared.call.Reply.{Reply}
use Rattle.w32_base.specs.declared.call.Reply.TheVariants as reply
use Rattle.script_spec.specs.declared.script.Script.{Script}
use Rattle.win32_spec.specs.Objects.{Ownership, Owned}
use Rattle.win32_spec.specs.State.{Object, Mutex, Win32State}
use Rattle.win32_spec.specs.Lookup.{object_number, with_object}
use Rattle.win32_spec.specs.Ready.{is_handle_signalled}
use Rattle.win32_spec.specs.Named.{named_by, object_at, object_by, object_number_by, number_or_zero, handles_by}
use Rattle.win32_spec.specs.Named.{has_absent}
use Rattle.win32_spec.specs.HandleCalls.{first_signalled, taken_object, woken_reply, TakesObject}
use Rattle.win32_spec.specs.Call.{CallStep}
use Rattle.win32_spec.specs.ObjectLaws.{object_of-change_same}
use Rattle.roster.specs.declared.hold.Hold.TheVariants.{Waiting}
use Rattle.roster.specs.Turns.{roster_handle}
use Rattle.roster.specs.Mutex.{hold_posted}
use Rattle.roster.specs.Roster.{HoldsRoster}

-- an object that a handle names, after it was changed
named_after : (s : Win32State) (names : Option ℕ) (x y : Object) → object_at s names ≡ Some x
    → object_at (with_object s (number_or_zero names) y) names ≡ Some y
named_after s None x y e = absurd (cc)
named_after s (Some names) x y e = object_of-change_same (object_number names) y s.objects x e

-- the one handle of the wait is the mutex, so that it is taken
takes : (s : Win32State) (w t n : ℕ) (owner : Ownership) (r : Reply) (new : Win32State)
    → object_by s w roster_handle ≡ Some (Mutex owner) → TakesObject s w t roster_handle n r new → HoldsRoster new w t
takes s w t n owner r new is step =
    let took = subst (λ o. MatchOption o ⊥ (λ object. (r ≡ woken_reply object n)
    × (new ≡ with_object s (object_number_by s w roster_handle) (taken_object w t object)))) is step in
    subst (λ x. HoldsRoster x w t) (sym took.1)
    (named_after s (named_by s w roster_handle) (Mutex owner) (Mutex (Owned w t)) is)

present : (s : Win32State) (names : Option ℕ) (x : Object) → object_at s names ≡ Some x → is_none names ≡ false
present s None x e = absurd (cc)
present s (Some names) x e = refl

-- a wait that ends found the mutex signalled
woken : (b : Bool) (P : ℕ → Type 0) → MatchOption (if b then Some 0 else None) ⊥ P → P 0
woken true P m = m
woken false P m = absurd m

-- where handle 2 names the roster mutex, the thread holds it after its wait
pub hold-takes : (script : Script) (s : Win32State) (w t : ℕ) (owner : Ownership) (r : Reply) (new : Win32State)
    → object_by s w roster_handle ≡ Some (Mutex owner) → CallStep script s w t (hold_posted Waiting) r new
    → HoldsRoster new w t
hold-takes script s w t owner r new is step =
    let here : has_absent (handles_by s w) (roster_handle ∷ []) ≡ false =
    ap (λ b. b || false) (present s (named_by s w roster_handle) (Mutex owner) is) in
    let wait = subst (λ b. MatchBool b ((r ≡ reply.BadHandle) × (new ≡ s))
    (MatchOption (first_signalled s w t (handles_by s w) (roster_handle ∷ []) 0) ⊥
    (λ n. TakesObject s w t (slice_index (roster_handle ∷ []) n) n r new))) here step in
    takes s w t 0 owner r new is
    (woken (is_handle_signalled s w t (named_by s w roster_handle))
    (λ n. TakesObject s w t (slice_index (roster_handle ∷ []) n) n r new) wait)
