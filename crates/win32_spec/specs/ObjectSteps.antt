-- What a call leaves of an object that is listed before it and after it.
use Rattle.std.proofs.Common.{◌≡◌, ◌⊎◌, inl, inr, ℕ, true, [], Some, sym, ap, ◌∙◌, subst}
use Rattle.w32_base.specs.declared.call.Call.{Call}
use Rattle.script_spec.specs.declared.script.Script.{Script}
use Rattle.win32_spec.specs.Handles.{without_handle}
use Rattle.win32_spec.specs.State.{Object, Pipe, ProcessObject, Win32State}
use Rattle.win32_spec.specs.Lookup.{process_of, is_live, object_of, change_process, add_object, IsFresh}
use Rattle.win32_spec.specs.Ends.{object_left_by, objects_left_by, ended_process, with_end}
use Rattle.win32_spec.specs.Named.{handles_by}
use Rattle.win32_spec.specs.LookupLaws.{same_some, not_none}
use Rattle.win32_spec.specs.ObjectLaws.{object_of-add_other, left_object}
use Rattle.win32_spec.specs.HeldLaws.{held_object}
use Rattle.win32_spec.specs.Tame.{ObjectBecomes}
use Rattle.win32_spec.specs.TameLaws.{both_forth}
use Rattle.win32_spec.specs.TameSteps.{object_same}
use Rattle.win32_spec.specs.Effects.{MayExchange, CallEffect, Changes, Opens, Adds, AddsPipe, Makes, Closes, Ends}

-- An object after a call of thread t of process w: the call changed what it holds, or a process that lived before it
-- ended.
abbrev pub ObjectFollows : Win32State → Type 0 → ℕ → ℕ → Object → Object → Type 0
ObjectFollows s Exchanged w t x y =
    ObjectBecomes Exchanged w t x y ⊎ ((u : ℕ) × (is_live (process_of s.processes u) ≡ true) × (y ≡ object_left_by u x))

follows_same : (s : Win32State) (E : Type 0) (w t : ℕ) (x y : Object) → y ≡ x → ObjectFollows s E w t x y
follows_same s E w t x y e = inl (subst (ObjectBecomes E w t x) (sym e) (object_same E w t x))

-- an object that is listed isn't the new one
beside_new : (s : Win32State) (n o : ℕ) (z x y : Object) → IsFresh s n → object_of s.objects o ≡ Some x
    → object_of (add_object n z s.objects) o ≡ Some y → y ≡ x
beside_new s n o z x y fresh e f =
    let apart = λ (m : o ≡ n). not_none (object_of s.objects n) x (ap (object_of s.objects) (sym m) ∙ e) fresh.free in
    same_some (object_of s.objects o) y x (sym (object_of-add_other n z s.objects o apart) ∙ f) e

-- what is listed after the end of a process is what that leaves of an object
pub left_by_end : (s : Win32State) (u code o : ℕ) (x y : Object) → object_of s.objects o ≡ Some x
    → object_of (with_end s u code).objects o ≡ Some y → y ≡ object_left_by u x
left_by_end s u code o x y e f =
    let kept = (held_object (change_process u (ended_process code) s.processes) (objects_left_by u s.objects) o y
    f).0 in
    let left = left_object u s.objects o y kept in
    left.2 ∙ ap (object_left_by u) (same_some (object_of s.objects o) left.0 x left.1 e)

pub object-effect : (script : Script) (s : Win32State) (w t : ℕ) (c : Call) (new : Win32State)
    → CallEffect script s w t c new
    → (o : ℕ) (x y : Object) → object_of s.objects o ≡ Some x → object_of new.objects o ≡ Some y
    → ObjectFollows s (MayExchange c) w t x y
object-effect script s w t c new (Changes tame) o x y e f =
    let r = both_forth (ObjectBecomes (MayExchange c) w t) (object_of s.objects o) (object_of new.objects o) x
    (tame.objects.object o) e in
    inl (subst (ObjectBecomes (MayExchange c) w t x) (same_some (object_of new.objects o) r.0 y r.1 f) r.2)
object-effect script s w t c new (Opens names listed room answer r handled) o x y e f =
    follows_same s (MayExchange c) w t x y
    (same_some (object_of s.objects o) y x
    (subst (λ (n : Win32State). object_of n.objects o ≡ Some y) handled.after f) e)
object-effect script s w t c new (Adds z rule only room r added) o x y e f =
    follows_same s (MayExchange c) w t x y
    (beside_new s added.number o z x y added.fresh e
    (subst (λ (n : Win32State). object_of n.objects o ≡ Some y) added.handled.after f))
object-effect script s w t c new (AddsPipe room r pipe) o x y e f =
    follows_same s (MayExchange c) w t x y
    (beside_new s pipe.number o (Pipe []) x y pipe.fresh e
    (subst (λ (n : Win32State). object_of n.objects o ≡ Some y) pipe.after f))
object-effect script s w t c new (Makes slot program_no program list r listed lowest room made) o x y e f =
    follows_same s (MayExchange c) w t x y
    (beside_new s made.number o (ProcessObject s.next) x y made.fresh e
    (subst (λ (n : Win32State). object_of n.objects o ≡ Some y) made.handled.after f))
object-effect script s w t c new (Closes k after) o x y e f =
    follows_same s (MayExchange c) w t x y
    (same_some (object_of s.objects o) y x
    (held_object (change_process w (λ p. record p { handles = without_handle (handles_by s w) k }) s.processes)
    s.objects o y
    (subst (λ (n : Win32State). object_of n.objects o ≡ Some y) after f)).0 e)
object-effect script s w t c new (Ends u code alive after) o x y e f =
    inr (u, alive, left_by_end s u code o x y e (subst (λ (n : Win32State). object_of n.objects o ≡ Some y) after f))
