-- A wait for one object: for the end of a process it is woken where the process has ended, and changes nothing; for a
-- section it is never carried out.
use Rattle.std.proofs.Common.{◌≡◌, inl, inr, ℕ, ◌+◌, Bool, true, false, ◌||◌, not, is_none, if◌then◌else◌}
use Rattle.std.proofs.Common.{List, [], ◌∷◌, Option, Some, None, MatchOption, slice_index, refl, sym, ap, ◌∙◌, subst}
use Rattle.std.proofs.Common.{arith}
use Rattle.std.proofs.lemmas.Bool.{cases_eq}
use Rattle.w32_base.specs.declared.call.Reply.{Reply}
use Rattle.w32_base.specs.declared.call.Reply.TheVariants as reply
use Rattle.script_spec.specs.declared.script.Script.{Script}
use Rattle.win32_spec.specs.CallEffects.{by_bool}
use Rattle.win32_spec.specs.HandleCalls.{taken_object, woken_reply, TakesObject, WaitStep}
use Rattle.win32_spec.specs.Lookup.{object_number, object_of, change_object, with_object}
use Rattle.win32_spec.specs.LookupLaws.{same, differs}
use Rattle.win32_spec.specs.Named.{handles_by, has_absent, named_by, number_or_zero, object_by, object_number_by, Gives}
use Rattle.win32_spec.specs.ObjectLaws.{rising_objects-bound}
use Rattle.win32_spec.specs.Ready.{is_handle_signalled, is_signalled}
use Rattle.win32_spec.specs.State.{NumberedObject, Object, ProcessObject, Section, Win32State}
use Rattle.win32_spec.specs.WellFormed.{AreRisingObjects, IsWellFormed}
use Rattle.layer_spec.specs.Turns.{is_live_process}
use Rattle.world_spec.specs.EndLaws.{named_found}

-- an object that isn't listed changes nothing
absent_object : (o : ℕ) (x : Object) (ys : List NumberedObject) → object_of ys o ≡ None → change_object o x ys ≡ ys
absent_object o x [] e = refl
absent_object o x (y ∷ ys) e = elim (cases_eq y.number o) [
  | inl n ↦ let s = same y.number o n in absurd (let f : Some y.object ≡ None = rw s at e in cc)
  | inr d ↦ let s = differs y.number o d in rw s (ap (λ zs. y ∷ zs) (absent_object o x ys (rw s at e)))
]

-- nor does one that becomes what it was
same_object : (o low : ℕ) (x : Object) (ys : List NumberedObject) → AreRisingObjects low ys → object_of ys o ≡ Some x
    → change_object o x ys ≡ ys
same_object o low x [] r e = absurd (cc)
same_object o low x (y ∷ ys) r e = elim (cases_eq y.number o) [
  | inl n ↦
      let s = same y.number o n in
      let is : y.object ≡ x = (let f : Some y.object ≡ Some x = rw s at e in cc) in
      rw (s, sym is) (ap (λ zs. y ∷ zs) (absent_object o x ys (none (object_of ys o) refl n)))
  | inr d ↦
      let s = differs y.number o d in
      rw s (ap (λ zs. y ∷ zs) (same_object o (y.number + 1) x ys r.2 (rw s at e)))
]
  where
    none : (a : Option Object) → object_of ys o ≡ a → y.number ≡ o → a ≡ None
    none None f n = refl
    none (Some z) f n =
        let b = rising_objects-bound (y.number + 1) ys o z r.2 f in absurd (omega (arith, b.0, n))

module _ (s : Win32State) (w t h : ℕ) (x : Object) (r : Reply) (new : Win32State)
    (named : object_by s w h ≡ Some x) where
  abbrev pub At : Type 0
  At = (names : ℕ) × (named_by s w h ≡ Some names) × (object_of s.objects (object_number names) ≡ Some x)

  pub at : At
  at = named_found s w h x named

  abbrev pub Woken : Type 0
  Woken = (is_signalled s w t at.0 (Some x) ≡ true)
      × Gives (woken_reply x 0) (with_object s (object_number_by s w h) (taken_object w t x)) r new

  by_signal : (b : Bool) → is_handle_signalled s w t (named_by s w h) ≡ b
      → MatchOption (if b then Some 0 else None) ⊥ (λ n. TakesObject s w t (slice_index (h ∷ []) n) n r new) → Woken
  by_signal false e m = absurd m
  by_signal true e m = (
    sym (ap (is_handle_signalled s w t) at.1 ∙ ap (is_signalled s w t at.0) at.2) ∙ e,
    subst (λ o. MatchOption o ⊥ (λ object. Gives (woken_reply object 0)
        (with_object s (object_number_by s w h) (taken_object w t object)) r new)) named m,
  )

  -- a wait for one object is carried out where the object is signalled, and takes it
  pub one-woken : WaitStep s w t (h ∷ []) r new → Woken
  one-woken step =
      by_bool (has_absent (handles_by s w) (h ∷ []))
      (λ absent m. absurd (let e : false ≡ true = sym (ap (λ o. is_none o || false) at.1) ∙ absent in cc))
      (λ there m. by_signal (is_handle_signalled s w t (named_by s w h)) refl m) step

-- A wait for a section is never carried out.
pub section-waits : (s : Win32State) (w t h : ℕ) (words : List ℕ) (r : Reply) (new : Win32State)
    → object_by s w h ≡ Some (Section words) → WaitStep s w t (h ∷ []) r new → ⊥
section-waits s w t h words r new named step =
    let woken = one-woken s w t h (Section words) r new named step in let e : false ≡ true = woken.0 in cc

-- A wait for the end of a process is woken at its one place, where the process has ended, and the state stays.
pub end-waited : (script : Script) (s : Win32State) → IsWellFormed script s → (w t h v : ℕ) (r : Reply)
    (new : Win32State) → object_by s w h ≡ Some (ProcessObject v) → WaitStep s w t (h ∷ []) r new
    → (r ≡ reply.Woke 0) × (new ≡ s) × (is_live_process s v ≡ false)
end-waited script s formed w t h v r new named step =
    let woken = one-woken s w t h (ProcessObject v) r new named step in
    let at = named_found s w h (ProcessObject v) named in (
      woken.1.0,
      woken.1.1 ∙ ap (λ os. record s { objects = os })
          (ap (λ n. change_object n (ProcessObject v) s.objects) (ap number_or_zero at.1)
          ∙ same_object (object_number at.0) 0 (ProcessObject v) s.objects formed.formed.objects at.2),
      dead (is_live_process s v) woken.0,
    )
  where
    dead : (b : Bool) → not b ≡ true → b ≡ false
    dead true e = absurd (let f : false ≡ true = e in cc)
    dead false e = refl
