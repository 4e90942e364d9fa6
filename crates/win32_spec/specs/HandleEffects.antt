-- Each call makes one of the changes: `open`, `dup`, `close` and `create`.
use Rattle.std.proofs.Common.{◌≡◌, inl, inr, ℕ, ◌+◌, Bool, true, false, if◌then◌else◌, List, [], ◌∷◌, Some, None}
use Rattle.std.proofs.Common.{slice_get, refl, sym, ap, ◌∙◌, arith}
use Rattle.std.proofs.lemmas.Bool.{cases_eq}
use Rattle.w32_base.specs.declared.call.Call.{Call}
use Rattle.w32_base.specs.declared.call.Call.TheVariants as call
use Rattle.w32_base.specs.declared.call.Reply.{Reply}
use Rattle.w32_base.specs.declared.call.Reply.TheVariants as reply
use Rattle.script_spec.specs.declared.script.Script.{Script}
use Rattle.win32_spec.specs.Handles.{handle_of}
use Rattle.win32_spec.specs.State.{Object, Section, Event, Mutex, Pipe, ProcessObject, TerminalObject, NumberedObject}
use Rattle.win32_spec.specs.State.{Win32State}
use Rattle.win32_spec.specs.Lookup.{process_of, is_live, object_of}
use Rattle.win32_spec.specs.Ends.{is_object_of}
use Rattle.win32_spec.specs.Named.{handles_by, named_by, object_by, process_named, is_full, has_absent, GetsHandle}
use Rattle.win32_spec.specs.ProcessCalls.{live_process, process_object, OpenStep, CreateStep}
use Rattle.win32_spec.specs.HandleCalls.{DupStep, CloseStep}
use Rattle.win32_spec.specs.WellFormed.{AreRisingObjects, IsListed, only_number, IsFormed}
use Rattle.win32_spec.specs.LookupLaws.{same, differs}
use Rattle.win32_spec.specs.ObjectLaws.{rising_objects-bound}
use Rattle.win32_spec.specs.FormedLaws.{of_live, to_listed, live_found}
use Rattle.win32_spec.specs.Effects.{CallEffect, Opens, Makes, Closes}
use Rattle.win32_spec.specs.CallEffects.{by_bool, by_option, unchanged}
use Rattle.win32_spec.specs.ThreadEffects.{live_of-found}
use Rattle.win32_spec.specs.ObjectEffects.{made_effect}

-- the object of process v, by the test and by its number
pub is_its_object : (x : Object) (v : ℕ) → is_object_of x v ≡ true → x ≡ ProcessObject v
is_its_object (ProcessObject u) v t =
    elim (cases_eq u v) [ inl n ↦ ap ProcessObject n | inr d ↦ let s = differs u v d in absurd (cc) ]
is_its_object (Section words) v t = absurd (cc)
is_its_object (Event e) v t = absurd (cc)
is_its_object (Mutex owner) v t = absurd (cc)
is_its_object (Pipe bytes) v t = absurd (cc)
is_its_object (TerminalObject terminal) v t = absurd (cc)

pub only_process : (y : Object) (v : ℕ) → only_number y ≡ Some (v + 2) → y ≡ ProcessObject v
only_process (ProcessObject u) v e = let f : u + 2 ≡ v + 2 = cc in ap ProcessObject (omega arith)
only_process (Section words) v e = let f : 0 ≡ v + 2 = cc in absurd (omega arith)
only_process (TerminalObject terminal) v e = let f : 1 ≡ v + 2 = cc in absurd (omega arith)
only_process (Event e) v f = absurd (cc)
only_process (Mutex owner) v e = absurd (cc)
only_process (Pipe bytes) v e = absurd (cc)

process_object-found : (low : ℕ) (xs : List NumberedObject) (v o : ℕ) → AreRisingObjects low xs
    → process_object xs v ≡ Some o
    → object_of xs o ≡ Some (ProcessObject v)
process_object-found low [] v o r e = absurd (cc)
process_object-found low (x ∷ xs) v o r e =
    by_test (is_object_of x.object v) refl e (process_object-found (x.number + 1) xs v o r.2)
  where
    by_test : (b : Bool) → is_object_of x.object v ≡ b → (if b then Some x.number else process_object xs v) ≡ Some o
        → (process_object xs v ≡ Some o → object_of xs o ≡ Some (ProcessObject v))
        → object_of (x ∷ xs) o ≡ Some (ProcessObject v)
    by_test true t f rest = let n : x.number ≡ o = cc in let s = same x.number o n in
        rw s (ap Some (is_its_object x.object v t))
    by_test false t f rest =
        let found = rest f in
        let b = rising_objects-bound (x.number + 1) xs o (ProcessObject v) r.2 found in
        let s = differs x.number o (λ n. omega (arith, b.0)) in rw s found

process_object-none : (xs : List NumberedObject) (v b : ℕ) → process_object xs v ≡ None
    → object_of xs b ≡ Some (ProcessObject v) → ⊥
process_object-none [] v b e f = cc
process_object-none (x ∷ xs) v b e f = by_test (is_object_of x.object v) refl e (process_object-none xs v b)
  where
    by_test : (k : Bool) → is_object_of x.object v ≡ k → (if k then Some x.number else process_object xs v) ≡ None
        → (process_object xs v ≡ None → object_of xs b ≡ Some (ProcessObject v) → ⊥) → ⊥
    by_test true t g rest = cc
    by_test false t g rest =
        elim (cases_eq x.number b) [
          | inl n ↦
              let s = same x.number b n in
              let h : Some x.object ≡ Some (ProcessObject v) = rw s at f in
              let i : x.object ≡ ProcessObject v = cc in
              let j : is_object_of x.object v ≡ true = rw i (same v v refl) in cc
          | inr d ↦ let s = differs x.number b d in rest g (rw s at f)
        ]

-- a handle on a listed object
handle_effect : (script : Script) (s : Win32State) (w t : ℕ) (c : Call) (names : ℕ) (r : Reply) (new : Win32State)
    → IsListed s.objects names
    → GetsHandle s w names r new → CallEffect script s w t c new
handle_effect script s w t c names r new listed step =
    by_bool (is_full (handles_by s w) 1) (λ e m. unchanged script s w t c new m.1)
    (λ e m. Opens names listed e reply.Handle r m) step

pub open_effect : (script : Script) (s : Win32State) (w t v : ℕ) (r : Reply) (new : Win32State) → IsFormed script s
    → OpenStep s w v r new
    → CallEffect script s w t (call.Open v) new
open_effect script s w t v r new h step =
    by_option (process_object s.objects v) (λ none m.
    by_bool (is_live (process_of s.processes v)) (λ live m.
    let p = live_found (process_of s.processes v) live in
    made_effect script s w t (call.Open v) (ProcessObject v) r new (p.0, p.1)
    (λ b y k f i j. let is : y ≡ ProcessObject v = only_process y v (j ∙ sym i) in
    process_object-none s.objects v b none (f ∙ ap Some is)) m)
    (λ dead m. unchanged script s w t (call.Open v) new m.1) m) (λ o e m.
    let found = process_object-found 0 s.objects v o h.objects e in
    let bound = rising_objects-bound 0 s.objects o (ProcessObject v) h.objects found in
    handle_effect script s w t (call.Open v) o r new
    (to_listed s.objects o (ProcessObject v) (ap (object_of s.objects) bound.1 ∙ found) (λ e. bound.1)) m) step

pub dup_effect : (script : Script) (s : Win32State) (w t h n : ℕ) (r : Reply) (new : Win32State) → IsFormed script s
    → DupStep s w h n r new
    → CallEffect script s w t (call.Dup h n) new
dup_effect script s w t h n r new formed step =
    by_option (process_named (object_by s w h)) (λ e m. unchanged script s w t (call.Dup h n) new m.1) (λ v e m.
    by_option (live_process s v) (λ e m. unchanged script s w t (call.Dup h n) new m.1) (λ p e m.
    by_option (handle_of p.handles n) (λ e m. unchanged script s w t (call.Dup h n) new m.1) (λ names f m.
    let found = live_of-found (process_of s.processes v) p e in
    let live = of_live script s.objects p p.life found.1 (formed.process v p found.0) in
    handle_effect script s w t (call.Dup h n) names r new (live.naming n names f) m) m) m) step

pub close_effect : (script : Script) (s : Win32State) (w t h : ℕ) (r : Reply) (new : Win32State) → CloseStep s w h r new
    → CallEffect script s w t (call.Close h) new
close_effect script s w t h r new step =
    by_option (named_by s w h) (λ e m. unchanged script s w t (call.Close h) new m.1) (λ names e m. Closes h m.1) step

pub create_effect : (script : Script) (s : Win32State) (w t program_no : ℕ) (list : List ℕ) (r : Reply)
    (new : Win32State)
    → CreateStep script s w program_no list r new → CallEffect script s w t (call.Create program_no list) new
create_effect script s w t program_no list r new step =
    by_bool (has_absent (handles_by s w) list) (λ e m. unchanged script s w t (call.Create program_no list) new m.1)
    (λ e m.
    by_option (slice_get script.setup.programs program_no)
    (λ e m. unchanged script s w t (call.Create program_no list) new m.1) (λ program listed m.
    elim m [
      | inl full ↦ unchanged script s w t (call.Create program_no list) new full.1.1
      | inr makes ↦
          by_bool (is_full (handles_by s w) 1) (λ e m. unchanged script s w t (call.Create program_no list) new m.1)
          (λ room m. Makes makes.slot program_no program list r listed makes.lowest room m) makes.made
    ]) m) step
