-- The process that a caller names by its number, or by a handle of its own.
use Rattle.std.proofs.Common.{◌≡◌, ◌∙◌, ℕ, ◌+◌, Bool, true, false, if◌then◌else◌, List, [], ◌∷◌, Option}
use Rattle.std.proofs.Common.{Some, None, refl, sym, ap, subst, arith}
use Rattle.w32_base.specs.declared.call.Reply.{Reply}
use Rattle.w32_base.specs.declared.call.Reply.TheVariants as reply
use Rattle.win32_spec.specs.Handles.{handle_of}
use Rattle.win32_spec.specs.State.{ProcessObject, NumberedObject, Process, Win32State}
use Rattle.win32_spec.specs.Lookup.{process_of, is_live, number_in, object_of}
use Rattle.win32_spec.specs.Ends.{is_object_of}
use Rattle.win32_spec.specs.Named.{object_by, process_named, GetsHandle, MakesObject}
use Rattle.win32_spec.specs.HandleCalls.{DupStep}
use Rattle.win32_spec.specs.HandleEffects.{is_its_object}
use Rattle.win32_spec.specs.ProcessCalls.{live_of, live_process, process_object, OpenStep}
use Rattle.win32_spec.specs.WellFormed.{AreRisingObjects, IsListed}
use Rattle.win32_spec.specs.FormedLaws.{to_listed}
use Rattle.win32_spec.specs.LookupLaws.{same, differs}
use Rattle.win32_spec.specs.ObjectLaws.{rising_objects-bound}
use Rattle.w32_process.specs.FoundLaws.{is_live-aside}
use Rattle.w32_process.specs.Table.{place_at, number_at}
use Rattle.w32_process.specs.TableLaws.{IsInNone}
use Rattle.w32_machine.specs.Contract.{LivesOnlyIn}
use Rattle.w32_machine.specs.declared.machine.Machine.TheInside.{Inside}
use Rattle.w32_machine.specs.Running.{Running}
use Rattle.w32_machine.specs.View.{posted_in, placed_in, view_of}
use Rattle.w32_machine.specs.Sound.{IsSound}
use Rattle.w32_machine.proofs.Slots.{its_process, found, live, its_facts, caller-at}
use Rattle.w32_machine.proofs.Processes.{numbers}

-- the object of a process is its own
process_object-found : (low : ℕ) (xs : List NumberedObject) (v o : ℕ) → AreRisingObjects low xs
    → process_object xs v ≡ Some o
    → object_of xs o ≡ Some (ProcessObject v)
process_object-found low [] v o r e = absurd (cc)
process_object-found low (x ∷ xs) v o r e =
    by_test (is_object_of x.object v) refl e (process_object-found (x.number + 1) xs v o r.2)
  where
    by_test : (b : Bool) → is_object_of x.object v ≡ b → (if b then Some x.number else process_object xs v) ≡ Some o
        → (process_object xs v ≡ Some o → object_of xs o ≡ Some (ProcessObject v))
        → object_of (x ∷ xs) o ≡ Some (ProcessObject v)
    by_test true t f rest = let n : x.number ≡ o = cc in let s = same x.number o n in
        rw s (ap Some (is_its_object x.object v t))
    by_test false t f rest =
        let found = rest f in
        let b = rising_objects-bound (x.number + 1) xs o (ProcessObject v) r.2 found in
        let s = differs x.number o (λ n. omega (arith, b.0)) in rw s found

-- a process that doesn't live is none while it is alive
not-live : (o : Option Process) → is_live o ≡ false → live_of o ≡ None
not-live None e = refl
not-live (Some p) e = rw e refl

module _ (m : Inside) (sound : IsSound m) (now : Running) (shows : view_of m ≡ now) where
  objects-now : (view_of m).win32.objects ≡ now.win32.objects
  objects-now = ap (λ (r : Running). r.win32.objects) shows

  pub process-listed : (w o : ℕ) → process_object (view_of m).win32.objects w ≡ Some o → IsListed now.win32.objects o
  process-listed w o e =
      let xs : List NumberedObject = (view_of m).win32.objects in
      let at = process_object-found 0 xs w o sound.state.formed.objects e in
      let bound = rising_objects-bound 0 xs o (ProcessObject w) sound.state.formed.objects at in
      subst (λ ys. IsListed ys o) objects-now
      (to_listed xs o (ProcessObject w) (ap (object_of xs) bound.1 ∙ at) (λ e. bound.1))

  pub opened-by : (w v o : ℕ) (r : Reply) (new : Win32State) → process_object (view_of m).win32.objects v ≡ Some o
      → GetsHandle now.win32 w o r new → OpenStep now.win32 w v r new
  opened-by w v o r new e step =
      let f : process_object now.win32.objects v ≡ Some o = ap (λ xs. process_object xs v) (sym objects-now) ∙ e in
      rw f step

  pub new-process : (v slot : ℕ) → process_object (view_of m).win32.objects v ≡ None
      → number_at m.processes.slots slot ≡ Some v
      → (number_in now.win32 slot ≡ Some v) × (process_object now.win32.objects v ≡ None)
  new-process v slot e at =
      (sym (numbers m sound now shows slot) ∙ at, ap (λ xs. process_object xs v) (sym objects-now) ∙ e)

  pub opened-new : (w v slot : ℕ) (r : Reply) (new : Win32State) → process_object (view_of m).win32.objects v ≡ None
      → number_at m.processes.slots slot ≡ Some v → MakesObject now.win32 w (ProcessObject v) r new
      → OpenStep now.win32 w v r new
  opened-new w v slot r new e at step =
      let f : process_object now.win32.objects v ≡ None = ap (λ xs. process_object xs v) (sym objects-now) ∙ e in
      let l : is_live (process_of now.win32.processes v) ≡ true =
      subst (λ (r : Running). is_live (process_of r.win32.processes v) ≡ true) shows (live m sound slot v at) in
      rw (f, l) step

  -- none of the slots has it
  aside : (v : ℕ) → IsInNone m.processes.slots v → is_live (process_of now.win32.processes v) ≡ false
  aside v none =
      subst (λ (r : Running). is_live (process_of r.win32.processes v) ≡ false) shows
      (is_live-aside (posted_in m.posted.items) (placed_in m.placed.items) m.processes sound.table v none)

  pub opened-unknown : (w v : ℕ) → process_object (view_of m).win32.objects v ≡ None → IsInNone m.processes.slots v
      → OpenStep now.win32 w v reply.Unknown now.win32
  opened-unknown w v e none =
      let f : process_object now.win32.objects v ≡ None = ap (λ xs. process_object xs v) (sym objects-now) ∙ e in
      let l = aside v none in
      rw (f, l) (refl, refl)

  -- The process that a handle names, and whether it stands in the slot in which it lives if it lives.
  module _ (w h n v slot : ℕ) (named : process_named (object_by now.win32 w h) ≡ Some v) where
    pub dup-gone : LivesOnlyIn now.win32 v slot → (number_in now.win32 slot ≡ Some v → ⊥)
        → DupStep now.win32 w h n reply.Gone now.win32
    dup-gone only not =
        let none : IsInNone m.processes.slots v = λ k at.
        let e : number_in now.win32 k ≡ Some v = sym (numbers m sound now shows k) ∙ at in
        not (ap (number_in now.win32) (sym (only k e)) ∙ e) in
        let gone = not-live (process_of now.win32.processes v) (aside v none) in
        rw (named, gone) (refl, refl)

    module _ (lives : number_in now.win32 slot ≡ Some v) where
      pub at : number_at m.processes.slots slot ≡ Some v
      at = caller-at m sound now shows slot v lives

      lives-now : live_process now.win32 v ≡ Some (its_process m sound slot v at)
      lives-now =
          ap (λ (r : Running). live_process r.win32 v) (sym shows) ∙ ap live_of (found m sound slot v at)

      pub dup-none : handle_of (place_at m.processes.slots slot).handles n ≡ None
          → DupStep now.win32 w h n reply.BadHandle now.win32
      dup-none e = rw (named, lives-now, e) (refl, refl)

      pub dup-listed : (o : ℕ) → handle_of (place_at m.processes.slots slot).handles n ≡ Some o
          → IsListed now.win32.objects o
      dup-listed o e =
          subst (λ ys. IsListed ys o) objects-now ((its_facts m sound slot v at).naming n o e)

      pub dup-done : (o : ℕ) (r : Reply) (new : Win32State)
          → handle_of (place_at m.processes.slots slot).handles n ≡ Some o → GetsHandle now.win32 w o r new
          → DupStep now.win32 w h n r new
      dup-done o r new e step = rw (named, lives-now, e) step
