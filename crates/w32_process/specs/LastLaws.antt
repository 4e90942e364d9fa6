-- The end of a process that has no handles: it is kept exactly where an object is its.
use Rattle.std.proofs.Common.{◌≡◌, ◌≢◌, inl, inr, ℕ, Bool, true, false, List, [], Option, Some}
use Rattle.std.proofs.Common.{refl, sym, ap, ◌∙◌}
use Rattle.std.proofs.lemmas.Bool.{cases_eq}
use Rattle.w32_base.specs.declared.call.Call.{Call}
use Rattle.script_spec.specs.declared.script.Script.{Script}
use Rattle.win32_spec.specs.State.{Object, ProcessObject, NumberedObject, PlacedModule, Process, Win32State}
use Rattle.win32_spec.specs.Lookup.{is_alive, process_of, change_process}
use Rattle.win32_spec.specs.Ends.{is_object_held, held_objects, is_process_held, kept_processes, ended_process}
use Rattle.win32_spec.specs.Ends.{objects_left_by, with_ended, with_end}
use Rattle.win32_spec.specs.WellFormed.{AreRisingObjects, IsWellFormed}
use Rattle.win32_spec.specs.ObjectLaws.{object_of-left, left_object, rising-left}
use Rattle.win32_spec.specs.HeldLaws.{process_held-by, is-process_held}
use Rattle.win32_spec.specs.FormedLaws.{have_rising}
use Rattle.w32_handles.specs.Table.{HeldObject}
use Rattle.w32_handles.specs.Shown.{objects_of}
use Rattle.w32_process.specs.declared.kept.Kept.{Kept as KeptProcess}
use Rattle.w32_process.specs.Table.{Table, place_at, number_at, without_kept, with_end as with_end_at}
use Rattle.w32_process.specs.Sound.{IsSound}
use Rattle.w32_process.specs.Processes.{kept_process, live_process, processes_of}
use Rattle.w32_process.specs.TableLaws.{kept_at}
use Rattle.w32_process.specs.FoundLaws.{process_of-live, process_of-ended}
use Rattle.w32_process.specs.EndLaws.{processes-with_end, IsSound-with_end}
use Rattle.w32_process.specs.ForgetLaws.{processes-forget}
use Rattle.w32_process.specs.SweepLaws.{held-all, kept-all}
use Rattle.w32_process.specs.ClosedLaws.{state_of}
use Rattle.w32_process.specs.StateClosing.{same_handles}
use Rattle.w32_process.specs.EndingLaws.{process_left, held_ended, rising_ended, ended_aside}

-- an end changes the object of no process
pub process_held-left : (w : ℕ) (xs : List NumberedObject) → AreRisingObjects 0 xs → (v : ℕ)
    → is_process_held (objects_left_by w xs) v ≡ is_process_held xs v
process_held-left w xs r v =
    by_test (is_process_held (objects_left_by w xs) v) (is_process_held xs v) refl refl
  where
    forth : is_process_held (objects_left_by w xs) v ≡ true → is_process_held xs v ≡ true
    forth e =
        let at = process_held-by 0 (objects_left_by w xs) v (rising-left w 0 xs r) e in
        let was = left_object w xs at.0 (ProcessObject v) at.1 in
        is-process_held xs v at.0 (was.1 ∙ ap Some (process_left w v was.0 was.2))

    back : is_process_held xs v ≡ true → is_process_held (objects_left_by w xs) v ≡ true
    back e =
        let at = process_held-by 0 xs v r e in
        is-process_held (objects_left_by w xs) v at.0 (object_of-left w xs at.0 (ProcessObject v) at.1)

    by_test : (a b : Bool) → is_process_held (objects_left_by w xs) v ≡ a → is_process_held xs v ≡ b → a ≡ b
    by_test true true e f = refl
    by_test false false e f = refl
    by_test true false e f = sym (forth e) ∙ f
    by_test false true e f = sym e ∙ back f

module _ (script : Script) (s : Win32State) (h : IsWellFormed script s) (w code : ℕ) (p : Process)
    (found : process_of s.processes w ≡ Some p) (alive : is_alive p.life ≡ true) (none : p.handles ≡ []) where
  abbrev ended : List Process
  ended = change_process w (ended_process code) s.processes

  -- who holds an object is the same
  holds : (o : ℕ) → is_object_held ended o ≡ is_object_held s.processes o
  holds o =
      held_ended s.next s.processes s.objects w code p h.formed.processes h.formed.objects
      (have_rising script s h.formed) found alive o
      ∙ ap (λ hs. is_object_held (change_process w (λ x. record x { handles = hs }) s.processes) o) (sym none)
      ∙ ap (λ ps. is_object_held ps o) (same_handles script s h w p found alive)

  all_held : held_objects ended (objects_left_by w s.objects) ≡ objects_left_by w s.objects
  all_held =
      held-all ended 0 (objects_left_by w s.objects) (rising-left w 0 s.objects h.formed.objects)
      (λ o x e. let was = left_object w s.objects o x e in holds o ∙ h.object_held o was.0 was.1)

  -- what is kept of the processes is all that there is to sweep
  pub end-swept : with_end s w code ≡
      (record (with_ended s w code) { processes = kept_processes (objects_left_by w s.objects) ended })
  end-swept =
      ap (λ (xs : List NumberedObject). record s { processes = kept_processes xs ended; objects = xs }) all_held

  -- another process that has ended is still named
  pub end-others : (v : ℕ) (q : Process) → process_of ended v ≡ Some q → is_alive q.life ≡ false → v ≢ w
      → is_process_held (objects_left_by w s.objects) v ≡ true
  end-others v q e dead d =
      process_held-left w s.objects h.formed.objects v
      ∙ h.process_held v q
      (sym (ended_aside s.next s.processes s.objects w code p h.formed.processes h.formed.objects
      (have_rising script s h.formed) found alive v d)
      ∙ e) dead

  -- while an object is its, it is kept
  pub end-kept : is_process_held s.objects w ≡ true → with_end s w code ≡ with_ended s w code
  end-kept its =
      end-swept
      ∙ ap (λ (ps : List Process). record (with_ended s w code) { processes = ps })
      (kept-all (objects_left_by w s.objects) 1 s.next ended
      (rising_ended s.next s.processes s.objects w code p h.formed.processes h.formed.objects
      (have_rising script s h.formed) found alive) all)
    where
      all : (v : ℕ) (q : Process) → process_of ended v ≡ Some q → is_alive q.life ≡ false
          → is_process_held (objects_left_by w s.objects) v ≡ true
      all v q e dead =
          elim (cases_eq v w) [
            | inl n ↦ ap (is_process_held (objects_left_by w s.objects)) n
                ∙ process_held-left w s.objects h.formed.objects w ∙ its
            | inr d ↦ end-others v q e dead d
          ]

-- The same in the tables.
module _ {K : Type 0} (script : Script) (posted posted' : ℕ → ℕ → Call) (placed placed' : ℕ → List PlacedModule)
    (f : K → Object) (t : Table) (sound : IsSound t) (places : List (Option (HeldObject K))) (keys : List ℕ)
    (h : IsWellFormed script (state_of posted placed f t places keys)) (slot w code : ℕ)
    (stands : number_at t.slots slot ≡ Some w) (none : (place_at t.slots slot).handles ≡ [])
    (posted_aside : (k u : ℕ) → k ≢ slot → posted' k u ≡ posted k u)
    (placed_aside : (k : ℕ) → k ≢ slot → placed' k ≡ placed k) (left : List (Option (HeldObject K)))
    (shows : objects_of f left ≡ objects_left_by w (objects_of f places)) where
  abbrev s : Win32State
  s = state_of posted placed f t places keys

  abbrev p : Process
  p = live_process posted placed slot w (place_at t.slots slot)

  abbrev table : Table
  table = with_end_at t slot w code

  found : process_of (processes_of posted placed t) w ≡ Some p
  found = process_of-live posted placed t sound slot w stands

  changed : processes_of posted' placed' table ≡ change_process w (ended_process code) (processes_of posted placed t)
  changed = processes-with_end posted posted' placed placed' t sound slot w code stands posted_aside placed_aside

  sound_after : IsSound table
  sound_after = IsSound-with_end posted posted' placed placed' t sound slot w code stands posted_aside placed_aside

  -- it is kept
  pub ended-kept : is_process_held (objects_of f left) w ≡ true
      → state_of posted' placed' f table left keys ≡ with_end s w code
  ended-kept its =
      ap (λ (ps : List Process). record (state_of posted' placed' f table left keys) { processes = ps }) changed
      ∙ ap (λ (xs : List NumberedObject). record (with_ended s w code) { objects = xs }) shows
      ∙ sym (end-kept script s h w code p found refl none
      (sym (process_held-left w (objects_of f places) h.formed.objects w)
      ∙ ap (λ xs. is_process_held xs w) (sym shows) ∙ its))

  -- it is forgotten
  pub ended-forgotten : is_process_held (objects_of f left) w ≡ false
      → state_of posted' placed' f (record table { kept = without_kept table.kept w }) left keys ≡ with_end s w code
  ended-forgotten unheld =
      ap (λ (ps : List Process). record (state_of posted' placed' f table left keys) { processes = ps })
      (processes-forget posted' placed' (objects_left_by w (objects_of f places)) table sound_after w
      (ap (λ xs. is_process_held xs w) (sym shows) ∙ unheld) others
      ∙ ap (kept_processes (objects_left_by w (objects_of f places))) changed)
      ∙ ap (λ (xs : List NumberedObject). record (with_ended s w code) {
        processes = kept_processes (objects_left_by w (objects_of f places))
            (change_process w (ended_process code) (processes_of posted placed t));
        objects = xs;
      }) shows
      ∙ sym (end-swept script s h w code p found refl none)
    where
      others : (u : ℕ) (e : KeptProcess) → kept_at table.kept u ≡ Some e → u ≢ w
          → is_process_held (objects_left_by w (objects_of f places)) u ≡ true
      others u e kept d =
          end-others script s h w code p found refl none u (kept_process e)
          (ap (λ ps. process_of ps u) (sym changed) ∙ process_of-ended posted' placed' table sound_after u e kept) refl
          d
