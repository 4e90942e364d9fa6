-- The end of a process is its end once all its handles are closed.
use Rattle.std.proofs.Common.{◌≡◌, ◌≢◌, inl, inr, ℕ, Bool, true, false, ◌||◌, if◌then◌else◌, List, []}
use Rattle.std.proofs.Common.{Option, Some, None, refl, sym, ap, ◌∙◌}
use Rattle.std.proofs.lemmas.Bool.{cases_eq}
use Rattle.script_spec.specs.declared.script.Script.{Script}
use Rattle.win32_spec.specs.Handles.{handle_of, AreRisingFrom}
use Rattle.win32_spec.specs.State.{Object, Section, Event, Mutex, Pipe, ProcessObject, TerminalObject, NumberedObject}
use Rattle.win32_spec.specs.State.{Process, Win32State}
use Rattle.win32_spec.specs.Lookup.{is_alive, process_of, object_of, change_process, with_handles}
use Rattle.win32_spec.specs.Ends.{is_object_held, held_objects, is_process_held, kept_processes, swept, ended_process}
use Rattle.win32_spec.specs.Ends.{object_left_by, objects_left_by, with_end}
use Rattle.win32_spec.specs.WellFormed.{AreRisingProcesses, AreRisingObjects, IsWellFormed}
use Rattle.win32_spec.specs.LookupLaws.{same_some, process_of-change_same, process_of-change_other, changed_process}
use Rattle.win32_spec.specs.LookupLaws.{rising-change_process}
use Rattle.win32_spec.specs.ObjectLaws.{left_object, rising-left}
use Rattle.win32_spec.specs.HeldLaws.{HaveRisingHandles, held_object, held_object-stays, rising-held, process_held-by}
use Rattle.win32_spec.specs.HeldLaws.{is-process_held, rising-kept}
use Rattle.win32_spec.specs.FormedLaws.{have_rising}
use Rattle.w32_handles.specs.PlaceLaws.{left_shown, found-left}
use Rattle.w32_handles.specs.ShownLaws.{FindsObjects, same_objects}
use Rattle.w32_process.specs.ProcessLaws.{Finds, same_processes}
use Rattle.w32_process.specs.SweepLaws.{object_kept, process_kept_by, found-held, found-kept, kept-twice, HandsOn}
use Rattle.w32_process.specs.SweepLaws.{held-over}
use Rattle.w32_process.specs.ClosingLaws.{same_bool, with_hs, held, found-with, found-here}
use Rattle.w32_process.specs.ClosingLaws.{found-aside, rising-with_hs, handles-with}

-- what an end leaves is the object of a process exactly where that was one
pub process_left : (w v : ℕ) (x : Object) → ProcessObject v ≡ object_left_by w x → x ≡ ProcessObject v
process_left w v (Section words) e = absurd (cc)
process_left w v (Event event) e = absurd (cc)
process_left w v (Mutex owner) e = absurd (cc)
process_left w v (Pipe bytes) e = absurd (cc)
process_left w v (ProcessObject u) e = sym e
process_left w v (TerminalObject terminal) e = absurd (cc)

module _ (next : ℕ) (ps : List Process) (xs : List NumberedObject) (w code : ℕ) (p : Process)
    (rising : AreRisingProcesses 1 next ps) (objects : AreRisingObjects 0 xs) (handles : HaveRisingHandles ps)
    (found : process_of ps w ≡ Some p) (alive : is_alive p.life ≡ true) where
  -- the processes after the end, and those with all handles of the process closed
  abbrev pub ended : List Process
  ended = change_process w (ended_process code) ps

  abbrev pub empty : List Process
  empty = with_hs next ps xs w p rising objects handles found alive []

  abbrev os : List NumberedObject
  os = held next ps xs w p rising objects handles found alive []

  abbrev closed : List Process
  closed = kept_processes os empty

  abbrev then_ended : List Process
  then_ended = change_process w (ended_process code) closed

  no_rising : AreRisingFrom 1 []
  no_rising = tt

  pub rising_ended : AreRisingProcesses 1 next ended
  rising_ended = rising-change_process w (ended_process code) (λ x. refl) 1 next ps rising

  rising_empty : AreRisingProcesses 1 next empty
  rising_empty = rising-with_hs next ps xs w p rising objects handles found alive []

  rising_closed : AreRisingProcesses 1 next closed
  rising_closed = rising-kept os 1 next empty rising_empty

  rising_then : AreRisingProcesses 1 next then_ended
  rising_then = rising-change_process w (ended_process code) (λ x. refl) 1 next closed rising_closed

  ended_here : process_of ended w ≡ Some (ended_process code p)
  ended_here = process_of-change_same w (ended_process code) (λ x. refl) ps p found

  pub ended_aside : (v : ℕ) → v ≢ w → process_of ended v ≡ process_of ps v
  ended_aside v d = process_of-change_other w (ended_process code) (λ x. refl) ps v d

  empty_here : process_of empty w ≡ Some (record p { handles = [] })
  empty_here = found-here next ps xs w p rising objects handles found alive []

  closed_here : process_of closed w ≡ Some (record p { handles = [] })
  closed_here =
      found-kept os 1 next empty rising_empty w
      ∙ ap (process_kept_by (is_process_held os w)) empty_here
      ∙ ap (λ (b : Bool). if b || is_process_held os w then Some (record p { handles = [] }) else None) alive

  then_here : process_of then_ended w ≡ Some (ended_process code p)
  then_here =
      process_of-change_same w (ended_process code) (λ x. refl) closed (record p { handles = [] }) closed_here

  then_aside : (v : ℕ) → v ≢ w → process_of then_ended v ≡ process_kept_by (is_process_held os v) (process_of ps v)
  then_aside v d =
      process_of-change_other w (ended_process code) (λ x. refl) closed v d
      ∙ found-kept os 1 next empty rising_empty v
      ∙ ap (process_kept_by (is_process_held os v))
      (found-aside next ps xs w p rising objects handles found alive [] v d)

  -- a process that is found alive after the end is another one, and was found before
  pub alive_ended : (v : ℕ) (q : Process) → process_of ended v ≡ Some q → is_alive q.life ≡ true
      → (v ≢ w) × (process_of ps v ≡ Some q)
  alive_ended v q e live =
      elim (changed_process w (ended_process code) (λ x. refl) ps v q e) [
        | inl other ↦ other
        | inr this ↦ absurd (let f : true ≡ false = sym live ∙ ap (λ (x : Process). is_alive x.life) this.3 in cc)
      ]

  alive_then : (v : ℕ) (q : Process) → process_of then_ended v ≡ Some q → is_alive q.life ≡ true
      → (v ≢ w) × (process_of ps v ≡ Some q)
  alive_then v q e live =
      elim (cases_eq v w) [
        | inl n ↦
            let g : q ≡ ended_process code p =
            same_some (process_of then_ended w) q (ended_process code p) (rw n at e) then_here in
            absurd (let f : true ≡ false = sym live ∙ ap (λ (x : Process). is_alive x.life) g in cc)
        | inr d ↦ (d, by_old (process_of ps v) refl (sym (then_aside v d) ∙ e))
      ]
    where
      by_test : (x : Process) → process_of ps v ≡ Some x → (b : Bool)
          → (if b then Some x else None) ≡ Some q → process_of ps v ≡ Some q
      by_test x f true g = f ∙ g
      by_test x f false g = absurd (cc)

      by_old : (o : Option Process) → process_of ps v ≡ o
          → process_kept_by (is_process_held os v) o ≡ Some q → process_of ps v ≡ Some q
      by_old None f g = absurd (cc)
      by_old (Some x) f g = by_test x f (is_alive x.life || is_process_held os v) g

  handles_ended : HaveRisingHandles ended
  handles_ended v q e live = handles v q (alive_ended v q e live).1 live

  handles_then : HaveRisingHandles then_ended
  handles_then v q e live = handles v q (alive_then v q e live).1 live

  handles_empty : HaveRisingHandles empty
  handles_empty = handles-with next ps xs w p rising objects handles found alive [] no_rising

  -- the same handles of live processes stand in all three
  ended_on_empty : HandsOn ended empty
  ended_on_empty v q k names e live n =
      let was = alive_ended v q e live in
      (q, found-aside next ps xs w p rising objects handles found alive [] v was.0 ∙ was.1, live, n)

  empty_on_ended : HandsOn empty ended
  empty_on_ended v q k names e live n =
      elim (found-with next ps xs w p rising objects handles found alive [] v q e) [
        | inl other ↦ (q, ended_aside v other.0 ∙ other.1, live, n)
        | inr this ↦ absurd (let f : None ≡ Some names =
            sym (ap (λ (x : Process). handle_of x.handles k) this.1) ∙ n in cc)
      ]

  then_on_ended : HandsOn then_ended ended
  then_on_ended v q k names e live n =
      let was = alive_then v q e live in (q, ended_aside v was.0 ∙ was.1, live, n)

  ended_on_then : HandsOn ended then_ended
  ended_on_then v q k names e live n =
      let was = alive_ended v q e live in (
        q,
        then_aside v was.0 ∙ ap (process_kept_by (is_process_held os v)) was.1
            ∙ ap (λ (b : Bool). if b || is_process_held os v then Some q else None) live,
        live,
        n,
      )

  pub held_ended : (o : ℕ) → is_object_held ended o ≡ is_object_held empty o
  held_ended o =
      same_bool (is_object_held ended o) (is_object_held empty o)
      (held-over 1 next ended empty o rising_ended handles_ended ended_on_empty)
      (held-over 1 next empty ended o rising_empty handles_empty empty_on_ended)

  held_then : (o : ℕ) → is_object_held then_ended o ≡ is_object_held ended o
  held_then o =
      same_bool (is_object_held then_ended o) (is_object_held ended o)
      (held-over 1 next then_ended ended o rising_then handles_then then_on_ended)
      (held-over 1 next ended then_ended o rising_ended handles_ended ended_on_then)

  abbrev last : List NumberedObject
  last = held_objects ended (objects_left_by w xs)

  pub ending-objects : held_objects then_ended (objects_left_by w os) ≡ last
  ending-objects =
      same_objects 0 0 (held_objects then_ended (objects_left_by w os)) last
      (rising-held then_ended 0 (objects_left_by w os) (rising-left w 0 os (rising-held empty 0 xs objects)))
      (rising-held ended 0 (objects_left_by w xs) (rising-left w 0 xs objects)) finds
    where
      by_test : (b : Bool) (o : Option Object)
          → object_kept b (left_shown w (object_kept b o)) ≡ object_kept b (left_shown w o)
      by_test true o = refl
      by_test false o = refl

      finds : FindsObjects (held_objects then_ended (objects_left_by w os)) last
      finds o =
          found-held then_ended (objects_left_by w os) o
          ∙ ap (λ b. object_kept b (object_of (objects_left_by w os) o)) (held_then o ∙ held_ended o)
          ∙ ap (object_kept (is_object_held empty o)) (found-left w os o ∙ ap (left_shown w) (found-held empty xs o))
          ∙ by_test (is_object_held empty o) (object_of xs o)
          ∙ ap (object_kept (is_object_held empty o)) (sym (found-left w xs o))
          ∙ ap (λ b. object_kept b (object_of (objects_left_by w xs) o)) (sym (held_ended o))
          ∙ sym (found-held ended (objects_left_by w xs) o)

  -- an object of a process that is there in the end was there before
  still_listed : (v : ℕ) → is_process_held last v ≡ true → is_process_held os v ≡ true
  still_listed v e =
      let at = process_held-by 0 last v (rising-held ended 0 (objects_left_by w xs) (rising-left w 0 xs objects)) e in
      let both = held_object ended (objects_left_by w xs) at.0 (ProcessObject v) at.1 in
      let was = left_object w xs at.0 (ProcessObject v) both.0 in
      let its = was.1 ∙ ap Some (process_left w v was.0 was.2) in
      is-process_held os v at.0
      (held_object-stays empty xs at.0 (ProcessObject v) its (sym (held_ended at.0) ∙ both.1))

  pub ending-processes : kept_processes last then_ended ≡ kept_processes last ended
  ending-processes =
      same_processes 1 next 1 next (kept_processes last then_ended) (kept_processes last ended)
      (rising-kept last 1 next then_ended rising_then) (rising-kept last 1 next ended rising_ended) finds
    where
      what : (v : ℕ) → process_kept_by (is_process_held last v) (process_of then_ended v) ≡
          process_kept_by (is_process_held last v) (process_of ended v)
      what v =
          elim (cases_eq v w) [
            | inl n ↦ ap (process_kept_by (is_process_held last v))
                (ap (process_of then_ended) n ∙ then_here ∙ sym ended_here ∙ ap (process_of ended) (sym n))
            | inr d ↦ ap (process_kept_by (is_process_held last v)) (then_aside v d)
                ∙ kept-twice (is_process_held last v) (is_process_held os v) (still_listed v) (process_of ps v)
                ∙ ap (process_kept_by (is_process_held last v)) (sym (ended_aside v d))
          ]

      finds : Finds (kept_processes last then_ended) (kept_processes last ended)
      finds v =
          found-kept last 1 next then_ended rising_then v ∙ what v ∙ sym (found-kept last 1 next ended rising_ended v)

-- the state, with the handles closed first
pub ending-closed : (script : Script) (s : Win32State) → IsWellFormed script s → (w code : ℕ) (p : Process)
    → process_of s.processes w ≡ Some p → is_alive p.life ≡ true
    → with_end (swept (with_handles s w [])) w code ≡ with_end s w code
ending-closed script s h w code p found alive =
    let rising = h.formed.processes in
    let objects = h.formed.objects in
    let handles = have_rising script s h.formed in
    ap (λ (xs : List NumberedObject). record s {
      processes = kept_processes xs (then_ended s.next s.processes s.objects w code p rising objects handles found
          alive);
      objects = xs;
    })
    (ending-objects s.next s.processes s.objects w code p rising objects handles found alive)
    ∙ ap (λ (ps : List Process). record s {
      processes = ps;
      objects = last s.next s.processes s.objects w code p rising objects handles found alive;
    })
    (ending-processes s.next s.processes s.objects w code p rising objects handles found alive)
