-- A new process leaves a well-formed state well formed.
use Rattle.std.proofs.Common.{◌≡◌, inl, inr, ℕ, true, false, List, Some, None, slice_get}
use Rattle.std.proofs.Common.{sym, ap, ◌∙◌, subst, arith}
use Rattle.std.proofs.lemmas.Bool.{cases_eq}
use Rattle.w32_base.specs.declared.call.Reply.{Reply}
use Rattle.w32_base.specs.declared.setup.Program.{Program}
use Rattle.script_spec.specs.declared.script.Script.{Script}
use Rattle.win32_spec.specs.Handles.{Handle, handle_of, with_handle, listed_handles, AreRisingFrom}
use Rattle.win32_spec.specs.State.{ProcessObject, NumberedObject, Process, Win32State}
use Rattle.win32_spec.specs.Lookup.{is_alive, process_of, object_number, object_of, add_process, add_object}
use Rattle.win32_spec.specs.Lookup.{IsLowestFreeSlot}
use Rattle.win32_spec.specs.Ends.{is_object_held}
use Rattle.win32_spec.specs.Named.{handles_by, is_full}
use Rattle.win32_spec.specs.Making.{new_process}
use Rattle.win32_spec.specs.ProcessCalls.{with_made, IsMade}
use Rattle.win32_spec.specs.WellFormed.{IsListed, IsWellFormed}
use Rattle.win32_spec.specs.LookupLaws.{same_some, not_none, process_of-add_kept, process_of-add_new}
use Rattle.win32_spec.specs.LookupLaws.{process_of-add_other, rising-absent}
use Rattle.win32_spec.specs.ObjectLaws.{object_of-add_new, object_of-add_other}
use Rattle.win32_spec.specs.HandleLaws.{handle_of-with_same, handle_of-with_other}
use Rattle.win32_spec.specs.HandleLaws.{rising-with, rising-listed}
use Rattle.win32_spec.specs.HandleLaws.{listed_handle, has_room, lowest-fits}
use Rattle.win32_spec.specs.HeldLaws.{IsHeldBy, held-by, is-held, process_held-by, is-process_held}
use Rattle.win32_spec.specs.FormedLaws.{have_rising, to_listed, from_listed}
use Rattle.win32_spec.specs.MadeLaws.{formed-with_made}
use Rattle.win32_spec.specs.EffectLaws.{wellformed-more}
use Rattle.win32_spec.specs.CallerLaws.{caller_handles, caller_rising, caller_naming}

module _ (script : Script) (s : Win32State) (w : ℕ) (p : Process) (h : IsWellFormed script s)
    (found : process_of s.processes w ≡ Some p)
    (alive : is_alive p.life ≡ true) where
  own_handles : handles_by s w ≡ p.handles
  own_handles = caller_handles script s w p h found alive

  own_rising : AreRisingFrom 1 (handles_by s w)
  own_rising = caller_rising script s w p h found alive

  own_naming : (k names : ℕ) → handle_of (handles_by s w) k ≡ Some names → IsListed s.objects names
  own_naming = caller_naming script s w p h found alive

  -- a new process
  module _ (slot program_no : ℕ) (program : Program) (list : List ℕ) (r : Reply) (new : Win32State)
      (listed : slice_get script.setup.programs program_no ≡ Some program)
      (lowest_slot : IsLowestFreeSlot script.setup.limits.slots s.processes slot)
      (room : is_full (handles_by s w) 1 ≡ false) (made : IsMade s w slot program_no program list r new) where
    abbrev its_process : Process
    its_process = new_process s.next slot program_no program 1 (listed_handles (handles_by s w) list)

    abbrev all_processes : List Process
    all_processes = add_process its_process s.processes

    abbrev all_objects : List NumberedObject
    all_objects = add_object made.number (ProcessObject s.next) s.objects

    abbrev all_handles : List Handle
    all_handles = with_handle (handles_by s w) made.handled.handle made.number

    still_listed : (n : ℕ) → IsListed s.objects n → IsListed all_objects n
    still_listed n l =
        let at = from_listed s.objects n l in
        let apart = λ (m : object_number n ≡ made.number).
        not_none (object_of s.objects made.number) at.0 (ap (object_of s.objects) (sym m) ∙ at.1) made.fresh.free in
        to_listed all_objects n at.0
        (object_of-add_other made.number (ProcessObject s.next) s.objects (object_number n) apart ∙ at.1) at.2

    new_listed : IsListed all_objects made.number
    new_listed = to_listed all_objects made.number (ProcessObject s.next)
        (ap (object_of all_objects) made.fresh.even
        ∙ object_of-add_new made.number (ProcessObject s.next) s.objects made.fresh.free)
        (λ e. made.fresh.even)

    all_rising : AreRisingFrom 1 all_handles
    all_rising = rising-with 1 (handles_by s w) made.handled.handle made.number own_rising
        made.handled.lowest.from_one
        (lowest-fits (handles_by s w) made.handled.handle own_rising (has_room (handles_by s w) 1 room)
        made.handled.lowest)
        made.handled.lowest.free

    all_naming : (k n : ℕ) → handle_of all_handles k ≡ Some n → IsListed all_objects n
    all_naming k n e = elim (cases_eq k made.handled.handle) [
      | inl m ↦
          let f : n ≡ made.number =
          same_some (handle_of all_handles made.handled.handle) n made.number
          (ap (handle_of all_handles) (sym m) ∙ e)
          (handle_of-with_same (handles_by s w) made.handled.handle made.number made.handled.lowest.free) in
          subst (IsListed all_objects) (sym f) new_listed
      | inr d ↦ still_listed n
          (own_naming k n (sym (handle_of-with_other (handles_by s w) made.handled.handle made.number k d) ∙ e))
    ]

    all_more : (k n : ℕ) → handle_of p.handles k ≡ Some n → handle_of all_handles k ≡ Some n
    all_more k n e =
        let old : handle_of (handles_by s w) k ≡ Some n = ap (λ hs. handle_of hs k) own_handles ∙ e in
        let apart = λ (m : k ≡ made.handled.handle). not_none (handle_of (handles_by s w) made.handled.handle) n
        (ap (handle_of (handles_by s w)) (sym m) ∙ old) made.handled.lowest.free in
        handle_of-with_other (handles_by s w) made.handled.handle made.number k apart ∙ old

    still_held : (o : ℕ) → IsHeldBy s.processes o → is_object_held all_processes o ≡ true
    still_held o at = is-held all_processes o (record {
      number = at.number;
      process = at.process;
      found = process_of-add_kept its_process s.processes at.number at.process at.found;
      alive = at.alive;
      handle = at.handle;
      names = at.names;
      named = at.named;
      object = at.object;
    })

    pub wellformed-made : IsWellFormed script new
    wellformed-made =
        subst (IsWellFormed script) (sym made.handled.after)
        (wellformed-more script (with_made s made.number its_process) w p all_handles
        (formed-with_made script s made.number slot program_no program (listed_handles (handles_by s w) list) h.formed
        made.fresh listed lowest_slot
        (rising-listed 1 (handles_by s w) list own_rising)
        (λ k n e. own_naming k n (listed_handle 1 (handles_by s w) list k n own_rising e)))
        (process_of-add_kept its_process s.processes w p found) alive all_rising all_naming all_more
        (λ a y e. elim (cases_eq a made.number) [
          | inl m ↦ inr (
            made.handled.handle,
            made.number,
            handle_of-with_same (handles_by s w) made.handled.handle made.number made.handled.lowest.free,
            made.fresh.even ∙ sym m,
          )
          | inr d ↦ inl (still_held a (held-by 1 s.next s.processes a h.formed.processes (have_rising script s h.formed)
              (h.object_held a y (sym (object_of-add_other made.number (ProcessObject s.next) s.objects a d) ∙ e))))
        ])
        (λ v q e dead. elim (cases_eq v s.next) [
          | inl m ↦ absurd (
              let free : process_of s.processes s.next ≡ None =
              rising-absent 1 s.next s.processes s.next h.formed.processes (inr (omega arith)) in
              let g : q ≡ its_process =
              same_some (process_of all_processes s.next) q its_process (ap (process_of all_processes) (sym m) ∙ e)
              (process_of-add_new its_process s.processes free) in
              let a : is_alive q.life ≡ true = ap (λ (x : Process). is_alive x.life) g in cc)
          | inr d ↦
              let at = process_held-by 0 s.objects v h.formed.objects
              (h.process_held v q (sym (process_of-add_other its_process s.processes v d) ∙ e) dead) in
              let apart = λ (m : at.0 ≡ made.number).
              not_none (object_of s.objects made.number) (ProcessObject v) (ap (object_of s.objects) (sym m) ∙ at.1)
              made.fresh.free in
              is-process_held all_objects v at.0
              (object_of-add_other made.number (ProcessObject s.next) s.objects at.0 apart ∙ at.1)
        ]))
