-- A new pipe leaves a well-formed state well formed.
use Rattle.std.proofs.Common.{◌≡◌, ◌≢◌, inl, inr, ℕ, ◌+◌, ◌≤◌, true, false, List, [], length, Some}
use Rattle.std.proofs.Common.{sym, ap, ◌∙◌, subst, arith}
use Rattle.std.proofs.lemmas.Bool.{cases_eq}
use Rattle.w32_base.specs.declared.call.Reply.{Reply}
use Rattle.script_spec.specs.declared.script.Script.{Script}
use Rattle.win32_spec.specs.Handles.{Handle, handle_of, with_handle, AreRisingFrom}
use Rattle.win32_spec.specs.State.{Pipe, ProcessObject, NumberedObject, Process, Win32State}
use Rattle.win32_spec.specs.Lookup.{is_alive, process_of, object_number, object_of, add_object}
use Rattle.win32_spec.specs.Lookup.{with_new_object}
use Rattle.win32_spec.specs.Named.{handles_by, is_full}
use Rattle.win32_spec.specs.ObjectCalls.{IsNewPipe}
use Rattle.win32_spec.specs.WellFormed.{IsListed, IsWellFormed}
use Rattle.win32_spec.specs.LookupLaws.{same_some, not_none}
use Rattle.win32_spec.specs.ObjectLaws.{object_of-add_new, object_of-add_other}
use Rattle.win32_spec.specs.HandleLaws.{handle_of-with_same, handle_of-with_other}
use Rattle.win32_spec.specs.HandleLaws.{rising-with}
use Rattle.win32_spec.specs.HandleLaws.{has_room, lowest-fits, length-with}
use Rattle.win32_spec.specs.HeldLaws.{process_held-by, is-process_held}
use Rattle.win32_spec.specs.FormedLaws.{to_listed, from_listed}
use Rattle.win32_spec.specs.FormedLaws.{formed-with_new_object}
use Rattle.win32_spec.specs.EffectLaws.{wellformed-more}
use Rattle.win32_spec.specs.CallerLaws.{caller_handles, caller_rising, caller_naming}

module _ (script : Script) (s : Win32State) (w : ℕ) (p : Process) (h : IsWellFormed script s)
    (found : process_of s.processes w ≡ Some p)
    (alive : is_alive p.life ≡ true) where
  own_handles : handles_by s w ≡ p.handles
  own_handles = caller_handles script s w p h found alive

  own_rising : AreRisingFrom 1 (handles_by s w)
  own_rising = caller_rising script s w p h found alive

  own_naming : (k names : ℕ) → handle_of (handles_by s w) k ≡ Some names → IsListed s.objects names
  own_naming = caller_naming script s w p h found alive

  -- a new pipe
  module _ (room : is_full (handles_by s w) 2 ≡ false) (r : Reply) (new : Win32State) (pipe : IsNewPipe s w r new) where
    abbrev one : List Handle
    one = with_handle (handles_by s w) pipe.read_end pipe.number

    abbrev two : List Handle
    two = with_handle one pipe.write_end (pipe.number + 1)

    abbrev objects : List NumberedObject
    objects = add_object pipe.number (Pipe []) s.objects

    pair_room : length (handles_by s w) + 2 ≤ 64
    pair_room = has_room (handles_by s w) 2 room

    one_rising : AreRisingFrom 1 one
    one_rising = rising-with 1 (handles_by s w) pipe.read_end pipe.number own_rising pipe.lowest.from_one
        (lowest-fits (handles_by s w) pipe.read_end own_rising (omega (arith, pair_room)) pipe.lowest)
        pipe.lowest.free

    two_rising : AreRisingFrom 1 two
    two_rising = rising-with 1 one pipe.write_end (pipe.number + 1) one_rising pipe.next_lowest.from_one
        (lowest-fits one pipe.write_end one_rising
        (omega (arith, pair_room, length-with (handles_by s w) pipe.read_end pipe.number)) pipe.next_lowest)
        pipe.next_lowest.free

    pipe_found : object_of objects pipe.number ≡ Some (Pipe [])
    pipe_found = object_of-add_new pipe.number (Pipe []) s.objects pipe.fresh.free

    write_number : object_number (pipe.number + 1) ≡ pipe.number
    write_number = omega (arith, pipe.fresh.even)

    pipe_listed : (n : ℕ) → object_number n ≡ pipe.number → IsListed objects n
    pipe_listed n e = to_listed objects n (Pipe []) (ap (object_of objects) e ∙ pipe_found) (λ f. absurd (cc))

    more_listed : (n : ℕ) → IsListed s.objects n → IsListed objects n
    more_listed n l =
        let at = from_listed s.objects n l in
        let apart = λ (m : object_number n ≡ pipe.number).
        not_none (object_of s.objects pipe.number) at.0 (ap (object_of s.objects) (sym m) ∙ at.1) pipe.fresh.free in
        to_listed objects n at.0 (object_of-add_other pipe.number (Pipe []) s.objects (object_number n) apart ∙ at.1)
        at.2

    two_naming : (k n : ℕ) → handle_of two k ≡ Some n → IsListed objects n
    two_naming k n e = elim (cases_eq k pipe.write_end) [
      | inl m ↦
          let f : n ≡ pipe.number + 1 =
          same_some (handle_of two pipe.write_end) n (pipe.number + 1) (ap (handle_of two) (sym m) ∙ e)
          (handle_of-with_same one pipe.write_end (pipe.number + 1) pipe.next_lowest.free) in
          pipe_listed n (ap object_number f ∙ write_number)
      | inr d ↦
          let e1 : handle_of one k ≡ Some n = sym (handle_of-with_other one pipe.write_end (pipe.number + 1) k d) ∙ e in
          elim (cases_eq k pipe.read_end) [
            | inl m ↦
                let f : n ≡ pipe.number =
                same_some (handle_of one pipe.read_end) n pipe.number (ap (handle_of one) (sym m) ∙ e1)
                (handle_of-with_same (handles_by s w) pipe.read_end pipe.number pipe.lowest.free) in
                pipe_listed n (ap object_number f ∙ pipe.fresh.even)
            | inr f ↦ more_listed n
                (own_naming k n (sym (handle_of-with_other (handles_by s w) pipe.read_end pipe.number k f) ∙ e1))
          ]
    ]

    two_more : (k n : ℕ) → handle_of p.handles k ≡ Some n → handle_of two k ≡ Some n
    two_more k n e =
        let old : handle_of (handles_by s w) k ≡ Some n = ap (λ hs. handle_of hs k) own_handles ∙ e in
        let apart = λ (m : k ≡ pipe.read_end). not_none (handle_of (handles_by s w) pipe.read_end) n
        (ap (handle_of (handles_by s w)) (sym m) ∙ old) pipe.lowest.free in
        let first : handle_of one k ≡ Some n = handle_of-with_other (handles_by s w) pipe.read_end pipe.number k apart
        ∙ old in
        let again = λ (m : k ≡ pipe.write_end). not_none (handle_of one pipe.write_end) n
        (ap (handle_of one) (sym m) ∙ first) pipe.next_lowest.free in
        handle_of-with_other one pipe.write_end (pipe.number + 1) k again ∙ first

    read_apart : pipe.read_end ≢ pipe.write_end
    read_apart m =
        not_none (handle_of one pipe.read_end) pipe.number
        (handle_of-with_same (handles_by s w) pipe.read_end pipe.number pipe.lowest.free)
        (ap (handle_of one) m ∙ pipe.next_lowest.free)

    pub wellformed-piped : IsWellFormed script new
    wellformed-piped =
        subst (IsWellFormed script) (sym pipe.after)
        (wellformed-more script (with_new_object s pipe.number (Pipe [])) w p two
        (formed-with_new_object script s pipe.number (Pipe []) h.formed pipe.fresh (omega arith)
        (λ b y k e f g. absurd (cc)))
        found alive two_rising two_naming two_more
        (λ a y e. elim (cases_eq a pipe.number) [
          | inl m ↦ inr (
            pipe.read_end,
            pipe.number,
            handle_of-with_other one pipe.write_end (pipe.number + 1) pipe.read_end read_apart
                ∙ handle_of-with_same (handles_by s w) pipe.read_end pipe.number pipe.lowest.free,
            pipe.fresh.even ∙ sym m,
          )
          | inr d ↦ inl (h.object_held a y (sym (object_of-add_other pipe.number (Pipe []) s.objects a d) ∙ e))
        ])
        (λ v q e dead. let at = process_held-by 0 s.objects v h.formed.objects (h.process_held v q e dead) in
        let apart = λ (m : at.0 ≡ pipe.number).
        not_none (object_of s.objects pipe.number) (ProcessObject v) (ap (object_of s.objects) (sym m) ∙ at.1)
        pipe.fresh.free in
        is-process_held objects v at.0 (object_of-add_other pipe.number (Pipe []) s.objects at.0 apart ∙ at.1)))
