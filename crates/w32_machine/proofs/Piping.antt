-- A new pipe is a new object with a handle on its read end, and then a handle on its write end.
use Rattle.std.proofs.Common.{◌≡◌, ◌∙◌, inl, inr, ℕ, ◌+◌, Bool, true, false, ◌&&◌, nat_eq, if◌then◌else◌, List, [], ◌∷◌}
use Rattle.std.proofs.Common.{length, Some, refl, sym, ap, subst, arith}
use Rattle.std.proofs.lemmas.Bool.{cases_eq}
use Rattle.w32_base.specs.declared.call.Reply.TheVariants as reply
use Rattle.win32_spec.specs.Handles.{Handle, with_handle, IsLowestFree}
use Rattle.win32_spec.specs.State.{Pipe, Process, Win32State}
use Rattle.win32_spec.specs.Lookup.{is_alive, process_in, number_of, number_in, object_number, object_of}
use Rattle.win32_spec.specs.Lookup.{change_process, add_object, with_new_object, with_handles, IsFresh}
use Rattle.win32_spec.specs.Named.{handles_by, is_full}
use Rattle.win32_spec.specs.ObjectCalls.{PipeStep}
use Rattle.win32_spec.specs.WellFormed.{IsListed}
use Rattle.win32_spec.specs.FormedLaws.{to_listed}
use Rattle.win32_spec.specs.HandleLaws.{has_room, length-with}
use Rattle.win32_spec.specs.LookupLaws.{same, differs, not_before}
use Rattle.win32_spec.specs.ObjectLaws.{object_of-add_new}

-- the last handles of two stay
handles-twice : (w : ℕ) (hs hs' : List Handle) (ps : List Process)
    → change_process w (λ p. record p { handles = hs' }) (change_process w (λ p. record p { handles = hs }) ps) ≡
    change_process w (λ p. record p { handles = hs' }) ps
handles-twice w hs hs' [] = refl
handles-twice w hs hs' (p ∷ ps) =
    let rest = handles-twice w hs hs' ps in
    elim (cases_eq p.number w) [
      | inl e ↦ let s = same p.number w e in rw (s, s, rest) refl
      | inr d ↦ let s = differs p.number w d in rw (s, s, rest) refl
    ]

-- other handles leave each process in its slot
number-stays : (w : ℕ) (hs : List Handle) (ps : List Process) (slot : ℕ)
    → number_of (process_in (change_process w (λ p. record p { handles = hs }) ps) slot) ≡
    number_of (process_in ps slot)
number-stays w hs [] slot = refl
number-stays w hs (p ∷ ps) slot =
    let rest = number-stays w hs ps slot in
    elim (cases_eq p.number w) [
      | inl e ↦ let s = same p.number w e in rw s (by_test (is_alive p.life && nat_eq p.slot slot) rest)
      | inr d ↦ let s = differs p.number w d in rw s (by_same (is_alive p.life && nat_eq p.slot slot) rest)
    ]
  where
    by_test : (b : Bool)
        → number_of (process_in (change_process w (λ p. record p { handles = hs }) ps) slot) ≡
        number_of (process_in ps slot)
        → number_of (if b then Some (record p { handles = hs })
        else process_in (change_process w (λ p. record p { handles = hs }) ps) slot) ≡
        number_of (if b then Some p else process_in ps slot)
    by_test true f = refl
    by_test false f = f

    by_same : (b : Bool)
        → number_of (process_in (change_process w (λ p. record p { handles = hs }) ps) slot) ≡
        number_of (process_in ps slot)
        → number_of (if b then Some p
        else process_in (change_process w (λ p. record p { handles = hs }) ps) slot) ≡
        number_of (if b then Some p else process_in ps slot)
    by_same true f = refl
    by_same false f = f

module _ (s between : Win32State) (w o read_end : ℕ) (bytes : List ℕ) (empty : bytes ≡ [])
    (handles-then : handles_by between w ≡ with_handle (handles_by s w) read_end o)
    (after : between ≡
    with_handles (with_new_object s o (Pipe bytes)) w (with_handle (handles_by s w) read_end o)) where
  after-empty : between ≡ with_handles (with_new_object s o (Pipe [])) w (with_handle (handles_by s w) read_end o)
  after-empty = after
      ∙ ap (λ (bs : List ℕ). with_handles (with_new_object s o (Pipe bs)) w (with_handle (handles_by s w) read_end o))
      empty

  pub room-then : is_full (handles_by s w) 2 ≡ false → is_full (handles_by between w) 1 ≡ false
  room-then room =
      not_before 64 (length (handles_by between w) + 1)
      (omega (
        arith,
        ap (λ (hs : List Handle). length hs) handles-then,
        length-with (handles_by s w) read_end o,
        has_room (handles_by s w) 2 room,
      ))

  pub number-then : (slot v : ℕ) → number_in s slot ≡ Some v → number_in between slot ≡ Some v
  number-then slot v e =
      ap (λ (t : Win32State). number_in t slot) after-empty
      ∙ number-stays w (with_handle (handles_by s w) read_end o) s.processes slot ∙ e

  module _ (fresh : IsFresh s o) (other : ℕ) (is : other ≡ o + 1) where
    listed-next : IsListed between.objects (o + 1)
    listed-next =
        let whole : object_number (o + 1) ≡ o = omega (arith, fresh.even) in
        to_listed between.objects (o + 1) (Pipe [])
        (ap (λ (t : Win32State). object_of t.objects (object_number (o + 1))) after-empty
        ∙ ap (object_of (add_object o (Pipe []) s.objects)) whole
        ∙ object_of-add_new o (Pipe []) s.objects fresh.free)
        (λ e. absurd (cc))

    pub listed-then : IsListed between.objects other
    listed-then =
        subst (IsListed between.objects) (sym is) listed-next

    pub piped : (write_end : ℕ) (new : Win32State) → is_full (handles_by s w) 2 ≡ false
        → IsLowestFree (handles_by s w) read_end → IsLowestFree (handles_by between w) write_end
        → new ≡ with_handles between w (with_handle (handles_by between w) write_end other)
        → PipeStep s w (reply.Two read_end write_end) new
    piped write_end new room lowest next e =
        rw room (record {
          number = o;
          fresh = fresh;
          read_end = read_end;
          lowest = lowest;
          write_end = write_end;
          next_lowest = subst (λ hs. IsLowestFree hs write_end) handles-then next;
          answered = refl;
          after = e
              ∙ ap (λ (n : ℕ). with_handles between w (with_handle (handles_by between w) write_end n)) is
              ∙ ap (λ (hs : List Handle). with_handles between w (with_handle hs write_end (o + 1))) handles-then
              ∙ ap (λ (t : Win32State). with_handles t w
              (with_handle (with_handle (handles_by s w) read_end o) write_end (o + 1))) after-empty
              ∙ ap (λ (ps : List Process). record (with_new_object s o (Pipe [])) { processes = ps })
              (handles-twice w (with_handle (handles_by s w) read_end o)
              (with_handle (with_handle (handles_by s w) read_end o) write_end (o + 1)) s.processes);
        })
