-- What one handle less leaves of a well-formed state: all the rest, or all but its object, with which goes the process
-- that it is of where that has ended.
use Rattle.std.proofs.Common.{◌≡◌, ◌≢◌, inl, inr, ℕ, ◌+◌, ◌<◌, true, false, if◌then◌else◌, nat_eq, nat_lt, List}
use Rattle.std.proofs.Common.{Some, refl, sym, ap, ◌∙◌, arith}
use Rattle.std.proofs.lemmas.Bool.{cases_eq}
use Rattle.script_spec.specs.declared.script.Script.{Script}
use Rattle.win32_spec.specs.Handles.{handle_of, without_handle, AreRisingFrom}
use Rattle.win32_spec.specs.State.{Object, ProcessObject, NumberedObject, Process, Win32State}
use Rattle.win32_spec.specs.Lookup.{is_alive, process_of, is_live, object_number, object_of, change_process}
use Rattle.win32_spec.specs.Lookup.{with_handles}
use Rattle.win32_spec.specs.Ends.{is_object_held, held_objects, is_process_held, kept_processes, swept}
use Rattle.win32_spec.specs.WellFormed.{AreRisingProcesses, IsWellFormed}
use Rattle.win32_spec.specs.LookupLaws.{same, differs, before, not_before, same_some, changed_process}
use Rattle.win32_spec.specs.LookupLaws.{rising-change_process}
use Rattle.win32_spec.specs.ObjectLaws.{rising_objects-bound}
use Rattle.win32_spec.specs.FormedLaws.{have_rising}
use Rattle.w32_handles.specs.Shown.{without_object}
use Rattle.w32_handles.specs.Counted.{all_holders_on}
use Rattle.w32_handles.specs.CountLaws.{all_holders-close, is_on, held-counted}
use Rattle.w32_process.specs.SweepLaws.{held-all, held-but, kept-all, is_process_held-without, is_process_held-gone}

module _ (script : Script) (s : Win32State) (h : IsWellFormed script s) (w : ℕ) (p : Process)
    (found : process_of s.processes w ≡ Some p) (alive : is_alive p.life ≡ true) (k names : ℕ)
    (named : handle_of p.handles k ≡ Some names) where
  abbrev gone : ℕ
  gone = object_number names

  -- the processes with the handle closed
  abbrev pub closed : List Process
  closed = change_process w (λ x. record x { handles = without_handle p.handles k }) s.processes

  abbrev after : Win32State
  after = with_handles s w (without_handle p.handles k)

  rising_handles : AreRisingFrom 1 p.handles
  rising_handles = have_rising script s h.formed w p found alive

  rising_closed : AreRisingProcesses 1 s.next closed
  rising_closed =
      rising-change_process w (λ x. record x { handles = without_handle p.handles k }) (λ x. refl) 1 s.next s.processes
      h.formed.processes

  -- the holders of its object are one less, and those of every other one as many
  one : (o : ℕ) → object_number o ≡ o
      → all_holders_on closed o + (if nat_eq gone o then 1 else 0) ≡ all_holders_on s.processes o
  one o even =
      omega (
        arith,
        all_holders-close 1 s.next s.processes w p h.formed.processes found alive k names 1 rising_handles named o,
        all_holders-close 1 s.next s.processes w p h.formed.processes found alive k names 1 rising_handles named
            (o + 1),
        is_on names o even,
      )

  even_gone : object_number gone ≡ gone
  even_gone = omega arith

  pub holders-less : all_holders_on closed gone + 1 ≡ all_holders_on s.processes gone
  holders-less = let e = same gone gone refl in rw e at (one gone even_gone)

  pub holders-aside : (o : ℕ) → object_number o ≡ o → o ≢ gone
      → all_holders_on closed o ≡ all_holders_on s.processes o
  holders-aside o even d =
      let e = differs gone o (λ n. d (sym n)) in
      let f : all_holders_on closed o + 0 ≡ all_holders_on s.processes o = rw e at (one o even) in omega arith

  still_held : (o : ℕ) (x : Object) → object_of s.objects o ≡ Some x → o ≢ gone → is_object_held closed o ≡ true
  still_held o x e d =
      let even = (rising_objects-bound 0 s.objects o x h.formed.objects e).1 in
      held-counted closed o even
      ∙ ap (nat_lt 0) (holders-aside o even d)
      ∙ sym (held-counted s.processes o even)
      ∙ h.object_held o x e

  -- a process that has ended is as it was
  was_dead : (v : ℕ) (q : Process) → process_of closed v ≡ Some q → is_alive q.life ≡ false
      → process_of s.processes v ≡ Some q
  was_dead v q e dead =
      elim (changed_process w (λ x. record x { handles = without_handle p.handles k }) (λ x. refl) s.processes v q e) [
        | inl other ↦ other.1
        | inr this ↦
            let was : this.1 ≡ p = same_some (process_of s.processes w) this.1 p this.2 found in
            let life : is_alive q.life ≡ is_alive this.1.life = ap (λ (x : Process). is_alive x.life) this.3 in
            absurd (let f : true ≡ false =
            sym alive ∙ ap (λ (x : Process). is_alive x.life) (sym was) ∙ sym life ∙ dead in cc)
      ]

  -- while others hold its object, nothing goes
  pub close-stays : 0 < all_holders_on closed gone → swept after ≡ after
  close-stays some =
      ap (λ (xs : List NumberedObject). record after { processes = kept_processes xs closed; objects = xs }) all_held
      ∙ ap (λ (ps : List Process). record after { processes = ps }) all_kept
    where
      held : (o : ℕ) (x : Object) → object_of s.objects o ≡ Some x → is_object_held closed o ≡ true
      held o x e =
          elim (cases_eq o gone) [
            | inl n ↦ rw n (held-counted closed gone even_gone ∙ before 0 (all_holders_on closed gone) some)
            | inr d ↦ still_held o x e d
          ]

      all_held : held_objects closed s.objects ≡ s.objects
      all_held = held-all closed 0 s.objects h.formed.objects held

      all_kept : kept_processes s.objects closed ≡ closed
      all_kept =
          kept-all s.objects 1 s.next closed rising_closed
          (λ v q e dead. h.process_held v q (was_dead v q e dead) dead)

  -- with its last holder it goes
  pub close-drops : all_holders_on closed gone ≡ 0
      → swept after ≡
      (record s {
        processes = kept_processes (without_object gone s.objects) closed;
        objects = without_object gone
            s.objects;
      })
  close-drops none =
      ap (λ (xs : List NumberedObject). record after { processes = kept_processes xs closed; objects = xs })
      (held-but closed 0 s.objects gone h.formed.objects unheld still_held)
    where
      unheld : is_object_held closed gone ≡ false
      unheld = held-counted closed gone even_gone ∙ not_before 0 (all_holders_on closed gone) (omega arith)

  -- an ended process whose object doesn't go is still kept
  pub close-others : (v : ℕ) (q : Process) → process_of closed v ≡ Some q → is_alive q.life ≡ false
      → object_of s.objects gone ≢ Some (ProcessObject v)
      → is_process_held (without_object gone s.objects) v ≡ true
  close-others v q e dead other =
      is_process_held-without 0 s.objects gone v h.formed.objects other
      (h.process_held v q (was_dead v q e dead) dead)

  -- where it is no object of an ended process, the processes stay
  pub close-drops_alone : ((v : ℕ) → object_of s.objects gone ≡ Some (ProcessObject v)
      → is_live (process_of s.processes v) ≡ true)
      → kept_processes (without_object gone s.objects) closed ≡ closed
  close-drops_alone lives =
      kept-all (without_object gone s.objects) 1 s.next closed rising_closed
      (λ v q e dead. close-others v q e dead
      (λ n. let f : true ≡ false = sym (lives v n) ∙ rw (was_dead v q e dead) dead in cc))

  -- the object of each process is one alone
  pub close-unheld : (v : ℕ) → object_of s.objects gone ≡ Some (ProcessObject v)
      → is_process_held (without_object gone s.objects) v ≡ false
  close-unheld v e =
      is_process_held-gone 0 s.objects gone v h.formed.objects
      (λ a f. h.formed.only a gone (ProcessObject v) (ProcessObject v) (v + 2) f e refl refl)
