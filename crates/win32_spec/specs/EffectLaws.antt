-- A well-formed state stays so under each change that a call makes.
use Rattle.std.proofs.Common.{◌≡◌, ◌⊎◌, inl, inr, ℕ, true, false, List, Some, refl, sym, ap, ◌∙◌, subst}
use Rattle.std.proofs.lemmas.Bool.{cases_eq}
use Rattle.script_spec.specs.declared.script.Script.{Script}
use Rattle.win32_spec.specs.Handles.{Handle, handle_of, with_handle, AreRisingFrom, IsLowestFree}
use Rattle.win32_spec.specs.State.{Object, ProcessObject, Process, Win32State}
use Rattle.win32_spec.specs.Lookup.{is_alive, process_of, object_number, object_of, change_process, add_object}
use Rattle.win32_spec.specs.Lookup.{with_handles, with_new_object, IsFresh}
use Rattle.win32_spec.specs.Ends.{is_object_held, is_process_held}
use Rattle.win32_spec.specs.Named.{handles_of, handles_by, is_full}
use Rattle.win32_spec.specs.WellFormed.{IsListed, IsLiveProcess, IsObject, only_number, IsFormed, IsWellFormed}
use Rattle.win32_spec.specs.LookupLaws.{same_some, not_none, process_of-change_same, process_of-change_other}
use Rattle.win32_spec.specs.LookupLaws.{changed_process}
use Rattle.win32_spec.specs.ObjectLaws.{object_of-add_new, object_of-add_other}
use Rattle.win32_spec.specs.HandleLaws.{handle_of-with_same, handle_of-with_other, rising-with, has_room, lowest-fits}
use Rattle.win32_spec.specs.HeldLaws.{IsHeldBy, held-by, is-held, process_held-by, is-process_held}
use Rattle.win32_spec.specs.FormedLaws.{of_live, have_rising, to_listed, from_listed, formed-with_handles}
use Rattle.win32_spec.specs.FormedLaws.{formed-with_new_object}

-- A live process gets more handles in a formed state: each object is held there, or by one of these handles.
pub wellformed-more : (script : Script) (s : Win32State) (w : ℕ) (p : Process) (hs : List Handle) → IsFormed script s
    → process_of s.processes w ≡ Some p → is_alive p.life ≡ true → AreRisingFrom 1 hs
    → ((k names : ℕ) → handle_of hs k ≡ Some names → IsListed s.objects names)
    → ((k names : ℕ) → handle_of p.handles k ≡ Some names → handle_of hs k ≡ Some names)
    → ((o : ℕ) (x : Object) → object_of s.objects o ≡ Some x
    → (is_object_held s.processes o ≡ true)
    ⊎ ((k : ℕ) × (names : ℕ) × (handle_of hs k ≡ Some names) × (object_number names ≡ o)))
    → ((v : ℕ) (q : Process) → process_of s.processes v ≡ Some q → is_alive q.life ≡ false
    → is_process_held s.objects v ≡ true)
    → IsWellFormed script (with_handles s w hs)
wellformed-more script s w p hs h found alive rising naming more held ended = record {
  formed = formed-with_handles script s w p hs h found alive rising naming;
  object_held = λ o x e. elim (held o x e) [
    | inl before ↦ is-held (change_process w (λ q. record q { handles = hs }) s.processes) o
        (still (held-by 1 s.next s.processes o h.processes (have_rising script s h) before))
    | inr at ↦ is-held (change_process w (λ q. record q { handles = hs }) s.processes) o (record {
      number = w;
      process = record p { handles = hs };
      found = its;
      alive = alive;
      handle = at.0;
      names = at.1;
      named = at.2;
      object = at.3;
    })
  ];
  process_held = λ v q e dead. elim (changed_process w (λ q. record q { handles = hs }) (λ q. refl) s.processes v q e) [
    | inl other ↦ ended v q other.1 dead
    | inr this ↦ absurd (
        let g : p ≡ this.1 = same_some (process_of s.processes w) p this.1 found this.2 in
        let a : is_alive q.life ≡ true = ap (λ (x : Process). is_alive x.life) this.3 ∙ (rw (← g) alive) in cc)
  ];
}
  where
    its : process_of (change_process w (λ q. record q { handles = hs }) s.processes) w ≡ Some
        (record p { handles = hs })
    its = process_of-change_same w (λ q. record q { handles = hs }) (λ q. refl) s.processes p found

    still : {o : ℕ} → IsHeldBy s.processes o
        → IsHeldBy (change_process w (λ q. record q { handles = hs }) s.processes) o
    still at = elim (cases_eq at.number w) [
      | inl n ↦
          let g : at.process ≡ p =
          same_some (process_of s.processes w) at.process p
          (ap (λ k. process_of s.processes k) (sym n) ∙ at.found) found in
          record {
            number = w;
            process = record p { handles = hs };
            found = its;
            alive = alive;
            handle = at.handle;
            names = at.names;
            named = more at.handle at.names (ap (λ (x : Process). handle_of x.handles at.handle) (sym g) ∙ at.named);
            object = at.object;
          }
      | inr d ↦
          record {
            number = at.number;
            process = at.process;
            found = process_of-change_other w (λ q. record q { handles = hs }) (λ q. refl) s.processes at.number d
                ∙ at.found;
            alive = at.alive;
            handle = at.handle;
            names = at.names;
            named = at.named;
            object = at.object;
          }
    ]

-- one more handle, with the lowest free number
module _ (script : Script) (s : Win32State) (w : ℕ) (p : Process) (h : IsWellFormed script s)
    (found : process_of s.processes w ≡ Some p)
    (alive : is_alive p.life ≡ true) (room : is_full (handles_by s w) 1 ≡ false) (handle : ℕ)
    (lowest : IsLowestFree (handles_by s w) handle) where
  its_handles : handles_by s w ≡ p.handles
  its_handles = ap handles_of found

  its_live : IsLiveProcess script s.objects p
  its_live = of_live script s.objects p p.life alive (h.formed.process w p found)

  its_rising : AreRisingFrom 1 (handles_by s w)
  its_rising = subst (AreRisingFrom 1) (sym its_handles) its_live.rising

  its_naming : (k names : ℕ) → handle_of (handles_by s w) k ≡ Some names → IsListed s.objects names
  its_naming k names e = its_live.naming k names (ap (λ hs. handle_of hs k) (sym its_handles) ∙ e)

  new_rising : (names : ℕ) → AreRisingFrom 1 (with_handle (handles_by s w) handle names)
  new_rising names = rising-with 1 (handles_by s w) handle names its_rising lowest.from_one
      (lowest-fits (handles_by s w) handle its_rising (has_room (handles_by s w) 1 room) lowest) lowest.free

  -- what the new list names is what the old one did, or what the new handle is on
  new_naming : (names k n : ℕ) → handle_of (with_handle (handles_by s w) handle names) k ≡ Some n
      → (handle_of (handles_by s w) k ≡ Some n) ⊎ (n ≡ names)
  new_naming names k n e = elim (cases_eq k handle) [
    | inl m ↦ inr (same_some (handle_of (with_handle (handles_by s w) handle names) handle) n names
        (ap (λ i. handle_of (with_handle (handles_by s w) handle names) i) (sym m) ∙ e)
        (handle_of-with_same (handles_by s w) handle names lowest.free))
    | inr d ↦ inl (sym (handle_of-with_other (handles_by s w) handle names k d) ∙ e)
  ]

  new_more : (names k n : ℕ) → handle_of p.handles k ≡ Some n
      → handle_of (with_handle (handles_by s w) handle names) k ≡ Some n
  new_more names k n e =
      let old : handle_of (handles_by s w) k ≡ Some n = ap (λ hs. handle_of hs k) its_handles ∙ e in
      let apart = λ (m : k ≡ handle). not_none (handle_of (handles_by s w) handle) n
      (ap (handle_of (handles_by s w)) (sym m) ∙ old) lowest.free in
      handle_of-with_other (handles_by s w) handle names k apart ∙ old

  pub wellformed-opened : (names : ℕ) → IsListed s.objects names
      → IsWellFormed script (with_handles s w (with_handle (handles_by s w) handle names))
  wellformed-opened names listed =
      wellformed-more script s w p (with_handle (handles_by s w) handle names) h.formed found alive (new_rising names)
      (λ k n e. elim (new_naming names k n e) [ inl old ↦ its_naming k n old | inr m ↦ rw m listed ])
      (new_more names) (λ o x e. inl (h.object_held o x e)) h.process_held

  -- a new object
  pub wellformed-added : (o : ℕ) (x : Object) → IsFresh s o → IsObject s.processes x
      → ((b : ℕ) (y : Object) (k : ℕ) → object_of s.objects b ≡ Some y → only_number x ≡ Some k
      → only_number y ≡ Some k → ⊥)
      → IsWellFormed script (with_handles (with_new_object s o x) w (with_handle (handles_by s w) handle o))
  wellformed-added o x fresh rule only =
      wellformed-more script (with_new_object s o x) w p (with_handle (handles_by s w) handle o)
      (formed-with_new_object script s o x h.formed fresh rule only) found alive (new_rising o)
      (λ k n e. elim (new_naming o k n e) [ inl old ↦ more n (its_naming k n old) | inr m ↦ rw m new_listed ])
      (new_more o)
      (λ a y e. elim (cases_eq a o) [
        | inl m ↦ inr (handle, o, handle_of-with_same (handles_by s w) handle o lowest.free, fresh.even ∙ sym m)
        | inr d ↦ inl (h.object_held a y (sym (object_of-add_other o x s.objects a d) ∙ e))
      ])
      (λ v q e dead. let at = process_held-by 0 s.objects v h.formed.objects (h.process_held v q e dead) in
      let apart = λ (m : at.0 ≡ o). not_none (object_of s.objects o) (ProcessObject v)
      (ap (object_of s.objects) (sym m) ∙ at.1) fresh.free in
      is-process_held (add_object o x s.objects) v at.0 (object_of-add_other o x s.objects at.0 apart ∙ at.1))
    where
      new_listed : IsListed (add_object o x s.objects) o
      new_listed = to_listed (add_object o x s.objects) o x
          (ap (object_of (add_object o x s.objects)) fresh.even ∙ object_of-add_new o x s.objects fresh.free)
          (λ e. fresh.even)

      more : (n : ℕ) → IsListed s.objects n → IsListed (add_object o x s.objects) n
      more n l =
          let at = from_listed s.objects n l in
          let apart = λ (m : object_number n ≡ o). not_none (object_of s.objects o) at.0
          (ap (object_of s.objects) (sym m) ∙ at.1) fresh.free in
          to_listed (add_object o x s.objects) n at.0
          (object_of-add_other o x s.objects (object_number n) apart ∙ at.1) at.2
