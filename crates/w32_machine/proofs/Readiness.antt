-- Whether a thread is ready.
use Rattle.std.proofs.Common.{◌≡◌, ◌≢◌, ◌∙◌, ◌⊎◌, inl, inr, not, ℕ, zero, suc, ◌+◌, ◌*◌, ◌/◌, ◌%◌, ◌<◌, ◌≤◌, Bool, true}
use Rattle.std.proofs.Common.{false, ◌&&◌, ◌||◌, nat_eq, List, []}
use Rattle.std.proofs.Common.{◌∷◌, length, drop, slice_get, Option, Some, None, IsSome, IfSome, refl, sym, ap, subst}
use Rattle.std.proofs.Common.{arith}
use Rattle.std.proofs.lemmas.Bool.{cases_eq, cases_lt}
use Rattle.std.specs.Option.{option_eq}
use Rattle.w32_base.specs.declared.call.Call.{Call}
use Rattle.win32_spec.specs.Handles.{Handle, handle_of}
use Rattle.win32_spec.specs.State.{Thread, Process, Win32State}
use Rattle.win32_spec.specs.Lookup.{process_in, thread_in, thread_of, thread_at, number_in, number_of}
use Rattle.win32_spec.specs.LookupLaws.{differs}
use Rattle.win32_spec.specs.Named.{handles_by}
use Rattle.win32_spec.specs.Ready.{is_handle_signalled, is_some_signalled, may_go, is_thread_ready, is_process_ready}
use Rattle.win32_spec.specs.Ready.{is_ready}
use Rattle.w32_process.specs.Table.{place_at, number_at, count_at}
use Rattle.w32_process.specs.SoundLaws.{within_slots}
use Rattle.w32_process.specs.ThreadLaws.{thread_shown, thread_in-threads}
use Rattle.w32_machine.specs.declared.machine.Machine.TheInside.{Inside}
use Rattle.w32_machine.specs.Running.{Running}
use Rattle.w32_machine.specs.View.{posted_in, view_of}
use Rattle.w32_machine.specs.Sound.{IsSound}
use Rattle.w32_machine.proofs.Slots.{its_process, found_in, handles_at, caller-at}
use Rattle.w32_machine.specs.Contract.{OnlyFew}
use Rattle.w32_machine.proofs.Keeping.{few, stands_at}
use Rattle.w32_machine.proofs.Processes.{numbers}

-- one more handle of a list
pub some-next : (s : Win32State) (w t : ℕ) (hs : List Handle) (list : List ℕ) (k h : ℕ) → slice_get list k ≡ Some h
    → is_some_signalled s w t hs (drop k list) ≡
    (is_handle_signalled s w t (handle_of hs h) || is_some_signalled s w t hs (drop (k + 1) list))
some-next s w t hs [] k h e = absurd (cc)
some-next s w t hs (x ∷ list) zero h e =
    let f : x ≡ h = cc in
    ap (λ y. is_handle_signalled s w t (handle_of hs y) || is_some_signalled s w t hs list) f
some-next s w t hs (x ∷ list) (suc k) h e =
    let n : suc k + 1 ≡ suc (k + 1) = omega arith in rw n (some-next s w t hs list k h e)

pub some-end : (s : Win32State) (w t : ℕ) (hs : List Handle) (list : List ℕ) (k : ℕ) → length list ≤ k
    → is_some_signalled s w t hs (drop k list) ≡ false
some-end s w t hs [] zero l = refl
some-end s w t hs [] (suc k) l = refl
some-end s w t hs (x ∷ list) zero l = absurd (omega arith)
some-end s w t hs (x ∷ list) (suc k) l = some-end s w t hs list k (omega arith)

pub within-some : (list : List ℕ) (k : ℕ) → k < length list → slice_get list k ≢ None
within-some [] k l e = omega arith
within-some (x ∷ list) zero l e = cc
within-some (x ∷ list) (suc k) l e = within-some list k (omega arith) e

-- a count that was compared with 0
pub not-zero : (r o : Option ℕ) → r ≡ o → not (option_eq nat_eq r (Some 0)) ≡ true → o ≢ Some 0
not-zero r o e f g = let h : r ≡ Some 0 = e ∙ g in absurd (let k : false ≡ true = rw h at f in cc)

pub is-zero : (r o : Option ℕ) → r ≡ o → not (option_eq nat_eq r (Some 0)) ≡ false → o ≡ Some 0
is-zero None o e f = absurd (let g : true ≡ false = f in cc)
is-zero (Some n) o e f = sym e ∙ by_eq (cases_eq n 0)
  where
    by_eq : (n ≡ 0) ⊎ (n ≢ 0) → Some n ≡ Some 0
    by_eq (inl g) = ap (λ i. Some i) g
    by_eq (inr d) = let h = differs n 0 d in absurd (let k : true ≡ false = rw h at f in cc)

-- no process, no thread
none-ready : (s : Win32State) (t : ℕ) (o : Option Process) → number_of o ≡ None → is_process_ready s t o ≡ false
none-ready s t None e = refl
none-ready s t (Some p) e = absurd (cc)

pub empty-ready : (s : Win32State) (slot t : ℕ) → number_in s slot ≡ None → false ≡ is_ready s slot t
empty-ready s slot t e = sym (none-ready s t (process_in s.processes slot) e)

module _ (m : Inside) (sound : IsSound m) (now : Running) (shows : view_of m ≡ now) (slot w t : ℕ)
    (by : number_in now.win32 slot ≡ Some w) where
  at : number_at m.processes.slots slot ≡ Some w
  at = caller-at m sound now shows slot w by

  thread-is : thread_in (its_process m sound slot w at).threads t ≡
      thread_shown (posted_in m.posted.items slot) t (count_at m.processes.slots slot t)
  thread-is =
      thread_in-threads (posted_in m.posted.items slot) (place_at m.processes.slots slot).suspended t
      ∙ ap (thread_shown (posted_in m.posted.items slot) t) (rw at refl)

  found : process_in now.win32.processes slot ≡ Some (its_process m sound slot w at)
  found = ap (λ (r : Running). process_in r.win32.processes slot) (sym shows) ∙ found_in m sound slot w at

  pub thread-at : thread_at now.win32 slot t ≡
      thread_shown (posted_in m.posted.items slot) t (count_at m.processes.slots slot t)
  thread-at = ap (λ o. thread_of o t) found ∙ thread-is

  ready-is : is_ready now.win32 slot t ≡
      is_thread_ready now.win32 (its_process m sound slot w at)
      (thread_shown (posted_in m.posted.items slot) t (count_at m.processes.slots slot t))
  ready-is =
      ap (is_process_ready now.win32 t) found
      ∙ ap (is_thread_ready now.win32 (its_process m sound slot w at)) thread-is

  pub suspended-ready : count_at m.processes.slots slot t ≢ Some 0 → false ≡ is_ready now.win32 slot t
  suspended-ready d = sym (ready-is ∙ by_count (count_at m.processes.slots slot t) d)
    where
      by_count : (o : Option ℕ) → o ≢ Some 0
          → is_thread_ready now.win32 (its_process m sound slot w at)
          (thread_shown (posted_in m.posted.items slot) t o) ≡ false
      by_count None d = refl
      by_count (Some n) d =
          let e = differs n 0 (λ f. d (ap (λ i. Some i) f)) in
          ap (λ b. b && may_go now.win32 w t (place_at m.processes.slots slot).handles (posted_in m.posted.items slot
          t)) e

  pub running-thread : count_at m.processes.slots slot t ≡ Some 0 → IsSome (thread_at now.win32 slot t)
  running-thread e = rw (thread-at ∙ ap (thread_shown (posted_in m.posted.items slot) t) e) refl

  pub running-few : count_at m.processes.slots slot t ≡ Some 0 → t ≤ 2
  running-few e =
      few m sound slot t
      (subst (λ (r : Running). IsSome (thread_at r.win32 slot t)) (sym shows) (running-thread e))

  pub running-ready : count_at m.processes.slots slot t ≡ Some 0 → (call : Call)
      → IfSome (thread_at now.win32 slot t) (λ x. call ≡ x.posted) → (r : Bool)
      → r ≡ may_go now.win32 w t (handles_by now.win32 w) call → r ≡ is_ready now.win32 slot t
  running-ready e call posted r went =
      let is : call ≡ posted_in m.posted.items slot t =
      subst (λ o. IfSome o (λ x. call ≡ x.posted))
      (thread-at ∙ ap (thread_shown (posted_in m.posted.items slot) t) e) posted in
      went
      ∙ ap (λ hs. may_go now.win32 w t hs call)
      (ap (λ (q : Running). handles_by q.win32 w) (sym shows) ∙ handles_at m sound slot w at)
      ∙ ap (may_go now.win32 w t (place_at m.processes.slots slot).handles) is
      ∙ sym (ready-is ∙ ap (λ o. is_thread_ready now.win32 (its_process m sound slot w at)
      (thread_shown (posted_in m.posted.items slot) t o)) e)

-- the number that was found in a slot
pub here : (m : Inside) → IsSound m → (now : Running) → view_of m ≡ now → (slot w : ℕ) (o : Option ℕ)
    → o ≡ number_at m.processes.slots slot → o ≡ Some w → number_in now.win32 slot ≡ Some w
here m sound now shows slot w o e f = sym (numbers m sound now shows slot) ∙ sym e ∙ f

pub nowhere : (m : Inside) → IsSound m → (now : Running) → view_of m ≡ now → (slot : ℕ) (o : Option ℕ)
    → o ≡ number_at m.processes.slots slot → o ≡ None → number_in now.win32 slot ≡ None
nowhere m sound now shows slot o e f = sym (numbers m sound now shows slot) ∙ sym e ∙ f

-- a thread that is ready stands in a slot that has modules
pub ready-within : (m : Inside) → IsSound m → (now : Running) → view_of m ≡ now → (slot t : ℕ)
    → is_ready now.win32 slot t ≡ true → (slot < length m.placed.items) × (t ≤ 2)
ready-within m sound now shows slot t e = by_process (process_in now.win32.processes slot) refl e
  where
    by_process : (o : Option Process) → process_in now.win32.processes slot ≡ o
        → is_process_ready now.win32 t o ≡ true → (slot < length m.placed.items) × (t ≤ 2)
    by_process None f g = absurd (cc)
    by_process (Some p) f g =
        by_thread (thread_in p.threads t) refl g
      where
        by_thread : (x : Option Thread) → thread_in p.threads t ≡ x → is_thread_ready now.win32 p x ≡ true
            → (slot < length m.placed.items) × (t ≤ 2)
        by_thread None h i = absurd (cc)
        by_thread (Some x) h i =
            let some_now : IsSome (thread_at now.win32 slot t) = rw (ap (λ o. thread_of o t) f ∙ h) refl in
            let some : IsSome (thread_at (view_of m).win32 slot t) =
            subst (λ (r : Running). IsSome (thread_at r.win32 slot t)) (sym shows) some_now in
            let within = within_slots m.processes.slots slot _ (stands_at m sound slot t some) in
            (omega (arith, within, sound.placed), few m sound slot t some)

pub only-few : (m : Inside) → IsSound m → (now : Running) → view_of m ≡ now → OnlyFew now.win32
only-few m sound now shows slot t e =
    let within = ready-within m sound now shows slot t e in
    (omega (arith, within.0, sound.placed, sound.table.few), within.1)

-- no thread of another place is ready
pub not-ready : (s : Win32State) (slot t : ℕ) → is_ready s slot t ≢ true → is_ready s slot t ≡ false
not-ready s slot t d = by_answer (is_ready s slot t) refl
  where
    by_answer : (b : Bool) → is_ready s slot t ≡ b → b ≡ false
    by_answer false e = refl
    by_answer true e = absurd (d e)

pub past-slots : (m : Inside) → IsSound m → (now : Running) → view_of m ≡ now → (slot t : ℕ)
    → length m.placed.items ≤ slot → is_ready now.win32 slot t ≡ false
past-slots m sound now shows slot t l =
    not-ready now.win32 slot t (λ e. absurd (omega (arith, l, (ready-within m sound now shows slot t e).0)))

pub past-threads : (m : Inside) → IsSound m → (now : Running) → view_of m ≡ now → (slot t : ℕ) → 3 ≤ t
    → is_ready now.win32 slot t ≡ false
past-threads m sound now shows slot t l =
    not-ready now.win32 slot t (λ e. absurd (omega (arith, l, (ready-within m sound now shows slot t e).1)))
