-- Waiting for the roster mutex and letting it go change no word, no terminal and no process. After a wait that ended
-- the thread owns the mutex.
use Rattle.std.proofs.Common.{◌≡◌, ◌⊎◌, inl, inr, ℕ, ◌+◌, Bool, true, false, if◌then◌else◌, List, [], ◌∷◌}
use Rattle.std.proofs.Common.{Option, Some, None, MatchOption, slice_index, refl, sym, ap, ◌∙◌, subst, arith}
use Rattle.std.proofs.lemmas.Bool.{cases_eq}
use Rattle.w32_base.specs.declared.call.Reply.{Reply}
use Rattle.w32_base.specs.declared.call.Reply.TheVariants as reply
use Rattle.script_spec.specs.declared.script.Script.{Script}
use Rattle.tty_spec.specs.Terminal.{Terminal}
use Rattle.win32_spec.specs.CallEffects.{by_bool, by_option, object_by-found, is_mutex, is_section}
use Rattle.win32_spec.specs.Call.{CallStep}
use Rattle.win32_spec.specs.HandleCalls.{TakesObject, taken_object}
use Rattle.win32_spec.specs.Handles.{handle_of}
use Rattle.win32_spec.specs.Lookup.{object_of, change_object, section_words, terminal_in, words_or, terminal_or}
use Rattle.win32_spec.specs.Lookup.{with_object}
use Rattle.win32_spec.specs.Lookup.{process_of, object_number, word_in}
use Rattle.win32_spec.specs.LookupLaws.{same, differs}
use Rattle.win32_spec.specs.Named.{handles_of, has_absent, handles_by, named_by, object_at, object_by, object_number_by}
use Rattle.win32_spec.specs.Named.{mutex_named, Gives}
use Rattle.win32_spec.specs.Named.{number_or_zero}
use Rattle.win32_spec.specs.ObjectLaws.{rising_objects-bound, object_of-change_same, object_of-change_other}
use Rattle.win32_spec.specs.Objects.{exchanged, Ownership, Free, Owned, is_owner}
use Rattle.win32_spec.specs.Ready.{is_handle_signalled}
use Rattle.win32_spec.specs.State.{Object, Section, Event, Mutex, Pipe, ProcessObject, TerminalObject, NumberedObject}
use Rattle.win32_spec.specs.State.{Win32State}
use Rattle.win32_spec.specs.WordCalls.{words_by, with_words, word_reply, after_exchange, ExchangeStep}
use Rattle.win32_spec.specs.WellFormed.{AreRisingObjects, IsWellFormed}
use Rattle.layer_spec.specs.Words as words
use Rattle.roster.specs.declared.hold.Hold.TheVariants as hold
use Rattle.roster.specs.declared.release.Let.TheVariants as release
use Rattle.roster.specs.Mutex.{hold_posted, let_posted, hold_woken}
use Rattle.roster.specs.Roster.{HoldsRoster}
use Rattle.roster.specs.Turns.{roster_handle}
use Rattle.world_spec.specs.Calm.{IsCalm}
use Rattle.world_spec.specs.CalmSteps.{calm_process}
use Rattle.world_spec.specs.ExchangeLaws.{KeepsRest}

-- Of what the section's words and the terminal are read, one object shows what another one shows.
pub record IsAlikeObject (x y : Object) : Type 0 where
  pub words : (z : Option (List ℕ)) → words_or y z ≡ words_or x z
  pub terminal : (z : Option Terminal) → terminal_or y z ≡ terminal_or x z

alike_lists : (o low : ℕ) (y : Object) (xs : List NumberedObject) → AreRisingObjects low xs
    → ((x : Object) → object_of xs o ≡ Some x → IsAlikeObject x y)
    → (section_words (change_object o y xs) ≡ section_words xs) × (terminal_in (change_object o y xs) ≡ terminal_in xs)
alike_lists o low y [] r alike = (refl, refl)
alike_lists o low y (x ∷ xs) r alike = elim (cases_eq x.number o) [
  | inl n ↦
      let s = same x.number o n in
      let rest = alike_lists o (x.number + 1) y xs r.2 (λ z e. absurd (
      let bound = rising_objects-bound (x.number + 1) xs o z r.2 e in omega (arith, bound.0, n))) in
      let at = alike x.object (rw s refl) in (
        rw s (ap (words_or y) rest.0 ∙ at.words (section_words xs)),
        rw s (ap (terminal_or y) rest.1 ∙ at.terminal (terminal_in xs)),
      )
  | inr d ↦
      let s = differs x.number o d in
      let rest = alike_lists o (x.number + 1) y xs r.2 (λ z e. alike z (rw s e)) in
      (rw s (ap (words_or x.object) rest.0), rw s (ap (terminal_or x.object) rest.1))
]

-- The words, the terminal and the processes are as before.
pub record KeepsAll (s mid : Win32State) : Type 0 where
  pub words : (i : ℕ) → words.word_in mid i ≡ words.word_in s i
  pub rest : KeepsRest s mid

pub kept-same : (s mid : Win32State) → mid ≡ s → KeepsAll s mid
kept-same s mid e =
    subst (KeepsAll s) (sym e) (record { words = λ i. refl; rest = record { terminal = refl; processes = refl } })

module _ (script : Script) (s : Win32State) (h : IsWellFormed script s) where
  kept_object : (o : ℕ) (y : Object) (mid : Win32State) → ((x : Object) → object_of s.objects o ≡ Some x
      → IsAlikeObject x y)
      → mid ≡ with_object s o y → KeepsAll s mid
  kept_object o y mid alike e =
      let both = alike_lists o 0 y s.objects h.formed.objects alike in
      subst (KeepsAll s) (sym e) (record {
        words = λ i. ap (λ ws. word_in ws i) both.0;
        rest = record { terminal = both.1; processes = refl };
      })

  taken_alike : (w t : ℕ) (x : Object) → IsAlikeObject x (taken_object w t x)
  taken_alike w t (Section ws) = record { words = λ z. refl; terminal = λ z. refl }
  taken_alike w t (Event e) = record { words = λ z. refl; terminal = λ z. refl }
  taken_alike w t (Mutex owner) = record { words = λ z. refl; terminal = λ z. refl }
  taken_alike w t (Pipe bytes) = record { words = λ z. refl; terminal = λ z. refl }
  taken_alike w t (ProcessObject v) = record { words = λ z. refl; terminal = λ z. refl }
  taken_alike w t (TerminalObject terminal) = record { words = λ z. refl; terminal = λ z. refl }

  module _ (w t : ℕ) (r : Reply) (mid : Win32State) where
    -- What a wait for the roster mutex comes to: no such handle, or the object is taken.
    abbrev Taken : Type 0
    Taken = (x : Object) × (object_by s w roster_handle ≡ Some x)
        × (mid ≡ with_object s (object_number_by s w roster_handle) (taken_object w t x))

    waited : CallStep script s w t (hold_posted hold.Waiting) r mid
        → ((r ≡ reply.BadHandle) × (mid ≡ s)) ⊎ Taken
    waited step = by_bool (has_absent (handles_by s w) (roster_handle ∷ [])) (λ e m. inl m) (λ e m.
        by_signal (is_handle_signalled s w t (handle_of (handles_by s w) roster_handle)) m) step
      where
        taken : TakesObject s w t (slice_index (roster_handle ∷ []) 0) 0 r mid
            → ((r ≡ reply.BadHandle) × (mid ≡ s)) ⊎ Taken
        taken m = by_option (object_by s w roster_handle) (λ e n. absurd n) (λ x e n. inr (x, e, n.1)) m

        by_signal : (b : Bool) → MatchOption (if b then Some 0 else None) ⊥
            (λ n. TakesObject s w t (slice_index (roster_handle ∷ []) n) n r mid)
            → ((r ≡ reply.BadHandle) × (mid ≡ s)) ⊎ Taken
        by_signal true m = taken m
        by_signal false m = absurd m

    pub wait-keeps : CallStep script s w t (hold_posted hold.Waiting) r mid → KeepsAll s mid
    wait-keeps step = elim (waited step) [
      | inl bad ↦ kept-same s mid bad.1
      | inr got ↦
          let found = object_by-found s w roster_handle got.0 got.1 in
          kept_object (object_number_by s w roster_handle) (taken_object w t got.0) mid
          (λ z e. subst (λ y. IsAlikeObject y (taken_object w t got.0))
          (let f : Some got.0 ≡ Some z = sym found ∙ e in let g : got.0 ≡ z = cc in g) (taken_alike w t got.0)) got.2
    ]

    -- Where the handle is on a mutex and the wait ended, the thread owns it.
    pub wait-holds : ((x : Object) → object_by s w roster_handle ≡ Some x → (owner : Ownership) × (x ≡ Mutex owner))
        → CallStep script s w t (hold_posted hold.Waiting) r mid → hold_woken r ≡ hold.Held → HoldsRoster mid w t
    wait-holds mutex step woken = elim (waited step) [
      | inl bad ↦ absurd (
          let e : hold.Rest ≡ hold.Held = sym (ap hold_woken bad.0) ∙ woken in cc)
      | inr got ↦
          let owner = mutex got.0 got.1 in
          let is : mid ≡ with_object s (object_number_by s w roster_handle) (Mutex (Owned w t)) =
          got.2 ∙ ap (λ x. with_object s (object_number_by s w roster_handle) (taken_object w t x)) owner.1 in
          let found = object_by-found s w roster_handle got.0 got.1 in
          subst (λ m. HoldsRoster m w t) (sym is) (by_name (named_by s w roster_handle) got.0
          (object_of-change_same (object_number_by s w roster_handle) (Mutex (Owned w t)) s.objects got.0 found) got.1)
    ]
      where
        -- the handle is there after it
        by_name : (o : Option ℕ) (x : Object)
            → object_of (change_object (number_or_zero o) (Mutex (Owned w t)) s.objects) (number_or_zero o)
            ≡ Some (Mutex (Owned w t)) → object_at s o ≡ Some x
            → object_at (with_object s (number_or_zero o) (Mutex (Owned w t))) o ≡ Some (Mutex (Owned w t))
        by_name None x e f = absurd (cc)
        by_name (Some names) x e f = e

    pub release-keeps : CallStep script s w t (let_posted release.Releasing) r mid → KeepsAll s mid
    release-keeps step = by_option (mutex_named (object_by s w roster_handle)) (λ e m. kept-same s mid m.1)
        (λ owner e m. by_bool (is_owner owner w t)
        (λ own n. kept_object (object_number_by s w roster_handle) (Mutex Free) mid (λ z f.
        let found = object_by-found s w roster_handle (Mutex owner) (is_mutex (object_by s w roster_handle) owner e) in
        subst (λ y. IsAlikeObject y (Mutex Free))
        (let g : Some (Mutex owner) ≡ Some z = sym found ∙ f in let k : Mutex owner ≡ z = cc in k)
        (record { words = λ q. refl; terminal = λ q. refl })) n.1)
        (λ other n. kept-same s mid n.1) m) step

-- Such a change is calm.
pub kept-calm : (s mid : Win32State) → KeepsAll s mid → IsCalm s mid
kept-calm s mid kept = record {
  words = kept.words;
  terminal = kept.rest.terminal;
  processes = λ v q e alive.
      (q, ap (λ ps. process_of ps v) (sym kept.rest.processes) ∙ e, alive, calm_process q);
}

-- what a handle names, in a state with the same objects and handles
same_named : (s mid : Win32State) (v : ℕ) (x : Object) → mid.processes ≡ s.processes
    → ((o : ℕ) → object_of s.objects o ≡ Some x → object_of mid.objects o ≡ Some x)
    → object_by s v roster_handle ≡ Some x → object_by mid v roster_handle ≡ Some x
same_named s mid v x processes objects e =
    ap (object_at mid) (ap (λ ps. handle_of (handles_of (process_of ps v)) roster_handle) processes)
    ∙ by_name (named_by s v roster_handle) e
  where
    by_name : (o : Option ℕ) → object_at s o ≡ Some x → object_at mid o ≡ Some x
    by_name None f = absurd (cc)
    by_name (Some names) f = objects (object_number names) f

-- A compare-exchange leaves the roster mutex its owner's.
pub exchange-holds : (s : Win32State) (w k i old n : ℕ) (r : Reply) (mid : Win32State)
    → ExchangeStep s w k i old n r mid → (v u : ℕ) → HoldsRoster s v u → HoldsRoster mid v u
exchange-holds s w k i old n r mid step v u holds = by_words (words_by s w k) refl step
  where
    by_words : (o : Option (List ℕ)) → words_by s w k ≡ o
        → Gives (word_reply o i) (after_exchange s w k o i old n) r mid → HoldsRoster mid v u
    by_words None named m = subst (λ x. HoldsRoster x v u) (sym m.1) holds
    by_words (Some words) named m =
        let section = object_by-found s w k (Section words) (is_section (object_by s w k) words named) in
        subst (λ x. HoldsRoster x v u) (sym m.1)
        (same_named s (with_words s w k (exchanged words i old n)) v (Mutex (Owned v u)) refl
        (λ o e. object_of-change_other (object_number_by s w k) (Section (exchanged words i old n)) s.objects o
        (λ same. absurd (
        let f : Some (Section words) ≡ Some (Mutex (Owned v u)) = sym section
        ∙ (ap (object_of s.objects) (sym same) ∙ e) in
        cc)) ∙ e) holds)
