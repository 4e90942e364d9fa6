-- The host stays, with the section and the terminal.
use Rattle.std.proofs.Common.{◌≡◌, inl, inr, ℕ, ◌≤◌, true, List, Some, refl, sym, ap, ◌∙◌, arith}
use Rattle.script_spec.specs.declared.script.Script.{Script}
use Rattle.tty_spec.specs.Terminal.{Terminal}
use Rattle.win32_spec.specs.State.{Object, Section, Event, Mutex, Pipe, ProcessObject, TerminalObject}
use Rattle.win32_spec.specs.Lookup.{process_of, object_number}
use Rattle.win32_spec.specs.Facts.{IsExchange, ObjectAfter}
use Rattle.win32_spec.specs.Handles.{handle_of}
use Rattle.win32_spec.specs.MemoryEffects.{HaveRegisters}
use Rattle.win32_spec.specs.Named.{handles_of, object_by, object_at}
use Rattle.win32_spec.specs.StableFacts.{object-step}
use Rattle.win32_spec.specs.StepLaws.{wellformed-step}
use Rattle.win32_spec.specs.Tame.{HoldsNext}
use Rattle.win32_spec.specs.WellFormed.{IsWellFormed}
use Rattle.win32_spec.specs.FormedLaws.{of_live, from_listed, live_found}
use Rattle.layer_spec.specs.Moment.{HistoryStep}
use Rattle.layer_spec.specs.Turns.{is_live_process}
use Rattle.world_spec.specs.Sound.{IsHosted}
use Rattle.world_spec.specs.SeenStep.{IsSeenStep}
use Rattle.world_spec.specs.EndLaws.{named_found}

-- what comes of a section is a section
section_next : (E : Type 0) (w t : ℕ) (words : List ℕ) (y : Object) → HoldsNext E w t (Section words) y
    → (others : List ℕ) × (y ≡ Section others)
section_next E w t words (Section others) h = (others, refl)
section_next E w t words (Event e) h = absurd h
section_next E w t words (Mutex owner) h = absurd h
section_next E w t words (Pipe bytes) h = absurd h
section_next E w t words (ProcessObject v) h = absurd h
section_next E w t words (TerminalObject terminal) h = absurd h

-- what comes of the terminal is the terminal
terminal_next : (E : Type 0) (w t : ℕ) (x : Terminal) (y : Object) → HoldsNext E w t (TerminalObject x) y
    → (other : Terminal) × (y ≡ TerminalObject other)
terminal_next E w t x (Section others) h = absurd h
terminal_next E w t x (Event e) h = absurd h
terminal_next E w t x (Mutex owner) h = absurd h
terminal_next E w t x (Pipe bytes) h = absurd h
terminal_next E w t x (ProcessObject v) h = absurd h
terminal_next E w t x (TerminalObject other) h = (other, refl)

module _ {A : Type 0} (script : Script) (step : HistoryStep A) (registers : HaveRegisters script)
    (seen : IsSeenStep script step) where
  abbrev hosted : IsHosted step.before.win32
  hosted = seen.before.hosted

  pub after_formed : IsWellFormed script step.after.win32
  after_formed =
      wellformed-step script step.before.win32 step.entry.directive step.entry.call step.entry.outcome step.after.win32
      registers seen.before.formed seen.win32

  host_lives : is_live_process step.after.win32 1 ≡ true
  host_lives = seen.shows.facts.host hosted.lives

  -- what a low handle of the host named is still there, changed as an object may be
  pub still_named : (k : ℕ) (x : Object) → k ≤ 8 → object_by step.before.win32 1 k ≡ Some x
      → (y : Object) × (object_by step.after.win32 1 k ≡ Some y)
      × ObjectAfter step.before.win32 step.entry.directive step.entry.call x y
  still_named k x few e =
      let at = named_found step.before.win32 1 k x e in
      let named = seen.shows.facts.processes.low_handles 1 k at.0 few at.1 host_lives in
      let q = live_found (process_of step.after.win32.processes 1) host_lives in
      let live = of_live script step.after.win32.objects q.0 q.0.life q.2 (after_formed.formed.process 1 q.0 q.1) in
      let listed = from_listed step.after.win32.objects at.0
      (live.naming k at.0 (sym (ap (λ o. handle_of (handles_of o) k) q.1) ∙ named)) in (
        listed.0,
        ap (object_at step.after.win32) named ∙ listed.1,
        object-step script step.before.win32 step.entry.directive step.entry.call step.entry.outcome step.after.win32
            registers seen.before.formed seen.win32 (object_number at.0) x listed.0 at.2 listed.1,
      )

  pub hosted-step : IsHosted step.after.win32
  hosted-step =
      let s = still_named 1 (Section hosted.section.0) (omega arith) hosted.section.1 in
      let t = still_named 3 (TerminalObject hosted.terminal.0) (omega arith) hosted.terminal.1 in
      let words : (others : List ℕ) × (s.0 ≡ Section others) = elim s.2 [
        | inl same ↦ (hosted.section.0, same)
        | inr more ↦ elim more [
          | inl left ↦ (hosted.section.0, left.2)
          | inr turn ↦ section_next (IsExchange step.entry.call) turn.0 turn.1 hosted.section.0 s.0 turn.3.holds
        ]
      ] in
      let other : (x : Terminal) × (t.0 ≡ TerminalObject x) = elim t.2 [
        | inl same ↦ (hosted.terminal.0, same)
        | inr more ↦ elim more [
          | inl left ↦ (hosted.terminal.0, left.2)
          | inr turn ↦ terminal_next (IsExchange step.entry.call) turn.0 turn.1 hosted.terminal.0 t.0 turn.3.holds
        ]
      ] in
      record {
        lives = host_lives;
        section = (words.0, s.1 ∙ ap (λ y. Some y) words.1);
        terminal = (other.0, t.1 ∙ ap (λ y. Some y) other.1);
      }
