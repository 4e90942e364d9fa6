-- The clause of the starter outlasts each step beside it.
use Rattle.std.proofs.Common.{◌≡◌, inl, inr, ℕ, ℤ, true, false, Option, Some, None, MatchOption, refl, sym, ap, ◌∙◌}
use Rattle.std.proofs.Common.{subst, arith}
use Rattle.w32_base.specs.declared.event.Event.{Event}
use Rattle.w32_base.specs.declared.event.Event.TheVariants as event
use Rattle.script_spec.specs.declared.script.Script.{Script}
use Rattle.win32_spec.specs.Facts.{IsExchange, IsTurnOfThread}
use Rattle.win32_spec.specs.FormedLaws.{of_live, live_found}
use Rattle.win32_spec.specs.Lookup.{number_in, number_of, process_of}
use Rattle.win32_spec.specs.LookupLaws.{process_of-number}
use Rattle.win32_spec.specs.MemoryEffects.{HaveRegisters}
use Rattle.win32_spec.specs.ServedLaws.{process_in-is}
use Rattle.win32_spec.specs.State.{Object, Section, Event as EventObject, Mutex, Pipe, ProcessObject, TerminalObject}
use Rattle.win32_spec.specs.State.{Process, Win32State}
use Rattle.win32_spec.specs.StepFacts.{next-step, dead-step}
use Rattle.win32_spec.specs.Tame.{HoldsNext}
use Rattle.win32_spec.specs.WellFormed.{IsHost, IsLayerProcess, IsWellFormed}
use Rattle.posix_spec.specs.Run.{PosixStep}
use Rattle.layer_spec.specs.Evidence.{HasEvidence, ShowsEvent}
use Rattle.layer_spec.specs.Moment.{HistoryStep, seen_with}
use Rattle.layer_spec.specs.Turns.{is_live_process}
use Rattle.world_spec.specs.FirstLaws.{unread-stays}
use Rattle.world_spec.specs.HostLaws.{after_formed, still_named}
use Rattle.world_spec.specs.SeenStep.{IsSeenStep, IsBeside}
use Rattle.world_spec.specs.StepLaws.{some_same}
use Rattle.job_control.specs.Starter.{first_handle}
use Rattle.job_control.specs.StarterClause.{AwaitsFirst, StarterClause}
use Rattle.job_control.specs.declared.starter.Starter.{Starter}
use Rattle.job_control.specs.declared.starter.Starter.TheVariants as starter

-- what comes of a process's object is that object
process_next : (E : Type 0) (w t v : ℕ) (y : Object) → HoldsNext E w t (ProcessObject v) y → y ≡ ProcessObject v
process_next E w t v (ProcessObject n) h = ap (λ k. ProcessObject k) h
process_next E w t v (Section words) h = absurd h
process_next E w t v (EventObject e) h = absurd h
process_next E w t v (Mutex owner) h = absurd h
process_next E w t v (Pipe bytes) h = absurd h
process_next E w t v (TerminalObject terminal) h = absurd h

-- the host, which lives, stands in slot 0
pub host-slot : (script : Script) (s : Win32State) → IsWellFormed script s → is_live_process s 1 ≡ true
    → number_in s 0 ≡ Some 1
host-slot script s formed lives =
    let q = live_found (process_of s.processes 1) lives in
    let number = process_of-number s.processes 1 q.0 q.1 in
    let live = of_live script s.objects q.0 q.0.life q.2 (formed.formed.process 1 q.0 q.1) in
    ap (number_in s) (sym (slot q.0 number q.0.program live.kind))
    ∙ (ap number_of (process_in-is script s 1 q.0 formed.formed q.1 q.2) ∙ ap (λ n. Some n) number)
  where
    slot : (p : Process) → p.number ≡ 1 → (o : Option ℕ) → MatchOption o (IsHost p) (IsLayerProcess script p)
        → p.slot ≡ 0
    slot p number None host = host.slot
    slot p number (Some program_no) layer = absurd (omega (arith, layer.number, number))

module _ {A : Type 0} (script : Script) (registers : HaveRegisters script) (step : HistoryStep A)
    (seen : IsSeenStep script step) (w : ℕ) (beside : IsBeside step w 1) where
  -- the event of the reading stands in the starter's turn alone
  no_reading : w ≡ 1 → (e : Event) → step.entry.event ≡ Some e → HasEvidence script step e → (p : ℕ) (n : ℤ)
      → e ≡ event.Host p n → ⊥
  no_reading host e is evidence p n told = elim beside [
    | inl apart ↦
        let shown : ShowsEvent script step (event.Host p n) =
        subst (ShowsEvent script step) told evidence.shown in
        apart (subst (λ d. IsTurnOfThread step.before.win32 d w 1) (sym shown.0) (
          host-slot script step.before.win32 seen.before.formed seen.before.hosted.lives ∙ ap (λ k. Some k) (sym host),
          refl,
        ))
    | inr idle ↦ absurd (let f : None ≡ Some e = sym idle.told ∙ is in cc)
  ]

  still_unread : w ≡ 1 → step.before.posix.host_came ≡ false → step.after.posix.host_came ≡ false
  still_unread host was = by_event step.entry.event refl seen.shows.posix seen.shows.evidence
    where
      by_event : (o : Option Event) → step.entry.event ≡ o
          → MatchOption o (step.after.posix ≡ step.before.posix)
          (λ told. PosixStep script step.before.posix told step.after.posix)
          → MatchOption o (Unit {0}) (λ told. HasEvidence script step told) → step.after.posix.host_came ≡ false
      by_event None is same evidence = ap (λ p. p.host_came) same ∙ was
      by_event (Some e) is moves evidence =
          unread-stays script step.before.posix e step.after.posix (no_reading host e is evidence) moves was

  awaits_stays : AwaitsFirst step.before w → AwaitsFirst step.after w
  awaits_stays h =
      let at = still_named script step registers seen first_handle (ProcessObject 2) (omega arith) h.first in
      let same : at.0 ≡ ProcessObject 2 = elim at.2 [
        | inl stays ↦ stays
        | inr more ↦ elim more [
          | inl left ↦ left.2
          | inr turn ↦ process_next (IsExchange step.entry.call) turn.0 turn.1 2 at.0 turn.3.holds
        ]
      ] in
      let more = next-step script step.before.win32 step.entry.directive step.entry.call step.entry.outcome
      step.after.win32 registers seen.before.formed seen.win32 in
      record {
        host = h.host;
        first = at.1 ∙ ap (λ y. Some y) same;
        given = omega (arith, h.given, more);
        unread = still_unread h.host h.unread;
      }

  pub starter-outlasts : (p : Starter) → StarterClause step.past step.before w p
      → StarterClause (seen_with step) step.after w p
  starter-outlasts starter.Opening h = awaits_stays h
  starter-outlasts starter.Waiting h = awaits_stays h
  starter-outlasts starter.Asking h = (
    awaits_stays h.0,
    dead-step script step.before.win32 step.entry.directive step.entry.call step.entry.outcome step.after.win32
        registers seen.before.formed seen.win32 2 h.0.given h.1,
  )
  starter-outlasts starter.Over h = h
  starter-outlasts starter.Rest h = tt

-- Nobody comes into the host's slot.
pub none-comes : {A : Type 0} → (script : Script) → HaveRegisters script → (step : HistoryStep A)
    → IsSeenStep script step → (w : ℕ) → is_live_process step.before.win32 w ≡ false
    → number_in step.after.win32 0 ≡ Some w → ⊥
none-comes script registers step seen w dead number =
    let host = host-slot script step.after.win32 (after_formed script step registers seen)
    (seen.shows.facts.host seen.before.hosted.lives) in
    let is : 1 ≡ w = some_same 1 w (sym host ∙ number) in
    let e : true ≡ false =
    sym seen.before.hosted.lives ∙ (ap (is_live_process step.before.win32) is ∙ dead) in cc
