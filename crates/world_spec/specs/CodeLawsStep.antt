-- What everybody may know of the processes that have ended stays so through each step that keeps the facts.
use Rattle.std.proofs.Common.{◌≡◌, ◌⊎◌, inl, inr, ℕ, ◌<◌, ◌≤◌, ◌↔◌, Bool, true, false, ◌||◌, Option, Some, None}
use Rattle.std.proofs.Common.{MatchOption, refl, sym, ap, ◌∙◌, arith}
use Rattle.w32_base.specs.declared.event.Event.{Event}
use Rattle.script_spec.specs.declared.script.Script.{Script}
use Rattle.win32_spec.specs.Ends.{with_end}
use Rattle.win32_spec.specs.FormedLaws.{live_found}
use Rattle.win32_spec.specs.Lookup.{is_alive, is_live, process_of}
use Rattle.win32_spec.specs.LookupLaws.{or_left, rising-bounds}
use Rattle.win32_spec.specs.MemoryEffects.{HaveRegisters}
use Rattle.win32_spec.specs.Run.{ended_from_outside}
use Rattle.win32_spec.specs.State.{Ended, Process, Win32State}
use Rattle.win32_spec.specs.StepFacts.{next-step, dead-step}
use Rattle.posix_spec.specs.Run.{PosixStep}
use Rattle.layer_spec.specs.Discipline.{is_end}
use Rattle.layer_spec.specs.Moment.{HistoryStep, seen_with}
use Rattle.layer_spec.specs.Turns.{is_live_process, is_end_of, was_ended}
use Rattle.world_spec.specs.CodeLaws.{ended-was, found-after, ends-by, end-of, end_ends}
use Rattle.world_spec.specs.Facts.{EndsWith}
use Rattle.world_spec.specs.FirstLaws.{status-stays}
use Rattle.world_spec.specs.SeenStep.{IsSeenStep}
use Rattle.world_spec.specs.Sound.{AreCodesSound, IsFirstSound}

module _ {A : Type 0} (script : Script) (step : HistoryStep A) (registers : HaveRegisters script)
    (seen : IsSeenStep script step) where
  abbrev old : Win32State
  old = step.before.win32

  abbrev new : Win32State
  new = step.after.win32

  abbrev codes : AreCodesSound step.past step.before.win32
  codes = seen.before.codes

  grows : old.next ≤ new.next
  grows = next-step script old step.entry.directive step.entry.call step.entry.outcome new registers seen.before.formed
      seen.win32

  -- the number of a live process was given
  given : (v : ℕ) → is_live_process old v ≡ true → v < old.next
  given v live =
      let p = live_found (process_of old.processes v) live in
      (rising-bounds 1 old.next old.processes v p.0 seen.before.formed.formed.processes p.1).1

  -- who was ended by an `end` before the step wasn't ended by it again
  not_again : (v : ℕ) → is_live_process old v ≡ false → is_end_of step.entry.outcome v ≡ false
  not_again v dead = by_test (is_end_of step.entry.outcome v) refl
    where
      by_test : (b : Bool) → is_end_of step.entry.outcome v ≡ b → b ≡ false
      by_test false e = refl
      by_test true e = absurd (
          let ends = end-of script old step.entry.directive step.entry.call step.entry.outcome new seen.before.formed
          seen.win32 v e in
          let f : true ≡ false = sym ends.1 ∙ dead in cc)

  -- so what was seen tells the same of it
  same_ended : (v : ℕ) → is_live_process old v ≡ false → was_ended (seen_with step) v ≡ was_ended step.past v
  same_ended v dead = ap (λ b. b || was_ended step.past v) (not_again v dead)

  -- who was ended by this step is dead after it
  ended_here : (v : ℕ) → is_end_of step.entry.outcome v ≡ true → is_live_process new v ≡ false
  ended_here v is =
      let ends = end-of script old step.entry.directive step.entry.call step.entry.outcome new seen.before.formed
      seen.win32 v is in
      ap (λ n. is_live_process n v) ends.2
      ∙ by_process (process_of (with_end old v ended_from_outside).processes v) refl
    where
      by_process : (o : Option Process) → process_of (with_end old v ended_from_outside).processes v ≡ o
          → is_live o ≡ false
      by_process None e = refl
      by_process (Some q) e = elim (found-after script old seen.before.formed v ended_from_outside v q e) [
        | inl other ↦ absurd (other.0 refl)
        | inr this ↦ ap is_alive this.1
      ]

  ended_after : (v : ℕ) → was_ended (seen_with step) v ≡ true → (v < new.next) × (is_live_process new v ≡ false)
  ended_after v is = by_test (is_end_of step.entry.outcome v) refl
    where
      by_test : (b : Bool) → is_end_of step.entry.outcome v ≡ b → (v < new.next) × (is_live_process new v ≡ false)
      by_test true e =
          let ends = end-of script old step.entry.directive step.entry.call step.entry.outcome new seen.before.formed
          seen.win32 v e in
          let low = given v ends.1 in (omega (arith, low, grows), ended_here v e)
      by_test false e =
          let was : was_ended step.past v ≡ true = sym (ap (λ b. b || was_ended step.past v) e) ∙ is in
          let known = codes.ended v was in (
            omega (arith, known.0, grows),
            dead-step script old step.entry.directive step.entry.call step.entry.outcome new registers
                seen.before.formed seen.win32 v known.0 known.1,
          )

  -- Who ends in a step ends by an `end`, with its code, or with another one; the first process's is then its status.
  ends_here : (v code : ℕ) → EndsWith step v code
      → ((is_end_of step.entry.outcome v ≡ true) × (code ≡ ended_from_outside))
      ⊎ ((is_end_of step.entry.outcome v ≡ false) × (code < ended_from_outside)
      × (v ≡ 2 → step.after.posix.first_status ≡ Some code))
  ends_here v code is = by_test (is_end step.entry.directive) refl
    where
      gone : is_live_process new v ≡ false
      gone = ap is_live is.found ∙ ap is_alive is.life

      by_test : (b : Bool) → is_end step.entry.directive ≡ b
          → ((is_end_of step.entry.outcome v ≡ true) × (code ≡ ended_from_outside))
          ⊎ ((is_end_of step.entry.outcome v ≡ false) × (code < ended_from_outside)
          × (v ≡ 2 → step.after.posix.first_status ≡ Some code))
      by_test true e =
          let by_end = end_ends script old step.entry.directive step.entry.call step.entry.outcome new v seen.win32 e
          is.before gone in
          let ends = end-of script old step.entry.directive step.entry.call step.entry.outcome new seen.before.formed
          seen.win32 v by_end in
          inl (by_end, (ends-by script step seen.before.formed v ended_from_outside ends.2 v code is).1)
      by_test false e =
          let fact = seen.shows.facts.processes.ends e v code is in
          inr (no_end (is_end_of step.entry.outcome v) refl, fact.0, fact.1)
        where
          no_end : (b : Bool) → is_end_of step.entry.outcome v ≡ b → b ≡ false
          no_end false f = refl
          no_end true f = absurd (
              let ends = end-of script old step.entry.directive step.entry.call step.entry.outcome new
              seen.before.formed seen.win32 v f in
              let g : true ≡ false = sym ends.0 ∙ e in cc)

  -- who has ended after the step
  module _ (v code : ℕ) (q : Process) (found : process_of new.processes v ≡ Some q) (life : q.life ≡ Ended code) where
    stood : (process_of old.processes v ≡ Some q) ⊎ EndsWith step v code
    stood = elim (ended-was script old step.entry.directive step.entry.call step.entry.outcome new registers
        seen.before.formed seen.win32 v q found (ap is_alive life)) [
          | inl before ↦ inl before
          | inr live ↦ inr (record { before = live; process = q; found = found; life = life })
        ]

    was_dead : process_of old.processes v ≡ Some q → is_live_process old v ≡ false
    was_dead before = ap is_live before ∙ ap is_alive life

    code_after : (code ≡ ended_from_outside) ↔ (was_ended (seen_with step) v ≡ true)
    code_after = elim stood [
      | inl before ↦
          let known = codes.codes v code q before life in
          let same = same_ended v (was_dead before) in
          (λ e. same ∙ known.0 e, λ e. known.1 (sym same ∙ e))
      | inr is ↦ elim (ends_here v code is) [
        | inl by_end ↦ (
          λ e. or_left (is_end_of step.entry.outcome v) (was_ended step.past v) by_end.0,
          λ e. by_end.1,
        )
        | inr by_call ↦ (
          λ e. absurd (omega (arith, e, by_call.1)),
          λ e. absurd (
              let was : was_ended step.past v ≡ true =
              sym (ap (λ b. b || was_ended step.past v) by_call.0) ∙ e in
              let known = codes.ended v was in
              let f : true ≡ false = sym is.before ∙ known.1 in cc),
        )
      ]
    ]

  pub codes-step : AreCodesSound (seen_with step) step.after.win32
  codes-step = record { ended = ended_after; codes = code_after }

  -- the status of the first process's death, once it is kept, stays
  kept_status : (code : ℕ) → step.before.posix.first_status ≡ Some code → step.after.posix.first_status ≡ Some code
  kept_status code was = by_event step.entry.event seen.shows.posix
    where
      by_event : (o : Option Event)
          → MatchOption o (step.after.posix ≡ step.before.posix)
          (λ told. PosixStep script step.before.posix told step.after.posix)
          → step.after.posix.first_status ≡ Some code
      by_event None same = ap (λ p. p.first_status) same ∙ was
      by_event (Some e) moves =
          status-stays script step.before.posix e step.after.posix code seen.before.posix moves was

  pub first-step : IsFirstSound step.after.win32 step.after.posix
  first-step code q found life = elim (stood 2 code q found life) [
    | inl before ↦ elim (seen.before.first code q before life) [
      | inl outside ↦ inl outside
      | inr status ↦ inr (kept_status code status)
    ]
    | inr is ↦ elim (ends_here 2 code is) [
      | inl by_end ↦ inl by_end.1
      | inr by_call ↦ inr (by_call.2 refl)
    ]
  ]
