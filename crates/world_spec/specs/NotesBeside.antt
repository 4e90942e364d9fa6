-- What a main thread knows of the record of its process outlasts each step beside it: an own event of the process
-- stands in a turn of that thread.
use Rattle.std.proofs.Common.{◌≡◌, ◌≢◌, inl, inr, ℕ, ◌+◌, true, false, nat_eq, Option, Some, None, MatchOption, refl}
use Rattle.std.proofs.Common.{ap, ◌∙◌, subst, arith}
use Rattle.std.proofs.lemmas.Bool.{eqb-true}
use Rattle.w32_base.specs.declared.entry.Directive.{Directive}
use Rattle.w32_base.specs.declared.entry.Directive.TheVariants as directive
use Rattle.w32_base.specs.declared.event.Event.{Event}
use Rattle.w32_base.specs.declared.event.Event.TheVariants as event
use Rattle.script_spec.specs.declared.script.Script.{Script}
use Rattle.vm_spec.specs.Step.{Upcoming, upcoming}
use Rattle.win32_spec.specs.CallEffects.{by_bool}
use Rattle.win32_spec.specs.Facts.{IsTurnOfThread}
use Rattle.win32_spec.specs.Lookup.{number_of, process_in}
use Rattle.win32_spec.specs.LookupLaws.{and_true}
use Rattle.win32_spec.specs.State.{Process, Win32State}
use Rattle.posix_spec.specs.Conditions.{code_of}
use Rattle.posix_spec.specs.Run.{PosixStep}
use Rattle.posix_spec.specs.State.{Record, record_of}
use Rattle.layer_spec.specs.Decoding.{main_image}
use Rattle.layer_spec.specs.Evidence.{HasEvidence, ShowsEvent, is_turn_of_image}
use Rattle.layer_spec.specs.Moment.{HistoryStep}
use Rattle.layer_spec.specs.Owners.{owner_of}
use Rattle.layer_spec.specs.Turns.{is_live_process, is_process, is_thread_turn}
use Rattle.layer_spec.specs.Words.{main_at, row_of}
use Rattle.world_spec.specs.ExitLaws.{unmarked-stays}
use Rattle.world_spec.specs.Notes.{IsAtNext, IsBetweenCalls, KeepsNotes}
use Rattle.world_spec.specs.NotesEvents.{notes-kept}
use Rattle.world_spec.specs.NotesLaws.{same_notes}
use Rattle.world_spec.specs.RowsBesideLaws.{IsOwnRow, own-row-stays}
use Rattle.world_spec.specs.SeenStep.{IsBeside, IsSeenStep}
use Rattle.world_spec.specs.SoundLaws.{live_record}

-- a turn of a thread, by the test and by what it says
turn_of_thread : (s : Win32State) (d : Directive) (w t : ℕ) → is_thread_turn s d w t ≡ true → IsTurnOfThread s d w t
turn_of_thread s (directive.Turn slot x) w t e =
    by_process (process_in s.processes slot) (and_true (is_process (process_in s.processes slot) w) (nat_eq x t) e).0
    (eqb-true x t (and_true (is_process (process_in s.processes slot) w) (nat_eq x t) e).1)
  where
    by_process : (o : Option Process) → is_process o w ≡ true → x ≡ t → (number_of o ≡ Some w) × (x ≡ t)
    by_process None a b = absurd (let c : false ≡ true = a in cc)
    by_process (Some p) a b = (ap (λ n. Some n) (eqb-true p.number w a), b)
turn_of_thread s (directive.End slot) w t e = absurd (let c : false ≡ true = e in cc)
turn_of_thread s (directive.Key b) w t e = absurd (let c : false ≡ true = e in cc)

-- An own event of a process stands in a turn of the main thread of the image that its row names.
pub owner-turn : {A : Type 0} → (script : Script) (step : HistoryStep A) (e : Event) → ShowsEvent script step e
    → owner_of e ≢ 0 → is_turn_of_image step (owner_of e) 0 ≡ true
owner-turn script step (event.Run p n) h owned = h
owner-turn script step (event.Get p f v) h owned = h
owner-turn script step (event.Fork p c) h owned = h.0
owner-turn script step (event.ForkFail p cause) h owned = h.0
owner-turn script step (event.Exec p name) h owned = h.0
owner-turn script step (event.ExecFail p cause) h owned = h.0
owner-turn script step (event.Kill p q signal answer) h owned = h
owner-turn script step (event.Member p q signal) h owned =
    by_bool (nat_eq p 0) (λ e _. absurd (owned (eqb-true p 0 e))) (λ _ turn. turn) h
owner-turn script step (event.GroupDone p g signal answer) h owned =
    by_bool (nat_eq p 0) (λ e _. absurd (owned (eqb-true p 0 e))) (λ _ turn. turn) h
owner-turn script step (event.Look p c) h owned = h
owner-turn script step (event.Block p) h owned = h
owner-turn script step (event.Nothing p) h owned = h
owner-turn script step (event.Reap p c v) h owned = h.0
owner-turn script step (event.Report p c v) h owned = h
owner-turn script step (event.NoChild p) h owned = h
owner-turn script step (event.Refuse p e) h owned = h
owner-turn script step (event.Mask p m) h owned = h
owner-turn script step (event.SetAction p signal action) h owned = h
owner-turn script step (event.Suspend p m) h owned = h
owner-turn script step (event.Return p) h owned = h
owner-turn script step (event.Deliver p signal way) h owned = h
owner-turn script step (event.Discard p signal) h owned = absurd (owned refl)
owner-turn script step (event.Stop p signal) h owned = h
owner-turn script step (event.Die p v cause) h owned = absurd (owned refl)
owner-turn script step (event.Notify p) h owned = absurd (owned refl)
owner-turn script step (event.Collect p) h owned = absurd (owned refl)
owner-turn script step (event.SetPgid p q g) h owned = h
owner-turn script step (event.SetSid p) h owned = h
owner-turn script step (event.TcSet p g) h owned = h
owner-turn script step (event.Flags p n) h owned = h
owner-turn script step (event.Background p signal) h owned = h
owner-turn script step (event.BackgroundDone p) h owned = h
owner-turn script step (event.Line p n bytes) h owned = h
owner-turn script step (event.Write p n bytes) h owned = h
owner-turn script step (event.Key p b) h owned = absurd (owned refl)
owner-turn script step (event.Host p n) h owned = absurd (owned refl)

module _ {A : Type 0} (script : Script) (step : HistoryStep A) (seen : IsSeenStep script step) where
  -- beside the main thread of the image that a row names, no event is the own one of the row's process
  not-own : (w row : ℕ) → (IsTurnOfThread step.before.win32 step.entry.directive w 0 → ⊥)
      → IsOwnRow step.before.win32 w row → (e : Event) → HasEvidence script step e → owner_of e ≢ row + 1
  not-own w row apart own e evidence same =
      let turn = owner-turn script step e evidence.shown (λ none. omega (arith, same, none)) in
      let is_row : row_of (owner_of e) ≡ row = omega (arith, same) in
      let image : main_image (main_at step.before.win32 (row_of (owner_of e))) ≡ w =
      ap (λ k. main_image (main_at step.before.win32 k)) is_row ∙ own.image in
      apart (turn_of_thread step.before.win32 step.entry.directive w 0
      (subst (λ k. is_thread_turn step.before.win32 step.entry.directive k 0 ≡ true) image turn))

  -- Beside the main thread of a live process, the record of the process is still there, and its notes are kept.
  pub record-stays : (w row : ℕ) → IsBeside step w 0 → is_live_process step.before.win32 w ≡ true
      → IsOwnRow step.before.win32 w row → (old : Record) → record_of step.before.posix (row + 1) ≡ Some old
      → (now : Record) × (record_of step.after.posix (row + 1) ≡ Some now) × KeepsNotes old now
  record-stays w row beside alive own old there = elim beside [
    | inl apart ↦ by_event apart step.entry.event seen.shows.posix seen.shows.evidence
    | inr idle ↦ as_before idle.posix
  ]
    where
      as_before : step.after.posix ≡ step.before.posix
          → (now : Record) × (record_of step.after.posix (row + 1) ≡ Some now) × KeepsNotes old now
      as_before same = (old, ap (λ s. record_of s (row + 1)) same ∙ there, same_notes old)

      by_event : (IsTurnOfThread step.before.win32 step.entry.directive w 0 → ⊥) → (o : Option Event)
          → MatchOption o (step.after.posix ≡ step.before.posix)
          (λ told. PosixStep script step.before.posix told step.after.posix)
          → MatchOption o (Unit {0}) (λ told. HasEvidence script step told)
          → (now : Record) × (record_of step.after.posix (row + 1) ≡ Some now) × KeepsNotes old now
      by_event apart None same evidence = as_before same
      by_event apart (Some e) moves evidence =
          let stays = own-row-stays script step seen w row beside alive own in
          let now = live_record script step.after.win32 step.after.posix row stays.live
          (seen.shows.decodes.rows row own.from) in (
            now.0,
            now.1,
            notes-kept script step.before.posix e step.after.posix seen.before.posix moves (row + 1)
                (not-own w row apart own e evidence) old now.0 there now.1 now.2,
          )

  -- So the main thread that stands between two calls goes on to stand there,
  pub between-stays : (w row : ℕ) → IsBeside step w 0 → is_live_process step.before.win32 w ≡ true
      → is_live_process step.after.win32 w ≡ true → IsBetweenCalls step.before w row → IsBetweenCalls step.after w row
  between-stays w row beside alive after h =
      let r = record-stays w row beside alive h.own h.noted h.found in
      record {
        own = own-row-stays script step seen w row beside alive h.own;
        noted = r.0;
        found = r.1;
        call = r.2.call ∙ h.call;
        blocked = r.2.blocked ∙ h.blocked;
        unmarked = unmarked-stays script step seen w row beside alive h.own h.unmarked;
      }

  -- and the one that may go on with what is next in its program still may, by a record that keeps its notes.
  pub next-kept : (w row : ℕ) (next : Upcoming) → IsBeside step w 0 → is_live_process step.before.win32 w ≡ true
      → (h : IsAtNext script step.before w row next)
      → (k : IsAtNext script step.after w row next) × KeepsNotes h.noted k.noted
  next-kept w row next beside alive h =
      let r = record-stays w row beside alive h.own h.noted h.found in (
        record {
          own = own-row-stays script step seen w row beside alive h.own;
          noted = r.0;
          found = r.1;
          call = r.2.call ∙ h.call;
          blocked = r.2.blocked ∙ h.blocked;
          runs = r.2.runs h.runs;
          not_due = r.2.not_due h.not_due;
          next_is = ap (λ i. upcoming (code_of script i) i) r.2.image ∙ h.next_is;
          unmarked = unmarked-stays script step seen w row beside alive h.own h.unmarked;
        },
        r.2,
      )

  pub next-stays : (w row : ℕ) (next : Upcoming) → IsBeside step w 0 → is_live_process step.before.win32 w ≡ true
      → is_live_process step.after.win32 w ≡ true → IsAtNext script step.before w row next
      → IsAtNext script step.after w row next
  next-stays w row next beside alive after h = (next-kept w row next beside alive h).0
