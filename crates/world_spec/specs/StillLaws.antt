-- The directives in which no thread acts: an idle turn, a key and an end lead from a world to a world.
use Rattle.std.proofs.Common.{◌≡◌, inl, inr, ℕ, ◌≤◌, ◌<◌, true, false, List, Option, Some, None}
use Rattle.std.proofs.Common.{refl, sym, ap, ◌∙◌, subst}
use Rattle.w32_base.specs.Part.{KeepsLengths}
use Rattle.w32_base.specs.declared.call.Call.{Call}
use Rattle.w32_base.specs.declared.call.Reply.{Reply}
use Rattle.w32_base.specs.declared.entry.Directive.{Directive}
use Rattle.w32_base.specs.declared.entry.Directive.TheVariants as directive
use Rattle.w32_base.specs.declared.entry.Outcome.{Outcome}
use Rattle.w32_base.specs.declared.entry.Outcome.TheVariants as outcome
use Rattle.w32_base.specs.declared.own.Own.{Own}
use Rattle.w32_base.specs.declared.part.After.{After}
use Rattle.w32_base.specs.declared.setup.Setup.{Setup}
use Rattle.script_spec.specs.declared.script.Script.{Script}
use Rattle.win32_spec.specs.State.{Process}
use Rattle.win32_spec.specs.Lookup.{process_of, process_in, number_in}
use Rattle.win32_spec.specs.Driven.{part_at, DrivenState, is_same_number, PartFollows}
use Rattle.win32_spec.specs.Driven.{DrivenBy}
use Rattle.win32_spec.specs.Ends.{with_end}
use Rattle.win32_spec.specs.Making.{opening_call}
use Rattle.win32_spec.specs.Run.{EndStep, ended_from_outside}
use Rattle.win32_spec.specs.LookupLaws.{process_in-found}
use Rattle.win32_spec.specs.FormedLaws.{live_found, found_live}
use Rattle.win32_spec.specs.MemoryEffects.{HaveRegisters}
use Rattle.posix_spec.specs.Ranges.{HasRanges}
use Rattle.layer_spec.specs.Discipline.{is_end}
use Rattle.layer_spec.specs.History.{driven_at}
use Rattle.layer_spec.specs.Moment.{Moment, Seen, HistoryStep}
use Rattle.layer_spec.specs.Turns.{is_live_process}
use Rattle.world_spec.specs.SeenStep.{IsTaken, ShowsStep, IsBeside}
use Rattle.world_spec.specs.Owes.{OwesWorld}
use Rattle.world_spec.specs.World.{IsWorld, GoesOn}
use Rattle.world_spec.specs.Calm.{IsCalm, is_plain}
use Rattle.world_spec.specs.CalmLaws.{calm-shows}
use Rattle.world_spec.specs.CalmSteps.{calm-same, calm-key, calm-end, not_host}
use Rattle.world_spec.specs.EndLaws.{process-end_stays}
use Rattle.world_spec.specs.StepLaws.{match_true, is_same}
use Rattle.world_spec.specs.StepLaws.{follows}
use Rattle.world_spec.specs.StepLaws.{goes_on}

module _ {A : Type 0} (posted_of : A → Call) (goes : A → Own → Setup → Reply → A → Own → After → Type 0)
    (opening : A → Type 0) (slot_of thread_of_part : A → ℕ)
    (clause : List (Seen A) → Moment A → ℕ → A → Type 0)
    (begins : (p : A) → opening p → posted_of p ≡ opening_call)
    (keeps_slot : (p q : A) (o n : Own) (s : Setup) (r : Reply) (a : After) → goes p o s r q n a
    → slot_of q ≡ slot_of p)
    (keeps_thread : (p q : A) (o n : Own) (s : Setup) (r : Reply) (a : After) → goes p o s r q n a
    → thread_of_part q ≡ thread_of_part p)
    (keeps_lengths : (p q : A) (o n : Own) (s : Setup) (r : Reply) (a : After) → goes p o s r q n a → KeepsLengths o n)
    (script : Script) (registers : HaveRegisters script) (ranges : HasRanges script)
    (owes : OwesWorld posted_of goes opening slot_of thread_of_part clause script)
    (past : List (Seen A)) (now : Moment A)
    (world : IsWorld posted_of goes opening slot_of thread_of_part clause script past now) where
  abbrev Goes : Directive → Option Call → Outcome → DrivenState A → Type 0
  Goes d called came new = GoesOn posted_of goes opening slot_of thread_of_part clause script past now d called came new

  abbrev Driven : Directive → Option Call → Outcome → DrivenState A → Type 0
  Driven d called came new =
      DrivenBy posted_of goes opening slot_of thread_of_part script (driven_at now None) d called came new

  abbrev Follows : DrivenState A → (slot t : ℕ) → Type 0
  Follows new slot t =
      PartFollows posted_of goes opening slot_of thread_of_part now.win32 new.win32 now.parts new.parts slot t

  -- the step of a directive without an event
  abbrev quiet_step : Directive → Option Call → Outcome → DrivenState A → HistoryStep A
  quiet_step d called came new = record {
    past = past;
    before = now;
    entry = record { directive = d; call = called; outcome = came; event = None };
    after = record { win32 = new.win32; parts = new.parts; posix = now.posix };
  }

  -- A step in which no thread acts, and which makes a calm change.
  still : (d : Directive) (called : Option Call) (came : Outcome) (new : DrivenState A) → IsTaken d
      → Driven d called came new
      → IsCalm now.win32 new.win32 → called ≡ None → new.last ≡ None
      → (is_end d ≡ false → (v : ℕ) → is_live_process now.win32 v ≡ true → is_live_process new.win32 v ≡ true)
      → is_live_process new.win32 1 ≡ true → ((slot t : ℕ) → Follows new slot t)
      → ((v t : ℕ) → IsBeside (quiet_step d called came new) v t) → Goes d called came new
  still d called came new taken driven calm none quiet lives host follow beside =
      let shows : ShowsStep script (quiet_step d called came new) =
      calm-shows script (quiet_step d called came new) calm refl refl (ap is_plain none) lives (λ before. host)
      world.sound.decodes in
      goes_on posted_of goes opening slot_of thread_of_part clause begins keeps_slot keeps_thread keeps_lengths script
      registers ranges owes past now world d called came new driven None now.posix taken shows (sym quiet)
      (λ a b v part e here. follows posted_of goes opening slot_of thread_of_part clause begins keeps_slot keeps_thread
      keeps_lengths script registers ranges owes past now world d called came new driven None now.posix taken shows a b
      v part
      (follow a b) e here (λ n. beside v b))

  -- where nothing of the parts or of the slots changes, the parts follow
  same_follow : (new : DrivenState A) → new.parts ≡ now.parts
      → ((a : ℕ) → number_in new.win32 a ≡ number_in now.win32 a) → (slot t : ℕ) → Follows new slot t
  same_follow new parts numbers slot t =
      match_true _ _ (is_same_number (number_in now.win32 slot) (number_in new.win32 slot))
      (by_number (number_in now.win32 slot) (number_in new.win32 slot) (numbers slot))
      (ap (λ ps. part_at ps slot t) parts)
    where
      by_number : (o n : Option ℕ) → n ≡ o → is_same_number o n ≡ true
      by_number None n e = subst (λ k. is_same_number None k ≡ true) (sym e) refl
      by_number (Some v) n e = is_same (Some v) n v refl e

  -- a turn of a thread that isn't ready
  pub idle_goes : (slot t : ℕ) (called : Option Call) (came : Outcome) (new : DrivenState A)
      → Driven (directive.Turn slot t) called came new → called ≡ None → came ≡ outcome.Idle
      → new.win32 ≡ now.win32 → new.last ≡ None → new.parts ≡ now.parts → Goes (directive.Turn slot t) called came new
  idle_goes slot t called came new driven none idle same quiet parts =
      still (directive.Turn slot t) called came new tt driven (calm-same now.win32 new.win32 same) none quiet
      (λ no_end v live. ap (λ s. is_live_process s v) same ∙ live)
      (ap (λ s. is_live_process s 1) same ∙ world.sound.hosted.lives)
      (same_follow new parts (λ a. ap (λ s. number_in s a) same))
      (λ v u. inr (record { called = none; came = idle; told = refl; win32 = same; posix = refl }))

  pub key_goes : (b : ℕ) (called : Option Call) (came : Outcome) (new : DrivenState A) → b < 256
      → Driven (directive.Key b) called came new → Goes (directive.Key b) called came new
  key_goes b called came new taken driven =
      still (directive.Key b) called came new taken driven
      (subst (IsCalm now.win32) (sym driven.2) (calm-key now.win32 b)) driven.0 driven.3
      (λ no_end v live. ap (λ s. is_live_process s v) driven.2 ∙ live)
      (ap (λ s. is_live_process s 1) driven.2 ∙ world.sound.hosted.lives)
      (same_follow new driven.4 (λ a. ap (λ s. number_in s a) driven.2))
      (λ v t. inl (λ acts. acts))

  pub end_goes : (slot : ℕ) (called : Option Call) (came : Outcome) (new : DrivenState A) → 1 ≤ slot
      → Driven (directive.End slot) called came new → Goes (directive.End slot) called came new
  end_goes slot called came new from driven = by_answer (process_in now.win32.processes slot) refl driven.1
    where
      never : (v : ℕ) → true ≡ false → is_live_process now.win32 v ≡ true → is_live_process new.win32 v ≡ true
      never v e live = absurd (cc)

      by_answer : (o : Option Process) → process_in now.win32.processes slot ≡ o → EndStep now.win32 o came new.win32
          → Goes (directive.End slot) called came new
      by_answer None i m =
          still (directive.End slot) called came new from driven (calm-same now.win32 new.win32 m.1) driven.0 driven.2
          (λ no_end v live. never v no_end live)
          (ap (λ s. is_live_process s 1) m.1 ∙ world.sound.hosted.lives) driven.3 (λ v t. inl (λ acts. acts))
      by_answer (Some p) i m =
          let x = process_in-found 1 now.win32.next now.win32.processes slot p world.sound.formed.formed.processes i in
          let d = not_host script now.win32 world.sound.formed p x.0 x.1 (subst (λ k. 1 ≤ k) (sym x.2) from) in
          let h = live_found (process_of now.win32.processes 1) world.sound.hosted.lives in
          let host = process-end_stays now.win32 p.number ended_from_outside 1 h.0 h.1 h.2 (λ e. d (sym e)) in
          still (directive.End slot) called came new from driven
          (subst (IsCalm now.win32) (sym m.1)
          (calm-end script now.win32 world.sound.formed world.sound.hosted p.number ended_from_outside d)) driven.0
          driven.2
          (λ no_end v live. never v no_end live)
          (ap (λ s. is_live_process s 1) m.1
          ∙ found_live (process_of (with_end now.win32 p.number ended_from_outside).processes 1) h.0 host h.2) driven.3
          (λ v t. inl (λ acts. acts))
