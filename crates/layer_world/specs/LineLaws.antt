-- What each kind of line of a schedule gives, and when it gives way.
use Rattle.std.proofs.Common.{◌≡◌, ℕ, zero, suc, ◌-◌, ◌<◌, List, [], ◌∷◌, length, inl, refl, subst, arith, true, false}
use Rattle.std.proofs.Common.{sym, ◌∙◌}
use Rattle.w32_base.specs.declared.call.Call.{Call}
use Rattle.w32_base.specs.declared.call.Reply.{Reply}
use Rattle.w32_base.specs.declared.entry.Directive.{Directive}
use Rattle.w32_base.specs.declared.entry.Directive.TheVariants as directive
use Rattle.w32_base.specs.declared.entry.Outcome.{Outcome}
use Rattle.w32_base.specs.declared.own.Own.{Own}
use Rattle.w32_base.specs.declared.part.After.{After}
use Rattle.w32_base.specs.declared.setup.Setup.{Setup}
use Rattle.script_spec.specs.declared.script.ScheduleLine.{ScheduleLine}
use Rattle.script_spec.specs.declared.script.ScheduleLine.TheVariants.{Given, Steps, Settle}
use Rattle.script_spec.specs.declared.script.Script.{Script}
use Rattle.win32_spec.specs.Ready.{IsQuiet, IsNextReady}
use Rattle.win32_spec.specs.Schedule.{IsDone}
use Rattle.win32_spec.specs.State.{Win32State}
use Rattle.layer_spec.specs.Moment.{Moment, Seen}
use Rattle.layer_world.specs.Scheduled.{IsAt, IsSpent}
use Rattle.layer_world.specs.ScheduledLaws.{at-passes, at-directs}
use Rattle.layer_world.specs.World.{WorldValue, Directed}

-- a thread is ready, so the state isn't quiet
pub ready-busy : (s : Win32State) (slot t next_slot next : ℕ) → IsNextReady s slot t next_slot next → IsQuiet s → ⊥
ready-busy s slot t next_slot next ready quiet = absurd (
    let e : true ≡ false = sym ready.ready ∙ quiet next_slot next in cc)

quiet-steps : (s : Win32State) (n : ℕ) → IsQuiet s → IsDone s (Steps n ∷ [])
quiet-steps s zero quiet = tt
quiet-steps s (suc n) quiet = (quiet, tt)

module _ {A : Type 0} (posted_of : A → Call) (goes : A → Own → Setup → Reply → A → Own → After → Type 0)
    (opening : A → Type 0) (slot_of thread_of_part : A → ℕ)
    (clause : Script → List (Seen A) → Moment A → ℕ → A → Type 0) where
  abbrev At : WorldValue A → List ScheduleLine → ℕ → ℕ → Type 0
  At w lines slot thread = IsAt posted_of goes opening slot_of thread_of_part clause w lines slot thread

  module _ (w : WorldValue A) (lines : List ScheduleLine) (slot thread : ℕ) where
    -- In a quiet state `settle` gives way, and so do `steps`; and `steps` of which none is left.
    pub settle-passes : IsQuiet w.state.win32 → At w (Settle ∷ lines) slot thread → At w lines slot thread
    settle-passes quiet h =
        at-passes posted_of goes opening slot_of thread_of_part clause w Settle lines slot thread (quiet, tt) refl h

    pub steps-pass : (n : ℕ) → IsQuiet w.state.win32 → At w (Steps n ∷ lines) slot thread → At w lines slot thread
    steps-pass n quiet h =
        at-passes posted_of goes opening slot_of thread_of_part clause w (Steps n) lines slot thread
        (quiet-steps w.state.win32 n quiet) refl h

    pub steps-end : (n : ℕ) → n ≡ 0 → At w (Steps n ∷ lines) slot thread → At w lines slot thread
    steps-end n none h =
        at-passes posted_of goes opening slot_of thread_of_part clause w (Steps 0) lines slot thread tt refl
        (subst (λ k. At w (Steps k ∷ lines) slot thread) none h)

    -- The budget is used up, and a line has something to give.
    pub settle-spent : length w.entries ≡ w.script.setup.limits.budget → (IsQuiet w.state.win32 → ⊥)
        → At w (Settle ∷ lines) slot thread → IsSpent posted_of goes opening slot_of thread_of_part clause w
    settle-spent full busy h = record {
      lines = Settle ∷ lines;
      slot = slot;
      thread = thread;
      at = h;
      full = full;
      remains = λ done. busy done.0;
    }

    pub steps-spent : (n left : ℕ) → n ≡ suc left → length w.entries ≡ w.script.setup.limits.budget
        → (IsQuiet w.state.win32 → ⊥)
        → At w (Steps n ∷ lines) slot thread → IsSpent posted_of goes opening slot_of thread_of_part clause w
    steps-spent n left is full busy h = record {
      lines = Steps (suc left) ∷ lines;
      slot = slot;
      thread = thread;
      at = subst (λ k. At w (Steps k ∷ lines) slot thread) is h;
      full = full;
      remains = λ done. busy done.0;
    }

    pub given-spent : (d : Directive) → length w.entries ≡ w.script.setup.limits.budget
        → At w (Given d ∷ lines) slot thread → IsSpent posted_of goes opening slot_of thread_of_part clause w
    given-spent d full h = record {
      lines = Given d ∷ lines;
      slot = slot;
      thread = thread;
      at = h;
      full = full;
      remains = λ done. done;
    }

    module _ (new : WorldValue A) (came : Outcome) where
      -- A directive of the script's own.
      pub given-gives : (d : Directive) → Directed posted_of goes opening slot_of thread_of_part clause w d came new
          → At w (Given d ∷ lines) slot thread → At new lines slot thread
      given-gives d directed h =
          at-directs posted_of goes opening slot_of thread_of_part clause w new (Given d ∷ lines) lines slot thread slot
          thread d came (λ front. (refl, refl)) refl directed h

      -- A turn of the next ready thread.
      module _ (next_slot next : ℕ) (ready : IsNextReady w.state.win32 slot thread next_slot next)
          (directed : Directed posted_of goes opening slot_of thread_of_part clause w (directive.Turn next_slot next)
          came
          new) where
        pub settle-gives : At w (Settle ∷ lines) slot thread → At new (Settle ∷ lines) next_slot next
        settle-gives h =
            at-directs posted_of goes opening slot_of thread_of_part clause w new (Settle ∷ lines) (Settle ∷ lines) slot
            thread next_slot next (directive.Turn next_slot next) came
            (λ front. inl (record {
              slot = next_slot;
              thread = next;
              ready = ready;
              turn = refl;
              after = refl;
            })) (omega arith) directed h

        pub steps-give : (n left : ℕ) → n ≡ suc left → At w (Steps n ∷ lines) slot thread
            → At new (Steps left ∷ lines) next_slot next
        steps-give n left is h =
            at-directs posted_of goes opening slot_of thread_of_part clause w new (Steps (suc left) ∷ lines)
            (Steps left ∷ lines) slot thread next_slot next (directive.Turn next_slot next) came
            (λ front. inl (record {
              slot = next_slot;
              thread = next;
              ready = ready;
              turn = refl;
              after = refl;
            })) (omega arith) directed
            (subst (λ k. At w (Steps k ∷ lines) slot thread) is h)
