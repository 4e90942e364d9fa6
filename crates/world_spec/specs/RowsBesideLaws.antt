-- The rows, beside a thread: its own row, and the roster while it holds the mutex, outlast each step that isn't its
-- turn.
use Rattle.std.proofs.Common.{◌≡◌, inl, inr, ℕ, ◌≤◌, Bool, true, false, Some, refl, sym, ap, ◌∙◌, subst}
use Rattle.script_spec.specs.declared.script.Script.{Script}
use Rattle.win32_spec.specs.State.{Win32State}
use Rattle.win32_spec.specs.Facts.{IsTurnOfThread}
use Rattle.win32_spec.specs.Named.{named_by}
use Rattle.layer_spec.specs.Decoding.{main_image}
use Rattle.layer_spec.specs.Moment.{HistoryStep}
use Rattle.layer_spec.specs.Turns.{is_live_process}
use Rattle.layer_spec.specs.Words.{main_at, exit_at}
use Rattle.roster.specs.Roster.{HoldsRoster, RosterStays}
use Rattle.roster.specs.Words.{is_live_word}
use Rattle.world_spec.specs.Made.{opener_of}
use Rattle.world_spec.specs.SeenStep.{IsSeenStep, IsBeside}
use Rattle.world_spec.specs.SoundLaws.{live_is_process}

-- The row is live and names process w.
pub record IsOwnRow (s : Win32State) (w row : ℕ) : Type 0 where
  pub from : 1 ≤ row
  pub live : is_live_word (main_at s row) ≡ true
  pub image : main_image (main_at s row) ≡ w

module _ {A : Type 0} (script : Script) (step : HistoryStep A) (seen : IsSeenStep script step) where
  -- The own row of a process that is alive stays its own beside its main thread.
  pub own-row-stays : (w row : ℕ) → IsBeside step w 0 → is_live_process step.before.win32 w ≡ true
      → IsOwnRow step.before.win32 w row → IsOwnRow step.after.win32 w row
  own-row-stays w row beside alive own = elim beside [
    | inl apart ↦ by_test apart (is_live_word (main_at step.after.win32 row)) refl
    | inr idle ↦ subst (λ s. IsOwnRow s w row) (sym idle.win32) own
  ]
    where
      no_turn : (IsTurnOfThread step.before.win32 step.entry.directive w 0 → ⊥)
          → IsTurnOfThread step.before.win32 step.entry.directive (main_image (main_at step.before.win32 row)) 0 → ⊥
      no_turn apart acts = apart
          (subst (λ k. IsTurnOfThread step.before.win32 step.entry.directive k 0) own.image acts)

      by_test : (IsTurnOfThread step.before.win32 step.entry.directive w 0 → ⊥) → (b : Bool)
          → is_live_word (main_at step.after.win32 row) ≡ b → IsOwnRow step.after.win32 w row
      by_test apart true live = elim (seen.shows.facts.words.images row own.from own.live live) [
        | inl stays ↦ record { from = own.from; live = live; image = stays ∙ own.image }
        | inr acts ↦ absurd (no_turn apart acts)
      ]
      by_test apart false dead = elim (seen.shows.facts.words.seals row own.from own.live dead) [
        | inl ended ↦ absurd (
            let e : is_live_process step.before.win32 w ≡ false =
            ap (is_live_process step.before.win32) (sym own.image) ∙ ended in
            let f : true ≡ false = sym alive ∙ e in cc)
        | inr acts ↦ absurd (no_turn apart acts)
      ]

  -- So does its exit word.
  pub own-exit-stays : (w row : ℕ) → IsBeside step w 0 → IsOwnRow step.before.win32 w row
      → exit_at step.after.win32 row ≡ exit_at step.before.win32 row
  own-exit-stays w row beside own = elim beside [
    | inl apart ↦ elim (seen.shows.facts.words.exits row own.from
        (live_is_process (main_at step.before.win32 row) own.live)) [
          | inl stays ↦ stays
          | inr writes ↦ absurd (apart
              (subst (λ k. IsTurnOfThread step.before.win32 step.entry.directive k 0) own.image writes.0))
        ]
    | inr idle ↦ ap (λ s. exit_at s row) idle.win32
  ]

  -- Who holds the roster mutex finds the roster as it was.
  pub roster-stays : (w t : ℕ) → IsBeside step w t → HoldsRoster step.before.win32 w t
      → RosterStays step.before.win32 step.after.win32
  roster-stays w t beside holds = elim beside [
    | inl apart ↦ seen.shows.facts.words.holder w t holds apart
    | inr idle ↦ subst (λ s. RosterStays step.before.win32 s) (sym idle.win32)
        (record { processes = λ r from. refl; groups = λ r from is. refl; deaths = λ r from dead. dead })
  ]

  -- A handle that was answered to a thread names the same beside it.
  pub handle-stays : (w h names : ℕ) → IsBeside step w (opener_of step.past w h)
      → named_by step.before.win32 w h ≡ Some names → is_live_process step.after.win32 w ≡ true
      → named_by step.after.win32 w h ≡ Some names
  handle-stays w h names beside named live = elim beside [
    | inl apart ↦ seen.shows.facts.processes.own_handles w h names named live apart
    | inr idle ↦ ap (λ s. named_by s w h) idle.win32 ∙ named
  ]
