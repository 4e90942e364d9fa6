-- The image of a process in its memory: beside the main thread it outlasts each step, and it is that of the record that
-- the own row shows.
use Rattle.std.proofs.Common.{◌≡◌, ◌≢◌, ◌⊎◌, inl, inr, ℕ, ◌+◌, true, Option, Some, None, refl, sym, ap, ◌∙◌}
use Rattle.std.proofs.lemmas.Bool.{cases_eq}
use Rattle.w32_base.specs.Part.{KeepsImage}
use Rattle.w32_base.specs.declared.entry.Directive.{Directive}
use Rattle.w32_base.specs.declared.entry.Directive.TheVariants as directive
use Rattle.script_spec.specs.declared.script.Script.{Script}
use Rattle.vm_spec.specs.Image.{image_of}
use Rattle.win32_spec.specs.Facts.{IsTurnOf, IsTurnOfThread}
use Rattle.win32_spec.specs.FormedLaws.{live_found}
use Rattle.win32_spec.specs.Lookup.{process_of, number_in, memory_of, memory_by}
use Rattle.win32_spec.specs.MemoryEffects.{HaveRegisters}
use Rattle.win32_spec.specs.State.{Win32State}
use Rattle.posix_spec.specs.State.{Record, PosixState, record_of}
use Rattle.layer_spec.specs.Decodes.{Decodes}
use Rattle.layer_spec.specs.Moment.{HistoryStep}
use Rattle.layer_spec.specs.Turns.{is_live_process}
use Rattle.layer_spec.specs.Words.{main_at}
use Rattle.world_spec.specs.BesideLaws.{memory-stays}
use Rattle.world_spec.specs.DecodesLaws.{same_image}
use Rattle.world_spec.specs.Made.{IsNamed}
use Rattle.world_spec.specs.OwnChangesRows.{own-holds}
use Rattle.world_spec.specs.RowsBesideLaws.{IsOwnRow}
use Rattle.world_spec.specs.SeenStep.{IsSeenStep, IsBeside}
use Rattle.world_spec.specs.SoundLaws.{live_is_process}
use Rattle.world_spec.specs.StepLaws.{some_same}

-- The record that the own row of a live process shows has the image that stands in the process's memory.
pub own-image : (script : Script) (s : Win32State) (p : PosixState) (w row : ℕ) → Decodes script s p → IsOwnRow s w row
    → is_live_process s w ≡ true → (r : Record) → record_of p (row + 1) ≡ Some r → r.image ≡ image_of (memory_by s w)
own-image script s p w row decodes own live r found =
    let q = live_found (process_of s.processes w) live in
    (own-holds script s p w row r q.0 decodes own found q.1 q.2).image ∙ sym (ap (λ o. image_of (memory_of o)) q.1)

-- A step that isn't a turn of the main thread is one of another thread of the process, or of none.
turn_or_none : (s : Win32State) (d : Directive) (w : ℕ) → (IsTurnOfThread s d w 0 → ⊥)
    → ((t : ℕ) × IsTurnOfThread s d w t × (t ≢ 0)) ⊎ (IsTurnOf s d w → ⊥)
turn_or_none s (directive.Turn slot x) w apart = by_number (number_in s slot) refl
  where
    by_number : (o : Option ℕ) → number_in s slot ≡ o
        → ((t : ℕ) × IsTurnOfThread s (directive.Turn slot x) w t × (t ≢ 0))
        ⊎ (IsTurnOf s (directive.Turn slot x) w → ⊥)
    by_number None e = inr (λ acts. absurd (let f : None ≡ Some w = sym e ∙ acts in cc))
    by_number (Some v) e = elim (cases_eq v w) [
      | inl same ↦ inl (x, (e ∙ ap (λ k. Some k) same, refl), λ main. apart (e ∙ ap (λ k. Some k) same, main))
      | inr other ↦ inr (λ acts. other (some_same v w (sym e ∙ acts)))
    ]
turn_or_none s (directive.End slot) w apart = inr (λ acts. acts)
turn_or_none s (directive.Key b) w apart = inr (λ acts. acts)

-- Beside the main thread of a live process that a main word names, its image outlasts each step: the other threads of
-- the process leave it alone too.
pub image-stays : {A : Type 0} → (script : Script) → HaveRegisters script → (step : HistoryStep A)
    → IsSeenStep script step → (w : ℕ) → IsBeside step w 0 → IsNamed step.before.win32 w
    → is_live_process step.before.win32 w ≡ true → is_live_process step.after.win32 w ≡ true
    → image_of (memory_by step.after.win32 w) ≡ image_of (memory_by step.before.win32 w)
image-stays script registers step seen w beside named before after = elim beside [
  | inl apart ↦ elim (turn_or_none step.before.win32 step.entry.directive w apart) [
    | inl own ↦ by_helper (seen.shows.facts.processes.helpers w own.0 own.1 own.2 after)
    | inr other ↦ ap image_of (memory-stays script step seen registers w (inl other) named before after)
  ]
  | inr idle ↦ ap image_of (memory-stays script step seen registers w (inr idle) named before after)
]
  where
    by_helper : KeepsImage (memory_by step.before.win32 w) (memory_by step.after.win32 w)
        → image_of (memory_by step.after.win32 w) ≡ image_of (memory_by step.before.win32 w)
    by_helper h = same_image (memory_by step.before.win32 w) (memory_by step.after.win32 w) h

-- The main word that names an image is the own row's.
pub own-named : (s : Win32State) (w row : ℕ) → IsOwnRow s w row → IsNamed s w
own-named s w row own = record {
  row = row;
  from = own.from;
  process = live_is_process (main_at s row) own.live;
  image = own.image;
}
