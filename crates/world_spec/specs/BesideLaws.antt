-- What a clause is built of outlasts each step beside it: the lemmas by which a part shows that its own does.
use Rattle.std.proofs.Common.{◌≡◌, ◌⊎◌, inl, inr, ℕ, ◌≤◌, true, Some, refl, sym, ap, ◌∙◌, subst}
use Rattle.script_spec.specs.declared.script.Script.{Script}
use Rattle.win32_spec.specs.Facts.{IsTurnOf}
use Rattle.win32_spec.specs.FormedLaws.{live_found}
use Rattle.win32_spec.specs.Lookup.{process_of, memory_of, memory_by}
use Rattle.win32_spec.specs.MemoryEffects.{HaveRegisters}
use Rattle.win32_spec.specs.Named.{named_by}
use Rattle.win32_spec.specs.StableFacts.{bytes-stay}
use Rattle.layer_spec.specs.Decoding.{main_of}
use Rattle.layer_spec.specs.Moment.{HistoryStep, seen_with, SomeSeen, Seen}
use Rattle.layer_spec.specs.Turns.{is_live_process}
use Rattle.layer_spec.specs.Words.{main_at}
use Rattle.world_spec.specs.Facts.{RowStays, is_open_main}
use Rattle.world_spec.specs.Made.{IsClaimedBy, IsNamed}
use Rattle.world_spec.specs.SeenStep.{IsSeenStep, IsBeside, IsIdle}

-- what was seen stays seen
pub seen-stays : {A : Type 0} → (step : HistoryStep A) (Q : Seen A → Type 0) → SomeSeen Q step.past
    → SomeSeen Q (seen_with step)
seen-stays step Q seen = inr seen

-- after an idle turn every row is as before
idle_row : {A : Type 0} → (step : HistoryStep A) → IsIdle step → (row : ℕ)
    → RowStays step.before.win32 step.after.win32 row
idle_row step idle row =
    subst (λ s. RowStays step.before.win32 s row) (sym idle.win32) (record { main = refl; group = refl; exit = refl })

module _ {A : Type 0} (script : Script) (step : HistoryStep A) (seen : IsSeenStep script step) where
  -- A row that the main thread of process w claimed, and that is neither published nor dropped, outlasts each step
  -- beside that thread.
  pub claim-stays : (w row : ℕ) → IsBeside step w 0 → IsClaimedBy step.past row w
      → is_open_main (main_of (main_at step.before.win32 row)) ≡ true → RowStays step.before.win32 step.after.win32 row
  claim-stays w row beside claimed is_open = elim beside [
    | inl apart ↦ seen.shows.facts.words.claimed row w claimed is_open apart
    | inr idle ↦ idle_row step idle row
  ]

  -- So do handles 1 to 8 of a process, whoever acts.
  pub low-stays : (w h names : ℕ) → h ≤ 8 → named_by step.before.win32 w h ≡ Some names
      → is_live_process step.after.win32 w ≡ true → named_by step.after.win32 w h ≡ Some names
  low-stays w h names few named live = seen.shows.facts.processes.low_handles w h names few named live

  -- The memory of a process that a main word names outlasts each step in which no thread of the process acts.
  pub memory-stays : (registers : HaveRegisters script) (w : ℕ)
      → (IsTurnOf step.before.win32 step.entry.directive w → ⊥) ⊎ IsIdle step
      → IsNamed step.before.win32 w → is_live_process step.before.win32 w ≡ true
      → is_live_process step.after.win32 w ≡ true
      → memory_by step.after.win32 w ≡ memory_by step.before.win32 w
  memory-stays registers w beside named before after = elim beside [
    | inl apart ↦
        let p = live_found (process_of step.before.win32.processes w) before in
        let q = live_found (process_of step.after.win32.processes w) after in
        let same = bytes-stay script step.before.win32 step.entry.directive step.entry.call step.entry.outcome
        step.after.win32 registers seen.before.formed seen.win32 w p.0 q.0 p.1 q.1 q.2 apart
        (λ written. let m = seen.shows.facts.processes.writes w written in m.unnamed named) in
        ap memory_of q.1 ∙ (same ∙ sym (ap memory_of p.1))
    | inr idle ↦ ap (λ s. memory_by s w) idle.win32
  ]
