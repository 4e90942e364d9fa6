-- The end of a process in a table is the end of that process.
use Rattle.std.proofs.Common.{◌≡◌, ◌≢◌, inl, inr, ℕ, ◌<◌, ◌++◌, List, [], ◌∷◌, Some, None, refl, sym, ap}
use Rattle.std.proofs.Common.{◌∙◌, set, length}
use Rattle.std.proofs.lemmas.Bool.{cases_eq}
use Rattle.std.proofs.lemmas.List.{get_or-set_other}
use Rattle.w32_base.specs.declared.call.Call.{Call}
use Rattle.win32_spec.specs.State.{PlacedModule}
use Rattle.win32_spec.specs.Lookup.{process_of, change_process}
use Rattle.win32_spec.specs.Ends.{ended_process}
use Rattle.win32_spec.specs.LookupLaws.{same, differs, process_of-change_same, process_of-change_other}
use Rattle.win32_spec.specs.LookupLaws.{rising-change_process}
use Rattle.w32_process.specs.declared.kept.Kept.{Kept}
use Rattle.w32_process.specs.Places.{empty_place}
use Rattle.w32_process.specs.Table.{Table, place_at, number_at, code_of, kept_of, with_end}
use Rattle.w32_process.specs.Sound.{IsSound}
use Rattle.w32_process.specs.SoundLaws.{number_at-set_same, number_at-set_other, within_slots, IsSound-end}
use Rattle.w32_process.specs.Processes.{live_process, processes_of}
use Rattle.w32_process.specs.ProcessLaws.{Finds, same_processes}
use Rattle.w32_process.specs.TableLaws.{kept_at, process_kept, IsInNone}
use Rattle.w32_process.specs.FoundLaws.{slot_of, rising-processes, process_of-live, process_of-aside}
use Rattle.w32_process.specs.ThreadLaws.{same_threads}

-- one more that is kept
pub kept_at-push_same : (es : List Kept) (e : Kept) (w : ℕ) → code_of es w ≡ None → e.number ≡ w
    → kept_at (es ++ e ∷ []) w ≡ Some e
kept_at-push_same [] e w none n = let s = same e.number w n in rw s refl
kept_at-push_same (x ∷ es) e w none n =
    elim (cases_eq x.number w) [
      | inl m ↦ let s = same x.number w m in absurd (let f : Some x.code ≡ None = rw s at none in cc)
      | inr d ↦ let s = differs x.number w d in rw s (kept_at-push_same es e w (rw s at none) n)
    ]

pub kept_at-push_other : (es : List Kept) (e : Kept) (w : ℕ) → w ≢ e.number
    → kept_at (es ++ e ∷ []) w ≡ kept_at es w
kept_at-push_other [] e w d = let s = differs e.number w (λ n. d (sym n)) in rw s refl
kept_at-push_other (x ∷ es) e w d =
    elim (cases_eq x.number w) [
      | inl m ↦ let s = same x.number w m in rw s refl
      | inr o ↦ let s = differs x.number w o in rw s (kept_at-push_other es e w d)
    ]

module _ (posted posted' : ℕ → ℕ → Call) (placed placed' : ℕ → List PlacedModule) (t : Table) (sound : IsSound t)
    (slot w code : ℕ) (stands : number_at t.slots slot ≡ Some w)
    (posted_aside : (k u : ℕ) → k ≢ slot → posted' k u ≡ posted k u)
    (placed_aside : (k : ℕ) → k ≢ slot → placed' k ≡ placed k) where
  abbrev ended : Kept
  ended = kept_of w slot (place_at t.slots slot).program code

  within : slot < length t.slots
  within = within_slots t.slots slot w stands

  sound_after : IsSound (with_end t slot w code)
  sound_after = IsSound-end t.next t.slots t.kept slot w ended within stands refl sound

  still : (k n : ℕ) → number_at (set t.slots slot empty_place) k ≡ Some n
      → (k ≢ slot) × (number_at t.slots k ≡ Some n)
  still k n e =
      elim (cases_eq k slot) [
        | inl p ↦ absurd (let f : Some n ≡ None = sym e ∙ ap (number_at (set t.slots slot empty_place)) p
            ∙ number_at-set_same t.slots slot empty_place within in cc)
        | inr d ↦ (d, sym (number_at-set_other t.slots slot k empty_place d) ∙ e)
      ]

  finds : Finds (processes_of posted' placed' (with_end t slot w code))
      (change_process w (ended_process code) (processes_of posted placed t))
  finds v =
      elim (cases_eq v w) [
        | inl n ↦ rw n (here ∙ sym (process_of-change_same w (ended_process code) (λ p. refl)
            (processes_of posted placed t) (live_process posted placed slot w (place_at t.slots slot))
            (process_of-live posted placed t sound slot w stands)))
        | inr d ↦ elim (slot_of t.slots v) [
          | inl k ↦ there k.0 k.1 d
              ∙ sym (process_of-change_other w (ended_process code) (λ p. refl) (processes_of posted placed t) v d)
          | inr none ↦ nowhere d none
              ∙ sym (process_of-change_other w (ended_process code) (λ p. refl) (processes_of posted placed t) v d)
        ]
      ]
    where
      gone : IsInNone (set t.slots slot empty_place) w
      gone k e = let s = still k w e in s.0 (sound.numbers.alone k slot w s.1 stands)

      here : process_of (processes_of posted' placed' (with_end t slot w code)) w ≡
          Some (ended_process code (live_process posted placed slot w (place_at t.slots slot)))
      here =
          process_of-aside posted' placed' (with_end t slot w code) sound_after w gone
          ∙ ap process_kept
          (kept_at-push_same t.kept ended w (sound.numbers.live slot w stands) refl)

      there : (k : ℕ) → number_at t.slots k ≡ Some v → v ≢ w
          → process_of (processes_of posted' placed' (with_end t slot w code)) v ≡
          process_of (processes_of posted placed t) v
      there k e d =
          let aside : k ≢ slot = λ n. d
          (let g : Some v ≡ Some w = sym e ∙ ap (number_at t.slots) n ∙ stands in cc) in
          process_of-live posted' placed' (with_end t slot w code) sound_after k v
          (number_at-set_other t.slots slot k empty_place aside ∙ e)
          ∙ ap (λ p. Some (live_process posted' placed' k v p))
          (get_or-set_other t.slots slot k empty_place empty_place aside)
          ∙ ap (λ threads. Some (record (live_process posted' placed' k v (place_at t.slots k)) { threads = threads }))
          (same_threads (posted k) (posted' k) (λ u. posted_aside k u aside) 0 (place_at t.slots k).suspended)
          ∙ ap (λ modules. Some (record (live_process posted placed k v (place_at t.slots k)) { placed = modules }))
          (placed_aside k aside)
          ∙ sym (process_of-live posted placed t sound k v e)

      nowhere : v ≢ w → IsInNone t.slots v
          → process_of (processes_of posted' placed' (with_end t slot w code)) v ≡
          process_of (processes_of posted placed t) v
      nowhere d none =
          process_of-aside posted' placed' (with_end t slot w code) sound_after v
          (λ k e. none k (still k v e).1)
          ∙ ap process_kept (kept_at-push_other t.kept ended v d)
          ∙ sym (process_of-aside posted placed t sound v none)

  pub processes-with_end : processes_of posted' placed' (with_end t slot w code) ≡
      change_process w (ended_process code) (processes_of posted placed t)
  processes-with_end =
      same_processes 0 t.next 0 t.next (processes_of posted' placed' (with_end t slot w code))
      (change_process w (ended_process code) (processes_of posted placed t))
      (rising-processes posted' placed' (with_end t slot w code) sound_after)
      (rising-change_process w (ended_process code) (λ p. refl) 0 t.next (processes_of posted placed t)
      (rising-processes posted placed t sound)) finds

  pub IsSound-with_end : IsSound (with_end t slot w code)
  IsSound-with_end = sound_after
