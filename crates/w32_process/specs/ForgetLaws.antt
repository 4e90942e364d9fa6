-- What is kept of the ended processes: all whose object is listed.
use Rattle.std.proofs.Common.{◌≡◌, ◌≢◌, ◌⊎◌, inl, inr, ℕ, Bool, true, false, ◌||◌, List, [], ◌∷◌, Option, Some, None}
use Rattle.std.proofs.Common.{if◌then◌else◌, refl, sym, ap, ◌∙◌, subst}
use Rattle.std.proofs.lemmas.Bool.{cases_eq}
use Rattle.w32_base.specs.declared.call.Call.{Call}
use Rattle.win32_spec.specs.State.{NumberedObject, PlacedModule, Process}
use Rattle.win32_spec.specs.Lookup.{is_alive, process_of}
use Rattle.win32_spec.specs.Ends.{is_process_held, kept_processes}
use Rattle.win32_spec.specs.LookupLaws.{same, differs, same_some, not_none}
use Rattle.win32_spec.specs.HeldLaws.{kept_process, kept_process-stays, rising-kept}
use Rattle.w32_process.specs.declared.kept.Kept.{Kept}
use Rattle.w32_process.specs.Table.{Table, code_of, without_kept}
use Rattle.w32_process.specs.Sound.{AreDistinct, IsSound}
use Rattle.w32_process.specs.SoundLaws.{IsSound-forget}
use Rattle.w32_process.specs.Processes.{kept_process as process_of_kept, processes_of}
use Rattle.w32_process.specs.ProcessLaws.{Finds, same_processes}
use Rattle.w32_process.specs.TableLaws.{kept_at, process_kept, kept_at-none, IsInNone}
use Rattle.w32_process.specs.FoundLaws.{slot_of, rising-processes, process_of-live, process_of-aside}

-- one less that is kept
pub kept_at-without_other : (es : List Kept) (v w : ℕ) → w ≢ v → kept_at (without_kept es v) w ≡ kept_at es w
kept_at-without_other [] v w d = refl
kept_at-without_other (x ∷ es) v w d =
    elim (cases_eq x.number v) [
      | inl m ↦ let s = same x.number v m in let o = differs x.number w (λ n. d (sym n ∙ m)) in rw (s, o) refl
      | inr m ↦ let s = differs x.number v m in rw s (by_number (cases_eq x.number w) (kept_at-without_other es v w d))
    ]
  where
    by_number : (x.number ≡ w) ⊎ (x.number ≢ w) → kept_at (without_kept es v) w ≡ kept_at es w
        → kept_at (x ∷ without_kept es v) w ≡ kept_at (x ∷ es) w
    by_number (inl n) rest = let s = same x.number w n in rw s refl
    by_number (inr n) rest = let s = differs x.number w n in rw s rest

pub kept_at-without_same : (es : List Kept) (v : ℕ) → AreDistinct es → kept_at (without_kept es v) v ≡ None
kept_at-without_same [] v distinct = refl
kept_at-without_same (x ∷ es) v distinct =
    elim (cases_eq x.number v) [
      | inl m ↦ let s = same x.number v m in rw s (kept_at-none es v (subst (λ n. code_of es n ≡ None) m distinct.0))
      | inr m ↦ let s = differs x.number v m in rw (s, s) (kept_at-without_same es v distinct.1)
    ]

-- Two tables with the same live processes, of which the second keeps exactly those of the first whose object is listed.
abbrev pub KeepsListed : List NumberedObject → List Kept → List Kept → Type 0
KeepsListed os kept left = (w : ℕ) → kept_at left w ≡ (if is_process_held os w then kept_at kept w else None)

module _ (posted : ℕ → ℕ → Call) (placed : ℕ → List PlacedModule) (os : List NumberedObject) (t : Table)
    (sound : IsSound t) (left : List Kept) (sound_after : IsSound (record t { kept = left }))
    (keeps : KeepsListed os t.kept left) where
  abbrev after : Table
  after = record t { kept = left }

  -- what is not found among those that stay is found nowhere
  is_none : (w : ℕ) → is_process_held os w ≡ false → IsInNone t.slots w
      → process_of (kept_processes os (processes_of posted placed t)) w ≡ None
  is_none w unheld none =
      by_answer (process_of (kept_processes os (processes_of posted placed t)) w) refl
    where
      by_answer : (o : Option Process)
          → process_of (kept_processes os (processes_of posted placed t)) w ≡ o → o ≡ None
      by_answer None e = refl
      by_answer (Some p) e =
          let found = kept_process os 0 t.next (processes_of posted placed t) w p
          (rising-processes posted placed t sound) e in
          absurd (by_kept (kept_at t.kept w) refl found.0 found.1)
        where
          by_kept : (o : Option Kept) → kept_at t.kept w ≡ o
              → process_of (processes_of posted placed t) w ≡ Some p
              → (is_alive p.life || is_process_held os w) ≡ true → ⊥
          by_kept None k f keep =
              not_none (process_of (processes_of posted placed t) w) p f
              (process_of-aside posted placed t sound w none ∙ ap process_kept k)
          by_kept (Some e) k f keep =
              let q : p ≡ process_of_kept e =
              same_some (process_of (processes_of posted placed t) w) p (process_of_kept e) f
              (process_of-aside posted placed t sound w none ∙ ap process_kept k) in
              let g : false ≡ true = rw (q, unheld) at keep in cc

  -- what is found and is to stay stays
  stays : (w : ℕ) (p : Process) → process_of (processes_of posted placed t) w ≡ Some p
      → (is_alive p.life || is_process_held os w) ≡ true
      → process_of (kept_processes os (processes_of posted placed t)) w ≡ Some p
  stays w p e keep = kept_process-stays os (processes_of posted placed t) w p e keep

  -- what is found nowhere stays so
  absent : (w : ℕ) → process_of (processes_of posted placed t) w ≡ None
      → process_of (kept_processes os (processes_of posted placed t)) w ≡ None
  absent w e = by_answer (process_of (kept_processes os (processes_of posted placed t)) w) refl
    where
      by_answer : (o : Option Process)
          → process_of (kept_processes os (processes_of posted placed t)) w ≡ o → o ≡ None
      by_answer None f = refl
      by_answer (Some p) f =
          let found = kept_process os 0 t.next (processes_of posted placed t) w p
          (rising-processes posted placed t sound) f in
          absurd (not_none (process_of (processes_of posted placed t) w) p found.0 e)

  finds : Finds (processes_of posted placed after) (kept_processes os (processes_of posted placed t))
  finds w =
      elim (slot_of t.slots w) [
        | inl k ↦ process_of-live posted placed after sound_after k.0 w k.1
            ∙ sym (stays w _ (process_of-live posted placed t sound k.0 w k.1) refl)
        | inr none ↦ process_of-aside posted placed after sound_after w none
            ∙ ap process_kept (keeps w)
            ∙ aside none (is_process_held os w) refl (kept_at t.kept w) refl
      ]
    where
      aside : IsInNone t.slots w → (b : Bool) → is_process_held os w ≡ b → (o : Option Kept) → kept_at t.kept w ≡ o
          → process_kept (if b then o else None) ≡
          process_of (kept_processes os (processes_of posted placed t)) w
      aside none false h o k = sym (is_none w h none)
      aside none true h None k =
          sym (absent w (process_of-aside posted placed t sound w none ∙ ap process_kept k))
      aside none true h (Some e) k =
          sym (stays w (process_of_kept e)
          (process_of-aside posted placed t sound w none ∙ ap process_kept k) h)

  pub processes-kept : processes_of posted placed after ≡ kept_processes os (processes_of posted placed t)
  processes-kept =
      same_processes 0 t.next 0 t.next (processes_of posted placed after)
      (kept_processes os (processes_of posted placed t)) (rising-processes posted placed after sound_after)
      (rising-kept os 0 t.next (processes_of posted placed t) (rising-processes posted placed t sound)) finds

-- an ended process is kept no more, whose object is no longer listed while those of all others are
pub processes-forget : (posted : ℕ → ℕ → Call) (placed : ℕ → List PlacedModule) (os : List NumberedObject) (t : Table)
    → IsSound t → (v : ℕ) → is_process_held os v ≡ false
    → ((w : ℕ) (e : Kept) → kept_at t.kept w ≡ Some e → w ≢ v → is_process_held os w ≡ true)
    → processes_of posted placed (record t { kept = without_kept t.kept v }) ≡
    kept_processes os (processes_of posted placed t)
processes-forget posted placed os t sound v unheld others =
    processes-kept posted placed os t sound (without_kept t.kept v)
    (IsSound-forget t.next t.slots t.kept v sound) keeps
  where
    by_test : (w : ℕ) → w ≢ v → (b : Bool) → is_process_held os w ≡ b → (o : Option Kept) → kept_at t.kept w ≡ o
        → o ≡ (if b then o else None)
    by_test w d true h o k = refl
    by_test w d false h None k = refl
    by_test w d false h (Some e) k = absurd (let f : true ≡ false = sym (others w e k d) ∙ h in cc)

    keeps : KeepsListed os t.kept (without_kept t.kept v)
    keeps w =
        elim (cases_eq w v) [
          | inl n ↦ rw (n, unheld) (kept_at-without_same t.kept v sound.numbers.kept_alone)
          | inr d ↦ kept_at-without_other t.kept v w d
              ∙ by_test w d (is_process_held os w) refl (kept_at t.kept w) refl
        ]

-- where the object of each ended process is listed, all are kept
pub processes-keep_all : (posted : ℕ → ℕ → Call) (placed : ℕ → List PlacedModule) (os : List NumberedObject)
    (t : Table) → IsSound t → ((w : ℕ) (e : Kept) → kept_at t.kept w ≡ Some e → is_process_held os w ≡ true)
    → processes_of posted placed t ≡ kept_processes os (processes_of posted placed t)
processes-keep_all posted placed os t sound held =
    processes-kept posted placed os t sound t.kept sound
    (λ w. by_test w (is_process_held os w) refl (kept_at t.kept w) refl)
  where
    by_test : (w : ℕ) → (b : Bool) → is_process_held os w ≡ b → (o : Option Kept) → kept_at t.kept w ≡ o
        → o ≡ (if b then o else None)
    by_test w true h o k = refl
    by_test w false h None k = refl
    by_test w false h (Some e) k = absurd (let f : true ≡ false = sym (held w e k) ∙ h in cc)
