-- Where the own main word shows that the process is free, it is at what is next in its program, and may go on with it.
use Rattle.std.proofs.Common.{◌≡◌, ℕ, ◌+◌, Bool, true, false, ◌&&◌, Option, Some, None, List, refl, sym, ap}
use Rattle.std.proofs.Common.{◌∙◌, subst}
use Rattle.std.specs.Prelude.{slice_get, is_none, is_some}
use Rattle.w32_base.specs.declared.own.Own.{Own}
use Rattle.script_spec.specs.declared.script.Script.{Script}
use Rattle.vm_spec.specs.Image.{image_of, program_of}
use Rattle.vm_spec.specs.Step.{upcoming}
use Rattle.win32_spec.specs.FormedLaws.{live_found}
use Rattle.win32_spec.specs.Lookup.{process_of, memory_of, memory_by}
use Rattle.posix_spec.specs.Conditions.{code_of, next_of}
use Rattle.posix_spec.specs.Pending.{open_by_life, has_deliverable}
use Rattle.posix_spec.specs.Signals.{outside, least, clean_mask}
use Rattle.posix_spec.specs.State as posix
use Rattle.layer_spec.specs.Decodes.{ShowsRow, ShowsRecord, life_by}
use Rattle.layer_spec.specs.Heap.{HeapFields}
use Rattle.layer_spec.specs.HeapInverse.{heap_back}
use Rattle.layer_spec.specs.HeapReads.{mask_in}
use Rattle.layer_spec.specs.Moment.{Moment, Seen}
use Rattle.layer_spec.specs.Rows as rows
use Rattle.layer_spec.specs.Turns.{is_live_process}
use Rattle.world_spec.specs.Notes.{IsBetweenCalls, IsAtNext}
use Rattle.world_spec.specs.OwnChangesRows.{own-holds, own-shown}
use Rattle.world_spec.specs.Sound.{IsSoundMoment}
use Rattle.layer_actor.specs.Doing.{is_running_kind, has_regions, is_free, code_in}
use Rattle.layer_actor.specs.LocalTurns.{same_code}
use Rattle.layer_actor.specs.LookMask.{least-clean}

-- a row of a process that runs, and its record
running_kind : (kind : rows.RowKind) (stop status : ℕ) (life : posix.Life) → is_running_kind kind ≡ true
    → life_by kind stop status ≡ Some life → (life ≡ posix.Running) × (rows.is_live_kind kind ≡ true)
running_kind rows.Running stop status life e f = (let g : posix.Running ≡ life = cc in sym g, refl)
running_kind rows.Free stop status life e f = absurd (let g : false ≡ true = e in cc)
running_kind rows.Held stop status life e f = absurd (let g : false ≡ true = e in cc)
running_kind rows.Stopped stop status life e f = absurd (let g : false ≡ true = e in cc)
running_kind rows.Zombie stop status life e f = absurd (let g : false ≡ true = e in cc)
running_kind rows.Gone stop status life e f = absurd (let g : false ≡ true = e in cc)

-- the three tests of being free
free_tests : (a b c : Bool) → (a && (b && c)) ≡ true → (a ≡ true) × (c ≡ true)
free_tests true true true e = (refl, refl)
free_tests true true false e = absurd (let f : false ≡ true = e in cc)
free_tests true false c e = absurd (let f : false ≡ true = e in cc)
free_tests false b c e = absurd (let f : false ≡ true = e in cc)

none_some : {X : Type 0} (o : Option X) → is_none o ≡ true → is_some o ≡ false
none_some None e = refl
none_some (Some x) e = absurd (let f : false ≡ true = e in cc)

-- a note that holds only where a signal may act, which none may
not_noted : (due deliverable : Bool) → (due ≡ true → deliverable ≡ true) → deliverable ≡ false → due ≡ false
not_noted false deliverable h e = refl
not_noted true deliverable h e = absurd (let f : true ≡ false = sym (h refl) ∙ e in cc)

module _ {A : Type 0} (script : Script) (past : List (Seen A)) (now : Moment A) (w row : ℕ)
    (sound : IsSoundMoment script past now) (between : IsBetweenCalls now w row)
    (live : is_live_process now.win32 w ≡ true) where
  abbrev bytes : Own
  bytes = memory_by now.win32 w

  abbrev old : posix.Record
  old = between.noted

  -- what the own row shows, and what the own memory holds
  pub own_row : ShowsRow script (λ q. q.own) now.win32 now.posix row
  own_row = sound.decodes.rows row between.own.from

  shown : ShowsRecord script (λ q. q.own) now.win32 now.posix row own_row.main old
  shown = own-shown script now.win32 now.posix row old between.found own_row

  record HoldsIn (own : Own) : Type 0 where
    pub image : old.image ≡ image_of own
    pub mask : old.mask ≡ mask_in own.cyg

  held : HoldsIn bytes
  held =
      let q = live_found (process_of now.win32.processes w) live in
      let h = own-holds script now.win32 now.posix w row old q.0 sound.decodes between.own between.found q.1 q.2 in
      subst (λ o. HoldsIn (memory_of o)) (sym q.1) (record {
        image = h.image;
        mask = h.mask ∙ sym (ap mask_in h.layout ∙ ap (λ (f : HeapFields). f.mask) (heap_back h.heap h.legal));
      })

  pub image-found : old.image ≡ image_of bytes
  image-found = held.image

  -- what the look finds next is what is next
  pub next-found : next_of script old ≡ upcoming (code_in script.setup bytes) (image_of bytes)
  next-found =
      ap (λ i. upcoming (code_of script i) i) image-found
      ∙ ap (λ c. upcoming c (image_of bytes))
      (sym (same_code (slice_get script.setup.programs (program_of (image_of bytes)))))

  pub free-next : is_free bytes own_row.main ≡ true
      → (at : IsAtNext script now w row (upcoming (code_in script.setup bytes) (image_of bytes)))
      × (at.noted.image ≡ image_of bytes)
  free-next free =
      let tests = free_tests (is_running_kind own_row.main.kind) (has_regions bytes)
      (is_none (least (outside own_row.main.pending (clean_mask (mask_in bytes.cyg))))) free in
      let runs = running_kind own_row.main.kind own_row.main.stop own_row.main.status old.life tests.0 shown.life in
      let formed = sound.posix.each (row + 1) old between.found in
      let none : is_some (least (outside own_row.main.pending (clean_mask (mask_in bytes.cyg)))) ≡ false =
      none_some (least (outside own_row.main.pending (clean_mask (mask_in bytes.cyg)))) tests.1 in
      let same : least (outside old.pending old.mask)
      ≡ least (outside own_row.main.pending (clean_mask (mask_in bytes.cyg))) =
      sym (least-clean old.pending old.mask formed.signals.is_mask)
      ∙ (ap (λ p. least (outside p (clean_mask old.mask))) (shown.pending runs.1)
      ∙ ap (λ m. least (outside own_row.main.pending (clean_mask m))) held.mask) in
      let nothing : has_deliverable old ≡ false =
      ap (λ l. is_some (least (open_by_life l old.pending old.mask))) runs.0 ∙ (ap is_some same ∙ none) in (
        record {
          own = between.own;
          noted = old;
          found = between.found;
          call = between.call;
          blocked = between.blocked;
          runs = runs.0;
          not_due = not_noted old.due (has_deliverable old) formed.goes_first nothing;
          next_is = next-found;
          unmarked = between.unmarked;
        },
        image-found,
      )
