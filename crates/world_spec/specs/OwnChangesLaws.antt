-- A turn of the main thread of a live process with an own event, in which its own image may change and all else that is
-- shown stays: it shows all that is to show of it.
use Rattle.std.proofs.Common.{◌≡◌, ◌≢◌, inl, ℕ, ◌+◌, true, false, ◌&&◌, nat_eq, List, Option}
use Rattle.std.proofs.Common.{Some, None}
use Rattle.std.proofs.Common.{refl, sym, ap, ◌∙◌, subst, arith}
use Rattle.w32_base.specs.Part.{KeepsImage}
use Rattle.w32_base.specs.declared.call.Call.{Call}
use Rattle.w32_base.specs.declared.call.Reply.{Reply}
use Rattle.w32_base.specs.declared.entry.Directive.TheVariants as directive
use Rattle.w32_base.specs.declared.event.Event.{Event}
use Rattle.w32_base.specs.declared.event.Event.TheVariants as event
use Rattle.script_spec.specs.declared.script.Script.{Script}
use Rattle.vm_spec.specs.Image.{image_of}
use Rattle.win32_spec.specs.FormedLaws.{live_found, found_live}
use Rattle.win32_spec.specs.Handles.{handle_of}
use Rattle.win32_spec.specs.Lookup.{is_alive, process_of, process_in, number_of, number_in, thread_of, memory_of}
use Rattle.win32_spec.specs.Lookup.{memory_by}
use Rattle.win32_spec.specs.LookupLaws.{same}
use Rattle.win32_spec.specs.Named.{handles_of, named_by}
use Rattle.win32_spec.specs.State.{Process}
use Rattle.posix_spec.specs.Records.{with_record}
use Rattle.posix_spec.specs.Run.{PosixStep}
use Rattle.posix_spec.specs.State.{Record, record_of}
use Rattle.layer_spec.specs.Decodes.{Decodes}
use Rattle.layer_spec.specs.Decoding.{main_image}
use Rattle.layer_spec.specs.Evidence.{MainThread, StandsInPlace, ShowsEvent}
use Rattle.layer_spec.specs.Moment.{Moment, Seen, HistoryStep}
use Rattle.layer_spec.specs.Turns.{is_live_process, is_process}
use Rattle.layer_spec.specs.Words.{main_at, row_of}
use Rattle.roster.specs.Turns.{roster_handle}
use Rattle.world_spec.specs.Calm.{is_plain_call, is_plain}
use Rattle.world_spec.specs.CalmLaws.{words-kept, plain_written, is_no_create, is_no_claim, nobody-ends}
use Rattle.world_spec.specs.Facts.{KeepsProcesses, suspended_by}
use Rattle.world_spec.specs.Made.{IsNamed}
use Rattle.world_spec.specs.OwnChanges.{KeepsBut, IsOwnChange}
use Rattle.world_spec.specs.OwnChangesRows.{KeepsShownRecord, decodes-own}
use Rattle.world_spec.specs.RowsBesideLaws.{IsOwnRow}
use Rattle.world_spec.specs.SeenStep.{ShowsStep, turn_step}
use Rattle.world_spec.specs.Sound.{IsSoundMoment}
use Rattle.world_spec.specs.SoundLaws.{live_is_process}

-- an event that isn't a key's
abbrev pub IsNoKey : Event → Type 0
IsNoKey told = (p b : ℕ) → told ≡ event.Key p b → ⊥

module _ {A : Type 0} (script : Script) (past : List (Seen A)) (now after : Moment A) (slot w row : ℕ) (called : Call)
    (reply : Reply) (told : Event) (sound : IsSoundMoment script past now)
    (process : number_in now.win32 slot ≡ Some w) (own : IsOwnRow now.win32 w row)
    (change : IsOwnChange w now.win32 after.win32) (plain : is_plain_call called ≡ true) where
  abbrev step : HistoryStep A
  step = turn_step past now after slot 0 called reply (Some told)

  -- the turn is in the place of the main thread of the row's process
  pub own-place : StandsInPlace step (MainThread (row + 1))
  own-place = by_process (process_in now.win32.processes slot) process
    where
      row_is : row_of (row + 1) ≡ row
      row_is = omega arith

      by_process : (o : Option Process) → number_of o ≡ Some w
          → is_process o (main_image (main_at now.win32 (row_of (row + 1)))) && nat_eq 0 0 ≡ true
      by_process None e = absurd (cc)
      by_process (Some p) e =
          let n : p.number ≡ w = cc in
          let image : main_image (main_at now.win32 (row_of (row + 1))) ≡ w =
          ap (λ k. main_image (main_at now.win32 k)) row_is ∙ own.image in
          rw (same p.number (main_image (main_at now.win32 (row_of (row + 1)))) (n ∙ sym image)) refl

  -- what is found of a process that is alive after it
  was : (v : ℕ) → is_live_process after.win32 v ≡ true
      → (q : Process) × (p : Process) × (process_of after.win32.processes v ≡ Some q)
      × (process_of now.win32.processes v ≡ Some p) × (is_alive p.life ≡ true) × KeepsBut w v p q
  was v live =
      let q = live_found (process_of after.win32.processes v) live in
      let p = change.processes v q.0 q.1 q.2 in (q.0, p.0, q.1, p.1, p.2, p.3)

  image_kept : (v : ℕ) → v ≢ w → is_live_process after.win32 v ≡ true
      → KeepsImage (memory_by now.win32 v) (memory_by after.win32 v)
  image_kept v d live =
      let at = was v live in
      subst (λ o. KeepsImage (memory_of o) (memory_by after.win32 v)) (sym at.3)
      (subst (λ o. KeepsImage at.1.own (memory_of o)) (sym at.2) (at.5.image d))

  still_named : (v h names : ℕ) → named_by now.win32 v h ≡ Some names
      → is_live_process after.win32 v ≡ true → named_by after.win32 v h ≡ Some names
  still_named v h names named live =
      let at = was v live in
      ap (λ o. handle_of (handles_of o) h) at.2
      ∙ at.5.others.handles h names (ap (λ o. handle_of (handles_of o) h) (sym at.3) ∙ named)

  -- the row names the process whose turn it is
  named : IsNamed now.win32 w
  named = record {
    row = row;
    from = own.from;
    process = live_is_process (main_at now.win32 row) own.live;
    image = own.image;
  }

  processes_kept : KeepsProcesses step
  processes_kept = record {
    ends = nobody-ends step (λ no_end v live. change.lives v live);
    low_handles = λ v h names few is live. still_named v h names is live;
    own_handles = λ v h names is live other. still_named v h names is live;
    roster_handles = λ v names live is.
        let at = was v live in (
          v,
          found_live (process_of now.win32.processes v) at.1 at.3 at.4,
          ap (λ o. handle_of (handles_of o) roster_handle) at.3 ∙ (sym at.5.others.roster
              ∙ (sym (ap (λ o. handle_of (handles_of o) roster_handle) at.2) ∙ is)),
        );
    writes = λ v written.
        absurd (plain_written now.win32 (directive.Turn slot 0) (Some called) v plain written);
    unnamed = λ v is acts live. image_kept v (λ e. is (subst (IsNamed now.win32) (sym e) named)) live;
    helpers = λ v t acts other live. absurd (other (sym acts.1));
    children = λ v t acts other live. absurd (other (sym acts.1));
    suspends = λ v t before live.
        let at = was v live in
        inl (ap (λ o. suspended_by (thread_of o t)) at.2
        ∙ (at.5.others.suspended t ∙ sym (ap (λ o. suspended_by (thread_of o t)) at.3)));
  }

  module _ (old changed : Record) (found : record_of now.posix (row + 1) ≡ Some old)
      (keeps : KeepsShownRecord old changed)
      (image : (q : Process) → process_of after.win32.processes w ≡ Some q → is_alive q.life ≡ true
      → changed.image ≡ image_of q.own)
      (posix : after.posix ≡ with_record now.posix (row + 1) changed)
      (stepped : PosixStep script now.posix told after.posix) (no_key : IsNoKey told)
      (shown : StandsInPlace step (MainThread (row + 1)) → ShowsEvent script step told) where
    -- All that is to show of such a turn.
    pub own-shows : ShowsStep script step
    own-shows = record {
      posix = stepped;
      discipline = record {
        creates = λ is. absurd (is_no_create (Some called) plain is);
        claims = λ is. absurd (is_no_claim (Some called) plain is);
        claimed = λ is. change.words 0;
        above = λ i far. change.words i;
        modules = λ v m asks acts. absurd (let e : false ≡ true = ap is_plain (sym asks) ∙ plain in cc);
        lives = λ no_end p r known live alive. change.lives _ alive;
        keys = λ p b. (
          λ keyed. absurd (no_key p b (let e : Some told ≡ Some (event.Key p b) = keyed in cc)),
          λ takes. absurd (let e : false ≡ true = ap is_plain (sym takes.1.asks) ∙ plain in cc),
        );
      };
      evidence = record { carried_out = refl; shown = shown own-place };
      decodes = subst (λ p. Decodes script after.win32 p) (sym posix)
          (decodes-own script now.win32 after.win32 now.posix w row old changed change own
          (λ other from live names. sound.rows.apart other row from own.from live own.live (names ∙ sym own.image))
          found keeps image sound.decodes);
      facts = record {
        words = words-kept step change.words plain;
        processes = processes_kept;
        host = λ live. change.lives 1 live;
      };
    }
