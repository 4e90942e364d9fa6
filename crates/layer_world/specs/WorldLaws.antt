-- The laws of a world: its opening, and a directive.
use Rattle.std.proofs.Common.{◌≡◌, ◌≢◌, ℕ, zero, ◌+◌, ◌≤◌, ◌<◌, Bool, true, false, List, [], ◌∷◌, ◌++◌, length, Option}
use Rattle.std.proofs.Common.{Some}
use Rattle.std.proofs.Common.{None, refl, sym, ap, ◌∙◌, subst, arith}
use Rattle.w32_base.specs.Part.{KeepsLengths}
use Rattle.w32_base.specs.declared.call.Call.{Call}
use Rattle.w32_base.specs.declared.call.Reply.{Reply}
use Rattle.w32_base.specs.declared.entry.Directive.{Directive}
use Rattle.w32_base.specs.declared.entry.Directive.TheVariants as directive
use Rattle.w32_base.specs.declared.entry.Outcome.{Outcome}
use Rattle.w32_base.specs.declared.entry.Entry.{Entry}
use Rattle.w32_base.specs.declared.event.Event.{Event}
use Rattle.w32_base.specs.declared.own.Own.{Own}
use Rattle.w32_base.specs.declared.part.After.{After}
use Rattle.w32_base.specs.declared.setup.Setup.{Setup}
use Rattle.script_spec.specs.declared.script.Script.{Script}
use Rattle.script_spec.specs.Validity.{IsValid}
use Rattle.win32_spec.specs.CallEffects.{by_bool}
use Rattle.win32_spec.specs.Driven.{DrivenState, DrivenBy, IsDrivenOpening}
use Rattle.win32_spec.specs.Lookup.{process_of, is_live, number_of}
use Rattle.win32_spec.specs.Making.{opening_call}
use Rattle.win32_spec.specs.Ready.{is_ready}
use Rattle.win32_spec.specs.ValidLaws.{registers-valid}
use Rattle.posix_spec.specs.Opening.{opening_of}
use Rattle.posix_spec.specs.State.{PosixState}
use Rattle.posix_spec.specs.ValidLaws.{HasRanges-valid}
use Rattle.layer_spec.specs.History.{given_of}
use Rattle.layer_spec.specs.Moment.{Moment, Seen, entries_of}
use Rattle.layer_spec.specs.HistoryLaws.{length-entries_of}
use Rattle.world_spec.specs.Owes.{OwesWorld}
use Rattle.world_spec.specs.Sound.{HasSpare}
use Rattle.world_spec.specs.Told.{is_told_whole, told-given}
use Rattle.world_spec.specs.SeenStep.{IsTaken}
use Rattle.world_spec.specs.World.{IsWorld}
use Rattle.world_spec.specs.WorldLaws.{world-goes}
use Rattle.world_spec.specs.WorldOpening.{world-opens}
use Rattle.layer_world.specs.World.{WorldValue, moment_of, entry_to, IsWorldOf, IsOpeningWorld}

module _ {A : Type 0} (posted_of : A → Call) (goes : A → Own → Setup → Reply → A → Own → After → Type 0)
    (opening : A → Type 0) (slot_of thread_of_part : A → ℕ)
    (clause : Script → List (Seen A) → Moment A → ℕ → A → Type 0)
    (begins : (p : A) → opening p → posted_of p ≡ opening_call)
    (script : Script) (valid : IsValid script)
    (owes : OwesWorld posted_of goes opening slot_of thread_of_part (clause script) script) where
  -- A machine that opens with its parts is a world without entries.
  pub world-of-opening : (state : DrivenState A)
      → IsDrivenOpening posted_of goes opening slot_of thread_of_part script state
      → IsWorldOf posted_of goes opening slot_of thread_of_part clause
      (record { script = script; state = state; entries = [] }) [] (opening_of script)
  world-of-opening state opens = record {
    world = world-opens posted_of goes opening slot_of thread_of_part (clause script) begins script owes
        (moment_of (record { script = script; state = state; entries = [] }) (opening_of script)) valid
        (record { opens = opens.opens; opened = opens.opened; last = refl }) refl;
    entries = refl;
  }

  module _ (keeps_slot : (p q : A) (o n : Own) (s : Setup) (r : Reply) (a : After) → goes p o s r q n a
      → slot_of q ≡ slot_of p)
      (keeps_thread : (p q : A) (o n : Own) (s : Setup) (r : Reply) (a : After) → goes p o s r q n a
      → thread_of_part q ≡ thread_of_part p)
      (keeps_lengths : (p q : A) (o n : Own) (s : Setup) (r : Reply) (a : After) → goes p o s r q n a
      → KeepsLengths o n)
      (tells : (past : List (Seen A)) (now : Moment A) (w : ℕ) (p : A) → clause script past now w p → (q : A)
      (o n : Own) (r : Reply) (a : After) → goes p o script.setup r q n a → is_told_whole a.event ≡ true)
      (old : DrivenState A) (entries : List Entry) (d : Directive) (called : Option Call) (came : Outcome)
      (new : DrivenState A) where
    abbrev from : WorldValue A
    from = record { script = script; state = old; entries = entries }

    abbrev to : WorldValue A
    to = record { script = script; state = new; entries = entries ++ entry_to d called came new ∷ [] }

    abbrev IsWorldAfter : List (Seen A) → PosixState → PosixState → Option Event → Type 0
    IsWorldAfter past posix after told =
        IsWorld posted_of goes opening slot_of thread_of_part (clause script) script
        (record {
          before = moment_of from posix;
          entry = record { directive = d; call = called; outcome = came; event = told };
        } ∷ past) (moment_of to after)

    -- the event of the step is told as the part gave it
    told_whole : (past : List (Seen A)) (posix : PosixState)
        → IsWorldOf posted_of goes opening slot_of thread_of_part clause from past posix
        → DrivenBy posted_of goes opening slot_of thread_of_part script old d called came new
        → is_told_whole new.last ≡ true
    told_whole past posix h driven = by_directive d driven
      where
        by_directive : (x : Directive)
            → DrivenBy posted_of goes opening slot_of thread_of_part script old x called came new
            → is_told_whole new.last ≡ true
        by_directive (directive.Turn slot t) m =
            by_bool (is_ready old.win32 slot t)
            (λ ready of. by_bool (is_live (process_of of.4.mid.processes of.4.process.number))
            (λ lives on. ap is_told_whole on.1.told
            ∙ tells past (moment_of from posix) of.4.process.number of.4.part
            (h.world.stands slot t of.4.process.number of.4.part (ap number_of of.4.posted.thread.process) of.4.before)
            on.0 _ on.1.own of.1 on.1.answer on.1.went)
            (λ dies gone. ap is_told_whole gone.1) of.4.goes_on)
            (λ waits rests. ap is_told_whole rests.3) m
        by_directive (directive.End slot) m = ap is_told_whole m.2
        by_directive (directive.Key b) m = ap is_told_whole m.3

    -- A directive leads from a world to a world.
    pub world-of-directive : IsTaken d → length entries < script.setup.limits.budget
        → DrivenBy posted_of goes opening slot_of thread_of_part script old d called came new
        → (past : List (Seen A)) (posix : PosixState)
        → IsWorldOf posted_of goes opening slot_of thread_of_part clause from past posix
        → (after : PosixState) × IsWorldOf posted_of goes opening slot_of thread_of_part clause to
        (record { before = moment_of from posix; entry = entry_to d called came new } ∷ past) after
    world-of-directive taken spare driven past posix h =
        let on = world-goes posted_of goes opening slot_of thread_of_part (clause script) begins keeps_slot keeps_thread
        keeps_lengths script (registers-valid script valid) (HasRanges-valid script valid) owes past (moment_of from
        posix) h.world d called came new
        taken (within past h.entries) driven in
        let told : on.told ≡ new.last = told-given on.told new.last on.given_is (told_whole past posix h driven) in (
          on.posix,
          record {
            world = subst (IsWorldAfter past posix on.posix) told on.world;
            entries = ap (λ es. es ++ entry_to d called came new ∷ []) h.entries;
          },
        )
      where
        within : (seen : List (Seen A)) → entries ≡ entries_of seen → HasSpare script seen
        within seen e = subst (λ n. n < script.setup.limits.budget) (ap length e ∙ length-entries_of seen) spare
