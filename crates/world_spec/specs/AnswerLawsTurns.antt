-- The turn in which a call of a program has its result: the image takes it, with the call's event; or it can't, and the
-- part rests without one.
use Rattle.std.proofs.Common.{◌≡◌, ℕ, ◌+◌, ℤ, true, List, Option, Some, None, MatchOption, refl, sym, ap}
use Rattle.std.proofs.Common.{◌∙◌, subst}
use Rattle.w32_base.specs.declared.call.Call.{Call}
use Rattle.w32_base.specs.declared.call.Reply.{Reply}
use Rattle.w32_base.specs.declared.event.Event.{Event}
use Rattle.w32_base.specs.declared.own.Own.{Own}
use Rattle.w32_base.specs.declared.part.After.{After}
use Rattle.w32_base.specs.declared.setup.Setup.{Setup}
use Rattle.script_spec.specs.declared.script.Script.{Script}
use Rattle.vm_spec.specs.Image.{image_of, with_image, with_result}
use Rattle.win32_spec.specs.Driven.{Parts}
use Rattle.win32_spec.specs.FormedLaws.{live_found}
use Rattle.win32_spec.specs.Lookup.{process_of, memory_of, memory_by}
use Rattle.win32_spec.specs.State.{Win32State}
use Rattle.posix_spec.specs.Conditions.{with_results, answered}
use Rattle.posix_spec.specs.Run.{PosixStep}
use Rattle.posix_spec.specs.State.{Record, record_of}
use Rattle.layer_spec.specs.Evidence.{MainThread, StandsInPlace, ShowsEvent}
use Rattle.layer_spec.specs.History.{event_given}
use Rattle.layer_spec.specs.Moment.{Moment, Seen, HistoryStep, seen_with}
use Rattle.layer_spec.specs.Turns.{is_live_process}
use Rattle.world_spec.specs.AnswerLaws.{own-whole, own-bytes-after, own-turn}
use Rattle.world_spec.specs.AnswerLaws.{between-after}
use Rattle.world_spec.specs.AnswerLawsSteps.{result-shown, answered-is}
use Rattle.world_spec.specs.Calm.{IsCalm, is_plain_call}
use Rattle.world_spec.specs.DecodesLaws.{same_image}
use Rattle.world_spec.specs.Facts.{CarriesImage}
use Rattle.world_spec.specs.Notes.{IsBetweenCalls}
use Rattle.world_spec.specs.OwnChanges.{IsOwnChange, own-calm}
use Rattle.world_spec.specs.OwnChangesLaws.{IsNoKey}
use Rattle.world_spec.specs.OwnChangesRows.{own-holds}
use Rattle.world_spec.specs.Owes.{LivesOn, OwnTurn, KeepsTurn}
use Rattle.world_spec.specs.RowsBesideLaws.{IsOwnRow}
use Rattle.world_spec.specs.SeenStep.{turn_step}
use Rattle.world_spec.specs.Sound.{IsSoundMoment}
use Rattle.world_spec.specs.TurnLaws.{KeepsShown, quiet-turn, own_lives}

-- the part goes where it says, over the same bytes and without an event
pub record GoesQuietly {P : Type 0} (there : P) (old : Own) (q : P) (bytes : Own) (told : Option Event) : Type 0 where
  pub part : q ≡ there
  pub own : bytes ≡ old
  pub event : told ≡ None

-- the image took this result, and the part goes where it says with this event
pub record TakesResult {P : Type 0} (there : P) (old : Own) (r0 : ℤ) (e : Event) (q : P) (bytes : Own)
    (told : Option Event) : Type 0 where
  pub part : q ≡ there
  pub own : bytes ≡ with_image old (with_result (image_of old) r0 None)
  pub event : told ≡ Some e

pub same_shown : (old own : Own) → own ≡ old → KeepsShown old own
same_shown old own e = record {
  image = record { dat = ap (λ o. o.dat) e; heap = ap (λ o. o.heap) e; stack = ap (λ o. o.stack) e };
  cyg = ap (λ o. o.cyg) e;
}

-- an event that a process gives itself, in its main thread's place and with nothing to show beside it
pub record IsOwnEvent (script : Script) (p : ℕ) (told : Event) : Type 1 where
  pub no_key : IsNoKey told
  pub given : event_given told ≡ told
  pub shown : {A : Type 0} → (step : HistoryStep A) → StandsInPlace step (MainThread p) → ShowsEvent script step told

module _ {A P : Type 0} (posted_of : P → Call) (goes : P → Own → Setup → Reply → P → Own → After → Type 0)
    (thread_of_part : P → ℕ) (clause : List (Seen A) → Moment A → ℕ → P → Type 0) (script : Script)
    (past : List (Seen A)) (now : Moment A) (slot : ℕ) (part : P) (called : Call) (reply : Reply)
    (given : Option Event) (next : Option P) (new : Win32State) (sound : IsSoundMoment script past now)
    (turn : OwnTurn posted_of goes script now.win32 slot 0 part called reply given next new)
    (calm : IsCalm now.win32 turn.mid)
    (lives : (v : ℕ) → is_live_process now.win32 v ≡ true → is_live_process turn.mid v ≡ true)
    (plain : is_plain_call called ≡ true) where
  abbrev w : ℕ
  w = turn.process.number

  abbrev Result : Type 0
  Result = KeepsTurn posted_of goes thread_of_part clause script past now slot 0 w called reply given next new

  abbrev Lives : Type 0
  Lives = LivesOn posted_of goes script turn.mid w 0 part reply given next new

  abbrev stands_at : List (Seen A) → Moment A → Option P → Type 0
  stands_at later after o = MatchOption o (Unit {0}) (λ q. clause later after w q)

  change : IsOwnChange w now.win32 turn.mid
  change = own-calm w now.win32 turn.mid calm lives

  -- what is so after a turn that only goes on
  pub record GoesOnAfter (on : Lives) (after : Moment A) : Type 0 where
    pub change : IsOwnChange w now.win32 after.win32
    pub posix : after.posix ≡ now.posix
    pub bytes : memory_by after.win32 w ≡ on.own
    pub win32 : after.win32 ≡ new

  -- A part that only goes on: what is left to it is its clause.
  pub quiet-keeps : (there : P) (on : Lives)
      → GoesQuietly there (memory_by turn.mid w) on.part_after on.own on.answer.event
      → ((q : P) (bytes : Own) (answer : After) → goes part (memory_by turn.mid w) script.setup reply q bytes answer
      → KeepsShown (memory_by turn.mid w) bytes)
      → ((later : List (Seen A)) (after : Moment A) → GoesOnAfter on after → clause later after w there) → Result
  quiet-keeps there on quietly keeps stands = record {
    told = None;
    given_is = sym (on.told ∙ quietly.event);
    posix = now.posix;
    shows = quiet-turn posted_of goes script past now slot 0 part called reply given next new sound turn calm lives
        plain
        keeps;
    stands = λ parts.
        let after : Moment A = record { win32 = new; parts = parts; posix = now.posix } in
        let later = seen_with (turn_step past now after slot 0 called reply None) in
        let cyg = ap (λ o. o.cyg) quietly.own in
        subst (stands_at later after) (sym on.here)
        (subst (clause later after w) (sym quietly.part) (stands later after (record {
          change = own-whole posted_of goes script past now slot part called reply given next new sound turn change on
              cyg;
          posix = refl;
          bytes = own-bytes-after posted_of goes script past now slot part called reply given next new sound turn change
              on
              cyg;
          win32 = refl;
        })));
  }

  pub quiet-goes : (there : P) (on : Lives)
      → GoesQuietly there (memory_by turn.mid w) on.part_after on.own on.answer.event
      → ((q : P) (bytes : Own) (answer : After) → goes part (memory_by turn.mid w) script.setup reply q bytes answer
      → KeepsShown (memory_by turn.mid w) bytes)
      → ((later : List (Seen A)) (after : Moment A) → IsOwnChange w now.win32 after.win32 → after.posix ≡ now.posix
      → clause later after w there) → Result
  quiet-goes there on quietly keeps stands =
      quiet-keeps there on quietly keeps (λ later after so. stands later after so.change so.posix)

  module _ (row : ℕ) (own : IsOwnRow now.win32 w row) (unmarked : CarriesImage now.win32 row → ⊥) (old : Record)
      (found : record_of now.posix (row + 1) ≡ Some old) (there : P) (r0 : ℤ) (told : Event) (on : Lives)
      (takes : TakesResult there (memory_by turn.mid w) r0 told on.part_after on.own on.answer.event) where
    abbrev answered_at : Parts A → Moment A
    answered_at parts = record { win32 = new; parts = parts; posix = answered now.posix (row + 1) r0 }

    -- the image that the call found is the record's
    image_found : old.image ≡ image_of (memory_by turn.mid w)
    image_found =
        let live = own_lives posted_of goes script past now slot 0 part called reply given next new sound turn in
        let q = live_found (process_of turn.mid.processes w) (lives w live) in
        let p = calm.processes w q.0 q.1 q.2 in
        (own-holds script now.win32 now.posix w row old p.0 sound.decodes own found p.1 p.2).image
        ∙ (sym (same_image p.0.own q.0.own p.3.image) ∙ sym (ap (λ o. image_of (memory_of o)) q.1))

    whole : IsOwnChange w now.win32 new
    whole = own-whole posted_of goes script past now slot part called reply given next new sound turn change on
        (ap (λ o. o.cyg) takes.own)

    -- A call that has its result.
    pub answer-goes : PosixStep script now.posix told (answered now.posix (row + 1) r0)
        → IsOwnEvent script (row + 1) told
        → ((later : List (Seen A)) (after : Moment A) → IsBetweenCalls after w row → clause later after w there) →
        Result
    answer-goes stepped fits stands = record {
      told = Some told;
      given_is = ap (λ e. Some e) fits.given ∙ sym (on.told ∙ takes.event);
      posix = answered now.posix (row + 1) r0;
      shows = own-turn posted_of goes script past now slot part called reply given next new sound turn change on
          (ap (λ o. o.cyg) takes.own) row own plain old (with_results r0 None old) found (result-shown r0 old)
          (ap (λ i. with_result i r0 None) image_found ∙ sym (ap image_of takes.own)) told
          (answered now.posix (row + 1) r0) (answered-is now.posix (row + 1) r0 old found) stepped fits.no_key
          (λ parts. fits.shown (turn_step past now (answered_at parts) slot 0 called reply (Some told)));
      stands = λ parts.
          let later = seen_with (turn_step past now (answered_at parts) slot 0 called reply (Some told)) in
          subst (stands_at later (answered_at parts)) (sym on.here)
          (subst (clause later (answered_at parts) w) (sym takes.part) (stands later (answered_at parts)
          (between-after now (answered_at parts) w row (with_results r0 None old) whole own unmarked
          (answered-is now.posix (row + 1) r0 old found) refl refl)));
    }
