-- The turn of a part of a main thread with an own event shows all that is to show of it, where its call changes
-- nothing that is shown but the own image, and the cygheap stays.
use Rattle.std.proofs.Common.{◌≡◌, inl, inr, ℕ, ◌+◌, true, false, List, Option, Some, refl, sym, ap}
use Rattle.std.proofs.Common.{◌∙◌, subst}
use Rattle.w32_base.specs.declared.call.Call.{Call}
use Rattle.w32_base.specs.declared.call.Reply.{Reply}
use Rattle.w32_base.specs.declared.event.Event.{Event}
use Rattle.w32_base.specs.declared.own.Own.{Own}
use Rattle.w32_base.specs.declared.part.After.{After}
use Rattle.w32_base.specs.declared.setup.Setup.{Setup}
use Rattle.script_spec.specs.declared.script.Script.{Script}
use Rattle.vm_spec.specs.Image.{image_of}
use Rattle.win32_spec.specs.CallEffects.{by_bool}
use Rattle.win32_spec.specs.Driven.{Parts}
use Rattle.win32_spec.specs.FormedLaws.{live_found}
use Rattle.win32_spec.specs.Lookup.{process_of, is_live, change_process, change_thread, memory_of, memory_by}
use Rattle.win32_spec.specs.Lookup.{number_of, with_own, with_posted}
use Rattle.win32_spec.specs.LookupLaws.{changed_process}
use Rattle.win32_spec.specs.State.{Process, Win32State}
use Rattle.posix_spec.specs.Records.{settled, with_record}
use Rattle.posix_spec.specs.Run.{PosixStep}
use Rattle.posix_spec.specs.State.{Record, NoCall, PosixState, record_of}
use Rattle.layer_spec.specs.Decoding.{main_image, exit_of}
use Rattle.layer_spec.specs.Evidence.{MainThread, StandsInPlace, ShowsEvent}
use Rattle.layer_spec.specs.Moment.{Moment, Seen}
use Rattle.layer_spec.specs.Rows.{main_place, exit_place}
use Rattle.layer_spec.specs.Words.{main_at, exit_at}
use Rattle.roster.specs.Words.{is_live_word}
use Rattle.world_spec.specs.Calm.{is_plain_call}
use Rattle.world_spec.specs.Facts.{CarriesImage}
use Rattle.world_spec.specs.Notes.{IsBetweenCalls}
use Rattle.world_spec.specs.OwnChanges.{IsOwnChange, own-then, own-acts}
use Rattle.world_spec.specs.OwnChangesLaws.{IsNoKey, own-shows}
use Rattle.world_spec.specs.OwnChangesRows.{KeepsShownRecord, record_of-written}
use Rattle.world_spec.specs.Owes.{LivesOn, OwnTurn}
use Rattle.world_spec.specs.RowsBesideLaws.{IsOwnRow}
use Rattle.world_spec.specs.SeenStep.{ShowsStep, turn_step}
use Rattle.world_spec.specs.Sound.{IsSoundMoment}
use Rattle.world_spec.specs.TurnLaws.{own_lives}

-- the bytes with which a thread goes on are its process's
acted_own : (mid : Win32State) (w t : ℕ) (own : Own) (next : Call) (q : Process)
    → process_of (with_posted (with_own mid w own) w t next).processes w ≡ Some q → q.own ≡ own
acted_own mid w t own next q e =
    elim (changed_process w (λ x. record x { threads = change_thread t (λ y. record y { posted = next }) x.threads })
    (λ x. refl) (change_process w (λ x. record x { own = own }) mid.processes) w q e) [
      | inl other ↦ absurd (other.0 refl)
      | inr this ↦ elim (changed_process w (λ x. record x { own = own }) (λ x. refl) mid.processes w this.1 this.2) [
        | inl that ↦ absurd (that.0 refl)
        | inr that ↦ ap (λ (x : Process). x.own) this.3 ∙ ap (λ (x : Process). x.own) that.3
      ]
    ]

-- The own row stays its own where its words stay.
pub own-row-kept : (s new : Win32State) (w row : ℕ) → IsOwnChange w s new → IsOwnRow s w row → IsOwnRow new w row
own-row-kept s new w row change own = record {
  from = own.from;
  live = ap is_live_word (change.words (main_place row)) ∙ own.live;
  image = ap main_image (change.words (main_place row)) ∙ own.image;
}

-- An exit word that doesn't carry the image of its row doesn't carry it where that word and the main word stay,
pub unmarked-kept : (s new : Win32State) (row : ℕ) → exit_at new row ≡ exit_at s row → main_at new row ≡ main_at s row
    → (CarriesImage s row → ⊥) → CarriesImage new row → ⊥
unmarked-kept s new row exit main unmarked carries = unmarked (record {
  word = carries.word;
  decodes = ap exit_of (sym exit) ∙ carries.decodes;
  image = carries.image ∙ ap main_image main;
})

-- as they do in a change that a process makes of itself.
pub own-unmarked : (s new : Win32State) (w row : ℕ) → IsOwnChange w s new → (CarriesImage s row → ⊥)
    → CarriesImage new row → ⊥
own-unmarked s new w row change =
    unmarked-kept s new row (change.words (exit_place row)) (change.words (main_place row))

-- After an own event that ends a call, or that stands outside one, the main thread is between two calls.
pub between-after : {A : Type 0} → (now after : Moment A) (w row : ℕ) (changed : Record)
    → IsOwnChange w now.win32 after.win32 → IsOwnRow now.win32 w row → (CarriesImage now.win32 row → ⊥)
    → after.posix ≡ with_record now.posix (row + 1) changed → changed.call ≡ NoCall → changed.blocked ≡ false
    → IsBetweenCalls after w row
between-after now after w row changed change own unmarked posix call blocked = record {
  own = own-row-kept now.win32 after.win32 w row change own;
  noted = settled changed;
  found = ap (λ p. record_of p (row + 1)) posix ∙ record_of-written now.posix (row + 1) changed;
  call = call;
  blocked = blocked;
  unmarked = own-unmarked now.win32 after.win32 w row change unmarked;
}

module _ {A P : Type 0} (posted_of : P → Call) (goes : P → Own → Setup → Reply → P → Own → After → Type 0)
    (script : Script) (past : List (Seen A)) (now : Moment A) (slot : ℕ) (part : P) (called : Call) (reply : Reply)
    (given : Option Event) (next : Option P) (new : Win32State) (sound : IsSoundMoment script past now)
    (turn : OwnTurn posted_of goes script now.win32 slot 0 part called reply given next new)
    (change : IsOwnChange turn.process.number now.win32 turn.mid) where
  abbrev w : ℕ
  w = turn.process.number

  -- Its process lives on.
  pub own-goes-on : LivesOn posted_of goes script turn.mid w 0 part reply given next new
  own-goes-on =
      by_bool (is_live (process_of turn.mid.processes w)) (λ live m. m)
      (λ dead m. absurd (
      let live = own_lives posted_of goes script past now slot 0 part called reply given next new sound turn in
      let e : true ≡ false = sym (change.lives w live) ∙ dead in cc)) turn.goes_on

  module _ (on : LivesOn posted_of goes script turn.mid w 0 part reply given next new)
      (cyg : on.own.cyg ≡ (memory_by turn.mid w).cyg) where
    -- The turn as a whole is a change of the own image.
    pub own-whole : IsOwnChange w now.win32 new
    own-whole =
        own-then w now.win32 turn.mid new change
        (subst (IsOwnChange w turn.mid) (sym on.after) (own-acts turn.mid w 0 on.own on.posts cyg))

    -- The bytes with which it goes on are its process's.
    pub own-bytes-after : memory_by new w ≡ on.own
    own-bytes-after =
        let live = own_lives posted_of goes script past now slot 0 part called reply given next new sound turn in
        let q = live_found (process_of new.processes w) (own-whole.lives w live) in
        ap memory_of q.1 ∙ acted_own turn.mid w 0 on.own on.posts q.0
        (ap (λ s. process_of s.processes w) (sym on.after) ∙ q.1)

    pub own-turn : (row : ℕ) → IsOwnRow now.win32 w row → is_plain_call called ≡ true → (old changed : Record) →
        record_of now.posix (row + 1) ≡ Some old
        → KeepsShownRecord old changed → changed.image ≡ image_of on.own → (told : Event) (posix : PosixState)
        → posix ≡ with_record now.posix (row + 1) changed → PosixStep script now.posix told posix → IsNoKey told
        → ((parts : Parts A)
        → StandsInPlace (turn_step past now (record { win32 = new; parts = parts; posix = posix }) slot 0 called reply
        (Some told)) (MainThread (row + 1))
        → ShowsEvent script (turn_step past now (record { win32 = new; parts = parts; posix = posix }) slot 0 called
        reply
        (Some told)) told)
        → (parts : Parts A)
        → ShowsStep script (turn_step past now (record { win32 = new; parts = parts; posix = posix }) slot 0 called
        reply
        (Some told))
    own-turn row own plain old changed found keeps image told posix is stepped no_key shown parts =
        own-shows script past now (record { win32 = new; parts = parts; posix = posix }) slot w row called reply told
        sound
        (ap number_of turn.posted.thread.process) own own-whole plain old changed found keeps
        (λ q at alive. image ∙ sym (ap image_of (acted_own turn.mid w 0 on.own on.posts q
        (ap (λ s. process_of s.processes w) (sym on.after) ∙ at)))) is stepped no_key (shown parts)
