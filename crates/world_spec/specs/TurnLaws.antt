-- A turn without an event whose call and whose change of own bytes are calm shows all that is to show of it. So a part
-- that looks, waits, or fills its scratch is left with its own clause.
use Rattle.std.proofs.Common.{◌≡◌, inl, inr, ℕ, true, false, List, Option, None, refl, sym, ap}
use Rattle.std.proofs.Common.{◌∙◌, subst}
use Rattle.std.proofs.lemmas.Bool.{cases_eq}
use Rattle.w32_base.specs.Part.{KeepsImage}
use Rattle.w32_base.specs.declared.call.Call.{Call}
use Rattle.w32_base.specs.declared.call.Reply.{Reply}
use Rattle.w32_base.specs.declared.entry.Directive.TheVariants as directive
use Rattle.w32_base.specs.declared.event.Event.{Event}
use Rattle.w32_base.specs.declared.own.Own.{Own}
use Rattle.w32_base.specs.declared.part.After.{After}
use Rattle.w32_base.specs.declared.setup.Setup.{Setup}
use Rattle.script_spec.specs.declared.script.Script.{Script}
use Rattle.win32_spec.specs.State.{Process, Win32State}
use Rattle.win32_spec.specs.Lookup.{process_of, is_live, change_process, change_thread, memory_by, with_own}
use Rattle.win32_spec.specs.Lookup.{with_posted}
use Rattle.win32_spec.specs.Driven.{Parts}
use Rattle.win32_spec.specs.LookupLaws.{process_of-change_same, process_of-change_other, process_in-found}
use Rattle.win32_spec.specs.FormedLaws.{live_found, found_live}
use Rattle.win32_spec.specs.CallEffects.{by_bool}
use Rattle.layer_spec.specs.Moment.{Moment, Seen}
use Rattle.layer_spec.specs.Turns.{is_live_process}
use Rattle.world_spec.specs.SeenStep.{ShowsStep, turn_step}
use Rattle.world_spec.specs.Sound.{IsSoundMoment}
use Rattle.world_spec.specs.Owes.{LivesOn, OwnTurn}
use Rattle.world_spec.specs.Calm.{IsCalm, is_plain_call}
use Rattle.world_spec.specs.CalmLaws.{steady-shows}
use Rattle.world_spec.specs.CalmSteps.{calm-acts}
use Rattle.world_spec.specs.Steady.{IsSteady, calm-steady, steady-then}

-- whoever is alive after a call is alive after what the thread does then
pub live-acts : (mid : Win32State) (w t : ℕ) (own : Own) (next : Call) (v : ℕ) → is_live_process mid v ≡ true
    → is_live_process (with_posted (with_own mid w own) w t next) v ≡ true
live-acts mid w t own next v live = elim (cases_eq v w) [
  | inl n ↦
      let r = live_found (process_of mid.processes w) (ap (is_live_process mid) (sym n) ∙ live) in
      let q : Process = record r.0
      { own = own; threads = change_thread t (λ x. record x { posted = next }) r.0.threads } in
      ap (is_live_process (with_posted (with_own mid w own) w t next)) n
      ∙ found_live (process_of (with_posted (with_own mid w own) w t next).processes w) q
      (process_of-change_same w
      (λ x. record x { threads = change_thread t (λ y. record y { posted = next }) x.threads }) (λ x. refl)
      (change_process w (λ x. record x { own = own }) mid.processes) (record r.0 { own = own })
      (process_of-change_same w (λ x. record x { own = own }) (λ x. refl) mid.processes r.0 r.1)) r.2
  | inr d ↦ ap is_live
      (process_of-change_other w
      (λ x. record x { threads = change_thread t (λ y. record y { posted = next }) x.threads }) (λ x. refl)
      (change_process w (λ x. record x { own = own }) mid.processes) v d
      ∙ process_of-change_other w (λ x. record x { own = own }) (λ x. refl) mid.processes v d)
      ∙ live
]

-- The change of own bytes leaves image and cygheap alone.
pub record KeepsShown (old new : Own) : Type 0 where
  pub image : KeepsImage old new
  pub cyg : new.cyg ≡ old.cyg

module _ {A P : Type 0} (posted_of : P → Call) (goes : P → Own → Setup → Reply → P → Own → After → Type 0)
    (script : Script) (past : List (Seen A)) (now : Moment A) (slot t : ℕ) (part : P) (called : Call) (reply : Reply)
    (given : Option Event) (next : Option P) (new : Win32State) (sound : IsSoundMoment script past now)
    (turn : OwnTurn posted_of goes script now.win32 slot t part called reply given next new) where
  -- the process whose turn it is was alive
  pub own_lives : is_live_process now.win32 turn.process.number ≡ true
  own_lives =
      let x = process_in-found 1 now.win32.next now.win32.processes slot turn.process sound.formed.formed.processes
      turn.posted.thread.process in
      found_live (process_of now.win32.processes turn.process.number) turn.process x.0 x.1

  module _ (lives : (v : ℕ) → is_live_process now.win32 v ≡ true → is_live_process turn.mid v ≡ true) where
    -- Where nobody ends, its process lives on.
    pub goes-on : LivesOn posted_of goes script turn.mid turn.process.number t part reply given next new
    goes-on =
        by_bool (is_live (process_of turn.mid.processes turn.process.number)) (λ live m. m)
        (λ dead m. absurd (let e : true ≡ false = sym (lives turn.process.number own_lives) ∙ dead in cc)) turn.goes_on

    -- The same where the call makes a steady change.
    pub steady-turn : IsSteady past now.win32 (directive.Turn slot t) turn.mid → is_plain_call called ≡ true
        → ((q : P) (own : Own) (answer : After)
        → goes part (memory_by turn.mid turn.process.number) script.setup reply q own answer
        → KeepsShown (memory_by turn.mid turn.process.number) own)
        → (parts : Parts A)
        → ShowsStep script
        (turn_step past now (record { win32 = new; parts = parts; posix = now.posix }) slot t called reply None)
    steady-turn steady plain keeps parts =
        let on = goes-on in
        let kept = keeps on.part_after on.own on.answer on.went in
        let acts = calm-acts turn.mid turn.process.number t on.own on.posts kept.image kept.cyg in
        let still : (v : ℕ) → is_live_process now.win32 v ≡ true → is_live_process new v ≡ true =
        λ v live. ap (λ n. is_live_process n v) on.after
        ∙ live-acts turn.mid turn.process.number t on.own on.posts v (lives v live) in
        steady-shows script
        (turn_step past now (record { win32 = new; parts = parts; posix = now.posix }) slot t called reply None)
        (steady-then past now.win32 (directive.Turn slot t) turn.mid new steady
        (subst (IsCalm turn.mid) (sym on.after) acts)) refl refl plain
        (λ no_end v live. still v live) (λ live. still 1 live) sound.decodes

  module _ (calm : IsCalm now.win32 turn.mid)
      (lives : (v : ℕ) → is_live_process now.win32 v ≡ true → is_live_process turn.mid v ≡ true)
      (plain : is_plain_call called ≡ true) where
    pub quiet-lives : LivesOn posted_of goes script turn.mid turn.process.number t part reply given next new
    quiet-lives = goes-on lives

    pub quiet-turn : ((q : P) (own : Own) (answer : After)
        → goes part (memory_by turn.mid turn.process.number) script.setup reply q own answer
        → KeepsShown (memory_by turn.mid turn.process.number) own)
        → (parts : Parts A)
        → ShowsStep script
        (turn_step past now (record { win32 = new; parts = parts; posix = now.posix }) slot t called reply None)
    quiet-turn = steady-turn lives (calm-steady past now.win32 (directive.Turn slot t) turn.mid calm) plain
