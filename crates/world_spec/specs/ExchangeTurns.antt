-- A turn of a part whose call leaves all processes as they are, and that leaves its own image and cygheap alone: its
-- process lives on, and all processes are calm.
use Rattle.std.proofs.Common.{◌≡◌, ℕ, true, false, List, Option, sym, ap, ◌∙◌, subst}
use Rattle.w32_base.specs.declared.call.Call.{Call}
use Rattle.w32_base.specs.declared.call.Reply.{Reply}
use Rattle.w32_base.specs.declared.event.Event.{Event}
use Rattle.w32_base.specs.declared.own.Own.{Own}
use Rattle.w32_base.specs.declared.part.After.{After}
use Rattle.w32_base.specs.declared.setup.Setup.{Setup}
use Rattle.script_spec.specs.declared.script.Script.{Script}
use Rattle.win32_spec.specs.CallEffects.{by_bool}
use Rattle.win32_spec.specs.Lookup.{process_of, is_live, memory_by, terminal_in}
use Rattle.win32_spec.specs.State.{Win32State}
use Rattle.layer_spec.specs.Moment.{Moment, Seen}
use Rattle.layer_spec.specs.Turns.{is_live_process}
use Rattle.layer_spec.specs.Words.{word_in}
use Rattle.world_spec.specs.Calm.{IsCalm, AreCalm}
use Rattle.world_spec.specs.CalmSteps.{calm-acts}
use Rattle.world_spec.specs.ExchangeLaws.{KeepsRest}
use Rattle.world_spec.specs.Owes.{LivesOn, OwnTurn}
use Rattle.world_spec.specs.Sound.{IsSoundMoment}
use Rattle.world_spec.specs.TurnLaws.{KeepsShown, live-acts, own_lives}

module _ {A P : Type 0} (posted_of : P → Call) (goes : P → Own → Setup → Reply → P → Own → After → Type 0)
    (script : Script) (past : List (Seen A)) (now : Moment A) (slot t : ℕ) (part : P) (called : Call) (reply : Reply)
    (given : Option Event) (next : Option P) (new : Win32State) (sound : IsSoundMoment script past now)
    (turn : OwnTurn posted_of goes script now.win32 slot t part called reply given next new)
    (rest : KeepsRest now.win32 turn.mid) where
  abbrev w : ℕ
  w = turn.process.number

  mid_lives : (v : ℕ) → is_live_process now.win32 v ≡ true → is_live_process turn.mid v ≡ true
  mid_lives v live = ap (λ ps. is_live (process_of ps v)) rest.processes ∙ live

  pub turn-on : LivesOn posted_of goes script turn.mid w t part reply given next new
  turn-on = by_bool (is_live (process_of turn.mid.processes w)) (λ live m. m)
      (λ dead m. absurd (
      let live = own_lives posted_of goes script past now slot t part called reply given next new sound turn in
      let e : true ≡ false = sym (mid_lives w live) ∙ dead in cc)) turn.goes_on

  pub turn-still : (v : ℕ) → is_live_process now.win32 v ≡ true → is_live_process new v ≡ true
  turn-still v live =
      ap (λ s. is_live_process s v) turn-on.after ∙ live-acts turn.mid w t turn-on.own turn-on.posts v
      (mid_lives v live)

  module _ (keeps : (q : P) (own : Own) (answer : After) → goes part
      (memory_by turn.mid w) script.setup reply q own answer
      → KeepsShown (memory_by turn.mid w) own) where
    turn-acts : IsCalm turn.mid new
    turn-acts =
        let kept = keeps turn-on.part_after turn-on.own turn-on.answer turn-on.went in
        subst (IsCalm turn.mid) (sym turn-on.after)
        (calm-acts turn.mid w t turn-on.own turn-on.posts kept.image kept.cyg)

    -- after the turn the words are those after its call
    pub turn-words : (i : ℕ) → word_in new i ≡ word_in turn.mid i
    turn-words i = turn-acts.words i

    pub turn-terminal : terminal_in new.objects ≡ terminal_in now.win32.objects
    turn-terminal = turn-acts.terminal ∙ rest.terminal

    pub turn-calm : AreCalm now.win32 new
    turn-calm v q f alive =
        let at = turn-acts.processes v q f alive in
        (at.0, ap (λ ps. process_of ps v) (sym rest.processes) ∙ at.1, at.2, at.3)
