-- While a main thread has something to do, it knows itself, after each turn of its own too: one that has nothing to do
-- never has again.
use Rattle.std.proofs.Common.{◌≡◌, ℕ, Bool, true, false, List, Option, Some, None, MatchOption, refl, sym, ap, ◌∙◌}
use Rattle.std.proofs.Common.{subst}
use Rattle.w32_base.specs.declared.call.Call.{Call}
use Rattle.w32_base.specs.declared.call.Reply.{Reply}
use Rattle.w32_base.specs.declared.event.Event.{Event}
use Rattle.w32_base.specs.declared.own.Own.{Own}
use Rattle.w32_base.specs.declared.setup.Setup.{Setup}
use Rattle.script_spec.specs.declared.script.Script.{Script}
use Rattle.win32_spec.specs.CallEffects.{by_bool}
use Rattle.win32_spec.specs.Lookup.{process_of, is_live, memory_by}
use Rattle.win32_spec.specs.MemoryEffects.{HaveRegisters}
use Rattle.win32_spec.specs.State.{Win32State}
use Rattle.layer_spec.specs.Moment.{Moment, Seen}
use Rattle.kill_calls.specs.declared.one.KillOne.{KillOne}
use Rattle.kill_calls.specs.declared.one.KillStep.{KillStep}
use Rattle.kill_calls.specs.declared.one.KillStep.TheVariants as kill
use Rattle.world_spec.specs.Owes.{OwnTurn}
use Rattle.world_spec.specs.Sound.{IsSoundMoment}
use Rattle.layer_actor.specs.declared.actor.MainThread.{MainThread}
use Rattle.layer_actor.specs.declared.doing.Doing.{Doing}
use Rattle.layer_actor.specs.declared.doing.Doing.TheVariants as doing
use Rattle.layer_actor.specs.declared.gets.Gets.{Gets}
use Rattle.layer_actor.specs.declared.gets.GetStep.{GetStep}
use Rattle.layer_actor.specs.declared.gets.GetStep.TheVariants as get
use Rattle.layer_actor.specs.declared.identity.Identity.{Identity}
use Rattle.layer_actor.specs.declared.local.Local.{Local}
use Rattle.layer_actor.specs.declared.local.Local.TheVariants as local
use Rattle.layer_actor.specs.declared.start.Start.{Start}
use Rattle.layer_actor.specs.declared.start.StartStep.{StartStep}
use Rattle.layer_actor.specs.declared.start.StartStep.TheVariants as start
use Rattle.layer_actor.specs.Doing.{doing_after}
use Rattle.layer_actor.specs.KnowsTurn.{knows-turn}
use Rattle.layer_actor.specs.LookClause.{IsMainOf}
use Rattle.layer_actor.specs.MainClause.{start_works, local_works, get_works, kill_works, works, KnowsItself}
use Rattle.layer_actor.specs.MainGoes.{main_posted, MainGoes}

module _ (setup : Setup) (who : Identity) (own : Own) (r : Reply) where
  abbrev IsIdle : Doing → Type 0
  IsIdle d = works (doing_after setup who d own r).part ≡ false

  start_idle : (x : Start) (s : StartStep) → start_works s ≡ false → IsIdle (doing.Start (record x { step = s }))
  start_idle x start.Rest is = refl
  start_idle x s is = absurd (let never : true ≡ false = is in cc)

  local_idle : (x : Local) → local_works x ≡ false → IsIdle (doing.Local x)
  local_idle local.Rest is = refl
  local_idle x is = absurd (let never : true ≡ false = is in cc)

  get_idle : (x : Gets) (s : GetStep) → get_works s ≡ false → IsIdle (doing.Gets (record x { step = s }))
  get_idle x get.Rest is = refl
  get_idle x s is = absurd (let never : true ≡ false = is in cc)

  kill_idle : (x : KillOne) (s : KillStep) → kill_works s ≡ false → IsIdle (doing.Kill (record x { step = s }))
  kill_idle x kill.Rest is = refl
  kill_idle x s is = absurd (let never : true ≡ false = is in cc)

  stays_idle : (d : Doing) → works d ≡ false → IsIdle d
  stays_idle (doing.Start x) is = start_idle x x.step is
  stays_idle (doing.Look x) is = absurd (let never : true ≡ false = is in cc)
  stays_idle (doing.Local x) is = local_idle x is
  stays_idle (doing.Gets x) is = get_idle x x.step is
  stays_idle (doing.Kill x) is = kill_idle x x.step is
  stays_idle (doing.Exit x) is = refl
  stays_idle (doing.Idle x) is = refl

module _ {A : Type 0} (script : Script) (registers : HaveRegisters script) (past : List (Seen A)) (now : Moment A)
    (slot : ℕ) (x : MainThread) (called : Call) (reply : Reply) (given : Option Event) (next : Option MainThread)
    (new : Win32State) (sound : IsSoundMoment script past now)
    (turn : OwnTurn main_posted MainGoes script now.win32 slot 0 x called reply given next new) where
  abbrev w : ℕ
  w = turn.process.number

  -- The part after an own turn knows itself while it has something to do.
  pub main-knows : KnowsItself now.win32 w x → MatchOption next (Unit {0}) (KnowsItself new w)
  main-knows knows = by_works (works x.doing) refl
    where
      weaker : (o : Option MainThread) → MatchOption o (Unit {0}) (λ y. IsMainOf y.who new w)
          → MatchOption o (Unit {0}) (KnowsItself new w)
      weaker None h = tt
      weaker (Some y) h = λ is. h

      by_works : (b : Bool) → works x.doing ≡ b → MatchOption next (Unit {0}) (KnowsItself new w)
      by_works true is =
          weaker next (knows-turn script registers past now slot 0 x called reply given next new sound turn (knows is))
      by_works false is =
          by_bool (is_live (process_of turn.mid.processes w))
          (λ live on. subst (λ o. MatchOption o (Unit {0}) (KnowsItself new w)) (sym on.here) (λ goes_on.
          let still = ap (λ (y : MainThread). works y.doing) on.went.part
          ∙ stays_idle script.setup x.who (memory_by turn.mid w) reply x.doing is in
          let never : true ≡ false = sym goes_on ∙ still in absurd (cc)))
          (λ dead gone. subst (λ o. MatchOption o (Unit {0}) (KnowsItself new w)) (sym gone.2) tt) turn.goes_on
