-- The look and the block of local instructions, as steps of the main thread of a layer process: what is owed by the
-- whole comes of what they give.
use Rattle.std.proofs.Common.{◌≡◌, ℕ, List, Option, refl, sym, subst}
use Rattle.w32_base.specs.declared.call.Call.{Call}
use Rattle.w32_base.specs.declared.call.Reply.{Reply}
use Rattle.w32_base.specs.declared.event.Event.{Event}
use Rattle.script_spec.specs.declared.script.Script.{Script}
use Rattle.win32_spec.specs.MemoryEffects.{HaveRegisters}
use Rattle.win32_spec.specs.State.{Win32State}
use Rattle.layer_spec.specs.Moment.{Moment, Seen}
use Rattle.world_spec.specs.Notes.{IsBetweenCalls}
use Rattle.world_spec.specs.Owes.{OwnTurn, KeepsTurn}
use Rattle.world_spec.specs.PieceLaws.{RunsPiece}
use Rattle.world_spec.specs.Sound.{IsSoundMoment}
use Rattle.layer_actor.specs.declared.actor.MainThread.{MainThread}
use Rattle.layer_actor.specs.declared.doing.Doing.TheVariants as doing
use Rattle.layer_actor.specs.declared.identity.Identity.{Identity}
use Rattle.layer_actor.specs.declared.local.Local.{Local}
use Rattle.layer_actor.specs.declared.local.Local.TheVariants as local
use Rattle.layer_actor.specs.declared.look.Look.{Look}
use Rattle.layer_actor.specs.Doing.{looks, local_goes}
use Rattle.layer_actor.specs.Local.{local_posted, local_after}
use Rattle.layer_actor.specs.LocalClause.{LocalGoes, local_thread, LocalClause}
use Rattle.layer_actor.specs.LocalTurns.{local-keeps}
use Rattle.layer_actor.specs.LookClause.{IsMainOf, LookClause}
use Rattle.layer_actor.specs.LookFollows.{Follows}
use Rattle.layer_actor.specs.LookTurns.{look-turn}
use Rattle.layer_actor.specs.MainGoes.{main_posted, main_thread, does, MainGoes}

module _ {A : Type 0} (script : Script) (clause : List (Seen A) → Moment A → ℕ → MainThread → Type 0) where
  module _ (follows : (past : List (Seen A)) (after : Moment A) (w : ℕ) (who : Identity)
      → Follows script clause past after w who)
      (past : List (Seen A)) (now : Moment A) (slot : ℕ) (called : Call) (reply : Reply) (given : Option Event)
      (next : Option MainThread) (new : Win32State) (sound : IsSoundMoment script past now) (who : Identity) where
    abbrev Turn : (t : ℕ) → Look → Type 0
    Turn t x = OwnTurn main_posted MainGoes script now.win32 slot t (does who (doing.Look x)) called reply given next
        new

    abbrev Result : (t w : ℕ) → Type 0
    Result t w = KeepsTurn main_posted MainGoes main_thread clause script past now slot t w called reply given next new

    -- From the clause of the look its turn gives what the whole owes, where each part that may follow stands where its
    -- clause says.
    pub look-turns : (t : ℕ) (x : Look) → 0 ≡ t → (turn : Turn t x) → IsMainOf who now.win32 turn.process.number
        → LookClause who now turn.process.number x → Result t turn.process.number
    look-turns t x is turn main h =
        subst (λ u. (y : Turn u x) → IsMainOf who now.win32 y.process.number
        → IsBetweenCalls now y.process.number who.row → Result u y.process.number) is
        (subst (λ k. (y : Turn 0 (record { row = k })) → IsMainOf who now.win32 y.process.number
        → IsBetweenCalls now y.process.number who.row → Result 0 y.process.number) (sym h.row)
        (λ y known between. look-turn script clause follows past now slot who called reply given next new sound y known
        between)) turn main h.between

  -- The main thread stands at a block where its clause is the block's, and a look comes after it.
  pub local-piece : (registers : HaveRegisters script) (who : Identity) (x : Local)
      → ((past : List (Seen A)) (now : Moment A) (w : ℕ) (y : Local) → clause past now w (does who (doing.Local y))
      → LocalClause script who.row past now w y)
      → ((past : List (Seen A)) (now : Moment A) (w : ℕ) (y : Local) → LocalClause script who.row past now w y
      → clause past now w (does who (doing.Local y)))
      → ((past : List (Seen A)) (now : Moment A) (w : ℕ) → IsBetweenCalls now w who.row
      → clause past now w (does who (looks who)))
      → RunsPiece main_posted MainGoes main_thread clause local_posted LocalGoes local_thread
      (LocalClause script who.row) script (local-keeps script registers who.row) (does who (doing.Local x)) x
  local-piece registers who x says stands looking = record {
    posted = refl;
    thread = refl;
    clause_of = λ past now w h. says past now w x h;
    goes_on = λ old setup reply y new answer went. (
      (local_after x reply).part,
      answer,
      record { part = refl; own = went.own; event = went.event },
      refl,
      λ past now w h. subst (clause past now w) (sym went.part) (comes past now w (local_after x reply).part h),
    );
  }
    where
      comes : (past : List (Seen A)) (now : Moment A) (w : ℕ) (y : Local) → LocalClause script who.row past now w y
          → clause past now w (does who (local_goes who y))
      comes past now w local.Done h = looking past now w h
      comes past now w (local.Running row) h = stands past now w (local.Running row) h
      comes past now w local.Rest h = stands past now w local.Rest h
