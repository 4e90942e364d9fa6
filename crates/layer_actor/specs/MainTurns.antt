-- The main thread of a layer process gives what it owes: each turn by the piece at which it stands.
use Rattle.std.proofs.Common.{◌≡◌, ℕ, true, List, Option, refl, subst}
use Rattle.w32_base.specs.declared.call.Call.{Call}
use Rattle.w32_base.specs.declared.call.Reply.{Reply}
use Rattle.w32_base.specs.declared.event.Event.{Event}
use Rattle.script_spec.specs.declared.script.Script.{Script}
use Rattle.script_spec.specs.Validity.{IsValid}
use Rattle.win32_spec.specs.Call.{CallStep}
use Rattle.win32_spec.specs.State.{Win32State}
use Rattle.win32_spec.specs.ValidLaws.{registers-valid}
use Rattle.layer_spec.specs.Moment.{Moment, Seen}
use Rattle.kill_calls.specs.Kill.{kill_posted}
use Rattle.kill_calls.specs.KillClause.{KillClause}
use Rattle.kill_calls.specs.KillKeeps.{kill-keeps}
use Rattle.kill_calls.specs.KillTurns.{KillGoes, kill_thread}
use Rattle.child_watch.specs.Exiting.{exit_posted}
use Rattle.child_watch.specs.ExitClause.{ExitClause}
use Rattle.child_watch.specs.ExitHolds.{exit-keeps}
use Rattle.child_watch.specs.ExitTurns.{ExitGoes, exit_thread}
use Rattle.world_spec.specs.KeptLaws.{kept-turn}
use Rattle.world_spec.specs.Owes.{OwnTurn, KeepsTurn, KeepsClause}
use Rattle.world_spec.specs.PieceLaws.{piece-turn}
use Rattle.world_spec.specs.Sound.{IsSoundMoment, HasSpare}
use Rattle.layer_actor.specs.declared.actor.MainThread.{MainThread}
use Rattle.layer_actor.specs.declared.doing.Doing.{Doing}
use Rattle.layer_actor.specs.declared.doing.Doing.TheVariants as doing
use Rattle.layer_actor.specs.declared.identity.Identity.{Identity}
use Rattle.layer_actor.specs.declared.idle.Idle.{Idle}
use Rattle.layer_actor.specs.declared.idle.Idle.TheVariants as idle
use Rattle.layer_actor.specs.Gets.{get_posted}
use Rattle.layer_actor.specs.GetsClause.{GetsGoes, gets_thread, GetsClause}
use Rattle.layer_actor.specs.GetsTurns.{gets-keeps}
use Rattle.layer_actor.specs.Local.{local_posted}
use Rattle.layer_actor.specs.LocalClause.{LocalGoes, local_thread, LocalClause}
use Rattle.layer_actor.specs.LocalTurns.{local-keeps}
use Rattle.layer_actor.specs.Built.{is_built}
use Rattle.layer_actor.specs.LookWhole.{look-turns}
use Rattle.layer_actor.specs.MainClause.{PieceClause, StandsAtPiece, KnowsItself, MainClause, main-outlasts}
use Rattle.layer_actor.specs.MainFollows.{main-follows}
use Rattle.layer_actor.specs.MainGoes.{main_posted, main_thread, does, MainGoes}
use Rattle.layer_actor.specs.MainKnows.{main-knows}
use Rattle.layer_actor.specs.MainPieces.{start-piece, block-piece, gets-piece, kill-piece, exit-piece}
use Rattle.layer_actor.specs.Start.{start_posted}
use Rattle.layer_actor.specs.StartClause.{StartGoes, start_thread, StartClause}
use Rattle.layer_actor.specs.StartHolds.{NoneMade, none-made, start-keeps}

module _ {A : Type 0} (script : Script) (valid : IsValid script) (built : is_built script ≡ true) where
  module _ (past : List (Seen A)) (now : Moment A) (slot t : ℕ) (called : Call) (reply : Reply) (given : Option Event)
      (next : Option MainThread) (new : Win32State) (sound : IsSoundMoment script past now)
      (spare : HasSpare script past) (same : 0 ≡ t) where
    abbrev Turn : Identity → Doing → Type 0
    Turn who d = OwnTurn main_posted MainGoes script now.win32 slot t (does who d) called reply given next new

    abbrev Result : (w : ℕ) → Type 0
    Result w = KeepsTurn main_posted MainGoes main_thread (StandsAtPiece script) script past now slot t w called reply
        given next new

    by_doing : (who : Identity) (d : Doing) (turn : Turn who d) → KnowsItself now.win32 turn.process.number (does who d)
        → PieceClause script who past now turn.process.number d → Result turn.process.number
    by_doing who (doing.Start x) turn knows h =
        piece-turn main_posted MainGoes main_thread (StandsAtPiece script) start_posted StartGoes start_thread
        (StartClause NoneMade who.row) script
        (start-keeps script (registers-valid script valid) NoneMade (none-made script) who.row)
        past now slot t (does who (doing.Start x)) x called reply given next new sound spare same
        (start-piece script who (registers-valid script valid) x) turn h
    by_doing who (doing.Look x) turn knows h =
        look-turns script (StandsAtPiece script) (main-follows script built) past now slot called reply given next new
        sound who t x same turn (knows refl) h
    by_doing who (doing.Local x) turn knows h =
        piece-turn main_posted MainGoes main_thread (StandsAtPiece script) local_posted LocalGoes local_thread
        (LocalClause script who.row) script (local-keeps script (registers-valid script valid) who.row)
        past now slot t (does who (doing.Local x)) x called reply given next new sound spare same
        (block-piece script who (registers-valid script valid) x) turn h
    by_doing who (doing.Gets x) turn knows h =
        piece-turn main_posted MainGoes main_thread (StandsAtPiece script) get_posted GetsGoes gets_thread
        (GetsClause script who.row) script (gets-keeps script who.row valid)
        past now slot t (does who (doing.Gets x)) x called reply given next new sound spare same
        (gets-piece script who valid x) turn h
    by_doing who (doing.Kill x) turn knows h =
        piece-turn main_posted MainGoes main_thread (StandsAtPiece script) kill_posted KillGoes kill_thread
        (KillClause script) script (kill-keeps script (registers-valid script valid))
        past now slot t (does who (doing.Kill x)) x called reply given next new sound spare same
        (kill-piece script who (registers-valid script valid) x h.0) turn h
    by_doing who (doing.Exit x) turn knows h =
        piece-turn main_posted MainGoes main_thread (StandsAtPiece script) exit_posted ExitGoes exit_thread
        (ExitClause script) script (exit-keeps script (registers-valid script valid))
        past now slot t (does who (doing.Exit x)) x called reply given next new sound spare same
        (exit-piece script who (registers-valid script valid) x) turn h
    by_doing who (doing.Idle x) turn knows h =
        by_idle x h turn
      where
        -- a wait for nothing is never carried out
        by_idle : (y : Idle) → y ≡ idle.Resting → (u : Turn who (doing.Idle y)) → Result u.process.number
        by_idle idle.Resting is u = absurd
            (subst (λ c. CallStep script now.win32 u.process.number t c reply u.mid) u.own_call u.posted.step)
        by_idle idle.Opening is u = absurd (let never : idle.Opening ≡ idle.Resting = is in cc)

  main_turns : (past : List (Seen A)) (now : Moment A) (slot t : ℕ) (x : MainThread) (called : Call) (reply : Reply)
      (given : Option Event) (next : Option MainThread) (new : Win32State) → IsSoundMoment script past now
      → HasSpare script past → 0 ≡ t
      → (turn : OwnTurn main_posted MainGoes script now.win32 slot t x called reply given next new)
      → MainClause script past now turn.process.number x
      → KeepsTurn main_posted MainGoes main_thread (MainClause script) script past now slot t turn.process.number called
      reply given next new
  main_turns past now slot t x called reply given next new sound spare same =
      subst (λ u. (turn : OwnTurn main_posted MainGoes script now.win32 slot u x called reply given next new)
      → MainClause script past now turn.process.number x
      → KeepsTurn main_posted MainGoes main_thread (MainClause script) script past now slot u turn.process.number called
      reply given next new) same
      (λ turn h. kept-turn main_posted MainGoes main_thread (StandsAtPiece script) script KnowsItself past now slot 0
      turn.process.number called reply given next new
      (main-knows script (registers-valid script valid) past now slot x called reply given next new sound turn h.0)
      (by_doing past now slot 0 called reply given next new sound spare refl x.who x.doing turn h.0 h.1))

  -- The main thread gives what it owes.
  pub main-keeps : KeepsClause {A = A} main_posted MainGoes main_thread (MainClause script) script
  main-keeps = record {
    outlasts = λ step seen w x beside before after h.
        main-outlasts script (registers-valid script valid) step seen w beside before after x h;
    turns = λ past now slot t x called reply given next new sound spare same turn h.
        main_turns past now slot t x called reply given next new sound spare same turn h;
  }
