-- Something that holds beside a part's clause, as what a thread always knows of its process: where it is kept in a turn
-- too, the turn gives what both owe.
use Rattle.std.proofs.Common.{ℕ, List, Option, Some, None, MatchOption}
use Rattle.w32_base.specs.declared.call.Call.{Call}
use Rattle.w32_base.specs.declared.call.Reply.{Reply}
use Rattle.w32_base.specs.declared.event.Event.{Event}
use Rattle.w32_base.specs.declared.own.Own.{Own}
use Rattle.w32_base.specs.declared.part.After.{After}
use Rattle.w32_base.specs.declared.setup.Setup.{Setup}
use Rattle.script_spec.specs.declared.script.Script.{Script}
use Rattle.win32_spec.specs.State.{Win32State}
use Rattle.layer_spec.specs.Moment.{Moment, Seen, seen_with}
use Rattle.world_spec.specs.Owes.{KeepsTurn}
use Rattle.world_spec.specs.SeenStep.{turn_step}

module _ {A P : Type 0} (posted_of : P → Call) (goes : P → Own → Setup → Reply → P → Own → After → Type 0)
    (thread_of_part : P → ℕ) (clause : List (Seen A) → Moment A → ℕ → P → Type 0) (script : Script)
    (kept : Win32State → ℕ → P → Type 0) where
  -- the clause, and what holds beside it of the state, the process and the part
  abbrev pub WithKept : List (Seen A) → Moment A → ℕ → P → Type 0
  WithKept past now w p = kept now.win32 w p × clause past now w p

  pub kept-turn : (past : List (Seen A)) (now : Moment A) (slot t w : ℕ) (called : Call) (reply : Reply)
      (given : Option Event) (next : Option P) (new : Win32State)
      → MatchOption next (Unit {0}) (kept new w)
      → KeepsTurn posted_of goes thread_of_part clause script past now slot t w called reply given next new
      → KeepsTurn posted_of goes thread_of_part WithKept script past now slot t w called reply given next new
  kept-turn past now slot t w called reply given next new holds turn = record {
    told = turn.told;
    given_is = turn.given_is;
    posix = turn.posix;
    shows = turn.shows;
    stands = λ parts.
        let after : Moment A = record { win32 = new; parts = parts; posix = turn.posix } in
        both (seen_with (turn_step past now after slot t called reply turn.told)) after next holds (turn.stands parts);
  }
    where
      both : (later : List (Seen A)) (after : Moment A) (o : Option P) → MatchOption o (Unit {0}) (kept after.win32 w)
          → MatchOption o (Unit {0}) (clause later after w) → MatchOption o (Unit {0}) (WithKept later after w)
      both later after None x y = tt
      both later after (Some p) x y = (x, y)
