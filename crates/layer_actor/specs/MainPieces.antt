-- Each piece of the main thread of a layer process, as a piece of the whole: it stands at the piece where its clause is
-- the piece's, and behind a piece that is done comes the next look.
use Rattle.std.proofs.Common.{◌≡◌, ℕ, List, refl, sym, subst}
use Rattle.script_spec.specs.declared.script.Script.{Script}
use Rattle.script_spec.specs.Validity.{IsValid}
use Rattle.win32_spec.specs.MemoryEffects.{HaveRegisters}
use Rattle.layer_spec.specs.Moment.{Moment, Seen}
use Rattle.kill_calls.specs.declared.one.KillOne.{KillOne}
use Rattle.kill_calls.specs.declared.one.KillStep.{KillStep}
use Rattle.kill_calls.specs.declared.one.KillStep.TheVariants as kill
use Rattle.kill_calls.specs.Kill.{kill_posted, kill_after}
use Rattle.kill_calls.specs.KillClause.{own_row, KillStepClause, KillClause}
use Rattle.kill_calls.specs.KillKeeps.{kill-keeps}
use Rattle.kill_calls.specs.KillTurns.{KillGoes, kill_thread}
use Rattle.child_watch.specs.declared.exiting.Exiting.{Exiting}
use Rattle.child_watch.specs.Exiting.{exit_posted, exit_after}
use Rattle.child_watch.specs.ExitClause.{ExitClause}
use Rattle.child_watch.specs.ExitHolds.{exit-keeps}
use Rattle.child_watch.specs.ExitTurns.{ExitGoes, exit_thread}
use Rattle.world_spec.specs.Notes.{IsBetweenCalls}
use Rattle.world_spec.specs.PieceLaws.{RunsPiece}
use Rattle.layer_actor.specs.declared.doing.Doing.TheVariants as doing
use Rattle.layer_actor.specs.declared.gets.GetStep.{GetStep}
use Rattle.layer_actor.specs.declared.gets.GetStep.TheVariants as get
use Rattle.layer_actor.specs.declared.gets.Gets.{Gets}
use Rattle.layer_actor.specs.declared.identity.Identity.{Identity}
use Rattle.layer_actor.specs.declared.local.Local.{Local}
use Rattle.layer_actor.specs.declared.start.Start.{Start}
use Rattle.layer_actor.specs.declared.start.StartStep.{StartStep}
use Rattle.layer_actor.specs.declared.start.StartStep.TheVariants as start
use Rattle.layer_actor.specs.Doing.{looks, start_goes, get_goes, kill_goes}
use Rattle.layer_actor.specs.Gets.{get_posted, get_after}
use Rattle.layer_actor.specs.GetsClause.{GetsGoes, gets_thread, GetClause, GetsClause}
use Rattle.layer_actor.specs.GetsTurns.{gets-keeps}
use Rattle.layer_actor.specs.Local.{local_posted}
use Rattle.layer_actor.specs.LocalClause.{LocalGoes, local_thread, LocalClause}
use Rattle.layer_actor.specs.LocalTurns.{local-keeps}
use Rattle.layer_actor.specs.LookWhole.{local-piece}
use Rattle.layer_actor.specs.MainClause.{StandsAtPiece}
use Rattle.layer_actor.specs.MainGoes.{main_posted, main_thread, does, MainGoes}
use Rattle.layer_actor.specs.Start.{start_posted, start_after}
use Rattle.layer_actor.specs.StartClause.{StartGoes, start_thread, StartStepClause, StartClause}
use Rattle.layer_actor.specs.StartHolds.{NoneMade, none-made, start-keeps}

module _ {A : Type 0} (script : Script) (who : Identity) where
  -- a look between two calls
  looks_next : (past : List (Seen A)) (now : Moment A) (w : ℕ) → IsBetweenCalls now w who.row
      → StandsAtPiece script past now w (does who (looks who))
  looks_next past now w h = record { row = refl; between = h }

  start_comes : (past : List (Seen A)) (now : Moment A) (w : ℕ) (x : Start) (s : StartStep) → x.step ≡ s
      → StartClause NoneMade who.row past now w x → StandsAtPiece script past now w (does who (start_goes who x s))
  start_comes past now w x start.Done is h =
      looks_next past now w (subst (StartStepClause NoneMade who.row x.image past now w) is h)
  start_comes past now w x s is h = h

  -- The start of an image.
  pub start-piece : (registers : HaveRegisters script) (x : Start)
      → RunsPiece main_posted MainGoes main_thread (StandsAtPiece {A = A} script) start_posted StartGoes start_thread
      (StartClause NoneMade who.row) script
      (start-keeps script registers NoneMade (none-made script) who.row) (does who (doing.Start x)) x
  start-piece registers x = record {
    posted = refl;
    thread = refl;
    clause_of = λ past now w h. h;
    goes_on = λ old setup reply y new answer went. (
      start_after x old reply,
      answer,
      record { part = refl; own = went.own; event = went.event },
      refl,
      λ past now w h. subst (StandsAtPiece script past now w) (sym went.part)
          (start_comes past now w (start_after x old reply) (start_after x old reply).step refl h),
    );
  }

  -- A block of local instructions.
  pub block-piece : (registers : HaveRegisters script) (x : Local)
      → RunsPiece main_posted MainGoes main_thread (StandsAtPiece {A = A} script) local_posted LocalGoes local_thread
      (LocalClause script who.row) script (local-keeps script registers who.row) (does who (doing.Local x)) x
  block-piece registers x =
      local-piece script (StandsAtPiece script) registers who x (λ past now w y h. h) (λ past now w y h. h) looks_next

  get_comes : (past : List (Seen A)) (now : Moment A) (w : ℕ) (x : Gets) (s : GetStep) → x.step ≡ s
      → GetsClause script who.row past now w x → StandsAtPiece script past now w (does who (get_goes who x s))
  get_comes past now w x get.Done is h =
      looks_next past now w (subst (GetClause script who.row now w x.asked) is h.1)
  get_comes past now w x s is h = h

  -- A call that asks for something of the own row.
  pub gets-piece : (valid : IsValid script) (x : Gets)
      → RunsPiece main_posted MainGoes main_thread (StandsAtPiece {A = A} script) get_posted GetsGoes gets_thread
      (GetsClause script who.row) script (gets-keeps script who.row valid) (does who (doing.Gets x)) x
  gets-piece valid x = record {
    posted = refl;
    thread = refl;
    clause_of = λ past now w h. h;
    goes_on = λ old setup reply y new answer went. (
      (get_after x old reply).part,
      answer,
      record { part = refl; own = went.own; event = went.event },
      refl,
      λ past now w h. subst (StandsAtPiece script past now w) (sym went.part)
          (get_comes past now w (get_after x old reply).part (get_after x old reply).part.step refl h),
    );
  }

  kill_comes : (past : List (Seen A)) (now : Moment A) (w : ℕ) (x : KillOne) (s : KillStep) → x.step ≡ s
      → own_row x ≡ who.row → KillClause script past now w x
      → StandsAtPiece script past now w (does who (kill_goes who x s))
  kill_comes past now w x kill.Done is row h =
      looks_next past now w (subst (IsBetweenCalls now w) row (subst (KillStepClause script now w x) is h))
  kill_comes past now w x s is row h = (row, h)

  -- A kill of one process, by the process of the own row.
  pub kill-piece : (registers : HaveRegisters script) (x : KillOne) → own_row x ≡ who.row
      → RunsPiece main_posted MainGoes main_thread (StandsAtPiece {A = A} script) kill_posted KillGoes kill_thread
      (KillClause script) script (kill-keeps script registers) (does who (doing.Kill x)) x
  kill-piece registers x row = record {
    posted = refl;
    thread = refl;
    clause_of = λ past now w h. h.1;
    goes_on = λ old setup reply y new answer went. (
      (kill_after x old reply).part,
      answer,
      record { part = refl; own = went.own; event = went.event },
      refl,
      λ past now w h. subst (StandsAtPiece script past now w) (sym went.part)
          (kill_comes past now w (kill_after x old reply).part (kill_after x old reply).part.step refl row h),
    );
  }

  -- The end of a process.
  pub exit-piece : (registers : HaveRegisters script) (x : Exiting)
      → RunsPiece main_posted MainGoes main_thread (StandsAtPiece {A = A} script) exit_posted ExitGoes exit_thread
      (ExitClause script) script (exit-keeps script registers) (does who (doing.Exit x)) x
  exit-piece registers x = record {
    posted = refl;
    thread = refl;
    clause_of = λ past now w h. h;
    goes_on = λ old setup reply y new answer went. (
      (exit_after x old reply).part,
      answer,
      record { part = refl; own = went.own; event = went.event },
      refl,
      λ past now w h. subst (StandsAtPiece script past now w) (sym went.part) h,
    );
  }
