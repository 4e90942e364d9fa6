-- What the clauses of the parts that may come after a look say at their first step.
use Rattle.std.specs.Prelude.{◌≡◌, ℕ, ◌+◌, true, List, Some}
use Rattle.w32_base.specs.declared.instr.Instr.TheVariants as instr
use Rattle.w32_base.specs.declared.instr.Operand.{Operand}
use Rattle.script_spec.specs.declared.script.Script.{Script}
use Rattle.vm_spec.specs.Image.{image_of, value_of}
use Rattle.vm_spec.specs.Step.{Upcoming, LocalInstruction, CallInstruction, ImageFault, low_byte}
use Rattle.win32_spec.specs.Lookup.{memory_by}
use Rattle.posix_spec.specs.GroupCalls.{killing_signal}
use Rattle.posix_spec.specs.KillSteps.{One, target_of}
use Rattle.layer_spec.specs.Moment.{Moment, Seen}
use Rattle.layer_spec.specs.Words.{row_of}
use Rattle.kill_calls.specs.Kill.{kill_begun}
use Rattle.kill_calls.specs.KillStart.{has_row, as_signal}
use Rattle.child_watch.specs.declared.ending.Ending.TheVariants as ending
use Rattle.world_spec.specs.Notes.{IsBetweenCalls, IsAtNext}
use Rattle.layer_actor.specs.declared.actor.MainThread.{MainThread}
use Rattle.layer_actor.specs.declared.doing.Doing.TheVariants as doing
use Rattle.layer_actor.specs.declared.gets.Asked.TheVariants as asked
use Rattle.layer_actor.specs.declared.identity.Identity.{Identity}
use Rattle.layer_actor.specs.declared.local.Local.TheVariants as local
use Rattle.layer_actor.specs.Doing.{rests, looks, gets, exits}
use Rattle.layer_actor.specs.LookClause.{IsMainOf}
use Rattle.layer_actor.specs.MainGoes.{does}

-- the main thread of process w is at what is next, and the record's image is the one in the memory of the process
pub record StandsAt {A : Type 0} (script : Script) (after : Moment A) (w : ℕ) (who : Identity) (next : Upcoming)
    : Type 0 where
  pub main : IsMainOf who after.win32 w
  pub at : IsAtNext script after w who.row next
  pub image : at.noted.image ≡ image_of (memory_by after.win32 w)

module _ {A : Type 0} (script : Script) (clause : List (Seen A) → Moment A → ℕ → MainThread → Type 0) where
  -- Each part that may come next stands where its clause says: one that rests; the next look, after a call that was
  -- answered at once; a block; the calls that ask for something of the own row; the end of the process, by `exit` with
  -- the low byte of its value, or after an image fault; and a kill of the process with a number that one of the
  -- script's rows may have, with a signal or with 0 for a check.
  pub record Follows (past : List (Seen A)) (after : Moment A) (w : ℕ) (who : Identity) : Type 0 where
    pub rested : clause past after w (does who rests)
    pub looking : who.image ≡ w → IsBetweenCalls after w who.row → clause past after w (does who (looks who))
    pub running : StandsAt script after w who LocalInstruction
        → clause past after w (does who (doing.Local (local.Running who.row)))
    pub parent : StandsAt script after w who (CallInstruction instr.GetPpid)
        → clause past after w (does who (gets who asked.Parent))
    pub group : StandsAt script after w who (CallInstruction instr.GetPgid)
        → clause past after w (does who (gets who asked.Group))
    pub session : StandsAt script after w who (CallInstruction instr.GetSid)
        → clause past after w (does who (gets who asked.Session))
    pub faults : StandsAt script after w who ImageFault → clause past after w (does who (exits who ending.Fault))
    pub exiting : (v : Operand) → StandsAt script after w who (CallInstruction (instr.Exit v))
        → clause past after w
        (does who (exits who (ending.Exit (low_byte (value_of (image_of (memory_by after.win32 w)) v)))))
    pub killing : (target signal : Operand) (q n : ℕ)
        → StandsAt script after w who (CallInstruction (instr.Kill target signal))
        → killing_signal (value_of (image_of (memory_by after.win32 w)) signal) ≡ Some n
        → target_of (value_of (image_of (memory_by after.win32 w)) target) ≡ One q
        → has_row script.setup.limits.rows q ≡ true
        → clause past after w (does who (doing.Kill (kill_begun (who.row + 1) (row_of q) (as_signal n))))
