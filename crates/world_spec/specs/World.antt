-- A world: a history up to this moment, in which each thread's part stands where its clause says.
use Rattle.std.specs.Prelude.{◌≡◌, ℕ, List, ◌∷◌, Option, Some}
use Rattle.w32_base.specs.declared.call.Call.{Call}
use Rattle.w32_base.specs.declared.call.Reply.{Reply}
use Rattle.w32_base.specs.declared.entry.Directive.{Directive}
use Rattle.w32_base.specs.declared.entry.Outcome.{Outcome}
use Rattle.w32_base.specs.declared.event.Event.{Event}
use Rattle.w32_base.specs.declared.own.Own.{Own}
use Rattle.w32_base.specs.declared.part.After.{After}
use Rattle.w32_base.specs.declared.setup.Setup.{Setup}
use Rattle.script_spec.specs.declared.script.Script.{Script}
use Rattle.win32_spec.specs.Driven.{part_at, DrivenState, AreServed}
use Rattle.win32_spec.specs.Lookup.{number_in}
use Rattle.posix_spec.specs.State.{PosixState}
use Rattle.layer_spec.specs.History.{given_of, IsHistory}
use Rattle.layer_spec.specs.Moment.{Moment, Seen}
use Rattle.world_spec.specs.Sound.{IsSoundMoment}

module _ {A : Type 0} (posted_of : A → Call) (goes : A → Own → Setup → Reply → A → Own → After → Type 0)
    (opening : A → Type 0) (slot_of thread_of_part : A → ℕ)
    (clause : List (Seen A) → Moment A → ℕ → A → Type 0) where
  -- What was seen is a history up to now, which is a sound moment. Each thread has posted the call of its part, and
  -- each part stands where its clause says, of its own process.
  pub record IsWorld (script : Script) (past : List (Seen A)) (now : Moment A) : Type 0 where
    pub history : IsHistory posted_of goes opening slot_of thread_of_part script past now
    pub sound : IsSoundMoment script past now
    pub served : AreServed posted_of goes opening slot_of thread_of_part now.win32 now.parts
    pub stands : (slot t w : ℕ) (part : A) → number_in now.win32 slot ≡ Some w → part_at now.parts slot t ≡ Some part
        → clause past now w part

  -- A directive led from this moment of a world to these states of the machine and of the parts: then there are an
  -- event or none, which is the part's, and a POSIX state, with which the world goes on.
  pub record GoesOn (script : Script) (past : List (Seen A)) (now : Moment A) (d : Directive) (called : Option Call)
      (came : Outcome) (new : DrivenState A) : Type 0 where
    pub told : Option Event
    pub given_is : given_of told ≡ new.last
    pub posix : PosixState
    pub world : IsWorld script
        (record {
          before = now;
          entry = record { directive = d; call = called; outcome = came; event = told };
        } ∷ past) (record { win32 = new.win32; parts = new.parts; posix = posix })
