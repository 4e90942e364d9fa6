-- What a contract sees of a world, and what its directives do.
use Rattle.std.specs.Prelude.{◌≡◌, ℕ, ◌+◌, ◌<◌, List, [], ◌∷◌, ◌++◌, length, Option}
use Rattle.w32_base.specs.declared.call.Call.{Call}
use Rattle.w32_base.specs.declared.call.Reply.{Reply}
use Rattle.w32_base.specs.declared.entry.Directive.{Directive}
use Rattle.w32_base.specs.declared.entry.Directive.TheVariants as directive
use Rattle.w32_base.specs.declared.entry.Entry.{Entry}
use Rattle.w32_base.specs.declared.entry.Outcome.{Outcome}
use Rattle.w32_base.specs.declared.own.Own.{Own}
use Rattle.w32_base.specs.declared.part.After.{After}
use Rattle.w32_base.specs.declared.setup.Setup.{Setup}
use Rattle.script_spec.specs.declared.script.Script.{Script}
use Rattle.win32_spec.specs.Driven.{DrivenState, DrivenBy, IsDrivenOpening}
use Rattle.posix_spec.specs.Opening.{opening_of}
use Rattle.posix_spec.specs.State.{PosixState}
use Rattle.layer_spec.specs.Moment.{Moment, Seen, entries_of}
use Rattle.w32_machine.specs.Contract.{keys_of, key_lines}
use Rattle.world_spec.specs.SeenStep.{IsTaken}
use Rattle.world_spec.specs.World.{IsWorld}

-- the script, the machine's state with the parts and the event of the last turn, and the entries so far
pub record WorldValue (A : Type 0) : Type 0 where
  pub script : Script
  pub state : DrivenState A
  pub entries : List Entry

-- the moment of a world, with a POSIX state
abbrev pub moment_of : {A : Type 0} → WorldValue A → PosixState → Moment A
moment_of w posix = record { win32 = w.state.win32; parts = w.state.parts; posix = posix }

-- how many of the entries are of keys
abbrev pub keys_entered : List Entry → ℕ
keys_entered [] = 0
keys_entered (e ∷ es) = keys_of e.directive + keys_entered es

-- the entry of a directive that led to this state, with its call and outcome: the event is that of the part
abbrev pub entry_to : {A : Type 0} → Directive → Option Call → Outcome → DrivenState A → Entry
entry_to d called came new = record { directive = d; call = called; outcome = came; event = new.last }

-- a key is one of the script's, so there is a place left for it
abbrev pub HasKeyPlace : {A : Type 0} → WorldValue A → Directive → Type 0
HasKeyPlace w (directive.Turn slot t) = Unit {0}
HasKeyPlace w (directive.End slot) = Unit {0}
HasKeyPlace w (directive.Key b) = keys_entered w.entries < key_lines w.script.directives

-- A directive that a world takes: there is an entry left within the budget, and for a key one of the script's keys; an
-- `end` is of a slot for layer processes.
pub record IsAllowed {A : Type 0} (w : WorldValue A) (d : Directive) : Type 0 where
  pub spare : length w.entries < w.script.setup.limits.budget
  pub taken : IsTaken d
  pub keys : HasKeyPlace w d

-- what a type of parts means, and its clause
module _ {A : Type 0} (posted_of : A → Call) (goes : A → Own → Setup → Reply → A → Own → After → Type 0)
    (opening : A → Type 0) (slot_of thread_of_part : A → ℕ)
    (clause : Script → List (Seen A) → Moment A → ℕ → A → Type 0) where
  -- What was seen is a history of both machines up to the world's state with this POSIX state; its entries are the
  -- world's; and each thread's part stands where its clause says.
  pub record IsWorldOf (w : WorldValue A) (past : List (Seen A)) (posix : PosixState) : Type 0 where
    pub world : IsWorld posted_of goes opening slot_of thread_of_part (clause w.script) w.script past
        (moment_of w posix)
    pub entries : w.entries ≡ entries_of past

  -- the world in which a run of the script begins
  pub record IsOpeningWorld (script : Script) (w : WorldValue A) : Type 0 where
    pub script_is : w.script ≡ script
    pub none : w.entries ≡ []
    pub driven : IsDrivenOpening posted_of goes opening slot_of thread_of_part script w.state
    pub world : IsWorldOf w [] (opening_of script)

  -- A directive led from one world to another: the machine went as its parts go, with this outcome, and the journal has
  -- the entry more, whose event is that of the part. And whatever history led to the old world, with the moment before
  -- the directive in front it is one of the new world, with some POSIX state: so the event, if any, is a step of the
  -- POSIX machine with its evidence, the entry keeps the discipline, and rows and images show the POSIX state after it.
  pub record Directed (old : WorldValue A) (d : Directive) (came : Outcome) (new : WorldValue A) : Type 0 where
    pub called : Option Call
    pub driven : DrivenBy posted_of goes opening slot_of thread_of_part old.script old.state d called came new.state
    pub script : new.script ≡ old.script
    pub entries : new.entries ≡ old.entries ++ entry_to d called came new.state ∷ []
    pub history : (past : List (Seen A)) (posix : PosixState) → IsWorldOf old past posix
        → (after : PosixState) × IsWorldOf new
        (record { before = moment_of old posix; entry = entry_to d called came new.state } ∷ past) after
