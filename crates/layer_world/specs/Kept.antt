-- What holds of a world at all times.
use Rattle.std.specs.Prelude.{◌≡◌, ℕ, ◌+◌, ◌≤◌, List, length}
use Rattle.w32_base.specs.declared.call.Call.{Call}
use Rattle.w32_base.specs.declared.call.Reply.{Reply}
use Rattle.w32_base.specs.declared.own.Own.{Own}
use Rattle.w32_base.specs.declared.part.After.{After}
use Rattle.w32_base.specs.declared.setup.Setup.{Setup}
use Rattle.script_spec.specs.declared.script.Script.{Script}
use Rattle.script_spec.specs.Validity.{IsValid}
use Rattle.posix_spec.specs.State.{PosixState}
use Rattle.layer_spec.specs.Moment.{Moment, Seen}
use Rattle.w32_machine.specs.Contract.{key_lines}
use Rattle.layer_world.specs.World.{WorldValue, IsWorldOf, keys_entered}

module _ {A : Type 0} (posted_of : A → Call) (goes : A → Own → Setup → Reply → A → Own → After → Type 0)
    (opening : A → Type 0) (slot_of thread_of_part : A → ℕ)
    (clause : Script → List (Seen A) → Moment A → ℕ → A → Type 0) (serves : Script → Type 0) where
  -- The parts are built for its script, and some history leads to it. So many entries and keys are spare, and there is
  -- room for them all; the console's queue has no more keys than were entered, and no more processes were made than
  -- there are entries, beside the first two.
  pub record IsKept (w : WorldValue A) (room spare key_places : ℕ) : Type 0 where
    pub valid : IsValid w.script
    pub served : serves w.script
    pub past : List (Seen A)
    pub posix : PosixState
    pub world : IsWorldOf posted_of goes opening slot_of thread_of_part clause w past posix
    pub spare_is : spare + length w.entries ≡ w.script.setup.limits.budget
    pub room_is : w.script.setup.limits.budget ≤ room
    pub places_are : key_places + keys_entered w.entries ≡ key_lines w.script.directives
    pub queue : length w.state.win32.keys ≤ keys_entered w.entries
    pub next : w.state.win32.next ≤ 3 + length w.entries
