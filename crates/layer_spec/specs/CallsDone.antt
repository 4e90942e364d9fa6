-- What entries of a call did, by their calls and replies: making a process, claiming a row, placing a module, writing
-- memory.
use Rattle.std.specs.Prelude.{◌≡◌, ℕ, ◌+◌, ◌<◌, ◌≤◌, true, List, Some}
use Rattle.w32_base.specs.declared.call.Call.TheVariants as call
use Rattle.w32_base.specs.declared.call.Region.{Region}
use Rattle.w32_base.specs.declared.call.Reply.TheVariants as reply
use Rattle.w32_base.specs.declared.entry.Outcome.TheVariants as outcome
use Rattle.win32_spec.specs.Named.{object_by, process_named}
use Rattle.layer_spec.specs.Moment.{Seen, SomeSeen}
use Rattle.layer_spec.specs.Turns.{is_process_turn, image_named, is_own_turn, is_image_turn}

-- In an own turn of p, `create` of the program at a place of the script made process w.
pub record MakesProcess {A : Type 0} (p program w : ℕ) (x : Seen A) : Type 0 where
  pub own : is_own_turn x p ≡ true
  pub list : List ℕ
  pub handle : ℕ
  pub asks : x.entry.call ≡ Some (call.Create program list)
  pub answered : x.entry.outcome ≡ outcome.Step (reply.Made handle w)

-- In an own turn of p, `create` found no slot.
pub record FindsNoSlot {A : Type 0} (p : ℕ) (x : Seen A) : Type 0 where
  pub own : is_own_turn x p ≡ true
  pub program : ℕ
  pub list : List ℕ
  pub asks : x.entry.call ≡ Some (call.Create program list)
  pub answered : x.entry.outcome ≡ outcome.Step reply.NoSlot

-- In an own turn of p, an `add` to word 0 answered that so many rows were claimed before.
pub record ClaimsRow {A : Type 0} (p claimed : ℕ) (x : Seen A) : Type 0 where
  pub own : is_own_turn x p ≡ true
  pub handle : ℕ
  pub addend : ℕ
  pub asks : x.entry.call ≡ Some (call.FetchAdd handle 0 addend)
  pub answered : x.entry.outcome ≡ outcome.Step (reply.Word claimed)

-- Process w asked for the script's module m, and it was placed at this base.
pub record PlacesModule {A : Type 0} (w m base : ℕ) (x : Seen A) : Type 0 where
  pub turn : is_process_turn x.before.win32 x.entry.directive w ≡ true
  pub asks : x.entry.call ≡ Some (call.Module m)
  pub answered : x.entry.outcome ≡ outcome.Step (reply.Base base)

-- In a turn of a thread of p's image, `writemem` wrote this place of a region of process w.
pub record WritesPlace {A : Type 0} (p w : ℕ) (region : Region) (place : ℕ) (x : Seen A) : Type 0 where
  pub turn : is_image_turn x p ≡ true
  pub handle : ℕ
  pub from : ℕ
  pub own_region : Region
  pub own_place : ℕ
  pub count : ℕ
  pub asks : x.entry.call ≡ Some (call.WriteMemory handle region from own_region own_place count)
  pub names : process_named (object_by x.before.win32 (image_named x.before.win32 p) handle) ≡ Some w
  pub answered : x.entry.outcome ≡ outcome.Step reply.Done
  pub covers : (from ≤ place) × (place < from + count)

-- p made process w in the entries of its call, of some program
abbrev pub HasMade : {A : Type 0} → ℕ → ℕ → List (Seen A) → Type 0
HasMade p w seen = (program : ℕ) × SomeSeen (MakesProcess p program w) seen
