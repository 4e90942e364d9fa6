-- A turn of a part that may change its process's bytes: which part it is then, the bytes, and the event that stands in
-- the turn. And the results of a program's calls.
use Rattle.std.specs.Prelude.{◌≡◌, ℕ, ◌<◌, ℤ, false, Bool, ◌&&◌, nat_eq, nat_lt, if◌then◌else◌, length, Option, Some}
use Rattle.std.specs.Prelude.{None}
use Rattle.w32_base.specs.declared.call.Call.{Call}
use Rattle.w32_base.specs.declared.call.Reply.{Reply}
use Rattle.w32_base.specs.declared.event.Event.{Event}
use Rattle.w32_base.specs.declared.own.Own.{Own}
use Rattle.w32_base.specs.declared.part.After.{After}
use Rattle.w32_base.specs.Part.{may_keep_rank, KeepsLengths}
use Rattle.vm_spec.specs.Image.{image_of, with_image, place_of, with_result}
use Rattle.roster.specs.Turns.{Turn}

pub record OwnTurn (P : Type 0) : Type 0 where
  pub part : P
  pub own : Own
  pub event : Option Event

-- a turn without an event, after which the bytes are these
abbrev pub goes_to : {P : Type 0} → P → Own → OwnTurn P
goes_to p own = record { part = p; own = own; event = None }

-- a turn that leaves these bytes as they are
abbrev pub on_own : {P : Type 0} → Own → Turn P → OwnTurn P
on_own own t = record { part = t.part; own = own; event = t.event }

-- the part went by this turn
pub record WentOn {P : Type 0} (turn : OwnTurn P) (next : P) (new : Own) (answer : After) : Type 0 where
  pub part : next ≡ turn.part
  pub own : new ≡ turn.own
  pub event : answer.event ≡ turn.event

-- whether an image can take a result: it has its data region, and there is a place behind the next instruction
abbrev pub can_take : Own → Bool
can_take own = nat_eq (length own.dat) 64 && nat_lt (place_of (image_of own)) 4294967295

-- the bytes with the result of a call in r0, and the next instruction is the following one
abbrev pub with_answer : Own → ℤ → Own
with_answer own r0 = if can_take own then with_image own (with_result (image_of own) r0 None) else own

-- A call has its result, with its event. An image that can't take it lets the part rest, without an event.
abbrev pub answers : {P : Type 0} → (rest next : P) → Own → ℤ → Event → OwnTurn P
answers rest next own r0 e =
    if can_take own
    then record { part = next; own = with_image own (with_result (image_of own) r0 None); event = Some e }
    else goes_to rest own

-- What is asked of a turn: it lowers the rank from this one, unless it may keep it, and keeps the length of each
-- region.
pub record IsFair {P : Type 0} (rank : P → ℕ) (posted : Call) (before : ℕ) (r : Reply) (own : Own) (turn : OwnTurn P)
    : Type 0 where
  pub lowers : may_keep_rank posted r turn.event ≡ false → rank turn.part < before
  pub lengths : KeepsLengths own turn.own
