-- The laws of a part of the layer.
use Rattle.std.specs.Prelude.{◌≡◌, Bool, true, false, ◌||◌, not, nat_eq, length, Option, Some, None, []}
use Rattle.w32_base.specs.declared.call.Call.{Call}
use Rattle.w32_base.specs.declared.call.Call.TheVariants as call
use Rattle.w32_base.specs.declared.call.Reply.{Reply}
use Rattle.w32_base.specs.declared.call.Reply.TheVariants as reply
use Rattle.w32_base.specs.declared.event.Event.{Event}
use Rattle.w32_base.specs.declared.event.Event.TheVariants as event
use Rattle.w32_base.specs.declared.own.Own.{Own}

-- an event that isn't a look at a child
abbrev pub is_progress : Option Event → Bool
is_progress None = false
is_progress (Some (event.Look p c)) = false
is_progress (Some _) = true

-- a wait, whatever it answered
abbrev pub is_wait : Call → Bool
is_wait (call.WaitAny list) = true
is_wait _ = false

-- a compare-exchange that found another word than the old one
abbrev pub is_lost_exchange : Call → Reply → Bool
is_lost_exchange (call.CompareExchange h i old new) (reply.Word x) = not (nat_eq x old)
is_lost_exchange _ _ = false

-- a turn after which the rank may be what it likes
abbrev pub may_keep_rank : Call → Reply → Option Event → Bool
may_keep_rank c r e = is_progress e || is_wait c || is_lost_exchange c r

-- each region has as many bytes as before
pub record KeepsLengths (old new : Own) : Type 0 where
  pub dat : length new.dat ≡ length old.dat
  pub heap : length new.heap ≡ length old.heap
  pub stack : length new.stack ≡ length old.stack
  pub cyg : length new.cyg ≡ length old.cyg
  pub scratch : length new.scratch ≡ length old.scratch

-- data, heap and stack are as before
pub record KeepsImage (old new : Own) : Type 0 where
  pub dat : new.dat ≡ old.dat
  pub heap : new.heap ≡ old.heap
  pub stack : new.stack ≡ old.stack

-- own with the data, heap and stack of other
abbrev pub with_image_of : Own → Own → Own
with_image_of own other = record own { dat = other.dat; heap = other.heap; stack = other.stack }

-- regions without bytes
abbrev pub no_bytes : Own
no_bytes = record { dat = []; heap = []; stack = []; cyg = []; scratch = [] }
