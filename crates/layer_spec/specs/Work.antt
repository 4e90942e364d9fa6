-- How much a thread has done since anything was done that others can see.
use Rattle.std.specs.Prelude.{ℕ, ◌+◌, Bool, true, false, ◌&&◌, ◌||◌, is_some, if◌then◌else◌, List, [], ◌∷◌, Option}
use Rattle.std.specs.Prelude.{Some, None}
use Rattle.w32_base.specs.declared.event.Event.{Event}
use Rattle.w32_base.specs.declared.event.Event.TheVariants as event
use Rattle.layer_spec.specs.Moment.{Seen}
use Rattle.layer_spec.specs.Turns.{is_thread_turn}

-- whether an entry is a turn of thread t of process w
abbrev pub is_turn_of : {A : Type 0} → Seen A → (w t : ℕ) → Bool
is_turn_of x w t = is_thread_turn x.before.win32 x.entry.directive w t

-- whether an event is a block of local instructions
abbrev pub is_run : Option Event → Bool
is_run (Some (event.Run p n)) = true
is_run _ = false

-- whether it is one that is neither such a block nor a look at a child
abbrev pub is_other_event : Option Event → Bool
is_other_event None = false
is_other_event (Some (event.Run p n)) = false
is_other_event (Some (event.Look p c)) = false
is_other_event (Some _) = true

-- How many turns of thread t of process w that weren't idle stand after its own last block of local instructions, and
-- after the last event of any process that is neither a block nor a look.
abbrev pub work_of : {A : Type 0} → (w t : ℕ) → List (Seen A) → ℕ
work_of w t [] = 0
work_of w t (x ∷ past) =
    if is_other_event x.entry.event || (is_run x.entry.event && is_turn_of x w t) then 0
    else (if is_turn_of x w t && is_some x.entry.call then 1 else 0) + work_of w t past
