-- Whose own event an event is, and which entries stand in a process's call.
use Rattle.std.specs.Prelude.{ℕ, Bool, false, nat_eq, if◌then◌else◌, List, [], ◌∷◌, Option, Some, None}
use Rattle.w32_base.specs.declared.event.Event.{Event}
use Rattle.w32_base.specs.declared.event.Event.TheVariants as event
use Rattle.layer_spec.specs.Moment.{Seen, HistoryStep}

-- The process whose own event an event is, and 0 where it is nobody's: a death, a collecting, a discarding and a notice
-- are nobody's, and neither is what the host does.
abbrev pub owner_of : Event → ℕ
owner_of (event.Run p n) = p
owner_of (event.Get p f v) = p
owner_of (event.Fork p c) = p
owner_of (event.ForkFail p cause) = p
owner_of (event.Exec p name) = p
owner_of (event.ExecFail p cause) = p
owner_of (event.Kill p q signal answer) = p
owner_of (event.Member p q signal) = p
owner_of (event.GroupDone p g signal answer) = p
owner_of (event.Look p c) = p
owner_of (event.Block p) = p
owner_of (event.Nothing p) = p
owner_of (event.Reap p c v) = p
owner_of (event.Report p c v) = p
owner_of (event.NoChild p) = p
owner_of (event.Refuse p e) = p
owner_of (event.Mask p m) = p
owner_of (event.SetAction p signal action) = p
owner_of (event.Suspend p m) = p
owner_of (event.Return p) = p
owner_of (event.Deliver p signal way) = p
owner_of (event.Discard p signal) = 0
owner_of (event.Stop p signal) = p
owner_of (event.Die p v cause) = 0
owner_of (event.Notify p) = 0
owner_of (event.Collect p) = 0
owner_of (event.SetPgid p q g) = p
owner_of (event.SetSid p) = p
owner_of (event.TcSet p g) = p
owner_of (event.Flags p n) = p
owner_of (event.Background p signal) = p
owner_of (event.BackgroundDone p) = p
owner_of (event.Line p n bytes) = p
owner_of (event.Write p n bytes) = p
owner_of (event.Key p b) = 0
owner_of (event.Host p n) = 0

abbrev pub is_own_event : Option Event → ℕ → Bool
is_own_event None p = false
is_own_event (Some e) p = nat_eq (owner_of e) p

-- what was seen after the previous own event of process p, the last first: the entries of its call so far
abbrev pub seen_in_call : {A : Type 0} → ℕ → List (Seen A) → List (Seen A)
seen_in_call p [] = []
seen_in_call p (x ∷ past) = if is_own_event x.entry.event p then [] else x ∷ seen_in_call p past

-- the entries of p's call up to a step, the step's own entry among them
abbrev pub call_up_to : {A : Type 0} → HistoryStep A → ℕ → List (Seen A)
call_up_to step p = record { before = step.before; entry = step.entry } ∷ seen_in_call p step.past
