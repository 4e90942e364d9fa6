-- The processes that have lines in view `calls`.
use Rattle.std.specs.Prelude.{◌≡◌, ◌≢◌, ℕ, ◌<◌, ◌≤◌, List, [], Option, Some, None, if◌then◌else◌, flat_map}
use Rattle.w32_base.specs.declared.event.Event.{Event}
use Rattle.w32_base.specs.declared.entry.Entry.{Entry}
use Rattle.log_spec.specs.Events.{actor_of}
use Rattle.log_spec.specs.Views.{is_call_event, call_line, call_lines_below, events_of}

-- the process that acts in an event with a line in the view
abbrev pub caller : Option Event → Option ℕ
caller None = None
caller (Some e) = if is_call_event e then Some (actor_of e) else None

-- the line that an entry gives a process, and the lines that entries give it
abbrev pub line_by : ℕ → Option Event → List ℕ
line_by p None = []
line_by p (Some e) = call_line p e

unfoldable pub lines_by : ℕ → List Entry → List ℕ
lines_by p entries = flat_map (λ (entry : Entry). line_by p entry.event) entries

-- the lines of the first n numbers, from 0 up
unfoldable pub groups_below : ℕ → List Entry → List ℕ
groups_below n entries = call_lines_below n (events_of entries)

-- no process from `least` up to below `next` has a line
abbrev pub NoLinesFrom : ℕ → ℕ → List Entry → Type 0
NoLinesFrom least next entries = (p : ℕ) → least ≤ p → p < next → lines_by p entries ≡ []

-- the least process from `least` up that has a line, or 4002 where none has
pub record IsNext (least next : ℕ) (entries : List Entry) : Type 0 where
  pub from : least ≤ next
  pub range : next ≤ 4002
  pub first : NoLinesFrom least next entries
  pub has_lines : next < 4002 → lines_by next entries ≢ []
