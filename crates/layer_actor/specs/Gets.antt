-- getppid, getpgid and getsid (POSIX.1-2017, XSH). The own group word tells the group and the session, and the raw
-- parent. A parent that is a zombie or has no record is shown as 1, like no parent.
use Rattle.std.specs.Prelude.{ℕ, ◌+◌, pos, if◌then◌else◌, Option, Some, None}
use Rattle.w32_base.specs.declared.call.Call.{Call}
use Rattle.w32_base.specs.declared.call.Call.TheVariants as call
use Rattle.w32_base.specs.declared.call.Reply.{Reply}
use Rattle.w32_base.specs.declared.event.Event.{Event}
use Rattle.w32_base.specs.declared.event.Event.TheVariants as event
use Rattle.w32_base.specs.declared.event.Field.{Field}
use Rattle.w32_base.specs.declared.event.Field.TheVariants as field
use Rattle.w32_base.specs.declared.own.Own.{Own}
use Rattle.layer_spec.specs.Decoding.{group_of}
use Rattle.layer_spec.specs.Rows.{GroupWord, main_place, group_place}
use Rattle.layer_spec.specs.Words.{row_of}
use Rattle.roster.specs.Turns.{section_handle, rest_call, by_word}
use Rattle.roster.specs.Orphaned.{is_process_number}
use Rattle.roster.specs.Words.{is_live_word}
use Rattle.layer_turns.specs.OwnTurns.{OwnTurn, goes_to, answers}
use Rattle.layer_actor.specs.declared.gets.Asked.{Asked}
use Rattle.layer_actor.specs.declared.gets.Asked.TheVariants as asked
use Rattle.layer_actor.specs.declared.gets.GetStep.{GetStep}
use Rattle.layer_actor.specs.declared.gets.GetStep.TheVariants as get
use Rattle.layer_actor.specs.declared.gets.Gets.{Gets}

abbrev pub field_of : Asked → Field
field_of asked.Parent = field.Ppid
field_of asked.Group = field.Pgid
field_of asked.Session = field.Sid

-- the call that each step posts, for the process of a row
abbrev pub get_step_posted : (row : ℕ) → GetStep → Call
get_step_posted row get.Grouping = call.Load section_handle (group_place row)
get_step_posted row (get.Parent parent) = call.Load section_handle (main_place parent)
get_step_posted row get.Done = rest_call
get_step_posted row get.Rest = rest_call

abbrev pub get_posted : Gets → Call
get_posted p = get_step_posted p.row p.step

-- the value that was asked for
abbrev pub get_event : (row : ℕ) → Asked → ℕ → Event
get_event row a value = event.Get (row + 1) (field_of a) (pos value)

abbrev pub get_answers : (row : ℕ) → Asked → Own → ℕ → OwnTurn GetStep
get_answers row a own value = answers get.Rest get.Done own (pos value) (get_event row a value)

-- a raw parent that is no process's number is none
abbrev pub get_parent : (row : ℕ) → Own → (parent : ℕ) → OwnTurn GetStep
get_parent row own parent =
    if is_process_number parent then goes_to (get.Parent (row_of parent)) own
    else get_answers row asked.Parent own 1

-- with the own group word
abbrev pub get_grouped : (row : ℕ) → Asked → Own → Option GroupWord → OwnTurn GetStep
get_grouped row a own None = goes_to get.Rest own
get_grouped row asked.Parent own (Some g) = get_parent row own g.parent
get_grouped row asked.Group own (Some g) = get_answers row asked.Group own g.group
get_grouped row asked.Session own (Some g) = get_answers row asked.Session own g.session

-- with the parent's main word
abbrev pub get_looked : (row parent : ℕ) → Asked → Own → ℕ → OwnTurn GetStep
get_looked row parent a own w = get_answers row a own (if is_live_word w then parent + 1 else 1)

-- where each step goes with a reply over the own bytes
abbrev pub get_step_after : (row : ℕ) → Asked → GetStep → Own → Reply → OwnTurn GetStep
get_step_after row a get.Grouping own r =
    by_word (goes_to get.Rest own) (λ w. get_grouped row a own (group_of w)) r
get_step_after row a (get.Parent parent) own r = by_word (goes_to get.Rest own) (get_looked row parent a own) r
get_step_after row a get.Done own r = goes_to get.Done own
get_step_after row a get.Rest own r = goes_to get.Rest own

abbrev pub with_get : Gets → OwnTurn GetStep → OwnTurn Gets
with_get p t = record { part = record p { step = t.part }; own = t.own; event = t.event }

abbrev pub get_after : Gets → Own → Reply → OwnTurn Gets
get_after p own r = with_get p (get_step_after p.row p.asked p.step own r)

-- how many turns are left at most, where so many follow the call
abbrev pub get_rank_by : (behind : ℕ) → GetStep → ℕ
get_rank_by behind get.Grouping = 3
get_rank_by behind (get.Parent parent) = 2
get_rank_by behind get.Done = behind
get_rank_by behind get.Rest = 1

abbrev pub get_rank : Gets → ℕ
get_rank p = get_rank_by 0 p.step
