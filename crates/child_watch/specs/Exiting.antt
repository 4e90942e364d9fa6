-- The end of a process: its exit word says how, and its main word becomes a zombie's, with the event `die`. Then, by
-- the holder of the roster mutex: each child in its list that is a zombie is collected, and so is the process itself
-- where it has no live parent. Last its Win32 process ends.
use Rattle.std.specs.Prelude.{ℕ, ◌+◌, ◌-◌, ◌*◌, pos, Bool, ◌&&◌, nat_eq, nat_lt, if◌then◌else◌, List, length, Option}
use Rattle.std.specs.Prelude.{Some, None}
use Rattle.w32_base.specs.declared.call.Call.{Call}
use Rattle.w32_base.specs.declared.call.Call.TheVariants as call
use Rattle.w32_base.specs.declared.call.Reply.{Reply}
use Rattle.w32_base.specs.declared.event.Event.TheVariants as event
use Rattle.w32_base.specs.declared.own.Own.{Own}
use Rattle.layer_spec.specs.HeapReads.{child_count_in, child_in}
use Rattle.layer_spec.specs.Rows.{GroupWord, main_place, group_place, exit_place}
use Rattle.layer_spec.specs.Decoding.{group_of}
use Rattle.layer_spec.specs.Transitions.{Seal}
use Rattle.layer_spec.specs.Words.{row_of}
use Rattle.roster.specs.declared.hold.Hold.{Hold}
use Rattle.roster.specs.declared.hold.Hold.TheVariants as hold
use Rattle.roster.specs.declared.release.Let.{Let}
use Rattle.roster.specs.declared.release.Let.TheVariants as release
use Rattle.roster.specs.Turns.{Turn, quietly, section_handle, rest_call, by_word}
use Rattle.roster.specs.Words.{is_live_word, changed_word}
use Rattle.roster.specs.Orphaned.{is_process_number}
use Rattle.roster.specs.Mutex.{hold_posted, hold_after, hold_rank, let_posted, let_after, let_rank}
use Rattle.child_watch.specs.declared.collect.Gather.{Gather}
use Rattle.child_watch.specs.declared.collect.Gather.TheVariants as gather
use Rattle.child_watch.specs.declared.ending.Ending.{Ending}
use Rattle.child_watch.specs.declared.exiting.ExitStep.{ExitStep}
use Rattle.child_watch.specs.declared.exiting.ExitStep.TheVariants as exit
use Rattle.child_watch.specs.declared.exiting.Exiting.{Exiting}
use Rattle.child_watch.specs.Collect.{gather_posted, gather_after, gather_rank}
use Rattle.child_watch.specs.Ending.{status_of, death_of, word_of}

-- at its start an image has no exit word
abbrev pub exit_begun : (row image : ℕ) → Ending → Exiting
exit_begun row image ending = record { row = row; image = image; ending = ending; step = exit.Marking 0 }

-- the call that each step posts
abbrev pub exit_step_posted : (row image : ℕ) → Ending → ExitStep → Call
exit_step_posted row image e (exit.Marking old) =
    call.CompareExchange section_handle (exit_place row) old (word_of image e)
exit_step_posted row image e exit.Looking = call.Load section_handle (main_place row)
exit_step_posted row image e (exit.Sealing old new) = call.CompareExchange section_handle (main_place row) old new
exit_step_posted row image e (exit.Holding x) = hold_posted x
exit_step_posted row image e (exit.Child place x) = gather_posted x
exit_step_posted row image e exit.Grouping = call.Load section_handle (group_place row)
exit_step_posted row image e (exit.Parent parent) = call.Load section_handle (main_place parent)
exit_step_posted row image e (exit.Itself x) = gather_posted x
exit_step_posted row image e (exit.Letting x) = let_posted x
exit_step_posted row image e exit.Leaving = call.ExitSelf (status_of e)
exit_step_posted row image e exit.Rest = rest_call

abbrev pub exit_posted : Exiting → Call
exit_posted p = exit_step_posted p.row p.image p.ending p.step

-- the row of the child at a place of the list in a cygheap, which has 32 places; none past the last child
abbrev pub is_listed : List ℕ → ℕ → Bool
is_listed cyg place = nat_eq (length cyg) 288 && (nat_lt place 32 && nat_lt place (child_count_in cyg))

abbrev pub row_if : ℕ → Option ℕ
row_if number = if is_process_number number then Some (row_of number) else None

abbrev pub listed_child : List ℕ → ℕ → Option ℕ
listed_child cyg place = if is_listed cyg place then row_if (child_in cyg place).number else None

-- the exit word is written, or another one was found
abbrev pub exit_marked : (old : ℕ) → ℕ → ExitStep
exit_marked old w = if nat_eq w old then exit.Looking else exit.Marking w

-- the row is live, so that it can be sealed
abbrev pub exit_seals : (old : ℕ) → Option ℕ → ExitStep
exit_seals old (Some new) = exit.Sealing old new
exit_seals old None = exit.Rest

abbrev pub exit_looked : Ending → ℕ → ExitStep
exit_looked e w = exit_seals w (changed_word (Seal (status_of e)) w)

-- where the compare-exchange found the old word, the process has died
abbrev pub exit_sealed : (row : ℕ) → Ending → (old : ℕ) → ℕ → Turn ExitStep
exit_sealed row e old w =
    if nat_eq w old
    then record {
      part = exit.Holding hold.Waiting;
      event = Some (event.Die (row + 1) (pos (status_of e)) (death_of e));
    }
    else quietly (exit_looked e w)

-- the child at a place of the list is looked at, and behind the last one the own group word
abbrev pub exit_child : (place : ℕ) → Option ℕ → ExitStep
exit_child place (Some row) = exit.Child place (gather.Looking row)
exit_child place None = exit.Grouping

abbrev pub exit_children : Own → (place : ℕ) → ExitStep
exit_children own place = exit_child place (listed_child own.cyg place)

-- the mutex is held, or is waited for
abbrev pub exit_holds : Own → Hold → ExitStep
exit_holds own hold.Held = exit_children own 0
exit_holds own x = exit.Holding x

-- a child is collected, or isn't to be
abbrev pub exit_gathers : Own → (place : ℕ) → Gather → ExitStep
exit_gathers own place gather.Done = exit_children own (place + 1)
exit_gathers own place x = exit.Child place x

-- with the own group word, which names the parent
abbrev pub exit_grouped : (row : ℕ) → Option GroupWord → ExitStep
exit_grouped row None = exit.Rest
exit_grouped row (Some g) =
    if is_process_number g.parent then exit.Parent (row_of g.parent) else exit.Itself (gather.Looking row)

-- with the parent's main word: a live parent reaps
abbrev pub exit_parent : (row : ℕ) → ℕ → ExitStep
exit_parent row w = if is_live_word w then exit.Letting release.Releasing else exit.Itself (gather.Looking row)

abbrev pub exit_itself : Gather → ExitStep
exit_itself gather.Done = exit.Letting release.Releasing
exit_itself x = exit.Itself x

abbrev pub exit_lets : Let → ExitStep
exit_lets release.Released = exit.Leaving
exit_lets x = exit.Letting x

-- where each step goes with a reply over the own bytes, which stay
abbrev pub exit_step_after : (row : ℕ) → Ending → ExitStep → Own → Reply → Turn ExitStep
exit_step_after row e (exit.Marking old) own r = by_word (quietly exit.Rest) (λ w. quietly (exit_marked old w)) r
exit_step_after row e exit.Looking own r = by_word (quietly exit.Rest) (λ w. quietly (exit_looked e w)) r
exit_step_after row e (exit.Sealing old new) own r = by_word (quietly exit.Rest) (exit_sealed row e old) r
exit_step_after row e (exit.Holding x) own r = quietly (exit_holds own (hold_after x r))
exit_step_after row e (exit.Child place x) own r =
    record { part = exit_gathers own place (gather_after x r).part; event = (gather_after x r).event }
exit_step_after row e exit.Grouping own r =
    by_word (quietly exit.Rest) (λ w. quietly (exit_grouped row (group_of w))) r
exit_step_after row e (exit.Parent parent) own r = by_word (quietly exit.Rest) (λ w. quietly (exit_parent row w)) r
exit_step_after row e (exit.Itself x) own r =
    record { part = exit_itself (gather_after x r).part; event = (gather_after x r).event }
exit_step_after row e (exit.Letting x) own r = quietly (exit_lets (let_after x r))
exit_step_after row e exit.Leaving own r = quietly exit.Rest
exit_step_after row e exit.Rest own r = quietly exit.Rest

abbrev pub with_exit : Exiting → Turn ExitStep → Turn Exiting
with_exit p t = record { part = record p { step = t.part }; event = t.event }

abbrev pub exit_after : Exiting → Own → Reply → Turn Exiting
exit_after p own r = with_exit p (exit_step_after p.row p.ending p.step own r)

-- how many turns are left at most, but for another word found by a compare-exchange
abbrev pub exit_step_rank : ExitStep → ℕ
exit_step_rank (exit.Marking old) = 203
exit_step_rank exit.Looking = 202
exit_step_rank (exit.Sealing old new) = 201
exit_step_rank (exit.Holding x) = hold_rank x + 181
exit_step_rank (exit.Child place x) = gather_rank x + 5 * (32 - place) + 12
exit_step_rank exit.Grouping = 11
exit_step_rank (exit.Parent parent) = 10
exit_step_rank (exit.Itself x) = gather_rank x + 6
exit_step_rank (exit.Letting x) = let_rank x + 3
exit_step_rank exit.Leaving = 2
exit_step_rank exit.Rest = 1

abbrev pub exit_rank : Exiting → ℕ
exit_rank p = exit_step_rank p.step
