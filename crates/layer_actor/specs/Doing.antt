-- What the main thread of a layer process does, as the sum of its parts: the start of its image, then for ever a look
-- at its main word and what is next in its program: a block of local instructions, a call, or the end after an image
-- fault. Each part's steps stand here by its own tables.
use Rattle.std.specs.Prelude.{ℕ, ◌+◌, ℤ, pos, Bool, ◌&&◌, false, nat_eq, if◌then◌else◌, List, length, slice_get, Option}
use Rattle.std.specs.Prelude.{Some, None, is_none}
use Rattle.w32_base.specs.declared.call.Call.{Call}
use Rattle.w32_base.specs.declared.call.Call.TheVariants as call
use Rattle.w32_base.specs.declared.call.Reply.{Reply}
use Rattle.w32_base.specs.declared.event.Answer.TheVariants.{Error}
use Rattle.w32_base.specs.declared.event.Event.TheVariants as event
use Rattle.w32_base.specs.declared.event.Field.TheVariants as field
use Rattle.w32_base.specs.declared.instr.Instr.{Instr}
use Rattle.w32_base.specs.declared.instr.Instr.TheVariants as instr
use Rattle.w32_base.specs.declared.own.Own.{Own}
use Rattle.w32_base.specs.declared.setup.Setup.{Setup}
use Rattle.vm_spec.specs.Image.{image_of, program_of, value_of}
use Rattle.vm_spec.specs.Step.{Upcoming, LocalInstruction, CallInstruction, ImageFault, upcoming, low_byte}
use Rattle.win32_spec.specs.MemoryCalls.{instructions_of}
use Rattle.posix_spec.specs.Numbers.{error_result}
use Rattle.posix_spec.specs.Signals.{least, outside, clean_mask}
use Rattle.layer_spec.specs.Decoding.{main_of}
use Rattle.layer_spec.specs.HeapReads.{mask_in}
use Rattle.layer_spec.specs.Rows.{RowKind, Free, Held, Running, Stopped, Zombie, Gone, MainWord, main_place}
use Rattle.roster.specs.Turns.{section_handle, by_word}
use Rattle.layer_turns.specs.OwnTurns.{OwnTurn, goes_to, answers}
use Rattle.kill_calls.specs.declared.one.KillStep.{KillStep}
use Rattle.kill_calls.specs.declared.one.KillStep.TheVariants as kill
use Rattle.kill_calls.specs.declared.one.KillOne.{KillOne}
use Rattle.kill_calls.specs.declared.start.KillStart.{KillStart}
use Rattle.kill_calls.specs.declared.start.KillStart.TheVariants as kill_start
use Rattle.kill_calls.specs.Kill.{kill_posted, kill_after, kill_rank_by}
use Rattle.kill_calls.specs.KillStart.{kill_starts}
use Rattle.child_watch.specs.declared.ending.Ending.{Ending}
use Rattle.child_watch.specs.declared.ending.Ending.TheVariants as ending
use Rattle.child_watch.specs.Exiting.{exit_begun, exit_posted, exit_after, exit_rank}
use Rattle.layer_actor.specs.declared.identity.Identity.{Identity}
use Rattle.layer_actor.specs.declared.start.StartStep.{StartStep}
use Rattle.layer_actor.specs.declared.start.StartStep.TheVariants as start
use Rattle.layer_actor.specs.declared.start.Start.{Start}
use Rattle.layer_actor.specs.declared.local.Local.{Local}
use Rattle.layer_actor.specs.declared.local.Local.TheVariants as local
use Rattle.layer_actor.specs.declared.gets.Asked.{Asked}
use Rattle.layer_actor.specs.declared.gets.Asked.TheVariants as asked
use Rattle.layer_actor.specs.declared.gets.GetStep.{GetStep}
use Rattle.layer_actor.specs.declared.gets.GetStep.TheVariants as get
use Rattle.layer_actor.specs.declared.gets.Gets.{Gets}
use Rattle.layer_actor.specs.declared.idle.Idle.TheVariants as idle
use Rattle.layer_actor.specs.declared.doing.Doing.{Doing}
use Rattle.layer_actor.specs.declared.doing.Doing.TheVariants as doing
use Rattle.layer_actor.specs.Start.{start_posted, start_after, start_rank_by}
use Rattle.layer_actor.specs.Local.{local_posted, local_after, local_rank_by}
use Rattle.layer_actor.specs.Gets.{get_posted, get_after, get_rank_by}
use Rattle.layer_actor.specs.Idle.{idle_posted, idle_rank}

-- the call that each part posts
abbrev pub doing_posted : Doing → Call
doing_posted (doing.Start x) = start_posted x
doing_posted (doing.Look x) = call.Load section_handle (main_place x.row)
doing_posted (doing.Local x) = local_posted x
doing_posted (doing.Gets x) = get_posted x
doing_posted (doing.Kill x) = kill_posted x
doing_posted (doing.Exit x) = exit_posted x
doing_posted (doing.Idle x) = idle_posted x

-- what isn't built rests
abbrev pub rests : Doing
rests = doing.Idle idle.Resting

-- the look at the own main word
abbrev pub looks : Identity → Doing
looks who = doing.Look (record { row = who.row })

-- a call that the process's row answers
abbrev pub gets : Identity → Asked → Doing
gets who a = doing.Gets (record { row = who.row; asked = a; step = get.Grouping })

-- a process ends
abbrev pub exits : Identity → Ending → Doing
exits who e = doing.Exit (exit_begun who.row who.image e)

-- the own number is known without a look
abbrev pub begins_getpid : Identity → Own → OwnTurn Doing
begins_getpid who own =
    answers rests (looks who) own (pos (who.row + 1)) (event.Get (who.row + 1) field.Pid (pos (who.row + 1)))

-- a kill with these values is refused at once, or begins; one of a group isn't built
abbrev pub begins_kill : Identity → Own → (target signal : ℤ) → KillStart → OwnTurn Doing
begins_kill who own q s (kill_start.Refused e) =
    answers rests (looks who) own (error_result e) (event.Kill (who.row + 1) q s (Error e))
begins_kill who own q s (kill_start.One x) = goes_to (doing.Kill x) own
begins_kill who own q s kill_start.Group = goes_to rests own

-- The call that is next begins. A process has one of so many rows. The other calls aren't built.
abbrev pub begins_call : (rows : ℕ) → Identity → Own → Instr → OwnTurn Doing
begins_call rows who own instr.GetPid = begins_getpid who own
begins_call rows who own instr.GetPpid = goes_to (gets who asked.Parent) own
begins_call rows who own instr.GetPgid = goes_to (gets who asked.Group) own
begins_call rows who own instr.GetSid = goes_to (gets who asked.Session) own
begins_call rows who own (instr.Exit v) =
    goes_to (exits who (ending.Exit (low_byte (value_of (image_of own) v)))) own
begins_call rows who own (instr.Kill target signal) =
    begins_kill who own (value_of (image_of own) target) (value_of (image_of own) signal)
    (kill_starts rows (who.row + 1) (value_of (image_of own) target) (value_of (image_of own) signal))
begins_call rows who own _ = goes_to rests own

abbrev pub begins : (rows : ℕ) → Identity → Own → Upcoming → OwnTurn Doing
begins rows who own LocalInstruction = goes_to (doing.Local (local.Running who.row)) own
begins rows who own (CallInstruction i) = begins_call rows who own i
begins rows who own ImageFault = goes_to (exits who ending.Fault) own

-- the instructions of the program that an image runs
abbrev pub code_in : Setup → Own → List Instr
code_in setup own = instructions_of (slice_get setup.programs (program_of (image_of own)))

abbrev pub is_running_kind : RowKind → Bool
is_running_kind Free = false
is_running_kind Held = false
is_running_kind Running = Bool.true
is_running_kind Stopped = false
is_running_kind Zombie = false
is_running_kind Gone = false

-- whether the memory has the regions that a process of the layer has
abbrev pub has_regions : Own → Bool
has_regions own = nat_eq (length own.dat) 64 && nat_eq (length own.cyg) 288

-- whether the process runs and no signal is deliverable
abbrev pub is_free : Own → MainWord → Bool
is_free own m =
    is_running_kind m.kind && (has_regions own && is_none (least (outside m.pending (clean_mask (mask_in own.cyg)))))

-- with the own main word; acting on a signal isn't built
abbrev pub look_by : Setup → Identity → Own → Option MainWord → OwnTurn Doing
look_by setup who own None = goes_to rests own
look_by setup who own (Some m) =
    if is_free own m
    then begins setup.limits.rows who own (upcoming (code_in setup own) (image_of own))
    else goes_to rests own

abbrev pub look_after : Setup → Identity → Own → Reply → OwnTurn Doing
look_after setup who own r = by_word (goes_to rests own) (λ w. look_by setup who own (main_of w)) r

-- a part goes on, or is done, and the next look comes
abbrev pub start_goes : Identity → Start → StartStep → Doing
start_goes who x start.Done = looks who
start_goes who x _ = doing.Start x

abbrev pub local_goes : Identity → Local → Doing
local_goes who local.Done = looks who
local_goes who x = doing.Local x

abbrev pub get_goes : Identity → Gets → GetStep → Doing
get_goes who x get.Done = looks who
get_goes who x _ = doing.Gets x

abbrev pub kill_goes : Identity → KillOne → KillStep → Doing
kill_goes who x kill.Done = looks who
kill_goes who x _ = doing.Kill x

-- where each part goes with a reply over the own bytes
abbrev pub doing_after : Setup → Identity → Doing → Own → Reply → OwnTurn Doing
doing_after setup who (doing.Start x) own r =
    goes_to (start_goes who (start_after x own r) (start_after x own r).step) own
doing_after setup who (doing.Look x) own r = look_after setup who own r
doing_after setup who (doing.Local x) own r =
    record { part = local_goes who (local_after x r).part; own = own; event = (local_after x r).event }
doing_after setup who (doing.Gets x) own r =
    record {
      part = get_goes who (get_after x own r).part (get_after x own r).part.step;
      own = (get_after x own r).own;
      event = (get_after x own r).event;
    }
doing_after setup who (doing.Kill x) own r =
    record {
      part = kill_goes who (kill_after x own r).part (kill_after x own r).part.step;
      own = (kill_after x own r).own;
      event = (kill_after x own r).event;
    }
doing_after setup who (doing.Exit x) own r =
    record { part = doing.Exit (exit_after x own r).part; own = own; event = (exit_after x own r).event }
doing_after setup who (doing.Idle x) own r = goes_to rests own

-- How many turns are left at most before an event other than `look`, a wait or another word found by a
-- compare-exchange. Behind each part but the end comes the next look, which begins the next one.
abbrev pub doing_rank : Doing → ℕ
doing_rank (doing.Start x) = start_rank_by 400 x.step
doing_rank (doing.Look x) = 400
doing_rank (doing.Local x) = local_rank_by 400 x
doing_rank (doing.Gets x) = get_rank_by 400 x.step
doing_rank (doing.Kill x) = kill_rank_by 400 x.step
doing_rank (doing.Exit x) = exit_rank x
doing_rank (doing.Idle x) = idle_rank x
