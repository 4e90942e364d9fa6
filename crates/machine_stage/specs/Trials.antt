-- What a stage does at each call, and what it answers.
use Rattle.std.specs.Prelude.{◌≡◌, ℕ, ◌+◌, Bool, ◌&&◌, nat_lt, if◌then◌else◌, List, [], map, take, slice_get}
use Rattle.std.specs.Prelude.{Option, Some, None, MatchBool}
use Rattle.w32_base.specs.declared.call.Call.{Call}
use Rattle.w32_base.specs.declared.call.Reply.{Reply}
use Rattle.w32_base.specs.declared.entry.Directive.TheVariants as directive
use Rattle.w32_base.specs.declared.own.Own.{Own}
use Rattle.script_spec.specs.Grammar.{IsScript}
use Rattle.win32_spec.specs.State.{Thread, Win32State}
use Rattle.win32_spec.specs.Lookup.{process_in, thread_at}
use Rattle.win32_spec.specs.Opening.{IsOpening}
use Rattle.win32_spec.specs.Run.{Posts, StepBy}
use Rattle.w32_machine.specs.declared.machine.turn.Turned.{Turned}
use Rattle.w32_machine.specs.declared.machine.turn.Turned.TheVariants.{Idle, Done}
use Rattle.w32_machine.specs.Contract.{own_in}
use Rattle.w32_machine.specs.Ending.{outcome_of_end}
use Rattle.w32_machine.specs.Running.{Running}
use Rattle.w32_machine.specs.Turning.{Turns}
use Rattle.machine_stage.specs.Typing.{keys_typed}

-- what a contract sees of a stage: its machine, and how many turns were taken on it
pub record Trial : Type 0 where
  pub machine : Running
  pub turns : ℕ

-- The stage of a text is the machine in the opening state of the text's script, before its first turn, with the keys of
-- the whole schedule typed.
pub record IsStageOf (text : List ℕ) (stage : Trial) : Type 0 where
  pub script : IsScript text stage.machine.script
  pub opening : IsOpening stage.machine.script (record (stage.machine.win32) { keys = [] })
  pub keys : stage.machine.win32.keys ≡ keys_typed stage.machine.script.directives
  pub turns : stage.turns ≡ 0

-- how many turns are taken at the most
abbrev pub most_turns : ℕ
most_turns = 1000000

-- there are slots from 0 to 64, and threads from 0 to 2
abbrev pub is_place : ℕ → ℕ → Bool
is_place slot t = nat_lt slot 65 && nat_lt t 3

-- a thread posts a call; where there is no such thread, nothing changes
abbrev pub PostsBy : Option Thread → Trial → ℕ → ℕ → Call → Trial → Type 0
PostsBy None old slot t call new = new ≡ old
PostsBy (Some x) old slot t call new =
    (new.turns ≡ old.turns) × (new.machine.script ≡ old.machine.script)
    × Posts old.machine.win32 slot t call new.machine.win32

-- a turn with a reply carried a call out, and one without was idle
abbrev pub turned_by : Option Reply → Turned
turned_by None = Idle
turned_by (Some r) = Done r

-- one more turn was taken
pub record IsTurn (old : Trial) (slot t : ℕ) (reply : Option Reply) (new : Trial) : Type 0 where
  pub counted : new.turns ≡ old.turns + 1
  pub script : new.machine.script ≡ old.machine.script
  pub turned : Turns old.machine slot t (turned_by reply) new.machine.win32

-- a thread takes a turn; after the most turns nothing changes, and there is no reply
abbrev pub TakesTurn : Trial → ℕ → ℕ → Option Reply → Trial → Type 0
TakesTurn old slot t reply new =
    MatchBool (nat_lt old.turns most_turns) (IsTurn old slot t reply new) ((reply ≡ None) × (new ≡ old))

-- a thread posts a call, and then takes a turn
pub record PostsAndTurns (old : Trial) (slot t : ℕ) (call : Call) (reply : Option Reply) (new : Trial) : Type 0 where
  pub mid : Trial
  pub posted : PostsBy (thread_at old.machine.win32 slot t) old slot t call mid
  pub taken : TakesTurn mid slot t reply new

-- a call of a thread; with numbers that no thread has, nothing changes, and there is no reply
abbrev pub Calls : Trial → ℕ → ℕ → Call → Option Reply → Trial → Type 0
Calls old slot t call reply new =
    MatchBool (is_place slot t) (PostsAndTurns old slot t call reply new) ((reply ≡ None) × (new ≡ old))

-- the byte at a place of a heap, or none
abbrev pub heap_byte_in : Option Own → ℕ → Option ℕ
heap_byte_in None place = None
heap_byte_in (Some own) place = slice_get own.heap place

-- the byte at a place of the heap of the process in a slot, or none
abbrev pub heap_byte_of : Win32State → ℕ → ℕ → Option ℕ
heap_byte_of s slot place =
    if nat_lt slot 65 then heap_byte_in (own_in (process_in s.processes slot)) place else None

-- the process in a slot ends from outside
pub record IsEnd (old : Trial) (slot : ℕ) (ended : Option ℕ) (new : Trial) : Type 0 where
  pub counted : new.turns ≡ old.turns
  pub script : new.machine.script ≡ old.machine.script
  pub step : StepBy old.machine.script old.machine.win32 (directive.End slot) None (outcome_of_end ended)
      new.machine.win32

-- an end from outside; in slot 0 and past slot 64 nothing changes, and none has ended
abbrev pub Ends : Trial → ℕ → Option ℕ → Trial → Type 0
Ends old slot ended new =
    MatchBool (nat_lt 0 slot && nat_lt slot 65) (IsEnd old slot ended new) ((ended ≡ None) × (new ≡ old))

-- the handle of a number from 1 to 64; another number is that of the last handle
abbrev pub handle_of : ℕ → ℕ
handle_of n = if nat_lt 0 n && nat_lt n 65 then n else 64

-- the handles of the first 40 numbers
abbrev pub handles_of : List ℕ → List ℕ
handles_of ns = map handle_of (take 40 ns)
