-- The state of the POSIX machine.
use Rattle.std.specs.Prelude.{ℕ, Bool, true, false, List, [], Option, None, replicate}
use Rattle.std.specs.Ordering.{nat_cmp}
use Rattle.std.specs.FinMap as map
use Rattle.std.specs.FinSet as set
use Rattle.w32_base.specs.declared.instr.Action.{Action}
use Rattle.w32_base.specs.declared.instr.Action.TheVariants.{Default}
use Rattle.vm_spec.specs.Image.{Image}
use Rattle.tty_spec.specs.Terminal.{Terminal, opening_terminal}

-- a set of process numbers
abbrev pub Numbers : Type 0
Numbers = set.FinSet nat_cmp

-- whether a process runs, was stopped by a signal, or is a zombie with a status
pub data Life : Type 0 where
  Running : Life
  Stopped : (signal : ℕ) → Life
  Zombie : (status : ℕ) → Life

-- a call for a group that has begun: the group, its signal, and the members that have had their step
pub record GroupCall : Type 0 where
  pub group : ℕ
  pub signal : ℕ
  pub members : Numbers

-- the call in progress: none, a wait with the children that were looked at, or one for a group
pub data CallInProgress : Type 0 where
  NoCall : CallInProgress
  WaitCall : (looked_at : Numbers) → CallInProgress
  ForGroup : (call : GroupCall) → CallInProgress

-- A process. `report` is 0, 1 for a stop or 2 for a continue that its parent wasn't told. `pending`, `mask`, `saved`
-- and `lost` are signal sets. `saved` is the mask from before, in a `suspend`. `actions` has the actions of signals 1
-- to 31. `blocked` says that the call waits, `due` that signals go first, `lost` which signals generation took away
-- since the last own event, `owed` how many CHLD are owed.
pub record Record : Type 0 where
  pub parent : ℕ
  pub group : ℕ
  pub session : ℕ
  pub terminal : Bool
  pub execd : Bool
  pub life : Life
  pub report : ℕ
  pub pending : ℕ
  pub mask : ℕ
  pub saved : Option ℕ
  pub actions : List Action
  pub image : Image
  pub call : CallInProgress
  pub blocked : Bool
  pub due : Bool
  pub lost : ℕ
  pub owed : ℕ

-- the processes by their numbers
abbrev pub Records : Type 0
Records = map.FinMap nat_cmp Record

-- The whole state: the processes; the terminal, and what was put out on it, by writes and by the echo of keys; the
-- console's call for a group; the numbers that were used; the status of process 2's death; whether the host has read
-- its code.
pub record PosixState : Type 0 where
  pub records : Records
  pub terminal : Terminal
  pub output : List ℕ
  pub console : Option GroupCall
  pub used : Numbers
  pub first_status : Option ℕ
  pub host_came : Bool

-- the process with this number
abbrev pub record_of : PosixState → ℕ → Option Record
record_of s p = map.get s.records p

-- the first process, with this image
unfoldable pub opening_record : Image → Record
opening_record image = record {
  parent = 1;
  group = 2;
  session = 2;
  terminal = true;
  execd = false;
  life = Running;
  report = 0;
  pending = 0;
  mask = 0;
  saved = None;
  actions = replicate 31 Default;
  image = image;
  call = NoCall;
  blocked = false;
  due = false;
  lost = 0;
  owed = 0;
}

-- the state in which a run begins: process 2, with the image in which it opens
abbrev pub opening : Image → PosixState
opening image = record {
  records = map.insert map.empty 2 (opening_record image);
  terminal = opening_terminal;
  output = [];
  console = None;
  used = set.insert set.empty 2;
  first_status = None;
  host_came = false;
}
