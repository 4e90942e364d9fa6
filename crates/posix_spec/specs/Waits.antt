-- What a wait asks for, and what it reports of a child (POSIX.1-2017, XSH waitpid).
use Rattle.std.specs.Prelude.{ℕ, ◌+◌, ℤ, pos, negsuc, Bool, true, ◌&&◌, ◌||◌, not, nat_eq, nat_lt, if◌then◌else◌, List}
use Rattle.std.specs.Prelude.{length, Option, Some, None, is_some, bit_and}
use Rattle.std.specs.List.{list_all}
use Rattle.std.specs.FinSet as set
use Rattle.w32_base.specs.declared.instr.Instr.{Instr}
use Rattle.w32_base.specs.declared.instr.Instr.TheVariants as instr
use Rattle.vm_spec.specs.Image.{value_of}
use Rattle.posix_spec.specs.Numbers.{natural_within}
use Rattle.posix_spec.specs.State.{Life, Running, Stopped, Zombie, Numbers, CallInProgress, NoCall, WaitCall, ForGroup}
use Rattle.posix_spec.specs.State.{Record, PosixState}
use Rattle.posix_spec.specs.Records.{numbers_of}

-- a wait of a process in a group, with its selector and its flags
pub record Wait : Type 0 where
  pub parent : ℕ
  pub group : ℕ
  pub selector : ℤ
  pub flags : ℕ

-- the flags, from 0 to 7: NOHANG (1) doesn't wait, UNTRACED (2) tells of stops, CONTINUED (4) of continues
abbrev pub wait_flags : ℤ → Option ℕ
wait_flags flags = natural_within 7 flags

abbrev pub wait_with : ℕ → ℕ → ℤ → Option ℕ → Option Wait
wait_with p group selector None = None
wait_with p group selector (Some flags) =
    Some (record { parent = p; group = group; selector = selector; flags = flags })

-- the wait that is next in a process, where its flags are valid
abbrev pub wait_of : ℕ → Record → Instr → Option Wait
wait_of p r (instr.Wait selector flags) =
    wait_with p r.group (value_of r.image selector) (wait_flags (value_of r.image flags))
wait_of p r _ = None

abbrev pub has_nohang : Wait → Bool
has_nohang wait = not (nat_eq (bit_and wait.flags 1) 0)

abbrev pub has_untraced : Wait → Bool
has_untraced wait = not (nat_eq (bit_and wait.flags 2) 0)

abbrev pub has_continued : Wait → Bool
has_continued wait = not (nat_eq (bit_and wait.flags 4) 0)

-- The children that a selector names: -1 any; above 0 that child; 0 those in the caller's group; below -1 those in the
-- group of the absolute value.
abbrev pub is_selected : ℤ → ℕ → ℕ → Record → Bool
is_selected (pos n) group c child = if nat_eq n 0 then nat_eq child.group group else nat_eq c n
is_selected (negsuc n) group c child = if nat_eq n 0 then true else nat_eq child.group (n + 1)

-- whether a process is a child that matches; zombies count
abbrev pub is_match : Wait → ℕ → Record → Bool
is_match wait c child = nat_eq child.parent wait.parent && is_selected wait.selector wait.group c child

abbrev pub matching : PosixState → Wait → List ℕ
matching s wait = numbers_of s (is_match wait)

-- the status value of a stop by a signal, and of a continue
abbrev pub stop_status : ℕ → ℕ
stop_status signal = 512 + signal

abbrev pub continue_status : ℕ
continue_status = 1024

-- the status value of a stop or of a continue that the wait reports; `report` is 1 for a stop and 2 for a continue
abbrev pub change_by_life : Wait → Life → ℕ → Option ℕ
change_by_life wait Running report = if has_continued wait && nat_eq report 2 then Some continue_status else None
change_by_life wait (Stopped s) report = if has_untraced wait && nat_eq report 1 then Some (stop_status s) else None
change_by_life wait (Zombie v) report = None

abbrev pub change_to_report : Wait → Record → Option ℕ
change_to_report wait child = change_by_life wait child.life child.report

abbrev pub death_to_report : Life → Option ℕ
death_to_report Running = None
death_to_report (Stopped s) = None
death_to_report (Zombie v) = Some v

-- whether the wait has something to report of a child
abbrev pub has_report : Wait → Record → Bool
has_report wait child = is_some (death_to_report child.life) || is_some (change_to_report wait child)

-- the children that the call in progress has looked at
abbrev pub looked_at : CallInProgress → Numbers
looked_at NoCall = set.empty
looked_at (WaitCall numbers) = numbers
looked_at (ForGroup call) = set.empty

abbrev pub has_looked_at_each : Numbers → List ℕ → Bool
has_looked_at_each looked numbers = nat_lt 0 (length numbers) && list_all (set.contains looked) numbers

-- whether some child matches, and each that does was looked at in the call in progress
abbrev pub has_looked_at_all : PosixState → CallInProgress → Wait → Bool
has_looked_at_all s call wait = has_looked_at_each (looked_at call) (matching s wait)
