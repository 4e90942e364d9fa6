-- The steps that leave raw parents, and the status for the host, as they are: all but fork, reap, die and collect.
use Rattle.std.specs.Prelude.{◌≡◌, ℕ, ℤ, pos, Bool, true, false, cond, nat_eq, List, Option, Some, None}
use Rattle.std.specs.FinMap as map
use Rattle.std.proofs.Common.{refl, ap}
use Rattle.std.proofs.lemmas.Option.{none-some}
use Rattle.w32_base.specs.declared.event.Answer.{Answer}
use Rattle.w32_base.specs.declared.event.Delivery.{Delivery}
use Rattle.w32_base.specs.declared.event.Errno.TheVariants as errno
use Rattle.w32_base.specs.declared.event.Event.{Event}
use Rattle.w32_base.specs.declared.event.Event.TheVariants as event
use Rattle.w32_base.specs.declared.event.ExecCause.{ExecCause}
use Rattle.w32_base.specs.declared.event.ForkCause.{ForkCause}
use Rattle.w32_base.specs.declared.event.NewAction.{NewAction}
use Rattle.w32_base.specs.declared.instr.Action.{Action}
use Rattle.w32_base.specs.declared.instr.Action.TheVariants as action
use Rattle.w32_base.specs.declared.instr.Instr.{Instr}
use Rattle.w32_base.specs.declared.instr.Instr.TheVariants as instr
use Rattle.script_spec.specs.declared.script.Script.{Script}
use Rattle.posix_spec.specs.Numbers.{for_value, natural_of, error_result, answer_result}
use Rattle.posix_spec.specs.State.{Record, PosixState, record_of}
use Rattle.posix_spec.specs.Pending.{with_action, without_signal}
use Rattle.posix_spec.specs.Records.{change_record}
use Rattle.posix_spec.specs.ForkSteps.{NumberedProgram, fork_fail_step, exec_to, exec_step, exec_fail_step, replaced}
use Rattle.posix_spec.specs.ForkSteps.{program_named, exec_result}
use Rattle.posix_spec.specs.KillSteps.{Target, One, Group, Invalid, killed, kill_step, member_step, group_done_step}
use Rattle.posix_spec.specs.KillSteps.{target_of, in_call_for, member_by, group_done_by}
use Rattle.posix_spec.specs.ConsoleSteps.{console_member_step, console_done_step, console_member_by, console_done_by}
use Rattle.posix_spec.specs.ConsoleSteps.{with_console}
use Rattle.posix_spec.specs.SignalCalls.{takes_away, acting, mask_step, with_mask, action_step, suspend_step}
use Rattle.posix_spec.specs.SignalCalls.{return_step, suspended, returned}
use Rattle.posix_spec.specs.SignalActs.{deliver_by, stopped, stop_step, in_handler, is_interrupted}
use Rattle.posix_spec.specs.GroupSteps.{in_group, setpgid_step, leading_session, setsid_step}
use Rattle.posix_spec.specs.TerminalSteps.{with_foreground, with_flags, with_output, with_read, tcset_step, flags_step}
use Rattle.posix_spec.specs.TerminalSteps.{line_step, write_step, line_by, read_from}
use Rattle.posix_spec.specs.Sending.{sent}
use Rattle.posix_spec.specs.Step.{member_of, group_done_of}
use Rattle.posix_spec.specs.GroupCalls.{killing_signal, member_call, kill_call, with_step}
use Rattle.vm_spec.specs.Step.{address_of}
use Rattle.vm_spec.specs.Image.{value_of}
use Rattle.vm_spec.specs.NewImage.{new_image}
use Rattle.posix_spec.specs.Checks.{count_of}
use Rattle.layer_spec.specs.FateLaws.{for_value_some, guarded}
use Rattle.world_spec.specs.ParentLaws.{KeepsParents, same_parents, parents_then, change_keeps, owed_keeps, sent_keeps}
use Rattle.world_spec.specs.ParentLaws.{keeps_if, group_step_keeps, answered_keeps, parent_in}

-- a step that needs a value
pub value_keeps : {A : Type 0} → (s : PosixState) (o : Option A) (step : A → Option PosixState) (new : PosixState)
    → ((x : A) → step x ≡ Some new → KeepsParents s new) → for_value o step ≡ Some new → KeepsParents s new
value_keeps s o step new each e =
    let x = for_value_some o step new e in
    each x.0 x.2

pub number_keeps : (s : PosixState) (v : ℤ) (step : ℕ → Option PosixState) (new : PosixState)
    → ((n : ℕ) → step n ≡ Some new → KeepsParents s new) → for_value (natural_of v) step ≡ Some new → KeepsParents s new
number_keeps s v step new each e = value_keeps s (natural_of v) step new each e

pub numbers_keep : (s : PosixState) (v w : ℤ) (step : ℕ → ℕ → Option PosixState) (new : PosixState)
    → ((m n : ℕ) → step m n ≡ Some new → KeepsParents s new)
    → for_value (natural_of v) (λ m. for_value (natural_of w) (step m)) ≡ Some new → KeepsParents s new
numbers_keep s v w step new each e =
    number_keeps s v (λ m. for_value (natural_of w) (step m)) new (λ m f. number_keeps s w (step m) new (each m) f) e

-- a step of one kind or of another
branch_keeps : (s : PosixState) (b : Bool) (x y : Option PosixState) (new : PosixState)
    → (x ≡ Some new → KeepsParents s new) → (y ≡ Some new → KeepsParents s new) → cond b x y ≡ Some new
    → KeepsParents s new
branch_keeps s true x y new left right e = left e
branch_keeps s false x y new left right e = right e

-- a change of what isn't about processes
pub untouched : (s mid : PosixState) → mid.records ≡ s.records → mid.first_status ≡ s.first_status → KeepsParents s mid
untouched s mid records status = record { parents = λ c. ap (λ m. parent_in (map.get m c)) records; status = status }

pub fork_fail_keeps : (s : PosixState) (p : ℕ) (cause : ForkCause) (r : Record) (i : Instr) (new : PosixState)
    → fork_fail_step s p cause r i ≡ Some new → KeepsParents s new
fork_fail_keeps s p cause r instr.Fork new e =
    keeps_if s _ _ new e (answered_keeps s s p (error_result errno.EAGAIN) (same_parents s))
fork_fail_keeps s p cause r _ new e = absurd (none-some new e)

exec_to_keeps : (s : PosixState) (p : ℕ) (o : Option NumberedProgram) (new : PosixState) → exec_to s p o ≡ Some new
    → KeepsParents s new
exec_to_keeps s p None new e = absurd (none-some new e)
exec_to_keeps s p (Some found) new e =
    keeps_if s true _ new e (change_keeps s p (replaced (new_image found.number found.program)) (λ r _. refl))

pub exec_keeps : (script : Script) (s : PosixState) (p : ℕ) (name : List ℕ) (r : Record) (i : Instr) (new : PosixState)
    → exec_step script s p name r i ≡ Some new → KeepsParents s new
exec_keeps script s p name r (instr.Exec wanted) new e =
    exec_to_keeps s p (program_named script name) new (guarded _ _ new e).1
exec_keeps script s p name r _ new e = absurd (none-some new e)

pub exec_fail_keeps : (script : Script) (s : PosixState) (p : ℕ) (cause : ExecCause) (r : Record) (i : Instr)
    (new : PosixState) → exec_fail_step script s p cause r i ≡ Some new → KeepsParents s new
exec_fail_keeps script s p cause r (instr.Exec name) new e =
    keeps_if s _ _ new e (answered_keeps s s p (exec_result cause) (same_parents s))
exec_fail_keeps script s p cause r _ new e = absurd (none-some new e)

killed_keeps : (s : PosixState) (signal : Option ℕ) (target : Target) → KeepsParents s (killed s signal target)
killed_keeps s None target = same_parents s
killed_keeps s (Some signal) (One q) = sent_keeps s q signal
killed_keeps s (Some signal) Group = same_parents s
killed_keeps s (Some signal) Invalid = same_parents s

pub kill_keeps : (s : PosixState) (p : ℕ) (q signal : ℤ) (answer : Answer) (r : Record) (i : Instr) (new : PosixState)
    → kill_step s p q signal answer r i ≡ Some new → KeepsParents s new
kill_keeps s p q signal answer r (instr.Kill target sent_signal) new e =
    keeps_if s _ _ new e (answered_keeps s (killed s (killing_signal signal) (target_of q)) p (answer_result answer)
    (killed_keeps s (killing_signal signal) (target_of q)))
kill_keeps s p q signal answer r _ new e = absurd (none-some new e)

console_member_keeps : (s : PosixState) (q signal : ℕ) (new : PosixState) → console_member_step s q signal ≡ Some new
    → KeepsParents s new
console_member_keeps s q signal new e = value_keeps s s.console (console_member_by s q signal) new
    (λ call f. keeps_if s _ _ new f (parents_then (sent_keeps s q signal)
    (untouched (sent s q signal) (with_console (sent s q signal) (Some (with_step call q))) refl refl))) e

pub member_keeps : (script : Script) (s : PosixState) (p q signal : ℕ) (new : PosixState)
    → member_of script s p q signal ≡ Some new → KeepsParents s new
member_keeps script s p q signal new e = branch_keeps s (nat_eq p 0) _ _ new (console_member_keeps s q signal new)
    (group_step_keeps script s p (member_step s p q signal) new (λ r i _ f.
    value_keeps s (member_call r i) (member_by s p q signal) new
    (λ call g. keeps_if s _ _ new g (parents_then (sent_keeps s q signal)
    (change_keeps (sent s q signal) p (in_call_for (with_step call q)) (λ r _. refl)))) f)) e

console_done_keeps : (s : PosixState) (g signal : ℕ) (answer : Answer) (new : PosixState)
    → console_done_step s g signal answer ≡ Some new → KeepsParents s new
console_done_keeps s g signal answer new e = value_keeps s s.console (console_done_by s g signal answer) new
    (λ call f. keeps_if s _ _ new f (untouched s (with_console s None) refl refl)) e

pub group_done_keeps : (script : Script) (s : PosixState) (p : ℕ) (answer : Answer) (g signal : ℕ) (new : PosixState)
    → group_done_of script s p answer g signal ≡ Some new → KeepsParents s new
group_done_keeps script s p answer g signal new e =
    branch_keeps s (nat_eq p 0) _ _ new (console_done_keeps s g signal answer new)
    (group_step_keeps script s p (group_done_step s p g signal answer) new (λ r i _ f.
    value_keeps s (kill_call r i) (group_done_by s p g signal answer) new
    (λ call h. keeps_if s _ _ new h (answered_keeps s s p (answer_result answer) (same_parents s))) f)) e

pub mask_keeps : (s : PosixState) (p m : ℕ) (r : Record) (i : Instr) (new : PosixState) → mask_step s p m r i ≡ Some new
    → KeepsParents s new
mask_keeps s p m r (instr.Mask how v) new e = keeps_if s _ _ new e
    (answered_keeps s (change_record s p (with_mask m)) p (pos r.mask) (change_keeps s p (with_mask m) (λ r _. refl)))
mask_keeps s p m r _ new e = absurd (none-some new e)

acting_keeps : (b : Bool) (signal : ℕ) (a : Action) (r : Record)
    → (cond b (without_signal (with_action r signal a) signal) (with_action r signal a)).parent
    ≡ r.parent
acting_keeps true signal a r = refl
acting_keeps false signal a r = refl

pub action_keeps : (s : PosixState) (p : ℕ) (n : NewAction) (signal : ℕ) (r : Record) (i : Instr) (new : PosixState)
    → action_step s p n signal r i ≡ Some new → KeepsParents s new
action_keeps s p n signal r (instr.Action v a) new e = keeps_if s _ _ new e
    (answered_keeps s (change_record s p (acting signal a)) p (pos 0)
    (change_keeps s p (acting signal a) (λ r _. acting_keeps (takes_away a signal) signal a r)))
action_keeps s p n signal r _ new e = absurd (none-some new e)

pub suspend_keeps : (s : PosixState) (p m : ℕ) (r : Record) (i : Instr) (new : PosixState)
    → suspend_step s p m r i ≡ Some new → KeepsParents s new
suspend_keeps s p m r (instr.Suspend v) new e = keeps_if s _ _ new e (change_keeps s p (suspended m) (λ r _. refl))
suspend_keeps s p m r _ new e = absurd (none-some new e)

pub return_keeps : (s : PosixState) (p : ℕ) (r : Record) (i : Instr) (new : PosixState) → return_step s p r i ≡ Some new
    → KeepsParents s new
return_keeps s p r instr.Return new e = keeps_if s true _ new e (change_keeps s p returned (λ r _. refl))
return_keeps s p r _ new e = absurd (none-some new e)

pub deliver_keeps : (script : Script) (s : PosixState) (p signal : ℕ) (how : Delivery) (r : Record) (a : Action)
    (new : PosixState) → deliver_by script s p signal how r a ≡ Some new → KeepsParents s new
deliver_keeps script s p signal how r action.Default new e = absurd (none-some new e)
deliver_keeps script s p signal how r action.Ignore new e = absurd (none-some new e)
deliver_keeps script s p signal how r (action.Handler target restart) new e = keeps_if s _ _ new e
    (change_keeps s p (in_handler (is_interrupted script r restart) signal target) (λ r _. refl))

pub setpgid_keeps : (s : PosixState) (p q g : ℕ) (r : Record) (i : Instr) (new : PosixState)
    → setpgid_step s p q g r i ≡ Some new → KeepsParents s new
setpgid_keeps s p q g r (instr.SetPgid process group) new e = keeps_if s _ _ new e
    (answered_keeps s (change_record s q (in_group g)) p (pos 0) (change_keeps s q (in_group g) (λ r _. refl)))
setpgid_keeps s p q g r _ new e = absurd (none-some new e)

pub setsid_keeps : (s : PosixState) (p : ℕ) (r : Record) (i : Instr) (new : PosixState) → setsid_step s p r i ≡ Some new
    → KeepsParents s new
setsid_keeps s p r instr.SetSid new e = keeps_if s _ _ new e
    (answered_keeps s (change_record s p (leading_session p)) p (pos p)
    (change_keeps s p (leading_session p) (λ r _. refl)))
setsid_keeps s p r _ new e = absurd (none-some new e)

pub tcset_keeps : (s : PosixState) (p g : ℕ) (r : Record) (i : Instr) (new : PosixState)
    → tcset_step s p g r i ≡ Some new → KeepsParents s new
tcset_keeps s p g r (instr.TcSet v) new e = keeps_if s _ _ new e
    (answered_keeps s (with_foreground s g) p (pos 0) (untouched s (with_foreground s g) refl refl))
tcset_keeps s p g r _ new e = absurd (none-some new e)

pub flags_keeps : (s : PosixState) (p n : ℕ) (r : Record) (i : Instr) (new : PosixState)
    → flags_step s p n r i ≡ Some new → KeepsParents s new
flags_keeps s p n r (instr.TtyFlags v) new e = keeps_if s _ _ new e
    (answered_keeps s (with_flags s n) p (pos 0) (untouched s (with_flags s n) refl refl))
flags_keeps s p n r _ new e = absurd (none-some new e)

pub line_keeps : (s : PosixState) (p : ℕ) (n : ℤ) (bytes : List ℕ) (r : Record) (i : Instr) (new : PosixState)
    → line_step s p n bytes r i ≡ Some new → KeepsParents s new
line_keeps s p n bytes r (instr.Read address count) new e =
    let place : ℕ = address_of (value_of r.image address) in
    value_keeps s (read_from s.terminal (count_of (value_of r.image count))) (line_by s p n bytes place) new
    (λ taken f. keeps_if s _ _ new f
    (let mid : PosixState = record s { terminal = taken.terminal } in
    parents_then (untouched s mid refl refl) (change_keeps mid p (with_read place taken.bytes) (λ r _. refl))))
    (guarded _ _ new e).1
line_keeps s p n bytes r _ new e = absurd (none-some new e)

pub write_keeps : (s : PosixState) (p : ℕ) (n : ℤ) (bytes : List ℕ) (r : Record) (i : Instr) (new : PosixState)
    → write_step s p n bytes r i ≡ Some new → KeepsParents s new
write_keeps s p n bytes r (instr.Write address count) new e = keeps_if s _ _ new e
    (answered_keeps s (with_output s bytes) p n (untouched s (with_output s bytes) refl refl))
write_keeps s p n bytes r _ new e = absurd (none-some new e)

pub stop_keeps : (s : PosixState) (p signal : ℕ) (r : Record) (new : PosixState) → record_of s p ≡ Some r
    → stop_step s p signal r ≡ Some new → KeepsParents s new
stop_keeps s p signal r new is e =
    keeps_if s _ _ new e (parents_then (change_keeps s p (stopped signal) (λ other there. refl))
    (owed_keeps (change_record s p (stopped signal)) r.parent))

-- Each of these events leaves them as they are.
abbrev pub keeps_all_parents : Event → Bool
keeps_all_parents (event.Fork p c) = false
keeps_all_parents (event.Reap p c v) = false
keeps_all_parents (event.Die p v cause) = false
keeps_all_parents (event.Collect p) = false
keeps_all_parents _ = true
