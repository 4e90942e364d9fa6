-- What single steps of the POSIX machine do and need: fork, exec, and refusals.
use Rattle.std.specs.Prelude.{◌≡◌, ◌≢◌, ℕ, ◌+◌, pos, Bool, true, false, cond, ◌&&◌, not, IsTrue, nat_eq, nat_le, nat_lt}
use Rattle.std.specs.Prelude.{if◌then◌else◌, List, [], length, Option, Some, None, is_some}
use Rattle.std.specs.Option.{unwrap_or}
use Rattle.std.specs.FinSet as set
use Rattle.std.proofs.Common.{refl, sym, ap, subst, ◌∙◌}
use Rattle.std.proofs.lemmas.Bool.{eq-eqb, eqb-true, ne_eqb, and_parts, false≢true}
use Rattle.std.proofs.lemmas.Option.{none-some, cond_some}
use Rattle.w32_base.specs.declared.event.Event.TheVariants as event
use Rattle.w32_base.specs.declared.instr.Instr.{Instr}
use Rattle.w32_base.specs.declared.instr.Instr.TheVariants as instr
use Rattle.script_spec.specs.declared.script.Script.{Script}
use Rattle.vm_spec.specs.Image.{Image, value_of, with_result}
use Rattle.vm_spec.specs.NewImage.{new_image}
use Rattle.w32_base.specs.Names.{is_same}
use Rattle.w32_base.specs.declared.event.Answer.TheVariants.{Zero, Error}
use Rattle.w32_base.specs.declared.event.Errno.TheVariants as errno
use Rattle.w32_base.specs.declared.event.ForkCause.TheVariants as fork_cause
use Rattle.std.proofs.lemmas.List.{nil_from_length}
use Rattle.posix_spec.specs.Numbers.{for_value, error_result, is_same_number, answer_result, is_same_answer}
use Rattle.posix_spec.specs.State.{GroupCall, Record, PosixState, record_of}
use Rattle.posix_spec.specs.Records.{settled, with_record, change_record, children}
use Rattle.posix_spec.specs.Conditions.{next_of, call_of, may_act, own_call, group_step_call, with_results, answered}
use Rattle.posix_spec.specs.Conditions.{for_call, for_group_step}
use Rattle.posix_spec.specs.ForkSteps.{is_fresh, child_of, with_used, fork_step, most_children, fork_fail_step}
use Rattle.posix_spec.specs.ForkSteps.{NumberedProgram, program_named, replaced, exec_to, exec_step}
use Rattle.posix_spec.specs.GroupCalls.{killing_signal, kill_call, ends_with, is_complete, group_answer}
use Rattle.posix_spec.specs.ConsoleSteps.{with_console, console_done_by, console_done_step}
use Rattle.vm_spec.specs.Step.{CallInstruction}
use Rattle.posix_spec.specs.Groups.{has_member}
use Rattle.posix_spec.specs.KillSteps.{killed, One, Group, target_of, kill_answer, is_answer, kill_step, group_done_by}
use Rattle.posix_spec.specs.KillSteps.{group_done_step}
use Rattle.posix_spec.specs.Waits.{Wait, wait_of, matching}
use Rattle.posix_spec.specs.WaitSteps.{find_no_child, no_child_step}
use Rattle.posix_spec.specs.RecordLaws.{record_of-with_record, record_of-change_record}
use Rattle.layer_spec.specs.FateLaws.{for_value_some, guarded}
use Rattle.layer_spec.specs.Consequences.{KeepsProcess}
use Rattle.posix_spec.specs.Run.{PosixStep}
use Rattle.posix_spec.specs.Step.{posix_step}

-- what a call's step did, where the process is known
called : (script : Script) (s : PosixState) (p : ℕ) (step : Record → Instr → Option PosixState) (new : PosixState)
    (r : Record) → record_of s p ≡ Some r → for_call script s p step ≡ Some new
    → (i : Instr) × (own_call script r ≡ Some i) × (step r i ≡ Some new)
called script s p step new r is e =
    let here : for_value (own_call script r) (step r) ≡ Some new =
    subst (λ o. for_value o (λ q. for_value (own_call script q) (step q)) ≡ Some new) is e in
    for_value_some (own_call script r) (step r) new here

fork_done : (script : Script) (s : PosixState) (p c : ℕ) (r : Record) (i : Instr) (new : PosixState)
    → fork_step script s p c r i ≡ Some new
    → ((nat_lt (length (children s p)) most_children && is_fresh script s c) ≡ true)
    × (answered (with_used (with_record s c (child_of p r)) c) p (pos c) ≡ new)
fork_done script s p c r instr.Fork new e =
    cond_some (nat_lt (length (children s p)) most_children && is_fresh script s c)
    (answered (with_used (with_record s c (child_of p r)) c) p (pos c)) new e
fork_done script s p c r _ new e = absurd (none-some new e)

not_both : (b : Bool) → not b ≡ true → b ≡ true → ⊥
not_both true denied holds = false≢true denied
not_both false denied holds = false≢true holds

forked_apart : (script : Script) (s new : PosixState) (p c : ℕ) (r : Record) → p ≢ c → record_of s p ≡ Some r
    → answered (with_used (with_record s c (child_of p r)) c) p (pos c) ≡ new
    → (child : Record) × (record_of new c ≡ Some child) × (child.image ≡ with_result r.image (pos 0) None)
forked_apart script s new p c r apart is done =
    let made : PosixState = with_used (with_record s c (child_of p r)) c in
    let child : Record = settled (child_of p r) in
    let parent : Record = with_results (pos c) None r in
    let parent_stays : record_of made p ≡ Some r =
    record_of-with_record s c (child_of p r) p
    ∙ (ap (λ b. cond b (Some child) (record_of s p)) (ne_eqb p c apart) ∙ is) in
    let child_there : record_of made c ≡ Some child =
    record_of-with_record s c (child_of p r) c ∙ ap (λ b. cond b (Some child) (record_of s c)) (eq-eqb c c refl) in
    let end : with_record made p parent ≡ new =
    sym (record_of-change_record made p (with_results (pos c) None) r parent_stays) ∙ done in
    let there : record_of (with_record made p parent) c ≡ Some child =
    record_of-with_record made p parent c
    ∙ (ap (λ b. cond b (Some (settled parent)) (record_of made c)) (ne_eqb c p (λ same. apart (sym same)))
    ∙ child_there) in
    (child, subst (λ t. record_of t c ≡ Some child) end there, refl)

-- a fresh number isn't used
fresh_apart : (script : Script) (s : PosixState) (p c : ℕ) → is_fresh script s c ≡ true
    → IsTrue (set.contains s.used p) → p ≢ c
fresh_apart script s p c fresh used same =
    let in_range = and_parts (nat_le c (script.setup.limits.rows + 1)) (not (set.contains s.used c))
    (and_parts (nat_le 2 c) (nat_le c (script.setup.limits.rows + 1) && not (set.contains s.used c)) fresh).1 in
    not_both (set.contains s.used c) in_range.1 (subst (λ n. IsTrue (set.contains s.used n)) same used)

-- The child of a fork has the parent's image with result 0, where the parent's number is used.
pub forked : (script : Script) (s new : PosixState) (p c : ℕ) (r : Record) → IsTrue (set.contains s.used p)
    → record_of s p ≡ Some r → PosixStep script s (event.Fork p (pos c)) new
    → (child : Record) × (record_of new c ≡ Some child) × (child.image ≡ with_result r.image (pos 0) None)
unfolding posix_step
forked script s new p c r used is e =
    let found : (i : Instr) × (own_call script r ≡ Some i) × (fork_step script s p c r i ≡ Some new) =
    called script s p (fork_step script s p c) new r is e in
    let done = fork_done script s p c r found.0 new found.2 in
    let fresh : is_fresh script s c ≡ true =
    (and_parts (nat_lt (length (children s p)) most_children) (is_fresh script s c) done.0).1 in
    forked_apart script s new p c r (fresh_apart script s p c fresh used) is done.1

exec_done : (s : PosixState) (p : ℕ) (o : Option NumberedProgram) (new : PosixState) → exec_to s p o ≡ Some new
    → (image : Image) × (change_record s p (replaced image) ≡ new)
exec_done s p None new e = absurd (none-some new e)
exec_done s p (Some found) new e =
    (new_image found.number found.program, ap (λ o. unwrap_or o new) e)

exec_by : (script : Script) (s : PosixState) (p : ℕ) (name : List ℕ) (r : Record) (i : Instr) (new : PosixState)
    → exec_step script s p name r i ≡ Some new → (image : Image) × (change_record s p (replaced image) ≡ new)
exec_by script s p name r (instr.Exec wanted) new e =
    exec_done s p (program_named script name) new
    (guarded (is_same wanted name) (exec_to s p (program_named script name)) new e).1
exec_by script s p name r _ new e = absurd (none-some new e)

-- An exec keeps what it must.
pub executed : (script : Script) (s new : PosixState) (p : ℕ) (name : List ℕ) (old : Record) → record_of s p ≡ Some old
    → PosixStep script s (event.Exec p name) new
    → (next : Record) × (record_of new p ≡ Some next) × KeepsProcess old next
unfolding posix_step
executed script s new p name old is e =
    let found : (i : Instr) × (own_call script old ≡ Some i) × (exec_step script s p name old i ≡ Some new) =
    called script s p (exec_step script s p name) new old is e in
    let done : (image : Image) × (change_record s p (replaced image) ≡ new) =
    exec_by script s p name old found.0 new found.2 in
    let next : Record = settled (replaced done.0 old) in
    let there : record_of (change_record s p (replaced done.0)) p ≡ Some next =
    ap (λ t. record_of t p) (record_of-change_record s p (replaced done.0) old is)
    ∙ (record_of-with_record s p (replaced done.0 old) p
    ∙ ap (λ b. cond b (Some next) (record_of s p)) (eq-eqb p p refl)) in (
      next,
      subst (λ t. record_of t p ≡ Some next) done.1 there,
      record { parent = refl; group = refl; session = refl; mask = refl; pending = refl },
    )

-- refusals

-- A fork is refused for its children where there are as many as there may be.
children_count : (s : PosixState) (p : ℕ) (r : Record) (i : Instr) (new : PosixState)
    → fork_fail_step s p fork_cause.Children r i ≡ Some new → length (children s p) ≡ most_children
children_count s p r instr.Fork new e =
    eqb-true (length (children s p)) most_children
    (guarded (nat_eq (length (children s p)) most_children) (Some (answered s p (error_result errno.EAGAIN))) new e).0
children_count s p r _ new e = absurd (none-some new e)

pub has_most_children : (script : Script) (s new : PosixState) (p : ℕ)
    → PosixStep script s (event.ForkFail p fork_cause.Children) new → length (children s p) ≡ most_children
unfolding posix_step
has_most_children script s new p e =
    let step : Record → Instr → Option PosixState = fork_fail_step s p fork_cause.Children in
    let r = for_value_some (record_of s p) (λ r. for_value (own_call script r) (step r)) new e in
    let i = for_value_some (own_call script r.0) (step r.0) new r.2 in
    children_count s p r.0 i.0 new i.2

-- ESRCH is the answer of a kill for a process that isn't there, and no other.
kill_misses : (o : Option Record)
    → is_answer (if is_some o then Some Zero else Some (Error errno.ESRCH)) (Error errno.ESRCH) ≡ true → o ≡ None
kill_misses None e = refl
kill_misses (Some r) e = absurd (false≢true e)

kill_answered : (s : PosixState) (o : Option ℕ) (q : ℕ) (b : Bool)
    → is_answer (kill_answer s o (if b then Group else One q)) (Error errno.ESRCH) ≡ true → record_of s q ≡ None
kill_answered s None q b e = absurd (false≢true e)
kill_answered s (Some signal) q true e = absurd (false≢true e)
kill_answered s (Some signal) q false e = kill_misses (record_of s q) e

kill_refused : (s : PosixState) (p q signal : ℕ) (r : Record) (i : Instr) (new : PosixState)
    → kill_step s p (pos q) (pos signal) (Error errno.ESRCH) r i ≡ Some new → record_of s q ≡ None
kill_refused s p q signal r (instr.Kill target sent_signal) new e =
    let sends : Option ℕ = killing_signal (pos signal) in
    let answered_so : Bool = is_answer (kill_answer s sends (target_of (pos q))) (Error errno.ESRCH) in
    let test : Bool = is_same_number (pos q) (value_of r.image target) in
    let sent_so : Bool = is_same_number (pos signal) (value_of r.image sent_signal) in
    let all : (test && (sent_so && answered_so)) ≡ true =
    (guarded (test && (sent_so && answered_so))
    (Some (answered (killed s sends (target_of (pos q))) p (answer_result (Error errno.ESRCH)))) new e).0 in
    kill_answered s sends q (nat_eq q 0)
    (and_parts sent_so answered_so (and_parts test (sent_so && answered_so) all).1).1
kill_refused s p q signal r _ new e = absurd (none-some new e)

pub has_no_target : (script : Script) (s new : PosixState) (p q signal : ℕ)
    → PosixStep script s (event.Kill p (pos q) (pos signal) (Error errno.ESRCH)) new → record_of s q ≡ None
unfolding posix_step
has_no_target script s new p q signal e =
    let step : Record → Instr → Option PosixState = kill_step s p (pos q) (pos signal) (Error errno.ESRCH) in
    let r = for_value_some (record_of s p) (λ r. for_value (own_call script r) (step r)) new e in
    let i = for_value_some (own_call script r.0) (step r.0) new r.2 in
    kill_refused s p q signal r.0 i.0 new i.2

-- ESRCH is the answer for a group without a member.
no_member : (b : Bool) → is_same_answer (Error errno.ESRCH) (if b then Zero else Error errno.ESRCH) ≡ true → b ≡ false
no_member true e = absurd (false≢true e)
no_member false e = refl

group_misses : (s : PosixState) (call : GroupCall) (g signal : ℕ)
    → ends_with s call g signal (Error errno.ESRCH) ≡ true → has_member s g ≡ false
group_misses s call g signal e =
    let same_answer : Bool = is_same_answer (Error errno.ESRCH) (group_answer s call) in
    let rest = and_parts (nat_eq g call.group) (nat_eq signal call.signal && (is_complete s call && same_answer)) e in
    let more = and_parts (nat_eq signal call.signal) (is_complete s call && same_answer) rest.1 in
    let last = and_parts (is_complete s call) same_answer more.1 in
    subst (λ n. has_member s n ≡ false) (sym (eqb-true g call.group rest.0))
    (no_member (has_member s call.group) last.1)

console_misses : (s new : PosixState) (g signal : ℕ) → console_done_step s g signal (Error errno.ESRCH) ≡ Some new
    → has_member s g ≡ false
console_misses s new g signal e =
    let c = for_value_some s.console (console_done_by s g signal (Error errno.ESRCH)) new e in
    group_misses s c.0 g signal
    (guarded (ends_with s c.0 g signal (Error errno.ESRCH)) (Some (with_console s None)) new c.2).0

process_misses : (script : Script) (s new : PosixState) (p g signal : ℕ)
    → for_group_step script s p (group_done_step s p g signal (Error errno.ESRCH)) ≡ Some new → has_member s g ≡ false
process_misses script s new p g signal e =
    let step : Record → Instr → Option PosixState = group_done_step s p g signal (Error errno.ESRCH) in
    let r = for_value_some (record_of s p) (λ r. for_value (group_step_call script r) (step r)) new e in
    let i = for_value_some (group_step_call script r.0) (step r.0) new r.2 in
    let c = for_value_some (kill_call r.0 i.0) (group_done_by s p g signal (Error errno.ESRCH)) new i.2 in
    group_misses s c.0 g signal
    (guarded (ends_with s c.0 g signal (Error errno.ESRCH))
    (Some (answered s p (answer_result (Error errno.ESRCH)))) new c.2).0

misses_by : (script : Script) (s new : PosixState) (p g signal : ℕ) (b : Bool)
    → (if b then console_done_step s g signal (Error errno.ESRCH)
    else for_group_step script s p (group_done_step s p g signal (Error errno.ESRCH))) ≡ Some new
    → has_member s g ≡ false
misses_by script s new p g signal true e = console_misses s new g signal e
misses_by script s new p g signal false e = process_misses script s new p g signal e

pub has_no_member : (script : Script) (s new : PosixState) (p g signal : ℕ)
    → PosixStep script s (event.GroupDone p (pos g) (pos signal) (Error errno.ESRCH)) new → has_member s g ≡ false
unfolding posix_step
has_no_member script s new p g signal e = misses_by script s new p g signal (nat_eq p 0) e

-- ECHILD is the answer of a wait that no child matches.
no_child : (s : PosixState) (p : ℕ) (wait : Wait) (new : PosixState) → find_no_child s p wait ≡ Some new
    → matching s wait ≡ []
no_child s p wait new e =
    nil_from_length (matching s wait) (eqb-true (length (matching s wait)) 0
    (guarded (nat_eq (length (matching s wait)) 0) (Some (answered s p (error_result errno.ECHILD))) new e).0)

same_value : {A : Type 0} → (o : Option A) (x y : A) → o ≡ Some x → o ≡ Some y → x ≡ y
same_value o x y e f = ap (λ v. unwrap_or v x) (sym e ∙ f)

pub has_no_child : (script : Script) (s new : PosixState) (p : ℕ) (r : Record) (i : Instr) (wait : Wait)
    → record_of s p ≡ Some r → next_of script r ≡ CallInstruction i → wait_of p r i ≡ Some wait
    → PosixStep script s (event.NoChild p) new → matching s wait ≡ []
unfolding posix_step
has_no_child script s new p r i wait is next waits e =
    let found = called script s p (no_child_step s p) new r is e in
    let own : call_of (next_of script r) ≡ Some found.0 =
    (guarded (may_act script r) (call_of (next_of script r)) found.0 found.1).1 in
    let same : i ≡ found.0 = same_value (Some i) i found.0 refl (ap call_of (sym next) ∙ own) in
    let c = for_value_some (wait_of p r found.0) (find_no_child s p) new found.2 in
    let w : c.0 ≡ wait =
    same_value (wait_of p r found.0) c.0 wait c.1 (subst (λ n. wait_of p r n ≡ Some wait) same waits) in
    subst (λ v. matching s v ≡ []) w (no_child s p c.0 new c.2)
