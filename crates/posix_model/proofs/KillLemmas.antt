-- Lemmas of kills.
use Rattle.std.proofs.Common.{◌≡◌, ℕ, ℤ, Bool, true, false, cond, ◌&&◌, Option, Some, None, refl, sym, ◌∙◌, ap}
use Rattle.std.proofs.Common.{eqb-true}
use Rattle.std.proofs.lemmas.Option.{same_Some}
use Rattle.w32_base.specs.declared.event.Answer.{Answer}
use Rattle.w32_base.specs.declared.instr.Instr.{Instr}
use Rattle.w32_base.specs.declared.instr.Instr.TheVariants as instr
use Rattle.vm_spec.specs.Image.{value_of}
use Rattle.posix_spec.specs.Numbers.{is_same_number, answer_result}
use Rattle.posix_spec.specs.State.{CallInProgress, NoCall, WaitCall, ForGroup, GroupCall, Record, PosixState}
use Rattle.posix_spec.specs.Conditions.{answered}
use Rattle.posix_spec.specs.GroupCalls.{killing_signal, begun, begun_for, in_progress, progress_or, kill_call}
use Rattle.posix_spec.specs.GroupCalls.{either_call, member_call, target_group}
use Rattle.posix_spec.specs.GroupCalls.{is_next_member}
use Rattle.posix_spec.specs.KillSteps.{target_of, kill_answer, is_answer, killed, kill_step}
use Rattle.posix_model.specs.Changes.{call_or}
use Rattle.posix_model.specs.Targets.{is_this_kill}

both_and : (a b c : Bool) → (a && (b && c)) ≡ ((a && b) && c)
both_and true b c = refl
both_and false b c = refl

module _ (s : PosixState) (p : ℕ) (q signal : ℤ) (answer : Answer) (r : Record) where
  pub kill_is : (i : Instr) → kill_step s p q signal answer r i ≡ cond (is_this_kill r i q signal && is_answer
      (kill_answer s (killing_signal signal) (target_of q)) answer)
      (Some (answered (killed s (killing_signal signal) (target_of q)) p (answer_result answer))) None
  kill_is (instr.Kill target sent) =
      ap (λ b. cond b (Some (answered (killed s (killing_signal signal) (target_of q)) p (answer_result answer))) None)
      (both_and (is_same_number q (value_of r.image target)) (is_same_number signal (value_of r.image sent))
      (is_answer (kill_answer s (killing_signal signal) (target_of q)) answer))
  kill_is _ = refl

pub and_false : (a : Bool) → (a && false) ≡ false
and_false true = refl
and_false false = refl

-- the call for a group that begins, of those that a process is in
begun_is : (g signal : Option ℕ) (call : GroupCall) → begun_for g signal ≡ Some call → begun call.group call.signal ≡
    call
begun_is None signal call e = cc
begun_is (Some g) None call e = cc
begun_is (Some g) (Some signal) call e = let is = same_Some (begun g signal) call e in
    ap (λ (c : GroupCall). begun c.group c.signal) (sym is) ∙ is

progress_is : (k : CallInProgress) (g signal : Option ℕ) (call : GroupCall) → progress_or k (begun_for g signal) ≡
    Some call → call_or k (begun call.group call.signal) ≡ call
progress_is NoCall g signal call e = begun_is g signal call e
progress_is (WaitCall looked_at) g signal call e = begun_is g signal call e
progress_is (ForGroup c) g signal call e = same_Some c call e

in_progress_is : (k : CallInProgress) (call : GroupCall) → in_progress k ≡ Some call → call_or k (begun call.group
    call.signal) ≡ call
in_progress_is NoCall call e = cc
in_progress_is (WaitCall looked_at) call e = cc
in_progress_is (ForGroup c) call e = same_Some c call e

other_is : (b : Bool) (k : CallInProgress) (call : GroupCall) → cond b (in_progress k) None ≡ Some call → call_or k
    (begun call.group call.signal) ≡ call
other_is true k call e = in_progress_is k call e
other_is false k call e = cc

either_is : (o : Option GroupCall) → either_call o None ≡ o
either_is None = refl
either_is (Some call) = refl

pub member_call_is : (r : Record) (i : Instr) (call : GroupCall) → member_call r i ≡ Some call → call_or r.call
    (begun call.group call.signal) ≡ call
member_call_is r (instr.Kill target signal) call e =
    progress_is r.call (target_group r.group (value_of r.image target)) (killing_signal (value_of r.image signal)) call
    (sym (either_is (kill_call r (instr.Kill target signal))) ∙ e)
member_call_is r (instr.TcSet v) call e = in_progress_is r.call call e
member_call_is r (instr.TtyFlags v) call e = in_progress_is r.call call e
member_call_is r (instr.Read a n) call e = in_progress_is r.call call e
member_call_is r (instr.Write a n) call e = in_progress_is r.call call e
member_call_is r _ call e = cc

last_of : (a b c : Bool) → (a && (b && c)) ≡ true → c ≡ true
last_of true true c e = e
last_of true false c e = cc
last_of false b c e = cc

-- the signal of the next member's step is the call's
pub next_signal : (s : PosixState) (call : GroupCall) (q signal : ℕ) → is_next_member s call q signal ≡ true → signal
    ≡ call.signal
next_signal s call q signal e = eqb-true signal call.signal (last_of _ _ _ e)
