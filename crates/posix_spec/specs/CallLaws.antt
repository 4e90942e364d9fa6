-- What is known of a process that has an event of its own, and of one whose call has ended.
use Rattle.std.specs.Prelude.{◌≡◌, ℕ, Bool, true, false, ◌&&◌, not, nat_lt, if◌then◌else◌, List, length, slice_get}
use Rattle.std.specs.Prelude.{Option, Some, None, is_some}
use Rattle.std.specs.Option.{unwrap_or}
use Rattle.std.proofs.Common.{refl, sym, ap, ◌∙◌, arith, true≢false, inl, inr}
use Rattle.std.proofs.lemmas.Bool.{cases_Bool, or_parts}
use Rattle.w32_base.specs.declared.instr.Instr.{Instr}
use Rattle.w32_base.specs.declared.instr.Instr.TheVariants as instr
use Rattle.script_spec.specs.declared.script.Script.{Script}
use Rattle.vm_spec.specs.Image.{Image, place_of, in_use}
use Rattle.vm_spec.specs.Faults.{instr_faults, faults_at, faults}
use Rattle.vm_spec.specs.Step.{Upcoming, LocalInstruction, CallInstruction, ImageFault, is_local, upcoming_at, upcoming}
use Rattle.posix_spec.specs.State.{Life, Running, Stopped, Zombie, Numbers, GroupCall, CallInProgress, NoCall, WaitCall}
use Rattle.posix_spec.specs.State.{ForGroup, Record}
use Rattle.posix_spec.specs.Pending.{is_running, is_live}
use Rattle.posix_spec.specs.Waits.{looked_at}
use Rattle.posix_spec.specs.GroupCalls.{in_progress}
use Rattle.posix_spec.specs.Conditions.{next_of, call_of, is_group_call, waits_for_signal, may_go_on, may_act, own_call}
use Rattle.posix_spec.specs.Conditions.{group_step_call, call_ended}
use Rattle.posix_spec.specs.DeathSteps.{is_zombie}
use Rattle.posix_spec.specs.SignalLaws.{first_of, second_of}
use Rattle.posix_spec.specs.WellFormed.{IsImage, HasCall, IsSuspended, IsWellFormedRecord, is_suspend_next}
use Rattle.posix_spec.specs.KeepLaws.{IsSound, sound_of, Keeps}

-- ---- cases that differ

pub none_some : {A : Type 0} (x : A) → None ≡ Some x → ⊥
none_some x e = true≢false (sym (ap is_some e))

is_wait_call : CallInProgress → Bool
is_wait_call NoCall = false
is_wait_call (WaitCall numbers) = true
is_wait_call (ForGroup call) = false

pub no_wait : (numbers : Numbers) → NoCall ≡ WaitCall numbers → ⊥
unfolding is_wait_call
no_wait numbers e = true≢false (sym (ap is_wait_call e))

pub group_no_wait : (call : GroupCall) (numbers : Numbers) → ForGroup call ≡ WaitCall numbers → ⊥
unfolding is_wait_call
group_no_wait call numbers e = true≢false (sym (ap is_wait_call e))

pub no_group : (call : GroupCall) → NoCall ≡ ForGroup call → ⊥
no_group call e = true≢false (sym (ap is_group_call e))

pub wait_no_group : (numbers : Numbers) (call : GroupCall) → WaitCall numbers ≡ ForGroup call → ⊥
wait_no_group numbers call e = true≢false (sym (ap is_group_call e))

pub same_wait : (a b : Numbers) → WaitCall a ≡ WaitCall b → a ≡ b
same_wait a b e = ap looked_at e

pub same_group_call : (a b : GroupCall) → ForGroup a ≡ ForGroup b → a ≡ b
same_group_call a b e = ap (λ c. unwrap_or (in_progress c) a) e

pub running_not_zombie : (life : Life) → is_running life ≡ true → is_zombie life ≡ true → ⊥
running_not_zombie Running run dead = true≢false (sym dead)
running_not_zombie (Stopped s) run dead = true≢false (sym run)
running_not_zombie (Zombie v) run dead = true≢false (sym run)

pub running_is_live : (life : Life) → is_running life ≡ true → is_live life ≡ true
running_is_live Running run = refl
running_is_live (Stopped s) run = absurd (true≢false (sym run))
running_is_live (Zombie v) run = absurd (true≢false (sym run))

pub negation : (b : Bool) → not b ≡ true → b ≡ false
negation true e = absurd (true≢false (sym e))
negation false e = refl

-- ---- a process whose own call is next

pub record IsCalling (script : Script) (r : Record) (i : Instr) : Type 0 where
  pub running : is_running r.life ≡ true
  pub not_due : r.due ≡ false
  pub outside_group : is_group_call r.call ≡ false
  pub awake : (r.blocked && waits_for_signal (next_of script r)) ≡ false
  pub next : next_of script r ≡ CallInstruction i

-- and one in a call for a group, or that begins it
pub record IsStepping (script : Script) (r : Record) (i : Instr) : Type 0 where
  pub running : is_running r.life ≡ true
  pub not_due : r.due ≡ false
  pub next : next_of script r ≡ CallInstruction i

next_is : (u : Upcoming) (i : Instr) → call_of u ≡ Some i → u ≡ CallInstruction i
next_is LocalInstruction i e = absurd (none_some i e)
next_is (CallInstruction j) i e = ap CallInstruction (ap (λ o. unwrap_or o j) e)
next_is ImageFault i e = absurd (none_some i e)

-- where one of two answers is given, the test has passed
pub only_if : {A : Type 0} (b : Bool) (o : Option A) (x : A) → (if b then o else None) ≡ Some x →
    (b ≡ true) × (o ≡ Some x)
only_if true o x e = (refl, e)
only_if false o x e = absurd (none_some x e)

pub own_call-is : (script : Script) (r : Record) (i : Instr) → own_call script r ≡ Some i → IsCalling script r i
own_call-is script r i e =
    let found = only_if (may_act script r) (call_of (next_of script r)) i e in
    let go = first_of (may_go_on r) (not (is_group_call r.call) && not
    (r.blocked && waits_for_signal (next_of script r))) found.0 in
    let rest = second_of (may_go_on r) (not (is_group_call r.call) && not
    (r.blocked && waits_for_signal (next_of script r))) found.0 in
    record {
      running = first_of (is_running r.life) (not r.due) go;
      not_due = negation r.due (second_of (is_running r.life) (not r.due) go);
      outside_group = negation (is_group_call r.call)
          (first_of (not (is_group_call r.call)) (not (r.blocked && waits_for_signal (next_of script r))) rest);
      awake = negation (r.blocked && waits_for_signal (next_of script r))
          (second_of (not (is_group_call r.call)) (not (r.blocked && waits_for_signal (next_of script r))) rest);
      next = next_is (next_of script r) i found.1;
    }

pub group_step_call-is : (script : Script) (r : Record) (i : Instr) → group_step_call script r ≡ Some i → IsStepping
    script r i
group_step_call-is script r i e =
    let found = only_if (may_go_on r) (call_of (next_of script r)) i e in
    record {
      running = first_of (is_running r.life) (not r.due) found.0;
      not_due = negation r.due (second_of (is_running r.life) (not r.due) found.0);
      next = next_is (next_of script r) i found.1;
    }

-- ---- a process that runs, outside a suspend

pub record IsActing (r : Record) : Type 0 where
  pub running : is_running r.life ≡ true
  pub unsaved : r.saved ≡ None

suspend_waits : (u : Upcoming) → is_suspend_next u ≡ true → waits_for_signal u ≡ true
suspend_waits (CallInstruction (instr.Suspend v)) e = refl
suspend_waits _ e = absurd (true≢false (sym e))

in_suspend : (blocked : Bool) (u : Upcoming) → IsSuspended u blocked → (blocked && waits_for_signal u) ≡ true
in_suspend true u h = suspend_waits u h.is_next
in_suspend false u h = h.is_blocked

pub IsActing-calling : (script : Script) (used : Numbers) (p : ℕ) (r : Record) (i : Instr) → IsWellFormedRecord script
    used p r →
    IsCalling script r i → IsActing r
IsActing-calling script used p r i w c = record {
  running = c.running;
  unsaved = elim r.saved as (λ o. r.saved ≡ o → o ≡ None) [
    | None ↦ λ _. refl
    | Some m ↦ λ is. absurd (true≢false (sym
        (in_suspend r.blocked (next_of script r) (w.calls.suspended m is (running_is_live r.life c.running))) ∙
        c.awake))
  ] refl;
}

-- in a call for a group the next instruction is no suspend
pub IsActing-stepping : (script : Script) (used : Numbers) (p : ℕ) (r : Record) (i : Instr) → IsWellFormedRecord
    script used p r →
    IsStepping script r i → is_suspend_next (CallInstruction i) ≡ false → IsActing r
IsActing-stepping script used p r i w c other = record {
  running = c.running;
  unsaved = elim r.saved as (λ o. r.saved ≡ o → o ≡ None) [
    | None ↦ λ _. refl
    | Some m ↦ λ is. absurd (true≢false (sym (w.calls.suspended m is (running_is_live r.life c.running)).is_next ∙ ap
        is_suspend_next c.next ∙ other))
  ] refl;
}

-- ---- no call is in progress

pub HasCall-none : (next : Upcoming) (used : Numbers) (live due : Bool) (saved : Option ℕ) → saved ≡ None →
    HasCall next used live saved NoCall false due
HasCall-none next used live due saved none = record {
  may_block = λ e. absurd (true≢false (sym e));
  suspended = λ m is _. absurd (none_some m (sym none ∙ is));
  wait_call = λ numbers is. absurd (no_wait numbers is);
  group_call = λ call is. absurd (no_group call is);
}

-- the call of a process ends, which has this image then
pub IsSound-ended : (script : Script) (used : Numbers) (p : ℕ) (r : Record) (image : Image) → IsSound script used p r →
    IsActing r → IsImage script image → IsSound script used p (call_ended (record r { image = image }))
IsSound-ended script used p r image w a h = record {
  numbers = w.numbers;
  lives = w.lives;
  notes = λ dead. absurd (running_not_zombie r.life a.running dead);
  signals = record {
    pending_signals = w.signals.pending_signals;
    lost_signals = omega arith;
    is_mask = w.signals.is_mask;
    saved_mask = w.signals.saved_mask;
    action_count = w.signals.action_count;
    kill_action = w.signals.kill_action;
    stop_action = w.signals.stop_action;
  };
  runs = h;
  calls = HasCall-none _ used _ _ r.saved a.unsaved;
}

pub Keeps-ended : (script : Script) (used : Numbers) (p : ℕ) (r : Record) (image : Image) → IsWellFormedRecord script
    used p r →
    IsActing r → IsImage script image → Keeps script used p r (call_ended (record r { image = image }))
Keeps-ended script used p r image w a h = record {
  sound = IsSound-ended script used p r image (sound_of w) a h;
  place = record { parent = refl; group = refl; session = refl; death = refl };
}

-- ---- the next instruction is a call

-- the call at the next place, which doesn't fault
pub record IsNextCall (code : List Instr) (image : Image) (i : Instr) : Type 0 where
  pub at : slice_get code (place_of image) ≡ Some i
  pub carried_out : instr_faults i image ≡ false

some_call : (o : Option Instr) (i : Instr) → upcoming_at o ≡ CallInstruction i → o ≡ Some i
some_call None i e = absurd (none_some i (ap call_of e))
some_call (Some j) i e =
    elim (is_local j) as (λ b. (if b then LocalInstruction else CallInstruction j) ≡ CallInstruction i → Some j ≡ Some
    i) [
      | true ↦ λ local. absurd (none_some i (ap call_of local))
      | false ↦ λ call. ap call_of call
    ] e

pub next_call : (code : List Instr) (image : Image) (i : Instr) → upcoming code image ≡ CallInstruction i → IsNextCall
    code image i
unfolding upcoming
next_call code image i e =
    elim (cases_Bool (faults code image)) [
      | inl fault ↦ absurd (none_some i (ap call_of
          (sym (ap (λ b. if b then ImageFault else upcoming_at (slice_get code (place_of image))) fault) ∙ e)))
      | inr fine ↦
          let at = some_call (slice_get code (place_of image)) i
          (sym (ap (λ b. if b then ImageFault else upcoming_at (slice_get code (place_of image))) fine) ∙ e) in
          let parts = or_parts (nat_lt (length image.stack) (in_use image))
          (faults_at (slice_get code (place_of image)) image) fine in
          record { at = at; carried_out = ap (λ o. faults_at o image) (sym at) ∙ parts.1 }
    ]
