-- What is known of calls for a group, and that other parts of a state than its processes may change.
use Rattle.std.specs.Prelude.{◌≡◌, ℕ, ◌≤◌, ℤ, pos, negsuc, true, false, ◌&&◌, ◌||◌, nat_eq, nat_le, if◌then◌else◌}
use Rattle.std.specs.Prelude.{Option, Some, None}
use Rattle.std.specs.Option.{unwrap_or}
use Rattle.std.specs.Ordering.{nat_cmp, eq_by_cmp}
use Rattle.std.specs.Cmp.{nat_cmp_total}
use Rattle.std.specs.FinSet as set
use Rattle.std.proofs.Common.{refl, sym, ap, subst, ◌∙◌, arith, true≢false, leb-true}
use Rattle.std.proofs.lemmas.Bool.{cond_both}
use Rattle.w32_base.specs.declared.instr.Instr.{Instr}
use Rattle.w32_base.specs.declared.instr.Instr.TheVariants as instr
use Rattle.script_spec.specs.declared.script.Script.{Script}
use Rattle.vm_spec.specs.Image.{value_of}
use Rattle.vm_spec.specs.Step.{CallInstruction}
use Rattle.posix_spec.specs.Numbers.{natural_within}
use Rattle.posix_spec.specs.Signals.{continue_signal}
use Rattle.posix_spec.specs.State.{Numbers, GroupCall, CallInProgress, NoCall, WaitCall, ForGroup, Record, PosixState}
use Rattle.posix_spec.specs.State.{record_of}
use Rattle.posix_spec.specs.Pending.{is_stopped}
use Rattle.posix_spec.specs.Records.{changed_at, change_record}
use Rattle.posix_spec.specs.Sending.{generated, owed_more, owed_for, sent}
use Rattle.posix_spec.specs.GroupCalls.{begun, killing_signal, target_group, begun_for, in_progress, progress_or}
use Rattle.posix_spec.specs.GroupCalls.{either_call, member_call}
use Rattle.posix_spec.specs.EntryLaws.{same_number}
use Rattle.posix_spec.specs.WellFormed.{IsUsed, AreUsed, IsGroupCall, IsWellFormedRecord, is_group_next}
use Rattle.posix_spec.specs.CallLaws.{none_some}

-- ---- used numbers

pub AreUsed-empty : (used : Numbers) → AreUsed used set.empty
AreUsed-empty used n is = absurd (true≢false (sym is ∙ set.contains-empty nat_cmp n))

pub AreUsed-insert : (used numbers : Numbers) (q : ℕ) → AreUsed used numbers → IsUsed used q → AreUsed used
    (set.insert numbers q)
AreUsed-insert used numbers q all one n is =
    elim (eq_by_cmp nat_cmp n q) as (λ b. eq_by_cmp nat_cmp n q ≡ b → (b || set.contains numbers n) ≡ true → IsUsed
    used n) [
      | true ↦ λ same _. subst (IsUsed used) (sym (same_number n q same)) one
      | false ↦ λ _ there. all n there
    ] refl (sym (set.contains-insert nat_cmp_total numbers q n) ∙ is)

used-changed_at : (s : PosixState) (p : ℕ) (change : Record → Record) (o : Option Record) →
    (changed_at s p change o).used ≡ s.used
used-changed_at s p change None = refl
used-changed_at s p change (Some r) = refl

pub used-change_record : (s : PosixState) (p : ℕ) (change : Record → Record) → (change_record s p change).used ≡ s.used
used-change_record s p change = used-changed_at s p change (record_of s p)

used-owed_for : (signal : ℕ) (o : Option Record) (s : PosixState) → (owed_for signal o s).used ≡ s.used
used-owed_for signal None s = refl
used-owed_for signal (Some r) s =
    cond_both (nat_eq signal continue_signal && is_stopped r.life) (change_record s r.parent owed_more) s
    (λ t. t.used ≡ s.used)
    (λ _. used-change_record s r.parent owed_more) (λ _. refl)

pub used-sent : (s : PosixState) (q signal : ℕ) → (sent s q signal).used ≡ s.used
used-sent s q signal =
    used-owed_for signal (record_of s q) (change_record s q (generated signal)) ∙ used-change_record s q
    (generated signal)

-- ---- where a call for a group comes from

-- what holds of it whatever its group is
pub record IsPartCall (used : Numbers) (call : GroupCall) : Type 0 where
  pub signal : call.signal ≤ 31
  pub members : AreUsed used call.members

part_of : {used : Numbers} {call : GroupCall} → IsGroupCall used call → IsPartCall used call
part_of h = record { signal = h.signal; members = h.members }

within : (z : ℤ) (n : ℕ) → natural_within 31 z ≡ Some n → n ≤ 31
within (pos k) n is =
    elim (nat_le k 31) as (λ b. nat_le k 31 ≡ b → (if b then Some k else None) ≡ Some n → n ≤ 31) [
      | true ↦ λ low e. let same : k ≡ n = ap (λ o. unwrap_or o k) e in omega (arith, leb-true k 31 low)
      | false ↦ λ _ e. absurd (none_some n e)
    ] refl is
within (negsuc k) n is = absurd (none_some n is)

begun_part : (used : Numbers) (group : Option ℕ) (z : ℤ) (o : Option ℕ) (call : GroupCall) → natural_within 31 z ≡ o →
    begun_for group o ≡ Some call → IsPartCall used call
begun_part used None z o call is e = absurd (none_some call e)
begun_part used (Some g) z None call is e = absurd (none_some call e)
begun_part used (Some g) z (Some n) call is e =
    let same : begun g n ≡ call = ap (λ o. unwrap_or o (begun g n)) e in
    subst (IsPartCall used) same (record { signal = within z n is; members = AreUsed-empty used })

only_first : (o : Option GroupCall) (call : GroupCall) → either_call o None ≡ Some call → o ≡ Some call
only_first None call e = e
only_first (Some c) call e = e

in_progress_is : (c : CallInProgress) (call : GroupCall) → in_progress c ≡ Some call → c ≡ ForGroup call
in_progress_is NoCall call e = absurd (none_some call e)
in_progress_is (WaitCall numbers) call e = absurd (none_some call e)
in_progress_is (ForGroup other) call e = ap ForGroup (ap (λ o. unwrap_or o other) e)

module _ (script : Script) (used : Numbers) (p : ℕ) (r : Record) (w : IsWellFormedRecord script used p r) where
  progress_part : (begins : Option GroupCall) (call : GroupCall) → (begins ≡ Some call → IsPartCall used call) →
      (c : CallInProgress) → r.call ≡ c → progress_or c begins ≡ Some call → IsPartCall used call
  progress_part begins call h NoCall is e = h e
  progress_part begins call h (WaitCall numbers) is e = h e
  progress_part begins call h (ForGroup other) is e =
      part_of (w.calls.group_call call (is ∙ in_progress_is (ForGroup other) call e)).steps

  in_progress_part : (call : GroupCall) → in_progress r.call ≡ Some call → IsPartCall used call
  in_progress_part call e = part_of (w.calls.group_call call (in_progress_is r.call call e)).steps

  -- a member's step is one of a call that goes through a group, and its call is sound but for its group
  pub member_part : (i : Instr) (call : GroupCall) → member_call r i ≡ Some call →
      (is_group_next (CallInstruction i) ≡ true) × IsPartCall used call
  member_part (instr.Kill target signal) call e = (
    refl,
    progress_part (begun_for (target_group r.group (value_of r.image target))
        (killing_signal (value_of r.image signal))) call
        (begun_part used (target_group r.group (value_of r.image target)) (value_of r.image signal) _ call refl)
        r.call refl (only_first _ call e),
  )
  member_part (instr.TcSet v) call e = (refl, in_progress_part call e)
  member_part (instr.TtyFlags v) call e = (refl, in_progress_part call e)
  member_part (instr.Read address count) call e = (refl, in_progress_part call e)
  member_part (instr.Write address count) call e = (refl, in_progress_part call e)
  member_part _ call e = absurd (none_some call e)
