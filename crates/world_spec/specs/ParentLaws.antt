-- What a step of the POSIX machine leaves of raw parents, and of the status that is kept for the host.
use Rattle.std.specs.Prelude.{◌≡◌, ℕ, ℤ, Bool, true, false, cond, ◌&&◌, nat_eq, Option, Some, None}
use Rattle.std.specs.Option.{option_map, unwrap_or}
use Rattle.std.proofs.Common.{refl, sym, ap, subst, ◌∙◌}
use Rattle.std.proofs.lemmas.Bool.{eqb-true}
use Rattle.script_spec.specs.declared.script.Script.{Script}
use Rattle.w32_base.specs.declared.instr.Instr.{Instr}
use Rattle.posix_spec.specs.Numbers.{for_value}
use Rattle.posix_spec.specs.State.{Life, Running, Stopped, Zombie, Record, PosixState, record_of}
use Rattle.posix_spec.specs.Pending.{is_live, is_stopped}
use Rattle.posix_spec.specs.Records.{settled, with_record, changed_at, change_record}
use Rattle.posix_spec.specs.RecordLaws.{record_of-with_record}
use Rattle.posix_spec.specs.Conditions.{own_call, group_step_call, for_process, for_call, for_group_step, with_results}
use Rattle.posix_spec.specs.Conditions.{answered, answered_both}
use Rattle.posix_spec.specs.Signals.{continue_signal}
use Rattle.layer_spec.specs.FateLaws.{for_value_some, guarded}
use Rattle.posix_spec.specs.Sending.{owed_more, with_generated, continued, generated, generated_by_life, owed_for, sent}

-- the raw parent of the process with a number, where there is one
abbrev pub parent_in : Option Record → Option ℕ
parent_in o = option_map (λ (r : Record). r.parent) o

abbrev pub parent_of : PosixState → ℕ → Option ℕ
parent_of s c = parent_in (record_of s c)

-- the same processes are there, each with its raw parent, and the status is the same
pub record KeepsParents (s new : PosixState) : Type 0 where
  pub parents : (c : ℕ) → parent_of new c ≡ parent_of s c
  pub status : new.first_status ≡ s.first_status

pub same_parents : (s : PosixState) → KeepsParents s s
same_parents s = record { parents = λ c. refl; status = refl }

pub parents_then : {s mid new : PosixState} → KeepsParents s mid → KeepsParents mid new → KeepsParents s new
parents_then a b = record { parents = λ c. b.parents c ∙ a.parents c; status = b.status ∙ a.status }

-- a process is changed that keeps its raw parent
parent_at : (s : PosixState) (p c : ℕ) (old new : Record) (b : Bool) → nat_eq c p ≡ b → record_of s p ≡ Some old
    → new.parent ≡ old.parent
    → parent_in (cond b (Some (settled new)) (record_of s c)) ≡ parent_of s c
parent_at s p c old new true same is keeps =
    ap Some keeps ∙ sym (ap parent_in (subst (λ n. record_of s n ≡ Some old) (sym (eqb-true c p same)) is))
parent_at s p c old new false same is keeps = refl

pub with_record_keeps : (s : PosixState) (p : ℕ) (old new : Record) → record_of s p ≡ Some old
    → new.parent ≡ old.parent → KeepsParents s (with_record s p new)
with_record_keeps s p old new is keeps = record {
  parents = λ c. ap parent_in (record_of-with_record s p new c) ∙ parent_at s p c old new (nat_eq c p) refl is keeps;
  status = refl;
}

changed_keeps : (s : PosixState) (p : ℕ) (change : Record → Record) (o : Option Record) → record_of s p ≡ o
    → ((r : Record) → o ≡ Some r → (change r).parent ≡ r.parent)
    → KeepsParents s (changed_at s p change o)
changed_keeps s p change None is harmless = same_parents s
changed_keeps s p change (Some r) is harmless = with_record_keeps s p r (change r) is (harmless r refl)

pub change_keeps : (s : PosixState) (p : ℕ) (change : Record → Record)
    → ((r : Record) → record_of s p ≡ Some r → (change r).parent ≡ r.parent)
    → KeepsParents s (change_record s p change)
change_keeps s p change harmless = changed_keeps s p change (record_of s p) refl harmless

-- signals, and what a parent is owed
more_owed : (b : Bool) (r other : Record) → other.parent ≡ r.parent
    → (cond b other r).parent ≡ r.parent
more_owed true r other e = e
more_owed false r other e = refl

pub owed_keeps : (s : PosixState) (p : ℕ) → KeepsParents s (change_record s p owed_more)
owed_keeps s p = change_keeps s p owed_more (λ r _. more_owed (is_live r.life) r _ refl)

either_parent : (b : Bool) (x y : Record) (n : ℕ) → x.parent ≡ n → y.parent ≡ n → (cond b x y).parent ≡ n
either_parent true x y n at_x at_y = at_x
either_parent false x y n at_x at_y = at_y

generated_parent : (signal : ℕ) (r : Record) (l : Life) → (generated_by_life l signal r).parent ≡ r.parent
generated_parent signal r Running = refl
generated_parent signal r (Stopped t) =
    either_parent (nat_eq signal continue_signal) (continued (with_generated signal r))
    (with_generated signal r) r.parent
    refl refl
generated_parent signal r (Zombie v) = refl

or_same : (b : Bool) (r other : Record) → other.parent ≡ r.parent
    → (cond b r other).parent ≡ r.parent
or_same true r other e = refl
or_same false r other e = e

pub generated_keeps : (signal : ℕ) (r : Record) → (generated signal r).parent ≡ r.parent
generated_keeps signal r =
    or_same (nat_eq signal 0) r (generated_by_life r.life signal r) (generated_parent signal r r.life)

owed_when : (b : Bool) (s mid : PosixState) (p : ℕ) → KeepsParents s mid
    → KeepsParents s (cond b (change_record mid p owed_more) mid)
owed_when true s mid p keeps = parents_then keeps (owed_keeps mid p)
owed_when false s mid p keeps = keeps

owed_for_keeps : (s mid : PosixState) (signal : ℕ) (o : Option Record) → KeepsParents s mid
    → KeepsParents s (owed_for signal o mid)
owed_for_keeps s mid signal None keeps = keeps
owed_for_keeps s mid signal (Some r) keeps =
    owed_when (nat_eq signal continue_signal && is_stopped r.life) s mid r.parent keeps

pub sent_keeps : (s : PosixState) (q signal : ℕ) → KeepsParents s (sent s q signal)
sent_keeps s q signal =
    owed_for_keeps s (change_record s q (generated signal)) signal (record_of s q)
    (change_keeps s q (generated signal) (λ r _. generated_keeps signal r))

-- a step to a state that keeps them, where a test is passed
pub keeps_if : (s : PosixState) (b : Bool) (x new : PosixState) → cond b (Some x) None ≡ Some new → KeepsParents s x
    → KeepsParents s new
keeps_if s b x new e keeps =
    subst (KeepsParents s) (ap (λ o. unwrap_or o x) (guarded b (Some x) new e).1) keeps

-- a step of a process, of its call, or of its call for a group, that keeps them
pub process_keeps : (s : PosixState) (p : ℕ) (step : Record → Option PosixState) (new : PosixState)
    → ((r : Record) → record_of s p ≡ Some r → step r ≡ Some new → KeepsParents s new)
    → for_process s p step ≡ Some new → KeepsParents s new
process_keeps s p step new each e =
    let r = for_value_some (record_of s p) step new e in
    each r.0 r.1 r.2

pub call_keeps : (script : Script) (s : PosixState) (p : ℕ) (step : Record → Instr → Option PosixState)
    (new : PosixState) → ((r : Record) (i : Instr) → record_of s p ≡ Some r → step r i ≡ Some new → KeepsParents s new)
    → for_call script s p step ≡ Some new → KeepsParents s new
call_keeps script s p step new each e =
    let r = for_value_some (record_of s p) (λ r. for_value (own_call script r) (step r)) new e in
    let i = for_value_some (own_call script r.0) (step r.0) new r.2 in
    each r.0 i.0 r.1 i.2

pub group_step_keeps : (script : Script) (s : PosixState) (p : ℕ) (step : Record → Instr → Option PosixState)
    (new : PosixState) → ((r : Record) (i : Instr) → record_of s p ≡ Some r → step r i ≡ Some new → KeepsParents s new)
    → for_group_step script s p step ≡ Some new → KeepsParents s new
group_step_keeps script s p step new each e =
    let r = for_value_some (record_of s p) (λ r. for_value (group_step_call script r) (step r)) new e in
    let i = for_value_some (group_step_call script r.0) (step r.0) new r.2 in
    each r.0 i.0 r.1 i.2

-- the end of a call with a result
pub answered_keeps : (s mid : PosixState) (p : ℕ) (r0 : ℤ) → KeepsParents s mid → KeepsParents s (answered mid p r0)
answered_keeps s mid p r0 keeps = parents_then keeps (change_keeps mid p (with_results r0 None) (λ r _. refl))

pub answered_both_keeps : (s mid : PosixState) (p : ℕ) (r0 r1 : ℤ) → KeepsParents s mid
    → KeepsParents s (answered_both mid p r0 r1)
answered_both_keeps s mid p r0 r1 keeps =
    parents_then keeps (change_keeps mid p (with_results r0 (Some r1)) (λ r _. refl))
