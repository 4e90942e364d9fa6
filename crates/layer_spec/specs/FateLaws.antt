-- What becomes of each process in a step of the POSIX machine: whether it is there, and with which status it has died.
use Rattle.std.specs.Prelude.{◌≡◌, ℕ, ℤ, Bool, true, false, cond, ◌&&◌, nat_eq, Option, Some, None}
use Rattle.std.specs.Option.{option_map, unwrap_or}
use Rattle.std.proofs.Common.{refl, sym, ap, subst, ◌∙◌}
use Rattle.std.proofs.lemmas.Bool.{eqb-true}
use Rattle.std.proofs.lemmas.Option.{none-some}
use Rattle.script_spec.specs.declared.script.Script.{Script}
use Rattle.w32_base.specs.declared.instr.Instr.{Instr}
use Rattle.posix_spec.specs.Numbers.{for_value}
use Rattle.posix_spec.specs.State.{Life, Running, Stopped, Zombie, Record, PosixState, record_of}
use Rattle.posix_spec.specs.Pending.{is_live, is_stopped}
use Rattle.posix_spec.specs.Records.{settled, with_record, changed_at, change_record}
use Rattle.posix_spec.specs.RecordLaws.{record_of-with_record}
use Rattle.posix_spec.specs.Conditions.{own_call, group_step_call, for_process, for_call, for_group_step, with_results}
use Rattle.posix_spec.specs.Conditions.{answered, answered_both}
use Rattle.posix_spec.specs.Signals.{continue_signal}
use Rattle.posix_spec.specs.Waits.{death_to_report}
use Rattle.posix_spec.specs.Sending.{owed_more, with_generated, continued, generated, generated_by_life, owed_for, sent}

-- none where there is no process of the number; else the status of its death, or none while it lives
abbrev pub fate_in : Option Record → Option (Option ℕ)
fate_in o = option_map (λ (r : Record). death_to_report r.life) o

abbrev pub fate_of : PosixState → ℕ → Option (Option ℕ)
fate_of s c = fate_in (record_of s c)

-- nothing becomes of any process, and no number is used
pub record KeepsFates (s new : PosixState) : Type 0 where
  pub fates : (c : ℕ) → fate_of new c ≡ fate_of s c
  pub used : new.used ≡ s.used

pub same_fates : (s : PosixState) → KeepsFates s s
same_fates s = record { fates = λ c. refl; used = refl }

pub fates_then : {s mid new : PosixState} → KeepsFates s mid → KeepsFates mid new → KeepsFates s new
fates_then a b = record { fates = λ c. b.fates c ∙ a.fates c; used = b.used ∙ a.used }

-- a process is changed that lives on, or has died with the same status
fate_at : (s : PosixState) (p c : ℕ) (old new : Record) (b : Bool) → nat_eq c p ≡ b → record_of s p ≡ Some old
    → death_to_report new.life ≡ death_to_report old.life
    → fate_in (cond b (Some (settled new)) (record_of s c)) ≡ fate_of s c
fate_at s p c old new true same is keeps =
    ap Some keeps ∙ sym (ap fate_in (subst (λ n. record_of s n ≡ Some old) (sym (eqb-true c p same)) is))
fate_at s p c old new false same is keeps = refl

pub with_record_keeps : (s : PosixState) (p : ℕ) (old new : Record) → record_of s p ≡ Some old
    → death_to_report new.life ≡ death_to_report old.life → KeepsFates s (with_record s p new)
with_record_keeps s p old new is keeps = record {
  fates = λ c. ap fate_in (record_of-with_record s p new c) ∙ fate_at s p c old new (nat_eq c p) refl is keeps;
  used = refl;
}

changed_keeps : (s : PosixState) (p : ℕ) (change : Record → Record) (o : Option Record) → record_of s p ≡ o
    → ((r : Record) → o ≡ Some r → death_to_report (change r).life ≡ death_to_report r.life)
    → KeepsFates s (changed_at s p change o)
changed_keeps s p change None is harmless = same_fates s
changed_keeps s p change (Some r) is harmless = with_record_keeps s p r (change r) is (harmless r refl)

pub change_keeps : (s : PosixState) (p : ℕ) (change : Record → Record)
    → ((r : Record) → record_of s p ≡ Some r → death_to_report (change r).life ≡ death_to_report r.life)
    → KeepsFates s (change_record s p change)
change_keeps s p change harmless = changed_keeps s p change (record_of s p) refl harmless

-- signals, and what a parent is owed
more_owed : (b : Bool) (r other : Record) → other.life ≡ r.life
    → death_to_report (cond b other r).life ≡ death_to_report r.life
more_owed true r other e = ap death_to_report e
more_owed false r other e = refl

pub owed_keeps : (s : PosixState) (p : ℕ) → KeepsFates s (change_record s p owed_more)
owed_keeps s p = change_keeps s p owed_more (λ r _. more_owed (is_live r.life) r _ refl)

either_lives : (b : Bool) (x y : Record) → death_to_report x.life ≡ None → death_to_report y.life ≡ None
    → death_to_report (cond b x y).life ≡ None
either_lives true x y at_x at_y = at_x
either_lives false x y at_x at_y = at_y

generated_lives : (signal : ℕ) (r : Record) (l : Life) → r.life ≡ l
    → death_to_report (generated_by_life l signal r).life ≡ death_to_report l
generated_lives signal r Running is = ap death_to_report is
generated_lives signal r (Stopped t) is =
    either_lives (nat_eq signal continue_signal) (continued (with_generated signal r)) (with_generated signal r) refl
    (ap death_to_report is)
generated_lives signal r (Zombie v) is = ap death_to_report is

or_same : (b : Bool) (r other : Record) → death_to_report other.life ≡ death_to_report r.life
    → death_to_report (cond b r other).life ≡ death_to_report r.life
or_same true r other e = refl
or_same false r other e = e

pub generated_keeps : (signal : ℕ) (r : Record) → death_to_report (generated signal r).life ≡ death_to_report r.life
generated_keeps signal r =
    or_same (nat_eq signal 0) r (generated_by_life r.life signal r) (generated_lives signal r r.life refl)

owed_when : (b : Bool) (s mid : PosixState) (p : ℕ) → KeepsFates s mid
    → KeepsFates s (cond b (change_record mid p owed_more) mid)
owed_when true s mid p keeps = fates_then keeps (owed_keeps mid p)
owed_when false s mid p keeps = keeps

owed_for_keeps : (s mid : PosixState) (signal : ℕ) (o : Option Record) → KeepsFates s mid
    → KeepsFates s (owed_for signal o mid)
owed_for_keeps s mid signal None keeps = keeps
owed_for_keeps s mid signal (Some r) keeps =
    owed_when (nat_eq signal continue_signal && is_stopped r.life) s mid r.parent keeps

pub sent_keeps : (s : PosixState) (q signal : ℕ) → KeepsFates s (sent s q signal)
sent_keeps s q signal =
    owed_for_keeps s (change_record s q (generated signal)) signal (record_of s q)
    (change_keeps s q (generated signal) (λ r _. generated_keeps signal r))

-- the parts of a step
pub for_value_some : {A B : Type 0} → (o : Option A) (f : A → Option B) (y : B) → for_value o f ≡ Some y
    → (x : A) × (o ≡ Some x) × (f x ≡ Some y)
for_value_some None f y e = absurd (none-some y e)
for_value_some (Some x) f y e = (x, refl, e)

pub guarded : {A : Type 0} → (b : Bool) (o : Option A) (y : A) → cond b o None ≡ Some y → (b ≡ true) × (o ≡ Some y)
guarded true o y e = (refl, e)
guarded false o y e = absurd (none-some y e)

-- a step to a state that keeps fates, where a test is passed
pub keeps_if : (s : PosixState) (b : Bool) (x new : PosixState) → cond b (Some x) None ≡ Some new → KeepsFates s x
    → KeepsFates s new
keeps_if s b x new e keeps =
    subst (KeepsFates s) (ap (λ o. unwrap_or o x) (guarded b (Some x) new e).1) keeps

-- a step of a process, of its call, or of its call for a group, that keeps fates
pub process_keeps : (s : PosixState) (p : ℕ) (step : Record → Option PosixState) (new : PosixState)
    → ((r : Record) → record_of s p ≡ Some r → step r ≡ Some new → KeepsFates s new)
    → for_process s p step ≡ Some new → KeepsFates s new
process_keeps s p step new each e =
    let r = for_value_some (record_of s p) step new e in
    each r.0 r.1 r.2

pub call_keeps : (script : Script) (s : PosixState) (p : ℕ) (step : Record → Instr → Option PosixState)
    (new : PosixState) → ((r : Record) (i : Instr) → record_of s p ≡ Some r → step r i ≡ Some new → KeepsFates s new)
    → for_call script s p step ≡ Some new → KeepsFates s new
call_keeps script s p step new each e =
    let r = for_value_some (record_of s p) (λ r. for_value (own_call script r) (step r)) new e in
    let i = for_value_some (own_call script r.0) (step r.0) new r.2 in
    each r.0 i.0 r.1 i.2

pub group_step_keeps : (script : Script) (s : PosixState) (p : ℕ) (step : Record → Instr → Option PosixState)
    (new : PosixState) → ((r : Record) (i : Instr) → record_of s p ≡ Some r → step r i ≡ Some new → KeepsFates s new)
    → for_group_step script s p step ≡ Some new → KeepsFates s new
group_step_keeps script s p step new each e =
    let r = for_value_some (record_of s p) (λ r. for_value (group_step_call script r) (step r)) new e in
    let i = for_value_some (group_step_call script r.0) (step r.0) new r.2 in
    each r.0 i.0 r.1 i.2

-- the end of a call with a result
pub answered_keeps : (s mid : PosixState) (p : ℕ) (r0 : ℤ) → KeepsFates s mid → KeepsFates s (answered mid p r0)
answered_keeps s mid p r0 keeps = fates_then keeps (change_keeps mid p (with_results r0 None) (λ r _. refl))

pub answered_both_keeps : (s mid : PosixState) (p : ℕ) (r0 r1 : ℤ) → KeepsFates s mid
    → KeepsFates s (answered_both mid p r0 r1)
answered_both_keeps s mid p r0 r1 keeps =
    fates_then keeps (change_keeps mid p (with_results r0 (Some r1)) (λ r _. refl))
