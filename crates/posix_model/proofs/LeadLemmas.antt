-- Lemmas of groups and sessions that a process sets.
use Rattle.std.proofs.Common.{◌≡◌, ℕ, pos, cond, Bool, true, false, ◌&&◌, ◌||◌, not, nat_eq, is_some, eqb-true, Option}
use Rattle.std.proofs.Common.{Some, None, refl, ◌∙◌, ap}
use Rattle.w32_base.specs.declared.instr.Instr.{Instr}
use Rattle.w32_base.specs.declared.instr.Instr.TheVariants as instr
use Rattle.script_spec.specs.declared.script.Script.{Script}
use Rattle.posix_spec.specs.Conditions.{answered, own_call, for_call}
use Rattle.posix_spec.specs.GroupSteps.{leading_session, setsid_step, in_group, setpgid_step, is_move, move_check}
use Rattle.posix_spec.specs.GroupSteps.{group_check, is_movable, is_joinable, or_this}
use Rattle.posix_spec.specs.Checks.{is_allowed, then_check, check_that}
use Rattle.posix_spec.specs.SignalLaws.{first_of, second_of}
use Rattle.w32_base.specs.declared.event.Errno.{Errno}
use Rattle.w32_base.specs.declared.event.Errno.TheVariants as errno
use Rattle.vm_spec.specs.Image.{value_of}
use Rattle.posix_spec.specs.Numbers.{for_value, natural_of}
use Rattle.posix_spec.specs.Records.{change_record}
use Rattle.posix_spec.specs.State.{Record, PosixState, record_of}
use Rattle.posix_model.specs.Leads.{leads, moves}

pub setsid_step-is : (s : PosixState) (p : ℕ) (r : Record) (i : Instr) →
    setsid_step s p r i ≡ cond (leads s p i) (Some (answered (change_record s p (leading_session p)) p (pos p))) None
setsid_step-is s p r instr.SetSid = refl
setsid_step-is s p r _ = refl

-- no process, no call
pub no_process : (script : Script) (s : PosixState) (p : ℕ) (step : Record → Instr → Option PosixState) → record_of s
    p ≡ None →
    for_call script s p step ≡ None
no_process script s p step e = ap (λ o. for_value o (λ r. for_value (own_call script r) (step r))) e

pub setpgid_step-is : (s : PosixState) (p q g : ℕ) (r : Record) (i : Instr) →
    setpgid_step s p q g r i ≡ cond (moves s p q g r i) (Some (answered (change_record s q (in_group g)) p (pos 0)))
    None
setpgid_step-is s p q g r (instr.SetPgid process group) = refl
setpgid_step-is s p q g r _ = refl

third_passed : (a b c passed : Bool) (e f h : Errno) → is_allowed (then_check (check_that a e) (then_check
    (check_that b f) (check_that (c && passed) h))) ≡ true → passed ≡ true
third_passed true true true true e f h is = refl
third_passed true true true false e f h is = cc
third_passed true true false passed e f h is = cc
third_passed true false c passed e f h is = cc
third_passed false b c passed e f h is = cc

module _ (s : PosixState) (p q g : ℕ) (r : Record) where
  moved : (o : Option Record) → is_allowed (move_check s p r q g o) ≡ true → (is_some o && is_joinable s r q g) ≡ true
  moved None h = cc
  moved (Some target) h =
      third_passed (nat_eq q p || nat_eq target.parent p) (nat_eq q p || not target.execd) (is_movable r q target)
      (is_joinable s r q g)
      errno.ESRCH errno.EACCES errno.EPERM h

  named : (a b : Option ℕ) → is_move p q g a b ≡ true → is_allowed (group_check s p r a b) ≡ true → (is_some
      (record_of s q) && is_joinable s r q g) ≡ true
  named None b m h = cc
  named (Some a) None m h = cc
  named (Some a) (Some b) m h =
      let this : q ≡ or_this a p = eqb-true q (or_this a p) (first_of _ _ m) in
      let there : g ≡ or_this b q = eqb-true g (or_this b q) (second_of _ _ m) in
      moved (record_of s q)
      (ap (λ k. is_allowed (move_check s p r q k (record_of s q))) there
      ∙ ap (λ k. is_allowed (move_check s p r k (or_this b k) (record_of s k))) this ∙ h)

-- a process that may be moved is there, and may join the group
pub may_join : (s : PosixState) (p q g : ℕ) (r : Record) (i : Instr) → moves s p q g r i ≡ true → (is_some (record_of
    s q) && is_joinable s r q g) ≡ true
may_join s p q g r (instr.SetPgid process group) h =
    named s p q g r (natural_of (value_of r.image process)) (natural_of (value_of r.image group)) (first_of _ _ h)
    (second_of _ _ h)
may_join s p q g r _ h = cc
