-- Lemmas of deaths.
use Rattle.std.proofs.Common.{◌≡◌, ℕ, ◌-◌, ◌<◌, ℤ, true, nat_eq, nat_lt, nat_le, Option, Some, None}
use Rattle.std.proofs.Common.{false, cond, refl, sym, ap, arith, eqb-true, ltb-true, leb-true}
use Rattle.std.specs.Option.{unwrap_or}
use Rattle.w32_base.specs.declared.event.Death.{Death}
use Rattle.w32_base.specs.declared.event.Death.TheVariants as death
use Rattle.w32_base.specs.declared.instr.Instr.TheVariants as instr
use Rattle.script_spec.specs.declared.script.Script.{Script}
use Rattle.vm_spec.specs.Image.{Image, value_of}
use Rattle.vm_spec.specs.Step.{Upcoming, CallInstruction, low_byte}
use Rattle.posix_spec.specs.Signals.{contains}
use Rattle.posix_spec.specs.State.{Record, PosixState, record_of}
use Rattle.posix_spec.specs.Pending.{is_live, open_signals}
use Rattle.posix_spec.specs.Conditions.{next_of, may_go_on}
use Rattle.posix_spec.specs.SignalActs.{is_this}
use Rattle.posix_spec.specs.SignalLaws.{first_of, second_of}
use Rattle.posix_spec.specs.DeathLaws.{contains_signal}
use Rattle.posix_spec.specs.DeathSteps.{exit_status, is_signal_death, fault_status, outside_status, has_faulted}
use Rattle.posix_spec.specs.DeathSteps.{may_die, with_status}

low_byte_small : (z : ℤ) → low_byte z < 256
low_byte_small z = omega arith

this_is : (v : ℕ) (o : Option ℕ) → is_this v o ≡ true → o ≡ Some v
this_is v None e = cc
this_is v (Some n) e = ap Some (sym (eqb-true v n e))

exit_small : (u : Upcoming) (image : Image) (v : ℕ) → exit_status u image ≡ Some v → v < 512
exit_small (CallInstruction (instr.Exit x)) image v e = omega
    (arith, ap (λ o. unwrap_or o 0) e, low_byte_small (value_of image x))
exit_small _ image v e = cc

signal_small : (r : Record) (v : ℕ) → is_signal_death r v ≡ true → v < 512
signal_small r v e =
    let above = ltb-true 256 v (first_of (nat_lt 256 v) _ e) in
    let range = contains_signal (open_signals r) (v - 256)
    (first_of (contains (open_signals r) (v - 256)) _ (second_of (nat_lt 256 v) _ e)) in
    omega (arith, above, leb-true (v - 256) 31 (second_of (nat_le 1 (v - 256)) (nat_le (v - 256) 31) range))

-- the status of a death is below 512
pub death_small : (script : Script) (r : Record) (v : ℕ) (cause : Death) → may_die script r v cause ≡ true → v < 512
death_small script r v death.Exit e = exit_small (next_of script r) r.image v
    (this_is v (exit_status (next_of script r) r.image) (second_of (may_go_on r) _ e))
death_small script r v death.Signal e = signal_small r v e
death_small script r v death.Fault e = omega
    (arith, eqb-true v 267 (first_of (nat_eq v fault_status) (has_faulted script r) e))
death_small script r v (death.World n) e = omega
    (arith, eqb-true v 265 (first_of (nat_eq v outside_status) (is_live r.life) e))

-- the processes stay where the status of a death is kept
pub record_of-with_status : (p v : ℕ) (s : PosixState) (q : ℕ) → record_of (with_status p v s) q ≡ record_of s q
record_of-with_status p v s q = elim (nat_eq p 2) as (λ b. record_of (cond b (record s { first_status = Some v }) s) q ≡
    record_of s q) [ true ↦ refl | false ↦ refl ]
