-- Lemmas of the calls at the terminal.
use Rattle.std.proofs.Common.{◌≡◌, ℕ, ℤ, List, pos, Bool, true, false, Option, cond, Some, None, refl, sym, ◌∙◌, ap}
use Rattle.w32_base.specs.declared.instr.Instr.{Instr}
use Rattle.w32_base.specs.declared.instr.Instr.TheVariants as instr
use Rattle.posix_spec.specs.Conditions.{answered, call_ended}
use Rattle.posix_spec.specs.State.{GroupCall, Record, PosixState}
use Rattle.posix_spec.specs.Numbers.{for_value}
use Rattle.posix_spec.specs.Records.{change_record}
use Rattle.posix_spec.specs.TerminalSteps.{with_flags, flags_step, with_output, write_step, background_done_by}
use Rattle.posix_spec.specs.TerminalSteps.{with_foreground, tcset_step}
use Rattle.vm_spec.specs.Image.{value_of}
use Rattle.w32_base.specs.declared.event.Errno.{Errno}
use Rattle.w32_base.specs.declared.event.Errno.TheVariants as errno
use Rattle.posix_spec.specs.Checks.{Check, Allowed, Refused, SendsFirst, is_allowed, then_check, check_that}
use Rattle.posix_spec.specs.Checks.{terminal_check, change_rule, foreground_check}
use Rattle.posix_spec.specs.Groups.{has_member_in}
use Rattle.posix_spec.specs.SignalLaws.{first_of, second_of}
use Rattle.posix_model.proofs.NumberLemmas.{number_is}
use Rattle.posix_model.specs.Terminals.{sets_flags, sets_foreground, writes, completes}

pub flags_step-is : (s : PosixState) (p n : ℕ) (r : Record) (i : Instr) →
    flags_step s p n r i ≡ cond (sets_flags s n r i) (Some (answered (with_flags s n) p (pos 0))) None
flags_step-is s p n r (instr.TtyFlags v) = refl
flags_step-is s p n r _ = refl

pub write_step-is : (s : PosixState) (p : ℕ) (n : ℤ) (bytes : List ℕ) (r : Record) (i : Instr) →
    write_step s p n bytes r i ≡ cond (writes s n bytes r i) (Some (answered (with_output s bytes) p n)) None
write_step-is s p n bytes r (instr.Write address count) = refl
write_step-is s p n bytes r _ = refl

pub completes-is : (s : PosixState) (p : ℕ) (o : Option GroupCall) →
    for_value o (background_done_by s p) ≡ cond (completes s o) (Some (change_record s p call_ended)) None
completes-is s p None = refl
completes-is s p (Some call) = refl

pub tcset_step-is : (s : PosixState) (p g : ℕ) (r : Record) (i : Instr) →
    tcset_step s p g r i ≡ cond (sets_foreground s g r i) (Some (answered (with_foreground s g) p (pos 0))) None
tcset_step-is s p g r (instr.TcSet v) = refl
tcset_step-is s p g r _ = refl

-- what is allowed passed the last check
last_passed : (a b : Check) (passed : Bool) (e : Errno) → is_allowed (then_check a (then_check b (check_that passed
    e))) ≡ true → passed ≡ true
last_passed Allowed Allowed true e h = refl
last_passed Allowed Allowed false e h = cc
last_passed Allowed (Refused f) passed e h = cc
last_passed Allowed (SendsFirst s) passed e h = cc
last_passed (Refused f) b passed e h = cc
last_passed (SendsFirst s) b passed e h = cc

exists_at : (s : PosixState) (g : ℕ) (r : Record) (v : ℤ) → v ≡ pos g → is_allowed (foreground_check s r v) ≡ true →
    has_member_in s g r.session ≡ true
exists_at s g r v is h =
    last_passed (terminal_check r) (change_rule s r) (has_member_in s g r.session) errno.EPERM
    (ap (λ z. is_allowed (foreground_check s r z)) (sym is) ∙ h)

-- the group that may be set has a member in the session
pub foreground_exists : (s : PosixState) (g : ℕ) (r : Record) (i : Instr) → sets_foreground s g r i ≡ true →
    has_member_in s g r.session ≡ true
foreground_exists s g r (instr.TcSet v) h =
    exists_at s g r (value_of r.image v) (number_is (value_of r.image v) g (first_of _ _ h)) (second_of _ _ h)
foreground_exists s g r _ h = cc
