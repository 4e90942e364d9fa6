-- Reads, writes and changes of the terminal keep a state well formed.
use Rattle.std.specs.Prelude.{◌≡◌, ℕ, ◌<◌, ℤ, pos, negsuc, Bool, true, false, ◌&&◌, nat_eq, nat_le, if◌then◌else◌, List}
use Rattle.std.specs.Prelude.{◌++◌, Some, None}
use Rattle.std.proofs.Common.{refl, sym, ap, subst, ◌∙◌, arith, true≢false, eqb-true, leb-true}
use Rattle.w32_base.specs.declared.event.Event.TheVariants as event
use Rattle.w32_base.specs.declared.event.Errno.{Errno}
use Rattle.w32_base.specs.declared.event.Errno.TheVariants as errno
use Rattle.w32_base.specs.declared.instr.Instr.{Instr}
use Rattle.w32_base.specs.declared.instr.Instr.TheVariants as instr
use Rattle.script_spec.specs.declared.script.Script.{Script}
use Rattle.vm_spec.specs.Image.{value_of}
use Rattle.posix_spec.specs.Numbers.{is_number, natural_of}
use Rattle.posix_spec.specs.State.{Record, PosixState}
use Rattle.posix_spec.specs.Groups.{has_member_in}
use Rattle.posix_spec.specs.Checks.{Check, Allowed, Refused, SendsFirst, then_check, is_allowed, check_that}
use Rattle.posix_spec.specs.Checks.{terminal_check, change_rule, new_flags, flags_rule, flags_check, foreground_rule}
use Rattle.posix_spec.specs.Checks.{foreground_check, write_check}
use Rattle.posix_spec.specs.Conditions.{answered}
use Rattle.posix_spec.specs.TerminalSteps.{with_foreground, tcset_step, with_flags, flags_step, with_output, is_written}
use Rattle.posix_spec.specs.TerminalSteps.{write_step}
use Rattle.posix_spec.specs.Step.{posix_step}
use Rattle.posix_spec.specs.TestLaws.{some_record-is}
use Rattle.posix_spec.specs.SignalLaws.{first_of, second_of}
use Rattle.posix_spec.specs.WellFormed.{IsUsed, IsWellFormed}
use Rattle.posix_spec.specs.AnswerLaws.{after_none, after_if, Acts, IsWellFormed-results}
use Rattle.posix_spec.specs.SentLaws.{Acts-calling, after_call, after_number}
use Rattle.posix_spec.specs.StateLaws.{IsWellFormed-parts}

-- ---- checks that pass

then_first : (a b : Check) → is_allowed (then_check a b) ≡ true → is_allowed b ≡ true
then_first Allowed b e = e
then_first (Refused e) b h = absurd (true≢false (sym h))
then_first (SendsFirst n) b h = absurd (true≢false (sym h))

passed_of : (b : Bool) (e : Errno) → is_allowed (check_that b e) ≡ true → b ≡ true
passed_of true e h = refl
passed_of false e h = h

number_is : (z : ℤ) (n : ℕ) → is_number z n ≡ true → z ≡ pos n
number_is (pos k) n e = ap pos (eqb-true k n e)
number_is (negsuc k) n e = absurd (true≢false (sym e))

member_allowed : (s : PosixState) (r : Record) (z : ℤ) (g : ℕ) → is_number z g ≡ true → is_allowed
    (foreground_check s r z) ≡ true → has_member_in s g r.session ≡ true
member_allowed s r z g same allowed =
    let rule : is_allowed (foreground_rule s r (natural_of z)) ≡ true = then_first (terminal_check r)
    (foreground_rule s r (natural_of z)) allowed in
    let here : is_allowed (foreground_rule s r (Some g)) ≡ true = ap
    (λ x. is_allowed (foreground_rule s r (natural_of x))) (sym (number_is z g same)) ∙ rule in
    passed_of (has_member_in s g r.session) errno.EPERM
    (then_first (change_rule s r) (check_that (has_member_in s g r.session) errno.EPERM) here)

flags_within : (s : PosixState) (r : Record) (b : Bool) (n : ℕ) → nat_le n 15 ≡ b → is_allowed
    (flags_rule s r (if b then Some n else None)) ≡ true → n < 16
flags_within s r true n low e = let l = leb-true n 15 low in omega arith
flags_within s r false n low e = absurd (true≢false (sym e))

flags_allowed : (s : PosixState) (r : Record) (z : ℤ) (n : ℕ) → is_number z n ≡ true → is_allowed
    (flags_check s r z) ≡ true → n < 16
flags_allowed s r z n same allowed =
    let rule : is_allowed (flags_rule s r (new_flags z)) ≡ true = then_first (terminal_check r)
    (flags_rule s r (new_flags z)) allowed in
    let here : is_allowed (flags_rule s r (new_flags (pos n))) ≡ true = ap
    (λ x. is_allowed (flags_rule s r (new_flags x))) (sym (number_is z n same)) ∙ rule in
    flags_within s r (nat_le n 15) n refl here

module _ (script : Script) (s new : PosixState) (p : ℕ) (w : IsWellFormed script s) where
  -- ---- the foreground group and the flags

  sets : (g : ℕ) (r : Record) (i : Instr) → Acts s p → tcset_step s p g r i ≡ Some new → IsWellFormed script new
  sets g r (instr.TcSet v) acts found =
      after_if (IsWellFormed script) (is_number (value_of r.image v) g && is_allowed
      (foreground_check s r (value_of r.image v))) (answered (with_foreground s g) p (pos 0)) new
      (λ passed.
      let same = first_of (is_number (value_of r.image v) g) _ passed in
      let found = some_record-is s (λ q r'. nat_eq r'.group g && nat_eq r'.session r.session)
      (member_allowed s r (value_of r.image v) g same (second_of (is_number (value_of r.image v) g) _ passed)) in
      let used = subst (IsUsed s.used) (eqb-true found.process.group g
      (first_of (nat_eq found.process.group g) _ found.passes))
      (w.each found.number found.process found.is).numbers.group_number in
      IsWellFormed-results script (with_foreground s g) p (pos 0) None
      (IsWellFormed-parts script s w (record s.terminal { foreground = g }) s.output s.console s.host_came
      (record {
        flags = w.is_terminal.flags;
        line_size = w.is_terminal.line_size;
        line_bytes = w.is_terminal.line_bytes;
        done_count = w.is_terminal.done_count;
        done_lines = w.is_terminal.done_lines;
      })
      used w.console_call)
      acts) found
  sets g r _ acts found = after_none (IsWellFormed script) new found

  pub keeps-tcset : (g : ℤ) → posix_step script s (event.TcSet p g) ≡ Some new → IsWellFormed script new
  unfolding posix_step
  keeps-tcset g e =
      after_number (IsWellFormed script) script s new g _
      (λ n found. after_call (IsWellFormed script) script s new p (tcset_step s p n)
      (λ r i is c done. sets n r i (Acts-calling script s p w r i is c) done) found) e

  flags_set : (n : ℕ) (r : Record) (i : Instr) → Acts s p → flags_step s p n r i ≡ Some new → IsWellFormed script new
  flags_set n r (instr.TtyFlags v) acts found =
      after_if (IsWellFormed script) (is_number (value_of r.image v) n && is_allowed
      (flags_check s r (value_of r.image v))) (answered (with_flags s n) p (pos 0)) new
      (λ passed. IsWellFormed-results script (with_flags s n) p (pos 0) None
      (IsWellFormed-parts script s w (record s.terminal { flags = n }) s.output s.console s.host_came
      (record {
        flags = flags_allowed s r (value_of r.image v) n (first_of (is_number (value_of r.image v) n) _ passed)
            (second_of (is_number (value_of r.image v) n) _ passed);
        line_size = w.is_terminal.line_size;
        line_bytes = w.is_terminal.line_bytes;
        done_count = w.is_terminal.done_count;
        done_lines = w.is_terminal.done_lines;
      })
      w.foreground w.console_call)
      acts) found
  flags_set n r _ acts found = after_none (IsWellFormed script) new found

  pub keeps-flags : (n : ℤ) → posix_step script s (event.Flags p n) ≡ Some new → IsWellFormed script new
  unfolding posix_step
  keeps-flags n e =
      after_number (IsWellFormed script) script s new n _
      (λ m found. after_call (IsWellFormed script) script s new p (flags_step s p m)
      (λ r i is c done. flags_set m r i (Acts-calling script s p w r i is c) done) found) e

  -- ---- write

  writes : (n : ℤ) (bytes : List ℕ) (r : Record) (i : Instr) → Acts s p → write_step s p n bytes r i ≡ Some new →
      IsWellFormed script new
  writes n bytes r (instr.Write address count) acts found =
      after_if (IsWellFormed script) (is_allowed (write_check s r) && is_written r.image (value_of r.image address)
      (value_of r.image count) n bytes) (answered (with_output s bytes) p n) new
      (λ _. IsWellFormed-results script (with_output s bytes) p n None
      (IsWellFormed-parts script s w s.terminal (s.output ++ bytes) s.console s.host_came w.is_terminal w.foreground
      w.console_call) acts) found
  writes n bytes r _ acts found = after_none (IsWellFormed script) new found

  pub keeps-write : (n : ℤ) (bytes : List ℕ) → posix_step script s (event.Write p n bytes) ≡ Some new → IsWellFormed
      script new
  unfolding posix_step
  keeps-write n bytes e =
      after_call (IsWellFormed script) script s new p (write_step s p n bytes)
      (λ r i is c done. writes n bytes r i (Acts-calling script s p w r i is c) done) e
