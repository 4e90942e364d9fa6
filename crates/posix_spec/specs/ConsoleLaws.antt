-- The console's keys, the host, and the rule for the background keep a state well formed.
use Rattle.std.specs.Prelude.{◌≡◌, ℕ, ◌<◌, ◌≤◌, ℤ, Bool, true, false, ◌&&◌, ◌||◌, not, nat_eq, nat_lt, if◌then◌else◌}
use Rattle.std.specs.Prelude.{is_none, List, [], ◌∷◌, ◌++◌, length, take, Option, Some, None}
use Rattle.std.specs.Option.{unwrap_or}
use Rattle.std.proofs.Common.{refl, sym, ap, subst, ◌∙◌, arith, eqb-true}
use Rattle.std.proofs.lemmas.Bool.{cond_both}
use Rattle.w32_base.specs.declared.event.Event.TheVariants as event
use Rattle.w32_base.specs.declared.event.Errno.{Errno}
use Rattle.w32_base.specs.declared.event.Errno.TheVariants as errno
use Rattle.w32_base.specs.declared.instr.Action.{Action}
use Rattle.w32_base.specs.declared.instr.Instr.{Instr}
use Rattle.w32_base.specs.declared.instr.Instr.TheVariants as instr
use Rattle.script_spec.specs.declared.script.Script.{Script}
use Rattle.vm_spec.specs.Image.{value_of}
use Rattle.vm_spec.specs.Step.{CallInstruction}
use Rattle.tty_spec.specs.Terminal.{Terminal}
use Rattle.tty_spec.specs.Discipline.{KeyTaken, has_flag, tostop_flag, noflsh_flag, isig_flag, signal_of_key}
use Rattle.tty_spec.specs.Discipline.{most_done_lines, most_line_bytes, echoing, without_lines, erasing, killing}
use Rattle.tty_spec.specs.Discipline.{with_done_line, ending, adding, keying, after_key}
use Rattle.tty_spec.specs.TerminalLaws.{after_key_keeps}
use Rattle.posix_spec.specs.Numbers.{natural_of}
use Rattle.posix_spec.specs.State.{GroupCall, Record, PosixState, record_of}
use Rattle.posix_spec.specs.Records.{change_record}
use Rattle.posix_spec.specs.Groups.{is_orphaned, has_member_in}
use Rattle.posix_spec.specs.Checks.{Check, Allowed, Refused, SendsFirst, then_check, sent_first, check_that}
use Rattle.posix_spec.specs.Checks.{is_background, is_blocked_or_ignored, background_rule, change_rule, new_flags}
use Rattle.posix_spec.specs.Checks.{flags_rule, foreground_rule}
use Rattle.posix_spec.specs.Conditions.{call_ended}
use Rattle.posix_spec.specs.GroupCalls.{begun, background_call, is_complete}
use Rattle.posix_spec.specs.KillSteps.{in_call_for}
use Rattle.posix_spec.specs.SignalCalls.{is_settable, action_rule}
use Rattle.posix_spec.specs.GroupSteps.{or_this, move_check, process_check, group_check}
use Rattle.posix_spec.specs.Refusals.{check_of}
use Rattle.posix_spec.specs.TerminalSteps.{background_by, background_step, background_done_by, background_done_step}
use Rattle.posix_spec.specs.ConsoleSteps.{call_for, with_key}
use Rattle.posix_spec.specs.DeathSteps.{is_host_code}
use Rattle.posix_spec.specs.Step.{posix_step}
use Rattle.posix_spec.specs.RecordLaws.{same_record}
use Rattle.posix_spec.specs.WellFormed.{IsUsed, IsGroupCall, IsWellFormed, is_group_next, is_suspend_next}
use Rattle.posix_spec.specs.KeepLaws.{Keeps, IsWellFormed-change}
use Rattle.posix_spec.specs.CallLaws.{Keeps-ended, none_some}
use Rattle.posix_spec.specs.AnswerLaws.{after_if, after_value}
use Rattle.posix_spec.specs.SentLaws.{Acts-stepping, after_call, after_group_step, after_number}
use Rattle.posix_spec.specs.KillLaws.{Keeps-in_call_for}
use Rattle.posix_spec.specs.GroupCallLaws.{AreUsed-empty}
use Rattle.posix_spec.specs.StateLaws.{IsWellFormed-parts}

-- ---- what the rule for the background sends

check_sends_none : (b : Bool) (e : Errno) (n : ℕ) → sent_first (check_that b e) ≡ Some n → ⊥
check_sends_none true e n h = none_some n h
check_sends_none false e n h = none_some n h

then_sends : (b : Bool) (e : Errno) (next : Check) (n : ℕ) → sent_first (then_check (check_that b e) next) ≡ Some n →
    sent_first next ≡ Some n
then_sends true e next n h = h
then_sends false e next n h = absurd (none_some n h)

first_sends : (first : Check) (b : Bool) (e : Errno) (n : ℕ) → sent_first (then_check first (check_that b e)) ≡ Some
    n → sent_first first ≡ Some n
first_sends Allowed b e n h = absurd (check_sends_none b e n h)
first_sends (Refused error) b e n h = h
first_sends (SendsFirst m) b e n h = h

rule_by : (a b c : Bool) (signal : ℕ) (kept : Check) (n : ℕ) → (sent_first kept ≡ Some n → ⊥) →
    sent_first (if a then Allowed else if b then kept else if c then Refused errno.EIO else SendsFirst signal) ≡ Some
    n → n ≡ signal
rule_by true b c signal kept n none h = absurd (none_some n h)
rule_by false true c signal kept n none h = absurd (none h)
rule_by false false true signal kept n none h = absurd (none_some n h)
rule_by false false false signal kept n none h = sym (ap (λ o. unwrap_or o signal) h)

rule_sends : (s : PosixState) (r : Record) (signal : ℕ) (kept : Check) (n : ℕ) → (sent_first kept ≡ Some n → ⊥) →
    sent_first (background_rule s r signal kept) ≡ Some n → n ≡ signal
rule_sends s r signal kept n none h =
    rule_by (not (is_background s r)) (is_blocked_or_ignored r signal) (is_orphaned s r.group) signal kept n none h

change_sends : (s : PosixState) (r : Record) (n : ℕ) → sent_first (change_rule s r) ≡ Some n → n ≤ 31
change_sends s r n h = let is = rule_sends s r 22 Allowed n (none_some n) h in omega arith

flags_sends : (s : PosixState) (r : Record) (o : Option ℕ) (n : ℕ) → sent_first (flags_rule s r o) ≡ Some n → n ≤ 31
flags_sends s r None n h = absurd (none_some n h)
flags_sends s r (Some flags) n h = change_sends s r n h

group_sends : (s : PosixState) (r : Record) (o : Option ℕ) (n : ℕ) → sent_first (foreground_rule s r o) ≡ Some n →
    n ≤ 31
group_sends s r None n h = absurd (none_some n h)
group_sends s r (Some g) n h = change_sends s r n
    (first_sends (change_rule s r) (has_member_in s g r.session) errno.EPERM n h)

write_sends : (b : Bool) (s : PosixState) (r : Record) (n : ℕ) → sent_first
    (if b then change_rule s r else Allowed) ≡ Some n → n ≤ 31
write_sends true s r n h = change_sends s r n h
write_sends false s r n h = absurd (none_some n h)

action_sends_none : (o : Option ℕ) (a : Action) (n : ℕ) → sent_first (action_rule o a) ≡ Some n → ⊥
action_sends_none None a n h = none_some n h
action_sends_none (Some signal) a n h = check_sends_none (is_settable signal a) errno.EINVAL n h

move_sends_none : (a b c : Bool) (n : ℕ) → sent_first
    (then_check (check_that a errno.ESRCH) (then_check (check_that b errno.EACCES) (check_that c errno.EPERM))) ≡ Some
    n → ⊥
move_sends_none a b c n h = check_sends_none c errno.EPERM n
    (then_sends b errno.EACCES _ n (then_sends a errno.ESRCH _ n h))

target_sends_none : (s : PosixState) (p : ℕ) (r : Record) (q g : ℕ) (o : Option Record) (n : ℕ) → sent_first
    (move_check s p r q g o) ≡ Some n → ⊥
target_sends_none s p r q g None n h = none_some n h
target_sends_none s p r q g (Some target) n h = move_sends_none (nat_eq q p || nat_eq target.parent p) _ _ n h

process_sends_none : (s : PosixState) (p : ℕ) (r : Record) (o : Option ℕ) (g n : ℕ) → sent_first
    (process_check s p r o g) ≡ Some n → ⊥
process_sends_none s p r None g n h = none_some n h
process_sends_none s p r (Some q) g n h = target_sends_none s p r _ _ (record_of s (or_this q p)) n h

setpgid_sends_none : (s : PosixState) (p : ℕ) (r : Record) (q g : Option ℕ) (n : ℕ) → sent_first
    (group_check s p r q g) ≡ Some n → ⊥
setpgid_sends_none s p r q None n h = none_some n h
setpgid_sends_none s p r q (Some g) n h = process_sends_none s p r q g n h

-- only calls that go through a group send a signal first
sends : (s : PosixState) (p : ℕ) (r : Record) (i : Instr) (n : ℕ) → sent_first (check_of s p r i) ≡ Some n →
    (is_group_next (CallInstruction i) ≡ true) × (n ≤ 31)
sends s p r (instr.TcSet v) n h = (
  refl,
  group_sends s r (natural_of (value_of r.image v)) n
      (then_sends r.terminal errno.ENOTTY _ n h),
)
sends s p r (instr.TtyFlags v) n h = (
  refl,
  flags_sends s r (new_flags (value_of r.image v)) n
      (then_sends r.terminal errno.ENOTTY _ n h),
)
sends s p r (instr.Read address count) n h =
    let is = rule_sends s r 21 (Refused errno.EIO) n (none_some n) (then_sends r.terminal errno.ENOTTY _ n h) in
    (refl, omega arith)
sends s p r (instr.Write address count) n h =
    (refl, write_sends (has_flag s.terminal tostop_flag) s r n (then_sends r.terminal errno.ENOTTY _ n h))
sends s p r (instr.Wait selector flags) n h = absurd (check_sends_none _ errno.EINVAL n h)
sends s p r (instr.Action v a) n h = absurd (action_sends_none (natural_of (value_of r.image v)) a n h)
sends s p r (instr.SetPgid q g) n h = absurd
    (setpgid_sends_none s p r (natural_of (value_of r.image q)) (natural_of (value_of r.image g)) n h)
sends s p r instr.SetSid n h = absurd (check_sends_none _ errno.EPERM n h)
sends s p r instr.TcGet n h = absurd (check_sends_none r.terminal errno.ENOTTY n h)
sends s p r _ n h = absurd (none_some n h)

-- ---- what a key does to the terminal

-- the foreground group stays, and a signal is one of 1 to 31
record IsSmallKey (old : Terminal) (taken : KeyTaken) : Type 0 where
  foreground : taken.terminal.foreground ≡ old.foreground
  small : (n : ℕ) → taken.signal ≡ Some n → n ≤ 31

quiet_key : (old new : Terminal) (bytes : List ℕ) → new.foreground ≡ old.foreground → IsSmallKey old
    (echoing old bytes new)
quiet_key old new bytes same = record { foreground = same; small = λ n e. absurd (none_some n e) }

erasing_small : (t : Terminal) (line : List ℕ) → IsSmallKey t (erasing t line)
erasing_small t [] = quiet_key t t [] refl
erasing_small t (first ∷ rest) = quiet_key t (record t { line = take (length rest) (first ∷ rest) }) (8 ∷ 32 ∷ 8 ∷ [])
    refl

ending_small : (t : Terminal) (bytes : List ℕ) → IsSmallKey t (ending t bytes)
ending_small t bytes =
    cond_both (nat_lt (length t.done_lines) most_done_lines) (echoing t bytes (with_done_line t (t.line ++ bytes)))
    (echoing t [] t) (IsSmallKey t)
    (λ _. quiet_key t (with_done_line t (t.line ++ bytes)) bytes refl) (λ _. quiet_key t t [] refl)

adding_small : (t : Terminal) (b : ℕ) → IsSmallKey t (adding t b)
adding_small t b =
    cond_both (nat_lt (length t.line) most_line_bytes) (echoing t (b ∷ []) (record t { line = t.line ++ b ∷ [] }))
    (echoing t [] t) (IsSmallKey t)
    (λ _. quiet_key t (record t { line = t.line ++ b ∷ [] }) (b ∷ []) refl) (λ _. quiet_key t t [] refl)

editing_by : (t : Terminal) (b : ℕ) (w x y z : Bool) →
    IsSmallKey t (if w then erasing t t.line else if x then killing t else if y then ending t [] else if z then ending
    t (10 ∷ []) else adding t b)
editing_by t b true x y z = erasing_small t t.line
editing_by t b false true y z = quiet_key t (record t { line = [] }) (10 ∷ []) refl
editing_by t b false false true z = ending_small t []
editing_by t b false false false true = ending_small t (10 ∷ [])
editing_by t b false false false false = adding_small t b

small_signal : (w x y : Bool) (n : ℕ) → (if w then Some 2 else if x then Some 3 else if y then Some 20 else
    None) ≡ Some n → n ≤ 31
small_signal true x y n e = omega (arith, ap (λ o. unwrap_or o 2) e)
small_signal false true y n e = omega (arith, ap (λ o. unwrap_or o 3) e)
small_signal false false true n e = omega (arith, ap (λ o. unwrap_or o 20) e)
small_signal false false false n e = absurd (none_some n e)

small_key_signal : (on : Bool) (b n : ℕ) → (if on then signal_of_key b else None) ≡ Some n → n ≤ 31
small_key_signal true b n e = small_signal (nat_eq b 3) (nat_eq b 28) (nat_eq b 26) n e
small_key_signal false b n e = absurd (none_some n e)

keying_small : (o : Option ℕ) (t : Terminal) (b : ℕ) → ((n : ℕ) → o ≡ Some n → n ≤ 31) → IsSmallKey t (keying o t b)
keying_small None t b small = editing_by t b (nat_eq b 127) (nat_eq b 21) (nat_eq b 4) (nat_eq b 10)
keying_small (Some signal) t b small = record {
  foreground = cond_both (has_flag t noflsh_flag) t (without_lines t) (λ (x : Terminal). x.foreground ≡ t.foreground)
      (λ _. refl) (λ _. refl);
  small = small;
}

small_key : (t : Terminal) (b : ℕ) → IsSmallKey t (after_key t b)
small_key t b = keying_small (if has_flag t isig_flag then signal_of_key b else None) t b
    (λ n e. small_key_signal (has_flag t isig_flag) b n e)

module _ (script : Script) (s new : PosixState) (p : ℕ) (w : IsWellFormed script s) where
  -- ---- key and host

  call_is : (o : Option ℕ) (g : ℕ) (call : GroupCall) → IsUsed s.used g → ((n : ℕ) → o ≡ Some n → n ≤ 31) → call_for g
      o ≡ Some call → IsGroupCall s.used call
  call_is None g call used small e = absurd (none_some call e)
  call_is (Some n) g call used small e =
      subst (IsGroupCall s.used) (ap (λ o. unwrap_or o (begun g n)) e)
      (record { group = used; signal = small n refl; members = AreUsed-empty s.used })

  -- a key is a byte
  pub keeps-key : (b : ℕ) → b < 256 → posix_step script s (event.Key p b) ≡ Some new → IsWellFormed script new
  unfolding posix_step
  keeps-key b byte e =
      let key = small_key s.terminal b in
      after_if (IsWellFormed script) (nat_eq p 0 && is_none s.console) (with_key s (after_key s.terminal b)) new
      (λ _. IsWellFormed-parts script s w (after_key s.terminal b).terminal (s.output ++ (after_key s.terminal b).echo)
      (call_for s.terminal.foreground (after_key s.terminal b).signal) s.host_came
      (after_key_keeps s.terminal b byte w.is_terminal)
      (subst (IsUsed s.used) (sym key.foreground) w.foreground)
      (λ call same. call_is (after_key s.terminal b).signal s.terminal.foreground call w.foreground key.small same)) e

  pub keeps-host : (n : ℤ) → posix_step script s (event.Host p n) ≡ Some new → IsWellFormed script new
  unfolding posix_step
  keeps-host n e =
      after_if (IsWellFormed script) (nat_eq p 0 && (not s.host_came && is_host_code s.first_status n))
      (record s { host_came = true }) new
      (λ _. IsWellFormed-parts script s w s.terminal s.output s.console true w.is_terminal w.foreground
      w.console_call) e

  -- ---- the rule for the background

  pub keeps-background : (signal : ℤ) → posix_step script s (event.Background p signal) ≡ Some new → IsWellFormed
      script new
  unfolding posix_step
  keeps-background signal e =
      after_number (IsWellFormed script) script s new signal _
      (λ n found. after_call (IsWellFormed script) script s new p (background_step s p n)
      (λ r i is c done. after_value (IsWellFormed script) (sent_first (check_of s p r i))
      (background_by s p r.group n) new
      (λ first from by. after_if (IsWellFormed script) (nat_eq n first)
      (change_record s p (in_call_for (begun r.group n))) new
      (λ same.
      let facts = sends s p r i first from in
      let call : IsGroupCall s.used (begun r.group n) =
      record {
        group = (w.each p r is).numbers.group_number;
        signal = omega (arith, eqb-true n first same, facts.1);
        members = AreUsed-empty s.used;
      } in
      IsWellFormed-change script s p (in_call_for (begun r.group n)) w
      (λ old there good. subst (λ (o : Record). Keeps script s.used p o (in_call_for (begun r.group n) o))
      (same_record r old (sym is ∙ there))
      (Keeps-in_call_for script s.used p (begun r.group n) r (w.each p r is)
      (record { running = c.running; not_due = c.not_due; next = ap is_group_next c.next ∙ facts.0 }) call))) by)
      done) found) e

  background_not_suspend : (r : Record) (i : Instr) (call : GroupCall) → background_call r i ≡ Some call →
      is_suspend_next (CallInstruction i) ≡ false
  background_not_suspend r (instr.Suspend v) call e = absurd (none_some call e)
  background_not_suspend r _ call e = refl

  pub keeps-background_done : posix_step script s (event.BackgroundDone p) ≡ Some new → IsWellFormed script new
  unfolding posix_step
  keeps-background_done e =
      after_group_step (IsWellFormed script) script s new p (background_done_step s p)
      (λ r i is c done. after_value (IsWellFormed script) (background_call r i) (background_done_by s p) new
      (λ call from by. after_if (IsWellFormed script) (is_complete s call) (change_record s p call_ended) new
      (λ _. IsWellFormed-change script s p call_ended w
      (λ old there good. Keeps-ended script s.used p old old.image good
      (Acts-stepping script s p w r i is c (background_not_suspend r i call from) old there) good.runs)) by) done) e
