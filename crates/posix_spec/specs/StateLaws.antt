-- Changes of a state's other parts than its processes keep it well formed.
use Rattle.std.specs.Prelude.{◌≡◌, ℕ, Bool, true, Option, Some, None, List}
use Rattle.std.proofs.Common.{refl, sym, subst, true≢false, eqb-true}
use Rattle.script_spec.specs.declared.script.Script.{Script}
use Rattle.tty_spec.specs.Terminal.{Terminal}
use Rattle.tty_spec.specs.TerminalLaws.{IsTerminal}
use Rattle.posix_spec.specs.State.{GroupCall, Record, PosixState, record_of}
use Rattle.posix_spec.specs.Groups.{is_member}
use Rattle.posix_spec.specs.GroupCalls.{is_next_member, with_step}
use Rattle.posix_spec.specs.SignalLaws.{first_of}
use Rattle.posix_spec.specs.WellFormed.{IsUsed, IsGroupCall, IsWellFormed}
use Rattle.posix_spec.specs.GroupCallLaws.{IsPartCall, AreUsed-insert}

module _ (script : Script) (s : PosixState) (w : IsWellFormed script s) where
  -- another terminal, other output, another console's call, and whether the host has come
  pub IsWellFormed-parts : (terminal : Terminal) (output : List ℕ) (console : Option GroupCall) (host : Bool) →
      IsTerminal terminal →
      IsUsed s.used terminal.foreground → ((call : GroupCall) → console ≡ Some call → IsGroupCall s.used call) →
      IsWellFormed script (record s { terminal = terminal; output = output; console = console; host_came = host })
  IsWellFormed-parts terminal output console host is used calls = record {
    each = w.each;
    numbers = w.numbers;
    first_number = w.first_number;
    sessions = record { same = w.sessions.same; leader = w.sessions.leader };
    few_children = w.few_children;
    is_terminal = is;
    foreground = used;
    console_call = calls;
    first = w.first;
  }

  pub IsWellFormed-console : (console : Option GroupCall) →
      ((call : GroupCall) → console ≡ Some call → IsGroupCall s.used call) →
      IsWellFormed script (record s { console = console })
  IsWellFormed-console console calls = IsWellFormed-parts s.terminal s.output console s.host_came w.is_terminal
      w.foreground calls

  -- ---- a member's step

  member_numbers : (g q : ℕ) (o : Option Record) → record_of s q ≡ o → is_member g o ≡ true → IsUsed s.used g × IsUsed
      s.used q
  member_numbers g q None is member = absurd (true≢false (sym member))
  member_numbers g q (Some r) is member =
      let n = (w.each q r is).numbers in
      (subst (IsUsed s.used) (eqb-true r.group g member) n.group_number, n.number)

  pub IsGroupCall-with_step : (call : GroupCall) (q signal : ℕ) → is_next_member s call q signal ≡ true → IsPartCall
      s.used call →
      IsGroupCall s.used (with_step call q)
  IsGroupCall-with_step call q signal next part =
      let found = member_numbers call.group q (record_of s q) refl
      (first_of (is_member call.group (record_of s q)) _ next) in
      record {
        group = found.0;
        signal = part.signal;
        members = AreUsed-insert s.used call.members q part.members found.1;
      }
