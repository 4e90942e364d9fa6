-- A journal's log in each view, computed.
use Rattle.std.specs.Prelude.{◌≡◌, ◌++◌, pos, false, List, [], ◌∷◌, codes, Some, None}
use Rattle.std.specs.Fmt.{digits}
use Rattle.std.proofs.Common.{refl}
use Rattle.w32_base.specs.declared.call.TtyOp.TheVariants as tty
use Rattle.w32_base.specs.declared.call.Call.TheVariants as call
use Rattle.w32_base.specs.declared.call.Reply.TheVariants as reply
use Rattle.w32_base.specs.declared.entry.Directive.TheVariants as directive
use Rattle.w32_base.specs.declared.entry.Outcome.TheVariants as outcome
use Rattle.w32_base.specs.declared.entry.Entry.{Entry}
use Rattle.w32_base.specs.declared.entry.End.TheVariants as end
use Rattle.w32_base.specs.declared.entry.View.TheVariants as view
use Rattle.w32_base.specs.declared.event.Death.TheVariants as death
use Rattle.w32_base.specs.declared.event.Event.TheVariants as event
use Rattle.log_spec.specs.Texts.{line}
use Rattle.log_spec.specs.Views.{log_text}

-- a key is typed, taken and echoed; the line is read by process 3, which writes what it read; process 2 dies
abbrev journal : List Entry
journal =
    record { directive = directive.Key 10; call = None; outcome = outcome.Keyed; event = None } ∷
    record {
      directive = directive.Turn 0 0;
      call = Some (call.Tty 3 tty.Key);
      outcome = outcome.Step (reply.Key 10 0 2);
      event = Some (event.Key 0 10);
    } ∷
    record {
      directive = directive.Turn 2 0;
      call = Some (call.Tty 3 (tty.Take 2 64 0));
      outcome = outcome.Step (reply.Line 1);
      event = Some (event.Line 3 (pos 1) (10 ∷ []));
    } ∷
    record {
      directive = directive.Turn 2 0;
      call = Some (call.Tty 3 (tty.Put 2 1 0 false));
      outcome = outcome.Step (reply.Written 1);
      event = Some (event.Write 3 (pos 1) (97 ∷ []));
    } ∷
    record {
      directive = directive.Turn 1 0;
      call = Some call.Run;
      outcome = outcome.Step (reply.Ran 2);
      event = Some (event.Run 2 (pos 2));
    } ∷
    record {
      directive = directive.Turn 1 0;
      call = Some (call.CompareExchange 1 1 5 0);
      outcome = outcome.Step (reply.Word 5);
      event = Some (event.Die 2 (pos 0) death.Exit);
    } ∷
    record { directive = directive.End 1; call = None; outcome = outcome.Ended 2; event = None } ∷
    record { directive = directive.Turn 1 0; call = None; outcome = outcome.Idle; event = None } ∷ []

events_view : log_text view.Events journal end.Given ≡
    line (codes "log events") ++ (line (codes "key 0 0a") ++ (line (codes "line 3 1 0a") ++
    (line (codes "write 3 1 61") ++ (line (codes "run 2 2") ++ (line (codes "die 2 0 exit") ++
    line (codes "done given"))))))
unfolding log_text digits
events_view = refl

calls_view : log_text view.Calls journal end.Quiet ≡
    line (codes "log calls") ++ (line (codes "key 0 0a") ++ (line (codes "die 2 0 exit") ++
    (line (codes "line 3 1 0a") ++ (line (codes "write 3 1 61") ++ (line (codes "tty 0a61") ++
    line (codes "done quiet"))))))
unfolding log_text digits
calls_view = refl

all_view : log_text view.All journal end.Budget ≡
    line (codes "log all") ++
    (line (codes "1 key 0a | - | keyed | -") ++
    (line (codes "2 turn 0 0 | tty 3 key | key 10 0 2 | key 0 0a") ++
    (line (codes "3 turn 2 0 | tty 3 take 2 64 0 | line 1 | line 3 1 0a") ++
    (line (codes "4 turn 2 0 | tty 3 put 2 1 0 0 | put 1 | write 3 1 61") ++
    (line (codes "5 turn 1 0 | run | ran 2 | run 2 2") ++
    (line (codes "6 turn 1 0 | cas 1 1 5 0 | word 5 | die 2 0 exit") ++
    (line (codes "7 end 1 | - | ended 2 | -") ++
    (line (codes "8 turn 1 0 | - | idle | -") ++
    line (codes "done budget")))))))))
unfolding log_text digits
all_view = refl

empty_calls_view : log_text view.Calls [] end.Quiet ≡
    line (codes "log calls") ++ (line (codes "tty -") ++ line (codes "done quiet"))
unfolding log_text
empty_calls_view = refl
