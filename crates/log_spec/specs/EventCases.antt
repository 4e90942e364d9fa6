-- Texts of calls, replies, directives and events, as they are written.
use Rattle.std.specs.Prelude.{◌≡◌, refl, pos, negsuc, true, [], ◌∷◌, codes}
use Rattle.std.specs.Fmt.{digits}
use Rattle.w32_base.specs.declared.call.Region.TheVariants as region
use Rattle.w32_base.specs.declared.call.TtyOp.TheVariants as tty
use Rattle.w32_base.specs.declared.call.Call.TheVariants as call
use Rattle.w32_base.specs.declared.call.Reply.TheVariants as reply
use Rattle.w32_base.specs.declared.entry.Directive.TheVariants as directive
use Rattle.w32_base.specs.declared.entry.Outcome.TheVariants as outcome
use Rattle.w32_base.specs.declared.event.Answer.TheVariants as answer
use Rattle.w32_base.specs.declared.event.Errno.TheVariants as errno
use Rattle.w32_base.specs.declared.event.Field.TheVariants as field
use Rattle.w32_base.specs.declared.event.ForkCause.TheVariants as fork
use Rattle.w32_base.specs.declared.event.NewAction.TheVariants as action
use Rattle.w32_base.specs.declared.event.Death.TheVariants as death
use Rattle.w32_base.specs.declared.event.Event.TheVariants as event
use Rattle.log_spec.specs.Calls.{call_text}
use Rattle.log_spec.specs.Replies.{reply_text, directive_text, outcome_text}
use Rattle.log_spec.specs.Events.{event_text}

cas_text : call_text (call.CompareExchange 1 12000 18446744073709551615 0) ≡ codes "cas 1 12000 18446744073709551615 0"
unfolding digits
cas_text = refl

create_text : call_text (call.Create 0 (1 ∷ 64 ∷ 7 ∷ [])) ≡ codes "create 0 1,64,7"
unfolding digits
create_text = refl

create_of_none_text : call_text (call.Create 3 []) ≡ codes "create 3 -"
unfolding digits
create_of_none_text = refl

copy_text : call_text (call.WriteMemory 5 region.Dat 0 region.Cyg 512 64) ≡ codes "writemem 5 data 0 cyg 512 64"
unfolding digits
copy_text = refl

tty_put_text : call_text (call.Tty 9 (tty.Put 2 64 0 true)) ≡ codes "tty 9 put 2 64 0 1"
unfolding digits
tty_put_text = refl

tty_state_text : call_text (call.Tty 3 tty.State) ≡ codes "tty 3 state"
unfolding digits
tty_state_text = refl

key_reply_text : reply_text (reply.Key 3 2 4001) ≡ codes "key 3 2 4001"
unfolding digits
key_reply_text = refl

state_reply_text : outcome_text (outcome.Step (reply.State 2 2 15)) ≡ codes "state 2 2 15"
unfolding digits
state_reply_text = refl

key_directive_text : directive_text (directive.Key 10) ≡ codes "key 0a"
key_directive_text = refl

kill_text : event_text (event.Kill 2 (negsuc 2147483647) (pos 4294967295) (answer.Error errno.EINVAL))
    ≡ codes "kill 2 -2147483648 4294967295 EINVAL"
unfolding digits
kill_text = refl

get_text : event_text (event.Get 4001 field.Foreground (pos 0)) ≡ codes "get 4001 fg 0"
unfolding digits
get_text = refl

placed_text : event_text (event.ForkFail 2 (fork.Placed (codes "core") (pos 0) (pos 10)))
    ≡ codes "forkfail 2 placed core 0 10"
unfolding digits
placed_text = refl

handler_text : event_text (event.SetAction 2 (pos 17) (action.Handler (pos 9) true))
    ≡ codes "action 2 17 handler 9 restart"
unfolding digits
handler_text = refl

world_text : event_text (event.Die 3 (pos 265) (death.World (pos 88))) ≡ codes "die 3 265 world 88"
unfolding digits
world_text = refl

line_text : event_text (event.Line 2 (pos 3) (0 ∷ 255 ∷ 97 ∷ [])) ≡ codes "line 2 3 00ff61"
unfolding digits
line_text = refl

empty_line_text : event_text (event.Line 2 (pos 0) []) ≡ codes "line 2 0 -"
unfolding digits
empty_line_text = refl

key_text : event_text (event.Key 0 127) ≡ codes "key 0 7f"
unfolding digits
key_text = refl
