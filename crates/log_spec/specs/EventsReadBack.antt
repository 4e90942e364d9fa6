-- An event in its range is read back from its words.
use Rattle.std.specs.Prelude.{◌≡◌, ℕ, ℤ, Bool, true, false, ◌&&◌, nat_eq, nat_le, List, map, length}
use Rattle.std.specs.List.{list_all}
use Rattle.std.specs.Fmt.{decimal, signed_decimal}
use Rattle.std.proofs.Common.{arith}
use Rattle.std.proofs.lemmas.Bool.{eqb-true}
use Rattle.w32_base.specs.declared.event.Field.TheVariants as field
use Rattle.w32_base.specs.declared.event.ForkCause.TheVariants as fork
use Rattle.w32_base.specs.declared.event.ExecCause.TheVariants as exec
use Rattle.w32_base.specs.declared.event.Delivery.TheVariants as delivery
use Rattle.w32_base.specs.declared.event.Death.TheVariants as death
use Rattle.w32_base.specs.declared.event.NewAction.TheVariants as action
use Rattle.w32_base.specs.declared.event.Event.{Event}
use Rattle.w32_base.specs.declared.event.Event.TheVariants as event
use Rattle.w32_base.specs.Name.{is_name}
use Rattle.w32_base.specs.Names.{is_among}
use Rattle.w32_base.specs.Setup.{module_names}
use Rattle.script_spec.specs.declared.script.Script.{Script}
use Rattle.log_spec.specs.Texts.{byte_text, bytes_text}
use Rattle.log_spec.specs.Words.{is_actor, is_numeral, is_byte, word_text}
use Rattle.log_spec.specs.Events.{words_of, is_event_within}
use Rattle.log_spec.specs.EventsRead.{natural_in, integer_in, byte_in, bytes_in, event_in}
use Rattle.log_spec.specs.EventsReadLaws.{parts, natural_is, actor_is, numeral_is, key_byte_is, bytes_are, errno_is}
use Rattle.log_spec.specs.EventsReadLaws.{answer_is}

-- the first number of an event's words is read back, and each other one, by how many tests stand before its own
actor : (b : Bool) (p : ℕ) → (is_actor p && b) ≡ true → natural_in (decimal p) ≡ p
actor b p h = actor_is p (parts _ _ h).0

host : (b : Bool) (p : ℕ) → (nat_eq p 0 && b) ≡ true → natural_in (decimal p) ≡ p
host b p h = let zero_is = eqb-true p 0 (parts _ _ h).0 in natural_is p (omega arith)

first : (a b : Bool) (n : ℤ) → (a && (is_numeral n && b)) ≡ true → integer_in (signed_decimal n) ≡ n
first a b n h = numeral_is n (parts _ _ (parts a _ h).1).0

second : (a b c : Bool) (n : ℤ) → (a && (b && (is_numeral n && c))) ≡ true → integer_in (signed_decimal n) ≡ n
second a b c n h = first b c n (parts a _ h).1

third : (a b c d : Bool) (n : ℤ) → (a && (b && (c && (is_numeral n && d)))) ≡ true
    → integer_in (signed_decimal n) ≡ n
third a b c d n h = second b c d n (parts a _ h).1

-- the byte of a key, and the bytes that were read or written
key_byte : (a : Bool) (b : ℕ) → (a && (is_byte b && true)) ≡ true → byte_in (byte_text b) ≡ b
key_byte a b h = key_byte_is b (parts _ _ (parts a _ h).1).0

shown : (a b : Bool) (bytes : List ℕ)
    → (a && (b && ((nat_le (length bytes) 64 && list_all is_byte bytes) && true))) ≡ true
    → bytes_in (bytes_text bytes) ≡ bytes
shown a b bytes h = bytes_are bytes (parts _ _ (parts _ _ (parts b _ (parts a _ h).1).1).0).1

pub read_back : (script : Script) (e : Event) → is_event_within script e ≡ true
    → event_in (map word_text (words_of e)) ≡ e
read_back script (event.Run p n) h = cc (actor _ p h, first _ _ n h)
read_back script (event.Get p field.Pid v) h = cc (actor _ p h, first _ _ v h)
read_back script (event.Get p field.Ppid v) h = cc (actor _ p h, first _ _ v h)
read_back script (event.Get p field.Pgid v) h = cc (actor _ p h, first _ _ v h)
read_back script (event.Get p field.Sid v) h = cc (actor _ p h, first _ _ v h)
read_back script (event.Get p field.Foreground v) h = cc (actor _ p h, first _ _ v h)
read_back script (event.Fork p c) h = cc (actor _ p h, first _ _ c h)
read_back script (event.ForkFail p fork.Children) h = cc (actor _ p h)
read_back script (event.ForkFail p fork.Rows) h = cc (actor _ p h)
read_back script (event.ForkFail p fork.Slot) h = cc (actor _ p h)
read_back script (event.ForkFail p (fork.Placed m found wanted)) h =
    let is_module = is_name m && is_among m (module_names script.setup.modules) in
    let number = is_numeral found in
    cc (actor _ p h, second (is_actor p) is_module _ found h, third (is_actor p) is_module number _ wanted h)
read_back script (event.ForkFail p (fork.Ended w)) h = cc (actor _ p h, first _ _ w h)
read_back script (event.Exec p name) h = cc (actor _ p h)
read_back script (event.ExecFail p exec.NoEntry) h = cc (actor _ p h)
read_back script (event.ExecFail p exec.Slot) h = cc (actor _ p h)
read_back script (event.ExecFail p (exec.Ended w)) h = cc (actor _ p h, first _ _ w h)
read_back script (event.Kill p q s a) h = cc (actor _ p h, first _ _ q h, second _ _ _ s h, answer_is a)
read_back script (event.Member p q s) h = cc (actor _ p h, first _ _ q h, second _ _ _ s h)
read_back script (event.GroupDone p g s a) h = cc (actor _ p h, first _ _ g h, second _ _ _ s h, answer_is a)
read_back script (event.Look p c) h = cc (actor _ p h, first _ _ c h)
read_back script (event.Block p) h = cc (actor _ p h)
read_back script (event.Nothing p) h = cc (actor _ p h)
read_back script (event.Reap p c v) h = cc (actor _ p h, first _ _ c h, second _ _ _ v h)
read_back script (event.Report p c v) h = cc (actor _ p h, first _ _ c h, second _ _ _ v h)
read_back script (event.NoChild p) h = cc (actor _ p h)
read_back script (event.Refuse p e) h = cc (actor _ p h, errno_is e)
read_back script (event.Mask p m) h = cc (actor _ p h, first _ _ m h)
read_back script (event.SetAction p s action.Default) h = cc (actor _ p h, first _ _ s h)
read_back script (event.SetAction p s action.Ignore) h = cc (actor _ p h, first _ _ s h)
read_back script (event.SetAction p s (action.Handler n true)) h = cc (actor _ p h, first _ _ s h, second _ _ _ n h)
read_back script (event.SetAction p s (action.Handler n false)) h = cc (actor _ p h, first _ _ s h, second _ _ _ n h)
read_back script (event.Suspend p m) h = cc (actor _ p h, first _ _ m h)
read_back script (event.Return p) h = cc (actor _ p h)
read_back script (event.Deliver p s delivery.Plain) h = cc (actor _ p h, first _ _ s h)
read_back script (event.Deliver p s delivery.Interrupting) h = cc (actor _ p h, first _ _ s h)
read_back script (event.Discard p s) h = cc (actor _ p h, first _ _ s h)
read_back script (event.Stop p s) h = cc (actor _ p h, first _ _ s h)
read_back script (event.Die p v death.Exit) h = cc (actor _ p h, first _ _ v h)
read_back script (event.Die p v death.Signal) h = cc (actor _ p h, first _ _ v h)
read_back script (event.Die p v death.Fault) h = cc (actor _ p h, first _ _ v h)
read_back script (event.Die p v (death.World n)) h = cc (actor _ p h, first _ _ v h, second _ _ _ n h)
read_back script (event.Notify p) h = cc (actor _ p h)
read_back script (event.Collect p) h = cc (actor _ p h)
read_back script (event.SetPgid p q g) h = cc (actor _ p h, first _ _ q h, second _ _ _ g h)
read_back script (event.SetSid p) h = cc (actor _ p h)
read_back script (event.TcSet p n) h = cc (actor _ p h, first _ _ n h)
read_back script (event.Flags p n) h = cc (actor _ p h, first _ _ n h)
read_back script (event.Background p n) h = cc (actor _ p h, first _ _ n h)
read_back script (event.BackgroundDone p) h = cc (actor _ p h)
read_back script (event.Line p n bytes) h = cc (actor _ p h, first _ _ n h, shown _ _ bytes h)
read_back script (event.Write p n bytes) h = cc (actor _ p h, first _ _ n h, shown _ _ bytes h)
read_back script (event.Key p b) h = cc (host _ p h, key_byte _ b h)
read_back script (event.Host p n) h = cc (host _ p h, first _ _ n h)
