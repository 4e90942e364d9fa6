-- An event in its range is read from its words.
use Rattle.std.proofs.Common.{◌≡◌, refl, ℕ, ℤ, Bool, true, false, ◌&&◌, nat_eq, List, [], map, Option}
use Rattle.std.proofs.Common.{Some}
use Rattle.std.proofs.Common.{ap, ◌∙◌}
use Rattle.std.specs.Prelude.{codes, option_map}
use Rattle.std.specs.Fmt.{decimal, signed_decimal}
use Rattle.w32_base.specs.declared.event.Field.TheVariants as field
use Rattle.w32_base.specs.declared.event.ForkCause.TheVariants as fork
use Rattle.w32_base.specs.declared.event.ExecCause.TheVariants as exec
use Rattle.w32_base.specs.declared.event.Delivery.TheVariants as delivery
use Rattle.w32_base.specs.declared.event.Death.TheVariants as death
use Rattle.w32_base.specs.declared.event.NewAction.TheVariants as action
use Rattle.w32_base.specs.declared.event.Event.{Event}
use Rattle.w32_base.specs.declared.event.Event.TheVariants as event
use Rattle.w32_base.specs.Name.{is_name}
use Rattle.w32_base.specs.Names.{is_among}
use Rattle.w32_base.specs.Setup.{module_names}
use Rattle.script_spec.specs.FirstWords.{either}
use Rattle.script_spec.specs.declared.script.Script.{Script}
use Rattle.log_spec.specs.Texts.{byte_text, bytes_text}
use Rattle.log_spec.specs.Words.{is_actor, is_numeral, word_text}
use Rattle.log_spec.specs.Events.{errno_text, answer_text, words_of, event_text, is_event_within}
use Rattle.log_spec.specs.EventsRead.{words_in}
use Rattle.log_spec.specs.EventsReadLaws.{parts}
use Rattle.log_spec.specs.EventsTextLaws.{event_words}
use Rattle.log_text.specs.ReadWords.{numeral_in}
use Rattle.log_text.specs.ReadEvents.{placed, got, handler_of, answered, by_two, by_one, by_actor, by_word}
use Rattle.log_text.specs.ReadEvents.{event_of, event_of_words}
use Rattle.log_text.specs.FirstWords.{event_word}
use Rattle.log_text.specs.declared.first_word.EventWord.{EventWord}
use Rattle.log_text.specs.declared.first_word.EventWord.TheVariants as word
use Rattle.log_text.proofs.ReadWords.{actor_found, host_found, first_found, second_found, third_found, name_found}
use Rattle.log_text.proofs.ReadWords.{errno_found, answer_found, key_found, shown_found}

-- the process that acts and the numbers behind it are read
actor : (text : List ℕ) (word : EventWord) → event_word text ≡ Some word → (a b c d : List ℕ) (t : Bool) (p : ℕ)
    → (is_actor p && t) ≡ true → event_of text (decimal p) a b c d ≡ by_actor word a b c d (Some p)
unfolding event_of
actor text word is a b c d t p h =
    ap (λ (o : Option EventWord). by_word o (decimal p) a b c d) is ∙ ap (by_actor word a b c d) (actor_found t p h)

host : (text : List ℕ) (word : EventWord) → event_word text ≡ Some word → (a b c d : List ℕ) (t : Bool) (p : ℕ)
    → (nat_eq p 0 && t) ≡ true → event_of text (decimal p) a b c d ≡ by_actor word a b c d (Some p)
unfolding event_of
host text word is a b c d t p h =
    ap (λ (o : Option EventWord). by_word o (decimal p) a b c d) is ∙ ap (by_actor word a b c d) (host_found t p h)

one : (word : EventWord) (b c d : List ℕ) (s t : Bool) (p : ℕ) (n : ℤ) → (s && (is_numeral n && t)) ≡ true
    → by_one word p b c d (numeral_in (signed_decimal n)) ≡ by_one word p b c d (Some n)
one word b c d s t p n h = ap (by_one word p b c d) (first_found s t n h)

two : (word : EventWord) (c : List ℕ) (r s t : Bool) (p : ℕ) (m n : ℤ) → (r && (s && (is_numeral n && t))) ≡ true
    → by_two word p m c (numeral_in (signed_decimal n)) ≡ by_two word p m c (Some n)
two word c r s t p m n h = ap (by_two word p m c) (second_found r s t n h)

-- the first of two that is there
first : (x y : Option Event) (e : Event) → x ≡ Some e → either x y ≡ Some e
first x y e h = ap (λ (o : Option Event). either o y) h

placed_found : (x : Option (List ℕ)) (y z : Option ℤ) (m : List ℕ) (found wanted : ℤ) → x ≡ Some m → y ≡ Some found
    → z ≡ Some wanted → placed x y z ≡ Some (fork.Placed m found wanted)
placed_found x y z m found wanted h k l =
    ap (λ (o : Option (List ℕ)). placed o y z) h
    ∙ (ap (λ (o : Option ℤ). placed (Some m) o z) k ∙ ap (placed (Some m) (Some found)) l)

pub found : (script : Script) (e : Event) → is_event_within script e ≡ true
    → event_of_words (map word_text (words_of e)) ≡ Some e
unfolding event_of_words
found script (event.Block p) h = actor (codes "block") word.Block refl [] [] [] [] _ p h
found script (event.Nothing p) h = actor (codes "nothing") word.Nothing refl [] [] [] [] _ p h
found script (event.NoChild p) h = actor (codes "nochild") word.NoChild refl [] [] [] [] _ p h
found script (event.Return p) h = actor (codes "return") word.Return refl [] [] [] [] _ p h
found script (event.Notify p) h = actor (codes "notify") word.Notify refl [] [] [] [] _ p h
found script (event.Collect p) h = actor (codes "collect") word.Collect refl [] [] [] [] _ p h
found script (event.SetSid p) h = actor (codes "setsid") word.SetSid refl [] [] [] [] _ p h
found script (event.BackgroundDone p) h = actor (codes "bgdone") word.BackgroundDone refl [] [] [] [] _ p h
found script (event.Run p n) h =
    actor (codes "run") word.Run refl (signed_decimal n) [] [] [] _ p h ∙ one word.Run [] [] [] _ _ p n h
found script (event.Fork p n) h =
    actor (codes "fork") word.Fork refl (signed_decimal n) [] [] [] _ p h ∙ one word.Fork [] [] [] _ _ p n h
found script (event.Look p n) h =
    actor (codes "look") word.Look refl (signed_decimal n) [] [] [] _ p h ∙ one word.Look [] [] [] _ _ p n h
found script (event.Mask p n) h =
    actor (codes "mask") word.Mask refl (signed_decimal n) [] [] [] _ p h ∙ one word.Mask [] [] [] _ _ p n h
found script (event.Suspend p n) h =
    actor (codes "suspend") word.Suspend refl (signed_decimal n) [] [] [] _ p h ∙ one word.Suspend [] [] [] _ _ p n h
found script (event.Discard p n) h =
    actor (codes "discard") word.Discard refl (signed_decimal n) [] [] [] _ p h ∙ one word.Discard [] [] [] _ _ p n h
found script (event.Stop p n) h =
    actor (codes "stop") word.Stop refl (signed_decimal n) [] [] [] _ p h ∙ one word.Stop [] [] [] _ _ p n h
found script (event.TcSet p n) h =
    actor (codes "tcset") word.TcSet refl (signed_decimal n) [] [] [] _ p h ∙ one word.TcSet [] [] [] _ _ p n h
found script (event.Flags p n) h =
    actor (codes "flags") word.Flags refl (signed_decimal n) [] [] [] _ p h ∙ one word.Flags [] [] [] _ _ p n h
found script (event.Background p n) h =
    actor (codes "background") word.Background refl (signed_decimal n) [] [] [] _ p h
    ∙ one word.Background [] [] [] _ _ p n h
found script (event.Host p n) h =
    host (codes "host") word.Host refl (signed_decimal n) [] [] [] _ p h ∙ one word.Host [] [] [] _ _ p n h
found script (event.Member p m n) h =
    actor (codes "member") word.Member refl (signed_decimal m) (signed_decimal n) [] [] _ p h
    ∙ (one word.Member (signed_decimal n) [] [] _ _ p m h ∙ two word.Member [] _ _ _ p m n h)
found script (event.Reap p m n) h =
    actor (codes "reap") word.Reap refl (signed_decimal m) (signed_decimal n) [] [] _ p h
    ∙ (one word.Reap (signed_decimal n) [] [] _ _ p m h ∙ two word.Reap [] _ _ _ p m n h)
found script (event.Report p m n) h =
    actor (codes "report") word.Report refl (signed_decimal m) (signed_decimal n) [] [] _ p h
    ∙ (one word.Report (signed_decimal n) [] [] _ _ p m h ∙ two word.Report [] _ _ _ p m n h)
found script (event.SetPgid p m n) h =
    actor (codes "setpgid") word.SetPgid refl (signed_decimal m) (signed_decimal n) [] [] _ p h
    ∙ (one word.SetPgid (signed_decimal n) [] [] _ _ p m h ∙ two word.SetPgid [] _ _ _ p m n h)
found script (event.Kill p m n a) h =
    actor (codes "kill") word.Kill refl (signed_decimal m) (signed_decimal n) (answer_text a) [] _ p h
    ∙ (one word.Kill (signed_decimal n) (answer_text a) [] _ _ p m h
    ∙ (two word.Kill (answer_text a) _ _ _ p m n h ∙ ap (answered word.Kill p m n) (answer_found a)))
found script (event.GroupDone p m n a) h =
    actor (codes "groupdone") word.GroupDone refl (signed_decimal m) (signed_decimal n) (answer_text a) [] _ p h
    ∙ (one word.GroupDone (signed_decimal n) (answer_text a) [] _ _ p m h
    ∙ (two word.GroupDone (answer_text a) _ _ _ p m n h ∙ ap (answered word.GroupDone p m n) (answer_found a)))
found script (event.Get p field.Pid v) h =
    actor (codes "get") word.Get refl (codes "pid") (signed_decimal v) [] [] _ p h
    ∙ first _ _ _ (ap (got p (Some field.Pid)) (first_found _ _ v h))
found script (event.Get p field.Ppid v) h =
    actor (codes "get") word.Get refl (codes "ppid") (signed_decimal v) [] [] _ p h
    ∙ first _ _ _ (ap (got p (Some field.Ppid)) (first_found _ _ v h))
found script (event.Get p field.Pgid v) h =
    actor (codes "get") word.Get refl (codes "pgid") (signed_decimal v) [] [] _ p h
    ∙ first _ _ _ (ap (got p (Some field.Pgid)) (first_found _ _ v h))
found script (event.Get p field.Sid v) h =
    actor (codes "get") word.Get refl (codes "sid") (signed_decimal v) [] [] _ p h
    ∙ first _ _ _ (ap (got p (Some field.Sid)) (first_found _ _ v h))
found script (event.Get p field.Foreground v) h =
    actor (codes "get") word.Get refl (codes "fg") (signed_decimal v) [] [] _ p h
    ∙ first _ _ _ (ap (got p (Some field.Foreground)) (first_found _ _ v h))
found script (event.ForkFail p fork.Children) h =
    actor (codes "forkfail") word.ForkFail refl (codes "children") [] [] [] _ p h
found script (event.ForkFail p fork.Rows) h = actor (codes "forkfail") word.ForkFail refl (codes "rows") [] [] [] _ p h
found script (event.ForkFail p fork.Slot) h = actor (codes "forkfail") word.ForkFail refl (codes "slot") [] [] [] _ p h
found script (event.ForkFail p (fork.Placed m x y)) h =
    let is_module = is_name m && is_among m (module_names script.setup.modules) in
    let number = is_numeral x in
    let name = (parts (is_name m) _ (parts is_module _ (parts (is_actor p) _ h).1).0).0 in
    actor (codes "forkfail") word.ForkFail refl (codes "placed") m (signed_decimal x) (signed_decimal y) _ p h
    ∙ first _ _ _ (ap (option_map (event.ForkFail p)) (placed_found _ _ _ m x y (name_found m name)
    (second_found (is_actor p) is_module _ x h) (third_found (is_actor p) is_module number _ y h)))
found script (event.ForkFail p (fork.Ended w)) h =
    actor (codes "forkfail") word.ForkFail refl (codes "ended") (signed_decimal w) [] [] _ p h
    ∙ first _ _ _ (ap (λ (o : Option ℤ). option_map (event.ForkFail p) (option_map fork.Ended o)) (first_found _ _ w h))
found script (event.Exec p name) h =
    actor (codes "exec") word.Exec refl name [] [] [] _ p h
    ∙ first _ _ _ (ap (option_map (event.Exec p))
    (name_found name (parts (is_name name) _ (parts _ true (parts (is_actor p) _ h).1).0).0))
found script (event.ExecFail p exec.NoEntry) h =
    actor (codes "execfail") word.ExecFail refl (codes "noent") [] [] [] _ p h
found script (event.ExecFail p exec.Slot) h = actor (codes "execfail") word.ExecFail refl (codes "slot") [] [] [] _ p h
found script (event.ExecFail p (exec.Ended w)) h =
    actor (codes "execfail") word.ExecFail refl (codes "ended") (signed_decimal w) [] [] _ p h
    ∙ first _ _ _ (ap (λ (o : Option ℤ). option_map (event.ExecFail p) (option_map exec.Ended o)) (first_found _ _ w h))
found script (event.Refuse p e) h =
    actor (codes "refuse") word.Refuse refl (errno_text e) [] [] [] _ p h
    ∙ first _ _ _ (ap (option_map (event.Refuse p)) (errno_found e))
found script (event.SetAction p s action.Default) h =
    actor (codes "action") word.Action refl (signed_decimal s) (codes "default") [] [] _ p h
    ∙ one word.Action (codes "default") [] [] _ _ p s h
found script (event.SetAction p s action.Ignore) h =
    actor (codes "action") word.Action refl (signed_decimal s) (codes "ignore") [] [] _ p h
    ∙ one word.Action (codes "ignore") [] [] _ _ p s h
found script (event.SetAction p s (action.Handler n true)) h =
    actor (codes "action") word.Action refl (signed_decimal s) (codes "handler")
    (signed_decimal n) (codes "restart") _ p h
    ∙ (one word.Action (codes "handler") (signed_decimal n) (codes "restart") _ _ p s h
    ∙ first _ _ _ (ap (λ (o : Option ℤ). option_map (event.SetAction p s) (handler_of (codes "restart") o))
    (second_found _ _ _ n h)))
found script (event.SetAction p s (action.Handler n false)) h =
    actor (codes "action") word.Action refl (signed_decimal s) (codes "handler") (signed_decimal n) [] _ p h
    ∙ (one word.Action (codes "handler") (signed_decimal n) [] _ _ p s h
    ∙ first _ _ _ (ap (λ (o : Option ℤ). option_map (event.SetAction p s) (handler_of [] o)) (second_found _ _ _ n h)))
found script (event.Deliver p s delivery.Plain) h =
    actor (codes "deliver") word.Deliver refl (signed_decimal s) (codes "plain") [] [] _ p h
    ∙ one word.Deliver (codes "plain") [] [] _ _ p s h
found script (event.Deliver p s delivery.Interrupting) h =
    actor (codes "deliver") word.Deliver refl (signed_decimal s) (codes "eintr") [] [] _ p h
    ∙ one word.Deliver (codes "eintr") [] [] _ _ p s h
found script (event.Die p v death.Exit) h =
    actor (codes "die") word.Die refl (signed_decimal v) (codes "exit") [] [] _ p h
    ∙ one word.Die (codes "exit") [] [] _ _ p v h
found script (event.Die p v death.Signal) h =
    actor (codes "die") word.Die refl (signed_decimal v) (codes "signal") [] [] _ p h
    ∙ one word.Die (codes "signal") [] [] _ _ p v h
found script (event.Die p v death.Fault) h =
    actor (codes "die") word.Die refl (signed_decimal v) (codes "fault") [] [] _ p h
    ∙ one word.Die (codes "fault") [] [] _ _ p v h
found script (event.Die p v (death.World n)) h =
    actor (codes "die") word.Die refl (signed_decimal v) (codes "world") (signed_decimal n) [] _ p h
    ∙ (one word.Die (codes "world") (signed_decimal n) [] _ _ p v h
    ∙ first _ _ _ (ap (λ (o : Option ℤ). option_map (event.Die p v) (option_map death.World o))
    (second_found _ _ _ n h)))
found script (event.Line p n bytes) h =
    actor (codes "line") word.Line refl (signed_decimal n) (bytes_text bytes) [] [] _ p h
    ∙ (one word.Line (bytes_text bytes) [] [] _ _ p n h
    ∙ first _ _ _ (ap (option_map (event.Line p n)) (shown_found _ _ bytes h)))
found script (event.Write p n bytes) h =
    actor (codes "write") word.Write refl (signed_decimal n) (bytes_text bytes) [] [] _ p h
    ∙ (one word.Write (bytes_text bytes) [] [] _ _ p n h
    ∙ first _ _ _ (ap (option_map (event.Write p n)) (shown_found _ _ bytes h)))
found script (event.Key p b) h =
    host (codes "key") word.Key refl (byte_text b) [] [] [] _ p h
    ∙ first _ _ _ (ap (option_map (event.Key p)) (key_found _ b h))

-- and so from its line
pub line_found : (script : Script) (e : Event) → is_event_within script e ≡ true
    → event_of_words (words_in (event_text e)) ≡ Some e
line_found script e h = ap event_of_words (event_words script e h) ∙ found script e h
