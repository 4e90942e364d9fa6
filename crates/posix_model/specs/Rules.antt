-- The kinds of event, and their words.
use Rattle.std.specs.Prelude.{ℕ, List, [], ◌∷◌, codes}
use Rattle.w32_base.specs.declared.event.Event.{Event}
use Rattle.w32_base.specs.declared.event.Event.TheVariants as event
use Rattle.log_spec.specs.Words.{Word, Plain}
use Rattle.posix_model.specs.declared.rule.Rule.{Rule}
use Rattle.posix_model.specs.declared.rule.Rule.TheVariants as rule

-- the kind of an event
abbrev pub rule_of : Event → Rule
rule_of (event.Run p n) = rule.Run
rule_of (event.Get p f v) = rule.Get
rule_of (event.Fork p c) = rule.Fork
rule_of (event.ForkFail p cause) = rule.ForkFail
rule_of (event.Exec p name) = rule.Exec
rule_of (event.ExecFail p cause) = rule.ExecFail
rule_of (event.Kill p q s answer) = rule.Kill
rule_of (event.Member p q s) = rule.Member
rule_of (event.GroupDone p g s answer) = rule.GroupDone
rule_of (event.Look p c) = rule.Look
rule_of (event.Block p) = rule.Block
rule_of (event.Nothing p) = rule.Nothing
rule_of (event.Reap p c v) = rule.Reap
rule_of (event.Report p c v) = rule.Report
rule_of (event.NoChild p) = rule.NoChild
rule_of (event.Refuse p e) = rule.Refuse
rule_of (event.Mask p m) = rule.Mask
rule_of (event.SetAction p s a) = rule.Action
rule_of (event.Suspend p m) = rule.Suspend
rule_of (event.Return p) = rule.Return
rule_of (event.Deliver p s d) = rule.Deliver
rule_of (event.Discard p s) = rule.Discard
rule_of (event.Stop p s) = rule.Stop
rule_of (event.Die p v d) = rule.Die
rule_of (event.Notify p) = rule.Notify
rule_of (event.Collect p) = rule.Collect
rule_of (event.SetPgid p q g) = rule.SetPgid
rule_of (event.SetSid p) = rule.SetSid
rule_of (event.TcSet p g) = rule.TcSet
rule_of (event.Flags p n) = rule.Flags
rule_of (event.Background p s) = rule.Background
rule_of (event.BackgroundDone p) = rule.BackgroundDone
rule_of (event.Line p n bytes) = rule.Line
rule_of (event.Write p n bytes) = rule.Write
rule_of (event.Key p b) = rule.Key
rule_of (event.Host p n) = rule.Host

-- the first word of the text of an event of this kind
abbrev pub word_of : Rule → List ℕ
word_of rule.Run = codes "run"
word_of rule.Get = codes "get"
word_of rule.Fork = codes "fork"
word_of rule.ForkFail = codes "forkfail"
word_of rule.Exec = codes "exec"
word_of rule.ExecFail = codes "execfail"
word_of rule.Kill = codes "kill"
word_of rule.Member = codes "member"
word_of rule.GroupDone = codes "groupdone"
word_of rule.Look = codes "look"
word_of rule.Block = codes "block"
word_of rule.Nothing = codes "nothing"
word_of rule.Reap = codes "reap"
word_of rule.Report = codes "report"
word_of rule.NoChild = codes "nochild"
word_of rule.Refuse = codes "refuse"
word_of rule.Mask = codes "mask"
word_of rule.Action = codes "action"
word_of rule.Suspend = codes "suspend"
word_of rule.Return = codes "return"
word_of rule.Deliver = codes "deliver"
word_of rule.Discard = codes "discard"
word_of rule.Stop = codes "stop"
word_of rule.Die = codes "die"
word_of rule.Notify = codes "notify"
word_of rule.Collect = codes "collect"
word_of rule.SetPgid = codes "setpgid"
word_of rule.SetSid = codes "setsid"
word_of rule.TcSet = codes "tcset"
word_of rule.Flags = codes "flags"
word_of rule.Background = codes "background"
word_of rule.BackgroundDone = codes "bgdone"
word_of rule.Line = codes "line"
word_of rule.Write = codes "write"
word_of rule.Key = codes "key"
word_of rule.Host = codes "host"

-- the first word of a text, which is a word as it stands
abbrev pub first_word : List Word → List ℕ
first_word (Plain text ∷ words) = text
first_word _ = []
