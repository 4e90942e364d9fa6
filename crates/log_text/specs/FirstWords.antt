-- The first words of events' lines.
use Rattle.std.specs.Prelude.{ℕ, List, [], ◌∷◌, codes, Option}
use Rattle.script_spec.specs.FirstWords.{with_text, either}
use Rattle.log_text.specs.declared.first_word.EventWord.{EventWord}
use Rattle.log_text.specs.declared.first_word.EventWord.TheVariants as word

abbrev pub event_word_text : EventWord → List ℕ
event_word_text word.Run = codes "run"
event_word_text word.Get = codes "get"
event_word_text word.Fork = codes "fork"
event_word_text word.ForkFail = codes "forkfail"
event_word_text word.Exec = codes "exec"
event_word_text word.ExecFail = codes "execfail"
event_word_text word.Kill = codes "kill"
event_word_text word.Member = codes "member"
event_word_text word.GroupDone = codes "groupdone"
event_word_text word.Look = codes "look"
event_word_text word.Block = codes "block"
event_word_text word.Nothing = codes "nothing"
event_word_text word.Reap = codes "reap"
event_word_text word.Report = codes "report"
event_word_text word.NoChild = codes "nochild"
event_word_text word.Refuse = codes "refuse"
event_word_text word.Notify = codes "notify"
event_word_text word.Collect = codes "collect"
event_word_text word.Mask = codes "mask"
event_word_text word.Action = codes "action"
event_word_text word.Suspend = codes "suspend"
event_word_text word.Return = codes "return"
event_word_text word.Deliver = codes "deliver"
event_word_text word.Discard = codes "discard"
event_word_text word.Stop = codes "stop"
event_word_text word.Die = codes "die"
event_word_text word.SetPgid = codes "setpgid"
event_word_text word.SetSid = codes "setsid"
event_word_text word.TcSet = codes "tcset"
event_word_text word.Flags = codes "flags"
event_word_text word.Background = codes "background"
event_word_text word.BackgroundDone = codes "bgdone"
event_word_text word.Line = codes "line"
event_word_text word.Write = codes "write"
event_word_text word.Key = codes "key"
event_word_text word.Host = codes "host"

-- blocks, calls and parts of group calls
abbrev pub call_words : List EventWord
call_words = word.Run ∷ word.Get ∷ word.Fork ∷ word.ForkFail ∷ word.Exec ∷ word.ExecFail ∷ word.Kill
    ∷ word.Member ∷ word.GroupDone ∷ []

abbrev pub call_word : List ℕ → Option EventWord
call_word text = with_text event_word_text call_words text

-- steps of a `wait` call, and refusals
abbrev pub child_words : List EventWord
child_words = word.Look ∷ word.Block ∷ word.Nothing ∷ word.Reap ∷ word.Report ∷ word.NoChild ∷ word.Refuse
    ∷ word.Notify ∷ word.Collect ∷ []

abbrev pub child_word : List ℕ → Option EventWord
child_word text = with_text event_word_text child_words text

-- what concerns signals
abbrev pub signal_words : List EventWord
signal_words = word.Mask ∷ word.Action ∷ word.Suspend ∷ word.Return ∷ word.Deliver ∷ word.Discard ∷ word.Stop
    ∷ word.Die ∷ []

abbrev pub signal_word : List ℕ → Option EventWord
signal_word text = with_text event_word_text signal_words text

-- what concerns groups, and the terminal or the host
abbrev pub group_words : List EventWord
group_words = word.SetPgid ∷ word.SetSid ∷ word.TcSet ∷ word.Background ∷ word.BackgroundDone ∷ []

abbrev pub group_word : List ℕ → Option EventWord
group_word text = with_text event_word_text group_words text

abbrev pub terminal_words : List EventWord
terminal_words = word.Flags ∷ word.Line ∷ word.Write ∷ word.Key ∷ word.Host ∷ []

abbrev pub terminal_word : List ℕ → Option EventWord
terminal_word text = with_text event_word_text terminal_words text

-- the word that has this text
abbrev pub event_word : List ℕ → Option EventWord
event_word text =
    either (call_word text) (either (child_word text) (either (signal_word text)
    (either (group_word text) (terminal_word text))))
