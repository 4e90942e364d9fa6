-- The texts of events: one table, a case an event, from which the writer, the reader and the views take.
use Rattle.std.specs.Prelude.{ℕ, Bool, true, false, List, [], ◌∷◌, map, codes}
use Rattle.std.specs.List.{list_all}
use Rattle.w32_base.specs.declared.event.Answer.{Answer}
use Rattle.w32_base.specs.declared.event.Answer.TheVariants as answer
use Rattle.w32_base.specs.declared.event.Errno.{Errno}
use Rattle.w32_base.specs.declared.event.Errno.TheVariants as errno
use Rattle.w32_base.specs.declared.event.Field.{Field}
use Rattle.w32_base.specs.declared.event.Field.TheVariants as field
use Rattle.w32_base.specs.declared.event.ForkCause.{ForkCause}
use Rattle.w32_base.specs.declared.event.ForkCause.TheVariants as fork
use Rattle.w32_base.specs.declared.event.ExecCause.{ExecCause}
use Rattle.w32_base.specs.declared.event.ExecCause.TheVariants as exec
use Rattle.w32_base.specs.declared.event.Delivery.{Delivery}
use Rattle.w32_base.specs.declared.event.Delivery.TheVariants as delivery
use Rattle.w32_base.specs.declared.event.Death.{Death}
use Rattle.w32_base.specs.declared.event.Death.TheVariants as death
use Rattle.w32_base.specs.declared.event.NewAction.{NewAction}
use Rattle.w32_base.specs.declared.event.NewAction.TheVariants as action
use Rattle.w32_base.specs.declared.event.Event.{Event}
use Rattle.w32_base.specs.declared.event.Event.TheVariants as event
use Rattle.script_spec.specs.declared.script.Script.{Script}
use Rattle.log_spec.specs.Texts.{spaced}
use Rattle.log_spec.specs.Words.{Word, Plain, Actor, Host, Numeral, ProgramName, ModuleName, KeyByte, Bytes, word_text}
use Rattle.log_spec.specs.Words.{is_word_within}

abbrev pub errno_text : Errno → List ℕ
errno_text errno.EPERM = codes "EPERM"
errno_text errno.ENOENT = codes "ENOENT"
errno_text errno.ESRCH = codes "ESRCH"
errno_text errno.EINTR = codes "EINTR"
errno_text errno.EIO = codes "EIO"
errno_text errno.ECHILD = codes "ECHILD"
errno_text errno.EAGAIN = codes "EAGAIN"
errno_text errno.EACCES = codes "EACCES"
errno_text errno.EINVAL = codes "EINVAL"
errno_text errno.ENOTTY = codes "ENOTTY"

-- how a call ended: 0, or the name of an error
abbrev pub answer_text : Answer → List ℕ
answer_text answer.Zero = codes "0"
answer_text (answer.Error e) = errno_text e

-- what a `get` call asks for
abbrev pub field_text : Field → List ℕ
field_text field.Pid = codes "pid"
field_text field.Ppid = codes "ppid"
field_text field.Pgid = codes "pgid"
field_text field.Sid = codes "sid"
field_text field.Foreground = codes "fg"

-- why a fork failed, and why an exec did
abbrev pub fork_cause_words : ForkCause → List Word
fork_cause_words fork.Children = Plain (codes "children") ∷ []
fork_cause_words fork.Rows = Plain (codes "rows") ∷ []
fork_cause_words fork.Slot = Plain (codes "slot") ∷ []
fork_cause_words (fork.Placed m found wanted) =
    Plain (codes "placed") ∷ ModuleName m ∷ Numeral found ∷ Numeral wanted ∷ []
fork_cause_words (fork.Ended w) = Plain (codes "ended") ∷ Numeral w ∷ []

abbrev pub exec_cause_words : ExecCause → List Word
exec_cause_words exec.NoEntry = Plain (codes "noent") ∷ []
exec_cause_words exec.Slot = Plain (codes "slot") ∷ []
exec_cause_words (exec.Ended w) = Plain (codes "ended") ∷ Numeral w ∷ []

abbrev pub delivery_text : Delivery → List ℕ
delivery_text delivery.Plain = codes "plain"
delivery_text delivery.Interrupting = codes "eintr"

-- what ended a process
abbrev pub death_words : Death → List Word
death_words death.Exit = Plain (codes "exit") ∷ []
death_words death.Signal = Plain (codes "signal") ∷ []
death_words death.Fault = Plain (codes "fault") ∷ []
death_words (death.World n) = Plain (codes "world") ∷ Numeral n ∷ []

abbrev pub restart_words : Bool → List Word
restart_words true = Plain (codes "restart") ∷ []
restart_words false = []

abbrev pub action_words : NewAction → List Word
action_words action.Default = Plain (codes "default") ∷ []
action_words action.Ignore = Plain (codes "ignore") ∷ []
action_words (action.Handler n restart) = Plain (codes "handler") ∷ Numeral n ∷ restart_words restart

-- the words of an event
abbrev pub words_of : Event → List Word
words_of (event.Run p n) = Plain (codes "run") ∷ Actor p ∷ Numeral n ∷ []
words_of (event.Get p f v) = Plain (codes "get") ∷ Actor p ∷ Plain (field_text f) ∷ Numeral v ∷ []
words_of (event.Fork p c) = Plain (codes "fork") ∷ Actor p ∷ Numeral c ∷ []
words_of (event.ForkFail p cause) = Plain (codes "forkfail") ∷ Actor p ∷ fork_cause_words cause
words_of (event.Exec p name) = Plain (codes "exec") ∷ Actor p ∷ ProgramName name ∷ []
words_of (event.ExecFail p cause) = Plain (codes "execfail") ∷ Actor p ∷ exec_cause_words cause
words_of (event.Kill p q s a) =
    Plain (codes "kill") ∷ Actor p ∷ Numeral q ∷ Numeral s ∷ Plain (answer_text a) ∷ []
words_of (event.Member p q s) = Plain (codes "member") ∷ Actor p ∷ Numeral q ∷ Numeral s ∷ []
words_of (event.GroupDone p g s a) =
    Plain (codes "groupdone") ∷ Actor p ∷ Numeral g ∷ Numeral s ∷ Plain (answer_text a) ∷ []
words_of (event.Look p c) = Plain (codes "look") ∷ Actor p ∷ Numeral c ∷ []
words_of (event.Block p) = Plain (codes "block") ∷ Actor p ∷ []
words_of (event.Nothing p) = Plain (codes "nothing") ∷ Actor p ∷ []
words_of (event.Reap p c v) = Plain (codes "reap") ∷ Actor p ∷ Numeral c ∷ Numeral v ∷ []
words_of (event.Report p c v) = Plain (codes "report") ∷ Actor p ∷ Numeral c ∷ Numeral v ∷ []
words_of (event.NoChild p) = Plain (codes "nochild") ∷ Actor p ∷ []
words_of (event.Refuse p e) = Plain (codes "refuse") ∷ Actor p ∷ Plain (errno_text e) ∷ []
words_of (event.Mask p m) = Plain (codes "mask") ∷ Actor p ∷ Numeral m ∷ []
words_of (event.SetAction p s new) = Plain (codes "action") ∷ Actor p ∷ Numeral s ∷ action_words new
words_of (event.Suspend p m) = Plain (codes "suspend") ∷ Actor p ∷ Numeral m ∷ []
words_of (event.Return p) = Plain (codes "return") ∷ Actor p ∷ []
words_of (event.Deliver p s d) = Plain (codes "deliver") ∷ Actor p ∷ Numeral s ∷ Plain (delivery_text d) ∷ []
words_of (event.Discard p s) = Plain (codes "discard") ∷ Actor p ∷ Numeral s ∷ []
words_of (event.Stop p s) = Plain (codes "stop") ∷ Actor p ∷ Numeral s ∷ []
words_of (event.Die p v d) = Plain (codes "die") ∷ Actor p ∷ Numeral v ∷ death_words d
words_of (event.Notify p) = Plain (codes "notify") ∷ Actor p ∷ []
words_of (event.Collect p) = Plain (codes "collect") ∷ Actor p ∷ []
words_of (event.SetPgid p q g) = Plain (codes "setpgid") ∷ Actor p ∷ Numeral q ∷ Numeral g ∷ []
words_of (event.SetSid p) = Plain (codes "setsid") ∷ Actor p ∷ []
words_of (event.TcSet p g) = Plain (codes "tcset") ∷ Actor p ∷ Numeral g ∷ []
words_of (event.Flags p n) = Plain (codes "flags") ∷ Actor p ∷ Numeral n ∷ []
words_of (event.Background p s) = Plain (codes "background") ∷ Actor p ∷ Numeral s ∷ []
words_of (event.BackgroundDone p) = Plain (codes "bgdone") ∷ Actor p ∷ []
words_of (event.Line p n bytes) = Plain (codes "line") ∷ Actor p ∷ Numeral n ∷ Bytes bytes ∷ []
words_of (event.Write p n bytes) = Plain (codes "write") ∷ Actor p ∷ Numeral n ∷ Bytes bytes ∷ []
words_of (event.Key p b) = Plain (codes "key") ∷ Host p ∷ KeyByte b ∷ []
words_of (event.Host p n) = Plain (codes "host") ∷ Host p ∷ Numeral n ∷ []

abbrev pub event_text : Event → List ℕ
event_text e = spaced (map word_text (words_of e))

-- the first number of an event's line
abbrev pub first_number : List Word → ℕ
first_number [] = 0
first_number (Actor number ∷ words) = number
first_number (Host number ∷ words) = number
first_number (word ∷ words) = first_number words

abbrev pub actor_of : Event → ℕ
actor_of e = first_number (words_of e)

-- whether each word of an event is in its range
abbrev pub is_event_within : Script → Event → Bool
is_event_within script e = list_all (is_word_within script) (words_of e)
