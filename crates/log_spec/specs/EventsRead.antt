-- What a text of view `events` says, read word by word. This reads more than the texts of the view: it shows that
-- such a text says one list of events, and a reader that prints again what it read knows whether the text was one.
use Rattle.std.specs.Prelude.{ℕ, zero, suc, ◌+◌, ◌-◌, ◌*◌, ℤ, pos, negsuc, nat_eq, nat_lt, if◌then◌else◌, List, [], ◌∷◌}
use Rattle.std.specs.Prelude.{map, length, take, drop, codes, slice_index_or}
use Rattle.std.specs.List.{slice_split}
use Rattle.std.specs.Str.Parse.{digits_value}
use Rattle.w32_base.specs.Names.{is_same}
use Rattle.w32_base.specs.declared.event.Answer.{Answer}
use Rattle.w32_base.specs.declared.event.Answer.TheVariants as answer
use Rattle.w32_base.specs.declared.event.Errno.{Errno}
use Rattle.w32_base.specs.declared.event.Errno.TheVariants as errno
use Rattle.w32_base.specs.declared.event.Field.{Field}
use Rattle.w32_base.specs.declared.event.Field.TheVariants as field
use Rattle.w32_base.specs.declared.event.ForkCause.{ForkCause}
use Rattle.w32_base.specs.declared.event.ForkCause.TheVariants as fork
use Rattle.w32_base.specs.declared.event.ExecCause.{ExecCause}
use Rattle.w32_base.specs.declared.event.ExecCause.TheVariants as exec
use Rattle.w32_base.specs.declared.event.Delivery.{Delivery}
use Rattle.w32_base.specs.declared.event.Delivery.TheVariants as delivery
use Rattle.w32_base.specs.declared.event.Death.{Death}
use Rattle.w32_base.specs.declared.event.Death.TheVariants as death
use Rattle.w32_base.specs.declared.event.NewAction.{NewAction}
use Rattle.w32_base.specs.declared.event.NewAction.TheVariants as action
use Rattle.w32_base.specs.declared.event.Event.{Event}
use Rattle.w32_base.specs.declared.event.Event.TheVariants as event

-- the number that decimal digits write
abbrev pub natural_in : List ℕ → ℕ
natural_in digits = digits_value 10 digits

abbrev pub below_zero : ℕ → ℤ
below_zero zero = pos 0
below_zero (suc n) = negsuc n

-- the same, where a minus may stand first
abbrev pub integer_in : List ℕ → ℤ
integer_in [] = pos 0
integer_in (c ∷ cs) = if nat_eq c 45 then below_zero (natural_in cs) else pos (natural_in (c ∷ cs))

-- the value of a hexadecimal digit, and the bytes of pairs of them; `-` has none
abbrev pub nibble_in : ℕ → ℕ
nibble_in c = if nat_lt c 58 then c - 48 else c - 87

abbrev pub bytes_in : List ℕ → List ℕ
bytes_in (high ∷ low ∷ rest) = (16 * nibble_in high + nibble_in low) ∷ bytes_in rest
bytes_in _ = []

abbrev pub byte_in : List ℕ → ℕ
byte_in digits = slice_index_or (bytes_in digits) 0 0

abbrev pub errno_in : List ℕ → Errno
errno_in word =
    if is_same word (codes "EPERM") then errno.EPERM
    else if is_same word (codes "ENOENT") then errno.ENOENT
    else if is_same word (codes "ESRCH") then errno.ESRCH
    else if is_same word (codes "EINTR") then errno.EINTR
    else if is_same word (codes "EIO") then errno.EIO
    else if is_same word (codes "ECHILD") then errno.ECHILD
    else if is_same word (codes "EAGAIN") then errno.EAGAIN
    else if is_same word (codes "EACCES") then errno.EACCES
    else if is_same word (codes "EINVAL") then errno.EINVAL
    else errno.ENOTTY

abbrev pub answer_in : List ℕ → Answer
answer_in word = if is_same word (codes "0") then answer.Zero else answer.Error (errno_in word)

abbrev pub field_in : List ℕ → Field
field_in word =
    if is_same word (codes "pid") then field.Pid
    else if is_same word (codes "ppid") then field.Ppid
    else if is_same word (codes "pgid") then field.Pgid
    else if is_same word (codes "sid") then field.Sid
    else field.Foreground

abbrev pub fork_cause_in : (word x y z : List ℕ) → ForkCause
fork_cause_in word x y z =
    if is_same word (codes "children") then fork.Children
    else if is_same word (codes "rows") then fork.Rows
    else if is_same word (codes "slot") then fork.Slot
    else if is_same word (codes "placed") then fork.Placed x (integer_in y) (integer_in z)
    else fork.Ended (integer_in x)

abbrev pub exec_cause_in : (word x : List ℕ) → ExecCause
exec_cause_in word x =
    if is_same word (codes "noent") then exec.NoEntry
    else if is_same word (codes "slot") then exec.Slot
    else exec.Ended (integer_in x)

abbrev pub delivery_in : List ℕ → Delivery
delivery_in word = if is_same word (codes "plain") then delivery.Plain else delivery.Interrupting

abbrev pub death_in : (word x : List ℕ) → Death
death_in word x =
    if is_same word (codes "exit") then death.Exit
    else if is_same word (codes "signal") then death.Signal
    else if is_same word (codes "fault") then death.Fault
    else death.World (integer_in x)

abbrev pub action_in : (word x y : List ℕ) → NewAction
action_in word x y =
    if is_same word (codes "default") then action.Default
    else if is_same word (codes "ignore") then action.Ignore
    else action.Handler (integer_in x) (is_same y (codes "restart"))

-- the event of a first word, a first number and up to four words behind them
abbrev pub event_by : (word : List ℕ) (p : ℕ) (a b c d : List ℕ) → Event
event_by word p a b c d =
    if is_same word (codes "run") then event.Run p (integer_in a)
    else if is_same word (codes "get") then event.Get p (field_in a) (integer_in b)
    else if is_same word (codes "fork") then event.Fork p (integer_in a)
    else if is_same word (codes "forkfail") then event.ForkFail p (fork_cause_in a b c d)
    else if is_same word (codes "exec") then event.Exec p a
    else if is_same word (codes "execfail") then event.ExecFail p (exec_cause_in a b)
    else if is_same word (codes "kill") then event.Kill p (integer_in a) (integer_in b) (answer_in c)
    else if is_same word (codes "member") then event.Member p (integer_in a) (integer_in b)
    else if is_same word (codes "groupdone") then event.GroupDone p (integer_in a) (integer_in b) (answer_in c)
    else if is_same word (codes "look") then event.Look p (integer_in a)
    else if is_same word (codes "block") then event.Block p
    else if is_same word (codes "nothing") then event.Nothing p
    else if is_same word (codes "reap") then event.Reap p (integer_in a) (integer_in b)
    else if is_same word (codes "report") then event.Report p (integer_in a) (integer_in b)
    else if is_same word (codes "nochild") then event.NoChild p
    else if is_same word (codes "refuse") then event.Refuse p (errno_in a)
    else if is_same word (codes "mask") then event.Mask p (integer_in a)
    else if is_same word (codes "action") then event.SetAction p (integer_in a) (action_in b c d)
    else if is_same word (codes "suspend") then event.Suspend p (integer_in a)
    else if is_same word (codes "return") then event.Return p
    else if is_same word (codes "deliver") then event.Deliver p (integer_in a) (delivery_in b)
    else if is_same word (codes "discard") then event.Discard p (integer_in a)
    else if is_same word (codes "stop") then event.Stop p (integer_in a)
    else if is_same word (codes "die") then event.Die p (integer_in a) (death_in b c)
    else if is_same word (codes "notify") then event.Notify p
    else if is_same word (codes "collect") then event.Collect p
    else if is_same word (codes "setpgid") then event.SetPgid p (integer_in a) (integer_in b)
    else if is_same word (codes "setsid") then event.SetSid p
    else if is_same word (codes "tcset") then event.TcSet p (integer_in a)
    else if is_same word (codes "flags") then event.Flags p (integer_in a)
    else if is_same word (codes "background") then event.Background p (integer_in a)
    else if is_same word (codes "bgdone") then event.BackgroundDone p
    else if is_same word (codes "line") then event.Line p (integer_in a) (bytes_in b)
    else if is_same word (codes "write") then event.Write p (integer_in a) (bytes_in b)
    else if is_same word (codes "key") then event.Key p (byte_in a)
    else event.Host p (integer_in a)

-- the word at a place, and no byte past the last one
abbrev pub word_at : List (List ℕ) → ℕ → List ℕ
word_at words place = slice_index_or words place []

abbrev pub event_in : List (List ℕ) → Event
event_in words =
    event_by (word_at words 0) (natural_in (word_at words 1)) (word_at words 2) (word_at words 3) (word_at words 4)
    (word_at words 5)

-- the words of a line, and the lines of a text, of which the last is the piece behind the last end
abbrev pub words_in : List ℕ → List (List ℕ)
words_in line = slice_split (λ byte. nat_eq byte 32) line

abbrev pub lines_in : List ℕ → List (List ℕ)
lines_in bytes = slice_split (λ byte. nat_eq byte 10) bytes

abbrev pub event_in_line : List ℕ → Event
event_in_line line = event_in (words_in line)

-- the events between a text's first line and its last
unfoldable pub events_in : List ℕ → List Event
events_in bytes = map event_in_line (drop 1 (take (length (lines_in bytes) - 2) (lines_in bytes)))
