-- The event that the words of a line say, by the line's first word. Words that say none may say one here: who writes
-- the event again and compares knows.
use Rattle.std.specs.Prelude.{ℕ, ℤ, if◌then◌else◌, List, codes, Option, Some, None, option_map}
use Rattle.w32_base.specs.Names.{is_same}
use Rattle.w32_base.specs.declared.event.Answer.{Answer}
use Rattle.w32_base.specs.declared.event.Field.{Field}
use Rattle.w32_base.specs.declared.event.ForkCause.{ForkCause}
use Rattle.w32_base.specs.declared.event.ForkCause.TheVariants as fork
use Rattle.w32_base.specs.declared.event.ExecCause.{ExecCause}
use Rattle.w32_base.specs.declared.event.ExecCause.TheVariants as exec
use Rattle.w32_base.specs.declared.event.Death.{Death}
use Rattle.w32_base.specs.declared.event.Death.TheVariants as death
use Rattle.w32_base.specs.declared.event.NewAction.{NewAction}
use Rattle.w32_base.specs.declared.event.NewAction.TheVariants as action
use Rattle.w32_base.specs.declared.event.Event.{Event}
use Rattle.w32_base.specs.declared.event.Event.TheVariants as event
use Rattle.script_spec.specs.FirstWords.{either}
use Rattle.log_text.specs.FirstWords.{event_word}
use Rattle.log_text.specs.declared.first_word.EventWord.{EventWord}
use Rattle.log_text.specs.declared.first_word.EventWord.TheVariants as word
use Rattle.log_spec.specs.EventsRead.{word_at}
use Rattle.log_text.specs.ReadWords.{actor_of, numeral_in, name_in, errno_of, answer_of, field_of, delivery_of, key_in}
use Rattle.log_text.specs.ReadWords.{shown_in}

-- a module, where it was found and where it was wanted
abbrev pub placed : Option (List ℕ) → Option ℤ → Option ℤ → Option ForkCause
placed (Some m) (Some found) (Some wanted) = Some (fork.Placed m found wanted)
placed (Some m) (Some found) None = None
placed (Some m) None wanted = None
placed None found wanted = None

-- why a fork failed, and why an exec did
abbrev pub fork_cause_of : (word x y z : List ℕ) → Option ForkCause
fork_cause_of word x y z =
    if is_same (codes "children") word then Some fork.Children
    else if is_same (codes "rows") word then Some fork.Rows
    else if is_same (codes "slot") word then Some fork.Slot
    else if is_same (codes "placed") word then placed (name_in x) (numeral_in y) (numeral_in z)
    else if is_same (codes "ended") word then option_map fork.Ended (numeral_in x)
    else None

abbrev pub exec_cause_of : (word x : List ℕ) → Option ExecCause
exec_cause_of word x =
    if is_same (codes "noent") word then Some exec.NoEntry
    else if is_same (codes "slot") word then Some exec.Slot
    else if is_same (codes "ended") word then option_map exec.Ended (numeral_in x)
    else None

-- what ended a process
abbrev pub death_of : (word x : List ℕ) → Option Death
death_of word x =
    if is_same (codes "exit") word then Some death.Exit
    else if is_same (codes "signal") word then Some death.Signal
    else if is_same (codes "fault") word then Some death.Fault
    else if is_same (codes "world") word then option_map death.World (numeral_in x)
    else None

-- a handler at a place, where a last word `restart` may follow
abbrev pub handler_of : (restart : List ℕ) → Option ℤ → Option NewAction
handler_of restart None = None
handler_of restart (Some n) = Some (action.Handler n (is_same (codes "restart") restart))

abbrev pub action_of : (word x y : List ℕ) → Option NewAction
action_of word x y =
    if is_same (codes "default") word then Some action.Default
    else if is_same (codes "ignore") word then Some action.Ignore
    else if is_same (codes "handler") word then handler_of y (numeral_in x)
    else None

-- the events of a process alone
abbrev pub alone : (word : EventWord) (p : ℕ) → Option Event
alone word.Block p = Some (event.Block p)
alone word.Nothing p = Some (event.Nothing p)
alone word.NoChild p = Some (event.NoChild p)
alone word.Return p = Some (event.Return p)
alone word.Notify p = Some (event.Notify p)
alone word.Collect p = Some (event.Collect p)
alone word.SetSid p = Some (event.SetSid p)
alone word.BackgroundDone p = Some (event.BackgroundDone p)
alone word p = None

-- a process, a field and a number
abbrev pub got : ℕ → Option Field → Option ℤ → Option Event
got p (Some f) (Some v) = Some (event.Get p f v)
got p (Some f) None = None
got p None v = None

-- the events of a process and something other than a number
abbrev pub named : (word : EventWord) (p : ℕ) (a b c d : List ℕ) → Option Event
named word.Get p a b c d = got p (field_of a) (numeral_in b)
named word.ForkFail p a b c d = option_map (event.ForkFail p) (fork_cause_of a b c d)
named word.Exec p a b c d = option_map (event.Exec p) (name_in a)
named word.ExecFail p a b c d = option_map (event.ExecFail p) (exec_cause_of a b)
named word.Refuse p a b c d = option_map (event.Refuse p) (errno_of a)
named word.Key p a b c d = option_map (event.Key p) (key_in a)
named word p a b c d = None

-- the events of a process and a number
abbrev pub numbered : (word : EventWord) (p : ℕ) (n : ℤ) → Option Event
numbered word.Run p n = Some (event.Run p n)
numbered word.Fork p n = Some (event.Fork p n)
numbered word.Look p n = Some (event.Look p n)
numbered word.Mask p n = Some (event.Mask p n)
numbered word.Suspend p n = Some (event.Suspend p n)
numbered word.Discard p n = Some (event.Discard p n)
numbered word.Stop p n = Some (event.Stop p n)
numbered word.TcSet p n = Some (event.TcSet p n)
numbered word.Flags p n = Some (event.Flags p n)
numbered word.Background p n = Some (event.Background p n)
numbered word.Host p n = Some (event.Host p n)
numbered word p n = None

-- the events of a process, a number and something other than a number
abbrev pub tailed : (word : EventWord) (p : ℕ) (n : ℤ) (b c d : List ℕ) → Option Event
tailed word.Action p n b c d = option_map (event.SetAction p n) (action_of b c d)
tailed word.Deliver p n b c d = option_map (event.Deliver p n) (delivery_of b)
tailed word.Die p n b c d = option_map (event.Die p n) (death_of b c)
tailed word.Line p n b c d = option_map (event.Line p n) (shown_in b)
tailed word.Write p n b c d = option_map (event.Write p n) (shown_in b)
tailed word p n b c d = None

-- the events of a process and two numbers
abbrev pub paired : (word : EventWord) (p : ℕ) (m n : ℤ) → Option Event
paired word.Member p m n = Some (event.Member p m n)
paired word.Reap p m n = Some (event.Reap p m n)
paired word.Report p m n = Some (event.Report p m n)
paired word.SetPgid p m n = Some (event.SetPgid p m n)
paired word p m n = None

-- the events of a process, two numbers and how the call ended
abbrev pub answered : (word : EventWord) (p : ℕ) (m n : ℤ) → Option Answer → Option Event
answered word p m n None = None
answered word.Kill p m n (Some a) = Some (event.Kill p m n a)
answered word.GroupDone p m n (Some a) = Some (event.GroupDone p m n a)
answered word p m n (Some a) = None

-- the event, once the process and the numbers that stand behind it are read
abbrev pub by_two : (word : EventWord) (p : ℕ) (m : ℤ) (c : List ℕ) → Option ℤ → Option Event
by_two word p m c None = None
by_two word p m c (Some n) = either (paired word p m n) (answered word p m n (answer_of c))

abbrev pub by_one : (word : EventWord) (p : ℕ) (b c d : List ℕ) → Option ℤ → Option Event
by_one word p b c d None = None
by_one word p b c d (Some n) =
    either (numbered word p n) (either (tailed word p n b c d) (by_two word p n c (numeral_in b)))

abbrev pub by_actor : (word : EventWord) (a b c d : List ℕ) → Option ℕ → Option Event
by_actor word a b c d None = None
by_actor word a b c d (Some p) =
    either (alone word p) (either (named word p a b c d) (by_one word p b c d (numeral_in a)))

abbrev pub by_word : Option EventWord → (actor a b c d : List ℕ) → Option Event
by_word None actor a b c d = None
by_word (Some word) actor a b c d = by_actor word a b c d (actor_of (numeral_in actor))

-- the event of up to six words
unfoldable pub event_of : (word actor a b c d : List ℕ) → Option Event
event_of word actor a b c d = by_word (event_word word) actor a b c d

unfoldable pub event_of_words : List (List ℕ) → Option Event
event_of_words words =
    event_of (word_at words 0) (word_at words 1) (word_at words 2) (word_at words 3) (word_at words 4) (word_at words 5)
