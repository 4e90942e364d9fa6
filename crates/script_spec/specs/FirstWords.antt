-- The first words of lines, and the sort of line that each begins.
use Rattle.std.specs.Prelude.{ℕ, List, [], ◌∷◌, codes, Option, Some, None, option_map, if◌then◌else◌}
use Rattle.w32_base.specs.Names.{is_same}
use Rattle.script_spec.specs.declared.fault.DirectiveWord.{DirectiveWord}
use Rattle.script_spec.specs.declared.fault.DirectiveWord.TheVariants as directive
use Rattle.script_spec.specs.declared.fault.FirstWord.{FirstWord}
use Rattle.script_spec.specs.declared.fault.FirstWord.TheVariants as first
use Rattle.script_spec.specs.declared.fault.InstrWord.{InstrWord}
use Rattle.script_spec.specs.declared.fault.InstrWord.TheVariants as word
use Rattle.script_spec.specs.declared.fault.Sort.{Sort}
use Rattle.script_spec.specs.declared.fault.Sort.TheVariants as sort

abbrev pub instr_word_text : InstrWord → List ℕ
instr_word_text word.Set = codes "set"
instr_word_text word.Add = codes "add"
instr_word_text word.Load = codes "load"
instr_word_text word.Store = codes "store"
instr_word_text word.Push = codes "push"
instr_word_text word.Pop = codes "pop"
instr_word_text word.Jump = codes "jump"
instr_word_text word.JumpZero = codes "jzero"
instr_word_text word.JumpNegative = codes "jneg"
instr_word_text word.GetPid = codes "getpid"
instr_word_text word.GetPpid = codes "getppid"
instr_word_text word.GetPgid = codes "getpgid"
instr_word_text word.GetSid = codes "getsid"
instr_word_text word.Fork = codes "fork"
instr_word_text word.Exec = codes "exec"
instr_word_text word.Exit = codes "exit"
instr_word_text word.Wait = codes "wait"
instr_word_text word.Kill = codes "kill"
instr_word_text word.Action = codes "action"
instr_word_text word.Mask = codes "mask"
instr_word_text word.Suspend = codes "suspend"
instr_word_text word.Pause = codes "pause"
instr_word_text word.Return = codes "return"
instr_word_text word.SetPgid = codes "setpgid"
instr_word_text word.SetSid = codes "setsid"
instr_word_text word.TcSet = codes "tcset"
instr_word_text word.TcGet = codes "tcget"
instr_word_text word.TtyFlags = codes "ttyflags"
instr_word_text word.Read = codes "read"
instr_word_text word.Write = codes "write"

abbrev pub directive_word_text : DirectiveWord → List ℕ
directive_word_text directive.Turn = codes "turn"
directive_word_text directive.End = codes "end"
directive_word_text directive.Key = codes "key"
directive_word_text directive.Steps = codes "steps"
directive_word_text directive.Settle = codes "settle"

abbrev pub word_text : FirstWord → List ℕ
word_text first.CygScript = codes "cygscript"
word_text first.Slots = codes "slots"
word_text first.Rows = codes "rows"
word_text first.Budget = codes "budget"
word_text first.Module = codes "module"
word_text first.Occupy = codes "occupy"
word_text first.Program = codes "program"
word_text first.Schedule = codes "schedule"
word_text (first.Instr w) = instr_word_text w
word_text (first.Directive w) = directive_word_text w

-- the words of instructions: of local ones, of calls on processes, on signals, and on groups and the terminal
abbrev pub local_words_known : List InstrWord
local_words_known = word.Set ∷ word.Add ∷ word.Load ∷ word.Store ∷ word.Push ∷ word.Pop ∷ word.Jump
    ∷ word.JumpZero ∷ word.JumpNegative ∷ []

abbrev pub process_words_known : List InstrWord
process_words_known =
    word.GetPid ∷ word.GetPpid ∷ word.GetPgid ∷ word.GetSid ∷ word.Fork ∷ word.Exec ∷ word.Exit ∷ word.Wait ∷ []

abbrev pub signal_words_known : List InstrWord
signal_words_known = word.Kill ∷ word.Action ∷ word.Mask ∷ word.Suspend ∷ word.Pause ∷ word.Return ∷ []

abbrev pub group_words_known : List InstrWord
group_words_known = word.SetPgid ∷ word.SetSid ∷ word.TcSet ∷ word.TcGet ∷ word.TtyFlags ∷ word.Read ∷ word.Write ∷ []

-- the words of the schedule's lines, and the others
abbrev pub directive_words_known : List DirectiveWord
directive_words_known = directive.Turn ∷ directive.End ∷ directive.Key ∷ directive.Steps ∷ directive.Settle ∷ []

abbrev pub other_words_known : List FirstWord
other_words_known =
    first.CygScript ∷ first.Slots ∷ first.Rows ∷ first.Budget ∷ first.Module ∷ first.Occupy ∷ first.Program
    ∷ first.Schedule ∷ []

-- the one of some words that has this text
abbrev pub with_text : {W : Type 0} → (W → List ℕ) → List W → List ℕ → Option W
with_text text_of [] text = None
with_text text_of (w ∷ ws) text = if is_same (text_of w) text then Some w else with_text text_of ws text

-- the first of two that is there
abbrev pub either : {A : Type 0} → Option A → Option A → Option A
either None other = other
either (Some x) other = Some x

abbrev pub local_word : List ℕ → Option InstrWord
local_word text = with_text instr_word_text local_words_known text

abbrev pub process_word : List ℕ → Option InstrWord
process_word text = with_text instr_word_text process_words_known text

abbrev pub signal_word : List ℕ → Option InstrWord
signal_word text = with_text instr_word_text signal_words_known text

abbrev pub group_word : List ℕ → Option InstrWord
group_word text = with_text instr_word_text group_words_known text

abbrev pub instr_word : List ℕ → Option InstrWord
instr_word text = either (local_word text) (either (process_word text) (either (signal_word text) (group_word text)))

abbrev pub directive_word : List ℕ → Option DirectiveWord
directive_word text = with_text directive_word_text directive_words_known text

abbrev pub other_word : List ℕ → Option FirstWord
other_word text = with_text word_text other_words_known text

-- the first word that has this text
abbrev pub first_word : List ℕ → Option FirstWord
first_word text =
    either (option_map first.Instr (instr_word text)) (either (option_map first.Directive (directive_word text))
    (other_word text))

-- the sort of line that begins with it
abbrev pub sort_of : FirstWord → Sort
sort_of first.CygScript = sort.Header
sort_of first.Slots = sort.Slots
sort_of first.Rows = sort.Rows
sort_of first.Budget = sort.Budget
sort_of first.Module = sort.Module
sort_of first.Occupy = sort.Occupy
sort_of first.Program = sort.Program
sort_of (first.Instr w) = sort.Instruction
sort_of first.Schedule = sort.Schedule
sort_of (first.Directive w) = sort.Directive

-- the sort of a line by its first word, if that is known
abbrev pub sort_of_words : List (List ℕ) → Option Sort
sort_of_words [] = None
sort_of_words (w ∷ ws) = option_map sort_of (first_word w)
