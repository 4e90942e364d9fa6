-- What the words of an instruction and of a schedule's line spell.
use Rattle.std.specs.Prelude.{ℕ, ◌+◌, ◌-◌, ◌*◌, nat_lt, List, [], ◌∷◌, codes}
use Rattle.std.specs.Prelude.{ℤ, pos, negsuc, if◌then◌else◌}
use Rattle.w32_base.specs.Names.{is_same}
use Rattle.w32_base.specs.declared.entry.Directive.TheVariants as directive
use Rattle.w32_base.specs.declared.instr.Action.{Action}
use Rattle.w32_base.specs.declared.instr.Action.TheVariants as action
use Rattle.w32_base.specs.declared.instr.Instr.{Instr}
use Rattle.w32_base.specs.declared.instr.Instr.TheVariants as instr
use Rattle.w32_base.specs.declared.instr.MaskChange.{MaskChange}
use Rattle.w32_base.specs.declared.instr.MaskChange.TheVariants as change
use Rattle.w32_base.specs.declared.instr.Operand.{Operand}
use Rattle.w32_base.specs.declared.instr.Operand.TheVariants as operand
use Rattle.script_spec.specs.declared.fault.DirectiveWord.{DirectiveWord}
use Rattle.script_spec.specs.declared.fault.DirectiveWord.TheVariants as sword
use Rattle.script_spec.specs.declared.fault.InstrWord.{InstrWord}
use Rattle.script_spec.specs.declared.fault.InstrWord.TheVariants as word
use Rattle.script_spec.specs.declared.script.ScheduleLine.{ScheduleLine}
use Rattle.script_spec.specs.declared.script.ScheduleLine.TheVariants as line
use Rattle.script_spec.specs.Numbers.{value_of, without_sign, has_sign, begins_with_r}

-- a register, a number and an operand
abbrev pub register_in : List ℕ → ℕ
register_in [] = 0
register_in (a ∷ []) = 0
register_in (a ∷ b ∷ w) = b - 48

abbrev pub signed_in : List ℕ → ℤ
signed_in w = if has_sign w then negsuc (value_of (without_sign w) - 1) else pos (value_of w)

abbrev pub operand_in : List ℕ → Operand
operand_in w = if begins_with_r w then operand.Register (register_in w) else operand.Number (signed_in w)

-- a word of some, by its place
abbrev pub head_of : List (List ℕ) → List ℕ
head_of [] = []
head_of (w ∷ ws) = w

abbrev pub tail_of : List (List ℕ) → List (List ℕ)
tail_of [] = []
tail_of (w ∷ ws) = ws

abbrev pub word_2 : List (List ℕ) → List ℕ
word_2 ws = head_of (tail_of ws)

abbrev pub word_3 : List (List ℕ) → List ℕ
word_3 ws = word_2 (tail_of ws)

abbrev pub word_4 : List (List ℕ) → List ℕ
word_4 ws = word_3 (tail_of ws)

-- an action, by the words from its own one, and the change of a mask
abbrev pub action_in : List (List ℕ) → Action
action_in ws = if is_same (head_of ws) (codes "default") then action.Default
    else (if is_same (head_of ws) (codes "ignore") then action.Ignore
    else action.Handler (value_of (word_2 ws)) (is_same (word_3 ws) (codes "restart")))

abbrev pub change_in : List ℕ → MaskChange
change_in w = if is_same w (codes "block") then change.Block
    else (if is_same w (codes "unblock") then change.Unblock else change.Set)

-- the instruction of a first word and the others
abbrev pub instr_in : InstrWord → List (List ℕ) → Instr
instr_in word.Set ws = instr.Set (register_in (head_of ws)) (operand_in (word_2 ws))
instr_in word.Add ws = instr.Add (register_in (head_of ws)) (operand_in (word_2 ws))
instr_in word.Load ws = instr.Load (register_in (head_of ws)) (operand_in (word_2 ws))
instr_in word.Store ws = instr.Store (operand_in (head_of ws)) (operand_in (word_2 ws))
instr_in word.Push ws = instr.Push (operand_in (head_of ws))
instr_in word.Pop ws = instr.Pop (register_in (head_of ws))
instr_in word.Jump ws = instr.Jump (value_of (head_of ws))
instr_in word.JumpZero ws = instr.JumpZero (operand_in (head_of ws)) (value_of (word_2 ws))
instr_in word.JumpNegative ws = instr.JumpNegative (operand_in (head_of ws)) (value_of (word_2 ws))
instr_in word.GetPid ws = instr.GetPid
instr_in word.GetPpid ws = instr.GetPpid
instr_in word.GetPgid ws = instr.GetPgid
instr_in word.GetSid ws = instr.GetSid
instr_in word.Fork ws = instr.Fork
instr_in word.Exec ws = instr.Exec (head_of ws)
instr_in word.Exit ws = instr.Exit (operand_in (head_of ws))
instr_in word.Wait ws = instr.Wait (operand_in (head_of ws)) (operand_in (word_2 ws))
instr_in word.Kill ws = instr.Kill (operand_in (head_of ws)) (operand_in (word_2 ws))
instr_in word.Action ws = instr.Action (operand_in (head_of ws)) (action_in (tail_of ws))
instr_in word.Mask ws = instr.Mask (change_in (head_of ws)) (operand_in (word_2 ws))
instr_in word.Suspend ws = instr.Suspend (operand_in (head_of ws))
instr_in word.Pause ws = instr.Pause
instr_in word.Return ws = instr.Return
instr_in word.SetPgid ws = instr.SetPgid (operand_in (head_of ws)) (operand_in (word_2 ws))
instr_in word.SetSid ws = instr.SetSid
instr_in word.TcSet ws = instr.TcSet (operand_in (head_of ws))
instr_in word.TcGet ws = instr.TcGet
instr_in word.TtyFlags ws = instr.TtyFlags (operand_in (head_of ws))
instr_in word.Read ws = instr.Read (operand_in (head_of ws)) (operand_in (word_2 ws))
instr_in word.Write ws = instr.Write (operand_in (head_of ws)) (operand_in (word_2 ws))

-- a key, and a line of the schedule
abbrev pub digit_in : ℕ → ℕ
digit_in d = if nat_lt d 58 then d - 48 else d - 87

abbrev pub key_in : List ℕ → ℕ
key_in [] = 0
key_in (a ∷ []) = 0
key_in (a ∷ b ∷ w) = digit_in a * 16 + digit_in b

abbrev pub line_in : DirectiveWord → List (List ℕ) → ScheduleLine
line_in sword.Turn ws = line.Given (directive.Turn (value_of (head_of ws)) (value_of (word_2 ws)))
line_in sword.End ws = line.Given (directive.End (value_of (head_of ws)))
line_in sword.Key ws = line.Given (directive.Key (key_in (head_of ws)))
line_in sword.Steps ws = line.Steps (value_of (head_of ws))
line_in sword.Settle ws = line.Settle
