-- The words of an instruction.
use Rattle.std.specs.Prelude.{ℕ, ◌+◌, true, false, List, [], ◌∷◌, codes}
use Rattle.std.specs.Fmt.{decimal, signed_decimal}
use Rattle.w32_base.specs.declared.instr.Action.{Action}
use Rattle.w32_base.specs.declared.instr.Action.TheVariants as action
use Rattle.w32_base.specs.declared.instr.Instr.{Instr}
use Rattle.w32_base.specs.declared.instr.Instr.TheVariants as instr
use Rattle.w32_base.specs.declared.instr.MaskChange.{MaskChange}
use Rattle.w32_base.specs.declared.instr.MaskChange.TheVariants as change
use Rattle.w32_base.specs.declared.instr.Operand.{Operand}
use Rattle.w32_base.specs.declared.instr.Operand.TheVariants as operand
use Rattle.script_spec.specs.Lines.{spaced}

-- `r0` to `r7`
abbrev pub register_text : ℕ → List ℕ
register_text r = 114 ∷ (48 + r) ∷ []

abbrev pub operand_text : Operand → List ℕ
operand_text (operand.Register r) = register_text r
operand_text (operand.Number n) = signed_decimal n

abbrev pub action_words : Action → List (List ℕ)
action_words action.Default = codes "default" ∷ []
action_words action.Ignore = codes "ignore" ∷ []
action_words (action.Handler place false) = codes "handler" ∷ decimal place ∷ []
action_words (action.Handler place true) = codes "handler" ∷ decimal place ∷ codes "restart" ∷ []

abbrev pub change_text : MaskChange → List ℕ
change_text change.Block = codes "block"
change_text change.Unblock = codes "unblock"
change_text change.Set = codes "set"

abbrev pub instr_words : Instr → List (List ℕ)
instr_words (instr.Set r v) = codes "set" ∷ register_text r ∷ operand_text v ∷ []
instr_words (instr.Add r v) = codes "add" ∷ register_text r ∷ operand_text v ∷ []
instr_words (instr.Load r v) = codes "load" ∷ register_text r ∷ operand_text v ∷ []
instr_words (instr.Store u v) = codes "store" ∷ operand_text u ∷ operand_text v ∷ []
instr_words (instr.Push v) = codes "push" ∷ operand_text v ∷ []
instr_words (instr.Pop r) = codes "pop" ∷ register_text r ∷ []
instr_words (instr.Jump place) = codes "jump" ∷ decimal place ∷ []
instr_words (instr.JumpZero v place) = codes "jzero" ∷ operand_text v ∷ decimal place ∷ []
instr_words (instr.JumpNegative v place) = codes "jneg" ∷ operand_text v ∷ decimal place ∷ []
instr_words instr.GetPid = codes "getpid" ∷ []
instr_words instr.GetPpid = codes "getppid" ∷ []
instr_words instr.GetPgid = codes "getpgid" ∷ []
instr_words instr.GetSid = codes "getsid" ∷ []
instr_words instr.Fork = codes "fork" ∷ []
instr_words (instr.Exec name) = codes "exec" ∷ name ∷ []
instr_words (instr.Exit v) = codes "exit" ∷ operand_text v ∷ []
instr_words (instr.Wait u v) = codes "wait" ∷ operand_text u ∷ operand_text v ∷ []
instr_words (instr.Kill u v) = codes "kill" ∷ operand_text u ∷ operand_text v ∷ []
instr_words (instr.Action v a) = codes "action" ∷ operand_text v ∷ action_words a
instr_words (instr.Mask c v) = codes "mask" ∷ change_text c ∷ operand_text v ∷ []
instr_words (instr.Suspend v) = codes "suspend" ∷ operand_text v ∷ []
instr_words instr.Pause = codes "pause" ∷ []
instr_words instr.Return = codes "return" ∷ []
instr_words (instr.SetPgid u v) = codes "setpgid" ∷ operand_text u ∷ operand_text v ∷ []
instr_words instr.SetSid = codes "setsid" ∷ []
instr_words (instr.TcSet v) = codes "tcset" ∷ operand_text v ∷ []
instr_words instr.TcGet = codes "tcget" ∷ []
instr_words (instr.TtyFlags v) = codes "ttyflags" ∷ operand_text v ∷ []
instr_words (instr.Read u v) = codes "read" ∷ operand_text u ∷ operand_text v ∷ []
instr_words (instr.Write u v) = codes "write" ∷ operand_text u ∷ operand_text v ∷ []

-- the text of an instruction
abbrev pub instr_text : Instr → List ℕ
instr_text i = spaced (instr_words i)
