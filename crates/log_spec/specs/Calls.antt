-- The texts of Win32 calls: a word and its arguments, in decimal.
use Rattle.std.specs.Prelude.{ℕ, List, [], ◌∷◌, codes}
use Rattle.std.specs.Fmt.{decimal}
use Rattle.w32_base.specs.declared.call.Region.{Region}
use Rattle.w32_base.specs.declared.call.Region.TheVariants as region
use Rattle.w32_base.specs.declared.call.TtyOp.{TtyOp}
use Rattle.w32_base.specs.declared.call.TtyOp.TheVariants as tty
use Rattle.w32_base.specs.declared.call.Call.{Call}
use Rattle.w32_base.specs.declared.call.Call.TheVariants as call
use Rattle.log_spec.specs.Texts.{spaced, list_text, flag_text}

abbrev pub region_text : Region → List ℕ
region_text region.Dat = codes "data"
region_text region.Heap = codes "heap"
region_text region.Stack = codes "stack"
region_text region.Cyg = codes "cyg"
region_text region.Scratch = codes "scratch"

-- what a `tty` call asks of the terminal
abbrev pub operation_words : TtyOp → List (List ℕ)
operation_words tty.Key = codes "key" ∷ []
operation_words (tty.Take g n place) = codes "take" ∷ decimal g ∷ decimal n ∷ decimal place ∷ []
operation_words (tty.Put g n place force) =
    codes "put" ∷ decimal g ∷ decimal n ∷ decimal place ∷ flag_text force ∷ []
operation_words (tty.SetForeground g new force) = codes "setfg" ∷ decimal g ∷ decimal new ∷ flag_text force ∷ []
operation_words (tty.Flags g n force) = codes "flags" ∷ decimal g ∷ decimal n ∷ flag_text force ∷ []
operation_words tty.State = codes "state" ∷ []

-- the words of a copy between a region of another process and an own one
abbrev pub copy_words : ℕ → Region → ℕ → Region → ℕ → ℕ → List (List ℕ)
copy_words h region place own own_place len =
    decimal h ∷ region_text region ∷ decimal place ∷ region_text own ∷ decimal own_place ∷ decimal len ∷ []

-- the words of a call, one case each
abbrev pub call_words : Call → List (List ℕ)
call_words call.Run = codes "run" ∷ []
call_words (call.Load h i) = codes "load" ∷ decimal h ∷ decimal i ∷ []
call_words (call.CompareExchange h i old new) =
    codes "cas" ∷ decimal h ∷ decimal i ∷ decimal old ∷ decimal new ∷ []
call_words (call.FetchAdd h i n) = codes "add" ∷ decimal h ∷ decimal i ∷ decimal n ∷ []
call_words (call.Create p handles) = codes "create" ∷ decimal p ∷ list_text handles ∷ []
call_words (call.Resume h t) = codes "resume" ∷ decimal h ∷ decimal t ∷ []
call_words (call.Suspend h t) = codes "suspend" ∷ decimal h ∷ decimal t ∷ []
call_words (call.Open w) = codes "open" ∷ decimal w ∷ []
call_words (call.ExitCode h) = codes "exitcode" ∷ decimal h ∷ []
call_words (call.Terminate h n) = codes "terminate" ∷ decimal h ∷ decimal n ∷ []
call_words (call.ExitSelf n) = codes "exitself" ∷ decimal n ∷ []
call_words (call.ReadMemory h region place own own_place len) =
    codes "readmem" ∷ copy_words h region place own own_place len
call_words (call.WriteMemory h region place own own_place len) =
    codes "writemem" ∷ copy_words h region place own own_place len
call_words (call.Module m) = codes "module" ∷ decimal m ∷ []
call_words (call.Event manual set) = codes "event" ∷ flag_text manual ∷ flag_text set ∷ []
call_words (call.Set h) = codes "set" ∷ decimal h ∷ []
call_words (call.Reset h) = codes "reset" ∷ decimal h ∷ []
call_words (call.Mutex owned) = codes "mutex" ∷ flag_text owned ∷ []
call_words (call.Release h) = codes "release" ∷ decimal h ∷ []
call_words call.Pipe = codes "pipe" ∷ []
call_words (call.Put h b) = codes "put" ∷ decimal h ∷ decimal b ∷ []
call_words (call.Get h) = codes "get" ∷ decimal h ∷ []
call_words (call.Dup h n) = codes "dup" ∷ decimal h ∷ decimal n ∷ []
call_words (call.Close h) = codes "close" ∷ decimal h ∷ []
call_words (call.WaitAny handles) = codes "wait" ∷ list_text handles ∷ []
call_words (call.Tty h operation) = codes "tty" ∷ decimal h ∷ operation_words operation

abbrev pub call_text : Call → List ℕ
call_text c = spaced (call_words c)
