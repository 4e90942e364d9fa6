-- Every step of the POSIX machine keeps a state well formed, and so does every run.
use Rattle.std.specs.Prelude.{◌<◌, List, [], ◌∷◌}
use Rattle.std.specs.Bool.{⊤}
use Rattle.std.proofs.Common.{sym, subst}
use Rattle.w32_base.specs.declared.event.Event.{Event}
use Rattle.w32_base.specs.declared.event.Event.TheVariants as event
use Rattle.script_spec.specs.declared.script.Script.{Script}
use Rattle.posix_spec.specs.State.{PosixState}
use Rattle.posix_spec.specs.Opening.{opening_of}
use Rattle.posix_spec.specs.Run.{PosixStep, PosixRun}
use Rattle.posix_spec.specs.Ranges.{HasRanges}
use Rattle.posix_spec.specs.WellFormed.{IsWellFormed}
use Rattle.posix_spec.specs.OwnLaws.{keeps-get, keeps-refuse, keeps-fork_fail, keeps-exec_fail, keeps-nothing}
use Rattle.posix_spec.specs.OwnLaws.{keeps-no_child}
use Rattle.posix_spec.specs.SignalCallLaws.{keeps-mask}
use Rattle.posix_spec.specs.ActionLaws.{keeps-action}
use Rattle.posix_spec.specs.HandlerLaws.{keeps-suspend, keeps-return}
use Rattle.posix_spec.specs.ActLaws.{keeps-deliver, keeps-discard, keeps-stop, keeps-notify}
use Rattle.posix_spec.specs.KillLaws.{keeps-kill, keeps-member, keeps-group_done}
use Rattle.posix_spec.specs.WaitLaws.{keeps-look, keeps-block, keeps-reap, keeps-report}
use Rattle.posix_spec.specs.ReadLaws.{keeps-tcset, keeps-flags, keeps-write}
use Rattle.posix_spec.specs.RunLaws.{keeps-run, keeps-line}
use Rattle.posix_spec.specs.ConsoleLaws.{keeps-key, keeps-host, keeps-background, keeps-background_done}
use Rattle.posix_spec.specs.DeathLaws.{keeps-die, keeps-collect}
use Rattle.posix_spec.specs.GroupLaws.{keeps-setpgid}
use Rattle.posix_spec.specs.SessionLaws.{keeps-setsid}
use Rattle.posix_spec.specs.ForkLaws.{keeps-fork}
use Rattle.posix_spec.specs.ExecLaws.{keeps-exec}
use Rattle.posix_spec.specs.OpeningLaws.{IsWellFormed-opening_of}

-- the key of an event is a byte; an event of another kind has none
abbrev pub HasByteKey : Event → Type 0
HasByteKey (event.Key p b) = b < 256
HasByteKey _ = ⊤

pub IsWellFormed-step : (script : Script) → HasRanges script → (s : PosixState) (e : Event) (new : PosixState) →
    HasByteKey e → IsWellFormed script s →
    PosixStep script s e new → IsWellFormed script new
IsWellFormed-step script ranges s (event.Run p n) new key w step = keeps-run script s new p w n ranges.registers step
IsWellFormed-step script ranges s (event.Get p field v) new key w step = keeps-get script s new p w field v step
IsWellFormed-step script ranges s (event.Fork p c) new key w step = keeps-fork script s new p w c step
IsWellFormed-step script ranges s (event.ForkFail p cause) new key w step = keeps-fork_fail script s new p w cause step
IsWellFormed-step script ranges s (event.Exec p name) new key w step = keeps-exec script s new p w ranges name step
IsWellFormed-step script ranges s (event.ExecFail p cause) new key w step = keeps-exec_fail script s new p w cause step
IsWellFormed-step script ranges s (event.Kill p q signal answer) new key w step = keeps-kill script s new p w q signal
    answer step
IsWellFormed-step script ranges s (event.Member p q signal) new key w step = keeps-member script s new p w q signal step
IsWellFormed-step script ranges s (event.GroupDone p g signal answer) new key w step = keeps-group_done script s new p
    w g signal answer step
IsWellFormed-step script ranges s (event.Look p c) new key w step = keeps-look script s new p w c step
IsWellFormed-step script ranges s (event.Block p) new key w step = keeps-block script s new p w step
IsWellFormed-step script ranges s (event.Nothing p) new key w step = keeps-nothing script s new p w step
IsWellFormed-step script ranges s (event.Reap p c v) new key w step = keeps-reap script s new p w c v step
IsWellFormed-step script ranges s (event.Report p c v) new key w step = keeps-report script s new p w c v step
IsWellFormed-step script ranges s (event.NoChild p) new key w step = keeps-no_child script s new p w step
IsWellFormed-step script ranges s (event.Refuse p e) new key w step = keeps-refuse script s new p w e step
IsWellFormed-step script ranges s (event.Mask p m) new key w step = keeps-mask script s new p w m step
IsWellFormed-step script ranges s (event.SetAction p signal a) new key w step = keeps-action script s new p w signal a
    step
IsWellFormed-step script ranges s (event.Suspend p m) new key w step = keeps-suspend script s new p w m step
IsWellFormed-step script ranges s (event.Return p) new key w step = keeps-return script s new p w step
IsWellFormed-step script ranges s (event.Deliver p signal how) new key w step = keeps-deliver script s new p w signal
    how step
IsWellFormed-step script ranges s (event.Discard p signal) new key w step = keeps-discard script s new p w signal step
IsWellFormed-step script ranges s (event.Stop p signal) new key w step = keeps-stop script s new p w signal step
IsWellFormed-step script ranges s (event.Die p v cause) new key w step = keeps-die script s new p w v cause step
IsWellFormed-step script ranges s (event.Notify p) new key w step = keeps-notify script s new p w step
IsWellFormed-step script ranges s (event.Collect p) new key w step = keeps-collect script s new p w step
IsWellFormed-step script ranges s (event.SetPgid p q g) new key w step = keeps-setpgid script s new p w q g step
IsWellFormed-step script ranges s (event.SetSid p) new key w step = keeps-setsid script s new p w step
IsWellFormed-step script ranges s (event.TcSet p g) new key w step = keeps-tcset script s new p w g step
IsWellFormed-step script ranges s (event.Flags p n) new key w step = keeps-flags script s new p w n step
IsWellFormed-step script ranges s (event.Background p signal) new key w step = keeps-background script s new p w
    signal step
IsWellFormed-step script ranges s (event.BackgroundDone p) new key w step = keeps-background_done script s new p w step
IsWellFormed-step script ranges s (event.Line p n bytes) new key w step = keeps-line script s new p w n bytes step
IsWellFormed-step script ranges s (event.Write p n bytes) new key w step = keeps-write script s new p w n bytes step
IsWellFormed-step script ranges s (event.Key p b) new key w step = keeps-key script s new p w b key step
IsWellFormed-step script ranges s (event.Host p n) new key w step = keeps-host script s new p w n step

-- each key of a list of events is a byte
abbrev pub HaveByteKeys : List Event → Type 0
HaveByteKeys [] = ⊤
HaveByteKeys (e ∷ es) = HasByteKey e × HaveByteKeys es

pub IsWellFormed-run : (script : Script) → HasRanges script → (s : PosixState) (es : List Event) (new : PosixState) →
    HaveByteKeys es → IsWellFormed script s →
    PosixRun script s es new → IsWellFormed script new
IsWellFormed-run script ranges s [] new keys w run = subst (IsWellFormed script) (sym run) w
IsWellFormed-run script ranges s (e ∷ es) new keys w run =
    IsWellFormed-run script ranges run.0 es new keys.1 (IsWellFormed-step script ranges s e run.0 keys.0 w run.1) run.2

-- every state of a run of a script is well formed
pub IsWellFormed-opening_run : (script : Script) → HasRanges script → (es : List Event) (new : PosixState) →
    HaveByteKeys es →
    PosixRun script (opening_of script) es new → IsWellFormed script new
IsWellFormed-opening_run script ranges es new keys run =
    IsWellFormed-run script ranges (opening_of script) es new keys (IsWellFormed-opening_of script ranges) run
