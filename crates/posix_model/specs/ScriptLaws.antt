-- The steps of the POSIX machine look at the limits and the programs of a script alone.
use Rattle.std.specs.Prelude.{◌≡◌, refl}
use Rattle.w32_base.specs.declared.event.Event.{Event}
use Rattle.w32_base.specs.declared.event.Event.TheVariants as event
use Rattle.script_spec.specs.declared.script.Script.{Script}
use Rattle.posix_spec.specs.State.{PosixState}
use Rattle.posix_spec.specs.Step.{posix_step}
use Rattle.posix_model.specs.Machine.{script_with}

pub step_by_parts : (script : Script) (state : PosixState) (e : Event) →
    posix_step script state e ≡ posix_step (script_with script.setup.limits script.setup.programs) state e
unfolding posix_step
step_by_parts script state (event.Run p n) = refl
step_by_parts script state (event.Get p f v) = refl
step_by_parts script state (event.Fork p c) = refl
step_by_parts script state (event.ForkFail p cause) = refl
step_by_parts script state (event.Exec p name) = refl
step_by_parts script state (event.ExecFail p cause) = refl
step_by_parts script state (event.Kill p q s answer) = refl
step_by_parts script state (event.Member p q s) = refl
step_by_parts script state (event.GroupDone p g s answer) = refl
step_by_parts script state (event.Look p c) = refl
step_by_parts script state (event.Block p) = refl
step_by_parts script state (event.Nothing p) = refl
step_by_parts script state (event.Reap p c v) = refl
step_by_parts script state (event.Report p c v) = refl
step_by_parts script state (event.NoChild p) = refl
step_by_parts script state (event.Refuse p e) = refl
step_by_parts script state (event.Mask p m) = refl
step_by_parts script state (event.SetAction p s a) = refl
step_by_parts script state (event.Suspend p m) = refl
step_by_parts script state (event.Return p) = refl
step_by_parts script state (event.Deliver p s d) = refl
step_by_parts script state (event.Discard p s) = refl
step_by_parts script state (event.Stop p s) = refl
step_by_parts script state (event.Die p v d) = refl
step_by_parts script state (event.Notify p) = refl
step_by_parts script state (event.Collect p) = refl
step_by_parts script state (event.SetPgid p q g) = refl
step_by_parts script state (event.SetSid p) = refl
step_by_parts script state (event.TcSet p g) = refl
step_by_parts script state (event.Flags p n) = refl
step_by_parts script state (event.Background p s) = refl
step_by_parts script state (event.BackgroundDone p) = refl
step_by_parts script state (event.Line p n bytes) = refl
step_by_parts script state (event.Write p n bytes) = refl
step_by_parts script state (event.Key p b) = refl
step_by_parts script state (event.Host p n) = refl
