-- What a process is in the definitions.
use Rattle.std.specs.Prelude.{ℕ, option_map}
use Rattle.vm_spec.specs.Image.{image_of}
use Rattle.sig_sets.specs.Shown.{bits_of}
use Rattle.posix_spec.specs.State as spec
use Rattle.posix_spec.specs.State.{Numbers, NoCall, WaitCall, ForGroup, CallInProgress, Record}
use Rattle.posix_model.specs.declared.process.Life.{Life}
use Rattle.posix_model.specs.declared.process.Life.TheVariants as life
use Rattle.posix_model.specs.declared.process.Untold.{Untold}
use Rattle.posix_model.specs.declared.process.Untold.TheVariants as untold
use Rattle.posix_model.specs.declared.process.GroupCall.{GroupCall}
use Rattle.posix_model.specs.declared.process.Progress.{Progress}
use Rattle.posix_model.specs.declared.process.Progress.TheVariants as progress
use Rattle.posix_model.specs.declared.process.Process.{Process}
use Rattle.posix_model.specs.MarkedNumbers.{numbers_of}

abbrev pub life_of : Life → spec.Life
life_of life.Running = spec.Running
life_of (life.Stopped signal) = spec.Stopped signal
life_of (life.Zombie status) = spec.Zombie status

abbrev pub report_of : Untold → ℕ
report_of untold.Nothing = 0
report_of untold.Stop = 1
report_of untold.Continue = 2

abbrev pub group_call_of : GroupCall → Numbers → spec.GroupCall
group_call_of call members = record { group = call.group; signal = call.signal; members = members }

abbrev pub call_of : Progress → Numbers → CallInProgress
call_of progress.Nothing marks = NoCall
call_of progress.Wait marks = WaitCall marks
call_of (progress.Group call) marks = ForGroup (group_call_of call marks)

abbrev pub record_of : Process → Record
record_of p = record {
  parent = p.parent;
  group = p.group;
  session = p.session;
  terminal = p.terminal;
  execd = p.execd;
  life = life_of p.life;
  report = report_of p.untold;
  pending = bits_of p.pending;
  mask = bits_of p.mask;
  saved = option_map bits_of p.saved;
  actions = p.actions;
  image = image_of p.own;
  call = call_of p.progress (numbers_of p.marks);
  blocked = p.blocked;
  due = p.due;
  lost = bits_of p.lost;
  owed = p.owed;
}
