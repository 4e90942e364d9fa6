-- What the fields of the words are in the definitions.
use Rattle.std.specs.Prelude.{ℕ, Bool}
use Rattle.pinfo_word.specs.declared.words.RowKind.{RowKind}
use Rattle.pinfo_word.specs.declared.words.RowKind.TheVariants as code
use Rattle.sig_sets.specs.declared.set.SigSet.{SigSet}
use Rattle.sig_sets.specs.Shown.{bits_of}
use Rattle.layer_spec.specs.Rows as rows
use Rattle.layer_spec.specs.Rows.{MainWord, GroupWord, ExitWord}

abbrev pub shown_kind : RowKind → rows.RowKind
shown_kind code.Free = rows.Free
shown_kind code.Held = rows.Held
shown_kind code.Running = rows.Running
shown_kind code.Stopped = rows.Stopped
shown_kind code.Zombie = rows.Zombie
shown_kind code.Gone = rows.Gone

-- a main word of these fields, and the other two words
abbrev pub main_by : (kind : RowKind) (stop report : ℕ) (execd : Bool) (image : ℕ) (pending : SigSet) (status : ℕ)
    → MainWord
main_by kind stop report execd image pending status = record {
  kind = shown_kind kind;
  stop = stop;
  report = report;
  execd = execd;
  image = image;
  pending = bits_of pending;
  status = status;
}

abbrev pub group_by : (ppid pgid sid : ℕ) (tty : Bool) → GroupWord
group_by ppid pgid sid tty = record { parent = ppid; group = pgid; session = sid; terminal = tty }

abbrev pub exit_by : (image status : ℕ) (fault : Bool) → ExitWord
exit_by image status fault = record { status = status; image = image; fault = fault }
