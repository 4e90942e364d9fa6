-- What the words and the changes are in the definitions.
use Rattle.std.specs.Prelude.{ℕ}
use Rattle.pinfo_word.specs.declared.words.Main.{Main}
use Rattle.pinfo_word.specs.declared.words.Group.{Group}
use Rattle.pinfo_word.specs.declared.words.Exit.{Exit}
use Rattle.pinfo_word.specs.declared.changes.Op.{Op}
use Rattle.pinfo_word.specs.declared.changes.Op.TheVariants as code
use Rattle.pinfo_word.specs.Fields.{main_by, group_by, exit_by}
use Rattle.layer_spec.specs.Rows.{MainWord, GroupWord, ExitWord}
use Rattle.layer_spec.specs.Transitions as rows

abbrev pub shown_main : Main → MainWord
shown_main m = main_by m.kind m.stop m.report m.execd m.image m.pending m.status

abbrev pub shown_group : Group → GroupWord
shown_group g = group_by g.ppid g.pgid g.sid g.tty

abbrev pub shown_exit : Exit → ExitWord
shown_exit e = exit_by e.image e.status e.fault

abbrev pub shown_op : Op → rows.Op
shown_op code.Hold = rows.Hold
shown_op code.Drop = rows.Drop
shown_op (code.Publish image) = rows.Publish image
shown_op (code.Post s) = rows.Post s
shown_op code.Probe = rows.Probe
shown_op (code.Clear s) = rows.Clear s
shown_op (code.Stop s) = rows.Stop s
shown_op (code.TakeOver image) = rows.TakeOver image
shown_op (code.Seal status) = rows.Seal status
shown_op code.Report = rows.Report
shown_op code.Reap = rows.Reap
shown_op code.Collect = rows.Collect
