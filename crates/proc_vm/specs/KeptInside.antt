-- How an `Undo` shows what is kept.
use Rattle.std.specs.Prelude.{◌≡◌, ◌≤◌, length, take}
use Rattle.proc_vm.specs.Kept.{Kept}
use Rattle.proc_vm.specs.declared.kept.Undo.TheInside.{Inside}

abbrev pub kept_of : Inside → Kept
kept_of u = record { dat = u.dat; changes = take u.count u.changes }

pub record IsUndo (u : Inside) : Type 0 where
  pub count : u.count ≤ 256
  pub room : length u.changes ≡ 256
