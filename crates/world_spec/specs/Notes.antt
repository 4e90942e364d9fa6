-- What the record of a process tells its main thread, and what of it outlasts the events of others.
use Rattle.std.specs.Prelude.{◌≡◌, ℕ, ◌+◌, Bool, false, Some, None}
use Rattle.vm_spec.specs.Step.{Upcoming}
use Rattle.script_spec.specs.declared.script.Script.{Script}
use Rattle.posix_spec.specs.State.{Life, Running, Stopped, NoCall, Record, record_of}
use Rattle.posix_spec.specs.Conditions.{next_of}
use Rattle.layer_spec.specs.Moment.{Moment}
use Rattle.world_spec.specs.Facts.{CarriesImage}
use Rattle.world_spec.specs.RowsBesideLaws.{IsOwnRow}

-- What only an own event of a process changes of its record, while the process is live. Others may send it signals,
-- continue it where it is stopped, and change its group.
pub record KeepsNotes (old new : Record) : Type 0 where
  pub parent : new.parent ≡ old.parent
  pub session : new.session ≡ old.session
  pub terminal : new.terminal ≡ old.terminal
  pub execd : new.execd ≡ old.execd
  pub mask : new.mask ≡ old.mask
  pub saved : new.saved ≡ old.saved
  pub actions : new.actions ≡ old.actions
  pub image : new.image ≡ old.image
  pub call : new.call ≡ old.call
  pub blocked : new.blocked ≡ old.blocked
  pub not_due : old.due ≡ false → new.due ≡ false
  pub runs : old.life ≡ Running → new.life ≡ Running
  pub stopped : (signal : ℕ) → new.life ≡ Stopped signal → old.life ≡ Stopped signal

-- The main thread of process w stands between two calls of its program: the row is its own, the record of the process
-- has no call in progress, and none that waits. Its end hasn't begun: the exit word of the row doesn't carry its image.
-- So it is when it looks at its main word.
pub record IsBetweenCalls {A : Type 0} (now : Moment A) (w row : ℕ) : Type 0 where
  pub own : IsOwnRow now.win32 w row
  pub noted : Record
  pub found : record_of now.posix (row + 1) ≡ Some noted
  pub call : noted.call ≡ NoCall
  pub blocked : noted.blocked ≡ false
  pub unmarked : CarriesImage now.win32 row → ⊥

-- It is at what is next in its program, and may go on with it: the process runs, and no signal goes first. Its end
-- hasn't begun here either.
pub record IsAtNext {A : Type 0} (script : Script) (now : Moment A) (w row : ℕ) (next : Upcoming) : Type 0 where
  pub own : IsOwnRow now.win32 w row
  pub noted : Record
  pub found : record_of now.posix (row + 1) ≡ Some noted
  pub call : noted.call ≡ NoCall
  pub blocked : noted.blocked ≡ false
  pub runs : noted.life ≡ Running
  pub not_due : noted.due ≡ false
  pub next_is : next_of script noted ≡ next
  pub unmarked : CarriesImage now.win32 row → ⊥
