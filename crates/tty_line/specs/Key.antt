-- What a key's call answers and leaves.
use Rattle.std.specs.Prelude.{◌≡◌}
use Rattle.tty_spec.specs.Terminal.{Terminal}
use Rattle.tty_spec.specs.Discipline.{KeyTaken}
use Rattle.tty_line.specs.declared.tty.KeyDone.{KeyDone}

-- the terminal, the echo and the signal are those of what the key does
pub record IsKeyDone (taken : KeyTaken) (new : Terminal) (done : KeyDone) : Type 0 where
  pub terminal : new ≡ taken.terminal
  pub echo : done.echo ≡ taken.echo
  pub signal : done.signal ≡ taken.signal
