-- The object of the modelled Win32 that a kind stands for.
use Rattle.win32_spec.specs.State.{Object, Section, Event, Mutex, Pipe, ProcessObject, TerminalObject}
use Rattle.w32_kinds.specs.declared.kind.Kind.{Kind}
use Rattle.w32_kinds.specs.declared.kind.Kind.TheVariants as kind

-- the object that the code keeps in this form
abbrev pub shown : Kind → Object
shown (kind.Section words) = Section words
shown (kind.Event e) = Event e
shown (kind.Mutex owner) = Mutex owner
shown (kind.Pipe p) = Pipe p.bytes
shown (kind.Process w slot) = ProcessObject w
shown (kind.Terminal terminal) = TerminalObject terminal.value
