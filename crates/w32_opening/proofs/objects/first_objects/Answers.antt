use Rattle.std.proofs.Common.{rules, Some, ap}
use Rattle.win32_spec.specs.State.{Section, TerminalObject}
use Rattle.w32_opening.specs.declared.numbers.Numbers.{Numbers}
use Rattle.w32_opening.proofs.FirstObjects.{opened-objects}
use Rattle.w32_opening.proofs.objects.first_objects.Goals as goal

pub returns-then-lt-3-clause-objects : goal.returns-then-lt-3-clause-objects
returns-then-lt-3-clause-objects c =
    let numbers : Numbers = record {
      section = c.add-section.result;
      mutex = c.add-mutex.result;
      terminal = c.add-terminal.result;
      process = c.add-process.result;
      section_even = c.add-section.ensures.even;
      mutex_even = c.add-mutex.ensures.even;
      terminal_even = c.add-terminal.ensures.even;
      process_even = c.add-process.ensures.even;
      mutex_above = search rules;
      terminal_above = search rules;
      process_above = search rules;
    } in
    opened-objects numbers c.in_ok-objects.objects c.add-section.new.self c.add-mutex.new.self c.add-terminal.new.self
    c.add-process.new.self c.hold.new.self c.hold-2.new.self c.hold-3.new.self _ _ _ _ c.in_ok-objects.ensures.empty
    c.add-section.ensures.added c.add-mutex.ensures.added c.add-terminal.ensures.added c.add-process.ensures.added
    c.hold.ensures.held c.hold-2.ensures.held c.hold-3.ensures.held
    (ap (λ ws. Some (Section ws, 0, 2)) c.in_ok-words.ensures) (search rules)
    (ap (λ t. Some (TerminalObject t, 0, 2)) (search rules)) (search rules)
