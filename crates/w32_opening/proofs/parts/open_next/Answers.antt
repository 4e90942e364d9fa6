use Rattle.w32_opening.proofs.FirstHandles.{next-opened, next-row}
use Rattle.w32_opening.proofs.parts.open_next.Goals as goal

pub returns-clause-opened : goal.returns-clause-opened
returns-clause-opened c =
    next-opened c.args.handles.now c.open.new.self c.in-Ok.field-0 c.args.o c.requires.row c.in-Ok.ensures.lowest
    c.in-Ok.ensures.opened

pub returns-clause-row : goal.returns-clause-row
returns-clause-row c =
    next-row c.args.handles.now c.open.new.self c.in-Ok.field-0 c.args.o c.requires.row c.in-Ok.ensures.lowest
    c.in-Ok.ensures.opened
