-- What a slot, or the table, ends as where a `&mut` into it is returned.
use Rattle.std.specs.Prelude.{ℕ, List}
use Rattle.std.specs.Borrow.{Lends, Fml, MutBor}
use Rattle.w32_base.specs.declared.own.Own.{Own}
use Rattle.win32_spec.specs.Handles.{Handle}
use Rattle.w32_handles.specs.contracts.handles.Handles.{the_row as handles_row}
use Rattle.w32_base.specs.contracts.own.Own.{the_row as own_row}
use Rattle.w32_process.specs.contracts.seat.Seat.{the_row as seat_row}
use Rattle.w32_process.specs.contracts.processes.Processes.{the_row as processes_row}
use Rattle.w32_process.specs.Places.{Place}
use Rattle.w32_process.specs.Table.{Table, with_handles, with_own}

-- once the borrow r ends, the slot's handles are the last ones written through r
abbrev pub lends_handles : MutBor Place → MutBor (List Handle) → Fml
lends_handles place r = Lends seat_row handles_row place r (λ handles. record place.now { handles = handles })

-- the same of its memory
abbrev pub lends_own : MutBor Place → MutBor Own → Fml
lends_own place r = Lends seat_row own_row place r (λ own. record place.now { own = own })

-- the same of the slot with this number
abbrev pub lends_handles_at : MutBor Table → ℕ → MutBor (List Handle) → Fml
lends_handles_at t slot r = Lends processes_row handles_row t r (with_handles t.now slot)

abbrev pub lends_own_at : MutBor Table → ℕ → MutBor Own → Fml
lends_own_at t slot r = Lends processes_row own_row t r (with_own t.now slot)
