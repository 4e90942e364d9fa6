-- What a table, or an entry of it, ends as where a `&mut` to an object is returned.
use Rattle.std.specs.Prelude.{ℕ}
use Rattle.std.specs.Borrow.{Lends, Fml, RattleType, MutBor}
use Rattle.w32_handles.specs.Table.{Table, HeldObject, with_object}
use Rattle.w32_handles.specs.contracts.objects.Objects.{the_row as objects_row}
use Rattle.w32_handles.specs.contracts.objects.HeldObject.{the_row as held_row}

-- once the borrow r ends, the object is the last value written through r
abbrev pub lends_held : (K : RattleType) → MutBor (HeldObject K.Denot) → MutBor K.Denot → Fml
lends_held K held r = Lends (held_row K) K held r (λ object. record held.now { object = object })

-- the same at the object of a number
abbrev pub lends_object : (K : RattleType) → MutBor (Table K.Denot) → ℕ → MutBor K.Denot → Fml
lends_object K t o r = Lends (objects_row K) K t r (with_object t.now o)
