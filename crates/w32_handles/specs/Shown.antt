-- The objects of the modelled Win32 that a table holds.
use Rattle.std.specs.Prelude.{ℕ, ◌+◌, ◌*◌, nat_eq, if◌then◌else◌, List, [], ◌∷◌, Option, Some, None}
use Rattle.win32_spec.specs.State.{Object, NumberedObject}
use Rattle.w32_handles.specs.Table.{HeldObject}

-- the list without the object of a number
abbrev pub without_object : ℕ → List NumberedObject → List NumberedObject
without_object o [] = []
without_object o (x ∷ xs) = if nat_eq x.number o then without_object o xs else x ∷ without_object o xs

-- What an object of the table is there.
module _ {K : Type 0} (f : K → Object) where
  abbrev pub object_shown : Option (HeldObject K) → Option Object
  object_shown None = None
  object_shown (Some kept) = Some (f kept.object)

  -- the objects of the places from one on: each has twice its place for its number
  abbrev pub objects_from : ℕ → List (Option (HeldObject K)) → List NumberedObject
  objects_from place [] = []
  objects_from place (None ∷ places) = objects_from (place + 1) places
  objects_from place (Some kept ∷ places) =
      record { number = 2 * place; object = f kept.object } ∷ objects_from (place + 1) places

  -- all objects, by rising numbers
  abbrev pub objects_of : List (Option (HeldObject K)) → List NumberedObject
  objects_of places = objects_from 0 places
