-- The modules that are placed in a process, as the code keeps them.
use Rattle.std.specs.Prelude.{List, [], ◌∷◌}
use Rattle.win32_spec.specs.State.{PlacedModule}
use Rattle.w32_kinds.specs.declared.placements.Placement.{Placement}

abbrev pub placed_of : List Placement → List PlacedModule
placed_of [] = []
placed_of (m ∷ ms) = record { module_no = m.number; base = m.base } ∷ placed_of ms
