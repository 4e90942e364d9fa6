-- The names of a script's modules and programs.
use Rattle.std.specs.Prelude.{List, ℕ, map}
use Rattle.w32_base.specs.declared.setup.Module.{Module}
use Rattle.w32_base.specs.declared.setup.Program.{Program}

abbrev pub module_names : List Module → List (List ℕ)
module_names modules = map (λ (m : Module). m.name) modules

abbrev pub program_names : List Program → List (List ℕ)
program_names programs = map (λ (p : Program). p.name) programs
