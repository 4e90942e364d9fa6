-- The parts of the script that is made.
use Rattle.std.specs.Prelude.{◌≡◌, ℕ, ◌+◌, [], ◌∷◌, codes}
use Rattle.w32_base.specs.declared.setup.Program.{Program}
use Rattle.w32_base.specs.declared.setup.Setup.{Setup}
use Rattle.world_gen.specs.Forks.{instructions_of}

pub record IsMainOf (n : ℕ) (program : Program) : Type 0 where
  pub name : program.name ≡ codes "main"
  pub heap : program.heap ≡ 64
  pub stack : program.stack ≡ 64
  pub code : program.code ≡ instructions_of n

pub record IsSetupOf (n : ℕ) (setup : Setup) : Type 0 where
  pub slots : setup.limits.slots ≡ 2
  pub rows : setup.limits.rows ≡ n + 1
  pub budget : setup.limits.budget ≡ 500000
  pub modules : setup.modules ≡ []
  pub program : Program
  pub programs : setup.programs ≡ program ∷ []
  pub main : IsMainOf n program
