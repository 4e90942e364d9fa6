-- The script that is made for a number of forks: one process forks so often, and waits for each child before the next
-- fork; each child looks at its number and ends with it.
use Rattle.std.specs.Prelude.{◌≡◌, ℕ, zero, suc, ◌+◌, ◌*◌, pos, List, [], ◌∷◌, ◌++◌, codes}
use Rattle.w32_base.specs.declared.instr.Instr.{Instr}
use Rattle.w32_base.specs.declared.instr.Instr.TheVariants.{Fork, JumpZero, Wait, Exit, GetPid}
use Rattle.w32_base.specs.declared.instr.Operand.TheVariants.{Register, Number}
use Rattle.w32_base.specs.declared.setup.Program.{Program}
use Rattle.script_spec.specs.declared.script.ScheduleLine.TheVariants.{Settle}
use Rattle.script_spec.specs.declared.script.Script.{Script}

-- a fork, whose child goes to a place of the program and whose parent waits for it
abbrev pub one_fork : (child : ℕ) → List Instr
one_fork child = Fork ∷ JumpZero (Register 0) child ∷ Wait (Register 0) (Number (pos 0)) ∷ []

abbrev pub forks : (child n : ℕ) → List Instr
forks child zero = []
forks child (suc n) = one_fork child ++ forks child n

-- the parent ends after so many forks with status 0; from the place behind it on, a child ends with its own number
abbrev pub instructions_of : ℕ → List Instr
instructions_of n = forks (3 * n + 1) n ++ Exit (Number (pos 0)) ∷ GetPid ∷ Exit (Register 0) ∷ []

-- The script has two slots, a row for the parent and for each child, and a schedule that gives turns until nobody can
-- take one. Its one program is this.
pub record IsForking (n : ℕ) (script : Script) : Type 0 where
  pub slots : script.setup.limits.slots ≡ 2
  pub rows : script.setup.limits.rows ≡ n + 1
  pub budget : script.setup.limits.budget ≡ 500000
  pub modules : script.setup.modules ≡ []
  pub program : Program
  pub programs : script.setup.programs ≡ program ∷ []
  pub name : program.name ≡ codes "main"
  pub heap : program.heap ≡ 64
  pub stack : program.stack ≡ 64
  pub code : program.code ≡ instructions_of n
  pub occupied : script.occupied ≡ []
  pub directives : script.directives ≡ Settle ∷ []
