-- The clause of a claim of `roster`: what the main thread of a running process knows of the row that it claims, from
-- its first step to the row held. It is the first piece of the clause of a fork.
use Rattle.std.specs.Prelude.{◌≡◌, ℕ, ◌≤◌, List, Some}
use Rattle.script_spec.specs.declared.script.Script.{Script}
use Rattle.win32_spec.specs.State.{Win32State}
use Rattle.layer_spec.specs.Decoding.{main_of}
use Rattle.layer_spec.specs.Moment.{Moment, Seen}
use Rattle.layer_spec.specs.Rows.{Held}
use Rattle.layer_spec.specs.Transitions.{Hold, blank}
use Rattle.layer_spec.specs.Words.{main_at, group_at, exit_at}
use Rattle.roster.specs.declared.claim.Claim.{Claim}
use Rattle.roster.specs.declared.claim.Claim.TheVariants as claim
use Rattle.roster.specs.Words.{changed_word}
use Rattle.world_spec.specs.Made.{IsClaimedBy}
use Rattle.world_spec.specs.Sound.{IsBlankRow}

-- process w claimed the row, one of the script's, which is blank yet
pub record HasClaimed {A : Type 0} (script : Script) (past : List (Seen A)) (s : Win32State) (w row : ℕ) : Type 0 where
  pub from : 1 ≤ row
  pub within : row ≤ script.setup.limits.rows
  pub claimed : IsClaimedBy past row w
  pub blank : IsBlankRow s row

-- process w claimed the row and holds it for a child to come
pub record HoldsRow {A : Type 0} (past : List (Seen A)) (s : Win32State) (w row : ℕ) : Type 0 where
  pub claimed : IsClaimedBy past row w
  pub main : main_of (main_at s row) ≡ Some (blank Held)
  pub group : group_at s row ≡ 0
  pub exit : exit_at s row ≡ 0

-- Before the add it needs nothing of the rows. After it the row is claimed and blank, until it is held.
abbrev pub ClaimClause : {A : Type 0} → Script → List (Seen A) → Moment A → ℕ → Claim → Type 0
ClaimClause script past now w claim.Adding = Unit {0}
ClaimClause script past now w (claim.Looking row) = HasClaimed script past now.win32 w row
ClaimClause script past now w (claim.Holding row old new) =
    HasClaimed script past now.win32 w row × (changed_word Hold old ≡ Some new)
ClaimClause script past now w (claim.Claimed row) = HoldsRow past now.win32 w row
ClaimClause script past now w claim.NoRow = Unit {0}
ClaimClause script past now w claim.Rest = Unit {0}
