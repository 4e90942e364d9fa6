-- What a sink tells, and what a writing did to it.
use Rattle.std.specs.Prelude.{◌≡◌, ℕ, List, Option}
use Rattle.std.specs.Io.KnownBytes.{Appends}
use Rattle.cyg_io.specs.Counts.{RoseBy}
use Rattle.cyg_io.specs.Sink.{AppendsPart, TakesOnly}

-- what a sink tells of itself: the bytes held, the pieces it took, and how many faults it had
pub record Told : Type 0 where
  pub held : Option (List ℕ)
  pub pieces : Option (List (List ℕ))
  pub faults : ℕ

abbrev pub told : Option (List ℕ) → Option (List (List ℕ)) → ℕ → Told
told held pieces faults = record { held = held; pieces = pieces; faults = faults }

-- the whole text went out, in pieces that have this property, without a fault
pub record WritesAll (Q : List ℕ → Type 0) (text : List ℕ) (before now : Told) : Type 0 where
  pub bytes : Appends before.held now.held text
  pub pieces : TakesOnly Q before.pieces now.pieces
  pub no_fault : now.faults ≡ before.faults

-- some first bytes of the text went out, in such pieces, and then the sink had a fault
pub record WritesPart (Q : List ℕ → Type 0) (text : List ℕ) (before now : Told) : Type 0 where
  pub bytes : AppendsPart before.held now.held text
  pub pieces : TakesOnly Q before.pieces now.pieces
  pub one_fault : RoseBy 1 before.faults now.faults
