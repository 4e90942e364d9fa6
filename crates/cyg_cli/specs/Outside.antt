-- What the outside of the program tells.
use Rattle.std.specs.Prelude.{◌≡◌, ℕ, List, Option}

-- what a source and a sink tell: the bytes left and the bytes held, where they tell them, and their counts
pub record Outside : Type 0 where
  pub left : Option (List ℕ)
  pub read_faults : ℕ
  pub given : ℕ
  pub ends : ℕ
  pub held : Option (List ℕ)
  pub write_faults : ℕ

abbrev pub outside : Option (List ℕ) → ℕ → ℕ → ℕ → Option (List ℕ) → ℕ → Outside
outside left read_faults given ends held write_faults = record {
  left = left;
  read_faults = read_faults;
  given = given;
  ends = ends;
  held = held;
  write_faults = write_faults;
}

-- what a source alone tells
pub record Supply : Type 0 where
  pub left : Option (List ℕ)
  pub faults : ℕ
  pub given : ℕ
  pub ends : ℕ

abbrev pub supply : Option (List ℕ) → ℕ → ℕ → ℕ → Supply
supply left faults given ends = record { left = left; faults = faults; given = given; ends = ends }

abbrev pub source_of : Outside → Supply
source_of o = record { left = o.left; faults = o.read_faults; given = o.given; ends = o.ends }

-- the sink is as it was
pub record IsUnwritten (before after : Outside) : Type 0 where
  pub held : after.held ≡ before.held
  pub faults : after.write_faults ≡ before.write_faults
