-- Entries, and the room that was taken for them.
use Rattle.std.specs.Prelude.{ℕ, List}
use Rattle.w32_base.specs.declared.entry.Entry.{Entry}

pub record Recorded : Type 0 where
  pub entries : List Entry
  pub room : ℕ
