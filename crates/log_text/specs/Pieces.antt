-- The pieces in which a log goes out.
use Rattle.std.specs.Prelude.{◌≡◌, ◌≢◌, ◌⊎◌, ℕ, List, [], ◌∷◌, ◌++◌, All, codes, Option, None, Some}
use Rattle.w32_base.specs.declared.event.Event.{Event}
use Rattle.w32_base.specs.declared.entry.Entry.{Entry}
use Rattle.w32_base.specs.declared.entry.View.{View}
use Rattle.w32_base.specs.declared.entry.View.TheVariants as view
use Rattle.tty_spec.specs.Terminal.{opening_terminal}
use Rattle.cyg_io.specs.Sink.{EndsOneLine}
use Rattle.log_spec.specs.Texts.{line, spaced, bytes_text}
use Rattle.log_spec.specs.Events.{event_text}
use Rattle.log_spec.specs.Output.{output_from}
use Rattle.log_spec.specs.Views.{view_lines}
use Rattle.log_spec.specs.CallsViewLaws.{StandsIn}

-- the line of view `calls` with what the terminal showed
unfoldable pub terminal_line : List Entry → List ℕ
terminal_line entries = line (spaced (codes "tty" ∷ bytes_text (output_from opening_terminal entries) ∷ []))

-- the lines of a view between a log's first line and its last
unfoldable pub lines_of : View → List Entry → List ℕ
lines_of v entries = view_lines v entries

-- A piece of a log is a line or the rest of one. The terminal's line alone, which may have any length, goes out in
-- parts.
abbrev pub IsPiece : View → List Entry → List ℕ → Type 0
IsPiece view.All entries piece = EndsOneLine piece
IsPiece view.Events entries piece = EndsOneLine piece
IsPiece view.Calls entries piece = EndsOneLine piece ⊎ StandsIn (terminal_line entries) piece

-- no byte but the last is a line's end
abbrev pub IsWithinLine : List ℕ → Type 0
IsWithinLine piece =
    (body last : List ℕ) × (piece ≡ body ++ last) × All (λ b. b ≢ 10) body × ((last ≡ []) ⊎ (last ≡ 10 ∷ []))

-- the line of an event, where there is one
abbrev pub event_line : Option Event → List ℕ
event_line None = []
event_line (Some e) = line (event_text e)
