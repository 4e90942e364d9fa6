-- The calls on the words of a section: `load`, `cas` and `add`. Refusals: badhandle, badindex.
use Rattle.std.specs.Prelude.{ℕ, List, Option, Some, None}
use Rattle.w32_base.specs.declared.call.Reply.{Reply}
use Rattle.w32_base.specs.declared.call.Reply.TheVariants as reply
use Rattle.win32_spec.specs.Objects.{load_reply, exchanged, added}
use Rattle.win32_spec.specs.State.{Section, Win32State}
use Rattle.win32_spec.specs.Lookup.{with_object}
use Rattle.win32_spec.specs.Named.{section_named, object_by, object_number_by, Gives}

-- the words of the section that a handle of process w names
abbrev pub words_by : Win32State → ℕ → ℕ → Option (List ℕ)
words_by s w h = section_named (object_by s w h)

-- the word that was found, or why there is none
abbrev pub word_reply : Option (List ℕ) → ℕ → Reply
word_reply None i = reply.BadHandle
word_reply (Some words) i = load_reply words i

-- the state with other words in the section that a handle of process w names
abbrev pub with_words : Win32State → ℕ → ℕ → List ℕ → Win32State
with_words s w h words = with_object s (object_number_by s w h) (Section words)

abbrev pub after_exchange : Win32State → ℕ → ℕ → Option (List ℕ) → ℕ → ℕ → ℕ → Win32State
after_exchange s w h None i old new = s
after_exchange s w h (Some words) i old new = with_words s w h (exchanged words i old new)

abbrev pub after_add : Win32State → ℕ → ℕ → Option (List ℕ) → ℕ → ℕ → Win32State
after_add s w h None i n = s
after_add s w h (Some words) i n = with_words s w h (added words i n)

-- `load H I`: word I
abbrev pub LoadStep : Win32State → ℕ → ℕ → ℕ → Reply → Win32State → Type 0
LoadStep s w h i r new = Gives (word_reply (words_by s w h) i) s r new

-- `cas H I OLD NEW`: the word found; NEW is stored exactly where that is OLD
abbrev pub ExchangeStep : Win32State → ℕ → ℕ → ℕ → ℕ → ℕ → Reply → Win32State → Type 0
ExchangeStep s w h i old n r new =
    Gives (word_reply (words_by s w h) i) (after_exchange s w h (words_by s w h) i old n) r new

-- `add H I N`: the word found; N is added to it, which wraps
abbrev pub AddStep : Win32State → ℕ → ℕ → ℕ → ℕ → Reply → Win32State → Type 0
AddStep s w h i n r new = Gives (word_reply (words_by s w h) i) (after_add s w h (words_by s w h) i n) r new
