-- The words of each command.
use Rattle.std.specs.Prelude.{◌≡◌, ◌≢◌, ℕ, ◌≤◌, List, [], ◌∷◌, codes}
use Rattle.std.specs.Fmt.{decimal}
use Rattle.w32_base.specs.declared.entry.View.{View}
use Rattle.w32_base.specs.declared.entry.View.TheVariants as view
use Rattle.cyg_cli.specs.declared.commands.Command.{Command}
use Rattle.cyg_cli.specs.declared.commands.Command.TheVariants.{Run, Check, Make}

abbrev pub view_word : View → List ℕ
view_word view.All = codes "all"
view_word view.Events = codes "events"
view_word view.Calls = codes "calls"

abbrev pub words_of : Command → List (List ℕ)
words_of (Run v) = codes "run" ∷ view_word v ∷ []
words_of Check = codes "check" ∷ []
words_of (Make n) = codes "make" ∷ decimal n ∷ []

-- the word is this number in digits without a leading zero, from 1 to 500
pub record IsNumberOfForks (word : List ℕ) (n : ℕ) : Type 0 where
  pub text : word ≡ decimal n
  pub some : 1 ≤ n
  pub most : n ≤ 500

-- the numbers that a command accepts
abbrev pub IsInRange : Command → Type 0
IsInRange (Run v) = Unit {0}
IsInRange Check = Unit {0}
IsInRange (Make n) = (1 ≤ n) × (n ≤ 500)

-- the words are this command's
pub record Asks (words : List (List ℕ)) (command : Command) : Type 0 where
  pub spelled : words ≡ words_of command
  pub range : IsInRange command

-- the words are no command's
abbrev pub IsNoCommand : List (List ℕ) → Type 0
IsNoCommand words = (command : Command) → IsInRange command → words ≢ words_of command
