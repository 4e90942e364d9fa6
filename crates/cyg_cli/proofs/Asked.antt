-- Words are one command's.
use Rattle.std.proofs.Common.{◌≡◌, ℕ, List, [], ◌∷◌, refl, sym, ◌∙◌, ap, arith}
use Rattle.std.specs.Prelude.{codes}
use Rattle.std.proofs.lemmas.Fmt.{decimal_injective}
use Rattle.w32_base.specs.declared.entry.View.{View}
use Rattle.w32_base.specs.declared.entry.View.TheVariants as view
use Rattle.cyg_cli.specs.declared.commands.Command.{Command}
use Rattle.cyg_cli.specs.declared.commands.Command.TheVariants.{Run, Check, Make}
use Rattle.cyg_cli.specs.Commands.{Asks, IsNoCommand, view_word}

abbrev first_word : List (List ℕ) → List ℕ
first_word [] = []
first_word (word ∷ rest) = word

abbrev second_word : List (List ℕ) → List ℕ
second_word [] = []
second_word (first ∷ []) = []
second_word (first ∷ (second ∷ rest)) = second

run_is_not_make : codes "run" ≡ codes "make" → ⊥
run_is_not_make e = cc

run_is_not_check : codes "run" ≡ codes "check" → ⊥
run_is_not_check e = cc

check_is_not_make : codes "check" ≡ codes "make" → ⊥
check_is_not_make e = cc

pub run_no_make : (words : List (List ℕ)) (v : View) (n : ℕ) → Asks words (Run v) → Asks words (Make n) → ⊥
run_no_make words v n r m = run_is_not_make (ap first_word (sym r.spelled ∙ m.spelled))

pub run_no_check : (words : List (List ℕ)) (v : View) → Asks words (Run v) → Asks words Check → ⊥
run_no_check words v r c = run_is_not_check (ap first_word (sym r.spelled ∙ c.spelled))

pub check_no_make : (words : List (List ℕ)) (n : ℕ) → Asks words Check → Asks words (Make n) → ⊥
check_no_make words n c m = check_is_not_make (ap first_word (sym c.spelled ∙ m.spelled))

pub no_command : (words : List (List ℕ)) (command : Command) → IsNoCommand words → Asks words command → ⊥
no_command words command none asks = none command asks.range asks.spelled

pub same_make : (words : List (List ℕ)) (m n : ℕ) → Asks words (Make m) → Asks words (Make n) → m ≡ n
same_make words m n a b =
    decimal_injective m n (omega (arith, a.range.1)) (omega (arith, b.range.1)) (ap second_word
    (sym a.spelled ∙ b.spelled))

-- a view has one word
one_view : (v w : View) → view_word v ≡ view_word w → v ≡ w
one_view view.All view.All e = refl
one_view view.Events view.Events e = refl
one_view view.Calls view.Calls e = refl
one_view view.All view.Events e = cc
one_view view.All view.Calls e = cc
one_view view.Events view.All e = cc
one_view view.Events view.Calls e = cc
one_view view.Calls view.All e = cc
one_view view.Calls view.Events e = cc

pub same_view : (words : List (List ℕ)) (v w : View) → Asks words (Run v) → Asks words (Run w) → v ≡ w
same_view words v w a b = one_view v w (ap second_word (sym a.spelled ∙ b.spelled))
