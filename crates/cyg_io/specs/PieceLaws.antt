-- Laws of the pieces that a sink takes.
use Rattle.std.proofs.Common.{◌≡◌, ◌≢◌, ℕ, ◌<◌, ◌≤◌, List, [], ◌∷◌, ◌++◌, length, drop, All, Option, None, Some}
use Rattle.std.proofs.Common.{refl, sym, ap, ◌∙◌, subst, arith, append_assoc, append-nil, length-append}
use Rattle.std.proofs.lemmas.List.{drop-append-le}
use Rattle.std.proofs.lemmas.List.Elements.{All-nil, All-cons, All-append, All-drop, All-weaker}
use Rattle.cyg_io.specs.Sink.{with_piece, TakesOnly, IsRestOf, EndsOneLine}

-- no write
pub TakesOnly-none : (Q : List ℕ → Type 0) (a : Option (List (List ℕ))) → TakesOnly Q a a
TakesOnly-none Q None = tt
TakesOnly-none Q (Some ps) = ([], ap (λ (l : List (List ℕ)). Some l) (sym (append-nil ps)), All-nil Q)

-- one piece
pub TakesOnly-one : (Q : List ℕ → Type 0) (a b : Option (List (List ℕ))) (piece : List ℕ) → b ≡ with_piece a piece
    → Q piece → TakesOnly Q a b
TakesOnly-one Q None b piece is q = tt
TakesOnly-one Q (Some ps) b piece is q = (piece ∷ [], is, All-cons Q piece [] q (All-nil Q))

-- more pieces behind some that were told
TakesOnly-behind : (Q : List ℕ → Type 0) (ps more : List (List ℕ)) (c : Option (List (List ℕ))) → All Q more
    → TakesOnly Q (Some (ps ++ more)) c → TakesOnly Q (Some ps) c
TakesOnly-behind Q ps more c all (later, is, all_later) = (
  more ++ later,
  is ∙ ap (λ (l : List (List ℕ)). Some l) (append_assoc ps more later),
  All-append Q more later all all_later,
)

-- one writing, and then another
pub TakesOnly-trans : (Q : List ℕ → Type 0) (a b c : Option (List (List ℕ))) → TakesOnly Q a b → TakesOnly Q b c
    → TakesOnly Q a c
TakesOnly-trans Q None b c first second = tt
TakesOnly-trans Q (Some ps) b c (more, is, all) second =
    TakesOnly-behind Q ps more c all (subst (λ (o : Option (List (List ℕ))). TakesOnly Q o c) is second)

-- a property that follows
pub TakesOnly-weaker : (Q R : List ℕ → Type 0) → ((piece : List ℕ) → Q piece → R piece)
    → (a b : Option (List (List ℕ))) → TakesOnly Q a b → TakesOnly R a b
TakesOnly-weaker Q R f None b takes = tt
TakesOnly-weaker Q R f (Some ps) b (more, is, all) = (more, is, All-weaker Q R f more all)

-- a rest of what ends one line ends one line
pub EndsOneLine-rest : (text piece : List ℕ) → EndsOneLine text → IsRestOf text piece → EndsOneLine piece
EndsOneLine-rest text piece (body, ends, none) (n, short, rest) = (
  drop n body,
  rest ∙ ap (drop n) ends ∙ drop-append-le n body (10 ∷ [])
      (omega (arith, short, ap length ends, length-append body (10 ∷ []))),
  All-drop (λ b. b ≢ 10) n body none,
)

-- the pieces that write out what ends one line each end one line
pub TakesOnly-line : (text : List ℕ) (a b : Option (List (List ℕ))) → EndsOneLine text
    → TakesOnly (IsRestOf text) a b → TakesOnly EndsOneLine a b
TakesOnly-line text a b ends takes =
    TakesOnly-weaker (IsRestOf text) EndsOneLine (λ piece rest. EndsOneLine-rest text piece ends rest) a b takes
