-- How far a search for a break has come.
use Rattle.std.specs.Prelude.{◌≡◌, ℕ, ◌+◌, ◌<◌, true, false, nat_eq, if◌then◌else◌, List, length, drop, Option, Some}
use Rattle.std.specs.Prelude.{None}
use Rattle.std.proofs.Common.{refl, sym, ◌∙◌, ap, arith}
use Rattle.std.proofs.lemmas.Bool.{eq-eqb}
use Rattle.std.proofs.lemmas.List.{drop_all}
use Rattle.layer_spec.specs.HeapReads.{byte_at}
use Rattle.layer_spec.specs.HeapBreaks.{fits_at, first_misfit, first_break}
use Rattle.layer_spec.specs.BreakBytes.{drop_next}

-- the bytes below a place fit
unfoldable pub IsPassed : List ℕ → ℕ → Type 0
IsPassed bytes i = first_misfit bytes 0 bytes ≡ first_misfit bytes i (drop i bytes)

pub passed_none : (bytes : List ℕ) → IsPassed bytes 0
unfolding IsPassed
passed_none bytes = refl

pub passed_more : (bytes : List ℕ) (i : ℕ) → i < length bytes → IsPassed bytes i
    → fits_at bytes i (byte_at bytes i) ≡ true → IsPassed bytes (i + 1)
unfolding IsPassed first_misfit
passed_more bytes i within passed fits =
    passed ∙ ap (first_misfit bytes i) (drop_next bytes i within)
    ∙ ap (λ t. (if t then first_misfit bytes (i + 1) (drop (i + 1) bytes) else Some i)) fits

pub break_there : (bytes : List ℕ) (i : ℕ) → length bytes ≡ 288 → i < length bytes → IsPassed bytes i
    → fits_at bytes i (byte_at bytes i) ≡ false → first_break bytes ≡ Some i
unfolding IsPassed first_misfit
break_there bytes i size within passed fits =
    ap (λ t. (if t then first_misfit bytes 0 bytes else Some 288)) (eq-eqb (length bytes) 288 size)
    ∙ passed ∙ ap (first_misfit bytes i) (drop_next bytes i within)
    ∙ ap (λ t. (if t then first_misfit bytes (i + 1) (drop (i + 1) bytes) else Some i)) fits

pub break_nowhere : (bytes : List ℕ) → length bytes ≡ 288 → IsPassed bytes 288 → first_break bytes ≡ None
unfolding IsPassed first_misfit
break_nowhere bytes size passed =
    ap (λ t. (if t then first_misfit bytes 0 bytes else Some 288)) (eq-eqb (length bytes) 288 size)
    ∙ passed ∙ ap (first_misfit bytes 288) (drop_all 288 bytes (omega arith))
