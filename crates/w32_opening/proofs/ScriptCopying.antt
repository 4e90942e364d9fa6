-- Lemmas of the copy of a script.
use Rattle.std.proofs.Common.{◌≡◌, ℕ, ◌+◌, ◌<◌, List, length, take, refl, arith, inl, inr}
use Rattle.std.specs.Prelude.{slice_get}
use Rattle.std.proofs.lemmas.List.{take_more}
use Rattle.std.proofs.lemmas.Option.{slice_get_cases}
use Rattle.w32_base.specs.declared.instr.Instr.{Instr}
use Rattle.w32_opening.specs.ScriptCopies.{added}

-- the copy of k instructions with the next one is that of k + 1
pub take_next : (code : List Instr) (k : ℕ) → k < length code → added (take k code) (slice_get code k) ≡ take (k + 1)
    code
take_next code k h =
    elim (slice_get_cases code k).1 [
      | inl (x, within, is, at) ↦ rw is (rw (take_more code k x within, at) refl)
      | inr (past, none) ↦ absurd (omega arith)
    ]
