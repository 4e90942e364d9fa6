-- Whether a slot is free.
use Rattle.std.proofs.Common.{◌≡◌, ◌∙◌, ℕ, Bool, true, false, not, List, Option, Some, None, IsSome, refl, sym, ap}
use Rattle.std.specs.Option.{is_some}
use Rattle.win32_spec.specs.State.{Process}
use Rattle.win32_spec.specs.Lookup.{process_in, number_of, IsOccupied}

pub is_free : (ps : List Process) (slot : ℕ) (r : Option ℕ) (b : Bool) → r ≡ number_of (process_in ps slot)
    → is_some r ≡ not b → b ≡ true
    → process_in ps slot ≡ None
is_free ps slot r b is test set = by_process (process_in ps slot) refl
  where
    by_process : (o : Option Process) → process_in ps slot ≡ o → o ≡ None
    by_process None e = refl
    by_process (Some p) e =
        let f : r ≡ Some p.number = is ∙ ap number_of e in
        absurd (let g : true ≡ false = sym (ap is_some f) ∙ test ∙ ap not set in cc)

pub is_taken : (ps : List Process) (slot : ℕ) (r : Option ℕ) (b : Bool) → r ≡ number_of (process_in ps slot)
    → is_some r ≡ not b → b ≡ false
    → IsOccupied ps slot
is_taken ps slot r b is test set = by_process (process_in ps slot) refl
  where
    by_process : (o : Option Process) → process_in ps slot ≡ o → IsSome o
    by_process (Some p) e = refl
    by_process None e =
        let f : r ≡ None = is ∙ ap number_of e in
        absurd (let g : false ≡ true = sym (ap is_some f) ∙ test ∙ ap not set in cc)
