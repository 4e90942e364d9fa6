-- Whether each member has had its step.
use Rattle.std.proofs.Common.{◌≡◌, ℕ, Bool, true, false, cond, ◌&&◌, ◌||◌, not, nat_eq, List, [], ◌∷◌, refl}
use Rattle.std.specs.List.{list_all}
use Rattle.std.specs.FinSet as set
use Rattle.posix_spec.specs.State.{Numbers, Record}
use Rattle.posix_spec.specs.Records.{numbers_where}
use Rattle.posix_model.specs.Scanned.{some_entry}

pub complete_is : (m : Numbers) (g : ℕ) (es : List (ℕ × Record)) →
    not (some_entry (λ q r. nat_eq r.group g && not (set.contains m q)) es) ≡ list_all (set.contains m)
    (numbers_where (λ q r. nat_eq r.group g) es)
complete_is m g [] = refl
complete_is m g (e ∷ es) =
    let rest = complete_is m g es in
    let waits : Bool = some_entry (λ q r. nat_eq r.group g && not (set.contains m q)) es in
    let done : List ℕ = numbers_where (λ q r. nat_eq r.group g) es in
    elim (nat_eq e.1.group g) as (λ b. not ((b && not (set.contains m e.0)) || waits) ≡ list_all (set.contains m)
    (cond b (e.0 ∷ done) done)) [
      | true ↦ elim (set.contains m e.0) as (λ b. not (not b || waits) ≡ (b && list_all (set.contains m) done)) [
        | true ↦ rest
        | false ↦ refl
      ]
      | false ↦ rest
    ]
