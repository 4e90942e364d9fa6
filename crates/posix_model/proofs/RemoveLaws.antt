-- Laws of processes that are taken away.
use Rattle.std.proofs.Common.{◌≡◌, ℕ, Bool, true, false, cond, Option, Some, None, refl, sym, ◌∙◌, ap}
use Rattle.std.proofs.Common.{eqb-true}
use Rattle.std.specs.Ordering.{nat_cmp, eq_by_cmp}
use Rattle.std.specs.Cmp.{nat_cmp_total, unsigned_tied}
use Rattle.std.specs.FinMap as map
use Rattle.std.specs.FinMap.{nat_cmp-IsAntisymmetric}
use Rattle.posix_spec.specs.State.{Record, PosixState, record_of}
use Rattle.posix_spec.specs.Records.{without_record}

-- a number that has none may be taken away
pub remove-absent : {X : Type 0} (m : map.FinMap nat_cmp X) (k : ℕ) → map.get m k ≡ None → map.remove m k ≡ m
remove-absent m k absent = map.same_map nat_cmp_total nat_cmp-IsAntisymmetric _ _ (λ q.
    map.get-remove nat_cmp_total m k q
    ∙ elim (eq_by_cmp nat_cmp q k) as (λ b. eq_by_cmp nat_cmp q k ≡ b → cond b None (map.get m q) ≡ map.get m q) [
      | true ↦ λ is. sym absent ∙ ap (map.get m) (sym (eqb-true q k (sym (unsigned_tied q k) ∙ is)))
      | false ↦ λ is. refl
    ] refl)

some_of : {X : Type 0} (b : Bool) (o : Option X) (x : X) → cond b None o ≡ Some x → o ≡ Some x
some_of true o x e = cc
some_of false o x e = e

-- what is left was there
pub was_there : (s : PosixState) (c p : ℕ) (r : Record) → record_of (without_record s c) p ≡ Some r → record_of s p ≡
    Some r
was_there s c p r e = some_of (eq_by_cmp nat_cmp p c) (record_of s p) r (sym (map.get-remove nat_cmp_total s.records
    c p) ∙ e)
