-- What is at a number after a change of the records.
use Rattle.std.specs.Prelude.{◌≡◌, ◌≢◌, ℕ, Bool, true, false, cond, nat_eq, Option, Some, None, is_some}
use Rattle.std.specs.Option.{unwrap_or}
use Rattle.std.specs.Cmp.{nat_cmp_total, unsigned_tied}
use Rattle.std.specs.FinMap as map
use Rattle.std.proofs.Common.{refl, sym, ap, subst, ◌∙◌, eqb-true, false-eqb, true≢false}
use Rattle.posix_spec.specs.State.{Record, PosixState, record_of}
use Rattle.posix_spec.specs.Records.{settled, with_record, without_record, changed_at, change_record}

pub same_record : (a b : Record) → Some a ≡ Some b → a ≡ b
same_record a b e = ap (λ o. unwrap_or o a) e

pub no_record : (r : Record) → None ≡ Some r → ⊥
no_record r e = true≢false (sym (ap is_some e))

pub record_of-with_record : (s : PosixState) (p : ℕ) (r : Record) (q : ℕ) →
    record_of (with_record s p r) q ≡ cond (nat_eq q p) (Some (settled r)) (record_of s q)
record_of-with_record s p r q =
    map.get-insert nat_cmp_total s.records p (settled r) q
    ∙ ap (λ b. cond b (Some (settled r)) (record_of s q)) (unsigned_tied q p)

pub record_of-without_record : (s : PosixState) (p q : ℕ) →
    record_of (without_record s p) q ≡ cond (nat_eq q p) None (record_of s q)
record_of-without_record s p q =
    map.get-remove nat_cmp_total s.records p q ∙ ap (λ b. cond b None (record_of s q)) (unsigned_tied q p)

-- ---- what holds of each process after a change

module _ (P : ℕ → Record → Type 0) where
  at_one_of : (p q : ℕ) (new r : Record) (rest : Option Record) (b : Bool) → nat_eq q p ≡ b →
      cond b (Some new) rest ≡ Some r → P p new → (q ≢ p → rest ≡ Some r → P q r) → P q r
  at_one_of p q new r rest true same e here there =
      subst (λ n. P n r) (sym (eqb-true q p same)) (subst (P p) (same_record new r e) here)
  at_one_of p q new r rest false apart e here there = there (false-eqb q p (sym apart)) e

  pub each_with_record : (s : PosixState) (p : ℕ) (new : Record) → P p (settled new) →
      ((q : ℕ) (r : Record) → q ≢ p → record_of s q ≡ Some r → P q r) →
      (q : ℕ) (r : Record) → record_of (with_record s p new) q ≡ Some r → P q r
  each_with_record s p new here there q r e =
      at_one_of p q (settled new) r (record_of s q) (nat_eq q p) refl (sym (record_of-with_record s p new q) ∙ e) here
      (there q r)

  each_without : (p q : ℕ) (r : Record) (rest : Option Record) (b : Bool) → nat_eq q p ≡ b →
      cond b None rest ≡ Some r → (q ≢ p → rest ≡ Some r → P q r) → P q r
  each_without p q r rest true same e there = absurd (no_record r e)
  each_without p q r rest false apart e there = there (false-eqb q p (sym apart)) e

  pub each_without_record : (s : PosixState) (p : ℕ) →
      ((q : ℕ) (r : Record) → q ≢ p → record_of s q ≡ Some r → P q r) →
      (q : ℕ) (r : Record) → record_of (without_record s p) q ≡ Some r → P q r
  each_without_record s p there q r e =
      each_without p q r (record_of s q) (nat_eq q p) refl (sym (record_of-without_record s p q) ∙ e) (there q r)

pub record_of-change_record : (s : PosixState) (p : ℕ) (change : Record → Record) (old : Record) → record_of s
    p ≡ Some old →
    change_record s p change ≡ with_record s p (change old)
record_of-change_record s p change old is = ap (changed_at s p change) is
