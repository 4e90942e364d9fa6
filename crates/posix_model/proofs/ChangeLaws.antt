-- Changes of one process.
use Rattle.std.proofs.Common.{◌≡◌, ℕ, Option, Some, None, true, false, cond, eqb-true, refl, sym, ◌∙◌, ap, subst}
use Rattle.std.specs.Ordering.{nat_cmp, eq_by_cmp}
use Rattle.std.specs.Cmp.{nat_cmp_total, unsigned_tied}
use Rattle.std.proofs.lemmas.Option.{same_Some}
use Rattle.std.specs.FinMap as map
use Rattle.posix_spec.specs.State.{Record, Records, PosixState, record_of}
use Rattle.posix_spec.specs.Records.{settled, with_record, changed_at, change_record}
use Rattle.posix_model.proofs.NumberedLaws.{insert-remove}

module _ (s : PosixState) (p : ℕ) (f : Record → Record) where
  -- a process that is taken out, changed, and put in again
  pub changed_by : (r x : Record) (rest new : Records) → record_of s p ≡ Some r → rest ≡ map.remove s.records p → x ≡
      f r →
      new ≡ map.insert rest p (settled x) → (record s { records = new }) ≡ change_record s p f
  changed_by r x rest new there without is put =
      ap (λ (m : Records). record s { records = m }) (put
      ∙ ap (λ (m : Records). map.insert m p (settled x)) without
      ∙ insert-remove s.records p (settled x)
      ∙ ap (λ (y : Record). map.insert s.records p (settled y)) is)
      ∙ ap (changed_at s p f) (sym there)

  -- no process, so nothing changes
  pub unchanged_by : record_of s p ≡ None → s ≡ change_record s p f
  unchanged_by none = ap (changed_at s p f) (sym none)

  kept_by : {X : Type 0} (g : Record → X) → ((r : Record) → g (settled (f r)) ≡ g r) → (q : ℕ) (x : Record) (o :
      Option Record) → record_of s p ≡ o →
      record_of (changed_at s p f o) q ≡ Some x → (r : Record) × (record_of s q ≡ Some r) × (g x ≡ g r)
  kept_by g keeps q x None there e = (x, e, refl)
  kept_by g keeps q x (Some r) there e =
      let new : Record = settled (f r) in
      let found : cond (eq_by_cmp nat_cmp q p) (Some new) (record_of s q) ≡ Some x = sym (map.get-insert
      nat_cmp_total s.records p new q) ∙ e in
      elim (eq_by_cmp nat_cmp q p) as (λ b. eq_by_cmp nat_cmp q p ≡ b → cond b (Some new) (record_of s q) ≡ Some x →
      (y : Record) × (record_of s q ≡ Some y) × (g x ≡ g y)) [
        | true ↦ λ is put. (
          r,
          ap (record_of s) (eqb-true q p (sym (unsigned_tied q p) ∙ is)) ∙ there,
          ap g (sym
              (same_Some new x put)) ∙ keeps r,
        )
        | false ↦ λ is here. (x, here, refl)
      ] refl found

  -- what the change keeps of each process
  pub kept_at : {X : Type 0} (g : Record → X) → ((r : Record) → g (settled (f r)) ≡ g r) → (q : ℕ) (x : Record) →
      record_of (change_record s p f) q ≡ Some x → (r : Record) × (record_of s q ≡ Some r) × (g x ≡ g r)
  kept_at g keeps q x e = kept_by g keeps q x (record_of s p) refl e

-- what holds of a process after each change of it, and of all before
module _ (s : PosixState) (p : ℕ) (f : Record → Record) (P : Record → Type 0) (after : (r : Record) → P (settled (f r)))
  where
    held_by : (q : ℕ) (x : Record) (o : Option Record) → ((r : Record) → record_of s q ≡ Some r → P r) →
        record_of (changed_at s p f o) q ≡ Some x → P x
    held_by q x None before e = before x e
    held_by q x (Some r) before e =
        let new : Record = settled (f r) in
        let found : cond (eq_by_cmp nat_cmp q p) (Some new) (record_of s q) ≡ Some x = sym (map.get-insert
        nat_cmp_total s.records p new q) ∙ e in
        elim (eq_by_cmp nat_cmp q p) as (λ b. cond b (Some new) (record_of s q) ≡ Some x → P x) [
          | true ↦ λ put. subst P (same_Some new x put) (after r)
          | false ↦ λ here. before x here
        ] found

    pub held_at : (q : ℕ) → ((r : Record) → record_of s q ≡ Some r → P r) → (x : Record) →
        record_of (change_record s p f) q ≡ Some x → P x
    held_at q before x e = held_by q x (record_of s p) before e

module _ (s : PosixState) (p : ℕ) (f g : Record → Record) (same : (r : Record) → record_of s p ≡ Some r → f r ≡ g r)
  where
    same_by : (o : Option Record) → record_of s p ≡ o → changed_at s p f o ≡ changed_at s p g o
    same_by None there = refl
    same_by (Some r) there = ap (with_record s p) (same r there)

    -- changes that leave the process the same
    pub same_change : change_record s p f ≡ change_record s p g
    same_change = same_by (record_of s p) refl
