-- Tests on the processes of a state, and how many children a process has after a change.
use Rattle.std.specs.Prelude.{◌≡◌, ℕ, ◌+◌, ◌≤◌, Bool, true, false, cond, not, nat_eq, length, Option, Some, None}
use Rattle.std.specs.Ordering.{nat_cmp}
use Rattle.std.specs.declared.cmp.Ordering.TheVariants.{Equal}
use Rattle.std.specs.Cmp.{nat_cmp_total, ranked}
use Rattle.std.specs.FinMap as map
use Rattle.std.specs.FinMap.Entries.{find, put, where_key, same_entries, find-where_key, is_sorted-where_key}
use Rattle.std.proofs.Common.{refl, sym, ap, ◌∙◌, arith}
use Rattle.posix_spec.specs.State.{Record, PosixState, record_of}
use Rattle.posix_spec.specs.Records.{settled, with_record, without_record, some_record, every_record, numbers_where}
use Rattle.posix_spec.specs.Records.{children}
use Rattle.posix_spec.specs.RecordLaws.{record_of-without_record}
use Rattle.posix_spec.specs.EntryLaws.{Passes, passing, passing_found, each_found, each_of_found}
use Rattle.posix_spec.specs.CountLaws.{one_if, counted_put, counted_over, counted_where_key}

found_is : (s : PosixState) (q : ℕ) → find nat_cmp q (map.entries s.records) ≡ record_of s q
found_is s q = sym (map.get-entries s.records q)

-- a process that passes a test
pub record HasRecord (s : PosixState) (test : ℕ → Record → Bool) : Type 0 where
  pub number : ℕ
  pub process : Record
  pub is : record_of s number ≡ Some process
  pub passes : test number process ≡ true

module _ (s : PosixState) (test : ℕ → Record → Bool) where
  has_record_of : Passes test (map.entries s.records) → HasRecord s test
  has_record_of found = record {
    number = found.number;
    process = found.process;
    is = sym (found_is s found.number) ∙ found.is;
    passes = found.passes;
  }

  pub some_record-is : some_record s test ≡ true → HasRecord s test
  some_record-is one = has_record_of (passing test (map.entries s.records) (map.entries_sorted s.records) one)

  pub some_record-from : (q : ℕ) (r : Record) → record_of s q ≡ Some r → test q r ≡ true → some_record s test ≡ true
  some_record-from q r is p = passing_found test q r (map.entries s.records) (found_is s q ∙ is) p

  pub every_record-is : every_record s test ≡ true → (q : ℕ) (r : Record) → record_of s q ≡ Some r → test q r ≡ true
  every_record-is all q r is = each_found test q r (map.entries s.records) all (found_is s q ∙ is)

  pub every_record-from : ((q : ℕ) (r : Record) → record_of s q ≡ Some r → test q r ≡ true) → every_record s test ≡ true
  every_record-from each =
      each_of_found test (map.entries s.records) (map.entries_sorted s.records)
      (λ q r is. each q r (sym (found_is s q) ∙ is))

-- ---- children

is_child_of : ℕ → ℕ → Record → Bool
is_child_of p c r = nat_eq r.parent p

entries_with : (s : PosixState) (p : ℕ) (r : Record) →
    map.entries (with_record s p r).records ≡ put nat_cmp p (settled r) (map.entries s.records)
entries_with s p r = map.entries-insert nat_cmp_total s.records p (settled r)

-- a process that is changed, but for its parent
pub children-with_record : (s : PosixState) (p : ℕ) (old new : Record) → record_of s p ≡ Some old →
    new.parent ≡ old.parent →
    (q : ℕ) → length (children (with_record s p new) q) ≡ length (children s q)
unfolding is_child_of
children-with_record s p old new is same q =
    ap (λ es. length (numbers_where (is_child_of q) es)) (entries_with s p new)
    ∙ counted_over (is_child_of q) p old (settled new) (map.entries s.records) (map.entries_sorted s.records)
    (found_is s p ∙ is) (λ n. ap (λ x. nat_eq x q) same)

-- a process that is new
pub children-with_new : (s : PosixState) (p : ℕ) (new : Record) (q : ℕ) →
    length (children (with_record s p new) q) ≤ one_if (nat_eq new.parent q) + length (children s q)
unfolding is_child_of
children-with_new s p new q =
    omega (
      arith,
      ap (λ es. length (numbers_where (is_child_of q) es)) (entries_with s p new),
      counted_put (is_child_of q) p (settled new) (map.entries s.records),
    )

-- a process that goes
not_this : ℕ → ℕ → Bool
not_this p x = not (nat_eq x p)

taken_or : (b : Bool) (x : Option Record) → cond b None x ≡ cond (not b) x None
taken_or true x = refl
taken_or false x = refl

entries_without : (s : PosixState) (p : ℕ) →
    map.entries (without_record s p).records ≡ where_key nat_cmp (not_this p) (map.entries s.records)
unfolding not_this
entries_without s p =
    same_entries nat_cmp nat_cmp_total map.nat_cmp-IsAntisymmetric
    (map.entries (without_record s p).records) (where_key nat_cmp (not_this p) (map.entries s.records))
    (map.entries_sorted (without_record s p).records)
    (is_sorted-where_key nat_cmp (not_this p) (map.entries s.records) (map.entries_sorted s.records))
    (λ q. found_is (without_record s p) q ∙ record_of-without_record s p q
    ∙ taken_or (nat_eq q p) (record_of s q)
    ∙ ap (λ o. cond (not_this p q) o None) (sym (found_is s q))
    ∙ sym (find-where_key nat_cmp (not_this p) q (λ x t. ap (not_this p) (sym (ranked q x Equal (sym t))))
    (map.entries s.records)))

pub children-without_record : (s : PosixState) (p q : ℕ) → length (children (without_record s p) q) ≤ length
    (children s q)
unfolding is_child_of
children-without_record s p q =
    omega (
      arith,
      ap (λ es. length (numbers_where (is_child_of q) es)) (entries_without s p),
      counted_where_key (is_child_of q) (not_this p) (map.entries s.records),
    )
