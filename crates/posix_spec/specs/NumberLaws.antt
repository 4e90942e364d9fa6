-- The numbers of the processes that pass a test.
use Rattle.std.specs.Prelude.{◌≡◌, ℕ, suc, cond, Bool, true, false, ◌&&◌, ◌||◌, not, nat_eq, nat_lt, List, [], ◌∷◌}
use Rattle.std.specs.Prelude.{length, Some}
use Rattle.std.specs.List.{list_any, list_all}
use Rattle.std.specs.FinSet as set
use Rattle.std.specs.FinMap as map
use Rattle.std.proofs.Common.{refl, sym, ap, ◌∙◌, arith, true≢false, eqb-true, eq-eqb, ne_eqb, lt-ltb}
use Rattle.posix_spec.specs.State.{GroupCall, Record, PosixState, record_of}
use Rattle.posix_spec.specs.Records.{numbers_where, numbers_of, some_record}
use Rattle.posix_spec.specs.GroupCalls.{is_complete}
use Rattle.posix_spec.specs.TestLaws.{every_record-is, every_record-from}

module _ (test : ℕ → Record → Bool) where
  -- a test on each of the numbers
  all_where : (f : ℕ → Bool) (es : List (ℕ × Record)) → list_all f (numbers_where test es) ≡ list_all
      (λ e. not (test e.0 e.1) || f e.0) es
  all_where f [] = refl
  all_where f (e ∷ es) = elim (test e.0 e.1)
      as (λ b. list_all f (cond b (e.0 ∷ numbers_where test es)
      (numbers_where test es)) ≡ ((not b || f e.0) && list_all (λ e. not (test e.0 e.1) || f e.0) es)) [
        | true ↦ ap (λ x. f e.0 && x) (all_where f es)
        | false ↦ all_where f es
      ]

  some_where : (es : List (ℕ × Record)) → nat_eq (length (numbers_where test es)) 0 ≡ not
      (list_any (λ e. test e.0 e.1) es)
  some_where [] = refl
  some_where (e ∷ es) = elim (test e.0 e.1)
      as (λ b. nat_eq (length (cond b (e.0 ∷ numbers_where test es) (numbers_where test es))) 0 ≡ not
      (b || list_any (λ e. test e.0 e.1) es)) [
        | true ↦ ne_eqb (suc (length (numbers_where test es))) 0 (λ e. absurd (omega arith))
        | false ↦ some_where es
      ]

  some_where_lt : (es : List (ℕ × Record)) → nat_lt 0 (length (numbers_where test es)) ≡ list_any (λ e. test e.0 e.1) es
  some_where_lt [] = refl
  some_where_lt (e ∷ es) = elim (test e.0 e.1)
      as (λ b. nat_lt 0 (length (cond b (e.0 ∷ numbers_where test es) (numbers_where test es))) ≡ (b || list_any
      (λ e. test e.0 e.1) es)) [
        | true ↦ lt-ltb 0 (suc (length (numbers_where test es))) (omega arith)
        | false ↦ some_where_lt es
      ]

passed : (b c : Bool) → (not b || c) ≡ true → b ≡ true → c ≡ true
passed true c e h = e
passed false c e h = absurd (true≢false (sym h))

implied : (b c : Bool) → (b ≡ true → c ≡ true) → (not b || c) ≡ true
implied true c h = h refl
implied false c h = refl

module _ (s : PosixState) (test : ℕ → Record → Bool) where
  -- whether a test holds at each of the numbers
  pub numbers_of-each : (f : ℕ → Bool) → list_all f (numbers_of s test) ≡ true →
      (q : ℕ) (r : Record) → record_of s q ≡ Some r → test q r ≡ true → f q ≡ true
  numbers_of-each f all q r is p =
      passed (test q r) (f q)
      (every_record-is s (λ q r. not (test q r) || f q) (sym (all_where test f (map.entries s.records)) ∙ all) q r is) p

  pub each-numbers_of : (f : ℕ → Bool) → ((q : ℕ) (r : Record) → record_of s q ≡ Some r → test q r ≡ true → f
      q ≡ true) →
      list_all f (numbers_of s test) ≡ true
  each-numbers_of f each =
      all_where test f (map.entries s.records)
      ∙ every_record-from s (λ q r. not (test q r) || f q) (λ q r is. implied (test q r) (f q) (each q r is))

  -- whether there is one
  pub numbers_of-none : nat_eq (length (numbers_of s test)) 0 ≡ not (some_record s test)
  numbers_of-none = some_where test (map.entries s.records)

  pub numbers_of-some : nat_lt 0 (length (numbers_of s test)) ≡ some_record s test
  numbers_of-some = some_where_lt test (map.entries s.records)

-- a call for a group is complete exactly where each member now had its step
pub is_complete-is : (s : PosixState) (call : GroupCall) → is_complete s call ≡ true →
    (q : ℕ) (r : Record) → record_of s q ≡ Some r → r.group ≡ call.group → set.contains call.members q ≡ true
is_complete-is s call all q r is same =
    numbers_of-each s (λ q r. nat_eq r.group call.group) (set.contains call.members) all q r is
    (eq-eqb r.group call.group same)

pub is_complete-from : (s : PosixState) (call : GroupCall) →
    ((q : ℕ) (r : Record) → record_of s q ≡ Some r → r.group ≡ call.group → set.contains call.members q ≡ true) →
    is_complete s call ≡ true
is_complete-from s call each =
    each-numbers_of s (λ q r. nat_eq r.group call.group) (set.contains call.members)
    (λ q r is same. each q r is (eqb-true r.group call.group same))
