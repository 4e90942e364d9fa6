-- Lists of numbered entries in the order of their numbers: what is found, and which entries pass a test.
use Rattle.std.specs.Prelude.{◌≡◌, ◌≢◌, ℕ, ◌<◌, Bool, true, false, cond, ◌&&◌, ◌||◌, List, [], ◌∷◌, Some, T}
use Rattle.std.specs.List.{list_any, list_all}
use Rattle.std.specs.Ordering.{nat_cmp, eq_by_cmp, is_lt, is_eq}
use Rattle.std.specs.declared.cmp.Ordering.{Ordering}
use Rattle.std.specs.declared.cmp.Ordering.TheVariants.{Less, Equal, Greater}
use Rattle.std.specs.FinMap.Entries.{find, is_sorted, below_all}
use Rattle.std.specs.Cmp.{ranked}
use Rattle.std.proofs.Common.{refl, sym, ap, subst, ◌∙◌, arith, true≢false}
use Rattle.posix_spec.specs.State.{Record}
use Rattle.posix_spec.specs.RecordLaws.{same_record, no_record}

-- ---- the order of numbers

less_by : (x y : ℕ) (r : Ordering) → r ≡ nat_cmp x y → T (is_lt r) → x < y
less_by x y Less e h = ranked x y Less e
less_by x y Equal e h = absurd h
less_by x y Greater e h = absurd h

less : (x y : ℕ) → T (is_lt (nat_cmp x y)) → x < y
less x y h = less_by x y (nat_cmp x y) refl h

not_tied_by : (x y : ℕ) (r : Ordering) → r ≡ nat_cmp x y → (x ≢ y) → is_eq r ≡ false
not_tied_by x y Less e apart = refl
not_tied_by x y Equal e apart = absurd (apart (ranked x y Equal e))
not_tied_by x y Greater e apart = refl

pub not_tied : (x y : ℕ) → x ≢ y → eq_by_cmp nat_cmp x y ≡ false
not_tied x y apart = not_tied_by x y (nat_cmp x y) refl apart

same_by : (x y : ℕ) (r : Ordering) → r ≡ nat_cmp x y → is_eq r ≡ true → x ≡ y
same_by x y Less e h = absurd (true≢false (sym h))
same_by x y Equal e h = ranked x y Equal e
same_by x y Greater e h = absurd (true≢false (sym h))

pub same_number : (x y : ℕ) → eq_by_cmp nat_cmp x y ≡ true → x ≡ y
same_number x y h = same_by x y (nat_cmp x y) refl h

tied_by : (x : ℕ) (r : Ordering) → r ≡ nat_cmp x x → is_eq r ≡ true
tied_by x Less e = let l : x < x = ranked x x Less e in absurd (omega arith)
tied_by x Equal e = refl
tied_by x Greater e = let l : x < x = ranked x x Greater e in absurd (omega arith)

pub tied : (x : ℕ) → eq_by_cmp nat_cmp x x ≡ true
tied x = tied_by x (nat_cmp x x) refl

pub both_first : (a b : Bool) → T (a && b) → T a
both_first true b h = tt
both_first false b h = h

pub both_second : (a b : Bool) → T (a && b) → T b
both_second true b h = h
both_second false b h = absurd h

first_of : (a b : Bool) → (a && b) ≡ true → a ≡ true
first_of true b e = refl
first_of false b e = e

second_of : (a b : Bool) → (a && b) ≡ true → b ≡ true
second_of true b e = e
second_of false b e = absurd (true≢false (sym e))

both : (a b : Bool) → a ≡ true → b ≡ true → (a && b) ≡ true
both true b p q = q
both false b p q = p

-- ---- what is found

module _ (q : ℕ) where
  pub found_above : (x : ℕ) (r : Record) (es : List (ℕ × Record)) → T (below_all nat_cmp x es) → find nat_cmp q
      es ≡ Some r → x < q
  found_above x r [] below e = absurd (no_record r e)
  found_above x r (e ∷ es) below is =
      elim (eq_by_cmp nat_cmp q e.0) as (λ b. eq_by_cmp nat_cmp q e.0 ≡ b → cond b (Some e.1)
      (find nat_cmp q es) ≡ Some r → x < q) [
        | true ↦ λ t _. subst (λ n. x < n) (sym (same_number q e.0 t)) (less x e.0 (both_first _ _ below))
        | false ↦ λ _ later. found_above x r es (both_second _ _ below) later
      ] refl is

-- an entry that passes the test
pub record Passes (test : ℕ → Record → Bool) (es : List (ℕ × Record)) : Type 0 where
  pub number : ℕ
  pub process : Record
  pub is : find nat_cmp number es ≡ Some process
  pub passes : test number process ≡ true

module _ (test : ℕ → Record → Bool) where
  later : (e : ℕ × Record) (es : List (ℕ × Record)) → T (below_all nat_cmp e.0 es) → Passes test es → Passes test
      (e ∷ es)
  later e es below found =
      let apart : found.number ≢ e.0 = λ same. let l = found_above found.number e.0 found.process es below found.is in
      absurd (omega arith) in
      record {
        number = found.number;
        process = found.process;
        is = ap (λ b. cond b (Some e.1) (find nat_cmp found.number es)) (not_tied found.number e.0 apart) ∙ found.is;
        passes = found.passes;
      }

  -- where a test passes on some entry, it passes on one that is found
  pub passing : (es : List (ℕ × Record)) → T (is_sorted nat_cmp es) → list_any (λ e. test e.0 e.1) es ≡ true → Passes
      test es
  passing [] sorted one = absurd (true≢false (sym one))
  passing (e ∷ es) sorted one =
      elim (test e.0 e.1) as (λ b. test e.0 e.1 ≡ b → (b || list_any (λ e. test e.0 e.1) es) ≡ true → Passes test
      (e ∷ es)) [
        | true ↦ λ p _. record {
          number = e.0;
          process = e.1;
          is = ap (λ b. cond b (Some e.1) (find nat_cmp e.0 es)) (tied e.0);
          passes = p;
        }
        | false ↦ λ _ rest. later e es (both_first _ _ sorted) (passing es (both_second _ _ sorted) rest)
      ] refl one

  any_of : (b : Bool) → (b || true) ≡ true
  any_of true = refl
  any_of false = refl

  -- and where it passes on what is found, it passes on some entry
  pub passing_found : (q : ℕ) (r : Record) (es : List (ℕ × Record)) → find nat_cmp q es ≡ Some r → test q r ≡ true →
      list_any (λ e. test e.0 e.1) es ≡ true
  passing_found q r [] is p = absurd (no_record r is)
  passing_found q r (e ∷ es) is p =
      elim (eq_by_cmp nat_cmp q e.0) as (λ b. eq_by_cmp nat_cmp q e.0 ≡ b → cond b (Some e.1)
      (find nat_cmp q es) ≡ Some r → (test e.0 e.1 || list_any (λ e. test e.0 e.1) es) ≡ true) [
        | true ↦ λ t here. ap (λ b. b || list_any (λ e. test e.0 e.1) es)
            (ap (λ n. test n e.1) (sym (same_number q e.0 t)) ∙ ap (test q) (same_record e.1 r here) ∙ p)
        | false ↦ λ _ there. ap (λ b. test e.0 e.1 || b) (passing_found q r es there p) ∙ any_of (test e.0 e.1)
      ] refl is

  -- a test on each entry is one on each that is found
  pub each_found : (q : ℕ) (r : Record) (es : List (ℕ × Record)) → list_all (λ e. test e.0 e.1) es ≡ true →
      find nat_cmp q es ≡ Some r → test q r ≡ true
  each_found q r [] all is = absurd (no_record r is)
  each_found q r (e ∷ es) all is =
      elim (eq_by_cmp nat_cmp q e.0) as (λ b. eq_by_cmp nat_cmp q e.0 ≡ b → cond b (Some e.1)
      (find nat_cmp q es) ≡ Some r → test q r ≡ true) [
        | true ↦ λ t here. ap (test q) (sym (same_record e.1 r here)) ∙ ap (λ n. test n e.1) (same_number q e.0 t)
            ∙ first_of (test e.0 e.1) (list_all (λ e. test e.0 e.1) es) all
        | false ↦ λ _ there. each_found q r es (second_of (test e.0 e.1) (list_all (λ e. test e.0 e.1) es) all) there
      ] refl is

  pub each_of_found : (es : List (ℕ × Record)) → T (is_sorted nat_cmp es) →
      ((q : ℕ) (r : Record) → find nat_cmp q es ≡ Some r → test q r ≡ true) → list_all (λ e. test e.0 e.1) es ≡ true
  each_of_found [] sorted each = refl
  each_of_found (e ∷ es) sorted each =
      both (test e.0 e.1) (list_all (λ e. test e.0 e.1) es)
      (each e.0 e.1 (ap (λ b. cond b (Some e.1) (find nat_cmp e.0 es)) (tied e.0)))
      (each_of_found es (both_second _ _ sorted) (λ q r is.
      let apart : q ≢ e.0 = λ same. let l = found_above q e.0 r es (both_first _ _ sorted) is in absurd (omega arith) in
      each q r (ap (λ b. cond b (Some e.1) (find nat_cmp q es)) (not_tied q e.0 apart) ∙ is)))
