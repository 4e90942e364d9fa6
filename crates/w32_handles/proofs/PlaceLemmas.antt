-- What a change of a place is to the list of the handles.
use Rattle.std.proofs.Common.{cond, count_by, ◌≡◌, ◌≢◌, ℕ, zero, suc, ◌+◌}
use Rattle.std.proofs.Common.{◌-◌, ◌≤◌, ◌<◌, Bool, true, false, nat_eq, nat_lt, List, [], ◌∷◌, ◌++◌}
use Rattle.std.proofs.Common.{length, get_or, set, replicate, Option, Some, None, IsSome, refl, sym, ap}
use Rattle.std.proofs.Common.{add-zero, arith, true≢false, if◌then◌else◌}
use Rattle.std.specs.Option.{option_eq}
use Rattle.std.proofs.lemmas.Bool.Decides.{nat_tests}
use Rattle.std.proofs.lemmas.List.Sums.{sum_by-cons}
use Rattle.win32_spec.specs.Handles.{Handle, handle_of, with_handle, without_handle, is_listed, listed_handles}
use Rattle.win32_spec.specs.Handles.{holders_of, AreRisingFrom}
use Rattle.win32_spec.specs.LookupLaws.{same, differs, before, not_before}
use Rattle.win32_spec.specs.HandleLaws.{rising-lower_handles}
use Rattle.w32_handles.specs.Places.{handles_from}

-- no handle has a number below the first
pub handle_of-below : (n m : ℕ) (ps : List (Option ℕ)) → m < n → handle_of (handles_from n ps) m ≡ None
handle_of-below n m [] l = refl
handle_of-below n m (None ∷ ps) l = handle_of-below (n + 1) m ps (omega arith)
handle_of-below n m (Some o ∷ ps) l = let e : nat_eq n m ≡ false =
    grind (arith, nat_tests) in rw e (handle_of-below (n + 1) m ps (omega arith))

-- a handle names what its place has
pub handle_of-from : (n k m : ℕ) (ps : List (Option ℕ)) → m ≡ n + k → handle_of (handles_from n ps) m ≡ get_or ps k None
handle_of-from n k m [] e = refl
handle_of-from n zero m (None ∷ ps) e = handle_of-below (n + 1) m ps (omega arith)
handle_of-from n (suc k) m (None ∷ ps) e = handle_of-from (n + 1) k m ps (omega arith)
handle_of-from n zero m (Some o ∷ ps) e = let t = same n m (omega arith) in rw t
handle_of-from n (suc k) m (Some o ∷ ps) e = let t =
    differs n m (omega arith) in rw t (handle_of-from (n + 1) k m ps (omega arith))

with_handle-below : (n m o : ℕ) (ps : List (Option ℕ)) → m < n
    → with_handle (handles_from n ps) m o ≡ record { number = m; names = o } ∷ handles_from n ps
with_handle-below n m o [] l = refl
with_handle-below n m o (None ∷ ps) l = with_handle-below (n + 1) m o ps (omega arith)
with_handle-below n m o (Some q ∷ ps) l = let t = before m n l in rw t

-- a place that is filled is one handle more
pub with_handle-from : (n k m o : ℕ) (ps : List (Option ℕ)) → m ≡ n + k → k < length ps → get_or ps k None ≡ None
    → handles_from n (set ps k (Some o)) ≡ with_handle (handles_from n ps) m o
with_handle-from n k m o [] e l f = absurd (omega arith)
with_handle-from n zero m o (None ∷ ps) e l f = let same : m ≡ n =
    omega arith in rw same (sym (with_handle-below (n + 1) n o ps (omega arith)))
with_handle-from n zero m o (Some q ∷ ps) e l f = absurd (cc)
with_handle-from n (suc k) m o (None ∷ ps) e l f = with_handle-from (n + 1) k m o ps (omega arith) (omega arith) f
with_handle-from n (suc k) m o (Some q ∷ ps) e l f =
    let t = not_before m n (omega arith) in
    rw (t, with_handle-from (n + 1) k m o ps (omega arith) (omega arith) f)

without_handle-below : (n m : ℕ) (ps : List (Option ℕ)) → m < n
    → without_handle (handles_from n ps) m ≡ handles_from n ps
without_handle-below n m [] l = refl
without_handle-below n m (None ∷ ps) l = without_handle-below (n + 1) m ps (omega arith)
without_handle-below n m (Some q ∷ ps) l = let t : nat_eq n m ≡ false =
    grind (arith, nat_tests) in rw (t, without_handle-below (n + 1) m ps (omega arith))

-- a place that is emptied is the handle gone
pub without_handle-from : (n k m : ℕ) (ps : List (Option ℕ)) → m ≡ n + k
    → handles_from n (set ps k None) ≡ without_handle (handles_from n ps) m
without_handle-from n k m [] e = refl
without_handle-from n zero m (None ∷ ps) e = sym (without_handle-below (n + 1) m ps (omega arith))
without_handle-from n zero m (Some q ∷ ps) e = let t =
    same n m (omega arith) in rw t (sym (without_handle-below (n + 1) m ps (omega arith)))
without_handle-from n (suc k) m (None ∷ ps) e = without_handle-from (n + 1) k m ps (omega arith)
without_handle-from n (suc k) m (Some q ∷ ps) e =
    let t = differs n m (omega arith) in
    rw (t, without_handle-from (n + 1) k m ps (omega arith))

-- there are no more handles than places
pub length-from_le : (n : ℕ) (ps : List (Option ℕ)) → length (handles_from n ps) ≤ length ps
length-from_le n [] = omega arith
length-from_le n (None ∷ ps) = omega (arith, length-from_le (n + 1) ps)
length-from_le n (Some o ∷ ps) = omega (arith, length-from_le (n + 1) ps)

-- as many where each place has something
pub length-from_full : (n : ℕ) (ps : List (Option ℕ))
    → ((k : ℕ) (d : Option ℕ) → k < length ps → IsSome (get_or ps k d)) → length (handles_from n ps) ≡ length ps
length-from_full n [] all = refl
length-from_full n (None ∷ ps) all = absurd (true≢false (sym (all 0 None (omega arith))))
length-from_full n (Some o ∷ ps) all = ap suc (length-from_full (n + 1) ps (λ k d l. all (suc k) d (omega arith)))

-- and fewer where one has nothing
pub length-from_free : (n k : ℕ) (ps : List (Option ℕ)) → k < length ps → get_or ps k None ≡ None
    → length (handles_from n ps) < length ps
length-from_free n k [] l f = absurd (omega arith)
length-from_free n k (None ∷ ps) l f = omega (arith, length-from_le (n + 1) ps)
length-from_free n zero (Some o ∷ ps) l f = absurd (cc)
length-from_free n (suc k) (Some o ∷ ps) l f = omega (arith, length-from_free (n + 1) k ps (omega arith) f)

-- the numbers rise
pub AreRisingFrom-from : (n : ℕ) (ps : List (Option ℕ)) → n + length ps ≤ 65 → AreRisingFrom n (handles_from n ps)
AreRisingFrom-from n [] l = tt
AreRisingFrom-from n (None ∷ ps) l =
    rising-lower_handles (n + 1) n _ (omega arith) (AreRisingFrom-from (n + 1) ps (omega arith))
AreRisingFrom-from n (Some o ∷ ps) l = (omega arith, omega arith, AreRisingFrom-from (n + 1) ps (omega arith))

-- no place has anything
pub handles_from-none : (n count : ℕ) → handles_from n (replicate count None) ≡ []
handles_from-none n zero = refl
handles_from-none n (suc count) = handles_from-none (n + 1) count

-- the places that are kept where their numbers are listed are the handles that are listed
pub listed_handles-from : (n : ℕ) (ps qs : List (Option ℕ)) (ns : List ℕ) → length qs ≡ length ps
    → ((k : ℕ) → k < length ps → get_or qs k None ≡ (if is_listed ns (n + k) then get_or ps k None else None))
    → handles_from n qs ≡ listed_handles (handles_from n ps) ns
listed_handles-from n [] [] ns e same = refl
listed_handles-from n [] (q ∷ qs) ns e same = absurd (omega arith)
listed_handles-from n (p ∷ ps) [] ns e same = absurd (omega arith)
listed_handles-from n (p ∷ ps) (q ∷ qs) ns e same =
    by_listed (is_listed ns n) p q refl (first (same 0 (omega arith)))
    (listed_handles-from (n + 1) ps qs ns (omega arith) (λ k l. let shift : n + suc k ≡ n + 1 + k =
    omega arith in rw (← shift) (same (suc k) (omega arith))))
  where
    first : q ≡ (if is_listed ns (n + 0) then p else None) → q ≡ (if is_listed ns n then p else None)
    first h = rw add-zero at h

    by_listed : (b : Bool) (p q : Option ℕ) → is_listed ns n ≡ b → q ≡ (if is_listed ns n then p else None)
        → handles_from (n + 1) qs ≡ listed_handles (handles_from (n + 1) ps) ns
        → handles_from n (q ∷ qs) ≡ listed_handles (handles_from n (p ∷ ps)) ns
    by_listed true None q is at rest = rw (at, is) rest
    by_listed true (Some o) q is at rest = rw (at, is) (ap (λ hs. record { number = n; names = o } ∷ hs) rest)
    by_listed false None q is at rest = rw (at, is) rest
    by_listed false (Some o) q is at rest = rw (at, is) rest

-- whether a place names this object
pub names_it : ℕ → Option ℕ → Bool
names_it o None = false
names_it o (Some q) = nat_eq q o

-- the holders of an object are the places that name it
pub holders_of-from : (n o : ℕ) (ps : List (Option ℕ)) → holders_of (handles_from n ps) o ≡ count_by (names_it o) ps
unfolding names_it
holders_of-from n o [] = refl
holders_of-from n o (None ∷ ps) =
    omega (arith, holders_of-from (n + 1) o ps, sum_by-cons (λ p. cond (names_it o p) 1 0) None ps)
holders_of-from n o (Some q ∷ ps) =
    omega (arith, holders_of-from (n + 1) o ps, sum_by-cons (λ p. cond (names_it o p) 1 0) (Some q) ps)

pub names_it-true : (o : ℕ) (p : Option ℕ) → p ≡ Some o → names_it o p ≡ true
unfolding names_it
names_it-true o p e = rw e (same o o refl)

pub names_it-false : (o : ℕ) (p : Option ℕ) → (p ≡ Some o → ⊥) → names_it o p ≡ false
unfolding names_it
names_it-false o None e = refl
names_it-false o (Some q) e = let d : q ≢ o = λ same. e (ap (λ x. Some x) same) in grind (arith, nat_tests)

-- the program's comparison of a place with an object
pub names_it-eq : (o : ℕ) (p : Option ℕ) → option_eq nat_eq p (Some o) ≡ names_it o p
unfolding names_it
names_it-eq o None = refl
names_it-eq o (Some q) = refl

-- a list of numbers with one more
pub is_listed-push : (ns : List ℕ) (n h : ℕ)
    → is_listed (ns ++ n ∷ []) h ≡ (if nat_eq n h then true else is_listed ns h)
is_listed-push [] n h = by_test (nat_eq n h)
  where
    by_test : (b : Bool) → (if b then true else (if false then true else false)) ≡ (if b then true else false)
    by_test true = refl
    by_test false = refl
is_listed-push (m ∷ ns) n h = by_tests (nat_eq m h) (is_listed-push ns n h)
  where
    by_tests : (b : Bool) → is_listed (ns ++ n ∷ []) h ≡ (if nat_eq n h then true else is_listed ns h)
        → (if b then true else is_listed (ns ++ n ∷ []) h) ≡
        (if nat_eq n h then true else (if b then true else is_listed ns h))
    by_tests true e = by_other (nat_eq n h)
      where
        by_other : (t : Bool) → true ≡ (if t then true else true)
        by_other true = refl
        by_other false = refl
    by_tests false e = e
