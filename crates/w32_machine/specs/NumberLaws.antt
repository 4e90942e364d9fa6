-- Which processes stand in which slots after a change of the processes.
use Rattle.std.proofs.Common.{◌≡◌, ◌≢◌, ◌∙◌, ℕ, Bool, true, false, if◌then◌else◌, ◌&&◌, ◌||◌, nat_eq, List, [], ◌∷◌}
use Rattle.std.proofs.Common.{◌⊎◌, inl, inr, Option, Some, None, refl, sym, ap}
use Rattle.std.proofs.lemmas.Bool.{cases_eq}
use Rattle.win32_spec.specs.State.{NumberedObject, Process}
use Rattle.win32_spec.specs.Lookup.{is_alive, process_in, change_process, add_process, number_of}
use Rattle.win32_spec.specs.Ends.{is_process_held, kept_processes, ended_process}
use Rattle.win32_spec.specs.LookupLaws.{same, differs}

-- each slot has the process that it had
abbrev pub SameNumbers : List Process → List Process → Type 0
SameNumbers ps qs = (k : ℕ) → number_of (process_in qs k) ≡ number_of (process_in ps k)

-- one process before others
pub first-number : (k : ℕ) (q p : Process) (qs ps : List Process) → q.number ≡ p.number → q.slot ≡ p.slot
    → q.life ≡ p.life → number_of (process_in qs k) ≡ number_of (process_in ps k)
    → number_of (process_in (q ∷ qs) k) ≡ number_of (process_in (p ∷ ps) k)
first-number k q p qs ps number slot life rest =
    by_tests (is_alive q.life && nat_eq q.slot k) (is_alive p.life && nat_eq p.slot k)
    (ap (λ l. is_alive l && nat_eq q.slot k) life ∙ ap (λ i. is_alive p.life && nat_eq i k) slot)
  where
    by_tests : (a b : Bool) → a ≡ b
        → number_of (if a then Some q else process_in qs k) ≡ number_of (if b then Some p else process_in ps k)
    by_tests true true e = ap (λ n. Some n) number
    by_tests true false e = absurd (cc)
    by_tests false true e = absurd (cc)
    by_tests false false e = rest

-- a change that keeps number, slot and life
pub change-numbers : (w : ℕ) (f : Process → Process) → ((p : Process) → (f p).number ≡ p.number)
    → ((p : Process) → (f p).slot ≡ p.slot) → ((p : Process) → (f p).life ≡ p.life) → (ps : List Process)
    → SameNumbers ps (change_process w f ps)
change-numbers w f number slot life [] k = refl
change-numbers w f number slot life (p ∷ ps) k =
    by_test (nat_eq p.number w) (change-numbers w f number slot life ps k)
  where
    by_test : (b : Bool) → number_of (process_in (change_process w f ps) k) ≡ number_of (process_in ps k)
        → number_of (process_in ((if b then f p else p) ∷ change_process w f ps) k) ≡ number_of (process_in (p ∷ ps) k)
    by_test true rest = first-number k (f p) p (change_process w f ps) ps (number p) (slot p) (life p) rest
    by_test false rest = first-number k p p (change_process w f ps) ps refl refl refl rest

-- the process itself, where it stays and where it changes
pub change-aside : (w : ℕ) (f : Process → Process) → ((p : Process) → (f p).slot ≡ p.slot)
    → ((p : Process) → (f p).life ≡ p.life) → (ps : List Process) (k : ℕ) → number_of (process_in ps k) ≢ Some w
    → process_in (change_process w f ps) k ≡ process_in ps k
change-aside w f slot life [] k d = refl
change-aside w f slot life (p ∷ ps) k d = by_number (cases_eq p.number w) (λ e. change-aside w f slot life ps k e)
  where
    by_tests : (a b : Bool) → a ≡ b → (is_alive p.life && nat_eq p.slot k) ≡ b → p.number ≡ w
        → (number_of (process_in ps k) ≢ Some w → process_in (change_process w f ps) k ≡ process_in ps k)
        → (if a then Some (f p) else process_in (change_process w f ps) k) ≡ (if b then Some p else process_in ps k)
    by_tests true true g e n rest = absurd (d (rw e (ap (λ i. Some i) n)))
    by_tests true false g e n rest = absurd (cc)
    by_tests false true g e n rest = absurd (cc)
    by_tests false false g e n rest = rest (rw e at d)

    by_other : (b : Bool) → (is_alive p.life && nat_eq p.slot k) ≡ b
        → (number_of (process_in ps k) ≢ Some w → process_in (change_process w f ps) k ≡ process_in ps k)
        → (if b then Some p else process_in (change_process w f ps) k) ≡ (if b then Some p else process_in ps k)
    by_other true e rest = refl
    by_other false e rest = rest (rw e at d)

    by_number : (p.number ≡ w) ⊎ (p.number ≢ w)
        → (number_of (process_in ps k) ≢ Some w → process_in (change_process w f ps) k ≡ process_in ps k)
        → process_in (change_process w f (p ∷ ps)) k ≡ process_in (p ∷ ps) k
    by_number (inl n) rest =
        let s = same p.number w n in
        rw s (by_tests (is_alive (f p).life && nat_eq (f p).slot k) (is_alive p.life && nat_eq p.slot k)
        (ap (λ l. is_alive l && nat_eq (f p).slot k) (life p) ∙ ap (λ i. is_alive p.life && nat_eq i k) (slot p))
        refl n rest)
    by_number (inr n) rest =
        let s = differs p.number w n in rw s (by_other (is_alive p.life && nat_eq p.slot k) refl rest)

-- the process that is changed, in its slot
pub change-here : (w : ℕ) (f : Process → Process) → ((p : Process) → (f p).slot ≡ p.slot)
    → ((p : Process) → (f p).life ≡ p.life) → (ps : List Process) (k : ℕ) (p : Process)
    → process_in ps k ≡ Some p → p.number ≡ w → process_in (change_process w f ps) k ≡ Some (f p)
change-here w f slot life [] k p e n = absurd (cc)
change-here w f slot life (q ∷ ps) k p e n =
    by_test (is_alive q.life && nat_eq q.slot k) refl e (λ i. change-here w f slot life ps k p i n)
  where
    alike : (is_alive (f q).life && nat_eq (f q).slot k) ≡ (is_alive q.life && nat_eq q.slot k)
    alike = ap (λ l. is_alive l && nat_eq (f q).slot k) (life q) ∙ ap (λ i. is_alive q.life && nat_eq i k) (slot q)

    by_number : (b : Bool) → (is_alive q.life && nat_eq q.slot k) ≡ false
        → process_in (change_process w f ps) k ≡ Some (f p)
        → process_in ((if b then f q else q) ∷ change_process w f ps) k ≡ Some (f p)
    by_number true i rest = rw (alike ∙ i) rest
    by_number false i rest = rw i rest

    by_test : (b : Bool) → (is_alive q.life && nat_eq q.slot k) ≡ b
        → (if b then Some q else process_in ps k) ≡ Some p
        → (process_in ps k ≡ Some p → process_in (change_process w f ps) k ≡ Some (f p))
        → process_in (change_process w f (q ∷ ps)) k ≡ Some (f p)
    by_test true i g rest =
        let m : q ≡ p = cc in
        let s = same q.number w (ap (λ (x : Process). x.number) m ∙ n) in
        rw s (rw (alike ∙ i) (ap (λ x. Some (f x)) m))
    by_test false i g rest = by_number (nat_eq q.number w) i (rest g)

-- the processes that live or that somebody names
pub kept-numbers : (os : List NumberedObject) (ps : List Process) → SameNumbers ps (kept_processes os ps)
kept-numbers os [] k = refl
kept-numbers os (p ∷ ps) k =
    by_tests (is_alive p.life) (is_process_held os p.number) refl (kept-numbers os ps k)
  where
    by_tests : (a b : Bool) → is_alive p.life ≡ a
        → number_of (process_in (kept_processes os ps) k) ≡ number_of (process_in ps k)
        → number_of (process_in (if a || b then p ∷ kept_processes os ps else kept_processes os ps) k) ≡
        number_of (process_in (p ∷ ps) k)
    by_tests true b e rest = first-number k p p (kept_processes os ps) ps refl refl refl rest
    by_tests false true e rest = first-number k p p (kept_processes os ps) ps refl refl refl rest
    by_tests false false e rest = rw e rest

-- the end of process v leaves this slot, if another process stands there
abbrev Leaves : ℕ → ℕ → List Process → ℕ → Type 0
Leaves v code ps k = number_of (process_in ps k) ≢ Some v
    → number_of (process_in (change_process v (ended_process code) ps) k) ≡ number_of (process_in ps k)

-- the end of a process leaves the other slots
pub ended-numbers : (v code : ℕ) (ps : List Process) (k : ℕ) → number_of (process_in ps k) ≢ Some v
    → number_of (process_in (change_process v (ended_process code) ps) k) ≡ number_of (process_in ps k)
ended-numbers v code [] k d = refl
ended-numbers v code (p ∷ ps) k d = by_number (cases_eq p.number v) (λ e. ended-numbers v code ps k e)
  where
    by_alive : (b : Bool) → (is_alive p.life && nat_eq p.slot k) ≡ b → p.number ≡ v → Leaves v code ps k
        → number_of (process_in (change_process v (ended_process code) ps) k) ≡
        number_of (if b then Some p else process_in ps k)
    by_alive true e n rest = absurd (d (rw e (ap (λ i. Some i) n)))
    by_alive false e n rest = rest (rw e at d)

    by_other : (b : Bool) → (is_alive p.life && nat_eq p.slot k) ≡ b → Leaves v code ps k
        → number_of (if b then Some p else process_in (change_process v (ended_process code) ps) k) ≡
        number_of (if b then Some p else process_in ps k)
    by_other true e rest = refl
    by_other false e rest = rest (rw e at d)

    by_number : (p.number ≡ v) ⊎ (p.number ≢ v) → Leaves v code ps k
        → number_of (process_in (change_process v (ended_process code) (p ∷ ps)) k) ≡
        number_of (process_in (p ∷ ps) k)
    by_number (inl n) rest =
        let s = same p.number v n in rw s (by_alive (is_alive p.life && nat_eq p.slot k) refl n rest)
    by_number (inr n) rest =
        let s = differs p.number v n in rw s (by_other (is_alive p.life && nat_eq p.slot k) refl rest)

-- one more process leaves the other slots, and stands in its own where that was empty
pub add-numbers : (new : Process) (ps : List Process) (k : ℕ) → k ≢ new.slot
    → number_of (process_in (add_process new ps) k) ≡ number_of (process_in ps k)
add-numbers new [] k d =
    let s = differs new.slot k (λ e. d (sym e)) in rw s (by_alive (is_alive new.life))
  where
    by_alive : (b : Bool) → number_of (if b && false then Some new else None) ≡ None
    by_alive true = refl
    by_alive false = refl
add-numbers new (p ∷ ps) k d =
    first-number k p p (add_process new ps) ps refl refl refl (add-numbers new ps k d)

pub add-number : (new : Process) (ps : List Process) → is_alive new.life ≡ true
    → number_of (process_in ps new.slot) ≡ None
    → number_of (process_in (add_process new ps) new.slot) ≡ Some new.number
add-number new [] alive free = let s = same new.slot new.slot refl in rw (alive, s) refl
add-number new (p ∷ ps) alive free =
    by_test (is_alive p.life && nat_eq p.slot new.slot) refl (λ e. add-number new ps alive e)
  where
    by_test : (b : Bool) → (is_alive p.life && nat_eq p.slot new.slot) ≡ b
        → (number_of (process_in ps new.slot) ≡ None
        → number_of (process_in (add_process new ps) new.slot) ≡ Some new.number)
        → number_of (if b then Some p else process_in (add_process new ps) new.slot) ≡ Some new.number
    by_test true e rest = absurd (let f : Some p.number ≡ None = rw e at free in cc)
    by_test false e rest = rest (rw e at free)

-- the process of a number that stands in a slot
pub number_found : (o : Option Process) (w : ℕ) → number_of o ≡ Some w → (p : Process) × (o ≡ Some p) × (p.number ≡ w)
number_found None w e = absurd (cc)
number_found (Some p) w e = (p, refl, cc)
