-- The threads of a process: what is found by a thread's number, and another count or posted call of one of them.
use Rattle.std.proofs.Common.{◌≡◌, ◌≢◌, inl, inr, ℕ, zero, suc, ◌+◌, List, [], ◌∷◌, Option, Some, None}
use Rattle.std.proofs.Common.{slice_get, slice_set, refl, ap, ◌∙◌, arith}
use Rattle.std.proofs.lemmas.Bool.{cases_eq}
use Rattle.w32_base.specs.declared.call.Call.{Call}
use Rattle.win32_spec.specs.State.{Thread}
use Rattle.win32_spec.specs.Lookup.{thread_in, change_thread}
use Rattle.win32_spec.specs.LookupLaws.{same, differs}
use Rattle.w32_process.specs.Processes.{threads_from}

-- the thread with this number, which is suspended so often, where there is one
abbrev pub thread_shown : (posted : ℕ → Call) → ℕ → Option ℕ → Option Thread
thread_shown posted t None = None
thread_shown posted t (Some count) = Some (record { number = t; suspended = count; posted = posted t })

thread_in-from : (posted : ℕ → Call) (first : ℕ) (counts : List ℕ) (k t : ℕ) → first + k ≡ t
    → thread_in (threads_from posted first counts) t ≡ thread_shown posted t (slice_get counts k)
thread_in-from posted first [] k t e = refl
thread_in-from posted first (count ∷ counts) zero t e =
    let n : first ≡ t = omega arith in let s = same first t n in rw (s, n) refl
thread_in-from posted first (count ∷ counts) (suc k) t e =
    let s = differs first t (λ n. omega arith) in
    rw s (thread_in-from posted (first + 1) counts k t (omega arith))

pub thread_in-threads : (posted : ℕ → Call) (counts : List ℕ) (t : ℕ)
    → thread_in (threads_from posted 0 counts) t ≡ thread_shown posted t (slice_get counts t)
thread_in-threads posted counts t = thread_in-from posted 0 counts t t (omega arith)

-- threads with the same posted calls
pub same_threads : (posted posted' : ℕ → Call) → ((t : ℕ) → posted' t ≡ posted t) → (first : ℕ) (counts : List ℕ)
    → threads_from posted' first counts ≡ threads_from posted first counts
same_threads posted posted' same first [] = refl
same_threads posted posted' same first (count ∷ counts) =
    rw (same first, same_threads posted posted' same (first + 1) counts) refl

-- a thread past those that are there
change-past : (f : Thread → Thread) (posted : ℕ → Call) (t first : ℕ) (counts : List ℕ)
    → ((k : ℕ) → first + k ≢ t)
    → change_thread t f (threads_from posted first counts) ≡ threads_from posted first counts
change-past f posted t first [] past = refl
change-past f posted t first (count ∷ counts) past =
    let s = differs first t (λ e. past 0 (omega arith)) in
    let rest = change-past f posted t (first + 1) counts (λ k e. past (k + 1) (omega arith)) in
    rw (s, rest) refl

-- another count of one thread
count-from : (f : ℕ → ℕ) (posted : ℕ → Call) (first : ℕ) (counts : List ℕ) (k t old : ℕ) → first + k ≡ t
    → slice_get counts k ≡ Some old
    → change_thread t (λ x. record x { suspended = f x.suspended }) (threads_from posted first counts) ≡
    threads_from posted first (slice_set counts k (f old))
count-from f posted first [] k t old e at = refl
count-from f posted first (count ∷ counts) zero t old e at =
    let n : first ≡ t = omega arith in
    let s = same first t n in
    let c : count ≡ old = cc in
    let rest = change-past (λ x. record x { suspended = f x.suspended }) posted t (first + 1) counts
    (λ k m. omega arith) in
    rw (s, rest, c) refl
count-from f posted first (count ∷ counts) (suc k) t old e at =
    let s = differs first t (λ n. omega arith) in
    let rest = count-from f posted (first + 1) counts k t old (omega arith) at in
    rw (s, rest) refl

pub count-threads : (f : ℕ → ℕ) (posted : ℕ → Call) (counts : List ℕ) (t old : ℕ) → slice_get counts t ≡ Some old
    → change_thread t (λ x. record x { suspended = f x.suspended }) (threads_from posted 0 counts) ≡
    threads_from posted 0 (slice_set counts t (f old))
count-threads f posted counts t old at = count-from f posted 0 counts t t old (omega arith) at

-- another posted call of one thread
posted-from : (posted posted' : ℕ → Call) (t : ℕ) (call : Call) → posted' t ≡ call
    → ((u : ℕ) → u ≢ t → posted' u ≡ posted u) → (first : ℕ) (counts : List ℕ)
    → change_thread t (λ x. record x { posted = call }) (threads_from posted first counts) ≡
    threads_from posted' first counts
posted-from posted posted' t call this others first [] = refl
posted-from posted posted' t call this others first (count ∷ counts) =
    let rest = posted-from posted posted' t call this others (first + 1) counts in
    elim (cases_eq first t) [
      | inl n ↦ let s = same first t n in let c : posted' first ≡ call = ap posted' n ∙ this in rw (s, rest, c) refl
      | inr d ↦ let s = differs first t d in let c = others first d in rw (s, rest, c) refl
    ]

pub posted-threads : (posted posted' : ℕ → Call) (t : ℕ) (call : Call) → posted' t ≡ call
    → ((u : ℕ) → u ≢ t → posted' u ≡ posted u) → (counts : List ℕ)
    → change_thread t (λ x. record x { posted = call }) (threads_from posted 0 counts) ≡ threads_from posted' 0 counts
posted-threads posted posted' t call this others counts = posted-from posted posted' t call this others 0 counts
