-- Each call makes one of the changes: the calls on threads, on ends and on memory.
use Rattle.std.proofs.Common.{◌≡◌, ℕ, ◌+◌, ◌≤◌, Bool, true, false, if◌then◌else◌, nat_eq, nat_lt, List, [], ◌∷◌, Option}
use Rattle.std.proofs.Common.{Some, None, refl, sym, ap, ◌∙◌, subst, arith}
use Rattle.std.proofs.lemmas.Bool.Decides.{nat_tests}
use Rattle.w32_base.specs.Part.{KeepsLengths}
use Rattle.w32_base.specs.declared.call.Call.{Call}
use Rattle.w32_base.specs.declared.call.Call.TheVariants as call
use Rattle.w32_base.specs.declared.call.Reply.{Reply}
use Rattle.w32_base.specs.declared.own.Own.{Own}
use Rattle.script_spec.specs.declared.script.Script.{Script}
use Rattle.win32_spec.specs.Regions.{written}
use Rattle.win32_spec.specs.State.{Thread, Process, Win32State}
use Rattle.win32_spec.specs.Lookup.{is_alive, process_of, thread_in, change_thread}
use Rattle.win32_spec.specs.Named.{object_by, process_named}
use Rattle.win32_spec.specs.ProcessCalls.{live_of, live_process, resumed, suspended_more, CountStep, ResumeStep}
use Rattle.win32_spec.specs.ProcessCalls.{SuspendStep}
use Rattle.win32_spec.specs.WellFormed.{AreThreads}
use Rattle.win32_spec.specs.LookupLaws.{same_some}
use Rattle.win32_spec.specs.Tame.{posted_by, PostTheSame, ProcessBecomes}
use Rattle.win32_spec.specs.TameSteps.{lengths-same, tame_process}
use Rattle.win32_spec.specs.Effects.{MayWrite, MayExchange, CallEffect, Changes}
use Rattle.win32_spec.specs.CallEffects.{by_option, unchanged}

-- a live process is found alive
pub live_of-found : (o : Option Process) (p : Process) → live_of o ≡ Some p → (o ≡ Some p) × (is_alive p.life ≡ true)
live_of-found None p e = absurd (cc)
live_of-found (Some q) p e = by_test (is_alive q.life) refl e
  where
    by_test : (b : Bool) → is_alive q.life ≡ b → (if b then Some q else None) ≡ Some p
        → (Some q ≡ Some p) × (is_alive p.life ≡ true)
    by_test true t f = let g : q ≡ p = cc in (f, rw (← g) t)
    by_test false t f = absurd (cc)

-- a process whose threads alone change
pub threads_become : (script : Script) (Written Acting Posting : Type 0) (p : Process) (xs : List Thread)
    → is_alive p.life ≡ true
    → ((ts : List ℕ) → AreThreads ts p.threads → AreThreads ts xs) → ((Acting × Posting → ⊥) → PostTheSame p.threads xs)
    → ProcessBecomes script Written Acting Posting p (record p { threads = xs })
threads_become script Written Acting Posting p xs alive keeps posted = record {
  ended = λ e. absurd (cc);
  number = refl;
  slot = refl;
  program = refl;
  life = refl;
  handles = refl;
  threads = keeps;
  lengths = lengths-same p.own;
  bytes = λ n. refl;
  modules = λ n. refl;
  posted = posted;
  unplaced = λ e. refl;
  placed = λ h. h;
}

-- a process whose memory alone changes
pub memory_becomes : (script : Script) (Written Acting Posting : Type 0) (p : Process) (own : Own)
    → is_alive p.life ≡ true
    → Written → KeepsLengths p.own own
    → ProcessBecomes script Written Acting Posting p (record p { own = own })
memory_becomes script Written Acting Posting p own alive written lengths = record {
  ended = λ e. absurd (cc);
  number = refl;
  slot = refl;
  program = refl;
  life = refl;
  handles = refl;
  threads = λ ts h. h;
  lengths = lengths;
  bytes = λ n. absurd (n written);
  modules = λ n. refl;
  posted = λ n t. refl;
  unplaced = λ e. refl;
  placed = λ h. h;
}

-- one thread of others changes
pub threads-change : (t : ℕ) (f : Thread → Thread) → ((x : Thread) → (f x).number ≡ x.number)
    → ((x : Thread) → x.suspended ≤ 100 → (f x).suspended ≤ 100)
    → (ts : List ℕ) (xs : List Thread) → AreThreads ts xs → AreThreads ts (change_thread t f xs)
threads-change t f number most [] [] h = tt
threads-change t f number most [] (x ∷ xs) h = absurd h
threads-change t f number most (n ∷ ts) [] h = absurd h
threads-change t f number most (n ∷ ts) (x ∷ xs) h =
    by_test (nat_eq x.number t) (threads-change t f number most ts xs h.2)
  where
    by_test : (b : Bool) → AreThreads ts (change_thread t f xs)
        → AreThreads (n ∷ ts) ((if b then f x else x) ∷ change_thread t f xs)
    by_test true rest = (number x ∙ h.0, most x h.1, rest)
    by_test false rest = (h.0, h.1, rest)

-- and keeps its posted call
pub posted-change : (t : ℕ) (f : Thread → Thread) → ((x : Thread) → (f x).number ≡ x.number)
    → ((x : Thread) → (f x).posted ≡ x.posted)
    → (xs : List Thread) → PostTheSame xs (change_thread t f xs)
posted-change t f number posted [] u = refl
posted-change t f number posted (x ∷ xs) u =
    by_tests (nat_eq x.number t) (nat_eq x.number u) refl (posted-change t f number posted xs u)
  where
    by_tests : (a b : Bool) → nat_eq x.number u ≡ b
        → posted_by (thread_in (change_thread t f xs) u) ≡ posted_by (thread_in xs u)
        → posted_by (thread_in ((if a then f x else x) ∷ change_thread t f xs) u) ≡ posted_by
        (if b then Some x else thread_in xs u)
    by_tests true true e rest = rw (number x, e) (ap Some (posted x))
    by_tests true false e rest = rw (number x, e) rest
    by_tests false true e rest = rw e refl
    by_tests false false e rest = rw e rest

pub resumed-most : (n : ℕ) → n ≤ 100 → resumed n ≤ 100
resumed-most n l = omega arith

pub suspended-most : (n : ℕ) → n ≤ 100 → suspended_more n ≤ 100
suspended-most n l = by_test (nat_lt n 100) refl
  where
    by_test : (b : Bool) → nat_lt n 100 ≡ b → (if b then n + 1 else n) ≤ 100
    by_test true e = grind (arith, nat_tests)
    by_test false e = l

count_effect : (script : Script) (s : Win32State) (w t : ℕ) (c : Call) (f : ℕ → ℕ) → ((n : ℕ) → n ≤ 100 → f n ≤ 100)
    → (v x : ℕ) (r : Reply) (new : Win32State) → CountStep s f v x r new → CallEffect script s w t c new
count_effect script s w t c f most v x r new step =
    by_option (live_process s v) (λ e m. unchanged script s w t c new m.1) (λ p e m.
    by_option (thread_in p.threads x) (λ e m. unchanged script s w t c new m.1) (λ y d m.
    let found = live_of-found (process_of s.processes v) p e in
    subst (λ n. CallEffect script s w t c n) (sym m.1)
    (Changes (tame_process script (MayWrite s w c) (MayExchange c) ⊥ w t s v
    (λ q. record q { threads = change_thread x (λ y. record y { suspended = f y.suspended }) q.threads }) (λ q. refl)
    (λ q g. let same : p ≡ q = same_some (process_of s.processes v) p q found.0 g in
    threads_become script (MayWrite s w c v) (v ≡ w) ⊥ q
    (change_thread x (λ y. record y { suspended = f y.suspended }) q.threads)
    (rw (← same) found.1)
    (λ ts h. threads-change x (λ y. record y { suspended = f y.suspended }) (λ y. refl) (λ y l. most y.suspended l) ts
    q.threads h)
    (λ n. posted-change x (λ y. record y { suspended = f y.suspended }) (λ y. refl) (λ y. refl) q.threads))))) m) step

pub resume_effect : (script : Script) (s : Win32State) (w t h x : ℕ) (r : Reply) (new : Win32State)
    → ResumeStep s w h x r new
    → CallEffect script s w t (call.Resume h x) new
resume_effect script s w t h x r new step =
    by_option (process_named (object_by s w h)) (λ e m. unchanged script s w t (call.Resume h x) new m.1)
    (λ v e m. count_effect script s w t (call.Resume h x) resumed resumed-most v x r new m) step

pub suspend_effect : (script : Script) (s : Win32State) (w t h x : ℕ) (r : Reply) (new : Win32State)
    → SuspendStep s w h x r new
    → CallEffect script s w t (call.Suspend h x) new
suspend_effect script s w t h x r new step =
    by_option (process_named (object_by s w h)) (λ e m. unchanged script s w t (call.Suspend h x) new m.1)
    (λ v e m. count_effect script s w t (call.Suspend h x) suspended_more suspended-most v x r new m) step
