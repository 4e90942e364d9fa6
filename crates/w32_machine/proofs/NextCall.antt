-- The call that a turn carries out.
use Rattle.std.proofs.Common.{◌≡◌, ◌∙◌, ℕ, Bool, true, false, nat_eq, if◌then◌else◌, List, [], ◌∷◌, Option}
use Rattle.std.proofs.Common.{Some, None, IsSome, IfSome, ◌≤◌, refl, sym, ap, subst}
use Rattle.std.proofs.lemmas.Bool.{eqb-true}
use Rattle.w32_base.specs.declared.call.Call.{Call}
use Rattle.w32_base.specs.declared.call.Reply.{Reply}
use Rattle.script_spec.specs.declared.script.Script.{Script}
use Rattle.win32_spec.specs.State.{Thread, Process, Win32State}
use Rattle.win32_spec.specs.Lookup.{process_in, thread_in, thread_of, thread_at, number_of, number_in}
use Rattle.win32_spec.specs.LookupLaws.{and_true, process_in-found}
use Rattle.win32_spec.specs.Named.{handles_of, handles_by}
use Rattle.win32_spec.specs.Call.{CallStep}
use Rattle.win32_spec.specs.Ready.{may_go, is_thread_ready, is_process_ready, is_ready}
use Rattle.win32_spec.specs.Run.{IsThread, CarriesOut}
use Rattle.win32_spec.specs.WellFormed.{IsFormed, IsWellFormed}
use Rattle.w32_machine.specs.declared.caller.Caller.{Caller}
use Rattle.w32_machine.specs.Running.{Running}
use Rattle.w32_machine.specs.Turning.{IsNextCall}

thread_in-number : (xs : List Thread) (t : ℕ) (x : Thread) → thread_in xs t ≡ Some x → x.number ≡ t
thread_in-number [] t x e = absurd (cc)
thread_in-number (y ∷ xs) t x e = by_test (nat_eq y.number t) refl e (λ f. thread_in-number xs t x f)
  where
    by_test : (b : Bool) → nat_eq y.number t ≡ b → (if b then Some y else thread_in xs t) ≡ Some x
        → (thread_in xs t ≡ Some x → x.number ≡ t) → x.number ≡ t
    by_test true f g rest = let i : y ≡ x = cc in ap (λ (z : Thread). z.number) (sym i) ∙ eqb-true y.number t f
    by_test false f g rest = rest g

-- the thread of a place that is ready, with its process
pub record IsReady (s : Win32State) (slot t : ℕ) : Type 0 where
  pub process : Process
  pub thread : Thread
  pub there : IsThread s slot t process thread
  pub goes : may_go s process.number t (handles_by s process.number) thread.posted ≡ true

pub ready-there : (script : Script) (s : Win32State) → IsFormed script s → (slot t : ℕ) → is_ready s slot t ≡ true
    → IsReady s slot t
ready-there script s h slot t e = by_process (process_in s.processes slot) refl e
  where
    by_thread : (p : Process) → process_in s.processes slot ≡ Some p → (o : Option Thread) → thread_in p.threads t ≡ o
        → is_thread_ready s p o ≡ true → IsReady s slot t
    by_thread p f None g i = absurd (cc)
    by_thread p f (Some x) g i =
        let found = process_in-found 1 s.next s.processes slot p h.processes f in
        let number = thread_in-number p.threads t x g in
        let both = and_true (nat_eq x.suspended 0) (may_go s p.number x.number p.handles x.posted) i in
        let handles : handles_by s p.number ≡ p.handles = ap handles_of found.0 in
        record {
          process = p;
          thread = x;
          there = record { process = f; thread = g };
          goes = ap (λ hs. may_go s p.number t hs x.posted) handles
              ∙ ap (λ n. may_go s p.number n p.handles x.posted) (sym number) ∙ both.1;
        }

    by_process : (o : Option Process) → process_in s.processes slot ≡ o → is_process_ready s t o ≡ true
        → IsReady s slot t
    by_process None f g = absurd (cc)
    by_process (Some p) f g = by_thread p f (thread_in p.threads t) refl g

pub ready-thread : (script : Script) (s : Win32State) → IsFormed script s → (slot t : ℕ) → is_ready s slot t ≡ true
    → IsSome (thread_at s slot t)
ready-thread script s h slot t e =
    let r = ready-there script s h slot t e in
    rw (ap (λ o. thread_of o t) r.there.process ∙ r.there.thread) refl

pub next-call : (now : Running) → IsWellFormed now.script now.win32 → (slot t w : ℕ) (call : Call)
    → is_ready now.win32 slot t ≡ true → number_in now.win32 slot ≡ Some w → t ≤ 2
    → IfSome (thread_at now.win32 slot t) (λ x. call ≡ x.posted)
    → IsNextCall now slot t (record { slot = slot; process = w; thread = t }) call
next-call now formed slot t w call ready at few posted =
    let r = ready-there now.script now.win32 formed.formed slot t ready in
    let number : Some r.process.number ≡ Some w = sym (ap number_of r.there.process) ∙ at in
    let is : r.process.number ≡ w = cc in
    let its : call ≡ r.thread.posted =
    subst (λ o. IfSome o (λ x. call ≡ x.posted)) (ap (λ o. thread_of o t) r.there.process ∙ r.there.thread) posted in
    record {
      formed = formed;
      ready = ready;
      slot_is = refl;
      thread_is = refl;
      caller = record { process = at; thread = few };
      goes = ap (λ n. may_go now.win32 n t (handles_by now.win32 n) call) (sym is)
          ∙ ap (may_go now.win32 r.process.number t (handles_by now.win32 r.process.number)) its ∙ r.goes;
      process = r.process;
      thread = r.thread;
      there = r.there;
      number = is;
      posted = its;
    }

-- it is the call of its thread that is carried out
pub carries-out : (now : Running) (slot t : ℕ) (by : Caller) (call : Call) → IsNextCall now slot t by call
    → (r : Reply) (new : Win32State) → CallStep now.script now.win32 by.process by.thread call r new
    → CarriesOut now.script now.win32 slot t r new
carries-out now slot t by call next r new step = (
  next.process,
  next.thread,
  record {
    thread = next.there;
    step = subst (λ n. CallStep now.script now.win32 n t next.thread.posted r new) (sym next.number)
        (subst (λ n. CallStep now.script now.win32 by.process n next.thread.posted r new) next.thread_is
        (subst (λ c. CallStep now.script now.win32 by.process by.thread c r new) next.posted step));
  },
)
