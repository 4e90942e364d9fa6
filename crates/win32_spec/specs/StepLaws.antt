-- Each directive leaves a well-formed state well formed.
use Rattle.std.proofs.Common.{◌≡◌, ℕ, zero, suc, ◌≤◌, Bool, true, false, if◌then◌else◌, nat_eq, List, [], ◌∷◌, Option}
use Rattle.std.proofs.Common.{Some, None, refl, sym, subst, arith}
use Rattle.std.proofs.lemmas.Bool.{eqb-true}
use Rattle.w32_base.specs.declared.call.Call.{Call}
use Rattle.w32_base.specs.declared.entry.Directive.{Directive}
use Rattle.w32_base.specs.declared.entry.Directive.TheVariants as directive
use Rattle.w32_base.specs.declared.entry.Entry.{Entry}
use Rattle.w32_base.specs.declared.entry.Outcome.{Outcome}
use Rattle.w32_base.specs.declared.own.Own.{Own}
use Rattle.w32_base.specs.Part.{KeepsLengths}
use Rattle.script_spec.specs.declared.script.Script.{Script}
use Rattle.win32_spec.specs.State.{Thread, Process, Win32State}
use Rattle.win32_spec.specs.Lookup.{process_of, is_live, process_in, thread_in, change_thread, memory_by, with_posted}
use Rattle.win32_spec.specs.Lookup.{with_own}
use Rattle.win32_spec.specs.Ready.{is_ready}
use Rattle.win32_spec.specs.Making.{threads_of}
use Rattle.win32_spec.specs.Run.{IsThread, Acts, ReadyTurn, EndStep, with_key, StepBy, Win32Run, ended_from_outside}
use Rattle.win32_spec.specs.WellFormed.{AreThreads, IsFormed, IsWellFormed}
use Rattle.win32_spec.specs.LookupLaws.{process_of-change_same, process_in-found}
use Rattle.win32_spec.specs.FormedLaws.{of_live, live_found, found_live}
use Rattle.win32_spec.specs.Tame.{IsTame}
use Rattle.win32_spec.specs.TameLaws.{wellformed-tame}
use Rattle.win32_spec.specs.TameSteps.{tame_process}
use Rattle.win32_spec.specs.CallEffects.{by_bool}
use Rattle.win32_spec.specs.ThreadEffects.{threads_become, threads-change, memory_becomes}
use Rattle.win32_spec.specs.MemoryEffects.{memory_by-found, HaveRegisters}
use Rattle.win32_spec.specs.TerminalEffects.{effect_of_call}
use Rattle.win32_spec.specs.KeepLaws.{wellformed-ended, wellformed-effect}

-- numbers that are at most 2
abbrev AreFew : List ℕ → Type 0
AreFew [] = Unit {0}
AreFew (t ∷ ts) = (t ≤ 2) × AreFew ts

few-threads_of : (slot : ℕ) → AreFew (threads_of slot)
few-threads_of zero = (omega arith, (omega arith, tt))
few-threads_of (suc slot) = (omega arith, (omega arith, (omega arith, tt)))

few-threads : (ts : List ℕ) (xs : List Thread) (t : ℕ) (x : Thread) → AreFew ts → AreThreads ts xs
    → thread_in xs t ≡ Some x → t ≤ 2
few-threads [] [] t x few h e = absurd (cc)
few-threads [] (y ∷ xs) t x few h e = absurd h
few-threads (n ∷ ts) [] t x few h e = absurd h
few-threads (n ∷ ts) (y ∷ xs) t x few h e = by_test (nat_eq y.number t) refl e (few-threads ts xs t x few.1 h.2)
  where
    by_test : (b : Bool) → nat_eq y.number t ≡ b → (if b then Some y else thread_in xs t) ≡ Some x
        → (thread_in xs t ≡ Some x → t ≤ 2) → t ≤ 2
    by_test true f g rest = let m : y.number ≡ t = eqb-true y.number t f in omega (arith, few.0, h.0)
    by_test false f g rest = rest g

-- the thread of a turn: its process is alive, and its number is at most 2
pub record IsActing (s : Win32State) (w t : ℕ) : Type 0 where
  pub live : is_live (process_of s.processes w) ≡ true
  pub few : t ≤ 2

pub acting : (script : Script) (s : Win32State) (slot t : ℕ) (p : Process) (x : Thread) → IsFormed script s
    → IsThread s slot t p x
    → IsActing s p.number t
acting script s slot t p x h thread =
    let found = process_in-found 1 s.next s.processes slot p h.processes thread.process in
    let live = of_live script s.objects p p.life found.1 (h.process p.number p found.0) in
    record {
      live = found_live (process_of s.processes p.number) p found.0 found.1;
      few = few-threads (threads_of p.slot) p.threads t x (few-threads_of p.slot) live.threads thread.thread;
    }

-- Other bytes of the acting thread's process, and its next posted call.
pub own_tame : (script : Script) (s : Win32State) (w t : ℕ) (own : Own) → is_live (process_of s.processes w) ≡ true
    → KeepsLengths (memory_by s w) own
    → IsTame script (λ v. v ≡ w) ⊥ (Unit {0}) w t s (with_own s w own)
own_tame script s w t own live lengths =
    tame_process script (λ v. v ≡ w) ⊥ (Unit {0}) w t s w (λ q. record q { own = own }) (λ q. refl)
    (λ q f. memory_becomes script (w ≡ w) (w ≡ w) (Unit {0}) q own (rw f at live) refl
    (subst (λ o. KeepsLengths o own) (memory_by-found s w q f) lengths))

pub posted_tame : (script : Script) (s : Win32State) (w t : ℕ) (next : Call) → is_live (process_of s.processes w) ≡ true
    → IsTame script (λ v. v ≡ w) ⊥ (Unit {0}) w t s (with_posted s w t next)
posted_tame script s w t next live =
    tame_process script (λ v. v ≡ w) ⊥ (Unit {0}) w t s w
    (λ q. record q { threads = change_thread t (λ x. record x { posted = next }) q.threads }) (λ q. refl)
    (λ q f. threads_become script (w ≡ w) (w ≡ w) (Unit {0}) q
    (change_thread t (λ x. record x { posted = next }) q.threads)
    (rw f at live)
    (λ ts h. threads-change t (λ x. record x { posted = next }) (λ x. refl) (λ x l. l) ts q.threads h)
    (λ n. absurd (n (refl, tt))))

pub live-with_own : (s : Win32State) (w : ℕ) (own : Own) → is_live (process_of s.processes w) ≡ true
    → is_live (process_of (with_own s w own).processes w) ≡ true
live-with_own s w own live =
    let p = live_found (process_of s.processes w) live in
    found_live (process_of (with_own s w own).processes w) (record p.0 { own = own })
    (process_of-change_same w (λ q. record q { own = own }) (λ q. refl) s.processes p.0 p.1) p.2

pub wellformed-acts : (script : Script) (s : Win32State) (w t : ℕ) (new : Win32State) → IsWellFormed script s
    → is_live (process_of s.processes w) ≡ true → t ≤ 2 → Acts s w t new → IsWellFormed script new
wellformed-acts script s w t new h live few acts =
    let one = wellformed-tame script (λ v. v ≡ w) ⊥ (Unit {0}) w t s (with_own s w acts.own) h
    (own_tame script s w t acts.own live acts.lengths) live few in
    let again = live-with_own s w acts.own live in
    subst (IsWellFormed script) (sym acts.after)
    (wellformed-tame script (λ v. v ≡ w) ⊥ (Unit {0}) w t (with_own s w acts.own)
    (with_posted (with_own s w acts.own) w t acts.next) one
    (posted_tame script (with_own s w acts.own) w t acts.next again) again few)

pub wellformed-turn : (script : Script) (s : Win32State) (slot t : ℕ) (called : Option Call) (came : Outcome)
    (new : Win32State)
    → HaveRegisters script → IsWellFormed script s → ReadyTurn script s slot t called came new → IsWellFormed script new
wellformed-turn script s slot t called came new registers h turn =
    let w : ℕ = turn.process.number in
    let at = acting script s slot t turn.process turn.thread h.formed turn.posted.thread in
    let effect = effect_of_call script s w t turn.thread.posted turn.reply turn.mid registers h.formed at.live at.few
    turn.posted.step in
    let mid = wellformed-effect script s w t turn.thread.posted turn.mid h at.live at.few effect in
    by_bool (is_live (process_of turn.mid.processes w))
    (λ live acts. wellformed-acts script turn.mid w t new mid live at.few acts)
    (λ dead e. subst (IsWellFormed script) (sym e) mid) turn.goes_on

pub wellformed-key : (script : Script) (s : Win32State) (b : ℕ) → IsWellFormed script s
    → IsWellFormed script (with_key s b)
wellformed-key script s b h = record {
  formed = record {
    next = h.formed.next;
    processes = h.formed.processes;
    objects = h.formed.objects;
    process = h.formed.process;
    one_a_slot = h.formed.one_a_slot;
    object = h.formed.object;
    only = h.formed.only;
  };
  object_held = h.object_held;
  process_held = h.process_held;
}

pub wellformed-end : (script : Script) (s : Win32State) (slot : ℕ) (o : Option Process) (came : Outcome)
    (new : Win32State) → IsWellFormed script s
    → process_in s.processes slot ≡ o → EndStep s o came new → IsWellFormed script new
wellformed-end script s slot None came new h e step = subst (IsWellFormed script) (sym step.1) h
wellformed-end script s slot (Some p) came new h e step =
    let found = process_in-found 1 s.next s.processes slot p h.formed.processes e in
    subst (IsWellFormed script) (sym step.1)
    (wellformed-ended script s p.number ended_from_outside h
    (found_live (process_of s.processes p.number) p found.0 found.1))

pub wellformed-step : (script : Script) (s : Win32State) (d : Directive) (called : Option Call) (came : Outcome)
    (new : Win32State)
    → HaveRegisters script → IsWellFormed script s → StepBy script s d called came new → IsWellFormed script new
wellformed-step script s (directive.Turn slot t) called came new registers h step =
    by_bool (is_ready s slot t) (λ r turn. wellformed-turn script s slot t called came new registers h turn)
    (λ r idle. subst (IsWellFormed script) (sym idle.2) h) step
wellformed-step script s (directive.End slot) called came new registers h step =
    wellformed-end script s slot (process_in s.processes slot) came new h refl step.1
wellformed-step script s (directive.Key b) called came new registers h step =
    subst (IsWellFormed script) (sym step.2) (wellformed-key script s b h)

-- a whole run
pub wellformed-run : (script : Script) (s : Win32State) (es : List Entry) (new : Win32State) → HaveRegisters script
    → IsWellFormed script s
    → Win32Run script s es new → IsWellFormed script new
wellformed-run script s [] new registers h run = subst (IsWellFormed script) (sym run) h
wellformed-run script s (e ∷ es) new registers h run =
    wellformed-run script run.0 es new registers
    (wellformed-step script s e.directive e.call e.outcome run.0 registers h run.1) run.2
