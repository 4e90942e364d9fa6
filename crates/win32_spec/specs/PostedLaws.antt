-- A posted call changes only in a turn of its own thread, and a process keeps its slot while it lives.
use Rattle.std.proofs.Common.{◌≡◌, ◌≢◌, inl, inr, ℕ, true, false, List, [], ◌∷◌, Option, Some, None, refl, sym, ap, ◌∙◌}
use Rattle.std.proofs.Common.{subst}
use Rattle.std.proofs.lemmas.Bool.{cases_eq}
use Rattle.w32_base.specs.declared.call.Call.{Call}
use Rattle.w32_base.specs.declared.call.Call.TheVariants as call
use Rattle.w32_base.specs.declared.entry.Directive.{Directive}
use Rattle.w32_base.specs.declared.entry.Directive.TheVariants as directive
use Rattle.w32_base.specs.declared.entry.Outcome.{Outcome}
use Rattle.script_spec.specs.declared.script.Script.{Script}
use Rattle.win32_spec.specs.State.{Thread, Process, Win32State}
use Rattle.win32_spec.specs.Lookup.{is_alive, process_of, is_live, process_in, thread_in, change_process, change_thread}
use Rattle.win32_spec.specs.Ready.{is_ready}
use Rattle.win32_spec.specs.Making.{opening_call}
use Rattle.win32_spec.specs.Run.{Acts, EndStep, StepBy, ended_from_outside}
use Rattle.win32_spec.specs.WellFormed.{IsWellFormed}
use Rattle.win32_spec.specs.LookupLaws.{same, differs, same_some, not_none, changed_process, process_in-found}
use Rattle.win32_spec.specs.FormedLaws.{found_live}
use Rattle.win32_spec.specs.Tame.{posted_by}
use Rattle.win32_spec.specs.CallEffects.{by_bool}
use Rattle.win32_spec.specs.MemoryEffects.{HaveRegisters}
use Rattle.win32_spec.specs.Effects.{Ends}
use Rattle.win32_spec.specs.AliveLaws.{alive-effect, made-effect}
use Rattle.win32_spec.specs.Facts.{IsTurnOfThread}
use Rattle.win32_spec.specs.FactLaws.{turn_number, turn_live, turn_effect}

-- the same process, of whose threads those have the same posted calls that aren't `Own`
pub record KeepsPosted (Own : ℕ → Type 0) (p q : Process) : Type 0 where
  pub number : q.number ≡ p.number
  pub slot : q.slot ≡ p.slot
  pub program : q.program ≡ p.program
  pub life : q.life ≡ p.life
  pub posted : (u : ℕ) → (Own u → ⊥) → posted_by (thread_in q.threads u) ≡ posted_by (thread_in p.threads u)

keeps_same : (Own : ℕ → Type 0) (p q : Process) → q ≡ p → KeepsPosted Own p q
keeps_same Own p q e = subst (λ x. KeepsPosted Own p x) (sym e)
    (record { number = refl; slot = refl; program = refl; life = refl; posted = λ u n. refl })

-- a thread that isn't changed
pub thread_in-other : (t : ℕ) (f : Thread → Thread) → ((x : Thread) → (f x).number ≡ x.number)
    → (xs : List Thread) (u : ℕ) → u ≢ t
    → thread_in (change_thread t f xs) u ≡ thread_in xs u
thread_in-other t f number [] u d = refl
thread_in-other t f number (x ∷ xs) u d = elim (cases_eq x.number t) [
  | inl n ↦
      let a = same x.number t n in
      let b = differs x.number u (λ m. d (sym m ∙ n)) in
      let c = differs (f x).number u (λ m. d (sym m ∙ number x ∙ n)) in
      rw (a, b, c) (thread_in-other t f number xs u d)
  | inr n ↦ let a = differs x.number t n in rw (a, thread_in-other t f number xs u d)
]

-- a thread that is changed
pub thread_in-same : (t : ℕ) (f : Thread → Thread) → ((x : Thread) → (f x).number ≡ x.number)
    → (xs : List Thread) (x : Thread)
    → thread_in xs t ≡ Some x → thread_in (change_thread t f xs) t ≡ Some (f x)
thread_in-same t f number [] x e = absurd (cc)
thread_in-same t f number (y ∷ xs) x e = elim (cases_eq y.number t) [
  | inl n ↦
      let a = same y.number t n in
      let b = same (f y).number t (number y ∙ n) in
      let g : Some y ≡ Some x = rw a at e in
      let k : y ≡ x = cc in rw (a, b, k) refl
  | inr n ↦ let a = differs y.number t n in rw (a, a) (thread_in-same t f number xs x (rw a at e))
]

-- what a thread that goes on leaves of every process
pub acts_back : (s : Win32State) (w t : ℕ) (new : Win32State) → Acts s w t new → (v : ℕ) (q : Process)
    → process_of new.processes v ≡ Some q
    → (r : Process) × (process_of s.processes v ≡ Some r) × KeepsPosted (λ u. (v ≡ w) × (u ≡ t)) r q
acts_back s w t new acts v q f =
    elim (changed_process w
    (λ x. record x { threads = change_thread t (λ y. record y { posted = acts.next }) x.threads }) (λ x. refl)
    (change_process w (λ x. record x { own = acts.own }) s.processes) v q
    (subst (λ (n : Win32State). process_of n.processes v ≡ Some q) acts.after f)) [
      | inl other ↦ elim (changed_process w (λ x. record x { own = acts.own }) (λ x. refl) s.processes v q other.1) [
        | inl that ↦ (q, that.1, keeps_same (λ u. (v ≡ w) × (u ≡ t)) q q refl)
        | inr that ↦ absurd (other.0 that.0)
      ]
      | inr this ↦ elim (changed_process w (λ x. record x { own = acts.own }) (λ x. refl) s.processes w this.1 this.2) [
        | inl that ↦ absurd (that.0 refl)
        | inr that ↦ (
          that.1,
          ap (process_of s.processes) this.0 ∙ that.2,
          subst (λ x. KeepsPosted (λ u. (v ≡ w) × (u ≡ t)) that.1 x)
              (ap (λ (x : Process). record x
              { threads = change_thread t (λ y. record y { posted = acts.next }) x.threads }) (sym that.3)
              ∙ sym this.3)
              (record {
                number = refl;
                slot = refl;
                program = refl;
                life = refl;
                posted = λ u n. ap posted_by
                    (thread_in-other t (λ y. record y { posted = acts.next }) (λ y. refl) that.1.threads u
                    (λ m. n (this.0, m)));
              }),
        )
      ]
    ]

-- Every process that lives on: only the acting thread's posted call is another.
pub alive-step : (script : Script) (s : Win32State) (d : Directive) (called : Option Call) (came : Outcome)
    (new : Win32State)
    → HaveRegisters script → IsWellFormed script s → StepBy script s d called came new → (v : ℕ) (p q : Process)
    → process_of s.processes v ≡ Some p → process_of new.processes v ≡ Some q → is_alive q.life ≡ true
    → KeepsPosted (IsTurnOfThread s d v) p q
alive-step script s (directive.Turn slot t) called came new registers h step v p q e f alive =
    by_bool (is_ready s slot t) (λ r turn.
    let live = turn_live script s slot t called came new registers h turn in
    let effect = turn_effect script s slot t called came new registers h turn in
    by_bool (is_live (process_of turn.mid.processes turn.process.number))
    (λ lives acts.
    let at = acts_back turn.mid turn.process.number t new acts v q f in
    let stays = alive-effect script s turn.process.number t turn.thread.posted turn.mid h live v at.0 at.1 p e
    (ap is_alive (sym at.2.life) ∙ alive) effect in
    record {
      number = at.2.number ∙ stays.number;
      slot = at.2.slot ∙ stays.slot;
      program = at.2.program ∙ stays.program;
      life = at.2.life ∙ stays.life;
      posted = λ u n. at.2.posted u
          (λ m. n (turn_number script s slot t called came new registers h turn ∙ ap Some (sym m.0), sym m.1))
          ∙ stays.posted u;
    })
    (λ dies same.
    let stays = alive-effect script s turn.process.number t turn.thread.posted turn.mid h live v q
    (subst (λ (n : Win32State). process_of n.processes v ≡ Some q) same f) p e alive effect in
    record {
      number = stays.number;
      slot = stays.slot;
      program = stays.program;
      life = stays.life;
      posted =
          λ u n. stays.posted u;
    })
    turn.goes_on)
    (λ r idle. keeps_same (IsTurnOfThread s (directive.Turn slot t) v) p q
    (same_some (process_of s.processes v) q p (subst (λ (n : Win32State). process_of n.processes v ≡ Some q) idle.2 f)
    e)) step
alive-step script s (directive.End slot) called came new registers h step v p q e f alive =
    by_answer (process_in s.processes slot) refl step.1
  where
    by_answer : (o : Option Process) → process_in s.processes slot ≡ o → EndStep s o came new
        → KeepsPosted (IsTurnOfThread s (directive.End slot) v) p q
    by_answer None i m = keeps_same (IsTurnOfThread s (directive.End slot) v) p q
        (same_some (process_of s.processes v) q p
        (subst (λ (n : Win32State). process_of n.processes v ≡ Some q) m.1 f) e)
    by_answer (Some r) i m =
        let found = process_in-found 1 s.next s.processes slot r h.formed.processes i in
        let live = found_live (process_of s.processes r.number) r found.0 found.1 in
        let stays = alive-effect script s r.number 0 call.Run new h live v q f p e alive
        (Ends r.number ended_from_outside live m.1) in
        record {
          number = stays.number;
          slot = stays.slot;
          program = stays.program;
          life = stays.life;
          posted =
              λ u n. stays.posted u;
        }
alive-step script s (directive.Key b) called came new registers h step v p q e f alive =
    keeps_same (IsTurnOfThread s (directive.Key b) v) p q
    (same_some (process_of s.processes v) q p (subst (λ (n : Win32State). process_of n.processes v ≡ Some q) step.2 f)
    e)

-- a posted call is that of a thread
pub posted_found : (o : Option Thread) (c : Call) → posted_by o ≡ Some c → (y : Thread) × (o ≡ Some y) × (y.posted ≡ c)
posted_found None c e = absurd (cc)
posted_found (Some y) c e = (y, refl, cc)

-- A process that is new has posted the opening call in each of its threads.
pub made-step : (script : Script) (s : Win32State) (d : Directive) (called : Option Call) (came : Outcome)
    (new : Win32State)
    → HaveRegisters script → IsWellFormed script s → StepBy script s d called came new → (v : ℕ) (q : Process)
    → process_of s.processes v ≡ None → process_of new.processes v ≡ Some q → is_alive q.life ≡ true
    → (u : ℕ) (x : Thread) → thread_in q.threads u ≡ Some x → x.posted ≡ opening_call
made-step script s (directive.Turn slot t) called came new registers h step v q e f alive u x g =
    by_bool (is_ready s slot t) (λ r turn.
    let live = turn_live script s slot t called came new registers h turn in
    let effect = turn_effect script s slot t called came new registers h turn in
    let apart = λ (n : v ≡ turn.process.number).
    absurd (let a : false ≡ true = rw (ap (process_of s.processes) (sym n) ∙ e) at live in cc) in
    by_bool (is_live (process_of turn.mid.processes turn.process.number))
    (λ lives acts.
    let at = acts_back turn.mid turn.process.number t new acts v q f in
    let y = posted_found (thread_in at.0.threads u) x.posted (sym (at.2.posted u (λ n. apart n.0)) ∙ ap posted_by g) in
    sym y.2 ∙ made-effect script s turn.process.number t turn.thread.posted turn.mid h live v at.0 at.1 e
    (ap is_alive (sym at.2.life) ∙ alive) effect u y.0 y.1)
    (λ dies same. made-effect script s turn.process.number t turn.thread.posted turn.mid h live v q
    (subst (λ (n : Win32State). process_of n.processes v ≡ Some q) same f) e alive effect u x g)
    turn.goes_on)
    (λ r idle. absurd (not_none (process_of s.processes v) q
    (subst (λ (n : Win32State). process_of n.processes v ≡ Some q) idle.2 f) e)) step
made-step script s (directive.End slot) called came new registers h step v q e f alive u x g =
    by_answer (process_in s.processes slot) refl step.1
  where
    by_answer : (o : Option Process) → process_in s.processes slot ≡ o → EndStep s o came new → x.posted ≡ opening_call
    by_answer None i m = absurd (not_none (process_of s.processes v) q
        (subst (λ (n : Win32State). process_of n.processes v ≡ Some q) m.1 f) e)
    by_answer (Some r) i m =
        let found = process_in-found 1 s.next s.processes slot r h.formed.processes i in
        let live = found_live (process_of s.processes r.number) r found.0 found.1 in
        made-effect script s r.number 0 call.Run new h live v q f e alive (Ends r.number ended_from_outside live m.1)
        u x g
made-step script s (directive.Key b) called came new registers h step v q e f alive u x g =
    absurd (not_none (process_of s.processes v) q
    (subst (λ (n : Win32State). process_of n.processes v ≡ Some q) step.2 f) e)
