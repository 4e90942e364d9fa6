-- Facts on which other threads rely: what stays through a directive.
use Rattle.std.proofs.Common.{◌≡◌, ◌≢◌, ◌⊎◌, inl, inr, ℕ, Bool, true, false, ◌&&◌, if◌then◌else◌, nat_eq, List, Option}
use Rattle.std.proofs.Common.{Some, None, refl, sym, ap, ◌∙◌, subst}
use Rattle.std.proofs.lemmas.Bool.{eqb-true}
use Rattle.w32_base.specs.declared.call.Call.{Call}
use Rattle.w32_base.specs.declared.entry.Directive.{Directive}
use Rattle.w32_base.specs.declared.entry.Directive.TheVariants as directive
use Rattle.w32_base.specs.declared.entry.Outcome.{Outcome}
use Rattle.script_spec.specs.declared.script.Script.{Script}
use Rattle.win32_spec.specs.Objects.{Ownership, Owned, Abandoned, left_by}
use Rattle.win32_spec.specs.State.{Object, Section, Mutex, ProcessObject, Process, Win32State}
use Rattle.win32_spec.specs.Lookup.{is_alive, process_of, process_in, object_of}
use Rattle.win32_spec.specs.Ready.{is_ready}
use Rattle.win32_spec.specs.Ends.{is_process_held, ended_process, with_ended}
use Rattle.win32_spec.specs.Run.{EndStep, StepBy, ended_from_outside}
use Rattle.win32_spec.specs.WellFormed.{IsWellFormed}
use Rattle.win32_spec.specs.LookupLaws.{same_some, and_true, process_of-change_other, process_in-found}
use Rattle.win32_spec.specs.LookupLaws.{rising-change_process}
use Rattle.win32_spec.specs.HeldLaws.{is-process_held}
use Rattle.win32_spec.specs.FormedLaws.{found_live}
use Rattle.win32_spec.specs.CallEffects.{by_bool}
use Rattle.win32_spec.specs.MemoryEffects.{HaveRegisters}
use Rattle.win32_spec.specs.Tame.{HoldsNext}
use Rattle.win32_spec.specs.EndedLaws.{StaysEnded, swept-ended, ended-effect}
use Rattle.win32_spec.specs.ObjectSteps.{left_by_end}
use Rattle.win32_spec.specs.Facts.{IsTurnOf, IsTurnOfThread, IsWrittenTo, IsExchange, ObjectAfter}
use Rattle.win32_spec.specs.FactLaws.{turn_live, turn_effect, turn_beside, turn_held, turn_object, other-step}

module _ (script : Script) (s : Win32State) (d : Directive) (called : Option Call) (came : Outcome) (new : Win32State)
    (registers : HaveRegisters script) (h : IsWellFormed script s) (step : StepBy script s d called came new) where
  -- the handles of a live process change only in its own turns
  pub handles-stay : (v : ℕ) (p q : Process) → process_of s.processes v ≡ Some p → process_of new.processes v ≡ Some q
      → is_alive q.life ≡ true → (IsTurnOf s d v → ⊥) → q.handles ≡ p.handles
  handles-stay v p q e f alive apart = let b =
      other-step script s d called came new registers h step v p q e f alive apart in b.handles

  -- its bytes change only in its own turns and by a `writemem` to it
  pub bytes-stay : (v : ℕ) (p q : Process) → process_of s.processes v ≡ Some p → process_of new.processes v ≡ Some q
      → is_alive q.life ≡ true → (IsTurnOf s d v → ⊥) → (IsWrittenTo s d called v → ⊥) → q.own ≡ p.own
  bytes-stay v p q e f alive apart unwritten =
      let b = other-step script s d called came new registers h step v p q e f alive apart in b.bytes unwritten

-- An object that is listed before a directive and after it.
pub object-step : (script : Script) (s : Win32State) (d : Directive) (called : Option Call) (came : Outcome)
    (new : Win32State)
    → HaveRegisters script → IsWellFormed script s → StepBy script s d called came new → (o : ℕ) (x y : Object)
    → object_of s.objects o ≡ Some x → object_of new.objects o ≡ Some y → ObjectAfter s d called x y
object-step script s (directive.Turn slot t) called came new registers h step o x y e f =
    by_bool (is_ready s slot t) (λ r turn. turn_object script s slot t called came new registers h turn o x y e f)
    (λ r idle. inl (same_some (object_of s.objects o) y x
    (ap (λ (n : Win32State). object_of n.objects o) (sym idle.2) ∙ f) e)) step
object-step script s (directive.End slot) called came new registers h step o x y e f =
    by_answer (process_in s.processes slot) refl step.1
  where
    by_answer : (a : Option Process) → process_in s.processes slot ≡ a → EndStep s a came new
        → ObjectAfter s (directive.End slot) called x y
    by_answer None i m = inl
        (same_some (object_of s.objects o) y x (ap (λ (n : Win32State). object_of n.objects o) (sym m.1) ∙ f) e)
    by_answer (Some r) i m =
        let found = process_in-found 1 s.next s.processes slot r h.formed.processes i in
        let live = found_live (process_of s.processes r.number) r found.0 found.1 in
        inr (inl (
          r.number,
          live,
          left_by_end s r.number ended_from_outside o x y e
              (subst (λ (n : Win32State). object_of n.objects o ≡ Some y) m.1 f),
        ))
object-step script s (directive.Key b) called came new registers h step o x y e f =
    inl (same_some (object_of s.objects o) y x (ap (λ (n : Win32State). object_of n.objects o) (sym step.2) ∙ f) e)

-- the process of an object is the same for ever, and a word of the section changes only by `cas` and `add`
pub words-stay : (script : Script) (s : Win32State) (d : Directive) (called : Option Call) (came : Outcome)
    (new : Win32State)
    → HaveRegisters script → IsWellFormed script s → StepBy script s d called came new → (o : ℕ) (words others : List ℕ)
    → object_of s.objects o ≡ Some (Section words) → object_of new.objects o ≡ Some (Section others)
    → (IsExchange called → ⊥) → others ≡ words
words-stay script s d called came new registers h step o words others e f unchanged =
    elim (object-step script s d called came new registers h step o (Section words) (Section others) e f) [
      | inl same ↦ is_words same
      | inr more ↦ elim more [
        | inl left ↦ is_words left.2
        | inr turn ↦ turn.3.holds.1 unchanged
      ]
    ]
  where
    is_words : Section others ≡ Section words → others ≡ words
    is_words g = cc

-- A mutex that a thread owns stays its own until it is released in a turn of that thread or its process ends.
pub owner-stays : (script : Script) (s : Win32State) (d : Directive) (called : Option Call) (came : Outcome)
    (new : Win32State)
    → HaveRegisters script → IsWellFormed script s → StepBy script s d called came new → (o v t : ℕ) (owner : Ownership)
    → object_of s.objects o ≡ Some (Mutex (Owned v t)) → object_of new.objects o ≡ Some (Mutex owner)
    → (IsTurnOfThread s d v t → ⊥) → (owner ≡ Owned v t) ⊎ (owner ≡ Abandoned)
owner-stays script s d called came new registers h step o v t owner e f apart =
    elim (object-step script s d called came new registers h step o (Mutex (Owned v t)) (Mutex owner) e f) [
      | inl same ↦ inl (is_owned same)
      | inr more ↦ elim more [
        | inl left ↦ by_end left.0 left.2
        | inr turn ↦ by_turn turn.0 turn.1 turn.2 turn.3.holds
      ]
    ]
  where
    is_owned : Mutex owner ≡ Mutex (Owned v t) → owner ≡ Owned v t
    is_owned g = cc

    by_end : (u : ℕ) → Mutex owner ≡ Mutex (left_by (Owned v t) u) → (owner ≡ Owned v t) ⊎ (owner ≡ Abandoned)
    by_end u g = by_test (nat_eq v u) (let k : owner ≡ left_by (Owned v t) u = cc in k)
      where
        by_test : (b : Bool) → owner ≡ (if b then Abandoned else Owned v t) → (owner ≡ Owned v t) ⊎ (owner ≡ Abandoned)
        by_test true k = inr k
        by_test false k = inl k

    by_turn : (w x : ℕ) → IsTurnOfThread s d w x → HoldsNext (IsExchange called) w x (Mutex (Owned v t)) (Mutex owner)
        → (owner ≡ Owned v t) ⊎ (owner ≡ Abandoned)
    by_turn w x acts holds = elim holds [
      | inl same ↦ inl same
      | inr more ↦
          let its : (nat_eq v w && nat_eq t x) ≡ true = elim more [ inl freed ↦ freed.0 | inr taken ↦ taken.0 ] in
          let both = and_true (nat_eq v w) (nat_eq t x) its in
          absurd (apart (subst (λ k. IsTurnOfThread s d k t) (sym (eqb-true v w both.0))
          (subst (λ k. IsTurnOfThread s d w k) (sym (eqb-true t x both.1)) acts)))
    ]

-- A process that has ended stands as it was while a handle names it.
pub ended-step : (script : Script) (s : Win32State) (d : Directive) (called : Option Call) (came : Outcome)
    (new : Win32State)
    → HaveRegisters script → IsWellFormed script s → StepBy script s d called came new → (v : ℕ) (p : Process)
    → process_of s.processes v ≡ Some p → is_alive p.life ≡ false → StaysEnded new v p
ended-step script s (directive.Turn slot t) called came new registers h step v p e dead =
    by_bool (is_ready s slot t) (λ r turn.
    let live = turn_live script s slot t called came new registers h turn in
    let mid = ended-effect script s turn.process.number t turn.thread.posted turn.mid h live v p e dead
    (turn_effect script s slot t called came new registers h turn) in
    let apart = λ (n : v ≡ turn.process.number).
    absurd (let a : is_alive p.life ≡ true = rw (ap (process_of s.processes) (sym n) ∙ e) at live in cc) in
    let same = turn_beside script s slot t called came new registers h turn v apart in
    elim mid [
      | inl f ↦ inl (same ∙ f)
      | inr f ↦ inr (same ∙ f.0, turn_held script s slot t called came new registers h turn v ∙ f.1)
    ]) (λ r idle. subst (λ (n : Win32State). StaysEnded n v p) (sym idle.2) (inl e)) step
ended-step script s (directive.End slot) called came new registers h step v p e dead =
    by_answer (process_in s.processes slot) refl step.1
  where
    by_answer : (a : Option Process) → process_in s.processes slot ≡ a → EndStep s a came new → StaysEnded new v p
    by_answer None i m = subst (λ (n : Win32State). StaysEnded n v p) (sym m.1) (inl e)
    by_answer (Some r) i m =
        let found = process_in-found 1 s.next s.processes slot r h.formed.processes i in
        let apart : v ≢ r.number = λ n. absurd (
        let f : p ≡ r = same_some (process_of s.processes v) p r e (ap (process_of s.processes) n ∙ found.0) in
        let a : is_alive p.life ≡ true = ap (λ (x : Process). is_alive x.life) f ∙ found.1 in cc) in
        subst (λ (n : Win32State). StaysEnded n v p) (sym m.1)
        (swept-ended (with_ended s r.number ended_from_outside) v p
        (rising-change_process r.number (ended_process ended_from_outside) (λ x. refl) 1 s.next s.processes
        h.formed.processes)
        (process_of-change_other r.number (ended_process ended_from_outside) (λ x. refl) s.processes v apart ∙ e) dead)
ended-step script s (directive.Key b) called came new registers h step v p e dead =
    subst (λ (n : Win32State). StaysEnded n v p) (sym step.2) (inl e)

pub ended-stays : (script : Script) (s : Win32State) (d : Directive) (called : Option Call) (came : Outcome)
    (new : Win32State)
    → HaveRegisters script → IsWellFormed script s → StepBy script s d called came new → (v o : ℕ) (p : Process)
    → process_of s.processes v ≡ Some p → is_alive p.life ≡ false → object_of new.objects o ≡ Some (ProcessObject v)
    → process_of new.processes v ≡ Some p
ended-stays script s d called came new registers h step v o p e dead held =
    elim (ended-step script s d called came new registers h step v p e dead) [
      | inl f ↦ f
      | inr f ↦ absurd (let g : is_process_held new.objects v ≡ true = is-process_held new.objects v o held in let k =
          f.1 in cc)
    ]
