-- What a directive leaves of the processes whose turn it isn't, of those that have ended, and of objects.
use Rattle.std.proofs.Common.{◌≡◌, ◌≢◌, inl, inr, ℕ, suc, true, Option, Some, None, refl, sym, ap, ◌∙◌, subst, arith}
use Rattle.w32_base.specs.declared.call.Call.{Call}
use Rattle.w32_base.specs.declared.call.Call.TheVariants as call
use Rattle.w32_base.specs.declared.entry.Directive.{Directive}
use Rattle.w32_base.specs.declared.entry.Directive.TheVariants as directive
use Rattle.w32_base.specs.declared.entry.Outcome.{Outcome}
use Rattle.script_spec.specs.declared.script.Script.{Script}
use Rattle.win32_spec.specs.State.{Object, Process, Win32State}
use Rattle.win32_spec.specs.Lookup.{is_alive, process_of, is_live, process_in, number_of, number_in, change_process}
use Rattle.win32_spec.specs.Lookup.{change_thread, object_of}
use Rattle.win32_spec.specs.Ready.{is_ready}
use Rattle.win32_spec.specs.Ends.{is_process_held}
use Rattle.win32_spec.specs.Run.{Acts, ReadyTurn, EndStep, StepBy, ended_from_outside}
use Rattle.win32_spec.specs.WellFormed.{IsWellFormed}
use Rattle.win32_spec.specs.LookupLaws.{same_some, process_of-change_other, process_in-found}
use Rattle.win32_spec.specs.FormedLaws.{found_live}
use Rattle.win32_spec.specs.Tame.{ProcessBecomes, ObjectBecomes}
use Rattle.win32_spec.specs.TameSteps.{process_same}
use Rattle.win32_spec.specs.CallEffects.{by_bool}
use Rattle.win32_spec.specs.MemoryEffects.{HaveRegisters}
use Rattle.win32_spec.specs.TerminalEffects.{effect_of_call}
use Rattle.win32_spec.specs.Effects.{MayWrite, CallEffect, Ends}
use Rattle.win32_spec.specs.StepLaws.{acting}
use Rattle.win32_spec.specs.OtherLaws.{becomes_trans, other-effect}
use Rattle.win32_spec.specs.ObjectSteps.{object-effect}
use Rattle.win32_spec.specs.Facts.{IsTurnOf, IsWrittenTo, IsExchange, ObjectAfter}

-- less may change
becomes_weaken : (script : Script) (A C D F : Type 0) (p q : Process) → (A → C) → (D → F)
    → ProcessBecomes script A D ⊥ p q → ProcessBecomes script C F ⊥ p q
becomes_weaken script A C D F p q f g h =
    becomes_trans script A ⊥ C D ⊥ F ⊥ ⊥ ⊥ p q q f (λ n. absurd n) g (λ n. absurd n) (λ n. n) (λ n. n) h
    (process_same script ⊥ ⊥ ⊥ q)

-- a thread that goes on after its call leaves the other processes and all objects
pub acts_beside : (s : Win32State) (w t : ℕ) (new : Win32State) (v : ℕ) → v ≢ w → Acts s w t new
    → process_of new.processes v ≡ process_of s.processes v
acts_beside s w t new v d acts =
    subst (λ (n : Win32State). process_of n.processes v ≡ process_of s.processes v) (sym acts.after)
    (process_of-change_other w
    (λ q. record q { threads = change_thread t (λ x. record x { posted = acts.next }) q.threads }) (λ q. refl)
    (change_process w (λ q. record q { own = acts.own }) s.processes) v d
    ∙ process_of-change_other w (λ q. record q { own = acts.own }) (λ q. refl) s.processes v d)

pub acts_objects : (s : Win32State) (w t : ℕ) (new : Win32State) (o : ℕ) → Acts s w t new
    → object_of new.objects o ≡ object_of s.objects o
acts_objects s w t new o acts = ap (λ (n : Win32State). object_of n.objects o) acts.after

-- A turn.
module _ (script : Script) (s : Win32State) (slot t : ℕ) (called : Option Call) (came : Outcome) (new : Win32State)
    (registers : HaveRegisters script) (h : IsWellFormed script s) (turn : ReadyTurn script s slot t called came new)
  where
    abbrev actor : ℕ
    actor = turn.process.number

    pub turn_number : number_in s slot ≡ Some turn.process.number
    turn_number = ap number_of turn.posted.thread.process

    pub turn_live : is_live (process_of s.processes turn.process.number) ≡ true
    turn_live = let at = acting script s slot t turn.process turn.thread h.formed turn.posted.thread in at.live

    pub turn_effect : CallEffect script s turn.process.number t turn.thread.posted turn.mid
    turn_effect =
        let at = acting script s slot t turn.process turn.thread h.formed turn.posted.thread in
        effect_of_call script s turn.process.number t turn.thread.posted turn.reply turn.mid registers h.formed at.live
        at.few turn.posted.step

    pub turn_beside : (v : ℕ) → v ≢ turn.process.number → process_of new.processes v ≡ process_of turn.mid.processes v
    turn_beside v d =
        by_bool (is_live (process_of turn.mid.processes turn.process.number))
        (λ live acts. acts_beside turn.mid turn.process.number t new v d acts)
        (λ dead e. ap (λ (n : Win32State). process_of n.processes v) e) turn.goes_on

    pub turn_objects : (o : ℕ) → object_of new.objects o ≡ object_of turn.mid.objects o
    turn_objects o =
        by_bool (is_live (process_of turn.mid.processes turn.process.number))
        (λ live acts. acts_objects turn.mid turn.process.number t new o acts)
        (λ dead e. ap (λ (n : Win32State). object_of n.objects o) e) turn.goes_on

    pub turn_held : (v : ℕ) → is_process_held new.objects v ≡ is_process_held turn.mid.objects v
    turn_held v =
        by_bool (is_live (process_of turn.mid.processes turn.process.number))
        (λ live acts. ap (λ (n : Win32State). is_process_held n.objects v) acts.after)
        (λ dead e. ap (λ (n : Win32State). is_process_held n.objects v) e) turn.goes_on

    pub turn_other : (v : ℕ) (p q : Process) → process_of s.processes v ≡ Some p → process_of new.processes v ≡ Some q
        → is_alive q.life ≡ true
        → (number_in s slot ≡ Some v → ⊥)
        → ProcessBecomes script (IsWrittenTo s (directive.Turn slot t) called v) ⊥ ⊥ p q
    turn_other v p q e f alive apart =
        let d : v ≢ turn.process.number = λ n. apart (turn_number ∙ ap Some (sym n)) in
        becomes_weaken script (MayWrite s turn.process.number turn.thread.posted v)
        (IsWrittenTo s (directive.Turn slot t) called v)
        (v ≡ turn.process.number) ⊥ p q
        (λ written. elim written [
          | inl n ↦ absurd (d n)
          | inr n ↦ subst (λ c. IsWrittenTo s (directive.Turn slot t) c v) (sym turn.carried_out)
              (turn.process.number, turn_number, n)
        ]) d
        (other-effect script s turn.process.number t turn.thread.posted turn.mid h turn_effect v p q d e
        (sym (turn_beside v d) ∙ f) alive)

    pub turn_object : (o : ℕ) (x y : Object) → object_of s.objects o ≡ Some x → object_of new.objects o ≡ Some y
        → ObjectAfter s (directive.Turn slot t) called x y
    turn_object o x y e f =
        elim (object-effect script s turn.process.number t turn.thread.posted turn.mid turn_effect o x y e
        (sym (turn_objects o) ∙ f)) [
          | inl becomes ↦ inr (inr (
            turn.process.number,
            t,
            (turn_number, refl),
            subst (λ c. ObjectBecomes (IsExchange c) turn.process.number t x y) (sym turn.carried_out) becomes,
          ))
          | inr left ↦ inr (inl left)
        ]

-- A process whose turn it isn't and that lives on: its number, slot, program, handles, modules and posted calls are as
-- before, and its bytes too unless it was written to.
pub other-step : (script : Script) (s : Win32State) (d : Directive) (called : Option Call) (came : Outcome)
    (new : Win32State)
    → HaveRegisters script → IsWellFormed script s → StepBy script s d called came new → (v : ℕ) (p q : Process)
    → process_of s.processes v ≡ Some p → process_of new.processes v ≡ Some q → is_alive q.life ≡ true
    → (IsTurnOf s d v → ⊥)
    → ProcessBecomes script (IsWrittenTo s d called v) ⊥ ⊥ p q
other-step script s (directive.Turn slot t) called came new registers h step v p q e f alive apart =
    by_bool (is_ready s slot t)
    (λ r turn. turn_other script s slot t called came new registers h turn v p q e f alive apart)
    (λ r idle. same_process script (IsWrittenTo s (directive.Turn slot t) called v) p q
    (same_some (process_of s.processes v) q p (ap (λ (n : Win32State). process_of n.processes v) (sym idle.2) ∙ f) e))
    step
  where
    same_process : (script : Script) (A : Type 0) (p q : Process) → q ≡ p → ProcessBecomes script A ⊥ ⊥ p q
    same_process script A p q n = subst (λ x. ProcessBecomes script A ⊥ ⊥ p x) (sym n) (process_same script A ⊥ ⊥ p)
other-step script s (directive.End slot) called came new registers h step v p q e f alive apart =
    by_answer (process_in s.processes slot) refl step.1
  where
    by_answer : (o : Option Process) → process_in s.processes slot ≡ o → EndStep s o came new
        → ProcessBecomes script (IsWrittenTo s (directive.End slot) called v) ⊥ ⊥ p q
    by_answer None i m =
        subst (λ x. ProcessBecomes script (IsWrittenTo s (directive.End slot) called v) ⊥ ⊥ p x)
        (sym (same_some (process_of s.processes v) q p
        (ap (λ (n : Win32State). process_of n.processes v) (sym m.1) ∙ f) e))
        (process_same script (IsWrittenTo s (directive.End slot) called v) ⊥ ⊥ p)
    by_answer (Some r) i m =
        let found = process_in-found 1 s.next s.processes slot r h.formed.processes i in
        becomes_weaken script (MayWrite s (suc v) call.Run v) (IsWrittenTo s (directive.End slot) called v)
        (v ≡ suc v) ⊥ p q
        (λ written. elim written [ inl n ↦ absurd (omega arith) | inr n ↦ absurd n ]) (λ n. omega arith)
        (other-effect script s (suc v) 0 call.Run new h
        (Ends r.number ended_from_outside (found_live (process_of s.processes r.number) r found.0 found.1) m.1) v p q
        (λ n. omega arith) e f alive)
other-step script s (directive.Key b) called came new registers h step v p q e f alive apart =
    subst (λ x. ProcessBecomes script (IsWrittenTo s (directive.Key b) called v) ⊥ ⊥ p x)
    (sym (same_some (process_of s.processes v) q p
    (ap (λ (n : Win32State). process_of n.processes v) (sym step.2) ∙ f) e))
    (process_same script (IsWrittenTo s (directive.Key b) called v) ⊥ ⊥ p)
