-- A machine of which is known how many turns it took at most: each turn and each post is allowed again.
use Rattle.std.proofs.Common.{◌≡◌, ◌⊎◌, inl, inr, ◌∙◌, ℕ, zero, suc, ◌+◌, ◌≤◌, Bool, true, false, nat_eq, if◌then◌else◌}
use Rattle.std.proofs.Common.{Option, Some, None, IsSome, List, [], ◌∷◌, refl, sym, subst, arith}
use Rattle.std.proofs.lemmas.Bool.{eqb-true}
use Rattle.w32_base.specs.declared.call.Call.{Call}
use Rattle.w32_base.specs.declared.entry.Directive.TheVariants as directive
use Rattle.w32_base.specs.declared.entry.Outcome.{Outcome}
use Rattle.script_spec.specs.declared.script.Script.{Script}
use Rattle.script_spec.specs.Validity.{IsValid}
use Rattle.win32_spec.specs.State.{Thread, Process, Win32State}
use Rattle.win32_spec.specs.Lookup.{process_in, thread_in, thread_of, thread_at, number_of, number_in}
use Rattle.win32_spec.specs.Lookup.{with_posted}
use Rattle.win32_spec.specs.Making.{threads_of}
use Rattle.win32_spec.specs.Opening.{IsOpening}
use Rattle.win32_spec.specs.Run.{PostedStep, EndStep, Posts, StepBy, with_key}
use Rattle.win32_spec.specs.WellFormed.{AreThreads, IsWellFormed}
use Rattle.win32_spec.specs.FormedLaws.{of_live}
use Rattle.win32_spec.specs.KeepLaws.{wellformed-effect}
use Rattle.win32_spec.specs.LookupLaws.{same, process_in-found}
use Rattle.win32_spec.specs.MemoryEffects.{HaveRegisters}
use Rattle.win32_spec.specs.OpeningLaws.{wellformed-opening}
use Rattle.win32_spec.specs.StepLaws.{acting, posted_tame, wellformed-key, wellformed-step}
use Rattle.win32_spec.specs.TameLaws.{wellformed-tame}
use Rattle.win32_spec.specs.TerminalEffects.{effect_of_call}
use Rattle.win32_spec.specs.ValidLaws.{registers-valid}
use Rattle.w32_machine.specs.declared.machine.turn.Turned.{Turned}
use Rattle.w32_machine.specs.declared.machine.turn.Turned.TheVariants.{Idle, Done}
use Rattle.w32_machine.specs.Ending.{outcome_of_end}
use Rattle.w32_machine.specs.Running.{Running}
use Rattle.w32_machine.specs.Turning.{Turns}
use Rattle.machine_stage.specs.Numbering.{next_most_effect}

-- a well-formed state, which at most so many turns made
pub record IsStaged (turns : ℕ) (m : Running) : Type 0 where
  pub registers : HaveRegisters m.script
  pub formed : IsWellFormed m.script m.win32
  pub few : m.win32.next ≤ turns + 3

-- at its opening
pub staged_opening : (script : Script) (m : Running) → IsValid script → IsOpening script m.win32 → m.script ≡ script
    → IsStaged 0 m
staged_opening script m valid opening same = record {
  registers = subst HaveRegisters (sym same) (registers-valid script valid);
  formed = subst (λ x. IsWellFormed x m.win32) (sym same) (wellformed-opening script m.win32 valid.few_modules opening);
  few = subst (λ (s : Win32State). s.next ≤ 3) (sym opening.state) (omega arith);
}

-- after a turn
pub staged_turn : (turns slot t : ℕ) (old new : Running) (turned : Turned) → IsStaged turns old
    → Turns old slot t turned new.win32 → new.script ≡ old.script
    → IsStaged (turns + 1) new
staged_turn turns slot t old new Idle h turn same = record {
  registers = subst HaveRegisters (sym same) h.registers;
  formed = subst (λ x. IsWellFormed x new.win32) (sym same)
      (subst (λ s. IsWellFormed old.script s) (sym turn.1) h.formed);
  few = subst (λ (s : Win32State). s.next ≤ turns + 1 + 3) (sym turn.1) (omega (arith, h.few));
}
staged_turn turns slot t old new (Done r) h turn same = by_step turn.1.0 turn.1.1 turn.1.2
  where
    by_step : (p : Process) (x : Thread) → PostedStep old.script old.win32 slot t p x r new.win32
        → IsStaged (turns + 1) new
    by_step p x posted =
        let at = acting old.script old.win32 slot t p x h.formed.formed posted.thread in
        let effect = effect_of_call old.script old.win32 p.number t x.posted r new.win32 h.registers h.formed.formed
        at.live at.few posted.step in
        let most : new.win32.next ≤ old.win32.next + 1 =
        next_most_effect old.script old.win32 p.number t x.posted new.win32 effect in
        record {
          registers = subst HaveRegisters (sym same) h.registers;
          formed = subst (λ x. IsWellFormed x new.win32) (sym same)
              (wellformed-effect old.script old.win32 p.number t x.posted new.win32 h.formed at.live at.few effect);
          few = omega (arith, h.few, most);
        }

-- after a post
pub staged_post : (turns slot t : ℕ) (next : Call) (old new : Running) → IsStaged turns old
    → IsSome (thread_at old.win32 slot t) → Posts old.win32 slot t next new.win32 → new.script ≡ old.script
    → IsStaged turns new
staged_post turns slot t next old new h there posts same =
    by_process (process_in old.win32.processes slot) refl there
  where
    by_thread : (p : Process) (o : Option Thread) → process_in old.win32.processes slot ≡ Some p
        → thread_in p.threads t ≡ o → IsSome o → IsStaged turns new
    by_thread p None e f some = let never : false ≡ true = some in absurd (cc)
    by_thread p (Some x) e f some =
        let at = acting old.script old.win32 slot t p x h.formed.formed (record { process = e; thread = f }) in
        let after : new.win32 ≡ with_posted old.win32 p.number t next = posts p e in
        record {
          registers = subst HaveRegisters (sym same) h.registers;
          formed = subst (λ y. IsWellFormed y new.win32) (sym same)
              (subst (λ s. IsWellFormed old.script s) (sym after)
              (wellformed-tame old.script (λ v. v ≡ p.number) ⊥ (Unit {0}) p.number t old.win32
              (with_posted old.win32 p.number t next) h.formed
              (posted_tame old.script old.win32 p.number t next at.live) at.live at.few));
          few = subst (λ (s : Win32State). s.next ≤ turns + 3) (sym after) h.few;
        }

    by_process : (o : Option Process) → process_in old.win32.processes slot ≡ o → IsSome (thread_of o t)
        → IsStaged turns new
    by_process None e some = let never : false ≡ true = some in absurd (cc)
    by_process (Some p) e some = by_thread p (thread_in p.threads t) e refl some

-- after the end of a process from outside
pub staged_end : (turns slot : ℕ) (ended : Option ℕ) (old new : Running) → IsStaged turns old
    → StepBy old.script old.win32 (directive.End slot) None (outcome_of_end ended) new.win32 → new.script ≡ old.script
    → IsStaged turns new
staged_end turns slot ended old new h step same = record {
  registers = subst HaveRegisters (sym same) h.registers;
  formed = subst (λ x. IsWellFormed x new.win32) (sym same)
      (wellformed-step old.script old.win32 (directive.End slot) None (outcome_of_end ended) new.win32 h.registers
      h.formed step);
  few = by_process (process_in old.win32.processes slot) (outcome_of_end ended) step.1;
}
  where
    by_process : (o : Option Process) (came : Outcome) → EndStep old.win32 o came new.win32 → new.win32.next ≤ turns + 3
    by_process None came e = subst (λ (s : Win32State). s.next ≤ turns + 3) (sym e.1) h.few
    by_process (Some p) came e = subst (λ (s : Win32State). s.next ≤ turns + 3) (sym e.1) h.few

-- after a key
pub staged_key : (turns b : ℕ) (old new : Running) → IsStaged turns old → new.win32 ≡ with_key old.win32 b
    → new.script ≡ old.script → IsStaged turns new
staged_key turns b old new h after same = record {
  registers = subst HaveRegisters (sym same) h.registers;
  formed = subst (λ x. IsWellFormed x new.win32) (sym same)
      (subst (λ s. IsWellFormed old.script s) (sym after) (wellformed-key old.script old.win32 b h.formed));
  few = subst (λ (s : Win32State). s.next ≤ turns + 3) (sym after) h.few;
}

abbrev IsIn : ℕ → List ℕ → Type 0
IsIn t [] = ⊥
IsIn t (n ∷ ts) = (n ≡ t) ⊎ IsIn t ts

thread_in-there : (ts : List ℕ) (xs : List Thread) (t : ℕ) → AreThreads ts xs → IsIn t ts → IsSome (thread_in xs t)
thread_in-there [] xs t h i = absurd i
thread_in-there (n ∷ ts) [] t h i = absurd h
thread_in-there (n ∷ ts) (x ∷ xs) t h i = by_test (nat_eq x.number t) refl (thread_in-there ts xs t h.2)
  where
    by_test : (b : Bool) → nat_eq x.number t ≡ b → (IsIn t ts → IsSome (thread_in xs t))
        → IsSome (if b then Some x else thread_in xs t)
    by_test true e rest = refl
    by_test false e rest = elim i [
      | inl f ↦ let never : true ≡ false = sym (same x.number t (h.0 ∙ f)) ∙ e in absurd (cc)
      | inr g ↦ rest g
    ]

few_threads : (slot t : ℕ) → t ≤ 2 → (slot ≡ 0 → t ≤ 1) → IsIn t (threads_of slot)
few_threads zero zero few host = inl refl
few_threads zero (suc zero) few host = inr (inl refl)
few_threads zero (suc (suc t)) few host = absurd (let l = host refl in omega (arith, l))
few_threads (suc slot) zero few host = inl refl
few_threads (suc slot) (suc zero) few host = inr (inl refl)
few_threads (suc slot) (suc (suc zero)) few host = inr (inr (inl refl))
few_threads (suc slot) (suc (suc (suc t))) few host = absurd (omega (arith, few))

-- a process that lives in a slot has its threads: two in slot 0, and three in every other one
pub has_thread : (turns slot t w : ℕ) (m : Running) → IsStaged turns m → number_in m.win32 slot ≡ Some w → t ≤ 2
    → (slot ≡ 0 → t ≤ 1) → IsSome (thread_at m.win32 slot t)
has_thread turns slot t w m h stands few host = by_process (process_in m.win32.processes slot) refl stands
  where
    by_process : (o : Option Process) → process_in m.win32.processes slot ≡ o → number_of o ≡ Some w
        → IsSome (thread_of o t)
    by_process None e n = absurd (cc)
    by_process (Some p) e n =
        let found = process_in-found 1 m.win32.next m.win32.processes slot p h.formed.formed.processes e in
        let live = of_live m.script m.win32.objects p p.life found.1 (h.formed.formed.process p.number p found.0) in
        thread_in-there (threads_of p.slot) p.threads t live.threads
        (subst (λ k. IsIn t (threads_of k)) (sym found.2) (few_threads slot t few host))

thread_in-none : (ts : List ℕ) (xs : List Thread) (t : ℕ) → AreThreads ts xs → (IsIn t ts → ⊥)
    → thread_in xs t ≡ None
thread_in-none [] [] t h never = refl
thread_in-none [] (x ∷ xs) t h never = absurd h
thread_in-none (n ∷ ts) [] t h never = absurd h
thread_in-none (n ∷ ts) (x ∷ xs) t h never =
    by_test (nat_eq x.number t) refl (thread_in-none ts xs t h.2 (λ i. never (inr i)))
  where
    by_test : (b : Bool) → nat_eq x.number t ≡ b → thread_in xs t ≡ None
        → (if b then Some x else thread_in xs t) ≡ None
    by_test true e rest = absurd (never (inl (sym h.0 ∙ eqb-true x.number t e)))
    by_test false e rest = rest

-- the host has two threads
pub no_third_thread : (turns t : ℕ) (m : Running) → IsStaged turns m → 2 ≤ t → thread_at m.win32 0 t ≡ None
no_third_thread turns t m h third = by_process (process_in m.win32.processes 0) refl
  where
    never : IsIn t (0 ∷ 1 ∷ []) → ⊥
    never (inl e) = omega (arith, e, third)
    never (inr (inl e)) = omega (arith, e, third)
    never (inr (inr i)) = i

    by_process : (o : Option Process) → process_in m.win32.processes 0 ≡ o → thread_of o t ≡ None
    by_process None e = refl
    by_process (Some p) e =
        let found = process_in-found 1 m.win32.next m.win32.processes 0 p h.formed.formed.processes e in
        let live = of_live m.script m.win32.objects p p.life found.1 (h.formed.formed.process p.number p found.0) in
        thread_in-none (threads_of 0) p.threads t
        (subst (λ k. AreThreads (threads_of k) p.threads) found.2 live.threads) never
