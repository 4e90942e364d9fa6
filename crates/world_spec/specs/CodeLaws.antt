-- A process that has ended after a step had ended before it just so, or was alive and ended in the step. An `end` ends
-- one process, with its own code.
use Rattle.std.proofs.Common.{◌≡◌, ◌≢◌, ◌⊎◌, inl, inr, ℕ, ◌+◌, Bool, true, false, List, Option, Some, None}
use Rattle.std.proofs.Common.{refl, sym, ap, ◌∙◌, subst}
use Rattle.std.proofs.lemmas.Bool.{cases_eq, eqb-true}
use Rattle.w32_base.specs.declared.call.Call.{Call}
use Rattle.w32_base.specs.declared.call.Call.TheVariants as call
use Rattle.w32_base.specs.declared.entry.Directive.{Directive}
use Rattle.w32_base.specs.declared.entry.Directive.TheVariants as directive
use Rattle.w32_base.specs.declared.entry.Outcome.{Outcome}
use Rattle.script_spec.specs.declared.script.Script.{Script}
use Rattle.win32_spec.specs.CallEffects.{by_bool}
use Rattle.win32_spec.specs.Effects.{MayWrite, CallEffect, Changes, Opens, Adds, AddsPipe, Makes, Closes, Ends}
use Rattle.win32_spec.specs.Ends.{held_objects, objects_left_by, ended_process, with_end}
use Rattle.win32_spec.specs.FactLaws.{turn_live, turn_effect, turn_beside}
use Rattle.win32_spec.specs.FormedLaws.{live_found, found_live}
use Rattle.win32_spec.specs.Handles.{Handle, with_handle, without_handle, listed_handles}
use Rattle.win32_spec.specs.HeldLaws.{kept_process}
use Rattle.win32_spec.specs.Lookup.{is_alive, process_of, is_live, process_in, change_process, add_process}
use Rattle.win32_spec.specs.LookupLaws.{same, same_some, not_none, changed_process, process_in-found}
use Rattle.win32_spec.specs.LookupLaws.{process_of-add_new, process_of-add_other, process_of-change_other}
use Rattle.win32_spec.specs.LookupLaws.{rising-change_process}
use Rattle.win32_spec.specs.Making.{new_process}
use Rattle.win32_spec.specs.MemoryEffects.{HaveRegisters}
use Rattle.win32_spec.specs.Named.{handles_by}
use Rattle.win32_spec.specs.Ready.{is_ready}
use Rattle.win32_spec.specs.Run.{EndStep, StepBy, ended_from_outside}
use Rattle.win32_spec.specs.StableFacts.{ended-step}
use Rattle.win32_spec.specs.State.{Ended, Process, Win32State}
use Rattle.win32_spec.specs.Tame.{ProcessBecomes}
use Rattle.win32_spec.specs.TameLaws.{both_back}
use Rattle.win32_spec.specs.WellFormed.{IsWellFormed}
use Rattle.layer_spec.specs.Discipline.{is_end}
use Rattle.layer_spec.specs.Moment.{HistoryStep}
use Rattle.layer_spec.specs.Turns.{is_live_process, is_end_of}
use Rattle.world_spec.specs.EndLaws.{process-end_stays}
use Rattle.world_spec.specs.Facts.{EndsWith}

-- A process of a number that had none is alive after a call.
module _ (script : Script) (s : Win32State) (w t : ℕ) (c : Call) (new : Win32State) (h : IsWellFormed script s)
    (live : is_live (process_of s.processes w) ≡ true) (v : ℕ) (none : process_of s.processes v ≡ None) where
  not_there : v ≢ w
  not_there n = let a : false ≡ true = rw (ap (process_of s.processes) (sym n) ∙ none) at live in cc

  aside : (ps : List Process) (hs : List Handle)
      → process_of (change_process w (λ x. record x { handles = hs }) ps) v ≡ process_of ps v
  aside ps hs = process_of-change_other w (λ x. record x { handles = hs }) (λ x. refl) ps v not_there

  never : (q : Process) → process_of s.processes v ≡ Some q → is_alive q.life ≡ true
  never q e = absurd (not_none (process_of s.processes v) q e none)

  after_is : (after : Win32State) → new ≡ after → (q : Process) → process_of new.processes v ≡ Some q
      → process_of after.processes v ≡ Some q
  after_is after is q f = subst (λ (n : Win32State). process_of n.processes v ≡ Some q) is f

  made_alive : (q : Process) → process_of new.processes v ≡ Some q → CallEffect script s w t c new
      → is_alive q.life ≡ true
  made_alive q f (Changes tame) =
      let r = both_back (ProcessBecomes script (MayWrite s w c v) (v ≡ w) ⊥) (process_of s.processes v)
      (process_of new.processes v) q (tame.processes.process v) f in
      absurd (not_none (process_of s.processes v) r.0 r.1 none)
  made_alive q f (Opens names listed room answer r handled) =
      never q (sym (aside s.processes (with_handle (handles_by s w) handled.handle names))
      ∙ after_is _ handled.after q f)
  made_alive q f (Adds x rule only room r added) =
      never q (sym (aside s.processes (with_handle (handles_by s w) added.handled.handle added.number))
      ∙ after_is _ added.handled.after q f)
  made_alive q f (AddsPipe room r pipe) =
      never q (sym (aside s.processes
      (with_handle (with_handle (handles_by s w) pipe.read_end pipe.number) pipe.write_end (pipe.number + 1)))
      ∙ after_is _ pipe.after q f)
  made_alive q f (Makes slot program_no program list r listed lowest room made) =
      let p = new_process s.next slot program_no program 1 (listed_handles (handles_by s w) list) in
      let g : process_of (add_process p s.processes) v ≡ Some q =
      sym (aside (add_process p s.processes) (with_handle (handles_by s w) made.handled.handle made.number))
      ∙ after_is _ made.handled.after q f in
      elim (cases_eq v s.next) [
        | inl n ↦
            let found : process_of (add_process p s.processes) v ≡ Some p =
            ap (process_of (add_process p s.processes)) n
            ∙ process_of-add_new p s.processes (ap (process_of s.processes) (sym n) ∙ none) in
            ap (λ (x : Process). is_alive x.life)
            (same_some (process_of (add_process p s.processes) v) q p g found)
        | inr d ↦ never q (sym (process_of-add_other p s.processes v d) ∙ g)
      ]
  made_alive q f (Closes k after) =
      let hs = without_handle (handles_by s w) k in
      let ps = change_process w (λ x. record x { handles = hs }) s.processes in
      let rising = rising-change_process w (λ x. record x { handles = hs }) (λ x. refl) 1 s.next s.processes
      h.formed.processes in
      never q (sym (aside s.processes hs)
      ∙ (kept_process (held_objects ps s.objects) 1 s.next ps v q rising (after_is _ after q f)).0)
  made_alive q f (Ends u code alive after) =
      let ps = change_process u (ended_process code) s.processes in
      let rising = rising-change_process u (ended_process code) (λ x. refl) 1 s.next s.processes h.formed.processes in
      let d : v ≢ u = λ n. absurd
      (let a : false ≡ true = rw (ap (process_of s.processes) (sym n) ∙ none) at alive in cc) in
      never q (sym (process_of-change_other u (ended_process code) (λ x. refl) s.processes v d)
      ∙ (kept_process (held_objects ps (objects_left_by u s.objects)) 1 s.next ps v q rising (after_is _ after q f)).0)

made_step : (script : Script) (s : Win32State) (d : Directive) (called : Option Call) (came : Outcome)
    (new : Win32State) → HaveRegisters script → IsWellFormed script s → StepBy script s d called came new → (v : ℕ)
    → process_of s.processes v ≡ None → (q : Process) → process_of new.processes v ≡ Some q → is_alive q.life ≡ true
made_step script s (directive.Turn slot t) called came new registers h step v none q f =
    by_bool (is_ready s slot t) (λ r turn.
    let live = turn_live script s slot t called came new registers h turn in
    let apart : v ≢ turn.process.number = λ n. absurd
    (let a : false ≡ true = rw (ap (process_of s.processes) (sym n) ∙ none) at live in cc) in
    made_alive script s turn.process.number t turn.thread.posted turn.mid h live v none q
    (sym (turn_beside script s slot t called came new registers h turn v apart) ∙ f)
    (turn_effect script s slot t called came new registers h turn))
    (λ r idle. absurd (not_none (process_of s.processes v) q
    (subst (λ (n : Win32State). process_of n.processes v ≡ Some q) idle.2 f) none)) step
made_step script s (directive.End slot) called came new registers h step v none q f =
    by_answer (process_in s.processes slot) refl step.1
  where
    by_answer : (o : Option Process) → process_in s.processes slot ≡ o → EndStep s o came new → is_alive q.life ≡ true
    by_answer None i m = absurd (not_none (process_of s.processes v) q
        (subst (λ (n : Win32State). process_of n.processes v ≡ Some q) m.1 f) none)
    by_answer (Some r) i m =
        let found = process_in-found 1 s.next s.processes slot r h.formed.processes i in
        let live = found_live (process_of s.processes r.number) r found.0 found.1 in
        made_alive script s r.number 0 call.Run new h live v none q f (Ends r.number ended_from_outside live m.1)
made_step script s (directive.Key b) called came new registers h step v none q f =
    absurd (not_none (process_of s.processes v) q
    (subst (λ (n : Win32State). process_of n.processes v ≡ Some q) step.2 f) none)

-- Who has ended after a step stood so before it, or was alive.
pub ended-was : (script : Script) (s : Win32State) (d : Directive) (called : Option Call) (came : Outcome)
    (new : Win32State) → HaveRegisters script → IsWellFormed script s → StepBy script s d called came new → (v : ℕ)
    (q : Process) → process_of new.processes v ≡ Some q → is_alive q.life ≡ false
    → (process_of s.processes v ≡ Some q) ⊎ (is_live_process s v ≡ true)
ended-was script s d called came new registers h step v q f dead = by_process (process_of s.processes v) refl
  where
    by_life : (p : Process) → process_of s.processes v ≡ Some p → (b : Bool) → is_alive p.life ≡ b
        → (process_of s.processes v ≡ Some q) ⊎ (is_live_process s v ≡ true)
    by_life p e true alive = inr (found_live (process_of s.processes v) p e alive)
    by_life p e false ended = elim (ended-step script s d called came new registers h step v p e ended) [
      | inl stands ↦ inl (e ∙ ap (λ x. Some x) (same_some (process_of new.processes v) p q stands f))
      | inr gone ↦ absurd (not_none (process_of new.processes v) q f gone.0)
    ]

    by_process : (o : Option Process) → process_of s.processes v ≡ o
        → (process_of s.processes v ≡ Some q) ⊎ (is_live_process s v ≡ true)
    by_process None e = absurd (
        let a : true ≡ false = sym (made_step script s d called came new registers h step v e q f) ∙ dead in cc)
    by_process (Some p) e = by_life p e (is_alive p.life) refl

-- the code of an end
code_is : (a b : ℕ) → Ended a ≡ Ended b → a ≡ b
code_is a b e = cc

-- What is found after an end: another process as it was, or the one that ended, with the code.
pub found-after : (script : Script) (s : Win32State) → IsWellFormed script s → (u code v : ℕ) (q : Process)
    → process_of (with_end s u code).processes v ≡ Some q
    → ((v ≢ u) × (process_of s.processes v ≡ Some q)) ⊎ ((v ≡ u) × (q.life ≡ Ended code))
found-after script s h u code v q f =
    let ps = change_process u (ended_process code) s.processes in
    let rising = rising-change_process u (ended_process code) (λ x. refl) 1 s.next s.processes h.formed.processes in
    let kept = (kept_process (held_objects ps (objects_left_by u s.objects)) 1 s.next ps v q rising f).0 in
    elim (changed_process u (ended_process code) (λ x. refl) s.processes v q kept) [
      | inl other ↦ inl (other.0, other.1)
      | inr this ↦ inr (this.0, ap (λ (x : Process). x.life) this.3)
    ]

-- So a step that only ends a process ends that one alone, with this code.
pub ends-by : {A : Type 0} → (script : Script) (step : HistoryStep A) → IsWellFormed script step.before.win32
    → (u code : ℕ) → step.after.win32 ≡ with_end step.before.win32 u code → (v k : ℕ) → EndsWith step v k
    → (v ≡ u) × (k ≡ code)
ends-by script step h u code after v k is =
    elim (found-after script step.before.win32 h u code v is.process
    (subst (λ (n : Win32State). process_of n.processes v ≡ Some is.process) after is.found)) [
      | inl other ↦ absurd (
          let dead : is_live_process step.before.win32 v ≡ false = ap is_live other.1 ∙ ap is_alive is.life in
          let e : true ≡ false = sym is.before ∙ dead in cc)
      | inr this ↦ (this.0, code_is k code (sym is.life ∙ this.1))
    ]

-- An outcome that is the end of process v is that of an `end`, by which it ended.
pub end-of : (script : Script) (s : Win32State) (d : Directive) (called : Option Call) (came : Outcome)
    (new : Win32State) → IsWellFormed script s → StepBy script s d called came new → (v : ℕ) → is_end_of came v ≡ true
    → (is_end d ≡ true) × (is_live_process s v ≡ true) × (new ≡ with_end s v ended_from_outside)
end-of script s (directive.Turn slot t) called came new h step v is =
    by_bool (is_ready s slot t)
    (λ r turn. absurd (let e : false ≡ true = sym (ap (λ o. is_end_of o v) turn.answered) ∙ is in cc))
    (λ r idle. absurd (let e : false ≡ true = sym (ap (λ o. is_end_of o v) idle.1) ∙ is in cc)) step
end-of script s (directive.End slot) called came new h step v is =
    by_answer (process_in s.processes slot) refl step.1
  where
    by_answer : (o : Option Process) → process_in s.processes slot ≡ o → EndStep s o came new
        → (true ≡ true) × (is_live_process s v ≡ true) × (new ≡ with_end s v ended_from_outside)
    by_answer None i m = absurd (let e : false ≡ true = sym (ap (λ o. is_end_of o v) m.0) ∙ is in cc)
    by_answer (Some p) i m =
        let n : p.number ≡ v = eqb-true p.number v (sym (ap (λ o. is_end_of o v) m.0) ∙ is) in
        let found = process_in-found 1 s.next s.processes slot p h.formed.processes i in (
          refl,
          ap (is_live_process s) (sym n) ∙ found_live (process_of s.processes p.number) p found.0 found.1,
          m.1 ∙ ap (λ k. with_end s k ended_from_outside) n,
        )
end-of script s (directive.Key b) called came new h step v is =
    absurd (let e : false ≡ true = sym (ap (λ o. is_end_of o v) step.1) ∙ is in cc)

-- An `end` ends one process, and its outcome tells which.
pub end_ends : (script : Script) (s : Win32State) (d : Directive) (called : Option Call) (came : Outcome)
    (new : Win32State) (v : ℕ) → StepBy script s d called came new → is_end d ≡ true → is_live_process s v ≡ true
    → is_live_process new v ≡ false → is_end_of came v ≡ true
end_ends script s (directive.Turn slot t) called came new v step e alive dead = absurd (let f : false ≡ true = e in cc)
end_ends script s (directive.Key b) called came new v step e alive dead = absurd (let f : false ≡ true = e in cc)
end_ends script s (directive.End slot) called came new v step e alive dead =
    by_answer (process_in s.processes slot) step.1
  where
    by_answer : (o : Option Process) → EndStep s o came new → is_end_of came v ≡ true
    by_answer None m = absurd (let f : true ≡ false = sym alive
        ∙ (sym (ap (λ n. is_live_process n v) m.1) ∙ dead) in cc)
    by_answer (Some p) m = elim (cases_eq v p.number) [
      | inl n ↦ ap (λ o. is_end_of o v) m.0 ∙ same p.number v (sym n)
      | inr d ↦ absurd (
          let q = live_found (process_of s.processes v) alive in
          let stays = process-end_stays s p.number ended_from_outside v q.0 q.1 q.2 d in
          let lives : is_live_process new v ≡ true = ap (λ n. is_live_process n v) m.1
          ∙ found_live (process_of (with_end s p.number ended_from_outside).processes v) q.0 stays q.2 in
          let f : true ≡ false = sym lives ∙ dead in cc)
    ]
