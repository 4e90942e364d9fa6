-- A process that has ended stays as it is while its object is listed, and never lives again.
use Rattle.std.proofs.Common.{◌≡◌, ◌≢◌, ◌⊎◌, inl, inr, ℕ, ◌+◌, ◌≤◌, ◌<◌, Bool, true, false, List, Option, Some, None}
use Rattle.std.proofs.Common.{refl, sym, ap, ◌∙◌, subst, arith}
use Rattle.w32_base.specs.declared.call.Call.{Call}
use Rattle.script_spec.specs.declared.script.Script.{Script}
use Rattle.win32_spec.specs.Handles.{Handle, with_handle, without_handle, listed_handles}
use Rattle.win32_spec.specs.State.{Process, Win32State}
use Rattle.win32_spec.specs.Lookup.{is_alive, process_of, is_live, change_process, add_process, with_handles}
use Rattle.win32_spec.specs.Ends.{is_process_held, held_objects, kept_processes, swept, ended_process, with_ended}
use Rattle.win32_spec.specs.Making.{new_process}
use Rattle.win32_spec.specs.Named.{handles_by}
use Rattle.win32_spec.specs.WellFormed.{AreRisingProcesses, IsWellFormed}
use Rattle.win32_spec.specs.LookupLaws.{same_some, not_none, or_right, process_of-change_other, process_of-add_kept}
use Rattle.win32_spec.specs.LookupLaws.{process_of-add_other, rising-change_process}
use Rattle.win32_spec.specs.HeldLaws.{kept_process, kept_process-stays}
use Rattle.win32_spec.specs.Tame.{ProcessBecomes}
use Rattle.win32_spec.specs.TameLaws.{both_back, both_forth}
use Rattle.win32_spec.specs.Effects.{MayWrite, CallEffect, Changes, Opens, Adds, AddsPipe, Makes, Closes, Ends}

-- what there is of an ended process in a state: it stands there as it was, or neither it nor its object is listed
abbrev pub StaysEnded : Win32State → ℕ → Process → Type 0
StaysEnded s v p = (process_of s.processes v ≡ Some p)
    ⊎ ((process_of s.processes v ≡ None) × (is_process_held s.objects v ≡ false))

pub swept-ended : (s : Win32State) (v : ℕ) (p : Process) → AreRisingProcesses 1 s.next s.processes
    → process_of s.processes v ≡ Some p
    → is_alive p.life ≡ false → StaysEnded (swept s) v p
swept-ended s v p rising e dead = by_test (is_process_held (held_objects s.processes s.objects) v) refl
  where
    by_answer : (o : Option Process)
        → process_of (kept_processes (held_objects s.processes s.objects) s.processes) v ≡ o
        → is_process_held (held_objects s.processes s.objects) v ≡ false → o ≡ None
    by_answer None f g = refl
    by_answer (Some q) f g =
        let both = kept_process (held_objects s.processes s.objects) 1 s.next s.processes v q rising f in
        let same : q ≡ p = same_some (process_of s.processes v) q p both.0 e in
        let keep : false ≡ true = rw (ap (λ (x : Process). is_alive x.life) same ∙ dead, g) at both.1 in absurd (cc)

    by_test : (b : Bool) → is_process_held (held_objects s.processes s.objects) v ≡ b → StaysEnded (swept s) v p
    by_test true f =
        inl (kept_process-stays (held_objects s.processes s.objects) s.processes v p e
        (or_right (is_alive p.life) (is_process_held (held_objects s.processes s.objects) v) f))
    by_test false f = inr
        (by_answer (process_of (kept_processes (held_objects s.processes s.objects) s.processes) v) refl f, f)

pub swept-none : (s : Win32State) (v : ℕ) → AreRisingProcesses 1 s.next s.processes → process_of s.processes v ≡ None
    → process_of (swept s).processes v ≡ None
swept-none s v rising e =
    by_answer (process_of (kept_processes (held_objects s.processes s.objects) s.processes) v) refl
  where
    by_answer : (o : Option Process)
        → process_of (kept_processes (held_objects s.processes s.objects) s.processes) v ≡ o → o ≡ None
    by_answer None f = refl
    by_answer (Some q) f =
        let both = kept_process (held_objects s.processes s.objects) 1 s.next s.processes v q rising f in
        absurd (not_none (process_of s.processes v) q both.0 e)

module _ (script : Script) (s : Win32State) (w t : ℕ) (c : Call) (new : Win32State) (h : IsWellFormed script s)
    (live : is_live (process_of s.processes w) ≡ true) (v : ℕ) where
  -- handles of process w alone are others
  handles_aside : (ps : List Process) (hs : List Handle) → v ≢ w
      → process_of (change_process w (λ x. record x { handles = hs }) ps) v ≡ process_of ps v
  handles_aside ps hs d = process_of-change_other w (λ x. record x { handles = hs }) (λ x. refl) ps v d

  rising_aside : (hs : List Handle)
      → AreRisingProcesses 1 s.next (change_process w (λ x. record x { handles = hs }) s.processes)
  rising_aside hs = rising-change_process w (λ x. record x { handles = hs }) (λ x. refl) 1 s.next s.processes
      h.formed.processes

  -- an ended process isn't the caller's
  not_its : (p : Process) → process_of s.processes v ≡ Some p → is_alive p.life ≡ false → v ≢ w
  not_its p e dead n = let a : is_alive p.life ≡ true = rw (ap (process_of s.processes) (sym n) ∙ e) at live in cc

  not_there : process_of s.processes v ≡ None → v ≢ w
  not_there e n = let a : false ≡ true = rw (ap (process_of s.processes) (sym n) ∙ e) at live in cc

  pub ended-effect : (p : Process) → process_of s.processes v ≡ Some p → is_alive p.life ≡ false
      → CallEffect script s w t c new
      → StaysEnded new v p
  ended-effect p e dead (Changes tame) =
      let r = both_forth (ProcessBecomes script (MayWrite s w c v) (v ≡ w) ⊥) (process_of s.processes v)
      (process_of new.processes v) p (tame.processes.process v) e in
      inl (r.1 ∙ ap Some (r.2.ended dead))
  ended-effect p e dead (Opens names listed room answer r handled) =
      subst (λ (n : Win32State). StaysEnded n v p) (sym handled.after)
      (inl (handles_aside s.processes (with_handle (handles_by s w) handled.handle names) (not_its p e dead) ∙ e))
  ended-effect p e dead (Adds x rule only room r added) =
      subst (λ (n : Win32State). StaysEnded n v p) (sym added.handled.after)
      (inl (handles_aside s.processes (with_handle (handles_by s w) added.handled.handle added.number)
      (not_its p e dead) ∙ e))
  ended-effect p e dead (AddsPipe room r pipe) =
      subst (λ (n : Win32State). StaysEnded n v p) (sym pipe.after)
      (inl (handles_aside s.processes
      (with_handle (with_handle (handles_by s w) pipe.read_end pipe.number) pipe.write_end (pipe.number + 1))
      (not_its p e dead) ∙ e))
  ended-effect p e dead (Makes slot program_no program list r listed lowest room made) =
      subst (λ (n : Win32State). StaysEnded n v p) (sym made.handled.after)
      (inl (handles_aside (add_process
      (new_process s.next slot program_no program 1 (listed_handles (handles_by s w) list)) s.processes)
      (with_handle (handles_by s w) made.handled.handle made.number) (not_its p e dead)
      ∙ process_of-add_kept (new_process s.next slot program_no program 1 (listed_handles (handles_by s w) list))
      s.processes v p e))
  ended-effect p e dead (Closes k after) =
      subst (λ (n : Win32State). StaysEnded n v p) (sym after)
      (swept-ended (with_handles s w (without_handle (handles_by s w) k)) v p
      (rising_aside (without_handle (handles_by s w) k))
      (handles_aside s.processes (without_handle (handles_by s w) k) (not_its p e dead) ∙ e) dead)
  ended-effect p e dead (Ends u code alive after) =
      let d : v ≢ u = λ n. absurd
      (let a : is_alive p.life ≡ true = rw (ap (process_of s.processes) (sym n) ∙ e) at alive in cc) in
      subst (λ (n : Win32State). StaysEnded n v p) (sym after)
      (swept-ended (with_ended s u code) v p
      (rising-change_process u (ended_process code) (λ x. refl) 1 s.next s.processes h.formed.processes)
      (process_of-change_other u (ended_process code) (λ x. refl) s.processes v d ∙ e) dead)

  -- a number that was given and isn't listed stays so
  pub none-effect : process_of s.processes v ≡ None → v < s.next → CallEffect script s w t c new
      → process_of new.processes v ≡ None
  none-effect e below (Changes tame) = by_answer (process_of new.processes v) refl
    where
      by_answer : (o : Option Process) → process_of new.processes v ≡ o → o ≡ None
      by_answer None f = refl
      by_answer (Some q) f =
          let r = both_back (ProcessBecomes script (MayWrite s w c v) (v ≡ w) ⊥) (process_of s.processes v)
          (process_of new.processes v) q
          (tame.processes.process v) f in absurd (not_none (process_of s.processes v) r.0 r.1 e)
  none-effect e below (Opens names listed room answer r handled) =
      subst (λ (n : Win32State). process_of n.processes v ≡ None) (sym handled.after)
      (handles_aside s.processes (with_handle (handles_by s w) handled.handle names) (not_there e) ∙ e)
  none-effect e below (Adds x rule only room r added) =
      subst (λ (n : Win32State). process_of n.processes v ≡ None) (sym added.handled.after)
      (handles_aside s.processes (with_handle (handles_by s w) added.handled.handle added.number) (not_there e) ∙ e)
  none-effect e below (AddsPipe room r pipe) =
      subst (λ (n : Win32State). process_of n.processes v ≡ None) (sym pipe.after)
      (handles_aside s.processes
      (with_handle (with_handle (handles_by s w) pipe.read_end pipe.number) pipe.write_end (pipe.number + 1))
      (not_there e) ∙ e)
  none-effect e below (Makes slot program_no program list r listed lowest room made) =
      subst (λ (n : Win32State). process_of n.processes v ≡ None) (sym made.handled.after)
      (handles_aside (add_process
      (new_process s.next slot program_no program 1 (listed_handles (handles_by s w) list)) s.processes)
      (with_handle (handles_by s w) made.handled.handle made.number) (not_there e)
      ∙ process_of-add_other (new_process s.next slot program_no program 1 (listed_handles (handles_by s w) list))
      s.processes v (λ n. omega arith)
      ∙ e)
  none-effect e below (Closes k after) =
      subst (λ (n : Win32State). process_of n.processes v ≡ None) (sym after)
      (swept-none (with_handles s w (without_handle (handles_by s w) k)) v
      (rising_aside (without_handle (handles_by s w) k))
      (handles_aside s.processes (without_handle (handles_by s w) k) (not_there e) ∙ e))
  none-effect e below (Ends u code alive after) =
      let d : v ≢ u = λ n. absurd
      (let a : false ≡ true = rw (ap (process_of s.processes) (sym n) ∙ e) at alive in cc) in
      subst (λ (n : Win32State). process_of n.processes v ≡ None) (sym after)
      (swept-none (with_ended s u code) v
      (rising-change_process u (ended_process code) (λ x. refl) 1 s.next s.processes h.formed.processes)
      (process_of-change_other u (ended_process code) (λ x. refl) s.processes v d ∙ e))

  -- so what has ended has ended for ever
  pub dead-effect : v < s.next → is_live (process_of s.processes v) ≡ false → CallEffect script s w t c new
      → is_live (process_of new.processes v) ≡ false
  dead-effect below dead effect = by_answer (process_of s.processes v) refl dead
    where
      by_answer : (o : Option Process) → process_of s.processes v ≡ o → is_live o ≡ false
          → is_live (process_of new.processes v) ≡ false
      by_answer None e f = rw (none-effect e below effect) refl
      by_answer (Some p) e f = elim (ended-effect p e f effect) [ inl g ↦ rw g f | inr g ↦ rw g.0 refl ]

-- numbers are never given again
pub next-effect : (script : Script) (s : Win32State) (w t : ℕ) (c : Call) (new : Win32State)
    → CallEffect script s w t c new → s.next ≤ new.next
next-effect script s w t c new (Changes tame) = omega (arith, tame.next)
next-effect script s w t c new (Opens names listed room answer r handled) =
    subst (λ (n : Win32State). s.next ≤ n.next) (sym handled.after) (omega arith)
next-effect script s w t c new (Adds x rule only room r added) =
    subst (λ (n : Win32State). s.next ≤ n.next) (sym added.handled.after) (omega arith)
next-effect script s w t c new (AddsPipe room r pipe) =
    subst (λ (n : Win32State). s.next ≤ n.next) (sym pipe.after) (omega arith)
next-effect script s w t c new (Makes slot program_no program list r listed lowest room made) =
    subst (λ (n : Win32State). s.next ≤ n.next) (sym made.handled.after) (omega arith)
next-effect script s w t c new (Closes k after) = subst (λ (n : Win32State). s.next ≤ n.next) (sym after) (omega arith)
next-effect script s w t c new (Ends u code alive after) =
    subst (λ (n : Win32State). s.next ≤ n.next) (sym after) (omega arith)
