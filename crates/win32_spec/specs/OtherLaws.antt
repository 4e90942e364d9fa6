-- What a call leaves of the processes that are not the caller's, of those that have ended, and of objects.
use Rattle.std.proofs.Common.{◌≡◌, ◌≢◌, inl, inr, ℕ, ◌+◌, true, false, List, Some, refl, sym, ap, ◌∙◌, subst}
use Rattle.w32_base.specs.declared.call.Call.{Call}
use Rattle.script_spec.specs.declared.script.Script.{Script}
use Rattle.win32_spec.specs.Handles.{Handle, with_handle, without_handle, listed_handles}
use Rattle.win32_spec.specs.State.{Process, Win32State}
use Rattle.win32_spec.specs.Lookup.{is_alive, process_of, change_process, add_process}
use Rattle.win32_spec.specs.Ends.{held_objects, objects_left_by, ended_process}
use Rattle.win32_spec.specs.Making.{new_process}
use Rattle.win32_spec.specs.Named.{handles_by}
use Rattle.win32_spec.specs.WellFormed.{IsWellFormed}
use Rattle.win32_spec.specs.LookupLaws.{same_some, process_of-change_other, changed_process, process_of-add_kept}
use Rattle.win32_spec.specs.LookupLaws.{rising-change_process}
use Rattle.win32_spec.specs.HeldLaws.{kept_process}
use Rattle.win32_spec.specs.Tame.{ProcessBecomes}
use Rattle.win32_spec.specs.TameLaws.{both_forth}
use Rattle.win32_spec.specs.TameSteps.{process_same}
use Rattle.win32_spec.specs.Effects.{MayWrite, CallEffect, Changes, Opens, Adds, AddsPipe, Makes, Closes, Ends}

-- One change after another.
pub becomes_trans : (script : Script) (A B C D E F G H I : Type 0) (p q r : Process) → (A → C) → (B → C) → (D → F)
    → (E → F) → (G → I) → (H → I)
    → ProcessBecomes script A D G p q → ProcessBecomes script B E H q r → ProcessBecomes script C F I p r
becomes_trans script A B C D E F G H I p q r a b d e g i one two = record {
  ended = λ dead. two.ended (ap is_alive one.life ∙ dead) ∙ one.ended dead;
  number = two.number ∙ one.number;
  slot = two.slot ∙ one.slot;
  program = two.program ∙ one.program;
  life = two.life ∙ one.life;
  handles = two.handles ∙ one.handles;
  threads = λ ts h. two.threads ts (one.threads ts h);
  lengths = record {
    dat = two.lengths.dat ∙ one.lengths.dat;
    heap = two.lengths.heap ∙ one.lengths.heap;
    stack = two.lengths.stack ∙ one.lengths.stack;
    cyg = two.lengths.cyg ∙ one.lengths.cyg;
    scratch = two.lengths.scratch ∙ one.lengths.scratch;
  };
  bytes = λ n. two.bytes (λ x. n (b x)) ∙ one.bytes (λ x. n (a x));
  modules = λ n. two.modules (λ x. n (e x)) ∙ one.modules (λ x. n (d x));
  posted = λ n t. two.posted (λ x. n (e x.0, i x.1)) t ∙ one.posted (λ x. n (d x.0, g x.1)) t;
  unplaced = λ n. two.unplaced (one.program ∙ n) ∙ one.unplaced n;
  placed = λ h. two.placed (one.placed h);
}

same_becomes : (script : Script) (W A P : Type 0) (p q : Process) → q ≡ p → ProcessBecomes script W A P p q
same_becomes script W A P p q e = subst (λ x. ProcessBecomes script W A P p x) (sym e) (process_same script W A P p)

-- a process that isn't w, in a list in which w's handles alone are others
beside : (ps : List Process) (w v : ℕ) (hs : List Handle) (p q : Process) → v ≢ w → process_of ps v ≡ Some p
    → process_of (change_process w (λ x. record x { handles = hs }) ps) v ≡ Some q → q ≡ p
beside ps w v hs p q d e f =
    same_some (process_of ps v) q p
    (sym (process_of-change_other w (λ x. record x { handles = hs }) (λ x. refl) ps v d) ∙ f) e

-- Another process that lives on, after a call of process w.
pub other-effect : (script : Script) (s : Win32State) (w t : ℕ) (c : Call) (new : Win32State) → IsWellFormed script s
    → CallEffect script s w t c new → (v : ℕ) (p q : Process) → v ≢ w → process_of s.processes v ≡ Some p
    → process_of new.processes v ≡ Some q → is_alive q.life ≡ true
    → ProcessBecomes script (MayWrite s w c v) (v ≡ w) ⊥ p q
other-effect script s w t c new h (Changes tame) v p q d e f alive =
    let r = both_forth (ProcessBecomes script (MayWrite s w c v) (v ≡ w) ⊥) (process_of s.processes v)
    (process_of new.processes v) p (tame.processes.process v) e in
    subst (λ x. ProcessBecomes script (MayWrite s w c v) (v ≡ w) ⊥ p x)
    (same_some (process_of new.processes v) r.0 q r.1 f) r.2
other-effect script s w t c new h (Opens names listed room answer r handled) v p q d e f alive =
    same_becomes script (MayWrite s w c v) (v ≡ w) ⊥ p q
    (beside s.processes w v (with_handle (handles_by s w) handled.handle names) p q d e
    (subst (λ (n : Win32State). process_of n.processes v ≡ Some q) handled.after f))
other-effect script s w t c new h (Adds x rule only room r added) v p q d e f alive =
    same_becomes script (MayWrite s w c v) (v ≡ w) ⊥ p q
    (beside s.processes w v (with_handle (handles_by s w) added.handled.handle added.number) p q d e
    (subst (λ (n : Win32State). process_of n.processes v ≡ Some q) added.handled.after f))
other-effect script s w t c new h (AddsPipe room r pipe) v p q d e f alive =
    same_becomes script (MayWrite s w c v) (v ≡ w) ⊥ p q
    (beside s.processes w v
    (with_handle (with_handle (handles_by s w) pipe.read_end pipe.number) pipe.write_end (pipe.number + 1)) p q d e
    (subst (λ (n : Win32State). process_of n.processes v ≡ Some q) pipe.after f))
other-effect script s w t c new h (Makes slot program_no program list r listed lowest room made) v p q d e f alive =
    same_becomes script (MayWrite s w c v) (v ≡ w) ⊥ p q
    (beside (add_process (new_process s.next slot program_no program 1 (listed_handles (handles_by s w) list))
    s.processes) w v
    (with_handle (handles_by s w) made.handled.handle made.number) p q d
    (process_of-add_kept (new_process s.next slot program_no program 1 (listed_handles (handles_by s w) list))
    s.processes v p e)
    (subst (λ (n : Win32State). process_of n.processes v ≡ Some q) made.handled.after f))
other-effect script s w t c new h (Closes k after) v p q d e f alive =
    let rising = rising-change_process w (λ x. record x { handles = without_handle (handles_by s w) k }) (λ x. refl) 1
    s.next s.processes h.formed.processes in
    let held = held_objects
    (change_process w (λ x. record x { handles = without_handle (handles_by s w) k }) s.processes) s.objects in
    same_becomes script (MayWrite s w c v) (v ≡ w) ⊥ p q
    (beside s.processes w v (without_handle (handles_by s w) k) p q d e
    (kept_process held 1 s.next
    (change_process w (λ x. record x { handles = without_handle (handles_by s w) k }) s.processes) v q rising
    (subst (λ (n : Win32State). process_of n.processes v ≡ Some q) after f)).0)
other-effect script s w t c new h (Ends u code live after) v p q d e f alive =
    let rising = rising-change_process u (ended_process code) (λ x. refl) 1 s.next s.processes h.formed.processes in
    let held = held_objects (change_process u (ended_process code) s.processes) (objects_left_by u s.objects) in
    let kept : process_of (change_process u (ended_process code) s.processes) v ≡ Some q =
    (kept_process held 1 s.next (change_process u (ended_process code) s.processes) v q rising
    (subst (λ (n : Win32State). process_of n.processes v ≡ Some q) after f)).0 in
    elim (changed_process u (ended_process code) (λ x. refl) s.processes v q kept) [
      | inl other ↦ same_becomes script (MayWrite s w c v) (v ≡ w) ⊥ p q
          (same_some (process_of s.processes v) q p other.1 e)
      | inr this ↦ absurd (let a : is_alive q.life ≡ false = ap (λ (x : Process). is_alive x.life) this.3 in cc)
    ]
