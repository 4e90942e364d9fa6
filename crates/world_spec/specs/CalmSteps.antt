-- Calm changes: nothing at all, a key, the end of a process that isn't the host, and what a thread does after its call
-- that leaves image and cygheap of its process alone.
use Rattle.std.proofs.Common.{◌≡◌, ◌≢◌, inl, inr, ℕ, ◌≤◌, Bool, true, false, nat_eq, if◌then◌else◌, List, [], ◌∷◌}
use Rattle.std.proofs.Common.{Option, Some, None, MatchOption, refl, sym, ap}
use Rattle.std.proofs.Common.{◌∙◌, subst, arith}
use Rattle.w32_base.specs.Part.{KeepsImage}
use Rattle.w32_base.specs.declared.call.Call.{Call}
use Rattle.w32_base.specs.declared.own.Own.{Own}
use Rattle.script_spec.specs.declared.script.Script.{Script}
use Rattle.win32_spec.specs.State.{Thread, Process, Win32State}
use Rattle.win32_spec.specs.Lookup.{is_alive, process_of, thread_in, change_process, change_thread, memory_of}
use Rattle.win32_spec.specs.Lookup.{memory_by}
use Rattle.win32_spec.specs.Lookup.{with_own, with_posted, word_in}
use Rattle.win32_spec.specs.Ends.{with_end}
use Rattle.win32_spec.specs.Run.{with_key}
use Rattle.win32_spec.specs.WellFormed.{IsHost, IsLayerProcess, IsWellFormed}
use Rattle.win32_spec.specs.FormedLaws.{of_live}
use Rattle.win32_spec.specs.LookupLaws.{changed_process}
use Rattle.world_spec.specs.Facts.{suspended_by}
use Rattle.world_spec.specs.Sound.{IsHosted}
use Rattle.world_spec.specs.Calm.{CalmProcess, IsCalm}
use Rattle.world_spec.specs.EndLaws.{section-end, terminal-end, process-end}

-- A process that stays as it is.
pub calm_process : (p : Process) → CalmProcess p p
calm_process p = record {
  image = record { dat = refl; heap = refl; stack = refl };
  cyg = refl;
  placed = refl;
  suspended = λ t. refl;
  roster = refl;
  handles = λ h names e. e;
}

then_process : (p q r : Process) → CalmProcess p q → CalmProcess q r → CalmProcess p r
then_process p q r a b = record {
  image = record {
    dat = b.image.dat ∙ a.image.dat;
    heap = b.image.heap ∙ a.image.heap;
    stack = b.image.stack ∙ a.image.stack;
  };
  cyg = b.cyg ∙ a.cyg;
  placed = b.placed ∙ a.placed;
  suspended = λ t. b.suspended t ∙ a.suspended t;
  roster = b.roster ∙ a.roster;
  handles = λ h names e. b.handles h names (a.handles h names e);
}

-- One calm change after another is calm.
pub calm-then : (s mid new : Win32State) → IsCalm s mid → IsCalm mid new → IsCalm s new
calm-then s mid new a b = record {
  words = λ i. b.words i ∙ a.words i;
  terminal = b.terminal ∙ a.terminal;
  processes = λ v q e alive.
      let x = b.processes v q e alive in
      let y = a.processes v x.0 x.1 x.2 in (y.0, y.1, y.2, then_process y.0 x.0 q y.3 x.3);
}

pub calm-same : (s new : Win32State) → new ≡ s → IsCalm s new
calm-same s new e = subst (IsCalm s) (sym e) (record {
  words = λ i. refl;
  terminal = refl;
  processes = λ v q f alive. (q, f, alive, calm_process q);
})

pub calm-key : (s : Win32State) (b : ℕ) → IsCalm s (with_key s b)
calm-key s b =
    record { words = λ i. refl; terminal = refl; processes = λ v q f alive. (q, f, alive, calm_process q) }

pub calm-end : (script : Script) (s : Win32State) → IsWellFormed script s → IsHosted s → (w code : ℕ) → w ≢ 1
    → IsCalm s (with_end s w code)
calm-end script s h hosted w code d = record {
  words = λ i. ap (λ o. word_in o i) (section-end script s h hosted w code d);
  terminal = terminal-end script s h hosted w code d;
  processes = λ v q f alive. (q, (process-end script s h w code v q f alive).0, alive, calm_process q);
}

-- a process in a slot from 1 up isn't the host
pub not_host : (script : Script) (s : Win32State) → IsWellFormed script s → (p : Process)
    → process_of s.processes p.number ≡ Some p → is_alive p.life ≡ true → 1 ≤ p.slot → p.number ≢ 1
not_host script s h p e alive from n =
    let live = of_live script s.objects p p.life alive (h.formed.process p.number p e) in
    by_program p.program live.kind
  where
    by_program : (o : Option ℕ) → MatchOption o (IsHost p) (IsLayerProcess script p) → ⊥
    by_program None host = omega (arith, host.slot, from)
    by_program (Some program_no) layer = omega (arith, layer.number, n)

-- another posted call leaves suspend counts alone
pub same_suspended : (u : ℕ) (next : Call) (xs : List Thread) (t : ℕ)
    → suspended_by (thread_in (change_thread u (λ x. record x { posted = next }) xs) t) ≡ suspended_by (thread_in xs t)
same_suspended u next [] t = refl
same_suspended u next (x ∷ xs) t =
    by_tests (nat_eq x.number u) (same_suspended u next xs t)
  where
    rest : Option Thread
    rest = thread_in (change_thread u (λ x. record x { posted = next }) xs) t

    by_tests : (a : Bool) → suspended_by rest ≡ suspended_by (thread_in xs t)
        → suspended_by (if nat_eq (if a then record x { posted = next } else x).number t
        then Some (if a then record x { posted = next } else x) else rest)
        ≡ suspended_by (if nat_eq x.number t then Some x else thread_in xs t)
    by_tests true e = inner (nat_eq x.number t)
      where
        inner : (c : Bool) → suspended_by (if c then Some (record x { posted = next }) else rest)
            ≡ suspended_by (if c then Some x else thread_in xs t)
        inner true = refl
        inner false = e
    by_tests false e = inner (nat_eq x.number t)
      where
        inner : (c : Bool) → suspended_by (if c then Some x else rest)
            ≡ suspended_by (if c then Some x else thread_in xs t)
        inner true = refl
        inner false = e

-- What a thread does after its call is calm where image and cygheap of its process stay.
pub calm-acts : (mid : Win32State) (w t : ℕ) (own : Own) (next : Call) → KeepsImage (memory_by mid w) own
    → own.cyg ≡ (memory_by mid w).cyg
    → IsCalm mid (with_posted (with_own mid w own) w t next)
calm-acts mid w t own next image cyg = record {
  words = λ i. refl;
  terminal = refl;
  processes = λ v q e alive.
      elim (changed_process w
      (λ x. record x { threads = change_thread t (λ y. record y { posted = next }) x.threads }) (λ x. refl)
      (change_process w (λ x. record x { own = own }) mid.processes) v q e) [
        | inl other ↦ elim (changed_process w (λ x. record x { own = own }) (λ x. refl) mid.processes v q other.1) [
          | inl that ↦ (q, that.1, alive, calm_process q)
          | inr that ↦ absurd (other.0 that.0)
        ]
        | inr this ↦ elim (changed_process w (λ x. record x { own = own }) (λ x. refl) mid.processes w this.1 this.2) [
          | inl that ↦ absurd (that.0 refl)
          | inr that ↦
              let p : Process = that.1 in
              let is : q ≡ record p
              { own = own; threads = change_thread t (λ y. record y { posted = next }) p.threads } =
              this.3 ∙ ap (λ (x : Process). record x
              { threads = change_thread t (λ y. record y { posted = next }) x.threads }) that.3 in (
                p,
                ap (process_of mid.processes) this.0 ∙ that.2,
                ap (λ (x : Process). is_alive x.life) (sym is) ∙ alive,
                subst (λ x. CalmProcess p x) (sym is) (record {
                  image = subst (λ o. KeepsImage (memory_of o) own) that.2 image;
                  cyg = cyg ∙ ap (λ o. let m : Own = memory_of o in m.cyg) that.2;
                  placed = refl;
                  suspended = λ u. same_suspended t next p.threads u;
                  roster = refl;
                  handles = λ h names f. f;
                }),
              )
        ]
      ];
}
