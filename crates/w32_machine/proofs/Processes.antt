-- The process that a handle names.
use Rattle.std.proofs.Common.{◌≡◌, ◌⊎◌, ◌∙◌, inl, inr, ℕ, Option, Some, None, IsSome, IfSome, MatchOption, refl, sym}
use Rattle.std.proofs.Common.{ap, subst}
use Rattle.std.specs.Option.{IsSomeAnd}
use Rattle.w32_base.specs.declared.call.Reply.TheVariants as reply
use Rattle.win32_spec.specs.State.{ProcessObject}
use Rattle.win32_spec.specs.Lookup.{process_of, number_in, object_number, object_of}
use Rattle.win32_spec.specs.Named.{named_by, object_number_by, object_by, process_named}
use Rattle.win32_spec.specs.CallEffects.{object_by-found, is_process}
use Rattle.win32_spec.specs.ProcessCalls.{code_reply, ExitCodeStep}
use Rattle.w32_handles.specs.Table.{object_at}
use Rattle.w32_process.specs.Table.{number_at, code_of, IsLive}
use Rattle.w32_process.specs.TableLaws.{kept_at-some}
use Rattle.w32_process.specs.FoundLaws.{slot_of, process_of-live, process_of-ended}
use Rattle.w32_process.specs.ClosedLaws.{kept-known}
use Rattle.w32_machine.specs.Contract.{IsCaller, LivesOnlyIn}
use Rattle.w32_machine.specs.declared.caller.Caller.{Caller}
use Rattle.w32_kinds.specs.declared.kind.Kind.{Kind}
use Rattle.w32_kinds.specs.declared.kind.Kind.TheVariants as kind
use Rattle.w32_machine.specs.declared.machine.Machine.TheInside.{Inside}
use Rattle.w32_kinds.specs.Kinds.{IsProcess}
use Rattle.w32_machine.specs.Running.{Running}
use Rattle.w32_kinds.specs.Shown.{shown}
use Rattle.w32_machine.specs.View.{posted_in, placed_in, view_of}
use Rattle.w32_machine.specs.Sound.{IsKind, IsSound}
use Rattle.w32_machine.proofs.Slots.{number_in-at}
use Rattle.w32_machine.proofs.Changing.{object_is, kind_is}

-- what is known of the process that an object is of
pub record IsNamed (now : Running) (w h : ℕ) (found : Option (ℕ × ℕ)) : Type 0 where
  pub named : MatchOption found (process_named (object_by now.win32 w h) ≡ None)
      (λ p. process_named (object_by now.win32 w h) ≡ Some p.0)
  pub slot : IfSome found (λ p. LivesOnlyIn now.win32 p.0 p.1)

module _ (m : Inside) (sound : IsSound m) (now : Running) (shows : view_of m ≡ now) where
  pub numbers : (k : ℕ) → number_at m.processes.slots k ≡ number_in now.win32 k
  numbers k = sym (number_in-at m sound k) ∙ ap (λ (r : Running). number_in r.win32 k) shows

  by_kind : (w h n : ℕ) (x : Kind) → object_by now.win32 w h ≡ Some (shown x)
      → IsKind m.processes.slots (view_of m).win32.processes m.section n x → (found : Option (ℕ × ℕ))
      → IsProcess x found → IsNamed now w h found
  by_kind w h n (kind.Process v slot) is fact found did =
      subst (IsNamed now w h) (sym did) (record {
        named = ap process_named is;
        slot = λ k e. fact k (numbers k ∙ e);
      })
  by_kind w h n (kind.Section words) is fact found did =
      subst (IsNamed now w h) (sym did) (record { named = ap process_named is; slot = tt })
  by_kind w h n (kind.Event e) is fact found did =
      subst (IsNamed now w h) (sym did) (record { named = ap process_named is; slot = tt })
  by_kind w h n (kind.Mutex owner) is fact found did =
      subst (IsNamed now w h) (sym did) (record { named = ap process_named is; slot = tt })
  by_kind w h n (kind.Pipe p) is fact found did =
      subst (IsNamed now w h) (sym did) (record { named = ap process_named is; slot = tt })
  by_kind w h n (kind.Terminal terminal) is fact found did =
      subst (IsNamed now w h) (sym did) (record { named = ap process_named is; slot = tt })

  pub named-process : (by : Caller) (caller : IsCaller now.win32 by) (h o : ℕ)
      (named : Some o ≡ named_by now.win32 by.process h) (x : Kind)
      → IsSomeAnd (object_at m.objects o) (λ kept. kept.object ≡ x) → (found : Option (ℕ × ℕ)) → IsProcess x found
      → IsNamed now by.process h found
  named-process by caller h o named x was found did =
      by_kind by.process h (object_number o) x (object_is m sound now shows by caller h o named x was)
      (kind_is m sound now shows by caller h o named x was) found did

  -- a process that a handle names lives or is kept
  pub known : (w h v : ℕ) → process_named (object_by now.win32 w h) ≡ Some v
      → IsLive m.processes v ⊎ IsSome (code_of m.processes.kept v)
  known w h v e =
      let found : object_of (view_of m).win32.objects (object_number_by now.win32 w h) ≡ Some (ProcessObject v) =
      ap (λ (r : Running). object_of r.win32.objects (object_number_by now.win32 w h)) shows
      ∙ object_by-found now.win32 w h (ProcessObject v) (is_process (object_by now.win32 w h) v e) in
      elim (slot_of m.processes.slots v) [
        | inl at ↦ inl at
        | inr none ↦ inr (kept-known m.script (posted_in m.posted.items) (placed_in m.placed.items) shown m.processes
            sound.table m.objects.places m.keys.items sound.state (object_number_by now.win32 w h) v found none)
      ]

  pub code-reply : (w h v code : ℕ) → process_named (object_by now.win32 w h) ≡ Some v
      → code_of m.processes.kept v ≡ Some code
      → ExitCodeStep now.win32 w h (reply.Code code) now.win32
  code-reply w h v code e kept =
      let at = kept_at-some m.processes.kept v code kept in
      let found = process_of-ended (posted_in m.posted.items) (placed_in m.placed.items) m.processes sound.table v at.0
      at.1 in
      rw e (
        sym (ap (λ (r : Running). code_reply (process_of r.win32.processes v)) (sym shows) ∙ ap code_reply found
            ∙ ap (λ c. reply.Code c) at.2),
        refl,
      )

  pub active-reply : (w h v : ℕ) → process_named (object_by now.win32 w h) ≡ Some v → IsLive m.processes v
      → ExitCodeStep now.win32 w h reply.Active now.win32
  active-reply w h v e live =
      let found = process_of-live (posted_in m.posted.items) (placed_in m.placed.items) m.processes sound.table live.0 v
      live.1 in
      rw e (
        sym (ap (λ (r : Running). code_reply (process_of r.win32.processes v)) (sym shows) ∙ ap code_reply found),
        refl,
      )
