-- Whether what a handle names is signalled.
use Rattle.std.proofs.Common.{◌≡◌, ◌∙◌, inl, inr, ℕ, Bool, true, false, ◌&&◌, not, List, [], ◌∷◌, ◌==◌}
use Rattle.std.proofs.Common.{length, Some, IsTrue, refl, sym, ap, subst, arith}
use Rattle.std.specs.Option.{IsSomeAnd}
use Rattle.win32_spec.specs.Objects.{PipeState, pipe_is_signalled, is_empty}
use Rattle.win32_spec.specs.Lookup.{process_of, is_live, number_in, object_number}
use Rattle.win32_spec.specs.Named.{named_by, object_at}
use Rattle.win32_spec.specs.LookupLaws.{differs}
use Rattle.win32_spec.specs.Pipes.{pipe_state}
use Rattle.win32_spec.specs.Ready.{is_first_end, is_signalled, is_handle_signalled}
use Rattle.w32_handles.specs.Table as table
use Rattle.w32_process.specs.FoundLaws.{slot_of, is_live-at, is_live-aside}
use Rattle.w32_machine.specs.Contract.{IsCaller, LivesOnlyIn}
use Rattle.w32_machine.specs.declared.caller.Caller.{Caller}
use Rattle.w32_kinds.specs.declared.kind.Kind.{Kind}
use Rattle.w32_kinds.specs.declared.kind.Kind.TheVariants as kind
use Rattle.w32_machine.specs.declared.machine.Machine.TheInside.{Inside}
use Rattle.w32_machine.specs.Running.{Running}
use Rattle.w32_kinds.specs.Shown.{shown}
use Rattle.w32_machine.specs.View.{posted_in, placed_in, view_of}
use Rattle.w32_machine.specs.Sound.{IsKind, IsSound}
use Rattle.w32_machine.proofs.Changing.{object_is, kind_is}
use Rattle.w32_machine.proofs.PipeSteps.{counts}
use Rattle.w32_machine.proofs.Processes.{numbers}

pub is_empty-length : (xs : List ℕ) → is_empty xs ≡ (length xs == 0)
is_empty-length [] = refl
is_empty-length (x ∷ xs) = sym (differs (length (x ∷ xs)) 0 (λ e. omega arith))

module _ (m : Inside) (sound : IsSound m) (now : Running) (shows : view_of m ≡ now) where
  -- whether a process lives is whether it stands in its slot
  pub lives-is : (v slot : ℕ) (r : Bool) → LivesOnlyIn now.win32 v slot
      → (IsTrue r → number_in now.win32 slot ≡ Some v) → (number_in now.win32 slot ≡ Some v → IsTrue r)
      → r ≡ is_live (process_of now.win32.processes v)
  lives-is v slot r only forth back = by_answer r refl
    where
      at_now : is_live (process_of (view_of m).win32.processes v) ≡ is_live (process_of now.win32.processes v)
      at_now = ap (λ (q : Running). is_live (process_of q.win32.processes v)) shows

      by_answer : (b : Bool) → r ≡ b → b ≡ is_live (process_of now.win32.processes v)
      by_answer true e =
          sym (is_live-at (posted_in m.posted.items) (placed_in m.placed.items) m.processes sound.table slot v
          (numbers m sound now shows slot ∙ forth (rw e refl))) ∙ at_now
      by_answer false e =
          elim (slot_of m.processes.slots v) [
            | inl at ↦
                let there : number_in now.win32 at.0 ≡ Some v = sym (numbers m sound now shows at.0) ∙ at.1 in
                let here : number_in now.win32 slot ≡ Some v =
                ap (number_in now.win32) (sym (only at.0 there)) ∙ there in
                let f : IsTrue r = back here in
                let g : true ≡ false = sym f ∙ e in absurd (cc)
            | inr none ↦
                sym (is_live-aside (posted_in m.posted.items) (placed_in m.placed.items) m.processes sound.table v none)
                ∙ at_now
          ]

  module _ (by : Caller) (caller : IsCaller now.win32 by) (h o : ℕ) (named : Some o ≡ named_by now.win32 by.process h)
      (x : Kind) (was : IsSomeAnd (table.object_at m.objects o) (λ kept. kept.object ≡ x)) where
    pub signalled-is : is_handle_signalled now.win32 by.process by.thread (named_by now.win32 by.process h) ≡
        is_signalled now.win32 by.process by.thread o (Some (shown x))
    signalled-is =
        ap (is_handle_signalled now.win32 by.process by.thread) (sym named)
        ∙ ap (is_signalled now.win32 by.process by.thread o)
        (ap (object_at now.win32) named ∙ object_is m sound now shows by caller h o named x was)

    pub kind-signalled : (k : Kind) → x ≡ k
        → is_signalled now.win32 by.process by.thread o (Some (shown k)) ≡
        is_handle_signalled now.win32 by.process by.thread (named_by now.win32 by.process h)
    kind-signalled k e =
        ap (λ i. is_signalled now.win32 by.process by.thread o (Some (shown i))) (sym e) ∙ sym signalled-is

    pub pipe-signalled : (p : PipeState) → x ≡ kind.Pipe p → is_first_end o ≡ true
        → pipe_is_signalled p ≡
        is_handle_signalled now.win32 by.process by.thread (named_by now.win32 by.process h)
    pipe-signalled p e first =
        ap pipe_is_signalled (counts now.win32 m.section (object_number o) m.processes.slots x
        (subst (λ (r : Running). IsKind m.processes.slots r.win32.processes m.section (object_number o) x) shows
        (kind_is m sound now shows by caller h o named x was)) p e)
        ∙ sym (ap (λ b. b && pipe_is_signalled (pipe_state now.win32 (object_number o) p.bytes)) first)
        ∙ kind-signalled (kind.Pipe p) e

    pub pipe-other : (p : PipeState) → x ≡ kind.Pipe p → is_first_end o ≡ false
        → false ≡ is_handle_signalled now.win32 by.process by.thread (named_by now.win32 by.process h)
    pipe-other p e first =
        sym (ap (λ b. b && pipe_is_signalled (pipe_state now.win32 (object_number o) p.bytes)) first)
        ∙ kind-signalled (kind.Pipe p) e

    pub process-signalled : (v slot : ℕ) → x ≡ kind.Process v slot → (r : Bool)
        → (IsTrue r → number_in now.win32 slot ≡ Some v) → (number_in now.win32 slot ≡ Some v → IsTrue r)
        → not r ≡ is_handle_signalled now.win32 by.process by.thread (named_by now.win32 by.process h)
    process-signalled v slot e r forth back =
        let fact = subst (IsKind m.processes.slots (view_of m).win32.processes m.section (object_number o)) e
        (kind_is m sound now shows by caller h o named x was) in
        ap not (lives-is v slot r (λ k f. fact k (numbers m sound now shows k ∙ f)) forth back)
        ∙ kind-signalled (kind.Process v slot) e
