-- `close` in the tables.
use Rattle.std.proofs.Common.{◌≡◌, ◌∙◌, ℕ, ◌+◌, List, Option, Some, IsSome, MatchOption, refl, sym, ap, subst}
use Rattle.w32_base.specs.declared.call.Reply.TheVariants as reply
use Rattle.win32_spec.specs.Handles.{Handle, handle_of, without_handle}
use Rattle.win32_spec.specs.Lookup.{with_handles}
use Rattle.win32_spec.specs.Ends.{swept}
use Rattle.win32_spec.specs.HandleCalls.{CloseStep}
use Rattle.win32_spec.specs.Named.{handles_by, named_by, Gives}
use Rattle.w32_handles.specs.Table.{Table, object_at, freed}
use Rattle.w32_process.specs.Table as processes
use Rattle.w32_process.specs.Table.{place_at, number_at}
use Rattle.w32_machine.specs.declared.caller.Caller.{Caller}
use Rattle.w32_kinds.specs.declared.kind.Kind.{Kind}
use Rattle.w32_machine.specs.declared.machine.Machine.TheInside.{Inside}
use Rattle.w32_machine.specs.Contract.{IsCaller}
use Rattle.w32_machine.specs.Running.{Running}
use Rattle.w32_machine.specs.View.{view_of}
use Rattle.w32_machine.specs.Sound.{IsSound}
use Rattle.w32_machine.specs.Ending.{HasHolder, LeavesOne, WentWith, MayForget, Forgets}
use Rattle.w32_machine.proofs.Slots.{handles_at, is_there}
use Rattle.w32_machine.proofs.Changing.{at, named_here}
use Rattle.w32_machine.proofs.Closing.{with_fewer, has-holder, may-forget, closed, closed-is}
use Rattle.w32_machine.proofs.ClosedSound.{closed-sound}

module _ (m : Inside) (sound : IsSound m) (now : Running) (shows : view_of m ≡ now) (by : Caller)
    (caller : IsCaller now.win32 by) (h o : ℕ) (named : Some o ≡ named_by now.win32 by.process h) where
  pub stands : number_at m.processes.slots by.slot ≡ Some by.process
  stands = at m sound now shows by caller h o named

  pub has_process : IsSome (number_at m.processes.slots by.slot)
  has_process = is_there (number_at m.processes.slots by.slot) by.process stands

  pub in_place : handle_of (place_at m.processes.slots by.slot).handles h ≡ Some o
  in_place =
      ap (λ hs. handle_of hs h) (sym (handles_at m sound by.slot by.process stands))
      ∙ named_here m sound now shows by caller h o named

  pub held : HasHolder m.objects o
  held = has-holder m sound by.slot by.process stands h o in_place

  abbrev pub fewer : processes.Table
  fewer = with_fewer m sound by.slot by.process stands h o in_place

  module _ (hs : List Handle) (handles : List Handle) (its : handles ≡ (place_at m.processes.slots by.slot).handles)
      (shut : hs ≡ without_handle handles h) (left : Table Kind) (leaves : LeavesOne m.objects left o)
      (spare : left.spare ≡ m.objects.spare + freed (object_at m.objects o)) (went : Option (ℕ × ℕ))
      (is : WentWith (object_at m.objects o) went) where
    are_fewer : hs ≡ without_handle (place_at m.processes.slots by.slot).handles h
    are_fewer = shut ∙ ap (λ xs. without_handle xs h) its

    pub forgettable : MayForget (processes.with_handles m.processes by.slot hs) went
    forgettable =
        subst (λ xs. MayForget (processes.with_handles m.processes by.slot xs) went) (sym are_fewer)
        (may-forget m sound by.slot by.process stands h o in_place left leaves spare went is)

    module _ (forgot : processes.Table) (forgets : Forgets (processes.with_handles m.processes by.slot hs) went forgot)
      where
        pub forgets_it : Forgets fewer went forgot
        forgets_it = subst (λ xs. Forgets (processes.with_handles m.processes by.slot xs) went forgot) are_fewer forgets

        abbrev new : Inside
        new = closed m sound by.slot by.process stands h o in_place left leaves spare went is forgot forgets_it

        pub close-sound : IsSound new
        close-sound =
            closed-sound m sound by.slot by.process stands h o in_place left leaves spare went is forgot forgets_it

        pub close-done : CloseStep now.win32 by.process h reply.Done (view_of new).win32
        close-done =
            subst (λ (names : Option ℕ). MatchOption names
            (Gives reply.BadHandle now.win32 reply.Done (view_of new).win32) (λ o.
            Gives reply.Done (swept (with_handles now.win32 by.process (without_handle (handles_by now.win32 by.process)
            h))) reply.Done (view_of new).win32)) named (
              refl,
              closed-is m sound by.slot by.process stands h o in_place left leaves spare went is forgot forgets_it
                  ∙ ap (λ hs. swept (with_handles (view_of m).win32 by.process (without_handle hs h)))
                  (sym (handles_at m sound by.slot by.process stands))
                  ∙ ap (λ (r : Running). swept (with_handles r.win32 by.process (without_handle
                  (handles_by r.win32 by.process) h))) shows,
            )
