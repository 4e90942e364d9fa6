-- The end of a process without handles, as the code does it.
use Rattle.std.proofs.Common.{◌≡◌, ◌∙◌, ℕ, ◌*◌, ◌≤◌, Bool, true, false, List, [], length, Some, IsSome, IfSome}
use Rattle.std.proofs.Common.{sym, ap, subst}
use Rattle.win32_spec.specs.Lookup.{number_in}
use Rattle.win32_spec.specs.Ends.{is_process_held, with_end}
use Rattle.win32_spec.specs.Named.{handles_by}
use Rattle.w32_handles.specs.Table.{Table, object_at}
use Rattle.w32_handles.specs.Shown.{objects_of}
use Rattle.w32_process.specs.Table as processes
use Rattle.w32_process.specs.declared.kept.Kept.{Kept}
use Rattle.w32_process.specs.Places.{Place}
use Rattle.w32_process.specs.Table.{place_at, number_at, code_of, without_kept}
use Rattle.w32_kinds.specs.declared.kind.Kind.{Kind}
use Rattle.w32_machine.specs.declared.machine.Machine.TheInside.{Inside}
use Rattle.w32_machine.specs.Running.{Running}
use Rattle.w32_kinds.specs.Shown.{shown}
use Rattle.w32_machine.specs.View.{view_of}
use Rattle.w32_machine.specs.Sound.{IsSound}
use Rattle.w32_machine.specs.Ending.{left_kept}
use Rattle.w32_machine.proofs.Slots.{is_there}
use Rattle.w32_machine.proofs.Ending.{stands, no_handles}
use Rattle.w32_machine.proofs.Leaving.{room-kept, is-kept, leaving, ended, forgotten, kept-is, forgotten-is, kept-sound}
use Rattle.w32_machine.proofs.Leaving.{forgotten-sound}

module _ (m : Inside) (sound : IsSound m) (now : Running) (shows : view_of m ≡ now) (slot w code : ℕ)
    (there : number_in now.win32 slot ≡ Some w) (closed : handles_by now.win32 w ≡ []) where
  pub at : number_at m.processes.slots slot ≡ Some w
  at = stands m sound now shows slot w there

  pub none : (place_at m.processes.slots slot).handles ≡ []
  none = no_handles m sound now shows slot w there closed

  pub occupied : IsSome (number_at m.processes.slots slot)
  occupied = is_there (number_at m.processes.slots slot) w at

  pub room : length m.processes.kept ≤ 4160
  room = room-kept m sound slot w code at none

  module _ (t : processes.Table)
      (ends : IfSome (number_at m.processes.slots slot) (λ v. t ≡ processes.with_end m.processes slot v code)) where
    is_ended : t ≡ ended m sound slot w code at none
    is_ended = rw at at ends

    pub kept_there : IsSome (code_of t.kept w)
    kept_there =
        subst (λ (x : processes.Table). IsSome (code_of x.kept w)) (sym is_ended) (is-kept m sound slot w code at none)

    module _ (left : Table Kind)
        (leaves : (k : ℕ) → object_at left (2 * k) ≡ left_kept w (object_at m.objects (2 * k)))
        (spare : left.spare ≡ m.objects.spare) (b : Bool)
        (named : b ≡ is_process_held (objects_of shown left.places) w) where
      -- an object of it is there
      module _ (is : b ≡ true) where
        its : is_process_held (objects_of shown left.places) w ≡ true
        its = sym named ∙ is

        pub stays-sound : IsSound (leaving m sound slot w code at none left leaves spare t)
        stays-sound =
            subst (λ x. IsSound (leaving m sound slot w code at none left leaves spare x)) (sym is_ended)
            (kept-sound m sound slot w code at none left leaves spare its)

        pub stays-done : (view_of (leaving m sound slot w code at none left leaves spare t)).win32 ≡
            with_end now.win32 w code
        stays-done =
            ap (λ x. (view_of (leaving m sound slot w code at none left leaves spare x)).win32) is_ended
            ∙ kept-is m sound slot w code at none left leaves spare its
            ∙ ap (λ (r : Running). with_end r.win32 w code) shows

      -- none is there
      module _ (is : b ≡ false) (f : processes.Table) (next : f.next ≡ t.next) (slots : f.slots ≡ t.slots)
          (kept : f.kept ≡ without_kept t.kept w) where
        unheld : is_process_held (objects_of shown left.places) w ≡ false
        unheld = sym named ∙ is

        is_forgotten : f ≡ forgotten m sound slot w code at none left leaves spare
        is_forgotten =
            ap (λ (n : ℕ). record f { next = n }) next
            ∙ ap (λ (s : List Place). record f { next = t.next; slots = s }) slots
            ∙ ap (λ (es : List Kept). record t { kept = es }) kept
            ∙ ap (λ (x : processes.Table). record x { kept = without_kept x.kept w }) is_ended

        pub goes-sound : IsSound (leaving m sound slot w code at none left leaves spare f)
        goes-sound =
            subst (λ x. IsSound (leaving m sound slot w code at none left leaves spare x)) (sym is_forgotten)
            (forgotten-sound m sound slot w code at none left leaves spare unheld)

        pub goes-done : (view_of (leaving m sound slot w code at none left leaves spare f)).win32 ≡
            with_end now.win32 w code
        goes-done =
            ap (λ x. (view_of (leaving m sound slot w code at none left leaves spare x)).win32) is_forgotten
            ∙ forgotten-is m sound slot w code at none left leaves spare unheld
            ∙ ap (λ (r : Running). with_end r.win32 w code) shows
