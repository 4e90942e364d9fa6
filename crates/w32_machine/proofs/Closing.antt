-- A handle that is closed in the tables: they show what that leaves of the state.
use Rattle.std.proofs.Common.{◌≡◌, ◌≢◌, ◌∙◌, inl, inr, ℕ, ◌+◌, ◌-◌, ◌%◌, ◌<◌, ◌≤◌, true, nat_eq}
use Rattle.std.proofs.Common.{if◌then◌else◌, List, Option, Some, None, refl, sym, ap, subst, arith}
use Rattle.std.specs.Option.{IsSomeAnd}
use Rattle.std.proofs.lemmas.Bool.{cases_eq, cases_lt}
use Rattle.win32_spec.specs.Handles.{handle_of, without_handle}
use Rattle.win32_spec.specs.State.{ProcessObject, Process}
use Rattle.win32_spec.specs.Lookup.{process_of, is_live, object_number, object_of, change_process, with_handles}
use Rattle.win32_spec.specs.Ends.{swept}
use Rattle.win32_spec.specs.Pipes.{all_holders_of}
use Rattle.win32_spec.specs.WellFormed.{IsListed}
use Rattle.win32_spec.specs.LookupLaws.{same, differs, before, not_before}
use Rattle.win32_spec.specs.FormedLaws.{from_listed}
use Rattle.w32_handles.specs.Table.{HeldObject, Table, object_at, Changes, freed}
use Rattle.w32_handles.specs.Shown.{object_shown, objects_of, without_object}
use Rattle.w32_handles.specs.ShownLaws.{object_of-named}
use Rattle.w32_handles.specs.PlaceLaws.{objects-stay, objects-drop}
use Rattle.w32_handles.specs.Counted.{all_holders_on}
use Rattle.w32_handles.specs.CountLaws.{all_holders-close}
use Rattle.w32_process.specs.Table as processes
use Rattle.w32_process.specs.Table.{place_at, number_at, code_of, without_kept}
use Rattle.w32_process.specs.SoundLaws.{number_at-set_kept, within_slots}
use Rattle.w32_process.specs.FoundLaws.{is_live-at}
use Rattle.w32_process.specs.ClosedLaws.{kept-known, closed-stays, closed-drops, closed-forgets}
use Rattle.w32_sync.specs.declared.PipeEnd.{PipeEnd}
use Rattle.w32_sync.specs.declared.PipeEnd.TheVariants.{Read, Write}
use Rattle.w32_kinds.specs.declared.kind.Kind.{Kind}
use Rattle.w32_kinds.specs.declared.kind.Kind.TheVariants as kind
use Rattle.w32_machine.specs.declared.machine.Machine.TheInside.{Inside}
use Rattle.w32_kinds.specs.Kinds.{IsProcess, ends_on}
use Rattle.w32_kinds.specs.Shown.{shown}
use Rattle.w32_machine.specs.View.{posted_in, placed_in, view_of}
use Rattle.w32_machine.specs.Sound.{IsKind, IsHeld, IsSound}
use Rattle.w32_machine.specs.Ending.{end_by, kind_without, kept_without, HasHolder, LeavesOne, WentWith, MayForget}
use Rattle.w32_machine.specs.Ending.{Forgets}
use Rattle.w32_machine.proofs.Slots.{its_process, found, its_facts, rising_at}

-- a handle less on an end leaves what is shown
pub shown-without : (end : PipeEnd) (x : Kind) → shown (kind_without end x) ≡ shown x
shown-without Read (kind.Pipe p) = refl
shown-without Write (kind.Pipe p) = refl
shown-without end (kind.Section words) = refl
shown-without end (kind.Event e) = refl
shown-without end (kind.Mutex owner) = refl
shown-without end (kind.Process v slot) = refl
shown-without end (kind.Terminal terminal) = refl

module _ (m : Inside) (sound : IsSound m) (slot w : ℕ) (stands : number_at m.processes.slots slot ≡ Some w) (k o : ℕ)
    (named : handle_of (place_at m.processes.slots slot).handles k ≡ Some o) where
  abbrev ps : List Process
  ps = (view_of m).win32.processes

  -- the processes with the handle closed, and the table of them
  abbrev pub fewer : List Process
  fewer = change_process w (λ x. record x { handles = without_handle (place_at m.processes.slots slot).handles k }) ps

  abbrev pub with_fewer : processes.Table
  with_fewer = processes.with_handles m.processes slot (without_handle (place_at m.processes.slots slot).handles k)

  pub same_numbers : (j : ℕ) → number_at with_fewer.slots j ≡ number_at m.processes.slots j
  same_numbers j =
      number_at-set_kept m.processes.slots slot j
      (record (place_at m.processes.slots slot) {
        handles = without_handle (place_at m.processes.slots slot).handles k;
      }) (within_slots m.processes.slots slot w stands) refl

  -- the object of the handle
  listed : IsListed (view_of m).win32.objects o
  listed = (its_facts m sound slot w stands).naming k o named

  pub there : (kept : HeldObject Kind) × (object_at m.objects o ≡ Some kept)
  there = by_answer (object_at m.objects o) refl
    where
      by_answer : (it : Option (HeldObject Kind)) → object_at m.objects o ≡ it
          → (kept : HeldObject Kind) × (object_at m.objects o ≡ Some kept)
      by_answer (Some kept) e = (kept, e)
      by_answer None e =
          let f = from_listed (view_of m).win32.objects o listed in
          absurd (let g : Some f.0 ≡ None = sym f.1 ∙ object_of-named shown m.objects o ∙ ap (object_shown shown) e
          in cc)

  pub its_object : object_of (view_of m).win32.objects (object_number o) ≡ Some (shown there.0.object)
  its_object = object_of-named shown m.objects o ∙ ap (object_shown shown) there.1

  pub its_held : IsHeld m.processes.slots ps m.section (object_number o) there.0
  its_held = sound.held o there.0 there.1

  -- one holder less of what it names, and of nothing else
  pub one_less : (q : ℕ) → all_holders_of fewer q + (if nat_eq o q then 1 else 0) ≡ all_holders_of ps q
  one_less q =
      all_holders-close 1 m.processes.next ps w (its_process m sound slot w stands) sound.state.formed.processes
      (found m sound slot w stands) refl k o 1 (rising_at m sound slot w stands) named q

  pub less_here : (q : ℕ) → o ≡ q → all_holders_of fewer q + 1 ≡ all_holders_of ps q
  less_here q e = let s = same o q e in rw s at (one_less q)

  pub less_aside : (q : ℕ) → o ≢ q → all_holders_of fewer q ≡ all_holders_of ps q
  less_aside q d =
      let s = differs o q d in
      let e : all_holders_of fewer q + 0 ≡ all_holders_of ps q = rw s at (one_less q) in
      omega arith

  pub has-holder : HasHolder m.objects o
  has-holder =
      subst (λ (it : Option (HeldObject Kind)). IsSomeAnd it (λ kept. 0 < ends_on kept.object (end_by o))) (sym there.1)
      (by_kind there.0.object its_held.kind)
    where
      by_kind : (x : Kind) → IsKind m.processes.slots ps m.section (object_number o) x → 0 < ends_on x (end_by o)
      by_kind (kind.Pipe p) h =
          elim (cases_eq (o % 2) 0) [
            | inl e ↦
                let s = same (o % 2) 0 e in
                rw s (omega (arith, h.0, less_here (object_number o) (omega arith)))
            | inr d ↦
                let s = differs (o % 2) 0 d in
                rw s (omega (arith, h.1, less_here (object_number o + 1) (omega arith)))
          ]
      by_kind (kind.Section words) h = omega arith
      by_kind (kind.Event e) h = omega arith
      by_kind (kind.Mutex owner) h = omega arith
      by_kind (kind.Process v at) h = omega arith
      by_kind (kind.Terminal terminal) h = omega arith

  -- all holders of its object are counted, and it has one at least
  pub counted : there.0.holders ≡ all_holders_on ps (object_number o)
  counted = its_held.holders

  pub some_holder : 0 < there.0.holders
  some_holder =
      elim (cases_eq (o % 2) 0) [
        | inl e ↦ omega (arith, counted, less_here (object_number o) (omega arith))
        | inr d ↦ omega (arith, counted, less_here (object_number o + 1) (omega arith))
      ]

  -- the table of objects with a handle less on it
  module _ (left : Table Kind) (leaves : LeavesOne m.objects left o)
      (spare : left.spare ≡ m.objects.spare + freed (object_at m.objects o)) (went : Option (ℕ × ℕ))
      (is : WentWith (object_at m.objects o) went) where
    pub change : Changes m.objects left o (kept_without o there.0)
    change = rw (there.1) at leaves

    it_went : WentWith (Some there.0) went
    it_went = rw (there.1) at is

    -- it stays, and no process is told
    pub stays : 1 < there.0.holders
        → (object_at left o ≡
        Some (record { object = kind_without (end_by o) there.0.object; holders = there.0.holders - 1 }))
        × (went ≡ None)
    stays l = let b = before 1 there.0.holders l in (rw b at (change.here), rw b at it_went)

    pub goes : there.0.holders ≤ 1 → Changes m.objects left o None × IsProcess there.0.object went
    goes l = let b = not_before 1 there.0.holders l in (rw b at change, rw b at it_went)

    pub may-forget : MayForget with_fewer went
    may-forget =
        elim (cases_lt 1 there.0.holders) [
          | inl l ↦ subst (MayForget with_fewer) (sym (stays l).1) tt
          | inr l ↦ by_kind there.0.object refl its_held.kind (goes l).1
        ]
      where
        by_kind : (x : Kind) → there.0.object ≡ x → IsKind m.processes.slots ps m.section (object_number o) x
            → IsProcess x went → MayForget with_fewer went
        by_kind (kind.Process v at) e h did =
            subst (MayForget with_fewer) (sym did)
            (λ d. kept-known m.script (posted_in m.posted.items) (placed_in m.placed.items) shown m.processes
            sound.table m.objects.places m.keys.items sound.state (object_number o) v
            (its_object ∙ ap (λ y. Some (shown y)) e)
            (λ j f. d (same_numbers at ∙ ap (number_at m.processes.slots) (sym (h j f)) ∙ f)))
        by_kind (kind.Section words) e h did = subst (MayForget with_fewer) (sym did) tt
        by_kind (kind.Event x) e h did = subst (MayForget with_fewer) (sym did) tt
        by_kind (kind.Mutex owner) e h did = subst (MayForget with_fewer) (sym did) tt
        by_kind (kind.Pipe p) e h did = subst (MayForget with_fewer) (sym did) tt
        by_kind (kind.Terminal terminal) e h did = subst (MayForget with_fewer) (sym did) tt

    -- the table of processes, with the process forgotten whose object went
    module _ (forgot : processes.Table) (forgets : Forgets with_fewer went forgot) where
      abbrev pub closed : Inside
      closed = record m { processes = forgot; objects = left }

      abbrev Closed : processes.Table → Type 0
      Closed t = (view_of (record m { processes = t; objects = left })).win32 ≡
          swept (with_handles (view_of m).win32 w (without_handle (place_at m.processes.slots slot).handles k))

      forgets_none : went ≡ None → forgot ≡ with_fewer
      forgets_none e = subst (λ g. Forgets with_fewer g forgot) e forgets

      stays-closed : 1 < there.0.holders → Closed forgot
      stays-closed l =
          subst Closed (sym (forgets_none (stays l).1))
          (closed-stays m.script (posted_in m.posted.items) (placed_in m.placed.items) shown m.processes sound.table
          m.objects.places m.keys.items sound.state slot w stands k o named left.places (omega (arith, counted, l))
          (objects-stay shown m.objects left o (kept_without o there.0) change
          (ap (object_shown shown) (sym change.here ∙ (stays l).0)
          ∙ ap Some (shown-without (end_by o) there.0.object) ∙ ap (object_shown shown) (sym there.1))))

      module _ (l : there.0.holders ≤ 1) where
        one : all_holders_on ps (object_number o) ≡ 1
        one = omega (arith, counted, some_holder, l)

        dropped : objects_of shown left.places ≡ without_object (object_number o) (objects_of shown m.objects.places)
        dropped = objects-drop shown m.objects left o (goes l).0

        -- no process goes with it
        alone : ((v : ℕ) → shown there.0.object ≡ ProcessObject v → is_live (process_of ps v) ≡ true)
            → forgot ≡ with_fewer → Closed forgot
        alone lives e =
            subst Closed (sym e)
            (closed-drops m.script (posted_in m.posted.items) (placed_in m.placed.items) shown m.processes sound.table
            m.objects.places m.keys.items sound.state slot w stands k o named left.places one dropped
            (λ v f. lives v (let g : Some (shown there.0.object) ≡ Some (ProcessObject v) = sym its_object ∙ f in cc)))

        goes-closed : Closed forgot
        goes-closed = by_kind there.0.object refl its_held.kind (goes l).1
          where
            by_forgot : (v at : ℕ) → there.0.object ≡ kind.Process v at
                → Forgets with_fewer (Some (v, at)) forgot → Closed forgot
            by_forgot v at e (inl f) =
                alone (λ u g. subst (λ n. is_live (process_of ps n) ≡ true)
                (let h : ProcessObject v ≡ ProcessObject u = ap shown (sym e) ∙ g in cc)
                (is_live-at (posted_in m.posted.items) (placed_in m.placed.items) m.processes sound.table at v
                (sym (same_numbers at) ∙ f.0))) f.1
            by_forgot v at e (inr f) =
                subst Closed (sym f.1)
                (closed-forgets m.script (posted_in m.posted.items) (placed_in m.placed.items) shown m.processes
                sound.table m.objects.places m.keys.items sound.state slot w stands k o named left.places one dropped v
                (its_object ∙ ap (λ y. Some (shown y)) e))

            other : (x : Kind) → there.0.object ≡ x → ((v : ℕ) → shown x ≢ ProcessObject v) → went ≡ None
                → Closed forgot
            other x e apart none =
                alone (λ v f. absurd (apart v (ap shown (sym e) ∙ f))) (forgets_none none)

            by_kind : (x : Kind) → there.0.object ≡ x → IsKind m.processes.slots ps m.section (object_number o) x
                → IsProcess x went → Closed forgot
            by_kind (kind.Process v at) e h did =
                by_forgot v at e (subst (λ g. Forgets with_fewer g forgot) did forgets)
            by_kind (kind.Section words) e h did = other (kind.Section words) e (λ v f. cc) did
            by_kind (kind.Event x) e h did = other (kind.Event x) e (λ v f. cc) did
            by_kind (kind.Mutex owner) e h did = other (kind.Mutex owner) e (λ v f. cc) did
            by_kind (kind.Pipe p) e h did = other (kind.Pipe p) e (λ v f. cc) did
            by_kind (kind.Terminal terminal) e h did = other (kind.Terminal terminal) e (λ v f. cc) did

      pub closed-is : Closed forgot
      closed-is =
          elim (cases_lt 1 there.0.holders) [
            | inl l ↦ stays-closed l
            | inr l ↦ goes-closed l
          ]
