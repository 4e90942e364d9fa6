-- A new object with a handle of a caller: the tables show the state with both, and stay sound.
use Rattle.std.proofs.Common.{◌≡◌, ◌∙◌, inl, inr, ℕ, ◌+◌, ◌%◌, ◌≤◌, ◌<◌, Bool, true, false, nat_lt, if◌then◌else◌, List}
use Rattle.std.proofs.Common.{[], ◌∷◌, length, Some, None, refl, sym, ap, subst, arith}
use Rattle.std.proofs.lemmas.Bool.{cases_eq}
use Rattle.std.proofs.lemmas.Bool.Decides.{nat_tests}
use Rattle.w32_base.specs.declared.call.Call.TheVariants as call
use Rattle.w32_base.specs.declared.call.Reply.TheVariants as reply
use Rattle.win32_spec.specs.Handles.{with_handle, IsLowestFree}
use Rattle.win32_spec.specs.Objects.{Free, Owned, PipeState}
use Rattle.win32_spec.specs.State.{ProcessObject, NumberedObject, Win32State}
use Rattle.win32_spec.specs.Lookup.{process_of, is_live, object_number, object_of, add_object, with_new_object, IsFresh}
use Rattle.win32_spec.specs.Lookup.{with_handles as with_state_handles}
use Rattle.win32_spec.specs.Named.{handles_of, handles_by, is_full}
use Rattle.win32_spec.specs.Ends.{is_object_of, is_object_held}
use Rattle.win32_spec.specs.Pipes.{all_holders_of}
use Rattle.win32_spec.specs.ProcessCalls.{process_object}
use Rattle.win32_spec.specs.WellFormed.{IsOwnership, IsObject}
use Rattle.win32_spec.specs.Effects.{Adds, IsOnly}
use Rattle.win32_spec.specs.FormedLaws.{from_listed, of_live, have_rising}
use Rattle.win32_spec.specs.HandleEffects.{only_process}
use Rattle.win32_spec.specs.HeldLaws.{held-by}
use Rattle.win32_spec.specs.LookupLaws.{same, differs, not_none, process_of-change_same}
use Rattle.w32_handles.specs.BoundLaws.{length-add}
use Rattle.w32_handles.specs.Counted.{all_holders_on}
use Rattle.w32_handles.specs.CountLaws.{held-counted}
use Rattle.w32_handles.specs.Shown.{object_shown, objects_of}
use Rattle.w32_handles.specs.ShownLaws.{object_of-named}
use Rattle.w32_handles.specs.PlaceLaws.{objects-add, is_fresh}
use Rattle.w32_handles.specs.Table.{Table, object_at, Changes}
use Rattle.w32_process.specs.RoomLaws.{objects-room}
use Rattle.w32_machine.specs.Contract.{IsCaller}
use Rattle.w32_machine.specs.Handing.{IsNewKind}
use Rattle.w32_machine.specs.declared.caller.Caller.{Caller}
use Rattle.w32_kinds.specs.declared.kind.Kind.{Kind}
use Rattle.w32_kinds.specs.declared.kind.Kind.TheVariants as kind
use Rattle.w32_machine.specs.declared.machine.Machine.TheInside.{Inside}
use Rattle.w32_machine.specs.Running.{Running}
use Rattle.w32_kinds.specs.Shown.{shown}
use Rattle.w32_machine.specs.View.{posted_in, placed_in, view_of}
use Rattle.w32_machine.specs.Sound.{IsKind, IsHeld, IsSound}
use Rattle.w32_machine.proofs.Slots.{its_process, found, live, caller-at}
use Rattle.w32_machine.proofs.Called.{formed-effect}
use Rattle.w32_machine.proofs.Handing.{stands, some-room, handed, holders-are, numbers-are, handed-is, handed-sound}

-- where no object is that of a process, none is
process_object-none : (xs : List NumberedObject) (v b : ℕ) → process_object xs v ≡ None
    → object_of xs b ≡ Some (ProcessObject v) → ⊥
process_object-none [] v b e f = cc
process_object-none (x ∷ xs) v b e f = by_test (is_object_of x.object v) refl e (process_object-none xs v b)
  where
    by_test : (k : Bool) → is_object_of x.object v ≡ k → (if k then Some x.number else process_object xs v) ≡ None
        → (process_object xs v ≡ None → object_of xs b ≡ Some (ProcessObject v) → ⊥) → ⊥
    by_test true t g rest = cc
    by_test false t g rest =
        elim (cases_eq x.number b) [
          | inl n ↦
              let s = same x.number b n in
              let h : Some x.object ≡ Some (ProcessObject v) = rw s at f in
              let i : x.object ≡ ProcessObject v = cc in
              let j : is_object_of x.object v ≡ true = rw i (same v v refl) in cc
          | inr d ↦ let s = differs x.number b d in rest g (rw s at f)
        ]

module _ (m : Inside) (sound : IsSound m) (now : Running) (shows : view_of m ≡ now) (by : Caller)
    (caller : IsCaller now.win32 by) where
  -- the table has room for it
  pub some-spare : is_full (handles_by now.win32 by.process) 1 ≡ false → 0 < m.objects.spare
  some-spare room =
      omega (
        arith,
        sound.room,
        objects-room m.script (posted_in m.posted.items) (placed_in m.placed.items) shown m.processes sound.table
            m.objects.places m.keys.items sound.state by.slot by.process 1
            (stands m sound now shows by caller) (some-room m sound now shows by caller room),
      )

  -- a new object fits the well-formed state
  rule : (k : Kind) → IsNewKind now.win32 by k → IsObject now.win32.processes (shown k)
  rule (kind.Event e) new = tt
  rule (kind.Mutex owner) new = subst (IsOwnership now.win32.processes) (sym new.1) (by_owned new.0)
    where
      by_owned : (owned : Bool)
          → IsOwnership now.win32.processes (if owned then Owned by.process by.thread else Free)
      by_owned true = (
        subst (λ (r : Running). is_live (process_of r.win32.processes by.process) ≡ true) shows
            (live m sound by.slot by.process (stands m sound now shows by caller)),
        caller.thread,
      )
      by_owned false = tt
  rule (kind.Pipe p) new = subst (λ (q : PipeState). length q.bytes ≤ 64) (sym new) (omega arith)
  rule (kind.Process w slot) new =
      let at = caller-at m sound now shows slot w new.0 in (
        its_process m sound slot w at,
        ap (λ (r : Running). process_of r.win32.processes w) (sym shows) ∙ found m sound slot w at,
      )
  rule (kind.Section words) new = absurd new
  rule (kind.Terminal terminal) new = absurd new

  only : (k : Kind) → IsNewKind now.win32 by k → IsOnly now.win32 (shown k)
  only (kind.Event e) new = λ b y n f i j. absurd (cc)
  only (kind.Mutex owner) new = λ b y n f i j. absurd (cc)
  only (kind.Pipe p) new = λ b y n f i j. absurd (cc)
  only (kind.Process w slot) new = λ b y n f i j.
      let is : y ≡ ProcessObject w = only_process y w (j ∙ sym i) in
      process_object-none now.win32.objects w b new.1 (f ∙ ap Some is)
  only (kind.Section words) new = absurd new
  only (kind.Terminal terminal) new = absurd new

  module _ (h names : ℕ) (objects : Table Kind) (k : Kind) (even : names % 2 ≡ 0)
      (free : object_at m.objects names ≡ None)
      (change : Changes m.objects objects names (Some (record { object = k; holders = 1 })))
      (spare : objects.spare + 1 ≡ m.objects.spare) (new : IsNewKind now.win32 by k) where
    abbrev pub making : Inside
    making = handed m sound now shows by caller h names objects

    whole : object_number names ≡ names
    whole = omega (arith, even)

    pub fresh : IsFresh now.win32 names
    fresh = is_fresh shown now.win32 m.objects names (ap (λ (r : Running). r.win32.objects) (sym shows)) even free

    objects-are : objects_of shown objects.places ≡ add_object names (shown k) (objects_of shown m.objects.places)
    objects-are =
        subst (λ n. objects_of shown objects.places ≡ add_object n (shown k) (objects_of shown m.objects.places))
        whole
        (objects-add shown m.objects objects names (Some (record { object = k; holders = 1 })) (shown k) change free
        refl)

    pub added-after : (view_of making).win32 ≡
        with_state_handles (with_new_object now.win32 names (shown k)) by.process
        (with_handle (handles_by now.win32 by.process) h names)
    added-after =
        handed-is m sound now shows by caller h names objects (add_object names (shown k) now.win32.objects)
        (objects-are ∙ ap (λ (r : Running). add_object names (shown k) r.win32.objects) shows)

    -- nobody names it yet
    unheld : (b : Bool) → is_object_held (view_of m).win32.processes names ≡ b → b ≡ false
    unheld false e = refl
    unheld true e =
        let at = held-by 1 m.processes.next (view_of m).win32.processes names sound.state.formed.processes
        (have_rising m.script (view_of m).win32 sound.state.formed) e in
        let live = of_live m.script (view_of m).win32.objects at.process at.process.life at.alive
        (sound.state.formed.process at.number at.process at.found) in
        let listed = from_listed (view_of m).win32.objects at.names (live.naming at.handle at.names at.named) in
        absurd (not_none (object_of (view_of m).win32.objects names) listed.0
        (ap (object_of (view_of m).win32.objects) (sym at.object) ∙ listed.1)
        (ap (object_of (view_of m).win32.objects) (sym whole) ∙ object_of-named shown m.objects names
        ∙ ap (object_shown shown) free))

    none-held : all_holders_on (view_of m).win32.processes names ≡ 0
    none-held =
        let test : nat_lt 0 (all_holders_on (view_of m).win32.processes names) ≡ false =
        sym (held-counted (view_of m).win32.processes names whole)
        ∙ unheld (is_object_held (view_of m).win32.processes names) refl in
        grind (arith, nat_tests)

    its : IsHeld making.processes.slots (view_of making).win32.processes m.section names
        (record { object = k; holders = 1 })
    its =
        let first = holders-are m sound now shows by caller h names objects names in
        let second = holders-are m sound now shows by caller h names objects (names + 1) in
        let s = same names names refl in
        let t = differs names (names + 1) (λ e. omega arith) in
        let f : all_holders_of (view_of making).win32.processes names ≡
        all_holders_of (view_of m).win32.processes names + 1 = rw s at first in
        let g : all_holders_of (view_of making).win32.processes (names + 1) ≡
        all_holders_of (view_of m).win32.processes (names + 1) + 0 = rw t at second in
        record {
          holders = omega (arith, none-held, f, g);
          kind = by_kind k new (omega (arith, none-held, f)) (omega (arith, none-held, g));
        }
      where
        by_kind : (x : Kind) → IsNewKind now.win32 by x → 1 ≡ all_holders_of (view_of making).win32.processes names
            → 0 ≡ all_holders_of (view_of making).win32.processes (names + 1)
            → IsKind making.processes.slots (view_of making).win32.processes m.section names x
        by_kind (kind.Event e) is one none = tt
        by_kind (kind.Mutex owner) is one none = tt
        by_kind (kind.Pipe p) is one none =
            (ap (λ (q : PipeState). q.readers) is ∙ one, ap (λ (q : PipeState). q.writers) is ∙ none)
        by_kind (kind.Process w slot) is one none = λ j e.
            sound.table.numbers.alone j slot w
            (sym (numbers-are m sound now shows by caller h names objects j) ∙ e)
            (caller-at m sound now shows slot w is.0)
        by_kind (kind.Section words) is one none = absurd is
        by_kind (kind.Terminal terminal) is one none = absurd is

    pub added-sound : is_full (handles_by now.win32 by.process) 1 ≡ false
        → IsLowestFree (handles_by now.win32 by.process) h → IsSound making
    added-sound room lowest =
        handed-sound m sound now shows by caller h names objects (record { object = k; holders = 1 }) change
        (rw whole its)
        (omega (
          arith,
          sound.room,
          spare,
          ap (λ (xs : List NumberedObject). length xs) objects-are,
          length-add names (shown k) (objects_of shown m.objects.places),
        ))
        (formed-effect m sound now shows by caller by.thread caller.thread call.Pipe (view_of making).win32
        (Adds (shown k) (rule k new) (only k new) room (reply.Handle h)
        (record {
          number = names;
          fresh = fresh;
          handled = record { handle = h; lowest = lowest; answered = refl; after = added-after };
        })))

    -- the caller's handles after that
    pub handles-then : handles_by (view_of making).win32 by.process ≡
        with_handle (handles_by now.win32 by.process) h names
    handles-then =
        ap (λ (s : Win32State). handles_by s by.process) added-after
        ∙ ap handles_of (process_of-change_same by.process
        (λ x. record x { handles = with_handle (handles_by now.win32 by.process) h names }) (λ x. refl)
        now.win32.processes (its_process m sound by.slot by.process (stands m sound now shows by caller))
        (ap (λ (r : Running). process_of r.win32.processes by.process) (sym shows)
        ∙ found m sound by.slot by.process (stands m sound now shows by caller)))
