-- The handles of a process closed one after another, and its end, which closes them all.
use Rattle.std.proofs.Common.{◌≡◌, ◌≢◌, ◌⊎◌, inl, inr, ℕ, Bool, true, false, ◌||◌, if◌then◌else◌, List}
use Rattle.std.proofs.Common.{Option, Some, None, refl, sym, ap, ◌∙◌, subst}
use Rattle.std.proofs.lemmas.Bool.{cases_eq}
use Rattle.win32_spec.specs.Handles.{Handle, handle_of, AreRisingFrom}
use Rattle.win32_spec.specs.State.{ProcessObject, NumberedObject, Process}
use Rattle.win32_spec.specs.Lookup.{is_alive, process_of, object_of, change_process}
use Rattle.win32_spec.specs.Ends.{is_object_held, held_objects, is_process_held, kept_processes}
use Rattle.win32_spec.specs.WellFormed.{AreRisingProcesses, AreRisingObjects}
use Rattle.win32_spec.specs.LookupLaws.{same_some, process_of-change_same, process_of-change_other}
use Rattle.win32_spec.specs.LookupLaws.{changed_process, rising-change_process}
use Rattle.win32_spec.specs.HeldLaws.{held_object, held_object-stays, process_held-by, is-process_held}
use Rattle.win32_spec.specs.HeldLaws.{HaveRisingHandles, rising-held, rising-kept}
use Rattle.w32_handles.specs.ShownLaws.{FindsObjects, same_objects}
use Rattle.w32_process.specs.ProcessLaws.{Finds, same_processes}
use Rattle.w32_process.specs.SweepLaws.{object_kept, process_kept_by, found-held, found-kept, kept-twice, held-over}

-- the same truth value
pub same_bool : (a b : Bool) → (a ≡ true → b ≡ true) → (b ≡ true → a ≡ true) → a ≡ b
same_bool true b f g = sym (f refl)
same_bool false true f g = g refl
same_bool false false f g = refl

-- handles among others
abbrev pub AreAmong : List Handle → List Handle → Type 0
AreAmong hs more = (k names : ℕ) → handle_of hs k ≡ Some names → handle_of more k ≡ Some names

-- Other handles of a live process, and then fewer of them.
module _ (next : ℕ) (ps : List Process) (xs : List NumberedObject) (w : ℕ) (p : Process)
    (rising : AreRisingProcesses 1 next ps) (objects : AreRisingObjects 0 xs) (handles : HaveRisingHandles ps)
    (found : process_of ps w ≡ Some p) (alive : is_alive p.life ≡ true) where
  abbrev pub with_hs : List Handle → List Process
  with_hs hs = change_process w (λ x. record x { handles = hs }) ps

  abbrev pub held : List Handle → List NumberedObject
  held hs = held_objects (with_hs hs) xs

  -- what is found of a process with these handles
  pub found-with : (hs : List Handle) (v : ℕ) (q : Process) → process_of (with_hs hs) v ≡ Some q
      → ((v ≢ w) × (process_of ps v ≡ Some q)) ⊎ ((v ≡ w) × (q ≡ record p { handles = hs }))
  found-with hs v q e =
      elim (changed_process w (λ x. record x { handles = hs }) (λ x. refl) ps v q e) [
        | inl other ↦ inl other
        | inr this ↦ inr (
          this.0,
          this.3 ∙ ap (λ (x : Process). record x { handles = hs })
              (same_some (process_of ps w) this.1 p this.2 found),
        )
      ]

  pub found-here : (hs : List Handle) → process_of (with_hs hs) w ≡ Some (record p { handles = hs })
  found-here hs = process_of-change_same w (λ x. record x { handles = hs }) (λ x. refl) ps p found

  pub found-aside : (hs : List Handle) (v : ℕ) → v ≢ w → process_of (with_hs hs) v ≡ process_of ps v
  found-aside hs v d = process_of-change_other w (λ x. record x { handles = hs }) (λ x. refl) ps v d

  pub rising-with_hs : (hs : List Handle) → AreRisingProcesses 1 next (with_hs hs)
  rising-with_hs hs = rising-change_process w (λ x. record x { handles = hs }) (λ x. refl) 1 next ps rising

  pub handles-with : (hs : List Handle) → AreRisingFrom 1 hs → HaveRisingHandles (with_hs hs)
  handles-with hs r v q e live =
      elim (found-with hs v q e) [
        | inl other ↦ handles v q other.1 live
        | inr this ↦ subst (λ (x : Process). AreRisingFrom 1 x.handles) (sym this.1) r
      ]

  module _ (hs fewer : List Handle) (r : AreRisingFrom 1 hs) (fewer_rising : AreRisingFrom 1 fewer)
      (among : AreAmong fewer hs) where
    -- what fewer handles hold, more hold
    pub holds-more : (o : ℕ) → is_object_held (with_hs fewer) o ≡ true → is_object_held (with_hs hs) o ≡ true
    holds-more o =
        held-over 1 next (with_hs fewer) (with_hs hs) o (rising-with_hs fewer) (handles-with fewer fewer_rising) over
      where
        over : (v : ℕ) (q : Process) (k names : ℕ) → process_of (with_hs fewer) v ≡ Some q → is_alive q.life ≡ true
            → handle_of q.handles k ≡ Some names
            → (x : Process) × (process_of (with_hs hs) v ≡ Some x) × (is_alive x.life ≡ true)
            × (handle_of x.handles k ≡ Some names)
        over v q k names e live n =
            elim (found-with fewer v q e) [
              | inl other ↦ (q, found-aside hs v other.0 ∙ other.1, live, n)
              | inr this ↦ (
                record p { handles = hs },
                ap (process_of (with_hs hs)) this.0 ∙ found-here hs,
                alive,
                among k names (sym (ap (λ (x : Process). handle_of x.handles k) this.1) ∙ n),
              )
            ]

    -- the state after the first, and the processes in it with the fewer
    abbrev pub os : List NumberedObject
    os = held hs

    abbrev pub mid : List Process
    mid = kept_processes os (with_hs hs)

    abbrev pub later : List Process
    later = change_process w (λ x. record x { handles = fewer }) mid

    pub rising_mid : AreRisingProcesses 1 next mid
    rising_mid = rising-kept os 1 next (with_hs hs) (rising-with_hs hs)

    rising_then : AreRisingProcesses 1 next later
    rising_then = rising-change_process w (λ x. record x { handles = fewer }) (λ x. refl) 1 next mid rising_mid

    pub mid_here : process_of mid w ≡ Some (record p { handles = hs })
    mid_here = found-kept os 1 next (with_hs hs) (rising-with_hs hs) w
        ∙ ap (process_kept_by (is_process_held os w)) (found-here hs)
        ∙ ap (λ (b : Bool). if b || is_process_held os w then Some (record p { handles = hs }) else None) alive

    -- what is found then: the process itself, and of the others those that stayed
    later_here : process_of later w ≡ Some (record p { handles = fewer })
    later_here = process_of-change_same w (λ x. record x { handles = fewer }) (λ x. refl) mid
        (record p { handles = hs }) mid_here

    later_aside : (v : ℕ) → v ≢ w → process_of later v ≡ process_kept_by (is_process_held os v) (process_of ps v)
    later_aside v d =
        process_of-change_other w (λ x. record x { handles = fewer }) (λ x. refl) mid v d
        ∙ found-kept os 1 next (with_hs hs) (rising-with_hs hs) v
        ∙ ap (process_kept_by (is_process_held os v)) (found-aside hs v d)

    handles_then : HaveRisingHandles later
    handles_then v q e live =
        elim (cases_eq v w) [
          | inl n ↦
              let g : q ≡ record p { handles = fewer } =
              same_some (process_of later w) q (record p { handles = fewer }) (rw n at e) later_here in
              subst (λ (x : Process). AreRisingFrom 1 x.handles) (sym g) fewer_rising
          | inr d ↦ by_old d (process_of ps v) refl (sym (later_aside v d) ∙ e)
        ]
      where
        by_test : (x : Process) → process_of ps v ≡ Some x → (b : Bool)
            → (if b then Some x else None) ≡ Some q → AreRisingFrom 1 q.handles
        by_test x f true g = let it : x ≡ q = cc in handles v q (f ∙ ap Some it) live
        by_test x f false g = absurd (cc)

        by_old : v ≢ w → (o : Option Process) → process_of ps v ≡ o
            → process_kept_by (is_process_held os v) o ≡ Some q → AreRisingFrom 1 q.handles
        by_old d None f g = absurd (cc)
        by_old d (Some x) f g = by_test x f (is_alive x.life || is_process_held os v) g

    -- the same live processes stand in both
    same_held : (o : ℕ) → is_object_held later o ≡ is_object_held (with_hs fewer) o
    same_held o =
        same_bool (is_object_held later o) (is_object_held (with_hs fewer) o)
        (held-over 1 next later (with_hs fewer) o rising_then handles_then forth)
        (held-over 1 next (with_hs fewer) later o (rising-with_hs fewer) (handles-with fewer fewer_rising) back)
      where
        forth : (v : ℕ) (q : Process) (k names : ℕ) → process_of later v ≡ Some q → is_alive q.life ≡ true
            → handle_of q.handles k ≡ Some names
            → (x : Process) × (process_of (with_hs fewer) v ≡ Some x) × (is_alive x.life ≡ true)
            × (handle_of x.handles k ≡ Some names)
        forth v q k names e live n =
            elim (cases_eq v w) [
              | inl m ↦ (
                q,
                ap (process_of (with_hs fewer)) m ∙ found-here fewer ∙ sym later_here
                    ∙ (rw m at e),
                live,
                n,
              )
              | inr d ↦ by_old d (process_of ps v) refl (sym (later_aside v d) ∙ e)
            ]
          where
            by_test : v ≢ w → (x : Process) → process_of ps v ≡ Some x → (b : Bool)
                → (if b then Some x else None) ≡ Some q
                → (y : Process) × (process_of (with_hs fewer) v ≡ Some y) × (is_alive y.life ≡ true)
                × (handle_of y.handles k ≡ Some names)
            by_test d x f true g = let it : x ≡ q = cc in (q, found-aside fewer v d ∙ f ∙ ap Some it, live, n)
            by_test d x f false g = absurd (cc)

            by_old : v ≢ w → (o : Option Process) → process_of ps v ≡ o
                → process_kept_by (is_process_held os v) o ≡ Some q
                → (y : Process) × (process_of (with_hs fewer) v ≡ Some y) × (is_alive y.life ≡ true)
                × (handle_of y.handles k ≡ Some names)
            by_old d None f g = absurd (cc)
            by_old d (Some x) f g = by_test d x f (is_alive x.life || is_process_held os v) g

        back : (v : ℕ) (q : Process) (k names : ℕ) → process_of (with_hs fewer) v ≡ Some q → is_alive q.life ≡ true
            → handle_of q.handles k ≡ Some names
            → (x : Process) × (process_of later v ≡ Some x) × (is_alive x.life ≡ true)
            × (handle_of x.handles k ≡ Some names)
        back v q k names e live n =
            elim (found-with fewer v q e) [
              | inl other ↦ (
                q,
                later_aside v other.0 ∙ ap (process_kept_by (is_process_held os v)) other.1
                    ∙ ap (λ (b : Bool). if b || is_process_held os v then Some q else None) live,
                live,
                n,
              )
              | inr this ↦ (q, ap (process_of later) this.0 ∙ later_here ∙ ap Some (sym this.1), live, n)
            ]

    pub later-objects : held_objects later os ≡ held fewer
    later-objects =
        same_objects 0 0 (held_objects later os) (held fewer)
        (rising-held later 0 os (rising-held (with_hs hs) 0 xs objects)) (rising-held (with_hs fewer) 0 xs objects)
        finds
      where
        by_test : (o : ℕ) (a b : Bool) → is_object_held (with_hs fewer) o ≡ a → is_object_held (with_hs hs) o ≡ b
            → object_kept a (object_kept b (object_of xs o)) ≡ object_kept a (object_of xs o)
        by_test o false b e f = refl
        by_test o true true e f = refl
        by_test o true false e f = absurd (let g : false ≡ true = sym f ∙ holds-more o e in cc)

        finds : FindsObjects (held_objects later os) (held fewer)
        finds o =
            found-held later os o
            ∙ ap (object_kept (is_object_held later o)) (found-held (with_hs hs) xs o)
            ∙ ap (λ a. object_kept a (object_kept (is_object_held (with_hs hs) o) (object_of xs o))) (same_held o)
            ∙ by_test o (is_object_held (with_hs fewer) o) (is_object_held (with_hs hs) o) refl refl
            ∙ sym (found-held (with_hs fewer) xs o)

    -- an object that the fewer hold is one that more hold
    still_listed : (v : ℕ) → is_process_held (held fewer) v ≡ true → is_process_held os v ≡ true
    still_listed v e =
        let at = process_held-by 0 (held fewer) v (rising-held (with_hs fewer) 0 xs objects) e in
        let both = held_object (with_hs fewer) xs at.0 (ProcessObject v) at.1 in
        is-process_held os v at.0
        (held_object-stays (with_hs hs) xs at.0 (ProcessObject v) both.0 (holds-more at.0 both.1))

    pub later-processes : kept_processes (held fewer) later ≡ kept_processes (held fewer) (with_hs fewer)
    later-processes =
        same_processes 1 next 1 next (kept_processes (held fewer) later) (kept_processes (held fewer) (with_hs fewer))
        (rising-kept (held fewer) 1 next later rising_then)
        (rising-kept (held fewer) 1 next (with_hs fewer) (rising-with_hs fewer)) finds
      where
        what : (v : ℕ) → process_kept_by (is_process_held (held fewer) v) (process_of later v) ≡
            process_kept_by (is_process_held (held fewer) v) (process_of (with_hs fewer) v)
        what v =
            elim (cases_eq v w) [
              | inl n ↦ ap (process_kept_by (is_process_held (held fewer) v))
                  (ap (process_of later) n ∙ later_here ∙ sym (found-here fewer)
                  ∙ ap (process_of (with_hs fewer)) (sym n))
              | inr d ↦ ap (process_kept_by (is_process_held (held fewer) v)) (later_aside v d)
                  ∙ kept-twice (is_process_held (held fewer) v) (is_process_held os v) (still_listed v)
                  (process_of ps v)
                  ∙ ap (process_kept_by (is_process_held (held fewer) v)) (sym (found-aside fewer v d))
            ]

        finds : Finds (kept_processes (held fewer) later) (kept_processes (held fewer) (with_hs fewer))
        finds v =
            found-kept (held fewer) 1 next later rising_then v ∙ what v
            ∙ sym (found-kept (held fewer) 1 next (with_hs fewer) (rising-with_hs fewer) v)
