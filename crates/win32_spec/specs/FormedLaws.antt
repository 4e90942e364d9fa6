-- Well-formed states stay so under a change of handles and with one more object.
use Rattle.std.proofs.Common.{◌≡◌, ◌≢◌, ◌⊎◌, inl, inr, ℕ, true, List, Option, Some, None, MatchOption, refl, sym, ap}
use Rattle.std.proofs.Common.{◌∙◌, subst, arith}
use Rattle.std.proofs.lemmas.Bool.{cases_eq}
use Rattle.script_spec.specs.declared.script.Script.{Script}
use Rattle.win32_spec.specs.Handles.{Handle, handle_of, AreRisingFrom}
use Rattle.win32_spec.specs.Objects.{Free, Owned, Abandoned}
use Rattle.win32_spec.specs.State.{Object, Section, Event, Mutex, Pipe, ProcessObject, TerminalObject, NumberedObject}
use Rattle.win32_spec.specs.State.{Life, Alive, Ended, Process, Win32State}
use Rattle.win32_spec.specs.Lookup.{is_alive, process_of, is_live, object_number, object_of, change_process, add_object}
use Rattle.win32_spec.specs.Lookup.{with_handles, with_new_object, IsFresh}
use Rattle.win32_spec.specs.WellFormed.{IsHost, IsLayerProcess, FitsEnd, IsListed, IsLiveProcess, IsProcessBy, IsObject}
use Rattle.win32_spec.specs.WellFormed.{only_number, IsFormed}
use Rattle.win32_spec.specs.LookupLaws.{same_some, not_none, process_of-change_same, process_of-change_other}
use Rattle.win32_spec.specs.LookupLaws.{changed_process, rising-change_process}
use Rattle.win32_spec.specs.ObjectLaws.{object_of-add_new, object_of-add_other, rising-add_object}
use Rattle.win32_spec.specs.HeldLaws.{HaveRisingHandles}

-- of a live process, what a live one keeps to; and of one that has ended, what an ended one does
pub of_live : (script : Script) (xs : List NumberedObject) (p : Process) (life : Life) → is_alive life ≡ true
    → IsProcessBy script xs p life
    → IsLiveProcess script xs p
of_live script xs p Alive e h = h
of_live script xs p (Ended code) e h = absurd (cc)

pub to_live : (script : Script) (xs : List NumberedObject) (p : Process) (life : Life) → is_alive life ≡ true
    → IsLiveProcess script xs p
    → IsProcessBy script xs p life
to_live script xs p Alive e h = h
to_live script xs p (Ended code) e h = absurd (cc)

-- a live process, and the same where more objects are listed
pub with_objects : (script : Script) (xs ys : List NumberedObject) (p : Process) (life : Life)
    → ((names : ℕ) → IsListed xs names → IsListed ys names) → IsProcessBy script xs p life
    → IsProcessBy script ys p life
with_objects script xs ys p Alive more h =
    record {
      kind = h.kind;
      threads = h.threads;
      rising = h.rising;
      naming =
          λ k names e. more names (h.naming k names e);
    }
with_objects script xs ys p (Ended code) more h =
    record { threads = h.threads; handles = h.handles; own = h.own; placed = h.placed }

-- a listed object, by its lookup
pub to_listed : (xs : List NumberedObject) (names : ℕ) (x : Object) → object_of xs (object_number names) ≡ Some x
    → FitsEnd names x → IsListed xs names
to_listed xs names x e fits = subst (λ o. MatchOption o ⊥ (FitsEnd names)) (sym e) fits

pub from_listed : (xs : List NumberedObject) (names : ℕ) → IsListed xs names
    → (x : Object) × (object_of xs (object_number names) ≡ Some x) × FitsEnd names x
from_listed xs names h = by_answer (object_of xs (object_number names)) refl h
  where
    by_answer : (o : Option Object) → object_of xs (object_number names) ≡ o → MatchOption o ⊥ (FitsEnd names)
        → (x : Object) × (object_of xs (object_number names) ≡ Some x) × FitsEnd names x
    by_answer None e f = absurd f
    by_answer (Some x) e f = (x, e, f)

pub have_rising : (script : Script) (s : Win32State) → IsFormed script s → HaveRisingHandles s.processes
have_rising script s h w p e alive = let live = of_live script s.objects p p.life alive (h.process w p e) in live.rising

-- a live process is found, and one that is found alive is live
pub live_found : (o : Option Process) → is_live o ≡ true → (p : Process) × (o ≡ Some p) × (is_alive p.life ≡ true)
live_found None e = absurd (cc)
live_found (Some p) e = (p, refl, e)

pub found_live : (o : Option Process) (p : Process) → o ≡ Some p → is_alive p.life ≡ true → is_live o ≡ true
found_live o p e alive = rw e alive

-- Of an object's rule over other processes: each process is still there, and alive where it was.
pub object_over : (ps qs : List Process) (x : Object)
    → ((v : ℕ) (p : Process) → process_of ps v ≡ Some p
    → (q : Process) × (process_of qs v ≡ Some q) × (q.life ≡ p.life))
    → IsObject ps x → IsObject qs x
object_over ps qs (Section words) stays i = i
object_over ps qs (Event e) stays i = tt
object_over ps qs (Mutex Free) stays i = tt
object_over ps qs (Mutex Abandoned) stays i = tt
object_over ps qs (Mutex (Owned v t)) stays i =
    let p = live_found (process_of ps v) i.0 in
    let q = stays v p.0 p.1 in
    (found_live (process_of qs v) q.0 q.1 (ap is_alive q.2 ∙ p.2), i.1)
object_over ps qs (Pipe bytes) stays i = i
object_over ps qs (ProcessObject v) stays i = let q = stays v i.0 i.1 in (q.0, q.1)
object_over ps qs (TerminalObject terminal) stays i = tt

-- Other handles of a live process.
module _ (script : Script) (s : Win32State) (w : ℕ) (p : Process) (hs : List Handle) (h : IsFormed script s)
    (found : process_of s.processes w ≡ Some p) (alive : is_alive p.life ≡ true) (rising : AreRisingFrom 1 hs)
    (naming : (k names : ℕ) → handle_of hs k ≡ Some names → IsListed s.objects names) where
  its_kind : MatchOption p.program (IsHost p) (IsLayerProcess script p)
      → MatchOption p.program (IsHost (record p { handles = hs })) (IsLayerProcess script (record p { handles = hs }))
  its_kind k = by_program p.program k
    where
      by_program : (o : Option ℕ) → MatchOption o (IsHost p) (IsLayerProcess script p)
          → MatchOption o (IsHost (record p { handles = hs })) (IsLayerProcess script (record p { handles = hs }))
      by_program None k = record { number = k.number; slot = k.slot; sizes = k.sizes; placed = k.placed }
      by_program (Some n) k =
          record {
            number = k.number;
            from_one = k.from_one;
            most = k.most;
            program = k.program;
            listed =
                k.listed;
            sizes = k.sizes;
            placed = k.placed;
          }

  its_live : IsProcessBy script s.objects (record p { handles = hs }) p.life
  its_live =
      let live = of_live script s.objects p p.life alive (h.process w p found) in
      to_live script s.objects (record p { handles = hs }) p.life alive
      (record { kind = its_kind live.kind; threads = live.threads; rising = rising; naming = naming })

  pub formed-with_handles : IsFormed script (with_handles s w hs)
  formed-with_handles =
      let inversion = changed_process w (λ q. record q { handles = hs }) (λ q. refl) s.processes in
      record {
        next = h.next;
        processes = rising-change_process w (λ q. record q { handles = hs }) (λ q. refl) 1 s.next s.processes
            h.processes;
        objects = h.objects;
        process = λ v q e. elim (inversion v q e) [
          | inl other ↦ h.process v q other.1
          | inr this ↦
              let g : p ≡ this.1 = same_some (process_of s.processes w) p this.1 found this.2 in
              subst (λ (x : Process). IsProcessBy script s.objects x x.life)
              (ap (λ (x : Process). record x { handles = hs }) g ∙ sym this.3) its_live
        ];
        one_a_slot = λ u v q r e f a b c.
            let old = λ (x : ℕ) (y : Process)
            (i : process_of (change_process w (λ q. record q { handles = hs }) s.processes) x ≡ Some y). before_it
            x y i in
            let q0 = old u q e in let r0 = old v r f in
            h.one_a_slot u v q0.0 r0.0 q0.1 r0.1 (rw q0.2 a) (rw r0.2 b) (q0.3 ∙ c ∙ sym r0.3);
        object = λ o x e.
            object_over s.processes (change_process w (λ q. record q { handles = hs }) s.processes) x after_it
            (h.object o x e);
        only = h.only;
      }
    where
      before_it : (x : ℕ) (y : Process)
          → process_of (change_process w (λ q. record q { handles = hs }) s.processes) x ≡ Some y
          → (z : Process) × (process_of s.processes x ≡ Some z) × (z.life ≡ y.life) × (z.slot ≡ y.slot)
      before_it x y e =
          elim (changed_process w (λ q. record q { handles = hs }) (λ q. refl) s.processes x y e) [
            | inl other ↦ (y, other.1, refl, refl)
            | inr this ↦ (
              this.1,
              rw this.0 this.2,
              ap (λ (z : Process). z.life) (sym this.3),
              ap
                  (λ (z : Process). z.slot) (sym this.3),
            )
          ]

      after_it : (x : ℕ) (y : Process) → process_of s.processes x ≡ Some y
          → (z : Process) × (process_of (change_process w (λ q. record q { handles = hs }) s.processes) x ≡ Some z)
          × (z.life ≡ y.life)
      after_it x y e =
          elim (cases_eq x w) [
            | inl n ↦ (
              record y { handles = hs },
              rw n
                  (process_of-change_same w (λ q. record q { handles = hs }) (λ q. refl) s.processes y (rw n at e)),
              refl,
            )
            | inr d ↦ (
              y,
              process_of-change_other w (λ q. record q { handles = hs }) (λ q. refl) s.processes x d
                  ∙ e,
              refl,
            )
          ]

-- One more object, which nobody holds yet: its rule holds, and it is no second one where there is one at most.
pub formed-with_new_object : (script : Script) (s : Win32State) (o : ℕ) (x : Object) → IsFormed script s → IsFresh s o
    → IsObject s.processes x
    → ((b : ℕ) (y : Object) (k : ℕ) → object_of s.objects b ≡ Some y → only_number x ≡ Some k → only_number y ≡ Some k
    → ⊥)
    → IsFormed script (with_new_object s o x)
formed-with_new_object script s o x h fresh rule only = record {
  next = h.next;
  processes = h.processes;
  objects = rising-add_object o x 0 s.objects h.objects (omega arith) fresh.even fresh.free;
  process = λ v p e. with_objects script s.objects new p p.life more (h.process v p e);
  one_a_slot = h.one_a_slot;
  object = λ a y e. elim (which a y e)
      [ inl old ↦ h.object a y old.1 | inr this ↦ subst (λ z. IsObject s.processes z) (sym this.1) rule ];
  only = λ a b y z k e f m n.
      elim (which a y e) [
        | inl old ↦ elim (which b z f) [
          | inl other ↦ h.only a b y z k old.1 other.1 m n
          | inr this ↦ absurd (only a y k old.1 (ap only_number (sym this.1) ∙ n) m)
        ]
        | inr this ↦ elim (which b z f) [
          | inl other ↦ absurd (only b z k other.1 (ap only_number (sym this.1) ∙ m) n)
          | inr that ↦ this.0 ∙ sym that.0
        ]
      ];
}
  where
    new : List NumberedObject
    new = add_object o x s.objects

    which : (a : ℕ) (y : Object) → object_of (add_object o x s.objects) a ≡ Some y
        → ((a ≢ o) × (object_of s.objects a ≡ Some y)) ⊎ ((a ≡ o) × (y ≡ x))
    which a y e =
        elim (cases_eq a o) [
          | inl n ↦ inr (
            n,
            same_some (object_of (add_object o x s.objects) o) y x (rw n at e)
                (object_of-add_new o x s.objects fresh.free),
          )
          | inr d ↦ inl (d, sym (object_of-add_other o x s.objects a d) ∙ e)
        ]

    more : (names : ℕ) → IsListed s.objects names → IsListed (add_object o x s.objects) names
    more names listed =
        let at = from_listed s.objects names listed in
        let apart = λ (n : object_number names ≡ o). not_none (object_of s.objects o) at.0 (rw n at at.1) fresh.free in
        to_listed (add_object o x s.objects) names at.0
        (object_of-add_other o x s.objects (object_number names) apart ∙ at.1) at.2
