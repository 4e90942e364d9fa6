-- A formed state stays formed under the end of a process.
use Rattle.std.proofs.Common.{◌≡◌, ◌≢◌, ◌⊎◌, inl, inr, ℕ, true, false, Some, refl, sym, ap, ◌∙◌, subst}
use Rattle.std.proofs.lemmas.Bool.{cases_eq}
use Rattle.script_spec.specs.declared.script.Script.{Script}
use Rattle.win32_spec.specs.Objects.{Free, Owned, Abandoned}
use Rattle.win32_spec.specs.State.{Object, Section, Event, Mutex, Pipe, ProcessObject, TerminalObject, Process}
use Rattle.win32_spec.specs.State.{Win32State}
use Rattle.win32_spec.specs.Lookup.{process_of, object_number, change_process}
use Rattle.win32_spec.specs.Ends.{object_left_by, objects_left_by, ended_process, with_ended}
use Rattle.win32_spec.specs.WellFormed.{has_ends, IsListed, IsProcessBy, IsObject, only_number, IsFormed}
use Rattle.win32_spec.specs.LookupLaws.{same, differs, process_of-change_same, process_of-change_other, changed_process}
use Rattle.win32_spec.specs.LookupLaws.{rising-change_process}
use Rattle.win32_spec.specs.ObjectLaws.{object_of-left, left_object, rising-left}
use Rattle.win32_spec.specs.FormedLaws.{with_objects, to_listed, from_listed}

-- The end of a process: what it leaves of each object is of the same kind.
pub only_number-left : (w : ℕ) (x : Object) → only_number (object_left_by w x) ≡ only_number x
only_number-left w (Section words) = refl
only_number-left w (Event e) = refl
only_number-left w (Mutex owner) = refl
only_number-left w (Pipe bytes) = refl
only_number-left w (ProcessObject v) = refl
only_number-left w (TerminalObject terminal) = refl

pub has_ends-left : (w : ℕ) (x : Object) → has_ends (object_left_by w x) ≡ has_ends x
has_ends-left w (Section words) = refl
has_ends-left w (Event e) = refl
has_ends-left w (Mutex owner) = refl
has_ends-left w (Pipe bytes) = refl
has_ends-left w (ProcessObject v) = refl
has_ends-left w (TerminalObject terminal) = refl

module _ (script : Script) (s : Win32State) (w code : ℕ) (p : Process) (h : IsFormed script s)
    (found : process_of s.processes w ≡ Some p) where
  -- a process after the end is another one, or this one
  ended_which : (v : ℕ) (q : Process) → process_of (change_process w (ended_process code) s.processes) v ≡ Some q
      → ((v ≢ w) × (process_of s.processes v ≡ Some q))
      ⊎ ((v ≡ w) × (r : Process) × (process_of s.processes w ≡ Some r) × (q ≡ ended_process code r))
  ended_which = changed_process w (ended_process code) (λ q. refl) s.processes

  ended_object : (x : Object) → IsObject s.processes x
      → IsObject (change_process w (ended_process code) s.processes) (object_left_by w x)
  ended_object (Section words) i = i
  ended_object (Event e) i = tt
  ended_object (Mutex Free) i = tt
  ended_object (Mutex Abandoned) i = tt
  ended_object (Mutex (Owned v t)) i =
      elim (cases_eq v w) [
        | inl n ↦ let e = same v w n in rw e tt
        | inr d ↦ let e = differs v w d in
            rw e (rw (process_of-change_other w (ended_process code) (λ q. refl) s.processes v d) i.0, i.1)
      ]
  ended_object (Pipe bytes) i = i
  ended_object (ProcessObject v) i =
      elim (cases_eq v w) [
        | inl n ↦ (
          ended_process code p,
          rw n
              (process_of-change_same w (ended_process code) (λ q. refl) s.processes p found),
        )
        | inr d ↦ (i.0, process_of-change_other w (ended_process code) (λ q. refl) s.processes v d ∙ i.1)
      ]
  ended_object (TerminalObject terminal) i = tt

  ended_listed : (names : ℕ) → IsListed s.objects names → IsListed (objects_left_by w s.objects) names
  ended_listed names listed =
      let at = from_listed s.objects names listed in
      to_listed (objects_left_by w s.objects) names (object_left_by w at.0)
      (object_of-left w s.objects (object_number names) at.0 at.1)
      (λ e. at.2 (sym (has_ends-left w at.0) ∙ e))

  pub formed-with_ended : IsFormed script (with_ended s w code)
  formed-with_ended = record {
    next = h.next;
    processes = rising-change_process w (ended_process code) (λ q. refl) 1 s.next s.processes h.processes;
    objects = rising-left w 0 s.objects h.objects;
    process = λ v q e. elim (ended_which v q e) [
      | inl other ↦ with_objects script s.objects (objects_left_by w s.objects) q q.life ended_listed
          (h.process v q other.1)
      | inr this ↦ subst (λ (x : Process). IsProcessBy script (objects_left_by w s.objects) x x.life) (sym this.3)
          (record { threads = refl; handles = refl; own = refl; placed = refl })
    ];
    one_a_slot = λ u v q r e f a b c. elim (ended_which u q e) [
      | inl other ↦ elim (ended_which v r f) [
        | inl that ↦ h.one_a_slot u v q r other.1 that.1 a b c
        | inr this ↦ absurd (let g : false ≡ true = rw this.3 at b in cc)
      ]
      | inr this ↦ absurd (let g : false ≡ true = rw this.3 at a in cc)
    ];
    object = λ o y e. let x = left_object w s.objects o y e in
        subst (λ z. IsObject (change_process w (ended_process code) s.processes) z) (sym x.2)
        (ended_object x.0 (h.object o x.0 x.1));
    only = λ a b y z k e f m n.
        let x = left_object w s.objects a y e in let u = left_object w s.objects b z f in
        h.only a b x.0 u.0 k x.1 u.1
        (sym (only_number-left w x.0) ∙ ap only_number (sym x.2) ∙ m)
        (sym (only_number-left w u.0) ∙ ap only_number (sym u.2) ∙ n);
  }
