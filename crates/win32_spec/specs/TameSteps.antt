-- The changes of one process or one object that leave handles, lives and kinds alone.
use Rattle.std.proofs.Common.{◌≡◌, inl, inr, ℕ, List, Option, Some, None, refl, sym, subst}
use Rattle.std.proofs.lemmas.Bool.{cases_eq}
use Rattle.w32_base.specs.Part.{KeepsLengths}
use Rattle.w32_base.specs.declared.own.Own.{Own}
use Rattle.script_spec.specs.declared.script.Script.{Script}
use Rattle.win32_spec.specs.State.{Object, Section, Event, Mutex, Pipe, ProcessObject, TerminalObject, NumberedObject}
use Rattle.win32_spec.specs.State.{Process, Win32State}
use Rattle.win32_spec.specs.Lookup.{process_of, object_of, change_process, change_object, with_process, with_object}
use Rattle.win32_spec.specs.LookupLaws.{process_of-change_same, process_of-change_other, process_of-change_none}
use Rattle.win32_spec.specs.LookupLaws.{rising-change_process}
use Rattle.win32_spec.specs.ObjectLaws.{object_of-change_same, object_of-change_other, rising-change_object}
use Rattle.win32_spec.specs.Tame.{Both, ProcessBecomes, HoldsNext, ObjectBecomes, AreProcessesNext, AreObjectsNext}
use Rattle.win32_spec.specs.Tame.{IsTame}
use Rattle.win32_spec.specs.TameLaws.{both_same}

pub lengths-same : (own : Own) → KeepsLengths own own
lengths-same own = record { dat = refl; heap = refl; stack = refl; cyg = refl; scratch = refl }

-- a process that stays as it is
pub process_same : (script : Script) (Written Acting Posting : Type 0) (p : Process)
    → ProcessBecomes script Written Acting Posting p p
process_same script Written Acting Posting p = record {
  ended = λ e. refl;
  number = refl;
  slot = refl;
  program = refl;
  life = refl;
  handles = refl;
  threads = λ ts h. h;
  lengths = lengths-same p.own;
  bytes = λ n. refl;
  modules = λ n. refl;
  posted = λ n t. refl;
  unplaced = λ e. refl;
  placed = λ h. h;
}

pub processes_same : (script : Script) (Written : ℕ → Type 0) (Posting : Type 0) (w : ℕ) (ps : List Process)
    → AreProcessesNext script Written Posting w ps ps
processes_same script Written Posting w ps = record {
  rising = λ low next r. r;
  process = λ v. both_same (ProcessBecomes script (Written v) (v ≡ w) Posting) (process_of ps v) (process_of ps v)
      (process_same script (Written v) (v ≡ w) Posting) refl;
}

both_some : {X : Type 0} (R : X → X → Type 0) (o n : Option X) (x y : X) → o ≡ Some x → n ≡ Some y → R x y → Both R o n
both_some {X = X} R o n x y e f r = subst (λ k. Both R k n) (sym e) (subst (λ k. Both R (Some x) k) (sym f) r)

both_none : {X : Type 0} (R : X → X → Type 0) (o n : Option X) → o ≡ None → n ≡ None → Both R o n
both_none {X = X} R o n e f = subst (λ k. Both R k n) (sym e) (subst (λ k. Both R None k) (sym f) tt)

-- one process changes
pub processes_change : (script : Script) (Written : ℕ → Type 0) (Posting : Type 0) (w : ℕ) (ps : List Process) (v : ℕ)
    (f : Process → Process)
    → ((p : Process) → (f p).number ≡ p.number)
    → ((p : Process) → process_of ps v ≡ Some p → ProcessBecomes script (Written v) (v ≡ w) Posting p (f p))
    → AreProcessesNext script Written Posting w ps (change_process v f ps)
processes_change script Written Posting w ps v f keeps becomes = record {
  rising = λ low next r. rising-change_process v f keeps low next ps r;
  process = λ u. elim (cases_eq u v) [
    | inl n ↦
        subst (λ k. Both (ProcessBecomes script (Written k) (k ≡ w) Posting) (process_of ps k)
        (process_of (change_process v f ps) k)) (sym n)
        (here (process_of ps v) refl)
    | inr d ↦
        both_same (ProcessBecomes script (Written u) (u ≡ w) Posting) (process_of ps u)
        (process_of (change_process v f ps) u)
        (process_same script (Written u) (u ≡ w) Posting) (process_of-change_other v f keeps ps u d)
  ];
}
  where
    here : (o : Option Process) → process_of ps v ≡ o
        → Both (ProcessBecomes script (Written v) (v ≡ w) Posting) (process_of ps v)
        (process_of (change_process v f ps) v)
    here None e =
        both_none (ProcessBecomes script (Written v) (v ≡ w) Posting) (process_of ps v)
        (process_of (change_process v f ps) v) e
        (process_of-change_none v f ps e)
    here (Some p) e =
        both_some (ProcessBecomes script (Written v) (v ≡ w) Posting) (process_of ps v)
        (process_of (change_process v f ps) v)
        p (f p) e
        (process_of-change_same v f keeps ps p e) (becomes p e)

-- an object that stays as it is
pub holds_same : (Exchanged : Type 0) (w t : ℕ) (x : Object) → HoldsNext Exchanged w t x x
holds_same Exchanged w t (Section words) = (refl, λ n. refl)
holds_same Exchanged w t (Event e) = tt
holds_same Exchanged w t (Mutex owner) = inl refl
holds_same Exchanged w t (Pipe bytes) = λ l. l
holds_same Exchanged w t (ProcessObject v) = refl
holds_same Exchanged w t (TerminalObject terminal) = tt

pub object_same : (Exchanged : Type 0) (w t : ℕ) (x : Object) → ObjectBecomes Exchanged w t x x
object_same Exchanged w t x = record { only = refl; ends = refl; holds = holds_same Exchanged w t x }

pub objects_same : (Exchanged : Type 0) (w t : ℕ) (xs : List NumberedObject) → AreObjectsNext Exchanged w t xs xs
objects_same Exchanged w t xs = record {
  rising = λ low r. r;
  object = λ o. both_same (ObjectBecomes Exchanged w t) (object_of xs o) (object_of xs o) (object_same Exchanged w t)
      refl;
}

-- one object changes
pub objects_change : (Exchanged : Type 0) (w t : ℕ) (xs : List NumberedObject) (o : ℕ) (x y : Object)
    → object_of xs o ≡ Some x
    → ObjectBecomes Exchanged w t x y → AreObjectsNext Exchanged w t xs (change_object o y xs)
objects_change Exchanged w t xs o x y e b = record {
  rising = λ low r. rising-change_object o y low xs r;
  object = λ a. elim (cases_eq a o) [
    | inl n ↦
        subst (λ k. Both (ObjectBecomes Exchanged w t) (object_of xs k) (object_of (change_object o y xs) k)) (sym n)
        (both_some (ObjectBecomes Exchanged w t) (object_of xs o) (object_of (change_object o y xs) o) x y e
        (object_of-change_same o y xs x e) b)
    | inr d ↦
        both_same (ObjectBecomes Exchanged w t) (object_of xs a) (object_of (change_object o y xs) a)
        (object_same Exchanged w t) (object_of-change_other o y xs a d)
  ];
}

-- Nothing changes, one process, or one object.
pub tame_same : (script : Script) (Written : ℕ → Type 0) (Exchanged Posting : Type 0) (w t : ℕ) (s : Win32State)
    → IsTame script Written Exchanged Posting w t s s
tame_same script Written Exchanged Posting w t s = record {
  next = refl;
  processes = processes_same script Written Posting w s.processes;
  objects = objects_same Exchanged w t s.objects;
}

pub tame_process : (script : Script) (Written : ℕ → Type 0) (Exchanged Posting : Type 0) (w t : ℕ) (s : Win32State)
    (v : ℕ)
    (f : Process → Process)
    → ((p : Process) → (f p).number ≡ p.number)
    → ((p : Process) → process_of s.processes v ≡ Some p → ProcessBecomes script (Written v) (v ≡ w) Posting p (f p))
    → IsTame script Written Exchanged Posting w t s (with_process s v f)
tame_process script Written Exchanged Posting w t s v f keeps becomes = record {
  next = refl;
  processes = processes_change script Written Posting w s.processes v f keeps becomes;
  objects = objects_same Exchanged w t s.objects;
}

pub tame_object : (script : Script) (Written : ℕ → Type 0) (Exchanged Posting : Type 0) (w t : ℕ) (s : Win32State)
    (o : ℕ)
    (x y : Object)
    → object_of s.objects o ≡ Some x → ObjectBecomes Exchanged w t x y
    → IsTame script Written Exchanged Posting w t s (with_object s o y)
tame_object script Written Exchanged Posting w t s o x y e b = record {
  next = refl;
  processes = processes_same script Written Posting w s.processes;
  objects = objects_change Exchanged w t s.objects o x y e b;
}
