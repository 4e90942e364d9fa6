-- A well-formed state stays so under a change that leaves handles, lives and kinds alone.
use Rattle.std.proofs.Common.{◌≡◌, inl, inr, ℕ, ◌≤◌, true, List, Option, Some, None, MatchOption, refl, sym, ap, ◌∙◌}
use Rattle.std.proofs.Common.{subst}
use Rattle.w32_base.specs.Part.{KeepsLengths}
use Rattle.script_spec.specs.declared.script.Script.{Script}
use Rattle.win32_spec.specs.State.{Object, Section, Event, Mutex, Pipe, ProcessObject, TerminalObject, Life, Alive}
use Rattle.win32_spec.specs.State.{Ended, Process, Win32State}
use Rattle.win32_spec.specs.Lookup.{is_alive, process_of, is_live, object_number, object_of}
use Rattle.win32_spec.specs.Ends.{is_object_held}
use Rattle.win32_spec.specs.Making.{threads_of}
use Rattle.win32_spec.specs.WellFormed.{HasSizes, IsHost, IsLayerProcess, IsListed, IsEndedProcess, IsProcessBy}
use Rattle.win32_spec.specs.WellFormed.{IsOwnership, IsObject, IsFormed, IsWellFormed}
use Rattle.win32_spec.specs.HeldLaws.{held-by, is-held, process_held-by, is-process_held}
use Rattle.win32_spec.specs.FormedLaws.{to_listed, from_listed, object_over, have_rising}
use Rattle.win32_spec.specs.Tame.{Both, ProcessBecomes, HoldsNext, ObjectBecomes, IsTame}

-- what was before and what is after
pub both_back : {X : Type 0} (R : X → X → Type 0) (o n : Option X) (y : X) → Both R o n → n ≡ Some y
    → (x : X) × (o ≡ Some x) × R x y
both_back R None None y b e = absurd (cc)
both_back R None (Some z) y b e = absurd b
both_back R (Some x) None y b e = absurd b
both_back R (Some x) (Some z) y b e = let f : z ≡ y = cc in (x, refl, subst (R x) f b)

pub both_forth : {X : Type 0} (R : X → X → Type 0) (o n : Option X) (x : X) → Both R o n → o ≡ Some x
    → (y : X) × (n ≡ Some y) × R x y
both_forth R None n x b e = absurd (cc)
both_forth R (Some z) None x b e = absurd b
both_forth R (Some z) (Some y) x b e = let f : z ≡ x = cc in (y, refl, subst (λ k. R k y) f b)

pub both_same : {X : Type 0} (R : X → X → Type 0) (o n : Option X) → ((x : X) → R x x) → n ≡ o → Both R o n
both_same {X = X} R o n r e = subst (λ k. Both R o k) (sym e) (by_answer o)
  where
    by_answer : (k : Option X) → Both R k k
    by_answer None = tt
    by_answer (Some x) = r x

-- sizes stay where lengths do
sizes_stay : (p q : Process) (a b c d e : ℕ) → KeepsLengths p.own q.own → HasSizes p.own a b c d e
    → HasSizes q.own a b c d e
sizes_stay p q a b c d e k h = record {
  dat_size = k.dat ∙ h.dat_size;
  heap_size = k.heap ∙ h.heap_size;
  stack_size = k.stack ∙ h.stack_size;
  cyg_size = k.cyg ∙ h.cyg_size;
  scratch_size = k.scratch ∙ h.scratch_size;
}

kind_stays : (script : Script) (Written Acting Posting : Type 0) (p q : Process)
    → ProcessBecomes script Written Acting Posting p q
    → MatchOption p.program (IsHost p) (IsLayerProcess script p)
    → MatchOption q.program (IsHost q) (IsLayerProcess script q)
kind_stays script Written Acting Posting p q b k =
    subst (λ o. MatchOption o (IsHost q) (IsLayerProcess script q)) (sym b.program) (by_program p.program refl k)
  where
    by_program : (o : Option ℕ) → p.program ≡ o → MatchOption o (IsHost p) (IsLayerProcess script p)
        → MatchOption o (IsHost q) (IsLayerProcess script q)
    by_program None e k =
        record {
          number = b.number ∙ k.number;
          slot = b.slot ∙ k.slot;
          sizes =
              sizes_stay p q 0 0 0 0 0 b.lengths k.sizes;
          placed = b.unplaced e ∙ k.placed;
        }
    by_program (Some n) e k = record {
      number = rw b.number k.number;
      from_one = rw b.slot k.from_one;
      most = rw b.slot k.most;
      program = k.program;
      listed = k.listed;
      sizes = sizes_stay p q 64 k.program.heap k.program.stack 288 512 b.lengths k.sizes;
      placed = b.placed k.placed;
    }

-- an object's rule after such a change
object_stays : (Exchanged : Type 0) (w t : ℕ) (ps : List Process) (x y : Object) → is_live (process_of ps w) ≡ true
    → t ≤ 2
    → HoldsNext Exchanged w t x y → IsObject ps x → IsObject ps y
object_stays Exchanged w t ps (Section words) (Section new) live few h i = h.0 ∙ i
object_stays Exchanged w t ps (Event e) (Event new) live few h i = tt
object_stays Exchanged w t ps (Mutex owner) (Mutex new) live few h i =
    elim h [
      | inl e ↦ subst (IsOwnership ps) (sym e) i
      | inr rest ↦ elim rest
          [ inl e ↦ subst (IsOwnership ps) (sym e.1) tt | inr e ↦ subst (IsOwnership ps) (sym e.1) (live, few) ]
    ]
object_stays Exchanged w t ps (Pipe bytes) (Pipe new) live few h i = h i
object_stays Exchanged w t ps (ProcessObject v) (ProcessObject new) live few h i = rw h i
object_stays Exchanged w t ps (TerminalObject terminal) (TerminalObject new) live few h i = tt
object_stays Exchanged w t ps _ _ live few h i = absurd h

-- the object of a process stays its object
process_object-stays : (Exchanged : Type 0) (w t : ℕ) (v : ℕ) (y : Object)
    → HoldsNext Exchanged w t (ProcessObject v) y → y ≡ ProcessObject v
process_object-stays Exchanged w t v (ProcessObject new) h = ap ProcessObject h
process_object-stays Exchanged w t v _ h = absurd h

module _ (script : Script) (Written : ℕ → Type 0) (Exchanged Posting : Type 0) (w t : ℕ) (s new : Win32State)
    (h : IsFormed script s)
    (tame : IsTame script Written Exchanged Posting w t s new) where
  back : (v : ℕ) (q : Process) → process_of new.processes v ≡ Some q
      → (p : Process) × (process_of s.processes v ≡ Some p) × ProcessBecomes script (Written v) (v ≡ w) Posting p q
  back v q e = both_back (ProcessBecomes script (Written v) (v ≡ w) Posting) (process_of s.processes v)
      (process_of new.processes v) q (tame.processes.process v) e

  forth : (v : ℕ) (p : Process) → process_of s.processes v ≡ Some p
      → (q : Process) × (process_of new.processes v ≡ Some q) × ProcessBecomes script (Written v) (v ≡ w) Posting p q
  forth v p e = both_forth (ProcessBecomes script (Written v) (v ≡ w) Posting) (process_of s.processes v)
      (process_of new.processes v) p (tame.processes.process v) e

  object_back : (o : ℕ) (y : Object) → object_of new.objects o ≡ Some y
      → (x : Object) × (object_of s.objects o ≡ Some x) × ObjectBecomes Exchanged w t x y
  object_back o y e = both_back (ObjectBecomes Exchanged w t) (object_of s.objects o) (object_of new.objects o) y
      (tame.objects.object o) e

  object_forth : (o : ℕ) (x : Object) → object_of s.objects o ≡ Some x
      → (y : Object) × (object_of new.objects o ≡ Some y) × ObjectBecomes Exchanged w t x y
  object_forth o x e = both_forth (ObjectBecomes Exchanged w t) (object_of s.objects o) (object_of new.objects o) x
      (tame.objects.object o) e

  tame_listed : (names : ℕ) → IsListed s.objects names → IsListed new.objects names
  tame_listed names listed =
      let at = from_listed s.objects names listed in
      let y = object_forth (object_number names) at.0 at.1 in
      to_listed new.objects names y.0 y.1 (λ e. at.2 (sym y.2.ends ∙ e))

  tame_process : (q p : Process) (v : ℕ) → ProcessBecomes script (Written v) (v ≡ w) Posting p q
      → IsProcessBy script s.objects p p.life
      → IsProcessBy script new.objects q q.life
  tame_process q p v b k = subst (λ l. IsProcessBy script new.objects q l) (sym b.life) (by_life p.life refl k)
    where
      by_life : (life : Life) → p.life ≡ life → IsProcessBy script s.objects p life
          → IsProcessBy script new.objects q life
      by_life Alive l f = record {
        kind = kind_stays script (Written v) (v ≡ w) Posting p q b f.kind;
        threads = rw b.slot (b.threads (threads_of p.slot) f.threads);
        rising = rw b.handles f.rising;
        naming = λ i names e. tame_listed names (f.naming i names (rw b.handles at e));
      }
      by_life (Ended code) l f =
          subst IsEndedProcess (sym (b.ended (ap is_alive l)))
          (record { threads = f.threads; handles = f.handles; own = f.own; placed = f.placed })

  pub formed-tame : is_live (process_of s.processes w) ≡ true → t ≤ 2 → IsFormed script new
  formed-tame live few = record {
    next = rw tame.next h.next;
    processes = rw tame.next (tame.processes.rising 1 s.next h.processes);
    objects = tame.objects.rising 0 h.objects;
    process = λ v q e. let p = back v q e in tame_process q p.0 v p.2 (h.process v p.0 p.1);
    one_a_slot = λ u v q r e f a b c.
        let x = back u q e in let y = back v r f in
        h.one_a_slot u v x.0 y.0 x.1 y.1 (rw (← x.2.life) a) (rw (← y.2.life) b) (sym x.2.slot ∙ c ∙ y.2.slot);
    object = λ o y e. let x = object_back o y e in
        object_over s.processes new.processes y (λ v p f. let q = forth v p f in (q.0, q.1, q.2.life))
        (object_stays Exchanged w t s.processes x.0 y live few x.2.holds (h.object o x.0 x.1));
    only = λ a b y z k e f m n.
        let x = object_back a y e in let u = object_back b z f in
        h.only a b x.0 u.0 k x.1 u.1 (sym x.2.only ∙ m) (sym u.2.only ∙ n);
  }

module _ (script : Script) (Written : ℕ → Type 0) (Exchanged Posting : Type 0) (w t : ℕ) (s new : Win32State)
    (h : IsWellFormed script s)
    (tame : IsTame script Written Exchanged Posting w t s new) where
  -- what is held stays held
  pub held-tame : (o : ℕ) → is_object_held s.processes o ≡ true → is_object_held new.processes o ≡ true
  held-tame o e =
      let at = held-by 1 s.next s.processes o h.formed.processes (have_rising script s h.formed) e in
      let q = forth script Written Exchanged Posting w t s new h.formed tame at.number at.process at.found in
      is-held new.processes o (record {
        number = at.number;
        process = q.0;
        found = q.1;
        alive = ap is_alive q.2.life ∙ at.alive;
        handle = at.handle;
        names = at.names;
        named = rw q.2.handles at.named;
        object = at.object;
      })

  pub wellformed-tame : is_live (process_of s.processes w) ≡ true → t ≤ 2 → IsWellFormed script new
  wellformed-tame live few = record {
    formed = formed-tame script Written Exchanged Posting w t s new h.formed tame live few;
    object_held = λ o y e.
        let x = object_back script Written Exchanged Posting w t s new h.formed tame o y e in
        held-tame o (h.object_held o x.0 x.1);
    process_held = λ v q e dead.
        let p = back script Written Exchanged Posting w t s new h.formed tame v q e in
        let at = process_held-by 0 s.objects v h.formed.objects
        (h.process_held v p.0 p.1 (sym (ap is_alive p.2.life) ∙ dead)) in
        let y = object_forth script Written Exchanged Posting w t s new h.formed tame at.0 (ProcessObject v) at.1 in
        is-process_held new.objects v at.0 (y.1 ∙ ap Some (process_object-stays Exchanged w t v y.0 y.2.holds));
  }
