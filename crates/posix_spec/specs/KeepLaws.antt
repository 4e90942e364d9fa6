-- A change of one process that keeps its place among the others keeps a state well formed.
use Rattle.std.specs.Prelude.{◌≡◌, ℕ, Bool, true, false, cond, ◌&&◌, nat_eq, Option, Some, None, IsTrue}
use Rattle.std.proofs.Common.{refl, sym, ap, subst, ◌∙◌, arith, eqb-true, true≢false}
use Rattle.script_spec.specs.declared.script.Script.{Script}
use Rattle.posix_spec.specs.State.{Numbers, Record, PosixState, record_of}
use Rattle.posix_spec.specs.Pending.{is_live, has_deliverable}
use Rattle.posix_spec.specs.Records.{settled, with_record, changed_at, change_record}
use Rattle.posix_spec.specs.Waits.{death_to_report}
use Rattle.posix_spec.specs.Conditions.{next_of}
use Rattle.posix_spec.specs.DeathSteps.{is_zombie}
use Rattle.posix_spec.specs.RecordLaws.{each_with_record, record_of-with_record}
use Rattle.posix_spec.specs.TestLaws.{children-with_record}
use Rattle.posix_spec.specs.SignalLaws.{second_of}
use Rattle.posix_spec.specs.WellFormed.{HasNumbers, HasLife, HasNoNotes, HasSignals, IsImage, HasCall}
use Rattle.posix_spec.specs.WellFormed.{IsWellFormedRecord, HasSessions, IsFirstStatus, IsWellFormed}

-- a record that is well formed once `due` is set only where a signal is deliverable
pub record IsSound (script : Script) (used : Numbers) (p : ℕ) (r : Record) : Type 0 where
  pub numbers : HasNumbers used p r.parent r.group r.session r.terminal
  pub lives : HasLife r.life r.report
  pub notes : IsTrue (is_zombie r.life) → HasNoNotes r.call r.blocked r.due r.lost r.owed
  pub signals : HasSignals r.pending r.lost r.mask r.saved r.actions
  pub runs : IsImage script r.image
  pub calls : HasCall (next_of script r) used (is_live r.life) r.saved r.call r.blocked r.due

pub sound_of : {script : Script} {used : Numbers} {p : ℕ} {r : Record} → IsWellFormedRecord script used p r → IsSound
    script used p r
sound_of w = record {
  numbers = w.numbers;
  lives = w.lives;
  notes = w.notes;
  signals = w.signals;
  runs = w.runs;
  calls = w.calls;
}

not_due_and : (due b : Bool) → due ≡ false → (due && b) ≡ false
not_due_and true b e = absurd (true≢false e)
not_due_and false b e = refl

first_true : (due b : Bool) → (due && b) ≡ true → due ≡ true
first_true true b e = refl
first_true false b e = e

pub IsWellFormedRecord-settled : (script : Script) (used : Numbers) (p : ℕ) (r : Record) → IsSound script used p r →
    IsWellFormedRecord script used p (settled r)
IsWellFormedRecord-settled script used p r h = record {
  numbers = h.numbers;
  lives = h.lives;
  notes = λ dead. let n = h.notes dead in record {
    no_call = n.no_call;
    not_blocked = n.not_blocked;
    not_due = not_due_and r.due (has_deliverable r) n.not_due;
    none_lost = n.none_lost;
    none_owed = n.none_owed;
  };
  signals = h.signals;
  goes_first = λ due. second_of r.due (has_deliverable r) due;
  runs = h.runs;
  calls = record {
    may_block = h.calls.may_block;
    suspended = h.calls.suspended;
    wait_call = h.calls.wait_call;
    group_call = λ c is. let g = h.calls.group_call c is in record {
      is_next = g.is_next;
      not_due = not_due_and r.due (has_deliverable r) g.not_due;
      steps = g.steps;
    };
  };
}

-- what a change of a process keeps: its parent, group and session, and whether it is a zombie and with which status
pub record KeepsPlace (old new : Record) : Type 0 where
  pub parent : new.parent ≡ old.parent
  pub group : new.group ≡ old.group
  pub session : new.session ≡ old.session
  pub death : death_to_report new.life ≡ death_to_report old.life

pub record Keeps (script : Script) (used : Numbers) (p : ℕ) (old new : Record) : Type 0 where
  pub sound : IsSound script used p new
  pub place : KeepsPlace old new

-- ---- one process is changed

-- a process before the change, in the same group and session
record Was (s : PosixState) (q : ℕ) (r : Record) : Type 0 where
  before : Record
  is : record_of s q ≡ Some before
  group : r.group ≡ before.group
  session : r.session ≡ before.session

module _ (script : Script) (s : PosixState) (p : ℕ) (old new : Record) (w : IsWellFormed script s)
    (is : record_of s p ≡ Some old)
    (group : new.group ≡ old.group) (session : new.session ≡ old.session) where
  was : (q : ℕ) (r : Record) → record_of (with_record s p new) q ≡ Some r → Was s q r
  was = each_with_record (Was s) s p new
      (record { before = old; is = is; group = group; session = session })
      (λ q r apart there. record { before = r; is = there; group = refl; session = refl })

  pub HasSessions-with_record : HasSessions (with_record s p new)
  HasSessions-with_record = record {
    same = λ m n a b at_m at_n together.
        let x = was m a at_m in let y = was n b at_n in
        x.session ∙ w.sessions.same m n x.before y.before x.is y.is (sym x.group ∙ together ∙ y.group) ∙ sym y.session;
    leader = λ m a b at_m at_g.
        let x = was m a at_m in let y = was a.group b at_g in
        x.session ∙ w.sessions.leader m x.before y.before x.is (ap (record_of s) (sym x.group) ∙ y.is) ∙ sym y.session;
  }

-- what holds of the sessions is all that another group or session of the process may break
module _ (script : Script) (s : PosixState) (p : ℕ) (old new : Record) (w : IsWellFormed script s)
    (is : record_of s p ≡ Some old)
    (sound : IsSound script s.used p new) (sessions : HasSessions (with_record s p new))
    (parent : new.parent ≡ old.parent)
    (death : death_to_report new.life ≡ death_to_report old.life) where
  first_by : (b : Bool) → nat_eq 2 p ≡ b → IsFirstStatus (cond b (Some (settled new)) (record_of s 2)) s.first_status
  first_by true same =
      let here : record_of s 2 ≡ Some old = ap (record_of s) (eqb-true 2 p same) ∙ is in
      death ∙ subst (λ o. IsFirstStatus o s.first_status) here w.first
  first_by false apart = w.first

  pub IsWellFormed-with_record : IsWellFormed script (with_record s p new)
  IsWellFormed-with_record = record {
    each = each_with_record (IsWellFormedRecord script s.used) s p new
        (IsWellFormedRecord-settled script s.used p new sound) (λ q r apart there. w.each q r there);
    numbers = w.numbers;
    first_number = w.first_number;
    sessions = sessions;
    few_children = λ q. let same = children-with_record s p old new is parent q in let few = w.few_children q in omega
        arith;
    is_terminal = w.is_terminal;
    foreground = w.foreground;
    console_call = w.console_call;
    first = subst (λ o. IsFirstStatus o s.first_status) (sym (record_of-with_record s p new 2))
        (first_by (nat_eq 2 p) refl);
  }

with_kept : (script : Script) (s : PosixState) (p : ℕ) (old new : Record) → IsWellFormed script s → record_of s
    p ≡ Some old → Keeps script s.used p old new →
    IsWellFormed script (with_record s p new)
with_kept script s p old new w is k =
    IsWellFormed-with_record script s p old new w is k.sound
    (HasSessions-with_record script s p old new w is k.place.group k.place.session) k.place.parent k.place.death

module _ (script : Script) (s : PosixState) (p : ℕ) (change : Record → Record) (w : IsWellFormed script s) where
  changed_kept : ((old : Record) → record_of s p ≡ Some old → IsWellFormedRecord script s.used p old → Keeps script
      s.used p old (change old)) →
      (o : Option Record) → record_of s p ≡ o → IsWellFormed script (changed_at s p change o)
  changed_kept keeps None is = w
  changed_kept keeps (Some old) is = with_kept script s p old (change old) w is (keeps old is (w.each p old is))

  -- a process is changed, if there is one
  pub IsWellFormed-change : ((old : Record) → record_of s p ≡ Some old → IsWellFormedRecord script s.used p old →
      Keeps script s.used p old (change old)) →
      IsWellFormed script (change_record s p change)
  IsWellFormed-change keeps = changed_kept keeps (record_of s p) refl
