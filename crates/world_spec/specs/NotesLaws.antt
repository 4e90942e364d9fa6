-- What a change of the POSIX state leaves of the record of a process that is live after it. The changes that others
-- make of it: a signal is generated, CHLD is owed or given, a signal is discarded, its group changes, its report is
-- taken.
use Rattle.std.proofs.Common.{◌≡◌, ◌≢◌, ℕ, ◌+◌, ◌-◌, true, false, ◌&&◌, nat_eq, Option, Some, None, refl, ap}
use Rattle.std.proofs.Common.{◌∙◌, subst}
use Rattle.std.proofs.lemmas.Bool.{cond_both}
use Rattle.posix_spec.specs.State.{Life, Running, Stopped, Zombie, Record, PosixState, record_of}
use Rattle.posix_spec.specs.Pending.{has_deliverable, is_live}
use Rattle.posix_spec.specs.Records.{settled, with_record, without_record, changed_at, change_record}
use Rattle.posix_spec.specs.RecordLaws.{each_with_record, each_without_record}
use Rattle.posix_spec.specs.Signals.{child_signal, continue_signal}
use Rattle.posix_spec.specs.Sending.{continued, generated, generated_by_life, owed_more, sent, with_generated}
use Rattle.posix_spec.specs.SentLaws.{owed_for_kept}
use Rattle.posix_spec.specs.SignalActs.{discarded, notified}
use Rattle.posix_spec.specs.DeathSteps.{dead}
use Rattle.posix_spec.specs.GroupSteps.{in_group}
use Rattle.posix_spec.specs.WaitSteps.{reported}
use Rattle.world_spec.specs.Notes.{KeepsNotes}

-- a change of these alone
touched : (r : Record) (group report pending lost owed : ℕ)
    → KeepsNotes r (record r { group = group; report = report; pending = pending; lost = lost; owed = owed })
touched r group report pending lost owed = record {
  parent = refl;
  session = refl;
  terminal = refl;
  execd = refl;
  mask = refl;
  saved = refl;
  actions = refl;
  image = refl;
  call = refl;
  blocked = refl;
  not_due = λ e. e;
  runs = λ e. e;
  stopped = λ signal e. e;
}

pub same_notes : (r : Record) → KeepsNotes r r
same_notes r = touched r r.group r.report r.pending r.lost r.owed

pub notes_then : (a b c : Record) → KeepsNotes a b → KeepsNotes b c → KeepsNotes a c
notes_then a b c h k = record {
  parent = k.parent ∙ h.parent;
  session = k.session ∙ h.session;
  terminal = k.terminal ∙ h.terminal;
  execd = k.execd ∙ h.execd;
  mask = k.mask ∙ h.mask;
  saved = k.saved ∙ h.saved;
  actions = k.actions ∙ h.actions;
  image = k.image ∙ h.image;
  call = k.call ∙ h.call;
  blocked = k.blocked ∙ h.blocked;
  not_due = λ e. k.not_due (h.not_due e);
  runs = λ e. k.runs (h.runs e);
  stopped = λ signal e. h.stopped signal (k.stopped signal e);
}

-- as it is written
notes_settled : (a b : Record) → KeepsNotes a b → KeepsNotes a (settled b)
notes_settled a b h = record {
  parent = h.parent;
  session = h.session;
  terminal = h.terminal;
  execd = h.execd;
  mask = h.mask;
  saved = h.saved;
  actions = h.actions;
  image = h.image;
  call = h.call;
  blocked = h.blocked;
  not_due = λ e. ap (λ due. due && has_deliverable b) (h.not_due e);
  runs = h.runs;
  stopped = h.stopped;
}

-- This record of number p is what a live one, in this state, has become.
pub record IsLeft (s : PosixState) (p : ℕ) (r : Record) : Type 0 where
  pub old : Record
  pub there : record_of s p ≡ Some old
  pub lived : is_live old.life ≡ true
  pub kept : KeepsNotes old r

-- The second state has at number p what the first one leaves of its record there, if it is live.
abbrev pub LeavesNotes : PosixState → ℕ → PosixState → Type 0
LeavesNotes s p t = (n : ℕ) (r : Record) → record_of t n ≡ Some r → n ≡ p → is_live r.life ≡ true → IsLeft s p r

-- a change that others may make of a record that stays live
abbrev pub IsBenign : (Record → Record) → Type 0
IsBenign f = (r : Record) → is_live (f r).life ≡ true → (is_live r.life ≡ true) × KeepsNotes r (f r)

pub leaves_same : (s : PosixState) (p : ℕ) → LeavesNotes s p s
leaves_same s p n r is same live = record {
  old = r;
  there = subst (λ k. record_of s k ≡ Some r) same is;
  lived = live;
  kept = same_notes r;
}

module _ (s : PosixState) (p : ℕ) (t : PosixState) (h : LeavesNotes s p t) where
  pub leaves_change : (q : ℕ) (f : Record → Record) → (q ≡ p → IsBenign f) → LeavesNotes s p (change_record t q f)
  leaves_change q f benign = changed (record_of t q) refl
    where
      changed : (o : Option Record) → record_of t q ≡ o → LeavesNotes s p (changed_at t q f o)
      changed None is = h
      changed (Some r) is = each_with_record (λ n x. n ≡ p → is_live x.life ≡ true → IsLeft s p x) t q (f r)
          (λ same live.
          let b = benign same r live in
          let left = h q r is same b.0 in
          record {
            old = left.old;
            there = left.there;
            lived = left.lived;
            kept = notes_then left.old r (settled (f r)) left.kept (notes_settled r (f r) b.1);
          }) (λ n x apart there. h n x there)

  pub leaves_without : (q : ℕ) → LeavesNotes s p (without_record t q)
  leaves_without q =
      each_without_record (λ n x. n ≡ p → is_live x.life ≡ true → IsLeft s p x) t q (λ n x apart there. h n x there)

  -- a record at another number
  pub leaves_with : (q : ℕ) (r : Record) → q ≢ p → LeavesNotes s p (with_record t q r)
  leaves_with q r other = each_with_record (λ n x. n ≡ p → is_live x.life ≡ true → IsLeft s p x) t q r
      (λ same. absurd (other same)) (λ n x apart there. h n x there)

abbrev Keeps : Record → Record → Type 0
Keeps r x = is_live x.life ≡ true → (is_live r.life ≡ true) × KeepsNotes r x

generated_notes : (signal : ℕ) (r : Record) → KeepsNotes r (with_generated signal r)
generated_notes signal r =
    touched r r.group r.report (with_generated signal r).pending (with_generated signal r).lost r.owed

generated_keeps : (signal : ℕ) (r : Record) (l : Life) → r.life ≡ l → Keeps r (generated_by_life l signal r)
generated_keeps signal r Running is = λ live. (live, generated_notes signal r)
generated_keeps signal r (Stopped t) is =
    cond_both (nat_eq signal continue_signal) (continued (with_generated signal r)) (with_generated signal r) (Keeps r)
    (λ _ live. (
      ap is_live is,
      record {
        parent = refl;
        session = refl;
        terminal = refl;
        execd = refl;
        mask = refl;
        saved = refl;
        actions = refl;
        image = refl;
        call = refl;
        blocked = refl;
        not_due = λ e. e;
        runs = λ e. refl;
        stopped = λ u e. absurd (cc);
      },
    ))
    (λ _ live. (live, generated_notes signal r))
generated_keeps signal r (Zombie v) is = λ live. (live, same_notes r)

pub benign_generated : (signal : ℕ) → IsBenign (generated signal)
benign_generated signal r =
    cond_both (nat_eq signal 0) r (generated_by_life r.life signal r) (Keeps r) (λ _ live. (live, same_notes r))
    (λ _. generated_keeps signal r r.life refl)

pub benign_owed : IsBenign owed_more
benign_owed r =
    cond_both (is_live r.life) (record r { owed = r.owed + 1 }) r (Keeps r)
    (λ _ live. (live, touched r r.group r.report r.pending r.lost (r.owed + 1))) (λ _ live. (live, same_notes r))

pub benign_notified : IsBenign notified
benign_notified r live =
    let less : Record = record r { owed = r.owed - 1 } in
    let b = benign_generated child_signal less live in
    (b.0, notes_then r less (notified r) (touched r r.group r.report r.pending r.lost (r.owed - 1)) b.1)

pub benign_discarded : (signal : ℕ) → IsBenign (discarded signal)
benign_discarded signal r live = (live, touched r r.group r.report (discarded signal r).pending r.lost r.owed)

pub benign_group : (g : ℕ) → IsBenign (in_group g)
benign_group g r live = (live, touched r g r.report r.pending r.lost r.owed)

pub benign_reported : IsBenign reported
benign_reported r live = (live, touched r r.group 0 r.pending r.lost r.owed)

-- a death leaves nothing live
pub benign_dead : (v : ℕ) → IsBenign (dead v)
benign_dead v r live = absurd (let f : false ≡ true = live in cc)

-- a signal for any process
pub leaves_sent : (s : PosixState) (p : ℕ) (t : PosixState) → LeavesNotes s p t → (q signal : ℕ)
    → LeavesNotes s p (sent t q signal)
leaves_sent s p t h q signal =
    let after = leaves_change s p t h q (generated signal) (λ _. benign_generated signal) in
    owed_for_kept (LeavesNotes s p) signal (record_of t q) (change_record t q (generated signal)) after
    (λ parent. leaves_change s p (change_record t q (generated signal)) after parent owed_more (λ _. benign_owed))
