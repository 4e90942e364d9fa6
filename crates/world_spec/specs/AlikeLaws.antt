-- POSIX states whose records show the same: rows and images that show the one show the other.
use Rattle.std.proofs.Common.{◌≡◌, ℕ, ◌+◌, Bool, true, false, cond, nat_eq, Option, Some, None, MatchOption, refl}
use Rattle.std.proofs.Common.{sym, ap}
use Rattle.std.proofs.Common.{◌∙◌, subst}
use Rattle.std.proofs.lemmas.Bool.{eqb-true}
use Rattle.script_spec.specs.declared.script.Script.{Script}
use Rattle.win32_spec.specs.State.{Win32State}
use Rattle.posix_spec.specs.State.{Record, PosixState, record_of}
use Rattle.posix_spec.specs.Records.{settled, changed_at, change_record}
use Rattle.posix_spec.specs.RecordLaws.{record_of-with_record}
use Rattle.layer_spec.specs.Decodes.{is_child_of, ShowsRecord, ShowsRow}
use Rattle.layer_spec.specs.Rows.{is_process_kind}
use Rattle.layer_spec.specs.Words.{main_at}
use Rattle.roster.specs.Words.{is_live_main, is_live_word}

-- all of a record that rows and images show
pub record ShowsAlike (old new : Record) : Type 0 where
  pub parent : new.parent ≡ old.parent
  pub group : new.group ≡ old.group
  pub session : new.session ≡ old.session
  pub terminal : new.terminal ≡ old.terminal
  pub execd : new.execd ≡ old.execd
  pub life : new.life ≡ old.life
  pub report : new.report ≡ old.report
  pub pending : new.pending ≡ old.pending
  pub mask : new.mask ≡ old.mask
  pub saved : new.saved ≡ old.saved
  pub actions : new.actions ≡ old.actions
  pub image : new.image ≡ old.image

abbrev pub AreAlike : Option Record → Option Record → Type 0
AreAlike None None = Unit {0}
AreAlike None (Some r) = ⊥
AreAlike (Some r) None = ⊥
AreAlike (Some r) (Some q) = ShowsAlike r q

-- each process has the same raw parent
abbrev pub HaveSameParents : PosixState → PosixState → Type 0
HaveSameParents p q = (parent n : ℕ) → is_child_of parent (record_of q n) ≡ is_child_of parent (record_of p n)

pub same_alike : (r : Record) → ShowsAlike r r
same_alike r = record {
  parent = refl;
  group = refl;
  session = refl;
  terminal = refl;
  execd = refl;
  life = refl;
  report = refl;
  pending = refl;
  mask = refl;
  saved = refl;
  actions = refl;
  image = refl;
}

pub same_are_alike : (o : Option Record) → AreAlike o o
same_are_alike None = tt
same_are_alike (Some r) = same_alike r

alike_settled : (r q : Record) → ShowsAlike r q → ShowsAlike r (settled q)
alike_settled r q a = record {
  parent = a.parent;
  group = a.group;
  session = a.session;
  terminal = a.terminal;
  execd = a.execd;
  life = a.life;
  report = a.report;
  pending = a.pending;
  mask = a.mask;
  saved = a.saved;
  actions = a.actions;
  image = a.image;
}

-- a change that leaves all that is shown
pub change-alike : (s : PosixState) (p : ℕ) (change : Record → Record) → ((r : Record) → ShowsAlike r (change r))
    → (n : ℕ) → AreAlike (record_of s n) (record_of (change_record s p change) n)
change-alike s p change keeps n = by_record (record_of s p) refl
  where
    by_test : (old : Record) → record_of s p ≡ Some old → (b : Bool) → nat_eq n p ≡ b
        → AreAlike (record_of s n) (cond b (Some (settled (change old))) (record_of s n))
    by_test old is true e =
        subst (λ o. AreAlike o (Some (settled (change old)))) (sym (ap (record_of s) (eqb-true n p e) ∙ is))
        (alike_settled old (change old) (keeps old))
    by_test old is false e = same_are_alike (record_of s n)

    by_record : (o : Option Record) → record_of s p ≡ o → AreAlike (record_of s n) (record_of
        (changed_at s p change o) n)
    by_record None is = same_are_alike (record_of s n)
    by_record (Some old) is =
        subst (AreAlike (record_of s n)) (sym (record_of-with_record s p (change old) n))
        (by_test old is (nat_eq n p) refl)

-- states whose records are alike have the same raw parents
pub alike-parents : (p q : PosixState) → ((n : ℕ) → AreAlike (record_of p n) (record_of q n)) → HaveSameParents p q
alike-parents p q alike parent n = by_records (record_of p n) (record_of q n) (alike n)
  where
    by_records : (o k : Option Record) → AreAlike o k → is_child_of parent k ≡ is_child_of parent o
    by_records None None a = refl
    by_records None (Some r) a = absurd a
    by_records (Some r) None a = absurd a
    by_records (Some r) (Some k) a = ap (λ x. nat_eq x parent) a.parent

-- A row that shows its process goes on to show it in a state where the process is alike and, if it is live, has the
-- same children.
pub row-alike : (script : Script) (s : Win32State) (p q : PosixState) (row : ℕ)
    → AreAlike (record_of p (row + 1)) (record_of q (row + 1))
    → (is_live_word (main_at s row) ≡ true → (n : ℕ)
    → is_child_of (row + 1) (record_of q n) ≡ is_child_of (row + 1) (record_of p n))
    → ShowsRow script (λ x. x.own) s p row → ShowsRow script (λ x. x.own) s q row
row-alike script s p q row alike children h = record {
  main = h.main;
  decodes = h.decodes;
  shown = by_records (record_of p (row + 1)) (record_of q (row + 1)) alike h.shown;
}
  where
    by_records : (o k : Option Record) → AreAlike o k
        → MatchOption o (is_process_kind h.main.kind ≡ false) (λ r. ShowsRecord script (λ x. x.own) s p row h.main r)
        → MatchOption k (is_process_kind h.main.kind ≡ false) (λ r. ShowsRecord script (λ x. x.own) s q row h.main r)
    by_records None None a m = m
    by_records None (Some r) a m = absurd a
    by_records (Some r) None a m = absurd a
    by_records (Some r) (Some k) a m = record {
      life = m.life ∙ ap (λ l. Some l) (sym a.life);
      report = a.report ∙ m.report;
      execd = a.execd ∙ m.execd;
      pending = λ live. a.pending ∙ m.pending live;
      group_word = m.group_word;
      group_decodes = m.group_decodes;
      parent = a.parent ∙ m.parent;
      group = a.group ∙ m.group;
      session = a.session ∙ m.session;
      terminal = a.terminal ∙ m.terminal;
      held = λ live x e alive.
          let o = m.held live x e alive in
          record {
            image = a.image ∙ o.image;
            heap = o.heap;
            legal = o.legal;
            layout = o.layout;
            mask = a.mask ∙ o.mask;
            saved = a.saved ∙ o.saved;
            actions = a.actions ∙ o.actions;
            bases = o.bases;
            children = λ n. o.children n ∙ sym (children (ap is_live_main h.decodes ∙ live) n);
            once = o.once;
          };
    }
