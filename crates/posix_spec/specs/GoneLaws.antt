-- A number that was used stays used, and one whose process has gone has none ever after: it goes at most once.
use Rattle.std.specs.Prelude.{◌≡◌, ℕ, Bool, true, false, cond, ◌||◌, nat_eq, nat_le, ◌+◌, List, Option, Some, None}
use Rattle.std.specs.Ordering.{nat_cmp, eq_by_cmp}
use Rattle.std.specs.Cmp.{nat_cmp_total}
use Rattle.std.specs.FinSet as set
use Rattle.std.proofs.Common.{refl, sym, ap, subst, ◌∙◌, true≢false, eqb-true}
use Rattle.w32_base.specs.declared.event.Event.{Event}
use Rattle.script_spec.specs.declared.script.Script.{Script}
use Rattle.posix_spec.specs.State.{Record, PosixState, record_of}
use Rattle.posix_spec.specs.Records.{settled, with_record, changed_at}
use Rattle.posix_spec.specs.Run.{PosixRun}
use Rattle.posix_spec.specs.RecordLaws.{record_of-with_record, record_of-without_record}
use Rattle.posix_spec.specs.SignalLaws.{second_of}
use Rattle.posix_spec.specs.CallLaws.{none_some, negation}
use Rattle.posix_spec.specs.GroupCallLaws.{used-change_record}
use Rattle.posix_spec.specs.WellFormed.{IsUsed}
use Rattle.posix_spec.specs.ShapeLaws.{KeepsShapes}
use Rattle.posix_spec.specs.EveryStep.{each_run_keeps}

or_true : (b : Bool) → (b || true) ≡ true
or_true true = refl
or_true false = refl

used_more : (used : set.FinSet nat_cmp) (c n : ℕ) → IsUsed used n → IsUsed (set.insert used c) n
used_more used c n is =
    set.contains-insert nat_cmp_total used c n ∙ ap (λ b. eq_by_cmp nat_cmp n c || b) is ∙ or_true
    (eq_by_cmp nat_cmp n c)

used_shapes : (script : Script) (n : ℕ) → KeepsShapes script (λ t. IsUsed t.used n)
used_shapes script n = record {
  change = λ t q f h. subst (λ u. IsUsed u n) (sym (used-change_record t q f)) h;
  remove = λ t q h. h;
  parts = λ t terminal output console status host h. h;
  add = λ t c r fresh h. used_more t.used c n h;
}

pub used_stays : (script : Script) (n : ℕ) (s : PosixState) (es : List Event) (new : PosixState) → IsUsed s.used n →
    PosixRun script s es new → IsUsed new.used n
used_stays script n s es new h run = each_run_keeps script (λ t. IsUsed t.used n) (used_shapes script n) s es new h run

-- a process of this number was, and is no more
pub record HasGone (n : ℕ) (s : PosixState) : Type 0 where
  pub was : IsUsed s.used n
  pub none : record_of s n ≡ None

module _ (n : ℕ) (t : PosixState) (h : HasGone n t) where
  none_by : (q : ℕ) (new : Record) (b : Bool) → nat_eq n q ≡ b → (n ≡ q → ⊥) → cond b (Some new) (record_of t n) ≡ None
  none_by q new true same apart = absurd (apart (eqb-true n q same))
  none_by q new false other apart = h.none

  gone_with : (q : ℕ) (r : Record) → (n ≡ q → ⊥) → record_of (with_record t q r) n ≡ None
  gone_with q r apart = record_of-with_record t q r n ∙ none_by q (settled r) (nat_eq n q) refl apart

  gone_changed : (q : ℕ) (f : Record → Record) (o : Option Record) → record_of t q ≡ o → HasGone n (changed_at t q f o)
  gone_changed q f None is = h
  gone_changed q f (Some old) is = record {
    was = h.was;
    none = gone_with q (f old) (λ same. none_some old (sym h.none ∙ ap (record_of t) same ∙ is));
  }

  without_by : (b : Bool) → cond b None (record_of t n) ≡ None
  without_by true = refl
  without_by false = h.none

gone_shapes : (script : Script) (n : ℕ) → KeepsShapes script (HasGone n)
gone_shapes script n = record {
  change = λ t q f h. gone_changed n t h q f (record_of t q) refl;
  remove = λ t q h. record { was = h.was; none = record_of-without_record t q n ∙ without_by n t h (nat_eq n q) };
  parts = λ t terminal output console status host h. record { was = h.was; none = h.none };
  add = λ t c r fresh h.
      let unused = negation (set.contains t.used c)
      (second_of (nat_le c (script.setup.limits.rows + 1)) _ (second_of (nat_le 2 c) _ fresh)) in
      record {
        was = used_more t.used c n h.was;
        none = gone_with n t h c r (λ same. true≢false (sym h.was ∙ ap (set.contains t.used) same ∙ unused));
      };
}

pub gone_stays : (script : Script) (n : ℕ) (s : PosixState) (es : List Event) (new : PosixState) → HasGone n s →
    PosixRun script s es new → HasGone n new
gone_stays script n s es new h run = each_run_keeps script (HasGone n) (gone_shapes script n) s es new h run
