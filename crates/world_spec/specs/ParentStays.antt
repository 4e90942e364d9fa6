-- Through each event of the POSIX machine the raw parent of a process stays, while it is there; and the status that is
-- kept for the host stays, once process 2 is dead.
use Rattle.std.proofs.Common.{◌≡◌, ◌≢◌, ℕ, ◌+◌, Bool, true, false, cond, not, ◌&&◌, nat_eq, nat_lt, nat_le, length}
use Rattle.std.proofs.Common.{Option, Some, None, refl, sym, ap, ◌∙◌, subst, true≢false}
use Rattle.std.specs.Prelude.{pos}
use Rattle.std.specs.FinSet as set
use Rattle.std.specs.Option.{unwrap_or}
use Rattle.std.proofs.lemmas.Bool.{cases_eq}
use Rattle.std.proofs.lemmas.Option.{none-some}
use Rattle.std.proofs.Common.{inl, inr}
use Rattle.w32_base.specs.declared.event.Event.{Event}
use Rattle.w32_base.specs.declared.event.Event.TheVariants as event
use Rattle.w32_base.specs.declared.instr.Instr.{Instr}
use Rattle.w32_base.specs.declared.instr.Instr.TheVariants as instr
use Rattle.script_spec.specs.declared.script.Script.{Script}
use Rattle.win32_spec.specs.LookupLaws.{differs}
use Rattle.posix_spec.specs.CallLaws.{negation}
use Rattle.posix_spec.specs.Conditions.{own_call, for_call}
use Rattle.posix_spec.specs.DeathSteps.{may_die, died, die_step, is_zombie, collect_step, dead}
use Rattle.posix_spec.specs.ForkSteps.{is_fresh, child_of, with_used, most_children, fork_step}
use Rattle.posix_spec.specs.Numbers.{for_value, natural_of}
use Rattle.posix_spec.specs.RecordLaws.{record_of-with_record, record_of-without_record}
use Rattle.posix_spec.specs.Records.{settled, with_record, without_record, children, is_live_at}
use Rattle.posix_spec.specs.Run.{PosixStep}
use Rattle.posix_spec.specs.SignalLaws.{second_of}
use Rattle.posix_spec.specs.State.{Record, PosixState, record_of}
use Rattle.posix_spec.specs.Step.{posix_step}
use Rattle.posix_spec.specs.WaitSteps.{is_reaped, reap_by, reap_step}
use Rattle.posix_spec.specs.Waits.{wait_of}
use Rattle.posix_spec.specs.WellFormed.{IsUsed}
use Rattle.layer_spec.specs.FateLaws.{for_value_some, guarded}
use Rattle.world_spec.specs.AlikeLaws.{AreAlike}
use Rattle.world_spec.specs.ParentEvents.{event_keeps}
use Rattle.world_spec.specs.ParentLaws.{KeepsParents, parent_in, same_parents, answered_keeps, answered_both_keeps}
use Rattle.world_spec.specs.SealLaws.{died-its, died-others}

-- the process with this number, where there is one, was there before, with the same raw parent
abbrev pub ParentStays : (s new : PosixState) (n : ℕ) → Type 0
ParentStays s new n = (q : Record) → record_of new n ≡ Some q
    → (r : Record) × (record_of s n ≡ Some r) × (q.parent ≡ r.parent)

kept_parent : (s new : PosixState) → KeepsParents s new → (n : ℕ) → ParentStays s new n
kept_parent s new k n q e = by_record (record_of s n) refl (sym (k.parents n) ∙ ap parent_in e)
  where
    by_record : (o : Option Record) → record_of s n ≡ o → parent_in o ≡ Some q.parent
        → (r : Record) × (record_of s n ≡ Some r) × (q.parent ≡ r.parent)
    by_record None is f = absurd (none-some q.parent f)
    by_record (Some r) is f = (r, is, ap (λ o. unwrap_or o q.parent) (sym f))

-- one process is taken away first
without_parent : (s new : PosixState) (c : ℕ) → KeepsParents (without_record s c) new → (n : ℕ) → ParentStays s new n
without_parent s new c k n q e =
    let r = kept_parent (without_record s c) new k n q e in
    (r.0, by_test (nat_eq n c) (sym (record_of-without_record s c n) ∙ r.1), r.2)
  where
    by_test : {x : Record} → (b : Bool) → cond b None (record_of s n) ≡ Some x → record_of s n ≡ Some x
    by_test {x} true f = absurd (none-some x f)
    by_test {x} false f = f

-- or one comes whose number wasn't used
with_parent : (s new : PosixState) (c : ℕ) (child : Record) → set.contains s.used c ≡ false
    → KeepsParents (with_used (with_record s c child) c) new → (n : ℕ) → IsUsed s.used n → ParentStays s new n
with_parent s new c child unused k n used q e =
    let r = kept_parent (with_used (with_record s c child) c) new k n q e in
    let other : n ≢ c = λ same. true≢false (sym used ∙ (ap (set.contains s.used) same ∙ unused)) in (
      r.0,
      sym (record_of-with_record s c child n ∙ ap (λ b. cond b (Some (settled child)) (record_of s n))
          (differs n c other)) ∙ r.1,
      r.2,
    )

died_parent : (s : PosixState) (p v : ℕ) (r : Record) → record_of s p ≡ Some r → (n : ℕ)
    → ParentStays s (died s p v r.parent) n
died_parent s p v r found n q e = elim (cases_eq n p) [
  | inl same ↦ (
    r,
    ap (record_of s) same ∙ found,
    by_its (record_of (died s p v r.parent) p) (died-its s p v r found)
        (ap (record_of (died s p v r.parent)) (sym same) ∙ e),
  )
  | inr other ↦ by_others (record_of s n) refl (record_of (died s p v r.parent) n) (died-others s p v r found n other) e
]
  where
    by_its : (k : Option Record) → AreAlike (Some (settled (dead v r))) k → k ≡ Some q → q.parent ≡ r.parent
    by_its None a f = absurd a
    by_its (Some x) a f = ap (λ o. let y : Record = unwrap_or o x in y.parent) (sym f) ∙ a.parent

    by_others : (o : Option Record) → record_of s n ≡ o → (k : Option Record) → AreAlike o k → k ≡ Some q
        → (x : Record) × (record_of s n ≡ Some x) × (q.parent ≡ x.parent)
    by_others None is None a f = absurd (none-some q f)
    by_others None is (Some y) a f = absurd a
    by_others (Some x) is None a f = absurd a
    by_others (Some x) is (Some y) a f =
        (x, is, ap (λ o. let z : Record = unwrap_or o y in z.parent) (sym f) ∙ a.parent)

-- the result of a step with a test
passed : (b : Bool) (x new : PosixState) → cond b (Some x) None ≡ Some new → (b ≡ true) × (x ≡ new)
passed b x new e = let g = guarded b (Some x) new e in (g.0, ap (λ o. unwrap_or o x) g.1)

pub parent-stays : (script : Script) (s : PosixState) (e : Event) (new : PosixState) → PosixStep script s e new
    → (n : ℕ)
    → IsUsed s.used n → ParentStays s new n
unfolding posix_step
parent-stays script s (event.Fork p c) new step n used =
    let m = for_value_some (natural_of c) (λ k. for_call script s p (fork_step script s p k)) new step in
    let r = for_value_some (record_of s p) (λ x. for_value (own_call script x) (fork_step script s p m.0 x)) new m.2 in
    let i = for_value_some (own_call script r.0) (fork_step script s p m.0 r.0) new r.2 in
    by_instr m.0 r.0 i.0 i.2
  where
    by_instr : (k : ℕ) (x : Record) (i : Instr) → fork_step script s p k x i ≡ Some new → ParentStays s new n
    by_instr k x instr.Fork f =
        let mid : PosixState = with_used (with_record s k (child_of p x)) k in
        let g = passed (nat_lt (length (children s p)) most_children && is_fresh script s k) _ new f in
        let fresh = second_of (nat_lt (length (children s p)) most_children) (is_fresh script s k) g.0 in
        let unused = negation (set.contains s.used k)
        (second_of (nat_le k (script.setup.limits.rows + 1)) _ (second_of (nat_le 2 k) _ fresh)) in
        with_parent s new k (child_of p x) unused
        (subst (KeepsParents mid) g.1 (answered_keeps mid mid p (pos k) (same_parents mid))) n used
    by_instr k x _ f = absurd (none-some new f)
parent-stays script s (event.Reap p c v) new step n used =
    let m = for_value_some (natural_of c) (λ k. for_call script s p (reap_step s p v k)) new step in
    let r = for_value_some (record_of s p) (λ x. for_value (own_call script x) (reap_step s p v m.0 x)) new m.2 in
    let i = for_value_some (own_call script r.0) (reap_step s p v m.0 r.0) new r.2 in
    let wait = for_value_some (wait_of p r.0 i.0) (reap_by s p m.0 v) new i.2 in
    let mid : PosixState = without_record s m.0 in
    let g = passed (is_reaped wait.0 m.0 v (record_of s m.0)) _ new wait.2 in
    without_parent s new m.0
    (subst (KeepsParents mid) g.1 (answered_both_keeps mid mid p (pos m.0) v (same_parents mid))) n
parent-stays script s (event.Die p v cause) new step n used =
    let m = for_value_some (natural_of v) (λ k. for_value (record_of s p) (die_step script s p cause k)) new step in
    let r = for_value_some (record_of s p) (die_step script s p cause m.0) new m.2 in
    let g = passed (may_die script r.0 m.0 cause) (died s p m.0 r.0.parent) new r.2 in
    subst (λ t. ParentStays s t n) g.1 (died_parent s p m.0 r.0 r.1 n)
parent-stays script s (event.Collect p) new step n used =
    let r = for_value_some (record_of s p) (collect_step s p) new step in
    let mid : PosixState = without_record s p in
    let g = passed (is_zombie r.0.life && not (is_live_at (record_of s r.0.parent))) mid new r.2 in
    without_parent s new p (subst (KeepsParents mid) g.1 (same_parents mid)) n
parent-stays script s e new step n used = kept_parent s new (event_keeps script s e new refl step) n
