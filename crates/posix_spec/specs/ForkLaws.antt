-- A new process keeps a state well formed.
use Rattle.std.specs.Prelude.{◌≡◌, ◌≢◌, ◌⊎◌, ℕ, ◌+◌, ◌<◌, ◌≤◌, ℤ, pos, Bool, true, false, cond, ◌&&◌, ◌||◌, nat_eq}
use Rattle.std.specs.Prelude.{nat_le, nat_lt, length, Some, None}
use Rattle.std.specs.Ordering.{nat_cmp, eq_by_cmp}
use Rattle.std.specs.Cmp.{nat_cmp_total}
use Rattle.std.specs.FinSet as set
use Rattle.std.proofs.Common.{refl, sym, ap, subst, ◌∙◌, arith, true≢false, eqb-true, leb-true, ltb-true, inl, inr}
use Rattle.w32_base.specs.declared.event.Event.TheVariants as event
use Rattle.w32_base.specs.declared.instr.Instr.{Instr}
use Rattle.w32_base.specs.declared.instr.Instr.TheVariants as instr
use Rattle.script_spec.specs.declared.script.Script.{Script}
use Rattle.posix_spec.specs.State.{Numbers, GroupCall, Record, PosixState, record_of}
use Rattle.posix_spec.specs.Pending.{is_stopped}
use Rattle.posix_spec.specs.Records.{settled, with_record, children}
use Rattle.posix_spec.specs.Conditions.{answered}
use Rattle.posix_spec.specs.ForkSteps.{most_children, is_fresh, child_of, with_used, fork_step}
use Rattle.posix_spec.specs.DeathSteps.{is_zombie}
use Rattle.posix_spec.specs.Step.{posix_step}
use Rattle.posix_spec.specs.RecordLaws.{each_with_record, record_of-with_record}
use Rattle.posix_spec.specs.EntryLaws.{tied, same_number}
use Rattle.posix_spec.specs.CountLaws.{one_if}
use Rattle.posix_spec.specs.TestLaws.{children-with_new}
use Rattle.posix_spec.specs.SignalLaws.{first_of, second_of}
use Rattle.posix_spec.specs.ImageLaws.{IsImage-with_result}
use Rattle.posix_spec.specs.WellFormed.{IsUsed, AreUsed, IsGroupCall, IsWellFormedRecord, IsFirstStatus, IsWellFormed}
use Rattle.posix_spec.specs.KeepLaws.{IsSound, IsWellFormedRecord-settled}
use Rattle.posix_spec.specs.CallLaws.{IsActing, HasCall-none, none_some, negation}
use Rattle.posix_spec.specs.AnswerLaws.{after_none, after_if, Acts, IsWellFormed-results}
use Rattle.posix_spec.specs.SentLaws.{Acts-calling, after_call, after_number}

-- ---- more numbers are used

module _ (used more : Numbers) (h : AreUsed more used) where
  IsGroupCall-more : (call : GroupCall) → IsGroupCall used call → IsGroupCall more call
  IsGroupCall-more call g =
      record { group = h call.group g.group; signal = g.signal; members = λ n is. h n (g.members n is) }

  parent_more : (parent : ℕ) → (parent ≡ 1) ⊎ IsUsed used parent → (parent ≡ 1) ⊎ IsUsed more parent
  parent_more parent (inl e) = inl e
  parent_more parent (inr u) = inr (h parent u)

  IsWellFormedRecord-more : (script : Script) (p : ℕ) (r : Record) → IsWellFormedRecord script used p r →
      IsWellFormedRecord script more p r
  IsWellFormedRecord-more script p r w = record {
    numbers = record {
      number = h p w.numbers.number;
      parent_number = parent_more r.parent w.numbers.parent_number;
      not_own_parent = w.numbers.not_own_parent;
      group_number = h r.group w.numbers.group_number;
      session_number = h r.session w.numbers.session_number;
      leader = w.numbers.leader;
      first = w.numbers.first;
      has_terminal = w.numbers.has_terminal;
    };
    lives = w.lives;
    notes = w.notes;
    signals = w.signals;
    goes_first = w.goes_first;
    runs = w.runs;
    calls = record {
      may_block = w.calls.may_block;
      suspended = w.calls.suspended;
      wait_call = λ numbers is. let c = w.calls.wait_call numbers is in
          record { is_next = c.is_next; looked_at = λ n there. h n (c.looked_at n there) };
      group_call = λ call is. let c = w.calls.group_call call is in
          record { is_next = c.is_next; not_due = c.not_due; steps = IsGroupCall-more call c.steps };
    };
  }

-- ---- the child

-- a process of the new state is one that was, or the child, whose group and session are its parent's
record WasBefore (s : PosixState) (r : Record) : Type 0 where
  number : ℕ
  before : Record
  is : record_of s number ≡ Some before
  group : r.group ≡ before.group
  session : r.session ≡ before.session

module _ (script : Script) (s : PosixState) (p c : ℕ) (r : Record) (w : IsWellFormed script s)
    (is : record_of s p ≡ Some r)
    (fresh : is_fresh script s c ≡ true) (few : length (children s p) < 32) where
  unused : set.contains s.used c ≡ false
  unused = negation (set.contains s.used c)
      (second_of (nat_le c (script.setup.limits.rows + 1)) _ (second_of (nat_le 2 c) _ fresh))

  other_than : (n : ℕ) → IsUsed s.used n → n ≢ c
  other_than n used same = true≢false (sym used ∙ ap (set.contains s.used) same ∙ unused)

  more : Numbers
  more = set.insert s.used c

  contains_more : (n : ℕ) → set.contains (set.insert s.used c) n ≡ (eq_by_cmp nat_cmp n c || set.contains s.used n)
  contains_more n = set.contains-insert nat_cmp_total s.used c n

  or_true : (b : Bool) → (b || true) ≡ true
  or_true true = refl
  or_true false = refl

  AreUsed-more : AreUsed (set.insert s.used c) s.used
  AreUsed-more n used = contains_more n ∙ ap (λ b. eq_by_cmp nat_cmp n c || b) used ∙ or_true (eq_by_cmp nat_cmp n c)

  used_child : IsUsed (set.insert s.used c) c
  used_child = contains_more c ∙ ap (λ b. b || set.contains s.used c) (tied c)

  numbers_more : (n : ℕ) → IsUsed (set.insert s.used c) n → (2 ≤ n) × (n ≤ script.setup.limits.rows + 1)
  numbers_more n used =
      elim (eq_by_cmp nat_cmp n c) as (λ b. eq_by_cmp nat_cmp n c ≡ b → (b || set.contains s.used n) ≡ true →
      (2 ≤ n) × (n ≤ script.setup.limits.rows + 1)) [
        | true ↦ λ same _.
            let e = same_number n c same in
            let low = leb-true 2 c (first_of (nat_le 2 c) _ fresh) in
            let high = leb-true c (script.setup.limits.rows + 1)
            (first_of (nat_le c (script.setup.limits.rows + 1)) _ (second_of (nat_le 2 c) _ fresh)) in
            (omega arith, omega arith)
        | false ↦ λ _ there. w.numbers n there
      ] refl (sym (contains_more n) ∙ used)

  good : IsWellFormedRecord script s.used p r
  good = w.each p r is

  IsSound-child : IsSound script (set.insert s.used c) c (child_of p r)
  IsSound-child = record {
    numbers = record {
      number = used_child;
      parent_number = inr (AreUsed-more p good.numbers.number);
      not_own_parent = other_than p good.numbers.number;
      group_number = AreUsed-more r.group good.numbers.group_number;
      session_number = AreUsed-more r.session good.numbers.session_number;
      leader = λ same. absurd (other_than r.session good.numbers.session_number same);
      first = λ same. absurd (other_than 2 w.first_number (sym same));
      has_terminal = good.numbers.has_terminal;
    };
    lives = record {
      stop = λ t e. absurd (true≢false (sym (ap is_stopped e)));
      status = λ v e. absurd (true≢false (sym (ap is_zombie e)));
      has_report = refl;
    };
    notes = λ dead. absurd (true≢false (sym dead));
    signals = record {
      pending_signals = omega arith;
      lost_signals = omega arith;
      is_mask = good.signals.is_mask;
      saved_mask = λ m e. absurd (none_some m e);
      action_count = good.signals.action_count;
      kill_action = good.signals.kill_action;
      stop_action = good.signals.stop_action;
    };
    runs = IsImage-with_result script r.image (pos 0) None good.runs;
    calls = HasCall-none _ (set.insert s.used c) _ _ None refl;
  }

  was_before : (n : ℕ) (x : Record) → record_of (with_record s c (child_of p r)) n ≡ Some x → WasBefore s x
  was_before = each_with_record (λ n x. WasBefore s x) s c (child_of p r)
      (record { number = p; before = r; is = is; group = refl; session = refl })
      (λ n x apart there. record { number = n; before = x; is = there; group = refl; session = refl })

  at_other : (n : ℕ) (x : Record) → n ≢ c → record_of (with_record s c (child_of p r)) n ≡ Some x → record_of s
      n ≡ Some x
  at_other n x apart there =
      elim (nat_eq n c) as (λ b. nat_eq n c ≡ b → cond b (Some (settled (child_of p r))) (record_of s n) ≡ Some x →
      record_of s n ≡ Some x) [
        | true ↦ λ same _. absurd (apart (eqb-true n c same))
        | false ↦ λ _ e. e
      ] refl (sym (record_of-with_record s c (child_of p r) n) ∙ there)

  few_with : (q : ℕ) (b : Bool) → nat_eq p q ≡ b → length (children (with_record s c (child_of p r)) q) ≤ one_if
      b + length (children s q) →
      length (children (with_record s c (child_of p r)) q) ≤ 32
  few_with q true same h = let e = ap (λ n. length (children s n)) (eqb-true p q same) in omega arith
  few_with q false other h = let k = w.few_children q in omega arith

  first_with : (b : Bool) → nat_eq 2 c ≡ b → IsFirstStatus (cond b (Some (settled (child_of p r))) (record_of s 2))
      s.first_status
  first_with true same = absurd (other_than 2 w.first_number (eqb-true 2 c same))
  first_with false other = w.first

  IsWellFormed-forked : IsWellFormed script (with_used (with_record s c (child_of p r)) c)
  IsWellFormed-forked = record {
    each = each_with_record (IsWellFormedRecord script (set.insert s.used c)) s c (child_of p r)
        (IsWellFormedRecord-settled script (set.insert s.used c) c (child_of p r) IsSound-child)
        (λ q x apart there. IsWellFormedRecord-more s.used (set.insert s.used c) AreUsed-more script q x
        (w.each q x there));
    numbers = numbers_more;
    first_number = AreUsed-more 2 w.first_number;
    sessions = record {
      same = λ m n a b at_m at_n together.
          let x = was_before m a at_m in let y = was_before n b at_n in
          x.session ∙ w.sessions.same x.number y.number x.before y.before x.is y.is (sym x.group ∙ together ∙ y.group)
          ∙ sym y.session;
      leader = λ m a b at_m at_g.
          let x = was_before m a at_m in
          let apart = other_than a.group (subst (IsUsed s.used) (sym x.group)
          (w.each x.number x.before x.is).numbers.group_number) in
          x.session ∙ w.sessions.leader x.number x.before b x.is
          (ap (record_of s) (sym x.group) ∙ at_other a.group b apart at_g);
    };
    few_children = λ q. few_with q (nat_eq p q) refl (children-with_new s c (child_of p r) q);
    is_terminal = w.is_terminal;
    foreground = AreUsed-more s.terminal.foreground w.foreground;
    console_call = λ call is. IsGroupCall-more s.used (set.insert s.used c) AreUsed-more call (w.console_call call is);
    first = subst (λ o. IsFirstStatus o s.first_status) (sym (record_of-with_record s c (child_of p r) 2))
        (first_with (nat_eq 2 c) refl);
  }

module _ (script : Script) (s new : PosixState) (p : ℕ) (w : IsWellFormed script s) where
  forks : (c : ℕ) (r : Record) (i : Instr) → record_of s p ≡ Some r → Acts s p → fork_step script s p c r i ≡ Some
      new → IsWellFormed script new
  forks c r instr.Fork is acts found =
      after_if (IsWellFormed script) (nat_lt (length (children s p)) most_children && is_fresh script s c)
      (answered (with_used (with_record s c (child_of p r)) c) p (pos c)) new
      (λ passed.
      let few = ltb-true (length (children s p)) 32
      (first_of (nat_lt (length (children s p)) most_children) _ passed) in
      let fresh = second_of (nat_lt (length (children s p)) most_children) (is_fresh script s c) passed in
      IsWellFormed-results script (with_used (with_record s c (child_of p r)) c) p (pos c) None
      (IsWellFormed-forked script s p c r w is fresh few)
      (λ x there. each_with_record (λ n x. n ≡ p → IsActing x) s c (child_of p r)
      (λ same. absurd (other_than script s p c r w is fresh few p (w.each p r is).numbers.number (sym same)))
      (λ n x apart there same. acts x (ap (record_of s) (sym same) ∙ there)) p x there refl)) found
  forks c r _ is acts found = after_none (IsWellFormed script) new found

  pub keeps-fork : (c : ℤ) → posix_step script s (event.Fork p c) ≡ Some new → IsWellFormed script new
  unfolding posix_step
  keeps-fork c e =
      after_number (IsWellFormed script) script s new c _
      (λ n found. after_call (IsWellFormed script) script s new p (fork_step script s p n)
      (λ r i is calls done. forks n r i is (Acts-calling script s p w r i is calls) done) found) e
