-- A process that moves to a group keeps a state well formed.
use Rattle.std.specs.Prelude.{◌≡◌, ◌≢◌, ◌⊎◌, ℕ, ℤ, pos, Bool, true, false, ◌&&◌, ◌||◌, not, nat_eq, Option, Some, None}
use Rattle.std.proofs.Common.{refl, sym, ap, subst, ◌∙◌, true≢false, eqb-true, false-eqb, inl, inr}
use Rattle.w32_base.specs.declared.event.Event.TheVariants as event
use Rattle.w32_base.specs.declared.event.Errno.{Errno}
use Rattle.w32_base.specs.declared.event.Errno.TheVariants as errno
use Rattle.w32_base.specs.declared.instr.Instr.{Instr}
use Rattle.w32_base.specs.declared.instr.Instr.TheVariants as instr
use Rattle.script_spec.specs.declared.script.Script.{Script}
use Rattle.vm_spec.specs.Image.{value_of}
use Rattle.posix_spec.specs.Numbers.{natural_of}
use Rattle.posix_spec.specs.State.{Record, PosixState, record_of}
use Rattle.posix_spec.specs.Records.{with_record, change_record}
use Rattle.posix_spec.specs.Groups.{has_member_in}
use Rattle.posix_spec.specs.Checks.{Check, is_allowed, then_check, check_that}
use Rattle.posix_spec.specs.Conditions.{answered}
use Rattle.posix_spec.specs.GroupSteps.{or_this, is_movable, is_joinable, move_check, group_check, setpgid_check}
use Rattle.posix_spec.specs.GroupSteps.{is_move, in_group, setpgid_step}
use Rattle.posix_spec.specs.Step.{posix_step}
use Rattle.posix_spec.specs.RecordLaws.{same_record, each_with_record, record_of-change_record}
use Rattle.posix_spec.specs.TestLaws.{HasRecord, some_record-is}
use Rattle.posix_spec.specs.SignalLaws.{first_of, second_of}
use Rattle.posix_spec.specs.WellFormed.{IsUsed, HasSessions, IsWellFormed}
use Rattle.posix_spec.specs.KeepLaws.{IsSound, IsWellFormed-with_record}
use Rattle.posix_spec.specs.CallLaws.{IsActing, negation}
use Rattle.posix_spec.specs.AnswerLaws.{after_none, after_if, kept_at, Acts, IsWellFormed-results}
use Rattle.posix_spec.specs.SentLaws.{Acts-calling, after_call, after_numbers}

-- ---- a process is moved to a group

-- a process after the move, with the one that it was
record WasMoved (s : PosixState) (q g : ℕ) (n : ℕ) (r : Record) : Type 0 where
  before : Record
  is : record_of s n ≡ Some before
  session : r.session ≡ before.session
  group : (r.group ≡ before.group) ⊎ ((n ≡ q) × (r.group ≡ g))

module _ (script : Script) (s : PosixState) (q g : ℕ) (target : Record) (w : IsWellFormed script s)
    (is : record_of s q ≡ Some target)
    (group_used : IsUsed s.used g) (no_leader : target.session ≢ q)
    (joined : (n : ℕ) (r : Record) → record_of s n ≡ Some r → r.group ≡ g → r.session ≡ target.session)
    (led : (r : Record) → record_of s g ≡ Some r → r.session ≡ target.session) where
  moved : (n : ℕ) (r : Record) → record_of (with_record s q (in_group g target)) n ≡ Some r → WasMoved s q g n r
  moved = each_with_record (WasMoved s q g) s q (in_group g target)
      (record { before = target; is = is; session = refl; group = inr (refl, refl) })
      (λ n r apart there. record { before = r; is = there; session = refl; group = inl refl })

  it_is_target : (n : ℕ) (r : Record) → record_of s n ≡ Some r → n ≡ q → r.session ≡ target.session
  it_is_target n r there same = ap (λ x. x.session) (same_record r target (sym there ∙ ap (record_of s) same ∙ is))

  sessions_moved : HasSessions (with_record s q (in_group g target))
  sessions_moved = record {
    same = λ m n a b at_m at_n together.
        let x = moved m a at_m in let y = moved n b at_n in
        let before : x.before.session ≡ y.before.session =
        elim x.group [
          | inl kept ↦ elim y.group [
            | inl also ↦ w.sessions.same m n x.before y.before x.is y.is (sym kept ∙ together ∙ also)
            | inr here ↦ joined m x.before x.is (sym kept ∙ together ∙ here.1) ∙ sym
                (it_is_target n y.before y.is here.0)
          ]
          | inr there ↦ elim y.group [
            | inl kept ↦ it_is_target m x.before x.is there.0 ∙ sym
                (joined n y.before y.is (sym kept ∙ sym together ∙ there.1))
            | inr here ↦ it_is_target m x.before x.is there.0 ∙ sym (it_is_target n y.before y.is here.0)
          ]
        ] in
        x.session ∙ before ∙ sym y.session;
    leader = λ m a b at_m at_g.
        let x = moved m a at_m in let y = moved a.group b at_g in
        let before : x.before.session ≡ y.before.session =
        elim x.group [
          | inl kept ↦ w.sessions.leader m x.before y.before x.is (ap (record_of s) (sym kept) ∙ y.is)
          | inr there ↦ it_is_target m x.before x.is there.0 ∙ sym
              (led y.before (ap (record_of s) (sym there.1) ∙ y.is))
        ] in
        x.session ∙ before ∙ sym y.session;
  }

  IsSound-moved : IsSound script s.used q (in_group g target)
  IsSound-moved =
      let good = w.each q target is in
      record {
        numbers = record {
          number = good.numbers.number;
          parent_number = good.numbers.parent_number;
          not_own_parent = good.numbers.not_own_parent;
          group_number = group_used;
          session_number = good.numbers.session_number;
          leader = λ leads. absurd (no_leader leads);
          first = good.numbers.first;
          has_terminal = good.numbers.has_terminal;
        };
        lives = good.lives;
        notes = good.notes;
        signals = good.signals;
        runs = good.runs;
        calls = good.calls;
      }

  IsWellFormed-moved : IsWellFormed script (change_record s q (in_group g))
  IsWellFormed-moved =
      subst (IsWellFormed script) (sym (record_of-change_record s q (in_group g) target is))
      (IsWellFormed-with_record script s q target (in_group g target) w is IsSound-moved sessions_moved refl refl)

-- ---- what the checks of setpgid say

pub passed_of : (b : Bool) (e : Errno) → is_allowed (check_that b e) ≡ true → b ≡ true
passed_of true e h = refl
passed_of false e h = h

then_passed : (b : Bool) (e : Errno) (next : Check) → is_allowed (then_check (check_that b e) next) ≡ true →
    is_allowed next ≡ true
then_passed true e next h = h
then_passed false e next h = absurd (true≢false (sym h))

record IsMove (s : PosixState) (r : Record) (q g : ℕ) : Type 0 where
  target : Record
  is : record_of s q ≡ Some target
  movable : is_movable r q target ≡ true
  joinable : is_joinable s r q g ≡ true

module _ (s : PosixState) (p : ℕ) (r : Record) (q g : ℕ) where
  move_of : (o : Option Record) → record_of s q ≡ o → is_allowed (move_check s p r q g o) ≡ true → IsMove s r q g
  move_of None is h = absurd (true≢false (sym h))
  move_of (Some target) is h =
      let rest = then_passed (nat_eq q p || nat_eq target.parent p) errno.ESRCH _ h in
      let last = then_passed (nat_eq q p || not target.execd) errno.EACCES _ rest in
      let both = passed_of (is_movable r q target && is_joinable s r q g) errno.EPERM last in
      record {
        target = target;
        is = is;
        movable = first_of (is_movable r q target) (is_joinable s r q g) both;
        joinable = second_of (is_movable r q target) (is_joinable s r q g) both;
      }

  move_is : (process group : Option ℕ) → is_move p q g process group ≡ true → is_allowed
      (group_check s p r process group) ≡ true → IsMove s r q g
  move_is None None named h = absurd (true≢false (sym named))
  move_is None (Some group) named h = absurd (true≢false (sym named))
  move_is (Some process) None named h = absurd (true≢false (sym named))
  move_is (Some process) (Some group) named h =
      let this : q ≡ or_this process p = eqb-true q (or_this process p)
      (first_of (nat_eq q (or_this process p)) _ named) in
      let that : g ≡ or_this group q = eqb-true g (or_this group q)
      (second_of (nat_eq q (or_this process p)) _ named) in
      let at_q : is_allowed (move_check s p r q (or_this group q) (record_of s q)) ≡ true =
      subst (λ x. is_allowed (move_check s p r x (or_this group x) (record_of s x)) ≡ true) (sym this) h in
      move_of (record_of s q) refl (subst (λ y. is_allowed (move_check s p r q y (record_of s q)) ≡ true) (sym that)
      at_q)

not_this : (a b : ℕ) → not (nat_eq a b) ≡ true → a ≢ b
not_this a b e = false-eqb a b (sym (negation (nat_eq a b) e))

module _ (script : Script) (s : PosixState) (r : Record) (q g : ℕ) (w : IsWellFormed script s)
    (m : IsMove s r q g) where
  same_session : m.target.session ≡ r.session
  same_session = eqb-true m.target.session r.session (second_of (not (nat_eq m.target.session q)) _ m.movable)

  apart : m.target.session ≢ q
  apart = not_this m.target.session q (first_of (not (nat_eq m.target.session q)) _ m.movable)

  named_after : g ≡ q → IsWellFormed script (change_record s q (in_group g))
  named_after same =
      let here : record_of s g ≡ Some m.target = ap (record_of s) same ∙ m.is in
      IsWellFormed-moved script s q g m.target w m.is
      (subst (IsUsed s.used) (sym same) (w.each q m.target m.is).numbers.number) apart
      (λ n x there group. w.sessions.leader n x m.target there (ap (record_of s) group ∙ here))
      (λ x there. ap (λ y. y.session) (same_record x m.target (sym there ∙ here)))

  with_member : HasRecord s (λ n x. nat_eq x.group g && nat_eq x.session r.session) → IsWellFormed script
      (change_record s q (in_group g))
  with_member found =
      let group : found.process.group ≡ g = eqb-true found.process.group g
      (first_of (nat_eq found.process.group g) _ found.passes) in
      let session : found.process.session ≡ m.target.session =
      eqb-true found.process.session r.session (second_of (nat_eq found.process.group g) _ found.passes) ∙ sym
      same_session in
      IsWellFormed-moved script s q g m.target w m.is
      (subst (IsUsed s.used) group (w.each found.number found.process found.is).numbers.group_number) apart
      (λ n x there same. w.sessions.same n found.number x found.process there found.is (same ∙ sym group) ∙ session)
      (λ x there. sym (w.sessions.leader found.number found.process x found.is (ap (record_of s) group ∙ there)) ∙
      session)

  move_by : (b : Bool) → nat_eq g q ≡ b → (b || has_member_in s g r.session) ≡ true → IsWellFormed script
      (change_record s q (in_group g))
  move_by true same joins = named_after (eqb-true g q same)
  move_by false other joins = with_member (some_record-is s (λ n x. nat_eq x.group g && nat_eq x.session r.session)
      joins)

  IsWellFormed-move : IsWellFormed script (change_record s q (in_group g))
  IsWellFormed-move = move_by (nat_eq g q) refl m.joinable

module _ (script : Script) (s new : PosixState) (p : ℕ) (w : IsWellFormed script s) where
  moves : (q g : ℕ) (r : Record) (i : Instr) → Acts s p → setpgid_step s p q g r i ≡ Some new → IsWellFormed script new
  moves q g r (instr.SetPgid process group) acts found =
      after_if (IsWellFormed script) (is_move p q g (natural_of (value_of r.image process))
      (natural_of (value_of r.image group))
      && is_allowed (setpgid_check s p r (value_of r.image process) (value_of r.image group)))
      (answered (change_record s q (in_group g)) p (pos 0)) new
      (λ passed.
      let named = first_of (is_move p q g (natural_of (value_of r.image process))
      (natural_of (value_of r.image group))) _ passed in
      let allowed = second_of (is_move p q g (natural_of (value_of r.image process))
      (natural_of (value_of r.image group))) _ passed in
      IsWellFormed-results script (change_record s q (in_group g)) p (pos 0) None
      (IsWellFormed-move script s r q g w (move_is s p r q g (natural_of (value_of r.image process))
      (natural_of (value_of r.image group)) named allowed))
      (kept_at IsActing s p q (in_group g) acts (λ x a. record { running = a.running; unsaved = a.unsaved }))) found
  moves q g r _ acts found = after_none (IsWellFormed script) new found

  pub keeps-setpgid : (q g : ℤ) → posix_step script s (event.SetPgid p q g) ≡ Some new → IsWellFormed script new
  unfolding posix_step
  keeps-setpgid q g e =
      after_numbers (IsWellFormed script) script s new q g _
      (λ m n found. after_call (IsWellFormed script) script s new p (setpgid_step s p m n)
      (λ r i is c done. moves m n r i (Acts-calling script s p w r i is c) done) found) e
