-- A process that begins a session keeps a state well formed.
use Rattle.std.specs.Prelude.{◌≡◌, ◌≢◌, ◌⊎◌, ℕ, pos, Bool, true, false, not, nat_eq, Some, None}
use Rattle.std.proofs.Common.{refl, sym, subst, ◌∙◌, true≢false, eqb-true, inl, inr, eq-eqb}
use Rattle.w32_base.specs.declared.event.Event.TheVariants as event
use Rattle.w32_base.specs.declared.event.Errno.TheVariants as errno
use Rattle.w32_base.specs.declared.instr.Instr.{Instr}
use Rattle.w32_base.specs.declared.instr.Instr.TheVariants as instr
use Rattle.script_spec.specs.declared.script.Script.{Script}
use Rattle.posix_spec.specs.State.{Record, PosixState, record_of}
use Rattle.posix_spec.specs.Records.{with_record, change_record}
use Rattle.posix_spec.specs.Groups.{has_member}
use Rattle.posix_spec.specs.Checks.{is_allowed}
use Rattle.posix_spec.specs.Conditions.{answered}
use Rattle.posix_spec.specs.GroupSteps.{setsid_check, leading_session, setsid_step}
use Rattle.posix_spec.specs.Step.{posix_step}
use Rattle.posix_spec.specs.RecordLaws.{each_with_record, record_of-change_record}
use Rattle.posix_spec.specs.TestLaws.{some_record-from}
use Rattle.posix_spec.specs.WellFormed.{HasSessions, IsWellFormed}
use Rattle.posix_spec.specs.KeepLaws.{IsSound, IsWellFormed-with_record}
use Rattle.posix_spec.specs.CallLaws.{IsActing, negation}
use Rattle.posix_spec.specs.AnswerLaws.{after_none, after_if, kept_at, Acts, IsWellFormed-results}
use Rattle.posix_spec.specs.GroupLaws.{passed_of}
use Rattle.posix_spec.specs.SentLaws.{Acts-calling, after_call}

-- ---- a session is begun

module _ (script : Script) (s : PosixState) (p : ℕ) (old : Record) (w : IsWellFormed script s)
    (is : record_of s p ≡ Some old) (alone : has_member s p ≡ false) where
  not_in_it : (n : ℕ) (r : Record) → record_of s n ≡ Some r → r.group ≢ p
  not_in_it n r there same = true≢false (sym
      (some_record-from s (λ q x. nat_eq x.group p) n r there (eq-eqb r.group p same)) ∙ alone)

  new_session : (n : ℕ) (r : Record) → record_of (with_record s p (leading_session p old)) n ≡ Some r →
      ((n ≡ p) × (r.group ≡ p) × (r.session ≡ p)) ⊎ ((n ≢ p) × (record_of s n ≡ Some r))
  new_session = each_with_record (λ n r. ((n ≡ p) × (r.group ≡ p) × (r.session ≡ p)) ⊎
      ((n ≢ p) × (record_of s n ≡ Some r))) s p (leading_session p old)
      (inl (refl, refl, refl)) (λ n r apart there. inr (apart, there))

  sessions_led : HasSessions (with_record s p (leading_session p old))
  sessions_led = record {
    same = λ m n a b at_m at_n together. elim (new_session m a at_m) [
      | inl here ↦ elim (new_session n b at_n) [
        | inl also ↦ here.2 ∙ sym also.2
        | inr there ↦ absurd (not_in_it n b there.1 (sym together ∙ here.1))
      ]
      | inr there ↦ elim (new_session n b at_n) [
        | inl here ↦ absurd (not_in_it m a there.1 (together ∙ here.1))
        | inr also ↦ w.sessions.same m n a b there.1 also.1 together
      ]
    ];
    leader = λ m a b at_m at_g. elim (new_session m a at_m) [
      | inl here ↦ elim (new_session a.group b at_g) [
        | inl also ↦ here.2 ∙ sym also.2
        | inr there ↦ absurd (there.0 here.1)
      ]
      | inr there ↦ elim (new_session a.group b at_g) [
        | inl here ↦ absurd (not_in_it m a there.1 here.0)
        | inr also ↦ w.sessions.leader m a b there.1 also.1
      ]
    ];
  }

  not_first : p ≢ 2
  not_first same =
      let n = (w.each p old is).numbers in
      not_in_it p old is (n.leader (n.first same ∙ sym same))

  no_terminal : (b : Bool) → nat_eq p 2 ≡ b → false ≡ b
  no_terminal true same = absurd (not_first (eqb-true p 2 same))
  no_terminal false other = refl

  IsSound-leading : IsSound script s.used p (leading_session p old)
  IsSound-leading =
      let good = w.each p old is in
      record {
        numbers = record {
          number = good.numbers.number;
          parent_number = good.numbers.parent_number;
          not_own_parent = good.numbers.not_own_parent;
          group_number = good.numbers.number;
          session_number = good.numbers.number;
          leader = λ _. refl;
          first = λ same. same;
          has_terminal = no_terminal (nat_eq p 2) refl;
        };
        lives = good.lives;
        notes = good.notes;
        signals = good.signals;
        runs = good.runs;
        calls = good.calls;
      }

  IsWellFormed-leading : IsWellFormed script (change_record s p (leading_session p))
  IsWellFormed-leading =
      subst (IsWellFormed script) (sym (record_of-change_record s p (leading_session p) old is))
      (IsWellFormed-with_record script s p old (leading_session p old) w is IsSound-leading sessions_led refl refl)

module _ (script : Script) (s new : PosixState) (p : ℕ) (w : IsWellFormed script s) where
  leads : (r : Record) (i : Instr) → record_of s p ≡ Some r → Acts s p → setsid_step s p r i ≡ Some new → IsWellFormed
      script new
  leads r instr.SetSid is acts found =
      after_if (IsWellFormed script) (is_allowed (setsid_check s p))
      (answered (change_record s p (leading_session p)) p (pos p)) new
      (λ passed. IsWellFormed-results script (change_record s p (leading_session p)) p (pos p) None
      (IsWellFormed-leading script s p r w is (negation (has_member s p)
      (passed_of (not (has_member s p)) errno.EPERM passed)))
      (kept_at IsActing s p p (leading_session p) acts (λ x a. record { running = a.running; unsaved = a.unsaved })))
      found
  leads r _ is acts found = after_none (IsWellFormed script) new found

  pub keeps-setsid : posix_step script s (event.SetSid p) ≡ Some new → IsWellFormed script new
  unfolding posix_step
  keeps-setsid e =
      after_call (IsWellFormed script) script s new p (setsid_step s p)
      (λ r i is c done. leads r i is (Acts-calling script s p w r i is c) done) e
