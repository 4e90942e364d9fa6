-- suspend, and how signals act: handlers that begin and return, discards, stops and notices keep a state well formed.
use Rattle.std.specs.Prelude.{◌≡◌, ℕ, ℤ, true, nat_eq, Some}
use Rattle.std.specs.Option.{unwrap_or}
use Rattle.std.proofs.Common.{refl, sym, ap, subst, ◌∙◌, arith, true≢false, eqb-true, le-leb, ltb-false}
use Rattle.w32_base.specs.declared.event.Event.TheVariants as event
use Rattle.w32_base.specs.declared.instr.Instr.{Instr}
use Rattle.w32_base.specs.declared.instr.Instr.TheVariants as instr
use Rattle.script_spec.specs.declared.script.Script.{Script}
use Rattle.vm_spec.specs.Image.{value_of, in_use}
use Rattle.w32_base.specs.declared.instr.Operand.{Operand}
use Rattle.vm_spec.specs.Frames.{has_frame, frame_mask, without_frame}
use Rattle.posix_spec.specs.Signals.{clean_mask}
use Rattle.posix_spec.specs.State.{Numbers, Record, PosixState, record_of}
use Rattle.posix_spec.specs.Records.{change_record}
use Rattle.posix_spec.specs.Conditions.{code_of, is_group_call}
use Rattle.posix_spec.specs.SignalCalls.{named_mask, suspended, suspend_step, returned, return_step}
use Rattle.posix_spec.specs.Step.{posix_step}
use Rattle.posix_spec.specs.RecordLaws.{same_record}
use Rattle.posix_spec.specs.SignalLaws.{IsMask-clean_mask}
use Rattle.posix_spec.specs.ImageLaws.{IsImage-without_frame}
use Rattle.posix_spec.specs.WellFormed.{IsMask, IsWellFormedRecord, IsWellFormed, is_blocking_next, is_suspend_next}
use Rattle.posix_spec.specs.KeepLaws.{IsSound, Keeps, IsWellFormed-change}
use Rattle.posix_spec.specs.CallLaws.{IsCalling, IsActing-calling, IsSound-ended, next_call, running_not_zombie}
use Rattle.posix_spec.specs.AnswerLaws.{after_none, after_some, after_if}
use Rattle.posix_spec.specs.SentLaws.{after_call, after_number}

-- ---- suspend

module _ (script : Script) (used : Numbers) (p m : ℕ) (v : Operand) (r : Record)
    (w : IsWellFormedRecord script used p r)
    (c : IsCalling script r (instr.Suspend v)) (k : IsMask m) where
  Keeps-suspended : Keeps script used p r (suspended m r)
  Keeps-suspended = record {
    sound = record {
      numbers = w.numbers;
      lives = w.lives;
      notes = λ dead. absurd (running_not_zombie r.life c.running dead);
      signals = record {
        pending_signals = w.signals.pending_signals;
        lost_signals = omega arith;
        is_mask = k;
        saved_mask = λ saved is. subst IsMask (ap (λ o. unwrap_or o r.mask) is) w.signals.is_mask;
        action_count = w.signals.action_count;
        kill_action = w.signals.kill_action;
        stop_action = w.signals.stop_action;
      };
      runs = w.runs;
      calls = record {
        may_block = λ _. ap is_blocking_next c.next;
        suspended = λ saved is _. record { is_blocked = refl; is_next = ap is_suspend_next c.next };
        wait_call = w.calls.wait_call;
        group_call = λ call is. absurd (true≢false (sym (ap is_group_call is) ∙ c.outside_group));
      };
    };
    place = record { parent = refl; group = refl; session = refl; death = refl };
  }

-- ---- return

framed : (script : Script) (r : Record) → IsCalling script r instr.Return → has_frame r.image ≡ true
framed script r c =
    let n = next_call (code_of script r.image) r.image instr.Return c.next in
    le-leb 40 (in_use r.image) (ltb-false (in_use r.image) 40 n.carried_out)

module _ (script : Script) (used : Numbers) (p : ℕ) (r : Record) (w : IsWellFormedRecord script used p r)
    (c : IsCalling script r instr.Return) where
  Keeps-returned : Keeps script used p r (returned r)
  Keeps-returned =
      let a = IsActing-calling script used p r instr.Return w c in
      let masked : Record = record r { mask = clean_mask (frame_mask r.image) } in
      let sound : IsSound script used p masked = record {
        numbers = w.numbers;
        lives = w.lives;
        notes = w.notes;
        signals = record {
          pending_signals = w.signals.pending_signals;
          lost_signals = w.signals.lost_signals;
          is_mask = IsMask-clean_mask (frame_mask r.image);
          saved_mask = w.signals.saved_mask;
          action_count = w.signals.action_count;
          kill_action = w.signals.kill_action;
          stop_action = w.signals.stop_action;
        };
        runs = w.runs;
        calls = w.calls;
      } in
      record {
        sound = IsSound-ended script used p masked (without_frame r.image) sound
            (record { running = a.running; unsaved = a.unsaved })
            (IsImage-without_frame script r.image (framed script r c) w.runs);
        place = record { parent = refl; group = refl; session = refl; death = refl };
      }

module _ (script : Script) (s new : PosixState) (p : ℕ) (w : IsWellFormed script s) where
  suspends : (m : ℕ) (r : Record) (i : Instr) → record_of s p ≡ Some r → IsCalling script r i → suspend_step s p m r
      i ≡ Some new → IsWellFormed script new
  suspends m r (instr.Suspend v) is c found =
      after_if (IsWellFormed script) (nat_eq m (named_mask (value_of r.image v))) (change_record s p (suspended m)) new
      (λ same. IsWellFormed-change script s p (suspended m) w
      (λ old there good. Keeps-suspended script s.used p m v old good
      (subst (λ o. IsCalling script o (instr.Suspend v)) (same_record r old (sym is ∙ there)) c)
      (subst IsMask (sym (eqb-true m (named_mask (value_of r.image v)) same)) (IsMask-clean_mask _)))) found
  suspends m r _ is c found = after_none (IsWellFormed script) new found

  pub keeps-suspend : (m : ℤ) → posix_step script s (event.Suspend p m) ≡ Some new → IsWellFormed script new
  unfolding posix_step
  keeps-suspend m e =
      after_number (IsWellFormed script) script s new m _
      (λ n found. after_call (IsWellFormed script) script s new p (suspend_step s p n)
      (λ r i is c done. suspends n r i is c done) found) e

  returns : (r : Record) (i : Instr) → record_of s p ≡ Some r → IsCalling script r i → return_step s p r i ≡ Some
      new → IsWellFormed script new
  returns r instr.Return is c found =
      after_some (IsWellFormed script) (change_record s p returned) new
      (IsWellFormed-change script s p returned w
      (λ old there good. Keeps-returned script s.used p old good
      (subst (λ o. IsCalling script o instr.Return) (same_record r old (sym is ∙ there)) c))) found
  returns r _ is c found = after_none (IsWellFormed script) new found

  pub keeps-return : posix_step script s (event.Return p) ≡ Some new → IsWellFormed script new
  unfolding posix_step
  keeps-return e = after_call (IsWellFormed script) script s new p (return_step s p)
      (λ r i is c done. returns r i is c done) e
