-- The calls on masks and actions, and how signals act, keep a state well formed.
use Rattle.std.specs.Prelude.{◌≡◌, ℕ, ℤ, pos, nat_eq, Some, None}
use Rattle.std.proofs.Common.{refl, sym, subst, eqb-true}
use Rattle.w32_base.specs.declared.event.Event.TheVariants as event
use Rattle.w32_base.specs.declared.instr.MaskChange.{MaskChange}
use Rattle.w32_base.specs.declared.instr.MaskChange.TheVariants as change
use Rattle.w32_base.specs.declared.instr.Instr.{Instr}
use Rattle.w32_base.specs.declared.instr.Instr.TheVariants as instr
use Rattle.script_spec.specs.declared.script.Script.{Script}
use Rattle.vm_spec.specs.Image.{value_of}
use Rattle.posix_spec.specs.State.{Numbers, Record, PosixState}
use Rattle.posix_spec.specs.Records.{change_record}
use Rattle.posix_spec.specs.Conditions.{answered}
use Rattle.posix_spec.specs.SignalCalls.{named_mask, mask_after, with_mask, mask_step}
use Rattle.posix_spec.specs.Step.{posix_step}
use Rattle.posix_spec.specs.SignalLaws.{IsMask-or, IsMask-outside, IsMask-clean_mask}
use Rattle.posix_spec.specs.WellFormed.{IsMask, IsWellFormedRecord, IsWellFormed}
use Rattle.posix_spec.specs.KeepLaws.{Keeps, IsWellFormed-change}
use Rattle.posix_spec.specs.CallLaws.{IsActing}
use Rattle.posix_spec.specs.AnswerLaws.{after_none, after_if, kept_at, Acts, IsWellFormed-results}
use Rattle.posix_spec.specs.SentLaws.{Acts-calling, after_call, after_number}

-- ---- mask

IsMask-after : (how : MaskChange) (old bits : ℕ) → IsMask old → IsMask bits → IsMask (mask_after how old bits)
IsMask-after change.Block old bits h k = IsMask-or old bits h k
IsMask-after change.Unblock old bits h k = IsMask-outside old bits h
IsMask-after change.Set old bits h k = k

module _ (script : Script) (used : Numbers) (p m : ℕ) (r : Record) (w : IsWellFormedRecord script used p r)
    (k : IsMask m) where
  Keeps-with_mask : Keeps script used p r (with_mask m r)
  Keeps-with_mask = record {
    sound = record {
      numbers = w.numbers;
      lives = w.lives;
      notes = w.notes;
      signals = record {
        pending_signals = w.signals.pending_signals;
        lost_signals = w.signals.lost_signals;
        is_mask = k;
        saved_mask = w.signals.saved_mask;
        action_count = w.signals.action_count;
        kill_action = w.signals.kill_action;
        stop_action = w.signals.stop_action;
      };
      runs = w.runs;
      calls = w.calls;
    };
    place = record { parent = refl; group = refl; session = refl; death = refl };
  }

module _ (script : Script) (s new : PosixState) (p : ℕ) (w : IsWellFormed script s) where
  IsWellFormed-with_mask : (m : ℕ) → IsMask m → IsWellFormed script (change_record s p (with_mask m))
  IsWellFormed-with_mask m k =
      IsWellFormed-change script s p (with_mask m) w (λ old is good. Keeps-with_mask script s.used p m old good k)

  Acts-with_mask : (m : ℕ) → Acts s p → Acts (change_record s p (with_mask m)) p
  Acts-with_mask m acts = kept_at IsActing s p p (with_mask m) acts
      (λ r a. record { running = a.running; unsaved = a.unsaved })

  masked : (m : ℕ) (r : Record) (i : Instr) → IsMask r.mask → Acts s p → mask_step s p m r i ≡ Some new → IsWellFormed
      script new
  masked m r (instr.Mask how v) h acts found =
      after_if (IsWellFormed script) (nat_eq m (mask_after how r.mask (named_mask (value_of r.image v))))
      (answered (change_record s p (with_mask m)) p (pos r.mask)) new
      (λ same. let k = subst IsMask (sym (eqb-true m (mask_after how r.mask (named_mask (value_of r.image v))) same))
      (IsMask-after how r.mask (named_mask (value_of r.image v)) h (IsMask-clean_mask _)) in
      IsWellFormed-results script (change_record s p (with_mask m)) p (pos r.mask) None (IsWellFormed-with_mask m k)
      (Acts-with_mask m acts)) found
  masked m r _ h acts found = after_none (IsWellFormed script) new found

  pub keeps-mask : (m : ℤ) → posix_step script s (event.Mask p m) ≡ Some new → IsWellFormed script new
  unfolding posix_step
  keeps-mask m e =
      after_number (IsWellFormed script) script s new m _
      (λ n found. after_call (IsWellFormed script) script s new p (mask_step s p n)
      (λ r i is c done. masked n r i (w.each p r is).signals.is_mask (Acts-calling script s p w r i is c) done) found) e
