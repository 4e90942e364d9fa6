-- How signals act: handlers that begin, discards, stops and notices keep a state well formed.
use Rattle.std.specs.Prelude.{◌≡◌, ℕ, ◌+◌, ◌-◌, ℤ, Bool, true, false, ◌&&◌, not, nat_eq, nat_le, nat_lt, length}
use Rattle.std.specs.Prelude.{if◌then◌else◌, Some, None, bit_or}
use Rattle.std.proofs.Common.{refl, sym, ap, subst, ◌∙◌, arith, true≢false}
use Rattle.w32_base.specs.declared.event.Delivery.{Delivery}
use Rattle.w32_base.specs.declared.event.Event.TheVariants as event
use Rattle.w32_base.specs.declared.event.Errno.TheVariants as errno
use Rattle.w32_base.specs.declared.instr.Action.{Action}
use Rattle.w32_base.specs.declared.instr.Action.TheVariants as action
use Rattle.script_spec.specs.declared.script.Script.{Script}
use Rattle.vm_spec.specs.Frames.{has_frame_room, with_frame}
use Rattle.posix_spec.specs.Numbers.{error_result}
use Rattle.posix_spec.specs.Signals.{ByDefault, End, Ignore, StopByDefault, Continue, only, outside, child_signal}
use Rattle.posix_spec.specs.Signals.{continue_signal, is_stop_signal, is_ignored_signal, default_of}
use Rattle.posix_spec.specs.State.{Life, Running, Stopped, Zombie, Numbers, Record, PosixState, record_of}
use Rattle.posix_spec.specs.Pending.{is_running, is_handler, action_of, stops, stops_by, ignores, without_signal}
use Rattle.posix_spec.specs.Records.{change_record}
use Rattle.posix_spec.specs.Waits.{death_to_report}
use Rattle.posix_spec.specs.Conditions.{is_group_call}
use Rattle.posix_spec.specs.Sending.{owed_more}
use Rattle.posix_spec.specs.SignalActs.{is_deliverable, is_interrupted, is_delivery, interrupted_image, mask_to_return}
use Rattle.posix_spec.specs.SignalActs.{in_handler, deliver_by, deliver_step, discarded, discard_step, stopped}
use Rattle.posix_spec.specs.SignalActs.{stop_step, notified, notify_step}
use Rattle.posix_spec.specs.DeathSteps.{is_zombie}
use Rattle.posix_spec.specs.Step.{posix_step}
use Rattle.posix_spec.specs.RecordLaws.{same_record}
use Rattle.posix_spec.specs.SignalLaws.{first_of, second_of, IsMask-or, IsMask-only, IsSignalSet-outside}
use Rattle.posix_spec.specs.ImageLaws.{in_use-with_result, IsImage-with_frame, IsImage-with_result}
use Rattle.posix_spec.specs.WellFormed.{IsMask, HasSignals, IsImage, IsWellFormedRecord, IsWellFormed}
use Rattle.posix_spec.specs.KeepLaws.{IsSound, Keeps, IsWellFormed-change}
use Rattle.posix_spec.specs.CallLaws.{IsSound-ended, running_is_live, none_some, negation}
use Rattle.posix_spec.specs.AnswerLaws.{after_none, after_if, after_test, Keeps-generated}
use Rattle.posix_spec.specs.SentLaws.{after_process, after_number, IsWellFormed-owed_more}

stopped_by : ℕ → Life → ℕ
stopped_by other Running = other
stopped_by other (Stopped t) = t
stopped_by other (Zombie v) = other

-- a pending signal goes
module _ (script : Script) (used : Numbers) (p signal : ℕ) (r : Record) (w : IsWellFormedRecord script used p r) where
  signals_without : HasSignals (outside r.pending (only signal)) r.lost r.mask r.saved r.actions
  signals_without = record {
    pending_signals = IsSignalSet-outside r.pending (only signal);
    lost_signals = w.signals.lost_signals;
    is_mask = w.signals.is_mask;
    saved_mask = w.signals.saved_mask;
    action_count = w.signals.action_count;
    kill_action = w.signals.kill_action;
    stop_action = w.signals.stop_action;
  }

  Keeps-discarded : Keeps script used p r (discarded signal r)
  Keeps-discarded = record {
    sound = record {
      numbers = w.numbers;
      lives = w.lives;
      notes = w.notes;
      signals = signals_without;
      runs = w.runs;
      calls = w.calls;
    };
    place = record { parent = refl; group = refl; session = refl; death = refl };
  }

  -- ---- a handler begins

  not_handled : (a : Action) (target : ℕ) (restart : Bool) → a ≡ action.Default → a ≡ action.Handler target restart → ⊥
  not_handled action.Default target restart d h = true≢false (sym (ap is_handler h))
  not_handled action.Ignore target restart d h = true≢false (sym (ap is_handler h))
  not_handled (action.Handler t b) target restart d h = true≢false (ap is_handler d)

  IsMask-handled : (target : ℕ) (restart : Bool) → action_of r signal ≡ action.Handler target restart → IsMask
      (only signal)
  IsMask-handled target restart h =
      IsMask-only signal
      (λ same. not_handled (action_of r signal) target restart (ap (action_of r) same ∙ w.signals.kill_action) h)
      (λ same. not_handled (action_of r signal) target restart (ap (action_of r) same ∙ w.signals.stop_action) h)

  interrupted_is : (b : Bool) → IsImage script (interrupted_image b r.image)
  interrupted_is true = IsImage-with_result script r.image (error_result errno.EINTR) None w.runs
  interrupted_is false = w.runs

  room_stays : (b : Bool) → has_frame_room r.image ≡ true → has_frame_room (interrupted_image b r.image) ≡ true
  room_stays true room = ap (λ n. nat_le (n + 40) (length r.image.stack))
      (in_use-with_result script r.image (error_result errno.EINTR) w.runs.dat) ∙ room
  room_stays false room = room

  Keeps-in_handler : (interrupted : Bool) (target : ℕ) (restart : Bool) → is_running r.life ≡ true → action_of r
      signal ≡ action.Handler target restart →
      has_frame_room r.image ≡ true → Keeps script used p r (in_handler interrupted signal target r)
  Keeps-in_handler interrupted target restart running h room =
      let handling : Record = record (without_signal r signal) { mask = bit_or r.mask (only signal); saved = None } in
      let sound : IsSound script used p handling = record {
        numbers = w.numbers;
        lives = w.lives;
        notes = w.notes;
        signals = record {
          pending_signals = IsSignalSet-outside r.pending (only signal);
          lost_signals = w.signals.lost_signals;
          is_mask = IsMask-or r.mask (only signal) w.signals.is_mask (IsMask-handled target restart h);
          saved_mask = λ m is. absurd (none_some m is);
          action_count = w.signals.action_count;
          kill_action = w.signals.kill_action;
          stop_action = w.signals.stop_action;
        };
        runs = w.runs;
        calls = record {
          may_block = w.calls.may_block;
          suspended = λ m is _. absurd (none_some m is);
          wait_call = w.calls.wait_call;
          group_call = w.calls.group_call;
        };
      } in
      record {
        sound = IsSound-ended script used p handling
            (with_frame (interrupted_image interrupted r.image) (mask_to_return r) target) sound
            (record { running = running; unsaved = refl })
            (IsImage-with_frame script (interrupted_image interrupted r.image) (mask_to_return r) target
            (room_stays interrupted room) (interrupted_is interrupted));
        place = record { parent = refl; group = refl; session = refl; death = refl };
      }

  -- ---- a stop

  running_no_death : (life : Life) → is_running life ≡ true → death_to_report life ≡ None
  running_no_death Running e = refl
  running_no_death (Stopped t) e = refl
  running_no_death (Zombie v) e = absurd (true≢false (sym e))

  Keeps-stopped : is_running r.life ≡ true → is_group_call r.call ≡ false → is_stop_signal signal ≡ true → Keeps
      script used p r (stopped signal r)
  unfolding stopped_by
  Keeps-stopped running outside_group stop = record {
    sound = record {
      numbers = w.numbers;
      lives = record {
        stop = λ t is. subst (λ n. is_stop_signal n ≡ true) (ap (stopped_by signal) is) stop;
        status = λ v is. absurd (true≢false (sym (ap is_zombie is)));
        has_report = refl;
      };
      notes = λ dead. absurd (true≢false (sym dead));
      signals = record {
        pending_signals = IsSignalSet-outside r.pending (only signal);
        lost_signals = omega arith;
        is_mask = w.signals.is_mask;
        saved_mask = w.signals.saved_mask;
        action_count = w.signals.action_count;
        kill_action = w.signals.kill_action;
        stop_action = w.signals.stop_action;
      };
      runs = w.runs;
      calls = record {
        may_block = w.calls.may_block;
        suspended = λ m is _. w.calls.suspended m is (running_is_live r.life running);
        wait_call = w.calls.wait_call;
        group_call = λ call is. absurd (true≢false (sym (ap is_group_call is) ∙ outside_group));
      };
    };
    place = record { parent = refl; group = refl; session = refl; death = sym (running_no_death r.life running) };
  }

  -- ---- a notice

  Keeps-notified : Keeps script used p r (notified r)
  Keeps-notified =
      let fewer : Record = record r { owed = r.owed - 1 } in
      let good : IsWellFormedRecord script used p fewer = record {
        numbers = w.numbers;
        lives = w.lives;
        notes = λ dead. let n = w.notes dead in record {
          no_call = n.no_call;
          not_blocked = n.not_blocked;
          not_due = n.not_due;
          none_lost = n.none_lost;
          none_owed = omega (arith, n.none_owed);
        };
        signals = w.signals;
        goes_first = w.goes_first;
        runs = w.runs;
        calls = w.calls;
      } in
      let k = Keeps-generated script used p child_signal fewer good in
      record {
        sound = k.sound;
        place = record {
          parent = k.place.parent;
          group = k.place.group;
          session = k.place.session;
          death = k.place.death;
        };
      }

stops_default : (a : Action) (d : ByDefault) → stops_by a d ≡ true → d ≡ StopByDefault
stops_default action.Default StopByDefault e = refl
stops_default _ _ e = absurd (true≢false (sym e))

is_stopping : ByDefault → Bool
is_stopping StopByDefault = true
is_stopping End = false
is_stopping Ignore = false
is_stopping Continue = false

other_default : (a b : Bool) → is_stopping (if a then Ignore else if b then Continue else End) ≡ true → ⊥
unfolding is_stopping
other_default true b e = true≢false (sym e)
other_default false true e = true≢false (sym e)
other_default false false e = true≢false (sym e)

stop_by_default : (b : Bool) (rest : ByDefault) → (is_stopping rest ≡ true → ⊥) →
    (if b then StopByDefault else rest) ≡ StopByDefault → b ≡ true
unfolding is_stopping
stop_by_default true rest other e = refl
stop_by_default false rest other e = absurd (other (ap is_stopping e))

stop_signal : (r : Record) (signal : ℕ) → stops r signal ≡ true → is_stop_signal signal ≡ true
stop_signal r signal e =
    stop_by_default (is_stop_signal signal) _ (other_default (is_ignored_signal signal) (nat_eq signal continue_signal))
    (stops_default (action_of r signal) (default_of signal) e)

module _ (script : Script) (s new : PosixState) (p : ℕ) (w : IsWellFormed script s) where
  delivers : (how : Delivery) (signal : ℕ) (r : Record) (a : Action) → record_of s p ≡ Some r → is_running
      r.life ≡ true → action_of r signal ≡ a →
      deliver_by script s p signal how r a ≡ Some new → IsWellFormed script new
  delivers how signal r action.Default is running act found = after_none (IsWellFormed script) new found
  delivers how signal r action.Ignore is running act found = after_none (IsWellFormed script) new found
  delivers how signal r (action.Handler target restart) is running act found =
      after_if (IsWellFormed script) (has_frame_room r.image && is_delivery (is_interrupted script r restart) how)
      (change_record s p (in_handler (is_interrupted script r restart) signal target)) new
      (λ passed. IsWellFormed-change script s p (in_handler (is_interrupted script r restart) signal target) w
      (λ old there good. subst (λ (o : Record). Keeps script s.used p o
      (in_handler (is_interrupted script r restart) signal target o)) (same_record r old (sym is ∙ there))
      (Keeps-in_handler script s.used p signal r (w.each p r is) (is_interrupted script r restart) target restart
      running act
      (first_of (has_frame_room r.image) _ passed)))) found

  pub keeps-deliver : (signal : ℤ) (how : Delivery) → posix_step script s (event.Deliver p signal how) ≡ Some new →
      IsWellFormed script new
  unfolding posix_step
  keeps-deliver signal how e =
      after_number (IsWellFormed script) script s new signal _
      (λ n found. after_process (IsWellFormed script) script s new p (deliver_step script s p how n)
      (λ r is done. after_test (IsWellFormed script) (is_deliverable r n && not (is_group_call r.call))
      (deliver_by script s p n how r (action_of r n)) new
      (λ passed delivered. delivers how n r (action_of r n) is
      (first_of (is_running r.life) _ (first_of (is_deliverable r n) _ passed)) refl delivered) done) found) e

  pub keeps-discard : (signal : ℤ) → posix_step script s (event.Discard p signal) ≡ Some new → IsWellFormed script new
  unfolding posix_step
  keeps-discard signal e =
      after_number (IsWellFormed script) script s new signal _
      (λ n found. after_process (IsWellFormed script) script s new p (discard_step s p n)
      (λ r is done. after_if (IsWellFormed script) (is_deliverable r n && ignores r n)
      (change_record s p (discarded n)) new
      (λ _. IsWellFormed-change script s p (discarded n) w
      (λ old there good. Keeps-discarded script s.used p n old good)) done) found) e

  pub keeps-stop : (signal : ℤ) → posix_step script s (event.Stop p signal) ≡ Some new → IsWellFormed script new
  unfolding posix_step
  keeps-stop signal e =
      after_number (IsWellFormed script) script s new signal _
      (λ n found. after_process (IsWellFormed script) script s new p (stop_step s p n)
      (λ r is done. after_if (IsWellFormed script) (is_deliverable r n && (not (is_group_call r.call) && stops r n))
      (change_record (change_record s p (stopped n)) r.parent owed_more) new
      (λ passed.
      let running = first_of (is_running r.life) _ (first_of (is_deliverable r n) _ passed) in
      let rest = second_of (is_deliverable r n) _ passed in
      let outside_group = negation (is_group_call r.call) (first_of (not (is_group_call r.call)) _ rest) in
      let stop = stop_signal r n (second_of (not (is_group_call r.call)) _ rest) in
      IsWellFormed-owed_more script (change_record s p (stopped n)) r.parent
      (IsWellFormed-change script s p (stopped n) w
      (λ old there good. subst (λ (o : Record). Keeps script s.used p o (stopped n o))
      (same_record r old (sym is ∙ there))
      (Keeps-stopped script s.used p n r (w.each p r is) running outside_group stop)))) done) found) e

  pub keeps-notify : posix_step script s (event.Notify p) ≡ Some new → IsWellFormed script new
  unfolding posix_step
  keeps-notify e =
      after_process (IsWellFormed script) script s new p (notify_step s p)
      (λ r is done. after_if (IsWellFormed script) (nat_lt 0 r.owed) (change_record s p notified) new
      (λ _. IsWellFormed-change script s p notified w (λ old there good. Keeps-notified script s.used p 0 old good))
      done) e
