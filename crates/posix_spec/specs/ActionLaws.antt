-- Actions that are set, suspend and return keep a state well formed.
use Rattle.std.specs.Prelude.{◌≡◌, ◌≢◌, ℕ, ◌-◌, ◌<◌, ◌≤◌, ℤ, pos, negsuc, Bool, true, false, ◌&&◌, nat_eq, nat_le, List}
use Rattle.std.specs.Prelude.{length, Some, None, slice_set}
use Rattle.std.proofs.Common.{refl, sym, ap, subst, ◌∙◌, arith, true≢false, eqb-true, false-eqb, length-set, leb-true}
use Rattle.std.proofs.Common.{get_or-set_same, get_or-set_other}
use Rattle.std.proofs.lemmas.Bool.{cond_both}
use Rattle.std.proofs.lemmas.Option.{unwrap_or-slice_get}
use Rattle.w32_base.specs.declared.event.Errno.{Errno}
use Rattle.w32_base.specs.declared.event.Errno.TheVariants as errno
use Rattle.w32_base.specs.declared.event.NewAction.{NewAction}
use Rattle.w32_base.specs.declared.event.Event.TheVariants as event
use Rattle.w32_base.specs.declared.instr.Action.{Action}
use Rattle.w32_base.specs.declared.instr.Action.TheVariants as action
use Rattle.w32_base.specs.declared.instr.Instr.{Instr}
use Rattle.w32_base.specs.declared.instr.Instr.TheVariants as instr
use Rattle.script_spec.specs.declared.script.Script.{Script}
use Rattle.vm_spec.specs.Image.{value_of}
use Rattle.posix_spec.specs.Numbers.{is_number}
use Rattle.posix_spec.specs.Signals.{is_signal, only, outside}
use Rattle.posix_spec.specs.State.{Numbers, Record, PosixState}
use Rattle.posix_spec.specs.Pending.{action_in, with_action, without_signal}
use Rattle.posix_spec.specs.Records.{settled, change_record}
use Rattle.posix_spec.specs.Checks.{is_allowed, check_that}
use Rattle.posix_spec.specs.Conditions.{answered}
use Rattle.posix_spec.specs.SignalCalls.{is_settable, action_check, is_new_action, takes_away, acting, action_step}
use Rattle.posix_spec.specs.Step.{posix_step}
use Rattle.posix_spec.specs.SignalLaws.{first_of, second_of, IsSignalSet-outside}
use Rattle.posix_spec.specs.WellFormed.{HasSignals, IsWellFormedRecord, IsWellFormed}
use Rattle.posix_spec.specs.KeepLaws.{Keeps, IsWellFormed-change}
use Rattle.posix_spec.specs.CallLaws.{IsActing}
use Rattle.posix_spec.specs.AnswerLaws.{after_none, after_if, kept_at, Acts, IsWellFormed-results}
use Rattle.posix_spec.specs.SentLaws.{Acts-calling, after_call, after_number}

-- ---- action

set_here : (actions : List Action) (s : ℕ) (a : Action) → length actions ≡ 31 → 1 ≤ s → s ≤ 31 → action_in
    (slice_set actions (s - 1) a) s ≡ a
set_here actions s a long low high =
    unwrap_or-slice_get (slice_set actions (s - 1) a) (s - 1) action.Default
    ∙ get_or-set_same actions (s - 1) a action.Default (omega (arith, long))

set_there : (actions : List Action) (s j : ℕ) (a : Action) → 1 ≤ s → 1 ≤ j → s ≢ j → action_in
    (slice_set actions (s - 1) a) j ≡ action_in actions j
set_there actions s j a low lower apart =
    unwrap_or-slice_get (slice_set actions (s - 1) a) (j - 1) action.Default
    ∙ get_or-set_other actions (s - 1) (j - 1) a action.Default (λ same. apart (omega arith))
    ∙ sym (unwrap_or-slice_get actions (j - 1) action.Default)

-- an action that is set leaves a default that must stay
default_stays : (actions : List Action) (s j : ℕ) (a : Action) → length actions ≡ 31 → 1 ≤ s → s ≤ 31 → 1 ≤ j →
    action_in actions j ≡ action.Default →
    (s ≡ j → a ≡ action.Default) → (b : Bool) → nat_eq s j ≡ b → action_in (slice_set actions (s - 1) a)
    j ≡ action.Default
default_stays actions s j a long low high lower is kept true same =
    let e = eqb-true s j same in
    ap (action_in (slice_set actions (s - 1) a)) (sym e) ∙ set_here actions s a long low high ∙ kept e
default_stays actions s j a long low high lower is kept false other =
    set_there actions s j a low lower (false-eqb s j (sym other)) ∙ is

settable_nine : (a : Action) → is_settable 9 a ≡ true → a ≡ action.Default
settable_nine action.Default e = refl
settable_nine action.Ignore e = absurd (true≢false (sym e))
settable_nine (action.Handler target restart) e = absurd (true≢false (sym e))

settable_nineteen : (a : Action) → is_settable 19 a ≡ true → a ≡ action.Default
settable_nineteen action.Default e = refl
settable_nineteen action.Ignore e = absurd (true≢false (sym e))
settable_nineteen (action.Handler target restart) e = absurd (true≢false (sym e))

settable_signal : (s : ℕ) (a : Action) → is_settable s a ≡ true → is_signal s ≡ true
settable_signal s action.Default e = e
settable_signal s action.Ignore e = first_of (is_signal s) _ e
settable_signal s (action.Handler target restart) e = first_of (is_signal s) _ e

module _ (script : Script) (used : Numbers) (p s : ℕ) (a : Action) (r : Record)
    (w : IsWellFormedRecord script used p r) (k : is_settable s a ≡ true) where
  signals_with_action : (pending : ℕ) → pending < 2147483648 → HasSignals pending r.lost r.mask r.saved
      (slice_set r.actions (s - 1) a)
  signals_with_action pending small =
      let range = settable_signal s a k in
      let low = leb-true 1 s (first_of (nat_le 1 s) (nat_le s 31) range) in
      let high = leb-true s 31 (second_of (nat_le 1 s) (nat_le s 31) range) in
      record {
        pending_signals = small;
        lost_signals = w.signals.lost_signals;
        is_mask = w.signals.is_mask;
        saved_mask = w.signals.saved_mask;
        action_count = length-set r.actions (s - 1) a ∙ w.signals.action_count;
        kill_action = default_stays r.actions s 9 a w.signals.action_count low high (omega arith) w.signals.kill_action
            (λ same. settable_nine a (subst (λ n. is_settable n a ≡ true) same k)) (nat_eq s 9) refl;
        stop_action = default_stays r.actions s 19 a w.signals.action_count low high (omega arith) w.signals.stop_action
            (λ same. settable_nineteen a (subst (λ n. is_settable n a ≡ true) same k)) (nat_eq s 19) refl;
      }

  Keeps-with_action : (pending : ℕ) → pending < 2147483648 → Keeps script used p r
      (record (with_action r s a) { pending = pending })
  Keeps-with_action pending small = record {
    sound = record {
      numbers = w.numbers;
      lives = w.lives;
      notes = w.notes;
      signals = signals_with_action pending small;
      runs = w.runs;
      calls = w.calls;
    };
    place = record { parent = refl; group = refl; session = refl; death = refl };
  }

  Keeps-acting : Keeps script used p r (acting s a r)
  Keeps-acting =
      cond_both (takes_away a s) (without_signal (with_action r s a) s) (with_action r s a) (Keeps script used p r)
      (λ _. Keeps-with_action (outside r.pending (only s)) (IsSignalSet-outside r.pending (only s)))
      (λ _. Keeps-with_action r.pending w.signals.pending_signals)

acting_acts : (s : ℕ) (a : Action) (r : Record) → IsActing r → IsActing (settled (acting s a r))
acting_acts s a r h =
    let k : IsActing (acting s a r) = cond_both (takes_away a s) (without_signal (with_action r s a) s)
    (with_action r s a) IsActing
    (λ _. record { running = h.running; unsaved = h.unsaved })
    (λ _. record { running = h.running; unsaved = h.unsaved }) in
    record { running = k.running; unsaved = k.unsaved }

allowed_passes : (b : Bool) (e : Errno) → is_allowed (check_that b e) ≡ true → b ≡ true
allowed_passes true e h = refl
allowed_passes false e h = h

settable_from : (z : ℤ) (s : ℕ) (a : Action) → is_number z s ≡ true → is_allowed (action_check z a) ≡ true →
    is_settable s a ≡ true
settable_from (pos n) s a same allowed = ap (λ k. is_settable k a) (sym (eqb-true n s same)) ∙ allowed_passes
    (is_settable n a) errno.EINVAL allowed
settable_from (negsuc n) s a same allowed = absurd (true≢false (sym same))

module _ (script : Script) (s new : PosixState) (p : ℕ) (w : IsWellFormed script s) where
  action_set : (n : NewAction) (signal : ℕ) (r : Record) (i : Instr) → Acts s p → action_step s p n signal r i ≡ Some
      new → IsWellFormed script new
  action_set n signal r (instr.Action v a) acts found =
      after_if (IsWellFormed script) (is_number (value_of r.image v)
      signal && (is_new_action n a && is_allowed (action_check (value_of r.image v) a)))
      (answered (change_record s p (acting signal a)) p (pos 0)) new
      (λ passed.
      let same = first_of (is_number (value_of r.image v) signal) _ passed in
      let rest = second_of (is_number (value_of r.image v) signal) _ passed in
      let k = settable_from (value_of r.image v) signal a same (second_of (is_new_action n a) _ rest) in
      IsWellFormed-results script (change_record s p (acting signal a)) p (pos 0) None
      (IsWellFormed-change script s p (acting signal a) w
      (λ old is good. Keeps-acting script s.used p signal a old good k))
      (kept_at IsActing s p p (acting signal a) acts (λ r h. acting_acts signal a r h))) found
  action_set n signal r _ acts found = after_none (IsWellFormed script) new found

  pub keeps-action : (signal : ℤ) (n : NewAction) → posix_step script s (event.SetAction p signal n) ≡ Some new →
      IsWellFormed script new
  unfolding posix_step
  keeps-action signal n e =
      after_number (IsWellFormed script) script s new signal _
      (λ m found. after_call (IsWellFormed script) script s new p (action_step s p n m)
      (λ r i is c done. action_set n m r i (Acts-calling script s p w r i is c) done) found) e
