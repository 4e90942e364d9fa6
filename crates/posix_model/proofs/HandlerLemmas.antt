-- Lemmas of handlers.
use Rattle.std.proofs.Common.{◌≡◌, ℕ, ℤ, suc, ◌+◌, ◌-◌, ◌<◌, ◌≤◌, Bool, true, false, cond, ◌||◌, ◌&&◌, not, nat_le}
use Rattle.std.proofs.Common.{length, Option, Some, None, refl, ◌∙◌, ap, arith}
use Rattle.std.specs.Int.{w32, cast_unsigned}
use Rattle.std.specs.List.{list_any}
use Rattle.w32_base.specs.declared.event.Delivery.{Delivery}
use Rattle.w32_base.specs.declared.event.Errno.TheVariants as errno
use Rattle.w32_base.specs.declared.instr.Action.{Action}
use Rattle.w32_base.specs.declared.instr.Action.TheVariants as action
use Rattle.w32_base.specs.declared.instr.Instr.{Instr}
use Rattle.w32_base.specs.declared.instr.Instr.TheVariants as instr
use Rattle.script_spec.specs.declared.script.Script.{Script}
use Rattle.vm_spec.specs.Frames.{has_frame_room}
use Rattle.vm_spec.specs.Image.{Image, in_use, place_of, moved_on, with_result}
use Rattle.vm_spec.specs.WordLaws.{length-with_word, word_at-with_word_above}
use Rattle.posix_spec.specs.Conditions.{is_group_call}
use Rattle.posix_spec.specs.Numbers.{for_value, error_result}
use Rattle.posix_spec.specs.Pending.{has_handled, action_of}
use Rattle.posix_spec.specs.Records.{change_record}
use Rattle.posix_spec.specs.SignalActs.{is_deliverable, is_interrupted, is_delivery, interrupted_image, in_handler}
use Rattle.posix_spec.specs.SignalActs.{deliver_by, deliver_step}
use Rattle.posix_spec.specs.SignalCalls.{returned, return_step}
use Rattle.posix_spec.specs.Signals.{signals, signals_from}
use Rattle.posix_spec.specs.State.{Record, PosixState}
use Rattle.posix_model.specs.Handled.{is_handled, is_return}
use Rattle.posix_model.specs.Handlings.{handling_by, handling_of}

module _ (r : Record) (set : ℕ) where
  -- whether one of the signals from s to 31 is in the set, and has a handler
  abbrev pub handled_from : ℕ → Bool
  handled_from s = list_any (λ t. is_handled r set t) (signals_from (32 - s) s)

  pub handled_all : has_handled r set ≡ handled_from 1
  unfolding has_handled signals
  handled_all = refl

  pub handled_step : (s : ℕ) → s < 32 → handled_from s ≡ (is_handled r set s || handled_from (s + 1))
  handled_step s h =
      let more : 32 - s ≡ suc (32 - (s + 1)) = omega arith in
      ap (λ n. list_any (λ t. is_handled r set t) (signals_from n s)) more

  pub handled_here : (s : ℕ) → s < 32 → is_handled r set s ≡ true → handled_from s ≡ true
  handled_here s h e = handled_step s h ∙ ap (λ b. b || handled_from (s + 1)) e

  pub handled_later : (s : ℕ) → s < 32 → is_handled r set s ≡ false → handled_from s ≡ handled_from (s + 1)
  handled_later s h e = handled_step s h ∙ ap (λ b. b || handled_from (s + 1)) e

  pub handled_none : (s : ℕ) → 32 ≤ s → handled_from s ≡ false
  handled_none s h =
      let none : 32 - s ≡ 0 = omega arith in
      ap (λ n. list_any (λ t. is_handled r set t) (signals_from n s)) none

pub return_step-is : (s : PosixState) (p : ℕ) (r : Record) (i : Instr) →
    return_step s p r i ≡ cond (is_return i) (Some (change_record s p returned)) None
return_step-is s p r instr.Return = refl
return_step-is s p r _ = refl

pub return_is : (i : Instr) → is_return i ≡ true → i ≡ instr.Return
return_is instr.Return e = refl
return_is _ e = cc

module _ (script : Script) (s : PosixState) (p signal : ℕ) (how : Delivery) (r : Record) where
  -- the state in which a handler has begun
  abbrev pub begun_by : Bool × ℕ → Option PosixState
  begun_by h = Some (change_record s p (in_handler h.0 signal h.1))

  delivered_if : (b interrupted : Bool) (target : ℕ) → (let o : Option (Bool × ℕ) = cond b (Some (interrupted, target))
      None in
      cond b (Some (change_record s p (in_handler interrupted signal target))) None ≡ for_value o begun_by)
  delivered_if true interrupted target = refl
  delivered_if false interrupted target = refl

  deliver_by-is : (a : Action) → deliver_by script s p signal how r a ≡ for_value (handling_by script r how a) begun_by
  deliver_by-is action.Default = refl
  deliver_by-is action.Ignore = refl
  deliver_by-is (action.Handler target restart) = delivered_if _ _ target

  -- the handler of a signal that may act begins, outside a call for a group
  pub deliver_step-is : deliver_step script s p how signal r ≡
      cond (is_deliverable r signal && not (is_group_call r.call))
      (for_value (handling_of script r how signal) begun_by)
      None
  deliver_step-is = ap (λ o. cond (is_deliverable r signal && not (is_group_call r.call)) o None) (deliver_by-is
      (action_of r signal))

  room_if : (b c : Bool) (x h : Bool × ℕ) → cond (b && c) (Some x) None ≡ Some h → b ≡ true
  room_if true c x h e = refl
  room_if false c x h e = cc

  room_by : (a : Action) (h : Bool × ℕ) → handling_by script r how a ≡ Some h → has_frame_room r.image ≡ true
  room_by action.Default h e = cc
  room_by action.Ignore h e = cc
  room_by (action.Handler target restart) h e = room_if (has_frame_room r.image) (is_delivery (is_interrupted script r
      restart) how) (is_interrupted script r restart, target) h e

  -- a handler that begins has room for its frame
  pub handling_room : (h : Bool × ℕ) → handling_of script r how signal ≡ Some h → has_frame_room r.image ≡ true
  handling_room h e = room_by (action_of r signal) h e

-- the result of a call leaves the bytes of stack in use
in_use-with_result : (image : Image) (r0 : ℤ) → length image.dat ≡ 64 → in_use (with_result image r0 None) ≡
    in_use image
in_use-with_result image r0 h =
    let moved = length-with_word image.dat 32 (place_of image + 1) (omega (arith, h)) in
    word_at-with_word_above (moved_on image).dat 0 (cast_unsigned w32 r0) 36 (omega (arith, h, moved)) (omega arith)
    ∙ word_at-with_word_above image.dat 32 (place_of image + 1) 36 (omega (arith, h)) (omega arith)

-- and the room for a frame
pub room-interrupted : (interrupted : Bool) (image : Image) → length image.dat ≡ 64 → has_frame_room image ≡ true →
    has_frame_room (interrupted_image interrupted image) ≡ true
room-interrupted true image h room = ap (λ n. nat_le (n + 40) (length image.stack)) (in_use-with_result image
    (error_result errno.EINTR) h) ∙ room
room-interrupted false image h room = room
