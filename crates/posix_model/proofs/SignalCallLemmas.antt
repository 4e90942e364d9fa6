-- Lemmas of the calls on a process's mask and actions.
use Rattle.std.proofs.Common.{◌≡◌, ℕ, pos, Bool, true, false, cond, nat_eq, Option, Some, None, refl}
use Rattle.w32_base.specs.declared.event.NewAction.{NewAction}
use Rattle.w32_base.specs.declared.instr.Action.{Action}
use Rattle.w32_base.specs.declared.instr.Instr.{Instr}
use Rattle.w32_base.specs.declared.instr.Instr.TheVariants as instr
use Rattle.posix_spec.specs.Numbers.{for_value}
use Rattle.posix_spec.specs.State.{Record, PosixState}
use Rattle.posix_spec.specs.Records.{change_record}
use Rattle.posix_spec.specs.Conditions.{answered}
use Rattle.posix_spec.specs.SignalCalls.{with_mask, mask_step, suspended, suspend_step, acting, action_step}
use Rattle.posix_model.specs.SignalAsked.{mask_asked, suspend_asked, action_asked}

module _ (s : PosixState) (p m : ℕ) (r : Record) where
  pub mask_is : (i : Instr) → mask_step s p m r i ≡ for_value (mask_asked r i) (λ new. cond (nat_eq m new) (Some
      (answered (change_record s p (with_mask m)) p (pos r.mask))) None)
  mask_is (instr.Mask how v) = refl
  mask_is _ = refl

  pub suspend_is : (i : Instr) → suspend_step s p m r i ≡ for_value (suspend_asked r i) (λ new. cond (nat_eq m new)
      (Some (change_record s p (suspended m))) None)
  suspend_is (instr.Suspend v) = refl
  suspend_is _ = refl

-- the state after this signal has this action
abbrev pub set_to : PosixState → ℕ → ℕ × Action → Option PosixState
set_to s p asked = Some (answered (change_record s p (acting asked.0 asked.1)) p (pos 0))

module _ (s : PosixState) (p : ℕ) (n : NewAction) (signal : ℕ) (r : Record) where
  set_by : (b : Bool) (a : Action) → (let asked : Option (ℕ × Action) = cond b (Some (signal, a)) None in
      cond b (Some (answered (change_record s p (acting signal a)) p (pos 0))) None ≡ for_value asked (set_to s p))
  set_by true a = refl
  set_by false a = refl

  pub action_is : (i : Instr) → action_step s p n signal r i ≡ for_value (action_asked r i signal n) (set_to s p)
  action_is (instr.Action v a) = set_by _ a
  action_is _ = refl
