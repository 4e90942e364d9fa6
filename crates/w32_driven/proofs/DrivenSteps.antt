-- What a turn came to is the step of its directive.
use Rattle.std.proofs.Common.{◌≡◌, ℕ, true, false, None, refl, sym, subst}
use Rattle.w32_base.specs.declared.call.Call.{Call}
use Rattle.w32_base.specs.declared.call.Reply.{Reply}
use Rattle.w32_base.specs.declared.entry.Directive.TheVariants as directive
use Rattle.w32_base.specs.declared.entry.Outcome.TheVariants as outcome
use Rattle.w32_base.specs.declared.own.Own.{Own}
use Rattle.w32_base.specs.declared.part.After.{After}
use Rattle.w32_base.specs.declared.setup.Setup.{Setup}
use Rattle.script_spec.specs.declared.script.Script.{Script}
use Rattle.win32_spec.specs.Ready.{is_ready}
use Rattle.win32_spec.specs.Driven.{DrivenState, DrivenBy}
use Rattle.win32_spec.specs.Driven as driven
use Rattle.w32_driven.specs.declared.driven.DrivenTurn.{DrivenTurn}
use Rattle.w32_driven.specs.declared.driven.DrivenTurn.TheVariants.{Idle, Done}
use Rattle.w32_driven.specs.DrivenTurns.{called_by, came_by, event_by, DoneBy}

module _ {P : Type 0} (posted_of : P → Call) (goes : P → Own → Setup → Reply → P → Own → After → Type 0)
    (opening : P → Type 0) (slot_of thread_of_part : P → ℕ) (script : Script) (d new : DrivenState P) (slot t : ℕ) where
  pub done-step : (turned : DrivenTurn) → is_ready d.win32 slot t ≡ true → new.last ≡ event_by turned
      → DoneBy posted_of goes opening slot_of thread_of_part script d.win32 d.parts slot t turned new.win32 new.parts
      → DrivenBy posted_of goes opening slot_of thread_of_part script d (directive.Turn slot t) (called_by turned)
      (came_by turned) new
  done-step Idle ready last did = absurd did
  done-step (Done call reply event) ready last did =
      rw ready (
        call,
        reply,
        refl,
        refl,
        subst (λ e. driven.DrivenTurn posted_of goes opening slot_of thread_of_part script d.win32 d.parts slot t call
            reply e new.win32 new.parts) (sym last) did,
      )

  pub idle-step : is_ready d.win32 slot t ≡ false → new.win32 ≡ d.win32 → new.last ≡ None → new.parts ≡ d.parts
      → DrivenBy posted_of goes opening slot_of thread_of_part script d (directive.Turn slot t) None outcome.Idle new
  idle-step idle a b c = rw idle (refl, refl, a, b, c)
