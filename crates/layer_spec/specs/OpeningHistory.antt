-- A history begins wherever both machines open: rows and images show the POSIX state there.
use Rattle.std.specs.Prelude.{◌≡◌, ℕ, [], None}
use Rattle.std.proofs.Common.{sym, subst}
use Rattle.w32_base.specs.declared.call.Call.{Call}
use Rattle.w32_base.specs.declared.call.Reply.{Reply}
use Rattle.w32_base.specs.declared.own.Own.{Own}
use Rattle.w32_base.specs.declared.part.After.{After}
use Rattle.w32_base.specs.declared.setup.Setup.{Setup}
use Rattle.script_spec.specs.declared.script.Script.{Script}
use Rattle.script_spec.specs.Validity.{IsValid}
use Rattle.win32_spec.specs.Driven.{IsDrivenOpening}
use Rattle.posix_spec.specs.Opening.{opening_of}
use Rattle.layer_spec.specs.Decodes.{Decodes}
use Rattle.layer_spec.specs.Moment.{Moment}
use Rattle.layer_spec.specs.History.{driven_at, IsHistory}
use Rattle.layer_spec.specs.OpeningLaws.{decodes_at_opening}

module _ {A : Type 0} (posted_of : A → Call) (goes : A → Own → Setup → Reply → A → Own → After → Type 0)
    (opening : A → Type 0) (slot_of thread_of : A → ℕ) where
  pub opening_is_history : (script : Script) (now : Moment A) → IsValid script
      → IsDrivenOpening posted_of goes opening slot_of thread_of script (driven_at now None)
      → now.posix ≡ opening_of script → IsHistory posted_of goes opening slot_of thread_of script [] now
  opening_is_history script now valid driven opened = record {
    driven = driven;
    posix = opened;
    decodes = subst (λ p. Decodes script now.win32 p) (sym opened)
        (decodes_at_opening script now.win32 valid driven.opens);
  }
