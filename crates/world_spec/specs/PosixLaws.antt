-- The POSIX state stays well formed through every step: a key that an event tells was in the queue, so it is a byte.
use Rattle.std.proofs.Common.{◌≡◌, Option, Some, None, MatchOption, refl, sym, subst}
use Rattle.w32_base.specs.declared.event.Event.{Event}
use Rattle.w32_base.specs.declared.event.Event.TheVariants as event
use Rattle.script_spec.specs.declared.script.Script.{Script}
use Rattle.posix_spec.specs.Ranges.{HasRanges}
use Rattle.posix_spec.specs.Run.{PosixStep}
use Rattle.posix_spec.specs.StepLaws.{HasByteKey, IsWellFormed-step}
use Rattle.posix_spec.specs.WellFormed.{IsWellFormed as IsPosixFormed}
use Rattle.layer_spec.specs.Moment.{HistoryStep}
use Rattle.world_spec.specs.KeyLaws.{key-step}
use Rattle.world_spec.specs.SeenStep.{IsSeenStep}

module _ {A : Type 0} (script : Script) (step : HistoryStep A) (ranges : HasRanges script)
    (seen : IsSeenStep script step) where
  -- the key of an event was in the queue
  byte_key : (e : Event) → step.entry.event ≡ Some e → HasByteKey e
  byte_key (event.Key p b) is =
      let takes = (seen.shows.discipline.keys p b).0 is in
      key-step script step.before.win32 step.entry.directive step.entry.call step.entry.outcome step.after.win32
      takes.1.handle b takes.1.signal takes.1.group takes.1.asks takes.1.answered seen.before.keys seen.win32
  byte_key _ is = tt

  pub posix-formed : IsPosixFormed script step.after.posix
  posix-formed = by_event step.entry.event refl seen.shows.posix
    where
      by_event : (o : Option Event) → step.entry.event ≡ o
          → MatchOption o (step.after.posix ≡ step.before.posix)
          (λ told. PosixStep script step.before.posix told step.after.posix) → IsPosixFormed script step.after.posix
      by_event None is same = subst (IsPosixFormed script) (sym same) seen.before.posix
      by_event (Some e) is moves =
          IsWellFormed-step script ranges step.before.posix e step.after.posix (byte_key e is) seen.before.posix moves
