-- Each call leaves a well-formed state well formed.
use Rattle.std.proofs.Common.{◌≡◌, inl, inr, ℕ, ◌≤◌, true, Some}
use Rattle.std.proofs.Common.{sym, ap, ◌∙◌, subst}
use Rattle.std.proofs.lemmas.Bool.{cases_eq}
use Rattle.w32_base.specs.declared.call.Call.{Call}
use Rattle.script_spec.specs.declared.script.Script.{Script}
use Rattle.win32_spec.specs.Handles.{handle_of, without_handle, AreRisingFrom}
use Rattle.win32_spec.specs.State.{Process, Win32State}
use Rattle.win32_spec.specs.Lookup.{is_alive, process_of, is_live}
use Rattle.win32_spec.specs.Lookup.{with_handles}
use Rattle.win32_spec.specs.Ends.{swept, with_ended, with_end}
use Rattle.win32_spec.specs.Named.{handles_by}
use Rattle.win32_spec.specs.WellFormed.{IsListed, IsWellFormed}
use Rattle.win32_spec.specs.LookupLaws.{not_none}
use Rattle.win32_spec.specs.HandleLaws.{handle_of-without_same}
use Rattle.win32_spec.specs.HandleLaws.{handle_of-without_other, rising-without}
use Rattle.win32_spec.specs.FormedLaws.{live_found, formed-with_handles}
use Rattle.win32_spec.specs.EndFormedLaws.{formed-with_ended}
use Rattle.win32_spec.specs.SweptLaws.{wellformed-swept}
use Rattle.win32_spec.specs.TameLaws.{wellformed-tame}
use Rattle.win32_spec.specs.Effects.{MayWrite, MayExchange, CallEffect, Changes, Opens, Adds, AddsPipe, Makes, Closes}
use Rattle.win32_spec.specs.Effects.{Ends}
use Rattle.win32_spec.specs.EffectLaws.{wellformed-opened, wellformed-added}
use Rattle.win32_spec.specs.CallerLaws.{caller_rising, caller_naming}
use Rattle.win32_spec.specs.PipedLaws.{wellformed-piped}
use Rattle.win32_spec.specs.NewProcessLaws.{wellformed-made}

module _ (script : Script) (s : Win32State) (w : ℕ) (p : Process) (h : IsWellFormed script s)
    (found : process_of s.processes w ≡ Some p)
    (alive : is_alive p.life ≡ true) where
  own_rising : AreRisingFrom 1 (handles_by s w)
  own_rising = caller_rising script s w p h found alive

  own_naming : (k names : ℕ) → handle_of (handles_by s w) k ≡ Some names → IsListed s.objects names
  own_naming = caller_naming script s w p h found alive

  -- a handle that is closed
  pub wellformed-closed : (k : ℕ) → IsWellFormed script (swept (with_handles s w (without_handle (handles_by s w) k)))
  wellformed-closed k =
      wellformed-swept script (with_handles s w (without_handle (handles_by s w) k))
      (formed-with_handles script s w p (without_handle (handles_by s w) k) h.formed found alive
      (rising-without 1 (handles_by s w) k own_rising)
      (λ i n e. elim (cases_eq i k) [
        | inl m ↦ absurd (not_none (handle_of (without_handle (handles_by s w) k) k) n
            (ap (handle_of (without_handle (handles_by s w) k)) (sym m) ∙ e)
            (handle_of-without_same (handles_by s w) k))
        | inr d ↦ own_naming i n (sym (handle_of-without_other (handles_by s w) k i d) ∙ e)
      ]))

-- the end of a live process
pub wellformed-ended : (script : Script) (s : Win32State) (v code : ℕ) → IsWellFormed script s
    → is_live (process_of s.processes v) ≡ true
    → IsWellFormed script (with_end s v code)
wellformed-ended script s v code h live =
    let p = live_found (process_of s.processes v) live in
    wellformed-swept script (with_ended s v code) (formed-with_ended script s v code p.0 h.formed p.1)

-- every change
pub wellformed-effect : (script : Script) (s : Win32State) (w t : ℕ) (c : Call) (new : Win32State)
    → IsWellFormed script s
    → is_live (process_of s.processes w) ≡ true → t ≤ 2 → CallEffect script s w t c new → IsWellFormed script new
wellformed-effect script s w t c new h live few (Changes tame) =
    wellformed-tame script (MayWrite s w c) (MayExchange c) ⊥ w t s new h tame live few
wellformed-effect script s w t c new h live few (Opens names listed room answer r handled) =
    let p = live_found (process_of s.processes w) live in
    subst (IsWellFormed script) (sym handled.after)
    (wellformed-opened script s w p.0 h p.1 p.2 room handled.handle handled.lowest names listed)
wellformed-effect script s w t c new h live few (Adds x rule only room r added) =
    let p = live_found (process_of s.processes w) live in
    subst (IsWellFormed script) (sym added.handled.after)
    (wellformed-added script s w p.0 h p.1 p.2 room added.handled.handle added.handled.lowest added.number x
    added.fresh rule only)
wellformed-effect script s w t c new h live few (AddsPipe room r pipe) =
    let p = live_found (process_of s.processes w) live in wellformed-piped script s w p.0 h p.1 p.2 room r new pipe
wellformed-effect script s w t c new h live few (Makes slot program_no program list r listed lowest room made) =
    let p = live_found (process_of s.processes w) live in
    wellformed-made script s w p.0 h p.1 p.2 slot program_no program list r new listed lowest room made
wellformed-effect script s w t c new h live few (Closes k e) =
    let p = live_found (process_of s.processes w) live in
    subst (IsWellFormed script) (sym e) (wellformed-closed script s w p.0 h p.1 p.2 k)
wellformed-effect script s w t c new h live few (Ends v code alive e) =
    subst (IsWellFormed script) (sym e) (wellformed-ended script s v code h alive)
