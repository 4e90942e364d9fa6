-- How many processes a turn makes: the number that the next process gets rises by one at most.
use Rattle.std.proofs.Common.{ℕ, ◌+◌, ◌≤◌, Option, sym, subst, arith}
use Rattle.w32_base.specs.declared.call.Call.{Call}
use Rattle.w32_base.specs.declared.entry.Directive.TheVariants as directive
use Rattle.w32_base.specs.declared.entry.Outcome.{Outcome}
use Rattle.script_spec.specs.declared.script.Script.{Script}
use Rattle.win32_spec.specs.State.{Win32State}
use Rattle.win32_spec.specs.Lookup.{process_of, is_live}
use Rattle.win32_spec.specs.Ready.{is_ready}
use Rattle.win32_spec.specs.Run.{ReadyTurn, StepBy}
use Rattle.win32_spec.specs.WellFormed.{IsWellFormed}
use Rattle.win32_spec.specs.CallEffects.{by_bool}
use Rattle.win32_spec.specs.Effects.{CallEffect, Changes, Opens, Adds, AddsPipe, Makes, Closes, Ends}
use Rattle.win32_spec.specs.MemoryEffects.{HaveRegisters}
use Rattle.win32_spec.specs.StepLaws.{acting}
use Rattle.win32_spec.specs.TerminalEffects.{effect_of_call}

pub next_most_effect : (script : Script) (s : Win32State) (w t : ℕ) (c : Call) (new : Win32State)
    → CallEffect script s w t c new → new.next ≤ s.next + 1
next_most_effect script s w t c new (Changes tame) = omega (arith, tame.next)
next_most_effect script s w t c new (Opens names listed room answer r handled) =
    subst (λ (n : Win32State). n.next ≤ s.next + 1) (sym handled.after) (omega arith)
next_most_effect script s w t c new (Adds x rule only room r added) =
    subst (λ (n : Win32State). n.next ≤ s.next + 1) (sym added.handled.after) (omega arith)
next_most_effect script s w t c new (AddsPipe room r pipe) =
    subst (λ (n : Win32State). n.next ≤ s.next + 1) (sym pipe.after) (omega arith)
next_most_effect script s w t c new (Makes slot program_no program list r listed lowest room made) =
    subst (λ (n : Win32State). n.next ≤ s.next + 1) (sym made.handled.after) (omega arith)
next_most_effect script s w t c new (Closes k after) =
    subst (λ (n : Win32State). n.next ≤ s.next + 1) (sym after) (omega arith)
next_most_effect script s w t c new (Ends u code alive after) =
    subst (λ (n : Win32State). n.next ≤ s.next + 1) (sym after) (omega arith)

-- of the turn of a thread that is ready
pub next_most_turn : (script : Script) (s : Win32State) (slot t : ℕ) (called : Option Call) (came : Outcome)
    (new : Win32State)
    → HaveRegisters script → IsWellFormed script s → ReadyTurn script s slot t called came new
    → new.next ≤ s.next + 1
next_most_turn script s slot t called came new registers h turn =
    let w : ℕ = turn.process.number in
    let at = acting script s slot t turn.process turn.thread h.formed turn.posted.thread in
    let effect = effect_of_call script s w t turn.thread.posted turn.reply turn.mid registers h.formed at.live at.few
    turn.posted.step in
    let most : turn.mid.next ≤ s.next + 1 = next_most_effect script s w t turn.thread.posted turn.mid effect in
    by_bool (is_live (process_of turn.mid.processes w))
    (λ live acts. subst (λ (n : Win32State). n.next ≤ s.next + 1) (sym acts.after) most)
    (λ dead e. subst (λ (n : Win32State). n.next ≤ s.next + 1) (sym e) most) turn.goes_on

-- of every turn
pub next_most : (script : Script) (s : Win32State) (slot t : ℕ) (called : Option Call) (came : Outcome)
    (new : Win32State)
    → HaveRegisters script → IsWellFormed script s → StepBy script s (directive.Turn slot t) called came new
    → new.next ≤ s.next + 1
next_most script s slot t called came new registers h step =
    by_bool (is_ready s slot t) (λ r turn. next_most_turn script s slot t called came new registers h turn)
    (λ r idle. subst (λ (n : Win32State). n.next ≤ s.next + 1) (sym idle.2) (omega arith)) step
