-- The host's starter gives all that it owes to a world.
use Rattle.std.proofs.Common.{◌≡◌, ℕ, Some, List, [], ◌∷◌, refl, sym, ap, ◌∙◌, subst, arith, Option}
use Rattle.w32_base.specs.declared.call.Call.{Call}
use Rattle.w32_base.specs.declared.call.Call.TheVariants as call
use Rattle.w32_base.specs.declared.call.Reply.{Reply}
use Rattle.w32_base.specs.declared.event.Event.{Event}
use Rattle.script_spec.specs.declared.script.Script.{Script}
use Rattle.win32_spec.specs.Lookup.{number_in}
use Rattle.win32_spec.specs.LookupLaws.{differs, same}
use Rattle.win32_spec.specs.MemoryEffects.{HaveRegisters}
use Rattle.win32_spec.specs.Named.{object_by}
use Rattle.win32_spec.specs.Opening.{OpeningNumbers, IsOpening, opening}
use Rattle.win32_spec.specs.State.{ProcessObject, Win32State}
use Rattle.posix_spec.specs.Opening.{opening_of}
use Rattle.layer_spec.specs.Moment.{Moment, Seen}
use Rattle.roster.specs.Turns.{section_handle, rest_call}
use Rattle.world_spec.specs.Owes.{OwnTurn, KeepsTurn, KeepsClause, OwesWorld}
use Rattle.world_spec.specs.Sound.{IsSoundMoment}
use Rattle.world_spec.specs.StepLaws.{some_same}
use Rattle.world_spec.specs.WaitLaws.{section-waits}
use Rattle.job_control.specs.Starter.{first_handle, starter_posted}
use Rattle.job_control.specs.StarterBeside.{none-comes, starter-outlasts}
use Rattle.job_control.specs.StarterClause.{StarterClause}
use Rattle.job_control.specs.StarterReads.{asking-turn}
use Rattle.job_control.specs.StarterTurns.{StarterGoes, starter_thread, its-step, opening-turn, waiting-turn}
use Rattle.job_control.specs.declared.starter.Starter.{Starter}
use Rattle.job_control.specs.declared.starter.Starter.TheVariants as starter

pub starter-turn : {A : Type 0} → (script : Script) (past : List (Seen A)) (now : Moment A) (slot : ℕ) (part : Starter)
    (called : Call) (reply : Reply) (given : Option Event) (next : Option Starter) (new : Win32State)
    → IsSoundMoment script past now
    → (turn : OwnTurn starter_posted StarterGoes script now.win32 slot 1 part called reply given next new)
    → StarterClause past now turn.process.number part
    → KeepsTurn starter_posted StarterGoes starter_thread StarterClause script past now slot 1 turn.process.number
    called reply given next new
starter-turn script past now slot starter.Opening called reply given next new sound turn h =
    opening-turn script past now slot starter.Opening called reply given next new sound turn refl h
starter-turn script past now slot starter.Waiting called reply given next new sound turn h =
    waiting-turn script past now slot starter.Waiting called reply given next new sound turn refl h
starter-turn script past now slot starter.Asking called reply given next new sound turn h =
    asking-turn script past now slot starter.Asking called reply given next new sound turn refl h.0
starter-turn script past now slot starter.Over called reply given next new sound turn h = absurd (
    section-waits now.win32 turn.process.number 1 section_handle sound.hosted.section.0 reply turn.mid
    (ap (λ k. object_by now.win32 k section_handle) h ∙ sound.hosted.section.1)
    (its-step script past now slot starter.Over called reply given next new sound turn
    (call.WaitAny (section_handle ∷ [])) refl))
starter-turn script past now slot starter.Rest called reply given next new sound turn h = absurd (
    its-step script past now slot starter.Rest called reply given next new sound turn rest_call refl)

pub starter-keeps : {A : Type 0} → (script : Script) → HaveRegisters script
    → KeepsClause {A = A} starter_posted StarterGoes starter_thread StarterClause script
starter-keeps script registers = record {
  outlasts = λ step seen w part beside before after clause.
      starter-outlasts script registers step seen w beside part clause;
  turns = λ past now slot t part called reply given next new sound spare same.
      subst (λ u. (turn : OwnTurn starter_posted StarterGoes script now.win32 slot u part called reply given next new)
      → StarterClause past now turn.process.number part
      → KeepsTurn starter_posted StarterGoes starter_thread StarterClause script past now slot u turn.process.number
      called reply given next new) same
      (starter-turn script past now slot part called reply given next new sound);
}

-- At the opening it serves the host.
pub starter-begins : {A : Type 0} → (script : Script) (now : Moment A) → IsOpening script now.win32
    → now.posix ≡ opening_of script → (w : ℕ) → number_in now.win32 0 ≡ Some w
    → StarterClause [] now w starter.Opening
starter-begins script now opens posix w number = record {
  host = sym (some_same 1 w (subst (λ s. number_in s 0 ≡ Some w) opens.state number));
  first = subst (λ s. object_by s 1 first_handle ≡ Some (ProcessObject 2)) (sym opens.state) (on_first opens.numbers);
  given = omega (arith, ap (λ (s : Win32State). s.next) opens.state);
  unread = ap (λ p. p.host_came) posix;
}
  where
    on_first : (n : OpeningNumbers) → object_by (opening n opens.program opens.placed) 1 first_handle
        ≡ Some (ProcessObject 2)
    on_first n = rw (
      n.process_even,
      differs n.section n.process (λ e. omega (arith, n.mutex_above, n.terminal_above, n.process_above, e)),
      differs n.mutex n.process (λ e. omega (arith, n.terminal_above, n.process_above, e)),
      differs n.terminal n.process (λ e. omega (arith, n.process_above, e)),
      same n.process n.process refl,
    ) refl

-- A starter at its start, in the host's slot.
abbrev pub IsStarterOpening : Starter → Type 0
IsStarterOpening p = p ≡ starter.Opening

abbrev pub starter_slot : Starter → ℕ
starter_slot p = 0

-- So it gives all that a part owes that serves its thread from the first call on: nobody comes into the host's slot.
pub starter-owes : (script : Script) → HaveRegisters script
    → OwesWorld {A = Starter} starter_posted StarterGoes IsStarterOpening starter_slot starter_thread StarterClause
    script
starter-owes script registers = record {
  keeps = starter-keeps script registers;
  begins = λ now opens posix slot t w part number opened.
      subst (StarterClause [] now w) (sym opened.opened)
      (starter-begins script now opens posix w (ap (number_in now.win32) opened.its_slot ∙ number));
  opens = λ step seen slot t w part dead number opened.
      absurd (none-comes script registers step seen w dead (ap (number_in step.after.win32) opened.its_slot ∙ number));
}
