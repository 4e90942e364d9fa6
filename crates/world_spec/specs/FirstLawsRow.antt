-- Every process that is made has a number from 3 on: only the host and the first process weren't made.
use Rattle.std.proofs.Common.{◌≡◌, ◌⊎◌, inl, inr, ℕ, ◌≤◌, List, Option, Some, None, MatchOption, slice_get, sym, ◌∙◌}
use Rattle.std.proofs.Common.{subst, arith}
use Rattle.w32_base.specs.declared.call.Call.{Call}
use Rattle.w32_base.specs.declared.call.Call.TheVariants as call
use Rattle.w32_base.specs.declared.call.Reply.TheVariants as reply
use Rattle.w32_base.specs.declared.entry.Directive.{Directive}
use Rattle.w32_base.specs.declared.entry.Directive.TheVariants as directive
use Rattle.w32_base.specs.declared.entry.Outcome.{Outcome}
use Rattle.w32_base.specs.declared.entry.Outcome.TheVariants as outcome
use Rattle.w32_base.specs.declared.setup.Program.{Program}
use Rattle.script_spec.specs.declared.script.Script.{Script}
use Rattle.win32_spec.specs.Call.{CallStep}
use Rattle.win32_spec.specs.CallEffects.{by_bool}
use Rattle.win32_spec.specs.Lookup.{AreAllOccupied}
use Rattle.win32_spec.specs.MemoryEffects.{HaveRegisters}
use Rattle.win32_spec.specs.Named.{handles_by, has_absent, is_full, Gives}
use Rattle.win32_spec.specs.ProcessCalls.{CreateStep, MakesIn}
use Rattle.win32_spec.specs.Ready.{is_ready}
use Rattle.win32_spec.specs.Run.{StepBy}
use Rattle.win32_spec.specs.State.{Win32State}
use Rattle.win32_spec.specs.StepFacts.{next-step}
use Rattle.layer_spec.specs.Moment.{HistoryStep, seen_with}
use Rattle.world_spec.specs.Made.{IsMaker}
use Rattle.world_spec.specs.SeenStep.{IsSeenStep}

-- a process that is made gets the next number
made_number : (script : Script) (s : Win32State) (w program_no : ℕ) (list : List ℕ) (h v : ℕ) (new : Win32State)
    → CreateStep script s w program_no list (reply.Made h v) new → v ≡ s.next
made_number script s w program_no list h v new step =
    by_bool (has_absent (handles_by s w) list)
    (λ absent m. absurd (let e : reply.Made h v ≡ reply.BadHandle = m.0 in cc))
    (λ there m. by_program (slice_get script.setup.programs program_no) m) step
  where
    by_program : (o : Option Program)
        → MatchOption o (Gives reply.BadIndex s (reply.Made h v) new) (λ program.
        (AreAllOccupied script.setup.limits.slots s.processes × Gives reply.NoSlot s (reply.Made h v) new)
        ⊎ MakesIn script s w program_no program list (reply.Made h v) new) → v ≡ s.next
    by_program None m = absurd (let e : reply.Made h v ≡ reply.BadIndex = m.0 in cc)
    by_program (Some program) m = elim m [
      | inl occupied ↦ absurd (let e : reply.Made h v ≡ reply.NoSlot = occupied.1.0 in cc)
      | inr makes ↦ by_bool (is_full (handles_by s w) 1)
          (λ full g. absurd (let e : reply.Made h v ≡ reply.TableFull = g.0 in cc))
          (λ room g. let e : reply.Made h v ≡ reply.Made g.handled.handle s.next = g.handled.answered in cc) makes.made
    ]

-- an entry that made a process gave it the next number
entry_made : (script : Script) (s : Win32State) (d : Directive) (called : Option Call) (came : Outcome)
    (new : Win32State) → StepBy script s d called came new → (program_no : ℕ) (list : List ℕ) (h v : ℕ)
    → called ≡ Some (call.Create program_no list) → came ≡ outcome.Step (reply.Made h v) → v ≡ s.next
entry_made script s (directive.Turn slot t) called came new step program_no list h v asks answered =
    by_bool (is_ready s slot t) (λ r turn.
    let posted : turn.thread.posted ≡ call.Create program_no list =
    (let e : Some turn.thread.posted ≡ Some (call.Create program_no list) = sym turn.carried_out ∙ asks in cc) in
    let replied : turn.reply ≡ reply.Made h v =
    (let e : outcome.Step turn.reply ≡ outcome.Step (reply.Made h v) = sym turn.answered ∙ answered in cc) in
    made_number script s turn.process.number program_no list h v turn.mid
    (subst (λ x. CallStep script s turn.process.number t (call.Create program_no list) x turn.mid) replied
    (subst (λ c. CallStep script s turn.process.number t c turn.reply turn.mid) posted turn.posted.step)))
    (λ r idle. absurd (let e : outcome.Idle ≡ outcome.Step (reply.Made h v) = sym idle.1 ∙ answered in cc)) step
entry_made script s (directive.End slot) called came new step program_no list h v asks answered =
    absurd (let e : None ≡ Some (call.Create program_no list) = sym step.0 ∙ asks in cc)
entry_made script s (directive.Key b) called came new step program_no list h v asks answered =
    absurd (let e : None ≡ Some (call.Create program_no list) = sym step.0 ∙ asks in cc)

module _ {A : Type 0} (script : Script) (step : HistoryStep A) (registers : HaveRegisters script)
    (seen : IsSeenStep script step) where
  pub next-after : 3 ≤ step.after.win32.next
  next-after =
      let more = next-step script step.before.win32 step.entry.directive step.entry.call step.entry.outcome
      step.after.win32 registers seen.before.formed seen.win32 in
      omega (arith, seen.before.first_row.next, more)

  pub made-after : (w v : ℕ) → IsMaker (seen_with step) w v → 3 ≤ v
  made-after w v makes = elim makes [
    | inl here ↦
        let is = entry_made script step.before.win32 step.entry.directive step.entry.call step.entry.outcome
        step.after.win32 seen.win32 here.program_no here.list here.handle v here.asks here.answered in
        omega (arith, is, seen.before.first_row.next)
    | inr before ↦ seen.before.first_row.made w v before
  ]
