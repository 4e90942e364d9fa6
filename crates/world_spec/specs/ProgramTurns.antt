-- In a turn of a part whose process lives on, the process goes on to run the program of its image, where the image goes
-- on to name the same one.
use Rattle.std.proofs.Common.{◌≡◌, ℕ, true, List, Option, Some, refl, sym, ap, ◌∙◌}
use Rattle.w32_base.specs.Part.{KeepsLengths}
use Rattle.w32_base.specs.declared.call.Call.{Call}
use Rattle.w32_base.specs.declared.call.Reply.{Reply}
use Rattle.w32_base.specs.declared.entry.Directive.TheVariants as directive
use Rattle.w32_base.specs.declared.entry.Outcome.TheVariants as outcome
use Rattle.w32_base.specs.declared.event.Event.{Event}
use Rattle.w32_base.specs.declared.own.Own.{Own}
use Rattle.w32_base.specs.declared.part.After.{After}
use Rattle.w32_base.specs.declared.setup.Setup.{Setup}
use Rattle.script_spec.specs.declared.script.Script.{Script}
use Rattle.vm_spec.specs.Image.{image_of, program_of}
use Rattle.win32_spec.specs.CallEffects.{by_bool}
use Rattle.win32_spec.specs.FormedLaws.{live_found}
use Rattle.win32_spec.specs.Lookup.{process_of, is_live, memory_by}
use Rattle.win32_spec.specs.MemoryCalls.{program_no_of}
use Rattle.win32_spec.specs.MemoryEffects.{HaveRegisters}
use Rattle.win32_spec.specs.PostedLaws.{alive-step}
use Rattle.win32_spec.specs.Ready.{is_ready}
use Rattle.win32_spec.specs.Run.{Acts, StepBy}
use Rattle.win32_spec.specs.State.{Win32State}
use Rattle.layer_spec.specs.Moment.{Moment, Seen}
use Rattle.layer_spec.specs.Turns.{is_live_process}
use Rattle.world_spec.specs.Owes.{LivesOn, OwnTurn}
use Rattle.world_spec.specs.ProgramLaws.{RunsItsProgram, same-program}
use Rattle.world_spec.specs.Sound.{IsSoundMoment}
use Rattle.world_spec.specs.StepLaws.{match_true, match_false}
use Rattle.world_spec.specs.TurnLaws.{own_lives}

module _ {A P : Type 0} (posted_of : P → Call) (goes : P → Own → Setup → Reply → P → Own → After → Type 0)
    (keeps_lengths : (p q : P) (o n : Own) (s : Setup) (r : Reply) (a : After) → goes p o s r q n a → KeepsLengths o n)
    (script : Script) (registers : HaveRegisters script) (past : List (Seen A)) (now : Moment A) (slot t : ℕ) (part : P)
    (called : Call) (reply : Reply) (given : Option Event) (next : Option P) (new : Win32State)
    (sound : IsSoundMoment script past now)
    (turn : OwnTurn posted_of goes script now.win32 slot t part called reply given next new) where
  abbrev w : ℕ
  w = turn.process.number

  acts : LivesOn posted_of goes script turn.mid w t part reply given next new → Acts turn.mid w t new
  acts on = record {
    own = on.own;
    next = on.posts;
    lengths = keeps_lengths part on.part_after (memory_by turn.mid w) on.own script.setup reply on.answer on.went;
    after = on.after;
  }

  -- The turn is a step of the machine.
  pub turn-steps : StepBy script now.win32 (directive.Turn slot t) (Some called) (outcome.Step reply) new
  turn-steps = match_true _ _ (is_ready now.win32 slot t) turn.ready (record {
    process = turn.process;
    thread = turn.thread;
    reply = reply;
    mid = turn.mid;
    posted = turn.posted;
    carried_out = ap (λ c. Some c) turn.called_is;
    answered = refl;
    goes_on = by_bool (is_live (process_of turn.mid.processes w))
        (λ live on. match_true _ _ (is_live (process_of turn.mid.processes w)) live (acts on))
        (λ dead gone. match_false _ _ (is_live (process_of turn.mid.processes w)) dead gone.0) turn.goes_on;
  })

  pub runs-turn : is_live_process new w ≡ true
      → program_of (image_of (memory_by new w)) ≡ program_of (image_of (memory_by now.win32 w))
      → RunsItsProgram now.win32 w → RunsItsProgram new w
  runs-turn after image runs =
      let before = own_lives posted_of goes script past now slot t part called reply given next new sound turn in
      let p = live_found (process_of now.win32.processes w) before in
      let q = live_found (process_of new.processes w) after in
      let keeps = alive-step script now.win32 (directive.Turn slot t) (Some called) (outcome.Step reply) new registers
      sound.formed turn-steps w p.0 q.0 p.1 q.1 q.2 in
      same-program now.win32 new w (ap program_no_of q.1 ∙ (keeps.program ∙ sym (ap program_no_of p.1))) image runs
