-- A block of local instructions gives what it owes: the machine carries it out on the own image, with the event `run`.
use Rattle.std.proofs.Common.{◌≡◌, ℕ, ◌+◌, pos, List, Option, Some, None, MatchOption}
use Rattle.std.proofs.Common.{refl, sym, ap, ◌∙◌, subst, lt-ltb}
use Rattle.std.specs.Prelude.{slice_get}
use Rattle.w32_base.specs.declared.call.Call.{Call}
use Rattle.w32_base.specs.declared.call.Reply.{Reply}
use Rattle.w32_base.specs.declared.call.Reply.TheVariants as answer
use Rattle.w32_base.specs.declared.event.Event.{Event}
use Rattle.w32_base.specs.declared.event.Event.TheVariants as event
use Rattle.w32_base.specs.declared.instr.Instr.{Instr}
use Rattle.w32_base.specs.declared.own.Own.{Own}
use Rattle.w32_base.specs.declared.setup.Program.{Program}
use Rattle.script_spec.specs.declared.script.Script.{Script}
use Rattle.vm_spec.specs.Block.{block_image, block_length}
use Rattle.vm_spec.specs.BlockLaws.{block_length-pos}
use Rattle.vm_spec.specs.Image.{image_of, with_image, program_of}
use Rattle.vm_spec.specs.Step.{LocalInstruction}
use Rattle.win32_spec.specs.Call.{CallStep}
use Rattle.win32_spec.specs.FormedLaws.{live_found}
use Rattle.win32_spec.specs.Lookup.{process_of, memory_of, memory_by, with_own}
use Rattle.win32_spec.specs.LookupLaws.{process_of-change_same, same}
use Rattle.win32_spec.specs.MemoryCalls as memory
use Rattle.win32_spec.specs.MemoryEffects.{HaveRegisters}
use Rattle.win32_spec.specs.State.{Process, Win32State}
use Rattle.posix_spec.specs.Conditions.{code_at, code_of}
use Rattle.posix_spec.specs.OwnSteps.{with_block, run_step}
use Rattle.posix_spec.specs.Records.{change_record}
use Rattle.posix_spec.specs.RecordLaws.{record_of-change_record}
use Rattle.posix_spec.specs.Run.{PosixStep}
use Rattle.posix_spec.specs.State.{Record, PosixState, record_of}
use Rattle.posix_spec.specs.Step.{posix_step}
use Rattle.layer_spec.specs.Moment.{Moment, Seen, seen_with}
use Rattle.roster.specs.Turns.{rest_call}
use Rattle.world_spec.specs.AnswerLaws.{own-goes-on, own-whole, own-turn, between-after}
use Rattle.world_spec.specs.AnswerLawsSteps.{next-runs, process-steps}
use Rattle.world_spec.specs.AnswerLawsTurns.{IsOwnEvent}
use Rattle.world_spec.specs.Calm.{is_plain_call}
use Rattle.world_spec.specs.Notes.{IsAtNext}
use Rattle.world_spec.specs.OwnChanges.{IsOwnChange, own-runs}
use Rattle.world_spec.specs.OwnChangesRows.{KeepsShownRecord, own-holds}
use Rattle.world_spec.specs.Owes.{LivesOn, OwnTurn, KeepsTurn, KeepsClause}
use Rattle.world_spec.specs.ProgramLaws.{RunsItsProgram}
use Rattle.world_spec.specs.SeenStep.{turn_step}
use Rattle.world_spec.specs.Sound.{IsSoundMoment}
use Rattle.world_spec.specs.TurnLaws.{own_lives}
use Rattle.layer_actor.specs.declared.local.Local.{Local}
use Rattle.layer_actor.specs.declared.local.Local.TheVariants as local
use Rattle.layer_actor.specs.Local.{local_posted, local_after}
use Rattle.layer_actor.specs.LocalClause.{LocalGoes, local_thread, LocalClause, local-outlasts}

-- the instructions of a program, by either name
pub same_code : (o : Option Program) → memory.instructions_of o ≡ code_at o
same_code None = refl
same_code (Some program) = refl

-- a block keeps of the record what words and cygheap show
block_shown : (script : Script) (r : Record) → KeepsShownRecord r (with_block script r)
block_shown script r = record {
  parent = refl;
  group = refl;
  session = refl;
  terminal = refl;
  execd = refl;
  life = refl;
  report = refl;
  pending = refl;
  mask = refl;
  saved = refl;
  actions = refl;
}

run_event : (script : Script) (p n : ℕ) → IsOwnEvent script p (event.Run p (pos n))
run_event script p n =
    record { no_key = λ q b e. absurd (cc); given = refl; shown = λ step stands. stands }

-- the event of the block that is next is a step
block_steps : (script : Script) (s : PosixState) (p : ℕ) (r : Record) → record_of s p ≡ Some r
    → run_step script s p (pos (block_length (code_of script r.image) r.image)) r
    ≡ Some (change_record s p (with_block script))
    → PosixStep script s (event.Run p (pos (block_length (code_of script r.image) r.image)))
    (change_record s p (with_block script))
unfolding posix_step
block_steps script s p r found step =
    process-steps s p r (run_step script s p (pos (block_length (code_of script r.image) r.image))) found ∙ step

module _ {A : Type 0} (script : Script) (past : List (Seen A)) (now : Moment A) (slot row : ℕ) (called : Call)
    (reply : Reply) (given : Option Event) (next : Option Local) (new : Win32State) (sound : IsSoundMoment script past
    now)
    (turn : OwnTurn local_posted LocalGoes script now.win32 slot 0 (local.Running row) called reply given next new)
    (at : IsAtNext script now turn.process.number row LocalInstruction)
    (program : RunsItsProgram now.win32 turn.process.number) where
  abbrev w : ℕ
  w = turn.process.number

  abbrev old : Record
  old = at.noted

  abbrev bytes : Own
  bytes = memory_by now.win32 w

  abbrev code : List Instr
  code = code_of script old.image

  abbrev count : ℕ
  count = block_length code old.image

  abbrev told : Event
  told = event.Run (row + 1) (pos count)

  run : memory.RunStep script now.win32 w reply turn.mid
  run = subst (λ c. CallStep script now.win32 w 0 c reply turn.mid) turn.own_call turn.posted.step

  change : IsOwnChange w now.win32 turn.mid
  change = own-runs script now.win32 w reply turn.mid run

  on : LivesOn local_posted LocalGoes script turn.mid w 0 (local.Running row) reply given next new
  on = own-goes-on local_posted LocalGoes script past now slot (local.Running row) called reply given next new sound
      turn
      change

  its : (q : Process) × (process_of now.win32.processes w ≡ Some q) × (old.image ≡ image_of q.own)
  its =
      let live = own_lives local_posted LocalGoes script past now slot 0 (local.Running row) called reply given next new
      sound turn in
      let q = live_found (process_of now.win32.processes w) live in
      (q.0, q.1, (own-holds script now.win32 now.posix w row old q.0 sound.decodes at.own at.found q.1 q.2).image)

  image_found : old.image ≡ image_of bytes
  image_found = its.2 ∙ sym (ap (λ o. image_of (memory_of o)) its.1)

  -- the machine carries out the block of the record
  block : (reply ≡ answer.Ran count) × (turn.mid ≡ with_own now.win32 w (with_image bytes (block_image code old.image)))
  block =
      let m = subst (λ o. MatchOption o ((reply ≡ answer.Ran 0) × (turn.mid ≡ now.win32))
      (λ n. memory.BlockStep (memory.code_of script n) now.win32 w reply turn.mid)) program run in
      subst (λ i. (reply ≡ answer.Ran (block_length (code_of script i) i))
      × (turn.mid ≡ with_own now.win32 w (with_image bytes (block_image (code_of script i) i)))) (sym image_found)
      (subst (λ c. (reply ≡ answer.Ran (block_length c (image_of bytes)))
      × (turn.mid ≡ with_own now.win32 w (with_image bytes (block_image c (image_of bytes)))))
      (same_code (slice_get script.setup.programs (program_of (image_of bytes)))) m)

  its_turn : (on.part_after ≡ local.Done) × (on.answer.event ≡ Some told)
  its_turn =
      let went = subst (λ r. (on.part_after ≡ (local_after (local.Running row) r).part)
      × (on.answer.event ≡ (local_after (local.Running row) r).event)) block.0 (on.went.part, on.went.event) in
      (went.0, went.1)

  image_after : image_of on.own ≡ block_image code old.image
  image_after =
      ap image_of on.went.own ∙ (ap (λ s. image_of (memory_by s w)) block.1
      ∙ ap (λ o. image_of (memory_of o)) (process_of-change_same w
      (λ q. record q { own = with_image bytes (block_image code old.image) }) (λ q. refl) now.win32.processes its.0
      its.1))

  abbrev posix : PosixState
  posix = change_record now.posix (row + 1) (with_block script)

  may_run : run_step script now.posix (row + 1) (pos count) old ≡ Some posix
  may_run =
      let low = lt-ltb 0 count (block_length-pos code old.image at.next_is) in
      rw (next-runs script now w row at, low, same count count refl) refl

  whole : IsOwnChange w now.win32 new
  whole = own-whole local_posted LocalGoes script past now slot (local.Running row) called reply given next new sound
      turn
      change on (ap (λ o. o.cyg) on.went.own)

  pub local-runs : KeepsTurn local_posted LocalGoes local_thread (LocalClause script row) script past now slot 0 w
      called
      reply given next new
  local-runs =
      let is = record_of-change_record now.posix (row + 1) (with_block script) old at.found in
      record {
        told = Some told;
        given_is = sym (on.told ∙ its_turn.1);
        posix = posix;
        shows = own-turn local_posted LocalGoes script past now slot (local.Running row) called reply given next new
            sound
            turn change on (ap (λ o. o.cyg) on.went.own) row at.own
            (ap is_plain_call (turn.called_is ∙ turn.own_call)) old (with_block script old) at.found
            (block_shown script old) (sym image_after) told posix is
            (block_steps script now.posix (row + 1) old at.found may_run)
            (run_event script (row + 1) count).no_key (λ parts stands. stands);
        stands = λ parts.
            let after : Moment A = record { win32 = new; parts = parts; posix = posix } in
            let later = seen_with (turn_step past now after slot 0 called reply (Some told)) in
            subst (λ o. MatchOption o (Unit {0}) (λ q. LocalClause script row later after w q)) (sym on.here)
            (subst (LocalClause script row later after w) (sym its_turn.0)
            (between-after now after w row (with_block script old) whole at.own at.unmarked is at.call
            at.blocked));
      }

module _ {A : Type 0} (script : Script) (registers : HaveRegisters script) (row : ℕ) where
  module _ (past : List (Seen A)) (now : Moment A) (slot : ℕ) (called : Call) (reply : Reply) (given : Option Event)
      (next : Option Local) (new : Win32State) (sound : IsSoundMoment script past now) where
    abbrev Result : (t w : ℕ) → Type 0
    Result t w = KeepsTurn local_posted LocalGoes local_thread (LocalClause script row) script past now slot t w called
        reply
        given next new

    abbrev Turn : (t : ℕ) → Local → Type 0
    Turn t part = OwnTurn local_posted LocalGoes script now.win32 slot t part called reply given next new

    -- a wait for nothing is never carried out
    resting : (t : ℕ) (part : Local) → local_posted part ≡ rest_call → (turn : Turn t part) → Result t
        turn.process.number
    resting t part rests turn = absurd
        (subst (λ c. CallStep script now.win32 turn.process.number t c reply turn.mid) (turn.own_call ∙ rests)
        turn.posted.step)

    turns : (t : ℕ) (part : Local) → local_thread part ≡ t → (turn : Turn t part)
        → LocalClause script row past now turn.process.number part → Result t turn.process.number
    turns t (local.Running of_row) is turn h =
        subst (λ u. (x : Turn u (local.Running of_row)) → IsAtNext script now x.process.number row LocalInstruction
        → RunsItsProgram now.win32 x.process.number → Result u x.process.number) is
        (subst (λ k. (x : Turn 0 (local.Running k)) → IsAtNext script now x.process.number row LocalInstruction
        → RunsItsProgram now.win32 x.process.number → Result 0 x.process.number) (sym h.0)
        (λ x at runs. local-runs script past now slot row called reply given next new sound x at runs)) turn h.1 h.2
    turns t local.Done is turn h = resting t local.Done refl turn
    turns t local.Rest is turn h = resting t local.Rest refl turn

  -- A block of local instructions owes nothing more.
  pub local-keeps : KeepsClause {A = A} local_posted LocalGoes local_thread (LocalClause script row) script
  local-keeps = record {
    outlasts = local-outlasts script registers row;
    turns = λ past now slot t part called reply given next new sound spare is turn stood.
        turns past now slot called reply given next new sound t part is turn stood;
  }
