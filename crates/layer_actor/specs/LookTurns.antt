-- The look gives what it owes: it loads the own main word, and where the process is free, what is next begins, or is
-- answered at once.
use Rattle.std.proofs.Common.{◌≡◌, inl, inr, ℕ, ◌+◌, ℤ, pos, Bool, true, false, if◌then◌else◌, List, Option, Some, None}
use Rattle.std.proofs.Common.{refl, sym, ap, ◌∙◌, subst}
use Rattle.w32_base.specs.declared.call.Call.{Call}
use Rattle.w32_base.specs.declared.call.Reply.{Reply}
use Rattle.w32_base.specs.declared.call.Reply.TheVariants as answer
use Rattle.w32_base.specs.declared.event.Errno.TheVariants as errno
use Rattle.w32_base.specs.declared.event.Event.{Event}
use Rattle.w32_base.specs.declared.event.Event.TheVariants as event
use Rattle.w32_base.specs.declared.event.Field.TheVariants as field
use Rattle.w32_base.specs.declared.instr.Instr.{Instr}
use Rattle.w32_base.specs.declared.instr.Instr.TheVariants as instr
use Rattle.w32_base.specs.declared.instr.Operand.{Operand}
use Rattle.w32_base.specs.declared.own.Own.{Own}
use Rattle.script_spec.specs.declared.script.Script.{Script}
use Rattle.vm_spec.specs.Image.{image_of, with_image, with_result, program_of, value_of}
use Rattle.vm_spec.specs.Step.{Upcoming, LocalInstruction, CallInstruction, ImageFault, upcoming, low_byte}
use Rattle.win32_spec.specs.Call.{CallStep}
use Rattle.win32_spec.specs.Lookup.{memory_by}
use Rattle.win32_spec.specs.MemoryCalls.{program_no_by}
use Rattle.win32_spec.specs.State.{Win32State}
use Rattle.win32_spec.specs.WordCalls.{words_by, word_reply}
use Rattle.posix_spec.specs.Conditions.{answered}
use Rattle.posix_spec.specs.GroupCalls.{killing_signal}
use Rattle.posix_spec.specs.KillSteps.{Target, One, Group, Invalid, target_of}
use Rattle.posix_spec.specs.Numbers.{error_result}
use Rattle.posix_spec.specs.Run.{PosixStep}
use Rattle.posix_spec.specs.State.{record_of}
use Rattle.layer_spec.specs.Decoding.{main_of}
use Rattle.layer_spec.specs.Moment.{Moment, Seen}
use Rattle.layer_spec.specs.Rows.{MainWord, main_place}
use Rattle.layer_spec.specs.Turns.{is_live_process}
use Rattle.layer_spec.specs.Words.{main_at, row_of}
use Rattle.layer_turns.specs.OwnTurns as own_turns
use Rattle.kill_calls.specs.declared.start.KillStart.TheVariants as kill_start
use Rattle.kill_calls.specs.Kill.{kill_begun}
use Rattle.kill_calls.specs.KillStart.{has_row, as_signal, kill_by_target}
use Rattle.child_watch.specs.declared.ending.Ending.TheVariants as ending
use Rattle.world_spec.specs.AnswerLaws.{own-goes-on, own-row-kept, own-unmarked}
use Rattle.world_spec.specs.AnswerLawsTurns.{same_shown, IsOwnEvent, GoesOnAfter, quiet-keeps}
use Rattle.world_spec.specs.AnswerLawsTurns.{answer-goes}
use Rattle.world_spec.specs.Calm.{IsCalm, is_plain_call}
use Rattle.world_spec.specs.CalmSteps.{calm-same}
use Rattle.world_spec.specs.LoadLaws.{loaded-word}
use Rattle.world_spec.specs.Notes.{IsBetweenCalls, IsAtNext}
use Rattle.world_spec.specs.OwnChanges.{own-calm}
use Rattle.world_spec.specs.Owes.{LivesOn, OwnTurn, KeepsTurn}
use Rattle.world_spec.specs.ProgramLaws.{acts-program, same-program}
use Rattle.world_spec.specs.Sound.{IsSoundMoment}
use Rattle.world_spec.specs.StepLaws.{some_same}
use Rattle.world_spec.specs.TurnLaws.{own_lives}
use Rattle.layer_actor.specs.declared.actor.MainThread.{MainThread}
use Rattle.layer_actor.specs.declared.doing.Doing.{Doing}
use Rattle.layer_actor.specs.declared.doing.Doing.TheVariants as doing
use Rattle.layer_actor.specs.declared.gets.Asked.TheVariants as asked
use Rattle.layer_actor.specs.declared.identity.Identity.{Identity}
use Rattle.layer_actor.specs.declared.local.Local.TheVariants as local
use Rattle.layer_actor.specs.Doing.{rests, looks, gets, exits, begins, begins_call, begins_kill, code_in, is_free}
use Rattle.layer_actor.specs.Doing.{look_by, look_after}
use Rattle.layer_actor.specs.LookClause.{IsMainOf}
use Rattle.layer_actor.specs.LookFollows.{StandsAt, Follows}
use Rattle.layer_actor.specs.LookFree.{own_row, free-next}
use Rattle.layer_actor.specs.LookSteps.{getpid-steps, pid_event, invalid-steps, absent-steps, kill_refused}
use Rattle.layer_actor.specs.MainGoes.{main_posted, main_thread, does, MainGoes}

module _ {A : Type 0} (script : Script) (clause : List (Seen A) → Moment A → ℕ → MainThread → Type 0)
    (follows : (past : List (Seen A)) (after : Moment A) (w : ℕ) (who : Identity) → Follows script clause past after w
    who)
    (past : List (Seen A)) (now : Moment A) (slot : ℕ) (who : Identity) (called : Call) (reply : Reply)
    (given : Option Event) (next : Option MainThread) (new : Win32State) (sound : IsSoundMoment script past now)
    (turn : OwnTurn main_posted MainGoes script now.win32 slot 0 (does who (looks who)) called reply given next new)
    (main : IsMainOf who now.win32 turn.process.number) (between : IsBetweenCalls now turn.process.number who.row) where
  abbrev w : ℕ
  w = turn.process.number

  abbrev Result : Type 0
  Result = KeepsTurn main_posted MainGoes main_thread clause script past now slot 0 w called reply given next new

  abbrev bytes : Own
  bytes = memory_by turn.mid w

  load : (reply ≡ word_reply (words_by now.win32 w 1) (main_place who.row)) × (turn.mid ≡ now.win32)
  load = subst (λ c. CallStep script now.win32 w 0 c reply turn.mid) turn.own_call turn.posted.step

  calm : IsCalm now.win32 turn.mid
  calm = calm-same now.win32 turn.mid load.1

  still : (v : ℕ) → is_live_process now.win32 v ≡ true → is_live_process turn.mid v ≡ true
  still v live = ap (λ s. is_live_process s v) load.1 ∙ live

  plain : is_plain_call called ≡ true
  plain = ap is_plain_call (turn.called_is ∙ turn.own_call)

  live : is_live_process now.win32 w ≡ true
  live = own_lives main_posted MainGoes script past now slot 0 (does who (looks who)) called reply given next new sound
      turn

  on : LivesOn main_posted MainGoes script turn.mid w 0 (does who (looks who)) reply given next new
  on = own-goes-on main_posted MainGoes script past now slot (does who (looks who)) called reply given next new sound
      turn
      (own-calm w now.win32 turn.mid calm still)

  same_bytes : bytes ≡ memory_by now.win32 w
  same_bytes = ap (λ s. memory_by s w) load.1

  abbrev Quiet : Moment A → Type 0
  Quiet after = GoesOnAfter main_posted MainGoes main_thread clause script past now slot (does who (looks who)) called
      reply
      given next new sound turn calm still plain on after

  -- the look goes by this turn
  abbrev GoesBy : own_turns.OwnTurn Doing → Type 0
  GoesBy t = look_after script.setup who bytes reply ≡ t

  by_quiet : (d : Doing) → ((later : List (Seen A)) (after : Moment A) → Quiet after → memory_by after.win32 w ≡ bytes
      → clause later after w (does who d)) → GoesBy (own_turns.goes_to d bytes) → Result
  by_quiet d stands e =
      let own : on.own ≡ bytes = on.went.own ∙ ap (λ t. t.own) e in
      quiet-keeps main_posted MainGoes main_thread clause script past now slot (does who (looks who)) called reply given
      next
      new sound turn calm still plain (does who d) on
      (record {
        part = on.went.part ∙ ap (λ t. does who t.part) e;
        own = own;
        event = on.went.event ∙ ap (λ t. t.event) e;
      })
      (λ q changed answer went. same_shown bytes changed (went.own ∙ ap (λ t. t.own) e))
      (λ later after so. stands later after so (so.bytes ∙ own))

  by_rest : GoesBy (own_turns.goes_to rests bytes) → Result
  by_rest = by_quiet rests (λ later after so same. (follows later after w who).rested)

  -- what is next now is next after it
  stands_after : (u : Upcoming) → (at : IsAtNext script now w who.row u) → at.noted.image ≡ image_of bytes
      → (after : Moment A) → Quiet after → memory_by after.win32 w ≡ bytes → StandsAt script after w who u
  stands_after u at image after so same = record {
    main = record {
      image = main.image;
      runs = same-program now.win32 after.win32 w
          (ap (λ s. program_no_by s w) (so.win32 ∙ on.after)
          ∙ (acts-program turn.mid w 0 on.own on.posts (still w live) ∙ ap (λ s. program_no_by s w) load.1))
          (ap (λ o. program_of (image_of o)) (same ∙ same_bytes)) main.runs;
    };
    at = record {
      own = own-row-kept now.win32 after.win32 w who.row so.change at.own;
      noted = at.noted;
      found = ap (λ p. record_of p (who.row + 1)) so.posix ∙ at.found;
      call = at.call;
      blocked = at.blocked;
      runs = at.runs;
      not_due = at.not_due;
      next_is = at.next_is;
      unmarked = own-unmarked now.win32 after.win32 w who.row so.change at.unmarked;
    };
    image = image ∙ sym (ap image_of same);
  }

  -- a part begins at what is next
  by_begin : (u : Upcoming) → (at : IsAtNext script now w who.row u) → at.noted.image ≡ image_of bytes → (d : Doing)
      → ((later : List (Seen A)) (after : Moment A) → StandsAt script after w who u → memory_by after.win32 w ≡ bytes
      → clause later after w (does who d)) → GoesBy (own_turns.goes_to d bytes) → Result
  by_begin u at image d stands =
      by_quiet d (λ later after so same. stands later after (stands_after u at image after so same) same)

  -- a call is answered at once
  by_answer : (r0 : ℤ) (told : Event) → PosixStep script now.posix told (answered now.posix (who.row + 1) r0)
      → IsOwnEvent script (who.row + 1) told → GoesBy (own_turns.answers rests (looks who) bytes r0 told) → Result
  by_answer r0 told stepped fits e = by_room (own_turns.can_take bytes) e
    where
      by_room : (b : Bool) → GoesBy (if b then record {
        part = looks who;
        own = with_image bytes (with_result (image_of bytes) r0 None);
        event = Some told;
      } else own_turns.goes_to rests bytes) → Result
      by_room false f = by_rest f
      by_room true f =
          answer-goes main_posted MainGoes main_thread clause script past now slot (does who (looks who)) called reply
          given
          next new sound turn calm still plain who.row between.own between.unmarked between.noted between.found
          (does who (looks who)) r0 told on
          (record {
            part = on.went.part ∙ ap (λ t. does who t.part) f;
            own = on.went.own ∙ ap (λ t. t.own) f;
            event = on.went.event ∙ ap (λ t. t.event) f;
          }) stepped fits
          (λ later after calls. (follows later after w who).looking main.image calls)

  by_target : (target signal : Operand) → (at : IsAtNext script now w who.row (CallInstruction (instr.Kill target
      signal)))
      → at.noted.image ≡ image_of bytes
      → (s : Option ℕ) → killing_signal (value_of (image_of bytes) signal) ≡ s
      → (t : Target) → target_of (value_of (image_of bytes) target) ≡ t
      → GoesBy (begins_kill who bytes (value_of (image_of bytes) target) (value_of (image_of bytes) signal)
      (kill_by_target script.setup.limits.rows (who.row + 1) s t)) → Result
  by_target target signal at image None s_is t t_is e =
      by_answer (error_result errno.EINVAL) _
      (invalid-steps script now w who.row target signal at (image_of bytes) image (inl s_is))
      (kill_refused script (who.row + 1) _ _ errno.EINVAL) e
  by_target target signal at image (Some n) s_is Invalid t_is e =
      by_answer (error_result errno.EINVAL) _
      (invalid-steps script now w who.row target signal at (image_of bytes) image (inr t_is))
      (kill_refused script (who.row + 1) _ _ errno.EINVAL) e
  by_target target signal at image (Some n) s_is Group t_is e = by_rest e
  by_target target signal at image (Some n) s_is (One q) t_is e =
      by_has (has_row script.setup.limits.rows q) refl e
    where
      by_has : (b : Bool) → has_row script.setup.limits.rows q ≡ b
          → GoesBy (begins_kill who bytes (value_of (image_of bytes) target) (value_of (image_of bytes) signal)
          (if b then kill_start.One (kill_begun (who.row + 1) (row_of q) (as_signal n)) else kill_start.Refused
          errno.ESRCH))
          → Result
      by_has true has f =
          by_begin (CallInstruction (instr.Kill target signal)) at image
          (doing.Kill (kill_begun (who.row + 1) (row_of q) (as_signal n)))
          (λ later after stands same. (follows later after w who).killing target signal q n stands
          (ap (λ o. killing_signal (value_of (image_of o) signal)) same ∙ s_is)
          (ap (λ o. target_of (value_of (image_of o) target)) same ∙ t_is) has) f
      by_has false has f =
          by_answer (error_result errno.ESRCH) _
          (absent-steps script past now w who.row target signal sound at (image_of bytes) image q n s_is t_is has)
          (kill_refused script (who.row + 1) _ _ errno.ESRCH) f

  by_call : (i : Instr) → (at : IsAtNext script now w who.row (CallInstruction i)) → at.noted.image ≡ image_of bytes
      → GoesBy (begins_call script.setup.limits.rows who bytes i) → Result
  by_call instr.GetPid at image e =
      by_answer (pos (who.row + 1)) (event.Get (who.row + 1) field.Pid (pos (who.row + 1)))
      (getpid-steps script now w who.row at) (pid_event script (who.row + 1)) e
  by_call instr.GetPpid at image e =
      by_begin (CallInstruction instr.GetPpid) at image (gets who asked.Parent)
      (λ later after stands same. (follows later after w who).parent stands) e
  by_call instr.GetPgid at image e =
      by_begin (CallInstruction instr.GetPgid) at image (gets who asked.Group)
      (λ later after stands same. (follows later after w who).group stands) e
  by_call instr.GetSid at image e =
      by_begin (CallInstruction instr.GetSid) at image (gets who asked.Session)
      (λ later after stands same. (follows later after w who).session stands) e
  by_call (instr.Exit v) at image e =
      by_begin (CallInstruction (instr.Exit v)) at image
      (exits who (ending.Exit (low_byte (value_of (image_of bytes) v))))
      (λ later after stands same. subst (λ o. clause later after w
      (does who (exits who (ending.Exit (low_byte (value_of (image_of o) v)))))) same
      ((follows later after w who).exiting v stands)) e
  by_call (instr.Kill target signal) at image e =
      by_target target signal at image (killing_signal (value_of (image_of bytes) signal)) refl
      (target_of (value_of (image_of bytes) target)) refl e
  by_call i at image e = by_rest e

  by_next : (u : Upcoming) → (at : IsAtNext script now w who.row u) → at.noted.image ≡ image_of bytes
      → GoesBy (begins script.setup.limits.rows who bytes u) → Result
  by_next LocalInstruction at image e =
      by_begin LocalInstruction at image (doing.Local (local.Running who.row))
      (λ later after stands same. (follows later after w who).running stands) e
  by_next (CallInstruction i) at image e = by_call i at image e
  by_next ImageFault at image e =
      by_begin ImageFault at image (exits who ending.Fault)
      (λ later after stands same. (follows later after w who).faults
      stands) e

  by_free : (m : MainWord) → m ≡ (own_row script past now w who.row sound between live).main → (b : Bool)
      → is_free bytes m ≡ b
      → GoesBy (if b then begins script.setup.limits.rows who bytes (upcoming (code_in script.setup bytes) (image_of
      bytes))
      else own_turns.goes_to rests bytes) → Result
  by_free m is false free e = by_rest e
  by_free m is true free e =
      let found : is_free (memory_by now.win32 w) (own_row script past now w who.row sound between live).main ≡ true =
      subst (λ o. is_free o (own_row script past now w who.row sound between live).main ≡ true) same_bytes
      (subst (λ x. is_free bytes x ≡ true) is free) in
      let at = free-next script past now w who.row sound between live found in
      let here = subst (λ o. (x : IsAtNext script now w who.row (upcoming (code_in script.setup o) (image_of o)))
      × (x.noted.image ≡ image_of o)) (sym same_bytes) at in
      by_next (upcoming (code_in script.setup bytes) (image_of bytes)) here.0 here.1 e

  by_main : (o : Option MainWord) → o ≡ Some (own_row script past now w who.row sound between live).main
      → GoesBy (look_by script.setup who bytes o) → Result
  by_main None is e = absurd (cc)
  by_main (Some m) is e = by_free m (some_same m _ is) (is_free bytes m) refl e

  by_reply : (r : Reply) → reply ≡ r → Result
  by_reply (answer.Word x) e =
      let word : x ≡ main_at now.win32 who.row =
      loaded-word script now.win32 sound.formed w 1 (main_place who.row) x (sym e ∙ load.0) in
      by_main (main_of x) (ap main_of word ∙ (own_row script past now w who.row sound between live).decodes)
      (ap (look_after script.setup who bytes) e)
  by_reply r e = by_rest (ap (look_after script.setup who bytes) e)

  -- The turn of a look.
  pub look-turn : Result
  look-turn = by_reply reply refl
