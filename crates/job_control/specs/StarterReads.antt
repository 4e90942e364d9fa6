-- The turn in which the starter reads the code of the first process, with its event, gives what it owes.
use Rattle.std.proofs.Common.{◌≡◌, ◌⊎◌, inl, inr, ℕ, ◌+◌, Bool, true, false, ◌||◌, nat_eq, pos}
use Rattle.std.proofs.Common.{List, Option, Some, None, MatchOption, refl, sym, ap, ◌∙◌, subst}
use Rattle.w32_base.specs.declared.call.Call.{Call}
use Rattle.w32_base.specs.declared.call.Call.TheVariants as call
use Rattle.w32_base.specs.declared.call.Reply.{Reply}
use Rattle.w32_base.specs.declared.call.Reply.TheVariants as answer
use Rattle.w32_base.specs.declared.entry.Directive.TheVariants as directive
use Rattle.w32_base.specs.declared.entry.Outcome.TheVariants as outcome
use Rattle.w32_base.specs.declared.event.Event.{Event}
use Rattle.w32_base.specs.declared.event.Event.TheVariants as event
use Rattle.script_spec.specs.declared.script.Script.{Script}
use Rattle.win32_spec.specs.Driven.{Parts}
use Rattle.win32_spec.specs.Lookup.{number_of, process_of, memory_by}
use Rattle.win32_spec.specs.LookupLaws.{same}
use Rattle.win32_spec.specs.Named.{object_by, process_named, Gives}
use Rattle.win32_spec.specs.ProcessCalls.{code_reply, life_reply}
use Rattle.win32_spec.specs.Run.{ended_from_outside}
use Rattle.win32_spec.specs.State.{Alive, Ended, Life, Process, Win32State}
use Rattle.posix_spec.specs.DeathSteps.{is_host_code}
use Rattle.posix_spec.specs.Numbers.{is_number, is_optional_number}
use Rattle.posix_spec.specs.Run.{PosixStep}
use Rattle.posix_spec.specs.State.{PosixState, record_of}
use Rattle.posix_spec.specs.Step.{posix_step}
use Rattle.layer_spec.specs.Decodes.{Decodes}
use Rattle.layer_spec.specs.Discipline.{is_create, is_claim}
use Rattle.layer_spec.specs.Moment.{Moment, Seen, HistoryStep, seen_with}
use Rattle.layer_spec.specs.Turns.{is_live_process}
use Rattle.roster.specs.Turns.{Turn, quietly}
use Rattle.world_spec.specs.AlikeLaws.{alike-parents, row-alike, same_are_alike}
use Rattle.world_spec.specs.AnswerLawsTurns.{same_shown}
use Rattle.world_spec.specs.Calm.{IsCalm, is_plain}
use Rattle.world_spec.specs.CalmLaws.{calm_shown, nobody-ends, words-kept, processes-kept, plain_written}
use Rattle.world_spec.specs.CalmSteps.{calm-acts, calm-then}
use Rattle.world_spec.specs.DecodesLaws.{decodes-stays}
use Rattle.world_spec.specs.Owes.{OwnTurn, KeepsTurn}
use Rattle.world_spec.specs.SeenStep.{ShowsStep, turn_step}
use Rattle.world_spec.specs.Sound.{IsSoundMoment}
use Rattle.world_spec.specs.StepLaws.{same_slot}
use Rattle.world_spec.specs.TurnLaws.{live-acts}
use Rattle.job_control.specs.Starter.{first_handle, starter_posted, starter_asked, starter_after}
use Rattle.job_control.specs.StarterBeside.{host-slot}
use Rattle.job_control.specs.StarterClause.{AwaitsFirst, StarterClause}
use Rattle.job_control.specs.StarterTurns.{StarterGoes, starter_thread, on, calm, lives, goes-on, its-step, its-plain}
use Rattle.job_control.specs.declared.starter.Starter.{Starter}
use Rattle.job_control.specs.declared.starter.Starter.TheVariants as starter

-- the POSIX state once the host has read the code
abbrev pub read_by_host : PosixState → PosixState
read_by_host p = record p { host_came = true }

-- rows and images show it as before
read_decodes : (script : Script) (s : Win32State) (p : PosixState) → Decodes script s p
    → Decodes script s (read_by_host p)
read_decodes script s p h = record {
  numbers = h.numbers;
  rows = λ row from. row-alike script s p (read_by_host p) row (same_are_alike (record_of p (row + 1)))
      (λ live n. alike-parents p (read_by_host p) (λ k. same_are_alike (record_of p k)) (row + 1) n) (h.rows row from);
  terminal = h.terminal;
}

-- The reading is a step of the POSIX machine where the code is that of an end from outside, or the kept status.
host_reads : (script : Script) (s : PosixState) (code : ℕ) → s.host_came ≡ false
    → (code ≡ ended_from_outside) ⊎ (s.first_status ≡ Some code)
    → PosixStep script s (event.Host 0 (pos code)) (read_by_host s)
unfolding posix_step
host_reads script s code unread known = rw (unread, is_code known) refl
  where
    is_code : (code ≡ ended_from_outside) ⊎ (s.first_status ≡ Some code) → is_host_code s.first_status (pos code) ≡ true
    is_code (inl outside) = by_test (is_optional_number (pos code) s.first_status)
      where
        by_test : (b : Bool) → (b || nat_eq code 65536) ≡ true
        by_test true = refl
        by_test false = same code 65536 outside
    is_code (inr status) =
        ap (λ o. is_optional_number (pos code) o || is_number (pos code) 65536) status
        ∙ ap (λ b. b || is_number (pos code) 65536) (same code code refl)

module _ {A : Type 0} (script : Script) (past : List (Seen A)) (now : Moment A) (slot : ℕ) (part : Starter)
    (called : Call) (reply : Reply) (given : Option Event) (next : Option Starter) (new : Win32State)
    (sound : IsSoundMoment script past now)
    (turn : OwnTurn starter_posted StarterGoes script now.win32 slot 1 part called reply given next new)
    (is : part ≡ starter.Asking) (h : AwaitsFirst now turn.process.number) where
  abbrev w : ℕ
  w = turn.process.number

  abbrev Result : Type 0
  Result = KeepsTurn starter_posted StarterGoes starter_thread StarterClause script past now slot 1 w called reply given
      next new

  asks : called ≡ call.ExitCode first_handle
  asks = turn.called_is ∙ (turn.own_call ∙ ap starter_posted is)

  named : process_named (object_by now.win32 w first_handle) ≡ Some 2
  named = ap process_named (ap (λ k. object_by now.win32 k first_handle) h.host ∙ h.first)

  step : Gives (code_reply (process_of now.win32.processes 2)) now.win32 reply turn.mid
  step =
      subst (λ o. MatchOption o (Gives answer.BadHandle now.win32 reply turn.mid)
      (λ v. Gives (code_reply (process_of now.win32.processes v)) now.win32 reply turn.mid)) named
      (its-step script past now slot part called reply given next new sound turn (call.ExitCode first_handle)
      (ap starter_posted is))

  plain : is_plain (Some called) ≡ true
  plain = its-plain script past now slot part called reply given next new sound turn (call.ExitCode first_handle)
      (ap starter_posted is) refl

  -- where another reply comes, it rests
  rests : starter_asked reply ≡ quietly starter.Rest → Result
  rests by =
      goes-on script past now slot part called reply given next new sound turn step.1 plain starter.Rest
      (ap (λ p. starter_after p reply) is ∙ by) (λ later parts. tt)

  -- with the code of the process as it ended
  module _ (code : ℕ) (q : Process) (found : process_of now.win32.processes 2 ≡ Some q) (life : q.life ≡ Ended code)
      (told : reply ≡ answer.Code code) where
    abbrev goes_on_by : Turn Starter
    goes_on_by = record { part = starter.Over; event = Some (event.Host 0 (pos code)) }

    by : starter_after part reply ≡ goes_on_by
    by = ap (λ p. starter_after p reply) is ∙ ap starter_asked told

    abbrev after : Parts A → Moment A
    after parts = record { win32 = new; parts = parts; posix = read_by_host now.posix }

    abbrev reads : Parts A → HistoryStep A
    reads parts = turn_step past now (after parts) slot 1 called reply (Some (event.Host 0 (pos code)))

    whole : IsCalm now.win32 new
    whole =
        let goes = on script past now slot part called reply given next new sound turn step.1 plain in
        let kept = same_shown (memory_by turn.mid w) goes.own goes.went.own in
        calm-then now.win32 turn.mid new
        (calm script past now slot part called reply given next new sound turn step.1 plain)
        (subst (IsCalm turn.mid) (sym goes.after) (calm-acts turn.mid w 1 goes.own goes.posts kept.image kept.cyg))

    still : (v : ℕ) → is_live_process now.win32 v ≡ true → is_live_process new v ≡ true
    still v live =
        let goes = on script past now slot part called reply given next new sound turn step.1 plain in
        ap (λ s. is_live_process s v) goes.after
        ∙ live-acts turn.mid w 1 goes.own goes.posts v
        (lives script past now slot part called reply given next new sound turn step.1 plain v live)

    -- the turn is that of the host's thread 1
    in_slot : slot ≡ 0
    in_slot =
        same_slot script now.win32 slot 0 1 sound.formed.formed
        (ap number_of turn.posted.thread.process ∙ ap (λ k. Some k) h.host)
        (host-slot script now.win32 sound.formed sound.hosted.lives)

    shows : (parts : Parts A) → ShowsStep script (reads parts)
    shows parts = record {
      posix = host_reads script now.posix code h.unread (sound.first code q found life);
      discipline = record {
        creates = λ made. absurd (let e : false ≡ true = sym (ap (λ c. is_create (Some c)) asks) ∙ made in cc);
        claims = λ made. absurd (let e : false ≡ true = sym (ap (λ c. is_claim (Some c)) asks) ∙ made in cc);
        claimed = λ exchange. whole.words 0;
        above = λ i far. whole.words i;
        modules = λ v m placed acts. absurd (let e : false ≡ true = ap is_plain (sym placed) ∙ plain in cc);
        lives = λ no_end p r known live image. still _ image;
        keys = λ p b. (
          λ keyed. absurd (let e : Some (event.Host 0 (pos code)) ≡ Some (event.Key p b) = keyed in cc),
          λ takes. absurd (let e : false ≡ true = ap is_plain (sym takes.1.asks) ∙ plain in cc),
        );
      };
      evidence = record {
        carried_out = refl;
        shown = (
          ap (λ k. directive.Turn k 1) in_slot,
          record {
            handle = first_handle;
            code = code;
            asks = ap (λ c. Some c) asks;
            names = ap process_named h.first;
            answered = ap (λ r. outcome.Step r) told;
            told = refl;
            outside = sound.codes.codes 2 code q found life;
          },
        );
      };
      decodes = read_decodes script new now.posix
          (decodes-stays script now.win32 new now.posix (calm_shown now.win32 new whole.processes) whole.words
          whole.terminal sound.decodes);
      facts = record {
        words = words-kept (reads parts) whole.words plain;
        processes = processes-kept (reads parts) whole.processes
            (λ v written. plain_written now.win32 (directive.Turn slot 1) (Some called) v plain written)
            (nobody-ends (reads parts) (λ no_end v live. still v live));
        host = λ live. still 1 live;
      };
    }

    read : Result
    read =
        let goes = on script past now slot part called reply given next new sound turn step.1 plain in
        record {
          told = Some (event.Host 0 (pos code));
          given_is = sym (goes.told ∙ (goes.went.event ∙ ap (λ (t : Turn Starter). t.event) by));
          posix = read_by_host now.posix;
          shows = shows;
          stands = λ parts.
              subst (λ o. MatchOption o (Unit {0}) (λ p. StarterClause (seen_with (reads parts)) (after parts) w p))
              (sym goes.here)
              (subst (StarterClause (seen_with (reads parts)) (after parts) w)
              (sym (goes.went.part ∙ ap (λ (t : Turn Starter). t.part) by)) h.host);
        }

  pub asking-turn : Result
  asking-turn = by_process (process_of now.win32.processes 2) refl
    where
      by_life : (q : Process) → process_of now.win32.processes 2 ≡ Some q → (l : Life) → q.life ≡ l
          → reply ≡ life_reply l → Result
      by_life q found Alive life e = rests (ap starter_asked e)
      by_life q found (Ended code) life e = read code q found life e

      by_process : (o : Option Process) → process_of now.win32.processes 2 ≡ o → Result
      by_process None found = rests (ap starter_asked (step.0 ∙ ap code_reply found))
      by_process (Some q) found =
          by_life q found q.life refl (step.0 ∙ ap code_reply found)
