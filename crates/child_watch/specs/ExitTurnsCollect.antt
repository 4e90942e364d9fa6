-- The turns that collect a child, or the process itself, give what they owe.
use Rattle.std.proofs.Common.{◌≡◌, ◌≢◌, inl, inr, ℕ, ◌+◌, ◌≤◌, Bool, true, false, cond, nat_eq, if◌then◌else◌}
use Rattle.std.proofs.Common.{List}
use Rattle.std.proofs.Common.{Option, Some, None, refl, sym, ap, ◌∙◌, subst, arith}
use Rattle.std.proofs.lemmas.Bool.{cases_eq, cases_lt, eqb-true}
use Rattle.std.proofs.lemmas.Option.{none-some}
use Rattle.w32_base.specs.declared.call.Call.{Call}
use Rattle.w32_base.specs.declared.call.Call.TheVariants as call
use Rattle.w32_base.specs.declared.call.Reply.{Reply}
use Rattle.w32_base.specs.declared.call.Reply.TheVariants as answer
use Rattle.w32_base.specs.declared.event.Event.{Event}
use Rattle.w32_base.specs.declared.event.Event.TheVariants as event
use Rattle.script_spec.specs.declared.script.Script.{Script}
use Rattle.win32_spec.specs.Call.{CallStep}
use Rattle.win32_spec.specs.Driven.{Parts}
use Rattle.win32_spec.specs.Lookup.{process_of, memory_of, memory_by, number_of}
use Rattle.win32_spec.specs.LookupLaws.{same}
use Rattle.win32_spec.specs.State.{Win32State}
use Rattle.w32_base.specs.declared.own.Own.{Own}
use Rattle.posix_spec.specs.RecordLaws.{record_of-without_record}
use Rattle.posix_spec.specs.Records.{without_record}
use Rattle.posix_spec.specs.State.{Record, PosixState, record_of}
use Rattle.layer_spec.specs.Decodes.{Decodes}
use Rattle.layer_spec.specs.Decoding.{main_image}
use Rattle.layer_spec.specs.Discipline.{is_claim}
use Rattle.layer_spec.specs.Moment.{Moment, Seen, seen_with}
use Rattle.layer_spec.specs.Rows.{main_place, is_process_kind}
use Rattle.layer_spec.specs.Transitions.{Collect}
use Rattle.layer_spec.specs.Words.{word_in, claimed_in, row_of, main_at}
use Rattle.roster.specs.Roster.{HoldsRoster}
use Rattle.roster.specs.Turns.{Turn, quietly, all_by_word}
use Rattle.roster.specs.Words.{changed_word, is_process_main, is_process_word, is_live_main, is_live_word}
use Rattle.world_spec.specs.Calm.{is_plain_call}
use Rattle.world_spec.specs.CollectLaws.{IsCollected, collected-word, MayCollect, collect-kept}
use Rattle.world_spec.specs.CollectRows.{collect-step, collect-decodes}
use Rattle.world_spec.specs.ExchangeLaws.{Exchanges, FindsOther, exchange-cases}
use Rattle.world_spec.specs.MutexLaws.{KeepsAll, exchange-holds}
use Rattle.world_spec.specs.Owes.{OwnTurn}
use Rattle.world_spec.specs.SeenStep.{ShowsStep}
use Rattle.world_spec.specs.Sound.{IsSoundMoment}
use Rattle.child_watch.specs.declared.collect.Gather.{Gather}
use Rattle.child_watch.specs.declared.collect.Gather.TheVariants as gather
use Rattle.child_watch.specs.declared.exiting.ExitStep.{ExitStep}
use Rattle.child_watch.specs.declared.exiting.Exiting.{Exiting}
use Rattle.child_watch.specs.Collect.{gather_posted, gather_looked, gather_tried, gather_after}
use Rattle.child_watch.specs.Exiting.{exit_posted, listed_child}
use Rattle.child_watch.specs.ExitClause.{is_ended_main, is_ended_word, IsOrphan, GatherClause}
use Rattle.child_watch.specs.ExitClause.{HoldsDead, ExitStepClause}
use Rattle.child_watch.specs.ExitOrphans.{process_record, orphan-record}
use Rattle.child_watch.specs.ExitTurns.{ExitGoes, ExitResult, exit_entry, exit_moment, exit_to, exit-turn}
use Rattle.child_watch.specs.ExitTurns.{exit-cyg, exit-same, exit-terminal, exit-words, exit-shows, exit-holds}
use Rattle.child_watch.specs.ExitTurns.{row-within}
use Rattle.child_watch.specs.ExitTurnsGather.{wrapped, Wraps, gather-looked, gather-quiet, gathers-looking}
use Rattle.child_watch.specs.ExitTurnsDead.{dead-words}

module _ {A : Type 0} (script : Script) (past : List (Seen A)) (now : Moment A) (slot : ℕ) (part : Exiting)
    (called : Call) (reply : Reply) (given : Option Event) (next : Option Exiting) (new : Win32State)
    (sound : IsSoundMoment script past now)
    (turn : OwnTurn exit_posted ExitGoes script now.win32 slot 0 part called reply given next new)
    (h : HoldsDead past now turn.process.number part.row part.ending) (wrap : Gather → ExitStep)
    (wraps : Wraps A script turn.process.number part.row part.image part.ending
    (memory_by turn.mid turn.process.number) wrap) where
  abbrev w : ℕ
  w = turn.process.number

  abbrev row : ℕ
  row = part.row

  abbrev Result : Type 0
  Result = ExitResult script past now slot part called reply given next new sound turn

  abbrev to : Turn ExitStep
  to = exit_to script past now slot part called reply given next new sound turn

  abbrev seen_now : Parts A → List (Seen A)
  seen_now parts = seen_with
      (exit_entry script past now slot part called reply given next new sound turn None parts now.posix)

  abbrev moment_now : Parts A → Moment A
  moment_now parts = exit_moment script past now slot part called reply given next new sound turn parts now.posix

  module _ (r old n : ℕ) (its_call : turn.thread.posted ≡ gather_posted (gather.Trying r old n))
      (is : to ≡ wrapped wrap (gather_after (gather.Trying r old n) reply)) (orphan : IsOrphan now.win32 r)
      (changes : changed_word Collect old ≡ Some n) where
    step : CallStep script now.win32 w 0 (call.CompareExchange 1 (main_place r) old n) reply turn.mid
    step = subst (λ c. CallStep script now.win32 w 0 c reply turn.mid) its_call turn.posted.step

    holds : HoldsRoster turn.mid w 0
    holds = exchange-holds now.win32 w 1 (main_place r) old n reply turn.mid step w 0 h.holds

    -- another word was found
    lost : FindsOther now.win32 old reply turn.mid → Result
    lost other =
        gather-quiet script past now slot part called reply given next new sound turn h wrap wraps kept holds
        (ap is_plain_call (turn.called_is ∙ its_call)) (gather_after (gather.Trying r old n) reply) is
        (all_by_word (λ t a. reply ≡ a → t.event ≡ None) (quietly gather.Rest) (gather_tried r old) (λ a e. refl)
        (λ x e. ap (λ (t : Turn Gather). t.event) (turns_to x e)) reply refl)
        (all_by_word (λ (t : Turn Gather) a. reply ≡ a → GatherClause new t.part) (quietly gather.Rest)
        (gather_tried r old) (λ a e. tt)
        (λ x e. subst (λ (t : Turn Gather). GatherClause new t.part) (sym (turns_to x e))
        (gather-looked script past now slot part called reply given next new sound turn h wrap wraps r x
        (dead-words script past now slot part called reply given next new sound turn h.died kept) orphan)) reply refl)
      where
        kept : KeepsAll now.win32 turn.mid
        kept = record { words = other.words; rest = other.rest }

        turns_to : (x : ℕ) → reply ≡ answer.Word x → gather_tried r old x ≡ quietly (gather_looked r x)
        turns_to x e = by_found (nat_eq x old) refl
          where
            by_found : (b : Bool) → nat_eq x old ≡ b
                → (if b then record { part = gather.Done; event = Some (event.Collect (r + 1)) }
                else quietly (gather_looked r x)) ≡ quietly (gather_looked r x)
            by_found true f = absurd (other.other (e ∙ ap (λ k. answer.Word k) (eqb-true x old f)))
            by_found false f = refl

    -- The old word was found: the process of the row is gone.
    module _ (got : Exchanges now.win32 (main_place r) old n reply turn.mid) where
      abbrev told : Option Event
      told = Some (event.Collect (r + 1))

      abbrev posix : PosixState
      posix = without_record now.posix (r + 1)

      from : 1 ≤ r
      from = orphan.from

      others : (i : ℕ) → i ≢ main_place r → word_in new i ≡ word_in now.win32 i
      others i d = exit-words script past now slot part called reply given next new sound turn got.rest i
          ∙ got.others i d

      others_main : (x : ℕ) → 1 ≤ x → x ≢ r → main_at new x ≡ main_at now.win32 x
      others_main x low d = others (main_place x) (λ e. d (one x r low from e))
        where
          one : (x y : ℕ) → 1 ≤ x → 1 ≤ y → main_place x ≡ main_place y → x ≡ y
          one x y p q e = omega arith

      changed : changed_word Collect (main_at now.win32 r) ≡ Some (main_at new r)
      changed = ap (changed_word Collect) got.was ∙ (changes ∙ ap (λ k. Some k)
          (sym (exit-words script past now slot part called reply given next new sound turn got.rest (main_place r)
          ∙ got.now)))

      word : IsCollected (main_at now.win32 r) (main_at new r)
      word = collected-word (main_at now.win32 r) (main_at new r) changed

      gone_dead : is_live_word (main_at new r) ≡ false
      gone_dead = ap is_live_main word.now

      found : (q : Record) × (record_of now.posix (r + 1) ≡ Some q)
      found = process_record script now.win32 now.posix sound.decodes r from
          (ap is_process_main word.was ∙ ap is_process_kind word.zombie)

      within : r ≤ claimed_in now.win32
      within = elim (cases_lt (claimed_in now.win32) r) [
        | inl far ↦ absurd (
            let blank = sound.rows.blank r far in
            let e : false ≡ true =
            sym (ap is_process_word blank.main) ∙ (ap is_process_main word.was ∙ ap is_process_kind word.zombie) in cc)
        | inr near ↦ omega (arith, near)
      ]

      may : (parts : Parts A) → MayCollect script
          (exit_entry script past now slot part called reply given next new sound turn told parts posix) w 0 r
      may parts = record {
        formed = sound.formed;
        roster = sound.roster;
        change = record { from = from; changed = changed; others = others };
        no_claim = ap (λ c. is_claim (Some c)) (turn.called_is ∙ its_call);
        within = within;
        holds = h.holds;
        turn = (ap number_of turn.posted.thread.process, refl);
      }

      its_parent : 2 ≤ found.0.parent → is_live_word (main_at now.win32 (row_of found.0.parent)) ≡ false
      its_parent = orphan-record script now.win32 now.posix sound.decodes r found.0 orphan found.1

      after_decodes : Decodes script new posix
      after_decodes = collect-decodes script now.win32 new now.posix r found.0 sound.decodes found.1 from changed
          its_parent others (exit-same script past now slot part called reply given next new sound turn got.rest)
          (exit-terminal script past now slot part called reply given next new sound turn got.rest)

      shows : (parts : Parts A) → ShowsStep script
          (exit_entry script past now slot part called reply given next new sound turn told parts posix)
      shows parts = exit-shows script past now slot part called reply given next new sound turn got.rest told posix
          parts (main_place r) old n (turn.called_is ∙ its_call) (omega (arith, from))
          (omega (arith, row-within script now.posix sound.posix r found.0 found.1)) got.others (λ p b e. absurd (cc))
          (collect-step script now.win32 new now.posix r found.0 sound.decodes found.1 from changed its_parent)
          (record { carried_out = refl; shown = tt }) after_decodes
          (collect-kept script
          (exit_entry script past now slot part called reply given next new sound turn told parts posix) w 0 r
          (may parts))

      -- what is known after the seal is known yet
      holds_dead : (parts : Parts A) → HoldsDead
          (seen_with (exit_entry script past now slot part called reply given next new sound turn told parts posix))
          (exit_moment script past now slot part called reply given next new sound turn parts posix) w row part.ending
      holds_dead parts = record {
        died = record {
          from = h.died.from;
          ended = elim (cases_eq row r) [
            | inl e ↦ ap (λ k. is_ended_word (main_at new k)) e ∙ ap is_ended_main word.now
            | inr d ↦ ap is_ended_word (others_main row h.died.from d) ∙ h.died.ended
          ];
          small = h.died.small;
          first = h.died.first;
          layer = h.died.layer;
          named = inr h.died.named;
          unnamed = λ x low live names. elim (cases_eq x r) [
            | inl e ↦
                let f : true ≡ false = sym (subst (λ k. is_live_word (main_at new k) ≡ true) e live) ∙ gone_dead in
                absurd (cc)
            | inr d ↦ h.died.unnamed x low (ap is_live_word (sym (others_main x low d)) ∙ live)
                (ap main_image (sym (others_main x low d)) ∙ names)
          ];
          listed = λ place c e.
              let at = h.died.listed place c (ap (λ b. listed_child b place)
              (sym (exit-cyg script past now slot part called reply given next new sound turn got.rest)) ∙ e) in
              record {
                from = at.from;
                used = at.used;
                parent_is = λ q there. at.parent_is q (by_test (nat_eq (c + 1) (r + 1)) (record_of now.posix (c + 1)) q
                    (sym (record_of-without_record now.posix (r + 1) (c + 1)) ∙ there));
              };
        };
        holds = exit-holds script past now slot part called reply given next new sound turn got.rest holds;
      }
        where
          by_test : (b : Bool) (o : Option Record) (q : Record) → cond b None o ≡ Some q → o ≡ Some q
          by_test true o q e = absurd (none-some q e)
          by_test false o q e = e

      abbrev Gathered : Turn Gather
      Gathered = record { part = gather.Done; event = told }

      to_gathered : to ≡ wrapped wrap Gathered
      to_gathered = is ∙ ap (wrapped wrap) (ap (gather_after (gather.Trying r old n)) got.found
          ∙ ap (λ b. if b then Gathered else quietly (gather_looked r old)) (same old old refl))

      won : Result
      won = exit-turn script past now slot part called reply given next new sound turn got.rest told posix
          (ap (λ (t : Turn ExitStep). t.event) to_gathered) refl shows
          (λ parts. subst (λ (t : Turn ExitStep). ExitStepClause script
          (seen_with (exit_entry script past now slot part called reply given next new sound turn told parts posix))
          (exit_moment script past now slot part called reply given next new sound turn parts posix) w row part.image
          part.ending t.part) (sym to_gathered)
          (wraps (seen_with
          (exit_entry script past now slot part called reply given next new sound turn told parts posix))
          (exit_moment script past now slot part called reply given next new sound turn parts posix) after_decodes
          (holds_dead parts)
          (ap (λ ps. let m : Own = memory_of (process_of ps w) in m.cyg) got.rest.processes
          ∙ sym (exit-cyg script past now slot part called reply given next new sound turn got.rest)) gather.Done tt))

    gathers_trying : Result
    gathers_trying = elim (exchange-cases script now.win32 sound.formed w 1 (main_place r) old n reply turn.mid step) [
      | inl other ↦ lost other
      | inr found ↦ won found
    ]

  -- A turn of a gathering that isn't done.
  pub exit-gathers : (x : Gather) → turn.thread.posted ≡ gather_posted x → to ≡ wrapped wrap (gather_after x reply)
      → GatherClause now.win32 x → Result
  exit-gathers
      (gather.Looking r) its_call is clause = gathers-looking script past now slot part called reply given next new
      sound turn h wrap wraps r its_call is clause
  exit-gathers (gather.Trying r old n) its_call is clause = gathers_trying r old n its_call is clause.0 clause.1
  exit-gathers gather.Done its_call is clause =
      absurd (subst (λ c. CallStep script now.win32 w 0 c reply turn.mid) its_call turn.posted.step)
  exit-gathers gather.Rest its_call is clause =
      absurd (subst (λ c. CallStep script now.win32 w 0 c reply turn.mid) its_call turn.posted.step)
