-- The turn that seals the own row gives what it owes.
use Rattle.std.specs.Prelude.{pos}
use Rattle.std.proofs.Common.{◌≡◌, ◌≢◌, inl, inr, ℕ, ◌+◌, ◌^◌, ◌<◌, ◌≤◌, Bool, true, false, nat_eq, nat_lt}
use Rattle.std.proofs.Common.{if◌then◌else◌, List, Option, Some, None, refl, sym, ap, ◌∙◌, subst, arith, eqb-true}
use Rattle.std.proofs.lemmas.Bool.{cases_eq}
use Rattle.w32_base.specs.declared.call.Call.{Call}
use Rattle.w32_base.specs.declared.call.Call.TheVariants as call
use Rattle.w32_base.specs.declared.call.Reply.{Reply}
use Rattle.w32_base.specs.declared.call.Reply.TheVariants as answer
use Rattle.w32_base.specs.declared.event.Event.{Event}
use Rattle.w32_base.specs.declared.event.Event.TheVariants as event
use Rattle.script_spec.specs.declared.script.Script.{Script}
use Rattle.win32_spec.specs.Call.{CallStep}
use Rattle.win32_spec.specs.Driven.{Parts}
use Rattle.win32_spec.specs.Lookup.{memory_by, number_of}
use Rattle.win32_spec.specs.LookupLaws.{same, before}
use Rattle.win32_spec.specs.State.{Win32State}
use Rattle.posix_spec.specs.DeathSteps.{died}
use Rattle.posix_spec.specs.State.{Record, PosixState}
use Rattle.posix_spec.specs.WellFormed.{IsUsed}
use Rattle.layer_spec.specs.DeathLaws.{used_of_died}
use Rattle.layer_spec.specs.Decodes.{ShowsRecord, is_child_of}
use Rattle.layer_spec.specs.Decoding.{main_of, main_image}
use Rattle.layer_spec.specs.Discipline.{is_claim}
use Rattle.layer_spec.specs.History.{given_of}
use Rattle.layer_spec.specs.Moment.{Moment, Seen, seen_with}
use Rattle.layer_spec.specs.Rows.{MainWord, main_place}
use Rattle.layer_spec.specs.Transitions.{Seal, sealed}
use Rattle.layer_spec.specs.Words.{word_in, main_at, exit_at}
use Rattle.roster.specs.declared.hold.Hold.TheVariants as hold
use Rattle.roster.specs.Turns.{Turn, quietly, by_word, all_by_word}
use Rattle.roster.specs.Words.{changed_word, is_live_main, is_live_word}
use Rattle.world_spec.specs.Calm.{is_plain_call}
use Rattle.world_spec.specs.CollectRows.{row-shows}
use Rattle.world_spec.specs.ExchangeLaws.{Exchanges, FindsOther, exchange-cases}
use Rattle.world_spec.specs.ExitLaws.{own-claimed, own_not_open}
use Rattle.world_spec.specs.MainLaws.{MayChangeMain, main-kept}
use Rattle.world_spec.specs.MutexLaws.{KeepsAll}
use Rattle.world_spec.specs.Owes.{OwnTurn}
use Rattle.world_spec.specs.SealLaws.{sealed-word, seal-decodes, died-parents, died-status}
use Rattle.world_spec.specs.SeenStep.{ShowsStep}
use Rattle.world_spec.specs.Sound.{IsSoundMoment}
use Rattle.world_spec.specs.SoundLaws.{live_is_process}
use Rattle.world_spec.specs.TurnLaws.{own_lives}
use Rattle.child_watch.specs.declared.ending.Ending.{Ending}
use Rattle.child_watch.specs.declared.ending.Ending.TheVariants as ending
use Rattle.child_watch.specs.declared.exiting.ExitStep.{ExitStep}
use Rattle.child_watch.specs.declared.exiting.ExitStep.TheVariants as exit
use Rattle.child_watch.specs.declared.exiting.Exiting.{Exiting}
use Rattle.child_watch.specs.Ending.{status_of, death_of, word_of}
use Rattle.child_watch.specs.Exiting.{exit_posted, exit_step_posted, exit_step_after, exit_looked}
use Rattle.child_watch.specs.Exiting.{exit_sealed, listed_child}
use Rattle.child_watch.specs.ExitChildren.{own-children, own-layer}
use Rattle.child_watch.specs.ExitClause.{is_ended_main, IsToEnd, HasParent, HasDied, ExitStepClause}
use Rattle.child_watch.specs.ExitDeath.{ending-small, die-step, death-true}
use Rattle.child_watch.specs.ExitTurns.{ExitGoes, ExitResult, exit_entry, exit_moment, exit_to, exit-turn, exit-quiet}
use Rattle.child_watch.specs.ExitTurns.{exit-cyg, exit-same, exit-terminal, exit-words, exit-shows}
use Rattle.child_watch.specs.ExitTurns.{row-within}
use Rattle.child_watch.specs.ExitTurnsLook.{exit-looked-on}

-- no part gives the number of a death from outside
given_same : (row : ℕ) (e : Ending)
    → given_of (Some (event.Die row (pos (status_of e)) (death_of e)))
    ≡ Some (event.Die row (pos (status_of e)) (death_of e))
given_same row (ending.Exit code) = refl
given_same row (ending.Signal signal) = refl
given_same row ending.Fault = refl

module _ {A : Type 0} (script : Script) (past : List (Seen A)) (now : Moment A) (slot : ℕ) (part : Exiting)
    (called : Call) (reply : Reply) (given : Option Event) (next : Option Exiting) (new : Win32State)
    (sound : IsSoundMoment script past now)
    (turn : OwnTurn exit_posted ExitGoes script now.win32 slot 0 part called reply given next new)
    (h : IsToEnd script now turn.process.number part.row part.image part.ending)
    (word : exit_at now.win32 part.row ≡ word_of part.image part.ending) where
  abbrev w : ℕ
  w = turn.process.number

  abbrev row : ℕ
  row = part.row

  abbrev v : ℕ
  v = status_of part.ending

  abbrev Result : Type 0
  Result = ExitResult script past now slot part called reply given next new sound turn

  abbrev to : Turn ExitStep
  to = exit_to script past now slot part called reply given next new sound turn

  abbrev AtNow : Parts A → Turn ExitStep → Type 0
  AtNow parts t = ExitStepClause script
      (seen_with (exit_entry script past now slot part called reply given next new sound turn None parts now.posix))
      (exit_moment script past now slot part called reply given next new sound turn parts now.posix) w row part.image
      part.ending t.part

  looked : (parts : Parts A) → ((i : ℕ) → word_in new i ≡ word_in now.win32 i) → (x : ℕ)
      → AtNow parts (quietly (exit_looked part.ending x))
  looked = exit-looked-on script past now slot part called reply given next new sound turn h word

  module _ (old n : ℕ) (is : part.step ≡ exit.Sealing old n) (changes : changed_word (Seal v) old ≡ Some n) where
    abbrev goes : Reply → Turn ExitStep
    goes r = by_word (quietly exit.Rest) (exit_sealed row part.ending old) r

    its_call : turn.thread.posted ≡ call.CompareExchange 1 (main_place row) old n
    its_call = turn.own_call ∙ ap (exit_step_posted row part.image part.ending) is

    to_is : to ≡ goes reply
    to_is = ap (λ s. exit_step_after row part.ending s (memory_by turn.mid w) reply) is

    -- another word was found
    lost : FindsOther now.win32 old reply turn.mid → Result
    lost other =
        exit-quiet script past now slot part called reply given next new sound turn kept
        (ap is_plain_call (turn.called_is ∙ its_call))
        (ap (λ (t : Turn ExitStep). t.event) to_is
        ∙ all_by_word (λ t r. reply ≡ r → t.event ≡ None) (quietly exit.Rest) (exit_sealed row part.ending old)
        (λ r e. refl) (λ x e. ap (λ (t : Turn ExitStep). t.event) (turns_to x e)) reply refl)
        (λ parts. subst (AtNow parts) (sym to_is)
        (all_by_word (λ t r. reply ≡ r → AtNow parts t) (quietly exit.Rest) (exit_sealed row part.ending old)
        (λ r e. tt)
        (λ x e. subst (AtNow parts) (sym (turns_to x e)) (looked parts words x)) reply refl))
      where
        kept : KeepsAll now.win32 turn.mid
        kept = record { words = other.words; rest = other.rest }

        words : (i : ℕ) → word_in new i ≡ word_in now.win32 i
        words i =
            exit-words script past now slot part called reply given next new sound turn other.rest i ∙ other.words i

        turns_to : (x : ℕ) → reply ≡ answer.Word x
            → exit_sealed row part.ending old x ≡ quietly (exit_looked part.ending x)
        turns_to x e = by_found (nat_eq x old) refl
          where
            by_found : (b : Bool) → nat_eq x old ≡ b
                → (if b
                then record {
                  part = exit.Holding hold.Waiting;
                  event = Some (event.Die (row + 1) (pos v) (death_of part.ending));
                }
                else quietly (exit_looked part.ending x)) ≡ quietly (exit_looked part.ending x)
            by_found true f = absurd (other.other (e ∙ ap (λ k. answer.Word k) (eqb-true x old f)))
            by_found false f = refl

    -- The old word was found: the process has died.
    module _ (got : Exchanges now.win32 (main_place row) old n reply turn.mid) where
      abbrev told : Option Event
      told = Some (event.Die (row + 1) (pos v) (death_of part.ending))

      abbrev r : Record
      r = h.at.noted

      abbrev posix : PosixState
      posix = died now.posix (row + 1) v r.parent

      from : 1 ≤ row
      from = h.at.own.from

      small : v < 512
      small = ending-small part.ending h.next r.image h.ends

      legal : nat_lt v (2 ^ 9) ≡ true
      legal = before v 512 small

      others : (i : ℕ) → i ≢ main_place row → word_in new i ≡ word_in now.win32 i
      others i d =
          exit-words script past now slot part called reply given next new sound turn got.rest i ∙ got.others i d

      changed : changed_word (Seal v) (main_at now.win32 row) ≡ Some (main_at new row)
      changed = ap (changed_word (Seal v)) got.was ∙ (changes ∙ ap (λ k. Some k)
          (sym (exit-words script past now slot part called reply given next new sound turn got.rest (main_place row)
          ∙ got.now)))

      others_main : (x : ℕ) → 1 ≤ x → x ≢ row → main_at new x ≡ main_at now.win32 x
      others_main x low d = others (main_place x) (λ e. d (one x row low from e))
        where
          one : (x y : ℕ) → 1 ≤ x → 1 ≤ y → main_place x ≡ main_place y → x ≡ y
          one x y p q e = omega arith

      -- what the row shows before and after
      shown : (m : MainWord) × (main_of (main_at now.win32 row) ≡ Some m)
          × ShowsRecord script (λ q. q.own) now.win32 now.posix row m r
      shown = row-shows script now.win32 now.posix sound.decodes row r from h.at.found

      sealed_now : main_of (main_at new row) ≡ Some (sealed shown.0 v)
      sealed_now = sealed-word (main_at now.win32 row) (main_at new row) v shown.0 legal shown.1 changed

      not_live : is_live_word (main_at new row) ≡ false
      not_live = ap is_live_main sealed_now

      may : (parts : Parts A) → MayChangeMain
          (exit_entry script past now slot part called reply given next new sound turn told parts posix) row (Seal v)
      may parts = record {
        legal = legal;
        small = refl;
        change = record { from = from; changed = changed; others = others };
        no_claim = ap (λ c. is_claim (Some c)) (turn.called_is ∙ its_call);
        within = own-claimed past now.win32 w row sound.rows h.at.own;
        own = λ u claimed is_open. absurd (own_not_open now.win32 w row h.at.own is_open);
        image = λ live lives. absurd (let f : true ≡ false = sym lives ∙ not_live in cc);
        seal = λ live dead.
            inr (ap number_of turn.posted.thread.process ∙ ap (λ k. Some k) (sym h.at.own.image), refl);
      }

      shows : (parts : Parts A) → ShowsStep script
          (exit_entry script past now slot part called reply given next new sound turn told parts posix)
      shows parts = exit-shows script past now slot part called reply given next new sound turn got.rest told posix
          parts (main_place row) old n (turn.called_is ∙ its_call) (omega (arith, from))
          (omega (arith, row-within script now.posix sound.posix row r h.at.found)) got.others (λ p b e. absurd (cc))
          (die-step script now w row part.image part.ending h)
          (record {
            carried_out = refl;
            shown = (
              tt,
              death-true script now w row part.image part.ending h
                  (exit_entry script past now slot part called reply given next new sound turn told parts posix) refl
                  word,
            );
          })
          (seal-decodes script now.win32 new now.posix row v r h.at.found from legal changed others
          (exit-same script past now slot part called reply given next new sound turn got.rest)
          (exit-terminal script past now slot part called reply given next new sound turn got.rest) sound.decodes)
          (main-kept (exit_entry script past now slot part called reply given next new sound turn told parts posix) row
          (Seal v) (may parts))

      -- The children in the own cygheap are those of the process.
      children : (place c : ℕ) → listed_child (memory_by now.win32 w).cyg place ≡ Some c
          → HasParent posix (row + 1) c
      children place c e =
          let at = own-children script now.win32 now.posix sound.decodes sound.posix w row r h.at.own
          (own_lives exit_posted ExitGoes script past now slot 0 part called reply given next new sound turn) h.at.found
          place c e in
          record {
            from = at.from;
            used = subst (λ u. IsUsed u (c + 1)) (sym (used_of_died now.posix (row + 1) v r h.at.found)) at.used;
            parent_is = λ x is. eqb-true x.parent (row + 1) (
                sym (ap (is_child_of (row + 1)) is)
                ∙ (died-parents now.posix (row + 1) v r h.at.found (row + 1) (c + 1) ∙ at.child));
          }

      dies : (parts : Parts A) → HasDied
          (seen_with (exit_entry script past now slot part called reply given next new sound turn told parts posix))
          (exit_moment script past now slot part called reply given next new sound turn parts posix) w row part.ending
      dies parts = record {
        from = from;
        ended = ap is_ended_main sealed_now;
        small = small;
        first = λ two.
            let one = sound.first_row.row row from h.at.own.live (h.at.own.image ∙ two) in
            died-status now.posix (row + 1) v r.parent (omega (arith, one));
        layer = own-layer script now.win32 now.posix sound.formed sound.decodes w row r h.at.own
            (own_lives exit_posted ExitGoes script past now slot 0 part called reply given next new sound turn)
            h.at.found;
        named = inl (record {
          row = row;
          from = from;
          process = live_is_process (main_at now.win32 row) h.at.own.live;
          image = h.at.own.image;
        });
        unnamed = λ x low live names. elim (cases_eq x row) [
          | inl e ↦
              let f : true ≡ false = sym (subst (λ k. is_live_word (main_at new k) ≡ true) e live) ∙ not_live in
              absurd (cc)
          | inr d ↦
              let stays = others_main x low d in
              d (sound.rows.apart x row low from (ap is_live_word (sym stays) ∙ live) h.at.own.live
              (ap main_image (sym stays) ∙ (names ∙ sym h.at.own.image)))
        ];
        listed = λ place c e. children place c (ap (λ b. listed_child b place)
            (sym (exit-cyg script past now slot part called reply given next new sound turn got.rest)) ∙ e);
      }

      abbrev Dies : Turn ExitStep
      Dies = record { part = exit.Holding hold.Waiting; event = told }

      to_dies : to ≡ Dies
      to_dies = to_is ∙ (ap goes got.found
          ∙ ap (λ b. if b then Dies else quietly (exit_looked part.ending old)) (same old old refl))

      won : Result
      won = exit-turn script past now slot part called reply given next new sound turn got.rest told posix
          (ap (λ (t : Turn ExitStep). t.event) to_dies) (given_same (row + 1) part.ending) shows
          (λ parts. subst (λ (t : Turn ExitStep). ExitStepClause script
          (seen_with (exit_entry script past now slot part called reply given next new sound turn told parts posix))
          (exit_moment script past now slot part called reply given next new sound turn parts posix) w row part.image
          part.ending t.part) (sym to_dies) (dies parts))

    -- The seal: the process has died, or the row is looked at again.
    pub exit-seals : Result
    exit-seals = elim (exchange-cases script now.win32 sound.formed w 1 (main_place row) old n reply turn.mid
        (subst (λ c. CallStep script now.win32 w 0 c reply turn.mid) its_call turn.posted.step)) [
          | inl other ↦ lost other
          | inr found ↦ won found
        ]
