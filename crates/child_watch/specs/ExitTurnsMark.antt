-- The turn that writes the exit word gives what it owes.
use Rattle.std.proofs.Common.{◌≡◌, ◌≢◌, inl, inr, ℕ, ◌≤◌, Bool, true, false, nat_eq, if◌then◌else◌, List, Option}
use Rattle.std.proofs.Common.{Some, None}
use Rattle.std.proofs.Common.{refl, sym, ap, ◌∙◌, subst, arith}
use Rattle.std.proofs.lemmas.Bool.{eqb-true}
use Rattle.w32_base.specs.declared.call.Call.{Call}
use Rattle.w32_base.specs.declared.call.Call.TheVariants as call
use Rattle.w32_base.specs.declared.call.Reply.{Reply}
use Rattle.w32_base.specs.declared.call.Reply.TheVariants as answer
use Rattle.w32_base.specs.declared.event.Event.{Event}
use Rattle.script_spec.specs.declared.script.Script.{Script}
use Rattle.win32_spec.specs.Call.{CallStep}
use Rattle.win32_spec.specs.Driven.{Parts}
use Rattle.win32_spec.specs.Lookup.{memory_by, number_of}
use Rattle.win32_spec.specs.LookupLaws.{same}
use Rattle.win32_spec.specs.State.{Win32State}
use Rattle.layer_spec.specs.Decoding.{main_image, exit_of}
use Rattle.layer_spec.specs.Discipline.{is_claim}
use Rattle.layer_spec.specs.Moment.{Moment, Seen, seen_with}
use Rattle.layer_spec.specs.Rows.{main_place, group_place, exit_place}
use Rattle.layer_spec.specs.Words.{word_in, main_at}
use Rattle.roster.specs.Turns.{Turn, quietly, by_word, all_by_word}
use Rattle.world_spec.specs.Calm.{is_plain_call}
use Rattle.world_spec.specs.DecodesLaws.{decodes-rows, row-stays}
use Rattle.world_spec.specs.ExchangeLaws.{Exchanges, FindsOther, exchange-cases}
use Rattle.world_spec.specs.ExitLaws.{MayMarkExit, exit-kept, own-claimed}
use Rattle.world_spec.specs.MutexLaws.{KeepsAll}
use Rattle.world_spec.specs.Owes.{OwnTurn}
use Rattle.world_spec.specs.SeenStep.{ShowsStep}
use Rattle.world_spec.specs.Sound.{IsSoundMoment}
use Rattle.world_spec.specs.SoundLaws.{live_is_process}
use Rattle.child_watch.specs.declared.exiting.ExitStep.{ExitStep}
use Rattle.child_watch.specs.declared.exiting.ExitStep.TheVariants as exit
use Rattle.child_watch.specs.declared.exiting.Exiting.{Exiting}
use Rattle.child_watch.specs.Ending.{word_of}
use Rattle.child_watch.specs.Exiting.{exit_posted, exit_step_posted, exit_step_after, exit_marked}
use Rattle.child_watch.specs.ExitClause.{ExitStepClause}
use Rattle.child_watch.specs.ExitTurns.{ExitGoes, ExitResult, exit_entry, exit_moment, exit_to, exit-turn}
use Rattle.child_watch.specs.ExitTurns.{exit-quiet, exit-same, exit-terminal, exit-words, exit-shows, to-end-on}
use Rattle.child_watch.specs.ExitTurns.{row-within}

-- places of a row's words
no_main : (x y : ℕ) → 1 ≤ y → main_place x ≢ exit_place y
no_main x y q e = omega arith

no_group : (x y : ℕ) → 1 ≤ y → group_place x ≢ exit_place y
no_group x y q e = omega arith

module _ {A : Type 0} (script : Script) (past : List (Seen A)) (now : Moment A) (slot : ℕ) (part : Exiting)
    (called : Call)
    (reply : Reply) (given : Option Event) (next : Option Exiting) (new : Win32State)
    (sound : IsSoundMoment script past now)
    (turn : OwnTurn exit_posted ExitGoes script now.win32 slot 0 part called reply given next new) (old : ℕ)
    (is : part.step ≡ exit.Marking old)
    (h : ExitStepClause script past now turn.process.number part.row part.image part.ending (exit.Marking old)) where
  abbrev w : ℕ
  w = turn.process.number

  abbrev place : ℕ
  place = exit_place part.row

  abbrev n : ℕ
  n = word_of part.image part.ending

  abbrev Result : Type 0
  Result = ExitResult script past now slot part called reply given next new sound turn

  abbrev to : Turn ExitStep
  to = exit_to script past now slot part called reply given next new sound turn

  abbrev goes : Reply → Turn ExitStep
  goes r = by_word (quietly exit.Rest) (λ x. quietly (exit_marked old x)) r

  its_call : called ≡ call.CompareExchange 1 place old n
  its_call = turn.called_is ∙ (turn.own_call ∙ ap (exit_step_posted part.row part.image part.ending) is)

  to_is : to ≡ goes reply
  to_is = ap (λ s. exit_step_after part.row part.ending s (memory_by turn.mid w) reply) is

  quiet : to.event ≡ None
  quiet = ap (λ (t : Turn ExitStep). t.event) to_is
      ∙ all_by_word (λ t r. t.event ≡ None) (quietly exit.Rest) (λ x. quietly (exit_marked old x)) (λ r. refl)
      (λ x. refl) reply

  -- the clause of the step to which a reply leads, of the moment after the turn
  abbrev At : Parts A → Turn ExitStep → Type 0
  At parts t = ExitStepClause script
      (seen_with (exit_entry script past now slot part called reply given next new sound turn None parts now.posix))
      (exit_moment script past now slot part called reply given next new sound turn parts now.posix) w part.row
      part.image
      part.ending t.part

  -- it found another word
  lost : FindsOther now.win32 old reply turn.mid → Result
  lost other =
      exit-quiet script past now slot part called reply given next new sound turn kept (ap is_plain_call its_call) quiet
      (λ parts. subst (At parts) (sym to_is)
      (all_by_word (λ t r. reply ≡ r → At parts t) (quietly exit.Rest) (λ x. quietly (exit_marked old x)) (λ r e. tt)
      (λ x e. by_found parts x (nat_eq x old) refl e) reply refl))
    where
      kept : KeepsAll now.win32 turn.mid
      kept = record { words = other.words; rest = other.rest }

      words : (i : ℕ) → word_in new i ≡ word_in now.win32 i
      words i = exit-words script past now slot part called reply given next new sound turn other.rest i ∙ other.words i

      by_found : (parts : Parts A) (x : ℕ) (b : Bool) → nat_eq x old ≡ b → reply ≡ answer.Word x
          → At parts (quietly (if b then exit.Looking else exit.Marking x))
      by_found parts x true e is = absurd (other.other (is ∙ ap (λ k. answer.Word k) (eqb-true x old e)))
      by_found parts x false e is = (
        to-end-on script now new parts w part.row part.image part.ending (words (main_place part.row)) h.0,
        λ carries. h.1 (record {
          word = carries.word;
          decodes = ap exit_of (sym (words place)) ∙ carries.decodes;
          image = carries.image ∙ ap main_image (words (main_place part.row));
        }),
      )

  -- it found the old word: the exit word carries the image
  won : Exchanges now.win32 place old n reply turn.mid → Result
  won got = exit-turn script past now slot part called reply given next new sound turn got.rest None now.posix quiet
      refl shows
      (λ parts. subst (At parts) (sym (to_is ∙ ap goes got.found)) (by_same parts (nat_eq old old) (same old old refl)))
    where
      own_from : 1 ≤ part.row
      own_from = h.0.at.own.from

      within : part.row ≤ script.setup.limits.rows
      within = row-within script now.posix sound.posix part.row h.0.at.noted h.0.at.found

      others : (i : ℕ) → i ≢ place → word_in new i ≡ word_in now.win32 i
      others i d = exit-words script past now slot part called reply given next new sound turn got.rest i
          ∙ got.others i d

      may : (parts : Parts A) → MayMarkExit
          (exit_entry script past now slot part called reply given next new sound turn None parts now.posix) part.row
      may parts = record {
        from = own_from;
        within = own-claimed past now.win32 w part.row sound.rows h.0.at.own;
        others = others;
        no_claim = ap (λ c. is_claim (Some c)) its_call;
        process = live_is_process (main_at now.win32 part.row) h.0.at.own.live;
        turn = (ap number_of turn.posted.thread.process ∙ ap (λ k. Some k) (sym h.0.at.own.image), refl);
        unmarked = h.1;
      }

      shows : (parts : Parts A) → ShowsStep script
          (exit_entry script past now slot part called reply given next new sound turn None parts now.posix)
      shows parts = exit-shows script past now slot part called reply given next new sound turn got.rest None
          now.posix parts
          place old n its_call (omega (arith, own_from)) (omega (arith, within)) got.others
          (λ p b e. absurd (cc)) refl tt
          (decodes-rows script now.win32 new now.posix
          (exit-same script past now slot part called reply given next new sound turn got.rest)
          (exit-terminal script past now slot part called reply given next new sound turn got.rest)
          (λ r low. row-stays script now.win32 new now.posix
          (exit-same script past now slot part called reply given next new sound turn got.rest) r
          (others (main_place r) (no_main r part.row own_from)) (others (group_place r) (no_group r part.row own_from))
          (sound.decodes.rows r low)) sound.decodes)
          (exit-kept (exit_entry script past now slot part called reply given next new sound turn None parts now.posix)
          part.row (may parts))

      by_same : (parts : Parts A) (b : Bool) → b ≡ true → At parts (quietly
          (if b then exit.Looking else exit.Marking old))
      by_same parts true e = (
        to-end-on script now new parts w part.row part.image part.ending
            (others (main_place part.row) (no_main part.row part.row own_from)) h.0,
        exit-words script past now slot part called reply given next new sound turn got.rest place ∙ got.now,
      )
      by_same parts false e = absurd (let f : false ≡ true = e in cc)

  -- The exit word is written, or another word was found and is tried next.
  pub exit-marks : Result
  exit-marks = elim (exchange-cases script now.win32 sound.formed w 1 place old n reply turn.mid
      (subst (λ c. CallStep script now.win32 w 0 c reply turn.mid)
      (turn.own_call ∙ ap (exit_step_posted part.row part.image part.ending) is) turn.posted.step)) [
        | inl other ↦ lost other
        | inr found ↦ won found
      ]
