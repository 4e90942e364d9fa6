-- The compare-exchange by which a claimed row becomes held gives what it owes: where it found the old word the row is
-- held, and else the claim tries again with the word that it found.
use Rattle.std.proofs.Common.{◌≡◌, ◌≢◌, inl, inr, ℕ, ◌<◌, ◌≤◌, Bool, true, false, nat_eq, if◌then◌else◌, List, Option}
use Rattle.std.proofs.Common.{Some, None, MatchOption, refl, sym, ap, ◌∙◌, subst, arith}
use Rattle.std.proofs.lemmas.Bool.{cases_eq, eqb-true}
use Rattle.w32_base.specs.declared.call.Call.{Call}
use Rattle.w32_base.specs.declared.call.Call.TheVariants as call
use Rattle.w32_base.specs.declared.call.Reply.{Reply}
use Rattle.w32_base.specs.declared.call.Reply.TheVariants as answer
use Rattle.w32_base.specs.declared.event.Event.{Event}
use Rattle.script_spec.specs.declared.script.Script.{Script}
use Rattle.win32_spec.specs.Call.{CallStep}
use Rattle.win32_spec.specs.CallEffects.{by_bool}
use Rattle.win32_spec.specs.Driven.{Parts}
use Rattle.win32_spec.specs.Effects.{IsWriteTo}
use Rattle.win32_spec.specs.Lookup.{process_of, is_live, memory_by, number_of}
use Rattle.win32_spec.specs.LookupLaws.{same}
use Rattle.win32_spec.specs.State.{Win32State}
use Rattle.layer_spec.specs.Decodes.{ShowsRow}
use Rattle.layer_spec.specs.Decoding.{main_of}
use Rattle.layer_spec.specs.Discipline.{is_create, is_claim, is_module}
use Rattle.layer_spec.specs.Moment.{Moment, Seen, HistoryStep, seen_with}
use Rattle.layer_spec.specs.Rows.{Held, main_word_of, main_place, group_place, exit_place}
use Rattle.layer_spec.specs.Transitions.{Hold, blank}
use Rattle.layer_spec.specs.Turns.{is_live_process}
use Rattle.layer_spec.specs.Words.{word_in, main_at}
use Rattle.roster.specs.Claim.{claim_posted, claim_looked, claim_tried}
use Rattle.roster.specs.declared.claim.Claim.{Claim}
use Rattle.roster.specs.declared.claim.Claim.TheVariants as claim
use Rattle.roster.specs.RosterChanges.{ChangesMain}
use Rattle.roster.specs.Turns.{by_word}
use Rattle.roster.specs.Words.{changed_word, is_live_word}
use Rattle.world_spec.specs.Calm.{IsCalm, AreCalm, is_plain_call, is_plain}
use Rattle.world_spec.specs.CalmLaws.{processes-kept, calm_shown, nobody-ends}
use Rattle.world_spec.specs.CalmSteps.{calm-acts, calm_process}
use Rattle.world_spec.specs.ClaimClause.{HasClaimed, HoldsRow, ClaimClause}
use Rattle.world_spec.specs.ClaimTurns.{ClaimGoes, claim_thread, same_bytes, looks_on, by_reply, quiet}
use Rattle.world_spec.specs.DecodesLaws.{decodes-rows, row-stays}
use Rattle.world_spec.specs.ExchangeLaws.{Exchanges, FindsOther, exchange-cases}
use Rattle.world_spec.specs.HoldLaws.{blank_absent, held_shows}
use Rattle.world_spec.specs.MainLaws.{MayChangeMain, main-kept}
use Rattle.world_spec.specs.Owes.{LivesOn, OwnTurn, KeepsTurn}
use Rattle.world_spec.specs.SeenStep.{ShowsStep, turn_step}
use Rattle.world_spec.specs.Sound.{IsSoundMoment}
use Rattle.world_spec.specs.TurnLaws.{live-acts, own_lives}

-- processes that are listed as before are calm
same_calm : (s mid : Win32State) → mid.processes ≡ s.processes → AreCalm s mid
same_calm s mid e v q f alive = (q, ap (λ ps. process_of ps v) (sym e) ∙ f, alive, calm_process q)

-- the word of a held row
held_word : (n : ℕ) → changed_word Hold 0 ≡ Some n → main_of n ≡ Some (blank Held)
held_word n e =
    let f : Some (main_word_of (blank Held)) ≡ Some n = e in
    let g : main_word_of (blank Held) ≡ n = cc in
    subst (λ k. main_of k ≡ Some (blank Held)) g refl

-- places of a row's words
other_main : (x y : ℕ) → 1 ≤ x → 1 ≤ y → x ≢ y → main_place x ≢ main_place y
other_main x y p q d e = absurd (d (one x y p q e))
  where
    one : (x y : ℕ) → 1 ≤ x → 1 ≤ y → main_place x ≡ main_place y → x ≡ y
    one x y p q e = omega arith

no_group : (x y : ℕ) → 1 ≤ y → group_place x ≢ main_place y
no_group x y q e = omega arith

no_exit : (x y : ℕ) → 1 ≤ y → exit_place x ≢ main_place y
no_exit x y q e = omega arith

far : (row rows i : ℕ) → 1 ≤ row → row ≤ rows → exit_place rows < i → i ≢ main_place row
far row rows i from within above e = omega arith

module _ {A : Type 0} (script : Script) (past : List (Seen A)) (now : Moment A) (slot row old n : ℕ) (called : Call)
    (reply : Reply) (given : Option Event) (next : Option Claim) (new : Win32State)
    (sound : IsSoundMoment script past now)
    (turn : OwnTurn claim_posted ClaimGoes script now.win32 slot 0
    (claim.Holding row old n) called reply given next new)
    (h : HasClaimed script past now.win32 turn.process.number row) (word : changed_word Hold old ≡ Some n) where
  abbrev w : ℕ
  w = turn.process.number

  abbrev Result : Type 0
  Result = KeepsTurn claim_posted ClaimGoes claim_thread
      (ClaimClause script) script past now slot 0 w called reply given
      next new

  its_call : called ≡ call.CompareExchange 1 (main_place row) old n
  its_call = turn.called_is ∙ turn.own_call

  -- it found another word
  lost : FindsOther now.win32 old reply turn.mid → Result
  lost other =
      quiet script past now slot row called reply given next new sound (claim.Holding row old n) turn h
      (record {
        words = other.words;
        terminal = other.rest.terminal;
        processes = same_calm now.win32 turn.mid other.rest.processes;
      })
      (λ v live. ap (λ ps. is_live (process_of ps v)) other.rest.processes ∙ live)
      (ap is_plain_call its_call)
      (λ later after kept. by_reply script later after w (claim_tried row old) reply
      (λ x e. by_found later after x (nat_eq x old) refl e kept))
    where
      by_found : (later : List (Seen A)) (after : Moment A) (x : ℕ) (b : Bool) → nat_eq x old ≡ b
          → reply ≡ answer.Word x
          → HasClaimed script later after.win32 w row
          → ClaimClause script later after w (if b then claim.Claimed row else claim_looked row x)
      by_found later after x true e is kept =
          absurd (other.other (is ∙ ap (λ k. answer.Word k) (eqb-true x old e)))
      by_found later after x false e is kept = looks_on script later after w row x kept

  -- it found the old word: the row is held
  module _ (won : Exchanges now.win32 (main_place row) old n reply turn.mid) where
    mid_lives : (v : ℕ) → is_live_process now.win32 v ≡ true → is_live_process turn.mid v ≡ true
    mid_lives v live = ap (λ ps. is_live (process_of ps v)) won.rest.processes ∙ live

    on : LivesOn claim_posted ClaimGoes script turn.mid w 0 (claim.Holding row old n) reply given next new
    on = by_bool (is_live (process_of turn.mid.processes w)) (λ live m. m)
        (λ dead m. absurd (
        let live = own_lives claim_posted ClaimGoes script past now slot 0
        (claim.Holding row old n) called reply given next
        new sound turn in
        let e : true ≡ false = sym (mid_lives w live) ∙ dead in cc)) turn.goes_on

    acts : IsCalm turn.mid new
    acts =
        let kept = same_bytes (claim.Holding row old n) on.part_after (memory_by turn.mid w) on.own script.setup reply
        on.answer on.went in
        subst (IsCalm turn.mid) (sym on.after) (calm-acts turn.mid w 0 on.own on.posts kept.image kept.cyg)

    calm : AreCalm now.win32 new
    calm v q f alive =
        let at = acts.processes v q f alive in
        (at.0, ap (λ ps. process_of ps v) (sym won.rest.processes) ∙ at.1, at.2, at.3)

    still : (v : ℕ) → is_live_process now.win32 v ≡ true → is_live_process new v ≡ true
    still v live = ap (λ s. is_live_process s v) on.after ∙ live-acts turn.mid w 0 on.own on.posts v (mid_lives v live)

    others : (i : ℕ) → i ≢ main_place row → word_in new i ≡ word_in now.win32 i
    others i d = acts.words i ∙ won.others i d

    is_blank : old ≡ 0
    is_blank = sym won.was ∙ h.blank.main

    held : main_of (main_at new row) ≡ Some (blank Held)
    held = ap main_of (acts.words (main_place row) ∙ won.now)
        ∙ held_word n (subst (λ k. changed_word Hold k ≡ Some n) is_blank word)

    change : ChangesMain now.win32 new row Hold
    change = record {
      from = h.from;
      changed = ap (changed_word Hold) won.was ∙ (word ∙ ap (λ k. Some k)
          (sym (acts.words (main_place row) ∙ won.now)));
      others = others;
    }

    not_live : is_live_word (main_at now.win32 row) ≡ true → ⊥
    not_live live = let e : false ≡ true = sym (ap is_live_word h.blank.main) ∙ live in cc

    abbrev step : Parts A → HistoryStep A
    step parts = turn_step past now (record { win32 = new; parts = parts; posix = now.posix }) slot 0 called reply None

    may : (parts : Parts A) → MayChangeMain (step parts) row Hold
    may parts = record {
      legal = refl;
      small = refl;
      change = change;
      no_claim = ap (λ c. is_claim (Some c)) its_call;
      within = sound.rows.within row w h.claimed;
      own = λ v claimed is_open. (
        ap number_of turn.posted.thread.process ∙ ap (λ k. Some k) (sound.rows.once row w v h.claimed claimed),
        refl,
      );
      image = λ live lives. absurd (not_live live);
      seal = λ live dead. absurd (not_live live);
    }

    shows_row : (r : ℕ) → 1 ≤ r → ShowsRow script (λ q. q.own) new now.posix r
    shows_row r from = elim (cases_eq r row) [
      | inl e ↦ subst (ShowsRow script (λ q. q.own) new now.posix) (sym e)
          (held_shows script new now.posix row
          (blank_absent script now.win32 now.posix row h.blank.main (sound.decodes.rows row h.from)) held)
      | inr d ↦ row-stays script now.win32 new now.posix (calm_shown now.win32 new calm) r
          (others (main_place r) (other_main r row from h.from d))
          (others (group_place r) (no_group r row h.from)) (sound.decodes.rows r from)
    ]

    shows : (parts : Parts A) → ShowsStep script (step parts)
    shows parts = record {
      posix = refl;
      discipline = record {
        creates = λ is. absurd (let e : false ≡ true = sym (ap (λ c. is_create (Some c)) its_call) ∙ is in cc);
        claims = λ is. absurd (let e : false ≡ true = sym (ap (λ c. is_claim (Some c)) its_call) ∙ is in cc);
        claimed = λ is. others 0 (no_exit 0 row h.from);
        above = λ i above. others i (far row script.setup.limits.rows i h.from h.within above);
        modules = λ v m asks acts. absurd (
            let e : true ≡ false = ap is_module (sym asks) ∙ ap (λ c. is_module (Some c)) its_call in cc);
        lives = λ no_end p r known live image. still _ image;
        keys = λ p b. (
          λ keyed. absurd (cc),
          λ takes. absurd (let e : false ≡ true = ap is_plain (sym takes.1.asks) ∙ ap is_plain_call its_call in cc),
        );
      };
      evidence = tt;
      decodes = decodes-rows script now.win32 new now.posix (calm_shown now.win32 new calm)
          (acts.terminal ∙ won.rest.terminal) shows_row sound.decodes;
      facts = record {
        words = main-kept (step parts) row Hold (may parts);
        processes = processes-kept (step parts) calm
            (λ v written. subst (λ c. IsWriteTo now.win32 written.0 c v) its_call written.2)
            (nobody-ends (step parts) (λ no_end v live. still v live));
        host = λ live. still 1 live;
      };
    }

    held_now : (parts : Parts A) → HoldsRow (seen_with (step parts)) new w row
    held_now parts = record {
      claimed = inr h.claimed;
      main = held;
      group = others (group_place row) (no_group row row h.from) ∙ h.blank.group;
      exit = others (exit_place row) (no_exit row row h.from) ∙ h.blank.exit;
    }

    holds : Result
    holds = record {
      told = None;
      given_is = sym (on.told ∙ on.went.event);
      posix = now.posix;
      shows = shows;
      stands = λ parts.
          let is : on.part_after ≡ claim.Claimed row =
          on.went.part ∙ (ap (λ r. by_word claim.Rest (claim_tried row old) r) won.found
          ∙ rw (same old old refl) refl) in
          subst (λ o. MatchOption o (Unit {0}) (λ q. ClaimClause script (seen_with (step parts))
          (record { win32 = new; parts = parts; posix = now.posix }) w q)) (sym on.here)
          (subst (ClaimClause script (seen_with (step parts))
          (record { win32 = new; parts = parts; posix = now.posix }) w)
          (sym is) (held_now parts));
    }

  pub claim-tries : Result
  claim-tries =
      let step : CallStep script now.win32 w 0 (call.CompareExchange 1 (main_place row) old n) reply turn.mid =
      subst (λ c. CallStep script now.win32 w 0 c reply turn.mid) turn.own_call turn.posted.step in
      elim (exchange-cases script now.win32 sound.formed w 1 (main_place row) old n reply turn.mid step) [
        | inl other ↦ lost other
        | inr won ↦ holds won
      ]
