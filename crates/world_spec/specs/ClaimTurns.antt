-- A claim's turns: the look at the row, and the compare-exchange by which it becomes held, give what they owe.
use Rattle.std.proofs.Common.{◌≡◌, inr, ℕ, true, List, Option}
use Rattle.std.proofs.Common.{Some, None, MatchOption, refl, sym, ap, ◌∙◌, subst}
use Rattle.w32_base.specs.declared.call.Call.{Call}
use Rattle.w32_base.specs.declared.call.Call.TheVariants as call
use Rattle.w32_base.specs.declared.call.Reply.{Reply}
use Rattle.w32_base.specs.declared.call.Reply.TheVariants as reply
use Rattle.w32_base.specs.declared.event.Event.{Event}
use Rattle.w32_base.specs.declared.own.Own.{Own}
use Rattle.w32_base.specs.declared.part.After.{After}
use Rattle.w32_base.specs.declared.setup.Setup.{Setup}
use Rattle.script_spec.specs.declared.script.Script.{Script}
use Rattle.win32_spec.specs.Call.{CallStep}
use Rattle.win32_spec.specs.Lookup.{memory_by}
use Rattle.win32_spec.specs.State.{Win32State}
use Rattle.layer_spec.specs.Moment.{Moment, Seen, seen_with}
use Rattle.layer_spec.specs.Rows.{main_place, group_place, exit_place}
use Rattle.layer_spec.specs.Transitions.{Hold}
use Rattle.layer_spec.specs.Turns.{is_live_process}
use Rattle.layer_spec.specs.Words.{word_in}
use Rattle.roster.specs.Claim.{claim_posted, claim_held, claim_looked, claim_after}
use Rattle.roster.specs.declared.claim.Claim.{Claim}
use Rattle.roster.specs.declared.claim.Claim.TheVariants as claim
use Rattle.roster.specs.Turns.{Went, quietly, by_word}
use Rattle.roster.specs.Words.{changed_word}
use Rattle.world_spec.specs.Calm.{IsCalm, is_plain_call}
use Rattle.world_spec.specs.CalmSteps.{calm-same}
use Rattle.world_spec.specs.ClaimClause.{HasClaimed, ClaimClause}
use Rattle.world_spec.specs.Owes.{OwnTurn, KeepsTurn}
use Rattle.world_spec.specs.SeenStep.{turn_step}
use Rattle.world_spec.specs.Sound.{IsSoundMoment}
use Rattle.world_spec.specs.TurnLaws.{KeepsShown, quiet-lives, quiet-turn}

-- where a claim goes: by its table, and the own bytes stay
abbrev pub ClaimGoes : Claim → Own → Setup → Reply → Claim → Own → After → Type 0
ClaimGoes p old setup reply q new answer = Went (quietly (claim_after setup p reply)) old q new answer

abbrev pub claim_thread : Claim → ℕ
claim_thread p = 0

pub same_bytes : (p q : Claim) (old new : Own) (setup : Setup) (reply : Reply) (answer : After)
    → ClaimGoes p old setup reply q new answer → KeepsShown old new
same_bytes p q old new setup reply answer went = record {
  image = record {
    dat = ap (λ o. o.dat) went.own;
    heap = ap (λ o. o.heap) went.own;
    stack = ap (λ o. o.stack) went.own;
  };
  cyg = ap (λ o. o.cyg) went.own;
}

-- After a look at a row that was claimed, it tries to hold it with the word that it found.
pub looks_on : {A : Type 0} → (script : Script) (past : List (Seen A)) (now : Moment A) (w row x : ℕ)
    → HasClaimed script past now.win32 w row → ClaimClause script past now w (claim_looked row x)
looks_on script past now w row x h = by_held (changed_word Hold x) refl
  where
    by_held : (o : Option ℕ) → changed_word Hold x ≡ o → ClaimClause script past now w (claim_held row x o)
    by_held None e = tt
    by_held (Some new) e = (h, e)

pub by_reply : {A : Type 0} → (script : Script) (past : List (Seen A)) (now : Moment A) (w : ℕ) (f : ℕ → Claim)
    (r : Reply)
    → ((x : ℕ) → r ≡ reply.Word x → ClaimClause script past now w (f x))
    → ClaimClause script past now w (by_word claim.Rest f r)
by_reply script past now w f (reply.Word x) h = h x refl
by_reply script past now w f r h = tt

module _ {A : Type 0} (script : Script) (past : List (Seen A)) (now : Moment A) (slot row : ℕ) (called : Call)
    (reply : Reply)
    (given : Option Event) (next : Option Claim) (new : Win32State) (sound : IsSoundMoment script past now) where
  -- a calm turn of a claim from a row that it has claimed
  pub quiet : (part : Claim)
      → (turn : OwnTurn claim_posted ClaimGoes script now.win32 slot 0 part called reply given next new)
      → HasClaimed script past now.win32 turn.process.number row
      → IsCalm now.win32 turn.mid
      → ((v : ℕ) → is_live_process now.win32 v ≡ true → is_live_process turn.mid v ≡ true)
      → is_plain_call called ≡ true
      → ((later : List (Seen A)) (after : Moment A) → HasClaimed script later after.win32 turn.process.number row
      → ClaimClause script later after turn.process.number (claim_after script.setup part reply))
      → KeepsTurn claim_posted ClaimGoes claim_thread (ClaimClause script) script past now slot 0 turn.process.number
      called
      reply given next new
  quiet part turn h calm lives plain clause =
      let on = quiet-lives claim_posted ClaimGoes script past now slot 0 part called reply given next new sound turn
      calm
      lives plain in
      let shows = quiet-turn claim_posted ClaimGoes script past now slot 0 part called reply given next new sound turn
      calm
      lives plain
      (λ q own answer went. same_bytes part q (memory_by turn.mid turn.process.number) own script.setup reply answer
      went) in
      let words : (i : ℕ) → word_in new i ≡ word_in now.win32 i = λ i. ap (λ s. word_in s i) on.after ∙ calm.words i in
      record {
        told = None;
        given_is = sym (on.told ∙ on.went.event);
        posix = now.posix;
        shows = shows;
        stands = λ parts.
            let step = turn_step past now (record { win32 = new; parts = parts; posix = now.posix }) slot 0 called reply
            None in
            let kept : HasClaimed script (seen_with step) new turn.process.number row = record {
              from = h.from;
              within = h.within;
              claimed = inr h.claimed;
              blank = record {
                main = words (main_place row) ∙ h.blank.main;
                group = words (group_place row) ∙ h.blank.group;
                exit = words (exit_place row) ∙ h.blank.exit;
              };
            } in
            subst (λ o. MatchOption o (Unit {0}) (λ q. ClaimClause script (seen_with step)
            (record { win32 = new; parts = parts; posix = now.posix }) turn.process.number q)) (sym on.here)
            (subst (ClaimClause script (seen_with step) (record { win32 = new; parts = parts; posix = now.posix })
            turn.process.number) (sym on.went.part)
            (clause (seen_with step) (record { win32 = new; parts = parts; posix = now.posix }) kept));
      }

  -- The look at the row.
  pub claim-looks : (turn : OwnTurn claim_posted ClaimGoes script now.win32 slot 0
      (claim.Looking row) called reply given next
      new) → ClaimClause script past now turn.process.number (claim.Looking row)
      → KeepsTurn claim_posted ClaimGoes claim_thread (ClaimClause script) script past now slot 0 turn.process.number
      called
      reply given next new
  claim-looks turn h =
      let step : CallStep script now.win32 turn.process.number 0 (call.Load 1 (main_place row)) reply turn.mid =
      subst (λ c. CallStep script now.win32 turn.process.number 0 c reply turn.mid) turn.own_call turn.posted.step in
      quiet (claim.Looking row) turn h (calm-same now.win32 turn.mid step.1)
      (λ v live. ap (λ s. is_live_process s v) step.1 ∙ live)
      (ap is_plain_call (turn.called_is ∙ turn.own_call))
      (λ later after kept. by_reply script later after turn.process.number (claim_looked row) reply
      (λ x e. looks_on script later after turn.process.number row x kept))
