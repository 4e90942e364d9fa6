-- The turns of the starter that only look or wait give what they owe.
use Rattle.std.proofs.Common.{◌≡◌, ◌≢◌, ℕ, ◌<◌, true, false, List, [], ◌∷◌, Option, Some, None, MatchOption, refl, sym}
use Rattle.std.proofs.Common.{ap, ◌∙◌, subst, arith}
use Rattle.w32_base.specs.declared.call.Call.{Call}
use Rattle.w32_base.specs.declared.call.Call.TheVariants as call
use Rattle.w32_base.specs.declared.call.Reply.{Reply}
use Rattle.w32_base.specs.declared.event.Event.{Event}
use Rattle.w32_base.specs.declared.own.Own.{Own}
use Rattle.w32_base.specs.declared.part.After.{After}
use Rattle.w32_base.specs.declared.setup.Setup.{Setup}
use Rattle.script_spec.specs.declared.script.Script.{Script}
use Rattle.win32_spec.specs.Call.{CallStep}
use Rattle.win32_spec.specs.Driven.{Parts}
use Rattle.win32_spec.specs.Handles.{handle_of}
use Rattle.win32_spec.specs.Lookup.{is_live, object_number, object_of, change_process, change_thread, memory_by}
use Rattle.win32_spec.specs.Lookup.{with_own, with_posted}
use Rattle.win32_spec.specs.LookupLaws.{process_of-change_other}
use Rattle.win32_spec.specs.Named.{handles_by, object_at, object_by}
use Rattle.win32_spec.specs.State.{Win32State}
use Rattle.posix_spec.specs.State.{PosixState}
use Rattle.layer_spec.specs.Moment.{Moment, Seen, seen_with}
use Rattle.layer_spec.specs.Turns.{is_live_process}
use Rattle.roster.specs.Turns.{Turn, Went, quietly, section_handle, all_by_word}
use Rattle.world_spec.specs.AnswerLawsTurns.{same_shown}
use Rattle.world_spec.specs.Calm.{IsCalm, is_plain_call}
use Rattle.world_spec.specs.CalmSteps.{calm-same}
use Rattle.world_spec.specs.Owes.{LivesOn, OwnTurn, KeepsTurn}
use Rattle.world_spec.specs.SeenStep.{turn_step}
use Rattle.world_spec.specs.Sound.{IsSoundMoment}
use Rattle.world_spec.specs.TableTurns.{acts-handles}
use Rattle.world_spec.specs.TurnLaws.{quiet-lives, quiet-turn}
use Rattle.world_spec.specs.WaitLaws.{end-waited}
use Rattle.job_control.specs.Starter.{first_handle, starter_posted, starter_woken, starter_after}
use Rattle.job_control.specs.StarterClause.{AwaitsFirst, StarterClause}
use Rattle.job_control.specs.declared.starter.Starter.{Starter}
use Rattle.job_control.specs.declared.starter.Starter.TheVariants as starter

-- where the starter goes: by its table, and the own bytes stay
abbrev pub StarterGoes : Starter → Own → Setup → Reply → Starter → Own → After → Type 0
StarterGoes p old setup reply q new answer = Went (starter_after p reply) old q new answer

abbrev pub starter_thread : Starter → ℕ
starter_thread p = 1

-- what a handle names depends on the objects alone
object_at_same : (s new : Win32State) → new.objects ≡ s.objects → (o : Option ℕ) → object_at new o ≡ object_at s o
object_at_same s new e None = refl
object_at_same s new e (Some names) = ap (λ os. object_of os (object_number names)) e

-- what a thread of process w does after its call leaves what handles are on, and another process that has ended
pub acts-object : (mid : Win32State) (w t : ℕ) (own : Own) (next : Call) (v h : ℕ)
    → object_by (with_posted (with_own mid w own) w t next) v h ≡ object_by mid v h
acts-object mid w t own next v h =
    ap (λ hs. object_at (with_posted (with_own mid w own) w t next) (handle_of hs h)) (acts-handles mid w t own next v)
    ∙ object_at_same mid (with_posted (with_own mid w own) w t next) refl (handle_of (handles_by mid v) h)

pub acts-other : (mid : Win32State) (w t : ℕ) (own : Own) (next : Call) (v : ℕ) → v ≢ w
    → is_live_process (with_posted (with_own mid w own) w t next) v ≡ is_live_process mid v
acts-other mid w t own next v d =
    ap is_live
    (process_of-change_other w
    (λ x. record x { threads = change_thread t (λ y. record y { posted = next }) x.threads }) (λ x. refl)
    (change_process w (λ x. record x { own = own }) mid.processes) v d
    ∙ process_of-change_other w (λ x. record x { own = own }) (λ x. refl) mid.processes v d)

module _ {A : Type 0} (script : Script) (past : List (Seen A)) (now : Moment A) (slot : ℕ) (part : Starter)
    (called : Call) (reply : Reply) (given : Option Event) (next : Option Starter) (new : Win32State)
    (sound : IsSoundMoment script past now)
    (turn : OwnTurn starter_posted StarterGoes script now.win32 slot 1 part called reply given next new) where
  abbrev pub w : ℕ
  w = turn.process.number

  abbrev pub Result : Type 0
  Result = KeepsTurn starter_posted StarterGoes starter_thread StarterClause script past now slot 1 w called reply given
      next new

  -- a turn whose call leaves the state
  module _ (stays : turn.mid ≡ now.win32) (plain : is_plain_call called ≡ true) where
    pub calm : IsCalm now.win32 turn.mid
    calm = calm-same now.win32 turn.mid stays

    pub lives : (v : ℕ) → is_live_process now.win32 v ≡ true → is_live_process turn.mid v ≡ true
    lives v live = ap (λ s. is_live_process s v) stays ∙ live

    pub on : LivesOn starter_posted StarterGoes script turn.mid w 1 part reply given next new
    on = quiet-lives starter_posted StarterGoes script past now slot 1 part called reply given next new sound turn calm
        lives plain

    -- the moment after it, with this POSIX state
    abbrev pub moment : PosixState → Parts A → Moment A
    moment posix parts = record { win32 = new; parts = parts; posix = posix }

    -- what the starter awaits stays so
    pub awaits-on : AwaitsFirst now w → (parts : Parts A) → AwaitsFirst (moment now.posix parts) w
    awaits-on h parts = record {
      host = h.host;
      first = ap (λ s. object_by s 1 first_handle) on.after
          ∙ (acts-object turn.mid w 1 on.own on.posts 1 first_handle
          ∙ (ap (λ s. object_by s 1 first_handle) stays ∙ h.first));
      given = subst (λ n. 2 < n)
          (sym (ap (λ (s : Win32State). s.next) on.after ∙ ap (λ (s : Win32State). s.next) stays)) h.given;
      unread = h.unread;
    }

    pub ended-on : AwaitsFirst now w → is_live_process now.win32 2 ≡ false → is_live_process new 2 ≡ false
    ended-on h dead =
        ap (λ s. is_live_process s 2) on.after
        ∙ (acts-other turn.mid w 1 on.own on.posts 2 (λ e. omega (arith, e, h.host))
        ∙ (ap (λ s. is_live_process s 2) stays ∙ dead))

    -- where the table gives no event, the clause is left
    pub goes-on : (q : Starter) → starter_after part reply ≡ quietly q
        → ((later : List (Seen A)) (parts : Parts A) → StarterClause later (moment now.posix parts) w q) → Result
    goes-on q is stands = record {
      told = None;
      given_is = sym (on.told ∙ (on.went.event ∙ ap (λ (t : Turn Starter). t.event) is));
      posix = now.posix;
      shows = quiet-turn starter_posted StarterGoes script past now slot 1 part called reply given next new sound turn
          calm lives plain (λ p own answer went. same_shown (memory_by turn.mid w) own went.own);
      stands = λ parts.
          let later = seen_with (turn_step past now (moment now.posix parts) slot 1 called reply None) in
          subst (λ o. MatchOption o (Unit {0}) (λ p. StarterClause later (moment now.posix parts) w p)) (sym on.here)
          (subst (StarterClause later (moment now.posix parts) w)
          (sym (on.went.part ∙ ap (λ (t : Turn Starter). t.part) is)) (stands later parts));
    }

  -- its posted call
  pub its-step : (c : Call) → starter_posted part ≡ c → CallStep script now.win32 w 1 c reply turn.mid
  its-step c is = subst (λ x. CallStep script now.win32 w 1 x reply turn.mid) (turn.own_call ∙ is) turn.posted.step

  pub its-plain : (c : Call) → starter_posted part ≡ c → is_plain_call c ≡ true → is_plain_call called ≡ true
  its-plain c is plain = ap is_plain_call (turn.called_is ∙ (turn.own_call ∙ is)) ∙ plain

  -- The look at the number of rows.
  pub opening-turn : part ≡ starter.Opening → AwaitsFirst now w → Result
  opening-turn is h =
      let step = its-step (call.Load section_handle 0) (ap starter_posted is) in
      let plain = its-plain (call.Load section_handle 0) (ap starter_posted is) refl in
      all_by_word (λ (t : Turn Starter) r. reply ≡ r → starter_after part reply ≡ t → Result) (quietly starter.Rest)
      (λ n. quietly starter.Waiting)
      (λ r e by. goes-on step.1 plain starter.Rest by (λ later parts. tt))
      (λ n e by. goes-on step.1 plain starter.Waiting by (λ later parts. awaits-on step.1 plain h parts))
      reply refl (ap (λ p. starter_after p reply) is)

  -- The wait for the end of the first process.
  pub waiting-turn : part ≡ starter.Waiting → AwaitsFirst now w → Result
  waiting-turn is h =
      let step = its-step (call.WaitAny (first_handle ∷ [])) (ap starter_posted is) in
      let plain = its-plain (call.WaitAny (first_handle ∷ [])) (ap starter_posted is) refl in
      let waited = end-waited script now.win32 sound.formed w 1 first_handle 2 reply turn.mid
      (ap (λ k. object_by now.win32 k first_handle) h.host ∙ h.first) step in
      goes-on waited.1 plain starter.Asking
      (ap (λ p. starter_after p reply) is ∙ ap (λ r. quietly (starter_woken r)) waited.0)
      (λ later parts. (awaits-on waited.1 plain h parts, ended-on waited.1 plain h waited.2))
