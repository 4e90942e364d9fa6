-- A turn without an event of a part that goes by a table and leaves the own bytes as they are: where the call makes a
-- steady change, the part is left with its own clause, and with it come what of the state is as the call left it.
use Rattle.std.proofs.Common.{◌≡◌, inl, inr, ℕ, ◌+◌, true, List, Option, Some, None, MatchOption, refl, sym, ap, ◌∙◌}
use Rattle.std.proofs.Common.{subst}
use Rattle.std.proofs.lemmas.Bool.{cases_eq}
use Rattle.w32_base.specs.declared.call.Call.{Call}
use Rattle.w32_base.specs.declared.call.Reply.{Reply}
use Rattle.w32_base.specs.declared.event.Event.{Event}
use Rattle.w32_base.specs.declared.own.Own.{Own}
use Rattle.w32_base.specs.declared.part.After.{After}
use Rattle.w32_base.specs.declared.setup.Setup.{Setup}
use Rattle.script_spec.specs.declared.script.Script.{Script}
use Rattle.win32_spec.specs.Driven.{Parts}
use Rattle.win32_spec.specs.Lookup.{process_of, change_process, change_thread, memory_by, with_own, with_posted}
use Rattle.win32_spec.specs.LookupLaws.{process_of-change_same, process_of-change_other, process_of-change_none}
use Rattle.win32_spec.specs.Named.{handles_of, handles_by}
use Rattle.win32_spec.specs.State.{Process, Win32State}
use Rattle.layer_spec.specs.Moment.{Moment, Seen, HistoryStep, seen_with}
use Rattle.layer_spec.specs.Rows.{main_place, exit_place}
use Rattle.layer_spec.specs.Words.{word_in}
use Rattle.posix_spec.specs.State.{record_of}
use Rattle.roster.specs.Turns.{Went, quietly}
use Rattle.roster.specs.Words.{is_live_word}
use Rattle.layer_spec.specs.Decoding.{main_image}
use Rattle.world_spec.specs.AnswerLaws.{unmarked-kept}
use Rattle.world_spec.specs.Calm.{is_plain_call}
use Rattle.world_spec.specs.Notes.{IsBetweenCalls}
use Rattle.world_spec.specs.Owes.{LivesOn, OwnTurn, KeepsTurn}
use Rattle.world_spec.specs.SeenStep.{turn_step}
use Rattle.world_spec.specs.Sound.{IsSoundMoment}
use Rattle.world_spec.specs.Steady.{MakesSteady}
use Rattle.world_spec.specs.TurnLaws.{goes-on, steady-turn}

-- a change of processes that leaves handles alone
pub handles-changed : (w : ℕ) (f : Process → Process) → ((p : Process) → (f p).number ≡ p.number)
    → ((p : Process) → (f p).handles ≡ p.handles) → (ps : List Process) (v : ℕ)
    → handles_of (process_of (change_process w f ps) v) ≡ handles_of (process_of ps v)
handles-changed w f number handles ps v = elim (cases_eq v w) [
  | inl same ↦
      ap (λ k. handles_of (process_of (change_process w f ps) k)) same
      ∙ (by_answer (process_of ps w) refl ∙ ap (λ k. handles_of (process_of ps k)) (sym same))
  | inr apart ↦ ap handles_of (process_of-change_other w f number ps v apart)
]
  where
    by_answer : (o : Option Process) → process_of ps w ≡ o
        → handles_of (process_of (change_process w f ps) w) ≡ handles_of (process_of ps w)
    by_answer None e = ap handles_of (process_of-change_none w f ps e ∙ sym e)
    by_answer (Some p) e =
        ap handles_of (process_of-change_same w f number ps p e) ∙ (handles p ∙ ap handles_of (sym e))

-- What a thread does after its call leaves all handles alone.
pub acts-handles : (mid : Win32State) (w t : ℕ) (own : Own) (next : Call) (v : ℕ)
    → handles_by (with_posted (with_own mid w own) w t next) v ≡ handles_by mid v
acts-handles mid w t own next v =
    handles-changed w (λ x. record x { threads = change_thread t (λ y. record y { posted = next }) x.threads })
    (λ x. refl) (λ x. refl) (change_process w (λ x. record x { own = own }) mid.processes) v
    ∙ handles-changed w (λ x. record x { own = own }) (λ x. refl) (λ x. refl) mid.processes v

-- Where no word changes and the POSIX state stays, a main thread between two calls stays so.
pub between-quiet : {A : Type 0} → (now after : Moment A) (w row : ℕ)
    → ((i : ℕ) → word_in after.win32 i ≡ word_in now.win32 i) → after.posix ≡ now.posix → IsBetweenCalls now w row
    → IsBetweenCalls after w row
between-quiet now after w row words posix h = record {
  own = record {
    from = h.own.from;
    live = ap is_live_word (words (main_place row)) ∙ h.own.live;
    image = ap main_image (words (main_place row)) ∙ h.own.image;
  };
  noted = h.noted;
  found = ap (λ p. record_of p (row + 1)) posix ∙ h.found;
  call = h.call;
  blocked = h.blocked;
  unmarked = unmarked-kept now.win32 after.win32 row (words (exit_place row)) (words (main_place row)) h.unmarked;
}

module _ {A P : Type 0} (posted_of : P → Call) (table : Setup → P → Own → Reply → P) (thread_of_part : P → ℕ)
    (clause : List (Seen A) → Moment A → ℕ → P → Type 0) (script : Script) where
  -- where such a part goes
  abbrev pub TableGoes : P → Own → Setup → Reply → P → Own → After → Type 0
  TableGoes p old setup reply q new answer = Went (quietly (table setup p old reply)) old q new answer

  module _ (past : List (Seen A)) (now : Moment A) (slot t : ℕ) (part : P) (called : Call) (reply : Reply)
      (given : Option Event) (next : Option P) (new : Win32State) (sound : IsSoundMoment script past now)
      (turn : OwnTurn posted_of TableGoes script now.win32 slot t part called reply given next new)
      (makes : MakesSteady past now.win32 slot t turn.mid) where
    on : LivesOn posted_of TableGoes script turn.mid turn.process.number t part reply given next new
    on = goes-on posted_of TableGoes script past now slot t part called reply given next new sound turn makes.lives

    -- the words are as before the turn, and handles and objects as the call left them; the process lives on
    pub table-words : (i : ℕ) → word_in new i ≡ word_in now.win32 i
    table-words i = ap (λ s. word_in s i) on.after ∙ makes.steady.words i

    pub table-handles : (v : ℕ) → handles_by new v ≡ handles_by turn.mid v
    table-handles v =
        ap (λ s. handles_by s v) on.after ∙ acts-handles turn.mid turn.process.number t on.own on.posts v

    pub table-objects : new.objects ≡ turn.mid.objects
    table-objects = ap (λ (s : Win32State). s.objects) on.after

    -- the moment after it
    abbrev pub after_turn : Parts A → Moment A
    after_turn parts = record { win32 = new; parts = parts; posix = now.posix }

    abbrev pub step_taken : Parts A → HistoryStep A
    step_taken parts = turn_step past now (after_turn parts) slot t called reply None

    pub table-turn : is_plain_call called ≡ true
        → ((parts : Parts A) → clause (seen_with (step_taken parts)) (after_turn parts) turn.process.number
        (table script.setup part (memory_by turn.mid turn.process.number) reply))
        → KeepsTurn posted_of TableGoes thread_of_part clause script past now slot t turn.process.number called reply
        given next new
    table-turn plain stands = record {
      told = None;
      given_is = sym (on.told ∙ on.went.event);
      posix = now.posix;
      shows = steady-turn posted_of TableGoes script past now slot t part called reply given next new sound turn
          makes.lives makes.steady plain (λ q own answer went. record {
            image = record {
              dat = ap (λ (o : Own). o.dat) went.own;
              heap = ap (λ (o : Own). o.heap) went.own;
              stack = ap (λ (o : Own). o.stack) went.own;
            };
            cyg = ap (λ (o : Own). o.cyg) went.own;
          });
      stands = λ parts.
          subst (λ o. MatchOption o (Unit {0})
          (λ q. clause (seen_with (step_taken parts)) (after_turn parts) turn.process.number q)) (sym on.here)
          (subst (clause (seen_with (step_taken parts)) (after_turn parts) turn.process.number) (sym on.went.part)
          (stands parts));
    }
