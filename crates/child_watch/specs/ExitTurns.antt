-- The turns of the end of a process: what all of them share.
use Rattle.std.proofs.Common.{◌≡◌, ◌≢◌, ℕ, ◌+◌, ◌≤◌, true, false, List, ◌∷◌, Option, Some, None, MatchOption, inr}
use Rattle.std.proofs.Common.{refl, sym, ap, ◌∙◌, subst, arith}
use Rattle.w32_base.specs.declared.call.Call.{Call}
use Rattle.w32_base.specs.declared.call.Call.TheVariants as call
use Rattle.w32_base.specs.declared.call.Reply.{Reply}
use Rattle.w32_base.specs.declared.event.Event.{Event}
use Rattle.w32_base.specs.declared.event.Event.TheVariants as event
use Rattle.w32_base.specs.declared.own.Own.{Own}
use Rattle.w32_base.specs.declared.part.After.{After}
use Rattle.w32_base.specs.declared.setup.Setup.{Setup}
use Rattle.script_spec.specs.declared.script.Script.{Script}
use Rattle.win32_spec.specs.Driven.{Parts}
use Rattle.win32_spec.specs.FormedLaws.{live_found}
use Rattle.win32_spec.specs.Effects.{IsWriteTo}
use Rattle.win32_spec.specs.Handles.{handle_of}
use Rattle.win32_spec.specs.Lookup.{process_of, is_live, memory_of, memory_by, terminal_in, object_number, object_of}
use Rattle.win32_spec.specs.Named.{handles_of, named_by, object_at}
use Rattle.win32_spec.specs.State.{Win32State}
use Rattle.posix_spec.specs.Run.{PosixStep}
use Rattle.posix_spec.specs.State.{Record, PosixState, record_of}
use Rattle.posix_spec.specs.WellFormed as posix
use Rattle.layer_spec.specs.Decodes.{Decodes}
use Rattle.layer_spec.specs.Decoding.{main_image}
use Rattle.layer_spec.specs.Discipline.{is_create, is_claim, is_exchange, is_module, KeepsDiscipline}
use Rattle.layer_spec.specs.Evidence.{HasEvidence}
use Rattle.layer_spec.specs.History.{given_of}
use Rattle.layer_spec.specs.Moment.{Moment, Seen, HistoryStep, seen_with}
use Rattle.layer_spec.specs.Rows.{main_place, exit_place}
use Rattle.layer_spec.specs.Turns.{is_live_process}
use Rattle.layer_spec.specs.Words.{word_in}
use Rattle.roster.specs.Roster.{HoldsRoster}
use Rattle.roster.specs.Turns.{Turn, Went, roster_handle}
use Rattle.roster.specs.Words.{is_live_word}
use Rattle.world_spec.specs.Calm.{AreCalm, is_plain_call}
use Rattle.world_spec.specs.CalmLaws.{calm_shown, nobody-ends, processes-kept}
use Rattle.world_spec.specs.DecodesLaws.{AreShownTheSame}
use Rattle.world_spec.specs.ExchangeLaws.{KeepsRest}
use Rattle.world_spec.specs.ExchangeTurns.{turn-on, turn-still, turn-calm, turn-terminal, turn-words}
use Rattle.world_spec.specs.Facts.{KeepsWords}
use Rattle.world_spec.specs.MutexLaws.{KeepsAll, kept-calm}
use Rattle.world_spec.specs.Owes.{LivesOn, OwnTurn, KeepsTurn}
use Rattle.world_spec.specs.SeenStep.{ShowsStep, turn_step}
use Rattle.world_spec.specs.Sound.{IsSoundMoment}
use Rattle.world_spec.specs.TurnLaws.{KeepsShown, quiet-turn, own_lives}
use Rattle.child_watch.specs.declared.ending.Ending.{Ending}
use Rattle.child_watch.specs.declared.exiting.ExitStep.{ExitStep}
use Rattle.child_watch.specs.declared.exiting.Exiting.{Exiting}
use Rattle.child_watch.specs.Exiting.{exit_posted, exit_step_after, exit_after, listed_child}
use Rattle.child_watch.specs.ExitClause.{is_ended_word, IsToEnd, HasDied, ExitStepClause, ExitClause}

-- where the end goes: by its table, and the own bytes stay
abbrev pub ExitGoes : Exiting → Own → Setup → Reply → Exiting → Own → After → Type 0
ExitGoes p old setup reply q new answer = Went (exit_after p old reply) old q new answer

abbrev pub exit_thread : Exiting → ℕ
exit_thread p = 0

pub exit_shown : (p q : Exiting) (old new : Own) (setup : Setup) (reply : Reply) (answer : After)
    → ExitGoes p old setup reply q new answer → KeepsShown old new
exit_shown p q old new setup reply answer went = record {
  image = record {
    dat = ap (λ o. o.dat) went.own;
    heap = ap (λ o. o.heap) went.own;
    stack = ap (λ o. o.stack) went.own;
  };
  cyg = ap (λ o. o.cyg) went.own;
}

-- A compare-exchange of one word of the script's rows keeps the discipline.
pub exchange-discipline : {A : Type 0} → (script : Script) (step : HistoryStep A) (i old n : ℕ)
    → step.entry.call ≡ Some (call.CompareExchange 1 i old n) → 1 ≤ i → i ≤ exit_place script.setup.limits.rows
    → ((j : ℕ) → j ≢ i → word_in step.after.win32 j ≡ word_in step.before.win32 j)
    → ((v : ℕ) → is_live_process step.before.win32 v ≡ true → is_live_process step.after.win32 v ≡ true)
    → ((p b : ℕ) → step.entry.event ≡ Some (event.Key p b) → ⊥) → KeepsDiscipline script step
exchange-discipline script step i old n asks from within others still keyless = record {
  creates = λ is. absurd (let e : false ≡ true = sym (ap is_create asks) ∙ is in cc);
  claims = λ is. absurd (let e : false ≡ true = sym (ap is_claim asks) ∙ is in cc);
  claimed = λ is. others 0 (λ e. omega (arith, e, from));
  above = λ j far. others j (λ e. omega (arith, e, far, within));
  modules = λ v m other acts. absurd (let e : true ≡ false = ap is_module (sym other) ∙ ap is_module asks in cc);
  lives = λ no_end p r known live image. still _ image;
  keys = λ p b. (
    λ keyed. absurd (keyless p b keyed),
    λ takes. absurd (let e : false ≡ true = ap is_exchange (sym takes.1.asks) ∙ ap is_exchange asks in cc),
  );
}

module _ {A : Type 0} (script : Script) (past : List (Seen A)) (now : Moment A) (slot : ℕ) (part : Exiting)
    (called : Call)
    (reply : Reply) (given : Option Event) (next : Option Exiting) (new : Win32State)
    (sound : IsSoundMoment script past now)
    (turn : OwnTurn exit_posted ExitGoes script now.win32 slot 0 part called reply given next new) where
  -- what the turn is to give
  abbrev pub ExitResult : Type 0
  ExitResult = KeepsTurn exit_posted ExitGoes exit_thread (ExitClause script) script past now slot 0 turn.process.number
      called reply given next new

  -- the moment after it, and the step
  abbrev pub exit_moment : Parts A → PosixState → Moment A
  exit_moment parts posix = record { win32 = new; parts = parts; posix = posix }

  abbrev pub exit_entry : Option Event → Parts A → PosixState → HistoryStep A
  exit_entry told parts posix = turn_step past now (exit_moment parts posix) slot 0 called reply told

  -- where the table leads
  abbrev pub exit_to : Turn ExitStep
  exit_to = exit_step_after part.row part.ending part.step (memory_by turn.mid turn.process.number) reply

  abbrev pub ExitStands : Option Event → PosixState → Type 0
  ExitStands told posix = (parts : Parts A) → ExitStepClause script (seen_with (exit_entry told parts posix))
      (exit_moment parts posix) turn.process.number part.row part.image part.ending exit_to.part

  module _ (kept : KeepsRest now.win32 turn.mid) where
    exit-on : LivesOn exit_posted ExitGoes script turn.mid turn.process.number 0 part reply given next new
    exit-on = turn-on exit_posted ExitGoes script past now slot 0 part called reply given next new sound turn kept

    pub exit-still : (v : ℕ) → is_live_process now.win32 v ≡ true → is_live_process new v ≡ true
    exit-still = turn-still exit_posted ExitGoes script past now slot 0 part called reply given next new sound turn kept

    keeps : (q : Exiting) (own : Own) (answer : After)
        → ExitGoes part (memory_by turn.mid turn.process.number) script.setup reply q own answer
        → KeepsShown (memory_by turn.mid turn.process.number) own
    keeps q own answer went =
        exit_shown part q (memory_by turn.mid turn.process.number) own script.setup reply answer went

    -- the own cygheap is as before
    pub exit-cyg : (memory_by new turn.process.number).cyg ≡ (memory_by now.win32 turn.process.number).cyg
    exit-cyg =
        let live = exit-still turn.process.number
        (own_lives exit_posted ExitGoes script past now slot 0 part called reply given next new sound turn) in
        let q = live_found (process_of new.processes turn.process.number) live in
        let p = turn-calm exit_posted ExitGoes script past now slot 0 part called reply given next new sound turn
        kept keeps
        turn.process.number q.0 q.1 q.2 in
        ap (λ o. let m : Own = memory_of o in m.cyg) q.1
        ∙ (p.3.cyg ∙ sym (ap (λ o. let m : Own = memory_of o in m.cyg) p.1))

    calm : AreCalm now.win32 new
    calm = turn-calm exit_posted ExitGoes script past now slot 0 part called reply given next new sound turn kept keeps

    -- rows and images show the same of all processes, and the words are those after the call
    pub exit-same : AreShownTheSame now.win32 new
    exit-same = calm_shown now.win32 new calm

    pub exit-terminal : terminal_in new.objects ≡ terminal_in now.win32.objects
    exit-terminal =
        turn-terminal exit_posted ExitGoes script past now slot 0 part called reply given next new sound turn kept keeps

    pub exit-words : (i : ℕ) → word_in new i ≡ word_in turn.mid i
    exit-words =
        turn-words exit_posted ExitGoes script past now slot 0 part called reply given next new sound turn kept keeps

    -- handle 2 names the same, so who holds the roster mutex after the call holds it after the turn
    named_on : named_by new turn.process.number roster_handle ≡ named_by turn.mid turn.process.number roster_handle
    named_on =
        let live = exit-still turn.process.number
        (own_lives exit_posted ExitGoes script past now slot 0 part called reply given next new sound turn) in
        let q = live_found (process_of new.processes turn.process.number) live in
        let p = calm turn.process.number q.0 q.1 q.2 in
        ap (λ o. handle_of (handles_of o) roster_handle) q.1
        ∙ (p.3.roster ∙ (sym (ap (λ o. handle_of (handles_of o) roster_handle) p.1)
        ∙ ap (λ ps. handle_of (handles_of (process_of ps turn.process.number)) roster_handle) (sym kept.processes)))

    pub exit-holds : HoldsRoster turn.mid turn.process.number 0 → HoldsRoster new turn.process.number 0
    exit-holds holds =
        ap (object_at new) named_on
        ∙ (same_objects (named_by turn.mid turn.process.number roster_handle) ∙ holds)
      where
        same_objects : (o : Option ℕ) → object_at new o ≡ object_at turn.mid o
        same_objects None = refl
        same_objects (Some names) = ap (λ (n : Win32State). object_of n.objects (object_number names)) exit-on.after

    -- What is to show of a compare-exchange that changed one word: the POSIX step, the evidence, what rows and images
    -- show after it, and the facts of the words.
    pub exit-shows : (told : Option Event) (posix : PosixState) (parts : Parts A) (i old n : ℕ)
        → called ≡ call.CompareExchange 1 i old n → 1 ≤ i → i ≤ exit_place script.setup.limits.rows
        → ((j : ℕ) → j ≢ i → word_in turn.mid j ≡ word_in now.win32 j)
        → ((p b : ℕ) → told ≡ Some (event.Key p b) → ⊥)
        → MatchOption told (posix ≡ now.posix) (λ e. PosixStep script now.posix e posix)
        → MatchOption told (Unit {0}) (λ e. HasEvidence script (exit_entry told parts posix) e)
        → Decodes script new posix → KeepsWords (exit_entry told parts posix)
        → ShowsStep script (exit_entry told parts posix)
    exit-shows told posix parts i old n asks from within others keyless moves evidence decodes words = record {
      posix = moves;
      discipline = exchange-discipline script (exit_entry told parts posix) i old n (ap (λ c. Some c) asks) from within
          (λ j d. exit-words j ∙ others j d) exit-still keyless;
      evidence = evidence;
      decodes = decodes;
      facts = record {
        words = words;
        processes = processes-kept (exit_entry told parts posix) calm
            (λ v written. subst (λ c. IsWriteTo now.win32 written.0 c v) asks written.2)
            (nobody-ends (exit_entry told parts posix) (λ no_end v live. exit-still v live));
        host = λ live. exit-still 1 live;
      };
    }

    -- A turn gives what it owes by what it shows, and by the clause of the step to which the table leads.
    pub exit-turn : (told : Option Event) (posix : PosixState) → exit_to.event ≡ told → given_of told ≡ told
        → ((parts : Parts A) → ShowsStep script (exit_entry told parts posix)) → ExitStands told posix → ExitResult
    exit-turn told posix event same shows stands = record {
      told = told;
      given_is = same ∙ sym (exit-on.told ∙ (exit-on.went.event ∙ event));
      posix = posix;
      shows = shows;
      stands = λ parts.
          subst (λ o. MatchOption o (Unit {0}) (λ q. ExitClause script (seen_with (exit_entry told parts posix))
          (exit_moment parts posix) turn.process.number q)) (sym exit-on.here)
          (subst (ExitClause script (seen_with (exit_entry told parts posix)) (exit_moment parts posix)
          turn.process.number) (sym exit-on.went.part) (stands parts));
    }

  -- A turn without an event whose call leaves words, terminal and processes as they are owes its clause alone.
  pub exit-quiet : KeepsAll now.win32 turn.mid → is_plain_call called ≡ true → exit_to.event ≡ None
      → ExitStands None now.posix → ExitResult
  exit-quiet kept plain event stands = exit-turn kept.rest None now.posix event refl
      (quiet-turn exit_posted ExitGoes script past now slot 0 part called reply given next new sound turn
      (kept-calm now.win32 turn.mid kept)
      (λ v live. ap (λ ps. is_live (process_of ps v)) kept.rest.processes ∙ live) plain (keeps kept.rest)) stands

-- What is known before the seal is known where words and record are as before.
pub to-end-on : {A : Type 0} → (script : Script) (now : Moment A) (new : Win32State) (parts : Parts A) (w row image : ℕ)
    (e : Ending) → word_in new (main_place row) ≡ word_in now.win32 (main_place row)
    → IsToEnd script now w row image e
    → IsToEnd script (record { win32 = new; parts = parts; posix = now.posix }) w row image e
to-end-on script now new parts w row image e same h = record {
  names = h.names;
  next = h.next;
  at = record {
    own = record {
      from = h.at.own.from;
      live = ap is_live_word same ∙ h.at.own.live;
      image = ap main_image same ∙ h.at.own.image;
    };
    noted = h.at.noted;
    found = h.at.found;
    call = h.at.call;
    blocked = h.at.blocked;
    runs = h.at.runs;
    not_due = h.at.not_due;
    next_is = h.at.next_is;
  };
  ends = h.ends;
}

-- So is what is known after it, where the own cygheap is too.
pub died-on : {A : Type 0} → (past : List (Seen A)) (now : Moment A) (x : Seen A) (new : Win32State) (parts : Parts A)
    (w row : ℕ) (e : Ending) → ((i : ℕ) → word_in new i ≡ word_in now.win32 i)
    → (memory_by new w).cyg ≡ (memory_by now.win32 w).cyg → HasDied past now w row e
    → HasDied (x ∷ past) (record { win32 = new; parts = parts; posix = now.posix }) w row e
died-on past now x new parts w row e same cyg h = record {
  from = h.from;
  ended = ap is_ended_word (same (main_place row)) ∙ h.ended;
  small = h.small;
  first = h.first;
  layer = h.layer;
  named = inr h.named;
  unnamed = λ r from live names. h.unnamed r from (ap is_live_word (sym (same (main_place r))) ∙ live)
      (ap main_image (sym (same (main_place r))) ∙ names);
  listed = λ place c listed. h.listed place c (ap (λ bytes. listed_child bytes place) (sym cyg) ∙ listed);
}

-- the row of a process of a well-formed state is one of the script's
pub row-within : (script : Script) (p : PosixState) → posix.IsWellFormed script p → (row : ℕ) (r : Record)
    → record_of p (row + 1) ≡ Some r → row ≤ script.setup.limits.rows
row-within script p formed row r found =
    let at = formed.each (row + 1) r found in
    let bound = formed.numbers (row + 1) at.numbers.number in omega (arith, bound.1)
