-- A part that runs another part as a piece: its turns give what they owe by what the piece's turns give. So the sum of
-- the parts of a thread owes nothing that its parts don't give.
use Rattle.std.proofs.Common.{◌≡◌, ℕ, true, false, List, ◌∷◌, Option, Some, None, MatchOption, refl, sym}
use Rattle.std.proofs.Common.{◌∙◌, subst}
use Rattle.w32_base.specs.declared.call.Call.{Call}
use Rattle.w32_base.specs.declared.call.Reply.{Reply}
use Rattle.w32_base.specs.declared.entry.Directive.TheVariants as directive
use Rattle.w32_base.specs.declared.entry.Outcome.TheVariants as outcome
use Rattle.w32_base.specs.declared.event.Event.{Event}
use Rattle.w32_base.specs.declared.own.Own.{Own}
use Rattle.w32_base.specs.declared.part.After.{After}
use Rattle.w32_base.specs.declared.setup.Setup.{Setup}
use Rattle.script_spec.specs.declared.script.Script.{Script}
use Rattle.win32_spec.specs.State.{Win32State}
use Rattle.win32_spec.specs.Driven.{Parts}
use Rattle.win32_spec.specs.Lookup.{process_of, is_live, memory_by}
use Rattle.win32_spec.specs.CallEffects.{by_bool}
use Rattle.posix_spec.specs.State.{PosixState}
use Rattle.layer_spec.specs.Moment.{Moment, Seen}
use Rattle.world_spec.specs.Sound.{IsSoundMoment, HasSpare}
use Rattle.world_spec.specs.Owes.{LivesOn, OwnTurn, KeepsTurn, KeepsClause}
use Rattle.world_spec.specs.StepLaws.{match_true, match_false}

-- what a type of parts means, of the whole and of the piece, and their clauses
module _ {A W P : Type 0} (whole_posted : W → Call) (whole_goes : W → Own → Setup → Reply → W → Own → After → Type 0)
    (whole_thread : W → ℕ) (whole_clause : List (Seen A) → Moment A → ℕ → W → Type 0)
    (posted_of : P → Call) (goes : P → Own → Setup → Reply → P → Own → After → Type 0)
    (thread_of_part : P → ℕ) (clause : List (Seen A) → Moment A → ℕ → P → Type 0) (script : Script)
    (keeps : KeepsClause posted_of goes thread_of_part clause script) where
  -- The whole stands at the piece p: it posts the piece's call, goes where the piece goes, with the same event, and its
  -- clause is the piece's. After the turn it may be another piece, which begins with what the clause of p's last step
  -- says.
  pub record RunsPiece (x : W) (p : P) : Type 0 where
    pub posted : whole_posted x ≡ posted_of p
    pub thread : whole_thread x ≡ thread_of_part p
    pub clause_of : (past : List (Seen A)) (now : Moment A) (w : ℕ) → whole_clause past now w x → clause past now w p
    pub goes_on : (old : Own) (setup : Setup) (reply : Reply) (y : W) (new : Own) (answer : After)
        → whole_goes x old setup reply y new answer
        → (q : P) × (own_answer : After) × goes p old setup reply q new own_answer × (own_answer.event ≡ answer.event)
        × ((past : List (Seen A)) (now : Moment A) (w : ℕ) → clause past now w q → whole_clause past now w y)

  module _ (past : List (Seen A)) (now : Moment A) (slot t : ℕ) (x : W) (p : P) (called : Call) (reply : Reply)
      (given : Option Event) (next : Option W) (new : Win32State) (sound : IsSoundMoment script past now)
      (spare : HasSpare script past) (same : whole_thread x ≡ t) (runs : RunsPiece x p)
      (turn : OwnTurn whole_posted whole_goes script now.win32 slot t x called reply given next new)
      (stood : whole_clause past now turn.process.number x) where
    abbrev Result : Type 0
    Result = KeepsTurn whole_posted whole_goes whole_thread whole_clause script past now slot t turn.process.number
        called
        reply given next new

    -- the moment after the turn, and what is seen then
    abbrev moment : Parts A → PosixState → Moment A
    moment parts posix = record { win32 = new; parts = parts; posix = posix }

    abbrev past_with : Option Event → List (Seen A)
    past_with told = record {
      before = now;
      entry = record {
        directive = directive.Turn slot t;
        call = Some called;
        outcome = outcome.Step reply;
        event = told;
      };
    } ∷ past

    abbrev StandsNext : Option Event → PosixState → Parts A → Option W → Type 0
    StandsNext told posix parts o =
        MatchOption o (Unit {0}) (λ y. whole_clause (past_with told) (moment parts posix) turn.process.number y)

    lives : is_live (process_of turn.mid.processes turn.process.number) ≡ true
        → LivesOn whole_posted whole_goes script turn.mid turn.process.number t x reply given next new → Result
    lives live on =
        let m = runs.goes_on (memory_by turn.mid turn.process.number) script.setup reply on.part_after on.own on.answer
        on.went
        in
        let piece : OwnTurn posted_of goes script now.win32 slot t p called reply given (Some m.0) new = record {
          process = turn.process;
          thread = turn.thread;
          mid = turn.mid;
          posted = turn.posted;
          ready = turn.ready;
          called_is = turn.called_is;
          own_call = turn.own_call ∙ runs.posted;
          goes_on = match_true _ _ (is_live (process_of turn.mid.processes turn.process.number)) live (record {
            part_after = m.0;
            here = refl;
            own = on.own;
            answer = m.1;
            went = m.2;
            told = on.told ∙ sym m.3;
            posts = on.posts;
            after = on.after;
          });
        } in
        let kept = keeps.turns past now slot t p called reply given (Some m.0) new sound spare
        (sym runs.thread ∙ same) piece
        (runs.clause_of past now turn.process.number stood) in
        record {
          told = kept.told;
          given_is = kept.given_is;
          posix = kept.posix;
          shows = kept.shows;
          stands = λ parts. subst (StandsNext kept.told kept.posix parts) (sym on.here)
              (m.4 (past_with kept.told) (moment parts kept.posix) turn.process.number (kept.stands parts));
        }

    dies : is_live (process_of turn.mid.processes turn.process.number) ≡ false
        → (new ≡ turn.mid) × (given ≡ None) × (next ≡ None) → Result
    dies dead gone =
        let piece : OwnTurn posted_of goes script now.win32 slot t p called reply given None new = record {
          process = turn.process;
          thread = turn.thread;
          mid = turn.mid;
          posted = turn.posted;
          ready = turn.ready;
          called_is = turn.called_is;
          own_call = turn.own_call ∙ runs.posted;
          goes_on = match_false _ _ (is_live (process_of turn.mid.processes turn.process.number)) dead
              (gone.0, gone.1, refl);
        } in
        let kept = keeps.turns past now slot t p called reply given None new sound spare (sym runs.thread ∙ same) piece
        (runs.clause_of past now turn.process.number stood) in
        record {
          told = kept.told;
          given_is = kept.given_is;
          posix = kept.posix;
          shows = kept.shows;
          stands = λ parts. subst (StandsNext kept.told kept.posix parts) (sym gone.2) tt;
        }

    -- The turn of the whole gives what it owes.
    pub piece-turn : Result
    piece-turn = by_bool (is_live (process_of turn.mid.processes turn.process.number)) lives dies turn.goes_on
