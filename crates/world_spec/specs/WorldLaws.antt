-- The law of a directive: from a world, each directive that it takes leads to a world, with all that a history says of
-- the step. It follows from what the parts owe, whatever they are.
use Rattle.std.proofs.Common.{◌≡◌, ◌≢◌, ◌⊎◌, inl, inr, ℕ, true, false, List, ◌∷◌, Option, Some, None}
use Rattle.std.proofs.Common.{MatchOption, refl, sym, ap, ◌∙◌, subst}
use Rattle.std.proofs.lemmas.Bool.{cases_eq}
use Rattle.w32_base.specs.Part.{KeepsLengths}
use Rattle.w32_base.specs.declared.call.Call.{Call}
use Rattle.w32_base.specs.declared.call.Reply.{Reply}
use Rattle.w32_base.specs.declared.entry.Directive.{Directive}
use Rattle.w32_base.specs.declared.entry.Directive.TheVariants as directive
use Rattle.w32_base.specs.declared.entry.Outcome.{Outcome}
use Rattle.w32_base.specs.declared.entry.Outcome.TheVariants as outcome
use Rattle.w32_base.specs.declared.event.Event.{Event}
use Rattle.w32_base.specs.declared.own.Own.{Own}
use Rattle.w32_base.specs.declared.part.After.{After}
use Rattle.w32_base.specs.declared.setup.Setup.{Setup}
use Rattle.script_spec.specs.declared.script.Script.{Script}
use Rattle.win32_spec.specs.State.{Thread, Process, Win32State}
use Rattle.win32_spec.specs.Lookup.{process_of, is_live, thread_of, thread_at, number_of, number_in}
use Rattle.win32_spec.specs.Lookup.{change_process, change_thread, with_own, with_posted}
use Rattle.win32_spec.specs.Driven.{part_at, DrivenState, Serves, PartFollows, PartGoes}
use Rattle.win32_spec.specs.Driven.{DrivenTurn, DrivenBy}
use Rattle.win32_spec.specs.Facts.{IsTurnOfThread}
use Rattle.win32_spec.specs.Making.{opening_call}
use Rattle.win32_spec.specs.Ready.{is_ready}
use Rattle.win32_spec.specs.LookupLaws.{same_some, process_of-change_same}
use Rattle.win32_spec.specs.WellFormed.{IsWellFormed}
use Rattle.win32_spec.specs.FormedLaws.{live_found, found_live}
use Rattle.win32_spec.specs.CallEffects.{by_bool}
use Rattle.win32_spec.specs.MemoryEffects.{HaveRegisters}
use Rattle.posix_spec.specs.Ranges.{HasRanges}
use Rattle.posix_spec.specs.State.{PosixState}
use Rattle.layer_spec.specs.History.{driven_at}
use Rattle.layer_spec.specs.Moment.{Moment, Seen}
use Rattle.layer_spec.specs.Turns.{is_live_process}
use Rattle.world_spec.specs.Owes.{KeepsTurn, OwesWorld, OwnTurn}
use Rattle.world_spec.specs.Sound.{HasSpare}
use Rattle.world_spec.specs.SeenStep.{IsTaken}
use Rattle.world_spec.specs.World.{IsWorld, GoesOn}
use Rattle.world_spec.specs.StepLaws.{match_true, match_false, stepped, formed, same_slot, stays_in}
use Rattle.world_spec.specs.StepLaws.{slot_found, some_same, follows}
use Rattle.world_spec.specs.StepLaws.{goes_on, its_thread}
use Rattle.world_spec.specs.StillLaws.{idle_goes, key_goes, end_goes}

module _ {A : Type 0} (posted_of : A → Call) (goes : A → Own → Setup → Reply → A → Own → After → Type 0)
    (opening : A → Type 0) (slot_of thread_of_part : A → ℕ)
    (clause : List (Seen A) → Moment A → ℕ → A → Type 0)
    (begins : (p : A) → opening p → posted_of p ≡ opening_call)
    (keeps_slot : (p q : A) (o n : Own) (s : Setup) (r : Reply) (a : After) → goes p o s r q n a
    → slot_of q ≡ slot_of p)
    (keeps_thread : (p q : A) (o n : Own) (s : Setup) (r : Reply) (a : After) → goes p o s r q n a
    → thread_of_part q ≡ thread_of_part p)
    (keeps_lengths : (p q : A) (o n : Own) (s : Setup) (r : Reply) (a : After) → goes p o s r q n a → KeepsLengths o n)
    (script : Script) (registers : HaveRegisters script) (ranges : HasRanges script)
    (owes : OwesWorld posted_of goes opening slot_of thread_of_part clause script)
    (past : List (Seen A)) (now : Moment A)
    (world : IsWorld posted_of goes opening slot_of thread_of_part clause script past now) where
  abbrev Goes : Directive → Option Call → Outcome → DrivenState A → Type 0
  Goes d called came new = GoesOn posted_of goes opening slot_of thread_of_part clause script past now d called came new

  abbrev Driven : Directive → Option Call → Outcome → DrivenState A → Type 0
  Driven d called came new =
      DrivenBy posted_of goes opening slot_of thread_of_part script (driven_at now None) d called came new

  abbrev Follows : DrivenState A → (slot t : ℕ) → Type 0
  Follows new slot t =
      PartFollows posted_of goes opening slot_of thread_of_part now.win32 new.win32 now.parts new.parts slot t

  -- A turn of a thread that is ready.
  module _ (slot t : ℕ) (spare : HasSpare script past) (ready : is_ready now.win32 slot t ≡ true) (call : Call)
      (reply : Reply) (new : DrivenState A)
      (of : DrivenTurn posted_of goes opening slot_of thread_of_part script now.win32 now.parts slot t call reply
      new.last
      new.win32 new.parts) where
    abbrev w : ℕ
    w = of.process.number

    number : number_in now.win32 slot ≡ Some w
    number = ap number_of of.posted.thread.process

    driven : Driven (directive.Turn slot t) (Some call) (outcome.Step reply) new
    driven = match_true _ _ (is_ready now.win32 slot t) ready (call, reply, refl, refl, of)

    -- the call that it carries out is its part's
    own_call : of.thread.posted ≡ posted_of of.part
    own_call = by_thread (thread_at now.win32 slot t) there (world.served slot t)
      where
        there : thread_at now.win32 slot t ≡ Some of.thread
        there = ap (λ o. thread_of o t) of.posted.thread.process ∙ of.posted.thread.thread

        by_thread : (o : Option Thread) → o ≡ Some of.thread → MatchOption o (part_at now.parts slot t ≡ None)
            (λ x. (part : A) × (part_at now.parts slot t ≡ Some part)
            × Serves posted_of goes opening slot_of thread_of_part slot t x part)
            → of.thread.posted ≡ posted_of of.part
        by_thread None e m = absurd (cc)
        by_thread (Some x) e m =
            let g : m.0 ≡ of.part = same_some (part_at now.parts slot t) m.0 of.part m.1 of.before in
            let k : x ≡ of.thread = cc in
            ap (λ (y : Thread). y.posted) (sym k) ∙ (m.2.posted ∙ ap posted_of g)

    -- What the part gives, from the turn and from its clause.
    gives : (next : Option A) → (turn : OwnTurn posted_of goes script now.win32 slot t of.part call reply new.last next
        new.win32) → turn.process.number ≡ w
        → KeepsTurn posted_of goes thread_of_part clause script past now slot t w call reply new.last next new.win32
    gives next turn same =
        subst (λ k. KeepsTurn posted_of goes thread_of_part clause script past now slot t k call reply new.last next
        new.win32)
        same
        (owes.keeps.turns past now slot t of.part call reply new.last next new.win32
        world.sound spare
        (its_thread posted_of goes opening slot_of thread_of_part clause begins keeps_slot keeps_thread keeps_lengths
        script registers ranges owes past now world (directive.Turn slot t) (Some call)
        (outcome.Step reply) new driven slot t
        of.part of.before) turn
        (world.stands slot t turn.process.number of.part (number ∙ ap (λ k. Some k) (sym same)) of.before))

    -- a part of process v stands after this turn, with this event and this POSIX state
    abbrev StandsAfter : Option Event → PosixState → ℕ → A → Type 0
    StandsAfter told posix v part = clause
        (record {
          before = now;
          entry = record {
            directive = directive.Turn slot t;
            call = Some call;
            outcome = outcome.Step reply;
            event = told;
          };
        } ∷ past) (record { win32 = new.win32; parts = new.parts; posix = posix }) v part

    -- The world goes on by what the part gives, where its own place has its next part, or follows.
    given_goes : (next : Option A)
        → KeepsTurn posted_of goes thread_of_part clause script past now slot t w call reply new.last next new.win32
        → ((v : ℕ) → number_in new.win32 slot ≡ Some v → (part : A) → part_at new.parts slot t ≡ Some part
        → ((v ≡ w) × (next ≡ Some part)) ⊎ (Follows new slot t × (number_in now.win32 slot ≡ Some v → ⊥)))
        → Goes (directive.Turn slot t) (Some call) (outcome.Step reply) new
    given_goes next kept here =
        let shows = kept.shows new.parts in
        goes_on posted_of goes opening slot_of thread_of_part clause begins keeps_slot keeps_thread keeps_lengths script
        registers ranges owes past now world (directive.Turn slot t) (Some call)
        (outcome.Step reply) new driven kept.told
        kept.posix tt shows kept.given_is (λ a b v part e there. elim (cases_eq a slot) [
          | inl m ↦ elim (cases_eq b t) [
            | inl n ↦ at_place a b m n v part e there
            | inr n ↦ beside a b v part (inr n) e there
          ]
          | inr m ↦ beside a b v part (inl m) e there
        ])
      where
        follow : (a b v : ℕ) (part : A) → Follows new a b → number_in new.win32 a ≡ Some v
            → part_at new.parts a b ≡ Some part
            → (number_in now.win32 a ≡ Some v → IsTurnOfThread now.win32 (directive.Turn slot t) v b → ⊥)
            → StandsAfter kept.told kept.posix v part
        follow a b v part f e there apart =
            follows posted_of goes opening slot_of thread_of_part clause begins keeps_slot keeps_thread
            keeps_lengths script registers ranges owes past now world (directive.Turn slot t) (Some call)
            (outcome.Step reply)
            new driven kept.told kept.posix tt (kept.shows new.parts) a b v part f e there (λ n. inl (apart n))

        beside : (a b v : ℕ) (part : A) → (a ≢ slot) ⊎ (b ≢ t) → number_in new.win32 a ≡ Some v
            → part_at new.parts a b ≡ Some part → StandsAfter kept.told kept.posix v part
        beside a b v part apart e there = follow a b v part (of.others a b apart) e there (λ n acts. elim apart [
          | inl k ↦ k (same_slot script now.win32 a slot v world.sound.formed.formed n acts.0)
          | inr k ↦ k (sym acts.1)
        ])

        at_own : (v : ℕ) (part : A) → v ≡ w → next ≡ Some part → StandsAfter kept.told kept.posix v part
        at_own v part same is =
            subst (λ k. StandsAfter kept.told kept.posix k part) (sym same)
            (subst (λ o. MatchOption o (Unit {0}) (λ x. StandsAfter kept.told kept.posix w x)) is
            (kept.stands new.parts))

        at_place : (a b : ℕ) → a ≡ slot → b ≡ t → (v : ℕ) (part : A) → number_in new.win32 a ≡ Some v
            → part_at new.parts a b ≡ Some part → StandsAfter kept.told kept.posix v part
        at_place a b m n v part e there =
            let e' : number_in new.win32 slot ≡ Some v = ap (number_in new.win32) (sym m) ∙ e in
            let p' : part_at new.parts slot t ≡ Some part =
            ap (λ k. part_at new.parts k t) (sym m) ∙ (ap (part_at new.parts a) (sym n) ∙ there) in
            elim (here v e' part p') [
              | inl own ↦ at_own v part own.0 own.1
              | inr gone ↦ follow slot t v part gone.0 e' p' (λ k acts. gone.1 k)
            ]

    -- the process is alive after a turn that it goes on from
    lives_after : is_live (process_of of.mid.processes w) ≡ true → (own : Own) (next : Call)
        → new.win32 ≡ with_posted (with_own of.mid w own) w t next → is_live_process new.win32 w ≡ true
    lives_after live own next after =
        let r = live_found (process_of of.mid.processes w) live in
        let q : Process = record r.0
        { own = own; threads = change_thread t (λ x. record x { posted = next }) r.0.threads } in
        found_live (process_of new.win32.processes w) q
        (ap (λ (n : Win32State). process_of n.processes w) after
        ∙ process_of-change_same w
        (λ x. record x { threads = change_thread t (λ y. record y { posted = next }) x.threads }) (λ x. refl)
        (change_process w (λ x. record x { own = own }) of.mid.processes) (record r.0 { own = own })
        (process_of-change_same w (λ x. record x { own = own }) (λ x. refl) of.mid.processes r.0 r.1)) r.2

    ready_goes : Goes (directive.Turn slot t) (Some call) (outcome.Step reply) new
    ready_goes = by_bool (is_live (process_of of.mid.processes w)) lives dies of.goes_on
      where
        after_formed : IsWellFormed script new.win32
        after_formed = formed posted_of goes opening slot_of thread_of_part clause begins keeps_slot keeps_thread
            keeps_lengths script registers ranges owes past now world (directive.Turn slot t) (Some call)
            (outcome.Step reply)
            new driven

        lives : is_live (process_of of.mid.processes w) ≡ true
            → (next : A) × PartGoes posted_of goes opening slot_of thread_of_part script of.mid w t of.part reply
            new.last
            next new.win32 × (part_at new.parts slot t ≡ Some next)
            → Goes (directive.Turn slot t) (Some call) (outcome.Step reply) new
        lives live m =
            let turn : OwnTurn posted_of goes script now.win32 slot t of.part call reply new.last (Some m.0) new.win32 =
            record {
              process = of.process;
              thread = of.thread;
              mid = of.mid;
              posted = of.posted;
              ready = ready;
              called_is = of.carried_out;
              own_call = own_call;
              goes_on = match_true _ _ (is_live (process_of of.mid.processes w)) live (record {
                part_after = m.0;
                here = refl;
                own = m.1.own;
                answer = m.1.answer;
                went = m.1.went;
                told = m.1.told;
                posts = posted_of m.0;
                after = m.1.after;
              });
            } in
            let stays : number_in new.win32 slot ≡ Some w =
            stays_in script now.win32 (directive.Turn slot t) (Some call) (outcome.Step reply) new.win32 registers
            world.sound.formed after_formed
            (stepped posted_of goes opening slot_of thread_of_part clause begins keeps_slot keeps_thread
            keeps_lengths script registers ranges owes past now world (directive.Turn slot t) (Some call)
            (outcome.Step reply)
            new driven) slot w number (lives_after live m.1.own (posted_of m.0) m.1.after) in
            given_goes (Some m.0) (gives (Some m.0) turn refl)
            (λ v e part there. inl (some_same v w (sym e ∙ stays), sym m.2 ∙ there))

        dies : is_live (process_of of.mid.processes w) ≡ false
            → (new.win32 ≡ of.mid) × (new.last ≡ None) × Follows new slot t
            → Goes (directive.Turn slot t) (Some call) (outcome.Step reply) new
        dies dead m =
            let turn : OwnTurn posted_of goes script now.win32 slot t of.part call reply new.last None new.win32 =
            record {
              process = of.process;
              thread = of.thread;
              mid = of.mid;
              posted = of.posted;
              ready = ready;
              called_is = of.carried_out;
              own_call = own_call;
              goes_on = match_false _ _ (is_live (process_of of.mid.processes w)) dead (m.0, m.1, refl);
            } in
            given_goes None (gives None turn refl)
            (λ v e part there. inr (
              m.2,
              λ k.
                  let p = slot_found script new.win32 slot v after_formed.formed e in
                  let same : v ≡ w = some_same v w (sym k ∙ number) in
                  let a : is_live (process_of of.mid.processes w) ≡ true =
                  ap (λ (n : Win32State). is_live (process_of n.processes w)) (sym m.0)
                  ∙ (ap (λ n. is_live (process_of new.win32.processes n)) (sym same)
                  ∙ found_live (process_of new.win32.processes v) p.0 p.2 p.3) in
                  let never : true ≡ false = sym a ∙ dead in cc,
            ))

  -- From a world, each directive that it takes leads to a world.
  pub world-goes : (d : Directive) (called : Option Call) (came : Outcome) (new : DrivenState A) → IsTaken d
      → HasSpare script past
      → Driven d called came new → Goes d called came new
  world-goes (directive.Turn slot t) called came new taken spare driven =
      by_bool (is_ready now.win32 slot t)
      (λ ready of. subst (λ c. Goes (directive.Turn slot t) c came new) (sym of.2)
      (subst (λ o. Goes (directive.Turn slot t) (Some of.0) o new) (sym of.3)
      (ready_goes slot t spare ready of.0 of.1 new of.4)))
      (λ waits rests. idle_goes posted_of goes opening slot_of thread_of_part clause begins keeps_slot keeps_thread
      keeps_lengths script
      registers ranges owes past now world slot t called came new driven rests.0 rests.1 rests.2 rests.3 rests.4) driven
  world-goes (directive.End slot) called came new taken spare driven =
      end_goes posted_of goes opening slot_of thread_of_part clause begins keeps_slot keeps_thread keeps_lengths script
      registers ranges owes past now world slot called came new taken driven
  world-goes (directive.Key b) called came new taken spare driven =
      key_goes posted_of goes opening slot_of thread_of_part clause begins keeps_slot keeps_thread keeps_lengths script
      registers ranges owes past now world b called came new taken driven
