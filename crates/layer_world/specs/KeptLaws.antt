-- That what holds of a world at all times holds at its opening, and after each directive.
use Rattle.std.proofs.Common.{◌≡◌, ℕ, ◌+◌, ◌≤◌, ◌<◌, Bool, true, false, List, [], ◌∷◌, ◌++◌, length, Option, refl, sym}
use Rattle.std.proofs.Common.{ap}
use Rattle.std.proofs.Common.{◌∙◌, subst, arith}
use Rattle.std.proofs.lemmas.List.{length-append}
use Rattle.w32_base.specs.Part.{KeepsLengths}
use Rattle.w32_base.specs.declared.call.Call.{Call}
use Rattle.w32_base.specs.declared.call.Reply.{Reply}
use Rattle.w32_base.specs.declared.entry.Directive.{Directive}
use Rattle.w32_base.specs.declared.entry.Directive.TheVariants as directive
use Rattle.w32_base.specs.declared.entry.Entry.{Entry}
use Rattle.w32_base.specs.declared.entry.Outcome.{Outcome}
use Rattle.w32_base.specs.declared.own.Own.{Own}
use Rattle.w32_base.specs.declared.part.After.{After}
use Rattle.w32_base.specs.declared.setup.Setup.{Setup}
use Rattle.script_spec.specs.declared.script.Script.{Script}
use Rattle.script_spec.specs.Validity.{IsValid}
use Rattle.win32_spec.specs.Driven.{DrivenState, DrivenBy, IsDrivenOpening}
use Rattle.win32_spec.specs.Making.{opening_call}
use Rattle.win32_spec.specs.Opening.{IsOpening}
use Rattle.win32_spec.specs.Run.{StepBy}
use Rattle.posix_spec.specs.Opening.{opening_of}
use Rattle.posix_spec.specs.State.{PosixState}
use Rattle.layer_spec.specs.Moment.{Moment, Seen}
use Rattle.w32_machine.specs.Contract.{keys_of, key_lines}
use Rattle.world_spec.specs.Owes.{OwesWorld}
use Rattle.world_spec.specs.Told.{is_told_whole}
use Rattle.layer_world.specs.Growth.{step-grows}
use Rattle.layer_world.specs.Kept.{IsKept}
use Rattle.layer_world.specs.ScheduledLaws.{keys-append}
use Rattle.layer_world.specs.World.{WorldValue, moment_of, entry_to, keys_entered, HasKeyPlace, IsAllowed, IsWorldOf}
use Rattle.layer_world.specs.World.{IsOpeningWorld, Directed}
use Rattle.layer_world.specs.WorldLaws.{world-of-opening, world-of-directive}

-- a directive that has its place goes with the keys so far
pub keys-within : {A : Type 0} → (w : WorldValue A) (d : Directive) (places : ℕ)
    → places + keys_entered w.entries ≡ key_lines w.script.directives → HasKeyPlace w d
    → keys_of d + keys_entered w.entries ≤ key_lines w.script.directives
keys-within w (directive.Turn slot t) places are place = omega (arith, are)
keys-within w (directive.End slot) places are place = omega (arith, are)
keys-within w (directive.Key b) places are place = omega (arith, place)

-- as a machine opens, two processes were made, and the queue is empty
pub opening-next : (script : Script) (s : _) → IsOpening script s → (s.next ≡ 3) × (s.keys ≡ [])
opening-next script s h = (ap (λ x. x.next) h.state, ap (λ x. x.keys) h.state)

module _ {A : Type 0} (posted_of : A → Call) (goes : A → Own → Setup → Reply → A → Own → After → Type 0)
    (opening : A → Type 0) (slot_of thread_of_part : A → ℕ)
    (clause : Script → List (Seen A) → Moment A → ℕ → A → Type 0) (serves : Script → Type 0)
    (begins : (p : A) → opening p → posted_of p ≡ opening_call)
    (owes : (script : Script) → IsValid script → serves script
    → OwesWorld posted_of goes opening slot_of thread_of_part (clause script) script) where
  abbrev Kept : WorldValue A → ℕ → ℕ → ℕ → Type 0
  Kept w room spare key_places =
      IsKept posted_of goes opening slot_of thread_of_part clause serves w room spare key_places

  module _ (script : Script) (valid : IsValid script) (served : serves script) (state : DrivenState A)
      (opens : IsDrivenOpening posted_of goes opening slot_of thread_of_part script state) where
    abbrev at_opening : WorldValue A
    at_opening = record { script = script; state = state; entries = [] }

    pub opening-world : IsOpeningWorld posted_of goes opening slot_of thread_of_part clause script at_opening
    opening-world = record {
      script_is = refl;
      none = refl;
      driven = opens;
      world = world-of-opening posted_of goes opening slot_of thread_of_part clause begins script valid
          (owes script valid served) state opens;
    }

    pub opening-kept : (room spare key_places : ℕ) → spare ≡ script.setup.limits.budget
        → script.setup.limits.budget ≤ room → key_places ≡ key_lines script.directives
        → Kept at_opening room spare key_places
    opening-kept room spare key_places spare_is room_is places =
        let made = opening-next script state.win32 opens.opens in
        record {
          valid = valid;
          served = served;
          past = [];
          posix = opening_of script;
          world = opening-world.world;
          spare_is = omega (arith, spare_is);
          room_is = room_is;
          places_are = omega (arith, places);
          queue = omega (arith, ap length made.1);
          next = omega (arith, made.0);
        }

    -- the same, where script and entries are named otherwise
    pub opening-world-as : (from : Script) (es : List Entry) → from ≡ script → es ≡ []
        → IsOpeningWorld posted_of goes opening slot_of thread_of_part clause script
        (record { script = from; state = state; entries = es })
    opening-world-as from es same none =
        subst (λ x. IsOpeningWorld posted_of goes opening slot_of thread_of_part clause script
        (record { script = x; state = state; entries = es })) (sym same)
        (subst (λ x. IsOpeningWorld posted_of goes opening slot_of thread_of_part clause script
        (record { script = script; state = state; entries = x })) (sym none) opening-world)

    pub opening-kept-as : (from : Script) (es : List Entry) → from ≡ script → es ≡ [] → (room spare key_places : ℕ)
        → spare ≡ script.setup.limits.budget → script.setup.limits.budget ≤ room
        → key_places ≡ key_lines script.directives
        → Kept (record { script = from; state = state; entries = es }) room spare key_places
    opening-kept-as from es same none room spare key_places spare_is room_is places =
        subst (λ x. Kept (record { script = x; state = state; entries = es }) room spare key_places) (sym same)
        (subst (λ x. Kept (record { script = script; state = state; entries = x }) room spare key_places) (sym none)
        (opening-kept room spare key_places spare_is room_is places))

  module _ (keeps_slot : (p q : A) (o n : Own) (s : Setup) (r : Reply) (a : After) → goes p o s r q n a
      → slot_of q ≡ slot_of p)
      (keeps_thread : (p q : A) (o n : Own) (s : Setup) (r : Reply) (a : After) → goes p o s r q n a
      → thread_of_part q ≡ thread_of_part p)
      (keeps_lengths : (p q : A) (o n : Own) (s : Setup) (r : Reply) (a : After) → goes p o s r q n a
      → KeepsLengths o n)
      (tells : (script : Script) → serves script → (past : List (Seen A)) (now : Moment A) (w : ℕ) (p : A)
      → clause script past now w p → (q : A) (o n : Own) (r : Reply) (a : After)
      → goes p o script.setup r q n a → is_told_whole a.event ≡ true)
      (w : WorldValue A) (room spare key_places : ℕ) (kept : Kept w room spare key_places)
      (d : Directive) (allowed : IsAllowed w d) where
    -- The machine may be asked for the directive.
    pub next-below : w.state.win32.next < 4294967295
    next-below = omega (arith, kept.next, allowed.spare, w.script.setup.limits.budget_in_range.1)

    pub keys-fit : length w.state.win32.keys + keys_of d ≤ key_lines w.script.directives
    keys-fit = omega (arith, kept.queue, keys-within w d key_places kept.places_are allowed.keys)

    pub entry-spare : 1 ≤ spare
    entry-spare = omega (arith, kept.spare_is, allowed.spare)

    pub key-spare : keys_of d ≤ key_places
    key-spare = omega (arith, kept.places_are, keys-within w d key_places kept.places_are allowed.keys)

    pub entry-room : length w.entries < room
    entry-room = omega (arith, allowed.spare, kept.room_is)

    module _ (called : Option Call) (came : Outcome) (new : DrivenState A)
        (driven : DrivenBy posted_of goes opening slot_of thread_of_part w.script w.state d called came new) where
      abbrev after : WorldValue A
      after = record { script = w.script; state = new; entries = w.entries ++ entry_to d called came new ∷ [] }

      history : (past : List (Seen A)) (posix : PosixState)
          → IsWorldOf posted_of goes opening slot_of thread_of_part clause w past posix
          → (later : PosixState) × IsWorldOf posted_of goes opening slot_of thread_of_part clause after
          (record { before = moment_of w posix; entry = entry_to d called came new } ∷ past) later
      history past posix world =
          world-of-directive posted_of goes opening slot_of thread_of_part clause begins w.script kept.valid
          (owes w.script kept.valid kept.served) keeps_slot keeps_thread keeps_lengths (tells w.script kept.served)
          w.state w.entries d called came
          new allowed.taken allowed.spare driven past posix world

      pub directed : Directed posted_of goes opening slot_of thread_of_part clause w d came after
      directed = record { called = called; driven = driven; script = refl; entries = refl; history = history }

      pub directed-kept : StepBy w.script w.state.win32 d called came new.win32 → (more spare_left places_left : ℕ)
          → room ≤ more → spare_left + 1 ≡ spare → places_left + keys_of d ≡ key_places
          → Kept after more spare_left places_left
      directed-kept step more spare_left places_left room_more spare_is places_is =
          let grows = step-grows w.script w.state.win32 d called came new.win32 step in
          let longer = length-append w.entries (entry_to d called came new ∷ []) in
          let keyed = keys-append w.entries (entry_to d called came new) in
          let on = history kept.past kept.posix kept.world in
          record {
            valid = kept.valid;
            served = kept.served;
            past = record { before = moment_of w kept.posix; entry = entry_to d called came new } ∷ kept.past;
            posix = on.0;
            world = on.1;
            spare_is = omega (arith, longer, kept.spare_is, spare_is);
            room_is = omega (arith, kept.room_is, room_more);
            places_are = omega (arith, keyed, kept.places_are, places_is);
            queue = omega (arith, keyed, grows.keys, kept.queue);
            next = omega (arith, longer, grows.next, kept.next);
          }

      -- the same, where script and entries are named otherwise
      pub directed-as : (script : Script) (es : List Entry) → script ≡ w.script
          → es ≡ w.entries ++ entry_to d called came new ∷ []
          → Directed posted_of goes opening slot_of thread_of_part clause w d came
          (record { script = script; state = new; entries = es })
      directed-as script es same longer =
          subst (λ x. Directed posted_of goes opening slot_of thread_of_part clause w d came
          (record { script = x; state = new; entries = es })) (sym same)
          (subst (λ x. Directed posted_of goes opening slot_of thread_of_part clause w d came
          (record { script = w.script; state = new; entries = x })) (sym longer) directed)

      pub directed-kept-as : (script : Script) (es : List Entry) → script ≡ w.script
          → es ≡ w.entries ++ entry_to d called came new ∷ []
          → StepBy w.script w.state.win32 d called came new.win32 → (more spare_left places_left : ℕ)
          → room ≤ more → spare_left + 1 ≡ spare → places_left + keys_of d ≡ key_places
          → Kept (record { script = script; state = new; entries = es }) more spare_left places_left
      directed-kept-as script es same longer step more spare_left places_left room_more spare_is places_is =
          subst (λ x. Kept (record { script = x; state = new; entries = es }) more spare_left places_left) (sym same)
          (subst (λ x. Kept (record { script = w.script; state = new; entries = x }) more spare_left places_left)
          (sym longer) (directed-kept step more spare_left places_left room_more spare_is places_is))
