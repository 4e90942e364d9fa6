-- The composition: if each part gives what it owes, then every directive leads from a world to a world.
use Rattle.std.proofs.Common.{◌≡◌, ℕ, Bool, true, false, nat_eq, List, Option, Some, None}
use Rattle.std.proofs.Common.{MatchBool, MatchOption, refl, sym, ap, ◌∙◌, subst}
use Rattle.std.proofs.lemmas.Bool.{eqb-true}
use Rattle.w32_base.specs.Part.{KeepsLengths}
use Rattle.w32_base.specs.declared.call.Call.{Call}
use Rattle.w32_base.specs.declared.call.Reply.{Reply}
use Rattle.w32_base.specs.declared.entry.Directive.{Directive}
use Rattle.w32_base.specs.declared.entry.Outcome.{Outcome}
use Rattle.w32_base.specs.declared.event.Event.{Event}
use Rattle.w32_base.specs.declared.own.Own.{Own}
use Rattle.w32_base.specs.declared.part.After.{After}
use Rattle.w32_base.specs.declared.setup.Setup.{Setup}
use Rattle.script_spec.specs.declared.script.Script.{Script}
use Rattle.win32_spec.specs.State.{Thread, Process, Win32State}
use Rattle.win32_spec.specs.Lookup.{is_alive, process_of, process_in, thread_at, number_of, number_in}
use Rattle.win32_spec.specs.Driven.{part_at, DrivenState, is_same_number, IsOpened, Serves, OpensPart, PartFollows}
use Rattle.win32_spec.specs.Driven.{DrivenBy}
use Rattle.win32_spec.specs.Making.{opening_call}
use Rattle.win32_spec.specs.Run.{StepBy}
use Rattle.win32_spec.specs.WellFormed.{IsFormed, IsWellFormed}
use Rattle.win32_spec.specs.LookupLaws.{same, same_some, process_in-found}
use Rattle.win32_spec.specs.FormedLaws.{live_found, found_live}
use Rattle.win32_spec.specs.CallEffects.{by_bool}
use Rattle.win32_spec.specs.MemoryEffects.{HaveRegisters}
use Rattle.win32_spec.specs.StepLaws.{wellformed-step}
use Rattle.win32_spec.specs.PostedLaws.{alive-step}
use Rattle.win32_spec.specs.DrivenLaws.{driven_step}
use Rattle.win32_spec.specs.ServedLaws.{process_in-is}
use Rattle.win32_spec.specs.ServedSteps.{served-step}
use Rattle.posix_spec.specs.Ranges.{HasRanges}
use Rattle.posix_spec.specs.State.{PosixState}
use Rattle.layer_spec.specs.History.{given_of, driven_at}
use Rattle.layer_spec.specs.Moment.{Moment, Seen, HistoryStep, seen_with}
use Rattle.layer_spec.specs.Turns.{is_live_process}
use Rattle.world_spec.specs.SeenStep.{IsTaken, ShowsStep, IsSeenStep, IsBeside}
use Rattle.world_spec.specs.Owes.{OwesWorld}
use Rattle.world_spec.specs.World.{IsWorld, GoesOn}
use Rattle.world_spec.specs.SoundLaws.{sound-step}

-- the first or the second case of a test
pub match_true : (X Y : Type 0) (b : Bool) → b ≡ true → X → MatchBool b X Y
match_true X Y b e x = subst (λ c. MatchBool c X Y) (sym e) x

pub match_false : (X Y : Type 0) (b : Bool) → b ≡ false → Y → MatchBool b X Y
match_false X Y b e y = subst (λ c. MatchBool c X Y) (sym e) y

-- a slot whose number is the same had it before
same_number : (o n : Option ℕ) (v : ℕ) → n ≡ Some v → is_same_number o n ≡ true → o ≡ Some v
same_number None n v e f =
    absurd (let g : is_same_number None (Some v) ≡ true = subst (λ k. is_same_number None k ≡ true) e f in cc)
same_number (Some u) n v e f =
    let g : nat_eq u v ≡ true = subst (λ k. is_same_number (Some u) k ≡ true) e f in ap (λ k. Some k) (eqb-true u v g)

pub is_same : (o n : Option ℕ) (v : ℕ) → o ≡ Some v → n ≡ Some v → is_same_number o n ≡ true
is_same o n v e f = rw (e, f) (same v v refl)

pub some_same : {X : Type 0} (a b : X) → Some a ≡ Some b → a ≡ b
some_same a b e = cc

-- the live process of a slot
pub slot_found : (script : Script) (s : Win32State) (a v : ℕ) → IsFormed script s → number_in s a ≡ Some v
    → (p : Process) × (process_in s.processes a ≡ Some p) × (process_of s.processes v ≡ Some p)
    × (is_alive p.life ≡ true)
    × (p.slot ≡ a)
slot_found script s a v h e = by_answer (process_in s.processes a) refl e
  where
    by_answer : (o : Option Process) → process_in s.processes a ≡ o → number_of o ≡ Some v
        → (p : Process) × (process_in s.processes a ≡ Some p) × (process_of s.processes v ≡ Some p)
        × (is_alive p.life ≡ true) × (p.slot ≡ a)
    by_answer None i k = absurd (cc)
    by_answer (Some p) i k =
        let x = process_in-found 1 s.next s.processes a p h.processes i in
        let n : p.number ≡ v = some_same p.number v k in
        (p, i, ap (process_of s.processes) (sym n) ∙ x.0, x.1, x.2)

-- two slots with the same process are one
pub same_slot : (script : Script) (s : Win32State) (a b v : ℕ) → IsFormed script s → number_in s a ≡ Some v
    → number_in s b ≡ Some v → a ≡ b
same_slot script s a b v h e f =
    let x = slot_found script s a v h e in
    let y = slot_found script s b v h f in
    let g : x.0 ≡ y.0 = same_some (process_of s.processes v) x.0 y.0 x.2 y.2 in
    sym x.4 ∙ (ap (λ (z : Process). z.slot) g ∙ y.4)

-- A process that is alive before a step and after it stays in its slot.
pub stays_in : (script : Script) (s : Win32State) (d : Directive) (called : Option Call) (came : Outcome)
    (new : Win32State)
    → HaveRegisters script → IsWellFormed script s → IsWellFormed script new → StepBy script s d called came new
    → (a v : ℕ) → number_in s a ≡ Some v → is_live_process new v ≡ true → number_in new a ≡ Some v
stays_in script s d called came new registers h formed step a v e live =
    let p = slot_found script s a v h.formed e in
    let q = live_found (process_of new.processes v) live in
    let keeps = alive-step script s d called came new registers h step v p.0 q.0 p.2 q.1 q.2 in
    let x = process_in-found 1 s.next s.processes a p.0 h.formed.processes p.1 in
    let n : p.0.number ≡ v = some_same p.0.number v (sym (ap number_of p.1) ∙ e) in
    ap (λ k. number_of (process_in new.processes k)) (sym (keeps.slot ∙ p.4))
    ∙ (ap number_of (process_in-is script new v q.0 formed.formed q.1 q.2) ∙ ap (λ k. Some k) (keeps.number ∙ n))

module _ {A : Type 0} (posted_of : A → Call) (goes : A → Own → Setup → Reply → A → Own → After → Type 0)
    (opening : A → Type 0) (slot_of thread_of_part : A → ℕ)
    (clause : List (Seen A) → Moment A → ℕ → A → Type 0)
    (begins : (p : A) → opening p → posted_of p ≡ opening_call)
    (keeps_slot : (p q : A) (o n : Own) (s : Setup) (r : Reply) (a : After) → goes p o s r q n a
    → slot_of q ≡ slot_of p)
    (keeps_thread : (p q : A) (o n : Own) (s : Setup) (r : Reply) (a : After) → goes p o s r q n a
    → thread_of_part q ≡ thread_of_part p)
    (keeps_lengths : (p q : A) (o n : Own) (s : Setup) (r : Reply) (a : After) → goes p o s r q n a → KeepsLengths o n)
    (script : Script) (registers : HaveRegisters script) (ranges : HasRanges script)
    (owes : OwesWorld posted_of goes opening slot_of thread_of_part clause script)
    (past : List (Seen A)) (now : Moment A)
    (world : IsWorld posted_of goes opening slot_of thread_of_part clause script past now) where
  module _ (d : Directive) (called : Option Call) (came : Outcome) (new : DrivenState A)
      (driven : DrivenBy posted_of goes opening slot_of thread_of_part script (driven_at now None) d called came new)
    where
      pub stepped : StepBy script now.win32 d called came new.win32
      stepped = driven_step posted_of goes opening slot_of thread_of_part keeps_lengths script
          (driven_at now None) d called
          came new driven

      pub formed : IsWellFormed script new.win32
      formed = wellformed-step script now.win32 d called came new.win32 registers world.sound.formed stepped

      abbrev pub after_with : PosixState → Moment A
      after_with posix = record { win32 = new.win32; parts = new.parts; posix = posix }

      abbrev pub step_with : Option Event → PosixState → HistoryStep A
      step_with told posix = record {
        past = past;
        before = now;
        entry = record { directive = d; call = called; outcome = came; event = told };
        after = after_with posix;
      }

      -- a process that came into its slot in this step wasn't alive before it
      fresh : (a v : ℕ) → number_in new.win32 a ≡ Some v
          → is_same_number (number_in now.win32 a) (number_in new.win32 a) ≡ false → is_live_process now.win32 v ≡ false
      fresh a v e other = by_test (is_live_process now.win32 v) refl
        where
          by_test : (b : Bool) → is_live_process now.win32 v ≡ b → b ≡ false
          by_test false f = refl
          by_test true f = absurd (
              let q = slot_found script new.win32 a v formed.formed e in
              let p = live_found (process_of now.win32.processes v) f in
              let keeps = alive-step script now.win32 d called came new.win32 registers world.sound.formed stepped v p.0
              q.0 p.1 q.2
              q.3 in
              let is_in : process_in now.win32.processes a ≡ Some p.0 =
              ap (process_in now.win32.processes) (sym q.4 ∙ keeps.slot)
              ∙ process_in-is script now.win32 v p.0 world.sound.formed.formed p.1 p.2 in
              let x = process_in-found 1 now.win32.next now.win32.processes a p.0 world.sound.formed.formed.processes
              is_in in
              let y = process_in-found 1 new.win32.next new.win32.processes a q.0 formed.formed.processes q.1 in
              let n : p.0.number ≡ v =
              sym keeps.number ∙ some_same q.0.number v (sym (ap number_of q.1) ∙ e) in
              let m : number_in now.win32 a ≡ Some v = ap number_of is_in ∙ ap (λ k. Some k) n in
              let g = is_same (number_in now.win32 a) (number_in new.win32 a) v m e in
              let never : true ≡ false = sym g ∙ other in cc)

      -- the part at a place serves the place's thread
      pub its_thread : (a b : ℕ) (part : A) → part_at now.parts a b ≡ Some part → thread_of_part part ≡ b
      its_thread a b part e = by_thread (thread_at now.win32 a b) (world.served a b)
        where
          by_thread : (o : Option Thread) → MatchOption o (part_at now.parts a b ≡ None)
              (λ x. (p : A) × (part_at now.parts a b ≡ Some p)
              × Serves posted_of goes opening slot_of thread_of_part a b x p)
              → thread_of_part part ≡ b
          by_thread None m = absurd (let f : Some part ≡ None = sym e ∙ m in cc)
          by_thread (Some x) m = ap thread_of_part (same_some (part_at now.parts a b) part m.0 e m.1) ∙ m.2.its_thread

      module _ (told : Option Event) (posix : PosixState) (taken : IsTaken d)
          (shows : ShowsStep script (step_with told posix)) where
        seen : IsSeenStep script (step_with told posix)
        seen = record { taken = taken; before = world.sound; win32 = stepped; shows = shows }

        -- A part that follows stands where its clause says: it was there before, or its process was made in this step.
        pub follows : (a b v : ℕ) (part : A)
            → PartFollows posted_of goes opening slot_of thread_of_part now.win32 new.win32 now.parts new.parts a b
            → number_in new.win32 a ≡ Some v → part_at new.parts a b ≡ Some part
            → (number_in now.win32 a ≡ Some v → IsBeside (step_with told posix) v b)
            → clause (seen_with (step_with told posix)) (after_with posix) v part
        follows a b v part follow e here beside =
            by_bool (is_same_number (number_in now.win32 a) (number_in new.win32 a)) (λ as_before m.
            let n = same_number (number_in now.win32 a) (number_in new.win32 a) v e as_before in
            let there : part_at now.parts a b ≡ Some part = sym m ∙ here in
            let p = slot_found script now.win32 a v world.sound.formed.formed n in
            let q = slot_found script new.win32 a v formed.formed e in
            owes.keeps.outlasts (step_with told posix) seen v part
            (subst (IsBeside (step_with told posix) v) (sym (its_thread a b part there)) (beside n))
            (found_live (process_of now.win32.processes v) p.0 p.2 p.3)
            (found_live (process_of new.win32.processes v) q.0 q.2 q.3)
            (world.stands a b v part n there))
            (λ other m. by_thread (thread_at new.win32 a b) m (fresh a v e other)) follow
          where
            by_thread : (o : Option Thread)
                → OpensPart posted_of goes opening slot_of thread_of_part o a b (part_at new.parts a b)
                → is_live_process now.win32 v ≡ false
                → clause (seen_with (step_with told posix)) (after_with posix) v part
            by_thread None m dead = absurd (let f : Some part ≡ None = sym here ∙ m in cc)
            by_thread (Some x) m dead =
                let g : m.0 ≡ part = same_some (part_at new.parts a b) m.0 part m.1 here in
                owes.opens (step_with told posix) seen a b v part dead e
                (subst (IsOpened posted_of goes opening slot_of thread_of_part a b) g m.2)

        -- The world goes on where each part stands after the step.
        pub goes_on : given_of told ≡ new.last
            → ((a b v : ℕ) (part : A) → number_in new.win32 a ≡ Some v → part_at new.parts a b ≡ Some part
            → clause (seen_with (step_with told posix)) (after_with posix) v part)
            → GoesOn posted_of goes opening slot_of thread_of_part clause script past now d called came new
        goes_on given stands = record {
          told = told;
          given_is = given;
          posix = posix;
          world = record {
            history = (
              world.history,
              record {
                win32 = stepped;
                driven = subst (λ last. DrivenBy posted_of goes opening slot_of thread_of_part script
                    (driven_at now None) d
                    called came (record { win32 = new.win32; parts = new.parts; last = last })) (sym given) driven;
                posix = shows.posix;
                discipline = shows.discipline;
                evidence = shows.evidence;
                decodes = shows.decodes;
              },
            );
            sound = sound-step script (step_with told posix) registers ranges seen;
            served = served-step posted_of goes opening slot_of thread_of_part begins keeps_slot keeps_thread
                keeps_lengths
                script registers (driven_at now None) world.sound.formed world.served new d called came driven;
            stands = stands;
          };
        }
