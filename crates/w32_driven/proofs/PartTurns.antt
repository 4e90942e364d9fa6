-- A turn of a thread with its part.
use Rattle.std.proofs.Common.{◌≡◌, ◌≢◌, ◌⊎◌, inl, inr, ◌∙◌, ℕ, Bool, true, false, Option, Some, None, MatchBool}
use Rattle.std.proofs.Common.{MatchOption, IsSome, refl, sym, ap, subst, arith}
use Rattle.std.proofs.lemmas.Bool.{cases_eq}
use Rattle.w32_base.specs.declared.call.Call.{Call}
use Rattle.w32_base.specs.declared.call.Reply.{Reply}
use Rattle.w32_base.specs.declared.entry.Outcome.{Outcome}
use Rattle.w32_base.specs.declared.event.Event.{Event}
use Rattle.w32_base.specs.declared.own.Own.{Own}
use Rattle.w32_base.specs.declared.part.After.{After}
use Rattle.w32_base.specs.declared.setup.Setup.{Setup}
use Rattle.script_spec.specs.declared.script.Script.{Script}
use Rattle.win32_spec.specs.State.{Thread, Process, Win32State}
use Rattle.win32_spec.specs.Lookup.{process_of, is_live, process_in, thread_in, thread_of, thread_at, number_of}
use Rattle.win32_spec.specs.Lookup.{number_in}
use Rattle.win32_spec.specs.Lookup.{change_process, change_thread}
use Rattle.win32_spec.specs.Call.{CallStep}
use Rattle.win32_spec.specs.Run.{IsThread, PostedStep, EndStep, ended_from_outside}
use Rattle.win32_spec.specs.Driven.{Parts, part_at, Serves, AreServed, OpensPart, is_same_number}
use Rattle.win32_spec.specs.Driven.{PartGoes, DrivenTurn, AllFollow}
use Rattle.win32_spec.specs.WellFormed.{IsFormed, IsWellFormed}
use Rattle.win32_spec.specs.LookupLaws.{same_some, rising-bounds, process_in-found}
use Rattle.win32_spec.specs.FormedLaws.{live_found, found_live}
use Rattle.win32_spec.specs.MemoryEffects.{HaveRegisters}
use Rattle.win32_spec.specs.TerminalEffects.{effect_of_call}
use Rattle.win32_spec.specs.StepLaws.{IsActing, acting}
use Rattle.win32_spec.specs.KeepLaws.{wellformed-effect}
use Rattle.win32_spec.specs.Tame.{posted_by}
use Rattle.win32_spec.specs.PostedLaws.{posted_found}
use Rattle.win32_spec.specs.AliveLaws.{alive-effect}
use Rattle.win32_spec.specs.Effects.{CallEffect}
use Rattle.win32_spec.specs.ServedLaws.{process_in-is}
use Rattle.w32_machine.specs.NumberLaws.{change-numbers, change-aside, number_found}
use Rattle.w32_driven.proofs.Made.{end-numbers}
use Rattle.w32_driven.proofs.Following.{same-number, follows-on}

-- two slots with the same process are one
pub one-slot : (script : Script) (s : Win32State) (a b w : ℕ) → IsFormed script s → number_in s a ≡ Some w
    → number_in s b ≡ Some w → a ≡ b
one-slot script s a b w h e f =
    let p = number_found (process_in s.processes a) w e in
    let q = number_found (process_in s.processes b) w f in
    let x = process_in-found 1 s.next s.processes a p.0 h.processes p.1 in
    let y = process_in-found 1 s.next s.processes b q.0 h.processes q.1 in
    let g : p.0 ≡ q.0 = same_some (process_of s.processes w) p.0 q.0
    (ap (process_of s.processes) (sym p.2) ∙ x.0) (ap (process_of s.processes) (sym q.2) ∙ y.0) in
    sym x.2 ∙ ap (λ (z : Process). z.slot) g ∙ y.2

-- an end from outside leaves the other slots
pub end-slots : (script : Script) (s : Win32State) → IsFormed script s → (slot : ℕ) (came : Outcome) (new : Win32State)
    → EndStep s (process_in s.processes slot) came new → (k : ℕ) → k ≢ slot → number_in new k ≡ number_in s k
end-slots script s h slot came new step k d = by_process (process_in s.processes slot) refl step
  where
    by_process : (o : Option Process) → process_in s.processes slot ≡ o → EndStep s o came new
        → number_in new k ≡ number_in s k
    by_process None e m = ap (λ (n : Win32State). number_in n k) m.1
    by_process (Some p) e m =
        end-numbers s new p.number ended_from_outside m.1 k
        (λ f. d (one-slot script s k slot p.number h f (ap number_of e)))

-- the next number is that of no process
pub no-next : (script : Script) (s : Win32State) → IsFormed script s → (k : ℕ) → number_in s k ≢ Some s.next
no-next script s h k e =
    let p = number_found (process_in s.processes k) s.next e in
    let found = process_in-found 1 s.next s.processes k p.0 h.processes p.1 in
    let below = rising-bounds 1 s.next s.processes p.0.number p.0 h.processes found.0 in
    omega (arith, p.2, below.1)

-- A call of a thread.
module _ (script : Script) (registers : HaveRegisters script) (s : Win32State) (h : IsWellFormed script s)
    (slot t w : ℕ) (p : Process) (x : Thread) (there : IsThread s slot t p x) (number : p.number ≡ w)
    (call : Call) (posted : call ≡ x.posted) (r : Reply) (mid : Win32State)
    (step : CallStep script s w t call r mid) where
  pub posted_step : PostedStep script s slot t p x r mid
  posted_step = record {
    thread = there;
    step = subst (λ n. CallStep script s n t x.posted r mid) (sym number)
        (subst (λ c. CallStep script s w t c r mid) posted step);
  }

  acts : IsActing s p.number t
  acts = acting script s slot t p x h.formed there

  effect : CallEffect script s p.number t x.posted mid
  effect =
      effect_of_call script s p.number t x.posted r mid registers h.formed acts.live acts.few posted_step.step

  pub mid_formed : IsWellFormed script mid
  mid_formed = wellformed-effect script s p.number t x.posted mid h acts.live acts.few effect

  -- its process lives on exactly where it still stands in its slot
  pub stands_live : number_in mid slot ≡ Some w → is_live (process_of mid.processes p.number) ≡ true
  stands_live e =
      let q = number_found (process_in mid.processes slot) w e in
      let found = process_in-found 1 mid.next mid.processes slot q.0 mid_formed.formed.processes q.1 in
      found_live (process_of mid.processes p.number) q.0
      (ap (process_of mid.processes) (number ∙ sym q.2) ∙ found.0) found.1

  pub live_stands : is_live (process_of mid.processes p.number) ≡ true → number_in mid slot ≡ Some w
  live_stands e =
      let q = live_found (process_of mid.processes p.number) e in
      let before = process_in-found 1 s.next s.processes slot p h.formed.processes there.process in
      let stays = alive-effect script s p.number t x.posted mid h acts.live p.number q.0 q.1 p before.0 q.2 effect in
      let at : process_in mid.processes slot ≡ Some q.0 =
      ap (process_in mid.processes) (sym before.2 ∙ sym stays.slot)
      ∙ process_in-is script mid p.number q.0 mid_formed.formed q.1 q.2 in
      ap number_of at ∙ ap (λ n. Some n) (stays.number ∙ number)

  pub gone_dead : number_in mid slot ≢ Some w → is_live (process_of mid.processes p.number) ≡ false
  gone_dead d = by_test (is_live (process_of mid.processes p.number)) refl
    where
      by_test : (b : Bool) → is_live (process_of mid.processes p.number) ≡ b → b ≡ false
      by_test true e = absurd (d (live_stands e))
      by_test false e = refl

  -- and then it still has its thread
  pub mid_thread : number_in mid slot ≡ Some w → IsSome (thread_at mid slot t)
  mid_thread e =
      let q = number_found (process_in mid.processes slot) w e in
      let found = process_in-found 1 mid.next mid.processes slot q.0 mid_formed.formed.processes q.1 in
      let before = process_in-found 1 s.next s.processes slot p h.formed.processes there.process in
      let stays = alive-effect script s p.number t x.posted mid h acts.live p.number q.0
      (ap (process_of mid.processes) (number ∙ sym q.2) ∙ found.0) p before.0 found.1 effect in
      let y = posted_found (thread_in q.0.threads t) x.posted (stays.posted t ∙ ap posted_by there.thread) in
      rw (ap (λ o. thread_of o t) q.1 ∙ y.1) refl

  pub number_before : number_in s slot ≡ Some w
  number_before = ap number_of there.process ∙ ap (λ n. Some n) number

  -- The same with parts.
  module _ {P : Type 0} (posted_of : P → Call) (goes : P → Own → Setup → Reply → P → Own → After → Type 0)
      (opening : P → Type 0) (slot_of thread_of_part : P → ℕ) (parts between : Parts P)
      (served : AreServed posted_of goes opening slot_of thread_of_part s parts)
      (follow : AllFollow posted_of goes opening slot_of thread_of_part s mid parts between) where
    pub its_part : (part : P) × (part_at parts slot t ≡ Some part) × Serves posted_of goes opening slot_of
        thread_of_part slot t x part
    its_part =
        subst (λ o. MatchOption o (part_at parts slot t ≡ None)
        (λ y. (part : P) × (part_at parts slot t ≡ Some part)
        × Serves posted_of goes opening slot_of thread_of_part slot t y part))
        (ap (λ o. thread_of o t) there.process ∙ there.thread) (served slot t)

    -- it stays while the process does
    pub part_stays : number_in mid slot ≡ Some w → part_at between slot t ≡ Some its_part.0
    part_stays e =
        let f : is_same_number (number_in s slot) (number_in mid slot) ≡ true =
        ap (is_same_number (number_in s slot)) (e ∙ sym number_before) ∙ same-number (number_in s slot) in
        subst (λ b. MatchBool b (part_at between slot t ≡ part_at parts slot t)
        (OpensPart posted_of goes opening slot_of thread_of_part (thread_at mid slot t) slot t
        (part_at between slot t))) f (follow slot t) ∙ its_part.1

    -- the call ended the process
    pub turn_ends : number_in mid slot ≢ Some w
        → DrivenTurn posted_of goes opening slot_of thread_of_part script s parts slot t call r None mid between
    turn_ends d =
        let dead = gone_dead d in
        record {
          process = p;
          thread = x;
          mid = mid;
          posted = posted_step;
          carried_out = posted;
          part = its_part.0;
          before = its_part.1;
          goes_on = rw dead (refl, refl, follow slot t);
          others = λ a b apart. follow a b;
        }

    -- the part goes on
    module _ (stands : number_in mid slot ≡ Some w) (new : Win32State) (after : Parts P) (event : Option Event)
        (part next : P) (was : part_at between slot t ≡ Some part)
        (went : PartGoes posted_of goes opening slot_of thread_of_part script mid w t part r event next new)
        (here : part_at after slot t ≡ Some next)
        (aside : (k u : ℕ) → (k ≢ slot) ⊎ (u ≢ t) → part_at after k u ≡ part_at between k u) where
      numbers_on : (k : ℕ) → number_in new k ≡ number_in mid k
      numbers_on k =
          ap (λ (n : Win32State). number_in n k) went.after
          ∙ change-numbers w
          (λ q. record q { threads = change_thread t (λ y. record y { posted = posted_of next }) q.threads })
          (λ q. refl) (λ q. refl) (λ q. refl) (change_process w (λ q. record q { own = went.own }) mid.processes) k
          ∙ change-numbers w (λ q. record q { own = went.own }) (λ q. refl) (λ q. refl) (λ q. refl) mid.processes k

      thread_on : (k u : ℕ) → k ≢ slot → thread_at new k u ≡ thread_at mid k u
      thread_on k u d =
          let off : number_in mid k ≢ Some w = λ e. d (one-slot script mid k slot w mid_formed.formed e stands) in
          let owned : process_in (change_process w (λ q. record q { own = went.own }) mid.processes) k ≡
          process_in mid.processes k =
          change-aside w (λ q. record q { own = went.own }) (λ q. refl) (λ q. refl) mid.processes k off in
          ap (λ (n : Win32State). thread_at n k u) went.after
          ∙ ap (λ o. thread_of o u)
          (change-aside w
          (λ q. record q { threads = change_thread t (λ y. record y { posted = posted_of next }) q.threads })
          (λ q. refl) (λ q. refl) (change_process w (λ q. record q { own = went.own }) mid.processes) k
          (λ e. off (sym (ap number_of owned) ∙ e))
          ∙ owned)

      pub turn_goes : DrivenTurn posted_of goes opening slot_of thread_of_part script s parts slot t call r event new
          after
      turn_goes =
          let live = stands_live stands in
          let is : its_part.0 ≡ part = same_some (part_at between slot t) its_part.0 part (part_stays stands) was in
          record {
            process = p;
            thread = x;
            mid = mid;
            posted = posted_step;
            carried_out = posted;
            part = part;
            before = its_part.1 ∙ ap (λ q. Some q) is;
            goes_on = rw live (
              next,
              subst (λ n. PartGoes posted_of goes opening slot_of thread_of_part script mid n t part r event next new)
                  (sym number) went,
              here,
            );
            others = λ a b apart. follows-on posted_of goes opening slot_of thread_of_part s mid new parts between after
                a b (follow a b) (numbers_on a) (aside a b apart) (λ e. by_slot a b e (cases_eq a slot));
          }
        where
          by_slot : (a b : ℕ) → is_same_number (number_in s a) (number_in mid a) ≡ false → (a ≡ slot) ⊎ (a ≢ slot)
              → thread_at new a b ≡ thread_at mid a b
          by_slot a b e (inr d) = thread_on a b d
          by_slot a b e (inl n) =
              absurd (let f : is_same_number (number_in s a) (number_in mid a) ≡ true =
              ap (λ k. is_same_number (number_in s k) (number_in mid k)) n
              ∙ ap (is_same_number (number_in s slot)) (stands ∙ sym number_before)
              ∙ same-number (number_in s slot) in cc)
