-- The live process that a handle reaches, and its threads.
use Rattle.std.proofs.Common.{◌≡◌, ◌≢◌, ◌∙◌, ℕ, ◌<◌, true, false, nat_eq, Option, Some, None, IsSome, MatchOption, refl}
use Rattle.std.proofs.Common.{sym, ap, subst, arith}
use Rattle.std.proofs.lemmas.Bool.{eqb-true}
use Rattle.std.specs.Option.{option_eq}
use Rattle.w32_base.specs.declared.call.Reply.{Reply}
use Rattle.w32_base.specs.declared.call.Reply.TheVariants as reply
use Rattle.win32_spec.specs.State.{Thread, Process, Win32State}
use Rattle.win32_spec.specs.Lookup.{process_of, process_in, is_live, thread_in, thread_of, thread_at, number_in}
use Rattle.win32_spec.specs.LookupLaws.{same}
use Rattle.win32_spec.specs.Named.{object_by, process_named}
use Rattle.win32_spec.specs.ProcessCalls.{live_of, live_process}
use Rattle.w32_process.specs.Table.{number_at, count_at}
use Rattle.w32_process.specs.FoundLaws.{is_live-aside}
use Rattle.w32_process.specs.ThreadLaws.{thread_shown}
use Rattle.w32_machine.specs.Contract.{LivesOnlyIn}
use Rattle.w32_machine.specs.declared.machine.Machine.TheInside.{Inside}
use Rattle.w32_machine.specs.Reached.{Reaches, Misses, MissesThread}
use Rattle.w32_machine.specs.Running.{Running}
use Rattle.w32_machine.specs.View.{posted_in, placed_in, view_of}
use Rattle.w32_machine.specs.Sound.{IsSound}
use Rattle.w32_machine.proofs.Slots.{its_process, found, found_in, caller-at}
use Rattle.w32_machine.proofs.Keeping.{few}
use Rattle.w32_machine.proofs.Readiness.{thread-at}
use Rattle.w32_machine.proofs.Processes.{numbers}

-- no handle on a process, and one on a process that has ended
pub none-named : (s : Win32State) (w h : ℕ) → process_named (object_by s w h) ≡ None → Misses s w h reply.BadHandle
none-named s w h e =
    subst (λ o. MatchOption o (reply.BadHandle ≡ reply.BadHandle)
    (λ v. MatchOption (live_process s v) (reply.BadHandle ≡ reply.Gone) (λ p. ⊥))) (sym e) refl

pub gone-named : (s : Win32State) (w h v : ℕ) → process_named (object_by s w h) ≡ Some v → live_process s v ≡ None
    → Misses s w h reply.Gone
gone-named s w h v e dead =
    subst (λ o. MatchOption o (reply.Gone ≡ reply.BadHandle)
    (λ v. MatchOption (live_process s v) (reply.Gone ≡ reply.Gone) (λ p. ⊥))) (sym e)
    (subst (λ o. MatchOption o (reply.Gone ≡ reply.Gone) (λ p. ⊥)) (sym dead) refl)

-- what misses a process misses its threads
pub missed-thread : (s : Win32State) (w h t : ℕ) (r : Reply) → Misses s w h r → MissesThread s w h t r
missed-thread s w h t r missed = by_name (process_named (object_by s w h)) missed
  where
    by_life : (o : Option Process) → MatchOption o (r ≡ reply.Gone) (λ p. ⊥)
        → MatchOption o (r ≡ reply.Gone) (λ p. MatchOption (thread_in p.threads t) (r ≡ reply.BadIndex) (λ x. ⊥))
    by_life None e = e
    by_life (Some p) e = absurd e

    by_name : (o : Option ℕ)
        → MatchOption o (r ≡ reply.BadHandle) (λ v. MatchOption (live_process s v) (r ≡ reply.Gone) (λ p. ⊥))
        → MatchOption o (r ≡ reply.BadHandle) (λ v. MatchOption (live_process s v) (r ≡ reply.Gone)
        (λ p. MatchOption (thread_in p.threads t) (r ≡ reply.BadIndex) (λ x. ⊥)))
    by_name None e = e
    by_name (Some v) e = by_life (live_process s v) e

not_live : (o : Option Process) → is_live o ≡ false → live_of o ≡ None
not_live None e = refl
not_live (Some p) e = rw e refl

-- a number that was compared
pub same-number : (o : Option ℕ) (v : ℕ) → option_eq nat_eq o (Some v) ≡ true → o ≡ Some v
same-number None v e = absurd (cc)
same-number (Some n) v e = ap (λ i. Some i) (eqb-true n v e)

pub other-number : (o : Option ℕ) (v : ℕ) → option_eq nat_eq o (Some v) ≡ false → o ≢ Some v
other-number None v e f = cc
other-number (Some n) v e f =
    let g : n ≡ v = cc in
    let s = same n v g in
    absurd (let h : true ≡ false = sym s ∙ e in cc)

module _ (m : Inside) (sound : IsSound m) (now : Running) (shows : view_of m ≡ now) where
  -- a process that doesn't live in its slot
  pub dead : (v slot : ℕ) → LivesOnlyIn now.win32 v slot → number_at m.processes.slots slot ≢ Some v
      → live_process now.win32 v ≡ None
  dead v slot only aside =
      not_live (process_of now.win32.processes v)
      (sym (ap (λ (r : Running). is_live (process_of r.win32.processes v)) shows)
      ∙ is_live-aside (posted_in m.posted.items) (placed_in m.placed.items) m.processes sound.table v
      (λ k e. aside (subst (λ i. number_at m.processes.slots i ≡ Some v)
      (only k (sym (numbers m sound now shows k) ∙ e)) e)))

  pub lives-there : (slot v : ℕ) → number_at m.processes.slots slot ≡ Some v → number_in now.win32 slot ≡ Some v
  lives-there slot v e = sym (numbers m sound now shows slot) ∙ e

  -- the process that is reached
  module _ (slot v : ℕ) (lives : number_in now.win32 slot ≡ Some v) where
    pub at : number_at m.processes.slots slot ≡ Some v
    at = caller-at m sound now shows slot v lives

    abbrev pub reached : Process
    reached = its_process m sound slot v at

    pub live-found : live_process now.win32 v ≡ Some reached
    live-found = ap (λ (r : Running). live_process r.win32 v) (sym shows) ∙ ap live_of (found m sound slot v at)

    pub reached-in : process_in now.win32.processes slot ≡ Some reached
    reached-in = ap (λ (r : Running). process_in r.win32.processes slot) (sym shows) ∙ found_in m sound slot v at

    -- a thread of it
    module _ (t : ℕ) where
      pub thread-of : thread_in reached.threads t ≡ thread_at now.win32 slot t
      thread-of = sym (ap (λ o. thread_of o t) reached-in)

      pub thread-counted : thread_in reached.threads t ≡
          thread_shown (posted_in m.posted.items slot) t (count_at m.processes.slots slot t)
      thread-counted = thread-of ∙ thread-at m sound now shows slot v t lives

      -- there is one where it is counted
      pub thread-some : (n : ℕ) → count_at m.processes.slots slot t ≡ Some n → IsSome (thread_at now.win32 slot t)
      thread-some n e =
          rw (thread-at m sound now shows slot v t lives ∙ ap (thread_shown (posted_in m.posted.items slot) t) e) refl

      pub counted-some : IsSome (thread_at now.win32 slot t) → IsSome (count_at m.processes.slots slot t)
      counted-some some = by_count (count_at m.processes.slots slot t) refl
        where
          by_count : (o : Option ℕ) → count_at m.processes.slots slot t ≡ o → IsSome o
          by_count (Some n) e = refl
          by_count None e =
              absurd (let f : false ≡ true = subst IsSome (thread-at m sound now shows slot v t lives
              ∙ ap (thread_shown (posted_in m.posted.items slot) t) e) some in cc)

      pub thread-none : count_at m.processes.slots slot t ≡ None → thread_at now.win32 slot t ≡ None
      thread-none e =
          thread-at m sound now shows slot v t lives ∙ ap (thread_shown (posted_in m.posted.items slot) t) e

  pub reaches : (w h slot v : ℕ) → process_named (object_by now.win32 w h) ≡ Some v → number_in now.win32 slot ≡ Some v
      → Reaches now.win32 w h slot
  reaches w h slot v named lives = record {
    number = v;
    process = reached slot v lives;
    named = named;
    lives = lives;
    live = live-found slot v lives;
    stands = reached-in slot v lives;
    few = λ t some. few m sound slot t
        (subst (λ (r : Running). IsSome (thread_at r.win32 slot t)) (sym shows) some);
  }

-- a thread that the process that is reached hasn't
pub no-thread : (s : Win32State) (w h slot t : ℕ) → Reaches s w h slot → thread_at s slot t ≡ None
    → MissesThread s w h t reply.BadIndex
no-thread s w h slot t it none =
    subst (λ o. MatchOption o (reply.BadIndex ≡ reply.BadHandle)
    (λ v. MatchOption (live_process s v) (reply.BadIndex ≡ reply.Gone)
    (λ p. MatchOption (thread_in p.threads t) (reply.BadIndex ≡ reply.BadIndex) (λ x. ⊥)))) (sym it.named)
    (subst (λ o. MatchOption o (reply.BadIndex ≡ reply.Gone)
    (λ p. MatchOption (thread_in p.threads t) (reply.BadIndex ≡ reply.BadIndex) (λ x. ⊥))) (sym it.live)
    (subst (λ o. MatchOption o (reply.BadIndex ≡ reply.BadIndex) (λ x. ⊥))
    (sym (sym (ap (λ o. thread_of o t) it.stands) ∙ none)) refl))

pub thread-past : (s : Win32State) (w h slot t : ℕ) → Reaches s w h slot → 2 < t → thread_at s slot t ≡ None
thread-past s w h slot t it past = by_thread (thread_at s slot t) refl
  where
    by_thread : (o : Option Thread) → thread_at s slot t ≡ o → o ≡ None
    by_thread None e = refl
    by_thread (Some x) e =
        let some : IsSome (thread_at s slot t) = rw e refl in absurd (omega (arith, it.few t some))
