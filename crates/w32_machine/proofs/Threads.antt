-- The threads of a slot, by the tables.
use Rattle.std.proofs.Common.{◌≡◌, ◌≢◌, ◌∙◌, ◌↔◌, ℕ, true, false, Option, Some, None, IsSome, IsTrue}
use Rattle.std.proofs.Common.{MatchOption, refl, sym, ap}
use Rattle.win32_spec.specs.State.{Process}
use Rattle.win32_spec.specs.Lookup.{process_in, thread_of, thread_at, number_of, number_in}
use Rattle.w32_process.specs.Table.{number_at, count_at}
use Rattle.w32_process.specs.TableLaws.{IsInNone}
use Rattle.w32_process.specs.ThreadLaws.{thread_shown}
use Rattle.w32_machine.specs.declared.machine.Machine.TheInside.{Inside}
use Rattle.w32_machine.specs.Running.{Running}
use Rattle.w32_machine.specs.View.{posted_in, view_of}
use Rattle.w32_machine.specs.Sound.{IsSound}
use Rattle.w32_machine.proofs.Processes.{numbers}
use Rattle.w32_machine.proofs.Readiness.{thread-at}

none_of : (o : Option Process) → number_of o ≡ None → o ≡ None
none_of None e = refl
none_of (Some p) e = absurd (cc)

-- the slot in which a process lives, or none
pub slot-now : (m : Inside) (sound : IsSound m) (now : Running) (shows : view_of m ≡ now) (found : Option ℕ) (w : ℕ)
    → MatchOption found (IsInNone m.processes.slots w) (λ slot. number_at m.processes.slots slot ≡ Some w)
    → MatchOption found ((k : ℕ) → number_in now.win32 k ≢ Some w) (λ slot. number_in now.win32 slot ≡ Some w)
slot-now m sound now shows None w none = λ k e. none k (numbers m sound now shows k ∙ e)
slot-now m sound now shows (Some slot) w at = sym (numbers m sound now shows slot) ∙ at

module _ (m : Inside) (sound : IsSound m) (now : Running) (shows : view_of m ≡ now) (slot t : ℕ) where
  uncounted : number_at m.processes.slots slot ≡ None → count_at m.processes.slots slot t ≡ None
  uncounted e = rw e refl

  pub counted-some : (n : ℕ) → count_at m.processes.slots slot t ≡ Some n → IsSome (thread_at now.win32 slot t)
  counted-some n e = by_number (number_at m.processes.slots slot) refl
    where
      by_number : (o : Option ℕ) → number_at m.processes.slots slot ≡ o → IsSome (thread_at now.win32 slot t)
      by_number None f = absurd (let g : None ≡ Some n = sym (uncounted f) ∙ e in cc)
      by_number (Some w) f =
          rw (thread-at m sound now shows slot w t (sym (numbers m sound now shows slot) ∙ f)
          ∙ ap (thread_shown (posted_in m.posted.items slot) t) e) refl

  pub counted-none : count_at m.processes.slots slot t ≡ None → thread_at now.win32 slot t ≡ None
  counted-none e = by_number (number_at m.processes.slots slot) refl
    where
      by_number : (o : Option ℕ) → number_at m.processes.slots slot ≡ o → thread_at now.win32 slot t ≡ None
      by_number None f =
          ap (λ o. thread_of o t)
          (none_of (process_in now.win32.processes slot) (sym (numbers m sound now shows slot) ∙ f))
      by_number (Some w) f =
          thread-at m sound now shows slot w t (sym (numbers m sound now shows slot) ∙ f)
          ∙ ap (thread_shown (posted_in m.posted.items slot) t) e

pub some-iff : {X : Type 0} (o : Option X) → IsSome o → IsTrue true ↔ IsSome o
some-iff o s = (λ e. s, λ s. refl)

pub none-iff : {X : Type 0} (o : Option X) → o ≡ None → IsTrue false ↔ IsSome o
none-iff None e = (λ f. absurd (cc), λ s. absurd (cc))
none-iff (Some x) e = absurd (cc)
