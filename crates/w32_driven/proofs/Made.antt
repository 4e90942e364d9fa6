-- Which slots have other processes after a call that makes a process or ends one.
use Rattle.std.proofs.Common.{◌≡◌, ◌≢◌, ◌⊎◌, inl, inr, ◌∙◌, ℕ, List, Some, None, refl, sym, ap, slice_get}
use Rattle.w32_base.specs.declared.call.Reply.{Reply}
use Rattle.w32_base.specs.declared.call.Reply.TheVariants as reply
use Rattle.w32_base.specs.declared.setup.Program.{Program}
use Rattle.script_spec.specs.declared.script.Script.{Script}
use Rattle.win32_spec.specs.Handles.{with_handle, listed_handles}
use Rattle.win32_spec.specs.State.{Process, Win32State}
use Rattle.win32_spec.specs.Lookup.{process_of, is_live, process_in, number_of, number_in, change_process, add_process}
use Rattle.win32_spec.specs.Ends.{held_objects, objects_left_by, ended_process, with_end}
use Rattle.win32_spec.specs.Making.{new_process}
use Rattle.win32_spec.specs.Named.{handles_by, object_by, process_named, has_absent, is_full}
use Rattle.win32_spec.specs.ProcessCalls.{IsMade, CreateStep, TerminateStep}
use Rattle.win32_spec.specs.CallEffects.{by_bool, by_option}
use Rattle.w32_base.specs.declared.call.Call.{Call}
use Rattle.w32_base.specs.declared.call.Call.TheVariants as call
use Rattle.win32_spec.specs.Call.{CallStep}
use Rattle.w32_driven.specs.Driving.{IsCreate}
use Rattle.w32_machine.specs.NumberLaws.{SameNumbers, change-numbers, kept-numbers, ended-numbers, add-numbers}
use Rattle.w32_machine.specs.NumberLaws.{add-number}
use Rattle.w32_driven.proofs.CallNumbers.{KeepsProcesses, still}

-- the end of process v leaves each slot where it doesn't stand
pub end-numbers : (s new : Win32State) (v code : ℕ) → new ≡ with_end s v code → (k : ℕ) → number_in s k ≢ Some v
    → number_in new k ≡ number_in s k
end-numbers s new v code e k d =
    ap (λ (n : Win32State). number_in n k) e
    ∙ kept-numbers
    (held_objects (change_process v (ended_process code) s.processes) (objects_left_by v s.objects))
    (change_process v (ended_process code) s.processes) k
    ∙ ended-numbers v code s.processes k d

-- `terminate` leaves each slot but that of the process that the handle names
pub terminate-numbers : (s new : Win32State) (w h code : ℕ) (r : Reply) → TerminateStep s w h code r new
    → (k : ℕ) → (((v : ℕ) → process_named (object_by s w h) ≡ Some v → number_in s k ≢ Some v))
    → number_in new k ≡ number_in s k
terminate-numbers s new w h code r m k d =
    by_option (process_named (object_by s w h)) (λ e m. still s new m.1 k) (λ v e m.
    by_bool (is_live (process_of s.processes v)) (λ f m. end-numbers s new v code m.1 k (d v e))
    (λ f m. still s new m.1 k) m) m

-- A process was made: it has the next number, and stands in a slot that was empty. The other slots have the processes
-- that they had.
pub record Makes (s : Win32State) (r : Reply) (new : Win32State) : Type 0 where
  pub slot : ℕ
  pub handle : ℕ
  pub answered : r ≡ reply.Made handle s.next
  pub empty : number_in s slot ≡ None
  pub stands : number_in new slot ≡ Some s.next
  pub others : (k : ℕ) → k ≢ slot → number_in new k ≡ number_in s k

-- none was made
pub record MakesNone (s : Win32State) (r : Reply) (new : Win32State) : Type 0 where
  pub answered : (h w : ℕ) → r ≢ reply.Made h w
  pub same : SameNumbers s.processes new.processes

module _ (s new : Win32State) (r : Reply) where
  made : (w slot program_no : ℕ) (program : Program) (list : List ℕ) → process_in s.processes slot ≡ None
      → IsMade s w slot program_no program list r new → Makes s r new
  made w slot program_no program list free m =
      let its : Process = new_process s.next slot program_no program 1 (listed_handles (handles_by s w) list) in
      let handed : (k : ℕ) → number_in new k ≡ number_of (process_in (add_process its s.processes) k) =
      λ k. ap (λ (n : Win32State). number_in n k) m.handled.after
      ∙ change-numbers w
      (λ p. record p { handles = with_handle (handles_by s w) m.handled.handle m.number }) (λ p. refl) (λ p. refl)
      (λ p. refl) (add_process its s.processes) k in
      record {
        slot = slot;
        handle = m.handled.handle;
        answered = m.handled.answered;
        empty = ap number_of free;
        stands = handed slot ∙ add-number its s.processes refl (ap number_of free);
        others = λ k d. handed k ∙ add-numbers its s.processes k d;
      }

  pub create-numbers : (script : Script) (w program_no : ℕ) (list : List ℕ)
      → CreateStep script s w program_no list r new
      → Makes s r new ⊎ MakesNone s r new
  create-numbers script w program_no list m =
      by_bool (has_absent (handles_by s w) list)
      (λ e m. inr (record { answered = λ h v n. absurd (let f = sym m.0 ∙ n in cc); same = still s new m.1 })) (λ e m.
      by_option (slice_get script.setup.programs program_no)
      (λ e m. inr (record { answered = λ h v n. absurd (let f = sym m.0 ∙ n in cc); same = still s new m.1 }))
      (λ program e m. elim m [
        | inl none ↦
            inr (record { answered = λ h v n. absurd (let f = sym none.1.0 ∙ n in cc); same = still s new none.1.1 })
        | inr makes ↦ by_bool (is_full (handles_by s w) 1)
            (λ e m. inr (record { answered = λ h v n. absurd (let f = sym m.0 ∙ n in cc); same = still s new m.1 }))
            (λ e m. inl (made w makes.slot program_no program list makes.lowest.free m)) makes.made
      ]) m) m

  pub create-step : (script : Script) (w t : ℕ) (c : Call) → IsCreate c → CallStep script s w t c r new
      → Makes s r new ⊎ MakesNone s r new
  create-step script w t (call.Create program_no list) is m = create-numbers script w program_no list m
  create-step script w t _ is m = absurd is

-- a call of another kind
pub keeps-processes : (c : Call) → ((program_no : ℕ) (list : List ℕ) → c ≢ call.Create program_no list)
    → ((h code : ℕ) → c ≢ call.Terminate h code) → ((code : ℕ) → c ≢ call.ExitSelf code) → KeepsProcesses c
keeps-processes (call.Create program_no list) a b d = absurd (a program_no list refl)
keeps-processes (call.Terminate h code) a b d = absurd (b h code refl)
keeps-processes (call.ExitSelf code) a b d = absurd (d code refl)
keeps-processes _ a b d = tt
