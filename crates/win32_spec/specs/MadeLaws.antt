-- A state with one more process, as it is when it is made.
use Rattle.std.proofs.Common.{◌≡◌, ◌≢◌, ◌⊎◌, inl, inr, ℕ, zero, suc, ◌+◌, ◌≤◌, List, replicate, Some, None, slice_get}
use Rattle.std.proofs.Common.{refl, sym, ap, ◌∙◌, subst, arith}
use Rattle.std.proofs.lemmas.Bool.{cases_eq}
use Rattle.std.proofs.lemmas.List.{length-replicate}
use Rattle.w32_base.specs.declared.setup.Program.{Program}
use Rattle.script_spec.specs.declared.script.Script.{Script}
use Rattle.vm_spec.specs.WordLaws.{length-with_word}
use Rattle.win32_spec.specs.Handles.{Handle, handle_of, AreRisingFrom}
use Rattle.win32_spec.specs.State.{Object, ProcessObject, Process, Win32State}
use Rattle.win32_spec.specs.Lookup.{process_of, object_number, object_of, add_process, add_object, IsFresh}
use Rattle.win32_spec.specs.Lookup.{IsLowestFreeSlot}
use Rattle.win32_spec.specs.Making.{threads_of, new_memory, new_threads, new_process}
use Rattle.win32_spec.specs.ProcessCalls.{with_made}
use Rattle.win32_spec.specs.WellFormed.{AreThreads, HasSizes, IsListed, IsLiveProcess, IsProcessBy, IsObject}
use Rattle.win32_spec.specs.WellFormed.{only_number, IsFormed}
use Rattle.win32_spec.specs.LookupLaws.{same_some, not_none, process_of-add_kept, process_of-add_new}
use Rattle.win32_spec.specs.LookupLaws.{process_of-add_other, process_in-free, rising-absent, rising-add_process}
use Rattle.win32_spec.specs.ObjectLaws.{object_of-add_new, object_of-add_other, rising-add_object}
use Rattle.win32_spec.specs.FormedLaws.{with_objects, to_listed, from_listed, object_over}
use Rattle.win32_spec.specs.HandleEffects.{only_process}

-- the sizes of a new memory
pub sizes-new_memory : (n : ℕ) (program : Program)
    → HasSizes (new_memory n program) 64 program.heap program.stack 288 512
unfolding new_memory
sizes-new_memory n program = record {
  dat_size = length-with_word (replicate 64 0) 40 n (omega (arith, length-replicate {A = ℕ} 64 0))
      ∙ length-replicate {A = ℕ} 64 0;
  heap_size = length-replicate {A = ℕ} program.heap 0;
  stack_size = length-replicate {A = ℕ} program.stack 0;
  cyg_size = length-replicate {A = ℕ} 288 0;
  scratch_size = length-replicate {A = ℕ} 512 0;
}

pub threads-new : (slot count : ℕ) → 1 ≤ slot → count ≤ 100 → AreThreads (threads_of slot) (new_threads count)
threads-new zero count l m = absurd (omega arith)
threads-new (suc slot) count l m = (refl, m, (refl, omega arith, (refl, omega arith, tt)))

module _ (script : Script) (s : Win32State) (o slot program_no : ℕ) (program : Program) (hs : List Handle)
    (h : IsFormed script s)
    (fresh : IsFresh s o) (listed : slice_get script.setup.programs program_no ≡ Some program)
    (lowest : IsLowestFreeSlot script.setup.limits.slots s.processes slot) (rising : AreRisingFrom 1 hs)
    (naming : (k names : ℕ) → handle_of hs k ≡ Some names → IsListed s.objects names) where
  made_listed : (names : ℕ) → IsListed s.objects names → IsListed (add_object o (ProcessObject s.next) s.objects) names
  made_listed names l =
      let at = from_listed s.objects names l in
      let apart = λ (n : object_number names ≡ o). not_none (object_of s.objects o) at.0
      (ap (λ k. object_of s.objects k) (sym n) ∙ at.1) fresh.free in
      to_listed (add_object o (ProcessObject s.next) s.objects) names at.0
      (object_of-add_other o (ProcessObject s.next) s.objects (object_number names) apart ∙ at.1) at.2

  made_live : IsLiveProcess script (add_object o (ProcessObject s.next) s.objects)
      (new_process s.next slot program_no program 1 hs)
  made_live = record {
    kind = record {
      number = omega (arith, h.next);
      from_one = lowest.from_one;
      most = lowest.most;
      program = program;
      listed = listed;
      sizes = sizes-new_memory program_no program;
      placed = tt;
    };
    threads = threads-new slot 1 lowest.from_one (omega arith);
    rising = rising;
    naming = λ k names e. made_listed names (naming k names e);
  }

  made_free : process_of s.processes s.next ≡ None
  made_free = rising-absent 1 s.next s.processes s.next h.processes (inr (omega arith))

  made_which : (v : ℕ) (q : Process)
      → process_of (add_process (new_process s.next slot program_no program 1 hs) s.processes) v ≡ Some q
      → ((v ≢ s.next) × (process_of s.processes v ≡ Some q))
      ⊎ ((v ≡ s.next) × (q ≡ new_process s.next slot program_no program 1 hs))
  made_which v q e =
      elim (cases_eq v s.next) [
        | inl n ↦ inr (
          n,
          same_some (process_of (add_process (new_process s.next slot program_no program 1 hs) s.processes) s.next) q
              (new_process s.next slot program_no program 1 hs)
              (ap (λ k. process_of (add_process (new_process s.next slot program_no program 1 hs) s.processes) k)
              (sym n) ∙ e)
              (process_of-add_new (new_process s.next slot program_no program 1 hs) s.processes made_free),
        )
        | inr d ↦ inl (
          d,
          sym (process_of-add_other (new_process s.next slot program_no program 1 hs) s.processes v d)
              ∙ e,
        )
      ]

  object_which : (a : ℕ) (y : Object) → object_of (add_object o (ProcessObject s.next) s.objects) a ≡ Some y
      → ((a ≢ o) × (object_of s.objects a ≡ Some y)) ⊎ ((a ≡ o) × (y ≡ ProcessObject s.next))
  object_which a y e =
      elim (cases_eq a o) [
        | inl n ↦ inr (
          n,
          same_some (object_of (add_object o (ProcessObject s.next) s.objects) o) y (ProcessObject s.next)
              (ap (λ k. object_of (add_object o (ProcessObject s.next) s.objects) k) (sym n) ∙ e)
              (object_of-add_new o (ProcessObject s.next) s.objects fresh.free),
        )
        | inr d ↦ inl (d, sym (object_of-add_other o (ProcessObject s.next) s.objects a d) ∙ e)
      ]

  -- no object is that of the next process yet
  next_unnamed : (a : ℕ) (y : Object) (k : ℕ) → object_of s.objects a ≡ Some y → only_number y ≡ Some k
      → Some (s.next + 2) ≡ Some k → ⊥
  next_unnamed a y k e f g =
      let is : y ≡ ProcessObject s.next = only_process y s.next (f ∙ sym g) in
      let p = subst (IsObject s.processes) is (h.object a y e) in
      not_none (process_of s.processes s.next) p.0 p.1 made_free

  pub formed-with_made : IsFormed script (with_made s o (new_process s.next slot program_no program 1 hs))
  formed-with_made = record {
    next = omega (arith, h.next);
    processes = rising-add_process 1 s.next (new_process s.next slot program_no program 1 hs) s.processes h.processes
        (omega (arith, h.next)) refl;
    objects = rising-add_object o (ProcessObject s.next) 0 s.objects h.objects (omega arith) fresh.even fresh.free;
    process = λ v q e. elim (made_which v q e) [
      | inl old ↦ with_objects script s.objects (add_object o (ProcessObject s.next) s.objects) q q.life made_listed
          (h.process v q old.1)
      | inr this ↦
          subst (λ (x : Process). IsProcessBy script (add_object o (ProcessObject s.next) s.objects) x x.life)
          (sym this.1) made_live
    ];
    one_a_slot = λ u v q r e f a b c. elim (made_which u q e) [
      | inl old ↦ elim (made_which v r f) [
        | inl other ↦ h.one_a_slot u v q r old.1 other.1 a b c
        | inr this ↦ absurd (process_in-free s.processes slot u q lowest.free old.1 a
            (c ∙ ap (λ (x : Process). x.slot) this.1))
      ]
      | inr this ↦ elim (made_which v r f) [
        | inl old ↦ absurd (process_in-free s.processes slot v r lowest.free old.1 b
            (sym c ∙ ap (λ (x : Process). x.slot) this.1))
        | inr that ↦ this.0 ∙ sym that.0
      ]
    ];
    object = λ a y e. elim (object_which a y e) [
      | inl old ↦ object_over s.processes (add_process (new_process s.next slot program_no program 1 hs) s.processes) y
          (λ v p f. (
            p,
            process_of-add_kept (new_process s.next slot program_no program 1 hs) s.processes v p f,
            refl,
          )) (h.object a y old.1)
      | inr this ↦ subst (IsObject (add_process (new_process s.next slot program_no program 1 hs) s.processes))
          (sym this.1) (
            new_process s.next slot program_no program 1 hs,
            process_of-add_new
                (new_process s.next slot program_no program 1 hs) s.processes made_free,
          )
    ];
    only = λ a b y z k e f m n. elim (object_which a y e) [
      | inl old ↦ elim (object_which b z f) [
        | inl other ↦ h.only a b y z k old.1 other.1 m n
        | inr this ↦ absurd (next_unnamed a y k old.1 m (sym (ap only_number this.1) ∙ n))
      ]
      | inr this ↦ elim (object_which b z f) [
        | inl old ↦ absurd (next_unnamed b z k old.1 n (sym (ap only_number this.1) ∙ m))
        | inr that ↦ this.0 ∙ sym that.0
      ]
    ];
  }
