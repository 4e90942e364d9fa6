-- A table with a process more shows one more process, behind the others.
use Rattle.std.proofs.Common.{◌≡◌, ◌≢◌, ◌⊎◌, inl, inr, ℕ, ◌+◌, ◌<◌, List, [], Option, Some, None, IsSome, refl, sym}
use Rattle.std.proofs.Common.{ap, ◌∙◌, set, length, arith}
use Rattle.std.proofs.lemmas.Bool.{cases_eq}
use Rattle.std.proofs.lemmas.List.{length-set, get_or-set_same, get_or-set_other}
use Rattle.w32_base.specs.declared.call.Call.{Call}
use Rattle.w32_base.specs.declared.setup.Program.{Program}
use Rattle.win32_spec.specs.Handles.{Handle}
use Rattle.win32_spec.specs.State.{PlacedModule, Process}
use Rattle.win32_spec.specs.Lookup.{process_of, add_process}
use Rattle.win32_spec.specs.Making.{opening_call, new_process}
use Rattle.win32_spec.specs.LookupLaws.{process_of-add_new, process_of-add_other, rising-add_process}
use Rattle.w32_process.specs.Places.{Place, empty_place, made_place}
use Rattle.w32_process.specs.Table.{Table, place_at, number_at, code_of, with_made}
use Rattle.w32_process.specs.Sound.{IsSound}
use Rattle.w32_process.specs.SoundLaws.{number_at-set_same, number_at-set_other}
use Rattle.w32_process.specs.Processes.{live_process, processes_of}
use Rattle.w32_process.specs.ProcessLaws.{Finds, same_processes}
use Rattle.w32_process.specs.TableLaws.{IsInNone}
use Rattle.w32_process.specs.FoundLaws.{slot_of, rising-processes, process_of-live, process_of-aside, process_of-next}
use Rattle.w32_process.specs.ThreadLaws.{same_threads}

-- the threads of the new process have posted their first call, and no module is placed in it
pub record KnowsMade (posted posted' : ℕ → ℕ → Call) (placed placed' : ℕ → List PlacedModule)
    (slot : ℕ) : Type 0 where
  pub first : posted' slot 0 ≡ opening_call
  pub second : posted' slot 1 ≡ opening_call
  pub third : posted' slot 2 ≡ opening_call
  pub no_module : placed' slot ≡ []
  pub posted_aside : (k u : ℕ) → k ≢ slot → posted' k u ≡ posted k u
  pub placed_aside : (k : ℕ) → k ≢ slot → placed' k ≡ placed k

module _ (t : Table) (sound : IsSound t) (slot : ℕ) (within : slot < length t.slots)
    (empty : number_at t.slots slot ≡ None) (number : ℕ) (program : Program) (handles : List Handle) where
  abbrev made : Place
  made = made_place t.next number program handles

  number_made : number_at (set t.slots slot made) slot ≡ Some t.next
  number_made = number_at-set_same t.slots slot made within

  -- a process that is there was there, or is the new one
  old : (k n : ℕ) → number_at (set t.slots slot made) k ≡ Some n
      → ((k ≢ slot) × (number_at t.slots k ≡ Some n)) ⊎ ((k ≡ slot) × (n ≡ t.next))
  old k n e =
      elim (cases_eq k slot) [
        | inl p ↦ inr (
          p,
          let f : Some n ≡ Some t.next = sym e ∙ ap (number_at (set t.slots slot made)) p
              ∙ number_made in cc,
        )
        | inr d ↦ inl (d, sym (number_at-set_other t.slots slot k made d) ∙ e)
      ]

  -- no ended process has the new number
  no_code : code_of t.kept t.next ≡ None
  no_code = by_answer (code_of t.kept t.next) refl
    where
      by_answer : (o : Option ℕ) → code_of t.kept t.next ≡ o → o ≡ None
      by_answer None e = refl
      by_answer (Some c) e =
          let some : IsSome (code_of t.kept t.next) = rw e refl in
          absurd (omega (arith, sound.numbers.kept_below t.next some))

  pub IsSound-made : IsSound (with_made t slot number program handles)
  IsSound-made = record {
    some = omega (arith, length-set {A = Place} t.slots slot made, sound.some);
    few = omega (arith, length-set {A = Place} t.slots slot made, sound.few);
    numbers = record {
      below = λ k n e. elim (old k n e)
          [ inl o ↦ omega (arith, sound.numbers.below k n o.1) | inr p ↦ omega (arith, p.1) ];
      live = λ k n e. elim (old k n e)
          [ inl o ↦ sound.numbers.live k n o.1 | inr p ↦ ap (code_of t.kept) p.1 ∙ no_code ];
      alone = λ k j n e f. elim (old k n e) [
        | inl o ↦ elim (old j n f) [
          | inl q ↦ sound.numbers.alone k j n o.1 q.1
          | inr q ↦ absurd (omega (arith, sound.numbers.below k n o.1, q.1))
        ]
        | inr p ↦ elim (old j n f) [
          | inl q ↦ absurd (omega (arith, sound.numbers.below j n q.1, p.1))
          | inr q ↦ p.0 ∙ sym q.0
        ]
      ];
      kept_below = λ n some. omega (arith, sound.numbers.kept_below n some);
      kept_alone = sound.numbers.kept_alone;
    };
  }

  module _ (posted posted' : ℕ → ℕ → Call) (placed placed' : ℕ → List PlacedModule)
      (known : KnowsMade posted posted' placed placed' slot) where
    abbrev new : Process
    new = new_process t.next slot number program 1 handles

    is_new : live_process posted' placed' slot t.next made ≡ new
    is_new = rw (known.first, known.second, known.third, known.no_module) refl

    finds : Finds (processes_of posted' placed' (with_made t slot number program handles))
        (add_process new (processes_of posted placed t))
    finds v =
        elim (cases_eq v t.next) [
          | inl n ↦ rw n (here ∙ sym (process_of-add_new new (processes_of posted placed t)
              (process_of-next posted placed t sound)))
          | inr d ↦ elim (slot_of t.slots v) [
            | inl k ↦ there k.0 k.1
                ∙ sym (process_of-add_other new (processes_of posted placed t) v d)
            | inr none ↦ nowhere d none
                ∙ sym (process_of-add_other new (processes_of posted placed t) v d)
          ]
        ]
      where
        here : process_of (processes_of posted' placed' (with_made t slot number program handles)) t.next ≡ Some new
        here =
            process_of-live posted' placed' (with_made t slot number program handles) IsSound-made slot t.next
            number_made
            ∙ ap (λ p. Some (live_process posted' placed' slot t.next p))
            (get_or-set_same t.slots slot made empty_place within)
            ∙ ap Some is_new

        there : (k : ℕ) → number_at t.slots k ≡ Some v
            → process_of (processes_of posted' placed' (with_made t slot number program handles)) v ≡
            process_of (processes_of posted placed t) v
        there k e =
            let aside : k ≢ slot = λ n. absurd
            (let g : Some v ≡ None = sym e ∙ ap (number_at t.slots) n ∙ empty in cc) in
            process_of-live posted' placed' (with_made t slot number program handles) IsSound-made k v
            (number_at-set_other t.slots slot k made aside ∙ e)
            ∙ ap (λ p. Some (live_process posted' placed' k v p))
            (get_or-set_other t.slots slot k made empty_place aside)
            ∙ ap (λ threads. Some (record (live_process posted' placed' k v (place_at t.slots k)) {
              threads = threads;
            }))
            (same_threads (posted k) (posted' k) (λ u. known.posted_aside k u aside) 0
            (place_at t.slots k).suspended)
            ∙ ap (λ modules. Some (record (live_process posted placed k v (place_at t.slots k)) { placed = modules }))
            (known.placed_aside k aside)
            ∙ sym (process_of-live posted placed t sound k v e)

        nowhere : v ≢ t.next → IsInNone t.slots v
            → process_of (processes_of posted' placed' (with_made t slot number program handles)) v ≡
            process_of (processes_of posted placed t) v
        nowhere d none =
            process_of-aside posted' placed' (with_made t slot number program handles) IsSound-made v
            (λ k e. elim (old k v e) [ inl o ↦ none k o.1 | inr p ↦ d p.1 ])
            ∙ sym (process_of-aside posted placed t sound v none)

    -- the new process is the last one
    pub processes-with_made : processes_of posted' placed' (with_made t slot number program handles) ≡
        add_process (new_process t.next slot number program 1 handles) (processes_of posted placed t)
    processes-with_made =
        same_processes 0 (t.next + 1) 0 (t.next + 1)
        (processes_of posted' placed' (with_made t slot number program handles))
        (add_process new (processes_of posted placed t))
        (rising-processes posted' placed' (with_made t slot number program handles) IsSound-made)
        (rising-add_process 0 t.next new (processes_of posted placed t) (rising-processes posted placed t sound)
        (omega arith) refl) finds
