-- A world begins wherever the machine opens with its parts: each thread's part was just opened, and its clause holds.
use Rattle.std.proofs.Common.{Bool, nat_eq, if◌then◌else◌}
use Rattle.std.proofs.Common.{◌≡◌, inl, inr, ℕ, zero, suc, ◌≤◌, ◌<◌, true, false, Option, Some, None, List, []}
use Rattle.std.proofs.Common.{slice_index_or, refl, sym, ap, ◌∙◌, subst, arith}
use Rattle.std.proofs.lemmas.Bool.{cases_eq}
use Rattle.w32_base.specs.declared.call.Call.{Call}
use Rattle.w32_base.specs.declared.call.Reply.{Reply}
use Rattle.w32_base.specs.declared.own.Own.{Own}
use Rattle.w32_base.specs.declared.part.After.{After}
use Rattle.w32_base.specs.declared.setup.Setup.{Setup}
use Rattle.script_spec.specs.declared.script.Script.{Script}
use Rattle.script_spec.specs.Validity.{IsValid}
use Rattle.tty_spec.specs.Terminal.{opening_terminal}
use Rattle.win32_spec.specs.Objects.{Free}
use Rattle.win32_spec.specs.State.{Object, Mutex, Ended, Process, Thread, Win32State}
use Rattle.win32_spec.specs.Driven.{part_at, IsDrivenOpening, OpensPart, IsOpened}
use Rattle.win32_spec.specs.Lookup.{is_alive, number_in, process_of, thread_at, object_of, object_number}
use Rattle.win32_spec.specs.LookupLaws.{same, differs, same_some}
use Rattle.win32_spec.specs.Making.{opening_call}
use Rattle.win32_spec.specs.Opening.{opening_host, opening_process, OpeningNumbers, IsOpening, opening, opening_words}
use Rattle.win32_spec.specs.OpeningLaws.{wellformed-opening}
use Rattle.win32_spec.specs.ServedOpening.{served-opening}
use Rattle.posix_spec.specs.Opening.{opening_of}
use Rattle.posix_spec.specs.OpeningLaws.{IsWellFormed-opening_of}
use Rattle.posix_spec.specs.ValidLaws.{HasRanges-valid}
use Rattle.posix_spec.specs.WellFormed.{IsWellFormed as IsPosixFormed}
use Rattle.layer_spec.specs.Decodes.{Decodes}
use Rattle.layer_spec.specs.History.{driven_at}
use Rattle.layer_spec.specs.Moment.{Moment, Seen}
use Rattle.layer_spec.specs.OpeningHistory.{opening_is_history}
use Rattle.layer_spec.specs.OpeningLaws.{zero_at, decodes_at_opening}
use Rattle.layer_spec.specs.Rows.{main_place, group_place, exit_place}
use Rattle.layer_spec.specs.Words.{main_at}
use Rattle.layer_spec.specs.Decoding.{main_image}
use Rattle.std.specs.Prelude.{◌*◌, ◌+◌, ◌^◌}
use Rattle.roster.specs.Words.{is_live_word}
use Rattle.world_spec.specs.Owes.{OwesWorld}
use Rattle.world_spec.specs.Sound.{AreByteKeys, IsHosted, IsBlankRow, AreRowsSound, HaveOneRoster, IsRosterMutex}
use Rattle.world_spec.specs.StepLaws.{some_same}
use Rattle.roster.specs.Turns.{roster_handle}
use Rattle.layer_spec.specs.Turns.{is_live_process}
use Rattle.win32_spec.specs.Handles.{handle_of}
use Rattle.win32_spec.specs.Named.{handles_of, named_by, object_at, object_by}
use Rattle.world_spec.specs.World.{IsWorld}

-- the opening state has its host
pub hosted-opening : (script : Script) (s : Win32State) → IsOpening script s → IsHosted s
hosted-opening script s h = subst IsHosted (sym h.state) (by_numbers h.numbers)
  where
    by_numbers : (n : OpeningNumbers) → IsHosted (opening n h.program h.placed)
    by_numbers n = record {
      lives = refl;
      section = (opening_words, rw (n.section_even, same n.section n.section refl) refl);
      terminal = (
        opening_terminal,
        rw (
          n.terminal_even,
          differs n.section n.terminal (λ e. omega (arith, n.mutex_above, n.terminal_above, e)),
          differs n.mutex n.terminal (λ e. omega (arith, n.terminal_above, e)),
          same n.terminal n.terminal refl,
        ) refl,
      );
    }

-- past its first three words the opening section has zeros
later_word : (i : ℕ) → 3 ≤ i → slice_index_or opening_words i 0 ≡ 0
unfolding opening_words
later_word zero l = absurd (omega (arith, l))
later_word (suc zero) l = absurd (omega (arith, l))
later_word (suc (suc zero)) l = absurd (omega (arith, l))
later_word (suc (suc (suc k))) l = zero_at 11998 k

first_word : slice_index_or opening_words 1 0 ≡ 2 * 2 ^ 50 + 2 * 2 ^ 31
unfolding opening_words
first_word = refl

one_claimed : slice_index_or opening_words 0 0 ≡ 1
unfolding opening_words
one_claimed = refl

-- at the opening one row is claimed, by nobody that was seen, and it alone is live
pub rows-opening : {A : Type 0} → (script : Script) (s : Win32State) → IsOpening script s → AreRowsSound {A = A} [] s
rows-opening script s h = subst (AreRowsSound []) (sym h.state) (record {
  few = omega (arith, one_claimed);
  blank = λ row above. blank row (omega (arith, above, one_claimed));
  within = λ row w claim. absurd claim;
  once = λ row v w claim other. absurd claim;
  apart = λ a b from_a from_b live_a live_b same.
      let one_a = only_first a from_a live_a in
      let one_b = only_first b from_b live_b in one_a ∙ sym one_b;
  ended = λ row from live dead. absurd (first_lives row (only_first row from live) dead);
})
  where
    first : Win32State
    first = opening h.numbers h.program h.placed

    blank : (row : ℕ) → 1 < row → IsBlankRow (opening h.numbers h.program h.placed) row
    blank row above = record {
      main = later_word (main_place row) (omega (arith, above));
      group = later_word (group_place row) (omega (arith, above));
      exit = later_word (exit_place row) (omega (arith, above));
    }

    first_lives : (row : ℕ) → row ≡ 1
        → is_live_process (opening h.numbers h.program h.placed)
        (main_image (main_at (opening h.numbers h.program h.placed) row)) ≡ false → ⊥
    first_lives row one dead =
        let image : main_image (main_at (opening h.numbers h.program h.placed) row) ≡ 2 =
        ap (λ k. main_image (main_at (opening h.numbers h.program h.placed) k)) one ∙ ap main_image first_word in
        let f : is_live_process (opening h.numbers h.program h.placed) 2 ≡ false =
        subst (λ k. is_live_process (opening h.numbers h.program h.placed) k ≡ false) image dead in
        let g : true ≡ false = f in cc

    only_first : (row : ℕ) → 1 ≤ row → is_live_word (main_at (opening h.numbers h.program h.placed) row) ≡ true
        → row ≡ 1
    only_first row from live = elim (cases_eq row 1) [
      | inl e ↦ e
      | inr d ↦
          let b = blank row (omega (arith, from, d)) in
          let never : is_live_word 0 ≡ true = ap is_live_word (sym b.main) ∙ live in
          absurd (let e : false ≡ true = never in cc)
    ]

-- and both processes have the roster mutex by handle 2
pub roster-opening : (script : Script) (s : Win32State) → IsOpening script s → HaveOneRoster s
roster-opening script s h = subst HaveOneRoster (sym h.state) (λ v w m n live_v live_w named_v named_w.
    sym (only v m live_v named_v) ∙ only w n live_w named_w)
  where
    only : (v m : ℕ) → is_live_process (opening h.numbers h.program h.placed) v ≡ true
        → named_by (opening h.numbers h.program h.placed) v roster_handle ≡ Some m → h.numbers.mutex ≡ m
    only v m live named = by_tests (nat_eq 1 v) (nat_eq 2 v) named
      where
        by_tests : (a b : Bool)
            → handle_of (handles_of (if a then Some (opening_host h.numbers)
            else if b then Some (opening_process h.numbers h.program h.placed) else None)) roster_handle ≡ Some m
            → h.numbers.mutex ≡ m
        by_tests true b e = some_same h.numbers.mutex m e
        by_tests false true e = some_same h.numbers.mutex m e
        by_tests false false e = absurd (cc)

-- which is a mutex
pub mutex-opening : (script : Script) (s : Win32State) → IsOpening script s → IsRosterMutex s
mutex-opening script s h = subst IsRosterMutex (sym h.state) (λ v live x is. (Free, sym (only v x is)))
  where
    first : Win32State
    first = opening h.numbers h.program h.placed

    listed : object_of first.objects (object_number h.numbers.mutex) ≡ Some (Mutex Free)
    listed = rw (
      h.numbers.mutex_even,
      differs h.numbers.section h.numbers.mutex (λ e. omega (arith, h.numbers.mutex_above, e)),
      same h.numbers.mutex h.numbers.mutex refl,
    ) refl

    only : (v : ℕ) (x : Object) → object_by first v roster_handle ≡ Some x → Mutex Free ≡ x
    only v x is = by_tests (nat_eq 1 v) (nat_eq 2 v) is
      where
        by_tests : (a b : Bool)
            → object_at first (handle_of (handles_of (if a then Some (opening_host h.numbers)
            else if b then Some (opening_process h.numbers h.program h.placed) else None)) roster_handle) ≡ Some x
            → Mutex Free ≡ x
        by_tests true b e = some_same (Mutex Free) x (sym listed ∙ e)
        by_tests false true e = some_same (Mutex Free) x (sym listed ∙ e)
        by_tests false false e = absurd (cc)

-- a live row is row 1
first-row : (script : Script) (s : Win32State) → IsOpening script s → (row : ℕ) → 1 ≤ row
    → is_live_word (main_at s row) ≡ true → row ≡ 1
first-row script s h row from live =
    let rows : AreRowsSound {A = ℕ} [] s = rows-opening script s h in
    elim (cases_eq row 1) [
      | inl e ↦ e
      | inr d ↦
          let b = rows.blank row (omega (arith, from, d, rows.few)) in
          absurd (let e : false ≡ true = sym (ap is_live_word b.main) ∙ live in cc)
    ]

-- both processes are alive: nobody has ended
opening-alive : (script : Script) (s : Win32State) → IsOpening script s → (v code : ℕ) (q : Process)
    → process_of s.processes v ≡ Some q → q.life ≡ Ended code → ⊥
opening-alive script s h v code q found life =
    by_tests (nat_eq 1 v) (nat_eq 2 v) (subst (λ (n : Win32State). process_of n.processes v ≡ Some q) h.state found)
  where
    by_process : (p : Process) → is_alive p.life ≡ true → Some p ≡ Some q → ⊥
    by_process p alive f =
        let g : true ≡ false =
        sym alive ∙ (ap (λ (x : Process). is_alive x.life) (some_same p q f) ∙ ap is_alive life) in cc

    by_tests : (a b : Bool) → (if a then Some (opening_host h.numbers)
        else if b then Some (opening_process h.numbers h.program h.placed) else None) ≡ Some q → ⊥
    by_tests true b e = by_process (opening_host h.numbers) refl e
    by_tests false true e = by_process (opening_process h.numbers h.program h.placed) refl e
    by_tests false false e = let f : None ≡ Some q = e in cc

-- and no key is in the queue
keys-opening : (script : Script) (s : Win32State) → IsOpening script s → AreByteKeys s.keys
keys-opening script s h = subst (λ (n : Win32State). AreByteKeys n.keys) (sym h.state) tt

module _ {A : Type 0} (posted_of : A → Call) (goes : A → Own → Setup → Reply → A → Own → After → Type 0)
    (opening_part : A → Type 0) (slot_of thread_of_part : A → ℕ)
    (clause : List (Seen A) → Moment A → ℕ → A → Type 0)
    (begins : (p : A) → opening_part p → posted_of p ≡ opening_call)
    (script : Script) (owes : OwesWorld posted_of goes opening_part slot_of thread_of_part clause script) where
  pub world-opens : (now : Moment A) → IsValid script
      → IsDrivenOpening posted_of goes opening_part slot_of thread_of_part script (driven_at now None)
      → now.posix ≡ opening_of script
      → IsWorld posted_of goes opening_part slot_of thread_of_part clause script [] now
  world-opens now valid driven opened = record {
    history = opening_is_history posted_of goes opening_part slot_of thread_of_part script now valid driven opened;
    sound = record {
      formed = wellformed-opening script now.win32 valid.few_modules driven.opens;
      hosted = hosted-opening script now.win32 driven.opens;
      decodes = subst (λ p. Decodes script now.win32 p) (sym opened)
          (decodes_at_opening script now.win32 valid driven.opens);
      rows = rows-opening script now.win32 driven.opens;
      roster = roster-opening script now.win32 driven.opens;
      mutex = mutex-opening script now.win32 driven.opens;
      keys = keys-opening script now.win32 driven.opens;
      codes = record {
        ended = λ v is. absurd (let e : false ≡ true = is in cc);
        codes = λ v code q found life. absurd (opening-alive script now.win32 driven.opens v code q found life);
      };
      first = λ code q found life. absurd (opening-alive script now.win32 driven.opens 2 code q found life);
      first_row = record {
        next = omega (arith, ap (λ (s : Win32State). s.next) driven.opens.state);
        made = λ w v makes. absurd makes;
        row = λ row from live image. first-row script now.win32 driven.opens row from live;
      };
      posix = subst (IsPosixFormed script) (sym opened) (IsWellFormed-opening_of script (HasRanges-valid script valid));
    };
    served = served-opening posted_of goes opening_part slot_of thread_of_part begins script
        (driven_at now None) driven;
    stands = stands;
  }
    where
      stands : (slot t w : ℕ) (part : A) → number_in now.win32 slot ≡ Some w → part_at now.parts slot t ≡ Some part
          → clause [] now w part
      stands slot t w part number here = by_thread (thread_at now.win32 slot t) (driven.opened slot t)
        where
          by_thread : (o : Option Thread)
              → OpensPart posted_of goes opening_part slot_of thread_of_part o slot t (part_at now.parts slot t)
              → clause [] now w part
          by_thread None m = absurd (let f : Some part ≡ None = sym here ∙ m in cc)
          by_thread (Some x) m =
              let g : m.0 ≡ part = same_some (part_at now.parts slot t) m.0 part m.1 here in
              owes.begins now driven.opens opened slot t w part number
              (subst (IsOpened posted_of goes opening_part slot_of thread_of_part slot t) g m.2)
