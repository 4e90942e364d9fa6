-- The opening state is well formed.
use Rattle.std.proofs.Common.{◌≡◌, ◌≢◌, ◌⊎◌, inl, inr, ℕ, ◌+◌, ◌≤◌, true, if◌then◌else◌, nat_eq, List, [], ◌∷◌, length}
use Rattle.std.proofs.Common.{Some, None, slice_get, refl, sym, ap, ◌∙◌, subst, arith}
use Rattle.std.proofs.lemmas.Bool.{cases_eq}
use Rattle.tty_spec.specs.Terminal.{opening_terminal}
use Rattle.w32_base.specs.declared.setup.Program.{Program}
use Rattle.script_spec.specs.declared.script.Script.{Script}
use Rattle.win32_spec.specs.Handles.{Handle, handle_of}
use Rattle.win32_spec.specs.Objects.{Free}
use Rattle.win32_spec.specs.State.{Object, Section, Mutex, ProcessObject, TerminalObject, PlacedModule, Process}
use Rattle.win32_spec.specs.State.{Win32State}
use Rattle.win32_spec.specs.Lookup.{is_alive, process_of, object_number, object_of}
use Rattle.win32_spec.specs.Ends.{is_object_held}
use Rattle.win32_spec.specs.Opening.{opening_words, ArePlaced, opening_memory, OpeningNumbers, opening_host}
use Rattle.win32_spec.specs.Opening.{opening_handles, opening_process, opening_objects, opening, IsOpening}
use Rattle.win32_spec.specs.WellFormed.{HasSizes, AreModules, has_ends, IsListed, IsLiveProcess, IsProcessBy, IsObject}
use Rattle.win32_spec.specs.WellFormed.{only_number, IsFormed, IsWellFormed}
use Rattle.win32_spec.specs.LookupLaws.{same, differs, same_some}
use Rattle.win32_spec.specs.HeldLaws.{is-held}
use Rattle.win32_spec.specs.FormedLaws.{to_listed}
use Rattle.win32_spec.specs.MadeLaws.{sizes-new_memory}
use Rattle.win32_spec.specs.PlacedLaws.{length-opening_words, length-opening_cygheap, placed-modules}

module _ (script : Script) (numbers : OpeningNumbers) (program : Program) (placed : List PlacedModule)
    (first : slice_get script.setup.programs 0 ≡ Some program)
    (in_order : ArePlaced script 1 0 script.setup.modules [] placed)
    (few : length script.setup.modules ≤ 8) (slots : 1 ≤ script.setup.limits.slots) where
  modules_are : AreModules script.setup.modules placed × (length placed ≡ 0 + length script.setup.modules)
  modules_are = placed-modules script 1 0 script.setup.modules [] [] placed refl refl (λ k l. refl) tt in_order

  -- where the objects are
  at_section : object_of (opening_objects numbers) numbers.section ≡ Some (Section opening_words)
  at_section = let s = same numbers.section numbers.section refl in rw s refl

  at_mutex : object_of (opening_objects numbers) numbers.mutex ≡ Some (Mutex Free)
  at_mutex =
      let s = differs numbers.section numbers.mutex (λ e. omega (arith, numbers.mutex_above)) in
      let u = same numbers.mutex numbers.mutex refl in rw (s, u) refl

  at_terminal : object_of (opening_objects numbers) numbers.terminal ≡ Some (TerminalObject opening_terminal)
  at_terminal =
      let s = differs numbers.section numbers.terminal
      (λ e. omega (arith, numbers.mutex_above, numbers.terminal_above)) in
      let t = differs numbers.mutex numbers.terminal (λ e. omega (arith, numbers.terminal_above)) in
      let u = same numbers.terminal numbers.terminal refl in rw (s, t, u) refl

  at_process : object_of (opening_objects numbers) numbers.process ≡ Some (ProcessObject 2)
  at_process =
      let s = differs numbers.section numbers.process
      (λ e. omega (arith, numbers.mutex_above, numbers.terminal_above, numbers.process_above)) in
      let t = differs numbers.mutex numbers.process
      (λ e. omega (arith, numbers.terminal_above, numbers.process_above)) in
      let v = differs numbers.terminal numbers.process (λ e. omega (arith, numbers.process_above)) in
      let u = same numbers.process numbers.process refl in rw (s, t, v, u) refl

  -- an object is one of the four
  which_one : (o : ℕ) (x : Object) → object_of (opening_objects numbers) o ≡ Some x
      → ((o ≡ numbers.section) × (x ≡ Section opening_words)) ⊎ ((o ≡ numbers.mutex) × (x ≡ Mutex Free))
      ⊎ ((o ≡ numbers.terminal) × (x ≡ TerminalObject opening_terminal))
      ⊎ ((o ≡ numbers.process) × (x ≡ ProcessObject 2))
  which_one o x e = elim (cases_eq o numbers.section) [
    | inl n ↦ inl (
      n,
      same_some (object_of (opening_objects numbers) o) x (Section opening_words) e
          (ap (object_of (opening_objects numbers)) n ∙ at_section),
    )
    | inr a ↦ elim (cases_eq o numbers.mutex) [
      | inl n ↦ inr (inl (
        n,
        same_some (object_of (opening_objects numbers) o) x (Mutex Free) e
            (ap (object_of (opening_objects numbers)) n ∙ at_mutex),
      ))
      | inr b ↦ elim (cases_eq o numbers.terminal) [
        | inl n ↦ inr (inr (inl (
          n,
          same_some (object_of (opening_objects numbers) o) x (TerminalObject opening_terminal) e
              (ap (object_of (opening_objects numbers)) n ∙ at_terminal),
        )))
        | inr c ↦ elim (cases_eq o numbers.process) [
          | inl n ↦ inr (inr (inr (
            n,
            same_some (object_of (opening_objects numbers) o) x (ProcessObject 2) e
                (ap (object_of (opening_objects numbers)) n ∙ at_process),
          )))
          | inr d ↦ absurd (gone a b c d)
        ]
      ]
    ]
  ]
    where
      gone : o ≢ numbers.section → o ≢ numbers.mutex → o ≢ numbers.terminal → o ≢ numbers.process → ⊥
      gone a b c d =
          let s = differs numbers.section o (λ n. a (sym n)) in let t = differs numbers.mutex o (λ n. b (sym n)) in
          let u = differs numbers.terminal o (λ n. c (sym n)) in let v = differs numbers.process o (λ n. d (sym n)) in
          let f : None ≡ Some x = rw (s, t, u, v) at e in cc

  -- what the handles name is listed
  abbrev AreListed : List Handle → Type 0
  AreListed [] = Unit {0}
  AreListed (h ∷ hs) = IsListed (opening_objects numbers) h.names × AreListed hs

  all_listed : (hs : List Handle) → AreListed hs → (k names : ℕ) → handle_of hs k ≡ Some names
      → IsListed (opening_objects numbers) names
  all_listed [] l k names e = absurd (cc)
  all_listed (h ∷ hs) l k names e = elim (cases_eq h.number k) [
    | inl n ↦ let s = same h.number k n in let f : Some h.names ≡ Some names = rw s at e in let g : h.names ≡ names =
        cc in
        subst (IsListed (opening_objects numbers)) g l.0
    | inr d ↦ let s = differs h.number k d in all_listed hs l.1 k names (rw s at e)
  ]

  list_one : (names o : ℕ) (x : Object) → object_number names ≡ o → object_of (opening_objects numbers) o ≡ Some x
      → (names ≡ o) ⊎ (has_ends x ≡ true)
      → IsListed (opening_objects numbers) names
  list_one names o x e f fits =
      to_listed (opening_objects numbers) names x (ap (object_of (opening_objects numbers)) e ∙ f)
      (λ k. elim fits [ inl m ↦ e ∙ sym m | inr m ↦ absurd (cc) ])

  lines_face : object_number (numbers.terminal + 1) ≡ numbers.terminal
  lines_face = omega (arith, numbers.terminal_even)

  host_live : IsLiveProcess script (opening_objects numbers) (opening_host numbers)
  host_live = record {
    kind = record {
      number = refl;
      slot = refl;
      placed = refl;
      sizes = record { dat_size = refl; heap_size = refl; stack_size = refl; cyg_size = refl; scratch_size = refl };
    };
    threads = (refl, omega arith, (refl, omega arith, tt));
    rising = (
      omega arith,
      omega arith,
      (omega arith, omega arith, (omega arith, omega arith, (omega arith, omega arith, tt))),
    );
    naming = all_listed (opening_host numbers).handles (
      list_one numbers.section numbers.section (Section opening_words) numbers.section_even at_section (inl refl),
      (
        list_one numbers.mutex numbers.mutex (Mutex Free) numbers.mutex_even at_mutex (inl refl),
        (
          list_one numbers.terminal numbers.terminal (TerminalObject opening_terminal) numbers.terminal_even
              at_terminal (inl refl),
          (list_one numbers.process numbers.process (ProcessObject 2) numbers.process_even at_process (inl refl), tt),
        ),
      ),
    );
  }

  first_sizes : HasSizes (opening_memory program placed) 64 program.heap program.stack 288 512
  first_sizes =
      let new = sizes-new_memory 0 program in
      record {
        dat_size = new.dat_size;
        heap_size = new.heap_size;
        stack_size = new.stack_size;
        scratch_size = new.scratch_size;
        cyg_size = length-opening_cygheap placed (omega (arith, modules_are.1));
      }

  first_live : IsLiveProcess script (opening_objects numbers) (opening_process numbers program placed)
  first_live = record {
    kind = record {
      number = omega arith;
      from_one = omega arith;
      most = slots;
      program = program;
      listed = first;
      sizes = first_sizes;
      placed = modules_are.0;
    };
    threads = (refl, omega arith, (refl, omega arith, (refl, omega arith, tt)));
    rising = (omega arith, omega arith, (omega arith, omega arith, (omega arith, omega arith, tt)));
    naming = all_listed (opening_handles numbers) (
      list_one numbers.section numbers.section (Section opening_words) numbers.section_even at_section (inl refl),
      (
        list_one numbers.mutex numbers.mutex (Mutex Free) numbers.mutex_even at_mutex (inl refl),
        (
          list_one (numbers.terminal + 1) numbers.terminal (TerminalObject opening_terminal) lines_face at_terminal
              (inr refl),
          tt,
        ),
      ),
    );
  }

  abbrev two_processes : List Process
  two_processes = opening_host numbers ∷ opening_process numbers program placed ∷ []

  which_process : (w : ℕ) (p : Process) → process_of two_processes w ≡ Some p
      → ((w ≡ 1) × (p ≡ opening_host numbers)) ⊎ ((w ≡ 2) × (p ≡ opening_process numbers program placed))
  which_process w p e = elim (cases_eq 1 w) [
    | inl n ↦ let s = same 1 w n in let f : Some (opening_host numbers) ≡ Some p = rw s at e in inl (sym n, cc)
    | inr a ↦ let s = differs 1 w a in elim (cases_eq 2 w) [
      | inl n ↦ let t = same 2 w n in let f : Some (opening_process numbers program placed) ≡ Some p =
          rw (s, t) at e in inr (sym n, cc)
      | inr b ↦ let t = differs 2 w b in absurd (let f : None ≡ Some p = rw (s, t) at e in cc)
    ]
  ]

  opening_formed : IsFormed script (opening numbers program placed)
  opening_formed = record {
    next = omega arith;
    processes = (omega arith, omega arith, (omega arith, omega arith, tt));
    objects = (
      omega arith,
      numbers.section_even,
      (
        omega (arith, numbers.mutex_above),
        numbers.mutex_even,
        (
          omega (arith, numbers.terminal_above),
          numbers.terminal_even,
          (omega (arith, numbers.process_above), numbers.process_even, tt),
        ),
      ),
    );
    process = λ w p e. elim (which_process w p e) [
      | inl host ↦ subst (λ (x : Process). IsProcessBy script (opening_objects numbers) x x.life) (sym host.1) host_live
      | inr layer ↦ subst (λ (x : Process). IsProcessBy script (opening_objects numbers) x x.life) (sym layer.1)
          first_live
    ];
    one_a_slot = λ v w p q e f a b c. elim (which_process v p e) [
      | inl host ↦ elim (which_process w q f) [
        | inl other ↦ host.0 ∙ sym other.0
        | inr layer ↦ absurd (let g : 0 ≡ 1 =
            ap (λ (x : Process). x.slot) (sym host.1) ∙ c ∙ ap (λ (x : Process). x.slot) layer.1 in omega arith)
      ]
      | inr layer ↦ elim (which_process w q f) [
        | inl host ↦ absurd (let g : 1 ≡ 0 =
            ap (λ (x : Process). x.slot) (sym layer.1) ∙ c ∙ ap (λ (x : Process). x.slot) host.1 in omega arith)
        | inr other ↦ layer.0 ∙ sym other.0
      ]
    ];
    object = λ o x e. elim (which_one o x e) [
      | inl at ↦ subst (IsObject two_processes) (sym at.1) length-opening_words
      | inr rest ↦ elim rest [
        | inl at ↦ subst (IsObject two_processes) (sym at.1) tt
        | inr more ↦ elim more [
          | inl at ↦ subst (IsObject two_processes) (sym at.1) tt
          | inr at ↦ subst (IsObject two_processes) (sym at.1) (opening_process numbers program placed, refl)
        ]
      ]
    ];
    only = λ a b x y k e f m n. place a x k e m ∙ sym (place b y k f n);
  }
    where
      place : (a : ℕ) (x : Object) (k : ℕ) → object_of (opening_objects numbers) a ≡ Some x → only_number x ≡ Some k
          → a ≡ (if nat_eq k 0 then numbers.section else if nat_eq k 1 then numbers.terminal else numbers.process)
      place a x k e m = elim (which_one a x e) [
        | inl at ↦ let g : Some 0 ≡ Some k = ap only_number (sym at.1) ∙ m in let h : 0 ≡ k = cc in rw (← h) at.0
        | inr rest ↦ elim rest [
          | inl at ↦ absurd (let g : None ≡ Some k = ap only_number (sym at.1) ∙ m in cc)
          | inr more ↦ elim more [
            | inl at ↦ let g : Some 1 ≡ Some k = ap only_number (sym at.1) ∙ m in let h : 1 ≡ k = cc in rw (← h) at.0
            | inr at ↦ let g : Some 4 ≡ Some k = ap only_number (sym at.1) ∙ m in let h : 4 ≡ k = cc in rw (← h) at.0
          ]
        ]
      ]

  held_by_host : (k names o : ℕ) → handle_of (opening_host numbers).handles k ≡ Some names → object_number names ≡ o
      → is_object_held two_processes o ≡ true
  held_by_host k names o e n =
      is-held two_processes o (record {
        number = 1;
        process = opening_host numbers;
        found = refl;
        alive = refl;
        handle = k;
        names = names;
        named = e;
        object = n;
      })

  opening_wellformed : IsWellFormed script (opening numbers program placed)
  opening_wellformed = record {
    formed = opening_formed;
    object_held = λ o x e. elim (which_one o x e) [
      | inl at ↦ held_by_host 1 numbers.section o refl (numbers.section_even ∙ sym at.0)
      | inr rest ↦ elim rest [
        | inl at ↦ held_by_host 2 numbers.mutex o refl (numbers.mutex_even ∙ sym at.0)
        | inr more ↦ elim more [
          | inl at ↦ held_by_host 3 numbers.terminal o refl (numbers.terminal_even ∙ sym at.0)
          | inr at ↦ held_by_host 4 numbers.process o refl (numbers.process_even ∙ sym at.0)
        ]
      ]
    ];
    process_held = λ w p e dead. elim (which_process w p e) [
      | inl host ↦ absurd (let g : is_alive p.life ≡ true = ap (λ (x : Process). is_alive x.life) host.1 in cc)
      | inr layer ↦ absurd (let g : is_alive p.life ≡ true = ap (λ (x : Process). is_alive x.life) layer.1 in cc)
    ];
  }

-- the state in which a run of a script begins is well formed
pub wellformed-opening : (script : Script) (s : Win32State) → length script.setup.modules ≤ 8 → IsOpening script s
    → IsWellFormed script s
wellformed-opening script s few h =
    subst (IsWellFormed script) (sym h.state)
    (opening_wellformed script h.numbers h.program h.placed h.first h.in_order few script.setup.limits.slots_in_range.0)
