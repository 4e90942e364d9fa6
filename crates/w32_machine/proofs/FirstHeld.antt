-- The holders of each object as a run begins, and what the code keeps of it.
use Rattle.std.proofs.Common.{◌≡◌, ◌≢◌, ◌∙◌, inl, inr, ℕ, ◌+◌, ◌*◌, ◌/◌, nat_eq, if◌then◌else◌}
use Rattle.std.proofs.Common.{List, [], ◌∷◌, Some, None, refl, sym, ap, subst, arith}
use Rattle.std.proofs.lemmas.Bool.{cases_eq}
use Rattle.tty_spec.specs.Terminal.{opening_terminal}
use Rattle.w32_base.specs.declared.setup.Program.{Program}
use Rattle.win32_spec.specs.Lookup.{object_number}
use Rattle.win32_spec.specs.LookupLaws.{same, differs}
use Rattle.win32_spec.specs.Objects.{Free}
use Rattle.win32_spec.specs.Opening.{opening_words, OpeningNumbers, opening_host, opening_process}
use Rattle.win32_spec.specs.Pipes.{all_holders_of}
use Rattle.win32_spec.specs.State.{Object, Section, Event, Mutex, Pipe, ProcessObject, TerminalObject, PlacedModule}
use Rattle.win32_spec.specs.State.{Process}
use Rattle.w32_handles.specs.Table.{HeldObject, Table, object_at}
use Rattle.w32_process.specs.Places.{Place}
use Rattle.w32_process.specs.Table.{number_at}
use Rattle.w32_kinds.specs.declared.kind.Kind.{Kind}
use Rattle.w32_kinds.specs.declared.kind.Kind.TheVariants as kind
use Rattle.w32_opening.specs.declared.numbers.Numbers.{Numbers}
use Rattle.w32_opening.specs.Opened.{opening_numbers, slot_of, kept_shown, opening_at}
use Rattle.w32_machine.specs.Sound.{IsKind, IsHeld}
use Rattle.w32_kinds.specs.Shown.{shown}

-- whether a handle names this, as a number
abbrev one : ℕ → ℕ → ℕ
one x q = if nat_eq x q then 1 else 0

is-one : (x q : ℕ) → x ≡ q → one x q ≡ 1
is-one x q e = let s = same x q e in rw s refl

is-none : (x q : ℕ) → x ≢ q → one x q ≡ 0
is-none x q d = let s = differs x q d in rw s refl

-- the numbers of an object, by either end or face
two-even : (x o : ℕ) → object_number x ≡ x
    → one x (object_number o) + one x (object_number o + 1) ≡ one x (object_number o)
two-even x o even = omega (arith, is-none x (object_number o + 1) (λ e. omega (arith, e, even)))

two-odd : (x o : ℕ) → object_number x ≡ x
    → one (x + 1) (object_number o) + one (x + 1) (object_number o + 1) ≡ one x (object_number o)
two-odd x o even = elim (cases_eq x (object_number o)) [
  | inl e ↦ omega (
    arith,
    is-one x (object_number o) e,
    is-one (x + 1) (object_number o + 1) (omega (arith, e)),
    is-none (x + 1) (object_number o) (λ f. omega (arith, e, f)),
  )
  | inr d ↦ omega (
    arith,
    is-none x (object_number o) d,
    is-none (x + 1) (object_number o + 1) (λ e. d (omega (arith, e))),
    is-none (x + 1) (object_number o) (λ e. omega (arith, e, even)),
  )
]

-- what the code keeps of an object, by what this is
abbrev Fits : List Place → (section slot o : ℕ) → Object → Type 0
Fits slots section slot o (Section words) = o ≡ section
Fits slots section slot o (Event e) = Unit {0}
Fits slots section slot o (Mutex owner) = Unit {0}
Fits slots section slot o (Pipe bytes) = ⊥
Fits slots section slot o (ProcessObject w) = (k : ℕ) → number_at slots k ≡ Some w → k ≡ slot
Fits slots section slot o (TerminalObject terminal) = Unit {0}

fits-kind : (slots : List Place) (ps : List Process) (section o : ℕ) (x : Kind)
    → Fits slots section (slot_of x) o (shown x)
    → IsKind slots ps section o x
fits-kind slots ps section o (kind.Section words) fits = fits
fits-kind slots ps section o (kind.Event e) fits = tt
fits-kind slots ps section o (kind.Mutex owner) fits = tt
fits-kind slots ps section o (kind.Pipe p) fits = absurd fits
fits-kind slots ps section o (kind.Process w slot) fits = fits
fits-kind slots ps section o (kind.Terminal terminal) fits = tt

-- An object that is shown so has as many holders as there are handles on it.
pub record IsShownHeld (slots : List Place) (ps : List Process) (section o : ℕ) (x : Object × ℕ × ℕ) : Type 0 where
  pub holders : x.2 ≡ all_holders_of ps o + all_holders_of ps (o + 1)
  pub fits : Fits slots section x.1 o x.0

shown-held : (slots : List Place) (ps : List Process) (section o : ℕ) (kept : HeldObject Kind)
    → IsShownHeld slots ps section o (shown kept.object, slot_of kept.object, kept.holders)
    → IsHeld slots ps section o kept
shown-held slots ps section o kept h =
    record { holders = h.holders; kind = fits-kind slots ps section o kept.object h.fits }

module _ (n : Numbers) (program : Program) (placed : List PlacedModule) (slots : List Place)
    (second : (k : ℕ) → number_at slots k ≡ Some 2 → k ≡ 1) where
  abbrev both : List Process
  both = opening_host (opening_numbers n) ∷ opening_process (opening_numbers n) program placed ∷ []

  holders : (o : ℕ) → all_holders_of both (object_number o) + all_holders_of both (object_number o + 1)
      ≡ 2 * one n.section (object_number o) + 2 * one n.mutex (object_number o) + 2 * one n.terminal (object_number o)
      + one n.process (object_number o)
  holders o =
      omega (
        arith,
        two-even n.section o (omega (arith, n.section_even)),
        two-even n.mutex o (omega (arith, n.mutex_even)),
        two-even n.terminal o (omega (arith, n.terminal_even)),
        two-odd n.terminal o (omega (arith, n.terminal_even)),
        two-even n.process o (omega (arith, n.process_even)),
      )

  -- of so many handles on the section, the mutex, the terminal and the process one kind counts
  count : (o a b c d : ℕ) → one n.section (object_number o) ≡ a → one n.mutex (object_number o) ≡ b
      → one n.terminal (object_number o) ≡ c → one n.process (object_number o) ≡ d
      → 2 * a + 2 * b + 2 * c + d ≡ all_holders_of both (object_number o) + all_holders_of both (object_number o + 1)
  count o a b c d e f g h = omega (arith, holders o, e, f, g, h)

  -- the number of an object's place is even, so it is that of the object, or none of it
  here : (x o : ℕ) → object_number x ≡ x → o / 2 ≡ x / 2 → x ≡ object_number o
  here x o even e = omega (arith, even, e)

  abbrev numbers : OpeningNumbers
  numbers = opening_numbers n

  at-section : (o : ℕ) → n.section ≡ object_number o
      → IsShownHeld slots both n.section (object_number o) (Section opening_words, 0, 2)
  at-section o e = record {
    holders = count o 1 0 0 0 (is-one n.section (object_number o) e)
        (is-none n.mutex (object_number o) (λ f. omega (arith, e, f, n.mutex_above)))
        (is-none n.terminal (object_number o) (λ f. omega (arith, e, f, n.mutex_above, n.terminal_above)))
        (is-none n.process (object_number o)
        (λ f. omega (arith, e, f, n.mutex_above, n.terminal_above, n.process_above)));
    fits = sym e;
  }

  at-mutex : (o : ℕ) → n.mutex ≡ object_number o
      → IsShownHeld slots both n.section (object_number o) (Mutex Free, 0, 2)
  at-mutex o e = record {
    holders = count o 0 1 0 0 (is-none n.section (object_number o) (λ f. omega (arith, e, f, n.mutex_above)))
        (is-one n.mutex (object_number o) e)
        (is-none n.terminal (object_number o) (λ f. omega (arith, e, f, n.terminal_above)))
        (is-none n.process (object_number o) (λ f. omega (arith, e, f, n.terminal_above, n.process_above)));
    fits = tt;
  }

  at-terminal : (o : ℕ) → n.terminal ≡ object_number o
      → IsShownHeld slots both n.section (object_number o) (TerminalObject opening_terminal, 0, 2)
  at-terminal o e = record {
    holders = count o 0 0 1 0
        (is-none n.section (object_number o) (λ f. omega (arith, e, f, n.mutex_above, n.terminal_above)))
        (is-none n.mutex (object_number o) (λ f. omega (arith, e, f, n.terminal_above)))
        (is-one n.terminal (object_number o) e)
        (is-none n.process (object_number o) (λ f. omega (arith, e, f, n.process_above)));
    fits = tt;
  }

  at-process : (o : ℕ) → n.process ≡ object_number o
      → IsShownHeld slots both n.section (object_number o) (ProcessObject 2, 1, 1)
  at-process o e = record {
    holders = count o 0 0 0 1
        (is-none n.section (object_number o)
        (λ f. omega (arith, e, f, n.mutex_above, n.terminal_above, n.process_above)))
        (is-none n.mutex (object_number o) (λ f. omega (arith, e, f, n.terminal_above, n.process_above)))
        (is-none n.terminal (object_number o) (λ f. omega (arith, e, f, n.process_above)))
        (is-one n.process (object_number o) e);
    fits = second;
  }

  moved : (o : ℕ) (x y : Object × ℕ × ℕ) → Some x ≡ Some y → IsShownHeld slots both n.section (object_number o) x
      → IsShownHeld slots both n.section (object_number o) y
  moved o x y e h = let f : x ≡ y = cc in subst (IsShownHeld slots both n.section (object_number o)) f h

  opening-held : (o : ℕ) (x : Object × ℕ × ℕ) → opening_at n o ≡ Some x
      → IsShownHeld slots both n.section (object_number o) x
  opening-held o x at = elim (cases_eq (o / 2) (n.section / 2)) [
    | inl e ↦
        let s = same (o / 2) (n.section / 2) e in
        moved o (Section opening_words, 0, 2) x (rw s at at)
        (at-section o (here n.section o numbers.section_even e))
    | inr i ↦
        let s = differs (o / 2) (n.section / 2) i in
        elim (cases_eq (o / 2) (n.mutex / 2)) [
          | inl e ↦
              let t = same (o / 2) (n.mutex / 2) e in
              moved o (Mutex Free, 0, 2) x (rw (s, t) at at) (at-mutex o (here n.mutex o numbers.mutex_even e))
          | inr j ↦
              let t = differs (o / 2) (n.mutex / 2) j in
              elim (cases_eq (o / 2) (n.terminal / 2)) [
                | inl e ↦
                    let u = same (o / 2) (n.terminal / 2) e in
                    moved o (TerminalObject opening_terminal, 0, 2) x (rw (s, t, u) at at)
                    (at-terminal o (here n.terminal o numbers.terminal_even e))
                | inr k ↦
                    let u = differs (o / 2) (n.terminal / 2) k in
                    elim (cases_eq (o / 2) (n.process / 2)) [
                      | inl e ↦
                          let v = same (o / 2) (n.process / 2) e in
                          moved o (ProcessObject 2, 1, 1) x (rw (s, t, u, v) at at)
                          (at-process o (here n.process o numbers.process_even e))
                      | inr l ↦
                          let v = differs (o / 2) (n.process / 2) l in
                          absurd (let f : None ≡ Some x = rw (s, t, u, v) at at in cc)
                    ]
              ]
        ]
  ]

  pub first-held : (t : Table Kind) → ((o : ℕ) → kept_shown (object_at t o) ≡ opening_at n o)
      → (o : ℕ) (kept : HeldObject Kind) → object_at t o ≡ Some kept
      → IsHeld slots both n.section (object_number o) kept
  first-held t holds o kept at =
      shown-held slots both n.section (object_number o) kept
      (opening-held o (shown kept.object, slot_of kept.object, kept.holders) (sym (holds o) ∙ ap kept_shown at))
