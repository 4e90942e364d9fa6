-- How many handles a list has, and how many of them name an object.
use Rattle.std.proofs.Common.{◌≡◌, inl, inr, ℕ, suc, ◌+◌, ◌≤◌, Bool, true, false, if◌then◌else◌, nat_eq, List, [], ◌∷◌}
use Rattle.std.proofs.Common.{length, Some, None, refl, ap, arith}
use Rattle.std.proofs.lemmas.Bool.{cases_eq, cases_lt}
use Rattle.win32_spec.specs.Handles.{Handle, handle_of, with_handle, without_handle, holders_of, AreRisingFrom}
use Rattle.win32_spec.specs.State.{Process}
use Rattle.win32_spec.specs.Lookup.{is_alive, process_of, change_process}
use Rattle.win32_spec.specs.Pipes.{all_holders_of}
use Rattle.win32_spec.specs.WellFormed.{AreRisingProcesses}
use Rattle.win32_spec.specs.LookupLaws.{same, differs, before, not_before, rising-absent, not_none}
use Rattle.win32_spec.specs.HandleLaws.{handle_of-below}

-- to close a number that is none of a handle changes nothing
pub without_handle-absent : (hs : List Handle) (h : ℕ) → handle_of hs h ≡ None → without_handle hs h ≡ hs
without_handle-absent [] h free = refl
without_handle-absent (p ∷ hs) h free =
    elim (cases_eq p.number h) [
      | inl e ↦ let s = same p.number h e in absurd (let found : Some p.names ≡ None = rw s at free in cc)
      | inr d ↦ let s = differs p.number h d in rw s (ap (λ rest. p ∷ rest) (without_handle-absent hs h (rw s at free)))
    ]

-- a handle that is opened and closed again leaves the table as it was
pub without-with_handle : (hs : List Handle) (h o : ℕ) → handle_of hs h ≡ None
    → without_handle (with_handle hs h o) h ≡ hs
without-with_handle [] h o free = let s = same h h refl in rw s
without-with_handle (p ∷ hs) h o free =
    elim (cases_lt h p.number) [
      | inl l ↦ let t = before h p.number l in let s = same h h refl in
          rw (t, s) (without_handle-absent (p ∷ hs) h free)
      | inr l ↦ elim (cases_eq p.number h) [
        | inl e ↦ let s = same p.number h e in absurd (let found : Some p.names ≡ None = rw s at free in cc)
        | inr d ↦
            let t = not_before h p.number l in
            let s = differs p.number h d in
            rw (t, s) (ap (λ rest. p ∷ rest) (without-with_handle hs h o (rw s at free)))
      ]
    ]

-- a handle more is a holder more of its object
pub holders_of-with : (hs : List Handle) (h o q : ℕ)
    → holders_of (with_handle hs h o) q ≡ holders_of hs q + (if nat_eq o q then 1 else 0)
holders_of-with [] h o q = omega arith
holders_of-with (p ∷ hs) h o q =
    elim (cases_lt h p.number) [
      | inl l ↦ let t = before h p.number l in rw t (omega arith)
      | inr l ↦ let t = not_before h p.number l in rw t (omega (arith, holders_of-with hs h o q))
    ]

-- a handle less is a holder less of its object
pub holders_of-without : (low : ℕ) (hs : List Handle) (h o q : ℕ) → AreRisingFrom low hs → handle_of hs h ≡ Some o
    → holders_of (without_handle hs h) q + (if nat_eq o q then 1 else 0) ≡ holders_of hs q
holders_of-without low [] h o q rising named = absurd (cc)
holders_of-without low (p ∷ hs) h o q rising named =
    elim (cases_eq p.number h) [
      | inl e ↦
          let s = same p.number h e in
          let found : Some p.names ≡ Some o = rw s at named in
          let names : p.names ≡ o = cc in
          let gone = without_handle-absent hs h (handle_of-below (p.number + 1) hs h rising.2 (omega arith)) in
          rw (s, gone, names) (omega arith)
      | inr d ↦
          let s = differs p.number h d in
          rw s (omega (arith, holders_of-without (p.number + 1) hs h o q rising.2 (rw s at named)))
    ]

-- there are no more handles than numbers
pub length-rising : (low : ℕ) (hs : List Handle) → low ≤ 65 → AreRisingFrom low hs → length hs + low ≤ 65
length-rising low [] l rising = omega arith
length-rising low (p ∷ hs) l rising =
    omega (arith, rising.0, rising.1, length-rising (p.number + 1) hs (omega (arith, rising.1)) rising.2)

-- nor more holders than handles
pub holders_of-le : (hs : List Handle) (q : ℕ) → holders_of hs q ≤ length hs
holders_of-le [] q = omega arith
holders_of-le (p ∷ hs) q = by_test (nat_eq p.names q) (holders_of-le hs q)
  where
    by_test : (b : Bool) → holders_of hs q ≤ length hs → (if b then 1 else 0) + holders_of hs q ≤ suc (length hs)
    by_test true l = omega arith
    by_test false l = omega arith

-- a process that isn't listed holds nothing
all_holders-absent : (ps : List Process) (w : ℕ) (hs : List Handle) (q : ℕ) → process_of ps w ≡ None
    → all_holders_of (change_process w (λ x. record x { handles = hs }) ps) q ≡ all_holders_of ps q
all_holders-absent [] w hs q e = refl
all_holders-absent (x ∷ ps) w hs q e = elim (cases_eq x.number w) [
  | inl n ↦ let s = same x.number w n in absurd (not_none (Some x) x refl (rw s at e))
  | inr d ↦ let s = differs x.number w d in rw (s, all_holders-absent ps w hs q (rw s at e)) refl
]

-- One more handle of a live process is one more holder of what it names, over all processes; and one less is one less.
pub all_holders-change : (low next : ℕ) (ps : List Process) (w : ℕ) (p : Process) (hs : List Handle) (q : ℕ)
    → AreRisingProcesses low next ps
    → process_of ps w ≡ Some p → is_alive p.life ≡ true
    → all_holders_of (change_process w (λ x. record x { handles = hs }) ps) q + holders_of p.handles q ≡
    all_holders_of ps q + holders_of hs q
all_holders-change low next [] w p hs q r e alive = absurd (cc)
all_holders-change low next (x ∷ ps) w p hs q r e alive = elim (cases_eq x.number w) [
  | inl n ↦
      let s = same x.number w n in
      let f : Some x ≡ Some p = rw s at e in
      let g : x ≡ p = cc in
      let rest = all_holders-absent ps w hs q (rising-absent (x.number + 1) next ps w r.2 (inl (omega (arith, n)))) in
      rw (s, g, alive, rest) (omega arith)
  | inr d ↦
      let s = differs x.number w d in
      rw s (omega (arith, all_holders-change (x.number + 1) next ps w p hs q r.2 (rw s at e) alive))
]
