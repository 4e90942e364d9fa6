-- What each change of the processes does to the number of handles that name an object.
use Rattle.std.proofs.Common.{◌≡◌, inl, inr, ℕ, ◌+◌, Bool, true, false, if◌then◌else◌, nat_eq}
use Rattle.std.proofs.Common.{nat_lt, ◌&&◌, ◌||◌, List, [], ◌∷◌, Some, refl, ap, ◌∙◌, arith}
use Rattle.std.proofs.lemmas.Bool.{cases_eq, cases_lt}
use Rattle.win32_spec.specs.Handles.{Handle, handle_of, with_handle, without_handle, holders_of, AreRisingFrom}
use Rattle.win32_spec.specs.State.{NumberedObject, Process}
use Rattle.win32_spec.specs.Lookup.{is_alive, process_of, object_number, change_process, add_process}
use Rattle.win32_spec.specs.Ends.{names_object, is_object_held, kept_processes, is_process_held}
use Rattle.win32_spec.specs.Pipes.{all_holders_of}
use Rattle.win32_spec.specs.WellFormed.{AreRisingProcesses}
use Rattle.win32_spec.specs.LookupLaws.{same, differs, before, not_before}
use Rattle.win32_spec.specs.HolderLaws.{holders_of-with, holders_of-without, all_holders-change}
use Rattle.w32_handles.specs.Counted.{holders_on, all_holders_on}

-- a change that leaves lives and handles alone
pub all_holders-keep : (w : ℕ) (f : Process → Process) → ((p : Process) → (f p).life ≡ p.life)
    → ((p : Process) → (f p).handles ≡ p.handles)
    → (ps : List Process) (q : ℕ) → all_holders_of (change_process w f ps) q ≡ all_holders_of ps q
all_holders-keep w f life handles [] q = refl
all_holders-keep w f life handles (p ∷ ps) q =
    let rest = all_holders-keep w f life handles ps q in
    elim (cases_eq p.number w) [
      | inl n ↦ let s = same p.number w n in rw (s, life p, handles p, rest) refl
      | inr d ↦ let s = differs p.number w d in rw (s, rest) refl
    ]

-- one process more
pub all_holders-add : (new : Process) → is_alive new.life ≡ true → (ps : List Process) (q : ℕ)
    → all_holders_of (add_process new ps) q ≡ all_holders_of ps q + holders_of new.handles q
all_holders-add new alive [] q = rw alive (omega arith)
all_holders-add new alive (p ∷ ps) q = omega (arith, all_holders-add new alive ps q)

-- without ended processes
pub all_holders-kept : (os : List NumberedObject) (ps : List Process) (q : ℕ)
    → all_holders_of (kept_processes os ps) q ≡ all_holders_of ps q
all_holders-kept os [] q = refl
all_holders-kept os (p ∷ ps) q = by_test (is_alive p.life) refl (is_process_held os p.number) (all_holders-kept os ps q)
  where
    by_test : (b : Bool) → is_alive p.life ≡ b → (c : Bool)
        → all_holders_of (kept_processes os ps) q ≡ all_holders_of ps q
        → all_holders_of (if b || c then p ∷ kept_processes os ps else kept_processes os ps) q ≡
        (if b then holders_of p.handles q else 0) + all_holders_of ps q
    by_test true e c rest = rw (e, rest) refl
    by_test false e true rest = rw (e, rest) refl
    by_test false e false rest = rw rest (omega arith)

-- One handle more or less of a live process.
module _ (low next : ℕ) (ps : List Process) (w : ℕ) (p : Process) (rising : AreRisingProcesses low next ps)
    (found : process_of ps w ≡ Some p) (alive : is_alive p.life ≡ true) (h names : ℕ) where
  pub all_holders-open : (q : ℕ)
      → all_holders_of (change_process w (λ x. record x { handles = with_handle p.handles h names }) ps) q ≡
      all_holders_of ps q + (if nat_eq names q then 1 else 0)
  all_holders-open q =
      omega (
        arith,
        all_holders-change low next ps w p (with_handle p.handles h names) q rising found alive,
        holders_of-with p.handles h names q,
      )

  pub all_holders-close : (first : ℕ) → AreRisingFrom first p.handles → handle_of p.handles h ≡ Some names → (q : ℕ)
      → all_holders_of (change_process w (λ x. record x { handles = without_handle p.handles h }) ps) q
      + (if nat_eq names q then 1 else 0) ≡ all_holders_of ps q
  all_holders-close first r named q =
      omega (
        arith,
        all_holders-change low next ps w p (without_handle p.handles h) q rising found alive,
        holders_of-without first p.handles h names q r named,
      )

-- The number of an object and what a handle on it names.
pub is_on : (names o : ℕ) → object_number o ≡ o
    → (if nat_eq names o then 1 else 0) + (if nat_eq names (o + 1) then 1 else 0) ≡
    (if nat_eq (object_number names) o then 1 else 0)
is_on names o even =
    elim (cases_eq names o) [
      | inl e ↦
          let a = same names o e in
          let b = differs names (o + 1) (λ n. omega arith) in
          let c = same (object_number names) o (omega arith) in
          rw (a, b, c) refl
      | inr d ↦ elim (cases_eq names (o + 1)) [
        | inl e ↦
            let a = differs names o d in
            let b = same names (o + 1) e in
            let c = same (object_number names) o (omega arith) in
            rw (a, b, c) refl
        | inr n ↦
            let a = differs names o d in
            let b = differs names (o + 1) n in
            let c = differs (object_number names) o (λ e. omega arith) in
            rw (a, b, c) refl
      ]
    ]

-- a handle on it is held by somebody exactly where there is a holder
pub names-counted : (hs : List Handle) (o : ℕ) → object_number o ≡ o → names_object hs o ≡ nat_lt 0 (holders_on hs o)
names-counted [] o even = refl
names-counted (p ∷ hs) o even =
    elim (cases_eq (object_number p.names) o) [
      | inl n ↦
          let s = same (object_number p.names) o n in
          let one : (if nat_eq p.names o then 1 else 0) + (if nat_eq p.names (o + 1) then 1 else 0) ≡ 1 =
          is_on p.names o even ∙ ap (λ (b : Bool). if b then 1 else 0) s in
          let some = before 0 (holders_on (p ∷ hs) o) (omega (arith, one)) in
          rw (s, some) refl
      | inr d ↦
          let s = differs (object_number p.names) o d in
          let none : (if nat_eq p.names o then 1 else 0) + (if nat_eq p.names (o + 1) then 1 else 0) ≡ 0 =
          is_on p.names o even ∙ ap (λ (b : Bool). if b then 1 else 0) s in
          let count : holders_on (p ∷ hs) o ≡ holders_on hs o = omega (arith, none) in
          rw (s, count) (names-counted hs o even)
    ]

pub held-counted : (ps : List Process) (o : ℕ) → object_number o ≡ o
    → is_object_held ps o ≡ nat_lt 0 (all_holders_on ps o)
held-counted [] o even = refl
held-counted (p ∷ ps) o even = by_life (is_alive p.life) (held-counted ps o even)
  where
    sum : (a b : ℕ) → (nat_lt 0 a || nat_lt 0 b) ≡ nat_lt 0 (a + b)
    sum a b =
        elim (cases_lt 0 a) [
          | inl l ↦ let s = before 0 a l in let t = before 0 (a + b) (omega arith) in rw (s, t) refl
          | inr l ↦ let s = not_before 0 a l in let c : a + b ≡ b = omega arith in rw (s, c) refl
        ]

    by_life : (b : Bool) → is_object_held ps o ≡ nat_lt 0 (all_holders_on ps o)
        → ((b && names_object p.handles o) || is_object_held ps o) ≡
        nat_lt 0 (((if b then holders_of p.handles o else 0) + all_holders_of ps o)
        + ((if b then holders_of p.handles (o + 1) else 0) + all_holders_of ps (o + 1)))
    by_life true rest =
        let count : holders_of p.handles o + all_holders_of ps o
        + (holders_of p.handles (o + 1) + all_holders_of ps (o + 1)) ≡
        holders_on p.handles o + all_holders_on ps o = omega arith in
        rw (names-counted p.handles o even, rest, count) (sum (holders_on p.handles o) (all_holders_on ps o))
    by_life false rest =
        let count : 0 + all_holders_of ps o + (0 + all_holders_of ps (o + 1)) ≡ all_holders_on ps o = omega arith in
        rw (rest, count) refl
