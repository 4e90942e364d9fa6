-- Laws of finding and changing processes and objects.
use Rattle.std.proofs.Common.{◌≡◌, ◌≢◌, ◌⊎◌, inl, inr, ℕ, ◌+◌, ◌≤◌, ◌<◌, Bool, true, false, ◌&&◌, ◌||◌, nat_eq, nat_lt}
use Rattle.std.proofs.Common.{List, [], ◌∷◌, Option, Some, None, refl, sym, ap, ◌∙◌, arith}
use Rattle.std.proofs.lemmas.Bool.{cases_eq}
use Rattle.std.proofs.lemmas.Bool.Decides.{nat_tests}
use Rattle.win32_spec.specs.State.{Process}
use Rattle.win32_spec.specs.Lookup.{is_alive, process_of, process_in, change_process, add_process}
use Rattle.win32_spec.specs.WellFormed.{AreRisingProcesses}

-- what the tests tell
pub same : (n m : ℕ) → n ≡ m → nat_eq n m ≡ true
same n m e = grind (arith, nat_tests)

pub differs : (n m : ℕ) → n ≢ m → nat_eq n m ≡ false
differs n m e = grind (arith, nat_tests)

pub before : (n m : ℕ) → n < m → nat_lt n m ≡ true
before n m l = grind (arith, nat_tests)

pub not_before : (n m : ℕ) → m ≤ n → nat_lt n m ≡ false
not_before n m l = grind (arith, nat_tests)

pub or_true : (a b : Bool) → (a || b) ≡ true → (a ≡ true) ⊎ (b ≡ true)
or_true true b e = inl refl
or_true false b e = inr e

pub and_true : (a b : Bool) → (a && b) ≡ true → (a ≡ true) × (b ≡ true)
and_true true b e = (refl, e)
and_true false b e = absurd (cc)

pub or_left : (a b : Bool) → a ≡ true → (a || b) ≡ true
or_left a b e = rw e refl

pub or_right : (a b : Bool) → b ≡ true → (a || b) ≡ true
or_right true b e = refl
or_right false b e = e

pub same_some : {X : Type 0} (o : Option X) (x y : X) → o ≡ Some x → o ≡ Some y → x ≡ y
same_some o x y p q = let e : Some x ≡ Some y = sym p ∙ q in cc

pub not_none : {X : Type 0} (o : Option X) (x : X) → o ≡ Some x → o ≡ None → ⊥
not_none o x p q = let e : Some x ≡ None = sym p ∙ q in cc

-- Processes.
pub process_of-number : (ps : List Process) (w : ℕ) (p : Process) → process_of ps w ≡ Some p → p.number ≡ w
process_of-number [] w p e = absurd (cc)
process_of-number (q ∷ ps) w p e =
    elim (cases_eq q.number w) [
      | inl n ↦ let s = same q.number w n in let f : Some q ≡ Some p = rw s at e in let g : q ≡ p = cc in
          ap (λ (x : Process). x.number) (sym g) ∙ n
      | inr d ↦ let s = differs q.number w d in process_of-number ps w p (rw s at e)
    ]

pub process_of-change_same : (w : ℕ) (f : Process → Process) → ((p : Process) → (f p).number ≡ p.number)
    → (ps : List Process) (p : Process)
    → process_of ps w ≡ Some p → process_of (change_process w f ps) w ≡ Some (f p)
process_of-change_same w f keeps [] p e = absurd (cc)
process_of-change_same w f keeps (q ∷ ps) p e =
    elim (cases_eq q.number w) [
      | inl n ↦ let s = same q.number w n in let t = same (f q).number w (keeps q ∙ n) in
          let g : Some q ≡ Some p = rw s at e in let h : q ≡ p = cc in rw (s, t, h) refl
      | inr d ↦ let s = differs q.number w d in rw (s, s) (process_of-change_same w f keeps ps p (rw s at e))
    ]

pub process_of-change_other : (w : ℕ) (f : Process → Process) → ((p : Process) → (f p).number ≡ p.number)
    → (ps : List Process) (v : ℕ)
    → v ≢ w → process_of (change_process w f ps) v ≡ process_of ps v
process_of-change_other w f keeps [] v d = refl
process_of-change_other w f keeps (q ∷ ps) v d =
    elim (cases_eq q.number w) [
      | inl n ↦ let s = same q.number w n in let t = differs q.number v (λ e. d (sym e ∙ n)) in
          let u = differs (f q).number v (λ e. d (sym e ∙ keeps q ∙ n)) in
          rw (s, t, u) (process_of-change_other w f keeps ps v d)
      | inr n ↦ let s = differs q.number w n in rw (s, process_of-change_other w f keeps ps v d)
    ]

pub process_of-change_none : (w : ℕ) (f : Process → Process) (ps : List Process) → process_of ps w ≡ None
    → process_of (change_process w f ps) w ≡ None
process_of-change_none w f [] h = refl
process_of-change_none w f (x ∷ xs) h =
    elim (cases_eq x.number w) [
      | inl n ↦ let s = same x.number w n in absurd (let found : Some x ≡ None = rw s at h in cc)
      | inr d ↦ let s = differs x.number w d in rw (s, s) (process_of-change_none w f xs (rw s at h))
    ]

-- a process of the changed list is another one of the old list, or the one that was changed
pub changed_process : (w : ℕ) (f : Process → Process) → ((p : Process) → (f p).number ≡ p.number)
    → (ps : List Process) (v : ℕ) (q : Process)
    → process_of (change_process w f ps) v ≡ Some q
    → ((v ≢ w) × (process_of ps v ≡ Some q)) ⊎ ((v ≡ w) × (p : Process) × (process_of ps w ≡ Some p) × (q ≡ f p))
changed_process w f keeps ps v q e =
    elim (cases_eq v w) [
      | inl n ↦ inr (at_same n (process_of ps w) refl)
      | inr d ↦ inl (d, sym (process_of-change_other w f keeps ps v d) ∙ e)
    ]
  where
    at_same : v ≡ w → (o : Option Process) → process_of ps w ≡ o
        → (v ≡ w) × (p : Process) × (process_of ps w ≡ Some p) × (q ≡ f p)
    at_same n None h = absurd
        (not_none (process_of (change_process w f ps) w) q
        (ap (λ x. process_of (change_process w f ps) x) (sym n) ∙ e) (process_of-change_none w f ps h))
    at_same n (Some p) h = (
      n,
      p,
      h,
      same_some (process_of (change_process w f ps) w) q (f p)
          (ap (λ x. process_of (change_process w f ps) x) (sym n) ∙ e)
          (process_of-change_same w f keeps ps p h),
    )

pub rising-change_process : (w : ℕ) (f : Process → Process) → ((p : Process) → (f p).number ≡ p.number)
    → (low next : ℕ) (ps : List Process)
    → AreRisingProcesses low next ps → AreRisingProcesses low next (change_process w f ps)
rising-change_process w f keeps low next [] r = tt
rising-change_process w f keeps low next (q ∷ ps) r =
    elim (cases_eq q.number w) [
      | inl n ↦ let s = same q.number w n in
          rw (s, keeps q) (r.0, r.1, rising-change_process w f keeps (q.number + 1) next ps r.2)
      | inr d ↦ let s = differs q.number w d in
          rw s (r.0, r.1, rising-change_process w f keeps (q.number + 1) next ps r.2)
    ]

-- rising numbers lie where they were counted from and below the next one
pub rising-bounds : (low next : ℕ) (ps : List Process) (w : ℕ) (p : Process) → AreRisingProcesses low next ps
    → process_of ps w ≡ Some p
    → (low ≤ w) × (w < next)
rising-bounds low next [] w p r e = absurd (cc)
rising-bounds low next (q ∷ ps) w p r e =
    elim (cases_eq q.number w) [
      | inl n ↦ (omega (arith, r.0), omega (arith, r.1))
      | inr d ↦ let s = differs q.number w d in let b = rising-bounds (q.number + 1) next ps w p r.2 (rw s at e) in
          (omega (arith, r.0, b.0), b.1)
    ]

pub rising-lower : (low lower next : ℕ) (ps : List Process) → lower ≤ low → AreRisingProcesses low next ps
    → AreRisingProcesses lower next ps
rising-lower low lower next [] l r = tt
rising-lower low lower next (q ∷ ps) l r = (omega (arith, r.0), r.1, r.2)

-- no process has a number below or above the rising ones
pub rising-absent : (low next : ℕ) (ps : List Process) (w : ℕ) → AreRisingProcesses low next ps
    → (w < low) ⊎ (next ≤ w) → process_of ps w ≡ None
rising-absent low next ps w r out = by_answer (process_of ps w) refl
  where
    by_answer : (o : Option Process) → process_of ps w ≡ o → o ≡ None
    by_answer None e = refl
    by_answer (Some p) e = let b = rising-bounds low next ps w p r e in
        absurd (elim out [ inl l ↦ omega (arith, b.0) | inr l ↦ omega (arith, b.1) ])

-- the process in a slot is alive, stands there, and is found by its number
pub process_in-found : (low next : ℕ) (ps : List Process) (slot : ℕ) (p : Process) → AreRisingProcesses low next ps
    → process_in ps slot ≡ Some p
    → (process_of ps p.number ≡ Some p) × (is_alive p.life ≡ true) × (p.slot ≡ slot)
process_in-found low next [] slot p r e = absurd (cc)
process_in-found low next (q ∷ ps) slot p r e =
    by_test (is_alive q.life && nat_eq q.slot slot) refl (λ f. process_in-found (q.number + 1) next ps slot p r.2 f)
  where
    by_test : (b : Bool) → (is_alive q.life && nat_eq q.slot slot) ≡ b
        → (process_in ps slot ≡ Some p → (process_of ps p.number ≡ Some p) × (is_alive p.life ≡ true) × (p.slot ≡ slot))
        → (process_of (q ∷ ps) p.number ≡ Some p) × (is_alive p.life ≡ true) × (p.slot ≡ slot)
    by_test true t rest =
        let f : Some q ≡ Some p = rw t at e in let g : q ≡ p = cc in
        let both = and_true (is_alive q.life) (nat_eq q.slot slot) t in
        let s = same p.number p.number refl in
        rw g (rw s refl, rw (← g) both.0, rw (← g) (slot_is both.1))
      where
        slot_is : nat_eq q.slot slot ≡ true → q.slot ≡ slot
        slot_is h = elim (cases_eq q.slot slot) [ inl n ↦ n | inr d ↦ let s = differs q.slot slot d in absurd (cc) ]
    by_test false t rest =
        let f : process_in ps slot ≡ Some p = rw t at e in
        let found = rest f in
        let b = rising-bounds (q.number + 1) next ps p.number p r.2 found.0 in
        let s = differs q.number p.number (λ n. omega (arith, b.0)) in
        (rw s found.0, found.1, found.2)

-- in a slot with no process no live process stands
pub process_in-free : (ps : List Process) (slot w : ℕ) (p : Process) → process_in ps slot ≡ None
    → process_of ps w ≡ Some p
    → is_alive p.life ≡ true → p.slot ≢ slot
process_in-free [] slot w p free e alive n = absurd (cc)
process_in-free (q ∷ ps) slot w p free e alive n =
    by_test (is_alive q.life && nat_eq q.slot slot) refl (λ f g. process_in-free ps slot w p f g alive n)
  where
    by_test : (b : Bool) → (is_alive q.life && nat_eq q.slot slot) ≡ b
        → (process_in ps slot ≡ None → process_of ps w ≡ Some p → ⊥) → ⊥
    by_test true t rest = let f : Some q ≡ None = rw t at free in cc
    by_test false t rest =
        elim (cases_eq q.number w) [
          | inl m ↦ let s = same q.number w m in let f : Some q ≡ Some p = rw s at e in let g : q ≡ p = cc in
              let u : (is_alive q.life && nat_eq q.slot slot) ≡ true = rw (g, alive, same p.slot slot n) refl in cc
          | inr d ↦ let s = differs q.number w d in rest (rw t at free) (rw s at e)
        ]

-- One more process.
pub process_of-add_kept : (new : Process) (ps : List Process) (w : ℕ) (p : Process) → process_of ps w ≡ Some p
    → process_of (add_process new ps) w ≡ Some p
process_of-add_kept new [] w p e = absurd (cc)
process_of-add_kept new (q ∷ ps) w p e =
    elim (cases_eq q.number w) [
      | inl n ↦ let s = same q.number w n in rw s (rw s at e)
      | inr d ↦ let s = differs q.number w d in rw s (process_of-add_kept new ps w p (rw s at e))
    ]

pub process_of-add_new : (new : Process) (ps : List Process) → process_of ps new.number ≡ None
    → process_of (add_process new ps) new.number ≡ Some new
process_of-add_new new [] free = let s = same new.number new.number refl in rw s refl
process_of-add_new new (q ∷ ps) free =
    elim (cases_eq q.number new.number) [
      | inl n ↦ let s = same q.number new.number n in absurd (let f : Some q ≡ None = rw s at free in cc)
      | inr d ↦ let s = differs q.number new.number d in rw s (process_of-add_new new ps (rw s at free))
    ]

pub process_of-add_other : (new : Process) (ps : List Process) (w : ℕ) → w ≢ new.number
    → process_of (add_process new ps) w ≡ process_of ps w
process_of-add_other new [] w d = let s = differs new.number w (λ e. d (sym e)) in rw s refl
process_of-add_other new (q ∷ ps) w d =
    elim (cases_eq q.number w) [
      | inl n ↦ let s = same q.number w n in rw s refl
      | inr m ↦ let s = differs q.number w m in rw s (process_of-add_other new ps w d)
    ]

pub rising-add_process : (low next : ℕ) (new : Process) (ps : List Process) → AreRisingProcesses low next ps
    → low ≤ new.number → next ≡ new.number
    → AreRisingProcesses low (next + 1) (add_process new ps)
rising-add_process low next new [] r l e = (l, omega arith, tt)
rising-add_process low next new (q ∷ ps) r l e =
    (r.0, omega (arith, r.1), rising-add_process (q.number + 1) next new ps r.2 (omega (arith, r.1)) e)
