-- Laws of a list of handles.
use Rattle.std.proofs.Common.{◌≡◌, ◌≢◌, ◌⊎◌, inl, inr, ℕ, ◌+◌, ◌≤◌, ◌<◌, Bool, true, false, if◌then◌else◌, nat_eq, List}
use Rattle.std.proofs.Common.{[], ◌∷◌, length, Some, None, IsSome, refl, sym, ap, ◌∙◌, arith}
use Rattle.std.proofs.lemmas.Bool.{cases_eq, cases_lt}
use Rattle.std.proofs.lemmas.Bool.Decides.{nat_tests}
use Rattle.win32_spec.specs.Handles.{Handle, handle_of, with_handle, without_handle, listed_handles, is_listed}
use Rattle.win32_spec.specs.Handles.{AreRisingFrom, IsLowestFree}
use Rattle.win32_spec.specs.Lookup.{object_number}
use Rattle.win32_spec.specs.Ends.{names_object}
use Rattle.win32_spec.specs.Named.{is_full}
use Rattle.win32_spec.specs.LookupLaws.{same, differs, before, not_before, or_true, or_left, or_right, not_none}

-- the handle that is added names its object
pub handle_of-with_same : (hs : List Handle) (h o : ℕ) → handle_of hs h ≡ None
    → handle_of (with_handle hs h o) h ≡ Some o
handle_of-with_same [] h o free = let s = same h h refl in rw s
handle_of-with_same (p ∷ hs) h o free =
    elim (cases_lt h p.number) [
      | inl l ↦ let t = before h p.number l in let s = same h h refl in rw (t, s)
      | inr l ↦ elim (cases_eq p.number h) [
        | inl e ↦ let s = same p.number h e in absurd (let found : Some p.names ≡ None = rw s at free in cc)
        | inr d ↦
            let t = not_before h p.number l in
            let s = differs p.number h d in
            rw (t, s) (handle_of-with_same hs h o (rw s at free))
      ]
    ]

-- and every other one what it named
pub handle_of-with_other : (hs : List Handle) (h o other : ℕ) → other ≢ h
    → handle_of (with_handle hs h o) other ≡ handle_of hs other
handle_of-with_other [] h o other d = let t = differs h other (λ e. d (sym e)) in rw t
handle_of-with_other (p ∷ hs) h o other d =
    elim (cases_lt h p.number) [
      | inl l ↦ let t = before h p.number l in let s = differs h other (λ e. d (sym e)) in rw (t, s)
      | inr l ↦ let t = not_before h p.number l in rw (t, handle_of-with_other hs h o other d)
    ]

-- a handle that is closed names nothing
pub handle_of-without_same : (hs : List Handle) (h : ℕ) → handle_of (without_handle hs h) h ≡ None
handle_of-without_same [] h = refl
handle_of-without_same (p ∷ hs) h =
    elim (cases_eq p.number h) [
      | inl e ↦ let s = same p.number h e in rw s (handle_of-without_same hs h)
      | inr d ↦ let s = differs p.number h d in rw (s, s) (handle_of-without_same hs h)
    ]

-- and every other one what it named
pub handle_of-without_other : (hs : List Handle) (h other : ℕ) → other ≢ h
    → handle_of (without_handle hs h) other ≡ handle_of hs other
handle_of-without_other [] h other d = refl
handle_of-without_other (p ∷ hs) h other d =
    elim (cases_eq p.number h) [
      | inl e ↦
          let s = same p.number h e in
          let t = differs p.number other (λ o. d (sym o ∙ e)) in
          rw (s, t) (handle_of-without_other hs h other d)
      | inr n ↦ let s = differs p.number h n in rw (s, handle_of-without_other hs h other d)
    ]

-- no handle has a number below the first
pub handle_of-below : (low : ℕ) (hs : List Handle) (h : ℕ) → AreRisingFrom low hs → h < low → handle_of hs h ≡ None
handle_of-below low [] h rising l = refl
handle_of-below low (p ∷ hs) h rising l =
    let s = differs p.number h (λ e. omega (arith, rising.0)) in
    rw s (handle_of-below (p.number + 1) hs h rising.2 (omega (arith, rising.0)))

-- Rising numbers stay so.
pub rising-lower_handles : (low lower : ℕ) (hs : List Handle) → lower ≤ low → AreRisingFrom low hs
    → AreRisingFrom lower hs
rising-lower_handles low lower [] l r = tt
rising-lower_handles low lower (p ∷ hs) l r = (omega (arith, r.0), r.1, r.2)

pub rising-with : (low : ℕ) (hs : List Handle) (h o : ℕ) → AreRisingFrom low hs → low ≤ h → h ≤ 64
    → handle_of hs h ≡ None
    → AreRisingFrom low (with_handle hs h o)
rising-with low [] h o r l m free = (l, m, tt)
rising-with low (p ∷ hs) h o r l m free =
    elim (cases_lt h p.number) [
      | inl n ↦ let t = before h p.number n in rw t (l, m, (omega arith, r.1, r.2))
      | inr n ↦ elim (cases_eq p.number h) [
        | inl e ↦ let s = same p.number h e in absurd (let found : Some p.names ≡ None = rw s at free in cc)
        | inr d ↦
            let t = not_before h p.number n in
            let s = differs p.number h d in
            let above : p.number + 1 ≤ h = omega arith in
            rw t (r.0, r.1, rising-with (p.number + 1) hs h o r.2 above m (rw s at free))
      ]
    ]

pub rising-without : (low : ℕ) (hs : List Handle) (h : ℕ) → AreRisingFrom low hs
    → AreRisingFrom low (without_handle hs h)
rising-without low [] h r = tt
rising-without low (p ∷ hs) h r =
    let rest = rising-without (p.number + 1) hs h r.2 in
    elim (cases_eq p.number h) [
      | inl e ↦ let s = same p.number h e in
          rw s (rising-lower_handles (p.number + 1) low (without_handle hs h) (omega (arith, r.0)) rest)
      | inr d ↦ let s = differs p.number h d in rw s (r.0, r.1, rest)
    ]

pub rising-listed : (low : ℕ) (hs : List Handle) (ns : List ℕ) → AreRisingFrom low hs
    → AreRisingFrom low (listed_handles hs ns)
rising-listed low [] ns r = tt
rising-listed low (p ∷ hs) ns r = by_test (is_listed ns p.number) (rising-listed (p.number + 1) hs ns r.2)
  where
    by_test : (b : Bool) → AreRisingFrom (p.number + 1) (listed_handles hs ns)
        → AreRisingFrom low (if b then p ∷ listed_handles hs ns else listed_handles hs ns)
    by_test true rest = (r.0, r.1, rest)
    by_test false rest = rising-lower_handles (p.number + 1) low (listed_handles hs ns) (omega (arith, r.0)) rest

-- a handle that is handed on names what it named
pub listed_handle : (low : ℕ) (hs : List Handle) (ns : List ℕ) (h o : ℕ) → AreRisingFrom low hs
    → handle_of (listed_handles hs ns) h ≡ Some o
    → handle_of hs h ≡ Some o
listed_handle low [] ns h o r e = absurd (cc)
listed_handle low (p ∷ hs) ns h o r e = by_test (is_listed ns p.number) (listed_handle (p.number + 1) hs ns h o r.2) e
  where
    by_test : (b : Bool) → (handle_of (listed_handles hs ns) h ≡ Some o → handle_of hs h ≡ Some o)
        → handle_of (if b then p ∷ listed_handles hs ns else listed_handles hs ns) h ≡ Some o
        → handle_of (p ∷ hs) h ≡ Some o
    by_test true rest f =
        elim (cases_eq p.number h) [
          | inl n ↦ let s = same p.number h n in rw s (rw s at f)
          | inr d ↦ let s = differs p.number h d in rw s (rest (rw s at f))
        ]
    by_test false rest f =
        elim (cases_eq p.number h) [
          | inl n ↦ absurd (not_none (handle_of hs h) o (rest f)
              (handle_of-below (p.number + 1) hs h r.2 (omega arith)))
          | inr d ↦ let s = differs p.number h d in rw s (rest f)
        ]

-- the lowest free number isn't past the end of a table that has room
pub lowest-within : (low : ℕ) (hs : List Handle) (h : ℕ) → AreRisingFrom low hs
    → ((k : ℕ) → low ≤ k → k < h → IsSome (handle_of hs k))
    → h ≤ low + length hs
lowest-within low [] h r used =
    elim (cases_lt low h)
    [ inl l ↦ absurd (let e : false ≡ true = used low (omega arith) l in cc) | inr l ↦ omega arith ]
lowest-within low (p ∷ hs) h r used =
    elim (cases_lt low h) [
      | inr l ↦ omega arith
      | inl l ↦ elim (cases_eq p.number low) [
        | inl e ↦
            let rest : (k : ℕ) → p.number + 1 ≤ k → k < h → IsSome (handle_of hs k) =
            λ k m n. let s = differs p.number k (λ f. omega arith) in rw s at (used k (omega arith) n) in
            let b = lowest-within (p.number + 1) hs h r.2 rest in omega (arith, b, e)
        | inr d ↦
            let s = differs p.number low d in
            let gone = handle_of-below (p.number + 1) hs low r.2 (omega (arith, r.0)) in
            absurd (let e : false ≡ true = rw (s, gone) at (used low (omega arith) l) in cc)
      ]
    ]

pub has_room : (hs : List Handle) (more : ℕ) → is_full hs more ≡ false → length hs + more ≤ 64
has_room hs more e = grind (arith, nat_tests)

pub lowest-fits : (hs : List Handle) (h : ℕ) → AreRisingFrom 1 hs → length hs + 1 ≤ 64 → IsLowestFree hs h → h ≤ 64
lowest-fits hs h r room lowest = omega (arith, lowest-within 1 hs h r lowest.lower)

-- one that is opened is one more
pub length-with : (hs : List Handle) (h o : ℕ) → length (with_handle hs h o) ≡ length hs + 1
length-with [] h o = refl
length-with (p ∷ hs) h o =
    elim (cases_lt h p.number) [
      | inl l ↦ let t = before h p.number l in rw t (omega arith)
      | inr l ↦ let t = not_before h p.number l in rw t (omega (arith, length-with hs h o))
    ]

-- Which handle names an object.
pub named_object : (low : ℕ) (hs : List Handle) (o : ℕ) → AreRisingFrom low hs → names_object hs o ≡ true
    → (h : ℕ) × (names : ℕ) × (handle_of hs h ≡ Some names) × (object_number names ≡ o)
named_object low [] o r e = absurd (cc)
named_object low (p ∷ hs) o r e =
    by_test (or_true (nat_eq (object_number p.names) o) (names_object hs o) e) (named_object (p.number + 1) hs o r.2)
  where
    by_test : (nat_eq (object_number p.names) o ≡ true) ⊎ (names_object hs o ≡ true)
        → (names_object hs o ≡ true → (h : ℕ) × (names : ℕ) × (handle_of hs h ≡ Some names) × (object_number names ≡ o))
        → (h : ℕ) × (names : ℕ) × (handle_of (p ∷ hs) h ≡ Some names) × (object_number names ≡ o)
    by_test (inl t) rest =
        let s = same p.number p.number refl in (
          p.number,
          p.names,
          rw s refl,
          elim (cases_eq (object_number p.names) o)
              [ inl n ↦ n | inr d ↦ let u = differs (object_number p.names) o d in absurd (cc) ],
        )
    by_test (inr t) rest =
        let found = rest t in
        elim (cases_eq p.number found.0) [
          | inl n ↦ absurd (not_none (handle_of hs found.0) found.1 found.2
              (handle_of-below (p.number + 1) hs found.0 r.2 (omega (arith, n))))
          | inr d ↦ let s = differs p.number found.0 d in (found.0, found.1, rw s found.2, found.3)
        ]

pub names-object : (hs : List Handle) (h names o : ℕ) → handle_of hs h ≡ Some names → object_number names ≡ o
    → names_object hs o ≡ true
names-object [] h names o e n = absurd (cc)
names-object (p ∷ hs) h names o e n =
    elim (cases_eq p.number h) [
      | inl m ↦ let s = same p.number h m in let f : Some p.names ≡ Some names = rw s at e in
          let g : p.names ≡ names = cc in
          or_left (nat_eq (object_number p.names) o) (names_object hs o)
          (same (object_number p.names) o (ap object_number g ∙ n))
      | inr d ↦ let s = differs p.number h d in
          or_right (nat_eq (object_number p.names) o) (names_object hs o) (names-object hs h names o (rw s at e) n)
    ]
