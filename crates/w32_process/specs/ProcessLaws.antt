-- Laws of lists of processes by rising numbers: one more in its place, and that lookups tell the list.
use Rattle.std.proofs.Common.{◌≡◌, ◌≢◌, inl, inr, ℕ, ◌+◌, ◌≤◌, ◌<◌, List, [], ◌∷◌, Some, None, refl, sym}
use Rattle.std.proofs.Common.{◌∙◌, arith}
use Rattle.std.proofs.lemmas.Bool.{cases_eq, cases_lt}
use Rattle.win32_spec.specs.State.{Process}
use Rattle.win32_spec.specs.Lookup.{process_of}
use Rattle.win32_spec.specs.WellFormed.{AreRisingProcesses}
use Rattle.win32_spec.specs.LookupLaws.{same, differs, before, not_before, not_none, rising-absent}
use Rattle.w32_process.specs.Processes.{insert_process}

-- the new process is found by its number, and every other one as before
pub process_of-insert_new : (new : Process) (ps : List Process) → process_of ps new.number ≡ None
    → process_of (insert_process new ps) new.number ≡ Some new
process_of-insert_new new [] free = let s = same new.number new.number refl in rw s refl
process_of-insert_new new (p ∷ ps) free =
    elim (cases_lt new.number p.number) [
      | inl l ↦ let t = before new.number p.number l in let s = same new.number new.number refl in rw (t, s) refl
      | inr l ↦ elim (cases_eq p.number new.number) [
        | inl n ↦ let s = same p.number new.number n in absurd (let f : Some p ≡ None = rw s at free in cc)
        | inr d ↦ let t = not_before new.number p.number l in let s = differs p.number new.number d in
            rw (t, s) (process_of-insert_new new ps (rw s at free))
      ]
    ]

pub process_of-insert_other : (new : Process) (ps : List Process) (w : ℕ) → w ≢ new.number
    → process_of (insert_process new ps) w ≡ process_of ps w
process_of-insert_other new [] w d = let s = differs new.number w (λ e. d (sym e)) in rw s refl
process_of-insert_other new (p ∷ ps) w d =
    elim (cases_lt new.number p.number) [
      | inl l ↦ let t = before new.number p.number l in let s = differs new.number w (λ e. d (sym e)) in rw (t, s) refl
      | inr l ↦ let t = not_before new.number p.number l in rw (t, process_of-insert_other new ps w d)
    ]

pub rising-insert : (low next : ℕ) (new : Process) (ps : List Process) → AreRisingProcesses low next ps
    → low ≤ new.number → new.number < next → process_of ps new.number ≡ None
    → AreRisingProcesses low next (insert_process new ps)
rising-insert low next new [] r l m free = (l, m, tt)
rising-insert low next new (p ∷ ps) r l m free =
    elim (cases_lt new.number p.number) [
      | inl n ↦ let t = before new.number p.number n in rw t (l, m, (omega arith, r.1, r.2))
      | inr n ↦ elim (cases_eq p.number new.number) [
        | inl e ↦ let s = same p.number new.number e in absurd (let f : Some p ≡ None = rw s at free in cc)
        | inr d ↦ let t = not_before new.number p.number n in let s = differs p.number new.number d in
            let above : p.number + 1 ≤ new.number = omega arith in
            rw t (r.0, r.1, rising-insert (p.number + 1) next new ps r.2 above m (rw s at free))
      ]
    ]

-- each number finds the same in both
abbrev pub Finds : List Process → List Process → Type 0
Finds ps qs = (w : ℕ) → process_of ps w ≡ process_of qs w

-- two lists by rising numbers in which each number finds the same are one list
pub same_processes : (low next low' next' : ℕ) (ps qs : List Process) → AreRisingProcesses low next ps
    → AreRisingProcesses low' next' qs → Finds ps qs → ps ≡ qs
same_processes low next low' next' [] [] r r' finds = refl
same_processes low next low' next' [] (q ∷ qs) r r' finds =
    let s = same q.number q.number refl in absurd (let f : None ≡ Some q = rw s at (finds q.number) in cc)
same_processes low next low' next' (p ∷ ps) [] r r' finds =
    let s = same p.number p.number refl in absurd (let f : Some p ≡ None = rw s at (finds p.number) in cc)
same_processes low next low' next' (p ∷ ps) (q ∷ qs) r r' finds =
    elim (cases_eq p.number q.number) [
      | inl n ↦ with_heads (heads n)
          (same_processes (p.number + 1) next (q.number + 1) next' ps qs r.2 r'.2 (rest n))
      | inr d ↦ absurd (apart d)
    ]
  where
    heads : p.number ≡ q.number → p ≡ q
    heads n =
        let s = same p.number p.number refl in
        let t = same q.number p.number (sym n) in
        let f : Some p ≡ Some q = rw (s, t) at (finds p.number) in cc

    rest : p.number ≡ q.number → Finds ps qs
    rest n w =
        elim (cases_eq p.number w) [
          | inl e ↦
              rising-absent (p.number + 1) next ps w r.2 (inl (omega (arith, e)))
              ∙ sym (rising-absent (q.number + 1) next' qs w r'.2 (inl (omega (arith, e, n))))
          | inr d ↦
              let s = differs p.number w d in
              let t = differs q.number w (λ e. d (n ∙ e)) in
              rw (s, t) at (finds w)
        ]

    with_heads : p ≡ q → ps ≡ qs → (p ∷ ps) ≡ (q ∷ qs)
    with_heads e tails = cc

    apart : p.number ≢ q.number → ⊥
    apart d =
        elim (cases_lt p.number q.number) [
          | inl l ↦
              let s = same p.number p.number refl in
              let t = differs q.number p.number (λ e. d (sym e)) in
              let f : Some p ≡ process_of qs p.number = rw (s, t) at (finds p.number) in
              not_none (process_of qs p.number) p (sym f)
              (rising-absent (q.number + 1) next' qs p.number r'.2 (inl (omega arith)))
          | inr l ↦
              let s = same q.number q.number refl in
              let t = differs p.number q.number d in
              let f : process_of ps q.number ≡ Some q = rw (s, t) at (finds q.number) in
              not_none (process_of ps q.number) q f
              (rising-absent (p.number + 1) next ps q.number r.2 (inl (omega arith)))
        ]
