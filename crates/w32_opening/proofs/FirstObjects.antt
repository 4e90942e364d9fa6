-- The table of objects as a run begins.
use Rattle.std.proofs.Common.{◌≡◌, ◌∙◌, inl, inr, ℕ, ◌/◌, ◌<◌, Option, Some, None, ap, arith}
use Rattle.std.proofs.Common.{slice_index_or}
use Rattle.std.proofs.lemmas.Bool.{cases_eq}
use Rattle.tty_spec.specs.Terminal.{opening_terminal}
use Rattle.win32_spec.specs.LookupLaws.{same, differs}
use Rattle.win32_spec.specs.Objects.{Free}
use Rattle.win32_spec.specs.Opening.{opening_words}
use Rattle.win32_spec.specs.State.{Section, Mutex, ProcessObject, TerminalObject}
use Rattle.w32_handles.specs.Table.{HeldObject, Table, object_at, Changes, one_more}
use Rattle.w32_kinds.specs.declared.kind.Kind.{Kind}
use Rattle.w32_opening.specs.declared.numbers.Numbers.{Numbers}
use Rattle.w32_opening.specs.Opened.{kept_shown, opening_at}

abbrev new : Kind → Option (HeldObject Kind)
new x = Some (record { object = x; holders = 1 })

at : (t : Table Kind) (o p : ℕ) → o / 2 ≡ p / 2 → object_at t o ≡ object_at t p
at t o p e = ap (λ k. slice_index_or t.places k None) e

module _ (n : Numbers) (t0 t1 t2 t3 t4 t5 t6 t7 : Table Kind) (xa xb xc xd : Kind)
    (none : (o : ℕ) → object_at t0 o ≡ None) (s1 : Changes t0 t1 n.section (new xa))
    (s2 : Changes t1 t2 n.mutex (new xb)) (s3 : Changes t2 t3 n.terminal (new xc))
    (s4 : Changes t3 t4 n.process (new xd)) (h1 : Changes t4 t5 n.section (one_more (object_at t4 n.section)))
    (h2 : Changes t5 t6 n.mutex (one_more (object_at t5 n.mutex)))
    (h3 : Changes t6 t7 n.terminal (one_more (object_at t6 n.terminal)))
    (fa : kept_shown (one_more (new xa)) ≡ Some (Section opening_words, 0, 2))
    (fb : kept_shown (one_more (new xb)) ≡ Some (Mutex Free, 0, 2))
    (fc : kept_shown (one_more (new xc)) ≡ Some (TerminalObject opening_terminal, 0, 2))
    (fd : kept_shown (new xd) ≡ Some (ProcessObject 2, 1, 1)) where
  ab : n.section / 2 < n.mutex / 2
  ab = omega (arith, n.mutex_above, n.section_even, n.mutex_even)

  bc : n.mutex / 2 < n.terminal / 2
  bc = omega (arith, n.terminal_above, n.mutex_even, n.terminal_even)

  cd : n.terminal / 2 < n.process / 2
  cd = omega (arith, n.process_above, n.terminal_even, n.process_even)

  pub opened-objects : (o : ℕ) → kept_shown (object_at t7 o) ≡ opening_at n o
  opened-objects o = elim (cases_eq (o / 2) (n.section / 2)) [
    | inl e ↦ let s = same (o / 2) (n.section / 2) e in rw s (ap kept_shown (
        h3.others o (λ f. omega (arith, ab, bc, e, f)) ∙ h2.others o (λ f. omega (arith, ab, e, f))
        ∙ at t5 o n.section e ∙ h1.here
        ∙ ap one_more (s4.others n.section (λ f. omega (arith, ab, bc, cd, f))
        ∙ s3.others n.section (λ f. omega (arith, ab, bc, f)) ∙ s2.others n.section (λ f. omega (arith, ab, f))
        ∙ s1.here)
        ) ∙ fa)
    | inr i ↦ elim (cases_eq (o / 2) (n.mutex / 2)) [
      | inl e ↦ let r = differs (o / 2) (n.section / 2) i in let s = same (o / 2) (n.mutex / 2) e in
          rw (r, s) (ap kept_shown (
          h3.others o (λ f. omega (arith, bc, e, f)) ∙ at t6 o n.mutex e ∙ h2.here
          ∙ ap one_more (h1.others n.mutex (λ f. omega (arith, ab, f))
          ∙ s4.others n.mutex (λ f. omega (arith, bc, cd, f))
          ∙ s3.others n.mutex (λ f. omega (arith, bc, f)) ∙ s2.here)
          ) ∙ fb)
      | inr j ↦ elim (cases_eq (o / 2) (n.terminal / 2)) [
        | inl e ↦ let q = differs (o / 2) (n.section / 2) i in let r = differs (o / 2) (n.mutex / 2) j in
            let s = same (o / 2) (n.terminal / 2) e in rw (q, r, s) (ap kept_shown (
            at t7 o n.terminal e ∙ h3.here
            ∙ ap one_more (h2.others n.terminal (λ f. omega (arith, bc, f))
            ∙ h1.others n.terminal (λ f. omega (arith, ab, bc, f)) ∙ s4.others n.terminal (λ f. omega (arith, cd, f))
            ∙ s3.here)
            ) ∙ fc)
        | inr k ↦ let front = h3.others o k ∙ h2.others o j ∙ h1.others o i in
            let p = differs (o / 2) (n.section / 2) i in let q = differs (o / 2) (n.mutex / 2) j in
            let r = differs (o / 2) (n.terminal / 2) k in elim (cases_eq (o / 2) (n.process / 2)) [
              | inl e ↦ let s = same (o / 2) (n.process / 2) e in
                  rw (p, q, r, s) (ap kept_shown (front ∙ at t4 o n.process e ∙ s4.here) ∙ fd)
              | inr l ↦ let s = differs (o / 2) (n.process / 2) l in
                  rw (p, q, r, s) (ap kept_shown (front ∙ s4.others o l ∙ s3.others o k ∙ s2.others o j ∙ s1.others o i
                  ∙ none o))
            ]
      ]
    ]
  ]
