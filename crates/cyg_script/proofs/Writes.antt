-- What each line adds to the lines that the parts spell.
use Rattle.std.proofs.Common.{◌≡◌, ℕ, ◌≤◌, true, List, [], ◌∷◌, ◌++◌, Option, Some, None}
use Rattle.std.proofs.Common.{refl, ap, arith}
use Rattle.std.specs.Prelude.{codes}
use Rattle.std.specs.Fmt.{decimal}
use Rattle.std.proofs.lemmas.List.{append-nil, map-append}
use Rattle.w32_base.specs.Targets.{is_target_below}
use Rattle.w32_base.specs.declared.instr.Instr.{Instr}
use Rattle.w32_base.specs.declared.setup.Module.{Module}
use Rattle.script_spec.specs.declared.fault.Sort.{Sort}
use Rattle.script_spec.specs.declared.fault.Sort.TheVariants as sort
use Rattle.script_spec.specs.declared.script.ScheduleLine.{ScheduleLine}
use Rattle.script_spec.specs.InstrText.{instr_words}
use Rattle.script_spec.specs.Print.{module_words}
use Rattle.cyg_script.specs.Parts.{Parts, stage, stands, IsRead}
use Rattle.cyg_script.specs.Written.{AreWritten, first_lines, limit_lines, last_lines, schedule_lines}
use Rattle.cyg_script.specs.Written.{header_line, Writes}

pub after_slots : (o : Option Sort) → stands o sort.Slots ≡ true → o ≡ Some sort.Header
after_slots (Some sort.Header) e = refl
after_slots o e = cc

pub after_rows : (o : Option Sort) → stands o sort.Rows ≡ true → o ≡ Some sort.Slots
after_rows (Some sort.Slots) e = refl
after_rows o e = cc

pub after_budget : (o : Option Sort) → stands o sort.Budget ≡ true → o ≡ Some sort.Rows
after_budget (Some sort.Rows) e = refl
after_budget o e = cc

pub after_schedule : (o : Option Sort) → stands o sort.Schedule ≡ true → o ≡ Some sort.Instruction
after_schedule (Some sort.Instruction) e = refl
after_schedule o e = cc

abbrev IsBetween : ℕ → ℕ → Option Sort → Type 0
IsBetween low high o = (low ≤ stage o) × (stage o ≤ high)

pub before_module : (o : Option Sort) → stands o sort.Module ≡ true → IsBetween 4 5 o
before_module (Some sort.Budget) e = (omega arith, omega arith)
before_module (Some sort.Module) e = (omega arith, omega arith)
before_module o e = absurd cc

pub before_occupy : (o : Option Sort) → stands o sort.Occupy ≡ true → IsBetween 4 6 o
before_occupy (Some sort.Budget) e = (omega arith, omega arith)
before_occupy (Some sort.Module) e = (omega arith, omega arith)
before_occupy (Some sort.Occupy) e = (omega arith, omega arith)
before_occupy o e = absurd cc

-- a program's own line stands after a budget, a module, a page or an instruction
pub before_program : (o : Option Sort) → stands o sort.Program ≡ true
    → (4 ≤ stage o) × (stage o ≤ 8) × (stage o ≡ 7 → ⊥)
before_program (Some sort.Budget) e = (omega arith, omega arith, λ h. absurd (omega (arith, h)))
before_program (Some sort.Module) e = (omega arith, omega arith, λ h. absurd (omega (arith, h)))
before_program (Some sort.Occupy) e = (omega arith, omega arith, λ h. absurd (omega (arith, h)))
before_program (Some sort.Instruction) e = (omega arith, omega arith, λ h. absurd (omega (arith, h)))
before_program o e = absurd cc

pub before_instr : (o : Option Sort) → stands o sort.Instruction ≡ true → IsBetween 7 8 o
before_instr (Some sort.Program) e = (omega arith, omega arith)
before_instr (Some sort.Instruction) e = (omega arith, omega arith)
before_instr o e = absurd cc

pub before_directive : (o : Option Sort) → stands o sort.Directive ≡ true → IsBetween 9 10 o
before_directive (Some sort.Schedule) e = (omega arith, omega arith)
before_directive (Some sort.Directive) e = (omega arith, omega arith)
before_directive o e = absurd cc

pub all_first : (o : Option Sort) (p : Parts) → 4 ≤ stage o → first_lines o p ≡ limit_lines p
all_first None p h = absurd (omega (arith, h))
all_first (Some sort.Header) p h = absurd (omega (arith, h))
all_first (Some sort.Slots) p h = absurd (omega (arith, h))
all_first (Some sort.Rows) p h = absurd (omega (arith, h))
all_first (Some s) p h = refl

pub no_last : (o : Option Sort) (lines : List ScheduleLine) → stage o ≤ 8 → last_lines o lines ≡ []
no_last (Some sort.Schedule) lines h = absurd (omega (arith, h))
no_last (Some sort.Directive) lines h = absurd (omega (arith, h))
no_last o lines h = refl

pub some_last : (o : Option Sort) (lines : List ScheduleLine) → 9 ≤ stage o → last_lines o lines ≡ schedule_lines lines
some_last (Some sort.Schedule) lines h = refl
some_last (Some sort.Directive) lines h = refl
some_last None lines h = absurd (omega (arith, h))
some_last (Some s) lines h = absurd (omega (arith, h))

pub written-push : (lines : List (List (List ℕ))) (is : List Instr) (ws : List (List ℕ)) (i : Instr)
    → AreWritten lines is
    → (is_target_below 65535 i ≡ true → ws ≡ instr_words i) → AreWritten (lines ++ ws ∷ []) (is ++ i ∷ [])
written-push [] [] ws i h k = (k, tt)
written-push [] (j ∷ is) ws i h k = absurd h
written-push (vs ∷ lines) [] ws i h k = absurd h
written-push (vs ∷ lines) (j ∷ is) ws i h k = (h.0, written-push lines is ws i h.1 k)

pub writes_header : (p : Parts) → IsRead p → p.last ≡ None
    → Writes header_line p (record p { last = Some sort.Header })
writes_header p r e lines w = record {
  open_code = w.open_code;
  written =
      let zero : stage p.last ≡ 0 = ap stage e in
      rw (
        w.written,
        e,
        r.no_modules (omega (arith, zero)),
        r.no_pages (omega (arith, zero)),
        r.no_programs (omega (arith, zero)),
        r.no_heading (omega (arith, zero)),
      ) refl;
  code = w.code;
}

pub writes_slots : (p : Parts) (n : ℕ) (ws : List (List ℕ)) → IsRead p → stands p.last sort.Slots ≡ true
    → ws ≡ decimal n ∷ [] → Writes (codes "slots" ∷ ws) p (record p { slots = n; last = Some sort.Slots })
writes_slots p n ws r s e lines w = record {
  open_code = w.open_code;
  written =
      let o = after_slots p.last s in
      let one : stage p.last ≡ 1 = ap stage o in
      rw (
        w.written,
        o,
        e,
        r.no_modules (omega (arith, one)),
        r.no_pages (omega (arith, one)),
        r.no_programs (omega (arith, one)),
        r.no_heading (omega (arith, one)),
      ) refl;
  code = w.code;
}

pub writes_rows : (p : Parts) (n : ℕ) (ws : List (List ℕ)) → IsRead p → stands p.last sort.Rows ≡ true
    → ws ≡ decimal n ∷ [] → Writes (codes "rows" ∷ ws) p (record p { rows = n; last = Some sort.Rows })
writes_rows p n ws r s e lines w = record {
  open_code = w.open_code;
  written =
      let o = after_rows p.last s in
      let two : stage p.last ≡ 2 = ap stage o in
      rw (
        w.written,
        o,
        e,
        r.no_modules (omega (arith, two)),
        r.no_pages (omega (arith, two)),
        r.no_programs (omega (arith, two)),
        r.no_heading (omega (arith, two)),
      ) refl;
  code = w.code;
}

pub writes_budget : (p : Parts) (n : ℕ) (ws : List (List ℕ)) → IsRead p → stands p.last sort.Budget ≡ true
    → ws ≡ decimal n ∷ [] → Writes (codes "budget" ∷ ws) p (record p { budget = n; last = Some sort.Budget })
writes_budget p n ws r s e lines w = record {
  open_code = w.open_code;
  written =
      let o = after_budget p.last s in
      let three : stage p.last ≡ 3 = ap stage o in
      rw (
        w.written,
        o,
        e,
        r.no_modules (omega (arith, three)),
        r.no_pages (omega (arith, three)),
        r.no_programs (omega (arith, three)),
        r.no_heading (omega (arith, three)),
      ) refl;
  code = w.code;
}

pub writes_module : (p : Parts) (m : Module) (ms : List Module) (ws : List (List ℕ)) → IsRead p
    → stands p.last sort.Module ≡ true → ws ≡ module_words m → ms ≡ p.modules ++ m ∷ []
    → Writes ws p (record p { modules = ms; last = Some sort.Module })
writes_module p m ms ws r s e f lines w = record {
  open_code = w.open_code;
  written =
      let b = before_module p.last s in
      simp (
        w.written,
        e,
        f,
        all_first p.last p b.0,
        no_last p.last p.schedule (omega (arith, b.1)),
        r.no_pages b.1,
        r.no_programs (omega (arith, b.1)),
        r.no_heading (omega (arith, b.1)),
        append-nil,
        map-append,
      ) refl;
  code = w.code;
}
