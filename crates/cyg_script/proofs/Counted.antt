-- What a line of each sort counts.
use Rattle.std.proofs.Common.{◌≡◌, ℕ, suc, ◌≤◌, Bool, true, ◌||◌, List, [], ◌∷◌}
use Rattle.std.proofs.Common.{◌++◌, length, Option, Some, None, refl, sym, ap, ◌∙◌, arith, inl, inr}
use Rattle.std.specs.Prelude.{codes}
use Rattle.std.specs.Fmt.{decimal}
use Rattle.std.proofs.lemmas.Bool.{cases_lt}
use Rattle.std.proofs.lemmas.List.{append-nil, map-append}
use Rattle.w32_base.specs.Names.{is_same, is_among}
use Rattle.w32_base.specs.Setup.{module_names, program_names}
use Rattle.w32_base.specs.declared.instr.Instr.{Instr}
use Rattle.w32_base.specs.declared.setup.Module.{Module}
use Rattle.script_spec.specs.declared.fault.Sort.{Sort}
use Rattle.script_spec.specs.declared.fault.Sort.TheVariants as sort
use Rattle.script_spec.specs.declared.script.OccupiedPage.{OccupiedPage}
use Rattle.script_spec.specs.Numbers.{value_of}
use Rattle.script_spec.specs.Print.{module_words, occupied_words}
use Rattle.cyg_script.specs.declared.heading.Heading.{Heading}
use Rattle.cyg_script.specs.After.{IsCounted, all_names, open_names}
use Rattle.cyg_script.specs.Headings.{heading_words}
use Rattle.cyg_script.specs.Parts.{Parts, stage, stands, past_line, IsRead, IsEnded}
use Rattle.cyg_script.specs.Written.{header_line}
use Rattle.cyg_script.proofs.Counts.{among-push, length-push}
use Rattle.cyg_script.proofs.Writes.{after_slots, after_rows, after_budget, after_schedule, before_module}
use Rattle.cyg_script.proofs.Writes.{before_occupy, before_program}

abbrev Lines : Type 0
Lines = List (ℕ × List (List ℕ))

closed : {X : Type 0} (p : Parts) (h : Heading) → p.heading ≡ None → p.heading ≡ Some h → X
closed p h e f = absurd (let g : ◌≡◌ {A = Option Heading} None (Some h) = sym e ∙ f in cc)

later : {X : Type 0} (s : Sort) → ◌≡◌ {A = Option Sort} (Some s) None → X
later s e = absurd cc

pub counted_header : (read : Lines) (p : Parts) (k : ℕ) → IsRead p → p.last ≡ None → IsCounted read p
    → IsCounted ((k, header_line) ∷ read) (record p { last = Some sort.Header })
counted_header read p k r e c =
    let zero : stage p.last ≡ 0 = ap stage e in
    let none = r.no_heading (omega (arith, zero)) in
    record {
      last = refl;
      first = later sort.Header;
      slots = λ h. absurd (omega (arith, h));
      modules = c.modules;
      module_names = c.module_names;
      pages = c.pages;
      programs = c.programs;
      program_names = c.program_names;
      code = λ h f. closed p h none f;
      past = λ h f. closed p h none f;
      schedule = c.schedule;
    }

pub counted_slots : (read : Lines) (p : Parts) (k n : ℕ) → IsRead p → stands p.last sort.Slots ≡ true
    → value_of (decimal n) ≡ n → IsCounted read p
    → IsCounted ((k, codes "slots" ∷ decimal n ∷ []) ∷ read) (record p { slots = n; last = Some sort.Slots })
counted_slots read p k n r s v c =
    let one : stage p.last ≡ 1 = ap stage (after_slots p.last s) in
    let none = r.no_heading (omega (arith, one)) in
    record {
      last = refl;
      first = later sort.Slots;
      slots = λ h. v;
      modules = c.modules;
      module_names = c.module_names;
      pages = c.pages;
      programs = c.programs;
      program_names = c.program_names;
      code = λ h f. closed p h none f;
      past = λ h f. closed p h none f;
      schedule = c.schedule;
    }

pub counted_rows : (read : Lines) (p : Parts) (k n : ℕ) → IsRead p → stands p.last sort.Rows ≡ true
    → IsCounted read p
    → IsCounted ((k, codes "rows" ∷ decimal n ∷ []) ∷ read) (record p { rows = n; last = Some sort.Rows })
counted_rows read p k n r s c =
    let two : stage p.last ≡ 2 = ap stage (after_rows p.last s) in
    let none = r.no_heading (omega (arith, two)) in
    record {
      last = refl;
      first = later sort.Rows;
      slots = λ h. c.slots (omega (arith, two));
      modules = c.modules;
      module_names = c.module_names;
      pages = c.pages;
      programs = c.programs;
      program_names = c.program_names;
      code = λ h f. closed p h none f;
      past = λ h f. closed p h none f;
      schedule = c.schedule;
    }

pub counted_budget : (read : Lines) (p : Parts) (k n : ℕ) → IsRead p → stands p.last sort.Budget ≡ true
    → IsCounted read p
    → IsCounted ((k, codes "budget" ∷ decimal n ∷ []) ∷ read) (record p { budget = n; last = Some sort.Budget })
counted_budget read p k n r s c =
    let three : stage p.last ≡ 3 = ap stage (after_budget p.last s) in
    let none = r.no_heading (omega (arith, three)) in
    record {
      last = refl;
      first = later sort.Budget;
      slots = λ h. c.slots (omega (arith, three));
      modules = c.modules;
      module_names = c.module_names;
      pages = c.pages;
      programs = c.programs;
      program_names = c.program_names;
      code = λ h f. closed p h none f;
      past = λ h f. closed p h none f;
      schedule = c.schedule;
    }

names_module : (ms : List Module) (m : Module) → module_names (ms ++ m ∷ []) ≡ module_names ms ++ m.name ∷ []
names_module ms m = map-append (λ (m : Module). m.name) ms (m ∷ [])

pub counted_module : (read : Lines) (p : Parts) (k : ℕ) (m : Module) (ms : List Module) → IsRead p
    → stands p.last sort.Module ≡ true → ms ≡ p.modules ++ m ∷ [] → IsCounted read p
    → IsCounted ((k, module_words m) ∷ read) (record p { modules = ms; last = Some sort.Module })
counted_module read p k m ms r s f c =
    let b = before_module p.last s in
    let none = r.no_heading (omega (arith, b.1)) in
    record {
      last = refl;
      first = later sort.Module;
      slots = λ h. c.slots (omega (arith, b.0));
      modules = rw f (ap suc c.modules ∙ sym (length-push p.modules m));
      module_names = λ name. rw f (rw (names_module p.modules m) (ap (λ (t : Bool). is_same name m.name || t)
          (c.module_names name) ∙ sym (among-push name (module_names p.modules) m.name)));
      pages = c.pages;
      programs = c.programs;
      program_names = c.program_names;
      code = λ h e. closed p h none e;
      past = λ h e. closed p h none e;
      schedule = c.schedule;
    }

pub counted_occupy : (read : Lines) (p : Parts) (k : ℕ) (o : OccupiedPage) (os : List OccupiedPage) → IsRead p
    → stands p.last sort.Occupy ≡ true → os ≡ p.pages ++ o ∷ [] → IsCounted read p
    → IsCounted ((k, occupied_words o) ∷ read) (record p { pages = os; last = Some sort.Occupy })
counted_occupy read p k o os r s f c =
    let b = before_occupy p.last s in
    let none = r.no_heading (omega (arith, b.1)) in
    record {
      last = refl;
      first = later sort.Occupy;
      slots = λ h. c.slots (omega (arith, b.0));
      modules = c.modules;
      module_names = c.module_names;
      pages = rw f (ap suc c.pages ∙ sym (length-push p.pages o));
      programs = c.programs;
      program_names = c.program_names;
      code = λ h e. closed p h none e;
      past = λ h e. closed p h none e;
      schedule = c.schedule;
    }

-- no program is open before a line that ends one
pub none_open : (p : Parts) → IsEnded p → stage p.last ≤ 8 → (stage p.last ≡ 7 → ⊥) → p.heading ≡ None
none_open p e low ne =
    elim (cases_lt (stage p.last) 7) [
      | inl less ↦ e.read.no_heading (omega (arith, less))
      | inr more ↦ (e.closed (omega (arith, more, low, ne))).0
    ]

pub counted_program : (read : Lines) (p : Parts) (k : ℕ) (h : Heading) → IsEnded p
    → stands p.last sort.Program ≡ true → IsCounted read p
    → IsCounted ((k, heading_words h) ∷ read) (record p { heading = Some h; last = Some sort.Program })
counted_program read p k h r s c =
    let b = before_program p.last s in
    let none = none_open p r b.1 b.2 in
    let old : all_names p ≡ program_names p.programs = ap (λ (o : Option Heading). program_names p.programs ++
    open_names o) none ∙ append-nil (program_names p.programs) in
    record {
      last = refl;
      first = later sort.Program;
      slots = λ _. c.slots (omega (arith, b.0));
      modules = c.modules;
      module_names = c.module_names;
      pages = c.pages;
      programs = ap suc (c.programs ∙ ap length old) ∙ sym (length-push (program_names p.programs) h.name);
      program_names = λ name. ap (λ (t : Bool). is_same name h.name || t) (c.program_names name ∙
          ap (λ (xs : List (List ℕ)). is_among name xs) old)
          ∙ sym (among-push name (program_names p.programs) h.name);
      code = λ g e. sym (ap length r.no_code);
      past = λ g e n few. sym (ap (λ (is : List Instr). past_line n is p.code_lines) r.no_code);
      schedule = c.schedule;
    }

pub counted_schedule : (read : Lines) (p : Parts) (k : ℕ) → IsEnded p → stands p.last sort.Schedule ≡ true
    → IsCounted read p
    → IsCounted ((k, codes "schedule" ∷ []) ∷ read) (record p { last = Some sort.Schedule })
counted_schedule read p k r s c =
    let eight : stage p.last ≡ 8 = ap stage (after_schedule p.last s) in
    let none = (r.closed eight).0 in
    record {
      last = refl;
      first = later sort.Schedule;
      slots = λ _. c.slots (omega (arith, eight));
      modules = c.modules;
      module_names = c.module_names;
      pages = c.pages;
      programs = c.programs;
      program_names = c.program_names;
      code = λ h e. closed p h none e;
      past = λ h e. closed p h none e;
      schedule = c.schedule;
    }
