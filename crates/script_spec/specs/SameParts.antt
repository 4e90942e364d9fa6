-- Two parts of scripts are the same where their fields are.
use Rattle.std.proofs.Common.{◌≡◌, ℕ, ◌+◌, ◌≤◌, ◌<◌, Bool, List, length, subst}
use Rattle.std.specs.Prelude.{IsTrue}
use Rattle.std.specs.Coded.{×_prop, le_prop}
use Rattle.std.proofs.Props.{props}
use Rattle.w32_base.specs.Targets.{are_targets_below}
use Rattle.w32_base.specs.declared.instr.Instr.{Instr}
use Rattle.w32_base.specs.declared.setup.Limits.{Limits}
use Rattle.w32_base.specs.declared.setup.Module.{Module}
use Rattle.w32_base.specs.declared.setup.Program.{Program}
use Rattle.w32_base.specs.declared.setup.Setup.{Setup}
use Rattle.std.specs.List.{list_all}
use Rattle.script_spec.specs.Ranges.{is_line_within}
use Rattle.script_spec.specs.declared.script.OccupiedPage.{OccupiedPage}
use Rattle.script_spec.specs.declared.script.ScheduleLine.{ScheduleLine}
use Rattle.script_spec.specs.declared.script.Script.{Script}

within-prop : (low high n : ℕ) → IsProp ((low ≤ n) × (n ≤ high))
within-prop low high n = ×_prop le_prop le_prop

pub same_module : (m n : Module) → m.name ≡ n.name → m.base ≡ n.base → m.size ≡ n.size → m ≡ n
same_module m n e f g =
    let P : (List ℕ × ℕ × ℕ) → Type 0 = λ t. (a : (1 ≤ t.2) × (t.2 ≤ 8)) (b : t.1 + t.2 ≤ 1024)
    → m ≡ record { name = t.0; base = t.1; size = t.2; size_in_range = a; pages_in_range = b } in
    let here : P (m.name, m.base, m.size) = λ a b. λ i. record {
      name = m.name;
      base = m.base;
      size = m.size;
      size_in_range = within-prop 1 8 m.size m.size_in_range a i;
      pages_in_range = le_prop m.pages_in_range b i;
    } in
    let all : ◌≡◌ {A = List ℕ × ℕ × ℕ} (m.name, m.base, m.size) (n.name, n.base, n.size) = cc in
    subst P all here n.size_in_range n.pages_in_range

pub same_limits : (l m : Limits) → l.slots ≡ m.slots → l.rows ≡ m.rows → l.budget ≡ m.budget → l ≡ m
same_limits l m e f g =
    let P : (ℕ × ℕ × ℕ) → Type 0 = λ t. (a : (1 ≤ t.0) × (t.0 ≤ 64)) (b : (1 ≤ t.1) × (t.1 ≤ 4000))
    (c : (1 ≤ t.2) × (t.2 ≤ 500000)) → l ≡ record {
      slots = t.0;
      rows = t.1;
      budget = t.2;
      slots_in_range = a;
      rows_in_range = b;
      budget_in_range = c;
    } in
    let here : P (l.slots, l.rows, l.budget) = λ a b c. λ i. record {
      slots = l.slots;
      rows = l.rows;
      budget = l.budget;
      slots_in_range = within-prop 1 64 l.slots l.slots_in_range a i;
      rows_in_range = within-prop 1 4000 l.rows l.rows_in_range b i;
      budget_in_range = within-prop 1 500000 l.budget l.budget_in_range c i;
    } in
    let all : ◌≡◌ {A = ℕ × ℕ × ℕ} (l.slots, l.rows, l.budget) (m.slots, m.rows, m.budget) = cc in
    subst P all here m.slots_in_range m.rows_in_range m.budget_in_range

pub same_page : (o p : OccupiedPage) → o.creation ≡ p.creation → o.page ≡ p.page → o ≡ p
same_page o p e f =
    let P : (ℕ × ℕ) → Type 0 = λ t. (a : (1 ≤ t.0) × (t.0 ≤ 500000)) (b : t.1 < 1024)
    → o ≡ record { creation = t.0; page = t.1; creation_in_range = a; page_in_range = b } in
    let here : P (o.creation, o.page) = λ a b. λ i. record {
      creation = o.creation;
      page = o.page;
      creation_in_range = within-prop 1 500000 o.creation o.creation_in_range a i;
      page_in_range = le_prop o.page_in_range b i;
    } in
    let all : ◌≡◌ {A = ℕ × ℕ} (o.creation, o.page) (p.creation, p.page) = cc in
    subst P all here p.creation_in_range p.page_in_range

holds-prop : (b : Bool) → IsProp (IsTrue b)
holds-prop b = hlevel props

pub same_program : (p q : Program) → p.name ≡ q.name → p.heap ≡ q.heap → p.stack ≡ q.stack → p.code ≡ q.code → p ≡ q
same_program p q e f g h =
    let P : (List ℕ × ℕ × ℕ × List Instr) → Type 0 = λ t. (a : t.1 ≤ 32768) (b : (64 ≤ t.2) × (t.2 ≤ 32768))
    (c : (1 ≤ length t.3) × (length t.3 ≤ 4000)) (d : IsTrue (are_targets_below (length t.3) t.3)) → p ≡ record {
      name = t.0;
      heap = t.1;
      stack = t.2;
      code = t.3;
      heap_in_range = a;
      stack_in_range = b;
      code_in_range = c;
      targets_in_range = d;
    } in
    let here : P (p.name, p.heap, p.stack, p.code) = λ a b c d. λ i. record {
      name = p.name;
      heap = p.heap;
      stack = p.stack;
      code = p.code;
      heap_in_range = le_prop p.heap_in_range a i;
      stack_in_range = within-prop 64 32768 p.stack p.stack_in_range b i;
      code_in_range = within-prop 1 4000 (length p.code) p.code_in_range c i;
      targets_in_range = holds-prop (are_targets_below (length p.code) p.code) p.targets_in_range d i;
    } in
    let all : ◌≡◌ {A = List ℕ × ℕ × ℕ × List Instr} (p.name, p.heap, p.stack, p.code)
    (q.name, q.heap, q.stack, q.code) = cc in
    subst P all here q.heap_in_range q.stack_in_range q.code_in_range q.targets_in_range

same_setup : (s t : Setup) → s.limits ≡ t.limits → s.modules ≡ t.modules → s.programs ≡ t.programs → s ≡ t
same_setup s t e f g = λ i. record { limits = e i; modules = f i; programs = g i }

pub same_script : (s t : Script) → s.setup.limits ≡ t.setup.limits → s.setup.modules ≡ t.setup.modules
    → s.setup.programs ≡ t.setup.programs → s.occupied ≡ t.occupied → s.directives ≡ t.directives → s ≡ t
same_script s t e f g h k =
    let P : (Setup × List OccupiedPage × List ScheduleLine) → Type 0 =
    λ x. (a : IsTrue (list_all (is_line_within x.0.limits.slots) x.2))
    → s ≡ record { setup = x.0; occupied = x.1; directives = x.2; lines_in_range = a } in
    let here : P (s.setup, s.occupied, s.directives) = λ a. λ i. record {
      setup = s.setup;
      occupied = s.occupied;
      directives = s.directives;
      lines_in_range =
          holds-prop (list_all (is_line_within s.setup.limits.slots) s.directives) s.lines_in_range a i;
    } in
    let setup : s.setup ≡ t.setup = same_setup s.setup t.setup e f g in
    let all : ◌≡◌ {A = Setup × List OccupiedPage × List ScheduleLine} (s.setup, s.occupied, s.directives)
    (t.setup, t.occupied, t.directives) = cc in
    subst P all here t.lines_in_range
