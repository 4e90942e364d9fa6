use Rattle.std.proofs.Common.{refl, ap, subst, arith}
use Rattle.w32_handles.specs.Table.{Table}
use Rattle.w32_process.specs.Sound.{IsSound}
use Rattle.w32_kinds.specs.declared.kind.Kind.{Kind}
use Rattle.w32_machine.specs.declared.machine.Machine.TheInside.{Inside}
use Rattle.w32_machine.proofs.FirstSound.{IsFirst, is-opening-by, is-sound}
use Rattle.w32_machine.proofs.machine.Machine.open.Goals as goal

-- the tables
abbrev inside : goal.In_ok-with_capacity → Inside
inside c = record {
  script = c.in_ok-script_of.field-0;
  processes = c.in_ok-processes.processes;
  objects = c.in_ok-objects.objects;
  section = c.in_ok-objects.numbers.section;
  posted = c.in_ok-first_calls.field-0;
  placed = c.in_ok-first_modules.field-0;
  keys = c.in_ok-with_capacity.field-0;
}

are-first : (c : goal.In_ok-with_capacity)
    → IsFirst c.args.script.now c.in_ok-objects.numbers c.first_placements-placed.result (inside c)
are-first c = record {
  script_is = c.in_ok-script_of.ensures;
  in_order = c.first_placements-placed.ensures;
  few_modules = c.requires.few_modules;
  table = c.in_ok-processes.ensures;
  table_sound = subst IsSound c.processes.view_is c.processes.invariant.1;
  objects = c.in_ok-objects.ensures.objects;
  spare = c.in_ok-objects.ensures.spare;
  section = refl;
  threads = _;
  posted = c.in_ok-first_calls.ensures;
  three_a_slot = omega (arith, c.from-slots.ensures);
  others = _;
  placed_in_slots = c.in_ok-first_modules.ensures;
  other_slots = omega (arith, c.from-slots.ensures, c.args.script.now.setup.limits.slots_in_range.0);
  no_keys = c.in_ok-with_capacity.ensures.items;
  keys_room = omega (arith, c.in_ok-with_capacity.ensures.exact, c.len.ensures.value);
}

pub invariant_of-result-3 : goal.invariant_of-result-3
invariant_of-result-3 c =
    rw (c.processes.view_is, c.objects.view_is)
    (is-sound c.args.script.now c.in_ok-objects.numbers c.first_placements-placed.result (inside c) (are-first c))

pub returns-clause-opening : goal.returns-clause-opening
returns-clause-opening c =
    is-opening-by c.args.script.now c.in_ok-objects.numbers c.first_placements-placed.result (inside c) (are-first c) _
    _
    c.processes.view_is (ap (λ (t : Table Kind). t.places) c.objects.view_is)
