use Rattle.std.proofs.Common.{◌∙◌}
use Rattle.world_gen.proofs.make.Goals as goal

pub returns : goal.returns
returns c = let set = c.in_ok-setup.ensures in record {
  slots = set.slots;
  rows = set.rows;
  budget = set.budget;
  modules = set.modules;
  program = set.program;
  programs = set.programs;
  name = set.main.name;
  heap = set.main.heap;
  stack = set.main.stack;
  code = set.main.code;
  occupied = c.from_vec.ensures ∙ c.new.ensures.items;
  directives = c.in_ok-schedule.ensures;
}
