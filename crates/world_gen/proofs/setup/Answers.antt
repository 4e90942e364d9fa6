use Rattle.std.proofs.Common.{refl, ◌∙◌}
use Rattle.world_gen.proofs.setup.Goals as goal

pub returns : goal.returns
returns c = record {
  slots = refl;
  rows = refl;
  budget = refl;
  modules = c.from_vec.ensures ∙ c.new.ensures.items;
  program = c.in_ok-main_program.field-0;
  programs = c.in_ok-only.ensures;
  main = c.in_ok-main_program.ensures;
}
