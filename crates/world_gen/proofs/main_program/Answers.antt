use Rattle.std.proofs.Common.{◌≡◌, ◌+◌, ◌*◌, length, ap, ◌∙◌, arith}
use Rattle.w32_base.specs.Targets.{are_targets_below}
use Rattle.world_gen.specs.ForkingLaws.{code-length, places-below}
use Rattle.world_gen.proofs.main_program.Goals as goal

pub invariant_of-result : goal.invariant_of-result
invariant_of-result c =
    let is = c.from_vec.ensures ∙ c.in_ok-code.ensures in
    let size : length c.from_vec.result ≡ 3 * c.args.n + 3 = ap length is ∙ code-length c.args.n in
    let places = places-below c.args.n (length c.from_vec.result) size in
    record {
      heap_in_range = omega arith;
      stack_in_range = (omega arith, omega arith);
      code_in_range = (omega (arith, size), omega (arith, size, c.requires));
      targets_in_range = ap (λ code. are_targets_below (length c.from_vec.result) code) is ∙ places;
    }
