use Rattle.std.proofs.Common.{◌≡◌, true, take}
use Rattle.std.specs.List.{list_all}
use Rattle.layer_actor.specs.Built.{is_built_instr}
use Rattle.layer_actor.proofs.built_words.are_built.Given as goal

abbrev pub invariant-loop-place : goal.invariant-loop-place
invariant-loop-place l = list_all is_built_instr (take l.place l.code) ≡ true
