use Rattle.std.proofs.Common.{◌∙◌, arith}
use Rattle.w32_machine.proofs.machine.Machine.end_process.Goals as goal

pub close_all-requires : goal.close_all-requires
close_all-requires c = record { process = c.requires; thread = omega (arith, c.new.ensures) }

pub leave-requires : goal.leave-requires
leave-requires c = record { stands = c.close_all.ensures.stays; closed = c.close_all.ensures.none }

pub returns-clause-ended : goal.returns-clause-ended
returns-clause-ended c = c.leave.ensures.ended ∙ c.close_all.ensures.ends c.args.code
