use Rattle.w32_machine.proofs.Words.{section-there, word-found}
use Rattle.w32_machine.proofs.machine.Machine.word.Goals as goal

pub get-requires : goal.get-requires
get-requires c = section-there c.self.inside c.self.invariant c.args.self.now c.self.view_is c.requires

pub returns : goal.returns
returns c =
    word-found c.self.inside c.self.invariant c.args.self.now c.self.view_is c.get.result.now c.get.ensures.value
    c.args.index c.word.result c.word.ensures
