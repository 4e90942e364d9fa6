use Rattle.std.proofs.Common.{◌≡◌, sym, subst}
use Rattle.cyg_cli.specs.Commands.{IsNumberOfForks}
use Rattle.cyg_cli.proofs.Words.{parsed}
use Rattle.cyg_cli.proofs.commands.number_of_forks.Goals as goal

pub returns-else-is_number_of_forks : goal.returns-else-is_number_of_forks
returns-else-is_number_of_forks c = λ n is.
    let read = parsed c.args.word.now n c.parse.result is c.parse.ensures.value.0 in
    let told = c.unwrap_or-number.ensures in
    let same : c.unwrap_or-number.result ≡ n = cc in
    let yes = c.is_number_of_forks.ensures.1 (subst (IsNumberOfForks c.args.word.now) (sym same) is) in
    let no = c.if-is_number_of_forks.ensures in
    cc
