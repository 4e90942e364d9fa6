use Rattle.std.proofs.Common.{◌≡◌, true, false}
use Rattle.cyg_runs.specs.Runs.{Unbuilt, Ran}
use Rattle.cyg_runs.proofs.run.run_built.Goals as goal

pub returns-then-not-built : goal.returns-then-not-built
returns-then-not-built g c =
    let told = c.if-not-built.true in
    let unbuilt : c.args.built ≡ false = cc in
    Unbuilt unbuilt c.refuse.ensures

pub returns-in-Ok : goal.returns-in-Ok
returns-in-Ok g c =
    let told = c.if-not-built.false in
    let built : c.args.built ≡ true = cc in
    Ran c.in-Ok.run'.journal c.in-Ok.run'.end built c.in-Ok.ensures c.log.ensures
