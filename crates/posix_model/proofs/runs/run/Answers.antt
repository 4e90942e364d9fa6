use Rattle.std.proofs.Common.{◌≡◌, true, cond, Option, None, refl, sym, ◌∙◌, ap, subst}
use Rattle.posix_spec.specs.OwnSteps.{run_step}
use Rattle.posix_spec.specs.State.{Record, PosixState, record_of as record_at}
use Rattle.posix_model.specs.Blocks.{is_at_block, ran}
use Rattle.posix_model.specs.Gives.{Gives}
use Rattle.posix_model.specs.Machine.{script_of, state_of}
use Rattle.posix_model.specs.Shown.{record_of}
use Rattle.posix_model.proofs.BlockLemmas.{run_step-is}
use Rattle.posix_model.proofs.StepLemmas.{value_some, same_there}
use Rattle.posix_model.proofs.runs.run.Goals as goal

pub run_block-requires : goal.run_block-requires
run_block-requires c x there =
    let script = script_of c.args.m.now in
    same_there (λ (y : Record). is_at_block script y ≡ true) (record_at (state_of c.args.m.now) c.args.p) (record_of
    c.in-Some.process.now) x (sym c.in-Some.ensures) there (sym c.if-not-is_at_block.ensures)

pub returns-then-not-is_at_block : goal.returns-then-not-is_at_block
returns-then-not-is_at_block c =
    let script = script_of c.args.m.now in
    let s = state_of c.args.m.now in
    let r = record_of c.in-Some.process.now in (
      value_some _ (run_step script s c.args.p c.args.n) r (sym c.in-Some.ensures)
          ∙ run_step-is script s c.args.p c.args.n r
          ∙ ap (λ b. cond b (ran script s c.args.p c.args.n r) None) (sym c.if-not-is_at_block.ensures),
      refl,
    )

pub returns : goal.returns
returns c =
    let script = script_of c.args.m.now in
    let s = state_of c.args.m.now in
    let r = record_of c.in-Some.process.now in
    let step : Option PosixState = ran script s c.args.p c.args.n r in
    subst (λ (o : Option PosixState). Gives o c.run_block.result c.args.m.now c.run_block.new.self)
    (value_some _ (ran script s c.args.p c.args.n) r (sym c.in-Some.ensures)
    ∙ sym (value_some _ (run_step script s c.args.p c.args.n) r (sym c.in-Some.ensures)
    ∙ run_step-is script s c.args.p c.args.n r
    ∙ ap (λ b. cond b step None) (sym c.if-not-is_at_block.ensures)))
    c.run_block.ensures
