use Rattle.std.proofs.Common.{◌≡◌, ◌≤◌, subst, rules}
use Rattle.machine_stage.specs.TrialLaws.{calls_by}
use Rattle.machine_stage.specs.Trials.{Calls}
use Rattle.machine_stage.proofs.stage.Stage.call.Goals as goal

pub returns : goal.returns
returns c =
    let slot : c.in_ok-slot.slot ≡ c.args.slot = search rules in
    let thread : c.in_ok-thread.thread ≡ c.args.thread = search rules in
    let few : c.in_ok-slot.slot ≤ 64 = search rules in
    let three : c.in_ok-thread.thread ≤ 2 = search rules in
    subst (λ w. Calls c.args.self.now w c.args.thread c.args.call c.turn.result c.turn.new.self) slot
    (subst (λ t. Calls c.args.self.now c.in_ok-slot.slot t c.args.call c.turn.result c.turn.new.self) thread
    (calls_by c.args.self.now c.post.new.self c.turn.new.self c.in_ok-slot.slot c.in_ok-thread.thread c.args.call
    c.turn.result few three c.post.ensures c.turn.ensures))
