use Rattle.std.proofs.Common.{◌≡◌, ◌≤◌, None, Some, refl, sym, subst, rules}
use Rattle.win32_spec.specs.Lookup.{number_in, thread_at}
use Rattle.machine_stage.specs.Staged.{has_thread, no_third_thread, staged_post}
use Rattle.machine_stage.specs.TrialLaws.{posts_by, posts_none}
use Rattle.machine_stage.specs.Trials.{Trial, PostsBy}
use Rattle.machine_stage.proofs.stage.Stage.post.Goals as goal

pub post-requires : goal.post-requires
post-requires c =
    let stands : number_in c.self.inside.machine.win32 c.args.slot ≡ Some c.in-Some.field-0 = search rules in
    let few : c.args.thread ≤ 2 = search rules in
    let host : c.args.slot ≡ 0 → c.args.thread ≤ 1 = search rules in
    has_thread c.self.inside.turns c.args.slot c.args.thread c.in-Some.field-0 c.self.inside.machine c.self.invariant
    stands few host

pub invariant_of-self : goal.invariant_of-self
invariant_of-self c =
    let stands : number_in c.self.inside.machine.win32 c.args.slot ≡ Some c.in-Some.field-0 = search rules in
    let few : c.args.thread ≤ 2 = search rules in
    let host : c.args.slot ≡ 0 → c.args.thread ≤ 1 = search rules in
    let there = has_thread c.self.inside.turns c.args.slot c.args.thread c.in-Some.field-0 c.self.inside.machine
    c.self.invariant stands few host in
    staged_post c.self.inside.turns c.args.slot c.args.thread c.args.call c.self.inside.machine c.post.new.self
    c.self.invariant there c.post.ensures.posted c.post.ensures.script

pub returns-then-is_thread : goal.returns-then-is_thread
returns-then-is_thread c =
    let stands : number_in c.self.inside.machine.win32 c.args.slot ≡ Some c.in-Some.field-0 = search rules in
    let few : c.args.thread ≤ 2 = search rules in
    let host : c.args.slot ≡ 0 → c.args.thread ≤ 1 = search rules in
    let there = has_thread c.self.inside.turns c.args.slot c.args.thread c.in-Some.field-0 c.self.inside.machine
    c.self.invariant stands few host in
    let before : Trial = record { machine = c.self.inside.machine; turns = c.self.inside.turns } in
    let after : Trial = record { machine = c.post.new.self; turns = c.self.inside.turns } in
    let is : c.args.self.now ≡ before = search rules in
    subst (λ (s : Trial). PostsBy (thread_at s.machine.win32 c.args.slot c.args.thread) s c.args.slot c.args.thread
    c.args.call after) (sym is)
    (posts_by (thread_at before.machine.win32 c.args.slot c.args.thread) before after c.args.slot c.args.thread
    c.args.call there refl c.post.ensures.script c.post.ensures.posted)

pub returns-else-is_thread : goal.returns-else-is_thread
returns-else-is_thread c =
    let third = c.is_thread.ensures.no (search rules) in
    let before : Trial = record { machine = c.self.inside.machine; turns = c.self.inside.turns } in
    let is : c.args.self.now ≡ before = search rules in
    let none : thread_at c.self.inside.machine.win32 c.args.slot c.args.thread ≡ None =
    subst (λ slot. thread_at c.self.inside.machine.win32 slot c.args.thread ≡ None) (sym third.0)
    (no_third_thread c.self.inside.turns c.args.thread c.self.inside.machine c.self.invariant third.1) in
    subst (λ (s : Trial). PostsBy (thread_at s.machine.win32 c.args.slot c.args.thread) s c.args.slot c.args.thread
    c.args.call s) (sym is)
    (posts_none (thread_at before.machine.win32 c.args.slot c.args.thread) before c.args.slot c.args.thread c.args.call
    none)
