-- Each call that a main thread posts leaves the bytes of its process, but the one for a block of local instructions.
use Rattle.std.proofs.Common.{◌≡◌, ◌⊎◌, inl, inr, ℕ, true, refl}
use Rattle.w32_base.specs.declared.call.Call.TheVariants as call
use Rattle.roster.specs.declared.hold.Hold.{Hold}
use Rattle.roster.specs.declared.hold.Hold.TheVariants as hold
use Rattle.roster.specs.declared.post.Post.{Post}
use Rattle.roster.specs.declared.post.Post.TheVariants as post
use Rattle.roster.specs.declared.post_one.PostStep.{PostStep}
use Rattle.roster.specs.declared.post_one.PostStep.TheVariants as step
use Rattle.roster.specs.declared.release.Let.{Let}
use Rattle.roster.specs.declared.release.Let.TheVariants as release
use Rattle.roster.specs.declared.tell_parent.TellParent.{TellParent}
use Rattle.roster.specs.declared.tell_parent.TellParent.TheVariants as tell
use Rattle.roster.specs.declared.wake.Wake.{Wake}
use Rattle.roster.specs.declared.wake.Wake.TheVariants as wake
use Rattle.roster.specs.Mutex.{hold_posted, let_posted}
use Rattle.roster.specs.Post.{post_posted}
use Rattle.roster.specs.PostOne.{post_step_posted}
use Rattle.roster.specs.TellParent.{tell_posted}
use Rattle.roster.specs.Wake.{wake_posted}
use Rattle.kill_calls.specs.declared.one.KillStep.{KillStep}
use Rattle.kill_calls.specs.declared.one.KillStep.TheVariants as kill
use Rattle.kill_calls.specs.Kill.{kill_step_posted}
use Rattle.child_watch.specs.declared.collect.Gather.{Gather}
use Rattle.child_watch.specs.declared.collect.Gather.TheVariants as gather
use Rattle.child_watch.specs.declared.ending.Ending.{Ending}
use Rattle.child_watch.specs.declared.exiting.ExitStep.{ExitStep}
use Rattle.child_watch.specs.declared.exiting.ExitStep.TheVariants as exit
use Rattle.child_watch.specs.Collect.{gather_posted}
use Rattle.child_watch.specs.Exiting.{exit_step_posted}
use Rattle.layer_actor.specs.declared.doing.Doing.{Doing}
use Rattle.layer_actor.specs.declared.doing.Doing.TheVariants as doing
use Rattle.layer_actor.specs.declared.gets.GetStep.{GetStep}
use Rattle.layer_actor.specs.declared.gets.GetStep.TheVariants as get
use Rattle.layer_actor.specs.declared.idle.Idle.{Idle}
use Rattle.layer_actor.specs.declared.idle.Idle.TheVariants as idle
use Rattle.layer_actor.specs.declared.local.Local.{Local}
use Rattle.layer_actor.specs.declared.local.Local.TheVariants as local
use Rattle.layer_actor.specs.declared.start.StartStep.{StartStep}
use Rattle.layer_actor.specs.declared.start.StartStep.TheVariants as start
use Rattle.layer_actor.specs.CallBytes.{leaves_bytes}
use Rattle.layer_actor.specs.Doing.{doing_posted}
use Rattle.layer_actor.specs.Gets.{get_step_posted}
use Rattle.layer_actor.specs.Idle.{idle_posted}
use Rattle.layer_actor.specs.Local.{local_posted}
use Rattle.layer_actor.specs.Start.{start_step_posted}

start_leaves : (image : ℕ) (s : StartStep) → leaves_bytes (start_step_posted image s) ≡ true
start_leaves image start.Opening = refl
start_leaves image start.MakingWake = refl
start_leaves image start.MakingMutex = refl
start_leaves image start.MakingPipe = refl
start_leaves image start.MakingChange = refl
start_leaves image start.OpeningItself = refl
start_leaves image (start.ResumingSignals process) = refl
start_leaves image (start.ResumingWatcher process) = refl
start_leaves image (start.Closing process) = refl
start_leaves image start.Done = refl
start_leaves image start.Rest = refl

get_leaves : (row : ℕ) (s : GetStep) → leaves_bytes (get_step_posted row s) ≡ true
get_leaves row get.Grouping = refl
get_leaves row (get.Parent parent) = refl
get_leaves row get.Done = refl
get_leaves row get.Rest = refl

wake_leaves : (x : Wake) → leaves_bytes (wake_posted x) ≡ true
wake_leaves wake.Setting = refl
wake_leaves (wake.Looking row) = refl
wake_leaves (wake.Opening image) = refl
wake_leaves (wake.Copying process) = refl
wake_leaves (wake.Putting process pipe) = refl
wake_leaves (wake.ClosingPipe process pipe) = refl
wake_leaves (wake.Closing process) = refl
wake_leaves wake.Done = refl
wake_leaves wake.Rest = refl

post_step_leaves : (row : ℕ) (s : PostStep) → leaves_bytes (post_step_posted row s) ≡ true
post_step_leaves row step.Looking = refl
post_step_leaves row (step.Trying old new continued) = refl
post_step_leaves row (step.Waking x continued) = wake_leaves x
post_step_leaves row step.Absent = refl
post_step_leaves row step.Died = refl
post_step_leaves row (step.Posted continued) = refl
post_step_leaves row step.Rest = refl

tell_leaves : (x : TellParent) → leaves_bytes (tell_posted x) ≡ true
tell_leaves (tell.Looking row by) = refl
tell_leaves (tell.Posting x) = post_step_leaves x.row x.step
tell_leaves tell.Done = refl
tell_leaves tell.Rest = refl

post_leaves : (x : Post) → leaves_bytes (post_posted x) ≡ true
post_leaves (post.Posting x) = post_step_leaves x.row x.step
post_leaves (post.Telling x) = tell_leaves x
post_leaves (post.Finished answer) = refl

kill_leaves : (target : ℕ) (s : KillStep) → leaves_bytes (kill_step_posted target s) ≡ true
kill_leaves target kill.Checking = refl
kill_leaves target (kill.Posting x) = post_leaves x
kill_leaves target (kill.Ending x) = post_leaves x
kill_leaves target kill.Done = refl
kill_leaves target kill.Rest = refl

hold_leaves : (x : Hold) → leaves_bytes (hold_posted x) ≡ true
hold_leaves hold.Waiting = refl
hold_leaves hold.Held = refl
hold_leaves hold.Rest = refl

let_leaves : (x : Let) → leaves_bytes (let_posted x) ≡ true
let_leaves release.Releasing = refl
let_leaves release.Released = refl
let_leaves release.Rest = refl

gather_leaves : (x : Gather) → leaves_bytes (gather_posted x) ≡ true
gather_leaves (gather.Looking row) = refl
gather_leaves (gather.Trying row old new) = refl
gather_leaves gather.Done = refl
gather_leaves gather.Rest = refl

exit_leaves : (row image : ℕ) (e : Ending) (s : ExitStep) → leaves_bytes (exit_step_posted row image e s) ≡ true
exit_leaves row image e (exit.Marking old) = refl
exit_leaves row image e exit.Looking = refl
exit_leaves row image e (exit.Sealing old new) = refl
exit_leaves row image e (exit.Holding x) = hold_leaves x
exit_leaves row image e (exit.Child place x) = gather_leaves x
exit_leaves row image e exit.Grouping = refl
exit_leaves row image e (exit.Parent parent) = refl
exit_leaves row image e (exit.Itself x) = gather_leaves x
exit_leaves row image e (exit.Letting x) = let_leaves x
exit_leaves row image e exit.Leaving = refl
exit_leaves row image e exit.Rest = refl

idle_leaves : (x : Idle) → leaves_bytes (idle_posted x) ≡ true
idle_leaves idle.Opening = refl
idle_leaves idle.Resting = refl

local_leaves : (x : Local) → (leaves_bytes (local_posted x) ≡ true) ⊎ (local_posted x ≡ call.Run)
local_leaves (local.Running row) = inr refl
local_leaves local.Done = inl refl
local_leaves local.Rest = inl refl

pub posted-bytes : (d : Doing) → (leaves_bytes (doing_posted d) ≡ true) ⊎ (doing_posted d ≡ call.Run)
posted-bytes (doing.Start x) = inl (start_leaves x.image x.step)
posted-bytes (doing.Look x) = inl refl
posted-bytes (doing.Local x) = local_leaves x
posted-bytes (doing.Gets x) = inl (get_leaves x.row x.step)
posted-bytes (doing.Kill x) = inl (kill_leaves x.target x.step)
posted-bytes (doing.Exit x) = inl (exit_leaves x.row x.image x.ending x.step)
posted-bytes (doing.Idle x) = inl (idle_leaves x)
