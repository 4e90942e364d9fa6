-- The laws of the part of a thread.
use Rattle.std.proofs.Common.{◌≡◌, ◌≢◌, ℕ, ◌<◌, Bool, true, false, ◌||◌, refl, sym, ap, ◌∙◌, subst, arith}
use Rattle.w32_base.specs.declared.call.Call.TheVariants.{Load}
use Rattle.w32_base.specs.declared.call.Reply.{Reply}
use Rattle.w32_base.specs.declared.own.Own.{Own}
use Rattle.w32_base.specs.declared.part.After.{After}
use Rattle.w32_base.specs.Part.{may_keep_rank, is_wait, is_lost_exchange, KeepsLengths, KeepsImage, with_image_of}
use Rattle.machine_bench.specs.declared.worker.Step.{Step}
use Rattle.machine_bench.specs.declared.worker.Step.TheVariants as step
use Rattle.machine_bench.specs.declared.worker.Worker.{Worker}
use Rattle.machine_bench.specs.Worker.{rank_at, worker_rank, posted_at, worker_posted, is_main, next_at, TellsAt}
use Rattle.machine_bench.specs.Worker.{WorkerGoes}

lowers_at : (s : Step) (main : Bool) (r : Reply) (a : After) → TellsAt s a.event
    → may_keep_rank (posted_at s) r a.event ≡ false → rank_at (next_at main s) < rank_at s
lowers_at step.Loading true r a told keeps = omega arith
lowers_at step.Loading false r a told keeps = omega arith
lowers_at step.Setting main r a told keeps =
    let never : true ≡ false =
    ap (λ b. (b || is_wait (posted_at step.Setting)) || is_lost_exchange (posted_at step.Setting) r) (sym told)
    ∙ keeps in
    absurd (cc)
lowers_at step.Waiting main r a told keeps =
    let never : true ≡ false = ap (λ e. may_keep_rank (posted_at step.Waiting) r e) (sym told) ∙ keeps in
    absurd (cc)

pub worker_lowers : (p q : Worker) (o n : Own) (r : Reply) (a : After) → WorkerGoes p o q n a
    → may_keep_rank (worker_posted p) r a.event ≡ false → worker_rank q < worker_rank p
worker_lowers p q o n r a g keeps =
    subst (λ x. worker_rank x < worker_rank p) (sym g.part) (lowers_at p.step (is_main p) r a g.told keeps)

pub worker_keeps : (p q : Worker) (o n : Own) (a : After) → WorkerGoes p o q n a → KeepsLengths o n
worker_keeps p q o n a g = g.lengths

pub worker_is_never_done : (p : Worker) → 0 < worker_rank p
worker_is_never_done p = positive p.step
  where
    positive : (s : Step) → 0 < rank_at s
    positive step.Loading = omega arith
    positive step.Setting = omega arith
    positive step.Waiting = omega arith

abbrev worker_of : ℕ → ℕ → Step → Worker
worker_of slot thread at = record { slot = slot; thread = thread; step = at }

pub worker_is_one : (p q : Worker) → p.step ≡ step.Loading → q.step ≡ step.Loading → p.slot ≡ q.slot
    → p.thread ≡ q.thread → p ≡ q
worker_is_one p q loads begins slot thread =
    ap (λ x. worker_of x p.thread p.step) slot ∙ ap (λ x. worker_of q.slot x p.step) thread
    ∙ ap (λ x. worker_of q.slot q.thread x) (loads ∙ sym begins)

pub worker_begins : (p : Worker) → p.step ≡ step.Loading → worker_posted p ≡ Load 1 0
worker_begins p e = ap posted_at e

pub worker_stays : (p q : Worker) (o n : Own) (a : After) → WorkerGoes p o q n a
    → (q.slot ≡ p.slot) × (q.thread ≡ p.thread)
worker_stays p q o n a g = (ap (λ (x : Worker). x.slot) g.part, ap (λ (x : Worker). x.thread) g.part)

pub worker_keeps_image : (p q : Worker) (o n : Own) (a : After) → p.thread ≢ 0 → WorkerGoes p o q n a → KeepsImage o n
worker_keeps_image p q o n a other g =
    subst (KeepsImage o) (sym (g.still other)) (record { dat = refl; heap = refl; stack = refl })

pub worker_ignores_image : (p q : Worker) (o n x : Own) (a : After) → p.thread ≢ 0 → WorkerGoes p o q n a
    → WorkerGoes p (with_image_of o x) q (with_image_of n x) a
worker_ignores_image p q o n x a other g =
    let same : with_image_of n x ≡ with_image_of o x = ap (λ y. with_image_of y x) (g.still other) in
    record {
      part = g.part;
      told = g.told;
      lengths = subst (KeepsLengths (with_image_of o x)) (sym same)
          (record { dat = refl; heap = refl; stack = refl; cyg = refl; scratch = refl });
      still = λ _. same;
    }
