-- The end of a process comes to its last step.
use Rattle.std.specs.Prelude.{◌≡◌, ℕ, ◌+◌, ◌-◌, ◌*◌, ◌<◌, ◌≤◌, pos, Bool, true, false, ◌&&◌, not, nat_eq, nat_lt}
use Rattle.std.specs.Prelude.{length, Option, Some, None}
use Rattle.std.proofs.Common.{refl, sym, ap, ◌∙◌, arith}
use Rattle.std.proofs.lemmas.Bool.{cond_both, ltb-true}
use Rattle.w32_base.specs.declared.call.Reply.{Reply}
use Rattle.w32_base.specs.declared.call.Reply.TheVariants as reply
use Rattle.w32_base.specs.declared.event.Event.TheVariants as event
use Rattle.w32_base.specs.declared.own.Own.{Own}
use Rattle.w32_base.specs.Part.{may_keep_rank}
use Rattle.layer_spec.specs.HeapReads.{child_count_in, child_in}
use Rattle.layer_spec.specs.Rows.{GroupWord}
use Rattle.layer_spec.specs.Decoding.{group_of}
use Rattle.layer_spec.specs.Transitions.{Seal}
use Rattle.layer_spec.specs.Words.{row_of}
use Rattle.roster.specs.declared.hold.Hold.{Hold}
use Rattle.roster.specs.declared.hold.Hold.TheVariants as hold
use Rattle.roster.specs.declared.release.Let.{Let}
use Rattle.roster.specs.declared.release.Let.TheVariants as release
use Rattle.roster.specs.Turns.{Turn, quietly, Lowers, all_by_word}
use Rattle.roster.specs.Words.{is_live_word, changed_word}
use Rattle.roster.specs.Orphaned.{is_process_number}
use Rattle.roster.specs.Mutex.{hold_posted, let_after, let_rank}
use Rattle.roster.specs.MutexLaws.{let_lowers}
use Rattle.child_watch.specs.declared.collect.Gather.{Gather}
use Rattle.child_watch.specs.declared.collect.Gather.TheVariants as gather
use Rattle.child_watch.specs.declared.ending.Ending.{Ending}
use Rattle.child_watch.specs.declared.exiting.ExitStep.{ExitStep}
use Rattle.child_watch.specs.declared.exiting.ExitStep.TheVariants as exit
use Rattle.child_watch.specs.declared.exiting.Exiting.{Exiting}
use Rattle.child_watch.specs.Collect.{gather_after, gather_rank}
use Rattle.child_watch.specs.CollectLaws.{gather_lowers}
use Rattle.child_watch.specs.Ending.{status_of, death_of}
use Rattle.child_watch.specs.Exiting.{exit_step_posted, exit_posted, is_listed, row_if, exit_marked}
use Rattle.child_watch.specs.Exiting.{exit_seals, exit_looked, exit_sealed, exit_child, exit_children}
use Rattle.child_watch.specs.Exiting.{exit_gathers, exit_grouped, exit_parent, exit_itself, exit_lets}
use Rattle.child_watch.specs.Exiting.{exit_step_after}
use Rattle.child_watch.specs.Exiting.{exit_after, exit_step_rank, exit_rank}

-- what is asked of a turn of a step of this rank
abbrev FallsFrom : (row image : ℕ) → Ending → ExitStep → Reply → Turn ExitStep → Type 0
FallsFrom row image e s r t =
    may_keep_rank (exit_step_posted row image e s) r t.event ≡ false → exit_step_rank t.part < exit_step_rank s

seals_rank : (old : ℕ) (o : Option ℕ) → exit_step_rank (exit_seals old o) < 202
seals_rank old (Some new) = omega arith
seals_rank old None = omega arith

-- a listed child stands at one of 32 places
and_right : (a b c : Bool) → (a && (b && c)) ≡ true → b ≡ true
and_right true true c e = refl
and_right true false c e = cc
and_right false b c e = cc

child_rank : (place : ℕ) (o : Option ℕ) → exit_step_rank (exit_child place o) ≤ 5 * (32 - place) + 15
child_rank place (Some row) = omega arith
child_rank place None = omega arith

-- the child that is looked at next has a lower rank than the one before it
next_child_rank : (place : ℕ) (o : Option ℕ) → place + 1 < 32
    → exit_step_rank (exit_child (place + 1) o) ≤ 5 * (32 - place) + 11
next_child_rank place (Some row) within = omega arith
next_child_rank place None within = omega arith

next_rank : (own : Own) (place : ℕ) → exit_step_rank (exit_children own (place + 1)) ≤ 5 * (32 - place) + 11
next_rank own place =
    cond_both (is_listed own.cyg (place + 1)) (row_if (child_in own.cyg (place + 1)).number) None
    (λ o. exit_step_rank (exit_child (place + 1) o) ≤ 5 * (32 - place) + 11)
    (λ listed. next_child_rank place (row_if (child_in own.cyg (place + 1)).number)
    (ltb-true (place + 1) 32
    (and_right (nat_eq (length own.cyg) 288) (nat_lt (place + 1) 32) (nat_lt (place + 1) (child_count_in own.cyg))
    listed)))
    (λ _. omega arith)

gathers_rank : (own : Own) (place : ℕ) (x y : Gather) → gather_rank y < gather_rank x
    → exit_step_rank (exit_gathers own place y) < exit_step_rank (exit.Child place x)
gathers_rank own place x gather.Done lower = omega (arith, next_rank own place)
gathers_rank own place x (gather.Looking row) lower = omega arith
gathers_rank own place x (gather.Trying row old new) lower = omega arith
gathers_rank own place x gather.Rest lower = omega arith

itself_rank : (x y : Gather) → gather_rank y < gather_rank x
    → exit_step_rank (exit_itself y) < exit_step_rank (exit.Itself x)
itself_rank x gather.Done lower = omega arith
itself_rank x (gather.Looking row) lower = omega arith
itself_rank x (gather.Trying row old new) lower = omega arith
itself_rank x gather.Rest lower = omega arith

lets_rank : (x y : Let) → let_rank y < let_rank x → exit_step_rank (exit_lets y) < exit_step_rank (exit.Letting x)
lets_rank x release.Released lower = omega arith
lets_rank x release.Releasing lower = omega arith
lets_rank x release.Rest lower = omega arith

grouped_rank : (row : ℕ) (o : Option GroupWord) → exit_step_rank (exit_grouped row o) < 11
grouped_rank row None = omega arith
grouped_rank row (Some g) =
    cond_both (is_process_number g.parent) (exit.Parent (row_of g.parent)) (exit.Itself (gather.Looking row))
    (λ x. exit_step_rank x < 11) (λ _. omega arith) (λ _. omega arith)

-- a taking of the mutex posts a wait in each of its steps
hold_waits : (x : Hold) (r : Reply) → may_keep_rank (hold_posted x) r None ≡ true
hold_waits hold.Waiting r = refl
hold_waits hold.Held r = refl
hold_waits hold.Rest r = refl

step_lowers : (row image : ℕ) (e : Ending) (s : ExitStep) (own : Own) (r : Reply)
    → FallsFrom row image e s r (exit_step_after row e s own r)
step_lowers row image e (exit.Marking old) own r =
    all_by_word (λ t r. FallsFrom row image e (exit.Marking old) r t) (quietly exit.Rest)
    (λ w. quietly (exit_marked old w)) (λ r _. omega arith)
    (λ w. cond_both (nat_eq w old) exit.Looking (exit.Marking w)
    (λ x. FallsFrom row image e (exit.Marking old) (reply.Word w) (quietly x)) (λ _ _. omega arith)
    (λ other keeps. absurd (let never : true ≡ false = ap not (sym other) ∙ keeps in cc))) r
step_lowers row image e exit.Looking own r =
    all_by_word (λ t r. FallsFrom row image e exit.Looking r t) (quietly exit.Rest) (λ w. quietly (exit_looked e w))
    (λ r _. omega arith) (λ w _. seals_rank w (changed_word (Seal (status_of e)) w)) r
step_lowers row image e (exit.Sealing old new) own r =
    all_by_word (λ t r. FallsFrom row image e (exit.Sealing old new) r t) (quietly exit.Rest) (exit_sealed row e old)
    (λ r _. omega arith)
    (λ w. cond_both (nat_eq w old)
    (record { part = exit.Holding hold.Waiting; event = Some (event.Die (row + 1) (pos (status_of e)) (death_of e)) })
    (quietly (exit_looked e w)) (λ t. FallsFrom row image e (exit.Sealing old new) (reply.Word w) t)
    (λ same keeps. absurd (let never : true ≡ false = keeps in cc))
    (λ other keeps. absurd (let never : true ≡ false = ap not (sym other) ∙ keeps in cc))) r
step_lowers row image e (exit.Holding x) own r =
    λ keeps. absurd (let never : true ≡ false = sym (hold_waits x r) ∙ keeps in cc)
step_lowers row image e (exit.Child place x) own r =
    λ keeps. gathers_rank own place x (gather_after x r).part (gather_lowers x r keeps)
step_lowers row image e exit.Grouping own r =
    all_by_word (λ t r. FallsFrom row image e exit.Grouping r t) (quietly exit.Rest)
    (λ w. quietly (exit_grouped row (group_of w))) (λ r _. omega arith) (λ w _. grouped_rank row (group_of w)) r
step_lowers row image e (exit.Parent parent) own r =
    all_by_word (λ t r. FallsFrom row image e (exit.Parent parent) r t) (quietly exit.Rest)
    (λ w. quietly (exit_parent row w)) (λ r _. omega arith)
    (λ w. cond_both (is_live_word w) (exit.Letting release.Releasing) (exit.Itself (gather.Looking row))
    (λ x. FallsFrom row image e (exit.Parent parent) (reply.Word w) (quietly x)) (λ _ _. omega arith)
    (λ _ _. omega arith)) r
step_lowers row image e (exit.Itself x) own r =
    λ keeps. itself_rank x (gather_after x r).part (gather_lowers x r keeps)
step_lowers row image e (exit.Letting x) own r = λ keeps. lets_rank x (let_after x r) (let_lowers x r keeps)
step_lowers row image e exit.Leaving own r = λ _. omega arith
step_lowers row image e exit.Rest own r = λ keeps. absurd (let never : true ≡ false = keeps in cc)

-- each turn lowers the rank, unless a compare-exchange found another word
pub exit_lowers : (p : Exiting) (own : Own) (r : Reply) → Lowers exit_rank exit_posted p r (exit_after p own r)
exit_lowers p own r = step_lowers p.row p.image p.ending p.step own r
