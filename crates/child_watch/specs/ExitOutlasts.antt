-- The clause of the end of a process outlasts each step beside its main thread.
use Rattle.std.proofs.Common.{◌≡◌, ◌≢◌, ◌⊎◌, inl, inr, ℕ, ◌+◌, ◌≤◌, Bool, true, false, [], ◌∷◌}
use Rattle.std.proofs.Common.{Option}
use Rattle.std.proofs.Common.{Some, None, MatchOption, refl, sym, ap, ◌∙◌, subst, arith}
use Rattle.std.proofs.lemmas.Bool.{cases_eq}
use Rattle.w32_base.specs.declared.entry.Directive.{Directive}
use Rattle.w32_base.specs.declared.entry.Directive.TheVariants as directive
use Rattle.w32_base.specs.declared.event.Event.{Event}
use Rattle.w32_base.specs.declared.own.Own.{Own}
use Rattle.script_spec.specs.declared.script.Script.{Script}
use Rattle.vm_spec.specs.Step.{upcoming}
use Rattle.win32_spec.specs.Facts.{IsTurnOf, IsTurnOfThread}
use Rattle.win32_spec.specs.FormedLaws.{live_found}
use Rattle.win32_spec.specs.Lookup.{process_of, memory_of, memory_by, number_in}
use Rattle.win32_spec.specs.MemoryEffects.{HaveRegisters}
use Rattle.win32_spec.specs.StableFacts.{bytes-stay}
use Rattle.win32_spec.specs.State.{Win32State}
use Rattle.posix_spec.specs.Conditions.{code_of}
use Rattle.posix_spec.specs.GoneLaws.{used_stays}
use Rattle.posix_spec.specs.Run.{PosixStep}
use Rattle.posix_spec.specs.State.{PosixState}
use Rattle.layer_spec.specs.Decoding.{main_image, group_of}
use Rattle.layer_spec.specs.Moment.{HistoryStep, SomeSeen, seen_with}
use Rattle.layer_spec.specs.Turns.{is_live_process}
use Rattle.layer_spec.specs.Words.{row_of, main_at}
use Rattle.roster.specs.Roster.{RosterStays}
use Rattle.roster.specs.Words.{is_live_word}
use Rattle.world_spec.specs.ExitLaws.{unmarked-stays}
use Rattle.world_spec.specs.FirstLaws.{status-stays}
use Rattle.world_spec.specs.Made.{NamedThen}
use Rattle.world_spec.specs.MutexBeside.{holds-stays}
use Rattle.world_spec.specs.NotesBeside.{record-stays}
use Rattle.world_spec.specs.ParentStays.{parent-stays}
use Rattle.world_spec.specs.RowsBesideLaws.{own-row-stays, own-exit-stays, roster-stays}
use Rattle.world_spec.specs.SeenStep.{IsSeenStep, IsBeside}
use Rattle.child_watch.specs.declared.collect.Gather.{Gather}
use Rattle.child_watch.specs.declared.collect.Gather.TheVariants as gather
use Rattle.child_watch.specs.declared.ending.Ending.{Ending}
use Rattle.child_watch.specs.declared.exiting.ExitStep.{ExitStep}
use Rattle.child_watch.specs.declared.exiting.ExitStep.TheVariants as exit
use Rattle.child_watch.specs.declared.exiting.Exiting.{Exiting}
use Rattle.child_watch.specs.Ending.{status_of}
use Rattle.child_watch.specs.Exiting.{listed_child}
use Rattle.child_watch.specs.ExitChildren.{listed-same}
use Rattle.child_watch.specs.ExitClause.{EndsAt, IsToEnd, HasParent, HasDied, IsOrphan, HasParentRow}
use Rattle.child_watch.specs.ExitClause.{GatherClause}
use Rattle.child_watch.specs.ExitClause.{HoldsDead, ExitStepClause, ExitClause}
use Rattle.child_watch.specs.ExitEnded.{ended-by-table}

-- the rows of orphans and of parents, while the roster stays
module _ (s new : Win32State) (stays : RosterStays s new) where
  orphan_stays : (row : ℕ) → IsOrphan s row → IsOrphan new row
  orphan_stays row h = record {
    from = h.from;
    parent = λ is g group low.
        let was = sym (stays.processes row h.from) ∙ is in
        let same = stays.groups row h.from was in
        stays.deaths (row_of g.parent) (omega (arith, low)) (h.parent was g (ap group_of (sym same) ∙ group) low);
  }

  parent_stays : (row parent : ℕ) → 1 ≤ row → HasParentRow s row parent → HasParentRow new row parent
  parent_stays row parent from h is g group =
      let was = sym (stays.processes row from) ∙ is in
      h was g (ap group_of (sym (stays.groups row from was)) ∙ group)

  gather_stays : (x : Gather) → GatherClause s x → GatherClause new x
  gather_stays (gather.Looking row) h = orphan_stays row h
  gather_stays (gather.Trying row old n) h = (orphan_stays row h.0, h.1)
  gather_stays gather.Done h = tt
  gather_stays gather.Rest h = tt

module _ {A : Type 0} (script : Script) (registers : HaveRegisters script) (step : HistoryStep A)
    (seen : IsSeenStep script step) (w : ℕ) (beside : IsBeside step w 0)
    (alive : is_live_process step.before.win32 w ≡ true) (lives : is_live_process step.after.win32 w ≡ true) where
  -- Before the seal.
  to_end : (row image : ℕ) (e : Ending) → IsToEnd script step.before w row image e
      → IsToEnd script step.after w row image e
  to_end row image e h =
      let r = record-stays script step seen w row beside alive h.at.own h.at.noted h.at.found in
      record {
        names = h.names;
        next = h.next;
        at = record {
          own = own-row-stays script step seen w row beside alive h.at.own;
          noted = r.0;
          found = r.1;
          call = r.2.call ∙ h.at.call;
          blocked = r.2.blocked ∙ h.at.blocked;
          runs = r.2.runs h.at.runs;
          not_due = r.2.not_due h.at.not_due;
          next_is = ap (λ i. upcoming (code_of script i) i) r.2.image ∙ h.at.next_is;
        };
        ends = subst (EndsAt e h.next) (sym r.2.image) h.ends;
      }

  -- what holds of a POSIX state, and stays through an event, holds after the step
  posix_stays : (Q : PosixState → Type 0) → ((e : Event) → PosixStep script step.before.posix e step.after.posix
      → Q step.after.posix) → Q step.before.posix → Q step.after.posix
  posix_stays Q moves h = by_event step.entry.event seen.shows.posix
    where
      by_event : (o : Option Event) → MatchOption o (step.after.posix ≡ step.before.posix)
          (λ told. PosixStep script step.before.posix told step.after.posix) → Q step.after.posix
      by_event None same = subst Q (sym same) h
      by_event (Some e) moved = moves e moved

  -- the children in the own cygheap are the same
  children_same : (row : ℕ) (e : Ending) → HasDied step.past step.before w row e → (place : ℕ)
      → listed_child (memory_by step.after.win32 w).cyg place ≡ listed_child (memory_by step.before.win32 w).cyg place
  children_same row e h place = elim beside [
    | inl apart ↦ by_directive apart step.entry.directive refl
    | inr idle ↦ ap (λ s. let m : Own = memory_by s w in listed_child m.cyg place) idle.win32
  ]
    where
      same_bytes : (IsTurnOf step.before.win32 step.entry.directive w → ⊥)
          → listed_child (memory_by step.after.win32 w).cyg place ≡ listed_child
          (memory_by step.before.win32 w).cyg place
      same_bytes apart =
          let p = live_found (process_of step.before.win32.processes w) alive in
          let q = live_found (process_of step.after.win32.processes w) lives in
          let same = bytes-stay script step.before.win32 step.entry.directive step.entry.call step.entry.outcome
          step.after.win32 registers seen.before.formed seen.win32 w p.0 q.0 p.1 q.1 q.2 apart
          (λ written. let m = seen.shows.facts.processes.writes w written in m.never h.named) in
          ap (λ (m : Own). listed_child m.cyg place) (ap memory_of q.1 ∙ (same ∙ sym (ap memory_of p.1)))

      by_directive : (IsTurnOfThread step.before.win32 step.entry.directive w 0 → ⊥) → (d : Directive)
          → step.entry.directive ≡ d
          → listed_child (memory_by step.after.win32 w).cyg place ≡ listed_child
          (memory_by step.before.win32 w).cyg place
      by_directive apart (directive.Turn slot t) d = by_number (number_in step.before.win32 slot) refl
        where
          by_number : (o : Option ℕ) → number_in step.before.win32 slot ≡ o
              → listed_child (memory_by step.after.win32 w).cyg place
              ≡ listed_child (memory_by step.before.win32 w).cyg place
          by_number None n = same_bytes (λ acts.
              let at : number_in step.before.win32 slot ≡ Some w =
              subst (λ x. IsTurnOf step.before.win32 x w) d acts in
              absurd (let f : None ≡ Some w = sym n ∙ at in cc))
          by_number (Some v) n = elim (cases_eq v w) [
            | inl same ↦ elim (cases_eq t 0) [
              | inl main ↦ absurd (apart (subst (λ x. IsTurnOfThread step.before.win32 x w 0) (sym d)
                  (n ∙ ap (λ k. Some k) same, main)))
              | inr other ↦ listed-same (memory_by step.before.win32 w) (memory_by step.after.win32 w)
                  (seen.shows.facts.processes.children w t
                  (subst (λ x. IsTurnOfThread step.before.win32 x w t) (sym d) (n ∙ ap (λ k. Some k) same, refl)) other
                  lives) place
            ]
            | inr other ↦ same_bytes (λ acts.
                let at : number_in step.before.win32 slot ≡ Some w =
                subst (λ x. IsTurnOf step.before.win32 x w) d acts in
                let f : Some v ≡ Some w = sym n ∙ at in
                other (let g : v ≡ w = cc in g))
          ]
      by_directive apart (directive.End slot) d =
          same_bytes (λ acts. subst (λ x. IsTurnOf step.before.win32 x w) d acts)
      by_directive apart (directive.Key b) d =
          same_bytes (λ acts. subst (λ x. IsTurnOf step.before.win32 x w) d acts)

  -- After the seal.
  died : (row : ℕ) (e : Ending) → HasDied step.past step.before w row e → HasDied (seen_with step) step.after w row e
  died row e h = record {
    from = h.from;
    ended = ended-by-table (main_at step.before.win32 row) (main_at step.after.win32 row) h.ended
        (seen.shows.facts.words.mains row h.from);
    small = h.small;
    first = λ two. posix_stays (λ s. s.first_status ≡ Some (status_of e))
        (λ x moved. status-stays script step.before.posix x step.after.posix (status_of e) seen.before.posix moved
        (h.first two))
        (h.first two);
    layer = h.layer;
    named = inr h.named;
    unnamed = λ r low live names. elim (cases_eq (main_image (main_at step.before.win32 r)) w) [
      | inl was ↦ by_test r low live names was (is_live_word (main_at step.before.win32 r)) refl
      | inr other ↦ named_again r low live names (inr (λ same. other (sym same ∙ names)))
    ];
    listed = λ place c there.
        let at = h.listed place c (sym (children_same row e h place) ∙ there) in
        posix_stays (λ s. HasParent s (row + 1) c)
        (λ x moved. record {
          from = at.from;
          used = used_stays script (c + 1) step.before.posix (x ∷ []) step.after.posix at.used
              (step.after.posix, moved, refl);
          parent_is = λ q is.
              let r = parent-stays script step.before.posix x step.after.posix moved (c + 1) at.used q is in
              r.2 ∙ at.parent_is r.0 r.1;
        }) at;
  }
    where
      named_again : (r : ℕ) → 1 ≤ r → is_live_word (main_at step.after.win32 r) ≡ true
          → main_image (main_at step.after.win32 r) ≡ w
          → (is_live_word (main_at step.before.win32 r) ≡ false)
          ⊎ (main_image (main_at step.after.win32 r) ≢ main_image (main_at step.before.win32 r)) → ⊥
      named_again r low live names other =
          let m = seen.shows.facts.words.names r low live other in
          m.turn.never (subst (λ k. SomeSeen (NamedThen k) step.past) (sym names) h.named)

      by_test : (r : ℕ) → 1 ≤ r → is_live_word (main_at step.after.win32 r) ≡ true
          → main_image (main_at step.after.win32 r) ≡ w → main_image (main_at step.before.win32 r) ≡ w
          → (b : Bool) → is_live_word (main_at step.before.win32 r) ≡ b → ⊥
      by_test r low live names was true l = h.unnamed r low l was
      by_test r low live names was false l = named_again r low live names (inl l)

  -- While it holds the mutex.
  stays : (row : ℕ) (e : Ending) → HoldsDead step.past step.before w row e
      → RosterStays step.before.win32 step.after.win32
  stays row e h = roster-stays script step seen w 0 beside h.holds

  holds : (row : ℕ) (e : Ending) → HoldsDead step.past step.before w row e
      → HoldsDead (seen_with step) step.after w row e
  holds row e h = record {
    died = died row e h.died;
    holds = holds-stays script registers step seen w 0 beside lives h.holds;
  }

  by_step : (row image : ℕ) (e : Ending) (s : ExitStep) → ExitStepClause script step.past step.before w row image e s
      → ExitStepClause script (seen_with step) step.after w row image e s
  by_step row image e (exit.Marking old) h =
      (to_end row image e h.0, unmarked-stays script step seen w row beside alive h.0.at.own h.1)
  by_step row image e exit.Looking h =
      (to_end row image e h.0, own-exit-stays script step seen w row beside h.0.at.own ∙ h.1)
  by_step row image e (exit.Sealing old n) h =
      (to_end row image e h.0, own-exit-stays script step seen w row beside h.0.at.own ∙ h.1, h.2)
  by_step row image e (exit.Holding x) h = died row e h
  by_step row image e (exit.Child place x) h =
      (holds row e h.0, gather_stays step.before.win32 step.after.win32 (stays row e h.0) x h.1)
  by_step row image e exit.Grouping h = holds row e h
  by_step row image e (exit.Parent parent) h =
      (holds row e h.0, parent_stays step.before.win32 step.after.win32 (stays row e h.0) row parent h.0.died.from h.1)
  by_step row image e (exit.Itself x) h =
      (holds row e h.0, gather_stays step.before.win32 step.after.win32 (stays row e h.0) x h.1)
  by_step row image e (exit.Letting x) h = died row e h
  by_step row image e exit.Leaving h = died row e h
  by_step row image e exit.Rest h = tt

  pub exit-outlasts : (p : Exiting) → ExitClause script step.past step.before w p
      → ExitClause script (seen_with step) step.after w p
  exit-outlasts p h = by_step p.row p.image p.ending p.step h
