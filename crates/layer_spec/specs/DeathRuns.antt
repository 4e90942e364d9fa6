-- Each process dies at most once, and is reaped at most once, with the status of its death: in every run of the POSIX
-- machine, and so in every history.
use Rattle.std.specs.Prelude.{◌≡◌, ◌≢◌, ◌⊎◌, ℕ, ◌≤◌, ℤ, pos, negsuc, Bool, true, false, cond, ◌&&◌, ◌||◌, not, nat_eq}
use Rattle.std.specs.Prelude.{nat_lt, nat_le, ◌+◌, List, [], ◌∷◌, ◌++◌, length, flat_map, slice_get, Option, Some, None}
use Rattle.std.specs.Option.{unwrap_or}
use Rattle.std.specs.Ordering.{nat_cmp}
use Rattle.std.specs.Cmp.{nat_cmp_total, unsigned_tied}
use Rattle.std.specs.FinMap as map
use Rattle.std.specs.FinSet as set
use Rattle.std.proofs.Common.{refl, sym, ap, subst, ◌∙◌, inl, inr}
use Rattle.std.proofs.lemmas.Bool.{eqb-true, eq-eqb, ne_eqb, and_parts, false≢true}
use Rattle.std.proofs.lemmas.Bool.Decides.{eqb_tells}
use Rattle.std.proofs.lemmas.Option.{none-some}
use Rattle.std.proofs.lemmas.List.{append_assoc}
use Rattle.w32_base.specs.declared.call.Call.{Call}
use Rattle.w32_base.specs.declared.call.Reply.{Reply}
use Rattle.w32_base.specs.declared.event.Death.{Death}
use Rattle.w32_base.specs.declared.event.Event.{Event}
use Rattle.w32_base.specs.declared.event.Event.TheVariants as event
use Rattle.w32_base.specs.declared.instr.Instr.{Instr}
use Rattle.w32_base.specs.declared.instr.Instr.TheVariants as instr
use Rattle.w32_base.specs.declared.own.Own.{Own}
use Rattle.w32_base.specs.declared.part.After.{After}
use Rattle.w32_base.specs.declared.setup.Setup.{Setup}
use Rattle.script_spec.specs.declared.script.Script.{Script}
use Rattle.posix_spec.specs.Numbers.{for_value, natural_of, is_optional_number}
use Rattle.posix_spec.specs.State.{Life, Running, Stopped, Zombie, Record, PosixState, record_of, opening_record}
use Rattle.posix_spec.specs.Records.{settled, with_record, without_record, children, is_live_at}
use Rattle.posix_spec.specs.Conditions.{own_call, with_results, answered, answered_both}
use Rattle.posix_spec.specs.Waits.{Wait, wait_of, is_match, death_to_report}
use Rattle.posix_spec.specs.WaitSteps.{is_reaped, reap_by, reap_step}
use Rattle.posix_spec.specs.DeathSteps.{may_die, died, die_step, is_zombie, collect_step}
use Rattle.posix_spec.specs.ForkSteps.{most_children, is_fresh, child_of, with_used, fork_step}
use Rattle.posix_spec.specs.Opening.{opening_of, first_image}
use Rattle.posix_spec.specs.Run.{PosixStep, PosixRun}
use Rattle.posix_spec.specs.Step.{posix_step}
use Rattle.layer_spec.specs.Moment.{Moment, Seen, events_of}
use Rattle.layer_spec.specs.History.{IsHistory}
use Rattle.layer_spec.specs.HistoryLaws.{history_is_posix_run}
use Rattle.layer_spec.specs.Consequences.{ReapedOnce, death_status, reaped_status, status_of_child}
use Rattle.posix_spec.specs.RecordLaws.{record_of-with_record, record_of-without_record}
use Rattle.layer_spec.specs.FateLaws.{fate_in, fate_of, KeepsFates, same_fates, change_keeps, for_value_some, guarded}
use Rattle.layer_spec.specs.FateEvents.{event_keeps}
use Rattle.layer_spec.specs.DeathLaws.{is_used, Standing, StandsAt, standing_means, kept, dying_lives, natural_is}
use Rattle.layer_spec.specs.DeathLaws.{fate_cond, fates_of_died, used_of_died, die_case, reap_case, collect_case}
use Rattle.layer_spec.specs.DeathLaws.{fork_case}

turned_by : (a b : ℕ) → ((nat_eq a b ≡ true) × (a ≡ b)) ⊎ ((nat_eq a b ≡ false) × (a ≢ b)) → nat_eq a b ≡ nat_eq b a
turned_by a b (inl t) = t.0 ∙ sym (eq-eqb b a (sym t.1))
turned_by a b (inr t) = t.0 ∙ sym (ne_eqb b a (λ same. t.1 (sym same)))

eqb_turned : (a b : ℕ) → nat_eq a b ≡ nat_eq b a
eqb_turned a b = turned_by a b (eqb_tells a b)

die_stands : (script : Script) (s new : PosixState) (p c : ℕ) (v : ℤ) (cause : Death) (ds rs : List ℤ)
    → PosixStep script s (event.Die p v cause) new → StandsAt s c ds rs
    → StandsAt new c (ds ++ death_status c (event.Die p v cause)) (rs ++ [])
unfolding posix_step
die_stands script s new p c v cause ds rs e h =
    let n = for_value_some (natural_of v) (λ n. for_value (record_of s p) (die_step script s p cause n)) new e in
    let r = for_value_some (record_of s p) (die_step script s p cause n.0) new n.2 in
    let may = guarded (may_die script r.0 n.0 cause) (Some (died s p n.0 r.0.parent)) new r.2 in
    let end : PosixState = died s p n.0 r.0.parent in
    let more : ℤ → List ℤ = λ w. ds ++ cond (nat_eq p c) (w ∷ []) [] in
    let done : end ≡ new = ap (λ o. unwrap_or o new) may.1 in
    let lives : (nat_eq p c ≡ true) → fate_of s c ≡ Some None = λ same.
    ap (λ q. fate_of s q) (sym (eqb-true p c same))
    ∙ (ap fate_in r.1 ∙ ap Some (dying_lives script r.0 n.0 cause may.0)) in
    let fates : fate_of end c ≡ cond (nat_eq p c) (Some (Some n.0)) (fate_of s c) =
    fates_of_died s p n.0 r.0 c r.1 ∙ ap (λ b. cond b (Some (Some n.0)) (fate_of s c)) (eqb_turned c p) in
    let stands : Standing (fate_of end c) (is_used s c) (more (pos n.0)) (rs ++ []) =
    die_case (nat_eq p c) (fate_of s c) (fate_of end c) (is_used s c) n.0 ds rs fates lives h in
    let used : is_used s c ≡ is_used end c =
    ap (λ u. set.contains u c) (sym (used_of_died s p n.0 r.0 r.1)) in
    let there : StandsAt end c (more (pos n.0)) (rs ++ []) =
    subst (λ u. Standing (fate_of end c) u (more (pos n.0)) (rs ++ [])) {x = is_used s c} used stands in
    subst (λ t. StandsAt t c (more v) (rs ++ [])) {x = end} done
    (subst (λ w. StandsAt end c (more w) (rs ++ [])) {x = pos n.0} (sym (natural_is v n.0 n.1)) there)

status_of_death : (v : ℤ) (d : Option ℕ) → is_optional_number v d ≡ true
    → (w : ℕ) × (Some d ≡ Some (Some w)) × (v ≡ pos w)
status_of_death v None e = absurd (false≢true e)
status_of_death (pos m) (Some w) e = (w, refl, ap pos (eqb-true m w e))
status_of_death (negsuc m) (Some w) e = absurd (false≢true e)

-- the fates where one process is taken away
gone_fates : (s end : PosixState) (n c : ℕ) → KeepsFates (without_record s n) end
    → fate_of end c ≡ cond (nat_eq n c) None (fate_of s c)
gone_fates s end n c keeps =
    keeps.fates c ∙ (ap fate_in (record_of-without_record s n c) ∙ (fate_cond (nat_eq c n) None (record_of s c)
    ∙ ap (λ b. cond b None (fate_of s c)) (eqb_turned c n)))

-- the zombie that is reaped, and its status
reaped_zombie : (wait : Wait) (n : ℕ) (v : ℤ) (o : Option Record) → is_reaped wait n v o ≡ true
    → (w : ℕ) × (fate_in o ≡ Some (Some w)) × (v ≡ pos w)
reaped_zombie wait n v None e = absurd (false≢true e)
reaped_zombie wait n v (Some child) e =
    let died : Option ℕ = death_to_report child.life in
    status_of_death v died (and_parts (is_match wait n child) (is_optional_number v died) e).1

reap_stands : (script : Script) (s new : PosixState) (p c : ℕ) (q v : ℤ) (ds rs : List ℤ)
    → PosixStep script s (event.Reap p q v) new → StandsAt s c ds rs
    → StandsAt new c (ds ++ []) (rs ++ status_of_child q v c)
unfolding posix_step
reap_stands script s new p c q v ds rs e h =
    let n = for_value_some (natural_of q)
    (λ n. for_value (record_of s p) (λ r. for_value (own_call script r) (reap_step s p v n r))) new e in
    let r = for_value_some (record_of s p) (λ r. for_value (own_call script r) (reap_step s p v n.0 r)) new n.2 in
    let i = for_value_some (own_call script r.0) (reap_step s p v n.0 r.0) new r.2 in
    let wait = for_value_some (wait_of p r.0 i.0) (reap_by s p n.0 v) new i.2 in
    let mid : PosixState = without_record s n.0 in
    let end : PosixState = answered_both mid p (pos n.0) v in
    let was = guarded (is_reaped wait.0 n.0 v (record_of s n.0)) (Some end) new wait.2 in
    let done : end ≡ new = ap (λ o. unwrap_or o new) was.1 in
    let zombie : (w : ℕ) × (fate_of s n.0 ≡ Some (Some w)) × (v ≡ pos w) =
    reaped_zombie wait.0 n.0 v (record_of s n.0) was.0 in
    let keeps : KeepsFates mid end = change_keeps mid p (with_results (pos n.0) (Some v)) (λ r _. refl) in
    let fates : fate_of end c ≡ cond (nat_eq n.0 c) None (fate_of s c) = gone_fates s end n.0 c keeps in
    let more : ℤ → List ℤ = λ w. rs ++ cond (nat_eq n.0 c) (w ∷ []) [] in
    let at : nat_eq n.0 c ≡ true → fate_of s c ≡ Some (Some zombie.0) =
    λ same. ap (fate_of s) (sym (eqb-true n.0 c same)) ∙ zombie.1 in
    let stands : Standing (fate_of end c) (is_used s c) (ds ++ []) (more (pos zombie.0)) =
    reap_case (nat_eq n.0 c) (fate_of s c) (fate_of end c) (is_used s c) zombie.0 ds rs fates at h in
    let used : is_used s c ≡ is_used end c = ap (λ u. set.contains u c) (sym keeps.used) in
    let there : StandsAt end c (ds ++ []) (more (pos zombie.0)) =
    subst (λ u. Standing (fate_of end c) u (ds ++ []) (more (pos zombie.0))) {x = is_used s c} used stands in
    let status : StandsAt end c (ds ++ []) (rs ++ status_of_child (pos n.0) v c) =
    subst (λ w. StandsAt end c (ds ++ []) (more w)) {x = pos zombie.0} (sym zombie.2) there in
    subst (λ t. StandsAt t c (ds ++ []) (rs ++ status_of_child q v c)) {x = end} done
    (subst (λ w. StandsAt end c (ds ++ []) (rs ++ status_of_child w v c)) {x = pos n.0}
    (sym (natural_is q n.0 n.1)) status)

zombie_fate : (r : Record) (l : Life) → r.life ≡ l → is_zombie l ≡ true → (w : ℕ) × (death_to_report r.life ≡ Some w)
zombie_fate r Running is e = absurd (false≢true e)
zombie_fate r (Stopped signal) is e = absurd (false≢true e)
zombie_fate r (Zombie v) is e = (v, ap death_to_report is)

collect_stands : (script : Script) (s new : PosixState) (p c : ℕ) (ds rs : List ℤ)
    → PosixStep script s (event.Collect p) new → StandsAt s c ds rs → StandsAt new c (ds ++ []) (rs ++ [])
unfolding posix_step
collect_stands script s new p c ds rs e h =
    let r = for_value_some (record_of s p) (collect_step s p) new e in
    let test : Bool = is_zombie r.0.life && not (is_live_at (record_of s r.0.parent)) in
    let was = guarded test (Some (without_record s p)) new r.2 in
    let done : without_record s p ≡ new = ap (λ o. unwrap_or o new) was.1 in
    let zombie = zombie_fate r.0 r.0.life refl
    (and_parts (is_zombie r.0.life) (not (is_live_at (record_of s r.0.parent))) was.0).0 in
    let fates : fate_of (without_record s p) c ≡ cond (nat_eq p c) None (fate_of s c) =
    gone_fates s (without_record s p) p c (same_fates (without_record s p)) in
    let at : nat_eq p c ≡ true → fate_of s c ≡ Some (Some zombie.0) = λ same.
    ap (fate_of s) (sym (eqb-true p c same)) ∙ (ap fate_in r.1 ∙ ap Some zombie.1) in
    subst (λ t. StandsAt t c (ds ++ []) (rs ++ [])) done
    (collect_case (nat_eq p c) (fate_of s c) (fate_of (without_record s p) c) (is_used s c) zombie.0 ds rs fates at h)

not_so : (b : Bool) → not b ≡ true → b ≡ false
not_so true e = absurd (false≢true e)
not_so false e = refl

-- the fork of a fresh number
fresh_forked : (script : Script) (s : PosixState) (p n : ℕ) (r : Record) (i : Instr) (new : PosixState)
    → fork_step script s p n r i ≡ Some new
    → (is_used s n ≡ false) × (answered (with_used (with_record s n (child_of p r)) n) p (pos n) ≡ new)
fresh_forked script s p n r instr.Fork new e =
    let few : Bool = nat_lt (length (children s p)) most_children in
    let end : PosixState = answered (with_used (with_record s n (child_of p r)) n) p (pos n) in
    let was = guarded (few && is_fresh script s n) (Some end) new e in
    let fresh : is_fresh script s n ≡ true = (and_parts few (is_fresh script s n) was.0).1 in
    let above : Bool = nat_le n (script.setup.limits.rows + 1) in
    let ranged = and_parts (nat_le 2 n) (above && not (is_used s n)) fresh in
    let unused = (and_parts above (not (is_used s n)) ranged.1).1 in
    (not_so (is_used s n) unused, ap (λ o. unwrap_or o new) was.1)
fresh_forked script s p n r _ new e = absurd (none-some new e)

fork_stands : (script : Script) (s new : PosixState) (p c : ℕ) (q : ℤ) (ds rs : List ℤ)
    → PosixStep script s (event.Fork p q) new → StandsAt s c ds rs → StandsAt new c (ds ++ []) (rs ++ [])
unfolding posix_step
fork_stands script s new p c q ds rs e h =
    let n = for_value_some (natural_of q)
    (λ n. for_value (record_of s p) (λ r. for_value (own_call script r) (fork_step script s p n r))) new e in
    let r = for_value_some (record_of s p) (λ r. for_value (own_call script r) (fork_step script s p n.0 r)) new n.2 in
    let i = for_value_some (own_call script r.0) (fork_step script s p n.0 r.0) new r.2 in
    let child : Record = child_of p r.0 in
    let mid : PosixState = with_used (with_record s n.0 child) n.0 in
    let end : PosixState = answered mid p (pos n.0) in
    let done = fresh_forked script s p n.0 r.0 i.0 new i.2 in
    let keeps : KeepsFates mid end = change_keeps mid p (with_results (pos n.0) None) (λ r _. refl) in
    let fates : fate_of end c ≡ cond (nat_eq c n.0) (Some None) (fate_of s c) =
    keeps.fates c ∙ (ap fate_in (record_of-with_record s n.0 child c)
    ∙ fate_cond (nat_eq c n.0) (Some (settled child)) (record_of s c)) in
    let used : is_used end c ≡ (nat_eq c n.0 || is_used s c) =
    ap (λ u. set.contains u c) keeps.used ∙ (set.contains-insert nat_cmp_total s.used n.0 c
    ∙ ap (λ b. b || is_used s c) (unsigned_tied c n.0)) in
    let fresh : nat_eq c n.0 ≡ true → is_used s c ≡ false = λ same. ap (is_used s) (eqb-true c n.0 same) ∙ done.0 in
    subst (λ t. StandsAt t c (ds ++ []) (rs ++ [])) done.1
    (fork_case (nat_eq c n.0) (fate_of s c) (fate_of end c) (is_used s c) (is_used end c) ds rs fates used fresh h)

-- a step carries on what is known of each number
step_stands : (script : Script) (s : PosixState) (e : Event) (new : PosixState) (c : ℕ) (ds rs : List ℤ)
    → PosixStep script s e new → StandsAt s c ds rs
    → StandsAt new c (ds ++ death_status c e) (rs ++ reaped_status c e)
step_stands script s (event.Fork p q) new c ds rs step h = fork_stands script s new p c q ds rs step h
step_stands script s (event.Reap p q v) new c ds rs step h = reap_stands script s new p c q v ds rs step h
step_stands script s (event.Die p v cause) new c ds rs step h = die_stands script s new p c v cause ds rs step h
step_stands script s (event.Collect p) new c ds rs step h = collect_stands script s new p c ds rs step h
step_stands script s e new c ds rs step h =
    kept s new c ds rs (death_status c e) (reaped_status c e) (event_keeps script s e new refl step) refl refl h

-- and so does a run
run_stands : (script : Script) (s : PosixState) (es : List Event) (new : PosixState) (c : ℕ) (ds rs : List ℤ)
    → PosixRun script s es new → StandsAt s c ds rs
    → StandsAt new c (ds ++ flat_map (death_status c) es) (rs ++ flat_map (reaped_status c) es)
run_stands script s [] new c ds rs run h =
    subst (λ t. StandsAt t c (ds ++ []) (rs ++ [])) (sym run)
    (kept s s c ds rs [] [] (same_fates s) refl refl h)
run_stands script s (e ∷ es) new c ds rs run h =
    let first : StandsAt run.0 c (ds ++ death_status c e) (rs ++ reaped_status c e) =
    step_stands script s e run.0 c ds rs run.1 h in
    let rest = run_stands script run.0 es new c (ds ++ death_status c e) (rs ++ reaped_status c e) run.2 first in
    subst (λ x. StandsAt new c x (rs ++ (reaped_status c e ++ flat_map (reaped_status c) es)))
    (append_assoc ds (death_status c e) (flat_map (death_status c) es))
    (subst (λ x. StandsAt new c ((ds ++ death_status c e) ++ flat_map (death_status c) es) x)
    (append_assoc rs (reaped_status c e) (flat_map (reaped_status c) es)) rest)

-- in the opening state process 2 lives, and there is no other
opening_case : (b : Bool) (f : Option (Option ℕ)) (u : Bool) → f ≡ cond b (Some None) None → u ≡ (b || false)
    → Standing f u [] []
opening_case true f u fates used = subst (λ x. Standing x u [] []) (sym fates) (used, refl, refl)
opening_case false f u fates used =
    subst (λ x. Standing x u [] []) (sym fates) (subst (λ w. Standing None w [] []) (sym used) (refl, refl))

opening_fates : (script : Script) (c : ℕ) → fate_of (opening_of script) c ≡ cond (nat_eq c 2) (Some None) None
unfolding opening_record
opening_fates script c =
    let first : Record = opening_record (first_image (slice_get script.setup.programs 0)) in
    let none : Option Record = map.get (map.empty {X = Record} {R = nat_cmp}) c in
    ap fate_in (map.get-insert nat_cmp_total map.empty 2 first c)
    ∙ (ap (λ b. fate_in (cond b (Some first) none)) (unsigned_tied c 2)
    ∙ (ap (λ o. fate_in (cond (nat_eq c 2) (Some first) o)) (map.get-empty nat_cmp c)
    ∙ fate_cond (nat_eq c 2) (Some first) None))

opening_used : (script : Script) (c : ℕ) → is_used (opening_of script) c ≡ (nat_eq c 2 || false)
opening_used script c =
    let none : Bool = set.contains (set.empty {R = nat_cmp}) c in
    set.contains-insert nat_cmp_total set.empty 2 c
    ∙ (ap (λ b. b || none) (unsigned_tied c 2) ∙ ap (λ b. nat_eq c 2 || b) (set.contains-empty nat_cmp c))

opening_stands : (script : Script) (c : ℕ) → StandsAt (opening_of script) c [] []
opening_stands script c =
    opening_case (nat_eq c 2) (fate_of (opening_of script) c) (is_used (opening_of script) c) (opening_fates script c)
    (opening_used script c)

number_means : (script : Script) (es : List Event) (new : PosixState) (c : ℕ)
    → PosixRun script (opening_of script) es new → (length (flat_map (death_status c) es) ≤ 1)
    × ((flat_map (reaped_status c) es ≡ []) ⊎ (flat_map (reaped_status c) es ≡ flat_map (death_status c) es))
number_means script es new c run =
    standing_means (fate_of new c) (is_used new c) (flat_map (death_status c) es) (flat_map (reaped_status c) es)
    (run_stands script (opening_of script) es new c [] [] run (opening_stands script c))

pub run_reaps_once : (script : Script) (es : List Event) (new : PosixState) → PosixRun script (opening_of script) es new
    → ReapedOnce es
run_reaps_once script es new run = record {
  dies_once = λ c. (number_means script es new c run).0;
  reaped = λ c. (number_means script es new c run).1;
}

-- a number with a process is a used one
used_there : (d : Option ℕ) (u : Bool) (ds rs : List ℤ) → Standing (Some d) u ds rs → u ≡ true
used_there None u ds rs h = h.0
used_there (Some v) u ds rs h = h.0

pub run_uses_numbers : (script : Script) (es : List Event) (new : PosixState)
    → PosixRun script (opening_of script) es new → (p : ℕ) (r : Record) → record_of new p ≡ Some r
    → is_used new p ≡ true
run_uses_numbers script es new run p r is =
    let deaths : List ℤ = flat_map (death_status p) es in
    let reaped : List ℤ = flat_map (reaped_status p) es in
    used_there (death_to_report r.life) (is_used new p) deaths reaped
    (subst (λ f. Standing f (is_used new p) deaths reaped) (ap fate_in is)
    (run_stands script (opening_of script) es new p [] [] run (opening_stands script p)))

-- In a history no process dies or is reaped twice, and each is reaped with the status of its death.
module _ {A : Type 0} (posted_of : A → Call) (goes : A → Own → Setup → Reply → A → Own → After → Type 0)
    (opening : A → Type 0) (slot_of thread_of : A → ℕ) where
  pub history_reaps_once : (script : Script) (past : List (Seen A)) (now : Moment A)
      → IsHistory posted_of goes opening slot_of thread_of script past now → ReapedOnce (events_of past)
  history_reaps_once script past now h =
      run_reaps_once script (events_of past) now.posix
      (history_is_posix_run posted_of goes opening slot_of thread_of script past now h)

  pub history_uses_numbers : (script : Script) (past : List (Seen A)) (now : Moment A)
      → IsHistory posted_of goes opening slot_of thread_of script past now
      → (p : ℕ) (r : Record) → record_of now.posix p ≡ Some r → is_used now.posix p ≡ true
  history_uses_numbers script past now h =
      run_uses_numbers script (events_of past) now.posix
      (history_is_posix_run posted_of goes opening slot_of thread_of script past now h)
