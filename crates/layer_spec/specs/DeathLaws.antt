-- Each process dies at most once, and is reaped at most once, with the status of its death.
use Rattle.std.specs.Prelude.{◌≡◌, ◌⊎◌, ℕ, ◌-◌, ◌≤◌, ℤ, pos, negsuc, Bool, true, false, cond, ◌&&◌, ◌||◌, nat_eq}
use Rattle.std.specs.Prelude.{nat_lt, List, [], ◌∷◌, ◌++◌, length, Option, Some, None}
use Rattle.std.specs.FinSet as set
use Rattle.std.proofs.Common.{refl, sym, ap, subst, ◌∙◌, arith, inl, inr}
use Rattle.std.proofs.lemmas.Bool.{and_parts, false≢true}
use Rattle.std.proofs.lemmas.Option.{none-some}
use Rattle.std.proofs.lemmas.List.{append-nil}
use Rattle.w32_base.specs.declared.event.Death.{Death}
use Rattle.w32_base.specs.declared.event.Death.TheVariants as death
use Rattle.w32_base.specs.declared.event.Event.{Event}
use Rattle.w32_base.specs.declared.event.Event.TheVariants as event
use Rattle.script_spec.specs.declared.script.Script.{Script}
use Rattle.posix_spec.specs.State.{Life, Running, Stopped, Zombie, Record, PosixState, record_of}
use Rattle.posix_spec.specs.Pending.{is_running, is_live, open_by_life, open_signals, ends}
use Rattle.posix_spec.specs.Signals.{contains}
use Rattle.posix_spec.specs.Waits.{death_to_report}
use Rattle.posix_spec.specs.DeathSteps.{may_die, dead, died, with_status}
use Rattle.std.specs.Option.{unwrap_or}
use Rattle.posix_spec.specs.Numbers.{natural_of}
use Rattle.posix_spec.specs.Records.{settled, change_record}
use Rattle.layer_spec.specs.Consequences.{death_status, reaped_status}
use Rattle.posix_spec.specs.RecordLaws.{record_of-change_record, record_of-with_record}
use Rattle.layer_spec.specs.FateLaws.{fate_in, fate_of, KeepsFates, same_fates, fates_then, owed_keeps}
use Rattle.layer_spec.specs.FateSteps.{is_fateless, untouched}

-- whether a number is used
abbrev pub is_used : PosixState → ℕ → Bool
is_used s c = set.contains s.used c

-- What is known of a number by its process's fate and by whether it is used: the statuses of its deaths and those with
-- which it was reaped.
abbrev pub Standing : Option (Option ℕ) → Bool → List ℤ → List ℤ → Type 0
Standing (Some None) used deaths reaped = (used ≡ true) × (deaths ≡ []) × (reaped ≡ [])
Standing (Some (Some v)) used deaths reaped = (used ≡ true) × (deaths ≡ pos v ∷ []) × (reaped ≡ [])
Standing None true deaths reaped = (length deaths ≤ 1) × ((reaped ≡ []) ⊎ (reaped ≡ deaths))
Standing None false deaths reaped = (deaths ≡ []) × (reaped ≡ [])

abbrev pub StandsAt : PosixState → ℕ → List ℤ → List ℤ → Type 0
StandsAt s c deaths reaped = Standing (fate_of s c) (is_used s c) deaths reaped

-- in each standing
pub standing_means : (f : Option (Option ℕ)) (used : Bool) (deaths reaped : List ℤ) → Standing f used deaths reaped
    → (length deaths ≤ 1) × ((reaped ≡ []) ⊎ (reaped ≡ deaths))
standing_means (Some None) used deaths reaped h = (rw h.1 (omega arith), inl h.2)
standing_means (Some (Some v)) used deaths reaped h = (rw h.1 (omega arith), inl h.2)
standing_means None true deaths reaped h = h
standing_means None false deaths reaped h = (rw h.0 (omega arith), inl h.1)

-- an event that changes no fate and has no status
pub fateless_statuses : (c : ℕ) (e : Event) → is_fateless e ≡ true → (death_status c e ≡ []) × (reaped_status c e ≡ [])
fateless_statuses c (event.Fork p n) f = (refl, refl)
fateless_statuses c (event.Reap p n v) f = absurd (false≢true f)
fateless_statuses c (event.Die p v cause) f = absurd (false≢true f)
fateless_statuses c (event.Collect p) f = (refl, refl)
fateless_statuses c _ f = (refl, refl)

carried : (f g : Option (Option ℕ)) (u w : Bool) (ds es rs ts : List ℤ) → f ≡ g → u ≡ w → ds ≡ es → rs ≡ ts
    → Standing f u ds rs → Standing g w es ts
carried f g u w ds es rs ts a b c d h =
    subst (λ x. Standing g w es x) d (subst (λ x. Standing g w x rs) c
    (subst (λ x. Standing g x ds rs) b (subst (λ x. Standing x u ds rs) a h)))

with_none : (xs more : List ℤ) → more ≡ [] → xs ≡ xs ++ more
with_none xs more e = sym (ap (λ m. xs ++ m) e ∙ append-nil xs)

pub kept : (s new : PosixState) (c : ℕ) (deaths reaped more others : List ℤ) → KeepsFates s new → more ≡ []
    → others ≡ [] → StandsAt s c deaths reaped → StandsAt new c (deaths ++ more) (reaped ++ others)
kept s new c deaths reaped more others k a b h =
    carried (fate_of s c) (fate_of new c) (is_used s c) (is_used new c) deaths (deaths ++ more) reaped
    (reaped ++ others) (sym (k.fates c)) (ap (λ used. set.contains used c) (sym k.used)) (with_none deaths more a)
    (with_none reaped others b) h

-- a process that may die hasn't died
running_lives : (l : Life) → is_running l ≡ true → death_to_report l ≡ None
running_lives Running e = refl
running_lives (Stopped signal) e = refl
running_lives (Zombie v) e = absurd (false≢true e)

live_lives : (l : Life) → is_live l ≡ true → death_to_report l ≡ None
live_lives Running e = refl
live_lives (Stopped signal) e = refl
live_lives (Zombie v) e = absurd (false≢true e)

open_lives : (l : Life) (pending mask signal : ℕ) → contains (open_by_life l pending mask) signal ≡ true
    → death_to_report l ≡ None
open_lives Running pending mask signal e = refl
open_lives (Stopped s) pending mask signal e = refl
open_lives (Zombie v) pending mask signal e = absurd (false≢true e)

pub dying_lives : (script : Script) (r : Record) (v : ℕ) (cause : Death) → may_die script r v cause ≡ true
    → death_to_report r.life ≡ None
dying_lives script r v death.Exit e = running_lives r.life (and_parts _ _ (and_parts _ _ e).0).0
dying_lives script r v death.Signal e =
    let signal : ℕ = v - 256 in
    open_lives r.life r.pending r.mask signal
    (and_parts (contains (open_signals r) signal) (ends r signal)
    (and_parts (nat_lt 256 v) (contains (open_signals r) signal && ends r signal) e).1).0
dying_lives script r v death.Fault e = running_lives r.life (and_parts _ _ (and_parts _ _ e).1).0
dying_lives script r v (death.World n) e = live_lives r.life (and_parts _ _ e).1

pub natural_is : (v : ℤ) (n : ℕ) → natural_of v ≡ Some n → v ≡ pos n
natural_is (pos m) n e = ap (λ o. pos (unwrap_or o m)) e
natural_is (negsuc m) n e = absurd (none-some n e)

pub fate_cond : (b : Bool) (x o : Option Record) → fate_in (cond b x o) ≡ cond b (fate_in x) (fate_in o)
fate_cond true x o = refl
fate_cond false x o = refl

status_keeps : (p v : ℕ) (s : PosixState) (b : Bool)
    → KeepsFates s (cond b (record s { first_status = Some v }) s)
status_keeps p v s true = untouched s (record s { first_status = Some v }) refl refl
status_keeps p v s false = same_fates s

-- the fates after a death
pub fates_of_died : (s : PosixState) (p v : ℕ) (r : Record) (c : ℕ) → record_of s p ≡ Some r
    → fate_of (died s p v r.parent) c ≡ cond (nat_eq c p) (Some (Some v)) (fate_of s c)
fates_of_died s p v r c is =
    let mid : PosixState = change_record s p (dead v) in
    let all : KeepsFates mid (died s p v r.parent) =
    fates_then (status_keeps p v mid (nat_eq p 2)) (owed_keeps (with_status p v mid) r.parent) in
    all.fates c ∙ (ap (λ t. fate_of t c) (record_of-change_record s p (dead v) r is)
    ∙ (ap fate_in (record_of-with_record s p (dead v r) c)
    ∙ fate_cond (nat_eq c p) (Some (settled (dead v r))) (record_of s c)))

pub used_of_died : (s : PosixState) (p v : ℕ) (r : Record) → record_of s p ≡ Some r
    → (died s p v r.parent).used ≡ s.used
used_of_died s p v r is =
    let mid : PosixState = change_record s p (dead v) in
    let all : KeepsFates mid (died s p v r.parent) =
    fates_then (status_keeps p v mid (nat_eq p 2)) (owed_keeps (with_status p v mid) r.parent) in
    all.used ∙ ap (λ t. t.used) (record_of-change_record s p (dead v) r is)

-- The standing of a number after an event that is about one process: `b` says whether the number is that process's.

pub die_case : (b : Bool) (f g : Option (Option ℕ)) (u : Bool) (v : ℕ) (ds rs : List ℤ) → g ≡ cond b (Some (Some v)) f
    → (b ≡ true → f ≡ Some None) → Standing f u ds rs → Standing g u (ds ++ cond b (pos v ∷ []) []) (rs ++ [])
die_case true f g u v ds rs after at h =
    let known : Standing (Some None) u ds rs = subst (λ x. Standing x u ds rs) (at refl) h in
    subst (λ x. Standing x u (ds ++ pos v ∷ []) (rs ++ [])) (sym after)
    (known.0, ap (λ l. l ++ pos v ∷ []) known.1, ap (λ l. l ++ []) known.2)
die_case false f g u v ds rs after at h =
    carried f g u u ds (ds ++ []) rs (rs ++ []) (sym after) refl (with_none ds [] refl) (with_none rs [] refl) h

at_most_one : (v : ℕ) (ds : List ℤ) → ds ≡ pos v ∷ [] → length (ds ++ []) ≤ 1
at_most_one v ds e = subst (λ l. length (l ++ []) ≤ 1) (sym e) (omega arith)

pub reap_case : (b : Bool) (f g : Option (Option ℕ)) (u : Bool) (v : ℕ) (ds rs : List ℤ) → g ≡ cond b None f
    → (b ≡ true → f ≡ Some (Some v)) → Standing f u ds rs → Standing g u (ds ++ []) (rs ++ cond b (pos v ∷ []) [])
reap_case true f g u v ds rs after at h =
    let known : Standing (Some (Some v)) u ds rs = subst (λ x. Standing x u ds rs) (at refl) h in
    subst (λ x. Standing x u (ds ++ []) (rs ++ pos v ∷ [])) (sym after)
    (subst (λ w. Standing None w (ds ++ []) (rs ++ pos v ∷ [])) (sym known.0)
    (at_most_one v ds known.1, inr (ap (λ l. l ++ pos v ∷ []) known.2 ∙ sym (ap (λ l. l ++ []) known.1))))
reap_case false f g u v ds rs after at h =
    carried f g u u ds (ds ++ []) rs (rs ++ []) (sym after) refl (with_none ds [] refl) (with_none rs [] refl) h

pub collect_case : (b : Bool) (f g : Option (Option ℕ)) (u : Bool) (v : ℕ) (ds rs : List ℤ) → g ≡ cond b None f
    → (b ≡ true → f ≡ Some (Some v)) → Standing f u ds rs → Standing g u (ds ++ []) (rs ++ [])
collect_case true f g u v ds rs after at h =
    let known : Standing (Some (Some v)) u ds rs = subst (λ x. Standing x u ds rs) (at refl) h in
    subst (λ x. Standing x u (ds ++ []) (rs ++ [])) (sym after)
    (subst (λ w. Standing None w (ds ++ []) (rs ++ [])) (sym known.0)
    (at_most_one v ds known.1, inl (ap (λ l. l ++ []) known.2)))
collect_case false f g u v ds rs after at h =
    carried f g u u ds (ds ++ []) rs (rs ++ []) (sym after) refl (with_none ds [] refl) (with_none rs [] refl) h

unused_means : (f : Option (Option ℕ)) (ds rs : List ℤ) → Standing f false ds rs → (ds ≡ []) × (rs ≡ [])
unused_means (Some None) ds rs h = absurd (false≢true h.0)
unused_means (Some (Some v)) ds rs h = absurd (false≢true h.0)
unused_means None ds rs h = h

pub fork_case : (b : Bool) (f g : Option (Option ℕ)) (u w : Bool) (ds rs : List ℤ) → g ≡ cond b (Some None) f
    → w ≡ (b || u) → (b ≡ true → u ≡ false) → Standing f u ds rs → Standing g w (ds ++ []) (rs ++ [])
fork_case true f g u w ds rs after used at h =
    let known : (ds ≡ []) × (rs ≡ []) = unused_means f ds rs (subst (λ x. Standing f x ds rs) (at refl) h) in
    subst (λ x. Standing x w (ds ++ []) (rs ++ [])) (sym after)
    (used, ap (λ l. l ++ []) known.0, ap (λ l. l ++ []) known.1)
fork_case false f g u w ds rs after used at h =
    carried f g u w ds (ds ++ []) rs (rs ++ []) (sym after) (sym used) (with_none ds [] refl) (with_none rs [] refl) h
