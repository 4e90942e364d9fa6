-- A change of a main word that isn't a publishing, a reaping or a collecting leaves the roster as it is.
use Rattle.std.specs.Prelude.{◌≡◌, ◌≢◌, ℕ, ◌≤◌, true, false, ◌&&◌, nat_eq, Option, Some, None}
use Rattle.std.specs.Option.{option_map}
use Rattle.std.proofs.Common.{refl, sym, ap, ◌∙◌, subst, arith, inl, inr}
use Rattle.std.proofs.lemmas.Bool.{cond_both, cases_eq}
use Rattle.win32_spec.specs.State.{Win32State}
use Rattle.posix_spec.specs.Signals.{contains, continue_signal, is_stop_signal}
use Rattle.layer_spec.specs.Rows.{RowKind, Free, Held, Running, Stopped, Zombie, Gone, MainWord, main_word_of}
use Rattle.layer_spec.specs.Rows.{IsMain, is_process_kind, is_live_kind, main_place, group_place}
use Rattle.layer_spec.specs.Decoding.{main_of}
use Rattle.layer_spec.specs.Words.{main_at}
use Rattle.layer_spec.specs.Transitions.{Op, Hold, Drop, Publish, Post, Probe, Clear, Stop, TakeOver, Seal, Report}
use Rattle.layer_spec.specs.Transitions.{Reap, Collect, trans, is_op, by_kind, held, gone, posted, woken, cleared}
use Rattle.layer_spec.specs.Transitions.{without, stopped, taken_over, sealed, reported}
use Rattle.layer_spec.specs.TransitionLaws.{trans_keeps_legal}
use Rattle.layer_spec.specs.RowLaws.{main_words}
use Rattle.roster.specs.Words.{changed_main, changed_word, is_process_main, is_live_main, is_process_word, is_live_word}
use Rattle.roster.specs.Roster.{RosterStays}
use Rattle.roster.specs.RosterChanges.{changes_roster, ChangesMain}

-- what a change leaves of a row of this kind: it is a process as before, and alive only if it was
pub record KeepsKind (kind : RowKind) (n : MainWord) : Type 0 where
  pub process : is_process_kind n.kind ≡ is_process_kind kind
  pub death : is_live_kind kind ≡ false → is_live_kind n.kind ≡ false

-- the same of what a line of the table gives, if it gives anything
abbrev pub IfKept : RowKind → Option MainWord → Type 0
IfKept kind None = Unit {0}
IfKept kind (Some n) = KeepsKind kind n

-- a line of the table whose entries keep their kinds
kept_line : (kind : RowKind) (of_free of_held of_running of_stopped of_zombie of_gone : Option MainWord)
    → (kind ≡ Free → IfKept Free of_free) → (kind ≡ Held → IfKept Held of_held)
    → (kind ≡ Running → IfKept Running of_running) → (kind ≡ Stopped → IfKept Stopped of_stopped)
    → (kind ≡ Zombie → IfKept Zombie of_zombie) → (kind ≡ Gone → IfKept Gone of_gone)
    → IfKept kind (by_kind kind of_free of_held of_running of_stopped of_zombie of_gone)
kept_line Free of_free of_held of_running of_stopped of_zombie of_gone a b c d e f = a refl
kept_line Held of_free of_held of_running of_stopped of_zombie of_gone a b c d e f = b refl
kept_line Running of_free of_held of_running of_stopped of_zombie of_gone a b c d e f = c refl
kept_line Stopped of_free of_held of_running of_stopped of_zombie of_gone a b c d e f = d refl
kept_line Zombie of_free of_held of_running of_stopped of_zombie of_gone a b c d e f = e refl
kept_line Gone of_free of_held of_running of_stopped of_zombie of_gone a b c d e f = f refl

-- a row that has this kind after the change, and was alive before it
lives_on : (kind : RowKind) (n : MainWord) → is_live_kind kind ≡ true → is_process_kind n.kind ≡ is_process_kind kind
    → KeepsKind kind n
lives_on kind n live process =
    record { process = process; death = λ dead. absurd (let never : true ≡ false = sym live ∙ dead in cc) }

-- a row whose kind is as before
same_kind : (kind : RowKind) (n : MainWord) → n.kind ≡ kind → KeepsKind kind n
same_kind kind n e = record { process = ap is_process_kind e; death = λ dead. ap is_live_kind e ∙ dead }

woken_kept : (m : MainWord) (s : ℕ) → m.kind ≡ Stopped → KeepsKind Stopped (woken m s)
woken_kept m s k =
    cond_both (nat_eq s continue_signal) (record (posted m s) { kind = Running; report = 2; stop = 0 }) (posted m s)
    (KeepsKind Stopped)
    (λ e. lives_on Stopped (record (posted m s) { kind = Running; report = 2; stop = 0 }) refl refl)
    (λ e. same_kind Stopped (posted m s) k)

cleared_kept : (m : MainWord) (s : ℕ) → m.kind ≡ Running → IfKept Running (cleared m s)
cleared_kept m s k =
    cond_both (contains m.pending s) (Some (without m s)) None (IfKept Running)
    (λ e. same_kind Running (without m s) k) (λ e. tt)

stopped_kept : (m : MainWord) (s : ℕ) → IfKept Running (stopped m s)
stopped_kept m s =
    cond_both (is_stop_signal s && contains m.pending s)
    (Some (record (without m s) { kind = Stopped; stop = s; report = 1 })) None (IfKept Running)
    (λ e. lives_on Running (record (without m s) { kind = Stopped; stop = s; report = 1 }) refl refl) (λ e. tt)

reported_kept : (kind : RowKind) (m : MainWord) (report : ℕ) → m.kind ≡ kind → IfKept kind (reported m report)
reported_kept kind m report k =
    cond_both (nat_eq m.report report) (Some (record m { report = 0 })) None (IfKept kind)
    (λ e. same_kind kind (record m { report = 0 }) k) (λ e. tt)

-- each change but the three
pub trans_keeps_kind : (m : MainWord) (op : Op) → changes_roster op ≡ false → IfKept m.kind (trans m op)
trans_keeps_kind m Hold small = kept_line m.kind (Some held) None None None None None
    (λ k. record { process = refl; death = λ _. refl }) (λ _. tt) (λ _. tt) (λ _. tt) (λ _. tt) (λ _. tt)
trans_keeps_kind m Drop small = kept_line m.kind None (Some gone) None None None None
    (λ _. tt) (λ k. record { process = refl; death = λ _. refl }) (λ _. tt) (λ _. tt) (λ _. tt) (λ _. tt)
trans_keeps_kind m (Publish image) small = absurd (cc)
trans_keeps_kind m (Post s) small = kept_line m.kind None None (Some (posted m s)) (Some (woken m s)) (Some m) None
    (λ _. tt) (λ _. tt) (λ k. same_kind Running (posted m s) k) (λ k. woken_kept m s k) (λ k. same_kind Zombie m k)
    (λ _. tt)
trans_keeps_kind m Probe small = kept_line m.kind None None (Some m) (Some m) (Some m) None
    (λ _. tt) (λ _. tt) (λ k. same_kind Running m k) (λ k. same_kind Stopped m k) (λ k. same_kind Zombie m k) (λ _. tt)
trans_keeps_kind m (Clear s) small = kept_line m.kind None None (cleared m s) None None None
    (λ _. tt) (λ _. tt) (cleared_kept m s) (λ _. tt) (λ _. tt) (λ _. tt)
trans_keeps_kind m (Stop s) small = kept_line m.kind None None (stopped m s) None None None
    (λ _. tt) (λ _. tt) (λ _. stopped_kept m s) (λ _. tt) (λ _. tt) (λ _. tt)
trans_keeps_kind m (TakeOver image) small = kept_line m.kind None None (Some (taken_over m image)) None None None
    (λ _. tt) (λ _. tt) (λ k. same_kind Running (taken_over m image) k) (λ _. tt) (λ _. tt) (λ _. tt)
trans_keeps_kind m (Seal status) small =
    kept_line m.kind None None (Some (sealed m status)) (Some (sealed m status)) None None
    (λ _. tt) (λ _. tt) (λ _. record { process = refl; death = λ _. refl })
    (λ _. record { process = refl; death = λ _. refl }) (λ _. tt) (λ _. tt)
trans_keeps_kind m Report small = kept_line m.kind None None (reported m 2) (reported m 1) None None
    (λ _. tt) (λ _. tt) (reported_kept Running m 2) (reported_kept Stopped m 1) (λ _. tt) (λ _. tt)
trans_keeps_kind m Reap small = absurd (cc)
trans_keeps_kind m Collect small = absurd (cc)

-- what a changed word tells
pub record KeepsWord (w v : ℕ) : Type 0 where
  pub process : is_process_word v ≡ is_process_word w
  pub death : is_live_word w ≡ false → is_live_word v ≡ false

changed_from : (op : Op) (w v : ℕ) (o : Option MainWord) → main_of w ≡ o → is_op op ≡ true → changes_roster op ≡ false
    → changed_main o op ≡ Some v → KeepsWord w v
changed_from op w v None e legal small c = absurd (cc)
changed_from op w v (Some m) e legal small c = by_trans (trans m op) refl c
  where
    by_trans : (t : Option MainWord) → trans m op ≡ t → option_map main_word_of t ≡ Some v → KeepsWord w v
    by_trans None t d = absurd (cc)
    by_trans (Some n) t d =
        let is : IsMain n = trans_keeps_legal m op n (main_words.back w m e).0 legal t in
        let word : main_word_of n ≡ v = cc in
        let tells : main_of v ≡ Some n = subst (λ x. main_of x ≡ Some n) word (main_words.there n is) in
        let kept : KeepsKind m.kind n = subst (IfKept m.kind) t (trans_keeps_kind m op small) in
        record {
          process = ap is_process_main tells ∙ kept.process ∙ sym (ap is_process_main e);
          death = λ dead. ap is_live_main tells ∙ kept.death (sym (ap is_live_main e) ∙ dead);
        }

pub changed_word_keeps : (op : Op) (w v : ℕ) → is_op op ≡ true → changes_roster op ≡ false
    → changed_word op w ≡ Some v → KeepsWord w v
changed_word_keeps op w v legal small c = changed_from op w v (main_of w) refl legal small c

-- a state in which no other word is changed has the same roster
pub change-stays : (a b : Win32State) (row : ℕ) (op : Op) → is_op op ≡ true → changes_roster op ≡ false
    → ChangesMain a b row op → RosterStays a b
change-stays a b row op legal small change = record {
  processes = λ r from. elim (cases_eq r row) [
    | inl same ↦ subst (λ n. is_process_word (main_at b n) ≡ is_process_word (main_at a n)) (sym same) word.process
    | inr other ↦ ap is_process_word (stays r from other)
  ];
  groups = λ r from is. change.others (group_place r) (λ same. absurd (apart r row from change.from same));
  deaths = λ r from dead. elim (cases_eq r row) [
    | inl same ↦ subst (λ n. is_live_word (main_at b n) ≡ false) (sym same)
        (word.death (subst (λ n. is_live_word (main_at a n) ≡ false) same dead))
    | inr other ↦ ap is_live_word (stays r from other) ∙ dead
  ];
}
  where
    word : KeepsWord (main_at a row) (main_at b row)
    word = changed_word_keeps op (main_at a row) (main_at b row) legal small change.changed

    stays : (r : ℕ) → 1 ≤ r → r ≢ row → main_at b r ≡ main_at a r
    stays r from other = change.others (main_place r) (λ same. other (one r row from change.from same))
      where
        one : (x y : ℕ) → 1 ≤ x → 1 ≤ y → main_place x ≡ main_place y → x ≡ y
        one x y p q e = omega arith

    apart : (x y : ℕ) → 1 ≤ x → 1 ≤ y → group_place x ≡ main_place y → ⊥
    apart x y p q e = omega arith
