-- A live process dies in the step in which the word of a zombie takes the place of its main word: rows and images go on
-- to show the POSIX state.
use Rattle.std.proofs.Common.{◌≡◌, ◌≢◌, inl, inr, ℕ, ◌+◌, ◌^◌, ◌≤◌, Bool, true, false, cond, nat_eq, nat_lt, Option}
use Rattle.std.proofs.Common.{Some}
use Rattle.std.proofs.Common.{None, IsSome, MatchOption, refl, sym, ap, ◌∙◌, subst, arith}
use Rattle.std.specs.Option.{option_map}
use Rattle.std.proofs.lemmas.Bool.{cases_eq, cond_both, eqb-true}
use Rattle.script_spec.specs.declared.script.Script.{Script}
use Rattle.win32_spec.specs.Lookup.{terminal_in}
use Rattle.win32_spec.specs.LookupLaws.{same}
use Rattle.win32_spec.specs.State.{Win32State}
use Rattle.posix_spec.specs.DeathSteps.{dead, with_status, died}
use Rattle.posix_spec.specs.Pending as pending
use Rattle.posix_spec.specs.RecordLaws.{record_of-with_record, record_of-change_record}
use Rattle.posix_spec.specs.Records.{settled, with_record, changed_at, change_record}
use Rattle.posix_spec.specs.Sending.{owed_more}
use Rattle.posix_spec.specs.State.{Record, PosixState, record_of}
use Rattle.layer_spec.specs.Decodes.{Decodes, ShowsRecord, ShowsRow, is_child_of}
use Rattle.layer_spec.specs.Decoding.{main_of, group_of}
use Rattle.layer_spec.specs.RowLaws.{main_words}
use Rattle.layer_spec.specs.Rows.{RowKind, Free, Held, Running, Stopped, Zombie, Gone, MainWord, main_word_of}
use Rattle.layer_spec.specs.Rows.{main_place}
use Rattle.layer_spec.specs.Rows.{group_place, is_process_kind, IsMain}
use Rattle.layer_spec.specs.TransitionLaws.{trans_keeps_legal}
use Rattle.layer_spec.specs.Transitions.{Seal, by_kind, sealed, trans}
use Rattle.layer_spec.specs.Words.{word_in, main_at}
use Rattle.roster.specs.Words.{changed_main, changed_word}
use Rattle.world_spec.specs.AlikeLaws.{ShowsAlike, AreAlike, HaveSameParents, same_alike, change-alike}
use Rattle.world_spec.specs.AlikeLaws.{alike-parents, row-alike}
use Rattle.world_spec.specs.DecodesLaws.{AreShownTheSame, row-stays}

-- the word of a row that was sealed
pub sealed-word : (w n v : ℕ) (m : MainWord) → nat_lt v (2 ^ 9) ≡ true → main_of w ≡ Some m
    → changed_word (Seal v) w ≡ Some n → main_of n ≡ Some (sealed m v)
sealed-word w n v m legal e c = by_trans (trans m (Seal v)) refl (ap (λ o. changed_main o (Seal v)) (sym e) ∙ c)
  where
    by_line : (k : RowKind) (x : MainWord) → by_kind k None None (Some (sealed m v)) (Some
        (sealed m v)) None None ≡ Some x
        → x ≡ sealed m v
    by_line Free x f = absurd (cc)
    by_line Held x f = absurd (cc)
    by_line Running x f = cc
    by_line Stopped x f = cc
    by_line Zombie x f = absurd (cc)
    by_line Gone x f = absurd (cc)

    by_trans : (t : Option MainWord) → trans m (Seal v) ≡ t → option_map main_word_of t ≡ Some n
        → main_of n ≡ Some (sealed m v)
    by_trans None t f = absurd (cc)
    by_trans (Some x) t f =
        let is : IsMain x = trans_keeps_legal m (Seal v) x (main_words.back w m e).0 legal t in
        let word : main_word_of x ≡ n = cc in
        subst (λ k. main_of k ≡ Some (sealed m v)) word
        (main_words.there x is ∙ ap (λ y. Some y) (by_line m.kind x t))

-- what a live parent is owed shows nowhere
owed_alike : (r : Record) → ShowsAlike r (owed_more r)
owed_alike r =
    cond_both (pending.is_live r.life) (record r { owed = r.owed + 1 }) r (ShowsAlike r) (λ live. same_owed)
    (λ dead. same_alike r)
  where
    same_owed : ShowsAlike r (record r { owed = r.owed + 1 })
    same_owed = record {
      parent = refl;
      group = refl;
      session = refl;
      terminal = refl;
      execd = refl;
      life = refl;
      report = refl;
      pending = refl;
      mask = refl;
      saved = refl;
      actions = refl;
      image = refl;
    }

status_records : (s : PosixState) (v q : ℕ) (b : Bool) → record_of (cond b (record s { first_status = Some v }) s) q
    ≡ record_of s q
status_records s v q true = refl
status_records s v q false = refl

change_terminal : (s : PosixState) (q : ℕ) (change : Record → Record) → (change_record s q change).terminal ≡ s.terminal
change_terminal s q change = by_record (record_of s q)
  where
    by_record : (o : Option Record) → (changed_at s q change o).terminal ≡ s.terminal
    by_record None = refl
    by_record (Some r) = refl

status_terminal : (s : PosixState) (v : ℕ) (b : Bool) → (cond b (record s { first_status = Some v }) s).terminal
    ≡ s.terminal
status_terminal s v true = refl
status_terminal s v false = refl

module _ (p : PosixState) (n v : ℕ) (r : Record) (found : record_of p n ≡ Some r) where
  -- the state in which the process is dead, before its parent is owed anything
  abbrev mid : PosixState
  mid = with_record p n (dead v r)

  abbrev after : PosixState
  after = died p n v r.parent

  abbrev Alike : PosixState → PosixState → Type 0
  Alike s t = (q : ℕ) → AreAlike (record_of s q) (record_of t q)

  -- after the death the records are those of that state, but for what is owed
  died_alike : Alike mid after
  died_alike q =
      subst (λ s. AreAlike (record_of s q) (record_of after q)) (record_of-change_record p n (dead v) r found)
      (subst (λ o. AreAlike o (record_of after q)) (status_records (change_record p n (dead v)) v q (nat_eq n 2))
      (change-alike (with_status n v (change_record p n (dead v))) r.parent owed_more owed_alike q))

  pub died-others : (q : ℕ) → q ≢ n → AreAlike (record_of p q) (record_of after q)
  died-others q d =
      subst (λ o. AreAlike o (record_of after q)) (record_of-with_record p n (dead v r) q ∙ by_test (nat_eq q n) refl)
      (died_alike q)
    where
      by_test : (b : Bool) → nat_eq q n ≡ b → cond b (Some (settled (dead v r))) (record_of p q) ≡ record_of p q
      by_test true e = absurd (d (eqb-true q n e))
      by_test false e = refl

  its_record : record_of mid n ≡ Some (settled (dead v r))
  its_record =
      record_of-with_record p n (dead v r) n ∙ ap (λ b. cond b (Some (settled (dead v r))) (record_of p n))
      (same n n refl)

  -- there is the process yet, dead
  pub died-its : AreAlike (Some (settled (dead v r))) (record_of after n)
  died-its = subst (λ o. AreAlike o (record_of after n)) its_record (died_alike n)

  mid_parents : HaveSameParents p mid
  mid_parents parent q = ap (is_child_of parent) (record_of-with_record p n (dead v r) q) ∙ by_test (nat_eq q n) refl
    where
      by_test : (b : Bool) → nat_eq q n ≡ b
          → is_child_of parent (cond b (Some (settled (dead v r))) (record_of p q)) ≡ is_child_of parent (record_of p q)
      by_test true e =
          let at : record_of p q ≡ Some r = ap (record_of p) (eqb-true q n e) ∙ found in
          sym (ap (is_child_of parent) at)
      by_test false e = refl

  pub died-parents : HaveSameParents p after
  died-parents parent q = alike-parents mid after died_alike parent q ∙ mid_parents parent q

  pub died-terminal : after.terminal ≡ p.terminal
  died-terminal =
      change_terminal (with_status n v (change_record p n (dead v))) r.parent owed_more
      ∙ (status_terminal (change_record p n (dead v)) v (nat_eq n 2) ∙ change_terminal p n (dead v))

  -- a process that is there after it was there before it
  pub died-known : (q : ℕ) → IsSome (record_of after q) → IsSome (record_of p q)
  died-known q known = elim (cases_eq q n) [
    | inl e ↦ subst (λ o. IsSome o) (sym (ap (record_of p) e ∙ found)) refl
    | inr d ↦ by_records (record_of p q) (record_of after q) (died-others q d) known
  ]
    where
      by_records : (o k : Option Record) → AreAlike o k → IsSome k → IsSome o
      by_records None None a m = m
      by_records None (Some x) a m = absurd a
      by_records (Some x) None a m = absurd a
      by_records (Some x) (Some k) a m = refl

-- The status of process 2's death is kept.
pub change_status : (s : PosixState) (q : ℕ) (change : Record → Record)
    → (change_record s q change).first_status ≡ s.first_status
change_status s q change = by_record (record_of s q)
  where
    by_record : (o : Option Record) → (changed_at s q change o).first_status ≡ s.first_status
    by_record None = refl
    by_record (Some r) = refl

pub died-status : (p : PosixState) (n v parent : ℕ) → n ≡ 2 → (died p n v parent).first_status ≡ Some v
died-status p n v parent first =
    change_status (with_status n v (change_record p n (dead v))) parent owed_more
    ∙ ap (λ b. (cond b (record (change_record p n (dead v)) { first_status = Some v }) (change_record p n
    (dead v))).first_status)
    (same n 2 first)

module _ (script : Script) (s new : Win32State) (p : PosixState) (row v : ℕ) (r : Record)
    (found : record_of p (row + 1) ≡ Some r) (from : 1 ≤ row) (legal : nat_lt v (2 ^ 9) ≡ true)
    (word : changed_word (Seal v) (main_at s row) ≡ Some (main_at new row))
    (others : (i : ℕ) → i ≢ main_place row → word_in new i ≡ word_in s i)
    (stays : AreShownTheSame s new) (terminal : terminal_in new.objects ≡ terminal_in s.objects) where
  abbrev P : ℕ
  P = row + 1

  no_group : (x : ℕ) → group_place x ≢ main_place row
  no_group x e = absurd (apart x row from e)
    where
      apart : (x y : ℕ) → 1 ≤ y → group_place x ≡ main_place y → ⊥
      apart x y q e = omega arith

  no_main : (x : ℕ) → 1 ≤ x → x ≢ row → main_place x ≢ main_place row
  no_main x low d e = absurd (d (one x row low from e))
    where
      one : (x y : ℕ) → 1 ≤ x → 1 ≤ y → main_place x ≡ main_place y → x ≡ y
      one x y p q e = omega arith

  -- the row shows the dead process
  shows_dead : ShowsRow script (λ q. q.own) s p row → ShowsRow script (λ q. q.own) new (died p P v r.parent) row
  shows_dead h = record {
    main = sealed h.main v;
    decodes = sealed-word (main_at s row) (main_at new row) v h.main legal h.decodes word;
    shown = by_record (record_of (died p P v r.parent) P) (died-its p P v r found);
  }
    where
      was : ShowsRecord script (λ q. q.own) s p row h.main r
      was = subst (λ o. MatchOption o (is_process_kind h.main.kind ≡ false)
          (λ x. ShowsRecord script (λ q. q.own) s p row h.main x)) found h.shown

      by_record : (k : Option Record) → AreAlike (Some (settled (dead v r))) k
          → MatchOption k (true ≡ false)
          (λ x. ShowsRecord script (λ q. q.own) new (died p P v r.parent) row (sealed h.main v) x)
      by_record None a = absurd a
      by_record (Some k) a = record {
        life = ap (λ l. Some l) (sym a.life);
        report = a.report;
        execd = a.execd ∙ was.execd;
        pending = λ live. absurd (let e : false ≡ true = live in cc);
        group_word = was.group_word;
        group_decodes = ap group_of (others (group_place row) (no_group row)) ∙ was.group_decodes;
        parent = a.parent ∙ was.parent;
        group = a.group ∙ was.group;
        session = a.session ∙ was.session;
        terminal = a.terminal ∙ was.terminal;
        held = λ live x e alive. absurd (let f : false ≡ true = live in cc);
      }

  -- So rows and images show the state after the death.
  pub seal-decodes : Decodes script s p → Decodes script new (died p P v r.parent)
  seal-decodes h = record {
    numbers = λ n known. h.numbers n (died-known p P v r found n known);
    rows = λ x low. elim (cases_eq x row) [
      | inl e ↦ subst (ShowsRow script (λ q. q.own) new (died p P v r.parent)) (sym e) (shows_dead (h.rows row from))
      | inr d ↦ row-alike script new p (died p P v r.parent) x
          (died-others p P v r found (x + 1) (λ e. d (omega (arith, e)))) (λ live n. died-parents p P v r found
          (x + 1) n)
          (row-stays script s new p stays x (others (main_place x) (no_main x low d))
          (others (group_place x) (no_group x)) (h.rows x low))
    ];
    terminal = terminal ∙ (h.terminal ∙ ap (λ t. Some t) (sym (died-terminal p P v r found)));
  }
