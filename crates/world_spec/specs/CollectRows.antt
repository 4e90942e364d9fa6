-- A zombie whose raw parent is no live process is collected in the step in which the word of a row that is gone takes
-- the place of its main word: rows and images go on to show the POSIX state.
use Rattle.std.proofs.Common.{◌≡◌, ◌≢◌, inl, inr, ℕ, ◌+◌, ◌≤◌, Bool, true, false, cond, nat_eq, Option, Some}
use Rattle.std.proofs.Common.{None, IsSome, MatchOption, refl, sym, ap, ◌∙◌, subst, arith}
use Rattle.std.proofs.lemmas.Bool.{cases_eq, eqb-true}
use Rattle.w32_base.specs.declared.event.Event.TheVariants as event
use Rattle.script_spec.specs.declared.script.Script.{Script}
use Rattle.win32_spec.specs.Lookup.{terminal_in}
use Rattle.win32_spec.specs.LookupLaws.{same, differs}
use Rattle.win32_spec.specs.State.{Win32State}
use Rattle.posix_spec.specs.DeathSteps.{is_zombie, collect_step}
use Rattle.posix_spec.specs.Numbers.{for_value}
use Rattle.posix_spec.specs.Pending.{is_live}
use Rattle.posix_spec.specs.RecordLaws.{record_of-without_record}
use Rattle.posix_spec.specs.Records.{without_record, is_live_at}
use Rattle.posix_spec.specs.Run.{PosixStep}
use Rattle.posix_spec.specs.State as posix
use Rattle.posix_spec.specs.State.{Life, Record, PosixState, record_of}
use Rattle.posix_spec.specs.Step.{posix_step}
use Rattle.layer_spec.specs.Decodes.{Decodes, ShowsRecord, ShowsRow, is_child_of, life_by}
use Rattle.layer_spec.specs.Decoding.{main_of}
use Rattle.layer_spec.specs.Rows.{RowKind, Free, Held, Running, Stopped, Zombie, Gone, MainWord, main_place}
use Rattle.layer_spec.specs.Rows.{group_place}
use Rattle.layer_spec.specs.Rows.{is_process_kind, is_live_kind}
use Rattle.layer_spec.specs.Transitions.{Collect, gone}
use Rattle.layer_spec.specs.Words.{row_of, word_in, main_at}
use Rattle.roster.specs.Words.{changed_word, is_live_main, is_live_word}
use Rattle.world_spec.specs.AlikeLaws.{AreAlike, same_are_alike, row-alike}
use Rattle.world_spec.specs.CollectLaws.{IsCollected, collected-word}
use Rattle.world_spec.specs.DecodesLaws.{AreShownTheSame, row-stays}

-- what a row that isn't a live one shows is no live process
dead_life : (k : RowKind) (stop status : ℕ) (l : Life) → is_live_kind k ≡ false → life_by k stop status ≡ Some l
    → is_live l ≡ false
dead_life Free stop status l d e = absurd (cc)
dead_life Held stop status l d e = absurd (cc)
dead_life Running stop status l d e = absurd (let f : true ≡ false = d in cc)
dead_life Stopped stop status l d e = absurd (let f : true ≡ false = d in cc)
dead_life Zombie stop status l d e =
    let f : posix.Zombie status ≡ l = cc in subst (λ x. is_live x ≡ false) f refl
dead_life Gone stop status l d e = absurd (cc)

zombie_life : (k : RowKind) (stop status : ℕ) (l : Life) → k ≡ Zombie → life_by k stop status ≡ Some l
    → is_zombie l ≡ true
zombie_life k stop status l z e =
    let f : Some (posix.Zombie status) ≡ Some l = sym (ap (λ x. life_by x stop status) z) ∙ e in
    let g : posix.Zombie status ≡ l = cc in subst (λ x. is_zombie x ≡ true) g refl

module _ (script : Script) (s : Win32State) (p : PosixState) (h : Decodes script s p) where
  -- what the row of a process shows of it
  pub row-shows : (row : ℕ) (r : Record) (from : 1 ≤ row) → record_of p (row + 1) ≡ Some r
      → (m : MainWord) × (main_of (main_at s row) ≡ Some m) × ShowsRecord script (λ q. q.own) s p row m r
  row-shows row r from e =
      let at = h.rows row from in (
        at.main,
        at.decodes,
        subst (λ o. MatchOption o (is_process_kind at.main.kind ≡ false)
            (λ x. ShowsRecord script (λ q. q.own) s p row at.main x)) e at.shown,
      )

  -- a number whose row isn't live is that of no live process
  pub not-live-at : (n : ℕ) → (2 ≤ n → is_live_word (main_at s (row_of n)) ≡ false) → is_live_at (record_of p n) ≡ false
  not-live-at n dead = by_record (record_of p n) refl
    where
      by_record : (o : Option Record) → record_of p n ≡ o → is_live_at o ≡ false
      by_record None e = refl
      by_record (Some r) e =
          let low : 2 ≤ n = h.numbers n (subst (λ o. IsSome o) (sym e) refl) in
          let back : row_of n + 1 ≡ n = omega (arith, low) in
          let at = row-shows (row_of n) r (omega (arith, low)) (ap (record_of p) back ∙ e) in
          dead_life at.0.kind at.0.stop at.0.status r.life (sym (ap is_live_main at.1) ∙ dead low) at.2.life

module _ (script : Script) (s new : Win32State) (p : PosixState) (row : ℕ) (r : Record)
    (h : Decodes script s p) (found : record_of p (row + 1) ≡ Some r) (from : 1 ≤ row)
    (word : changed_word Collect (main_at s row) ≡ Some (main_at new row))
    (orphan : 2 ≤ r.parent → is_live_word (main_at s (row_of r.parent)) ≡ false) where
  abbrev P : ℕ
  P = row + 1

  collected : IsCollected (main_at s row) (main_at new row)
  collected = collected-word (main_at s row) (main_at new row) word

  its_life : is_zombie r.life ≡ true
  its_life =
      let at = row-shows script s p h row r from found in
      let is : Some at.0 ≡ Some collected.main = sym at.1 ∙ collected.was in
      let main : at.0 ≡ collected.main = cc in
      zombie_life at.0.kind at.0.stop at.0.status r.life (ap (λ (m : MainWord). m.kind) main
      ∙ collected.zombie) at.2.life

  -- The event is a step of the POSIX machine.
  pub collect-step : PosixStep script p (event.Collect P) (without_record p P)
  unfolding posix_step
  collect-step =
      ap (λ o. for_value o (collect_step p P)) found
      ∙ rw (its_life, not-live-at script s p h r.parent orphan) refl

  module _ (others : (i : ℕ) → i ≢ main_place row → word_in new i ≡ word_in s i)
      (stays : AreShownTheSame s new) (terminal : terminal_in new.objects ≡ terminal_in s.objects) where
    no_group : (x : ℕ) → group_place x ≢ main_place row
    no_group x e = absurd (apart x row from e)
      where
        apart : (x y : ℕ) → 1 ≤ y → group_place x ≡ main_place y → ⊥
        apart x y q e = omega arith

    no_main : (x : ℕ) → 1 ≤ x → x ≢ row → main_place x ≢ main_place row
    no_main x low d e = absurd (d (one x row low from e))
      where
        one : (x y : ℕ) → 1 ≤ x → 1 ≤ y → main_place x ≡ main_place y → x ≡ y
        one x y p q e = omega arith

    shows_gone : ShowsRow script (λ q. q.own) new (without_record p P) row
    shows_gone = record {
      main = gone;
      decodes = collected.now;
      shown = subst (λ o. MatchOption o (false ≡ false)
          (λ x. ShowsRecord script (λ q. q.own) new (without_record p P) row gone x))
          (sym (record_of-without_record p P P ∙ ap (λ b. cond b None (record_of p P)) (same P P refl))) refl;
    }

    other_alike : (x : ℕ) → x ≢ row → AreAlike (record_of p (x + 1)) (record_of (without_record p P) (x + 1))
    other_alike x d =
        subst (AreAlike (record_of p (x + 1)))
        (sym (record_of-without_record p P (x + 1)
        ∙ ap (λ b. cond b None (record_of p (x + 1))) (differs (x + 1) P (λ e. d (omega (arith, e))))))
        (same_are_alike (record_of p (x + 1)))

    -- a live process has the same children: the collected one's parent isn't live
    children : (x : ℕ) → 1 ≤ x → x ≢ row → is_live_word (main_at new x) ≡ true → (n : ℕ)
        → is_child_of (x + 1) (record_of (without_record p P) n) ≡ is_child_of (x + 1) (record_of p n)
    children x low d live n =
        ap (is_child_of (x + 1)) (record_of-without_record p P n) ∙ by_test (nat_eq n P) refl
      where
        no_child : r.parent ≢ x + 1
        no_child e =
            let at : row_of r.parent ≡ x = omega (arith, e) in
            let dead = subst (λ k. is_live_word (main_at s k) ≡ false) at (orphan (omega (arith, e, low))) in
            let f : true ≡ false = sym live ∙ (ap is_live_word (others (main_place x) (no_main x low d)) ∙ dead) in
            absurd (cc)

        by_test : (b : Bool) → nat_eq n P ≡ b
            → is_child_of (x + 1) (cond b None (record_of p n)) ≡ is_child_of (x + 1) (record_of p n)
        by_test true e =
            let at : record_of p n ≡ Some r = ap (record_of p) (eqb-true n P e) ∙ found in
            sym (ap (is_child_of (x + 1)) at ∙ differs r.parent (x + 1) no_child)
        by_test false e = refl

    pub collect-decodes : Decodes script new (without_record p P)
    collect-decodes = record {
      numbers = λ n known. h.numbers n (by_test n (nat_eq n P)
          (subst (λ o. IsSome o) (record_of-without_record p P n) known));
      rows = λ x low. elim (cases_eq x row) [
        | inl e ↦ subst (ShowsRow script (λ q. q.own) new (without_record p P)) (sym e) shows_gone
        | inr d ↦ row-alike script new p (without_record p P) x (other_alike x d) (children x low d)
            (row-stays script s new p stays x (others (main_place x) (no_main x low d))
            (others (group_place x) (no_group x)) (h.rows x low))
      ];
      terminal = terminal ∙ h.terminal;
    }
      where
        by_test : (n : ℕ) (b : Bool) → IsSome (cond b None (record_of p n)) → IsSome (record_of p n)
        by_test n true m = absurd (let e : false ≡ true = m in cc)
        by_test n false m = m
