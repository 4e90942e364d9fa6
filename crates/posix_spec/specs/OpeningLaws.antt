-- The opening state is well formed.
use Rattle.std.specs.Prelude.{◌≡◌, ℕ, ◌≤◌, Bool, true, false, ◌||◌, nat_eq, List, [], ◌∷◌, length, slice_get, Option}
use Rattle.std.specs.Prelude.{Some, None}
use Rattle.std.specs.Ordering.{nat_cmp, eq_by_cmp}
use Rattle.std.specs.Cmp.{nat_cmp_total}
use Rattle.std.specs.FinMap as map
use Rattle.std.specs.FinSet as set
use Rattle.std.proofs.Common.{refl, sym, ap, subst, ◌∙◌, arith, true≢false, inl}
use Rattle.w32_base.specs.declared.setup.Program.{Program}
use Rattle.script_spec.specs.declared.script.Script.{Script}
use Rattle.vm_spec.specs.Image.{Image}
use Rattle.tty_spec.specs.Terminal.{opening_terminal}
use Rattle.tty_spec.specs.TerminalLaws.{opening_is_terminal}
use Rattle.posix_spec.specs.State.{Record, PosixState, record_of, opening_record, opening}
use Rattle.posix_spec.specs.Pending.{is_stopped}
use Rattle.posix_spec.specs.Records.{numbers_where, children}
use Rattle.posix_spec.specs.DeathSteps.{is_zombie}
use Rattle.posix_spec.specs.Opening.{first_image, opening_of}
use Rattle.posix_spec.specs.RecordLaws.{each_with_record, record_of-with_record, no_record}
use Rattle.posix_spec.specs.EntryLaws.{same_number, tied}
use Rattle.posix_spec.specs.CountLaws.{one_if, counted_first}
use Rattle.posix_spec.specs.TestLaws.{children-with_new}
use Rattle.posix_spec.specs.SignalLaws.{IsMask-zero}
use Rattle.posix_spec.specs.Ranges.{HasRanges}
use Rattle.posix_spec.specs.LocalLaws.{IsImage-new}
use Rattle.posix_spec.specs.WellFormed.{IsUsed, IsImage, IsWellFormedRecord, IsFirstStatus, IsWellFormed}
use Rattle.posix_spec.specs.KeepLaws.{IsSound, IsWellFormedRecord-settled}
use Rattle.posix_spec.specs.CallLaws.{HasCall-none, none_some}

no_program : (programs : List Program) → slice_get programs 0 ≡ None → 1 ≤ length programs → ⊥
no_program [] is some = omega arith
no_program (program ∷ rest) is some = none_some program (sym is)

at_most_one : (b : Bool) → one_if b ≤ 1
at_most_one true = omega arith
at_most_one false = omega arith

first_is_image : (script : Script) (o : Option Program) → slice_get script.setup.programs 0 ≡ o → HasRanges script →
    IsImage script (first_image o)
first_is_image script None is ranges =
    absurd (no_program script.setup.programs is ranges.some_program)
first_is_image script (Some program) is ranges = IsImage-new script 0 program (omega arith) is

-- the numbers that are used: 2 alone
one_used : IsUsed (set.insert set.empty 2) 2
one_used = set.contains-insert nat_cmp_total set.empty 2 2 ∙ ap (λ b. b || set.contains {R = nat_cmp} set.empty 2)
    (tied 2)

used_is : (n : ℕ) → IsUsed (set.insert set.empty 2) n → n ≡ 2
used_is n used =
    elim (eq_by_cmp nat_cmp n 2) as (λ b. eq_by_cmp nat_cmp n 2 ≡ b →
    (b || set.contains {R = nat_cmp} set.empty n) ≡ true → n ≡ 2) [
      | true ↦ λ same _. same_number n 2 same
      | false ↦ λ _ there. absurd (true≢false (sym there ∙ set.contains-empty nat_cmp n))
    ] refl (sym (set.contains-insert nat_cmp_total set.empty 2 n) ∙ used)

IsSound-opening : (script : Script) (image : Image) → IsImage script image → IsSound script (set.insert set.empty 2) 2
    (opening_record image)
unfolding opening_record
IsSound-opening script image h = record {
  numbers = record {
    number = one_used;
    parent_number = inl refl;
    not_own_parent = λ same. absurd (omega arith);
    group_number = one_used;
    session_number = one_used;
    leader = λ _. refl;
    first = λ _. refl;
    has_terminal = refl;
  };
  lives = record {
    stop = λ t is. absurd (true≢false (sym (ap is_stopped is)));
    status = λ v is. absurd (true≢false (sym (ap is_zombie is)));
    has_report = refl;
  };
  notes = λ dead. absurd (true≢false (sym dead));
  signals = record {
    pending_signals = omega arith;
    lost_signals = omega arith;
    is_mask = IsMask-zero;
    saved_mask = λ m is. absurd (none_some m is);
    action_count = refl;
    kill_action = refl;
    stop_action = refl;
  };
  runs = h;
  calls = HasCall-none _ (set.insert set.empty 2) _ _ None refl;
}

-- ---- the state without a process, in which the first one is put

without_process : PosixState
without_process = record {
  records = map.empty;
  terminal = opening_terminal;
  output = [];
  console = None;
  used = set.insert set.empty 2;
  first_status = None;
  host_came = false;
}

nobody : (q : ℕ) → record_of without_process q ≡ None
unfolding without_process
nobody q = map.get-empty nat_cmp q

no_more : (test : ℕ → Record → Bool) (es : List (ℕ × Record)) → length (numbers_where test es) ≤ length es
no_more test [] = omega arith
no_more test (e ∷ es) = omega (arith, counted_first test e es, no_more test es, at_most_one (test e.0 e.1))

no_child : (q : ℕ) → length (children without_process q) ≤ 0
unfolding without_process
no_child q =
    omega (
      arith,
      no_more (λ c r. nat_eq r.parent q) (map.entries {X = Record} {R = nat_cmp} map.empty),
      sym (map.len-entries {X = Record} {R = nat_cmp} map.empty) ∙ map.len-empty nat_cmp Record,
    )

module _ (script : Script) (image : Image) (ranges : HasRanges script) (h : IsImage script image) where
  sole : (n : ℕ) (r : Record) → record_of (opening image) n ≡ Some r → (n ≡ 2) × (r.group ≡ 2) × (r.session ≡ 2)
  unfolding without_process opening_record
  sole = each_with_record (λ n r. (n ≡ 2) × (r.group ≡ 2) × (r.session ≡ 2)) without_process 2 (opening_record image)
      (refl, refl, refl) (λ n r apart there. absurd (no_record r (sym (nobody n) ∙ there)))

  pub IsWellFormed-opening : IsWellFormed script (opening image)
  unfolding without_process opening_record
  IsWellFormed-opening = record {
    each = each_with_record (IsWellFormedRecord script (set.insert set.empty 2)) without_process 2
        (opening_record image)
        (IsWellFormedRecord-settled script (set.insert set.empty 2) 2 (opening_record image)
        (IsSound-opening script image h))
        (λ q r apart there. absurd (no_record r (sym (nobody q) ∙ there)));
    numbers = λ n used. let same = used_is n used in (omega arith, omega (arith, ranges.some_row));
    first_number = one_used;
    sessions = record {
      same = λ m n a b at_m at_n together. (sole m a at_m).2 ∙ sym (sole n b at_n).2;
      leader = λ m a b at_m at_g. (sole m a at_m).2 ∙ sym (sole a.group b at_g).2;
    };
    few_children = λ q.
        let new = children-with_new without_process 2 (opening_record image) q in
        omega (arith, new, no_child q, at_most_one (nat_eq 1 q));
    is_terminal = opening_is_terminal;
    foreground = one_used;
    console_call = λ call is. absurd (none_some call is);
    first = subst (λ o. IsFirstStatus o None) (sym (record_of-with_record without_process 2 (opening_record image) 2))
        refl;
  }

-- the state in which a run of the script begins is well formed
pub IsWellFormed-opening_of : (script : Script) → HasRanges script → IsWellFormed script (opening_of script)
IsWellFormed-opening_of script ranges =
    IsWellFormed-opening script (first_image (slice_get script.setup.programs 0)) ranges
    (first_is_image script (slice_get script.setup.programs 0) refl ranges)
