-- What each status of a run says.
use Rattle.std.proofs.Common.{◌≡◌, ◌≢◌, ℕ, Bool, true, false, List, [], Option, Some, None, inl, inr, ◌⊎◌, refl, sym}
use Rattle.std.proofs.Common.{◌∙◌}
use Rattle.std.proofs.Common.{subst, arith}
use Rattle.std.specs.Prelude.{IfSome, ◌<◌, ◌≤◌, length}
use Rattle.std.proofs.lemmas.Bool.{lt-ltb}
use Rattle.w32_base.specs.declared.entry.Entry.{Entry}
use Rattle.w32_base.specs.declared.entry.End.{End}
use Rattle.w32_base.specs.declared.entry.End.TheVariants.{Quiet, Given, Budget}
use Rattle.w32_base.specs.declared.entry.View.{View}
use Rattle.script_spec.specs.declared.fault.Kind.{Kind}
use Rattle.script_spec.specs.declared.fault.Kind.TheVariants.{Large}
use Rattle.script_spec.specs.declared.script.Script.{Script}
use Rattle.script_spec.specs.FaultlessLaws.{script-faultless}
use Rattle.script_spec.specs.FirstFault.{fault_of}
use Rattle.script_spec.specs.Grammar.{IsScript}
use Rattle.script_spec.specs.OneScriptLaws.{one_script}
use Rattle.layer_actor.specs.Built.{is_built}
use Rattle.cyg_io.specs.Counts.{Rose, RoseBy}
use Rattle.cyg_runs.specs.declared.refusal.Refusal.{Refusal}
use Rattle.cyg_runs.specs.declared.refusal.Refusal.TheVariants as refusal
use Rattle.cyg_runs.specs.Runs.{status_of}
use Rattle.cyg_cli.specs.Outside.{Outside, source_of}
use Rattle.cyg_cli.specs.Runs.{IsRefused, ReadsRefused, ReadsTooMany, Refuses, ReadsBuilt, RunEnds}
use Rattle.cyg_cli.specs.Runs.{Unread, NoMemory, Refused, RefusedInPart, Logged, LoggedInPart}
use Rattle.cyg_cli.specs.Runs.{IsDeclined, IsRead, IsRunOf, IsLogged, IsRunOrShort, IsRunStatus}

rose : (before now : ℕ) → RoseBy 1 before now → Rose before now
rose before now h = omega (arith, h)

-- what holds of a text that was read holds of what the source told
of_told : (P : List ℕ → Type 0) (o : Option (List ℕ)) (text : List ℕ) → IfSome o (λ left. text ≡ left) → P text
    → IfSome o P
of_told P None text e p = tt
of_told P (Some left) text e p = subst P e p

-- what follows of a text's property follows of that of what the source told
with_told : (P Q : List ℕ → Type 0) (o : Option (List ℕ)) → IfSome o P → ((text : List ℕ) → P text → Q text)
    → IfSome o Q
with_told P Q None p f = tt
with_told P Q (Some left) p f = f left p

always : (Q : List ℕ → Type 0) (o : Option (List ℕ)) → ((text : List ℕ) → Q text) → IfSome o Q
always Q None f = tt
always Q (Some left) f = f left

-- a text of too many bytes has that fault
large : (text : List ℕ) → 1048576 < length text → fault_of text ≡ Some (0, Large)
large text many = rw (lt-ltb 1048576 (length text) many) refl

-- where the source told its bytes, they are refused so
refused_told : (left now : Option (List ℕ)) (faults faults_now given given_now ends ends_now : ℕ) (r : Refusal)
    → Refuses (record { left = left; faults = faults; given = given; ends = ends })
    (record { left = now; faults = faults_now; given = given_now; ends = ends_now }) r
    → IfSome left (λ text. IsRefused text r)
refused_told None now faults faults_now given given_now ends ends_now r h = tt
refused_told (Some text) now faults faults_now given given_now ends ends_now r h = by_part h.read
  where
    by_part : ReadsRefused (record { left = Some text; faults = faults; given = given; ends = ends })
        (record { left = now; faults = faults_now; given = given_now; ends = ends_now }) r
        ⊎ ReadsTooMany (record { left = Some text; faults = faults; given = given; ends = ends })
        (record { left = now; faults = faults_now; given = given_now; ends = ends_now }) r → IsRefused text r
    by_part (inl x) = subst (λ t. IsRefused t r) x.reads.told x.is
    by_part (inr x) =
        let size : 1048577 ≤ length text = x.drawn.bytes.0 in
        subst (λ c. IsRefused text c) (sym x.is) (large text (omega (arith, size)))

refused_by : (before after : Outside) (r : Refusal) → Refuses (source_of before) (source_of after) r
    → IfSome before.left (λ text. IsRefused text r)
refused_by before after r h =
    refused_told before.left after.left before.read_faults after.read_faults before.given after.given before.ends
    after.ends
    r h

script_by : (before after : Outside) (script : Script) → ReadsBuilt (source_of before) (source_of after) script
    → IfSome before.left (λ text. IsScript text script)
script_by before after script h = of_told (λ text. IsScript text script) before.left h.text h.reads.told h.spells

-- no text is that of a script whose words are built, and refused
fault_or_none : (found : Option (ℕ × Kind)) (fault : ℕ × Kind) → found ≡ Some fault → found ≡ None → ⊥
fault_or_none found fault h k = let same : Some fault ≡ None = sym h ∙ k in cc

true_or_false : (b : Bool) → b ≡ true → b ≡ false → ⊥
true_or_false b h k = let same : true ≡ false = sym h ∙ k in cc

pub runs_or_refused : (text : List ℕ) (script : Script) (r : Refusal) → IsScript text script → is_built script ≡ true
    → IsRefused text r → ⊥
runs_or_refused text script (refusal.Fault line kind) is built refused =
    fault_or_none (fault_of text) (line, kind) refused (script-faultless text script is)
runs_or_refused text script refusal.Unbuilt is built refused =
    let same : refused.0 ≡ script = one_script text refused.0 script refused.1 is in
    true_or_false (is_built script) built (subst (λ s. is_built s ≡ false) same refused.2)

-- the statuses of a run whose log was written
abbrev LogGives : ℕ → Type 0
LogGives status = (status ≡ 0) ⊎ (status ≡ 6)

log_gives : (end : End) → LogGives (status_of end)
log_gives Quiet = inl refl
log_gives Given = inl refl
log_gives Budget = inr refl

is_log_status : (status : ℕ) (end : End) → status ≡ status_of end → LogGives status
is_log_status status end s = subst LogGives (sym s) (log_gives end)

-- the statuses that the log of a run doesn't have
pub other_than : (status n : ℕ) (end : End) → status ≡ status_of end → status ≡ n → n ≢ 0 → n ≢ 6 → ⊥
other_than status n end s t zero six = grind (arith, is_log_status status end s, t, zero, six)

module _ (IsJournal : Script → List Entry → End → Type 0) (v : View) (before after : Outside) (status : ℕ)
    (entries : List Entry) where
  pub not_one : RunEnds IsJournal v before after status entries → status ≡ 1 → ⊥
  not_one (Unread n u s none) t = omega (arith, s, t)
  not_one (NoMemory n held s none) t = omega (arith, s, t)
  not_one (Refused r h app s none) t = omega (arith, s, t)
  not_one (RefusedInPart r h app up s none) t = omega (arith, s, t)
  not_one (Logged script end h j app s) t = other_than status 1 end s t (omega arith) (omega arith)
  not_one (LoggedInPart script end h j app up s) t = omega (arith, s, t)

  pub not_two : RunEnds IsJournal v before after status entries → status ≡ 2 → ⊥
  not_two (Unread n u s none) t = omega (arith, s, t)
  not_two (NoMemory n held s none) t = omega (arith, s, t)
  not_two (Refused r h app s none) t = omega (arith, s, t)
  not_two (RefusedInPart r h app up s none) t = omega (arith, s, t)
  not_two (Logged script end h j app s) t = other_than status 2 end s t (omega arith) (omega arith)
  not_two (LoggedInPart script end h j app up s) t = omega (arith, s, t)

  pub at_three : RunEnds IsJournal v before after status entries → status ≡ 3
      → IsDeclined before.left before.held after.held
  at_three (Unread n u s none) t = absurd (omega (arith, s, t))
  at_three (NoMemory n held s none) t = absurd (omega (arith, s, t))
  at_three (Refused r h app s none) t = record { cause = r; written = app; text = refused_by before after r h }
  at_three (RefusedInPart r h app up s none) t = absurd (omega (arith, s, t))
  at_three (Logged script end h j app s) t = absurd (other_than status 3 end s t (omega arith) (omega arith))
  at_three (LoggedInPart script end h j app up s) t = absurd (omega (arith, s, t))

  is_read : (r : Refusal) → Refuses (source_of before) (source_of after) r
      → IsRead before.ends after.ends before.given after.given
  is_read r h = by_part h.read
    where
      by_part : ReadsRefused (source_of before) (source_of after) r ⊎ ReadsTooMany (source_of before)
          (source_of after) r
          → IsRead before.ends after.ends before.given after.given
      by_part (inl x) = inl x.reads.ended
      by_part (inr x) = inr x.drawn.count

  pub read_at_three : RunEnds IsJournal v before after status entries → status ≡ 3
      → IsRead before.ends after.ends before.given after.given
  read_at_three (Unread n u s none) t = absurd (omega (arith, s, t))
  read_at_three (NoMemory n held s none) t = absurd (omega (arith, s, t))
  read_at_three (Refused r h app s none) t = is_read r h
  read_at_three (RefusedInPart r h app up s none) t = absurd (omega (arith, s, t))
  read_at_three (Logged script end h j app s) t = absurd (other_than status 3 end s t (omega arith) (omega arith))
  read_at_three (LoggedInPart script end h j app up s) t = absurd (omega (arith, s, t))

  -- 4 comes with a fault of the source, 5 with one of the sink, and with 4 and 7 nothing is written
  pub at_four : RunEnds IsJournal v before after status entries → status ≡ 4
      → Rose before.read_faults after.read_faults × (after.held ≡ before.held)
  at_four (Unread n u s none) t = (rose _ _ n.fault, u.held)
  at_four (NoMemory n held s none) t = absurd (omega (arith, s, t))
  at_four (Refused r h app s none) t = absurd (omega (arith, s, t))
  at_four (RefusedInPart r h app up s none) t = absurd (omega (arith, s, t))
  at_four (Logged script end h j app s) t = absurd (other_than status 4 end s t (omega arith) (omega arith))
  at_four (LoggedInPart script end h j app up s) t = absurd (omega (arith, s, t))

  pub at_five : RunEnds IsJournal v before after status entries → status ≡ 5
      → Rose before.write_faults after.write_faults
  at_five (Unread n u s none) t = absurd (omega (arith, s, t))
  at_five (NoMemory n held s none) t = absurd (omega (arith, s, t))
  at_five (Refused r h app s none) t = absurd (omega (arith, s, t))
  at_five (RefusedInPart r h app up s none) t = up
  at_five (Logged script end h j app s) t = absurd (other_than status 5 end s t (omega arith) (omega arith))
  at_five (LoggedInPart script end h j app up s) t = up

  pub at_seven : RunEnds IsJournal v before after status entries → status ≡ 7
      → (after.held ≡ before.held) × (entries ≡ [])
  at_seven (Unread n u s none) t = (u.held, none)
  at_seven (NoMemory n held s none) t = (held, none)
  at_seven (Refused r h app s none) t = absurd (omega (arith, s, t))
  at_seven (RefusedInPart r h app up s none) t = absurd (omega (arith, s, t))
  at_seven (Logged script end h j app s) t = absurd (other_than status 7 end s t (omega arith) (omega arith))
  at_seven (LoggedInPart script end h j app up s) t = absurd (omega (arith, s, t))

  -- the source was read to its end
  pub ended : RunEnds IsJournal v before after status entries → LogGives status → RoseBy 1 before.ends after.ends
  ended (Unread n u s none) t = absurd (grind (arith, s, t))
  ended (NoMemory n held s none) t = absurd (grind (arith, s, t))
  ended (Refused r h app s none) t = absurd (grind (arith, s, t))
  ended (RefusedInPart r h app up s none) t = absurd (grind (arith, s, t))
  ended (Logged script end h j app s) t = h.reads.ended
  ended (LoggedInPart script end h j app up s) t = absurd (grind (arith, s, t))

  abbrev run_of : (script : Script) (end : End) → ReadsBuilt (source_of before) (source_of after) script
      → IsJournal script entries end → IsRunOf IsJournal before.left entries
  run_of script end h j = record {
    script = script;
    end = end;
    text = script_by before after script h;
    built = h.built;
    journal = j;
  }

  -- the log of a run's journal was written
  pub logged : RunEnds IsJournal v before after status entries → LogGives status
      → IsLogged IsJournal v before.left before.held after.held status entries
  logged (Unread n u s none) t = absurd (grind (arith, s, t))
  logged (NoMemory n held s none) t = absurd (grind (arith, s, t))
  logged (Refused r h app s none) t = absurd (grind (arith, s, t))
  logged (RefusedInPart r h app up s none) t = absurd (grind (arith, s, t))
  logged (Logged script end h j app s) t = record { run = run_of script end h j; written = app; status_is = s }
  logged (LoggedInPart script end h j app up s) t = absurd (grind (arith, s, t))

  -- a journal that is answered is a run's
  pub journal_told : RunEnds IsJournal v before after status entries → entries ≢ []
      → IsRunOf IsJournal before.left entries
  journal_told (Unread n u s none) some = absurd (some none)
  journal_told (NoMemory n held s none) some = absurd (some none)
  journal_told (Refused r h app s none) some = absurd (some none)
  journal_told (RefusedInPart r h app up s none) some = absurd (some none)
  journal_told (Logged script end h j app s) some = run_of script end h j
  journal_told (LoggedInPart script end h j app up s) some = run_of script end h j

  -- a text that is refused isn't run
  abbrev IsNotRun : List ℕ → Type 0
  IsNotRun text = (r : Refusal) → IsRefused text r → (status ≢ 0) × (status ≢ 6)

  other_status : (status ≢ 0) × (status ≢ 6) → IfSome before.left IsNotRun
  other_status other = always IsNotRun before.left (λ text r is. other)

  pub only_scripts : RunEnds IsJournal v before after status entries → IfSome before.left IsNotRun
  only_scripts (Unread n u s none) = other_status ((λ t. omega (arith, t, s)), (λ t. omega (arith, t, s)))
  only_scripts (NoMemory n held s none) = other_status ((λ t. omega (arith, t, s)), (λ t. omega (arith, t, s)))
  only_scripts (Refused r h app s none) = other_status ((λ t. omega (arith, t, s)), (λ t. omega (arith, t, s)))
  only_scripts (RefusedInPart r h app up s none) = other_status ((λ t. omega (arith, t, s)), (λ t. omega (arith, t, s)))
  only_scripts (Logged script end h j app s) =
      with_told (λ text. IsScript text script) IsNotRun before.left (script_by before after script h)
      (λ text is r refused. absurd (runs_or_refused text script r is h.built refused))
  only_scripts (LoggedInPart script end h j app up s) =
      other_status ((λ t. omega (arith, t, s)), (λ t. omega (arith, t, s)))

  -- With neither a fault of the source nor one of the sink: where a journal that ends by the budget has as many entries
  -- as that.
  module _ (full : (script : Script) (run : List Entry) → IsJournal script run Budget
      → length run ≡ script.setup.limits.budget) where
    memory_short : status ≡ 7 → IfSome before.left (IsRunOrShort status entries)
    memory_short s = always (IsRunOrShort status entries) before.left
        (λ text. record { runs = λ script is built. inr (inr s); refuses = λ r is. inr s })

    refused_short : (r : Refusal) → Refuses (source_of before) (source_of after) r → status ≡ 3
        → IfSome before.left (IsRunOrShort status entries)
    refused_short r h s =
        with_told (λ text. IsRefused text r) (IsRunOrShort status entries) before.left (refused_by before after r h)
        (λ text refused. record {
          runs = λ script is built. absurd (runs_or_refused text script r is built refused);
          refuses = λ other is. inl s;
        })

    by_end : (script : Script) (end : End) → IsJournal script entries end → status ≡ status_of end
        → (status ≡ 0) ⊎ ((status ≡ 6) × (length entries ≡ script.setup.limits.budget)) ⊎ (status ≡ 7)
    by_end script Quiet j s = inl s
    by_end script Given j s = inl s
    by_end script Budget j s = inr (inl (s, full script entries j))

    run_short : (script : Script) (end : End) → ReadsBuilt (source_of before) (source_of after) script
        → IsJournal script entries end → status ≡ status_of end
        → IfSome before.left (IsRunOrShort status entries)
    run_short script end h j s =
        with_told (λ text. IsScript text script) (IsRunOrShort status entries) before.left
        (script_by before after script h) (λ text is. record {
          runs = λ other spells built.
              subst (λ x. (status ≡ 0) ⊎ ((status ≡ 6) × (length entries ≡ x.setup.limits.budget)) ⊎ (status ≡ 7))
              (one_script text script other is spells) (by_end script end j s);
          refuses = λ r refused. absurd (runs_or_refused text script r is h.built refused);
        })

    log_status : (end : End) → status ≡ status_of end → IsRunStatus status
    log_status end s = grind (arith, is_log_status status end s)

    pub complete : RunEnds IsJournal v before after status entries → ¬ Rose before.read_faults after.read_faults
        → ¬ Rose before.write_faults after.write_faults
        → IsRunStatus status × IfSome before.left (IsRunOrShort status entries)
    complete (Unread n u s none) read write = absurd (read (rose _ _ n.fault))
    complete (NoMemory n held s none) read write = (inr (inr (inr s)), memory_short s)
    complete (Refused r h app s none) read write = (inr (inl s), refused_short r h s)
    complete (RefusedInPart r h app up s none) read write = absurd (write up)
    complete (Logged script end h j app s) read write = (log_status end s, run_short script end h j s)
    complete (LoggedInPart script end h j app up s) read write = absurd (write up)
