-- How a world goes through the lines of its script's schedule.
use Rattle.std.proofs.Common.{◌≡◌, ℕ, zero, suc, ◌+◌, ◌≤◌, ◌<◌, Bool, true, false, List, [], ◌∷◌, ◌++◌, length, Option}
use Rattle.std.proofs.Common.{Some, None, inl, inr, refl, sym, ap, ◌∙◌, subst, arith}
use Rattle.std.proofs.lemmas.List.{append_assoc, append-nil}
use Rattle.w32_base.specs.declared.call.Call.{Call}
use Rattle.w32_base.specs.declared.call.Reply.{Reply}
use Rattle.w32_base.specs.declared.entry.Directive.{Directive}
use Rattle.w32_base.specs.declared.entry.Directive.TheVariants as directive
use Rattle.w32_base.specs.declared.entry.End.{End}
use Rattle.w32_base.specs.declared.entry.End.TheVariants as ending
use Rattle.w32_base.specs.declared.entry.Entry.{Entry}
use Rattle.w32_base.specs.declared.entry.Outcome.{Outcome}
use Rattle.w32_base.specs.declared.own.Own.{Own}
use Rattle.w32_base.specs.declared.part.After.{After}
use Rattle.w32_base.specs.declared.setup.Setup.{Setup}
use Rattle.script_spec.specs.declared.script.ScheduleLine.{ScheduleLine}
use Rattle.script_spec.specs.declared.script.ScheduleLine.TheVariants.{Given, Steps, Settle}
use Rattle.script_spec.specs.declared.script.Script.{Script}
use Rattle.win32_spec.specs.Ready.{IsQuiet, IsNextReady}
use Rattle.win32_spec.specs.Schedule.{Position, GivesNext, IsDone, EndsBy}
use Rattle.win32_spec.specs.State.{Win32State}
use Rattle.layer_spec.specs.Headline.{IsScheduledTo, IsJournalOf}
use Rattle.layer_spec.specs.HistoryLaws.{length-entries_of}
use Rattle.layer_spec.specs.Moment.{Moment, Seen, entries_of}
use Rattle.w32_machine.specs.Contract.{keys_of, keys_of_line, key_lines}
use Rattle.layer_world.specs.Scheduled.{IsAt, IsSpent}
use Rattle.layer_world.specs.World.{WorldValue, moment_of, entry_to, keys_entered, IsWorldOf, Directed}

-- Lines that have nothing to give, and more such lines, have nothing to give together.
pub done-append : (s : Win32State) (xs ys : List ScheduleLine) → IsDone s xs → IsDone s ys → IsDone s (xs ++ ys)
done-append s [] ys h k = k
done-append s (Given d ∷ xs) ys h k = absurd h
done-append s (Steps zero ∷ xs) ys h k = done-append s xs ys h k
done-append s (Steps (suc n) ∷ xs) ys h k = (h.0, done-append s xs ys h.1 k)
done-append s (Settle ∷ xs) ys h k = (h.0, done-append s xs ys h.1 k)

pub done-behind : (s : Win32State) (xs ys : List ScheduleLine) → IsDone s (xs ++ ys) → IsDone s ys
done-behind s [] ys h = h
done-behind s (Given d ∷ xs) ys h = absurd h
done-behind s (Steps zero ∷ xs) ys h = done-behind s xs ys h
done-behind s (Steps (suc n) ∷ xs) ys h = done-behind s xs ys h.1
done-behind s (Settle ∷ xs) ys h = done-behind s xs ys h.1

-- They give way to the lines behind them.
pub gives-behind : (s : Win32State) (at : Position) (passed lines : List ScheduleLine) (d : Directive) (next : Position)
    → IsDone s passed → GivesNext s at lines d next → GivesNext s at (passed ++ lines) d next
gives-behind s at [] lines d next h g = g
gives-behind s at (Given x ∷ passed) lines d next h g = absurd h
gives-behind s at (Steps zero ∷ passed) lines d next h g = gives-behind s at passed lines d next h g
gives-behind s at (Steps (suc n) ∷ passed) lines d next h g =
    inr (h.0, gives-behind s at passed lines d next h.1 g)
gives-behind s at (Settle ∷ passed) lines d next h g = inr (h.0, gives-behind s at passed lines d next h.1 g)

pub keys-append : (es : List Entry) (e : Entry) → keys_entered (es ++ e ∷ []) ≡ keys_entered es + keys_of e.directive
keys-append [] e = omega arith
keys-append (x ∷ es) e = omega (arith, keys-append es e)

none_seen : {A : Type 0} → (past : List (Seen A)) → [] ≡ entries_of past → past ≡ []
none_seen [] e = refl
none_seen (x ∷ past) e = absurd (
    let n : length (entries_of (x ∷ past)) ≡ length (x ∷ past) = length-entries_of (x ∷ past) in
    let z : 0 ≡ suc (length past) = ap length e ∙ n in omega (arith, z))

module _ {A : Type 0} (posted_of : A → Call) (goes : A → Own → Setup → Reply → A → Own → After → Type 0)
    (opening : A → Type 0) (slot_of thread_of_part : A → ℕ)
    (clause : Script → List (Seen A) → Moment A → ℕ → A → Type 0) where
  abbrev At : WorldValue A → List ScheduleLine → ℕ → ℕ → Type 0
  At w lines slot thread = IsAt posted_of goes opening slot_of thread_of_part clause w lines slot thread

  -- A world without entries is at the first line.
  pub at-opening : (w : WorldValue A) (past : List (Seen A)) → (posix : _)
      → IsWorldOf posted_of goes opening slot_of thread_of_part clause w past posix → w.entries ≡ []
      → At w w.script.directives 64 2
  at-opening w past posix world none =
      let empty : past ≡ [] = none_seen past (sym none ∙ world.entries) in
      record {
        past = past;
        posix = posix;
        world = world;
        passed = [];
        done = tt;
        scheduled = subst (λ p. IsScheduledTo w.script p (record {
          lines = w.script.directives;
          slot = 64;
          thread = 2;
        })) (sym empty) refl;
        keys = omega (arith, ap keys_entered none);
      }

  -- A line that has nothing to give gives way.
  pub at-passes : (w : WorldValue A) (line : ScheduleLine) (lines : List ScheduleLine) (slot thread : ℕ)
      → IsDone w.state.win32 (line ∷ []) → keys_of_line line ≡ 0 → At w (line ∷ lines) slot thread
      → At w lines slot thread
  at-passes w line lines slot thread done keyless h = record {
    past = h.past;
    posix = h.posix;
    world = h.world;
    passed = h.passed ++ line ∷ [];
    done = done-append w.state.win32 h.passed (line ∷ []) h.done done;
    scheduled = subst (λ ls. IsScheduledTo w.script h.past (record { lines = ls; slot = slot; thread = thread }))
        (sym (append_assoc h.passed (line ∷ []) lines)) h.scheduled;
    keys = omega (arith, keyless, h.keys);
  }

  -- A directive that the lines give is carried out.
  pub at-directs : (w new : WorldValue A) (lines left : List ScheduleLine) (slot thread next_slot next : ℕ)
      (d : Directive) (came : Outcome)
      → ((front : List ScheduleLine) → GivesNext w.state.win32 (record { lines = front; slot = slot; thread = thread })
      lines d (record { lines = left; slot = next_slot; thread = next }))
      → keys_of d + key_lines left ≡ key_lines lines
      → Directed posted_of goes opening slot_of thread_of_part clause w d came new
      → At w lines slot thread → At new left next_slot next
  at-directs w new lines left slot thread next_slot next d came gives keys directed h =
      let on = directed.history h.past h.posix h.world in
      record {
        past = record { before = moment_of w h.posix; entry = entry_to d directed.called came new.state } ∷ h.past;
        posix = on.0;
        world = on.1;
        passed = [];
        done = tt;
        scheduled = subst (λ s. IsScheduledTo s
            (record { before = moment_of w h.posix; entry = entry_to d directed.called came new.state } ∷ h.past)
            (record { lines = left; slot = next_slot; thread = next })) (sym directed.script) (
              record { lines = h.passed ++ lines; slot = slot; thread = thread },
              h.scheduled,
              gives-behind w.state.win32 (record { lines = h.passed ++ lines; slot = slot; thread = thread }) h.passed
                  lines
                  d (record { lines = left; slot = next_slot; thread = next }) h.done (gives (h.passed ++ lines)),
            );
        keys = subst (λ s. keys_entered new.entries + key_lines left ≡ key_lines s.directives) (sym directed.script)
            (omega (
              arith,
              h.keys,
              keys,
              ap keys_entered directed.entries,
              keys-append w.entries (entry_to d directed.called came new.state),
            ));
      }

  -- A run that is at an end is the journal of its script.
  pub at-end : (w : WorldValue A) (lines : List ScheduleLine) (slot thread : ℕ) (end : End)
      → (h : At w lines slot thread)
      → EndsBy w.script.setup.limits.budget (length w.entries) w.state.win32 (h.passed ++ lines) end
      → IsJournalOf posted_of goes opening slot_of thread_of_part w.script w.entries end
  at-end w lines slot thread end h ends = record {
    past = h.past;
    now = moment_of w h.posix;
    history = h.world.world.history;
    in_order = h.world.entries;
    schedule = record {
      at = record { lines = h.passed ++ lines; slot = slot; thread = thread };
      scheduled = h.scheduled;
      within = subst (λ n. EndsBy w.script.setup.limits.budget n w.state.win32 (h.passed ++ lines) end)
          (ap length h.world.entries ∙ length-entries_of h.past) ends;
    };
  }

  -- It ends by the budget where work remains,
  pub spent-end : (w : WorldValue A) → IsSpent posted_of goes opening slot_of thread_of_part clause w
      → IsJournalOf posted_of goes opening slot_of thread_of_part w.script w.entries ending.Budget
  spent-end w h = at-end w h.lines h.slot h.thread ending.Budget h.at
      (h.full, λ done. h.remains (done-behind w.state.win32 h.at.passed h.lines done))

  -- and else where no line is left.
  pub quiet-end : (w : WorldValue A) (slot thread : ℕ) → length w.entries ≤ w.script.setup.limits.budget
      → IsQuiet w.state.win32 → At w [] slot thread
      → IsJournalOf posted_of goes opening slot_of thread_of_part w.script w.entries ending.Quiet
  quiet-end w slot thread few quiet h = at-end w [] slot thread ending.Quiet h
      (few, done-append w.state.win32 h.passed [] h.done tt, quiet)

  pub given-end : (w : WorldValue A) (slot thread : ℕ) → length w.entries ≤ w.script.setup.limits.budget
      → (IsQuiet w.state.win32 → ⊥) → At w [] slot thread
      → IsJournalOf posted_of goes opening slot_of thread_of_part w.script w.entries ending.Given
  given-end w slot thread few busy h = at-end w [] slot thread ending.Given h
      (few, done-append w.state.win32 h.passed [] h.done tt, busy)
