-- What each status of a `check` says.
use Rattle.std.proofs.Common.{◌≡◌, ℕ, List, Option, Some, None, inl, inr, ◌⊎◌, refl, sym, ◌∙◌, ap, subst, arith}
use Rattle.std.specs.Prelude.{IfSome, ◌≤◌, length}
use Rattle.std.specs.Io.KnownBytes.{Appends}
use Rattle.cyg_io.specs.Counts.{Rose, RoseBy}
use Rattle.cyg_io.specs.Source.{DrawsUpTo}
use Rattle.run_check.specs.declared.judging.Judged.{Judged}
use Rattle.run_check.specs.declared.judging.Judged.TheVariants as judged
use Rattle.run_check.specs.declared.verdict.Verdict.TheVariants as verdict
use Rattle.run_check.specs.Judging.{Judges}
use Rattle.run_check.specs.OneJudgement.{one_judgement}
use Rattle.cyg_cli.specs.Outside.{Outside, Supply, source_of}
use Rattle.cyg_cli.specs.AnswerLines.{line_of, answer_status}
use Rattle.cyg_cli.specs.Checks.{IsAnswer, IsOfWhole, IsOfTooMany, IsJudged, Checks, Unread, Unjudged, Untold, Told}
use Rattle.cyg_cli.specs.Checks.{ToldInPart, ComesTo, ComesToItsText, IsAnswered, IsDenied, IsAnsweredOrShort}
use Rattle.cyg_cli.specs.Checks.{IsAnswerStatus}

-- a text has one answer
pub one_answer : (text : List ℕ) (a b : Judged) → IsAnswer text a → IsAnswer text b → a ≡ b
one_answer text a b (inl (few, h)) (inl (small, k)) = one_judgement text a b h k
one_answer text a b (inl (few, h)) (inr (many, k)) = absurd (omega (arith, few, many))
one_answer text a b (inr (many, h)) (inl (few, k)) = absurd (omega (arith, few, many))
one_answer text a b (inr (many, h)) (inr (large, k)) = h ∙ sym k

-- what was judged is the answer to what the source told
answer_of : (left now : Option (List ℕ)) (faults faults_now given given_now ends ends_now : ℕ) (j : Judged)
    → IsJudged (record { left = left; faults = faults; given = given; ends = ends })
    (record { left = now; faults = faults_now; given = given_now; ends = ends_now }) j
    → IfSome left (λ text. IsAnswer text j)
answer_of None now faults faults_now given given_now ends ends_now j h = tt
answer_of (Some text) now faults faults_now given given_now ends ends_now j h = by_part h.read
  where
    by_part : IsOfWhole (record { left = Some text; faults = faults; given = given; ends = ends })
        (record { left = now; faults = faults_now; given = given_now; ends = ends_now }) j
        ⊎ IsOfTooMany (record { left = Some text; faults = faults; given = given; ends = ends })
        (record { left = now; faults = faults_now; given = given_now; ends = ends_now }) j
        → IsAnswer text j
    by_part (inl w) = inl (subst (λ t. length t ≤ 67108864) w.told w.few, subst (λ t. Judges t j) w.told w.judges)
    by_part (inr m) =
        let size : 67108865 ≤ length text = m.drawn.bytes.0 in inr (omega (arith, size), m.answer)

answered_by : (before after : Outside) (j : Judged) → IsJudged (source_of before) (source_of after) j
    → IfSome before.left (λ text. IsAnswer text j)
answered_by before after j h =
    answer_of before.left after.left before.read_faults after.read_faults before.given after.given before.ends
    after.ends j h

-- what holds at the answer holds at each answer to what the source told
at_each : (P : Judged → Type 0) (left : Option (List ℕ)) (j : Judged) → IfSome left (λ text. IsAnswer text j) → P j
    → IfSome left (λ text. (k : Judged) → IsAnswer text k → P k)
at_each P None j is p = tt
at_each P (Some text) j is p = λ k other. subst P (one_answer text j k is other) p

always : (P : Judged → Type 0) (left : Option (List ℕ)) → ((k : Judged) → P k)
    → IfSome left (λ text. (k : Judged) → IsAnswer text k → P k)
always P None p = tt
always P (Some text) p = λ k is. p k

rose : (before now : ℕ) → RoseBy 1 before now → Rose before now
rose before now h = omega (arith, h)

pub comes_to : (before after : Outside) (status : ℕ) → Checks before after status → ComesToItsText before after status
comes_to before after status (Unread n u s) =
    always (ComesTo before after status) before.left (λ k. inr (inr (inl (s, u.held, rose _ _ n.0))))
comes_to before after status (Unjudged n u s) =
    always (ComesTo before after status) before.left (λ k. inr (inr (inr (s, u.held))))
comes_to before after status (Untold j is u s) =
    always (ComesTo before after status) before.left (λ k. inr (inr (inr (s, u.held))))
comes_to before after status (Told j is app same s) =
    at_each (ComesTo before after status) before.left j (answered_by before after j is) (inl (s, app))
comes_to before after status (ToldInPart j is app one s) =
    at_each (ComesTo before after status) before.left j (answered_by before after j is) (inr (inl
    (s, app, rose _ _ one)))

abbrev AnswerGives : ℕ → Type 0
AnswerGives status = (status ≡ 0) ⊎ (status ≡ 1) ⊎ (status ≡ 3)

statuses : (j : Judged) → AnswerGives (answer_status j)
statuses (judged.ScriptFault line kind) = inr (inr refl)
statuses (judged.LogFault line) = inr (inr refl)
statuses (judged.Verdict verdict.Yes) = inl refl
statuses (judged.Verdict (verdict.No line rule)) = inr (inl refl)

-- the status of an answer is none of these
other_than : (status n : ℕ) (j : Judged) → status ≡ answer_status j → status ≡ n → AnswerGives n
other_than status n j s t = subst AnswerGives (sym s ∙ t) (statuses j)

never : (n : ℕ) → (n ≡ 2) ⊎ (4 ≤ n) → AnswerGives n → ⊥
never n other gives = grind (arith, other, gives)

-- 2 and 6 are no statuses of a `check`
pub not_two : (before after : Outside) (status : ℕ) → Checks before after status → status ≡ 2 → ⊥
not_two before after status (Unread n u s) t = omega (arith, s, t)
not_two before after status (Unjudged n u s) t = omega (arith, s, t)
not_two before after status (Untold j is u s) t = omega (arith, s, t)
not_two before after status (Told j is app same s) t = never 2 (inl refl) (other_than status 2 j s t)
not_two before after status (ToldInPart j is app one s) t = omega (arith, s, t)

pub not_six : (before after : Outside) (status : ℕ) → Checks before after status → status ≡ 6 → ⊥
not_six before after status (Unread n u s) t = omega (arith, s, t)
not_six before after status (Unjudged n u s) t = omega (arith, s, t)
not_six before after status (Untold j is u s) t = omega (arith, s, t)
not_six before after status (Told j is app same s) t = never 6 (inr (omega arith)) (other_than status 6 j s t)
not_six before after status (ToldInPart j is app one s) t = omega (arith, s, t)

-- 4 comes with a fault of the source, 5 with one of the sink, and with 4 and 7 nothing is written
pub at_four : (before after : Outside) (status : ℕ) → Checks before after status → status ≡ 4
    → Rose before.read_faults after.read_faults × (after.held ≡ before.held)
at_four before after status (Unread n u s) t = (rose _ _ n.0, u.held)
at_four before after status (Unjudged n u s) t = absurd (omega (arith, s, t))
at_four before after status (Untold j is u s) t = absurd (omega (arith, s, t))
at_four before after status (Told j is app same s) t = absurd (never 4 (inr (omega arith)) (other_than status 4 j s t))
at_four before after status (ToldInPart j is app one s) t = absurd (omega (arith, s, t))

pub at_five : (before after : Outside) (status : ℕ) → Checks before after status → status ≡ 5
    → Rose before.write_faults after.write_faults
at_five before after status (Unread n u s) t = absurd (omega (arith, s, t))
at_five before after status (Unjudged n u s) t = absurd (omega (arith, s, t))
at_five before after status (Untold j is u s) t = absurd (omega (arith, s, t))
at_five before after status (Told j is app same s) t = absurd (never 5 (inr (omega arith)) (other_than status 5 j s t))
at_five before after status (ToldInPart j is app one s) t = rose _ _ one

pub at_seven : (before after : Outside) (status : ℕ) → Checks before after status → status ≡ 7
    → after.held ≡ before.held
at_seven before after status (Unread n u s) t = u.held
at_seven before after status (Unjudged n u s) t = u.held
at_seven before after status (Untold j is u s) t = u.held
at_seven before after status (Told j is app same s) t = absurd (never 7 (inr (omega arith)) (other_than status 7 j s t))
at_seven before after status (ToldInPart j is app one s) t = absurd (omega (arith, s, t))

-- the statuses that go with an answer
pub answered : (before after : Outside) (status : ℕ) → Checks before after status → AnswerGives status
    → IsAnswered before.left before.held after.held status
answered before after status (Unread n u s) gives = absurd (never status (inr (omega (arith, s))) gives)
answered before after status (Unjudged n u s) gives = absurd (never status (inr (omega (arith, s))) gives)
answered before after status (Untold j is u s) gives = absurd (never status (inr (omega (arith, s))) gives)
answered before after status (Told j is app same s) gives =
    record { answer = j; status_is = s; written = app; text = answered_by before after j is }
answered before after status (ToldInPart j is app one s) gives = absurd (never status (inr (omega (arith, s))) gives)

-- an answer of status 1 is the judgement of a text that isn't too long
judged_no : (left : Option (List ℕ)) (line : ℕ) (rule : _)
    → IfSome left (λ text. IsAnswer text (judged.Verdict (verdict.No line rule)))
    → IfSome left (λ text. Judges text (judged.Verdict (verdict.No line rule)))
judged_no None line rule h = tt
judged_no (Some text) line rule (inl (few, h)) = h
judged_no (Some text) line rule (inr (many, h)) = cc

denied_by : (before after : Outside) (status : ℕ) (h : IsAnswered before.left before.held after.held status)
    → answer_status h.answer ≡ 1
    → IsDenied before.left before.held after.held
denied_by before after status h one = by_answer h.answer refl one
  where
    by_answer : (j : Judged) → h.answer ≡ j → answer_status j ≡ 1 → IsDenied before.left before.held after.held
    by_answer (judged.ScriptFault line kind) is e = cc
    by_answer (judged.LogFault line) is e = cc
    by_answer (judged.Verdict verdict.Yes) is e = cc
    by_answer (judged.Verdict (verdict.No line rule)) is e = record {
      line = line;
      rule = rule;
      written = subst (λ j. Appends before.held after.held (line_of j)) is h.written;
      text = judged_no before.left line rule (subst (λ j. IfSome before.left (λ text. IsAnswer text j)) is h.text);
    }

pub denied : (before after : Outside) (status : ℕ) → Checks before after status → status ≡ 1
    → IsDenied before.left before.held after.held
denied before after status h one =
    let a = answered before after status h (inr (inl one)) in
    denied_by before after status a (sym a.status_is ∙ one)

-- with neither a fault of the source nor one of the sink
sound_status : (status : ℕ) (j : Judged) → status ≡ answer_status j → IsAnswerStatus status
sound_status status j s = grind (arith, s, statuses j)

pub complete_check : (before after : Outside) (status : ℕ) → Checks before after status
    → ¬ Rose before.read_faults after.read_faults → ¬ Rose before.write_faults after.write_faults
    → IsAnswerStatus status × IfSome before.left (IsAnsweredOrShort status)
complete_check before after status (Unread n u s) read write = absurd (read (rose _ _ n.0))
complete_check before after status (Unjudged n u s) read write =
    (inr (inr (inr s)), always (λ k. (status ≡ answer_status k) ⊎ (status ≡ 7)) before.left (λ k. inr s))
complete_check before after status (Untold j is u s) read write =
    (inr (inr (inr s)), always (λ k. (status ≡ answer_status k) ⊎ (status ≡ 7)) before.left (λ k. inr s))
complete_check before after status (Told j is app same s) read write = (
  sound_status status j s,
  at_each (λ k. (status ≡ answer_status k) ⊎ (status ≡ 7)) before.left j (answered_by before after j is) (inl s),
)
complete_check before after status (ToldInPart j is app one s) read write = absurd (write (rose _ _ one))

-- how many bytes were read
up_to : (before after : Supply) (j : Judged) → IsJudged before after j
    → DrawsUpTo 67108865 before.left after.left before.given after.given
up_to before after j h = by_part h.read
  where
    by_part : IsOfWhole before after j ⊎ IsOfTooMany before after j
        → DrawsUpTo 67108865 before.left after.left before.given after.given
    by_part (inl w) = (length w.text, omega (arith, w.few), w.drawn)
    by_part (inr m) = (67108865, omega arith, m.drawn)

one_more : (left now : Option (List ℕ)) (given given_now : ℕ) → DrawsUpTo 67108864 left now given given_now
    → DrawsUpTo 67108865 left now given given_now
one_more left now given given_now (n, most, drawn) = (n, omega (arith, most), drawn)

pub asked : (before after : Outside) (status : ℕ) → Checks before after status
    → DrawsUpTo 67108865 before.left after.left before.given after.given
asked before after status (Unread n u s) = one_more _ _ _ _ n.2
asked before after status (Unjudged n u s) = one_more _ _ _ _ n.1
asked before after status (Untold j is u s) = up_to (source_of before) (source_of after) j is
asked before after status (Told j is app same s) = up_to (source_of before) (source_of after) j is
asked before after status (ToldInPart j is app one s) = up_to (source_of before) (source_of after) j is

-- where the log's events have a verdict, the text was read whole
read_whole : (before after : Supply) (j : Judged) → IsJudged before after j
    → (answer_status j ≡ 0) ⊎ (answer_status j ≡ 1)
    → RoseBy 1 before.ends after.ends
read_whole before after j h verdict = by_part h.read
  where
    by_part : IsOfWhole before after j ⊎ IsOfTooMany before after j → RoseBy 1 before.ends after.ends
    by_part (inl w) = w.ended
    by_part (inr m) =
        let three : answer_status j ≡ 3 = ap answer_status m.answer in absurd (grind (arith, three, verdict))

pub whole_check : (before after : Outside) (status : ℕ) → Checks before after status → (status ≡ 0) ⊎ (status ≡ 1)
    → RoseBy 1 before.ends after.ends
whole_check before after status (Unread n u s) is = absurd (grind (arith, s, is))
whole_check before after status (Unjudged n u s) is = absurd (grind (arith, s, is))
whole_check before after status (Untold j r u s) is = absurd (grind (arith, s, is))
whole_check before after status (Told j r app same s) is =
    read_whole (source_of before) (source_of after) j r (subst (λ n. (n ≡ 0) ⊎ (n ≡ 1)) s is)
whole_check before after status (ToldInPart j r app one s) is = absurd (grind (arith, s, is))
