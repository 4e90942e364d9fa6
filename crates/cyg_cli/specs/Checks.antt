-- How a `check` ends.
use Rattle.std.specs.Prelude.{◌≡◌, ℕ, ◌<◌, ◌≤◌, ◌⊎◌, List, length, Option, IfSome}
use Rattle.std.specs.Io.KnownBytes.{Appends}
use Rattle.script_spec.specs.declared.fault.Kind.TheVariants.{Large}
use Rattle.cyg_io.specs.Counts.{Rose, RoseBy}
use Rattle.cyg_io.specs.Source.{Draws, DrawsUpTo}
use Rattle.cyg_io.specs.Sink.{AppendsPart}
use Rattle.run_check.specs.declared.judging.Judged.{Judged}
use Rattle.run_check.specs.declared.judging.Judged.TheVariants as judged
use Rattle.run_check.specs.declared.verdict.Verdict.TheVariants as verdict
use Rattle.posix_model.specs.declared.rule.Rule.{Rule}
use Rattle.run_check.specs.Judging.{Judges}
use Rattle.cyg_cli.specs.declared.checking.NotJudged.{NotJudged}
use Rattle.cyg_cli.specs.declared.checking.NotJudged.TheVariants as not_judged
use Rattle.cyg_cli.specs.Outside.{Outside, Supply, source_of, IsUnwritten}
use Rattle.cyg_cli.specs.AnswerLines.{line_of, answer_status}

-- What a text is: it is longer than a script and its log may be, which is the fault of line 0, or it is what its script
-- and its log say.
abbrev pub IsAnswer : List ℕ → Judged → Type 0
IsAnswer text j = ((length text ≤ 67108864) × Judges text j)
    ⊎ ((67108864 < length text) × (j ≡ judged.ScriptFault 0 Large))

-- The source was read to its end, and what it gave is this. Where it told its bytes, it gave all of them.
pub record IsOfWhole (before after : Supply) (j : Judged) : Type 0 where
  pub text : List ℕ
  pub told : IfSome before.left (λ left. text ≡ left)
  pub few : length text ≤ 67108864
  pub drawn : Draws (length text) before.left after.left before.given after.given
  pub ended : RoseBy 1 before.ends after.ends
  pub judges : Judges text j

-- one byte more than allowed was read
pub record IsOfTooMany (before after : Supply) (j : Judged) : Type 0 where
  pub drawn : Draws 67108865 before.left after.left before.given after.given
  pub ends : after.ends ≡ before.ends
  pub answer : j ≡ judged.ScriptFault 0 Large

-- the source had no fault, and what was read of it is this
pub record IsJudged (before after : Supply) (j : Judged) : Type 0 where
  pub faults : after.faults ≡ before.faults
  pub read : IsOfWhole before after j ⊎ IsOfTooMany before after j

-- Why it isn't told what the source gives: the source had a fault before it answered its end, or memory ran out.
abbrev pub IsNotJudged : Supply → Supply → NotJudged → Type 0
IsNotJudged before after not_judged.Read =
    RoseBy 1 before.faults after.faults × (after.ends ≡ before.ends)
    × DrawsUpTo 67108864 before.left after.left before.given after.given
IsNotJudged before after not_judged.Memory =
    (after.faults ≡ before.faults) × DrawsUpTo 67108864 before.left after.left before.given after.given

-- the line was written; or some first bytes of it, where the sink had a fault; or nothing, where memory ran out
abbrev pub IsTold : Judged → Option (List ℕ) → Option (List ℕ) → ℕ → ℕ → ℕ → Type 0
IsTold j before after faults now status =
    ((status ≡ answer_status j) × Appends before after (line_of j) × (now ≡ faults))
    ⊎ ((status ≡ 5) × AppendsPart before after (line_of j) × RoseBy 1 faults now)
    ⊎ ((status ≡ 7) × (after ≡ before) × (now ≡ faults))

-- The ways in which a `check` ends, with its status.
pub data Checks (before after : Outside) (status : ℕ) : Type 0 where
  -- the source had a fault, and nothing is written
  Unread : IsNotJudged (source_of before) (source_of after) not_judged.Read → IsUnwritten before after → status ≡ 4
      → Checks before after status
  -- memory ran out before it was told what the source gives, and nothing is written
  Unjudged : IsNotJudged (source_of before) (source_of after) not_judged.Memory → IsUnwritten before after
      → status ≡ 7 → Checks before after status
  -- memory ran out before the line was made, and nothing is written
  Untold : (j : Judged) → IsJudged (source_of before) (source_of after) j → IsUnwritten before after → status ≡ 7
      → Checks before after status
  -- the line was written
  Told : (j : Judged) → IsJudged (source_of before) (source_of after) j → Appends before.held after.held (line_of j)
      → after.write_faults ≡ before.write_faults → status ≡ answer_status j → Checks before after status
  -- the sink had a fault in it
  ToldInPart : (j : Judged) → IsJudged (source_of before) (source_of after) j
      → AppendsPart before.held after.held (line_of j) → RoseBy 1 before.write_faults after.write_faults → status ≡ 5
      → Checks before after status

-- What a `check` comes to where its text is this: the line was written; or some first bytes of it, where the sink had a
-- fault; or nothing, where the source had a fault or memory ran out.
abbrev pub ComesTo : Outside → Outside → ℕ → Judged → Type 0
ComesTo before after status j =
    ((status ≡ answer_status j) × Appends before.held after.held (line_of j))
    ⊎ ((status ≡ 5) × AppendsPart before.held after.held (line_of j) × Rose before.write_faults after.write_faults)
    ⊎ ((status ≡ 4) × (after.held ≡ before.held) × Rose before.read_faults after.read_faults)
    ⊎ ((status ≡ 7) × (after.held ≡ before.held))

-- where the source told its bytes, the `check` comes to what they are
abbrev pub ComesToItsText : Outside → Outside → ℕ → Type 0
ComesToItsText before after status =
    IfSome before.left (λ text. (j : Judged) → IsAnswer text j → ComesTo before after status j)

-- A line was written whole, with its status. Where the source told its bytes, it says what they are.
pub record IsAnswered (left before now : Option (List ℕ)) (status : ℕ) : Type 0 where
  pub answer : Judged
  pub status_is : status ≡ answer_status answer
  pub written : Appends before now (line_of answer)
  pub text : IfSome left (λ text. IsAnswer text answer)

-- The line `no LINE RULE` was written. Where the source told its bytes, the log's first event that is no step stands on
-- this line and is of this kind.
pub record IsDenied (left before now : Option (List ℕ)) : Type 0 where
  pub line : ℕ
  pub rule : Rule
  pub written : Appends before now (line_of (judged.Verdict (verdict.No line rule)))
  pub text : IfSome left (λ text. Judges text (judged.Verdict (verdict.No line rule)))

-- what the text is was told, or memory ran out
abbrev pub IsAnsweredOrShort : ℕ → List ℕ → Type 0
IsAnsweredOrShort status text = (j : Judged) → IsAnswer text j → (status ≡ answer_status j) ⊎ (status ≡ 7)

-- a status that goes with an answer, or that of memory that ran out
abbrev pub IsAnswerStatus : ℕ → Type 0
IsAnswerStatus status = (status ≡ 0) ⊎ (status ≡ 1) ⊎ (status ≡ 3) ⊎ (status ≡ 7)
