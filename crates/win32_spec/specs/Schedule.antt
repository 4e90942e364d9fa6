-- The directives that a script's schedule gives, one after another.
use Rattle.std.specs.Prelude.{◌≡◌, ℕ, ◌≤◌, List, [], ◌∷◌, length, zero, suc, ◌⊎◌}
use Rattle.w32_base.specs.declared.entry.Directive.{Directive}
use Rattle.w32_base.specs.declared.entry.Directive.TheVariants as directive
use Rattle.w32_base.specs.declared.entry.Entry.{Entry}
use Rattle.w32_base.specs.declared.entry.End.{End}
use Rattle.w32_base.specs.declared.entry.End.TheVariants as ending
use Rattle.script_spec.specs.declared.script.Script.{Script}
use Rattle.script_spec.specs.declared.script.ScheduleLine.{ScheduleLine}
use Rattle.script_spec.specs.declared.script.ScheduleLine.TheVariants.{Given, Steps, Settle}
use Rattle.win32_spec.specs.State.{Win32State}
use Rattle.win32_spec.specs.Ready.{IsQuiet, IsNextReady}
use Rattle.win32_spec.specs.Run.{DirectiveStep}

-- where a schedule is: the lines that are left, and the thread to which the round rule last gave a turn
pub record Position : Type 0 where
  pub lines : List ScheduleLine
  pub slot : ℕ
  pub thread : ℕ

-- the round begins with thread 0 of slot 0, which comes after the last thread of the last slot
abbrev pub opening_position : List ScheduleLine → Position
opening_position lines = record { lines = lines; slot = 64; thread = 2 }

-- the round rule gives a turn in this state, after which these lines are left
pub record GivesTurn (s : Win32State) (at : Position) (left : List ScheduleLine) (given : Directive)
    (next : Position) : Type 0 where
  pub slot : ℕ
  pub thread : ℕ
  pub ready : IsNextReady s at.slot at.thread slot thread
  pub turn : given ≡ directive.Turn slot thread
  pub after : next ≡ record { lines = left; slot = slot; thread = thread }

-- In this state the lines give this directive next. A line of turns that has none left, or finds the state quiet, gives
-- way. A directive of the script's own leaves the round where it is.
abbrev pub GivesNext : Win32State → Position → List ScheduleLine → Directive → Position → Type 0
GivesNext s at [] given next = ⊥
GivesNext s at (Given d ∷ lines) given next = (given ≡ d) × (next ≡ record at { lines = lines })
GivesNext s at (Steps zero ∷ lines) given next = GivesNext s at lines given next
GivesNext s at (Steps (suc n) ∷ lines) given next =
    GivesTurn s at (Steps n ∷ lines) given next ⊎ (IsQuiet s × GivesNext s at lines given next)
GivesNext s at (Settle ∷ lines) given next =
    GivesTurn s at (Settle ∷ lines) given next ⊎ (IsQuiet s × GivesNext s at lines given next)

-- In this state the lines have nothing more to give: no work remains.
abbrev pub IsDone : Win32State → List ScheduleLine → Type 0
IsDone s [] = Unit {0}
IsDone s (Given d ∷ lines) = ⊥
IsDone s (Steps zero ∷ lines) = IsDone s lines
IsDone s (Steps (suc n) ∷ lines) = IsQuiet s × IsDone s lines
IsDone s (Settle ∷ lines) = IsQuiet s × IsDone s lines

-- The entries are steps under the directives that the schedule gives from one position on, to another.
abbrev pub ScheduledRun : Script → Win32State → Position → List Entry → Win32State → Position → Type 0
ScheduledRun script s at [] new next = (new ≡ s) × (next ≡ at)
ScheduledRun script s at (e ∷ es) new next = (mid : Win32State) × (then : Position)
    × GivesNext s at at.lines e.directive then × DirectiveStep script s e mid × ScheduledRun script mid then es new next

-- How a run ends in this state, where the journal has so many entries, which are never more than the budget: by the
-- budget exactly where it is used up and work remains.
abbrev pub EndsBy : ℕ → ℕ → Win32State → List ScheduleLine → End → Type 0
EndsBy budget entries s lines ending.Budget = (entries ≡ budget) × (IsDone s lines → ⊥)
EndsBy budget entries s lines ending.Quiet = (entries ≤ budget) × IsDone s lines × IsQuiet s
EndsBy budget entries s lines ending.Given = (entries ≤ budget) × IsDone s lines × (IsQuiet s → ⊥)

-- The journal follows the script's schedule from an opening state on, to its end or to the budget.
pub record FollowsSchedule (script : Script) (opening : Win32State) (entries : List Entry) (last : Win32State)
    (end : End) : Type 0 where
  pub at : Position
  pub run : ScheduledRun script opening (opening_position script.directives) entries last at
  pub within : EndsBy script.setup.limits.budget (length entries) last at.lines end
