-- Each list of events has exactly one verdict.
use Rattle.std.specs.Prelude.{◌≡◌, ℕ, ◌+◌, List, [], ◌∷◌, ◌++◌, length, Option, Some, None, option_map}
use Rattle.std.proofs.Common.{suc, refl, sym, ap, ◌∙◌, arith}
use Rattle.w32_base.specs.declared.event.Event.{Event}
use Rattle.script_spec.specs.declared.script.Script.{Script}
use Rattle.posix_spec.specs.State.{PosixState}
use Rattle.posix_spec.specs.Opening.{opening_of}
use Rattle.posix_spec.specs.Run.{PosixRun}
use Rattle.posix_spec.specs.Step.{posix_step}
use Rattle.posix_model.specs.declared.rule.Rule.{Rule}
use Rattle.posix_model.specs.Rules.{rule_of}
use Rattle.run_check.specs.declared.verdict.Verdict.{Verdict}
use Rattle.run_check.specs.declared.verdict.Verdict.TheVariants as verdict
use Rattle.run_check.specs.Judged.{IsVerdict}

-- a run from a state with one step more at its end
pub run-append : (script : Script) (s mid new : PosixState) (es : List Event) (e : Event) →
    PosixRun script s es mid → posix_step script mid e ≡ Some new → PosixRun script s (es ++ e ∷ []) new
run-append script s mid new [] e run step = (new, rw run at step, refl)
run-append script s mid new (x ∷ es) e run step =
    (run.0, run.1, run-append script run.0 mid new es e run.2 step)

-- an event that is no step, with so many before it
record Stop : Type 0 where
  count : ℕ
  rule : Rule

abbrev further : Stop → Stop
further stop = record { count = suc stop.count; rule = stop.rule }

abbrev stop_after : Option PosixState → Rule → (PosixState → Option Stop) → Option Stop
stop_after None rule next = Some (record { count = 0; rule = rule })
stop_after (Some mid) rule next = option_map further (next mid)

-- the first event from a state on that is no step, where there is one
stop_of : Script → PosixState → List Event → Option Stop
stop_of script s [] = None
stop_of script s (e ∷ es) = stop_after (posix_step script s e) (rule_of e) (λ mid. stop_of script mid es)

abbrev verdict_by : Option Stop → Verdict
verdict_by None = verdict.Yes
verdict_by (Some stop) = verdict.No (stop.count + 2) stop.rule

pub verdict_of : Script → List Event → Verdict
verdict_of script events = verdict_by (stop_of script (opening_of script) events)

run_has_none : (script : Script) (s new : PosixState) (es : List Event) → PosixRun script s es new →
    stop_of script s es ≡ None
unfolding stop_of
run_has_none script s new [] run = refl
run_has_none script s new (e ∷ es) run =
    rw run.1 (ap (option_map further) (run_has_none script run.0 new es run.2))

stopped_has : (script : Script) (s state : PosixState) (before : List Event) (e : Event) (rest : List Event) →
    PosixRun script s before state → posix_step script state e ≡ None →
    stop_of script s (before ++ e ∷ rest) ≡ Some (record { count = length before; rule = rule_of e })
unfolding stop_of
stopped_has script s state [] e rest run none = let here : posix_step script s e ≡ None = rw run at none in rw here refl
stopped_has script s state (x ∷ before) e rest run none =
    rw run.1 (ap (option_map further) (stopped_has script run.0 state before e rest run.2 none))

-- what a first event that is no step says of the events from a state on
abbrev Stops : Script → PosixState → List Event → Option Stop → Type 0
Stops script s es None = (new : PosixState) × PosixRun script s es new
Stops script s es (Some stop) = (before : List Event) × (e : Event) × (rest : List Event) × (state : PosixState)
    × (es ≡ before ++ e ∷ rest) × PosixRun script s before state × (posix_step script state e ≡ None)
    × (stop.count ≡ length before) × (stop.rule ≡ rule_of e)

stops_further : (script : Script) (s mid : PosixState) (e : Event) (es : List Event) (o : Option Stop) →
    posix_step script s e ≡ Some mid → Stops script mid es o → Stops script s (e ∷ es) (option_map further o)
stops_further script s mid e es None step (new, run) = (new, (mid, step, run))
stops_further script s mid e es (Some stop) step (before, x, rest, state, parts, run, none, count, rule) =
    (e ∷ before, x, rest, state, ap (λ xs. e ∷ xs) parts, (mid, step, run), none, ap suc count, rule)

stops_after : (script : Script) (s : PosixState) (e : Event) (es : List Event) (o : Option PosixState) →
    ((mid : PosixState) → Stops script mid es (stop_of script mid es)) → posix_step script s e ≡ o →
    Stops script s (e ∷ es) (stop_after o (rule_of e) (λ mid. stop_of script mid es))
stops_after script s e es None next step = ([], e, es, s, refl, refl, step, refl, refl)
stops_after script s e es (Some mid) next step =
    stops_further script s mid e es (stop_of script mid es) step (next mid)

stops : (script : Script) (s : PosixState) (es : List Event) → Stops script s es (stop_of script s es)
unfolding stop_of
stops script s [] = (s, refl)
stops script s (e ∷ es) = stops_after script s e es (posix_step script s e) (λ mid. stops script mid es) refl

verdict_held : (script : Script) (events : List Event) (o : Option Stop) → Stops script (opening_of script) events o →
    IsVerdict script events (verdict_by o)
verdict_held script events None (state, run) = record { state = state; run = run }
verdict_held script events (Some stop) (before, e, rest, state, parts, run, none, count, rule) = record {
  before = before;
  event = e;
  rest = rest;
  parts = parts;
  state = state;
  run = run;
  no_step = none;
  line_is = omega (arith, count);
  rule_is = rule;
}

-- there is one
pub has_verdict : (script : Script) (events : List Event) → IsVerdict script events (verdict_of script events)
unfolding verdict_of
has_verdict script events =
    verdict_held script events (stop_of script (opening_of script) events) (stops script (opening_of script) events)

-- there is no other
pub one_verdict : (script : Script) (events : List Event) (v : Verdict) → IsVerdict script events v →
    v ≡ verdict_of script events
unfolding verdict_of
one_verdict script events verdict.Yes is =
    sym (ap verdict_by (run_has_none script (opening_of script) is.state events is.run))
one_verdict script events (verdict.No line rule) is =
    let stop = stopped_has script (opening_of script) is.state is.before is.event is.rest is.run is.no_step in
    let here : stop_of script (opening_of script) events ≡ Some (record {
      count = length is.before;
      rule = rule_of
          is.event;
    }) = ap (stop_of script (opening_of script)) is.parts ∙ stop in
    let line_is : line ≡ length is.before + 2 = is.line_is in
    let rule_is : rule ≡ rule_of is.event = is.rule_is in
    rw (line_is, rule_is) (sym (ap verdict_by here))
