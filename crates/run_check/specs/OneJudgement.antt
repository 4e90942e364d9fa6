-- A text is one thing: two judgements of it are the same.
use Rattle.std.specs.Prelude.{◌≡◌, ℕ, List, Option, Some, None}
use Rattle.std.proofs.Common.{refl, sym, ap, ◌∙◌, subst, arith}
use Rattle.script_spec.specs.declared.fault.Kind.{Kind}
use Rattle.script_spec.specs.declared.script.Script.{Script}
use Rattle.script_spec.specs.FirstFault.{fault_of}
use Rattle.script_spec.specs.OneScriptLaws.{one_script}
use Rattle.script_spec.specs.FaultlessLaws.{script-faultless}
use Rattle.log_spec.specs.EventsOfText.{one_list_of_events}
use Rattle.log_spec.specs.LogFaultLaws.{one_fault}
use Rattle.run_check.specs.declared.judging.Judged.{Judged}
use Rattle.run_check.specs.declared.judging.Judged.TheVariants as judged
use Rattle.run_check.specs.Judged.{IsVerdict}
use Rattle.run_check.specs.JudgedLaws.{one_verdict}
use Rattle.run_check.specs.Judging.{JudgesLog, JudgesParts, Judges, IsOfScript}
use Rattle.run_check.specs.Parts.{IsFirstBar, script_part, log_part}

-- the first bar stands in one place
one_bar : (text : List ℕ) (a b : Option ℕ) → IsFirstBar text a → IsFirstBar text b → a ≡ b
one_bar text None None h k = refl
one_bar text None (Some n) h k = absurd (h n k.0)
one_bar text (Some m) None h k = absurd (k m h.0)
one_bar text (Some m) (Some n) h k =
    let same : m ≡ n = omega (arith, h.1 n k.0, k.1 m h.0) in
    ap (λ (x : ℕ). Some x) same

-- what a log is, given the script
one_of_log : (script : Script) (log : List ℕ) (a b : Judged) → JudgesLog script log a → JudgesLog script log b → a ≡ b
one_of_log script log (judged.ScriptFault line kind) b h k = absurd h
one_of_log script log (judged.LogFault line) (judged.ScriptFault other kind) h k = absurd k
one_of_log script log (judged.Verdict v) (judged.ScriptFault other kind) h k = absurd k
one_of_log script log (judged.LogFault line) (judged.LogFault other) h k =
    ap (λ (n : ℕ). judged.LogFault n) (one_fault script log line other h k)
one_of_log script log (judged.LogFault line) (judged.Verdict w) h k = absurd (h.no_text k.events k.log_is)
one_of_log script log (judged.Verdict v) (judged.LogFault other) h k = absurd (k.no_text h.events h.log_is)
one_of_log script log (judged.Verdict v) (judged.Verdict w) h k =
    let same = one_list_of_events script log h.events k.events h.log_is k.log_is in
    let of_same : IsVerdict script h.events w = subst (λ es. IsVerdict script es w) (sym same) k.verdict_is in
    ap (λ x. judged.Verdict x)
    (one_verdict script h.events v h.verdict_is ∙ sym (one_verdict script h.events w of_same))

one_of_script : (text log : List ℕ) (a b : Judged) → IsOfScript text log a → IsOfScript text log b → a ≡ b
one_of_script text log a b h k =
    let same = one_script text h.script k.script h.script_is k.script_is in
    one_of_log h.script log a b h.log_is (subst (λ s. JudgesLog s log b) (sym same) k.log_is)

-- what a text with this fault is
abbrev by_fault : Option (ℕ × Kind) → Judged
by_fault None = judged.LogFault 0
by_fault (Some fault) = judged.ScriptFault fault.0 fault.1

-- what is found is one fault, or none
same_fault : (found : Option (ℕ × Kind)) (line other : ℕ) (kind sort : Kind) → found ≡ Some (line, kind)
    → found ≡ Some (other, sort) → judged.ScriptFault line kind ≡ judged.ScriptFault other sort
same_fault found line other kind sort h k = ap by_fault (sym h ∙ k)

fault_or_none : (found : Option (ℕ × Kind)) (fault : ℕ × Kind) → found ≡ Some fault → found ≡ None → ⊥
fault_or_none found fault h k = let same : Some fault ≡ None = sym h ∙ k in cc

-- a text with a fault is no script's
no_script : (text log : List ℕ) (fault : ℕ × Kind) (j : Judged) → fault_of text ≡ Some fault → IsOfScript text log j → ⊥
no_script text log fault j h k = fault_or_none (fault_of text) fault h (script-faultless text k.script k.script_is)

-- what a script's text and a log are
one_of_parts : (text log : List ℕ) (a b : Judged) → JudgesParts text log a → JudgesParts text log b → a ≡ b
one_of_parts text log (judged.ScriptFault line kind) (judged.ScriptFault other sort) h k =
    same_fault (fault_of text) line other kind sort h k
one_of_parts text log (judged.ScriptFault line kind) (judged.LogFault other) h k =
    absurd (no_script text log (line, kind) (judged.LogFault other) h k)
one_of_parts text log (judged.ScriptFault line kind) (judged.Verdict w) h k =
    absurd (no_script text log (line, kind) (judged.Verdict w) h k)
one_of_parts text log (judged.LogFault line) (judged.ScriptFault other sort) h k =
    absurd (no_script text log (other, sort) (judged.LogFault line) k h)
one_of_parts text log (judged.Verdict v) (judged.ScriptFault other sort) h k =
    absurd (no_script text log (other, sort) (judged.Verdict v) k h)
one_of_parts text log (judged.LogFault line) (judged.LogFault other) h k =
    one_of_script text log (judged.LogFault line) (judged.LogFault other) h k
one_of_parts text log (judged.LogFault line) (judged.Verdict w) h k =
    one_of_script text log (judged.LogFault line) (judged.Verdict w) h k
one_of_parts text log (judged.Verdict v) (judged.LogFault other) h k =
    one_of_script text log (judged.Verdict v) (judged.LogFault other) h k
one_of_parts text log (judged.Verdict v) (judged.Verdict w) h k =
    one_of_script text log (judged.Verdict v) (judged.Verdict w) h k

-- A text has at most one judgement.
pub one_judgement : (text : List ℕ) (a b : Judged) → Judges text a → Judges text b → a ≡ b
one_judgement text a b h k =
    let bar = one_bar text h.parts.bar k.parts.bar h.parts.is_first k.parts.is_first in
    let script : h.script ≡ k.script = h.parts.script_is ∙ ap (script_part text) bar ∙ sym k.parts.script_is in
    let log : h.log ≡ k.log = h.parts.log_is ∙ ap (log_part text) bar ∙ sym k.parts.log_is in
    let at_log = subst (λ l. JudgesParts k.script l b) (sym log) k.judges in
    one_of_parts h.script h.log a b h.judges (subst (λ s. JudgesParts s h.log b) (sym script) at_log)
