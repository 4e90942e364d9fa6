use Rattle.std.proofs.Common.{◌∙◌, ◌≡◌, ℕ, List, true, false, sym, rules}
use Rattle.std.proofs.lemmas.Result.{err_from_is_err_and}
use Rattle.std.specs.Prelude.{Ok}
use Rattle.std.specs.Fmt.{decimal}
use Rattle.cyg_script.proofs.Choices.{of_ok}
use Rattle.cyg_script.proofs.LineForms.{own_fault, no_own_fault, wrong_heap, wrong_stack, own_text}
use Rattle.cyg_script.proofs.line.own_line.Goals as goal

pub returns-then-not-is_same-clause-fault : goal.returns-then-not-is_same-clause-fault
returns-then-not-is_same-clause-fault c =
    let wrong : c.is_same.result ≡ false = search rules in
    wrong_heap _ (
      c.in-Some.word.now,
      c.in-Some.heap_word.now,
      c.in-Some.heap.now,
      c.in-Some.stack_word.now,
      c.in-Some.stack.now,
    ) c.in-Some.ensures (sym c.is_same.ensures ∙ wrong)

pub returns-then-not-is_same-2-clause-fault : goal.returns-then-not-is_same-2-clause-fault
returns-then-not-is_same-2-clause-fault c =
    let wrong : c.is_same-in-Some.result ≡ false = search rules in
    wrong_stack _ (
      c.in-Some.word.now,
      c.in-Some.heap_word.now,
      c.in-Some.heap.now,
      c.in-Some.stack_word.now,
      c.in-Some.stack.now,
    ) c.in-Some.ensures (sym c.is_same-in-Some.ensures ∙ wrong)

pub returns-in_err-name-in-Some-clause-fault : goal.returns-in_err-name-in-Some-clause-fault
returns-in_err-name-in-Some-clause-fault c =
    let p = err_from_is_err_and c.from_residual.result c.from_residual.ensures.1 in
    let heap : c.is_same.result ≡ true = search rules in
    let stack : c.is_same-in-Some.result ≡ true = search rules in
    rw (p.1, p.2)
    (c.in_err-name-in-Some.ensures.fault ∙ rw (
      c.name.ensures.fault,
      c.both.ensures.fault,
      c.number.ensures.fault,
      c.number-in-Some.ensures.fault,
    )
    (own_fault _ (
      c.in-Some.word.now,
      c.in-Some.heap_word.now,
      c.in-Some.heap.now,
      c.in-Some.stack_word.now,
      c.in-Some.stack.now,
    ) c.in-Some.ensures (sym c.is_same.ensures ∙ heap) (sym c.is_same-in-Some.ensures ∙ stack)))

pub returns-in_ok-name-in-Some-clause-fault : goal.returns-in_ok-name-in-Some-clause-fault
returns-in_ok-name-in-Some-clause-fault c =
    let heap : c.is_same.result ≡ true = search rules in
    let stack : c.is_same-in-Some.result ≡ true = search rules in
    c.in_ok-name-in-Some.ensures.fault ∙ rw (
      c.name.ensures.fault,
      c.both.ensures.fault,
      c.number.ensures.fault,
      c.number-in-Some.ensures.fault,
    )
    (own_fault _ (
      c.in-Some.word.now,
      c.in-Some.heap_word.now,
      c.in-Some.heap.now,
      c.in-Some.stack_word.now,
      c.in-Some.stack.now,
    ) c.in-Some.ensures (sym c.is_same.ensures ∙ heap) (sym c.is_same-in-Some.ensures ∙ stack))

pub returns-in_ok-name-in-Some-clause-text : goal.returns-in_ok-name-in-Some-clause-text
returns-in_ok-name-in-Some-clause-text c =
    let heap : c.is_same.result ≡ true = search rules in
    let stack : c.is_same-in-Some.result ≡ true = search rules in
    let heap_is : c.number.result ≡ Ok c.in_ok-name-in-Some.heap =
    of_ok (λ (x : ℕ × ℕ). c.number.result ≡ Ok x.0) c.both.result
    (c.in_ok-name-in-Some.heap, c.in_ok-name-in-Some.stack) c.in_ok-name-in-Some.ensures.second c.both.ensures.first in
    let stack_is : c.number-in-Some.result ≡ Ok c.in_ok-name-in-Some.stack =
    of_ok (λ (x : ℕ × ℕ). c.number-in-Some.result ≡ Ok x.1) c.both.result
    (c.in_ok-name-in-Some.heap, c.in_ok-name-in-Some.stack) c.in_ok-name-in-Some.ensures.second c.both.ensures.second in
    own_text _ (
      c.in-Some.word.now,
      c.in-Some.heap_word.now,
      c.in-Some.heap.now,
      c.in-Some.stack_word.now,
      c.in-Some.stack.now,
    ) c.in_ok-name-in-Some.name c.in_ok-name-in-Some.heap c.in_ok-name-in-Some.stack c.in-Some.ensures
    (sym c.is_same.ensures ∙ heap) (sym c.is_same-in-Some.ensures ∙ stack)
    (of_ok (λ (n : List ℕ). c.in-Some.word.now ≡ n) c.name.result c.in_ok-name-in-Some.name
    c.in_ok-name-in-Some.ensures.first c.name.ensures.text)
    (of_ok (λ (n : ℕ). c.in-Some.heap.now ≡ decimal n) c.number.result c.in_ok-name-in-Some.heap heap_is
    c.number.ensures.text)
    (of_ok (λ (n : ℕ). c.in-Some.stack.now ≡ decimal n) c.number-in-Some.result c.in_ok-name-in-Some.stack stack_is
    c.number-in-Some.ensures.text)

pub returns-in-None-clause-fault : goal.returns-in-None-clause-fault
returns-in-None-clause-fault c = no_own_fault _ c.in-None.ensures
