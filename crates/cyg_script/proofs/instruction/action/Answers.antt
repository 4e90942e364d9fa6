use Rattle.std.proofs.Common.{◌∙◌, ap, sym, List, ℕ, [], ◌∷◌}
use Rattle.script_spec.specs.declared.fault.InstrWord.TheVariants as word
use Rattle.cyg_script.proofs.Forms.{two_is}
use Rattle.cyg_script.proofs.Choices.{three_is, four_is}
use Rattle.cyg_script.proofs.Masks.{read_along}
use Rattle.cyg_script.proofs.Actions.{action_length, fault_of}
use Rattle.cyg_script.proofs.instruction.action.Goals as goal

pub returns-in-Some-clause-fault : goal.returns-in-Some-clause-fault
returns-in-Some-clause-fault c =
    c.plain_action.ensures.fault ∙ ap (λ (ws : List (List ℕ)). fault_of ws)
    (sym (two_is _ (c.in-Some.signal.now, c.in-Some.word.now) c.in-Some.ensures))

pub returns-in-Some-clause-read : goal.returns-in-Some-clause-read
returns-in-Some-clause-read c =
    read_along c.plain_action.result word.Action (c.in-Some.signal.now ∷ c.in-Some.word.now ∷ []) _
    (two_is _ (c.in-Some.signal.now, c.in-Some.word.now) c.in-Some.ensures) c.plain_action.ensures.read

pub returns-in-Some-three-clause-fault : goal.returns-in-Some-three-clause-fault
returns-in-Some-three-clause-fault c =
    c.handler_action.ensures.fault
    ∙ ap (λ (ws : List (List ℕ)). fault_of ws)
    (sym (three_is _ (c.in-Some-three.signal.now, c.in-Some-three.word.now, c.in-Some-three.at.now)
    c.in-Some-three.ensures))

pub returns-in-Some-three-clause-read : goal.returns-in-Some-three-clause-read
returns-in-Some-three-clause-read c =
    read_along c.handler_action.result word.Action (c.in-Some-three.signal.now ∷ c.in-Some-three.word.now ∷
    c.in-Some-three.at.now ∷ []) _
    (three_is _ (c.in-Some-three.signal.now, c.in-Some-three.word.now, c.in-Some-three.at.now) c.in-Some-three.ensures)
    c.handler_action.ensures.read

pub returns-in-Some-four-clause-fault : goal.returns-in-Some-four-clause-fault
returns-in-Some-four-clause-fault c =
    c.restart_action.ensures.fault
    ∙ ap (λ (ws : List (List ℕ)). fault_of ws)
    (sym (four_is _ (
      c.in-Some-four.signal.now,
      c.in-Some-four.word.now,
      c.in-Some-four.at.now,
      c.in-Some-four.last.now,
    ) c.in-Some-four.ensures))

pub returns-in-Some-four-clause-read : goal.returns-in-Some-four-clause-read
returns-in-Some-four-clause-read c =
    read_along c.restart_action.result word.Action
    (c.in-Some-four.signal.now ∷ c.in-Some-four.word.now ∷ c.in-Some-four.at.now ∷ c.in-Some-four.last.now ∷ []) _
    (four_is _ (c.in-Some-four.signal.now, c.in-Some-four.word.now, c.in-Some-four.at.now, c.in-Some-four.last.now)
    c.in-Some-four.ensures)
    c.restart_action.ensures.read

pub returns-in-None-four-clause-fault : goal.returns-in-None-four-clause-fault
returns-in-None-four-clause-fault c = action_length _ c.in-None.ensures c.in-None-three.ensures c.in-None-four.ensures
