-- How what a stage does at a call follows from what its machine does.
use Rattle.std.proofs.Common.{◌≡◌, ◌∙◌, ℕ, ◌≤◌, true, false, List, [], length, Option, Some, None, IsSome, MatchBool}
use Rattle.std.proofs.Common.{refl, sym, ap, subst, arith}
use Rattle.std.proofs.lemmas.Bool.Decides.{nat_tests}
use Rattle.std.proofs.lemmas.List.{take_all}
use Rattle.w32_base.specs.declared.call.Call.{Call}
use Rattle.w32_base.specs.declared.call.Reply.{Reply}
use Rattle.script_spec.specs.declared.script.Script.{Script}
use Rattle.script_spec.specs.Grammar.{IsScript}
use Rattle.win32_spec.specs.State.{Thread, Win32State}
use Rattle.win32_spec.specs.Lookup.{thread_at}
use Rattle.win32_spec.specs.Opening.{IsOpening}
use Rattle.win32_spec.specs.Run.{Posts}
use Rattle.w32_machine.specs.Running.{Running}
use Rattle.machine_stage.specs.Trials.{Trial, IsStageOf, PostsBy, TakesTurn, PostsAndTurns, Calls, is_place}
use Rattle.machine_stage.specs.Typing.{IsTypedTo, keys_typed}

-- no key is typed in an opening state
opening_without_keys : (script : Script) (s : Win32State) → IsOpening script s → IsOpening script (record s { keys = [] })
opening_without_keys script s h = record {
  program = h.program;
  first = h.first;
  placed = h.placed;
  in_order = h.in_order;
  numbers = h.numbers;
  state = ap (λ (x : Win32State). record x { keys = [] }) h.state;
}

-- a machine that was opened for the script of a text, with its keys typed
pub stage_of : (text : List ℕ) (script : Script) (opened : Running) (stage : Trial) → IsScript text script
    → IsOpening script opened.win32 → opened.script ≡ script → stage.machine.script ≡ opened.script
    → (record (stage.machine.win32) { keys = [] }) ≡ (record (opened.win32) { keys = [] })
    → IsTypedTo script.directives (length script.directives) stage.machine.win32.keys → stage.turns ≡ 0
    → IsStageOf text stage
stage_of text script opened stage read opening same kept rest typed turns =
    let is : stage.machine.script ≡ script = kept ∙ same in
    record {
      script = subst (λ x. IsScript text x) (sym is) read;
      opening = subst (λ x. IsOpening x (record (stage.machine.win32) { keys = [] })) (sym is)
          (subst (λ s. IsOpening script s) (sym rest) (opening_without_keys script opened.win32 opening));
      keys = subst (λ (x : Script). stage.machine.win32.keys ≡ keys_typed x.directives) (sym is)
          (typed ∙ ap keys_typed (take_all (length script.directives) script.directives (omega arith)));
      turns = turns;
    }

-- a thread that is there has posted
pub posts_by : (o : Option Thread) (old new : Trial) (slot t : ℕ) (call : Call) → IsSome o → new.turns ≡ old.turns
    → new.machine.script ≡ old.machine.script → Posts old.machine.win32 slot t call new.machine.win32
    → PostsBy o old slot t call new
posts_by None old new slot t call some turns script posts = let never : false ≡ true = some in absurd (cc)
posts_by (Some x) old new slot t call some turns script posts = (turns, script, posts)

-- one that isn't there has not
pub posts_none : (o : Option Thread) (old : Trial) (slot t : ℕ) (call : Call) → o ≡ None → PostsBy o old slot t call old
posts_none None old slot t call e = refl
posts_none (Some x) old slot t call e = absurd (cc)

-- a post and a turn are a call
pub calls_by : (old mid new : Trial) (slot t : ℕ) (call : Call) (reply : Option Reply) → slot ≤ 64 → t ≤ 2
    → PostsBy (thread_at old.machine.win32 slot t) old slot t call mid → TakesTurn mid slot t reply new
    → Calls old slot t call reply new
calls_by old mid new slot t call reply few three posted taken =
    let place : is_place slot t ≡ true = grind (arith, nat_tests) in
    subst (λ b. MatchBool b (PostsAndTurns old slot t call reply new) ((reply ≡ None) × (new ≡ old))) (sym place)
    (record { mid = mid; posted = posted; taken = taken })
