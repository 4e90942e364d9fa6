use Rattle.std.proofs.Common.{ap, subst, inr, refl, rules, Err}
use Rattle.script_spec.specs.declared.script.Script.{Script}
use Rattle.script_spec.specs.FirstFault.{IsFirstFault, fault_of}
use Rattle.script_spec.specs.Grammar.{IsScript}
use Rattle.cyg_script.specs.Judged.{Tells}
use Rattle.cyg_cli.proofs.RunEnds.{refusal_ends, script_ends, fault_ends}
use Rattle.cyg_cli.proofs.top.run_script.Goals as goal

pub returns-in-Err-Large : goal.returns-in-Err-Large
returns-in-Err-Large g c =
    let is = ap Err c.in-Err-Large.field-0-is in
    refusal_ends _ _ _ _ _ _ _ (record {
      faults = c.in-Err-Large.ensures.no_fault_large is;
      read = inr (record {
        drawn = c.in-Err-Large.ensures.large is;
        ends = c.in-Err-Large.ensures.not_ended;
        is = refl;
      });
    }) c.refuse_text.ensures

pub returns-in-Ok-read_script : goal.returns-in-Ok-read_script
returns-in-Ok-read_script g c =
    script_ends _ _ _ _ _ _ c.in-Ok-read_script.script c.in-Ok.bytes.items c.in-Ok.ensures.no_fault (record {
      told = c.in-Ok.ensures.bytes;
      few = search (rules, c.in-Ok.ensures.few);
      drawn = search (rules, c.in-Ok.ensures.drawn);
      ended = c.in-Ok.ensures.ended;
    }) (subst (λ text. IsScript text c.in-Ok-read_script.script) c.deref.ensures.value c.in-Ok-read_script.ensures.1)
    c.built.result c.built.ensures c.run_built.ensures

pub returns-in-Err-Fault : goal.returns-in-Err-Fault
returns-in-Err-Fault g c =
    let told : IsFirstFault c.deref.result.now c.in-Err-Fault.line c.in-Err-Fault.kind =
    subst (λ e. Tells {T = Script} (Err e) (fault_of c.deref.result.now) (IsScript c.deref.result.now))
    c.in-Err-Fault.field-0-is c.in-Err-Fault.ensures in
    fault_ends _ _ _ _ _ _ c.in-Err-Fault.line c.in-Err-Fault.kind c.in-Ok.bytes.items c.in-Ok.ensures.no_fault
    (record {
      told = c.in-Ok.ensures.bytes;
      few = search (rules, c.in-Ok.ensures.few);
      drawn = search (rules, c.in-Ok.ensures.drawn);
      ended = c.in-Ok.ensures.ended;
    }) (subst (λ text. IsFirstFault text c.in-Err-Fault.line c.in-Err-Fault.kind) c.deref.ensures.value told)
    _ _ c.in-Err-Fault.line-is c.in-Err-Fault.kind-is c.refuse_text-in-Err-Fault.ensures
