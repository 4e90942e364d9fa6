use Rattle.std.proofs.Common.{◌∙◌, ◌+◌, ◌∷◌, ◌++◌, [], List, length, ap}
use Rattle.w32_base.specs.declared.own.Own.{Own}
use Rattle.win32_spec.specs.Handles.{Handle}
use Rattle.w32_opening.specs.Opened.{opening_numbers}
use Rattle.w32_opening.proofs.FirstProcesses.{opened-processes}
use Rattle.w32_opening.proofs.processes.first_processes.Goals as goal

pub write_cygheap-requires : goal.write_cygheap-requires
write_cygheap-requires c =
    let n = c.args.numbers.now in
    let all = opened-processes c.args.script.now.setup.limits.slots _ c.resume.result c.open_next.new.handles
    c.three_handles-handles.result c.first-program.result.now c.in_ok-processes.processes c.create.new.self
    c.resume.new.self (opening_numbers n) c.args.placed.now _ _ c.new.ensures c.new-2.ensures
    c.args.script.now.setup.limits.slots_in_range.0
    c.in_ok-processes.ensures c.in-Ok.ensures.lowest c.in-Ok.ensures.made c.resume.ensures.old c.resume.ensures.resumed
    (c.open_next.ensures.opened
    ∙ ap (λ (hs : List Handle). hs ++ record { number = length hs + 1; names = n.process } ∷ [])
    c.three_handles-host.ensures.value)
    (c.three_handles-handles.ensures.value
    ∙ ap (λ k. record { number = 1; names = n.section } ∷ record { number = 2; names = n.mutex }
    ∷ record { number = 3; names = k } ∷ []) (c.new-lines.ensures ∙ ap (λ k. k + 1) c.get.ensures.value)) in
    ap (λ (o : Own). o.cyg) c.own_mut.ensures.value ∙ all.0

pub returns : goal.returns
returns c =
    let n = c.args.numbers.now in
    let all = opened-processes c.args.script.now.setup.limits.slots _ c.resume.result c.open_next.new.handles
    c.three_handles-handles.result c.first-program.result.now c.in_ok-processes.processes c.create.new.self
    c.resume.new.self (opening_numbers n) c.args.placed.now _ _ c.new.ensures c.new-2.ensures
    c.args.script.now.setup.limits.slots_in_range.0
    c.in_ok-processes.ensures c.in-Ok.ensures.lowest c.in-Ok.ensures.made c.resume.ensures.old c.resume.ensures.resumed
    (c.open_next.ensures.opened
    ∙ ap (λ (hs : List Handle). hs ++ record { number = length hs + 1; names = n.process } ∷ [])
    c.three_handles-host.ensures.value)
    (c.three_handles-handles.ensures.value
    ∙ ap (λ k. record { number = 1; names = n.section } ∷ record { number = 2; names = n.mutex }
    ∷ record { number = 3; names = k } ∷ []) (c.new-lines.ensures ∙ ap (λ k. k + 1) c.get.ensures.value)) in
    record {
      program = c.first-program.result.now;
      first = c.first-program.ensures;
      table = all.1 c.own_mut.result.now c.write_cygheap.new.cyg c.own_mut.ensures.value c.write_cygheap.ensures;
    }
