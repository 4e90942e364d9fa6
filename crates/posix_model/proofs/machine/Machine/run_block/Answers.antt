use Rattle.std.proofs.Common.{◌≡◌, ℕ, List, Some, true, cond, sym, ◌∙◌, ap, subst, option_copied, slice_get}
use Rattle.w32_base.specs.declared.instr.Instr.{Instr}
use Rattle.vm_spec.specs.Block.{block_length}
use Rattle.vm_spec.specs.Image.{program_of}
use Rattle.vm_spec.specs.Step.{upcoming}
use Rattle.posix_spec.specs.Conditions.{for_process}
use Rattle.posix_spec.specs.Numbers.{is_number}
use Rattle.posix_spec.specs.State.{record_of as record_at}
use Rattle.posix_model.specs.Blocks.{is_at_block, with_run, ran}
use Rattle.posix_model.specs.Gives.{Gives}
use Rattle.posix_model.specs.Machine.{script_of, state_of}
use Rattle.posix_model.specs.Shown.{record_of}
use Rattle.posix_model.specs.Table.{records_of}
use Rattle.posix_model.specs.declared.process.Process.{Process}
use Rattle.posix_model.proofs.BlockLemmas.{not_due, has_program, code_is, local_in, ran_gives}
use Rattle.posix_model.proofs.machine.Machine.run_block.Goals as goal

pub unreachable-requires : goal.unreachable-requires
unreachable-requires c =
    let script = script_of c.args.self.now in
    let s = state_of c.args.self.now in
    let r = record_of c.take-process.result.value in
    let here : c.from-number.result ≡ c.args.p = c.from-number.ensures ∙ c.get.ensures.value in
    let at : is_at_block script r ≡ true = c.requires r (ap (record_at s) (sym here) ∙
    c.take-process.ensures.process) in
    has_program script r at
    (ap (λ (x : Process). slice_get script.setup.programs (program_of (record_of x).image)) (sym c.deref.ensures)
    ∙ sym c.program.ensures ∙ ap option_copied c.in_default.is)

pub run-done-requires : goal.run-done-requires
run-done-requires c =
    let script = script_of c.args.self.now in
    let s = state_of c.args.self.now in
    let r = record_of c.take-process.result.value in
    let program = c.in-Some.program.now in
    let here : c.from-number.result ≡ c.args.p = c.from-number.ensures ∙ c.get.ensures.value in
    let at : is_at_block script r ≡ true = c.requires r (ap (record_at s) (sym here) ∙
    c.take-process.ensures.process) in
    let found : slice_get script.setup.programs (program_of r.image) ≡ Some program =
    ap (λ (x : Process). slice_get script.setup.programs (program_of (record_of x).image)) (sym c.deref.ensures)
    ∙ sym c.program.ensures ∙ ap option_copied c.in-Some.is in
    ap (λ (x : Process). upcoming program.code (record_of x).image) c.deref_mut.ensures.value
    ∙ local_in script r at program found

pub returns : goal.returns
returns c =
    let m = c.args.self.now in
    let script = script_of m in
    let s = state_of m in
    let r = record_of c.take-process.result.value in
    let program = c.in-Some.program.now in
    let done = c.run-done.result in
    let here : c.from-number.result ≡ c.args.p = c.from-number.ensures ∙ c.get.ensures.value in
    let at : is_at_block script r ≡ true = c.requires r (ap (record_at s) (sym here) ∙
    c.take-process.ensures.process) in
    let found : slice_get script.setup.programs (program_of r.image) ≡ Some program =
    ap (λ (x : Process). slice_get script.setup.programs (program_of (record_of x).image)) (sym c.deref.ensures)
    ∙ sym c.program.ensures ∙ ap option_copied c.in-Some.is in
    subst (λ (k : ℕ). Gives (for_process s k (ran script s k c.args.n)) done m (record m { table = c.put.new.self }))
    here
    (ran_gives m c.put.new.self c.from-number.result c.args.n r (record_of c.run-done.new.self) (records_of
    c.take-process.new.self) c.take-process.ensures.process (not_due script r at) c.take-process.ensures.rest
    c.put.ensures done
    (c.run-done.ensures.done
    ∙ ap (λ (x : Process). is_number c.args.n (block_length program.code (record_of x).image)) c.deref_mut.ensures.value
    ∙ ap (λ (code : List Instr). is_number c.args.n (block_length code r.image)) (code_is script r at program found))
    (c.run-done.ensures.process
    ∙ ap (λ (x : Process). cond done (with_run program.code (record_of x)) (record_of x)) c.deref_mut.ensures.value
    ∙ ap (λ (code : List Instr). cond done (with_run code r) r) (code_is script r at program found)))
