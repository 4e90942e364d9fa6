use Rattle.std.proofs.Common.{◌≡◌, ◌≤◌, ◌<◌, true, false, length, sym, ap, ◌∙◌, arith, List}
use Rattle.w32_base.specs.Names.{is_among}
use Rattle.w32_base.specs.Setup.{module_names}
use Rattle.w32_base.specs.declared.setup.Module.{Module}
use Rattle.script_spec.specs.declared.fault.FirstWord.TheVariants as first
use Rattle.script_spec.specs.Front.{words_read}
use Rattle.cyg_script.specs.Parts.{parts_of}
use Rattle.cyg_script.proofs.Judging.{reads_fault, words}
use Rattle.cyg_script.proofs.Reading.{modules_named, modules_full, read_module}
use Rattle.cyg_script.proofs.WordFaults.{own_is}
use Rattle.cyg_script.proofs.reader.Reader.module.Goals as goal

pub returns-in_err-module-clause-read : goal.returns-in_err-module-clause-read
returns-in_err-module-clause-read c = λ number read a.
    reads_fault c.from_residual.result c.in_err-module.field-0.0 read number first.Module (words c.args.rest)
    (parts_of c.args.self.now) c.from_residual.ensures.1
    (own_is (words_read read) first.Module (words c.args.rest) c.in_err-module.field-0.0
    (sym c.in_err-module.ensures.fault))

pub returns-then-has_module-clause-read : goal.returns-then-has_module-clause-read
returns-then-has_module-clause-read c = λ number read a.
    let named : is_among c.in_ok-module.module.name (module_names c.args.self.now.modules.items) ≡ true =
    ap (λ (ms : List Module). is_among c.in_ok-module.module.name (module_names ms)) (sym c.deref.ensures.value)
    ∙ sym c.has_module.ensures ∙ c.if-has_module.true in
    modules_named (parts_of c.args.self.now) c.in_ok-module.module _ c.in_ok-module.ensures.text
    c.in_ok-module.ensures.fault named read a

pub returns-then-len-ge-MOST_MODULES-clause-read : goal.returns-then-len-ge-MOST_MODULES-clause-read
returns-then-len-ge-MOST_MODULES-clause-read c = λ number read a.
    let other : is_among c.in_ok-module.module.name (module_names c.args.self.now.modules.items) ≡ false =
    ap (λ (ms : List Module). is_among c.in_ok-module.module.name (module_names ms)) (sym c.deref.ensures.value)
    ∙ sym c.has_module.ensures ∙ c.if-has_module.false in
    let many : 8 ≤ length c.args.self.now.modules.items = omega arith in
    modules_full (parts_of c.args.self.now) c.in_ok-module.module _ c.in_ok-module.ensures.text
    c.in_ok-module.ensures.fault other many read a

pub returns-clause-read : goal.returns-clause-read
returns-clause-read c = λ number read a.
    let other : is_among c.in_ok-module.module.name (module_names c.args.self.now.modules.items) ≡ false =
    ap (λ (ms : List Module). is_among c.in_ok-module.module.name (module_names ms)) (sym c.deref.ensures.value)
    ∙ sym c.has_module.ensures ∙ c.if-has_module.false in
    let few : length c.args.self.now.modules.items < 8 = omega arith in
    read_module (parts_of c.args.self.now) c.in_ok-module.module c.push.new.self.items _ c.requires.staged.read
    c.requires.place c.in_ok-module.ensures.text c.in_ok-module.ensures.valid c.in_ok-module.ensures.fault other few
    c.in_ok-push.ensures.items number read a
