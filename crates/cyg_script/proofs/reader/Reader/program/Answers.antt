use Rattle.std.proofs.Common.{◌≡◌, ◌<◌, true, false, length, sym, ap, ◌∙◌, refl, arith, List, Some}
use Rattle.std.proofs.lemmas.List.{length-map}
use Rattle.w32_base.specs.Names.{is_among}
use Rattle.w32_base.specs.Setup.{program_names}
use Rattle.w32_base.specs.declared.setup.Program.{Program}
use Rattle.script_spec.specs.declared.fault.FirstWord.TheVariants as first
use Rattle.script_spec.specs.Front.{words_read}
use Rattle.cyg_script.specs.Parts.{parts_of}
use Rattle.cyg_script.proofs.Judging.{reads_fault, words}
use Rattle.cyg_script.proofs.Reading.{programs_named, read_program}
use Rattle.cyg_script.proofs.WordFaults.{own_is, no_pages}
use Rattle.cyg_script.proofs.reader.Reader.program.Goals as goal

pub returns-in_err-heading-clause-read : goal.returns-in_err-heading-clause-read
returns-in_err-heading-clause-read c = λ number read a.
    reads_fault c.from_residual.result c.in_err-heading.field-0.0 read number first.Program (words c.args.rest)
    (parts_of c.args.self.now) c.from_residual.ensures.1
    (own_is (words_read read) first.Program (words c.args.rest) c.in_err-heading.field-0.0
    (no_pages (words_read read) first.Program (words c.args.rest) (Some c.in_err-heading.field-0.0) refl
    (sym c.in_err-heading.ensures.fault)))

pub returns-then-has_program-clause-read : goal.returns-then-has_program-clause-read
returns-then-has_program-clause-read c = λ number read a.
    let named : is_among c.in_ok-heading.heading.name (program_names c.args.self.now.programs.items) ≡ true =
    ap (λ (ps : List Program). is_among c.in_ok-heading.heading.name (program_names ps)) (sym c.deref.ensures.value)
    ∙ sym c.has_program.ensures ∙ c.if-has_program.true in
    programs_named (parts_of c.args.self.now) c.in_ok-heading.heading _ c.requires.ended c.requires.place
    c.in_ok-heading.ensures.text c.in_ok-heading.ensures.fault named read a

pub returns-clause-read : goal.returns-clause-read
returns-clause-read c = λ number read a.
    let other : is_among c.in_ok-heading.heading.name (program_names c.args.self.now.programs.items) ≡ false =
    ap (λ (ps : List Program). is_among c.in_ok-heading.heading.name (program_names ps)) (sym c.deref.ensures.value)
    ∙ sym c.has_program.ensures ∙ c.if-has_program.false in
    let few : length (program_names c.args.self.now.programs.items) < 32 =
    omega (arith, length-map c.args.self.now.programs.items (λ (p : Program). p.name)) in
    read_program (parts_of c.args.self.now) c.in_ok-heading.heading _ c.requires.ended c.requires.place
    c.in_ok-heading.ensures.text c.in_ok-heading.ensures.valid c.in_ok-heading.ensures.fault other few number read a
