use Rattle.std.proofs.Common.{sym, ap, ◌∙◌}
use Rattle.cyg_script.specs.Parts.{parts_of}
use Rattle.cyg_script.proofs.LineJudged.{numbered}
use Rattle.cyg_script.proofs.TextJudged.{end_last, last_directive, script_read, script_valid}
use Rattle.cyg_script.proofs.reader.Reader.finish.Goals as goal

pub returns-in-Some : goal.returns-in-Some
returns-in-Some c = λ read a.
    ap (numbered c.args.number) (end_last read c.args.self.last a.counted.last a.counted.first
    ∙ sym c.end_fault.ensures ∙ c.in-Some.is)

pub into_script-requires-clause-place : goal.into_script-requires-clause-place
into_script-requires-clause-place c = last_directive c.args.self.last (sym c.end_fault.ensures ∙ c.in-None.is)

pub returns-in-None : goal.returns-in-None
returns-in-None c = λ read a.
    let end = sym c.end_fault.ensures ∙ c.in-None.is in (
      ap (numbered c.args.number) (end_last read c.args.self.last a.counted.last a.counted.first ∙ end),
      (
        script_read c.into_script.result (parts_of c.args.self) read c.into_script.ensures c.requires
            (last_directive c.args.self.last end) a,
        script_valid c.into_script.result (parts_of c.args.self) read c.into_script.ensures c.requires
            (last_directive c.args.self.last end) a,
      ),
    )
