use Rattle.std.proofs.Common.{◌≡◌, ◌≤◌, length, [], suc, arith, ◌+◌, sym, ◌∙◌}
use Rattle.cyg_script.specs.Parts.{parts_of}
use Rattle.cyg_script.proofs.ReadScript.{staged_nothing, nothing_left, text_stopped, text_read}
use Rattle.cyg_script.proofs.TextJudged.{read_nothing, read_more}
use Rattle.cyg_script.proofs.script.read_script.Goals as goal

pub loop-rest-init : goal.loop-rest-init
loop-rest-init c =
    let few : length c.args.bytes.now ≤ 1048576 = omega arith in
    rw c.new-reader.ensures record {
      staged = staged_nothing;
      counted = omega (arith, few);
      read = ([], read_nothing c.args.bytes.now few);
    }

pub returns-in_err-line : goal.returns-in_err-line
returns-in_err-line c =
    let r = c.loop-rest.invariant.read in
    text_stopped c.from_residual.result c.in_err-line.field-0.0 c.args.bytes.now c.loop-rest.rest.now
    c.first_line-is_ended.result.2.now r.0 c.loop-rest.line _ (parts_of c.loop-rest.reader) _ _
    c.from_residual.ensures.1 r.1 c.first_line-is_ended.ensures.lines (c.in_err-line.ensures.read r.0 r.1.after)

pub loop-rest-preserved : goal.loop-rest-preserved
loop-rest-preserved c =
    let r = c.loop-rest.invariant.read in
    let f = c.in_ok-line.ensures.read r.0 r.1.after in
    let next : c.loop-rest.line + 1 ≡ suc c.loop-rest.line = omega arith in
    record {
      staged = c.in_ok-line.ensures.staged;
      counted = omega arith;
      read = (
        _,
        read_more c.args.bytes.now c.loop-rest.rest.now c.first_line-is_ended.result.2.now r.0 c.loop-rest.line
            (c.loop-rest.line + 1) _ (parts_of c.loop-rest.reader) (parts_of c.line.new.self) next r.1
            c.first_line-is_ended.ensures.lines f.0 f.1,
      );
    }

pub returns : goal.returns
returns c =
    let r = c.loop-rest.invariant.read in
    let few : length c.args.bytes.now ≤ 1048576 = omega arith in
    let none : c.loop-rest.rest.now ≡ [] =
    nothing_left c.loop-rest.rest.now (sym c.is_empty.ensures ∙ c.loop-rest-test.false) in
    text_read c.finish.result c.args.bytes.now c.loop-rest.rest.now r.0 c.loop-rest.line (parts_of c.loop-rest.reader)
    r.1 none few (c.finish.ensures r.0 r.1.after)
