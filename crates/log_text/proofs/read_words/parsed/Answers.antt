use Rattle.std.proofs.Common.{◌≡◌, Ok, Some, ap, ◌∙◌}
use Rattle.std.specs.Fmt.{signed_decimal}
use Rattle.log_text.proofs.ReadWords.{kept, is_text, is_parsed}
use Rattle.log_text.proofs.read_words.parsed.Goals as goal

pub returns-in-Ok-parse : goal.returns-in-Ok-parse
returns-in-Ok-parse c z h is =
    let read : c.in-Ok.text.now ≡ signed_decimal z = c.in-Ok.ensures.cases.0 ∙ is in
    let found : c.parse.result ≡ Ok z = is_parsed z c.in-Ok.text.now c.parse.result h read c.parse.ensures.value.0 in
    let value : c.in-Ok-parse.number ≡ z = cc in
    ap Some (kept c.in-Ok-parse.number z value h)

pub returns-in-Err-parse : goal.returns-in-Err-parse
returns-in-Err-parse c z h is =
    let read : c.in-Ok.text.now ≡ signed_decimal z = c.in-Ok.ensures.cases.0 ∙ is in
    let found : c.parse.result ≡ Ok z = is_parsed z c.in-Ok.text.now c.parse.result h read c.parse.ensures.value.0 in
    cc

pub returns-in-Err : goal.returns-in-Err
returns-in-Err c z h is = absurd (c.in-Err.ensures.cases.0 (is_text z c.args.word.now h is))
