use Rattle.std.proofs.Common.{◌≡◌, true, false, sym, ◌∙◌, Some, None, rules, ◌∷◌}
use Rattle.script_spec.specs.declared.fault.Kind.TheVariants.{NoHeader}
use Rattle.cyg_script.specs.Parts.{parts_of}
use Rattle.cyg_script.proofs.Judging.{words}
use Rattle.cyg_script.proofs.ReadingCode.{read_header, unread}
use Rattle.cyg_script.proofs.WordsJudged.{no_header, with_header, header_is, nothing_read}
use Rattle.cyg_script.proofs.reader.Reader.header.Goals as goal

pub returns-then-not-is_header-clause-read : goal.returns-then-not-is_header-clause-read
returns-then-not-is_header-clause-read c = λ number read line w a b f.
    let wrong : c.is_header.result ≡ false = search rules in
    nothing_read read (w ∷ words c.args.rest) c.args.form (Some NoHeader)
    (unread (parts_of c.args.self.now) c.requires.place read a)
    (no_header c.args.form line (w ∷ words c.args.rest) b (sym (c.is_header.ensures w f) ∙ wrong))

pub returns-in-Some-clause-read : goal.returns-in-Some-clause-read
returns-in-Some-clause-read c = λ number read line w a b f.
    let right : c.is_header.result ≡ true = search rules in
    nothing_read read (w ∷ words c.args.rest) c.args.form (Some c.in-Some.kind)
    (unread (parts_of c.args.self.now) c.requires.place read a)
    (with_header c.args.form (w ∷ words c.args.rest) (sym (c.is_header.ensures w f) ∙ right) ∙ c.in-Some.is)

pub returns-clause-read : goal.returns-clause-read
returns-clause-read c = λ number read line w a b f.
    let right : c.is_header.result ≡ true = search rules in (
      nothing_read read (w ∷ words c.args.rest) c.args.form None
          (unread (parts_of c.args.self.now) c.requires.place read a)
          (with_header c.args.form (w ∷ words c.args.rest) (sym (c.is_header.ensures w f) ∙ right) ∙ c.in_default.is),
      rw (header_is (w ∷ words c.args.rest) (sym (c.is_header.ensures w f) ∙ right))
          (read_header (parts_of c.args.self.now) c.requires.staged.read c.requires.place number read a),
    )
