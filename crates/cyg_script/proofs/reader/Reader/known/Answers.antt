use Rattle.cyg_script.proofs.WordsJudged.{no_known}
use Rattle.cyg_script.proofs.reader.Reader.known.Goals as goal

pub returns-in-CygScript-clause-read : goal.returns-in-CygScript-clause-read
returns-in-CygScript-clause-read c = λ read a.
    no_known c.args.word c.args.self.now.last c.in-CygScript.is c.requires.place c.requires.open
