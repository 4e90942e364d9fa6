-- Instructions of one word.
use Rattle.std.proofs.Common.{ℕ, List, Option, refl, Bor}
use Rattle.std.specs.Prelude.{option_map}
use Rattle.w32_base.specs.declared.instr.Instr.TheVariants as instr
use Rattle.script_spec.specs.declared.fault.InstrWord.TheVariants as word
use Rattle.cyg_script.specs.Words.{words_after}
use Rattle.cyg_script.proofs.Arms.{fault_by, alone_place}
use Rattle.cyg_script.proofs.Arms.{alone_text, alone_valid}
use Rattle.cyg_script.proofs.instruction.instruction.Goals as goal

abbrev words : Option (Bor (List ℕ)) → List (List ℕ)
words rest = words_after (option_map (λ (r : Bor (List ℕ)). r.now) rest)

pub returns-in-GetPid : goal.returns-in-GetPid
returns-in-GetPid c =
    record {
      valid = alone_valid c.alone.result (words c.args.rest) instr.GetPid refl c.alone.ensures.text;
      fault = fault_by c.alone.result _ word.GetPid (words c.args.rest) c.in-GetPid.is c.alone.ensures.fault;
      place = alone_place c.alone.result _ word.GetPid (words c.args.rest) instr.GetPid c.in-GetPid.is refl refl
          c.alone.ensures.text;
      text = alone_text c.alone.result _ word.GetPid (words c.args.rest) instr.GetPid c.in-GetPid.is refl
          c.alone.ensures.text;
    }

pub returns-in-GetPpid : goal.returns-in-GetPpid
returns-in-GetPpid c =
    record {
      valid = alone_valid c.alone-in-GetPpid.result (words c.args.rest) instr.GetPpid refl
          c.alone-in-GetPpid.ensures.text;
      fault = fault_by c.alone-in-GetPpid.result _ word.GetPpid (words c.args.rest) c.in-GetPpid.is
          c.alone-in-GetPpid.ensures.fault;
      place = alone_place c.alone-in-GetPpid.result _ word.GetPpid (words c.args.rest) instr.GetPpid c.in-GetPpid.is
          refl refl c.alone-in-GetPpid.ensures.text;
      text = alone_text c.alone-in-GetPpid.result _ word.GetPpid (words c.args.rest) instr.GetPpid c.in-GetPpid.is
          refl c.alone-in-GetPpid.ensures.text;
    }

pub returns-in-GetPgid : goal.returns-in-GetPgid
returns-in-GetPgid c =
    record {
      valid = alone_valid c.alone-in-GetPgid.result (words c.args.rest) instr.GetPgid refl
          c.alone-in-GetPgid.ensures.text;
      fault = fault_by c.alone-in-GetPgid.result _ word.GetPgid (words c.args.rest) c.in-GetPgid.is
          c.alone-in-GetPgid.ensures.fault;
      place = alone_place c.alone-in-GetPgid.result _ word.GetPgid (words c.args.rest) instr.GetPgid c.in-GetPgid.is
          refl refl c.alone-in-GetPgid.ensures.text;
      text = alone_text c.alone-in-GetPgid.result _ word.GetPgid (words c.args.rest) instr.GetPgid c.in-GetPgid.is
          refl c.alone-in-GetPgid.ensures.text;
    }

pub returns-in-GetSid : goal.returns-in-GetSid
returns-in-GetSid c =
    record {
      valid = alone_valid c.alone-in-GetSid.result (words c.args.rest) instr.GetSid refl c.alone-in-GetSid.ensures.text;
      fault = fault_by c.alone-in-GetSid.result _ word.GetSid (words c.args.rest) c.in-GetSid.is
          c.alone-in-GetSid.ensures.fault;
      place = alone_place c.alone-in-GetSid.result _ word.GetSid (words c.args.rest) instr.GetSid c.in-GetSid.is
          refl refl c.alone-in-GetSid.ensures.text;
      text = alone_text c.alone-in-GetSid.result _ word.GetSid (words c.args.rest) instr.GetSid c.in-GetSid.is refl
          c.alone-in-GetSid.ensures.text;
    }

pub returns-in-Fork : goal.returns-in-Fork
returns-in-Fork c =
    record {
      valid = alone_valid c.alone-in-Fork.result (words c.args.rest) instr.Fork refl c.alone-in-Fork.ensures.text;
      fault = fault_by c.alone-in-Fork.result _ word.Fork (words c.args.rest) c.in-Fork.is
          c.alone-in-Fork.ensures.fault;
      place = alone_place c.alone-in-Fork.result _ word.Fork (words c.args.rest) instr.Fork c.in-Fork.is refl refl
          c.alone-in-Fork.ensures.text;
      text = alone_text c.alone-in-Fork.result _ word.Fork (words c.args.rest) instr.Fork c.in-Fork.is refl
          c.alone-in-Fork.ensures.text;
    }

pub returns-in-Pause : goal.returns-in-Pause
returns-in-Pause c =
    record {
      valid = alone_valid c.alone-in-Pause.result (words c.args.rest) instr.Pause refl c.alone-in-Pause.ensures.text;
      fault = fault_by c.alone-in-Pause.result _ word.Pause (words c.args.rest) c.in-Pause.is
          c.alone-in-Pause.ensures.fault;
      place = alone_place c.alone-in-Pause.result _ word.Pause (words c.args.rest) instr.Pause c.in-Pause.is refl
          refl c.alone-in-Pause.ensures.text;
      text = alone_text c.alone-in-Pause.result _ word.Pause (words c.args.rest) instr.Pause c.in-Pause.is refl
          c.alone-in-Pause.ensures.text;
    }

pub returns-in-Return : goal.returns-in-Return
returns-in-Return c =
    record {
      valid = alone_valid c.alone-in-Return.result (words c.args.rest) instr.Return refl c.alone-in-Return.ensures.text;
      fault = fault_by c.alone-in-Return.result _ word.Return (words c.args.rest) c.in-Return.is
          c.alone-in-Return.ensures.fault;
      place = alone_place c.alone-in-Return.result _ word.Return (words c.args.rest) instr.Return c.in-Return.is
          refl refl c.alone-in-Return.ensures.text;
      text = alone_text c.alone-in-Return.result _ word.Return (words c.args.rest) instr.Return c.in-Return.is refl
          c.alone-in-Return.ensures.text;
    }

pub returns-in-SetSid : goal.returns-in-SetSid
returns-in-SetSid c =
    record {
      valid = alone_valid c.alone-in-SetSid.result (words c.args.rest) instr.SetSid refl c.alone-in-SetSid.ensures.text;
      fault = fault_by c.alone-in-SetSid.result _ word.SetSid (words c.args.rest) c.in-SetSid.is
          c.alone-in-SetSid.ensures.fault;
      place = alone_place c.alone-in-SetSid.result _ word.SetSid (words c.args.rest) instr.SetSid c.in-SetSid.is
          refl refl c.alone-in-SetSid.ensures.text;
      text = alone_text c.alone-in-SetSid.result _ word.SetSid (words c.args.rest) instr.SetSid c.in-SetSid.is refl
          c.alone-in-SetSid.ensures.text;
    }

pub returns-in-TcGet : goal.returns-in-TcGet
returns-in-TcGet c =
    record {
      valid = alone_valid c.alone-in-TcGet.result (words c.args.rest) instr.TcGet refl c.alone-in-TcGet.ensures.text;
      fault = fault_by c.alone-in-TcGet.result _ word.TcGet (words c.args.rest) c.in-TcGet.is
          c.alone-in-TcGet.ensures.fault;
      place = alone_place c.alone-in-TcGet.result _ word.TcGet (words c.args.rest) instr.TcGet c.in-TcGet.is refl
          refl c.alone-in-TcGet.ensures.text;
      text = alone_text c.alone-in-TcGet.result _ word.TcGet (words c.args.rest) instr.TcGet c.in-TcGet.is refl
          c.alone-in-TcGet.ensures.text;
    }
