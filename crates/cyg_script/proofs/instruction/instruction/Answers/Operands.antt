-- Instructions that read further words.
use Rattle.std.proofs.Common.{ℕ, List, Option, refl, Bor}
use Rattle.std.specs.Prelude.{option_map}
use Rattle.std.proofs.lemmas.Bool.{ltb-true}
use Rattle.script_spec.specs.declared.fault.InstrWord.TheVariants as word
use Rattle.cyg_script.specs.Words.{words_after}
use Rattle.cyg_script.proofs.Arms.{fault_done, place_done, named_done, text_done, fault_by}
use Rattle.cyg_script.proofs.Arms.{read_place, read_text}
use Rattle.cyg_script.proofs.instruction.instruction.Goals as goal

abbrev words : Option (Bor (List ℕ)) → List (List ℕ)
words rest = words_after (option_map (λ (r : Bor (List ℕ)). r.now) rest)

pub returns-in_ok-r-in-Set : goal.returns-in_ok-r-in-Set
returns-in_ok-r-in-Set c =
    record {
      valid = c.in_ok-r-in-Set.ensures.valid;
      fault = fault_done _ word.Set (words c.args.rest) c.in-Set.is c.in_ok-r-in-Set.ensures.fault;
      place = place_done _ word.Set (words c.args.rest) c.in-Set.is refl;
      text = λ below. text_done _ word.Set (words c.args.rest) _ c.in-Set.is c.in_ok-r-in-Set.ensures.text;
    }

pub returns-in_ok-r-in-Add : goal.returns-in_ok-r-in-Add
returns-in_ok-r-in-Add c =
    record {
      valid = c.in_ok-r-in-Add.ensures.valid;
      fault = fault_done _ word.Add (words c.args.rest) c.in-Add.is c.in_ok-r-in-Add.ensures.fault;
      place = place_done _ word.Add (words c.args.rest) c.in-Add.is refl;
      text = λ below. text_done _ word.Add (words c.args.rest) _ c.in-Add.is c.in_ok-r-in-Add.ensures.text;
    }

pub returns-in_ok-r-in-Load : goal.returns-in_ok-r-in-Load
returns-in_ok-r-in-Load c =
    record {
      valid = c.in_ok-r-in-Load.ensures.valid;
      fault = fault_done _ word.Load (words c.args.rest) c.in-Load.is c.in_ok-r-in-Load.ensures.fault;
      place = place_done _ word.Load (words c.args.rest) c.in-Load.is refl;
      text = λ below. text_done _ word.Load (words c.args.rest) _ c.in-Load.is c.in_ok-r-in-Load.ensures.text;
    }

pub returns-in_ok-u-in-Store : goal.returns-in_ok-u-in-Store
returns-in_ok-u-in-Store c =
    record {
      valid = c.in_ok-u-in-Store.ensures.valid;
      fault = fault_done _ word.Store (words c.args.rest) c.in-Store.is c.in_ok-u-in-Store.ensures.fault;
      place = place_done _ word.Store (words c.args.rest) c.in-Store.is refl;
      text = λ below. text_done _ word.Store (words c.args.rest) _ c.in-Store.is c.in_ok-u-in-Store.ensures.text;
    }

pub returns-in_ok-one_operand-in-Push : goal.returns-in_ok-one_operand-in-Push
returns-in_ok-one_operand-in-Push c =
    record {
      valid = c.in_ok-one_operand-in-Push.ensures.valid;
      fault = fault_done _ word.Push (words c.args.rest) c.in-Push.is c.in_ok-one_operand-in-Push.ensures.fault;
      place = place_done _ word.Push (words c.args.rest) c.in-Push.is refl;
      text = λ below. text_done _ word.Push (words c.args.rest) _ c.in-Push.is
          c.in_ok-one_operand-in-Push.ensures.text;
    }

pub returns-in_ok-one_register-in-Pop : goal.returns-in_ok-one_register-in-Pop
returns-in_ok-one_register-in-Pop c =
    record {
      valid = c.in_ok-one_register-in-Pop.ensures.valid;
      fault = fault_done _ word.Pop (words c.args.rest) c.in-Pop.is c.in_ok-one_register-in-Pop.ensures.fault;
      place = place_done _ word.Pop (words c.args.rest) c.in-Pop.is refl;
      text = λ below. text_done _ word.Pop (words c.args.rest) _ c.in-Pop.is c.in_ok-one_register-in-Pop.ensures.text;
    }

pub returns-in_ok-one_place-in-Jump : goal.returns-in_ok-one_place-in-Jump
returns-in_ok-one_place-in-Jump c =
    record {
      valid = refl;
      fault = fault_done _ word.Jump (words c.args.rest) c.in-Jump.is c.in_ok-one_place-in-Jump.ensures.fault;
      place = named_done _ word.Jump (words c.args.rest) c.in_ok-one_place-in-Jump.field-0 c.in-Jump.is
          c.in_ok-one_place-in-Jump.ensures.place;
      text = λ below. text_done _ word.Jump (words c.args.rest) _ c.in-Jump.is
          (c.in_ok-one_place-in-Jump.ensures.text (ltb-true c.in_ok-one_place-in-Jump.field-0 65535 below));
    }

pub returns-in_ok-v-in-JumpZero : goal.returns-in_ok-v-in-JumpZero
returns-in_ok-v-in-JumpZero c =
    record {
      valid = c.in_ok-v-in-JumpZero.ensures.valid;
      fault = fault_done _ word.JumpZero (words c.args.rest) c.in-JumpZero.is
          c.in_ok-v-in-JumpZero.ensures.fault;
      place = named_done _ word.JumpZero (words c.args.rest) c.in_ok-v-in-JumpZero.n c.in-JumpZero.is
          c.in_ok-v-in-JumpZero.ensures.place;
      text = λ below. text_done _ word.JumpZero (words c.args.rest) _ c.in-JumpZero.is
          (c.in_ok-v-in-JumpZero.ensures.text (ltb-true c.in_ok-v-in-JumpZero.n 65535 below));
    }

pub returns-in_ok-v-in-JumpNegative : goal.returns-in_ok-v-in-JumpNegative
returns-in_ok-v-in-JumpNegative c =
    record {
      valid = c.in_ok-v-in-JumpNegative.ensures.valid;
      fault = fault_done _ word.JumpNegative (words c.args.rest) c.in-JumpNegative.is
          c.in_ok-v-in-JumpNegative.ensures.fault;
      place = named_done _ word.JumpNegative (words c.args.rest) c.in_ok-v-in-JumpNegative.n c.in-JumpNegative.is
          c.in_ok-v-in-JumpNegative.ensures.place;
      text = λ below. text_done _ word.JumpNegative (words c.args.rest) _ c.in-JumpNegative.is
          (c.in_ok-v-in-JumpNegative.ensures.text (ltb-true c.in_ok-v-in-JumpNegative.n 65535 below));
    }

pub returns-in_ok-one_name-in-Exec : goal.returns-in_ok-one_name-in-Exec
returns-in_ok-one_name-in-Exec c =
    record {
      valid = c.in_ok-one_name-in-Exec.ensures.valid;
      fault = fault_done _ word.Exec (words c.args.rest) c.in-Exec.is c.in_ok-one_name-in-Exec.ensures.fault;
      place = place_done _ word.Exec (words c.args.rest) c.in-Exec.is refl;
      text = λ below. text_done _ word.Exec (words c.args.rest) _ c.in-Exec.is c.in_ok-one_name-in-Exec.ensures.text;
    }

pub returns-in_ok-one_operand-in-Exit : goal.returns-in_ok-one_operand-in-Exit
returns-in_ok-one_operand-in-Exit c =
    record {
      valid = c.in_ok-one_operand-in-Exit.ensures.valid;
      fault = fault_done _ word.Exit (words c.args.rest) c.in-Exit.is c.in_ok-one_operand-in-Exit.ensures.fault;
      place = place_done _ word.Exit (words c.args.rest) c.in-Exit.is refl;
      text = λ below. text_done _ word.Exit (words c.args.rest) _ c.in-Exit.is
          c.in_ok-one_operand-in-Exit.ensures.text;
    }

pub returns-in_ok-u-in-Wait : goal.returns-in_ok-u-in-Wait
returns-in_ok-u-in-Wait c =
    record {
      valid = c.in_ok-u-in-Wait.ensures.valid;
      fault = fault_done _ word.Wait (words c.args.rest) c.in-Wait.is c.in_ok-u-in-Wait.ensures.fault;
      place = place_done _ word.Wait (words c.args.rest) c.in-Wait.is refl;
      text = λ below. text_done _ word.Wait (words c.args.rest) _ c.in-Wait.is c.in_ok-u-in-Wait.ensures.text;
    }

pub returns-in_ok-u-in-Kill : goal.returns-in_ok-u-in-Kill
returns-in_ok-u-in-Kill c =
    record {
      valid = c.in_ok-u-in-Kill.ensures.valid;
      fault = fault_done _ word.Kill (words c.args.rest) c.in-Kill.is c.in_ok-u-in-Kill.ensures.fault;
      place = place_done _ word.Kill (words c.args.rest) c.in-Kill.is refl;
      text = λ below. text_done _ word.Kill (words c.args.rest) _ c.in-Kill.is c.in_ok-u-in-Kill.ensures.text;
    }

pub returns-in-Action : goal.returns-in-Action
returns-in-Action c =
    record {
      valid = c.action.ensures.valid;
      fault = fault_by c.action.result _ word.Action (words c.args.rest) c.in-Action.is c.action.ensures.fault;
      place = read_place c.action.result _ word.Action (words c.args.rest) c.in-Action.is c.action.ensures.read;
      text = read_text c.action.result _ word.Action (words c.args.rest) c.in-Action.is c.action.ensures.read;
    }

pub returns-in-Mask : goal.returns-in-Mask
returns-in-Mask c =
    record {
      valid = c.mask.ensures.valid;
      fault = fault_by c.mask.result _ word.Mask (words c.args.rest) c.in-Mask.is c.mask.ensures.fault;
      place = read_place c.mask.result _ word.Mask (words c.args.rest) c.in-Mask.is c.mask.ensures.read;
      text = read_text c.mask.result _ word.Mask (words c.args.rest) c.in-Mask.is c.mask.ensures.read;
    }

pub returns-in_ok-one_operand-in-Suspend : goal.returns-in_ok-one_operand-in-Suspend
returns-in_ok-one_operand-in-Suspend c =
    record {
      valid = c.in_ok-one_operand-in-Suspend.ensures.valid;
      fault = fault_done _ word.Suspend (words c.args.rest) c.in-Suspend.is
          c.in_ok-one_operand-in-Suspend.ensures.fault;
      place = place_done _ word.Suspend (words c.args.rest) c.in-Suspend.is refl;
      text = λ below. text_done _ word.Suspend (words c.args.rest) _ c.in-Suspend.is
          c.in_ok-one_operand-in-Suspend.ensures.text;
    }

pub returns-in_ok-u-in-SetPgid : goal.returns-in_ok-u-in-SetPgid
returns-in_ok-u-in-SetPgid c =
    record {
      valid = c.in_ok-u-in-SetPgid.ensures.valid;
      fault = fault_done _ word.SetPgid (words c.args.rest) c.in-SetPgid.is c.in_ok-u-in-SetPgid.ensures.fault;
      place = place_done _ word.SetPgid (words c.args.rest) c.in-SetPgid.is refl;
      text = λ below. text_done _ word.SetPgid (words c.args.rest) _ c.in-SetPgid.is c.in_ok-u-in-SetPgid.ensures.text;
    }

pub returns-in_ok-one_operand-in-TcSet : goal.returns-in_ok-one_operand-in-TcSet
returns-in_ok-one_operand-in-TcSet c =
    record {
      valid = c.in_ok-one_operand-in-TcSet.ensures.valid;
      fault = fault_done _ word.TcSet (words c.args.rest) c.in-TcSet.is
          c.in_ok-one_operand-in-TcSet.ensures.fault;
      place = place_done _ word.TcSet (words c.args.rest) c.in-TcSet.is refl;
      text = λ below. text_done _ word.TcSet (words c.args.rest) _ c.in-TcSet.is
          c.in_ok-one_operand-in-TcSet.ensures.text;
    }

pub returns-in_ok-one_operand-in-TtyFlags : goal.returns-in_ok-one_operand-in-TtyFlags
returns-in_ok-one_operand-in-TtyFlags c =
    record {
      valid = c.in_ok-one_operand-in-TtyFlags.ensures.valid;
      fault = fault_done _ word.TtyFlags (words c.args.rest) c.in-TtyFlags.is
          c.in_ok-one_operand-in-TtyFlags.ensures.fault;
      place = place_done _ word.TtyFlags (words c.args.rest) c.in-TtyFlags.is refl;
      text = λ below. text_done _ word.TtyFlags (words c.args.rest) _ c.in-TtyFlags.is
          c.in_ok-one_operand-in-TtyFlags.ensures.text;
    }

pub returns-in_ok-u-in-Read : goal.returns-in_ok-u-in-Read
returns-in_ok-u-in-Read c =
    record {
      valid = c.in_ok-u-in-Read.ensures.valid;
      fault = fault_done _ word.Read (words c.args.rest) c.in-Read.is c.in_ok-u-in-Read.ensures.fault;
      place = place_done _ word.Read (words c.args.rest) c.in-Read.is refl;
      text = λ below. text_done _ word.Read (words c.args.rest) _ c.in-Read.is c.in_ok-u-in-Read.ensures.text;
    }

pub returns-in_ok-u-in-Write : goal.returns-in_ok-u-in-Write
returns-in_ok-u-in-Write c =
    record {
      valid = c.in_ok-u-in-Write.ensures.valid;
      fault = fault_done _ word.Write (words c.args.rest) c.in-Write.is c.in_ok-u-in-Write.ensures.fault;
      place = place_done _ word.Write (words c.args.rest) c.in-Write.is refl;
      text = λ below. text_done _ word.Write (words c.args.rest) _ c.in-Write.is c.in_ok-u-in-Write.ensures.text;
    }
