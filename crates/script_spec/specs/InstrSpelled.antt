-- The words of each instruction spell a valid one.
use Rattle.std.proofs.Common.{◌≡◌, ℕ, List, [], ◌∷◌, None}
use Rattle.std.proofs.Common.{refl, sym, ap, ◌∙◌}
use Rattle.std.specs.Prelude.{codes}
use Rattle.script_spec.specs.declared.fault.InstrWord.{InstrWord}
use Rattle.script_spec.specs.declared.fault.InstrWord.TheVariants as word
use Rattle.script_spec.specs.Fields.{Field}
use Rattle.script_spec.specs.Forms.{instr_forms, forms_fault}
use Rattle.script_spec.specs.FormSpelled.{none_of, alone, register_value, two_values, one_value}
use Rattle.script_spec.specs.FormSpelled.{one_register, one_name, one_place, value_place}
use Rattle.script_spec.specs.FormSpelled.{SpellsInstr}
use Rattle.script_spec.specs.ActionSpelled.{mask_is, action_of}

no_words : (w : InstrWord) (ws : List (List ℕ)) → instr_forms w ≡ [] ∷ [] → forms_fault (instr_forms w) ws ≡ None
    → ws ≡ []
no_words w ws e h = none_of ws (alone [] ws (ap (λ (fs : List (List Field)). forms_fault fs ws) (sym e) ∙ h))

pub instr_spelled : (w : InstrWord) (ws : List (List ℕ)) → forms_fault (instr_forms w) ws ≡ None → SpellsInstr w ws
instr_spelled word.Set ws h =
    let r = register_value ws h in
    record {
      words = ap (λ (vs : List (List ℕ)). codes "set" ∷ vs) r.0;
      valid = r.1;
      below = λ n p. refl;
    }
instr_spelled word.Add ws h =
    let r = register_value ws h in
    record {
      words = ap (λ (vs : List (List ℕ)). codes "add" ∷ vs) r.0;
      valid = r.1;
      below = λ n p. refl;
    }
instr_spelled word.Load ws h =
    let r = register_value ws h in
    record {
      words = ap (λ (vs : List (List ℕ)). codes "load" ∷ vs) r.0;
      valid = r.1;
      below = λ n p. refl;
    }
instr_spelled word.Store ws h =
    let r = two_values ws h in
    record {
      words = ap (λ (vs : List (List ℕ)). codes "store" ∷ vs) r.0;
      valid = r.1;
      below = λ n p. refl;
    }
instr_spelled word.Wait ws h =
    let r = two_values ws h in
    record {
      words = ap (λ (vs : List (List ℕ)). codes "wait" ∷ vs) r.0;
      valid = r.1;
      below = λ n p. refl;
    }
instr_spelled word.Kill ws h =
    let r = two_values ws h in
    record {
      words = ap (λ (vs : List (List ℕ)). codes "kill" ∷ vs) r.0;
      valid = r.1;
      below = λ n p. refl;
    }
instr_spelled word.SetPgid ws h =
    let r = two_values ws h in
    record {
      words = ap (λ (vs : List (List ℕ)). codes "setpgid" ∷ vs) r.0;
      valid = r.1;
      below = λ n p. refl;
    }
instr_spelled word.Read ws h =
    let r = two_values ws h in
    record {
      words = ap (λ (vs : List (List ℕ)). codes "read" ∷ vs) r.0;
      valid = r.1;
      below = λ n p. refl;
    }
instr_spelled word.Write ws h =
    let r = two_values ws h in
    record {
      words = ap (λ (vs : List (List ℕ)). codes "write" ∷ vs) r.0;
      valid = r.1;
      below = λ n p. refl;
    }
instr_spelled word.Push ws h =
    let r = one_value ws h in
    record {
      words = ap (λ (vs : List (List ℕ)). codes "push" ∷ vs) r.0;
      valid = r.1;
      below = λ n p. refl;
    }
instr_spelled word.Exit ws h =
    let r = one_value ws h in
    record {
      words = ap (λ (vs : List (List ℕ)). codes "exit" ∷ vs) r.0;
      valid = r.1;
      below = λ n p. refl;
    }
instr_spelled word.Suspend ws h =
    let r = one_value ws h in
    record {
      words = ap (λ (vs : List (List ℕ)). codes "suspend" ∷ vs) r.0;
      valid = r.1;
      below = λ n p. refl;
    }
instr_spelled word.TcSet ws h =
    let r = one_value ws h in
    record {
      words = ap (λ (vs : List (List ℕ)). codes "tcset" ∷ vs) r.0;
      valid = r.1;
      below = λ n p. refl;
    }
instr_spelled word.TtyFlags ws h =
    let r = one_value ws h in
    record {
      words = ap (λ (vs : List (List ℕ)). codes "ttyflags" ∷ vs) r.0;
      valid = r.1;
      below = λ n p. refl;
    }
instr_spelled word.Pop ws h =
    let r = one_register ws h in
    record {
      words = ap (λ (vs : List (List ℕ)). codes "pop" ∷ vs) r.0;
      valid = r.1;
      below = λ n p. refl;
    }
instr_spelled word.Jump ws h =
    let r = one_place ws h in
    record {
      words = ap (λ (vs : List (List ℕ)). codes "jump" ∷ vs) r.0;
      valid = refl;
      below = r.1;
    }
instr_spelled word.JumpZero ws h =
    let r = value_place ws h in
    record {
      words = ap (λ (vs : List (List ℕ)). codes "jzero" ∷ vs) r.0;
      valid = r.1;
      below = r.2;
    }
instr_spelled word.JumpNegative ws h =
    let r = value_place ws h in
    record {
      words = ap (λ (vs : List (List ℕ)). codes "jneg" ∷ vs) r.0;
      valid = r.1;
      below = r.2;
    }
instr_spelled word.Exec ws h =
    let r = one_name ws h in
    record {
      words = ap (λ (vs : List (List ℕ)). codes "exec" ∷ vs) r.0;
      valid = r.1;
      below = λ n p. refl;
    }
instr_spelled word.Action ws h =
    let r = action_of ws h in
    record {
      words = ap (λ (vs : List (List ℕ)). codes "action" ∷ vs) r.0;
      valid = r.1;
      below = r.2;
    }
instr_spelled word.Mask ws h =
    let r = mask_is ws h in
    record {
      words = ap (λ (vs : List (List ℕ)). codes "mask" ∷ vs) r.0;
      valid = r.1;
      below = λ n p. refl;
    }
instr_spelled word.GetPid ws h =
    record {
      words = ap (λ (vs : List (List ℕ)). codes "getpid" ∷ vs) (sym (no_words word.GetPid ws refl h));
      valid = refl;
      below = λ n p. refl;
    }
instr_spelled word.GetPpid ws h =
    record {
      words = ap (λ (vs : List (List ℕ)). codes "getppid" ∷ vs) (sym (no_words word.GetPpid ws refl h));
      valid = refl;
      below = λ n p. refl;
    }
instr_spelled word.GetPgid ws h =
    record {
      words = ap (λ (vs : List (List ℕ)). codes "getpgid" ∷ vs) (sym (no_words word.GetPgid ws refl h));
      valid = refl;
      below = λ n p. refl;
    }
instr_spelled word.GetSid ws h =
    record {
      words = ap (λ (vs : List (List ℕ)). codes "getsid" ∷ vs) (sym (no_words word.GetSid ws refl h));
      valid = refl;
      below = λ n p. refl;
    }
instr_spelled word.Fork ws h =
    record {
      words = ap (λ (vs : List (List ℕ)). codes "fork" ∷ vs) (sym (no_words word.Fork ws refl h));
      valid = refl;
      below = λ n p. refl;
    }
instr_spelled word.Pause ws h =
    record {
      words = ap (λ (vs : List (List ℕ)). codes "pause" ∷ vs) (sym (no_words word.Pause ws refl h));
      valid = refl;
      below = λ n p. refl;
    }
instr_spelled word.Return ws h =
    record {
      words = ap (λ (vs : List (List ℕ)). codes "return" ∷ vs) (sym (no_words word.Return ws refl h));
      valid = refl;
      below = λ n p. refl;
    }
instr_spelled word.SetSid ws h =
    record {
      words = ap (λ (vs : List (List ℕ)). codes "setsid" ∷ vs) (sym (no_words word.SetSid ws refl h));
      valid = refl;
      below = λ n p. refl;
    }
instr_spelled word.TcGet ws h =
    record {
      words = ap (λ (vs : List (List ℕ)). codes "tcget" ∷ vs) (sym (no_words word.TcGet ws refl h));
      valid = refl;
      below = λ n p. refl;
    }
