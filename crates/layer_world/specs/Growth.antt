-- How little a directive adds to the state: one process at most, and one key where it is a key.
use Rattle.std.proofs.Common.{◌≡◌, ℕ, ◌+◌, ◌≤◌, [], ◌∷◌, length, Option, Some, None, sym, subst, refl, arith}
use Rattle.std.proofs.lemmas.List.{length-append}
use Rattle.w32_base.specs.declared.call.Call.{Call}
use Rattle.w32_base.specs.declared.entry.Directive.{Directive}
use Rattle.w32_base.specs.declared.entry.Directive.TheVariants as directive
use Rattle.w32_base.specs.declared.entry.Outcome.{Outcome}
use Rattle.script_spec.specs.declared.script.Script.{Script}
use Rattle.win32_spec.specs.CallEffects.{by_bool}
use Rattle.win32_spec.specs.Lookup.{process_of, is_live, process_in}
use Rattle.win32_spec.specs.Ready.{is_ready}
use Rattle.win32_spec.specs.Run.{EndStep, StepBy}
use Rattle.win32_spec.specs.State.{Process, Win32State}
use Rattle.w32_machine.specs.Contract.{keys_of}
use Rattle.layer_world.specs.Queue.{GrowsLittle, call-grows}

-- after a directive the next number is at most one more, and the queue no longer than the directive makes it
pub record GrowsBy (d : Directive) (s new : Win32State) : Type 0 where
  pub next : new.next ≤ s.next + 1
  pub keys : length new.keys ≤ length s.keys + keys_of d

stays : (d : Directive) (s new : Win32State) → new ≡ s → GrowsBy d s new
stays d s new e = subst (λ n. GrowsBy d s n) (sym e) (record { next = omega arith; keys = omega arith })

grown : (slot t : ℕ) (s mid new : Win32State) → GrowsLittle s mid → new.next ≡ mid.next → new.keys ≡ mid.keys
    → GrowsBy (directive.Turn slot t) s new
grown slot t s mid new grows next keys = record {
  next = omega (arith, grows.next, next);
  keys = subst (λ k. length k ≤ length s.keys + 0) (sym keys) (omega (arith, grows.keys));
}

ended : (slot : ℕ) (s new : Win32State) (came : Outcome) (o : Option Process) → EndStep s o came new
    → GrowsBy (directive.End slot) s new
ended slot s new came None m = stays (directive.End slot) s new m.1
ended slot s new came (Some p) m =
    subst (λ n. GrowsBy (directive.End slot) s n) (sym m.1) (record { next = omega arith; keys = omega arith })

pub step-grows : (script : Script) (s : Win32State) (d : Directive) (called : Option Call) (came : Outcome)
    (new : Win32State) → StepBy script s d called came new → GrowsBy d s new
step-grows script s (directive.Turn slot t) called came new step =
    by_bool (is_ready s slot t)
    (λ ready turn.
    let grows = call-grows script s turn.process.number t turn.thread.posted turn.reply turn.mid turn.posted.step in
    by_bool (is_live (process_of turn.mid.processes turn.process.number))
    (λ lives acts. subst (λ n. GrowsBy (directive.Turn slot t) s n) (sym acts.after)
    (grown slot t s turn.mid _ grows refl refl))
    (λ dies same. subst (λ n. GrowsBy (directive.Turn slot t) s n) (sym same)
    (grown slot t s turn.mid turn.mid grows refl refl)) turn.goes_on)
    (λ waits idle. stays (directive.Turn slot t) s new idle.2) step
step-grows script s (directive.End slot) called came new step =
    ended slot s new came (process_in s.processes slot) step.1
step-grows script s (directive.Key b) called came new step =
    subst (λ n. GrowsBy (directive.Key b) s n) (sym step.2)
    (record { next = omega arith; keys = omega (arith, length-append s.keys (b ∷ [])) })
