-- What the clauses of the pieces ask at their first steps, of what a look shows: for a script whose programs have no
-- other calls than those that are built.
use Rattle.std.proofs.Common.{◌≡◌, ℕ, if◌then◌else◌, ◌+◌, ◌≤◌, ℤ, pos, negsuc, nat_eq, nat_le, Bool, true, false, List}
use Rattle.std.proofs.Common.{Some, None, refl, sym, ap, ◌∙◌, subst, arith, leb-true}
use Rattle.w32_base.specs.declared.instr.Instr.TheVariants as instr
use Rattle.w32_base.specs.declared.instr.Operand.{Operand}
use Rattle.script_spec.specs.declared.script.Script.{Script}
use Rattle.vm_spec.specs.Image.{image_of, value_of}
use Rattle.vm_spec.specs.Step.{CallInstruction, ImageFault, low_byte}
use Rattle.win32_spec.specs.Lookup.{memory_by}
use Rattle.posix_spec.specs.GroupCalls.{killing_signal}
use Rattle.posix_spec.specs.KillSteps.{One, Group, Invalid, target_of}
use Rattle.posix_spec.specs.SignalLaws.{first_of, second_of}
use Rattle.layer_spec.specs.Moment.{Moment, Seen}
use Rattle.layer_spec.specs.Words.{row_of}
use Rattle.kill_calls.specs.Kill.{kill_begun}
use Rattle.kill_calls.specs.KillClause.{KillClause}
use Rattle.kill_calls.specs.KillStart.{has_row, as_signal}
use Rattle.child_watch.specs.declared.ending.Ending.{Ending}
use Rattle.child_watch.specs.declared.ending.Ending.TheVariants as ending
use Rattle.child_watch.specs.ExitClause.{EndsAt, ExitClause}
use Rattle.child_watch.specs.Exiting.{exit_begun}
use Rattle.child_watch.specs.ExitHolds.{exit-begins}
use Rattle.vm_spec.specs.Step.{Upcoming}
use Rattle.world_spec.specs.Notes.{IsAtNext}
use Rattle.world_spec.specs.StepLaws.{some_same}
use Rattle.layer_actor.specs.declared.identity.Identity.{Identity}
use Rattle.layer_actor.specs.Built.{is_built}
use Rattle.layer_actor.specs.BuiltLaws.{at-built, built-checks}
use Rattle.layer_actor.specs.LookFollows.{StandsAt, Follows}
use Rattle.layer_actor.specs.MainClause.{StandsAtPiece}

-- a signal that may be sent is the number of the value
sends_is : (z : ℤ) (n : ℕ) → killing_signal z ≡ Some n → z ≡ pos n
sends_is (pos k) n is = by_test (nat_le k 31) is
  where
    by_test : (b : Bool) → (if b then Some k else None) ≡ Some n → pos k ≡ pos n
    by_test true e = ap (λ m. pos m) (some_same k n e)
    by_test false e = absurd (let never : None ≡ Some n = e in cc)
sends_is (negsuc k) n is = absurd (let never : None ≡ Some n = is in cc)

-- a target that is one process is a number
one_is : (z : ℤ) (q : ℕ) → target_of z ≡ One q → z ≡ pos q
one_is (pos n) q is = by_zero (nat_eq n 0) is
  where
    by_zero : (b : Bool) → (if b then Group else One n) ≡ One q → pos n ≡ pos q
    by_zero true e = absurd (let never : Group ≡ One q = e in cc)
    by_zero false e = let same : One n ≡ One q = e in cc
one_is (negsuc n) q is = absurd (by_zero (nat_eq n 0) is)
  where
    by_zero : (b : Bool) → (if b then Invalid else Group) ≡ One q → ⊥
    by_zero true e = absurd (let never : Invalid ≡ One q = e in cc)
    by_zero false e = absurd (let never : Group ≡ One q = e in cc)

own_of : (row : ℕ) → row_of (row + 1) ≡ row
own_of row = omega arith

module _ {A : Type 0} (script : Script) (built : is_built script ≡ true) (past : List (Seen A)) (after : Moment A)
    (w : ℕ) (who : Identity) where
  -- an end begins, of the image of the process
  ends : (next : Upcoming) (e : Ending) → (s : StandsAt script after w who next) → EndsAt e next s.at.noted.image
      → ExitClause script past after w (exit_begun who.row who.image e)
  ends next e s how =
      subst (λ k. ExitClause script past after w (exit_begun who.row k e)) (sym s.main.image)
      (exit-begins script past after w who.row next e s.at how)

  -- a check begins, of a process with one of the script's rows
  checks : (target signal : Operand) (q n : ℕ)
      → (s : StandsAt script after w who (CallInstruction (instr.Kill target signal)))
      → killing_signal (value_of (image_of (memory_by after.win32 w)) signal) ≡ Some n
      → target_of (value_of (image_of (memory_by after.win32 w)) target) ≡ One q
      → has_row script.setup.limits.rows q ≡ true
      → KillClause script past after w (kill_begun (who.row + 1) (row_of q) (as_signal n))
  checks target signal q n s sends is has =
      let none = built-checks (image_of (memory_by after.win32 w)) target signal n
      (at-built script after w who.row (instr.Kill target signal) built s.at) sends in
      let low = leb-true 2 q (first_of (nat_le 2 q) (nat_le q (script.setup.limits.rows + 1)) has) in
      let high = leb-true q (script.setup.limits.rows + 1)
      (second_of (nat_le 2 q) (nat_le q (script.setup.limits.rows + 1)) has) in
      subst (λ k. KillClause script past after w (kill_begun (who.row + 1) (row_of q) (as_signal k)))
      (sym none.0)
      (record {
        target_operand = target;
        signal_operand = signal;
        next = subst (λ k. IsAtNext script after w k (CallInstruction (instr.Kill target signal)))
            (sym (own_of who.row)) s.at;
        target_is = one_is (value_of (image_of (memory_by after.win32 w)) target) q is
            ∙ ap (λ k. pos k) (back q low);
        signal_is = sends_is (value_of (image_of (memory_by after.win32 w)) signal) n sends ∙ ap (λ k. pos k) none.0;
        no_signal = refl;
        by_is = ap (λ k. k + 1) (sym (own_of who.row));
        from = omega (arith, low);
        within = omega (arith, high);
      })
    where
      back : (k : ℕ) → 2 ≤ k → k ≡ row_of k + 1
      back k low = omega (arith, low)

  -- Each piece that may follow a look stands where its clause says.
  pub main-follows : Follows script (StandsAtPiece script) past after w who
  main-follows = record {
    rested = refl;
    looking = λ image between. record { row = refl; between = between };
    running = λ s. (refl, s.at, s.main.runs);
    parent = λ s. (refl, s.at);
    group = λ s. (refl, s.at);
    session = λ s. (refl, s.at);
    faults = λ s. ends ImageFault ending.Fault s refl;
    exiting = λ v s. ends (CallInstruction (instr.Exit v))
        (ending.Exit (low_byte (value_of (image_of (memory_by after.win32 w)) v))) s
        (ap (λ i. Some (low_byte (value_of i v))) s.image);
    killing = λ target signal q n s sends is has. (own_of who.row, checks target signal q n s sends is has);
  }
