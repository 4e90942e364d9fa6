-- What is next in a program of a built script: a local instruction, a call that is built, or an image fault. Such a
-- kill is a check only, and no process is made.
use Rattle.std.proofs.Common.{◌≡◌, inl, inr, ℕ, zero, suc, ℤ, pos, negsuc, Bool, true, false, nat_le, if◌then◌else◌}
use Rattle.std.proofs.Common.{List, [], ◌∷◌}
use Rattle.std.proofs.Common.{Option, Some, None, slice_get, refl, sym, ap, ◌∙◌}
use Rattle.std.proofs.lemmas.Bool.{eqb-true}
use Rattle.std.specs.List.{list_all}
use Rattle.w32_base.specs.declared.instr.Instr.{Instr}
use Rattle.w32_base.specs.declared.instr.Instr.TheVariants as instr
use Rattle.w32_base.specs.declared.instr.Operand.{Operand}
use Rattle.w32_base.specs.declared.instr.Operand.TheVariants as operand
use Rattle.w32_base.specs.declared.setup.Program.{Program}
use Rattle.script_spec.specs.declared.script.Script.{Script}
use Rattle.vm_spec.specs.Faults.{faults}
use Rattle.vm_spec.specs.Image.{Image, value_of, place_of, program_of}
use Rattle.vm_spec.specs.Step.{Upcoming, LocalInstruction, CallInstruction, ImageFault, is_local, is_zero, upcoming}
use Rattle.vm_spec.specs.Step.{upcoming_at}
use Rattle.win32_spec.specs.LookupLaws.{and_true, or_true}
use Rattle.posix_spec.specs.Conditions.{code_at, code_of, next_of}
use Rattle.posix_spec.specs.GroupCalls.{killing_signal}
use Rattle.posix_spec.specs.State.{Record}
use Rattle.layer_spec.specs.Discipline.{is_fork_or_exec}
use Rattle.layer_spec.specs.Moment.{Moment}
use Rattle.kill_calls.specs.KillStart.{as_signal}
use Rattle.world_spec.specs.Notes.{IsAtNext}
use Rattle.layer_actor.specs.Built.{is_above_zero, is_built_call, is_built_instr, is_built_line, is_built_program}
use Rattle.layer_actor.specs.Built.{is_built}

-- what is found in a list of which each keeps a rule
all_found : {X : Type 0} → (f : X → Bool) (xs : List X) (i : ℕ) (x : X) → list_all f xs ≡ true
    → slice_get xs i ≡ Some x → f x ≡ true
all_found f [] i x all found = absurd (cc)
all_found f (y ∷ xs) zero x all found =
    let same : y ≡ x = cc in ap f (sym same) ∙ (and_true (f y) (list_all f xs) all).0
all_found f (y ∷ xs) (suc i) x all found = all_found f xs i x (and_true (f y) (list_all f xs) all).1 found

built_code : (script : Script) (image : Image) → is_built script ≡ true
    → list_all is_built_instr (code_of script image) ≡ true
built_code script image built = by_program (slice_get script.setup.programs (program_of image)) refl
  where
    by_program : (o : Option Program) → slice_get script.setup.programs (program_of image) ≡ o
        → list_all is_built_instr (code_at o) ≡ true
    by_program None found = refl
    by_program (Some program) found =
        all_found is_built_program script.setup.programs (program_of image) program
        (and_true (list_all is_built_program script.setup.programs) (list_all is_built_line script.directives) built).0
        found

-- a call that is next is an instruction of the code
found_call : (o : Option Instr) (i : Instr) → upcoming_at o ≡ CallInstruction i
    → (o ≡ Some i) × (is_local i ≡ false)
found_call None i next = absurd (cc)
found_call (Some j) i next = by_test (is_local j) refl next
  where
    by_test : (b : Bool) → is_local j ≡ b → (if b then LocalInstruction else CallInstruction j) ≡ CallInstruction i
        → (Some j ≡ Some i) × (is_local i ≡ false)
    by_test true e f = absurd (cc)
    by_test false e f = let same : j ≡ i = cc in (ap (λ k. Some k) same, ap is_local (sym same) ∙ e)

next_call : (code : List Instr) (image : Image) (i : Instr) → upcoming code image ≡ CallInstruction i
    → (slice_get code (place_of image) ≡ Some i) × (is_local i ≡ false)
unfolding upcoming
next_call code image i next = by_fault (faults code image) next
  where
    by_fault : (b : Bool)
        → (if b then ImageFault else upcoming_at (slice_get code (place_of image))) ≡ CallInstruction i
        → (slice_get code (place_of image) ≡ Some i) × (is_local i ≡ false)
    by_fault true e = absurd (cc)
    by_fault false e = found_call (slice_get code (place_of image)) i e

-- The call that is next is built.
pub next-built : (script : Script) (r : Record) (i : Instr) → is_built script ≡ true
    → next_of script r ≡ CallInstruction i → is_built_call i ≡ true
next-built script r i built next =
    let at = next_call (code_of script r.image) r.image i next in
    let its : is_built_instr i ≡ true =
    all_found is_built_instr (code_of script r.image) (place_of r.image) i (built_code script r.image built) at.0 in
    elim (or_true (is_local i) (is_built_call i) its) [
      | inl e ↦ absurd (let never : true ≡ false = sym e ∙ at.1 in cc)
      | inr e ↦ e
    ]

-- So it is where the main thread of a process is at a call.
pub at-built : {A : Type 0} → (script : Script) (now : Moment A) (w row : ℕ) (i : Instr) → is_built script ≡ true
    → IsAtNext script now w row (CallInstruction i) → is_built_call i ≡ true
at-built script now w row i built at = next-built script at.noted i built at.next_is

-- the number 0 is the only one that is_zero finds, and it is no signal
zero_signal : (signal : ℤ) (n : ℕ) → is_zero signal ≡ true → killing_signal signal ≡ Some n → n ≡ 0
zero_signal (pos k) n zero_is kills = by_test (nat_le k 31) kills
  where
    by_test : (b : Bool) → (if b then Some k else None) ≡ Some n → n ≡ 0
    by_test true e = let same : k ≡ n = cc in sym same ∙ eqb-true k 0 zero_is
    by_test false e = absurd (cc)
zero_signal (negsuc k) n zero_is kills = absurd (cc)

-- A kill that is built is a check only.
pub built-checks : (image : Image) (target signal : Operand) (n : ℕ) → is_built_call (instr.Kill target signal) ≡ true
    → killing_signal (value_of image signal) ≡ Some n → (n ≡ 0) × (as_signal n ≡ None)
built-checks image (operand.Number target) (operand.Number signal) n built kills =
    let none = zero_signal signal n (and_true (is_above_zero target) (is_zero signal) built).1 kills in
    (none, ap as_signal none)
built-checks image (operand.Number target) (operand.Register r) n built kills = absurd (cc)
built-checks image (operand.Register q) signal n built kills = absurd (cc)

call_no_fork : (i : Instr) → is_built_call i ≡ true → is_fork_or_exec (CallInstruction i) ≡ false
call_no_fork instr.Fork built = absurd (cc)
call_no_fork (instr.Exec name) built = absurd (cc)
call_no_fork _ built = refl

-- No fork and no exec is next.
pub no-fork : (script : Script) (r : Record) → is_built script ≡ true → is_fork_or_exec (next_of script r) ≡ false
no-fork script r built = by_next (next_of script r) refl
  where
    by_next : (u : Upcoming) → next_of script r ≡ u → is_fork_or_exec u ≡ false
    by_next LocalInstruction next = refl
    by_next (CallInstruction i) next = call_no_fork i (next-built script r i built next)
    by_next ImageFault next = refl
