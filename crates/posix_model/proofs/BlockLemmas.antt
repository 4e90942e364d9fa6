-- Lemmas of blocks.
use Rattle.std.proofs.Common.{◌≡◌, ℕ, suc, ℤ, Bool, true, false, cond, ◌&&◌, not, nat_lt, List, Option, Some, None}
use Rattle.std.proofs.Common.{refl, sym, ◌∙◌, ap, arith, eqb-true, lt-ltb, true≢false, slice_get}
use Rattle.std.specs.Ordering.{nat_cmp, eq_by_cmp}
use Rattle.std.specs.Cmp.{nat_cmp_total, unsigned_tied}
use Rattle.std.specs.FinMap as map
use Rattle.std.specs.FinMap.{nat_cmp-IsAntisymmetric}
use Rattle.w32_base.specs.declared.instr.Instr.{Instr}
use Rattle.w32_base.specs.declared.setup.Program.{Program}
use Rattle.script_spec.specs.declared.script.Script.{Script}
use Rattle.vm_spec.specs.Image.{Image, program_of}
use Rattle.vm_spec.specs.Block.{is_local_next, block_within, block_length}
use Rattle.vm_spec.specs.Step.{Upcoming, LocalInstruction, CallInstruction, ImageFault, upcoming, local_step}
use Rattle.posix_spec.specs.CallLaws.{negation}
use Rattle.posix_spec.specs.Conditions.{code_at, code_of, next_of, may_go_on, is_group_call, waits_for_signal}
use Rattle.posix_spec.specs.Conditions.{for_process}
use Rattle.posix_spec.specs.Numbers.{is_number}
use Rattle.posix_spec.specs.OwnSteps.{with_block, run_step}
use Rattle.posix_spec.specs.Pending.{is_running, has_deliverable}
use Rattle.posix_spec.specs.Records.{settled, change_record}
use Rattle.posix_spec.specs.SignalLaws.{first_of, second_of}
use Rattle.posix_spec.specs.State.{Record, Records, PosixState, record_of}
use Rattle.posix_model.specs.declared.machine.Machine.{Machine}
use Rattle.posix_model.specs.declared.table.Table.{Table}
use Rattle.posix_model.specs.Blocks.{is_at_block, with_run, ran}
use Rattle.posix_model.specs.Gives.{Gives}
use Rattle.posix_model.specs.Machine.{script_of, state_of, PosixMachine}
use Rattle.posix_model.specs.Table.{records_of}
use Rattle.posix_model.proofs.ChangeLaws.{changed_by}
use Rattle.posix_model.proofs.NextLemmas.{next_of-none}
use Rattle.posix_model.proofs.NumberedLaws.{insert-remove}
use Rattle.posix_model.proofs.StepLemmas.{value_some, test_true, test_false}

any_by : (b : Bool) (n : ℕ) → nat_lt 0 (cond b (suc n) 0) ≡ b
any_by true n = lt-ltb 0 (suc n) (omega arith)
any_by false n = refl

-- a block has an instruction where a local one is next
has_any : (code : List Instr) (image : Image) → nat_lt 0 (block_length code image) ≡ is_local_next (upcoming code image)
unfolding block_length block_within
has_any code image = any_by (is_local_next (upcoming code image)) (block_within 255 code (local_step code image))

none_by : {A : Type 0} (b : Bool) → cond b None None ≡ (let none : Option A = None in none)
none_by true = refl
none_by false = refl

none_last : {A : Type 0} (a g : Bool) (o : Option A) → cond (a && (g && false)) o None ≡ None
none_last true true o = refl
none_last true false o = refl
none_last false g o = refl

module _ {A : Type 0} (a g blocked : Bool) (same : Bool) (x : A) where
  shape_by : (more waits : Bool) → (more ≡ true → waits ≡ false) →
      cond (a && (g && not (blocked && waits))) (cond (more && same) (Some x) None) None ≡ cond (a && (g && more))
      (cond same (Some x) None) None
  shape_by true true h = absurd (true≢false (h refl))
  shape_by true false h = elim blocked as (λ b. cond (a && (g && not (b && false))) (cond same (Some x) None) None ≡
      cond (a && (g && true)) (cond same (Some x) None) None) [ true ↦ refl | false ↦ refl ]
  shape_by false waits h = none_by (a && (g && not (blocked && waits))) ∙ sym (none_last a g (cond same (Some x) None))

local_waits_not : (u : Upcoming) → is_local_next u ≡ true → waits_for_signal u ≡ false
local_waits_not LocalInstruction e = refl
local_waits_not (CallInstruction i) e = cc
local_waits_not ImageFault e = cc

pub run_step-is : (script : Script) (s : PosixState) (p : ℕ) (n : ℤ) (r : Record) →
    run_step script s p n r ≡ cond (is_at_block script r) (ran script s p n r) None
run_step-is script s p n r =
    let code = code_of script r.image in
    let same = is_number n (block_length code r.image) in
    let new = change_record s p (with_block script) in
    let waits = waits_for_signal (next_of script r) in
    ap (λ more. cond (may_go_on r && (not (is_group_call r.call) && not (r.blocked && waits)))
    (cond (more && same) (Some new) None) None) (has_any code r.image)
    ∙ shape_by (may_go_on r) (not (is_group_call r.call)) r.blocked same new (is_local_next (next_of script r)) waits
    (local_waits_not (next_of script r))

-- a value that is put in again
pub insert-same : {X : Type 0} (m : map.FinMap nat_cmp X) (k : ℕ) (x : X) → map.get m k ≡ Some x → map.insert m k x ≡ m
insert-same m k x there = map.same_map nat_cmp_total nat_cmp-IsAntisymmetric _ _ (λ q.
    map.get-insert nat_cmp_total m k x q
    ∙ elim (eq_by_cmp nat_cmp q k) as (λ b. eq_by_cmp nat_cmp q k ≡ b → cond b (Some x) (map.get m q) ≡ map.get m q) [
      | true ↦ λ is. sym there ∙ ap (map.get m) (sym (eqb-true q k (sym (unsigned_tied q k) ∙ is)))
      | false ↦ λ is. refl
    ] refl)

abbrev with_due : Record → Bool → Record
with_due r b = record r { due = b }

-- a process that no signal goes before is the same after it was taken out and put in again
pub put_back : (s : PosixState) (p : ℕ) (r : Record) (rest new : Records) → record_of s p ≡ Some r → r.due ≡ false →
    rest ≡ map.remove s.records p → new ≡ map.insert rest p (settled r) → (record s { records = new }) ≡ s
put_back s p r rest new there idle without put =
    let same : settled r ≡ r = ap (with_due r) (ap (λ b. b && has_deliverable r) idle ∙ sym idle) in
    ap (λ (m : Records). record s { records = m }) (put
    ∙ ap (λ (m : Records). map.insert m p (settled r)) without
    ∙ insert-remove s.records p (settled r)
    ∙ ap (λ (x : Record). map.insert s.records p x) same
    ∙ insert-same s.records p r there)

is_local : (u : Upcoming) → is_local_next u ≡ true → u ≡ LocalInstruction
is_local LocalInstruction e = refl
is_local (CallInstruction i) e = cc
is_local ImageFault e = cc

module _ (script : Script) (r : Record) (at : is_at_block script r ≡ true) where
  -- a local instruction is next at a block
  pub next_is : next_of script r ≡ LocalInstruction
  next_is = is_local (next_of script r) (second_of (not (is_group_call r.call)) _ (second_of (may_go_on r) _ at))

  -- and no signal goes first
  pub not_due : r.due ≡ false
  not_due = negation r.due (second_of (is_running r.life) (not r.due) (first_of (may_go_on r) _ at))

  -- the program is there
  pub has_program : slice_get script.setup.programs (program_of r.image) ≡ None → ⊥
  has_program none =
      let fault : next_of script r ≡ ImageFault = next_of-none script r none in
      true≢false (sym (ap is_local_next next_is) ∙ ap is_local_next fault)

  pub code_is : (x : Program) → slice_get script.setup.programs (program_of r.image) ≡ Some x → x.code ≡ code_of script
      r.image
  code_is x e = ap code_at (sym e)

  pub local_in : (x : Program) → slice_get script.setup.programs (program_of r.image) ≡ Some x → upcoming x.code r.image
      ≡ LocalInstruction
  local_in x e = ap (λ (code : List Instr). upcoming code r.image) (code_is x e) ∙ next_is

module _ (m : Machine) (t : Table) (p : ℕ) (n : ℤ) (r x : Record) (rest : Records) (there : record_of (state_of m) p ≡
    Some r) (idle : r.due ≡ false) (without : rest ≡ map.remove (state_of m).records p)
    (put : records_of t ≡ map.insert rest p (settled x)) where
  -- a process that was taken out, and put in again after its block, or as it was
  pub ran_gives : (done : Bool) → done ≡ is_number n (block_length (code_of (script_of m) r.image) r.image) →
      x ≡ cond done (with_run (code_of (script_of m) r.image) r) r →
      Gives (for_process (state_of m) p (ran (script_of m) (state_of m) p n)) done m (record m { table = t })
  ran_gives true same is = (
    value_some (record_of (state_of m) p) (ran (script_of m) (state_of m) p n) r there
        ∙ test_true _ _ (sym same)
        ∙ ap Some (sym (changed_by (state_of m) p (with_block (script_of m)) r x rest (records_of t) there without is
        put)),
    refl,
  )
  ran_gives false same is = (
    value_some (record_of (state_of m) p) (ran (script_of m) (state_of m) p n) r there ∙ test_false _ _ (sym same),
    ap (λ (k : PosixState). let before : PosixMachine = record { limits = m.limits; programs = m.programs; state = k }
        in before)
        (put_back (state_of m) p r rest (records_of t) there idle without (put ∙ ap (λ (y : Record). map.insert rest p
        (settled y)) is)),
  )
