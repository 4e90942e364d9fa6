-- Blocks of local instructions, reads and new programs keep a state well formed.
use Rattle.std.specs.Prelude.{◌≡◌, ◌≢◌, ◌⊎◌, ℕ, ◌+◌, ◌≤◌, ℤ, pos, negsuc, min, Bool, true, false, ◌&&◌, nat_eq, nat_lt}
use Rattle.std.specs.Prelude.{if◌then◌else◌, List, [], ◌∷◌, length, slice_get, Option, Some, None, IfSome}
use Rattle.std.specs.Option.{unwrap_or}
use Rattle.std.proofs.Common.{refl, sym, ap, subst, ◌∙◌, arith, true≢false, ltb-true, ltb-false, inl, inr}
use Rattle.std.proofs.Common.{length-append, length-take, length-drop}
use Rattle.std.proofs.lemmas.Option.{slice_get_within, get_or_from_slice_get}
use Rattle.w32_base.specs.Names.{is_same}
use Rattle.w32_base.specs.declared.event.Event.TheVariants as event
use Rattle.w32_base.specs.declared.instr.Instr.{Instr}
use Rattle.w32_base.specs.declared.instr.Instr.TheVariants as instr
use Rattle.w32_base.specs.declared.instr.Operand.{Operand}
use Rattle.w32_base.specs.declared.setup.Program.{Program}
use Rattle.script_spec.specs.declared.script.Script.{Script}
use Rattle.vm_spec.specs.Image.{program_of, value_of, with_result}
use Rattle.vm_spec.specs.Faults.{is_range_outside}
use Rattle.vm_spec.specs.Step.{Upcoming, LocalInstruction, CallInstruction, ImageFault, address_of}
use Rattle.vm_spec.specs.Block.{block_length}
use Rattle.vm_spec.specs.BlockLaws.{block_length-zero}
use Rattle.tty_spec.specs.Terminal.{Terminal}
use Rattle.tty_spec.specs.Discipline.{Taken, taking, after_take}
use Rattle.tty_spec.specs.TerminalLaws.{IsTerminal, after_take_keeps}
use Rattle.posix_spec.specs.Numbers.{is_number}
use Rattle.posix_spec.specs.State.{Numbers, Record, PosixState, record_of}
use Rattle.posix_spec.specs.Pending.{is_running}
use Rattle.posix_spec.specs.Records.{change_record}
use Rattle.posix_spec.specs.Conditions.{code_at, code_of, call_of, next_of, may_go_on, may_act}
use Rattle.posix_spec.specs.OwnSteps.{with_block, run_block_step, run_step}
use Rattle.posix_spec.specs.Checks.{is_allowed, read_check, count_of}
use Rattle.posix_spec.specs.TerminalSteps.{with_bytes, with_heap_bytes, with_read, read_from, after_read, line_by}
use Rattle.posix_spec.specs.TerminalSteps.{line_step}
use Rattle.posix_spec.specs.DeathSteps.{is_fault}
use Rattle.posix_spec.specs.Step.{posix_step}
use Rattle.posix_spec.specs.RecordLaws.{same_record}
use Rattle.posix_spec.specs.SignalLaws.{first_of}
use Rattle.posix_spec.specs.ImageLaws.{IsImage-heap, IsImage-with_result}
use Rattle.posix_spec.specs.Ranges.{WritesRegisters, HasRegisters}
use Rattle.posix_spec.specs.LocalLaws.{IsImage-block}
use Rattle.posix_spec.specs.WellFormed.{IsUsed, IsWellFormedRecord, IsWellFormed, is_blocking_next, is_wait_next}
use Rattle.posix_spec.specs.WellFormed.{is_group_next, is_suspend_next}
use Rattle.posix_spec.specs.KeepLaws.{Keeps, IsWellFormed-change}
use Rattle.posix_spec.specs.CallLaws.{IsCalling, IsActing-calling, Keeps-ended, next_call, none_some}
use Rattle.posix_spec.specs.CallLaws.{running_not_zombie, running_is_live}
use Rattle.posix_spec.specs.AnswerLaws.{after_none, after_if, after_test, after_value}
use Rattle.posix_spec.specs.SentLaws.{after_call, after_process}
use Rattle.posix_spec.specs.StateLaws.{IsWellFormed-parts}

-- ---- what a read takes

taking_is : (terminal : Terminal) (lines : List (List ℕ)) (n : ℕ) (taken : Taken) → taking terminal lines n ≡ Some
    taken →
    (taken.terminal.foreground ≡ terminal.foreground) × (length taken.bytes ≤ n)
taking_is terminal [] n taken e = absurd (none_some taken e)
taking_is terminal (first ∷ rest) n taken e =
    let same : Taken = unwrap_or (taking terminal (first ∷ rest) n) taken in
    let is : same ≡ taken = ap (λ o. unwrap_or o taken) e in
    (ap (λ t. t.terminal.foreground) (sym is), omega (arith, ap (λ t. length t.bytes) is, length-take n first))

record IsTaken (terminal : Terminal) (n : ℕ) (taken : Taken) : Type 0 where
  is_terminal : IsTerminal taken.terminal
  foreground : taken.terminal.foreground ≡ terminal.foreground
  few : length taken.bytes ≤ n

read_is : (terminal : Terminal) (n : ℕ) (taken : Taken) → IsTerminal terminal → (b : Bool) →
    (if b then Some (record { terminal = terminal; bytes = [] }) else after_take terminal n) ≡ Some taken → IsTaken
    terminal n taken
read_is terminal n taken h true e =
    let none : Taken = record { terminal = terminal; bytes = [] } in
    let is : none ≡ taken = ap (λ o. unwrap_or o none) e in
    subst (IsTaken terminal n) is (record { is_terminal = h; foreground = refl; few = omega arith })
read_is terminal n taken h false e =
    let facts = taking_is terminal terminal.done_lines n taken e in
    record {
      is_terminal = subst (λ o. IfSome o (λ t. IsTerminal t.terminal)) e (after_take_keeps terminal n h);
      foreground = facts.0;
      few = facts.1;
    }

-- ---- bytes in the heap

range_inside : (size : ℕ) (address count : ℤ) → is_range_outside size address count ≡ false → (count_of count ≡ 0) ⊎
    (address_of address + count_of count ≤ size)
range_inside size (pos a) (pos c) e =
    elim (nat_lt 0 c) as (λ b. nat_lt 0 c ≡ b → (b && nat_lt size (a + min c 64)) ≡ false → (min c 64 ≡ 0) ⊎
    (a + min c 64 ≤ size)) [
      | true ↦ λ _ inside. inr (ltb-false size (a + min c 64) inside)
      | false ↦ λ none _. let z = ltb-false 0 c none in inl (omega arith)
    ] refl e
range_inside size (negsuc a) (pos c) e = let z = ltb-false 0 c e in inl (omega arith)
range_inside size (pos a) (negsuc c) e = absurd (true≢false e)
range_inside size (negsuc a) (negsuc c) e = absurd (true≢false e)

length-with_bytes : (heap : List ℕ) (place : ℕ) (bytes : List ℕ) → (length bytes ≡ 0) ⊎
    (place + length bytes ≤ length heap) → length (with_bytes heap place bytes) ≡ length heap
length-with_bytes heap place bytes (inl none) = simp (length-append, length-take, length-drop) (omega arith)
length-with_bytes heap place bytes (inr inside) = simp (length-append, length-take, length-drop) (omega arith)

-- ---- programs of the script

program_registers : (script : Script) (registers : HasRegisters script) (n : ℕ) (o : Option Program) → slice_get
    script.setup.programs n ≡ o → WritesRegisters (code_at o)
program_registers script registers n None is = λ k d low. absurd (omega arith)
program_registers script registers n (Some program) is =
    subst (λ (x : Program). WritesRegisters x.code) (get_or_from_slice_get script.setup.programs n program program is)
    (registers n program (slice_get_within script.setup.programs n program is))

-- ---- run

local_next : (u : Upcoming) → (u ≢ LocalInstruction → ⊥) → u ≡ LocalInstruction
local_next LocalInstruction h = refl
local_next (CallInstruction i) h = absurd (h (λ e. none_some i (sym (ap call_of e))))
local_next ImageFault h = absurd (h (λ e. true≢false (ap is_fault e)))

module _ (script : Script) (used : Numbers) (p : ℕ) (r : Record) (w : IsWellFormedRecord script used p r)
    (running : is_running r.life ≡ true)
    (local : next_of script r ≡ LocalInstruction) (registers : HasRegisters script) where
  no_suspend : (o : Option ℕ) → r.saved ≡ o → o ≡ None
  no_suspend None is = refl
  no_suspend (Some m) is = absurd (true≢false
      (sym (w.calls.suspended m is (running_is_live r.life running)).is_next ∙ ap is_suspend_next local))

  not_blocked : r.blocked ≡ true → ⊥
  not_blocked b = true≢false (sym (w.calls.may_block b) ∙ ap is_blocking_next local)

  Keeps-with_block : Keeps script used p r (with_block script r)
  Keeps-with_block = record {
    sound = record {
      numbers = w.numbers;
      lives = w.lives;
      notes = λ dead. absurd (running_not_zombie r.life running dead);
      signals = record {
        pending_signals = w.signals.pending_signals;
        lost_signals = omega arith;
        is_mask = w.signals.is_mask;
        saved_mask = w.signals.saved_mask;
        action_count = w.signals.action_count;
        kill_action = w.signals.kill_action;
        stop_action = w.signals.stop_action;
      };
      runs = IsImage-block script (code_of script r.image) r.image
          (program_registers script registers (program_of r.image) _ refl) w.runs;
      calls = record {
        may_block = λ b. absurd (not_blocked b);
        suspended = λ m is _. absurd (none_some m (sym (no_suspend r.saved refl) ∙ is));
        wait_call = λ numbers is. absurd (true≢false
            (sym (w.calls.wait_call numbers is).is_next ∙ ap is_wait_next local));
        group_call = λ call is. absurd (true≢false (sym (w.calls.group_call call is).is_next ∙ ap is_group_next local));
      };
    };
    place = record { parent = refl; group = refl; session = refl; death = refl };
  }

module _ (script : Script) (s new : PosixState) (p : ℕ) (w : IsWellFormed script s) where
  block_is_local : (r : Record) → nat_lt 0 (block_length (code_of script r.image) r.image) ≡ true → next_of script
      r ≡ LocalInstruction
  block_is_local r long =
      local_next (next_of script r)
      (λ other. let none = block_length-zero (code_of script r.image) r.image other in
      let some = ltb-true 0 (block_length (code_of script r.image) r.image) long in absurd (omega arith))

  pub keeps-run : (n : ℤ) → HasRegisters script → posix_step script s (event.Run p n) ≡ Some new → IsWellFormed script
      new
  unfolding posix_step
  keeps-run n registers e =
      after_process (IsWellFormed script) script s new p (run_step script s p n)
      (λ r is done. after_test (IsWellFormed script) (may_act script r)
      (run_block_step script s p n (block_length (code_of script r.image) r.image)) new
      (λ act block. after_if (IsWellFormed script)
      (nat_lt 0 (block_length (code_of script r.image) r.image) && is_number n
      (block_length (code_of script r.image) r.image))
      (change_record s p (with_block script)) new
      (λ passed. IsWellFormed-change script s p (with_block script) w
      (λ old there good. subst (λ (o : Record). Keeps script s.used p o (with_block script o))
      (same_record r old (sym is ∙ there))
      (Keeps-with_block script s.used p r (w.each p r is)
      (first_of (is_running r.life) _ (first_of (may_go_on r) _ act))
      (block_is_local r (first_of (nat_lt 0 (block_length (code_of script r.image) r.image)) _ passed)) registers)))
      block) done) e

  -- ---- a read

  heap_kept : (r : Record) (address count : Operand) (bytes : List ℕ) → IsCalling script r
      (instr.Read address count) → length bytes ≤ count_of (value_of r.image count) →
      length (with_bytes r.image.heap (address_of (value_of r.image address)) bytes) ≡ length r.image.heap
  heap_kept r address count bytes c few =
      let n = next_call (code_of script r.image) r.image (instr.Read address count) c.next in
      elim (range_inside (length r.image.heap) (value_of r.image address) (value_of r.image count) n.carried_out) [
        | inl none ↦ length-with_bytes r.image.heap (address_of (value_of r.image address)) bytes (inl (omega arith))
        | inr inside ↦ length-with_bytes r.image.heap (address_of (value_of r.image address)) bytes (inr (omega arith))
      ]

  reads : (n : ℤ) (bytes : List ℕ) (r : Record) (i : Instr) → record_of s p ≡ Some r → IsCalling script r i →
      line_step s p n bytes r i ≡ Some new → IsWellFormed script new
  reads n bytes r (instr.Read address count) is c found =
      after_test (IsWellFormed script) (is_allowed (read_check s r)) _ new
      (λ _ allowed. after_value (IsWellFormed script) (read_from s.terminal (count_of (value_of r.image count)))
      (line_by s p n bytes (address_of (value_of r.image address))) new
      (λ taken took by. after_if (IsWellFormed script) (is_number n (length taken.bytes) && is_same bytes taken.bytes)
      (after_read s p (address_of (value_of r.image address)) taken) new
      (λ _.
      let facts = read_is s.terminal (count_of (value_of r.image count)) taken w.is_terminal
      (nat_eq (count_of (value_of r.image count)) 0) took in
      let before = IsWellFormed-parts script s w taken.terminal s.output s.console s.host_came facts.is_terminal
      (subst (IsUsed s.used) (sym facts.foreground) w.foreground) w.console_call in
      IsWellFormed-change script (record s { terminal = taken.terminal }) p
      (with_read (address_of (value_of r.image address)) taken.bytes) before
      (λ old there good. subst (λ (o : Record). Keeps script s.used p o
      (with_read (address_of (value_of r.image address)) taken.bytes o)) (same_record r old (sym is ∙ there))
      (Keeps-ended script s.used p r (with_result
      (with_heap_bytes (address_of (value_of r.image address)) taken.bytes r.image) (pos (length taken.bytes))
      None) (w.each p r is)
      (IsActing-calling script s.used p r (instr.Read address count) (w.each p r is) c)
      (IsImage-with_result script (with_heap_bytes (address_of (value_of r.image address)) taken.bytes r.image)
      (pos (length taken.bytes)) None
      (IsImage-heap script r.image (with_bytes r.image.heap (address_of (value_of r.image address)) taken.bytes)
      (heap_kept r address count taken.bytes c facts.few) (w.each p r is).runs))))) by) allowed) found
  reads n bytes r _ is c found = after_none (IsWellFormed script) new found

  pub keeps-line : (n : ℤ) (bytes : List ℕ) → posix_step script s (event.Line p n bytes) ≡ Some new → IsWellFormed
      script new
  unfolding posix_step
  keeps-line n bytes e =
      after_call (IsWellFormed script) script s new p (line_step s p n bytes)
      (λ r i is c done. reads n bytes r i is c done) e
