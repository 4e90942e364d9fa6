use Rattle.std.proofs.Common.{◌≡◌, ℕ, ◌≤◌, List, length, Some, refl, sym, ◌∙◌, ap, subst}
use Rattle.tty_spec.specs.Discipline.{Taken}
use Rattle.posix_spec.specs.Records.{change_record}
use Rattle.posix_spec.specs.State.{PosixState, record_of as record_at}
use Rattle.posix_spec.specs.TerminalSteps.{read_from, with_read, line_by, line_step}
use Rattle.proc_vm.specs.Shown.{instr_of}
use Rattle.posix_model.specs.Machine.{script_of, state_of}
use Rattle.posix_model.specs.Reads.{is_this_line, HasRoom}
use Rattle.posix_model.specs.Shown.{record_of}
use Rattle.posix_model.proofs.CallingLemmas.{IsCalling-called}
use Rattle.posix_model.proofs.CallLaws.{call_some}
use Rattle.posix_model.proofs.ReadLemmas.{line_from, line_step-is, none_taken, some_taken, same_taken, read_most}
use Rattle.posix_model.proofs.ReadLemmas.{HasRoom-read}
use Rattle.posix_model.proofs.StepLemmas.{value_some, value_none, test_true, test_false, same_there}
use Rattle.posix_model.proofs.lines.line.Goals as goal

pub returns-in_default-reading_of : goal.returns-in_default-reading_of
returns-in_default-reading_of c =
    let s = state_of c.args.m.now in
    let p = c.args.p in
    let r = record_of c.in-Some.process.now in
    let i = instr_of c.in-Some.call in (
      call_some (line_step s p c.args.n c.args.bytes) (script_of c.args.m.now) s p r i c.in-Some.ensures.0
          ∙ line_step-is s p c.args.n c.args.bytes r i
          ∙ value_none _ (line_from s p c.args.n c.args.bytes) c.in_default-reading_of.ensures,
      refl,
    )

pub returns-in_default-peek_bytes : goal.returns-in_default-peek_bytes
returns-in_default-peek_bytes c =
    let s = state_of c.args.m.now in
    let p = c.args.p in
    let r = record_of c.in-Some.process.now in
    let i = instr_of c.in-Some.call in
    let a = c.in-Some-reading_of.reading in (
      call_some (line_step s p c.args.n c.args.bytes) (script_of c.args.m.now) s p r i c.in-Some.ensures.0
          ∙ line_step-is s p c.args.n c.args.bytes r i
          ∙ value_some _ (line_from s p c.args.n c.args.bytes) (a.place, a.count) c.in-Some-reading_of.ensures
          ∙ value_none _ (line_by s p c.args.n c.args.bytes a.place) (none_taken _ c.in_default-peek_bytes.ensures),
      refl,
    )

pub returns-then-not-is_this_line : goal.returns-then-not-is_this_line
returns-then-not-is_this_line c =
    let s = state_of c.args.m.now in
    let p = c.args.p in
    let r = record_of c.in-Some.process.now in
    let i = instr_of c.in-Some.call in
    let a = c.in-Some-reading_of.reading in
    let found = some_taken (read_from s.terminal a.count) c.in-Some-peek_bytes.taken c.in-Some-peek_bytes.ensures in (
      call_some (line_step s p c.args.n c.args.bytes) (script_of c.args.m.now) s p r i c.in-Some.ensures.0
          ∙ line_step-is s p c.args.n c.args.bytes r i
          ∙ value_some _ (line_from s p c.args.n c.args.bytes) (a.place, a.count) c.in-Some-reading_of.ensures
          ∙ value_some _ (line_by s p c.args.n c.args.bytes a.place) found.0 found.1
          ∙ test_false _ _ (ap (λ (b : List ℕ). is_this_line c.args.n c.args.bytes b) (found.2 ∙ sym c.as_slice.ensures)
          ∙ ap (λ (b : List ℕ). is_this_line c.args.n b c.as_slice.result.now) (sym c.as_slice-2.ensures)
          ∙ sym c.if-not-is_this_line.ensures),
      refl,
    )

pub put_bytes-requires-clause-room : goal.put_bytes-requires-clause-room
put_bytes-requires-clause-room c x there =
    let script = script_of c.args.m.now in
    let s = state_of c.args.m.now in
    let p = c.args.p in
    let r = record_of c.in-Some.process.now in
    let i = instr_of c.in-Some.call in
    let a = c.in-Some-reading_of.reading in
    let line : List ℕ = c.in-Some-take_bytes.line in
    let taken : Taken = record { terminal = c.take_bytes.new.self.tty; bytes = line } in
    let most : length line ≤ a.count = read_most s.terminal a.count taken c.in-Some-take_bytes.ensures.taken in
    let room : HasRoom a.place line r = HasRoom-read script s r i (a.place, a.count) line (IsCalling-called script s p r
    i c.in-Some.ensures.0) c.in-Some-reading_of.ensures most in
    subst (λ (b : List ℕ). HasRoom a.place b x) (sym c.as_slice-3.ensures)
    (same_there (HasRoom a.place line) (record_at s p) r x c.in-Some.ensures.1
    (ap (λ (t : PosixState). record_at t p) (sym c.take_bytes.ensures.state) ∙ there) room)

pub returns : goal.returns
returns c =
    let s = state_of c.args.m.now in
    let p = c.args.p in
    let r = record_of c.in-Some.process.now in
    let i = instr_of c.in-Some.call in
    let a = c.in-Some-reading_of.reading in
    let line : List ℕ = c.in-Some-take_bytes.line in
    let taken : Taken = record { terminal = c.take_bytes.new.self.tty; bytes = line } in
    let same : line ≡ c.in-Some-peek_bytes.taken = same_taken (read_from s.terminal a.count) c.in-Some-peek_bytes.taken
    taken c.in-Some-peek_bytes.ensures c.in-Some-take_bytes.ensures.taken in (
      call_some (line_step s p c.args.n c.args.bytes) (script_of c.args.m.now) s p r i c.in-Some.ensures.0
          ∙ line_step-is s p c.args.n c.args.bytes r i
          ∙ value_some _ (line_from s p c.args.n c.args.bytes) (a.place, a.count) c.in-Some-reading_of.ensures
          ∙ value_some _ (line_by s p c.args.n c.args.bytes a.place) taken c.in-Some-take_bytes.ensures.taken
          ∙ test_true _ _ (ap (λ (b : List ℕ). is_this_line c.args.n c.args.bytes b) (same ∙ sym c.as_slice.ensures)
          ∙ ap (λ (b : List ℕ). is_this_line c.args.n b c.as_slice.result.now) (sym c.as_slice-2.ensures)
          ∙ sym c.if-not-is_this_line.ensures)
          ∙ ap Some (sym (c.put_bytes.ensures.state
          ∙ ap (λ (b : List ℕ). change_record (state_of c.take_bytes.new.self) p (with_read a.place b))
          c.as_slice-3.ensures
          ∙ ap (λ (t : PosixState). change_record t p (with_read a.place line)) c.take_bytes.ensures.state)),
      c.put_bytes.ensures.script ∙ c.take_bytes.ensures.script,
    )
