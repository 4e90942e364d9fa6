use Rattle.std.proofs.Common.{◌≡◌, length, [], refl, sym, ap, ◌∙◌, arith, rules, Some, None, ℕ, List}
use Rattle.w32_base.specs.declared.instr.Instr.{Instr}
use Rattle.cyg_script.specs.Judged.{target_at}
use Rattle.cyg_script.specs.Parts.{parts_of, past_line}
use Rattle.cyg_script.proofs.ReadingCode.{past_empty, past_open, read_end}
use Rattle.cyg_script.proofs.Steps.{ended_program, none_past}
use Rattle.cyg_script.proofs.reader.Reader.end_program.Goals as goal

pub returns-then-is_empty-clause-closed : goal.returns-then-is_empty-clause-closed
returns-then-is_empty-clause-closed c = λ read a.
    let none : c.args.self.now.code.items ≡ [] = search rules in
    (ap target_at (past_empty (parts_of c.args.self.now) c.requires none read a), a)

pub returns-in-Some-first_past-clause-closed : goal.returns-in-Some-first_past-clause-closed
returns-in-Some-first_past-clause-closed c = λ read a.
    let len : c.len.result ≡ length c.args.self.now.code.items = omega arith in
    let past : past_line (length c.args.self.now.code.items) c.args.self.now.code.items
    c.args.self.now.code_lines.items ≡ Some c.in-Some-first_past.line =
    ap (λ (n : ℕ). past_line n c.args.self.now.code.items c.args.self.now.code_lines.items) (sym len)
    ∙ ap (λ (is : List Instr). past_line c.len.result is c.args.self.now.code_lines.items) (sym c.deref.ensures.value)
    ∙ ap (λ (ls : List ℕ). past_line c.len.result c.deref.result.now ls) (sym c.deref-2.ensures.value)
    ∙ sym c.first_past.ensures ∙ c.in-Some-first_past.is in
    ap target_at (past_open (parts_of c.args.self.now) c.in-Some.heading c.requires.read c.in-Some.is read a ∙ past)

pub returns-clause-ended : goal.returns-clause-ended
returns-clause-ended c =
    ended_program (parts_of c.args.self.now) c.in-Some.heading _ c.push.new.self.items c.replace-code.new.dest.items
    c.clear.new.self.items c.requires (cc) (search rules) refl c.in_ok-push.ensures.items (cc) (c.clear.ensures.items)

pub returns-clause-closed : goal.returns-clause-closed
returns-clause-closed c = λ read a.
    let len : c.len.result ≡ length c.args.self.now.code.items = omega arith in
    let past : past_line (length c.args.self.now.code.items) c.args.self.now.code.items
    c.args.self.now.code_lines.items ≡ None =
    ap (λ (n : ℕ). past_line n c.args.self.now.code.items c.args.self.now.code_lines.items) (sym len)
    ∙ ap (λ (is : List Instr). past_line c.len.result is c.args.self.now.code_lines.items) (sym c.deref.ensures.value)
    ∙ ap (λ (ls : List ℕ). past_line c.len.result c.deref.result.now ls) (sym c.deref-2.ensures.value)
    ∙ sym c.first_past.ensures ∙ c.in_default-first_past.is in (
      ap target_at (past_open (parts_of c.args.self.now) c.in-Some.heading c.requires.read c.in-Some.is read a ∙ past),
      read_end (parts_of c.args.self.now) c.in-Some.heading _ c.push.new.self.items c.replace-code.new.dest.items
          c.clear.new.self.items c.requires.read c.in-Some.is refl refl refl (cc)
          (none_past (length c.args.self.now.code.items) c.args.self.now.code.items c.args.self.now.code_lines.items
          c.requires.read.counted past) (search rules) c.in_ok-push.ensures.items (cc) read a,
    )
