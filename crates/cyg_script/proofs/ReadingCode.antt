-- What the reader holds after an instruction, a line of the schedule, the first line, and the end of a program.
use Rattle.std.proofs.Common.{◌≡◌, ℕ, ◌≤◌, ◌<◌, true, false, nat_le, List, [], ◌∷◌}
use Rattle.std.proofs.Common.{◌++◌, length, Option, Some, None, refl, sym, ap, ◌∙◌, arith}
use Rattle.std.specs.Prelude.{option_map}
use Rattle.std.proofs.lemmas.Bool.{le-leb, lt-leb}
use Rattle.w32_base.specs.Targets.{is_target_below, are_targets_below}
use Rattle.w32_base.specs.declared.instr.Instr.{Instr}
use Rattle.w32_base.specs.declared.setup.Program.{Program}
use Rattle.script_spec.specs.declared.fault.DirectiveWord.{DirectiveWord}
use Rattle.script_spec.specs.declared.fault.FirstWord.TheVariants as first
use Rattle.script_spec.specs.declared.fault.InstrWord.{InstrWord}
use Rattle.script_spec.specs.declared.fault.Kind.{Kind}
use Rattle.script_spec.specs.declared.fault.Kind.TheVariants.{TooMany}
use Rattle.script_spec.specs.declared.fault.Sort.{Sort}
use Rattle.script_spec.specs.declared.fault.Sort.TheVariants as sort
use Rattle.script_spec.specs.declared.script.ScheduleLine.{ScheduleLine}
use Rattle.script_spec.specs.FirstWords.{instr_word_text, directive_word_text}
use Rattle.script_spec.specs.Forms.{forms_fault, instr_forms, directive_forms, kept_form, place_as}
use Rattle.script_spec.specs.Front.{words_read, past_read, past_end}
use Rattle.script_spec.specs.InstrText.{instr_words}
use Rattle.script_spec.specs.LineFaults.{written_fault}
use Rattle.script_spec.specs.Places.{instructions_before, slots_of, has_sort}
use Rattle.script_spec.specs.Print.{schedule_words, program_words}
use Rattle.script_spec.specs.Validity.{is_valid_instr, is_valid_line}
use Rattle.cyg_script.specs.declared.heading.Heading.{Heading}
use Rattle.cyg_script.specs.After.{IsAfter, IsCounted, last_sort}
use Rattle.cyg_script.specs.Headings.{heading_words}
use Rattle.cyg_script.specs.Instructions.{clamped, place_named}
use Rattle.cyg_script.specs.Parts.{Parts, stage, stands, past_line, IsRead, IsStaged}
use Rattle.cyg_script.specs.Written.{header_line}
use Rattle.cyg_script.proofs.Counted.{counted_header}
use Rattle.cyg_script.proofs.CountedCode.{counted_instr, counted_directive, counted_end}
use Rattle.cyg_script.proofs.Reading.{IsReadAs}
use Rattle.cyg_script.proofs.SoundSteps.{sound_instr, sound_line, sound_last, sound_end, valid_program}
use Rattle.cyg_script.proofs.WordFaults.{no_pages, own_is, full_is, none_is}
use Rattle.cyg_script.proofs.Writes.{before_instr, before_directive, writes_header}
use Rattle.cyg_script.proofs.WritesCode.{writes_instr, writes_directive, writes_end, some_open}

abbrev Lines : Type 0
Lines = List (ℕ × List (List ℕ))

-- ---- an instruction

-- something that isn't absent is there
there : (X : Type 0) (o : Option Heading) → (o ≡ None → ⊥) → ((h : Heading) → o ≡ Some h → X) → X
there X None ne f = absurd (ne refl)
there X (Some h) ne f = f h refl

instr_count : (p : Parts) (read : Lines) → IsStaged p → stands p.last sort.Instruction ≡ true → IsCounted read p
    → instructions_before (words_read read) ≡ length p.code
instr_count p read r s c =
    let b = before_instr p.last s in
    there (instructions_before (words_read read) ≡ length p.code) p.heading (some_open p r b.0 b.1)
    (λ h e. c.code h e)

pub instr_full : (p : Parts) (w : InstrWord) (ws : List (List ℕ)) → IsStaged p → stands p.last sort.Instruction ≡ true
    → None ≡ forms_fault (instr_forms w) ws → 4000 ≤ length p.code
    → (read : Lines) → IsAfter read p → written_fault (words_read read) (first.Instr w) ws ≡ Some TooMany
instr_full p w ws r s f many read a =
    full_is (words_read read) (first.Instr w) ws (no_pages (words_read read) (first.Instr w) ws None refl (sym f)) refl
    (ap (λ (n : ℕ). nat_le 4000 n) (instr_count p read r s a.counted) ∙ le-leb 4000 (length p.code) many)

pub read_instr : (p : Parts) (w : InstrWord) (ws : List (List ℕ)) (i : Instr) (is : List Instr) (ls : List ℕ)
    (k : ℕ) → IsStaged p → stands p.last sort.Instruction ≡ true
    → (is_target_below 65535 i ≡ true → instr_word_text w ∷ ws ≡ instr_words i) → is_valid_instr i ≡ true
    → option_map clamped (place_as ws (kept_form (instr_forms w) ws)) ≡ place_named i
    → None ≡ forms_fault (instr_forms w) ws → length p.code < 4000
    → is ≡ p.code ++ i ∷ [] → ls ≡ p.code_lines ++ k ∷ []
    → (read : Lines) → IsAfter read p
    → IsReadAs (first.Instr w) ws (record p { code = is; code_lines = ls; last = Some sort.Instruction }) k read
read_instr p w ws i is ls k r s text v named f few g h read a = (
  none_is (words_read read) (first.Instr w) ws (no_pages (words_read read) (first.Instr w) ws None refl (sym f)) refl
      (ap (λ (n : ℕ). nat_le 4000 n) (instr_count p read r s a.counted) ∙ lt-leb 4000 (length p.code) few),
  record {
    counted = counted_instr read p k w ws i is ls r.read s named g h a.counted;
    written = writes_instr _ p (instr_word_text w ∷ ws) i is ls r s text g a.written;
    sound = sound_instr p i is ls (Some sort.Instruction) v g a.sound;
  },
)

-- ---- a line of the schedule

directive_own : (p : Parts) (w : DirectiveWord) (ws : List (List ℕ)) (k : Option Kind) (read : Lines)
    → stands p.last sort.Directive ≡ true → IsCounted read p → forms_fault (directive_forms p.slots w) ws ≡ k
    → forms_fault (directive_forms (slots_of (words_read read)) w) ws ≡ k
directive_own p w ws k read s c f =
    let b = before_directive p.last s in
    ap (λ (n : ℕ). forms_fault (directive_forms n w) ws) (c.slots (omega (arith, b.0))) ∙ f

pub directive_fault : (p : Parts) (w : DirectiveWord) (ws : List (List ℕ)) (k : Kind)
    → stands p.last sort.Directive ≡ true → Some k ≡ forms_fault (directive_forms p.slots w) ws
    → (read : Lines) → IsAfter read p → written_fault (words_read read) (first.Directive w) ws ≡ Some k
directive_fault p w ws k s f read a =
    own_is (words_read read) (first.Directive w) ws k (no_pages (words_read read) (first.Directive w) ws (Some k) refl
    (directive_own p w ws (Some k) read s a.counted (sym f)))

pub directive_full : (p : Parts) (w : DirectiveWord) (ws : List (List ℕ)) → stands p.last sort.Directive ≡ true
    → None ≡ forms_fault (directive_forms p.slots w) ws → 10000 ≤ length p.schedule
    → (read : Lines) → IsAfter read p → written_fault (words_read read) (first.Directive w) ws ≡ Some TooMany
directive_full p w ws s f many read a =
    full_is (words_read read) (first.Directive w) ws (no_pages (words_read read) (first.Directive w) ws None refl
    (directive_own p w ws None read s a.counted (sym f))) refl
    (ap (λ (n : ℕ). nat_le 10000 n) a.counted.schedule ∙ le-leb 10000 (length p.schedule) many)

pub read_directive : (p : Parts) (w : DirectiveWord) (ws : List (List ℕ)) (l : ScheduleLine) (ls : List ScheduleLine)
    → IsRead p → stands p.last sort.Directive ≡ true
    → directive_word_text w ∷ ws ≡ schedule_words l → is_valid_line p.slots l ≡ true
    → None ≡ forms_fault (directive_forms p.slots w) ws → length p.schedule < 10000 → ls ≡ p.schedule ++ l ∷ []
    → (k : ℕ) (read : Lines) → IsAfter read p
    → IsReadAs (first.Directive w) ws (record p { schedule = ls; last = Some sort.Directive }) k read
read_directive p w ws l ls r s text v f few g k read a = (
  none_is (words_read read) (first.Directive w) ws (no_pages (words_read read) (first.Directive w) ws None refl
      (directive_own p w ws None read s a.counted (sym f))) refl
      (ap (λ (n : ℕ). nat_le 10000 n) a.counted.schedule ∙ lt-leb 10000 (length p.schedule) few),
  record {
    counted = counted_directive read p k w ws l ls r s g a.counted;
    written = rw text (writes_directive _ p l ls r s g a.written);
    sound = sound_line p l ls (Some sort.Directive) v g a.sound;
  },
)

-- ---- the first line

some_stage : (s : Sort) → stage (Some s) ≡ 0 → ⊥
some_stage sort.Header e = omega (arith, e)
some_stage sort.Slots e = omega (arith, e)
some_stage sort.Rows e = omega (arith, e)
some_stage sort.Budget e = omega (arith, e)
some_stage sort.Module e = omega (arith, e)
some_stage sort.Occupy e = omega (arith, e)
some_stage sort.Program e = omega (arith, e)
some_stage sort.Instruction e = omega (arith, e)
some_stage sort.Schedule e = omega (arith, e)
some_stage sort.Directive e = omega (arith, e)

first_none : (o : Option Sort) → stage o ≡ 0 → o ≡ None
first_none None e = refl
first_none (Some s) e = absurd (some_stage s e)

-- before the first line nothing was read
pub unread : (p : Parts) → stage p.last ≡ 0 → (read : Lines) → IsAfter read p → read ≡ []
unread p e read a = a.counted.first (first_none p.last e)

pub read_header : (p : Parts) → IsRead p → stage p.last ≡ 0 → (k : ℕ) (read : Lines) → IsAfter read p
    → IsAfter ((k, header_line) ∷ read) (record p { last = Some sort.Header })
read_header p r e k read a = record {
  counted = counted_header read p k r (first_none p.last e) a.counted;
  written = writes_header p r (first_none p.last e) _ a.written;
  sound = sound_last p (Some sort.Header) a.sound;
}

-- ---- the end of a program

no_past : (n : ℕ) (read : Lines) (o : Option Sort) → last_sort (words_read read) ≡ o
    → has_sort sort.Instruction o ≡ false → past_read n read ≡ None
no_past n [] o e f = refl
no_past n (r ∷ read) o e f = let h : has_sort sort.Instruction (last_sort (words_read (r ∷ read))) ≡ false =
    ap (λ (x : Option Sort). has_sort sort.Instruction x) e ∙ f in rw h refl

not_instr : (o : Option Sort) → (stage o ≡ 8 → ⊥) → has_sort sort.Instruction o ≡ false
not_instr (Some sort.Instruction) h = absurd (h refl)
not_instr o h = refl

-- where no program is open, none has a place past its end
pub past_closed : (p : Parts) → IsStaged p → p.heading ≡ None → (read : Lines) → IsAfter read p → past_end read ≡ None
past_closed p r e read a =
    no_past (instructions_before (words_read read)) read p.last a.counted.last
    (not_instr p.last (λ eight. (r.open_program eight).0 e))

-- nor has one without instructions
pub past_empty : (p : Parts) → IsStaged p → p.code ≡ [] → (read : Lines) → IsAfter read p → past_end read ≡ None
past_empty p r e read a =
    no_past (instructions_before (words_read read)) read p.last a.counted.last
    (not_instr p.last (λ eight. let n : 1 ≤ length p.code = (r.open_program eight).1 in
    omega (arith, n, ap length e)))

-- the first place past the end of the open program
pub past_open : (p : Parts) (h : Heading) → IsRead p → p.heading ≡ Some h → (read : Lines) → IsAfter read p
    → past_end read ≡ past_line (length p.code) p.code p.code_lines
past_open p h r e read a =
    ap (λ (n : ℕ). past_read n read) (a.counted.code h e)
    ∙ a.counted.past h e (length p.code) (let few : length p.code ≤ 4000 = r.few_instructions in omega (arith, few))

pub read_end : (p : Parts) (h : Heading) (q : Program) (ps : List Program) (is : List Instr) (ls : List ℕ) → IsRead p
    → p.heading ≡ Some h → q.name ≡ h.name → q.heap ≡ h.heap → q.stack ≡ h.stack → q.code ≡ p.code
    → are_targets_below (length p.code) p.code ≡ true → 1 ≤ length p.code → ps ≡ p.programs ++ q ∷ [] → is ≡ []
    → (read : Lines) → IsAfter read p
    → IsAfter read (record p { programs = ps; heading = None; code = is; code_lines = ls })
read_end p h q ps is ls r e name heap stack same targets some f g read a =
    let few : length p.code ≤ 4000 = r.few_instructions in
    let own : program_words q ≡ heading_words h = rw (name, heap, stack) refl in
    rw g record {
      counted = counted_end read p h q ps [] ls e name f a.counted;
      written = writes_end _ p h q ps ls e own same (omega (arith, few)) targets f a.written;
      sound = sound_end p q ps ls (valid_program q h p.code name heap stack same (a.sound.heading h e) a.sound.code
          targets some few) f a.sound;
    }
