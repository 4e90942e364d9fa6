-- What the reader holds after a line of each sort, and the fault of its words.
use Rattle.std.proofs.Common.{◌≡◌, ℕ, ◌≤◌, ◌<◌, Bool, true, false, nat_le, List, [], ◌∷◌}
use Rattle.std.proofs.Common.{◌++◌, length, Option, Some, None, refl, sym, ap, ◌∙◌, arith}
use Rattle.std.specs.Prelude.{codes}
use Rattle.std.specs.Fmt.{decimal}
use Rattle.std.proofs.lemmas.Bool.{le-leb, lt-leb}
use Rattle.w32_base.specs.Names.{is_among}
use Rattle.w32_base.specs.Setup.{module_names, program_names}
use Rattle.w32_base.specs.declared.setup.Module.{Module}
use Rattle.script_spec.specs.declared.fault.FirstWord.{FirstWord}
use Rattle.script_spec.specs.declared.fault.FirstWord.TheVariants as first
use Rattle.script_spec.specs.declared.fault.Kind.TheVariants.{Twice, TooMany}
use Rattle.script_spec.specs.declared.fault.Sort.TheVariants as sort
use Rattle.script_spec.specs.declared.script.OccupiedPage.{OccupiedPage}
use Rattle.script_spec.specs.Faults.{fault_if, least}
use Rattle.script_spec.specs.FirstWords.{word_text}
use Rattle.script_spec.specs.Fields.{NumberWord}
use Rattle.script_spec.specs.Forms.{forms, forms_fault}
use Rattle.script_spec.specs.Front.{words_read}
use Rattle.script_spec.specs.LineFaults.{pages_fault, twice_fault, written_fault}
use Rattle.script_spec.specs.Numbers.{value_of}
use Rattle.script_spec.specs.Places.{count_of}
use Rattle.script_spec.specs.Print.{module_words, occupied_words}
use Rattle.script_spec.specs.Validity.{is_valid_module, is_valid_page}
use Rattle.cyg_script.specs.declared.heading.Heading.{Heading}
use Rattle.cyg_script.specs.After.{IsAfter, IsCounted, all_names, open_names}
use Rattle.cyg_script.specs.Headings.{heading_words, is_valid_heading}
use Rattle.cyg_script.specs.Parts.{Parts, stage, stands, IsRead, IsEnded}
use Rattle.cyg_script.proofs.Counted.{counted_slots, counted_rows, counted_budget, counted_module, counted_occupy}
use Rattle.cyg_script.proofs.Counted.{counted_program, counted_schedule, none_open}
use Rattle.cyg_script.proofs.SoundSteps.{sound_slots, sound_rows, sound_budget, sound_module, sound_page, sound_heading}
use Rattle.cyg_script.proofs.SoundSteps.{sound_last}
use Rattle.cyg_script.proofs.WordFaults.{no_pages, twice_is, full_is, none_is}
use Rattle.cyg_script.proofs.Writes.{after_slots, writes_slots, writes_rows, writes_budget, writes_module}
use Rattle.cyg_script.proofs.Writes.{before_program}
use Rattle.cyg_script.proofs.WritesCode.{writes_occupy, writes_program, writes_schedule}
use Rattle.std.proofs.lemmas.List.{append-nil}

abbrev Lines : Type 0
Lines = List (ℕ × List (List ℕ))

-- the line has no fault, and the parts are what the lines say with it
abbrev pub IsReadAs : FirstWord → List (List ℕ) → Parts → ℕ → Lines → Type 0
IsReadAs word ws new k read =
    (written_fault (words_read read) word ws ≡ None) × IsAfter ((k, word_text word ∷ ws) ∷ read) new

pub read_slots : (p : Parts) (n : ℕ) (ws : List (List ℕ)) → IsRead p → stands p.last sort.Slots ≡ true
    → ws ≡ decimal n ∷ [] → value_of (decimal n) ≡ n → None ≡ forms_fault ((NumberWord 1 64 ∷ []) ∷ []) ws
    → (k : ℕ) (read : Lines) → IsAfter read p
    → IsReadAs first.Slots ws (record p { slots = n; last = Some sort.Slots }) k read
read_slots p n ws r s e v f k read a = (
  none_is (words_read read) first.Slots ws (no_pages (words_read read) first.Slots ws None refl (sym f)) refl refl,
  let one : stage p.last ≡ 1 = ap stage (after_slots p.last s) in
      record {
        counted = rw e (counted_slots read p k n r s v a.counted);
        written = writes_slots p n ws r s e _ a.written;
        sound = sound_slots p n (Some sort.Slots) (r.no_lines (omega (arith, one))) a.sound;
      },
)

pub read_rows : (p : Parts) (n : ℕ) (ws : List (List ℕ)) → IsRead p → stands p.last sort.Rows ≡ true
    → ws ≡ decimal n ∷ [] → None ≡ forms_fault ((NumberWord 1 4000 ∷ []) ∷ []) ws
    → (k : ℕ) (read : Lines) → IsAfter read p
    → IsReadAs first.Rows ws (record p { rows = n; last = Some sort.Rows }) k read
read_rows p n ws r s e f k read a = (
  none_is (words_read read) first.Rows ws (no_pages (words_read read) first.Rows ws None refl (sym f)) refl refl,
  record {
    counted = rw e (counted_rows read p k n r s a.counted);
    written = writes_rows p n ws r s e _ a.written;
    sound = sound_rows p n (Some sort.Rows) a.sound;
  },
)

pub read_budget : (p : Parts) (n : ℕ) (ws : List (List ℕ)) → IsRead p → stands p.last sort.Budget ≡ true
    → ws ≡ decimal n ∷ [] → None ≡ forms_fault ((NumberWord 1 500000 ∷ []) ∷ []) ws
    → (k : ℕ) (read : Lines) → IsAfter read p
    → IsReadAs first.Budget ws (record p { budget = n; last = Some sort.Budget }) k read
read_budget p n ws r s e f k read a = (
  none_is (words_read read) first.Budget ws (no_pages (words_read read) first.Budget ws None refl (sym f)) refl refl,
  record {
    counted = rw e (counted_budget read p k n r s a.counted);
    written = writes_budget p n ws r s e _ a.written;
    sound = sound_budget p n (Some sort.Budget) a.sound;
  },
)

-- ---- a module

module_twice : (ws : List (List ℕ)) (m : Module) (p : Parts) (read : Lines) (b : Bool)
    → codes "module" ∷ ws ≡ module_words m → is_among m.name (module_names p.modules) ≡ b → IsCounted read p
    → twice_fault sort.Module (words_read read) ws ≡ fault_if b Twice
module_twice ws m p read b e h c =
    let same : ws ≡ m.name ∷ decimal m.base ∷ decimal m.size ∷ [] = cc in
    rw same (ap (λ (t : Bool). fault_if t Twice) (c.module_names m.name ∙ h))

pub modules_named : (p : Parts) (m : Module) (ws : List (List ℕ)) → codes "module" ∷ ws ≡ module_words m
    → None ≡ least (forms_fault (forms 0 first.Module) ws) (pages_fault first.Module ws)
    → is_among m.name (module_names p.modules) ≡ true
    → (read : Lines) → IsAfter read p → written_fault (words_read read) first.Module ws ≡ Some Twice
modules_named p m ws e f h read a =
    twice_is (words_read read) first.Module ws (sym f) (module_twice ws m p read true e h a.counted)

pub modules_full : (p : Parts) (m : Module) (ws : List (List ℕ)) → codes "module" ∷ ws ≡ module_words m
    → None ≡ least (forms_fault (forms 0 first.Module) ws) (pages_fault first.Module ws)
    → is_among m.name (module_names p.modules) ≡ false → 8 ≤ length p.modules
    → (read : Lines) → IsAfter read p → written_fault (words_read read) first.Module ws ≡ Some TooMany
modules_full p m ws e f h many read a =
    full_is (words_read read) first.Module ws (sym f) (module_twice ws m p read false e h a.counted)
    (ap (λ (n : ℕ). nat_le 8 n) a.counted.modules ∙ le-leb 8 (length p.modules) many)

pub read_module : (p : Parts) (m : Module) (ms : List Module) (ws : List (List ℕ)) → IsRead p
    → stands p.last sort.Module ≡ true → codes "module" ∷ ws ≡ module_words m → is_valid_module m ≡ true
    → None ≡ least (forms_fault (forms 0 first.Module) ws) (pages_fault first.Module ws)
    → is_among m.name (module_names p.modules) ≡ false → length p.modules < 8 → ms ≡ p.modules ++ m ∷ []
    → (k : ℕ) (read : Lines) → IsAfter read p
    → IsReadAs first.Module ws (record p { modules = ms; last = Some sort.Module }) k read
read_module p m ms ws r s e v f h few g k read a = (
  none_is (words_read read) first.Module ws (sym f) (module_twice ws m p read false e h a.counted)
      (ap (λ (n : ℕ). nat_le 8 n) a.counted.modules ∙ lt-leb 8 (length p.modules) few),
  record {
    counted = rw e (counted_module read p k m ms r s g a.counted);
    written = rw e (writes_module p m ms (module_words m) r s refl g _ a.written);
    sound = sound_module p m ms (Some sort.Module) v g a.sound;
  },
)

-- ---- a page

pub pages_full : (p : Parts) (ws : List (List ℕ)) → None ≡ forms_fault (forms 0 first.Occupy) ws
    → 64 ≤ length p.pages
    → (read : Lines) → IsAfter read p → written_fault (words_read read) first.Occupy ws ≡ Some TooMany
pages_full p ws f many read a =
    full_is (words_read read) first.Occupy ws (no_pages (words_read read) first.Occupy ws None refl (sym f)) refl
    (ap (λ (n : ℕ). nat_le 64 n) a.counted.pages ∙ le-leb 64 (length p.pages) many)

pub read_occupy : (p : Parts) (o : OccupiedPage) (os : List OccupiedPage) (ws : List (List ℕ)) → IsRead p
    → stands p.last sort.Occupy ≡ true → codes "occupy" ∷ ws ≡ occupied_words o → is_valid_page o ≡ true
    → None ≡ forms_fault (forms 0 first.Occupy) ws → length p.pages < 64 → os ≡ p.pages ++ o ∷ []
    → (k : ℕ) (read : Lines) → IsAfter read p
    → IsReadAs first.Occupy ws (record p { pages = os; last = Some sort.Occupy }) k read
read_occupy p o os ws r s e v f few g k read a = (
  none_is (words_read read) first.Occupy ws (no_pages (words_read read) first.Occupy ws None refl (sym f)) refl
      (ap (λ (n : ℕ). nat_le 64 n) a.counted.pages ∙ lt-leb 64 (length p.pages) few),
  record {
    counted = rw e (counted_occupy read p k o os r s g a.counted);
    written = rw e (writes_occupy _ p o os r s g a.written);
    sound = sound_page p o os (Some sort.Occupy) v g a.sound;
  },
)

-- ---- a program's own line

old_names : (p : Parts) → IsEnded p → stands p.last sort.Program ≡ true → all_names p ≡ program_names p.programs
old_names p r s =
    let b = before_program p.last s in
    ap (λ (o : Option Heading). program_names p.programs ++ open_names o) (none_open p r b.1 b.2)
    ∙ append-nil (program_names p.programs)

program_twice : (ws : List (List ℕ)) (h : Heading) (p : Parts) (read : Lines) (b : Bool) → IsEnded p
    → stands p.last sort.Program ≡ true → codes "program" ∷ ws ≡ heading_words h
    → is_among h.name (program_names p.programs) ≡ b → IsCounted read p
    → twice_fault sort.Program (words_read read) ws ≡ fault_if b Twice
program_twice ws h p read b r s e n c =
    let same : ws ≡ h.name ∷ codes "heap" ∷ decimal h.heap ∷ codes "stack" ∷ decimal h.stack ∷ [] = cc in
    rw same (ap (λ (t : Bool). fault_if t Twice) (c.program_names h.name
    ∙ ap (λ (xs : List (List ℕ)). is_among h.name xs) (old_names p r s) ∙ n))

program_count : (p : Parts) (read : Lines) → IsEnded p → stands p.last sort.Program ≡ true → IsCounted read p
    → count_of sort.Program (words_read read) ≡ length (program_names p.programs)
program_count p read r s c = c.programs ∙ ap length (old_names p r s)

pub programs_named : (p : Parts) (h : Heading) (ws : List (List ℕ)) → IsEnded p → stands p.last sort.Program ≡ true
    → codes "program" ∷ ws ≡ heading_words h → None ≡ forms_fault (forms 0 first.Program) ws
    → is_among h.name (program_names p.programs) ≡ true
    → (read : Lines) → IsAfter read p → written_fault (words_read read) first.Program ws ≡ Some Twice
programs_named p h ws r s e f n read a =
    twice_is (words_read read) first.Program ws (no_pages (words_read read) first.Program ws None refl (sym f))
    (program_twice ws h p read true r s e n a.counted)

pub programs_full : (p : Parts) (h : Heading) (ws : List (List ℕ)) → IsEnded p → stands p.last sort.Program ≡ true
    → codes "program" ∷ ws ≡ heading_words h → None ≡ forms_fault (forms 0 first.Program) ws
    → is_among h.name (program_names p.programs) ≡ false → 32 ≤ length (program_names p.programs)
    → (read : Lines) → IsAfter read p → written_fault (words_read read) first.Program ws ≡ Some TooMany
programs_full p h ws r s e f n many read a =
    full_is (words_read read) first.Program ws (no_pages (words_read read) first.Program ws None refl (sym f))
    (program_twice ws h p read false r s e n a.counted)
    (ap (λ (m : ℕ). nat_le 32 m) (program_count p read r s a.counted)
    ∙ le-leb 32 (length (program_names p.programs)) many)

pub read_program : (p : Parts) (h : Heading) (ws : List (List ℕ)) → IsEnded p → stands p.last sort.Program ≡ true
    → codes "program" ∷ ws ≡ heading_words h → is_valid_heading h ≡ true
    → None ≡ forms_fault (forms 0 first.Program) ws
    → is_among h.name (program_names p.programs) ≡ false → length (program_names p.programs) < 32
    → (k : ℕ) (read : Lines) → IsAfter read p
    → IsReadAs first.Program ws (record p { heading = Some h; last = Some sort.Program }) k read
read_program p h ws r s e v f n few k read a = (
  none_is (words_read read) first.Program ws (no_pages (words_read read) first.Program ws None refl (sym f))
      (program_twice ws h p read false r s e n a.counted)
      (ap (λ (m : ℕ). nat_le 32 m) (program_count p read r s a.counted)
      ∙ lt-leb 32 (length (program_names p.programs)) few),
  record {
    counted = rw e (counted_program read p k h r s a.counted);
    written = rw e (writes_program _ p h r s a.written);
    sound = sound_heading p h (Some sort.Program) v a.sound;
  },
)

-- ---- `schedule`

pub read_schedule : (p : Parts) (ws : List (List ℕ)) → IsEnded p → stands p.last sort.Schedule ≡ true → ws ≡ []
    → (k : ℕ) (read : Lines) → IsAfter read p
    → IsReadAs first.Schedule ws (record p { last = Some sort.Schedule }) k read
read_schedule p ws r s e k read a = rw e (
  refl,
  record {
    counted = counted_schedule read p k r s a.counted;
    written = writes_schedule _ p r s a.written;
    sound = sound_last p (Some sort.Schedule) a.sound;
  },
)
