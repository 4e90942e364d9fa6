-- What each line adds is valid.
use Rattle.std.proofs.Common.{◌≡◌, ℕ, ◌≤◌, Bool, true, ◌&&◌, nat_le, List, [], ◌∷◌, ◌++◌, length, Option, Some, None}
use Rattle.std.proofs.Common.{refl, sym, ap, ◌∙◌}
use Rattle.std.specs.List.{list_all}
use Rattle.std.proofs.lemmas.Bool.{and_from, le-leb, and_parts}
use Rattle.std.proofs.lemmas.List.Folds.{list_all-append}
use Rattle.std.proofs.lemmas.Option.{same_Some}
use Rattle.w32_base.specs.Name.{is_name}
use Rattle.w32_base.specs.Targets.{are_targets_below}
use Rattle.w32_base.specs.declared.instr.Instr.{Instr}
use Rattle.w32_base.specs.declared.setup.Module.{Module}
use Rattle.w32_base.specs.declared.setup.Program.{Program}
use Rattle.script_spec.specs.declared.fault.Sort.{Sort}
use Rattle.script_spec.specs.declared.script.OccupiedPage.{OccupiedPage}
use Rattle.script_spec.specs.declared.script.ScheduleLine.{ScheduleLine}
use Rattle.script_spec.specs.Validity.{is_within, is_valid_instr, is_valid_module, is_valid_page, is_valid_program}
use Rattle.script_spec.specs.Validity.{is_valid_line}
use Rattle.cyg_script.specs.declared.heading.Heading.{Heading}
use Rattle.cyg_script.specs.After.{IsSound}
use Rattle.cyg_script.specs.Headings.{is_valid_heading}
use Rattle.cyg_script.specs.Parts.{Parts}

pub all-push : {X : Type 0} (t : X → Bool) (xs : List X) (y : X) → list_all t xs ≡ true → t y ≡ true
    → list_all t (xs ++ y ∷ []) ≡ true
all-push t xs y h k =
    list_all-append t xs (y ∷ []) ∙ and_from (list_all t xs) (t y && true) h (and_from (t y) true k refl)

pub sound_last : (p : Parts) (o : Option Sort) → IsSound p → IsSound (record p { last = o })
sound_last p o s = record {
  modules = s.modules;
  pages = s.pages;
  programs = s.programs;
  heading = s.heading;
  code = s.code;
  lines = s.lines;
}

pub sound_slots : (p : Parts) (n : ℕ) (o : Option Sort) → p.schedule ≡ [] → IsSound p
    → IsSound (record p { slots = n; last = o })
sound_slots p n o e s = record {
  modules = s.modules;
  pages = s.pages;
  programs = s.programs;
  heading = s.heading;
  code = s.code;
  lines = rw e refl;
}

pub sound_rows : (p : Parts) (n : ℕ) (o : Option Sort) → IsSound p → IsSound (record p { rows = n; last = o })
sound_rows p n o s = record {
  modules = s.modules;
  pages = s.pages;
  programs = s.programs;
  heading = s.heading;
  code = s.code;
  lines = s.lines;
}

pub sound_budget : (p : Parts) (n : ℕ) (o : Option Sort) → IsSound p → IsSound (record p { budget = n; last = o })
sound_budget p n o s = record {
  modules = s.modules;
  pages = s.pages;
  programs = s.programs;
  heading = s.heading;
  code = s.code;
  lines = s.lines;
}

pub sound_module : (p : Parts) (m : Module) (ms : List Module) (o : Option Sort) → is_valid_module m ≡ true
    → ms ≡ p.modules ++ m ∷ [] → IsSound p → IsSound (record p { modules = ms; last = o })
sound_module p m ms o v f s = record {
  modules = rw f (all-push is_valid_module p.modules m s.modules v);
  pages = s.pages;
  programs = s.programs;
  heading = s.heading;
  code = s.code;
  lines = s.lines;
}

pub sound_page : (p : Parts) (x : OccupiedPage) (xs : List OccupiedPage) (o : Option Sort) → is_valid_page x ≡ true
    → xs ≡ p.pages ++ x ∷ [] → IsSound p → IsSound (record p { pages = xs; last = o })
sound_page p x xs o v f s = record {
  modules = s.modules;
  pages = rw f (all-push is_valid_page p.pages x s.pages v);
  programs = s.programs;
  heading = s.heading;
  code = s.code;
  lines = s.lines;
}

pub sound_heading : (p : Parts) (h : Heading) (o : Option Sort) → is_valid_heading h ≡ true → IsSound p
    → IsSound (record p { heading = Some h; last = o })
sound_heading p h o v s = record {
  modules = s.modules;
  pages = s.pages;
  programs = s.programs;
  heading = λ g e. let same : h ≡ g = same_Some h g e in ap is_valid_heading (sym same) ∙ v;
  code = s.code;
  lines = s.lines;
}

pub sound_instr : (p : Parts) (i : Instr) (is : List Instr) (ls : List ℕ) (o : Option Sort) → is_valid_instr i ≡ true
    → is ≡ p.code ++ i ∷ [] → IsSound p → IsSound (record p { code = is; code_lines = ls; last = o })
sound_instr p i is ls o v f s = record {
  modules = s.modules;
  pages = s.pages;
  programs = s.programs;
  heading = s.heading;
  code = rw f (all-push is_valid_instr p.code i s.code v);
  lines = s.lines;
}

pub sound_line : (p : Parts) (l : ScheduleLine) (ls : List ScheduleLine) (o : Option Sort)
    → is_valid_line p.slots l ≡ true → ls ≡ p.schedule ++ l ∷ [] → IsSound p
    → IsSound (record p { schedule = ls; last = o })
sound_line p l ls o v f s = record {
  modules = s.modules;
  pages = s.pages;
  programs = s.programs;
  heading = s.heading;
  code = s.code;
  lines = rw f (all-push (is_valid_line p.slots) p.schedule l s.lines v);
}

-- a program of a valid own line and valid instructions, none of which names a place past its end
pub valid_program : (q : Program) (h : Heading) (code : List Instr) → q.name ≡ h.name → q.heap ≡ h.heap
    → q.stack ≡ h.stack → q.code ≡ code → is_valid_heading h ≡ true → list_all is_valid_instr code ≡ true
    → are_targets_below (length code) code ≡ true → 1 ≤ length code → length code ≤ 4000 → is_valid_program q ≡ true
valid_program q h code name heap stack same v valid targets some few =
    let a = and_parts (is_name h.name && nat_le h.heap 32768) (is_within 64 32768 h.stack) v in
    let b = and_parts (is_name h.name) (nat_le h.heap 32768) a.0 in
    let long : is_within 1 4000 (length code) ≡ true =
    and_from (nat_le 1 (length code)) (nat_le (length code) 4000) (le-leb 1 (length code) some)
    (le-leb (length code) 4000 few) in
    rw (name, heap, stack, same, b.0, b.1, a.1, long, valid, targets) refl

pub sound_end : (p : Parts) (q : Program) (ps : List Program) (ls : List ℕ) → is_valid_program q ≡ true
    → ps ≡ p.programs ++ q ∷ [] → IsSound p
    → IsSound (record p { programs = ps; heading = None; code = []; code_lines = ls })
sound_end p q ps ls v f s = record {
  modules = s.modules;
  pages = s.pages;
  programs = rw f (all-push is_valid_program p.programs q s.programs v);
  heading = λ g e. absurd (let k : ◌≡◌ {A = Option Heading} None (Some g) = e in cc);
  code = refl;
  lines = s.lines;
}
