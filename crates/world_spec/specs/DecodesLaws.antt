-- Rows and images go on to show the POSIX state where the words of the section, the terminal, and what the live
-- processes show of themselves stay.
use Rattle.std.proofs.Common.{◌≡◌, ℕ, ◌+◌, ◌≤◌, true, false, Option, Some, None, MatchOption, sym, ap, ◌∙◌}
use Rattle.std.proofs.Common.{subst}
use Rattle.w32_base.specs.Part.{KeepsImage}
use Rattle.w32_base.specs.declared.own.Own.{Own}
use Rattle.script_spec.specs.declared.script.Script.{Script}
use Rattle.vm_spec.specs.Image.{Image, image_of}
use Rattle.win32_spec.specs.State.{Process, Win32State}
use Rattle.win32_spec.specs.Lookup.{is_alive, process_of, terminal_in}
use Rattle.posix_spec.specs.State.{Record, PosixState, record_of}
use Rattle.layer_spec.specs.Decodes.{Decodes, HoldsRecord, ShowsRecord, ShowsRow}
use Rattle.layer_spec.specs.Rows.{MainWord, main_place, group_place, is_process_kind}
use Rattle.layer_spec.specs.Decoding.{main_of, group_of}
use Rattle.layer_spec.specs.Words.{word_in, main_at, group_at}

-- What a process shows of itself stays: its image, its cygheap and where its modules are.
pub record ShowsTheSame (p q : Process) : Type 0 where
  pub image : KeepsImage p.own q.own
  pub cyg : q.own.cyg ≡ p.own.cyg
  pub placed : q.placed ≡ p.placed

-- A process that is alive after a step was there before it, and shows the same.
abbrev pub WasTheSame : Win32State → Process → Process → ℕ → Type 0
WasTheSame s p q v = (process_of s.processes v ≡ Some p) × (is_alive p.life ≡ true) × ShowsTheSame p q

-- each process that is alive after a step was there and shows the same
abbrev pub AreShownTheSame : Win32State → Win32State → Type 0
AreShownTheSame s new = (v : ℕ) (q : Process) → process_of new.processes v ≡ Some q → is_alive q.life ≡ true
    → (p : Process) × WasTheSame s p q v

pub same_image : (p q : Own) → KeepsImage p q → image_of q ≡ image_of p
same_image p q k =
    ap (λ d. let i : Image = record { dat = d; heap = q.heap; stack = q.stack } in i) k.dat
    ∙ (ap (λ h. let i : Image = record { dat = p.dat; heap = h; stack = q.stack } in i) k.heap
    ∙ ap (λ x. let i : Image = record { dat = p.dat; heap = p.heap; stack = x } in i) k.stack)

holds_on : (script : Script) (o q : Process) (p : PosixState) (n : ℕ) (r : Record) → ShowsTheSame o q
    → HoldsRecord script o.own o.placed p n r → HoldsRecord script q.own q.placed p n r
holds_on script o q p n r k h =
    subst (λ ms. HoldsRecord script q.own ms p n r) (sym k.placed)
    (record {
      image = h.image ∙ sym (same_image o.own q.own k.image);
      heap = h.heap;
      legal = h.legal;
      layout = k.cyg ∙ h.layout;
      mask = h.mask;
      saved = h.saved;
      actions = h.actions;
      bases = h.bases;
      children = h.children;
      once = h.once;
    })

module _ (script : Script) (s new : Win32State) (p : PosixState) (stays : AreShownTheSame s new) where
  record_stays : (row : ℕ) (main : MainWord) (r : Record) → group_at new row ≡ group_at s row
      → ShowsRecord script (λ q. q.own) s p row main r → ShowsRecord script (λ q. q.own) new p row main r
  record_stays row main r same h = record {
    life = h.life;
    report = h.report;
    execd = h.execd;
    pending = h.pending;
    group_word = h.group_word;
    group_decodes = ap group_of same ∙ h.group_decodes;
    parent = h.parent;
    group = h.group;
    session = h.session;
    terminal = h.terminal;
    held = λ live q e alive.
        let was = stays main.image q e alive in
        holds_on script was.0 q p (row + 1) r was.1.2 (h.held live was.0 was.1.0 was.1.1);
  }

  -- a row whose main word and group word stay
  pub row-stays : (row : ℕ) → main_at new row ≡ main_at s row → group_at new row ≡ group_at s row
      → ShowsRow script (λ q. q.own) s p row → ShowsRow script (λ q. q.own) new p row
  row-stays row main group h = record {
    main = h.main;
    decodes = ap main_of main ∙ h.decodes;
    shown = by_record (record_of p (row + 1)) h.shown;
  }
    where
      by_record : (o : Option Record)
          → MatchOption o (is_process_kind h.main.kind ≡ false) (λ r. ShowsRecord script (λ q. q.own) s p row h.main r)
          → MatchOption o (is_process_kind h.main.kind ≡ false)
          (λ r. ShowsRecord script (λ q. q.own) new p row h.main r)
      by_record None m = m
      by_record (Some r) m = record_stays row h.main r group m

  -- where each row goes on to show its process, and the terminal stays, all goes on
  pub decodes-rows : terminal_in new.objects ≡ terminal_in s.objects
      → ((row : ℕ) → 1 ≤ row → ShowsRow script (λ q. q.own) new p row) → Decodes script s p → Decodes script new p
  decodes-rows terminal rows h = record { numbers = h.numbers; rows = rows; terminal = terminal ∙ h.terminal }

  -- so it does where no word changes
  pub decodes-stays : ((i : ℕ) → word_in new i ≡ word_in s i) → terminal_in new.objects ≡ terminal_in s.objects
      → Decodes script s p → Decodes script new p
  decodes-stays words terminal h =
      decodes-rows terminal
      (λ row from. row-stays row (words (main_place row)) (words (group_place row)) (h.rows row from)) h
