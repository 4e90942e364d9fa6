-- After a change that a process makes of itself, rows and images go on to show the POSIX state, where its record
-- changes only as its image and as what neither words nor memory show.
use Rattle.std.proofs.Common.{◌≡◌, ◌≢◌, inl, inr, ℕ, ◌+◌, ◌≤◌, true, false, nat_eq, Option, Some, None, IsSome}
use Rattle.std.proofs.Common.{MatchOption, length, refl, sym, ap, ◌∙◌, subst, arith}
use Rattle.std.proofs.lemmas.Bool.{cases_eq}
use Rattle.script_spec.specs.declared.script.Script.{Script}
use Rattle.vm_spec.specs.Image.{image_of}
use Rattle.win32_spec.specs.Lookup.{is_alive, process_of}
use Rattle.win32_spec.specs.LookupLaws.{same, differs}
use Rattle.win32_spec.specs.State.{Process, Win32State}
use Rattle.posix_spec.specs.Records.{settled, with_record}
use Rattle.posix_spec.specs.RecordLaws.{record_of-with_record}
use Rattle.posix_spec.specs.State.{Record, PosixState, record_of}
use Rattle.layer_spec.specs.Decodes.{Decodes, HoldsRecord, ShowsRecord, ShowsRow, AreBases, is_child_of}
use Rattle.layer_spec.specs.Decoding.{main_of, group_of, main_fields, main_by_kind, main_image, field}
use Rattle.layer_spec.specs.Inverse.{when_some}
use Rattle.layer_spec.specs.Rows.{RowKind, MainWord, kind_from, main_place, group_place}
use Rattle.layer_spec.specs.Rows.{is_process_kind, is_live_kind}
use Rattle.layer_spec.specs.Words.{main_at}
use Rattle.roster.specs.Words.{is_live_main, is_live_word}
use Rattle.world_spec.specs.DecodesLaws.{same_image}
use Rattle.world_spec.specs.OwnChanges.{KeepsOthers, IsOwnChange}
use Rattle.world_spec.specs.RowsBesideLaws.{IsOwnRow}

-- What an own event keeps of a record: all that the words of its row and its cygheap show.
pub record KeepsShownRecord (old new : Record) : Type 0 where
  pub parent : new.parent ≡ old.parent
  pub group : new.group ≡ old.group
  pub session : new.session ≡ old.session
  pub terminal : new.terminal ≡ old.terminal
  pub execd : new.execd ≡ old.execd
  pub life : new.life ≡ old.life
  pub report : new.report ≡ old.report
  pub pending : new.pending ≡ old.pending
  pub mask : new.mask ≡ old.mask
  pub saved : new.saved ≡ old.saved
  pub actions : new.actions ≡ old.actions

-- the image that a main word names
pub main_of-image : (x : ℕ) (m : MainWord) → main_of x ≡ Some m → m.image ≡ main_image x
main_of-image x m e = by_kind (kind_from (field x 50 3)) e
  where
    by_kind : (o : Option RowKind) → main_by_kind x o ≡ Some m → m.image ≡ main_image x
    by_kind None f = absurd (cc)
    by_kind (Some kind) f =
        let at = when_some _ (main_fields kind x) m f in ap (λ (y : MainWord). y.image) (sym at.1)

-- a row whose main word decodes is live by its kind
pub live_kind : (s : Win32State) (row : ℕ) (m : MainWord) → main_of (main_at s row) ≡ Some m
    → is_live_word (main_at s row) ≡ is_live_kind m.kind
live_kind s row m e = ap is_live_main e

-- what the own row shows of its process
pub own-shown : (script : Script) (s : Win32State) (p : PosixState) (row : ℕ) (old : Record)
    → record_of p (row + 1) ≡ Some old → (h : ShowsRow script (λ q. q.own) s p row)
    → ShowsRecord script (λ q. q.own) s p row h.main old
own-shown script s p row old found h =
    subst (λ o. MatchOption o (is_process_kind h.main.kind ≡ false)
    (λ r. ShowsRecord script (λ q. q.own) s p row h.main r)) found h.shown

-- The memory of a live process holds the record of its row.
pub own-holds : (script : Script) (s : Win32State) (p : PosixState) (w row : ℕ) (old : Record) (q : Process)
    → Decodes script s p → IsOwnRow s w row → record_of p (row + 1) ≡ Some old → process_of s.processes w ≡ Some q
    → is_alive q.life ≡ true → HoldsRecord script q.own q.placed p (row + 1) old
own-holds script s p w row old q decodes own found at alive =
    let h = decodes.rows row own.from in
    (own-shown script s p row old found h).held (sym (live_kind s row h.main h.decodes) ∙ own.live) q
    (ap (process_of s.processes) (main_of-image (main_at s row) h.main h.decodes ∙ own.image) ∙ at) alive

-- the record that was written
pub record_of-written : (p : PosixState) (n : ℕ) (changed : Record)
    → record_of (with_record p n changed) n ≡ Some (settled changed)
record_of-written p n changed = record_of-with_record p n changed n ∙ rw (same n n refl) refl

module _ (script : Script) (s new : Win32State) (p : PosixState) (w row : ℕ) (old changed : Record)
    (change : IsOwnChange w s new) (own : IsOwnRow s w row)
    (apart : (other : ℕ) → 1 ≤ other → is_live_word (main_at s other) ≡ true → main_image (main_at s other) ≡ w
    → other ≡ row)
    (found : record_of p (row + 1) ≡ Some old) (keeps : KeepsShownRecord old changed)
    (image : (q : Process) → process_of new.processes w ≡ Some q → is_alive q.life ≡ true
    → changed.image ≡ image_of q.own) where
  abbrev after : PosixState
  after = with_record p (row + 1) changed

  other_record : (n : ℕ) → n ≢ row + 1 → record_of after n ≡ record_of p n
  other_record n d = record_of-with_record p (row + 1) changed n ∙ rw (differs n (row + 1) d) refl

  children_same : (k n : ℕ) → is_child_of k (record_of after n) ≡ is_child_of k (record_of p n)
  children_same k n = elim (cases_eq n (row + 1)) [
    | inl e ↦
        ap (λ m. is_child_of k (record_of after m)) e
        ∙ (ap (is_child_of k) (record_of-written p (row + 1) changed) ∙ (ap (λ m. nat_eq m k) keeps.parent
        ∙ sym (ap (λ m. is_child_of k (record_of p m)) e ∙ ap (is_child_of k) found)))
    | inr d ↦ ap (is_child_of k) (other_record n d)
  ]

  -- memory that keeps its cygheap holds a record that keeps what is shown, where it has its image
  holds : (o q : Process) (n : ℕ) (r t : Record) → KeepsOthers o q → KeepsShownRecord r t → t.image ≡ image_of q.own
      → HoldsRecord script o.own o.placed p n r → HoldsRecord script q.own q.placed after n t
  holds o q n r t k kept has h = record {
    image = has;
    heap = h.heap;
    legal = h.legal;
    layout = k.cyg ∙ h.layout;
    mask = kept.mask ∙ h.mask;
    saved = kept.saved ∙ h.saved;
    actions = kept.actions ∙ h.actions;
    bases = subst (λ ms. AreBases (length script.setup.modules) ms h.heap.bases) (sym k.placed) h.bases;
    children = λ m. h.children m ∙ sym (children_same n m);
    once = h.once;
  }

  -- a record whose row keeps its words
  shows_record : (k : ℕ) (main : MainWord) (r t : Record) → KeepsShownRecord r t
      → (is_live_kind main.kind ≡ true → (q : Process) → process_of new.processes main.image ≡ Some q
      → is_alive q.life ≡ true → HoldsRecord script q.own q.placed after (k + 1) t)
      → ShowsRecord script (λ q. q.own) s p k main r → ShowsRecord script (λ q. q.own) new after k main t
  shows_record k main r t kept held h = record {
    life = h.life ∙ ap (λ l. Some l) (sym kept.life);
    report = kept.report ∙ h.report;
    execd = kept.execd ∙ h.execd;
    pending = λ live. kept.pending ∙ h.pending live;
    group_word = h.group_word;
    group_decodes = ap group_of (change.words (group_place k)) ∙ h.group_decodes;
    parent = kept.parent ∙ h.parent;
    group = kept.group ∙ h.group;
    session = kept.session ∙ h.session;
    terminal = kept.terminal ∙ h.terminal;
    held = held;
  }

  same_shown : (r : Record) → KeepsShownRecord r r
  same_shown r = record {
    parent = refl;
    group = refl;
    session = refl;
    terminal = refl;
    execd = refl;
    life = refl;
    report = refl;
    pending = refl;
    mask = refl;
    saved = refl;
    actions = refl;
  }

  settled_shown : KeepsShownRecord old (settled changed)
  settled_shown = record {
    parent = keeps.parent;
    group = keeps.group;
    session = keeps.session;
    terminal = keeps.terminal;
    execd = keeps.execd;
    life = keeps.life;
    report = keeps.report;
    pending = keeps.pending;
    mask = keeps.mask;
    saved = keeps.saved;
    actions = keeps.actions;
  }

  -- another row's image isn't process w
  other_image : (k : ℕ) → 1 ≤ k → k ≢ row → (h : ShowsRow script (λ q. q.own) s p k) → is_live_kind h.main.kind ≡ true
      → h.main.image ≢ w
  other_image k from d h live e = d (apart k from (live_kind s k h.main h.decodes ∙ live)
      (sym (main_of-image (main_at s k) h.main h.decodes) ∙ e))

  other_row : (k : ℕ) → 1 ≤ k → k ≢ row → ShowsRow script (λ q. q.own) s p k → ShowsRow script (λ q. q.own) new after k
  other_row k from d h = record {
    main = h.main;
    decodes = ap main_of (change.words (main_place k)) ∙ h.decodes;
    shown = subst (λ o. MatchOption o (is_process_kind h.main.kind ≡ false)
        (λ r. ShowsRecord script (λ q. q.own) new after k h.main r)) (sym (other_record (k + 1) (λ e. d (one k row e))))
        (by_record (record_of p (k + 1)) h.shown);
  }
    where
      one : (x y : ℕ) → x + 1 ≡ y + 1 → x ≡ y
      one x y e = omega arith

      by_record : (o : Option Record)
          → MatchOption o (is_process_kind h.main.kind ≡ false) (λ r. ShowsRecord script (λ q. q.own) s p k h.main r)
          → MatchOption o (is_process_kind h.main.kind ≡ false)
          (λ r. ShowsRecord script (λ q. q.own) new after k h.main r)
      by_record None m = m
      by_record (Some r) m = shows_record k h.main r r (same_shown r) (λ live q e alive.
          let was = change.processes h.main.image q e alive in
          let before = m.held live was.0 was.1 was.2 in
          holds was.0 q (k + 1) r r was.3.others (same_shown r)
          (before.image ∙ sym (same_image was.0.own q.own (was.3.image (other_image k from d h live)))) before) m

  this_row : ShowsRow script (λ q. q.own) s p row → ShowsRow script (λ q. q.own) new after row
  this_row h = record {
    main = h.main;
    decodes = ap main_of (change.words (main_place row)) ∙ h.decodes;
    shown = subst (λ o. MatchOption o (is_process_kind h.main.kind ≡ false)
        (λ r. ShowsRecord script (λ q. q.own) new after row h.main r)) (sym (record_of-written p (row + 1) changed))
        (let m = own-shown script s p row old found h in
        shows_record row h.main old (settled changed) settled_shown (λ live q e alive.
        let was = change.processes h.main.image q e alive in
        let names : h.main.image ≡ w = main_of-image (main_at s row) h.main h.decodes ∙ own.image in
        holds was.0 q (row + 1) old (settled changed) was.3.others settled_shown
        (image q (ap (process_of new.processes) (sym names) ∙ e) alive) (m.held live was.0 was.1 was.2)) m);
  }

  pub decodes-own : Decodes script s p → Decodes script new after
  decodes-own h = record {
    numbers = λ n is. elim (cases_eq n (row + 1)) [
      | inl e ↦ omega (arith, e, own.from)
      | inr d ↦ h.numbers n (subst (λ o. IsSome o) (other_record n d) is)
    ];
    rows = λ k from. elim (cases_eq k row) [
      | inl e ↦ subst (ShowsRow script (λ q. q.own) new after) (sym e) (this_row (h.rows row own.from))
      | inr d ↦ other_row k from d (h.rows k from)
    ];
    terminal = change.terminal ∙ h.terminal;
  }
