-- The lines of the processes, group after group.
use Rattle.std.proofs.Common.{◌≡◌, ℕ, zero, suc, ◌+◌, ◌-◌, ◌<◌, ◌≤◌, List, [], ◌++◌, length, take, drop, get_or, sym}
use Rattle.std.proofs.Common.{◌∙◌, ap, refl, arith, append_assoc, append-nil, take-append-drop, add-one}
use Rattle.w32_base.specs.declared.entry.Entry.{Entry}
use Rattle.log_text.specs.Callers.{line_by, lines_by, groups_below, NoLinesFrom}
use Rattle.log_text.proofs.CallerLines.{entry_more, lines_by-append, lines_by-more, lines_by_is}

-- the lines of a process are those of the entries before one, its own, and those of the entries after it
pub lines_by-at : (p : ℕ) (entries : List Entry) (i : ℕ) (e : Entry) → i < length entries → e ≡ get_or entries i e
    → lines_by p entries ≡ lines_by p (take i entries) ++ (line_by p e.event ++ lines_by p (drop (i + 1) entries))
lines_by-at p entries i e h is =
    ap (lines_by p) (sym (take-append-drop (i + 1) entries))
    ∙ lines_by-append p (take (i + 1) entries) (drop (i + 1) entries)
    ∙ ap (λ (l : List ℕ). l ++ lines_by p (drop (i + 1) entries))
    (ap (lines_by p) (entry_more entries i e h is) ∙ lines_by-more p (take i entries) e)
    ∙ append_assoc (lines_by p (take i entries)) (line_by p e.event) (lines_by p (drop (i + 1) entries))

pub lines_by-next : (p : ℕ) (entries : List Entry) (i : ℕ) (e : Entry) → i < length entries → e ≡ get_or entries i e
    → lines_by p (take (i + 1) entries) ≡ lines_by p (take i entries) ++ line_by p e.event
lines_by-next p entries i e h is =
    ap (lines_by p) (entry_more entries i e h is) ∙ lines_by-more p (take i entries) e

pub groups-none : (entries : List Entry) → groups_below 0 entries ≡ []
unfolding groups_below
groups-none entries = refl

-- one process more
pub groups-more : (n : ℕ) (entries : List Entry)
    → groups_below (n + 1) entries ≡ groups_below n entries ++ lines_by n entries
unfolding groups_below
groups-more n entries =
    rw add-one (ap (λ (l : List ℕ). groups_below n entries ++ l) (sym (lines_by_is n entries)))

-- processes without lines add nothing
skipped : (n k : ℕ) (entries : List Entry) → NoLinesFrom n (n + k) entries
    → groups_below (n + k) entries ≡ groups_below n entries
skipped n zero entries none = let e : n + 0 ≡ n = omega arith in ap (λ (m : ℕ). groups_below m entries) e
skipped n (suc k) entries none =
    let e : n + suc k ≡ n + k + 1 = omega arith in
    ap (λ (m : ℕ). groups_below m entries) e ∙ groups-more (n + k) entries
    ∙ ap (λ (l : List ℕ). groups_below (n + k) entries ++ l) (none (n + k) (omega arith) (omega arith))
    ∙ append-nil (groups_below (n + k) entries) ∙ skipped n k entries (λ p low high. none p low (omega arith))

pub groups-skip : (n m : ℕ) (entries : List Entry) → n ≤ m → NoLinesFrom n m entries
    → groups_below m entries ≡ groups_below n entries
groups-skip n m entries h none =
    let e : n + (m - n) ≡ m = omega arith in
    ap (λ (j : ℕ). groups_below j entries) (sym e) ∙ skipped n (m - n) entries (λ p low high. none p low (omega arith))

-- the lines of the processes below a number come first
rest : (n k : ℕ) (entries : List Entry) → (zs : List ℕ) × (groups_below (n + k) entries ≡ groups_below n entries ++ zs)
rest n zero entries =
    let e : n + 0 ≡ n = omega arith in
    ([], ap (λ (m : ℕ). groups_below m entries) e ∙ sym (append-nil (groups_below n entries)))
rest n (suc k) entries =
    let e : n + suc k ≡ n + k + 1 = omega arith in
    let before : (zs : List ℕ) × (groups_below (n + k) entries ≡ groups_below n entries ++ zs) = rest n k entries in (
      before.0 ++ lines_by (n + k) entries,
      ap (λ (m : ℕ). groups_below m entries) e ∙ groups-more (n + k) entries
          ∙ ap (λ (l : List ℕ). l ++ lines_by (n + k) entries) before.1
          ∙ append_assoc (groups_below n entries) before.0 (lines_by (n + k) entries),
    )

pub groups-at : (n m : ℕ) (entries : List Entry) → n < m
    → (zs : List ℕ) × (groups_below m entries ≡ groups_below n entries ++ (lines_by n entries ++ zs))
groups-at n m entries h =
    let e : m ≡ n + 1 + (m - (n + 1)) = omega arith in
    let after : (zs : List ℕ) × (groups_below (n + 1 + (m - (n + 1))) entries ≡ groups_below (n + 1) entries ++ zs) =
    rest (n + 1) (m - (n + 1)) entries in (
      after.0,
      ap (λ (j : ℕ). groups_below j entries) e ∙ after.1 ∙ ap (λ (l : List ℕ). l ++ after.0) (groups-more n entries)
          ∙ append_assoc (groups_below n entries) (lines_by n entries) after.0,
    )
