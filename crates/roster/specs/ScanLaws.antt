-- A look through the rows comes to its end.
use Rattle.std.specs.Prelude.{◌≡◌, ℕ, ◌+◌, ◌-◌, ◌*◌, ◌<◌, ◌≤◌, true, false, nat_le, nat_lt, if◌then◌else◌}
use Rattle.std.specs.Prelude.{None, is_some}
use Rattle.std.proofs.Common.{arith}
use Rattle.std.proofs.lemmas.Bool.{cond_both, leb-true, ltb-true}
use Rattle.w32_base.specs.declared.call.Reply.{Reply}
use Rattle.w32_base.specs.Part.{may_keep_rank}
use Rattle.layer_spec.specs.Decoding.{group_of}
use Rattle.roster.specs.declared.scan.Scan.{Scan}
use Rattle.roster.specs.declared.scan.Scan.TheVariants as scan
use Rattle.roster.specs.Turns.{quietly, Lowers, all_by_word}
use Rattle.roster.specs.Words.{is_process_word}
use Rattle.roster.specs.Scan.{scan_posted, scan_from, scan_counted, scan_looked, scan_grouped, scan_next, scan_after}
use Rattle.roster.specs.Scan.{scan_rank}

-- what is left from a row on, and from the first one on
from_rank : (row last : ℕ) → scan_rank (scan_next (scan_from (row + 1) last)) < 2 * (last - row) + 2
from_rank row last =
    cond_both (nat_le (row + 1) last) (scan.Looking (row + 1) last) scan.Past
    (λ x. scan_rank (scan_next x) < 2 * (last - row) + 2)
    (λ e. let below : row + 1 ≤ last = leb-true (row + 1) last e in omega arith) (λ e. omega arith)

first_rank : (rows last : ℕ) → last ≤ rows → scan_rank (scan_next (scan_from 1 last)) < 2 * rows + 2
first_rank rows last within =
    cond_both (nat_le 1 last) (scan.Looking 1 last) scan.Past (λ x. scan_rank (scan_next x) < 2 * rows + 2)
    (λ e. let some : 1 ≤ last = leb-true 1 last e in omega arith) (λ e. omega arith)

last_row : (rows n : ℕ) → (if nat_lt n rows then n else rows) ≤ rows
last_row rows n =
    cond_both (nat_lt n rows) n rows (λ x. x ≤ rows) (λ e. let below : n < rows = ltb-true n rows e in omega arith)
    (λ e. omega arith)

-- a look that goes on behind a row goes on from the next one
behind_rank : (row last : ℕ) → scan_rank (scan_from (row + 1) last) < 2 * (last - row) + 2
behind_rank row last =
    cond_both (nat_le (row + 1) last) (scan.Looking (row + 1) last) scan.Past (λ x. scan_rank x < 2 * (last - row) + 2)
    (λ e. let below : row + 1 ≤ last = leb-true (row + 1) last e in omega arith) (λ e. omega arith)

grouped_rank : (row last w : ℕ) → scan_rank (scan_next (scan_grouped row last w)) < 2 * (last - row) + 2
grouped_rank row last w =
    cond_both (is_some (group_of w)) (scan.Found row last w) scan.Rest
    (λ x. scan_rank (scan_next x) < 2 * (last - row) + 2) (λ e. behind_rank row last) (λ e. omega arith)

looked_rank : (row last w : ℕ) → scan_rank (scan_next (scan_looked row last w)) < 2 * (last - row) + 3
looked_rank row last w =
    cond_both (is_process_word w) (scan.Grouping row last) (scan_from (row + 1) last)
    (λ x. scan_rank (scan_next x) < 2 * (last - row) + 3) (λ e. omega arith) (λ e. omega (arith, from_rank row last))

-- each turn lowers the rank, that of the look behind a process which it finds too
pub scan_falls : (p : Scan) (r : Reply) → may_keep_rank (scan_posted p) r None ≡ false
    → scan_rank (scan_next (scan_after p r)) < scan_rank p
scan_falls (scan.Counting rows) r = λ _.
    all_by_word (λ x r. scan_rank (scan_next x) < 2 * rows + 2) scan.Rest (scan_counted rows) (λ r. omega arith)
    (λ n. first_rank rows (if nat_lt n rows then n else rows) (last_row rows n)) r
scan_falls (scan.Looking row last) r = λ _.
    all_by_word (λ x r. scan_rank (scan_next x) < 2 * (last - row) + 3) scan.Rest (scan_looked row last)
    (λ r. omega arith) (looked_rank row last) r
scan_falls (scan.Grouping row last) r = λ _.
    all_by_word (λ x r. scan_rank (scan_next x) < 2 * (last - row) + 2) scan.Rest (scan_grouped row last)
    (λ r. omega arith) (grouped_rank row last) r
scan_falls (scan.Found row last w) r = λ keeps. absurd (let never : true ≡ false = keeps in cc)
scan_falls scan.Past r = λ keeps. absurd (let never : true ≡ false = keeps in cc)
scan_falls scan.Rest r = λ keeps. absurd (let never : true ≡ false = keeps in cc)

next_rank : (p : Scan) → scan_rank p ≤ scan_rank (scan_next p)
next_rank (scan.Found row last w) = omega arith
next_rank (scan.Counting rows) = omega arith
next_rank (scan.Looking row last) = omega arith
next_rank (scan.Grouping row last) = omega arith
next_rank scan.Past = omega arith
next_rank scan.Rest = omega arith

pub scan_lowers : (p : Scan) (r : Reply) → Lowers scan_rank scan_posted p r (quietly (scan_after p r))
scan_lowers p r keeps = omega (arith, scan_falls p r keeps, next_rank (scan_after p r))
