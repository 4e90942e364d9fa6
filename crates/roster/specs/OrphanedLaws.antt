-- The look for an orphaned group comes to its end.
use Rattle.std.specs.Prelude.{◌≡◌, ℕ, ◌+◌, ◌*◌, ◌<◌, ◌≤◌, true, false, ◌&&◌, nat_eq, Option, Some, None}
use Rattle.std.proofs.Common.{arith}
use Rattle.std.proofs.lemmas.Bool.{cond_both}
use Rattle.w32_base.specs.declared.call.Reply.{Reply}
use Rattle.layer_spec.specs.Rows.{GroupWord}
use Rattle.layer_spec.specs.Decoding.{group_of}
use Rattle.layer_spec.specs.Words.{row_of}
use Rattle.roster.specs.declared.scan.Scan.{Scan}
use Rattle.roster.specs.declared.scan.Scan.TheVariants as scan
use Rattle.roster.specs.declared.orphaned.Member.{Member}
use Rattle.roster.specs.declared.orphaned.Orphaned.{Orphaned}
use Rattle.roster.specs.declared.orphaned.Orphaned.TheVariants as orphaned
use Rattle.roster.specs.Turns.{quietly, Lowers, all_by_word}
use Rattle.roster.specs.Words.{is_live_word}
use Rattle.roster.specs.Scan.{scan_next, scan_after, scan_rank}
use Rattle.roster.specs.ScanLaws.{scan_falls}
use Rattle.roster.specs.Orphaned.{is_process_number, is_outside, orphaned_posted, orphaned_on, orphaned_found}
use Rattle.roster.specs.Orphaned.{orphaned_scanned, orphaned_grouped, orphaned_looked, orphaned_after, orphaned_rank}

on_rank : (group : ℕ) (x : Scan) → orphaned_rank (orphaned_on group x) ≤ 4 * scan_rank x + 1
on_rank group scan.Past = omega arith
on_rank group x = omega arith

found_rank : (group : ℕ) (o : Option GroupWord) (x : Scan)
    → orphaned_rank (orphaned_found group o x) ≤ 4 * scan_rank x + 3
found_rank group None x = omega (arith, on_rank group x)
found_rank group (Some g) x =
    cond_both (nat_eq g.group group && is_process_number g.parent)
    (orphaned.Grouping (record { group = group; session = g.session; parent = row_of g.parent; rest = x }))
    (orphaned_on group x) (λ o. orphaned_rank o ≤ 4 * scan_rank x + 3) (λ e. omega arith)
    (λ e. omega (arith, on_rank group x))

scanned_rank : (group : ℕ) (x : Scan) → orphaned_rank (orphaned_scanned group x) ≤ 4 * scan_rank (scan_next x) + 3
scanned_rank group (scan.Found row last w) = found_rank group (group_of w) (scan_next (scan.Found row last w))
scanned_rank group scan.Past = omega arith
scanned_rank group x = omega arith

grouped_rank : (m : Member) (w : ℕ) → orphaned_rank (orphaned_grouped m w) < 4 * scan_rank m.rest + 3
grouped_rank m w =
    cond_both (is_outside m.group m.session (group_of w)) (orphaned.Looking m) (orphaned_on m.group m.rest)
    (λ o. orphaned_rank o < 4 * scan_rank m.rest + 3) (λ e. omega arith) (λ e. omega (arith, on_rank m.group m.rest))

looked_rank : (m : Member) (w : ℕ) → orphaned_rank (orphaned_looked m w) < 4 * scan_rank m.rest + 2
looked_rank m w =
    cond_both (is_live_word w) (orphaned.Answered false) (orphaned_on m.group m.rest)
    (λ o. orphaned_rank o < 4 * scan_rank m.rest + 2) (λ e. omega arith) (λ e. omega (arith, on_rank m.group m.rest))

-- each turn lowers the rank
pub orphaned_lowers : (p : Orphaned) (r : Reply)
    → Lowers orphaned_rank orphaned_posted p r (quietly (orphaned_after p r))
orphaned_lowers (orphaned.Scanning group x) r =
    λ keeps. omega (arith, scanned_rank group (scan_after x r), scan_falls x r keeps)
orphaned_lowers (orphaned.Grouping m) r = λ _.
    all_by_word (λ o r. orphaned_rank o < 4 * scan_rank m.rest + 3) orphaned.Rest (orphaned_grouped m)
    (λ r. omega arith) (grouped_rank m) r
orphaned_lowers (orphaned.Looking m) r = λ _.
    all_by_word (λ o r. orphaned_rank o < 4 * scan_rank m.rest + 2) orphaned.Rest (orphaned_looked m)
    (λ r. omega arith) (looked_rank m) r
orphaned_lowers (orphaned.Answered is_orphaned) r = λ keeps. absurd (let never : true ≡ false = keeps in cc)
orphaned_lowers orphaned.Rest r = λ keeps. absurd (let never : true ≡ false = keeps in cc)
