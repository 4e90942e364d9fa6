-- Looking through the rows, by the holder of the roster mutex: the rows that are claimed, in rising order, and of each
-- that is a process its group word.
use Rattle.std.specs.Prelude.{ℕ, ◌+◌, ◌-◌, ◌*◌, nat_le, nat_lt, if◌then◌else◌, Option, Some, None, is_some}
use Rattle.w32_base.specs.declared.call.Call.{Call}
use Rattle.w32_base.specs.declared.call.Call.TheVariants as call
use Rattle.w32_base.specs.declared.call.Reply.{Reply}
use Rattle.layer_spec.specs.Rows.{GroupWord, main_place, group_place}
use Rattle.layer_spec.specs.Decoding.{group_of}
use Rattle.roster.specs.declared.scan.Scan.{Scan}
use Rattle.roster.specs.declared.scan.Scan.TheVariants as scan
use Rattle.roster.specs.Turns.{section_handle, rest_call, by_word}
use Rattle.roster.specs.Words.{is_process_word}

-- the call that each step posts
abbrev pub scan_posted : Scan → Call
scan_posted (scan.Counting rows) = call.Load section_handle 0
scan_posted (scan.Looking row last) = call.Load section_handle (main_place row)
scan_posted (scan.Grouping row last) = call.Load section_handle (group_place row)
scan_posted (scan.Found row last w) = rest_call
scan_posted scan.Past = rest_call
scan_posted scan.Rest = rest_call

-- the look through the rows from one on
abbrev pub scan_from : (row last : ℕ) → Scan
scan_from row last = if nat_le row last then scan.Looking row last else scan.Past

-- with the number of claims, of which not more than there are rows have one
abbrev pub scan_counted : ℕ → ℕ → Scan
scan_counted rows n = scan_from 1 (if nat_lt n rows then n else rows)

-- with the main word of a row
abbrev pub scan_looked : (row last : ℕ) → ℕ → Scan
scan_looked row last w = if is_process_word w then scan.Grouping row last else scan_from (row + 1) last

-- with the group word of a process, which tells its group
abbrev pub scan_grouped : (row last : ℕ) → ℕ → Scan
scan_grouped row last w = if is_some (group_of w) then scan.Found row last w else scan.Rest

-- where each step goes with a reply
abbrev pub scan_after : Scan → Reply → Scan
scan_after (scan.Counting rows) r = by_word scan.Rest (scan_counted rows) r
scan_after (scan.Looking row last) r = by_word scan.Rest (scan_looked row last) r
scan_after (scan.Grouping row last) r = by_word scan.Rest (scan_grouped row last) r
scan_after (scan.Found row last w) r = scan.Found row last w
scan_after scan.Past r = scan.Past
scan_after scan.Rest r = scan.Rest

-- after a process that was found, the rows from the next one on
abbrev pub scan_next : Scan → Scan
scan_next (scan.Found row last w) = scan_from (row + 1) last
scan_next (scan.Counting rows) = scan.Counting rows
scan_next (scan.Looking row last) = scan.Looking row last
scan_next (scan.Grouping row last) = scan.Grouping row last
scan_next scan.Past = scan.Past
scan_next scan.Rest = scan.Rest

-- how many turns are left at most: two for each row
abbrev pub scan_rank : Scan → ℕ
scan_rank (scan.Counting rows) = 2 * rows + 2
scan_rank (scan.Looking row last) = 2 * (last - row) + 3
scan_rank (scan.Grouping row last) = 2 * (last - row) + 2
scan_rank (scan.Found row last w) = 0
scan_rank scan.Past = 0
scan_rank scan.Rest = 1

-- the row of the process that was found, and what its group word tells
abbrev pub scan_row : Scan → Option ℕ
scan_row (scan.Found row last w) = Some row
scan_row (scan.Counting rows) = None
scan_row (scan.Looking row last) = None
scan_row (scan.Grouping row last) = None
scan_row scan.Past = None
scan_row scan.Rest = None

abbrev pub scan_answer : Scan → Option GroupWord
scan_answer (scan.Found row last w) = group_of w
scan_answer (scan.Counting rows) = None
scan_answer (scan.Looking row last) = None
scan_answer (scan.Grouping row last) = None
scan_answer scan.Past = None
scan_answer scan.Rest = None
